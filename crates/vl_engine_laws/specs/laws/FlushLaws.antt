-- A flush: a table is made, and a switch names it. Whatever a crash leaves meanwhile shows the history, and then the disk holds
-- the layout that the ruling leaves.
use Rattle.std.specs.Prelude.{◌≡◌, ◌≢◌, ◌⊎◌, ◌<◌, ℕ, ◌+◌, ◌&&◌, not, nat_le, length, Bool, true, false, if◌then◌else◌}
use Rattle.std.specs.Prelude.{List, [], ◌∷◌, ◌++◌, map, Option, None, Some, refl, insert}
use Rattle.std.specs.FinMap.{get}
use Rattle.std.specs.List.{AllByRecursion, filter, flat_map}
use Rattle.std.specs.Option.{option_map}
use Rattle.std.proofs.Common.{sym, ap, subst, ◌∙◌, arith, ⊎_elim}
use Rattle.std.proofs.lemmas.Bool.Decides.{nat_tests}
use Rattle.vl_table.specs.body.Bytes.{IsTable, table_bytes}
use Rattle.vl_disk.specs.Changes.{SameElsewhere}
use Rattle.vl_disk.specs.Crash.{Image}
use Rattle.vl_disk.specs.DiskState.{DiskState, File, appended, settled}
use Rattle.vl_disk.specs.MadeFile.{WhileMaking, made}
use Rattle.vl_disk.specs.Name.{IsNumbered}
use Rattle.vl_disk.specs.declared.name.Name.{Name}
use Rattle.vl_disk.specs.declared.name.Name.TheVariants as names
use Rattle.vl_disk.specs.laws.Lawful.{appended_lawful, made_lawful, synced_lawful}
use Rattle.vl_disk.specs.laws.NameMap.{same_or_other}
use Rattle.vl_engine_laws.specs.Files.{HoldsLog, HoldsTable, IsLogFile, found_levels}
use Rattle.vl_engine_laws.specs.Held.{Base, Holds, HoldsBase, HoldsFiles, IsBase, frames_of}
use Rattle.vl_engine_laws.specs.Pointed.{IsFramedAmong, layout_logs}
use Rattle.vl_engine_laws.specs.Shown.{Shown}
use Rattle.vl_engine_laws.specs.laws.FileLaws.{all_each, all_filtered, all_front}
use Rattle.vl_engine_laws.specs.laws.FlushBase.{before_then, first_framed, first_number, flush_base, head_then, then_holds}
use Rattle.vl_engine_laws.specs.laws.FlushTidy.{flush_led, flush_tidy}
use Rattle.vl_engine_laws.specs.laws.HeldLaws.{needed_shows, sources_held}
use Rattle.vl_engine_laws.specs.laws.KeptLaws.{AreOtherTables, base_kept, files_kept, from_beside_table, log_table}
use Rattle.vl_engine_laws.specs.laws.KeptLaws.{logs_beside_table, manifests_beside_table, nothing_elsewhere, table_same}
use Rattle.vl_engine_laws.specs.laws.KeptLaws.{written_elsewhere}
use Rattle.vl_engine_laws.specs.laws.SwitchLaws.{switch_frame, switch_holds, switch_keeps, switched_base, switching_shows}
use Rattle.vl_frame.specs.Runs.{HasFrame}
use Rattle.vl_engine_model.specs.Levels.{in_front}
use Rattle.vl_engine_model.specs.Logs.{memtable}
use Rattle.vl_engine_model.specs.Ruling.{is_idle}
use Rattle.vl_engine_model.specs.Rulings.Flush.{covered_by, flushed, flushed_table}
use Rattle.vl_engine_model.specs.Sources.{but_oldest, head, numbers_of, oldest, tables}
use Rattle.vl_engine_model.specs.Start.{has_frames}
use Rattle.vl_engine_model.specs.Tidy.{IsTidy, sealed}
use Rattle.vl_engine_model.specs.declared.layout.Layout.{Layout}
use Rattle.vl_engine_model.specs.declared.segment.Segment.{Segment}
use Rattle.vl_engine_model.specs.declared.table.Table.{Table}
use Rattle.vl_engine_model_laws.specs.laws.TidyLogs.{frozen_split}
use Rattle.vl_manifest.specs.Grammar.{edits_grammar}
use Rattle.vl_manifest.specs.Levels.{all_tables, is_in, put_at}
use Rattle.vl_manifest.specs.Manifest.{manifest_bytes}
use Rattle.vl_manifest.specs.States.{all_applied, are_next, as_draft, finish, flush_edits, given_if, is_file_number}
use Rattle.vl_manifest.specs.States.{is_head, next_state, then_applied, with_levels}
use Rattle.vl_manifest.specs.Switching.{WhileSwitching, switched}
use Rattle.vl_manifest.specs.declared.edit.Edit.{Edit}
use Rattle.vl_manifest.specs.declared.edit.Edit.TheVariants.{Head, Next}
use Rattle.vl_manifest.specs.declared.state.ManifestState.{ManifestState}
use Rattle.vl_manifest.specs.declared.version_builder.VersionBuilder.{VersionBuilder}
use Rattle.vl_manifest.specs.laws.FlushLaws.{flushed_state}
use Rattle.vl_model.specs.Formats.{manifest_format, table_format}
use Rattle.vl_model.specs.History.{History, last_number}
use Rattle.vl_model.specs.Placement.{placed}
use Rattle.vl_recover.specs.crash.Alike.{IsLeft}
use Rattle.vl_recover.specs.crash.Held.{AllSettled, HoldsLogs}
use Rattle.vl_recover.specs.laws.crash.OneName.{Making, done, made_elsewhere, made_there, making, torn, waits}
use Rattle.vl_recover.specs.laws.opening.OpeningLaws.{some_none, some_same}
use Rattle.vl_recover.specs.opening.Opening.{IsAmong, led_into}

-- ---- what a flush's frame makes of a state

-- Where it makes a state at all, it is this one.
module _ (s : ManifestState) (newest : List ℕ) (deeper : List (List ℕ)) (table head_then covered log next : ℕ) (u : ManifestState)
    (are : s.levels ≡ newest ∷ deeper) where
  abbrev pub headed : VersionBuilder
  headed = record (with_levels (as_draft s) ((table ∷ newest) ∷ deeper)) { head = Some (head_then, covered) }

  put_front : put_at 0 0 table s.levels ≡ Some ((table ∷ newest) ∷ deeper)
  put_front =
      let fits : nat_le 0 (length newest) ≡ true = grind (arith, nat_tests) in
      ap (put_at 0 0 table) are
      ∙ ap (λ (b : Bool). option_map (λ put. put ∷ deeper) (if b then Some (insert newest 0 table) else None)) fits

  abbrev Makes : Option VersionBuilder → Type 0
  Makes d = finish d ≡ Some u → u ≡ flushed_state s table head_then covered log next newest deeper

  third : (b : Bool) → Makes (then_applied (all_applied []) (given_if b (record headed { next = Some (log, next) })))
  third true is = sym (some_same _ u is)
  third false is = absurd (some_none u (sym is))

  second : (b : Bool) → Makes (then_applied (all_applied (Next log next ∷ [])) (given_if b headed))
  second true is = third (are_next log next) is
  second false is = absurd (some_none u (sym is))

  first : (b : Bool) → Makes (then_applied (all_applied (Head head_then covered ∷ Next log next ∷ []))
      (if b then option_map (with_levels (as_draft s)) (put_at 0 0 table s.levels) else None))
  first true is = second (is_head head_then covered)
      (subst (λ (o : Option (List (List ℕ))). finish (then_applied (all_applied (Head head_then covered ∷ Next log next ∷ []))
      (option_map (with_levels (as_draft s)) o)) ≡ Some u) put_front is)
  first false is = absurd (some_none u (sym is))

  pub flush_made : next_state (flush_edits table head_then covered log next) s ≡ Some u
      → u ≡ flushed_state s table head_then covered log next newest deeper
  flush_made is = first (is_file_number table && not (is_in table (all_tables s.levels))) is

-- It makes the same of a state with another next table, since it says itself which number the next table gets.
module _ (s : ManifestState) (n head_then covered log next : ℕ) where
  abbrev other : ManifestState
  other = record s { next_table = n }

  abbrev last_edits : List Edit
  last_edits = Head head_then covered ∷ Next log next ∷ []

  -- behind the Add and the Head
  named : (levels : List (List ℕ)) (b : Bool)
      → finish (then_applied (all_applied (Next log next ∷ []))
      (given_if b (record (with_levels (as_draft other) levels) { head = Some (head_then, covered) })))
      ≡ finish (then_applied (all_applied (Next log next ∷ []))
      (given_if b (record (with_levels (as_draft s) levels) { head = Some (head_then, covered) })))
  named levels true = refl
  named levels false = refl

  -- behind the Add
  added : (put : Option (List (List ℕ))) → finish (then_applied (all_applied last_edits) (option_map (with_levels (as_draft other)) put))
      ≡ finish (then_applied (all_applied last_edits) (option_map (with_levels (as_draft s)) put))
  added None = refl
  added (Some levels) = named levels (is_head head_then covered)

  pub flush_either : (table : ℕ) → next_state (flush_edits table head_then covered log next) other
      ≡ next_state (flush_edits table head_then covered log next) s
  flush_either table = by (is_file_number table && not (is_in table (all_tables s.levels))) (put_at 0 0 table s.levels)
    where
      by : (b : Bool) (put : Option (List (List ℕ)))
          → finish (then_applied (all_applied last_edits) (if b then option_map (with_levels (as_draft other)) put else None))
          ≡ finish (then_applied (all_applied last_edits) (if b then option_map (with_levels (as_draft s)) put else None))
      by true put = added put
      by false put = refl

-- ---- a flush

-- the edits of its switch
abbrev pub edits_of : Layout → Segment → List Edit
edits_of l s = flush_edits l.next_table (head (flushed l s)) (flushed l s).covered l.next_log (l.next_table + 1)

-- the bytes of its table
abbrev pub bytes_of : Layout → Segment → List ℕ
bytes_of l s = table_bytes table_format l.next_table (map placed (memtable s))

-- What is asked of a flush of this log, as it is staged: its table can be spelled, and so can its frame, which makes a state.
pub record CanFlush (b : Base) (l : Layout) (s : Segment) : Type 0 where
  pub waits : oldest l.frozen ≡ Some s
  pub level : List Table
  pub deeper : List (List Table)
  pub are : l.levels ≡ level ∷ deeper
  pub table : IsTable table_format l.next_table (map placed (memtable s))
  pub frame : HasFrame (edits_grammar manifest_format) (edits_of l s)
  pub state : ManifestState
  pub makes : next_state (edits_of l s) b.state ≡ Some state

module _ (b : Base) (l : Layout) (h : History) (s : Segment) (disk : DiskState) (base : IsBase b l h)
    (tidy : IsTidy (layout_logs l) l h) (holds : Holds b l disk) (can : CanFlush b l s) where
  abbrev pub table_name : Name
  table_name = names.Table l.next_table

  -- the disk with the table
  abbrev pub mid : DiskState
  mid = made table_name (bytes_of l s) disk

  -- What the manifest says then is told by what it said.
  pub state_is : can.state ≡ flushed_state b.state l.next_table (head (flushed l s)) (flushed l s).covered l.next_log (l.next_table + 1)
      (numbers_of can.level) (map numbers_of can.deeper)
  state_is = flush_made b.state (numbers_of can.level) (map numbers_of can.deeper) l.next_table (head (flushed l s))
      (flushed l s).covered l.next_log (l.next_table + 1) can.state
      (base.levels ∙ ap (map numbers_of) can.are) can.makes

  -- ---- the log that is flushed

  frozen_held : AllByRecursion (HoldsLog disk) l.frozen
  frozen_held = all_front (HoldsLog disk) l.frozen l.flushed (sources_held b l h base disk holds.files).sealed

  first_held : HoldsLog disk s
  first_held = last_of (but_oldest l.frozen)
      (subst (AllByRecursion (HoldsLog disk)) (frozen_split l.frozen s can.waits) frozen_held)
    where
      last_of : (xs : List Segment) → AllByRecursion (HoldsLog disk) (xs ++ s ∷ []) → HoldsLog disk s
      last_of [] all = all.0
      last_of (x ∷ xs) all = last_of xs all.1

  active_file : IsLogFile l.active
  active_file = of b.before b.state.head holds.files.logs
    where
      of : (ss : List Segment) (least : ℕ) → HoldsLogs least (ss ++ l.active ∷ []) disk → IsLogFile l.active
      of [] least (from, between, readable, have, stands, rest) = record { readable = readable; have = have }
      of (x ∷ ss) least (from, between, readable, have, stands, rest) = of ss (x.number + 1) rest

  pub memtables : AllByRecursion IsLogFile (l.active ∷ l.frozen)
  memtables = (active_file, all_each (HoldsLog disk) IsLogFile l.frozen (λ x held. held.is) frozen_held)

  framed : has_frames s ≡ true
  framed = (subst (AllByRecursion (λ (x : Segment). has_frames x ≡ true)) was.1 (all_are b.before)).0
    where
      was : (rest : List Segment) × (filter has_frames b.before ≡ s ∷ rest)
      was = first_framed b l h s base can.waits

      all_are : (ss : List Segment) → AllByRecursion (λ (x : Segment). has_frames x ≡ true) (filter has_frames ss)
      all_are [] = tt
      all_are (x ∷ ss) = by (all_are ss) (has_frames x) refl
        where
          by : AllByRecursion (λ (y : Segment). has_frames y ≡ true) (filter has_frames ss) → (c : Bool) → has_frames x ≡ c
              → AllByRecursion (λ (y : Segment). has_frames y ≡ true) (if c then x ∷ filter has_frames ss else filter has_frames ss)
          by later true at = (at, later)
          by later false at = later

  -- ---- the layout behind it

  pub tidy_then : IsTidy (layout_logs (flushed l s)) (flushed l s) h
  tidy_then = flush_tidy l h s tidy can.waits can.level can.deeper can.are memtables first_held.is

  led_then : (n : ℕ) → IsAmong (led_into (found_levels (flushed l s).levels)) n → IsFramedAmong (sealed (flushed l s)) n
  led_then = flush_led l h s tidy can.waits can.level can.deeper can.are memtables first_held.is framed base.led

  abbrev pub later : Base
  later = switched_base b (edits_of l s) can.state (before_then b.before)

  -- Its base is the one behind the switch.
  pub base_then : IsBase later (flushed l s) h
  base_then = flush_base b l h s (edits_of l s) can.state base can.waits can.level can.deeper can.are can.makes
      (ap (λ (x : ManifestState). x.levels) state_is)
      (ap (λ (x : ManifestState). x.covered) state_is ∙ ap (covered_by s.frames) (sym base.covered))
      (ap (λ (x : ManifestState). x.keep) state_is) (ap (λ (x : ManifestState). x.since) state_is)
      (ap (λ (x : ManifestState). x.gone) state_is) led_then

  -- ---- the table is made

  pub tables_apart : AreOtherTables table_name (tables l)
  tables_apart = apart_from (tables l) tidy.files.stocked.tables_drawn
    where
      apart_from : (ts : List Table) → AllByRecursion (λ (t : Table). t.number < l.next_table) ts → AreOtherTables table_name ts
      apart_from [] drawn = tt
      apart_from (t ∷ ts) drawn = (
        λ e. (let less = drawn.0 in omega (arith, less, table_same t.number l.next_table e)),
        apart_from ts drawn.1,
      )

  pub base_beside : (now : DiskState) → SameElsewhere table_name disk now → HoldsBase b now
  base_beside now same = base_kept table_name disk now same b (manifests_beside_table b.manifest.number l.next_table) holds.base

  pub files_beside : (now : DiskState) → SameElsewhere table_name disk now → HoldsFiles b l now
  files_beside now same = files_kept table_name disk now same b l tables_apart (logs_beside_table l.next_table l.flushed)
      (from_beside_table b.state.head l.next_table) holds.files

  -- Whatever a crash leaves while it is made shows the history.
  pub making_shows : (now : DiskState) → WhileMaking table_name (bytes_of l s) disk now → (image : Image) → IsLeft now image
      → Shown image h (last_number h)
  making_shows now during image left =
      let same = elsewhere (making table_name (bytes_of l s) disk now during) in
      needed_shows b l h base tidy now (base_beside now same) (files_beside now same) image left.left
    where
      elsewhere : Making table_name (bytes_of l s) disk now → SameElsewhere table_name disk now
      elsewhere (waits is) = subst (SameElsewhere table_name disk) (sym is) (nothing_elsewhere table_name disk)
      elsewhere (torn file part stands same) = same
      elsewhere (done stands same) = same

  -- Then all files of the layout behind the flush stand too.
  pub base_mid : HoldsBase b mid
  base_mid = base_beside mid (made_elsewhere table_name (bytes_of l s) disk)

  pub files_mid : HoldsFiles b l mid
  files_mid = files_beside mid (made_elsewhere table_name (bytes_of l s) disk)

  pub files_then : HoldsFiles later (flushed l s) mid
  files_then = record {
    logs = subst (λ (n : ℕ). HoldsLogs n (before_then b.before ++ l.active ∷ []) mid)
        (head_is ∙ sym (ap (λ (x : ManifestState). x.head) state_is))
        (then_holds mid l.active b.before b.state.head files_mid.logs);
    tables = subst (λ (ls : List (List Table)). AllByRecursion (HoldsTable mid) (flat_levels (in_front (flushed_table l s) ls)))
        (sym can.are)
        (new_held, subst (λ (ls : List (List Table)). AllByRecursion (HoldsTable mid) (flat_levels ls)) can.are files_mid.tables);
    flushed = all_filtered (HoldsLog mid) (λ (x : Segment). not (is_idle unswitched x)) (s ∷ l.flushed) (first_mid, files_mid.flushed);
  }
    where
      flat_levels : List (List Table) → List Table
      flat_levels ls = flat_map (λ level. level) ls

      head_is : first_number (before_then b.before) l.active ≡ head (flushed l s)
      head_is = head_then b l h s base can.waits

      new_held : HoldsTable mid (flushed_table l s)
      new_held = record {
        is = record { laid = refl; first = omega arith; readable = omega arith; table = can.table };
        stands = made_there table_name (bytes_of l s) disk;
      }

      first_mid : HoldsLog mid s
      first_mid = record {
        is = first_held.is;
        stands = (made_elsewhere table_name (bytes_of l s) disk).standing (names.Log s.number) (log_table s.number l.next_table)
            ∙ first_held.stands;
      }

      unswitched : Layout
      unswitched = record l {
        frozen = but_oldest l.frozen;
        flushed = s ∷ l.flushed;
        levels = in_front (flushed_table l s) l.levels;
        covered = covered_by s.frames l.covered;
        next_table = l.next_table + 1;
        epoch = l.epoch + 1;
      }

  -- ---- and is named by the switch

  abbrev pub frame : List ℕ
  frame = switch_frame b (edits_of l s)

  -- what the disk may be while a flush is under way
  abbrev pub WhileFlushing : DiskState → Type 0
  WhileFlushing now = WhileMaking table_name (bytes_of l s) disk now ⊎ WhileSwitching b.manifest.number frame mid now

  -- Whatever a crash leaves meanwhile shows the history.
  pub flush_leaves : (now : DiskState) → WhileFlushing now → (image : Image) → IsLeft now image → Shown image h (last_number h)
  flush_leaves now during image left = ⊎_elim
      (λ (table : WhileMaking table_name (bytes_of l s) disk now). making_shows now table image left)
      (λ (switching : WhileSwitching b.manifest.number frame mid now).
      switching_shows b (edits_of l s) can.state (before_then b.before) base.numbered can.frame mid base_mid h l (flushed l s)
      base tidy files_mid base_then tidy_then files_then now switching image left)
      during

  pub mid_settled : AllSettled mid
  mid_settled q file stands = ⊎_elim
      (λ (same : q ≡ table_name).
      let is : settled (bytes_of l s) ≡ file = some_same (settled (bytes_of l s)) file
      (sym (made_there table_name (bytes_of l s) disk) ∙ ap (get mid.standing) (sym same) ∙ stands) in
      sym is ∙ ap (λ (x : File). settled x.bytes) is)
      (λ (apart : q ≢ table_name).
      holds.durable q file (sym ((made_elsewhere table_name (bytes_of l s) disk).standing q apart) ∙ stands))
      (same_or_other q table_name)

  -- ---- and then

  abbrev pub final : DiskState
  final = switched b.manifest.number frame mid

  pub final_settled : AllSettled final
  final_settled q file stands = ⊎_elim
      (λ (same : q ≡ names.Manifest b.manifest.number).
      let there = (switch_holds b (edits_of l s) can.state (before_then b.before) base.numbered can.frame mid base_mid).has.durable in
      let whole = manifest_bytes b.manifest.number (frames_of later) in
      let is : settled whole ≡ file = some_same (settled whole) file (sym there ∙ ap (get final.standing) (sym same) ∙ stands) in
      sym is ∙ ap (λ (x : File). settled x.bytes) is)
      (λ (apart : q ≢ names.Manifest b.manifest.number). mid_settled q file
      (sym ((written_elsewhere (names.Manifest b.manifest.number) frame mid).standing q apart) ∙ stands))
      (same_or_other q (names.Manifest b.manifest.number))

  -- The disk holds the layout that the ruling leaves, all of it durable.
  pub flush_holds : IsNumbered table_name → Holds later (flushed l s) final
  flush_holds numbered = record {
    base = switch_holds b (edits_of l s) can.state (before_then b.before) base.numbered can.frame mid base_mid;
    files = switch_keeps b (edits_of l s) can.state (before_then b.before) base.numbered can.frame mid base_mid later
        (flushed l s) files_then;
    durable = final_settled;
    lawful = synced_lawful (appended (names.Manifest b.manifest.number) frame (length frame) mid)
        (appended_lawful mid (made_lawful disk holds.lawful table_name (bytes_of l s) numbered) (names.Manifest b.manifest.number)
        frame (length frame)) (names.Manifest b.manifest.number);
  }
