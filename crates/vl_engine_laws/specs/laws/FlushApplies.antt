-- What a flush stages isn't refused: its table can be spelled, and its switch can be applied to what the manifest says.
use Rattle.std.specs.Prelude.{◌≡◌, ◌≤◌, ◌<◌, ◌^◌, ◌==◌, ◌||◌, ℕ, ◌+◌, ◌-◌, max, Bool, true, false, if◌then◌else◌}
use Rattle.std.specs.Prelude.{List, [], ◌∷◌, ◌++◌, map, Option, None, Some, refl}
use Rattle.std.specs.List.{AllByRecursion, filter, flat_map}
use Rattle.std.proofs.Common.{ap, subst, ◌∙◌, arith}
use Rattle.std.proofs.lemmas.Bool.Decides.{nat_tests}
use Rattle.vl_back.specs.Tables.{AreSpellable}
use Rattle.vl_disk.specs.DiskState.{DiskState, settled}
use Rattle.vl_disk.specs.Name.{IsNumbered}
use Rattle.vl_disk.specs.declared.name.Name.TheVariants as names
use Rattle.vl_engine_laws.specs.Files.{HoldsLog}
use Rattle.vl_engine_laws.specs.Held.{Base, Holds, IsBase, frames_of}
use Rattle.vl_engine_laws.specs.Pointed.{bytes_of_log, layout_logs}
use Rattle.vl_engine_laws.specs.laws.FileLaws.{all_front}
use Rattle.vl_engine_laws.specs.laws.FlushBase.{first_framed}
use Rattle.vl_engine_laws.specs.laws.FlushLaws.{edits_of}
use Rattle.vl_engine_laws.specs.laws.HeldLaws.{base_says, sources_held}
use Rattle.vl_engine_laws.specs.laws.MemtableSpelled.{memtable_spelled}
use Rattle.vl_frame.specs.Runs.{HasFrame}
use Rattle.vl_engine_model.specs.Logs.{memtable}
use Rattle.vl_engine_model.specs.Rulings.Flush.{covered_by, flushed}
use Rattle.vl_engine_model.specs.Sources.{but_oldest, head, number_or, numbers_of, oldest}
use Rattle.vl_engine_model.specs.Start.{has_frames}
use Rattle.vl_engine_model.specs.Tidy.{IsTidy}
use Rattle.vl_engine_model.specs.TidyLevels.{AreLevels}
use Rattle.vl_engine_model.specs.declared.layout.Layout.{Layout}
use Rattle.vl_engine_model.specs.declared.segment.Segment.{Segment}
use Rattle.vl_engine_model.specs.declared.table.Table.{Table}
use Rattle.vl_manifest.specs.Levels.{all_tables, is_in}
use Rattle.vl_manifest.specs.Manifest.{manifest_bytes}
use Rattle.vl_manifest.specs.States.{are_next, is_file_number, is_head, next_state}
use Rattle.vl_manifest.specs.declared.state.ManifestState.{ManifestState}
use Rattle.vl_manifest.specs.laws.FlushLaws.{flush_says}
use Rattle.vl_manifest.specs.laws.ManifestLaws.{says_in_range}
use Rattle.vl_manifest.specs.laws.StateLaws.{IsInRange}
use Rattle.vl_model.specs.History.{History}
use Rattle.vl_model.specs.Limits.{max_commit_number, max_file_number}
use Rattle.vl_model.specs.Placement.{placed}
use Rattle.vl_model.specs.declared.log_frame.LogFrame.TheVariants.{Committed, Relocated}
use Rattle.vl_model.specs.declared.log_frame.LogFrame.{LogFrame}
use Rattle.vl_recover.specs.crash.Held.{HoldsLogs}
use Rattle.vl_seglog.specs.Frames.{frames_grammar}

-- ---- a number that no table has

none_in : (n : ℕ) (ms : List ℕ) → AllByRecursion (λ (m : ℕ). m < n) ms → is_in n ms ≡ false
none_in n [] less = refl
none_in n (m ∷ ms) less =
    let here = less.0 in
    let apart : (m == n) ≡ false = grind (arith, nat_tests, here) in
    ap (λ (b : Bool). b || is_in n ms) apart ∙ none_in n ms less.1

numbers_less : (n : ℕ) (ts : List Table) → AllByRecursion (λ (t : Table). t.number < n) ts
    → AllByRecursion (λ (m : ℕ). m < n) (numbers_of ts)
numbers_less n [] less = tt
numbers_less n (t ∷ ts) less = (less.0, numbers_less n ts less.1)

both_less : (n : ℕ) (ms ns : List ℕ) → AllByRecursion (λ (m : ℕ). m < n) ms → AllByRecursion (λ (m : ℕ). m < n) ns
    → AllByRecursion (λ (m : ℕ). m < n) (ms ++ ns)
both_less n [] ns first second = second
both_less n (m ∷ ms) ns first second = (first.0, both_less n ms ns first.1 second)

parts_less : (n : ℕ) (ts us : List Table) → AllByRecursion (λ (t : Table). t.number < n) (ts ++ us)
    → AllByRecursion (λ (t : Table). t.number < n) ts × AllByRecursion (λ (t : Table). t.number < n) us
parts_less n [] us all = (tt, all)
parts_less n (t ∷ ts) us all = let rest = parts_less n ts us all.1 in ((all.0, rest.0), rest.1)

levels_less : (n : ℕ) (levels : List (List Table)) → AllByRecursion (λ (t : Table). t.number < n) (flat_map (λ ts. ts) levels)
    → AllByRecursion (λ (m : ℕ). m < n) (all_tables (map numbers_of levels))
levels_less n [] all = tt
levels_less n (ts ∷ levels) all =
    let parts = parts_less n ts (flat_map (λ us. us) levels) all in
    both_less n (numbers_of ts) (all_tables (map numbers_of levels)) (numbers_less n ts parts.0) (levels_less n levels parts.1)

-- ---- the last commit of some frames

covered_fits : (format : ℕ) (fs : List LogFrame) (n : ℕ) → AllByRecursion (HasFrame (frames_grammar format)) fs
    → n ≤ max_commit_number → covered_by fs n ≤ max_commit_number
covered_fits format [] n have fits = fits
covered_fits format (Committed number writes ∷ fs) n have fits =
    let last = have.0.lawful.last in
    covered_fits format fs (max n number) have.1 (omega (arith, last, fits))
covered_fits format (Relocated records ∷ fs) n have fits = covered_fits format fs n have.1 fits

-- ---- the log that comes first then

oldest_all : (P : Segment → Type 0) (ss : List Segment) (s : Segment) → AllByRecursion P ss → oldest ss ≡ Some s → P s
oldest_all P [] s all is = absurd cc
oldest_all P (x ∷ []) s all is = subst P (one x s is) all.0
  where
    one : (a b : Segment) → Some a ≡ Some b → a ≡ b
    one a b e = cc
oldest_all P (x ∷ y ∷ ss) s all is = oldest_all P (y ∷ ss) s all.1 is

but_oldest_all : (P : Segment → Type 0) (ss : List Segment) → AllByRecursion P ss → AllByRecursion P (but_oldest ss)
but_oldest_all P [] all = tt
but_oldest_all P (x ∷ []) all = tt
but_oldest_all P (x ∷ y ∷ ss) all = (all.0, but_oldest_all P (y ∷ ss) all.1)

record HasLevel (levels : List (List Table)) : Type 0 where
  level : List Table
  deeper : List (List Table)
  are : levels ≡ level ∷ deeper

has_level : (levels : List (List Table)) → AreLevels levels → HasLevel levels
has_level [] are = absurd (let seven = are.seven in omega (arith, seven))
has_level (level ∷ deeper) are = record { level = level; deeper = deeper; are = refl }

module _ (b : Base) (l : Layout) (h : History) (s : Segment) (disk : DiskState) (base : IsBase b l h)
    (tidy : IsTidy (layout_logs l) l h) (holds : Holds b l disk) (first : oldest l.frozen ≡ Some s) where
  frozen_held : AllByRecursion (HoldsLog disk) l.frozen
  frozen_held = all_front (HoldsLog disk) l.frozen l.flushed (sources_held b l h base disk holds.files).sealed

  -- The table of the oldest memtable can be spelled.
  pub flush_spells : AreSpellable (map placed (memtable s))
  flush_spells = memtable_spelled s (oldest_all (HoldsLog disk) l.frozen s frozen_held first).is framed
    where
      was : (rest : List Segment) × (filter has_frames b.before ≡ s ∷ rest)
      was = first_framed b l h s base first

      all_are : (ss : List Segment) → AllByRecursion (λ (x : Segment). has_frames x ≡ true) (filter has_frames ss)
      all_are [] = tt
      all_are (x ∷ ss) = by (all_are ss) (has_frames x) refl
        where
          by : AllByRecursion (λ (y : Segment). has_frames y ≡ true) (filter has_frames ss) → (c : Bool) → has_frames x ≡ c
              → AllByRecursion (λ (y : Segment). has_frames y ≡ true) (if c then x ∷ filter has_frames ss else filter has_frames ss)
          by later true at = (at, later)
          by later false at = later

      framed : has_frames s ≡ true
      framed = (subst (AllByRecursion (λ (x : Segment). has_frames x ≡ true)) was.1 (all_are b.before)).0

  in_range : IsInRange b.state
  in_range = says_in_range b.manifest.number (manifest_bytes b.manifest.number (frames_of b)) b.state
      (base_says b l h base disk holds.base)

  -- ---- its head

  held_numbered : (x : Segment) → HoldsLog disk x → IsNumbered (names.Log x.number)
  held_numbered x held = holds.lawful.numbered (names.Log x.number) (settled (bytes_of_log x)) held.stands

  active_numbered : IsNumbered (names.Log l.active.number)
  active_numbered = of b.before b.state.head holds.files.logs
    where
      of : (ss : List Segment) (least : ℕ) → HoldsLogs least (ss ++ l.active ∷ []) disk → IsNumbered (names.Log l.active.number)
      of [] least (from, between, readable, have, stands, rest) =
          holds.lawful.numbered (names.Log l.active.number) (settled (bytes_of_log l.active)) stands
      of (x ∷ ss) least (from, between, readable, have, stands, rest) = of ss (x.number + 1) rest

  head_numbered : IsNumbered (names.Log (head (flushed l s)))
  head_numbered = by (oldest (but_oldest l.frozen)) refl
    where
      by : (o : Option Segment) → oldest (but_oldest l.frozen) ≡ o → IsNumbered (names.Log (number_or l.active o))
      by None is = active_numbered
      by (Some x) is = held_numbered x
          (oldest_all (HoldsLog disk) (but_oldest l.frozen) x (but_oldest_all (HoldsLog disk) l.frozen frozen_held) is)

  covered_then : (flushed l s).covered ≤ max_commit_number
  covered_then = covered_fits s.format s.frames l.covered (oldest_all (HoldsLog disk) l.frozen s frozen_held first).is.have
      (subst (λ (n : ℕ). n ≤ max_commit_number) base.covered in_range.covered)

  head_fits : is_head (head (flushed l s)) (flushed l s).covered ≡ true
  head_fits =
      let low = head_numbered.0 in
      let high = head_numbered.1 in
      let covered = covered_then in
      by (head (flushed l s)) (flushed l s).covered low high covered
    where
      by : (n m : ℕ) → 1 ≤ n → n ≤ 2 ^ 32 - 2 → m ≤ max_commit_number → is_head n m ≡ true
      by n m low high covered = grind (arith, nat_tests, low, high, covered)

  -- ---- its table

  module _ (next_table : b.state.next_table ≤ l.next_table) (table_fits : l.next_table ≤ max_file_number)
      (log_first : 1 ≤ l.next_log) (log_fits : l.next_log < 2 ^ 32) where
    table_number : is_file_number l.next_table ≡ true
    table_number =
        let first = in_range.table_first in
        by l.next_table (omega (arith, first, next_table)) table_fits
      where
        by : (n : ℕ) → 1 ≤ n → n ≤ max_file_number → is_file_number n ≡ true
        by n low high = grind (arith, nat_tests, low, high)

    next_fits : are_next l.next_log (l.next_table + 1) ≡ true
    next_fits = by l.next_log l.next_table log_first log_fits table_fits
      where
        by : (n m : ℕ) → 1 ≤ n → n < 2 ^ 32 → m ≤ max_file_number → are_next n (m + 1) ≡ true
        by n m low less high = grind (arith, nat_tests, low, less, high)

    table_new : is_in l.next_table (all_tables b.state.levels) ≡ false
    table_new = ap (λ (ls : List (List ℕ)). is_in l.next_table (all_tables ls)) base.levels
        ∙ none_in l.next_table (all_tables (map numbers_of l.levels))
        (levels_less l.next_table l.levels tidy.files.stocked.tables_drawn)

    -- Its switch makes a state.
    pub flush_applies : (state : ManifestState) × (next_state (edits_of l s) b.state ≡ Some state)
    flush_applies =
        let has = has_level l.levels tidy.levels in (
          _,
          flush_says b.state (numbers_of has.level) (map numbers_of has.deeper) l.next_table (head (flushed l s))
              (flushed l s).covered l.next_log (l.next_table + 1) (base.levels ∙ ap (map numbers_of) has.are)
              table_number table_new head_fits next_fits,
        )
