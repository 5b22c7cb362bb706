-- A store may be opened again on a disk on which a flush stopped, at whatever moment.
use Rattle.std.specs.Prelude.{◌≡◌, ◌≢◌, ◌≤◌, ◌<◌, ◌-◌, ℕ, ◌+◌, List, [], ◌∷◌, ◌++◌, drop, length, map, take, Option, None, Some, Ok, refl}
use Rattle.std.specs.FinMap.{get}
use Rattle.std.specs.Option.{option_map}
use Rattle.std.proofs.Common.{sym, ap, subst, ◌∙◌, append_assoc, arith, inl, inr, length-append, ⊎_elim}
use Rattle.std.proofs.lemmas.Bool.{cases_lt, true≢false}
use Rattle.std.proofs.lemmas.List.{drop-append-le, drop-drop, drop_all, drop_at, take-append-drop, take_at}
use Rattle.vl_disk.specs.Chance.{NoChanceOne, WasHandedOver, torn_from}
use Rattle.vl_disk.specs.Changes.{SameElsewhere, changed_there}
use Rattle.vl_disk.specs.Crash.{Image, WhileAppending, WhileSyncing, last_file}
use Rattle.vl_disk.specs.DiskState.{DiskState, File, IsLawful, appended, created, lengthened, settled}
use Rattle.vl_disk.specs.MadeFile.{WhileMaking, durable, empty, in_part, not_there}
use Rattle.vl_disk.specs.Name.{IsNumbered}
use Rattle.vl_disk.specs.Started.{IsRead, read_left}
use Rattle.vl_disk.specs.declared.name.Name.{Name}
use Rattle.vl_disk.specs.declared.name.Name.TheVariants.{Log, Manifest, Table}
use Rattle.vl_disk.specs.laws.Lawful.{appended_lawful, created_lawful, made_lawful}
use Rattle.vl_disk.specs.laws.NameMap.{same_or_other}
use Rattle.vl_engine_laws.specs.Held.{Base, Holds, HoldsBase, HoldsFiles, IsBase, frames_of, logs_from}
use Rattle.vl_engine_laws.specs.Pointed.{layout_logs}
use Rattle.vl_engine_laws.specs.Shown.{Shown}
use Rattle.vl_engine_laws.specs.laws.FlushBase.{before_then}
use Rattle.vl_engine_laws.specs.laws.FlushLaws.{CanFlush, WhileFlushing, base_beside, base_mid, base_then, bytes_of}
use Rattle.vl_engine_laws.specs.laws.FlushLaws.{edits_of, files_beside, files_mid, files_then, flush_holds, frame, mid}
use Rattle.vl_engine_laws.specs.laws.FlushLaws.{mid_settled, tables_apart, tidy_then}
use Rattle.vl_engine_laws.specs.laws.HeldLaws.{base_says, has_stays, held_opens_again, needed_shows}
use Rattle.vl_engine_laws.specs.laws.KeptLaws.{log_manifest, log_table, table_manifest}
use Rattle.vl_engine_laws.specs.laws.FileLaws.{named_among}
use Rattle.vl_engine_laws.specs.laws.SwitchLaws.{above_kept, piece, switched_base, switching_elsewhere, switching_says, switching_shows}
use Rattle.vl_frame.specs.Runs.{HasFrame, item_frame}
use Rattle.vl_frame.specs.laws.RunLaws.{frame_is_some}
use Rattle.vl_engine_model.specs.Rulings.Flush.{flushed}
use Rattle.vl_engine_model.specs.Sources.{numbers_of}
use Rattle.vl_engine_model.specs.Tidy.{IsTidy}
use Rattle.vl_engine_model.specs.declared.layout.Layout.{Layout}
use Rattle.vl_engine_model.specs.declared.segment.Segment.{Segment}
use Rattle.vl_engine_model.specs.declared.table.Table as laid
use Rattle.vl_manifest.specs.Current.{IsCurrent}
use Rattle.vl_manifest.specs.Grammar.{edits_grammar}
use Rattle.vl_manifest.specs.Manifest.{SaysState, manifest_bytes}
use Rattle.vl_manifest.specs.Switching.{WhileSwitching, switched}
use Rattle.vl_manifest.specs.declared.edit.Edit.{Edit}
use Rattle.vl_manifest.specs.declared.state.ManifestState.{ManifestState}
use Rattle.vl_model.specs.Formats.{manifest_format}
use Rattle.vl_model.specs.History.{History, last_number}
use Rattle.vl_recover.specs.crash.Alike.{IsLeft, Spells}
use Rattle.vl_recover.specs.crash.Held.{HoldsLogs, HoldsManifest, IsNowhere}
use Rattle.vl_recover.specs.crash.Starts.{AllMayStand, IsDurable, MayOpen, MayStand, OnlyIdleGone}
use Rattle.vl_recover.specs.laws.crash.OneName.{Making, done, making, torn, waits}
use Rattle.vl_recover.specs.laws.opening.HeldLaws.{held_state, only_idle_gone, settled_may_stand}
use Rattle.vl_recover.specs.laws.opening.IdleLaws.{gone_kept}
use Rattle.vl_recover.specs.laws.opening.LeadsLaws.{nowhere_kept}
use Rattle.vl_recover.specs.laws.opening.OpeningLaws.{IsOpened, one_heading, opened, single_opening, single_says, some_none, some_same}
use Rattle.vl_recover.specs.laws.repairing.StageLaws.{ok_same}
use Rattle.vl_recover.specs.opening.Opening.{Heading, IsAmong, IsNamed, Led, Opening, Opens, Refusal, Says, led_into}

-- ---- by what every read shows

settled_durable : (f : File) → f ≡ settled f.bytes → IsDurable f
settled_durable f is = (ap (λ (x : File). x.wholly_synced) is, ap (λ (x : File). x.lasting) is)

-- Where logs and the tables that are named are durable, and what is read shows some history, a store may be opened.
pub shown_may_open : (disk : DiskState) → AllMayStand disk
    → ((m : ℕ) (f : File) → get disk.standing (Log m) ≡ Some f → f ≡ settled f.bytes)
    → ((read : Image) (o : Opening) → IsRead read disk → Opens read (Ok o) → (n : ℕ) (f : File) → IsNamed o.state.levels n
    → get disk.standing (Table n) ≡ Some f → f ≡ settled f.bytes)
    → ((m : ℕ) → get disk.removed (Manifest m) ≢ None → (n : ℕ) × (m < n) × (get disk.standing (Manifest n) ≢ None))
    → ((read : Image) (o : Opening) → IsRead read disk → Opens read (Ok o) → OnlyIdleGone o.state.head disk)
    → ((read : Image) → IsRead read disk → (h : History) × (m : ℕ) × Shown read h m)
    → MayOpen disk
shown_may_open disk files logs_settled tables_settled manifests gone shown = record {
  files = files;
  manifests = manifests;
  as_read = λ read o is opens. record {
    logs = gone read o is opens;
    sealed = λ m k f from less there stands. settled_durable f (logs_settled m f stands);
    tables = λ n f named stands. settled_durable f (tables_settled read o is opens n f named stands);
    led = λ n f among stands. (
        let (h, m, shows) = shown read is in
        let one : shows.opening ≡ o = ok_same {E = Refusal} shows.opening o
        (single_opening read (Ok shows.opening) (Ok o) shows.opens opens) in
        let has = shows.led n (subst (λ (x : Opening). IsAmong (led_into x.levels) n) (sym one) among) in (
          settled_durable f (logs_settled n f stands),
          λ reading. has_stays read shows.sealed n has f.bytes reading
              (is.each (Log n) ∙ ap (option_map (λ (x : File). x.bytes)) stands),
        ));
  };
}

-- removed manifests are below one that stands and leads
pub below_lead : (n : ℕ) (disk : DiskState) → IsLawful disk → (f : File) → get disk.standing (Manifest n) ≡ Some f
    → ((m : ℕ) → n < m → IsNowhere disk (Manifest m))
    → (m : ℕ) → get disk.removed (Manifest m) ≢ None → (k : ℕ) × (m < k) × (get disk.standing (Manifest k) ≢ None)
below_lead n disk lawful f stands above m gone = (n, low, λ none. some_none f (sym stands ∙ none))
  where
    low : m < n
    low = ⊎_elim
        (λ (less : m < n). less)
        (λ (more : n ≤ m). absurd (gone (⊎_elim
        (λ (up : n < m). (above m up).never)
        (λ (at : m ≤ n). let same : m ≡ n = omega (arith, more, at) in
        lawful.apart (Manifest m) f (ap (λ (k : ℕ). get disk.standing (Manifest k)) same ∙ stands))
        (cases_lt n m))))
        (cases_lt m n)

-- what is read may be left
pub read_is_left : (read : Image) (disk : DiskState) → IsRead read disk → AllMayStand disk
    → ((name : Name) (f : File) → get disk.standing name ≡ Some f → NoChanceOne Spells name (Some f) (Some f.bytes))
    → IsLeft disk read
read_is_left read disk is files chance = record {
  left = read_left read disk is;
  no_chance = λ name. subst (NoChanceOne Spells name (last_file (get disk.standing name) (get disk.removed name))) (sym (is.each name))
      (by name (get disk.standing name) (get disk.removed name) (chance name));
}
  where
    by : (name : Name) (standing removed : Option File)
        → ((f : File) → standing ≡ Some f → NoChanceOne Spells name (Some f) (Some f.bytes))
        → NoChanceOne Spells name (last_file standing removed) (option_map (λ (f : File). f.bytes) standing)
    by name (Some f) removed each = each f refl
    by name None None each = tt
    by name None (Some f) each = tt

-- ---- a manifest that took some of a frame

-- what stands in first bytes of a piece stands in the piece
front_in : (taken at : ℕ) (all some rest : List ℕ) → drop at (take taken all) ≡ some ++ rest
    → 1 ≤ length some → take (length some) (drop at all) ≡ some
front_in taken at all some rest is long =
    ap (take (length some)) (ap (drop at) (sym (take-append-drop taken all))
    ∙ drop-append-le at (take taken all) (drop taken all) within
    ∙ ap (λ (b : List ℕ). b ++ drop taken all) is ∙ append_assoc some rest (drop taken all))
    ∙ take_at some (rest ++ drop taken all) (length some) refl
  where
    within : at ≤ length (take taken all)
    within = ⊎_elim
        (λ (less : length (take taken all) < at).
        let none : [] ≡ some ++ rest = sym (drop_all at (take taken all) (omega (arith, less))) ∙ is in
        absurd (omega (arith, ap length none, length-append some rest, long)))
        (λ (le : at ≤ length (take taken all)). le)
        (cases_lt (length (take taken all)) at)

module _ (n : ℕ) (whole : List ℕ) (edits : List Edit) (taken : ℕ) where
  -- the frame at the end of these bytes of the manifest
  abbrev more : List ℕ
  more = item_frame (edits_grammar manifest_format) n (length whole) edits

  abbrev part : File
  part = lengthened more taken (settled whole)

  handed : (at : ℕ) (some : List ℕ) → length whole ≤ at → Spells (Manifest n) (whole ++ take taken more) at some
      → WasHandedOver part at some
  handed at some from (item, rest, stands, is) =
      let spelled : drop at (whole ++ take taken more) ≡ some ++ rest =
      stands.spelled ∙ ap (λ (b : List ℕ). b ++ rest) (sym is) in
      let split : length whole + (at - length whole) ≡ at = omega (arith, from) in
      let behind : drop (at - length whole) (take taken more) ≡ some ++ rest =
      ap (drop (at - length whole)) (sym (drop_at whole (take taken more) (length whole) refl))
      ∙ drop-drop (at - length whole) (length whole) (whole ++ take taken more)
      ∙ ap (λ (k : ℕ). drop k (whole ++ take taken more)) split ∙ spelled in
      let long : 1 ≤ length some = omega (arith, frame_is_some (edits_grammar manifest_format) n at item, ap length is) in (
        0,
        record { place = length whole; bytes = more },
        omega arith,
        refl,
        record { from = from; bytes_are = front_in taken (at - length whole) more some rest behind long },
      )

  pub part_may_stand : MayStand (Manifest n) part
  part_may_stand = record {
    no_chance = λ right grows loose. record {
      first = λ some here. handed (torn_from part) some (omega arith) here;
      next = λ some later here next. handed (torn_from part + length some) later (omega arith) next;
    };
    headless = λ wrong. absurd wrong;
  }

-- ---- a switch

-- on a disk that holds the layout before it, and the files of the one behind it
module _ (b : Base) (edits : List Edit) (state : ManifestState) (before : List Segment) (h : History) (l next : Layout)
    (has : HasFrame (edits_grammar manifest_format) edits) (mid : DiskState) (holds : Holds b l mid)
    (base : IsBase b l h) (tidy : IsTidy (layout_logs l) l h)
    (base_next : IsBase (switched_base b edits state before) next h) (tidy_next : IsTidy (layout_logs next) next h)
    (files_next : HoldsFiles (switched_base b edits state before) next mid) where
  abbrev name : Name
  name = Manifest b.manifest.number

  abbrev fresh : List ℕ
  fresh = piece b edits state before base.numbered has mid holds.base

  module _ (taken : ℕ) (le : taken ≤ length (piece b edits state before base.numbered has mid holds.base)) where
    abbrev now : DiskState
    now = appended name fresh taken mid

    during : WhileSwitching b.manifest.number fresh mid now
    during = inl (inr (taken, le, refl))

    same : SameElsewhere name mid now
    same = switching_elsewhere b edits state before base.numbered has mid holds.base now during

    abbrev torn_file : File
    torn_file = part b.manifest.number (manifest_bytes b.manifest.number (frames_of b)) edits taken

    there : get now.standing name ≡ Some torn_file
    there = changed_there name mid (lengthened fresh taken) ∙ ap (option_map (lengthened fresh taken)) holds.base.has.durable

    torn_settled : (q : Name) (g : File) → q ≢ name → get now.standing q ≡ Some g → g ≡ settled g.bytes
    torn_settled q g apart stands = holds.durable q g (sym (same.standing q apart) ∙ stands)

    torn_all : AllMayStand now
    torn_all q g stands = ⊎_elim
        (λ (at : q ≡ name). subst (λ (x : Name). MayStand x g) (sym at)
        (subst (MayStand name) (some_same torn_file g (sym there ∙ ap (get now.standing) (sym at) ∙ stands))
        (part_may_stand b.manifest.number (manifest_bytes b.manifest.number (frames_of b)) edits taken)))
        (λ (apart : q ≢ name). subst (MayStand q) (sym (torn_settled q g apart stands)) (settled_may_stand q g.bytes))
        (same_or_other q name)

    torn_chance : (q : Name) (g : File) → get now.standing q ≡ Some g → NoChanceOne Spells q (Some g) (Some g.bytes)
    torn_chance q g stands = ⊎_elim
        (λ (at : q ≡ name). subst (λ (x : Name). NoChanceOne Spells x (Some g) (Some g.bytes)) (sym at)
        (subst (λ (x : File). NoChanceOne Spells name (Some x) (Some x.bytes))
        (some_same torn_file g (sym there ∙ ap (get now.standing) (sym at) ∙ stands))
        ((part_may_stand b.manifest.number (manifest_bytes b.manifest.number (frames_of b)) edits taken).no_chance (λ wrong. wrong))))
        (λ (apart : q ≢ name). subst (λ (x : File). NoChanceOne Spells q (Some x) (Some x.bytes))
        (sym (torn_settled q g apart stands)) (λ grows loose. absurd (true≢false loose)))
        (same_or_other q name)

    left_of : (read : Image) → IsRead read now → IsLeft now read
    left_of read is = read_is_left read now is torn_all torn_chance

    only_idle : (head : ℕ) (logs : List Segment) → HoldsLogs head logs mid → OnlyIdleGone head now
    only_idle head logs held = gone_kept head name mid now same (λ m from e. absurd (log_manifest m b.manifest.number e))
        (only_idle_gone head logs mid holds.lawful held)

    says_state : (read : Image) (o : Opening) → Opens read (Ok o)
        → (bytes : List ℕ) (s : ManifestState) → IsCurrent read b.manifest.number bytes → SaysState b.manifest.number bytes s
        → s ≡ o.state
    says_state read o opens bytes s current says = by (opened read o opens)
      where
        by : IsOpened read o → s ≡ o.state
        by is =
            let heading = one_heading read is.heading (Led b.manifest.number bytes) is.headed current in
            let says_o = subst (λ (x : Heading). Says x (Ok o.state)) heading is.says in
            ok_same {E = Refusal} s o.state
            (single_says (Led b.manifest.number bytes) (Ok s) (Ok o.state) (Ok s, says, refl) says_o)

    gone : (read : Image) (o : Opening) → IsRead read now → Opens read (Ok o) → OnlyIdleGone o.state.head now
    gone read o is opens =
        let (bytes, current, either) = switching_says b edits state before base.numbered has mid holds.base h l next base tidy
        holds.files base_next tidy_next files_next now during read (left_of read is) in
        ⊎_elim
        (λ (says : SaysState b.manifest.number bytes b.state).
        subst (λ (x : ManifestState). OnlyIdleGone x.head now) (says_state read o opens bytes b.state current says)
        (only_idle b.state.head (logs_from b l) holds.files.logs))
        (λ (says : SaysState b.manifest.number bytes state).
        subst (λ (x : ManifestState). OnlyIdleGone x.head now) (says_state read o opens bytes state current says)
        (only_idle state.head (before ++ next.active ∷ []) files_next.logs))
        either

    pub torn_opens_again : MayOpen now
    torn_opens_again = shown_may_open now torn_all
        (λ m g stands. torn_settled (Log m) g (log_manifest m b.manifest.number) stands)
        (λ read o is opens n g named stands. torn_settled (Table n) g (table_manifest n b.manifest.number) stands)
        (below_lead b.manifest.number now (appended_lawful mid holds.lawful name fresh taken) torn_file there
        (λ m less. nowhere_kept name mid now same (Manifest m)
        (above_kept b edits state before base.numbered has mid holds.base now same m less) (holds.base.above m less)))
        gone
        (λ read is. (
          h,
          last_number h,
          switching_shows b edits state before base.numbered has mid holds.base h l next base tidy holds.files base_next tidy_next
              files_next now during read (left_of read is),
        ))

  -- At each moment of a switch a store may be opened on the disk, if it stops there.
  pub switching_opens_again : Holds (switched_base b edits state before) next (switched b.manifest.number fresh mid)
      → (now : DiskState) → WhileSwitching b.manifest.number fresh mid now → MayOpen now
  switching_opens_again behind now during = ⊎_elim
      (λ (appending : WhileAppending name fresh mid now). ⊎_elim
      (λ (is : now ≡ mid). subst MayOpen (sym is) (held_opens_again b l h base mid tidy.levels holds))
      (λ (part : (taken : ℕ) × (taken ≤ length fresh) × (now ≡ appended name fresh taken mid)).
      subst MayOpen (sym part.2) (torn_opens_again part.0 part.1))
      appending)
      (λ (syncing : WhileSyncing name (appended name fresh (length fresh) mid) now). ⊎_elim
      (λ (is : now ≡ appended name fresh (length fresh) mid). subst MayOpen (sym is) (torn_opens_again (length fresh) (omega arith)))
      (λ (is : now ≡ switched b.manifest.number fresh mid). subst MayOpen (sym is)
      (held_opens_again (switched_base b edits state before) next h base_next (switched b.manifest.number fresh mid)
      tidy_next.levels behind))
      syncing)
      during

-- ---- a flush

pub table_may : (n : ℕ) (f : File) → MayStand (Table n) f
table_may n f = record { no_chance = λ right grows. absurd grows; headless = λ wrong. absurd wrong }

module _ (b : Base) (l : Layout) (h : History) (s : Segment) (disk : DiskState) (base : IsBase b l h)
    (tidy : IsTidy (layout_logs l) l h) (holds : Holds b l disk) (can : CanFlush b l s) where
  module _ (now : DiskState) (lawful : IsLawful now) (same : SameElsewhere (Table l.next_table) disk now) where
    base_now : HoldsBase b now
    base_now = base_beside b l h s disk base tidy holds can now same

    files_now : HoldsFiles b l now
    files_now = files_beside b l h s disk base tidy holds can now same

    others_settled : (q : Name) (g : File) → q ≢ Table l.next_table → get now.standing q ≡ Some g → g ≡ settled g.bytes
    others_settled q g apart stands = holds.durable q g (sym (same.standing q apart) ∙ stands)

    manifest_now : HoldsManifest b.state now
    manifest_now = record {
      number = b.manifest.number;
      bytes = manifest_bytes b.manifest.number (frames_of b);
      stands = base_now.has.durable;
      says = base_says b l h base now base_now;
      above = base_now.above;
    }

    state_now : (read : Image) (o : Opening) → IsRead read now → Opens read (Ok o) → o.state ≡ b.state
    state_now read o is opens = held_state b.state now manifest_now read o (read_left read now is) opens

    -- a table that is named isn't the one that is made
    named_settled : (n : ℕ) (g : File) → IsNamed (map numbers_of l.levels) n → get now.standing (Table n) ≡ Some g
        → g ≡ settled g.bytes
    named_settled n g named stands =
        let is = named_among (λ (t : laid.Table). Table t.number ≢ Table l.next_table) l.levels n
        (tables_apart b l h s disk base tidy holds can) named in
        others_settled (Table n) g (subst (λ (m : ℕ). Table m ≢ Table l.next_table) is.numbered is.is) stands

    table_opens_again : MayOpen now
    table_opens_again = shown_may_open now
        (λ q g stands. ⊎_elim
        (λ (at : q ≡ Table l.next_table). subst (λ (x : Name). MayStand x g) (sym at) (table_may l.next_table g))
        (λ (apart : q ≢ Table l.next_table). subst (MayStand q) (sym (others_settled q g apart stands)) (settled_may_stand q g.bytes))
        (same_or_other q (Table l.next_table)))
        (λ m g stands. others_settled (Log m) g (log_table m l.next_table) stands)
        (λ read o is opens n g named stands. named_settled n g (subst (λ (ns : List (List ℕ)). IsNamed ns n)
        (ap (λ (x : ManifestState). x.levels) (state_now read o is opens) ∙ base.levels) named) stands)
        (below_lead b.manifest.number now lawful (settled (manifest_bytes b.manifest.number (frames_of b)))
        base_now.has.durable base_now.above)
        (λ read o is opens. subst (λ (x : ManifestState). OnlyIdleGone x.head now) (sym (state_now read o is opens))
        (only_idle_gone b.state.head (logs_from b l) now lawful files_now.logs))
        (λ read is. (h, last_number h, needed_shows b l h base tidy now base_now files_now read (read_left read now is)))

  module _ (numbered : IsNumbered (Table l.next_table)) where
    lawful_now : (d : DiskState) → WhileMaking (Table l.next_table) (bytes_of l s) disk d → IsLawful d
    lawful_now d (not_there is) = subst IsLawful (sym is) holds.lawful
    lawful_now d (empty is) = subst IsLawful (sym is) (created_lawful disk holds.lawful (Table l.next_table) numbered)
    lawful_now d (in_part taken le is) = subst IsLawful (sym is)
        (appended_lawful (created (Table l.next_table) disk) (created_lawful disk holds.lawful (Table l.next_table) numbered)
        (Table l.next_table) (bytes_of l s) taken)
    lawful_now d (durable is) = subst IsLawful (sym is) (made_lawful disk holds.lawful (Table l.next_table) (bytes_of l s) numbered)

    pub making_opens_again : (now : DiskState) → WhileMaking (Table l.next_table) (bytes_of l s) disk now → MayOpen now
    making_opens_again now during = by (making (Table l.next_table) (bytes_of l s) disk now during)
      where
        by : Making (Table l.next_table) (bytes_of l s) disk now → MayOpen now
        by (waits is) = subst MayOpen (sym is) (held_opens_again b l h base disk tidy.levels holds)
        by (torn file _ stands same) = table_opens_again now (lawful_now now during) same
        by (done stands same) = table_opens_again now (lawful_now now during) same

    was_held : Holds b l (mid b l h s disk base tidy holds can)
    was_held = record {
      base = base_mid b l h s disk base tidy holds can;
      files = files_mid b l h s disk base tidy holds can;
      durable = mid_settled b l h s disk base tidy holds can;
      lawful = made_lawful disk holds.lawful (Table l.next_table) (bytes_of l s) numbered;
    }

    -- At each moment of a flush a store may be opened on the disk, if it stops there.
    pub flush_opens_again : (now : DiskState) → WhileFlushing b l h s disk base tidy holds can now → MayOpen now
    flush_opens_again now during = ⊎_elim
        (λ (table : WhileMaking (Table l.next_table) (bytes_of l s) disk now). making_opens_again now table)
        (λ (switching : WhileSwitching b.manifest.number (frame b l h s disk base tidy holds can)
        (mid b l h s disk base tidy holds can) now).
        switching_opens_again b (edits_of l s) can.state (before_then b.before) h l (flushed l s) can.frame
        (mid b l h s disk base tidy holds can) was_held base tidy (base_then b l h s disk base tidy holds can)
        (tidy_then b l h s disk base tidy holds can) (files_then b l h s disk base tidy holds can)
        (flush_holds b l h s disk base tidy holds can numbered) now switching)
        during
