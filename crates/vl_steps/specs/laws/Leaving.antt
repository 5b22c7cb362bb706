-- What numbers a manifest gives behind a step on files, and what a crash leaves of it where the step failed.
use Rattle.std.specs.Prelude.{◌≡◌, ◌⊎◌, ◌≤◌, ◌<◌, ◌+◌, ℕ, Bool, true, false, ◌&&◌, not, if◌then◌else◌, List, [], ◌∷◌}
use Rattle.std.specs.Prelude.{Option, None, Some, Ok, Result, Err, refl}
use Rattle.std.specs.List.{AllByRecursion}
use Rattle.std.specs.Option.{option_map}
use Rattle.std.proofs.Common.{sym, ap, subst, ◌∙◌, arith, inl, inr, ⊎_elim}
use Rattle.vl_back.specs.Deciding as deciding
use Rattle.vl_back.specs.Deciding.{flush_decision}
use Rattle.vl_back.specs.FlushEdits.{flush_switch, head_of, switch_of}
use Rattle.vl_back.specs.declared.back.Back.{Back}
use Rattle.vl_back.specs.declared.decision.Decision.TheVariants.{Go}
use Rattle.vl_disk.specs.Crash.{Image}
use Rattle.vl_disk.specs.Changes.{SameElsewhere}
use Rattle.vl_disk.specs.DiskState.{DiskState}
use Rattle.vl_disk.specs.MadeFile.{WhileMaking}
use Rattle.vl_disk.specs.declared.name.Name.{Name}
use Rattle.vl_disk.specs.declared.watched.Watched.{Ghosts}
use Rattle.vl_steps.specs.Flushing.{FlushesAs}
use Rattle.vl_engine_laws.specs.Held.{Base, Holds, HoldsBase, IsBase, frames_of}
use Rattle.vl_engine_laws.specs.Pointed.{layout_logs}
use Rattle.vl_engine_laws.specs.Represents.{IsBack}
use Rattle.vl_steps.specs.Rotating.{RotatesAs}
use Rattle.vl_steps.specs.Stepping.{StepFailed}
use Rattle.vl_steps.specs.declared.fails.StepFail.{StepFail}
use Rattle.vl_steps.specs.declared.fails.StepFail.TheVariants as fails
use Rattle.vl_engine_laws.specs.declared.kept.Core.{Core}
use Rattle.vl_engine_laws.specs.laws.FlushLaws.{flush_made}
use Rattle.vl_engine_laws.specs.laws.HeldLaws.{base_says}
use Rattle.vl_engine_laws.specs.laws.KeptLaws.{nothing_elsewhere}
use Rattle.vl_engine_model.specs.Sources.{number_or, oldest}
use Rattle.vl_engine_model.specs.Tidy.{IsTidy}
use Rattle.vl_engine_model.specs.declared.layout.Layout.{Layout}
use Rattle.vl_engine_model.specs.declared.segment.Segment.{Segment}
use Rattle.vl_manifest.specs.Levels.{all_tables, is_in, put_at}
use Rattle.vl_manifest.specs.Current.{IsCurrent}
use Rattle.vl_manifest.specs.Manifest.{SaysState, manifest_bytes}
use Rattle.vl_manifest.specs.States.{all_applied, as_draft, finish, flush_edits, is_file_number, next_state, then_applied, with_levels}
use Rattle.vl_manifest.specs.declared.edit.Edit.TheVariants.{Head, Next}
use Rattle.vl_manifest.specs.declared.state.ManifestState.{ManifestState}
use Rattle.vl_manifest.specs.declared.waiting.Waiting.{Waiting}
use Rattle.vl_model.specs.History.{History}
use Rattle.vl_recover.specs.crash.Held.{HoldsManifest}
use Rattle.vl_recover.specs.laws.crash.AppendLaws.{last_held}
use Rattle.vl_recover.specs.laws.crash.OneName.{Making, done, making, torn}
use Rattle.vl_recover.specs.laws.crash.OneName.{waits as not_begun}
use Rattle.vl_recover.specs.laws.opening.OpeningLaws.{IsOpened, one_heading, opened, single_says, some_none}
use Rattle.vl_recover.specs.laws.repairing.StageLaws.{ok_same}
use Rattle.vl_recover.specs.opening.Opening.{Heading, Led, Opening, Opens, Refusal, Says}

-- ---- in memory

-- what the last two edits of a flush's frame make of these levels
abbrev behind : ManifestState → (head covered log next : ℕ) → Option (List (List ℕ)) → Option ManifestState
behind s head covered log next o =
    finish (then_applied (all_applied (Head head covered ∷ Next log next ∷ [])) (option_map (with_levels (as_draft s)) o))

-- a flush's frame gives the next log the number that it names
flush_gives : (s u : ManifestState) (table head covered log next : ℕ) → next_state (flush_edits table head covered log next) s ≡ Some u
    → u.next_log ≡ log
flush_gives s u table head covered log next is = by s.levels refl
  where
    none : s.levels ≡ [] → (b : Bool)
        → finish (then_applied (all_applied (Head head covered ∷ Next log next ∷ []))
        (if b then option_map (with_levels (as_draft s)) (put_at 0 0 table s.levels) else None)) ≡ Some u → ⊥
    none are true e = some_none u (sym (sym (ap (behind s head covered log next) (ap (put_at 0 0 table) are)) ∙ e))
    none are false e = some_none u (sym e)

    by : (ls : List (List ℕ)) → s.levels ≡ ls → u.next_log ≡ log
    by [] are = absurd (none are (is_file_number table && not (is_in table (all_tables s.levels))) is)
    by (newest ∷ deeper) are = ap (λ (x : ManifestState). x.next_log) (flush_made s newest deeper table head covered log next u are is)

-- and it gives the head that it names
head_gives : (s u : ManifestState) (table head covered log next : ℕ) → next_state (flush_edits table head covered log next) s ≡ Some u
    → u.head ≡ head
head_gives s u table head covered log next is = by s.levels refl
  where
    none : s.levels ≡ [] → (b : Bool)
        → finish (then_applied (all_applied (Head head covered ∷ Next log next ∷ []))
        (if b then option_map (with_levels (as_draft s)) (put_at 0 0 table s.levels) else None)) ≡ Some u → ⊥
    none are true e = some_none u (sym (sym (ap (behind s head covered log next) (ap (put_at 0 0 table) are)) ∙ e))
    none are false e = some_none u (sym e)

    by : (ls : List (List ℕ)) → s.levels ≡ ls → u.head ≡ head
    by [] are = absurd (none are (is_file_number table && not (is_in table (all_tables s.levels))) is)
    by (newest ∷ deeper) are = ap (λ (x : ManifestState). x.head) (flush_made s newest deeper table head covered log next u are is)

-- that of the logs that wait then
pub staged_head : (back : Back) (active : ℕ) (u : ManifestState) (w : Waiting) (ws : List Waiting) → back.waiting.items ≡ w ∷ ws
    → next_state (flush_switch active back) back.state ≡ Some u → u.head ≡ head_of active ws
staged_head back active u w ws are is = head_gives back.state u back.state.next_table (head_of active ws) w.covered back.next_log
    (back.state.next_table + 1) (ap (λ (x : List Waiting). next_state (switch_of active x back) back.state) (sym are) ∙ is)

-- so what was staged for a flush does
staged_gives : (back : Back) (active : ℕ) (u : ManifestState) → flush_decision back ≡ Go
    → next_state (flush_switch active back) back.state ≡ Some u
    → u.next_log ≡ back.next_log
staged_gives back active u = by back.waiting.items
  where
    by : (ws : List Waiting) → deciding.flush_of ws back ≡ Go → next_state (switch_of active ws back) back.state ≡ Some u
        → u.next_log ≡ back.next_log
    by [] go is = absurd cc
    by (w ∷ ws) go is = flush_gives back.state u back.state.next_table (head_of active ws) w.covered back.next_log
        (back.state.next_table + 1) is

module _ {D H : Type 0} (g : Ghosts D) (bytes : H → Option (List ℕ)) (before after : Core H) (old new : D)
    (within : before.back.state.next_log ≤ before.back.next_log) where
  abbrev Within : Type 0
  Within = after.back.state.next_log ≤ after.back.next_log

  -- The manifest gives the next log no number above that which it gets, behind a rotation
  pub rotate_within : (result : Result (Option ℕ) StepFail) → RotatesAs g bytes old new before after result
      → (StepFailed result → ⊥) → Within
  rotate_within (Ok (Some number)) did fine =
      let state = ap (λ (x : ManifestState). x.next_log) did.1.back.state in
      let next = did.1.back.next_log in
      omega (arith, state, next, within)
  rotate_within (Ok None) did fine = absurd did
  rotate_within (Err (fails.Halted name)) did fine = absurd did
  rotate_within (Err (fails.Exhausted counter)) did fine = absurd did
  rotate_within (Err fails.NoMemory) did fine =
      let state = ap (λ (x : ManifestState). x.next_log) did.0.back.state in
      let next = did.0.back.next_log in
      omega (arith, state, next, within)
  rotate_within (Err (fails.Disk name)) did fine = absurd (fine tt)

  -- and behind a flush.
  pub flush_within : flush_decision before.back ≡ Go → (result : Result (Option ℕ) StepFail) → FlushesAs g bytes old new before after result
      → (StepFailed result → ⊥) → Within
  flush_within go (Ok (Some number)) did fine =
      let state = ap (λ (x : ManifestState). x.next_log) did.1.back.state in
      let next = did.1.back.next_log in
      let gives = staged_gives before.back before.front.log.number did.1.staged.state go did.1.of.is.says in
      omega (arith, state, next, gives)
  flush_within go (Ok None) did fine = absurd did
  flush_within go (Err (fails.Halted name)) did fine = absurd did
  flush_within go (Err (fails.Exhausted counter)) did fine = absurd did
  flush_within go (Err fails.NoMemory) did fine = subst (λ (c : Core H). c.back.state.next_log ≤ c.back.next_log) (sym did.0) within
  flush_within go (Err (fails.Disk name)) did fine = absurd (fine tt)

-- ---- on the disk

-- the manifest that a disk holds
pub manifest_held : (b : Base) (l : Layout) (h : History) → IsBase b l h → (disk : DiskState) → HoldsBase b disk
    → HoldsManifest b.state disk
manifest_held b l h base disk holds = record {
  number = b.manifest.number;
  bytes = manifest_bytes b.manifest.number (frames_of b);
  stands = holds.has.durable;
  says = base_says b l h base disk holds;
  above = holds.above;
}

-- while a file is made the others are as they were
pub making_elsewhere : (name : Name) (bytes : List ℕ) (disk now : DiskState) → WhileMaking name bytes disk now → SameElsewhere name disk now
making_elsewhere name bytes disk now during = by (making name bytes disk now during)
  where
    by : Making name bytes disk now → SameElsewhere name disk now
    by (not_begun is) = subst (SameElsewhere name disk) (sym is) (nothing_elsewhere name disk)
    by (torn file part stands same) = same
    by (done stands same) = same

-- What opens with the state of the manifest that the disk holds gives no number above the next ones.
pub base_numbers : (back : Back) (b : Base) (l : Layout) (h : History) → IsBase b l h → IsTidy (layout_logs l) l h → (disk : DiskState)
    → Holds b l disk → IsBack back b l → back.state.next_log ≤ back.next_log → (o : Opening) → o.state ≡ b.state
    → (o.state.next_log ≤ l.next_log) × (o.state.next_table ≤ l.next_table + 1) × (o.state.head ≤ l.next_log)
base_numbers back b l h base tidy disk holds is within o same =
    let log = ap (λ (x : ManifestState). x.next_log) same ∙ sym (ap (λ (x : ManifestState). x.next_log) is.state) in
    let next = is.next_log in
    let table = ap (λ (x : ManifestState). x.next_table) same in
    let given = is.next_table in
    let head = ap (λ (x : ManifestState). x.head) same in
    let last = last_held b.state.head b.before l.active disk holds.files.logs in
    let low = last.from in
    let drawn = tidy.files.stocked.logs_drawn.0 in
    (omega (arith, log, within, next), omega (arith, table, given), omega (arith, head, low, drawn))

-- the first of some logs, or the active one, is below a bound where all are
pub first_drawn : (a : Segment) (ss : List Segment) (n : ℕ) → AllByRecursion (λ (s : Segment). s.number < n) (a ∷ ss)
    → number_or a (oldest ss) < n
first_drawn a [] n all = all.0
first_drawn a (s ∷ []) n all = all.1.0
first_drawn a (s ∷ t ∷ ss) n all = first_drawn a (t ∷ ss) n (all.0, all.1.1)

-- Where a current manifest says the one state or the other, an image opens with one of them.
pub either_state : (number : ℕ) (bytes : List ℕ) (first second : ManifestState) (image : Image) (o : Opening) → Opens image (Ok o)
    → IsCurrent image number bytes → SaysState number bytes first ⊎ SaysState number bytes second → (o.state ≡ first) ⊎ (o.state ≡ second)
either_state number bytes first second image o opens current either = by (opened image o opens)
  where
    by : IsOpened image o → (o.state ≡ first) ⊎ (o.state ≡ second)
    by is =
        let heading = one_heading image is.heading (Led number bytes) is.headed current in
        let says = subst (λ (h : Heading). Says h (Ok o.state)) heading is.says in
        ⊎_elim
        (λ (said : SaysState number bytes first).
        inl (ok_same {E = Refusal} o.state first
        (single_says (Led number bytes) (Ok o.state) (Ok first) says (Ok first, said, refl))))
        (λ (said : SaysState number bytes second).
        inr (ok_same {E = Refusal} o.state second
        (single_says (Led number bytes) (Ok o.state) (Ok second) says (Ok second, said, refl))))
        either
