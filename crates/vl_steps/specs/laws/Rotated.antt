-- What beginning a new log comes to, by the ruling on a rotation.
use Rattle.std.specs.Prelude.{◌≡◌, ℕ, List, Option, None, Some, Result, Ok, Err, IfOk, refl}
use Rattle.std.proofs.Common.{sym, ap, subst, ◌∙◌}
use Rattle.vl_back.specs.declared.back.Back.{Back}
use Rattle.vl_disk.specs.Calls.{ChangesNothing}
use Rattle.vl_disk.specs.DiskState.{DiskState}
use Rattle.vl_disk.specs.Faults.{after_calls}
use Rattle.vl_disk.specs.declared.name.Name.{Name}
use Rattle.vl_disk.specs.declared.watched.Watched.{Ghosts}
use Rattle.vl_engine_laws.specs.laws.Carrying.{IsWatched, carries_leaving}
use Rattle.vl_steps.specs.laws.Committing.{decides_answered, decides_failed, decides_leaving, decides_short}
use Rattle.vl_steps.specs.laws.RotateSteps.{CanRotate, active_held, can_rotate, carries_rotated, carries_short}
use Rattle.vl_steps.specs.laws.RotateSteps.{carries_unrotated, fronts_rotated, fronts_same, fronts_unrotated}
use Rattle.vl_steps.specs.laws.RotateSteps.{ruled_halted, ruled_idle, ruled_log, ruled_made, ruled_version, running_so}
use Rattle.vl_steps.specs.laws.RotateSteps.{stands_rotated, stands_same, stands_unrotated}
use Rattle.vl_engine_laws.specs.Carries.{Carries}
use Rattle.vl_engine_laws.specs.Represents.{Fronts, IsHeld, Represents, StandsFor, file_of}
use Rattle.vl_steps.specs.Rotating.{IsRefusedSo, RotatesAs, rotate_calls, rotate_effects}
use Rattle.vl_engine_laws.specs.RotateFacts.{BeginsLog, HasActive, MayBegin, StopsRotating}
use Rattle.vl_steps.specs.Stepping.{StepFailed, StepLeavesDisk, step_outcome}
use Rattle.vl_engine_laws.specs.MayStep.{HasNumbers}
use Rattle.vl_steps.specs.declared.fails.StepFail.TheVariants as fails
use Rattle.vl_steps.specs.declared.fails.StepFail.{StepFail}
use Rattle.vl_engine_laws.specs.declared.kept.Core.{Core}
use Rattle.vl_engine_laws.specs.laws.RotateRulings.{rotate_made}
use Rattle.vl_engine_model.specs.Decides.{Answered, Decides, Effects, Failed, NoMemory, Outcome, as_before, no_effects}
use Rattle.vl_engine_model.specs.Ruling.{Exhausted, Halted, Idle, Ruling, StepAnswer, Stepped, leaving}
use Rattle.vl_engine_model.specs.Rulings.Rotate.{rotate_ruling}
use Rattle.vl_engine_model.specs.Tidy.{IsTrueLog}
use Rattle.vl_engine_model.specs.declared.layout.Layout.{Layout}
use Rattle.vl_manifest.specs.declared.state.ManifestState.{ManifestState}
use Rattle.vl_model.specs.History.{History}
use Rattle.vl_model.specs.declared.counter.Counter.TheVariants as counters

-- ---- it was refused, and nothing was changed

module _ {H : Type 0} (bytes : H → Option (List ℕ)) (core : Core H) (h : History) (l : Layout) (answer : StepAnswer)
    (ruled : leaving answer h l ≡ rotate_ruling l h) where
  pub fronts_refused : Fronts core h l
      → Decides (Fronts core) h l (rotate_ruling l h) (as_before l l) (Answered answer) no_effects
  fronts_refused is = decides_leaving (Fronts core) h l (rotate_ruling l h) (as_before l l) answer l ruled is

  pub stands_refused : StandsFor bytes core h l
      → Decides (StandsFor bytes core) h l (rotate_ruling l h) (as_before l l) (Answered answer) no_effects
  stands_refused is = decides_leaving (StandsFor bytes core) h l (rotate_ruling l h) (as_before l l) answer l ruled is

  pub carries_step_refused : {D : Type 0} (g : Ghosts D) → IsWatched g → (disk : D) → Represents bytes core (g.told disk) h l
      → Carries g bytes disk disk core h l (rotate_ruling l h) (as_before l l) (Answered answer) no_effects
  carries_step_refused g watched disk is =
      subst (λ (r : Ruling StepAnswer). Carries g bytes disk disk core h l r (as_before l l) (Answered answer) no_effects) ruled
      (carries_leaving g watched bytes core core h l disk answer l (as_before l l) is is)

-- what is counted is the layout's where the disk holds it
pub numbers_held : (back : Back) (told : Option DiskState) (h : History) (l : Layout) → (l.halted ≡ None → IsHeld back told h l)
    → l.halted ≡ None → HasNumbers back l
numbers_held back told h l held running =
    let is = (held running).back_is in
    record { next_log = is.next_log; next_table = ap (λ (s : ManifestState). s.next_table) is.state; waiting = is.waiting }

-- so it is with whatever is answered where none is begun
pub ruled_refused : {H : Type 0} (core : Core H) (h : History) (l : Layout) → Fronts core h l
    → (l.halted ≡ None → HasNumbers core.back l) → IsTrueLog l.active
    → (result : Result (Option ℕ) StepFail) → IsRefusedSo core result
    → (answer : StepAnswer) × (leaving answer h l ≡ rotate_ruling l h) × (step_outcome result ≡ Answered answer)
    × (rotate_effects result ≡ no_effects)
ruled_refused core h l is has true_log (Ok (Some number)) why = absurd why
ruled_refused core h l is has true_log (Ok None) why = (Idle, ruled_idle core h l is why.0 true_log why.1, refl, refl)
ruled_refused core h l is has true_log (Err (fails.Halted name)) why =
    (Halted (file_of name), ruled_halted core h l is name why, refl, refl)
ruled_refused core h l is has true_log (Err (fails.Exhausted counters.Commit)) why = absurd why.2
ruled_refused core h l is has true_log (Err (fails.Exhausted counters.Log)) why =
    (Exhausted counters.Log, ruled_log core h l is why.0 why.1 (has (running_so core h l is why.0)).next_log true_log why.2, refl, refl)
ruled_refused core h l is has true_log (Err (fails.Exhausted counters.Table)) why = absurd why.2
ruled_refused core h l is has true_log (Err (fails.Exhausted counters.Manifest)) why = absurd why.2
ruled_refused core h l is has true_log (Err (fails.Exhausted counters.Version)) why = (
  Exhausted counters.Version,
  ruled_version core h l is why.0 why.1 (has (running_so core h l is why.0)).next_log why.2.0 true_log why.2.1,
  refl,
  refl,
)
ruled_refused core h l is has true_log (Err fails.NoMemory) why = absurd why
ruled_refused core h l is has true_log (Err (fails.Disk name)) why = absurd why

module _ {D H : Type 0} (g : Ghosts D) (watched : IsWatched g) (bytes : H → Option (List ℕ)) (core : Core H) (disk : D)
    (h : History) (l : Layout) (result : Result (Option ℕ) StepFail) (why : IsRefusedSo core result) where
  pub fronts_as_refused : Fronts core h l → (l.halted ≡ None → HasNumbers core.back l) → IsTrueLog l.active
      → Decides (Fronts core) h l (rotate_ruling l h) (as_before l l) (step_outcome result) (rotate_effects result)
  fronts_as_refused is has true_log =
      let (answer, ruled, outcome, effects) = ruled_refused core h l is has true_log result why in
      subst (Decides (Fronts core) h l (rotate_ruling l h) (as_before l l) (step_outcome result)) (sym effects)
      (subst (λ (o : Outcome StepAnswer). Decides (Fronts core) h l (rotate_ruling l h) (as_before l l) o no_effects) (sym outcome)
      (fronts_refused bytes core h l answer ruled is))

  pub stands_as_refused : StandsFor bytes core h l → (l.halted ≡ None → HasNumbers core.back l)
      → Decides (StandsFor bytes core) h l (rotate_ruling l h) (as_before l l) (step_outcome result) (rotate_effects result)
  stands_as_refused is has =
      let (answer, ruled, outcome, effects) = ruled_refused core h l is.fronts has is.tidy.true_logs.0 result why in
      subst (Decides (StandsFor bytes core) h l (rotate_ruling l h) (as_before l l) (step_outcome result)) (sym effects)
      (subst (λ (o : Outcome StepAnswer). Decides (StandsFor bytes core) h l (rotate_ruling l h) (as_before l l) o no_effects)
      (sym outcome) (stands_refused bytes core h l answer ruled is))

  pub carries_as_refused : Represents bytes core (g.told disk) h l
      → Carries g bytes disk disk core h l (rotate_ruling l h) (as_before l l) (step_outcome result) (rotate_effects result)
  carries_as_refused is =
      let (answer, ruled, outcome, effects) =
      ruled_refused core h l is.stands.fronts (numbers_held core.back (g.told disk) h l is.held) is.stands.tidy.true_logs.0 result why in
      subst (Carries g bytes disk disk core h l (rotate_ruling l h) (as_before l l) (step_outcome result)) (sym effects)
      (subst (λ (o : Outcome StepAnswer). Carries g bytes disk disk core h l (rotate_ruling l h) (as_before l l) o no_effects)
      (sym outcome) (carries_step_refused bytes core h l answer ruled g watched disk is))

-- no file is named then
pub refused_no_disk : {H : Type 0} (core : Core H) (result : Result (Option ℕ) StepFail) → IsRefusedSo core result
    → StepFailed result → ⊥
refused_no_disk core (Ok answer) why failed = failed
refused_no_disk core (Err (fails.Halted name)) why failed = failed
refused_no_disk core (Err (fails.Exhausted counter)) why failed = failed
refused_no_disk core (Err fails.NoMemory) why failed = failed
refused_no_disk core (Err (fails.Disk name)) why failed = why

-- no call was made
pub refused_calls : {H : Type 0} (core : Core H) (count : ℕ) (result : Result (Option ℕ) StepFail) → IsRefusedSo core result
    → IfOk result (λ sealed. count ≡ after_calls (rotate_calls sealed) count)
refused_calls core count (Ok (Some number)) why = absurd why
refused_calls core count (Ok None) why = refl
refused_calls core count (Err why) refused = tt

pub can_by : {H : Type 0} (core : Core H) (h : History) (l : Layout) → Fronts core h l
    → (l.halted ≡ None → HasNumbers core.back l) → MayBegin core → CanRotate l
can_by core h l is has may =
    can_rotate core h l is may.running may.long (has (running_so core h l is may.running)).next_log may.may.log may.may.version

-- ---- the next log was to be begun

module _ {D H : Type 0} (g : Ghosts D) (bytes : H → Option (List ℕ)) (before after : Core H) (old new : D) where
  pub untouched_by : (result : Result (Option ℕ) StepFail) → RotatesAs g bytes old new before after result
      → StepLeavesDisk result → ChangesNothing g old new ⊥
  untouched_by (Ok (Some number)) did leaves = absurd leaves
  untouched_by (Ok None) did leaves = absurd did
  untouched_by (Err (fails.Halted name)) did leaves = absurd did
  untouched_by (Err (fails.Exhausted counter)) did leaves = absurd did
  untouched_by (Err fails.NoMemory) did leaves = did.1
  untouched_by (Err (fails.Disk name)) did leaves = absurd leaves

  pub calls_by : (result : Result (Option ℕ) StepFail) → RotatesAs g bytes old new before after result
      → IfOk result (λ sealed. g.calls new ≡ after_calls (rotate_calls sealed) (g.calls old))
  calls_by (Ok (Some number)) did = did.1.calls ∙ ap (after_calls 3) did.1.begins.calls
  calls_by (Ok None) did = absurd did
  calls_by (Err why) did = tt

  -- where it failed the new log was made in part
  pub begins_by : (result : Result (Option ℕ) StepFail) → RotatesAs g bytes old new before after result → StepFailed result
      → BeginsLog g before old new
  begins_by (Ok (Some number)) did failed = absurd failed
  begins_by (Ok None) did failed = absurd failed
  begins_by (Err (fails.Halted name)) did failed = absurd failed
  begins_by (Err (fails.Exhausted counter)) did failed = absurd failed
  begins_by (Err fails.NoMemory) did failed = absurd failed
  begins_by (Err (fails.Disk name)) did failed = did.begins

  pub stopped_by : (result : Result (Option ℕ) StepFail) → RotatesAs g bytes old new before after result
      → (name : Name) → result ≡ Err (fails.Disk name)
      → StopsRotating before.front.log.number before.back.next_log (g.calls old) (g.calls new) name
  stopped_by (Ok (Some number)) did name failed = absurd cc
  stopped_by (Ok None) did name failed = absurd did
  stopped_by (Err (fails.Halted at)) did name failed = absurd did
  stopped_by (Err (fails.Exhausted counter)) did name failed = absurd did
  stopped_by (Err fails.NoMemory) did name failed = absurd cc
  stopped_by (Err (fails.Disk at)) did name failed =
      let same : at ≡ name = cc in
      subst (StopsRotating before.front.log.number before.back.next_log (g.calls old) (g.calls new)) same did.stops

  module _ (h : History) (l : Layout) where
    -- a new log was begun, and the one with this number sealed
    abbrev begun_outcome : ℕ → Outcome StepAnswer
    begun_outcome number = Answered (Stepped number)

    abbrev begun_effects : Effects
    begun_effects = record no_effects { calls = 3 }

    -- the ruling is that on a new log
    abbrev Ruled : (Ruling StepAnswer → Type 0) → Type 0
    Ruled P = IsTrueLog l.active → CanRotate l → P (rotate_made l h) → P (rotate_ruling l h)

    ruled_so : (P : Ruling StepAnswer → Type 0) → Ruled P
    ruled_so P true_log may made = subst P (ruled_made l h true_log may) made

    module _ (can : CanRotate l) where
      pub fronts_by : Fronts before h l → before.back.next_log ≡ l.next_log → IsTrueLog l.active
          → (result : Result (Option ℕ) StepFail) → RotatesAs g bytes old new before after result
          → Decides (Fronts after) h l (rotate_ruling l h) (as_before l l) (step_outcome result) (rotate_effects result)
      fronts_by is next true_log (Ok (Some number)) did =
          ruled_so (λ (r : Ruling StepAnswer). Decides (Fronts after) h l r (as_before l l) (begun_outcome number) begun_effects)
          true_log can
          (decides_answered (Fronts after) h l (rotate_made l h) (as_before l l) (Stepped number) (record no_effects { calls = 3 })
          (ap Stepped (did.0 ∙ is.number)) refl (fronts_rotated before after h l did.1.front did.1.back next is))
      fronts_by is next true_log (Ok None) did = absurd did
      fronts_by is next true_log (Err (fails.Halted name)) did = absurd did
      fronts_by is next true_log (Err (fails.Exhausted counter)) did = absurd did
      fronts_by is next true_log (Err fails.NoMemory) did =
          decides_short (Fronts after) h l (rotate_ruling l h) l (fronts_same before after h l did.0 is)
      fronts_by is next true_log (Err (fails.Disk name)) did =
          decides_failed (Fronts after) h l (rotate_ruling l h) l (file_of name) no_effects can.running
          (fronts_unrotated before after h l name did.front did.back is)

      pub stands_by : (state : DiskState) → g.told old ≡ Some state → StandsFor bytes before h l → before.back.next_log ≡ l.next_log
          → HasActive l state → (result : Result (Option ℕ) StepFail) → RotatesAs g bytes old new before after result
          → Decides (StandsFor bytes after) h l (rotate_ruling l h) (as_before l l) (step_outcome result) (rotate_effects result)
      stands_by state told is next active (Ok (Some number)) did =
          ruled_so (λ (r : Ruling StepAnswer). Decides (StandsFor bytes after) h l r (as_before l l) (begun_outcome number) begun_effects)
          is.tidy.true_logs.0 can
          (decides_answered (StandsFor bytes after) h l (rotate_made l h) (as_before l l) (Stepped number)
          (record no_effects { calls = 3 }) (ap Stepped (did.0 ∙ is.fronts.number)) refl
          (stands_rotated bytes before after h l is can (g.told old) state told active did.1.version
          (fronts_rotated before after h l did.1.front did.1.back next is.fronts)))
      stands_by state told is next active (Ok None) did = absurd did
      stands_by state told is next active (Err (fails.Halted name)) did = absurd did
      stands_by state told is next active (Err (fails.Exhausted counter)) did = absurd did
      stands_by state told is next active (Err fails.NoMemory) did =
          decides_short (StandsFor bytes after) h l (rotate_ruling l h) l (stands_same bytes before after h l is did.0)
      stands_by state told is next active (Err (fails.Disk name)) did =
          decides_failed (StandsFor bytes after) h l (rotate_ruling l h) l (file_of name) no_effects can.running
          (stands_unrotated bytes before after h l is name did.version
          (fronts_unrotated before after h l name did.front did.back is.fronts))

      pub carries_by : IsWatched g → Represents bytes before (g.told old) h l
          → (result : Result (Option ℕ) StepFail) → RotatesAs g bytes old new before after result
          → Carries g bytes old new after h l (rotate_ruling l h) (as_before l l) (step_outcome result) (rotate_effects result)
      carries_by watched is (Ok (Some number)) did =
          let stands = is.stands in
          let held = is.held can.running in
          ruled_so (λ (r : Ruling StepAnswer). Carries g bytes old new after h l r (as_before l l) (begun_outcome number) begun_effects)
          stands.tidy.true_logs.0 can
          (subst (λ (n : ℕ). Carries g bytes old new after h l (rotate_made l h) (as_before l l) (begun_outcome n) begun_effects)
          (sym (did.0 ∙ stands.fronts.number))
          (carries_rotated g watched bytes before after h l old new is can did.1.begins did.1.changed did.1.calls did.1.back
          (stands_rotated bytes before after h l stands can (g.told old) held.state held.told_is
          (active_held held.base l held.state held.holds) did.1.version
          (fronts_rotated before after h l did.1.front did.1.back held.back_is.next_log stands.fronts))))
      carries_by watched is (Ok None) did = absurd did
      carries_by watched is (Err (fails.Halted name)) did = absurd did
      carries_by watched is (Err (fails.Exhausted counter)) did = absurd did
      carries_by watched is (Err fails.NoMemory) did =
          ruled_so (λ (r : Ruling StepAnswer). Carries g bytes old new after h l r (as_before l l) NoMemory no_effects)
          is.stands.tidy.true_logs.0 can
          (carries_short g watched bytes before after h l old new is can did.0 did.1)
      carries_by watched is (Err (fails.Disk name)) did =
          ruled_so (λ (r : Ruling StepAnswer). Carries g bytes old new after h l r (as_before l l) (Failed (file_of name)) no_effects)
          is.stands.tidy.true_logs.0 can
          (carries_unrotated g watched bytes before after h l old new is can did.begins name no_effects
          (stands_unrotated bytes before after h l is.stands name did.version
          (fronts_unrotated before after h l name did.front did.back is.stands.fronts)))
