-- What steps on files ask is so behind each call, by the ruling on it.
use Rattle.std.specs.Prelude.{◌≡◌, ℕ, List, Option, None, Some, Result, Ok, Err, refl}
use Rattle.std.specs.FinMap.{entries}
use Rattle.std.specs.Option.{ForSome}
use Rattle.std.proofs.Common.{sym, ap, subst, ◌∙◌}
use Rattle.vl_back.specs.Deciding.{MayFlush, flush_decision}
use Rattle.vl_back.specs.declared.decision.Decision.TheVariants as decisions
use Rattle.vl_disk.specs.DiskState.{DiskState}
use Rattle.vl_disk.specs.declared.watched.Watched.{Ghosts}
use Rattle.vl_steps.specs.laws.Committing.{accepted, answer_is, decides_answered, decides_failed, decides_leaving}
use Rattle.vl_steps.specs.laws.Committing.{decides_short, frame_is, next_is}
use Rattle.vl_steps.specs.laws.Flushed.{ruled_on, runs_on}
use Rattle.vl_steps.specs.laws.RotateSteps.{CanRotate, ruled_made}
use Rattle.vl_steps.specs.laws.Rotated.{ruled_refused}
use Rattle.vl_steps.specs.laws.Stepped.{fits_back, fits_halted, fits_same, flushed_may, rotated_may, written_may}
use Rattle.vl_steps.specs.Answers.{commit_effects, commit_outcome}
use Rattle.vl_engine_laws.specs.Fit.{IsFitFor}
use Rattle.vl_steps.specs.Flushing.{FlushesAs, flush_effects}
use Rattle.vl_engine_laws.specs.Represents.{StandsFor, file_of}
use Rattle.vl_steps.specs.Rotating.{IsRefusedSo, RotatesAs, rotate_effects}
use Rattle.vl_steps.specs.Stepping.{step_outcome}
use Rattle.vl_engine_laws.specs.MayStep.{Fits}
use Rattle.vl_steps.specs.Steps.{WritesAs}
use Rattle.vl_steps.specs.declared.done.Done.TheVariants as done
use Rattle.vl_steps.specs.declared.done.Done.{Done}
use Rattle.vl_steps.specs.declared.fails.CommitFail.TheVariants as commit_fails
use Rattle.vl_steps.specs.declared.fails.CommitFail.{CommitFail}
use Rattle.vl_steps.specs.declared.fails.StepFail.TheVariants as fails
use Rattle.vl_steps.specs.declared.fails.StepFail.{StepFail}
use Rattle.vl_engine_laws.specs.declared.kept.Core.{Core}
use Rattle.vl_engine_laws.specs.laws.FlushRulings.{flush_made}
use Rattle.vl_engine_laws.specs.laws.RotateRulings.{rotate_made}
use Rattle.vl_engine_model.specs.Decides.{Answered, Decides, Otherwise, Outcome, as_before, effects_of, no_effects}
use Rattle.vl_engine_model.specs.Ruling.{Ruling, StepAnswer, Stepped, ended}
use Rattle.vl_engine_model.specs.Rulings.Commit.{At, CommitAnswer, Transaction, commit_lost, commit_ruling, committed}
use Rattle.vl_engine_model.specs.Rulings.Flush.{flush_ruling}
use Rattle.vl_engine_model.specs.Rulings.Rotate.{rotate_ruling}
use Rattle.vl_engine_model.specs.declared.layout.Layout.{Layout}
use Rattle.vl_model.specs.History.{History}
use Rattle.vl_model.specs.Keys.{Writes}
use Rattle.vl_model.specs.Reads.{Read}

-- ---- a commit that was decided to be written

module _ {D H : Type 0} (g : Ghosts D) (bytes : H → Option (List ℕ)) (old new : D) (before after : Core H) (h : History) (l : Layout)
    (ticket number : ℕ) (reads : List Read) (writes : Writes) (back : after.back ≡ before.back) where
  abbrev t : Transaction
  t = record { ticket = ticket; number = number; reads = reads; writes = entries writes }

  abbrev ruling : Ruling CommitAnswer
  ruling = commit_ruling l h t

  abbrev otherwise : Otherwise
  otherwise = as_before l (commit_lost l t)

  module _ {R : Type 0} (write : committed l h t ≡ ruling) (stood : ForSome (g.told old) (IsFitFor before))
      (is : StandsFor bytes before h l) (fits : Fits (g.told old) before h l) where
    pub written_by : (result : Result Done (CommitFail H R)) → WritesAs g old new before after ticket writes result
        → Decides (Fits (g.told new) after) h l ruling otherwise (commit_outcome result) (commit_effects result)
    written_by (Ok (done.At given)) (given_is, wrote) =
        let runs = (accepted bytes before after h l ticket number reads writes back write).running in
        let may = fits.running runs in
        decides_answered (Fits (g.told new) after) h l ruling otherwise (At given) (record no_effects { calls = 2 })
        (answer_is bytes before after h l ticket number reads writes back write g old new wrote given given_is is.fronts)
        (ap (λ (r : Ruling CommitAnswer). effects_of r) write)
        (subst (λ (r : Ruling CommitAnswer). Fits (g.told new) after r.history r.layout) write (record {
          running = λ running. written_may g bytes before after old new h l ticket writes is may back
              (stood may.state may.told_is).log
              (next_is bytes before after h l ticket number reads writes back write is.fronts)
              (frame_is bytes before after h l ticket number reads writes back write is.fronts) wrote;
        }))
    written_by (Ok done.Nothing) none = absurd none
    written_by (Err (commit_fails.Halted name)) none = absurd none
    written_by (Err (commit_fails.Exhausted txn)) none = absurd none
    written_by (Err (commit_fails.Conflict key n)) none = absurd none
    written_by (Err (commit_fails.Full txn long frame)) none = absurd none
    written_by (Err (commit_fails.NoMemory txn)) un =
        decides_short (Fits (g.told new) after) h l ruling (commit_lost l t)
        (fits_back before after h l (g.told old) (g.told new) un.disk.told back fits)
    written_by (Err (commit_fails.Disk name)) (named, failed) =
        decides_failed (Fits (g.told new) after) h l ruling (commit_lost l t) (file_of name) no_effects
        (accepted bytes before after h l ticket number reads writes back write).running
        (fits_halted (g.told new) after h (ended ticket l) (file_of name))

-- ---- a new log

module _ {D H : Type 0} (g : Ghosts D) (bytes : H → Option (List ℕ)) (before after : Core H) (old new : D) (h : History) (l : Layout)
    (is : StandsFor bytes before h l) (fits : Fits (g.told old) before h l) where
  pub rotated_by : CanRotate l → (result : Result (Option ℕ) StepFail) → RotatesAs g bytes old new before after result
      → Decides (Fits (g.told new) after) h l (rotate_ruling l h) (as_before l l) (step_outcome result) (rotate_effects result)
  rotated_by can (Ok (Some number)) did =
      subst (λ (r : Ruling StepAnswer). Decides (Fits (g.told new) after) h l r (as_before l l) (Answered (Stepped number))
      (record no_effects { calls = 3 })) (ruled_made l h is.tidy.true_logs.0 can)
      (decides_answered (Fits (g.told new) after) h l (rotate_made l h) (as_before l l) (Stepped number)
      (record no_effects { calls = 3 }) (ap Stepped (did.0 ∙ is.fronts.number)) refl (record {
        running = λ running. rotated_may g bytes before after old new h l is.fronts.front.last is.fronts.number
            (fits.running can.running) did.1;
      }))
  rotated_by can (Ok None) did = absurd did
  rotated_by can (Err (fails.Halted name)) did = absurd did
  rotated_by can (Err (fails.Exhausted counter)) did = absurd did
  rotated_by can (Err fails.NoMemory) did =
      decides_short (Fits (g.told new) after) h l (rotate_ruling l h) l
      (fits_same before after h l (g.told old) (g.told new) did.1.told did.0.back fits)
  rotated_by can (Err (fails.Disk name)) did =
      decides_failed (Fits (g.told new) after) h l (rotate_ruling l h) l (file_of name) no_effects can.running
      (fits_halted (g.told new) after h l (file_of name))

  -- ---- a table

  pub flushed_by : (none : before.front.halted ≡ None) (may : MayFlush before.back)
      (decided : flush_decision before.back ≡ decisions.Go) → (result : Result (Option ℕ) StepFail)
      → FlushesAs g bytes old new before after result
      → Decides (Fits (g.told new) after) h l (flush_ruling l h) (as_before l l) (step_outcome result) (flush_effects result)
  flushed_by none may decided (Ok (Some number)) did =
      let held = fits.running (runs_on before h l is.fronts none) in
      let on = ruled_on g bytes before after old new h l none may decided is.fronts held.numbers in
      subst (λ (r : Ruling StepAnswer). Decides (Fits (g.told new) after) h l r (as_before l l) (Answered (Stepped number))
      (record no_effects { calls = 5 })) on.ruled
      (decides_answered (Fits (g.told new) after) h l (flush_made l h on.log) (as_before l l) (Stepped number)
      (record no_effects { calls = 5 }) (ap Stepped (did.0 ∙ held.numbers.next_table)) refl (record {
        running = λ running. flushed_may g bytes before after old new h l held on.log on.first did.1;
      }))
  flushed_by none may decided (Ok None) did = absurd did
  flushed_by none may decided (Err (fails.Halted name)) did = absurd did
  flushed_by none may decided (Err (fails.Exhausted counter)) did = absurd did
  flushed_by none may decided (Err fails.NoMemory) did =
      decides_short (Fits (g.told new) after) h l (flush_ruling l h) l
      (fits_back before after h l (g.told old) (g.told new) did.1.told (ap (λ (c : Core H). c.back) did.0) fits)
  flushed_by none may decided (Err (fails.Disk name)) did =
      decides_failed (Fits (g.told new) after) h l (flush_ruling l h) l (file_of name) no_effects (runs_on before h l is.fronts none)
      (fits_halted (g.told new) after h l (file_of name))

-- ---- none was begun

pub rotate_refused : {H : Type 0} (bytes : H → Option (List ℕ)) (core : Core H) (told : Option DiskState) (h : History) (l : Layout)
    (result : Result (Option ℕ) StepFail) → IsRefusedSo core result → StandsFor bytes core h l → Fits told core h l
    → Decides (Fits told core) h l (rotate_ruling l h) (as_before l l) (step_outcome result) (rotate_effects result)
rotate_refused bytes core told h l result why is fits =
    let (answer, ruled, outcome, effects) =
    ruled_refused core h l is.fronts (λ running. (fits.running running).numbers) is.tidy.true_logs.0 result why in
    subst (Decides (Fits told core) h l (rotate_ruling l h) (as_before l l) (step_outcome result)) (sym effects)
    (subst (λ (o : Outcome StepAnswer). Decides (Fits told core) h l (rotate_ruling l h) (as_before l l) o no_effects) (sym outcome)
    (decides_leaving (Fits told core) h l (rotate_ruling l h) (as_before l l) answer l ruled fits))
