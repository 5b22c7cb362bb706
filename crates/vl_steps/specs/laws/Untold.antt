-- A disk that told nothing before a call tells nothing behind it, where the call was done.
use Rattle.std.specs.Prelude.{◌≡◌, ℕ, List, Option, None, Some, Result, Ok, Err, OnOk}
use Rattle.std.specs.Option.{option_map}
use Rattle.std.proofs.Common.{ap, ◌∙◌}
use Rattle.vl_disk.specs.Disk.{IsChangedBy}
use Rattle.vl_disk.specs.DiskState.{DiskState}
use Rattle.vl_disk.specs.declared.watched.Watched.{Ghosts}
use Rattle.vl_engine_laws.specs.Carries.{StaysUntold}
use Rattle.vl_steps.specs.Flushing.{FlushesAs}
use Rattle.vl_steps.specs.Keeping.{KeepsAs}
use Rattle.vl_steps.specs.Rotating.{RotatesAs}
use Rattle.vl_steps.specs.Steps.{WritesAs}
use Rattle.vl_steps.specs.declared.done.Done.TheVariants as done
use Rattle.vl_steps.specs.declared.done.Done.{Done}
use Rattle.vl_steps.specs.declared.fails.CommitFail.{CommitFail}
use Rattle.vl_steps.specs.declared.fails.KeepFail.{KeepFail}
use Rattle.vl_steps.specs.declared.fails.StepFail.{StepFail}
use Rattle.vl_engine_laws.specs.declared.kept.Core.{Core}
use Rattle.vl_model.specs.Keys.{Writes}

-- what was told was changed, behind a disk that tells what the first one did
pub untold_by : (change : DiskState → DiskState) (old mid new : Option DiskState) → mid ≡ old → IsChangedBy change mid new
    → StaysUntold old new
untold_by change old mid new same changed none = changed ∙ ap (option_map change) (same ∙ none)

-- so of a call that was answered without the disk
pub untold_same : {T E : Type 0} (told : Option DiskState) (result : Result T E) → OnOk result (StaysUntold told told)
untold_same told (Ok done) = λ none. none
untold_same told (Err why) = tt

module _ {D H : Type 0} (g : Ghosts D) (before after : Core H) (old new : D) where
  -- a commit,
  pub commit_untold : {R : Type 0} (ticket : ℕ) (writes : Writes) (result : Result Done (CommitFail H R))
      → WritesAs g old new before after ticket writes result → OnOk result (StaysUntold (g.told old) (g.told new))
  commit_untold ticket writes (Ok (done.At number)) (named, wrote) =
      untold_by _ (g.told old) (g.told wrote.hands.mid) (g.told new) wrote.hands.before.told wrote.changed
  commit_untold ticket writes (Ok done.Nothing) none = absurd none
  commit_untold ticket writes (Err why) did = tt

  -- a rotation,
  pub rotate_untold : (bytes : H → Option (List ℕ)) (result : Result (Option ℕ) StepFail)
      → RotatesAs g bytes old new before after result → OnOk result (StaysUntold (g.told old) (g.told new))
  rotate_untold bytes (Ok (Some number)) (named, begun) =
      untold_by _ (g.told old) (g.told begun.begins.mid) (g.told new) begun.begins.told begun.changed
  rotate_untold bytes (Ok None) none = absurd none
  rotate_untold bytes (Err why) did = tt

  -- a flush,
  pub flush_untold : (bytes : H → Option (List ℕ)) (result : Result (Option ℕ) StepFail)
      → FlushesAs g bytes old new before after result → OnOk result (StaysUntold (g.told old) (g.told new))
  flush_untold bytes (Ok (Some number)) (named, made) =
      untold_by _ (g.told old) (g.told made.writes.mid) (g.told new) made.writes.before.told made.changed
  flush_untold bytes (Ok None) none = absurd none
  flush_untold bytes (Err why) did = tt

  -- and a change of how many versions are kept.
  pub keep_untold : (versions : ℕ) (result : Result (Unit {0}) KeepFail) → KeepsAs g old new before after versions result
      → OnOk result (StaysUntold (g.told old) (g.told new))
  keep_untold versions (Ok done) did =
      untold_by _ (g.told old) (g.told did.writes.mid) (g.told new) did.writes.before.told did.changed
  keep_untold versions (Err why) did = tt
