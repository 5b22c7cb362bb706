-- What a disk gives never fails behind a call either, where that was so before.
use Rattle.std.specs.Prelude.{◌≡◌, ℕ, zero, suc, List, Option, None, Some, Result, Ok, Err}
use Rattle.std.proofs.Common.{⊎_elim, subst, sym}
use Rattle.vl_compact.specs.declared.job.Job.{Job}
use Rattle.vl_disk.specs.declared.watched.Watched.{Ghosts}
use Rattle.vl_disk.specs.declared.writer.Writer.{Ghosts as Writers}
use Rattle.vl_engine_laws.specs.declared.kept.Core.{Core}
use Rattle.vl_engine_model.specs.Relocation.{Candidate}
use Rattle.vl_model.specs.Keys.{Writes}
use Rattle.vl_steps.specs.Flushing.{FlushesAs}
use Rattle.vl_steps.specs.Installing.{InstallsUnraced, StopsSwitching}
use Rattle.vl_steps.specs.Keeping.{KeepsAs}
use Rattle.vl_steps.specs.Relocating.{At, RelocatesAs}
use Rattle.vl_steps.specs.Rotating.{RotatesAs}
use Rattle.vl_steps.specs.Steps.{WritesAs}
use Rattle.vl_steps.specs.Taking.{StopsTaking}
use Rattle.vl_steps.specs.declared.done.Done.TheVariants as done
use Rattle.vl_steps.specs.declared.done.Done.{Done}
use Rattle.vl_steps.specs.declared.fails.CommitFail.TheVariants as commits
use Rattle.vl_steps.specs.declared.fails.CommitFail.{CommitFail}
use Rattle.vl_steps.specs.declared.fails.InstallFail.TheVariants as installs
use Rattle.vl_steps.specs.declared.fails.InstallFail.{InstallFail}
use Rattle.vl_steps.specs.declared.fails.KeepFail.TheVariants as keeps
use Rattle.vl_steps.specs.declared.fails.KeepFail.{KeepFail}
use Rattle.vl_steps.specs.declared.fails.MoveFail.TheVariants as moves
use Rattle.vl_steps.specs.declared.fails.MoveFail.{MoveFail}
use Rattle.vl_steps.specs.declared.fails.StepFail.TheVariants as steps
use Rattle.vl_steps.specs.declared.fails.StepFail.{StepFail}
use Rattle.vl_version.specs.declared.base.Base.{Base}

-- nothing was done
pub same_steady : {D : Type 0} (g : Ghosts D) (old new : D) → new ≡ old → g.gives_steady old → g.gives_steady new
same_steady g old new same gives = subst g.gives_steady (sym same) gives

module _ {D H : Type 0} (g : Ghosts D) (before after : Core H) (old new : D) where
  -- a commit,
  pub commit_steady : {R : Type 0} (ticket : ℕ) (writes : Writes) (result : Result Done (CommitFail H R))
      → WritesAs g old new before after ticket writes result → g.gives_steady old → g.gives_steady new
  commit_steady ticket writes (Ok (done.At number)) did gives =
      did.1.hands.time.steady (did.1.hands.before.time.steady gives)
  commit_steady ticket writes (Ok done.Nothing) did gives = absurd did
  commit_steady ticket writes (Err (commits.Halted name)) did gives = absurd did
  commit_steady ticket writes (Err (commits.Exhausted txn)) did gives = absurd did
  commit_steady ticket writes (Err (commits.Conflict key number)) did gives = absurd did
  commit_steady ticket writes (Err (commits.Full txn length frame)) did gives = absurd did
  commit_steady ticket writes (Err (commits.NoMemory txn)) did gives = did.disk.time.steady gives
  commit_steady ticket writes (Err (commits.Disk name)) did gives =
      did.1.hands.time.steady (did.1.hands.before.time.steady gives)

  -- a rotation,
  pub rotate_steady : (bytes : H → Option (List ℕ)) (result : Result (Option ℕ) StepFail)
      → RotatesAs g bytes old new before after result → g.gives_steady old → g.gives_steady new
  rotate_steady bytes (Ok (Some number)) did gives = did.1.begins.time.steady (did.1.begins.quiet.steady gives)
  rotate_steady bytes (Ok None) did gives = absurd did
  rotate_steady bytes (Err (steps.Halted name)) did gives = absurd did
  rotate_steady bytes (Err (steps.Exhausted counter)) did gives = absurd did
  rotate_steady bytes (Err steps.NoMemory) did gives = did.1.time.steady gives
  rotate_steady bytes (Err (steps.Disk name)) did gives = did.begins.time.steady (did.begins.quiet.steady gives)

  -- a flush,
  pub flush_steady : (bytes : H → Option (List ℕ)) (result : Result (Option ℕ) StepFail)
      → FlushesAs g bytes old new before after result → g.gives_steady old → g.gives_steady new
  flush_steady bytes (Ok (Some number)) did gives = did.1.writes.time.steady (did.1.writes.before.time.steady gives)
  flush_steady bytes (Ok None) did gives = absurd did
  flush_steady bytes (Err (steps.Halted name)) did gives = absurd did
  flush_steady bytes (Err (steps.Exhausted counter)) did gives = absurd did
  flush_steady bytes (Err steps.NoMemory) did gives = did.1.time.steady gives
  flush_steady bytes (Err (steps.Disk name)) did gives = did.writes.time.steady (did.writes.before.time.steady gives)

  -- a change of how many versions are kept,
  pub keep_steady : (versions : ℕ) (result : Result (Unit {0}) KeepFail) → KeepsAs g old new before after versions result
      → g.gives_steady old → g.gives_steady new
  keep_steady versions (Ok done) did gives = did.writes.time.steady (did.writes.before.time.steady gives)
  keep_steady versions (Err (keeps.Halted name)) did gives = absurd did
  keep_steady versions (Err keeps.InvalidRequest) did gives = absurd did
  keep_steady versions (Err keeps.NoMemory) did gives = did.1.time.steady gives
  keep_steady versions (Err (keeps.Disk name)) did gives = did.writes.time.steady (did.writes.before.time.steady gives)

  -- and an install.
  pub install_steady : {R W : Type 0} {s : _} (bytes : H → Option (List ℕ)) (w : Writers W) (job : Job (Base H R) H W s)
      (result : Result (Unit {0}) (InstallFail (Base H R) H W s))
      → InstallsUnraced g bytes w job old new before after result → g.gives_steady old → g.gives_steady new
  install_steady bytes w job (Ok done) did gives = did.1.writes.switches.performs.time.steady
      (did.1.writes.took.takes.time.steady (did.1.unchanged.time.steady gives))
  install_steady bytes w job (Err (installs.Halted name)) did gives = absurd did
  install_steady bytes w job (Err (installs.Raced key number)) did gives = absurd did
  install_steady bytes w job (Err (installs.Exhausted counter)) did gives = same_steady g old new did.disk gives
  install_steady bytes w job (Err (installs.NoMemory back)) did gives = did.2.time.steady gives
  install_steady bytes w job (Err (installs.Disk name)) did gives =
      let made = job.made.items in
      let frame = did.1.ready.staged.edits.frame.items in
      let begun = did.1.unchanged.time.steady gives in
      ⊎_elim
      (λ (at : StopsTaking g w made did.1.begun new name). at.takes.time.steady begun)
      (λ (at : StopsSwitching g bytes w made before.back.manifest.number frame did.1.begun new did.1.ready.levels did.1.levels name).
      at.switches.performs.time.steady (at.took.takes.time.steady begun))
      did.1.stops

-- What moves a batch does so too.
module _ {D H R : Type 0} (g : Ghosts D) (bytes : H → Option (List ℕ)) (faults : R → ℕ) (old new : At D H R) (segment : ℕ)
    (batch : List Candidate) where
  pub move_steady : (result : Result ℕ MoveFail) → RelocatesAs g bytes faults old new segment batch result
      → g.gives_steady old.disk → g.gives_steady new.disk
  move_steady (Ok zero) did gives = same_steady g old.disk new.disk did.1.disk gives
  move_steady (Ok (suc n)) did gives = did.moves.hands.time.steady (did.moves.hands.before.time.steady gives)
  move_steady (Err (moves.Halted name)) did gives = same_steady g old.disk new.disk did.2.disk gives
  move_steady (Err (moves.Exhausted back counter)) did gives = same_steady g old.disk new.disk did.2.disk gives
  move_steady (Err (moves.Full back length frame)) did gives = same_steady g old.disk new.disk did.2.disk gives
  move_steady (Err (moves.NoMemory back)) did gives = did.1.disk.time.steady gives
  move_steady (Err (moves.Read name)) did gives = same_steady g old.disk new.disk did.disk gives
  move_steady (Err (moves.Disk name)) did gives = did.failed.hands.time.steady (did.failed.hands.before.time.steady gives)
  move_steady (Err (moves.Damaged back name place)) did gives = same_steady g old.disk new.disk did.2.disk gives
