-- What the calls of a merge come to, as the rulings on them have it.
use Rattle.std.specs.Prelude.{◌≡◌, ℕ, List, [], map, Option, None, Some, Result, Ok, Err}
use Rattle.vl_compact.specs.declared.inputs.Inputs.{Inputs}
use Rattle.vl_compact.specs.declared.job.Job.{Job}
use Rattle.vl_compact.specs.declared.files.Lent.{Lent}
use Rattle.vl_compact.specs.declared.files.Synced.{Synced}
use Rattle.vl_compact.specs.Progress.{Has, HasAll, IsJobOf}
use Rattle.vl_disk.specs.declared.writer.Writer.{Ghosts as Writers}
use Rattle.vl_engine_laws.specs.Represents.{file_of}
use Rattle.vl_steps.specs.declared.fails.InstallFail.{InstallFail}
use Rattle.vl_steps.specs.declared.fails.InstallFail.TheVariants as install
use Rattle.vl_steps.specs.declared.fails.StepFail.{StepFail}
use Rattle.vl_steps.specs.declared.fails.StepFail.TheVariants as fails
use Rattle.vl_engine_laws.specs.declared.kept.Core.{Core}
use Rattle.vl_engine_laws.specs.declared.open.OpenMerge.{OpenMerge}
use Rattle.vl_engine_model.specs.Decides.{Answered, Effects, Failed, NoMemory, Outcome, no_effects}
use Rattle.vl_engine_model.specs.Rulings.Fresh.{Drawn, FreshAnswer}
use Rattle.vl_engine_model.specs.Rulings.Fresh as fresh
use Rattle.vl_engine_model.specs.Rulings.Install.{InstallAnswer, Installed}
use Rattle.vl_engine_model.specs.Rulings.Install as ruling
use Rattle.vl_engine_model.specs.declared.job.Job as laid_job
use Rattle.vl_oracle.specs.LiveTickets.{floor_of}
use Rattle.vl_table.specs.Kept.{Files}
use Rattle.vl_table.specs.KeptBlocks.{AreKept}
use Rattle.vl_table.specs.declared.block_reader.BlockReader.{BlockReader}
use Rattle.vl_version.specs.Bases as bases
use Rattle.vl_version.specs.Bases.{HasSources}
use Rattle.vl_version.specs.declared.base.Base.{Base}

-- A merge was just opened: nothing was lent to it yet, and nothing was moved since.
pub record IsJustOpen (merging : Option OpenMerge) : Type 0 where
  pub merge : OpenMerge
  pub is_open : merging ≡ Some merge
  pub lent : merge.lent.items ≡ []
  pub moved : merge.moved.items ≡ []

-- ---- plans

-- the merge begins with these inputs, and with what the engine keeps
pub record IsMergeOf {H R W : Type 0} {g : _} (core : Core H) (inputs : Inputs H) (job : Job (Base H R) H W g) : Type 0 where
  pub version : job.base.version ≡ core.version
  pub inputs_are : job.inputs ≡ inputs
  pub floor : job.floor ≡ floor_of core.front.oracle
  pub keep : job.keep ≡ core.back.state.keep

-- The merge of an engine's version does what a layout's job says,
abbrev pub IsMergeFor : {W H R : Type 0} → Writers W → (H → Option (List ℕ)) → {g : _} → Job (Base H R) H W g → laid_job.Job
    → Type 0
IsMergeFor writers bytes job j = IsJobOf writers bytes (λ base inputs ms. HasSources bytes base.version inputs ms) job j

-- and has come as far with it as it says.
abbrev pub HasMerge : {W H R : Type 0} → Writers W → (H → Option (List ℕ)) → {g : _} → Job (Base H R) H W g → laid_job.Job
    → Type 0
HasMerge writers bytes job j = Has writers bytes (λ base inputs ms. HasSources bytes base.version inputs ms) job j

-- It has all of it.
abbrev pub HasAllMerge : {W H R : Type 0} → Writers W → (H → Option (List ℕ)) → {g : _} → Job (Base H R) H W g → laid_job.Job
    → Type 0
HasAllMerge writers bytes job j = HasAll writers bytes (λ base inputs ms. HasSources bytes base.version inputs ms) job j

-- Whatever keeps no block that doesn't stand, as a reader that has kept none yet, fits its sources: look-ups by it are told.
abbrev pub FitsReaders : {W H R : Type 0} → (H → Option (List ℕ)) → {g : _} → Job (Base H R) H W g → Type 0
FitsReaders {R = R} bytes job =
    (reader : BlockReader R) → ((files : Files) → AreKept files reader) → bases.Fits bytes job.base.version reader

-- a merge that was planned is that of the ruling: what it does is said beside this
abbrev pub plan_outcome : {J E : Type 0} → Option laid_job.Job → Result (Option J) E → Outcome (Option laid_job.Job)
plan_outcome planned (Ok (Some job)) = Answered planned
plan_outcome planned (Ok None) = Answered None
plan_outcome planned (Err fail) = NoMemory

-- where a merge was planned it is open, and else what is kept of the open merge stays
abbrev pub OpensMerge : {J E : Type 0} → (old new : Option OpenMerge) → Result (Option J) E → Type 0
OpensMerge old new (Ok (Some job)) = IsJustOpen new
OpensMerge old new (Ok None) = new ≡ old
OpensMerge old new (Err fail) = new ≡ old

-- ---- files

abbrev pub fresh_outcome : {W : Type 0} {g : _} → Result (Lent W g) StepFail → Outcome FreshAnswer
fresh_outcome (Ok file) = Answered (Drawn file.number)
fresh_outcome (Err (fails.Halted name)) = Answered (fresh.Halted (file_of name))
fresh_outcome (Err (fails.Exhausted counter)) = Answered (fresh.Exhausted counter)
fresh_outcome (Err fails.NoMemory) = NoMemory
fresh_outcome (Err (fails.Disk name)) = Failed (file_of name)

-- one call changes a file, where one was made
abbrev pub fresh_effects : {W : Type 0} {g : _} → Result (Lent W g) StepFail → Effects
fresh_effects (Ok file) = record no_effects { calls = 1 }
fresh_effects (Err why) = no_effects

-- ---- what is handed in

-- the numbers of the tables that a job has made, in their order
abbrev pub made_numbers : {V H W : Type 0} {g : _} → Job V H W g → List ℕ
made_numbers {V} {H} {W} {g} job = map (λ (t : Synced W g). t.number) job.made.items

-- ---- installs

abbrev pub install_outcome : {V H W : Type 0} {g : _} → Result (Unit {0}) (InstallFail V H W g) → Outcome InstallAnswer
install_outcome (Ok done) = Answered Installed
install_outcome (Err (install.Halted name)) = Answered (ruling.Halted (file_of name))
install_outcome (Err (install.Raced key number)) = Answered (ruling.Raced key number)
install_outcome (Err (install.Exhausted counter)) = Answered (ruling.Exhausted counter)
install_outcome (Err (install.NoMemory job)) = NoMemory
install_outcome (Err (install.Disk name)) = Failed (file_of name)

-- two calls change a file, where the switch was done
abbrev pub install_effects : {V H W : Type 0} {g : _} → Result (Unit {0}) (InstallFail V H W g) → Effects
install_effects (Ok done) = record no_effects { calls = 2 }
install_effects (Err why) = no_effects
