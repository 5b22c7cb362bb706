-- A merge that is carried out beside the engine that planned it.
use Rattle.std.specs.Prelude.{◌≡◌, ℕ, true, Option, None, Some, IsSome}
use Rattle.std.specs.List.{AllByRecursion}
use Rattle.std.specs.Option.{ForSome}
use Rattle.vl_compact.specs.declared.files.Lent.{Lent}
use Rattle.vl_compact.specs.declared.files.Synced.{Synced}
use Rattle.vl_compact.specs.declared.job.Job.{Job}
use Rattle.vl_disk.specs.declared.name.Name.{Name}
use Rattle.vl_disk.specs.declared.watched.Watched.{Ghosts}
use Rattle.vl_disk.specs.declared.writer.Writer.{Ghosts as Writers}
use Rattle.vl_steps.specs.Installing.{numbers_in}
use Rattle.vl_space.specs.Pinning.{merge_pinned}
use Rattle.vl_space.specs.Retiring.{LeavesFiles, files_in}
use Rattle.vl_steps.specs.declared.fails.InstallFail.{InstallFail}
use Rattle.vl_steps.specs.declared.fails.InstallFail.TheVariants as install
use Rattle.vl_engine_laws.specs.declared.open.OpenMerge.{OpenMerge}
use Rattle.vl_space.specs.declared.kept.Removing.{Removing}
use Rattle.vl_engine_model.specs.Jobs.{AreDistinct}
use Rattle.vl_model.specs.Numbers.{has}

-- What an install asks of a job that has all of its merge is so of it, but that it may have more to make: its files are ones that
-- were lent to the open merge, each with a number of its own, and while the engine isn't halted, its writers tell them where the
-- disk tells its files.
pub record IsUnderWay {D V H W : Type 0} (g : Ghosts D) (w : Writers W) (disk : D) (halted : Option Name)
    (merging : Option OpenMerge) {s : _} (job : Job V H W s) : Type 0 where
  pub merge : OpenMerge
  pub is_open : merging ≡ Some merge
  pub drawn : AllByRecursion (λ (n : ℕ). has n merge.lent.items ≡ true) (numbers_in job)
  pub distinct : AreDistinct (numbers_in job)
  pub tells : halted ≡ None
      → ForSome (g.told disk) (λ _. AllByRecursion (λ (t : Synced W s). IsSome (w.file t.writer)) job.made.items)
  pub leavings_tell : halted ≡ None
      → ForSome (g.told disk) (λ _. AllByRecursion (λ (f : Lent W s). IsSome (w.file f.writer)) job.leavings.items)

-- So it is of a job that an install handed back.
abbrev pub IfHandedBack : {D V H W : Type 0} → Ghosts D → Writers W → D → Option Name → Option OpenMerge → {s : _}
    → InstallFail V H W s → Type 0
IfHandedBack g w disk halted merging (install.Halted name) = Unit {0}
IfHandedBack g w disk halted merging (install.Raced key number) = Unit {0}
IfHandedBack g w disk halted merging (install.Exhausted counter) = Unit {0}
IfHandedBack g w disk halted merging (install.NoMemory job) = IsUnderWay g w disk halted merging job
IfHandedBack g w disk halted merging (install.Disk name) = Unit {0}

-- It is given up then, and its files wait for their removal.
abbrev pub GivesUp : {V H W : Type 0} {s : _} → InstallFail V H W s → (old new : Removing (Lent W s))
    → (merging after : Option OpenMerge) → Type 0
GivesUp (install.Halted name) old new merging after = (new ≡ old) × (after ≡ merging)
GivesUp (install.Raced key number) old new merging after = (new ≡ old) × (after ≡ merging)
GivesUp (install.Exhausted counter) old new merging after = (new ≡ old) × (after ≡ merging)
GivesUp (install.NoMemory job) old new merging after =
    (new.pins ≡ (merge_pinned None old).pins) × LeavesFiles (files_in job) old.stock new.stock × (after ≡ None)
GivesUp (install.Disk name) old new merging after = (new ≡ old) × (after ≡ merging)
