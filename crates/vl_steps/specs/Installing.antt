-- What an install does, whatever the engine stands for: to the disk, and in memory.
use Rattle.std.specs.Prelude.{◌≡◌, ◌≢◌, ◌⊎◌, ℕ, ◌+◌, ◌-◌, ◌≤◌, ◌<◌, ◌^◌, false, nat_le, true, List, [], ◌∷◌, ◌++◌}
use Rattle.std.specs.Prelude.{length, map, min, Option, None, Some, IsSome, Result, Ok, Err}
use Rattle.std.specs.Arc.{arc_value}
use Rattle.std.specs.List.{AllByRecursion, filter}
use Rattle.std.specs.Option.{ForSome}
use Rattle.vl_back.specs.InstallStaging.{IsStagedInstall, replacing_of}
use Rattle.vl_back.specs.Writing.{IsKept}
use Rattle.vl_back.specs.declared.back.Back.{Back}
use Rattle.vl_back.specs.declared.install.StagedInstall.{StagedInstall}
use Rattle.vl_compact.specs.Laid.{AreLevelsOf}
use Rattle.vl_compact.specs.Places.{HasPlace, first_key}
use Rattle.vl_compact.specs.Progress.{HasAll}
use Rattle.vl_compact.specs.Replacing.{AreReady, HasRoom}
use Rattle.vl_compact.specs.declared.files.Lent.{Lent}
use Rattle.vl_compact.specs.declared.files.Synced.{Synced}
use Rattle.vl_compact.specs.declared.job.Job.{Job}
use Rattle.vl_compact.specs.declared.ready.ReadyLevels.{ReadyLevels}
use Rattle.vl_disk.specs.Calls.{ChangesNothing}
use Rattle.vl_disk.specs.DiskState.{DiskState}
use Rattle.vl_disk.specs.Performs.{FailedAt, calls_on}
use Rattle.vl_disk.specs.declared.errors.Failed.{Failed}
use Rattle.vl_disk.specs.declared.name.Name.TheVariants as names
use Rattle.vl_disk.specs.declared.name.Name.{Name}
use Rattle.vl_disk.specs.declared.watched.Watched.{Ghosts}
use Rattle.vl_disk.specs.declared.writer.Writer.{Ghosts as Writers}
use Rattle.vl_steps.specs.Taking.{StopsTaking, TakesBack}
use Rattle.vl_steps.specs.declared.fails.InstallFail.TheVariants as install
use Rattle.vl_steps.specs.declared.fails.InstallFail.{InstallFail}
use Rattle.vl_steps.specs.declared.install.ReadyInstall.{ReadyInstall}
use Rattle.vl_engine_laws.specs.declared.kept.Core.{Core}
use Rattle.vl_engine_laws.specs.declared.open.OpenMerge.{OpenMerge}
use Rattle.vl_engine_model.specs.Decides.{Otherwise, as_before}
use Rattle.vl_engine_model.specs.Jobs.{AreDistinct, Made}
use Rattle.vl_engine_model.specs.Levels.{replaced}
use Rattle.vl_engine_model.specs.Merging.{gone_after, needless}
use Rattle.vl_engine_model.specs.Rulings.Install.{install_lost}
use Rattle.vl_engine_model.specs.declared.job.Job as laid_job
use Rattle.vl_engine_model.specs.declared.job.Target.{Target}
use Rattle.vl_engine_model.specs.declared.layout.Layout.{Layout}
use Rattle.vl_engine_model.specs.declared.table.Table as laid
use Rattle.vl_manifest.specs.Switching.{Switches}
use Rattle.vl_model.specs.Limits.{max_epoch}
use Rattle.vl_model.specs.Numbers.{has}
use Rattle.vl_model.specs.declared.counter.Counter.TheVariants as counters
use Rattle.vl_model.specs.declared.counter.Counter.{Counter}
use Rattle.vl_table.specs.Tables.{number_of}
use Rattle.vl_version.specs.Bases.{HasSources}
use Rattle.vl_version.specs.Needed.{head_of, is_kept}
use Rattle.vl_version.specs.Replacing.{IsReplaced}
use Rattle.vl_version.specs.declared.base.Base.{Base}

-- ---- what is handed in

-- the numbers of the files that a job has: those of its tables, in their order, and those of its leavings
abbrev pub numbers_in : {V H W : Type 0} {s : _} → Job V H W s → List ℕ
numbers_in {W = W} job =
    map (λ (t : Synced W _). t.number) job.made.items ++ map (λ (f : Lent W _). f.number) job.leavings.items

-- The job has all of its merge. Its files are ones that were lent to the open merge, each with a number of its own. While the
-- engine isn't halted, its writers tell them where the disk tells its files.
pub record IsHandedIn {D V H W : Type 0} (g : Ghosts D) (w : Writers W) (disk : D) (halted : Option Name)
    (merging : Option OpenMerge) {s : _} (job : Job V H W s) : Type 0 where
  pub ended : job.ended ≡ true
  pub merge : OpenMerge
  pub is_open : merging ≡ Some merge
  pub drawn : AllByRecursion (λ (n : ℕ). has n merge.lent.items ≡ true) (numbers_in job)
  pub distinct : AreDistinct (numbers_in job)
  pub tells : halted ≡ None
      → ForSome (g.told disk) (λ _. AllByRecursion (λ (t : Synced W s). IsSome (w.file t.writer)) job.made.items)
  pub leavings_tell : halted ≡ None
      → ForSome (g.told disk) (λ _. AllByRecursion (λ (f : Lent W s). IsSome (w.file f.writer)) job.leavings.items)

-- ---- what is staged

-- the first key of the tables that were made
abbrev pub first_made : {W : Type 0} {s : _} → List (Synced W s) → Option (List ℕ)
first_made [] = None
first_made (t ∷ ts) = Some (arc_value t.shape).footer.first

-- It was staged for the job: the switch by which its tables take the place of its inputs, the levels without these, with room for
-- the tables, and the version but for its levels.
pub record IsReadyFor {H R W : Type 0} (bytes : H → Option (List ℕ)) (w : Writers W) (core : Core H) {s : _}
    (job : Job (Base H R) H W s) (ready : ReadyInstall H) : Type 0 where
  -- the greatest version of a deletion that the merge drops for good
  pub gone : ℕ
  pub gone_is : (j : laid_job.Job) → HasAll w bytes (λ (b : Base H R) inputs ms. HasSources bytes b.version inputs ms) job j
      → gone ≡ gone_after 0 (needless j)
  pub staged : IsStagedInstall core.back (replacing_of core.back (map number_of job.inputs.tables.items)
      (map (λ (t : Synced W s). t.number) job.made.items) ready.levels.level ready.levels.position gone) ready.staged
  pub version : IsReplaced bytes core.version ready.version
  pub levels : (ls : List (List laid.Table)) → AreLevelsOf bytes core.version.behind.levels ls
      → HasPlace job.inputs.target (map number_of job.inputs.tables.items) ls
      → AreReady bytes job.inputs.target (map number_of job.inputs.tables.items) (first_made job.made.items) ls [] ready.levels
  pub room : HasRoom (length job.made.items) ready.levels

-- ---- the disk

module _ {D H W : Type 0} (g : Ghosts D) (bytes : H → Option (List ℕ)) (w : Writers W) where
  -- The tables' files were taken back, and the manifest has the frame.
  pub record InstallsAll {s : _} (made : List (Synced W s)) (manifest : ℕ) (frame : List ℕ) (old new : D)
      (before after : ReadyLevels H) : Type 0 where
    pub mid : D
    pub took : TakesBack g bytes w made [] old mid before after
    pub switches : Switches {T = Unit {0}} {E = Failed} g manifest frame mid new (Ok tt)

  -- The tables' files were taken back, and then it failed at the manifest.
  pub record StopsSwitching {s : _} (made : List (Synced W s)) (manifest : ℕ) (frame : List ℕ) (old new : D)
      (before after : ReadyLevels H) (name : Name) : Type 0 where
    pub mid : D
    pub took : TakesBack g bytes w made [] old mid before after
    pub failed : Failed
    pub switches : Switches {T = Unit {0}} {E = Failed} g manifest frame mid new (Err failed)
    pub name_is : name ≡ names.Manifest manifest

  -- it failed at a table that couldn't be held, or at the manifest
  abbrev pub StopsInstalling : {s : _} → (made : List (Synced W s)) → (manifest : ℕ) → (frame : List ℕ) → (old new : D)
      → (before after : ReadyLevels H) → Name → Type 0
  StopsInstalling made manifest frame old new before after name =
      StopsTaking g w made old new name ⊎ StopsSwitching made manifest frame old new before after name

-- ---- memory

-- the manifest is longer by the frame, and says what was staged
pub record IsBackInstalled (before after : Back) (staged : StagedInstall) : Type 0 where
  pub number : after.manifest.number ≡ before.manifest.number
  pub longer : after.manifest.length ≡ min (before.manifest.length + length staged.edits.frame.items) (2 ^ 64 - 1)
  pub state : after.state ≡ staged.state
  pub next_log : after.next_log ≡ before.next_log
  pub waiting : after.waiting.items ≡ before.waiting.items
  pub version : after.epoch ≡ before.epoch + 1

-- ---- what it came to

-- the tables stand in the place of the inputs
pub record IsInstalled {D H R W : Type 0} (g : Ghosts D) (bytes : H → Option (List ℕ)) (w : Writers W) {s : _}
    (job : Job (Base H R) H W s) (old new : D) (before after : Core H) : Type 0 where
  pub ready : ReadyInstall H
  pub is_ready : IsReadyFor bytes w before job ready
  -- first nothing was changed, while memory was taken
  pub begun : D
  pub unchanged : ChangesNothing g old begun ⊥
  -- the levels behind it
  pub levels : ReadyLevels H
  pub writes : InstallsAll g bytes w job.made.items before.back.manifest.number ready.staged.edits.frame.items begun new
      ready.levels levels
  pub front : after.front ≡ before.front
  pub back : IsBackInstalled before.back after.back ready.staged
  pub active : after.version.active ≡ ready.version.active
  pub frozen : after.version.behind.frozen.items ≡ ready.version.frozen.items
  -- the version let go of logs that it doesn't need
  pub idle : List ℕ
  pub logs : after.version.behind.logs.items
      ≡ filter (is_kept idle (head_of before.front.log.number ready.version.frozen.items) after.version.behind.levels)
      ready.version.logs.items
  pub put : (target : Target) (inputs : List ℕ) (first : Option (List ℕ)) (ls : List (List laid.Table)) (new_ones : List laid.Table)
      → AreReady bytes target inputs first ls new_ones levels → first_key new_ones ≡ first
      → AreLevelsOf bytes after.version.behind.levels (replaced target inputs new_ones ls)

-- it failed at this file, which halts
pub record IsUninstalled {D H R W : Type 0} (g : Ghosts D) (bytes : H → Option (List ℕ)) (w : Writers W) {s : _}
    (job : Job (Base H R) H W s) (old new : D) (before after : Core H) (name : Name) : Type 0 where
  pub ready : ReadyInstall H
  pub is_ready : IsReadyFor bytes w before job ready
  pub begun : D
  pub unchanged : ChangesNothing g old begun ⊥
  pub levels : ReadyLevels H
  pub stops : StopsInstalling g bytes w job.made.items before.back.manifest.number ready.staged.edits.frame.items begun new
      ready.levels levels name
  pub front : after.front ≡ record before.front { halted = Some name }
  pub epoch : after.back.epoch ≡ before.back.epoch
  pub state : after.back.state ≡ before.back.state
  pub version : after.version ≡ before.version

-- so it is with what an install answers that nothing stands against
abbrev pub InstallsAs : {D H R W : Type 0} → Ghosts D → (H → Option (List ℕ)) → Writers W → {s : _} → Job (Base H R) H W s → (old new : D)
    → (before after : Core H) → Result (Unit {0}) (InstallFail (Base H R) H W s) → Type 0
InstallsAs g bytes w job old new before after (Ok done) = IsInstalled g bytes w job old new before after
InstallsAs g bytes w job old new before after (Err (install.Halted name)) = ⊥
InstallsAs g bytes w job old new before after (Err (install.Raced key number)) = ⊥
InstallsAs g bytes w job old new before after (Err (install.Exhausted counter)) = ⊥
InstallsAs g bytes w job old new before after (Err (install.NoMemory back)) =
    (back ≡ job) × (after ≡ before) × ChangesNothing g old new ⊥
InstallsAs g bytes w job old new before after (Err (install.Disk name)) = IsUninstalled g bytes w job old new before after name

-- No epoch is left, and nothing was done.
pub record IsUsedUp {D H : Type 0} (old new : D) (before after : Core H) (counter : Counter) : Type 0 where
  pub counter_is : counter ≡ counters.Version
  pub used : nat_le max_epoch before.back.epoch ≡ true
  pub disk : new ≡ old
  pub core : after ≡ before

-- an epoch is left
abbrev pub HasVersion : {H : Type 0} → Core H → Type 0
HasVersion core = nat_le max_epoch core.back.epoch ≡ false

-- so it is where an epoch may be wanting, too
abbrev pub InstallsUnraced : {D H R W : Type 0} → Ghosts D → (H → Option (List ℕ)) → Writers W → {s : _} → Job (Base H R) H W s
    → (old new : D) → (before after : Core H) → Result (Unit {0}) (InstallFail (Base H R) H W s) → Type 0
InstallsUnraced g bytes w job old new before after (Ok done) =
    HasVersion before × IsInstalled g bytes w job old new before after
InstallsUnraced g bytes w job old new before after (Err (install.Halted name)) = ⊥
InstallsUnraced g bytes w job old new before after (Err (install.Raced key number)) = ⊥
InstallsUnraced g bytes w job old new before after (Err (install.Exhausted counter)) = IsUsedUp old new before after counter
InstallsUnraced g bytes w job old new before after (Err (install.NoMemory back)) =
    (back ≡ job) × (after ≡ before) × ChangesNothing g old new ⊥
InstallsUnraced g bytes w job old new before after (Err (install.Disk name)) =
    HasVersion before × IsUninstalled g bytes w job old new before after name

-- ---- what is answered

-- the disk failed
abbrev pub InstallFailed : {V H W : Type 0} {s : _} → Result (Unit {0}) (InstallFail V H W s) → Type 0
InstallFailed (Ok done) = ⊥
InstallFailed (Err (install.Halted name)) = ⊥
InstallFailed (Err (install.Raced key number)) = ⊥
InstallFailed (Err (install.Exhausted counter)) = ⊥
InstallFailed (Err (install.NoMemory job)) = ⊥
InstallFailed (Err (install.Disk name)) = Unit {0}

-- nothing was written, and no file was taken back
abbrev pub InstallLeavesDisk : {V H W : Type 0} {s : _} → Result (Unit {0}) (InstallFail V H W s) → Type 0
InstallLeavesDisk (Ok done) = ⊥
InstallLeavesDisk (Err (install.Halted name)) = Unit {0}
InstallLeavesDisk (Err (install.Raced key number)) = Unit {0}
InstallLeavesDisk (Err (install.Exhausted counter)) = Unit {0}
InstallLeavesDisk (Err (install.NoMemory job)) = Unit {0}
InstallLeavesDisk (Err (install.Disk name)) = ⊥

-- Want of memory hands the job back as it was, and the merge stays open. Each other answer ends it.
abbrev pub HandsBack : {V H W : Type 0} {s : _} → Job V H W s → (old new : Option OpenMerge) → Result (Unit {0}) (InstallFail V H W s)
    → Type 0
HandsBack job old new (Ok done) = new ≡ None
HandsBack job old new (Err (install.Halted name)) = new ≡ None
HandsBack job old new (Err (install.Raced key number)) = new ≡ None
HandsBack job old new (Err (install.Exhausted counter)) = new ≡ None
HandsBack job old new (Err (install.NoMemory back)) = (back ≡ job) × (new ≡ old)
HandsBack job old new (Err (install.Disk name)) = new ≡ None

-- It failed at this file, by this count of changing calls before and behind it.
pub data StopsInstall {V H W : Type 0} {s : _} (job : Job V H W s) (manifest before now : ℕ) (name : Name) : Type 0 where
  -- at one of the job's tables, which are taken back by no changing call
  at_table : (n : ℕ) → name ≡ names.Table n → has n (map (λ (t : Synced W _). t.number) job.made.items) ≡ true → now ≡ before
      → StopsInstall job manifest before now name
  -- at the manifest: of two calls on it the last that was made failed
  at_manifest : FailedAt (calls_on 2 (names.Manifest manifest)) before now name → StopsInstall job manifest before now name

-- where it may fail: nothing failed before, and an epoch is left
pub record MayInstall {H : Type 0} (core : Core H) : Type 0 where
  pub running : core.front.halted ≡ None
  pub version : core.back.epoch < max_epoch

-- By then it was staged, and some of the job's tables were taken back, or all, and then named in part.
pub record WritesInstall {D H R W : Type 0} (g : Ghosts D) (bytes : H → Option (List ℕ)) (w : Writers W) {s : _}
    (job : Job (Base H R) H W s) (core : Core H) (old new : D) : Type 0 where
  pub ready : ReadyInstall H
  pub is_ready : IsReadyFor bytes w core job ready
  pub begun : D
  pub unchanged : ChangesNothing g old begun ⊥
  pub levels : ReadyLevels H
  pub name : Name
  pub stops : StopsInstalling g bytes w job.made.items core.back.manifest.number ready.staged.edits.frame.items begun new
      ready.levels levels name

-- Where the tables were put in, it was staged; then all of them were taken back, and the manifest has the frame that names them.
pub record IsInstallWritten {D H R W : Type 0} (g : Ghosts D) (bytes : H → Option (List ℕ)) (w : Writers W) {s : _}
    (job : Job (Base H R) H W s) (core : Core H) (old new : D) : Type 0 where
  pub ready : ReadyInstall H
  pub is_ready : IsReadyFor bytes w core job ready
  -- first nothing was changed, while memory was taken
  pub begun : D
  pub unchanged : ChangesNothing g old begun ⊥
  -- the levels behind it
  pub levels : ReadyLevels H
  pub writes : InstallsAll g bytes w job.made.items core.back.manifest.number ready.staged.edits.frame.items begun new
      ready.levels levels

-- No file comes or goes but the job's tables.
abbrev pub KeepsAllBut : List ℕ → (old new : Option DiskState) → Type 0
KeepsAllBut tables old new = (before now : DiskState) → old ≡ Some before → new ≡ Some now → (name : Name)
    → ((n : ℕ) → has n tables ≡ true → name ≢ names.Table n) → IsKept name before now

-- ---- in memory, by what is answered

-- A version is made, which has one epoch more, and no number is drawn. What decides on commits stays. Of what steps on files
-- need, the manifest's number, those of the next log and the next table, and the logs that wait stay.
pub record MakesVersion {H : Type 0} (before after : Core H) : Type 0 where
  pub running : before.front.halted ≡ None
  pub front : after.front ≡ before.front
  pub epoch : after.back.epoch ≡ before.back.epoch + 1
  pub manifest : after.back.manifest.number ≡ before.back.manifest.number
  pub next_log : after.back.next_log ≡ before.back.next_log
  pub next_table : after.back.state.next_table ≡ before.back.state.next_table
  pub waiting : after.back.waiting.items ≡ before.back.waiting.items

-- No epoch is left, and nothing changes.
pub record HasNoVersion {H : Type 0} (before after : Core H) (counter : Counter) : Type 0 where
  pub running : before.front.halted ≡ None
  pub counter_is : counter ≡ counters.Version
  pub used : max_epoch ≤ before.back.epoch
  pub same : after ≡ before

-- A fault halts at this file. What is read, and the state that the engine keeps of its manifest, are as before.
pub record HaltsInstall {H : Type 0} (before after : Core H) (name : Name) : Type 0 where
  pub running : before.front.halted ≡ None
  pub front : after.front ≡ record before.front { halted = Some name }
  pub epoch : after.back.epoch ≡ before.back.epoch
  pub state : after.back.state ≡ before.back.state
  pub version : after.version ≡ before.version

-- what is kept in memory beside the open merge: it says why it refuses, and a fault halts
abbrev pub InstallsCore : {V H W : Type 0} {s : _} → (before after : Core H) → Result (Unit {0}) (InstallFail V H W s) → Type 0
InstallsCore before after (Ok done) = MakesVersion before after
InstallsCore before after (Err (install.Halted name)) = (before.front.halted ≡ Some name) × (after ≡ before)
InstallsCore before after (Err (install.Raced key number)) = (before.front.halted ≡ None) × (after ≡ before)
InstallsCore before after (Err (install.Exhausted counter)) = HasNoVersion before after counter
InstallsCore before after (Err (install.NoMemory job)) = after ≡ before
InstallsCore before after (Err (install.Disk name)) = HaltsInstall before after name

-- what is left without an answer
abbrev pub install_otherwise : Layout → Made → Otherwise
install_otherwise l made = as_before l (install_lost made l)
