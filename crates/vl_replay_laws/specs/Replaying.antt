-- For which state an engine, its names and the merge that waits stand, and what a line leaves.
use Rattle.std.specs.Prelude.{◌≡◌, ◌≤◌, ◌+◌, ℕ, List, Option, None, Some, Result, IfOk, IfErr, IsTrue}
use Rattle.vl_disk.specs.DiskState.{DiskState}
use Rattle.vl_disk.specs.Faults.{after_calls}
use Rattle.vl_engine_laws.specs.Represents as engine
use Rattle.vl_engine_laws.specs.Represents.{IsHeld}
use Rattle.vl_engine_laws.specs.MayStep.{Fits}
use Rattle.vl_engine_laws.specs.declared.kept.Core.{Core}
use Rattle.vl_compact.specs.Progress.{made_of}
use Rattle.vl_compact.specs.declared.job.Job.{Job as TheJob}
use Rattle.vl_disk.specs.declared.writer.Writer.{Ghosts as Writers}
use Rattle.vl_engine_laws.specs.Lent.{Opens}
use Rattle.vl_steps.specs.Merging.{HasAllMerge, HasMerge}
use Rattle.vl_space.specs.Removing.{Removes}
use Rattle.vl_engine_laws.specs.declared.open.OpenMerge.{OpenMerge}
use Rattle.vl_engine_model.specs.Jobs.{AreLent, Made}
use Rattle.vl_engine_model.specs.Store.Lines.{Name}
use Rattle.vl_engine_model.specs.Store.Things as things
use Rattle.vl_engine_model.specs.Store.Things.{AJob, Step, Thing, thing_in}
use Rattle.vl_engine_model.specs.declared.job.Job.{Job}
use Rattle.vl_engine_model.specs.declared.job.OpenJob.{OpenJob}
use Rattle.vl_engine_model.specs.declared.layout.Layout.{Layout}
use Rattle.vl_version.specs.declared.base.Base.{Base}
use Rattle.vl_script_model.specs.Sequential.{IsPrinted, State, files_behind, history_of}
use Rattle.vl_replay_laws.specs.Standing.{Stand}
use Rattle.vl_script_model.specs.declared.fails.Halt.{Halt}
use Rattle.vl_script_model.specs.declared.fails.Halt.TheVariants.{NoMemory}
use Rattle.vl_replay_laws.specs.declared.open.Open.{Open}
use Rattle.vl_script.specs.declared.answer.Answer.{Answer}
use Rattle.vl_replay_laws.specs.declared.planned.Planned.{Planned}
use Rattle.vl_script_model.specs.laws.Laws.{IsSound}

-- The engine stands for the state's layout and history, and its names for what they stand for there. So it is over a disk that
-- tells this, which holds the layout where a store might be opened on it at first.
pub record StandsIn {H R : Type 0} (bytes : H → Option (List ℕ)) (told : Option DiskState) (core : Core H) (opens : List (Open H R))
    (s : State) : Type 0 where
  pub engine : engine.StandsFor bytes core (history_of s) s.store.layout
  pub names : Stand bytes opens s.store.things (history_of s) s.store.layout
  pub sound : IsSound s
  pub held : IsTrue s.openable → IsHeld core.back told (history_of s) s.store.layout
  -- it isn't halted, and steps on files find what they ask: the next log has a number that the manifest still gives
  pub running : s.store.layout.halted ≡ None
  pub fits : Fits told core (history_of s) s.store.layout
  pub within : core.back.state.next_log ≤ core.back.next_log

-- the name stands for no merge
abbrev pub NamesNoMerge : Name → State → Type 0
NamesNoMerge name s = (job : Job) (made : Made) → thing_in s.store.things name ≡ Some (AJob job made) → ⊥

-- ---- the merge that waits for its install

-- It is the open one, and has all of its merge. Its name stands for it in the state, with the tables that it made, which were lent
-- to it; and no other name stands for a merge.
pub record IsWaiting {W H R : Type 0} (writers : Writers W) (bytes : H → Option (List ℕ)) {g : _} (planned : Planned (Base H R) H W g)
    (ts : List (Name × Thing)) (l : Layout) : Type 0 where
  pub open_job : OpenJob
  pub is_open : l.job ≡ Some open_job
  pub has : HasAllMerge writers bytes planned.job open_job.job
  pub merge : HasMerge writers bytes planned.job open_job.job
  pub there : thing_in ts planned.name ≡ Some (AJob open_job.job (made_of planned.job open_job.job))
  pub only : (name : Name) (job : Job) (made : Made) → thing_in ts name ≡ Some (AJob job made) → name ≡ planned.name
  pub lent : AreLent open_job.lent (made_of planned.job open_job.job)

-- so it is with the one that waits; and where none does, none is open, and no name stands for one
abbrev pub Waits : {W H R : Type 0} → Writers W → (H → Option (List ℕ)) → {g : _} → Option (Planned (Base H R) H W g)
    → List (Name × Thing) → Layout → Type 0
Waits writers bytes None ts l = (l.job ≡ None) × ((name : Name) (job : Job) (made : Made) → thing_in ts name ≡ Some (AJob job made) → ⊥)
Waits writers bytes (Some planned) ts l = IsWaiting writers bytes planned ts l

-- The merge that waits was taken out where it has this name, and else all stay.
abbrev pub TakesPlanned : {V H W : Type 0} → Name → {g : _} → (old new : Option (Planned V H W g)) → Option (TheJob V H W g) → Type 0
TakesPlanned name None new result = (new ≡ None) × (result ≡ None)
TakesPlanned name (Some planned) new None = (new ≡ Some planned) × (planned.name ≡ name → ⊥)
TakesPlanned name (Some planned) new (Some job) = (new ≡ None) × (planned.name ≡ name) × (job ≡ planned.job)

-- What the engine keeps of the open merge is the layout's job, and what waits is so.
pub record Merges {W H R : Type 0} (writers : Writers W) (bytes : H → Option (List ℕ)) {g : _} (merging : Option OpenMerge)
    (planned : Option (Planned (Base H R) H W g)) (ts : List (Name × Thing)) (l : Layout) : Type 0 where
  pub opens : Opens merging l.job
  pub waits : Waits writers bytes planned ts l

-- so it is in this state of the store
abbrev pub MergesIn : {W H R : Type 0} → Writers W → (H → Option (List ℕ)) → {g : _} → Option OpenMerge → Option (Planned (Base H R) H W g)
    → things.State → Type 0
MergesIn writers bytes merging planned store = Merges writers bytes merging planned store.things store.layout

-- ---- what a line leaves

abbrev pub state_by : State → Step → State
state_by s x = record s { store = x.state; calls = after_calls x.calls s.calls }

-- so it is with a line that plans a merge, which makes a file by each of its calls
abbrev pub state_by_plan : State → Step → State
state_by_plan s x = record (state_by s x) { files = s.files + x.calls }

-- so it is with a step on files, which may make one
abbrev pub state_by_step : State → Step → State
state_by_step s x = record (state_by s x) { files = files_behind x.answer s.files }

-- a line whose step is this was carried out so: it is told the step's answer, and stands for the state that it leaves, of which it
-- doesn't matter how many files and calls are counted
abbrev pub MakesStep : {H R : Type 0} → (H → Option (List ℕ)) → Option DiskState → Core H → List (Open H R) → State → Step
    → Result Answer Halt → Type 0
MakesStep bytes told core opens s x result =
    IfOk result (λ answer. IsPrinted answer x.answer × StandsIn bytes told core opens (state_by s x))

-- it fails by want of memory alone
abbrev pub OnlyNoMemory : {T : Type 0} → Result T Halt → Type 0
OnlyNoMemory result = IfErr result (λ halt. halt ≡ NoMemory)
