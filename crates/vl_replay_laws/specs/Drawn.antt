-- A merge that is carried out beside the engine, and what it does to the engine, which gives its tables their numbers and files.
use Rattle.std.specs.Prelude.{◌≡◌, ◌⊎◌, ◌+◌, ◌<◌, ◌≤◌, ℕ, zero, suc, List, [], ◌∷◌, length, Option, None, Some, Result, Ok, Err, IsTrue}
use Rattle.vl_compact.specs.Progress.{made_of}
use Rattle.vl_compact.specs.declared.job.Job.{Job as TheJob}
use Rattle.vl_disk.specs.DiskState.{DiskState}
use Rattle.vl_disk.specs.Faults.{after_calls}
use Rattle.vl_disk.specs.declared.name.Name.TheVariants.{Table}
use Rattle.vl_disk.specs.declared.watched.Watched.{Ghosts}
use Rattle.vl_disk.specs.declared.writer.Writer.{Ghosts as Writers}
use Rattle.vl_engine_laws.specs.Lent.{Opens}
use Rattle.vl_steps.specs.Merging.{FitsReaders, HasAllMerge, HasMerge}
use Rattle.vl_engine_laws.specs.Represents as engine
use Rattle.vl_engine_laws.specs.Represents.{IsHeld}
use Rattle.vl_engine_laws.specs.Shown.{Shown}
use Rattle.vl_engine_laws.specs.MayStep.{Fits}
use Rattle.vl_engine_laws.specs.declared.kept.Core.{Core}
use Rattle.vl_engine_laws.specs.declared.open.OpenMerge.{OpenMerge}
use Rattle.vl_engine_model.specs.Jobs.{tables_made}
use Rattle.vl_engine_model.specs.Merging.{outputs}
use Rattle.vl_engine_model.specs.Rulings.Fresh.{drawn}
use Rattle.vl_engine_model.specs.declared.job.Job.{Job}
use Rattle.vl_engine_model.specs.declared.job.OpenJob.{OpenJob}
use Rattle.vl_engine_model.specs.declared.layout.Layout.{Layout}
use Rattle.vl_model.specs.Limits.{max_file_number}
use Rattle.vl_model.specs.declared.counter.Counter.{Counter}
use Rattle.vl_model.specs.declared.counter.Counter.TheVariants as counters
use Rattle.vl_recover.specs.crash.Starts.{MayOpen}
use Rattle.vl_version.specs.declared.base.Base.{Base}
use Rattle.vl_script_model.specs.Between.{HasPassed}
use Rattle.vl_script_model.specs.Durable.{CrashesShow, HoldsState, Tells}
use Rattle.vl_script_model.specs.Halts.{HaltsByDisk}
use Rattle.vl_script_model.specs.Sequential.{State, history_of}
use Rattle.vl_script_model.specs.Stopped.{StopsStep}
use Rattle.vl_script_model.specs.Stored.{IsStored}
use Rattle.vl_script_model.specs.declared.fails.Halt.{Halt}
use Rattle.vl_script_model.specs.declared.fails.Halt.TheVariants as halts

-- ---- the layout

-- so many numbers, from this one on
abbrev pub numbers_from : (first count : ℕ) → List ℕ
numbers_from first zero = []
numbers_from first (suc n) = first ∷ numbers_from (first + 1) n

-- a layout that gave so many numbers more to its open merge
abbrev pub drawn_all : ℕ → Layout → Layout
drawn_all zero l = l
drawn_all (suc n) l = drawn_all n (drawn l)

-- the state with that layout; each number takes a changing call, and makes a file
abbrev pub drawn_state : ℕ → State → State
drawn_state n s = record s {
  store = record s.store { layout = drawn_all n s.store.layout };
  calls = after_calls n s.calls;
  files = s.files + n;
}

-- ---- the engine

-- The engine stands for the state, and its open merge is the layout's; the disk holds it, where a store might be opened on it.
pub record IsServing {H : Type 0} (bytes : H → Option (List ℕ)) (told : Option DiskState) (core : Core H) (merging : Option OpenMerge)
    (s : State) : Type 0 where
  pub stands : engine.StandsFor bytes core (history_of s) s.store.layout
  pub opens : Opens merging s.store.layout.job
  pub held : IsTrue s.openable → IsHeld core.back told (history_of s) s.store.layout
  pub running : s.store.layout.halted ≡ None
  pub fits : Fits told core (history_of s) s.store.layout
  pub within : core.back.state.next_log ≤ core.back.next_log

-- ---- a merge

-- The merge was just planned in this state, and has made nothing yet.
pub record IsPlanned {H R W : Type 0} (writers : Writers W) (bytes : H → Option (List ℕ)) (told : Option DiskState) (core : Core H)
    (merging : Option OpenMerge) {g : _} (job : TheJob (Base H R) H W g) (s : State) (j : Job) : Type 0 where
  pub serves : IsServing bytes told core merging s
  pub open_job : OpenJob
  pub is_open : s.store.layout.job ≡ Some open_job
  pub same : open_job.job ≡ j
  pub lent : open_job.lent ≡ []
  pub unmoved : open_job.moved ≡ []
  pub has : HasMerge writers bytes job j
  -- look-ups by a reader that has kept nothing yet are told
  pub looks : FitsReaders bytes job

-- ---- how it ends

-- It has all of its tables, with numbers from the first one on.
pub record HasTablesFrom {H R W : Type 0} (writers : Writers W) (bytes : H → Option (List ℕ)) {g : _} (job : TheJob (Base H R) H W g)
    (j : Job) (first : ℕ) : Type 0 where
  pub has : HasAllMerge writers bytes job j
  pub merge : HasMerge writers bytes job j
  pub made : made_of job j ≡ record { tables = tables_made (numbers_from first (length (outputs j))) (outputs j); leavings = [] }

-- what is said of its ending, where so many numbers were drawn
abbrev pub EndsMerging : {H R W : Type 0} → Writers W → (H → Option (List ℕ)) → {g : _} → TheJob (Base H R) H W g → State → Job
    → (count : ℕ) → Result (Option Counter) Halt → Type 0
-- it has all of its tables
EndsMerging writers bytes job s j count (Ok None) =
    (count ≡ length (outputs j)) × HasTablesFrom writers bytes job j s.store.layout.next_table
-- no number is left for the next one
EndsMerging writers bytes job s j count (Ok (Some counter)) =
    (count < length (outputs j)) × (counter ≡ counters.Table) × (max_file_number < s.store.layout.next_table + count)
    × HasMerge writers bytes job j
    × (made_of job j ≡ record { tables = tables_made (numbers_from s.store.layout.next_table count) (outputs j); leavings = [] })
EndsMerging writers bytes job s j count (Err halts.NoMemory) = Unit {0}
-- the disk failed at its file
EndsMerging writers bytes job s j count (Err (halts.Disk file)) =
    (count < length (outputs j)) × (s.store.layout.next_table + count ≤ max_file_number)
    × (file ≡ Table (s.store.layout.next_table + count))
EndsMerging writers bytes job s j count (Err (halts.Read file)) = Unit {0}
-- the engine wasn't halted
EndsMerging writers bytes job s j count (Err (halts.Halted file)) = ⊥
-- nothing that it reads is damaged
EndsMerging writers bytes job s j count (Err (halts.Damaged file place)) = ⊥

-- What it did to a disk that held the state, where so many numbers were drawn.
pub record DrawsOn {D T : Type 0} (g : Ghosts D) (old new : D) (s : State) (count : ℕ) (result : Result T Halt) : Type 0 where
  -- unless it failed it holds the state with these;
  pub held : (HaltsByDisk result → ⊥) → HoldsState g IsStored (drawn_state count s) new
  -- a store may be opened on it, also where it failed;
  pub tells : Tells g new MayOpen
  -- what a crash meanwhile leaves shows the history;
  pub through : CrashesShow g Shown old new (history_of s) (history_of s)
  -- so many calls passed before one that failed, which was the next one;
  pub passed : HaltsByDisk result → HasPassed g old (after_calls count s.calls)
  pub calls : HaltsByDisk result → g.calls new ≡ after_calls (count + 1) s.calls
  -- and where it fails cleanly the step was stopped there
  pub stopped : HaltsByDisk result → IsTrue g.fails_cleanly
      → (now : DiskState) × (g.told new ≡ Some now) × StopsStep Shown s s count now

-- A merge that was just planned in this state was carried out, or stopped.
pub record Merged {D H R W : Type 0} (g : Ghosts D) (writers : Writers W) (bytes : H → Option (List ℕ)) (old new : D) (core : Core H)
    (merging : Option OpenMerge) {k : _} (job : TheJob (Base H R) H W k) (s : State) (j : Job) (result : Result (Option Counter) Halt)
    : Type 0 where
  -- so many numbers were drawn, each one that a file may have
  pub count : ℕ
  pub few : count ≤ length (outputs j)
  pub fits : count ≡ 0 ⊎ (s.store.layout.next_table + count ≤ max_file_number + 1)
  -- and unless the disk failed the engine stands for the state with these
  pub serves : (HaltsByDisk result → ⊥) → IsServing bytes (g.told new) core merging (drawn_state count s)
  pub ends : EndsMerging writers bytes job s j count result
  -- a disk that held the state went along
  pub disk : HoldsState g IsStored s old → DrawsOn g old new s count result
