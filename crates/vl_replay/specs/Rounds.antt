-- One round of a merge that is carried out beside the engine: it reads on up to the next table, is lent a file for that, and fills it.
use Rattle.std.specs.Prelude.{◌≡◌, ◌<◌, ◌≤◌, ◌++◌, ℕ, List, [], ◌∷◌, length, Option, Some, Result, Ok, Err, IsSome}
use Rattle.std.specs.List.{AllByRecursion}
use Rattle.std.specs.Option.{ForSome}
use Rattle.vl_compact.specs.Reading.{IsSure}
use Rattle.vl_compact.specs.declared.files.Synced.{Synced}
use Rattle.vl_compact.specs.declared.job.Job.{Job as TheJob}
use Rattle.vl_compact.specs.declared.job_reader.JobReader.{JobReader}
use Rattle.vl_disk.specs.DiskState.{DiskState}
use Rattle.vl_disk.specs.declared.name.Name.TheVariants.{Table}
use Rattle.vl_disk.specs.declared.watched.Watched.{Ghosts}
use Rattle.vl_disk.specs.declared.writer.Writer.{Ghosts as Writers}
use Rattle.vl_steps.specs.Merging.{HasAllMerge, HasMerge, made_numbers}
use Rattle.vl_steps.specs.declared.fails.StepFail.{StepFail}
use Rattle.vl_steps.specs.declared.fails.StepFail.TheVariants as fails
use Rattle.vl_engine_laws.specs.declared.kept.Core.{Core}
use Rattle.vl_engine_laws.specs.declared.open.OpenMerge.{OpenMerge}
use Rattle.vl_engine_model.specs.Jobs.{AreDistinct}
use Rattle.vl_engine_model.specs.Merging.{outputs}
use Rattle.vl_engine_model.specs.Rulings.Fresh.{drawn}
use Rattle.vl_engine_model.specs.declared.job.Job.{Job}
use Rattle.vl_engine_model.specs.declared.layout.Layout.{Layout}
use Rattle.vl_model.specs.Limits.{max_file_number}
use Rattle.vl_model.specs.declared.counter.Counter.TheVariants as counters
use Rattle.vl_table.specs.declared.block_reader.BlockReader.{BlockReader}
use Rattle.vl_disk.specs.declared.read_fault.ReadFault.{ReadFault}
use Rattle.vl_disk.specs.declared.read_fault.ReadFault.TheVariants as faults
use Rattle.vl_version.specs.Bases.{Fits}
use Rattle.vl_version.specs.declared.base.Base.{Base}
use Rattle.vl_replay_laws.specs.Drawn.{DrawsOn, IsServing, drawn_state}
use Rattle.vl_script_model.specs.Durable.{HoldsState}
use Rattle.vl_script_model.specs.Halts.{HaltsByDisk}
use Rattle.vl_script_model.specs.Sequential.{State}
use Rattle.vl_script_model.specs.Stored.{IsStored}
use Rattle.vl_replay.specs.declared.tables.Round.{Round}
use Rattle.vl_replay.specs.declared.tables.Round.TheVariants as rounds
use Rattle.vl_script_model.specs.declared.fails.Halt.{Halt}
use Rattle.vl_script_model.specs.declared.fails.Halt.TheVariants as halts

-- ---- how a line ends

-- whose merge couldn't read, or couldn't write beside the disk
abbrev pub halt_by : ReadFault → Halt
halt_by faults.NoMemory = halts.NoMemory
halt_by (faults.Disk name) = halts.Read name
halt_by (faults.Damaged name place) = halts.Damaged name place

-- whose merge was lent no file
abbrev pub round_by : StepFail → Result Round Halt
round_by (fails.Exhausted counter) = Ok (rounds.Exhausted counter)
round_by fails.NoMemory = Err halts.NoMemory
round_by (fails.Disk name) = Err (halts.Disk name)
round_by (fails.Halted name) = Err (halts.Halted name)

-- ---- what never fails

-- neither what the disk gives, nor what reads for the merge
pub record MergesSurely {D R : Type 0} (g : Ghosts D) (faults : R → ℕ) (disk : D) (reader : JobReader R (BlockReader R)) : Type 0 where
  pub gives : g.gives_steady disk
  pub reads : IsSure (λ (l : BlockReader R). faults l.reader) faults reader

-- ---- its files

-- The merge is open. Each of its files became a table, and they are those that were lent to it, each with a number of its own.
-- Where the disk tells its files, their writers tell them.
pub record HasLent {D V H W : Type 0} (g : Ghosts D) (writers : Writers W) (disk : D) (merging : Option OpenMerge) {k : _}
    (job : TheJob V H W k) : Type 0 where
  pub merge : OpenMerge
  pub is_open : merging ≡ Some merge
  pub files : made_numbers job ≡ merge.lent.items
  pub no_leavings : job.leavings.items ≡ []
  pub distinct : AreDistinct merge.lent.items
  pub tells : ForSome (g.told disk) (λ _. AllByRecursion (λ (t : Synced W k). IsSome (writers.file t.writer)) job.made.items)

-- so it is still, where a table more was made, or it has all of them
abbrev pub StillLent : (lent ended : Type 0) → Result Round Halt → Type 0
StillLent lent ended (Ok rounds.Made) = lent
StillLent lent ended (Ok rounds.Ended) = lent × ended
StillLent lent ended (Ok (rounds.Exhausted counter)) = Unit {0}
StillLent lent ended (Err halt) = Unit {0}

-- what is so of the layout behind it: one that gave a number more where a table was made, and else the same
abbrev pub RoundLeaves : (Layout → Type 0) → Layout → Result Round Halt → Type 0
RoundLeaves leaves l (Ok rounds.Made) = leaves (drawn l)
RoundLeaves leaves l (Ok rounds.Ended) = leaves l
RoundLeaves leaves l (Ok (rounds.Exhausted counter)) = leaves l
RoundLeaves leaves l (Err halt) = Unit {0}

-- ---- what it comes to

-- The engine stands for the state, and the merge has come so far with what the job says, with a reader that reads what stands.
pub record IsUnderWay {H R W : Type 0} (writers : Writers W) (bytes : H → Option (List ℕ)) (told : Option DiskState) (core : Core H)
    (merging : Option OpenMerge) {k : _} (job : TheJob (Base H R) H W k) (reader : JobReader R (BlockReader R)) (s : State) (j : Job)
    : Type 0 where
  pub serves : IsServing bytes told core merging s
  pub has : HasMerge writers bytes job j
  pub fits : Fits bytes job.base.version reader.looks

-- it has made a table more, of this number
pub record MakesOne {H R W : Type 0} (writers : Writers W) (bytes : H → Option (List ℕ)) {k : _} (before after : TheJob (Base H R) H W k)
    (reader : JobReader R (BlockReader R)) (j : Job) (number : ℕ) : Type 0 where
  pub has : HasMerge writers bytes after j
  pub fits : Fits bytes after.base.version reader.looks
  pub numbers : made_numbers after ≡ made_numbers before ++ number ∷ []
  pub leavings : after.leavings.items ≡ before.leavings.items

-- it has all of them
pub record HasThem {H R W : Type 0} (writers : Writers W) (bytes : H → Option (List ℕ)) {k : _} (before after : TheJob (Base H R) H W k)
    (j : Job) : Type 0 where
  pub has : HasAllMerge writers bytes after j
  pub merge : HasMerge writers bytes after j
  pub numbers : made_numbers after ≡ made_numbers before
  pub leavings : after.leavings.items ≡ before.leavings.items

-- what is said of its end, where so many numbers were drawn
abbrev pub EndsRound : {H R W : Type 0} → Writers W → (H → Option (List ℕ)) → {k : _} → (before after : TheJob (Base H R) H W k)
    → JobReader R (BlockReader R) → State → Job → (count : ℕ) → Result Round Halt → Type 0
EndsRound writers bytes before after reader s j count (Ok rounds.Made) =
    (count ≡ 1) × MakesOne writers bytes before after reader j s.store.layout.next_table
EndsRound writers bytes before after reader s j count (Ok rounds.Ended) = (count ≡ 0) × HasThem writers bytes before after j
EndsRound writers bytes before after reader s j count (Ok (rounds.Exhausted counter)) =
    (count ≡ 0) × (length before.made.items < length (outputs j)) × (counter ≡ counters.Table)
    × (max_file_number < s.store.layout.next_table) × HasMerge writers bytes after j
    × (made_numbers after ≡ made_numbers before) × (after.leavings.items ≡ before.leavings.items)
EndsRound writers bytes before after reader s j count (Err halts.NoMemory) = Unit {0}
EndsRound writers bytes before after reader s j count (Err (halts.Disk file)) =
    (count ≡ 0) × (length before.made.items < length (outputs j)) × (s.store.layout.next_table ≤ max_file_number)
    × (file ≡ Table s.store.layout.next_table)
EndsRound writers bytes before after reader s j count (Err (halts.Read file)) = Unit {0}
EndsRound writers bytes before after reader s j count (Err (halts.Halted file)) = ⊥
EndsRound writers bytes before after reader s j count (Err (halts.Damaged file place)) = ⊥

-- A round of a merge that was under way in this state.
pub record Rounds {D H R W : Type 0} (g : Ghosts D) (writers : Writers W) (bytes : H → Option (List ℕ)) (old new : D) (core : Core H)
    (merging : Option OpenMerge) {k : _} (before after : TheJob (Base H R) H W k) (reader : JobReader R (BlockReader R)) (s : State)
    (j : Job) (result : Result Round Halt) : Type 0 where
  -- how many numbers were drawn: one for a table that is missing, which a file may have, or none
  pub count : ℕ
  pub one : count ≤ 1
  pub wanted : count ≡ 1 → length before.made.items < length (outputs j)
  pub fits : count ≡ 1 → s.store.layout.next_table ≤ max_file_number
  -- unless the disk failed the engine stands for the state with these
  pub serves : (HaltsByDisk result → ⊥) → IsServing bytes (g.told new) core merging (drawn_state count s)
  pub ends : EndsRound writers bytes before after reader s j count result
  -- a disk that held the state went along
  pub disk : HoldsState g IsStored s old → DrawsOn g old new s count result
