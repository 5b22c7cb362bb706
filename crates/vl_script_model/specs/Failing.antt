-- At which lines a read may fail, and at which files the disk may fail a line.
use Rattle.std.specs.Prelude.{◌≡◌, ◌⊎◌, ◌≤◌, ◌<◌, ℕ, List, length, true, Option, None, Some}
use Rattle.vl_disk.specs.Faults.{HasCounted}
use Rattle.vl_disk.specs.declared.name.Name.{Name}
use Rattle.vl_disk.specs.declared.name.Name.TheVariants.{Log, Manifest, Table}
use Rattle.vl_engine_laws.specs.Represents.{file_of}
use Rattle.vl_engine_model.specs.Jobs.{Made}
use Rattle.vl_engine_model.specs.Sources.{numbers_of}
use Rattle.vl_engine_model.specs.Relocation.{Candidate, Pass}
use Rattle.vl_engine_model.specs.Rulings.Sweep.{swept}
use Rattle.vl_engine_model.specs.Stock.{is_in}
use Rattle.vl_engine_model.specs.Store.Commits.{Changes}
use Rattle.vl_engine_model.specs.Store.Things.{AJob, APass, ATransaction, AView, Thing, thing_of}
use Rattle.vl_engine_model.specs.declared.job.Job.{Job}
use Rattle.vl_model.specs.Keys.{is_key_length}
use Rattle.vl_model.specs.Limits.{max_key_bytes}
use Rattle.vl_model.specs.Numbers.{has}
use Rattle.vl_script.specs.declared.line.Line.{Line}
use Rattle.vl_script.specs.declared.line.Line.TheVariants as lines
use Rattle.vl_script_model.specs.Exchanges.{Exchange, ReadsAt, ScansAt}
use Rattle.vl_script_model.specs.Readers.{IsWithoutTables}
use Rattle.vl_script_model.specs.Sequential.{State, state_after}

-- the store has a table, or one waits for its removal: one that was dropped, or one of a merge that was given up
abbrev pub HasTables : State → Type 0
HasTables s = IsWithoutTables s.store.layout → ⊥

-- a name stands for a pass of which no batch waits: the next one is sought in the pass's log
abbrev pub SeeksRecords : Option Thing → Type 0
SeeksRecords thing = (pass : Pass) × (thing ≡ Some (APass pass None))

-- a name stands for a pass of which a batch waits: its records are looked up before they are moved
abbrev pub MovesRecords : Option Thing → Type 0
MovesRecords thing = (pass : Pass) × (batch : List Candidate) × (thing ≡ Some (APass pass (Some batch)))

-- The key is within the limits, and this reads it from the history: a view, or a transaction that hasn't written it.
abbrev pub AsksForKey : Option Thing → List ℕ → Type 0
AsksForKey thing key = (is_key_length (length key) ≡ true) × ((number : ℕ) × ReadsAt thing key number)

-- this reads from the history, up to a number from this one on
abbrev pub ReadsUpTo : Option Thing → ℕ → Type 0
ReadsUpTo None at = ⊥
ReadsUpTo (Some (AJob job made)) at = ⊥
ReadsUpTo (Some (APass pass batch)) at = ⊥
ReadsUpTo (Some (AView v b)) at = at ≤ v.number
ReadsUpTo (Some (ATransaction t b)) at = at ≤ t.number

-- both bounds are within the limits, and this scans
abbrev pub AsksForRows : Option Thing → (low high : List ℕ) → Type 0
AsksForRows thing low high = (length low ≤ max_key_bytes) × (length high ≤ max_key_bytes)
    × ((own : Changes) × (number : ℕ) × ScansAt thing own number)

-- The line reads, of a state that has a table; or it goes on with a pass, in the pass's log and the tables that there are. Only such
-- a line asks the reader for bytes, or writes beside the disk.
abbrev pub ReadsTables : Line → State → Type 0
ReadsTables (lines.Begin name) s = ⊥
ReadsTables (lines.View name) s = ⊥
ReadsTables (lines.Get name key) s = HasTables s × AsksForKey (thing_of s.store name) key
ReadsTables (lines.GetTagged name key) s = HasTables s × AsksForKey (thing_of s.store name) key
ReadsTables (lines.Scan name low high limit way) s = HasTables s × AsksForRows (thing_of s.store name) low high
ReadsTables (lines.Set name key value) s = ⊥
ReadsTables (lines.SetTagged name key value tag) s = ⊥
ReadsTables (lines.Delete name key) s = ⊥
ReadsTables (lines.Commit name) s = ⊥
ReadsTables (lines.Drop name) s = ⊥
ReadsTables lines.Rotate s = ⊥
ReadsTables lines.Flush s = ⊥
ReadsTables (lines.Keep versions) s = ⊥
ReadsTables (lines.GetAt name key number) s =
    HasTables s × (is_key_length (length key) ≡ true) × ReadsUpTo (thing_of s.store name) number
ReadsTables (lines.Plan name) s = HasTables s
ReadsTables (lines.Drain name segment) s = HasTables s
ReadsTables (lines.Install name) s = ⊥
ReadsTables lines.Sweep s = ⊥
ReadsTables lines.Stats s = ⊥
ReadsTables (lines.Pick name percent) s = ⊥
ReadsTables (lines.Batch name) s = SeeksRecords (thing_of s.store name)
ReadsTables (lines.Move name) s = MovesRecords (thing_of s.store name)

-- so it is with the line of this exchange, where there is one
abbrev pub IsTableRead : Option Exchange → Type 0
IsTableRead at = (e : Exchange) × (at ≡ Some e) × ReadsTables e.line e.before

-- A reader counted a fault, as each does whose read fails; or what writes a file of a merge did. A disk counts none of these.
pub record ReaderFailed {R : Type 0} (faults : R → ℕ) : Type 0 where
  pub reader : R
  pub some : HasCounted (faults reader)

-- what fails beside a disk: a reader of its files, or what writes one that it has lent
pub data Beside (R W : Type 0) : Type 0 where
  ByReader : R → Beside R W
  ByWriter : W → Beside R W

-- how often it has
abbrev pub beside : {R W : Type 0} → (R → ℕ) → (W → ℕ) → Beside R W → ℕ
beside reads writes (ByReader reader) = reads reader
beside reads writes (ByWriter writer) = writes writer

-- So it did, which it can't where nothing is to fail beside the disk.
pub record FailsBeside {R : Type 0} (never : Type 0) (faults : R → ℕ) : Type 0 where
  pub failed : ReaderFailed faults
  pub not_so : never → ⊥

-- a table with a number from this one on and below that one
abbrev pub IsTableBetween : (first next : ℕ) → Name → Type 0
IsTableBetween first next file = (n : ℕ) × (file ≡ Table n) × (first ≤ n) × (n < next)

-- a table that the merge made which a name stands for
abbrev pub IsTableOf : Option Thing → Name → Type 0
IsTableOf thing file = (job : Job) × (made : Made) × (n : ℕ) × (thing ≡ Some (AJob job made)) × (file ≡ Table n)
    × (has n (numbers_of made.tables) ≡ true)

-- The files at which the disk may fail a line: for a commit or a move the log that takes them; for a rotation that or the next one;
-- for a flush the table that it makes, or the manifest, which has this number; and for a change of how many versions are kept the
-- manifest. For a plan or a drain a table that its merge makes; and for an install one of its merge's tables, or the manifest. For a
-- sweep one of the files that it removes.
abbrev pub FailsAt : (manifest : ℕ) → Line → State → Name → Type 0
FailsAt manifest (lines.Begin name) s file = ⊥
FailsAt manifest (lines.View name) s file = ⊥
FailsAt manifest (lines.Get name key) s file = ⊥
FailsAt manifest (lines.GetTagged name key) s file = ⊥
FailsAt manifest (lines.Scan name low high limit way) s file = ⊥
FailsAt manifest (lines.Set name key value) s file = ⊥
FailsAt manifest (lines.SetTagged name key value tag) s file = ⊥
FailsAt manifest (lines.Delete name key) s file = ⊥
FailsAt manifest (lines.Commit name) s file = file ≡ Log s.store.layout.active.number
FailsAt manifest (lines.Drop name) s file = ⊥
FailsAt manifest lines.Rotate s file = (file ≡ Log s.store.layout.active.number) ⊎ (file ≡ Log s.store.layout.next_log)
FailsAt manifest lines.Flush s file = (file ≡ Table s.store.layout.next_table) ⊎ (file ≡ Manifest manifest)
FailsAt manifest (lines.Keep versions) s file = file ≡ Manifest manifest
FailsAt manifest (lines.GetAt name key number) s file = ⊥
FailsAt manifest (lines.Plan name) s file = IsTableBetween s.store.layout.next_table
    (state_after s (lines.Plan name)).store.layout.next_table file
FailsAt manifest (lines.Drain name segment) s file = IsTableBetween s.store.layout.next_table
    (state_after s (lines.Drain name segment)).store.layout.next_table file
FailsAt manifest (lines.Install name) s file = IsTableOf (thing_of s.store name) file ⊎ (file ≡ Manifest manifest)
FailsAt manifest lines.Sweep s file = is_in (file_of file) (swept None s.store.layout) ≡ true
FailsAt manifest lines.Stats s file = ⊥
FailsAt manifest (lines.Pick name percent) s file = ⊥
FailsAt manifest (lines.Batch name) s file = ⊥
FailsAt manifest (lines.Move name) s file = file ≡ Log s.store.layout.active.number
