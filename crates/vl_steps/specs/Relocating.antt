-- What moving the records of a batch does, whatever the engine stands for: to the disk, and in memory. And what it comes to, as the
-- ruling on it has it.
use Rattle.std.specs.Prelude.{◌≡◌, ◌≤◌, ◌<◌, ℕ, zero, suc, ◌+◌, ◌&&◌, nat_le, Bool, List, [], ◌∷◌, ◌++◌, map, length}
use Rattle.std.specs.Prelude.{Option, None, Some, Result, Ok, Err, Vec, is_none, vec_capacity, vec_len, Contains}
use Rattle.std.specs.Global.{Global}
use Rattle.std.specs.List.{All, AllByRecursion, filter}
use Rattle.std.specs.Option.{ForSome}
use Rattle.vl_collect.specs.Faults.{FailsLooking, MayWhere}
use Rattle.vl_collect.specs.Passing.{HasEntries}
use Rattle.vl_disk.specs.declared.read_fault.ReadFault.{ReadFault}
use Rattle.vl_disk.specs.declared.read_fault.ReadFault.TheVariants as faults
use Rattle.vl_engine_laws.specs.MoveFacts.{AreThere, HasFailedToMove, HasMoved, move_entries, move_length, move_log}
use Rattle.vl_engine_laws.specs.Lasts.{Lasts}
use Rattle.vl_engine_laws.specs.Represents.{StandsFor, file_of}
use Rattle.vl_engine_laws.specs.declared.kept.Core.{Core}
use Rattle.vl_disk.specs.Calls.{ChangesNothing}
use Rattle.vl_disk.specs.Faults.{Rose}
use Rattle.vl_disk.specs.declared.errors.DiskFail.TheVariants as disk_fails
use Rattle.vl_disk.specs.declared.errors.DiskFail.{DiskFail}
use Rattle.vl_disk.specs.declared.name.Name.TheVariants as names
use Rattle.vl_disk.specs.declared.name.Name.{Name}
use Rattle.vl_disk.specs.declared.watched.Watched.{Ghosts}
use Rattle.vl_steps.specs.declared.fails.MoveFail.TheVariants as fails
use Rattle.vl_steps.specs.declared.fails.MoveFail.{MoveFail}
use Rattle.vl_engine_laws.specs.declared.open.OpenMerge.{OpenMerge}
use Rattle.vl_steps.specs.declared.relocate.StagedMove.{StagedMove}
use Rattle.vl_frame.specs.Runs.{HasFrame}
use Rattle.vl_engine_model.specs.Decides.{Answered, Damaged, Effects, Failed, NoMemory, Outcome, no_effects}
use Rattle.vl_engine_model.specs.Relocation as layout
use Rattle.vl_engine_model.specs.Relocation.{Candidate, moved_of}
use Rattle.vl_engine_model.specs.Rulings.Relocate as ruling
use Rattle.vl_engine_model.specs.Rulings.Relocate.{MoveAnswer, Moves, moves_at, relocate_ruling, relocated}
use Rattle.vl_engine_model.specs.Ruling.{Ruling}
use Rattle.vl_engine_model.specs.Sources.{sources}
use Rattle.vl_engine_model.specs.declared.layout.Layout.{Layout}
use Rattle.vl_memtable.specs.Lengths.{lengths_with}
use Rattle.vl_model.specs.Conflicts.{Named}
use Rattle.vl_model.specs.Cursors.{HasRisen}
use Rattle.vl_model.specs.Entries.{in_order}
use Rattle.vl_model.specs.Formats.{log_format}
use Rattle.vl_model.specs.History.{History, last_number}
use Rattle.vl_model.specs.Limits.{max_epoch}
use Rattle.vl_model.specs.Winners.{exact}
use Rattle.vl_model.specs.declared.counter.Counter.TheVariants as counters
use Rattle.vl_model.specs.declared.counter.Counter.{Counter}
use Rattle.vl_model.specs.declared.entry.Body.TheVariants.{Logged}
use Rattle.vl_model.specs.declared.entry.Entry.{Entry}
use Rattle.vl_model.specs.declared.log_frame.LogFrame.TheVariants.{Relocated}
use Rattle.vl_model.specs.declared.log_frame.Moved.{Moved}
use Rattle.vl_model.specs.declared.pointer.Pointer.{Pointer}
use Rattle.vl_seglog.specs.Frames.{frames_grammar}
use Rattle.vl_seglog.specs.Relocation.{IsRelocation}
use Rattle.vl_seglog.specs.Staging.{IsStaged, IsStagedFor}
use Rattle.vl_seglog.specs.declared.sealed.SealedLog.{SealedLog}
use Rattle.vl_table.specs.CursorParts.{MayFailOn, is_disk_fault}
use Rattle.vl_table.specs.Tables.{number_of}
use Rattle.vl_table.specs.declared.block_reader.BlockReader.{BlockReader}
use Rattle.vl_table.specs.declared.table.Table.{Table}
use Rattle.vl_version.specs.Bases.{Fits, HasSources}
use Rattle.vl_version.specs.Sources.{tables_in}
use Rattle.vl_version.specs.declared.version.Version.{Version}

-- ---- what is moved

-- a memtable with these entries may take the record: it has none of its key and version, which is no later commit's
abbrev pub may_add : List Entry → ℕ → Moved → Bool
may_add es last m = nat_le m.version last && is_none (exact es m.key m.version)

-- the sources of a version have these entries
abbrev pub HasSourced : {H : Type 0} → (H → Option (List ℕ)) → Version H → List Entry → Type 0
HasSourced {H} bytes version entries =
    HasEntries (λ (v : Version H) inputs ms. HasSources bytes v inputs ms) version entries

-- Of a batch these records are moved: those that still win exactly from inside the segment, where the sources are told, and that
-- the active memtable may take. Each is one of the batch's, whatever is told.
pub record Finds {H R : Type 0} (bytes : H → Option (List ℕ)) (core : Core H) (segment : ℕ) (batch : List Candidate)
    (looks : BlockReader R) (moved : List Moved) : Type 0 where
  pub found : List Moved
  pub found_are : (entries : List Entry) → Fits bytes core.version looks → HasSourced bytes core.version entries
      → found ≡ moved_of entries segment core.front.oracle.last batch
  pub among : All (λ (m : Moved). Contains (map (λ (c : Candidate). c.moved) batch) m) found
  pub moved_are : moved ≡ filter (may_add core.version.active.entries core.front.oracle.last) found

-- A frame of the log may have these records, and the active memtable may take them.
pub record MayMove {H : Type 0} (core : Core H) (moved : List Moved) : Type 0 where
  pub relocation : IsRelocation log_format moved
  pub new : AllByRecursion (λ (m : Moved). exact core.version.active.entries m.key m.version ≡ None) moved
  pub known : AllByRecursion (λ (m : Moved). m.version ≤ core.front.oracle.last) moved

-- ---- memory

-- the entry of a moved record that lies at this pointer
abbrev pub moved_entry : Moved → Pointer → Entry
moved_entry moved pointer = record { key = moved.key; version = moved.version; body = Logged moved.value pointer }

-- those of records that lie at these
abbrev pub move_entries_of : List Moved → List Pointer → List Entry
move_entries_of [] pointers = []
move_entries_of (m ∷ ms) [] = []
move_entries_of (m ∷ ms) (pointer ∷ pointers) = moved_entry m pointer ∷ move_entries_of ms pointers

-- these notes have room for those of the open merge behind them
abbrev pub HasRoomBehind : Vec Named Global → OpenMerge → Type 0
HasRoomBehind notes merge = vec_len notes + vec_len merge.moved ≤ vec_capacity notes

-- Where a merge is open they are the moved records' keys, each with the epoch that the move makes, and have that room.
pub record IsNotes (number : ℕ) (moved : List Moved) (merging : Option OpenMerge) (notes : Vec Named Global)
    : Type 0 where
  pub are : ForSome merging (λ (o : OpenMerge). notes.items ≡ moves_at number moved)
  pub room : ForSome merging (HasRoomBehind notes)

-- what is noted for the open merge stands in front of what was noted before; else none is open, before and after
abbrev pub NotesMoves : (old new : Option OpenMerge) → List Named → Type 0
NotesMoves None None notes = Unit {0}
NotesMoves None (Some next) notes = ⊥
NotesMoves (Some merge) None notes = ⊥
NotesMoves (Some merge) (Some next) notes = (next.lent ≡ merge.lent) × (next.moved.items ≡ notes ++ merge.moved.items)

-- It is staged for the end of the front's log: the frame, the memtable with its entries over those that stood there, and its notes.
pub record IsStagedMove {H : Type 0} (core : Core H) (moved : List Moved) (number : ℕ) (merging : Option OpenMerge)
    (staged : StagedMove) : Type 0 where
  pub frame : IsStaged core.front.log.number core.front.log.length (Relocated moved) staged.frame
  pub frame_for : IsStagedFor core.front.log staged.frame
  pub more : staged.active.entries ≡ in_order (move_entries core.front moved ++ core.version.active.entries)
  pub notes : IsNotes number moved merging staged.notes
  pub count : staged.count ≡ length moved

-- ---- what writing it came to

-- so it is with what writing these records again answers
abbrev pub WritesMove : {D H : Type 0} → Ghosts D → (old new : D) → (before after : Core H) → (merging now : Option OpenMerge)
    → List Moved → Result ℕ DiskFail → Type 0
WritesMove g old new before after merging now moved (Ok count) =
    (count ≡ length moved) × HasMoved g old new before after moved
    × NotesMoves merging now (moves_at (before.back.epoch + 1) moved)
WritesMove g old new before after merging now moved (Err disk_fails.NoMemory) =
    (after ≡ before) × ChangesNothing g old new ⊥ × (now ≡ merging)
WritesMove g old new before after merging now moved (Err disk_fails.Failed) =
    HasFailedToMove g old new before after moved × (now ≡ merging)

-- ---- what the whole call came to

-- what the call works on, at a moment
pub record At (D H R : Type 0) : Type 0 where
  pub disk : D
  pub core : Core H
  pub merging : Option OpenMerge
  pub looks : BlockReader R

abbrev pub at : {D H R : Type 0} → D → Core H → Option OpenMerge → BlockReader R → At D H R
at disk core merging looks = record { disk = disk; core = core; merging = merging; looks = looks }

-- nothing but what is kept for look-ups may have changed
pub record LeavesAll {D H R : Type 0} (old new : At D H R) : Type 0 where
  pub disk : new.disk ≡ old.disk
  pub core : new.core ≡ old.core
  pub merging : new.merging ≡ old.merging

module _ {D H R : Type 0} (g : Ghosts D) (bytes : H → Option (List ℕ)) (faults_of : R → ℕ) (old new : At D H R) (segment : ℕ)
    (batch : List Candidate) where
  -- the reader counted no fault
  abbrev pub ReadWell : Type 0
  ReadWell = faults_of new.looks.reader ≡ faults_of old.looks.reader

  -- The engine isn't halted, and of the batch these records are to be moved.
  pub record HasFound (moved : List Moved) : Type 0 where
    pub running : old.core.front.halted ≡ None
    pub finds : Finds bytes old.core segment batch old.looks moved
    pub well : ReadWell

  -- There are some, and an epoch is left.
  pub record HasSome (moved : List Moved) : Type 0 where
    pub found : HasFound moved
    pub some : 1 ≤ length moved
    pub left : old.core.back.epoch < max_epoch

  -- No epoch is left for them.
  pub record IsUsedUp (counter : Counter) : Type 0 where
    pub moved : List Moved
    pub found : HasFound moved
    pub some : 1 ≤ length moved
    pub counter_is : counter ≡ counters.Version
    pub used : max_epoch ≤ old.core.back.epoch

  -- The log has no room for their frame.
  pub record IsFull (length_then frame : ℕ) : Type 0 where
    pub moved : List Moved
    pub has : HasSome moved
    pub length_is : length_then ≡ old.core.front.log.length
    pub frame_is : frame ≡ move_length moved
    pub over : old.core.front.room < length_then + frame

  -- And there is room for their frame: they were handed to the log.
  pub record HandsOver (moved : List Moved) : Type 0 where
    pub has : HasSome moved
    pub room : old.core.front.log.length + move_length moved ≤ old.core.front.room

  -- a read failed by this fault
  pub record FailsAt (fault : ReadFault) : Type 0 where
    pub running : old.core.front.halted ≡ None
    pub cause : FailsLooking is_disk_fault (MayWhere (Fits bytes old.core.version old.looks) (MayFailOn bytes (tables_in old.core.version)))
        (faults_of old.looks.reader) (faults_of new.looks.reader) fault

  -- A look-up failed, and the engine halts at the file that was read,
  pub record HasFailedToRead (name : Name) : Type 0 where
    pub fails : FailsAt (faults.Disk name)
    pub disk : new.disk ≡ old.disk
    pub core : new.core ≡ record old.core { front = record old.core.front { halted = Some name } }
    pub merging : new.merging ≡ old.merging

  -- or the log took not all of the frame, and the engine halts at it.
  pub record HasFailedToWrite (name : Name) : Type 0 where
    pub moved : List Moved
    pub hands : HandsOver moved
    pub named : name ≡ move_log old.core.front
    pub failed : HasFailedToMove g old.disk new.disk old.core new.core moved
    pub merging : new.merging ≡ old.merging

  pub record HasRelocated (count : ℕ) : Type 0 where
    pub moved : List Moved
    pub hands : HandsOver moved
    pub count_is : count ≡ length moved
    pub moves : HasMoved g old.disk new.disk old.core new.core moved
    pub notes : NotesMoves old.merging new.merging (moves_at (old.core.back.epoch + 1) moved)

  -- Memory ran out, in a look-up or behind all of them: nothing was changed but for room that was made.
  pub record HasRunOut : Type 0 where
    pub well : ReadWell
    pub core : new.core ≡ old.core
    pub disk : ChangesNothing g old.disk new.disk ⊥
    pub merging : new.merging ≡ old.merging

  -- so it is with what it answers
  abbrev pub RelocatesAs : Result ℕ MoveFail → Type 0
  RelocatesAs (Ok zero) = HasFound [] × LeavesAll old new
  RelocatesAs (Ok (suc n)) = HasRelocated (suc n)
  RelocatesAs (Err (fails.Halted name)) = (old.core.front.halted ≡ Some name) × ReadWell × LeavesAll old new
  RelocatesAs (Err (fails.Exhausted back counter)) = (back ≡ batch) × IsUsedUp counter × LeavesAll old new
  RelocatesAs (Err (fails.Full back length frame)) = (back ≡ batch) × IsFull length frame × LeavesAll old new
  RelocatesAs (Err (fails.NoMemory back)) = (back ≡ batch) × HasRunOut
  RelocatesAs (Err (fails.Read name)) = HasFailedToRead name
  RelocatesAs (Err (fails.Disk name)) = HasFailedToWrite name
  RelocatesAs (Err (fails.Damaged back name place)) = (back ≡ batch) × FailsAt (faults.Damaged name place) × LeavesAll old new

-- ---- as the ruling has it

abbrev pub move_outcome : Result ℕ MoveFail → Outcome MoveAnswer
move_outcome (Ok count) = Answered (Moves count)
move_outcome (Err (fails.Halted name)) = Answered (ruling.Halted (file_of name))
move_outcome (Err (fails.Exhausted batch counter)) = Answered (ruling.Exhausted counter)
move_outcome (Err (fails.Full batch length frame)) = Answered (ruling.Full length frame)
move_outcome (Err (fails.NoMemory batch)) = NoMemory
move_outcome (Err (fails.Read name)) = Failed (file_of name)
move_outcome (Err (fails.Disk name)) = Failed (file_of name)
move_outcome (Err (fails.Damaged batch name place)) = Damaged (file_of name) place

-- two calls change a file, an append and a sync, where something was moved
abbrev pub move_effects : Result ℕ MoveFail → Effects
move_effects (Ok zero) = no_effects
move_effects (Ok (suc n)) = record no_effects { calls = 2 }
move_effects (Err why) = no_effects

-- what is given back
abbrev pub batch_back : Result ℕ MoveFail → Option (List Candidate)
batch_back (Ok count) = None
batch_back (Err (fails.Halted name)) = None
batch_back (Err (fails.Exhausted batch counter)) = Some batch
batch_back (Err (fails.Full batch length frame)) = Some batch
batch_back (Err (fails.NoMemory batch)) = Some batch
batch_back (Err (fails.Read name)) = None
batch_back (Err (fails.Disk name)) = None
batch_back (Err (fails.Damaged batch name place)) = Some batch

-- nothing was written: all answers but that something was moved, and a fault of the log
abbrev pub MoveLeavesDisk : Result ℕ MoveFail → Type 0
MoveLeavesDisk (Ok zero) = Unit {0}
MoveLeavesDisk (Ok (suc n)) = ⊥
MoveLeavesDisk (Err (fails.Halted name)) = Unit {0}
MoveLeavesDisk (Err (fails.Exhausted batch counter)) = Unit {0}
MoveLeavesDisk (Err (fails.Full batch length frame)) = Unit {0}
MoveLeavesDisk (Err (fails.NoMemory batch)) = Unit {0}
MoveLeavesDisk (Err (fails.Read name)) = Unit {0}
MoveLeavesDisk (Err (fails.Disk name)) = ⊥
MoveLeavesDisk (Err (fails.Damaged batch name place)) = Unit {0}

-- what stands at a place isn't what was written there
abbrev pub IsDamaged : Result ℕ MoveFail → Type 0
IsDamaged (Ok count) = ⊥
IsDamaged (Err (fails.Halted name)) = ⊥
IsDamaged (Err (fails.Exhausted batch counter)) = ⊥
IsDamaged (Err (fails.Full batch length frame)) = ⊥
IsDamaged (Err (fails.NoMemory batch)) = ⊥
IsDamaged (Err (fails.Read name)) = ⊥
IsDamaged (Err (fails.Disk name)) = ⊥
IsDamaged (Err (fails.Damaged batch name place)) = Unit {0}

-- ---- whose log it is

-- The engine stands for them, the pass's log lasts, where the batch was found its log has nothing else, and what is read with keeps
-- blocks of the version's tables alone. So it is of a batch that a pass of this engine gave, whatever was done since.
pub record IsOfPass {H R : Type 0} (bytes : H → Option (List ℕ)) (core : Core H) (log : SealedLog H) (batch : List Candidate)
    (looks : BlockReader R) (h : History) (l : Layout) (p : layout.Pass) : Type 0 where
  pub stands : StandsFor bytes core h l
  pub segment : p.segment ≡ log.number
  pub lasts : Lasts bytes log l
  pub there : AreThere bytes log batch
  pub fits : Fits bytes core.version looks

-- the ruling where these records are moved
abbrev pub moving : Layout → History → List Moved → Ruling MoveAnswer
moving l h moved =
    record { answer = Moves (length moved); history = h; layout = relocated l moved; calls = 2; gone = [] }

-- A relocation of the batch is one that the ruling accepts, and its frame fits the log's format.
pub record IsMovable (h : History) (l : Layout) (p : layout.Pass) (batch : List Candidate) : Type 0 where
  pub moved : List Moved
  pub moved_is : moved ≡ moved_of (sources l) p.segment (last_number h) batch
  pub accepted : relocate_ruling l h p batch ≡ moving l h moved
  pub fits : HasFrame (frames_grammar log_format) (Relocated moved)

-- ---- faults

-- these two counts are where they were
pub record NeitherRose (disk disk_now looks looks_now : ℕ) : Type 0 where
  pub disk_steady : disk_now ≡ disk
  pub looks_steady : looks_now ≡ looks

-- The look-ups failed, and were counted by the reader that they were made with.
pub record ReadRose (disk disk_now looks looks_now : ℕ) : Type 0 where
  pub looks_rose : HasRisen looks looks_now
  pub disk_steady : disk_now ≡ disk

-- A call on the log with this number failed, which is the file that is named, and the disk counted it.
pub record WriteRose (log disk disk_now looks looks_now : ℕ) (name : Name) : Type 0 where
  pub named : name ≡ names.Log log
  pub later : disk ≤ disk_now
  pub disk_rose : Rose disk disk_now
  pub looks_steady : looks_now ≡ looks

-- A fault comes only where a count of faults rose: that of what is read with, or that of the engine's disk. No count rises otherwise.
abbrev pub MoveCounts : (log disk disk_now looks looks_now : ℕ) → Result ℕ MoveFail → Type 0
MoveCounts log disk disk_now looks looks_now (Ok count) = NeitherRose disk disk_now looks looks_now
MoveCounts log disk disk_now looks looks_now (Err (fails.Halted name)) = NeitherRose disk disk_now looks looks_now
MoveCounts log disk disk_now looks looks_now (Err (fails.Exhausted batch counter)) = NeitherRose disk disk_now looks looks_now
MoveCounts log disk disk_now looks looks_now (Err (fails.Full batch length frame)) = NeitherRose disk disk_now looks looks_now
MoveCounts log disk disk_now looks looks_now (Err (fails.NoMemory batch)) = NeitherRose disk disk_now looks looks_now
MoveCounts log disk disk_now looks looks_now (Err (fails.Read name)) = ReadRose disk disk_now looks looks_now
MoveCounts log disk disk_now looks looks_now (Err (fails.Disk name)) = WriteRose log disk disk_now looks looks_now name
MoveCounts log disk disk_now looks looks_now (Err (fails.Damaged batch name place)) = NeitherRose disk disk_now looks looks_now

-- the file of one of these tables
pub record IsTableAmong {H : Type 0} (tables : List (Table H)) (name : Name) : Type 0 where
  pub table : Table H
  pub among : Contains tables table
  pub is : name ≡ names.Table (number_of table)

-- ---- what stays

-- an epoch more, where something was moved
abbrev pub moved_version : Result ℕ MoveFail → ℕ → ℕ
moved_version (Ok zero) number = number
moved_version (Ok (suc n)) number = number + 1
moved_version (Err why) number = number

-- Of the open merge so many keys more are noted, the latest first, each with this epoch.
pub record NotesKeys (count number : ℕ) (old new : Option OpenMerge) : Type 0 where
  pub keys : List (List ℕ)
  pub count_is : length keys ≡ count
  pub noted : NotesMoves old new (map (λ (key : List ℕ). (key, number)) keys)

-- with so many entries more as one run, if there are any
abbrev pub lengths_after : ℕ → List ℕ → List ℕ
lengths_after zero old = old
lengths_after (suc n) old = lengths_with (suc n) old

-- The records that were moved are one run more in memory, which joins as many older ones as it must, and no more. Where none was
-- moved the runs are as they were.
abbrev pub MovesRun : {E : Type 0} → (old new : List ℕ) → Result ℕ E → Type 0
MovesRun old new (Ok count) = new ≡ lengths_after count old
MovesRun old new (Err why) = new ≡ old

-- where something was moved its keys are noted for the open merge, and else what is kept of it stays
abbrev pub MoveNotes : (number : ℕ) → (old new : Option OpenMerge) → Result ℕ MoveFail → Type 0
MoveNotes number old new (Ok zero) = new ≡ old
MoveNotes number old new (Ok (suc n)) = NotesKeys (suc n) (number + 1) old new
MoveNotes number old new (Err why) = new ≡ old
