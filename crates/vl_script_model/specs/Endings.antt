-- How a run may end, in one table, and what follows from its columns.
use Rattle.std.specs.Prelude.{◌≡◌, ◌-◌, ◌^◌, ◌≤◌, ℕ, min, List, [], ◌∷◌, ◌++◌, codes, Option, Some, None}
use Rattle.std.specs.Option.{option_map}
use Rattle.std.specs.Fmt.{decimal}
use Rattle.vl_disk.specs.Faults.{Rose}
use Rattle.vl_disk.specs.declared.name.Name.{Name}
use Rattle.vl_disk.specs.declared.name.Name.TheVariants.{Log, Table, Manifest}
use Rattle.vl_script.specs.Script.{counter_text}
use Rattle.vl_script_model.specs.declared.fails.Refusal.{Refusal}
use Rattle.vl_script_model.specs.declared.fails.Refusal.TheVariants.{NotAStore, NewerFormat, Damaged as DamagedFile, Exhausted}
use Rattle.vl_script_model.specs.declared.ending.Ending.{Ending}
use Rattle.vl_script_model.specs.declared.ending.OnFault.{OnFault}
use Rattle.vl_script_model.specs.declared.ending.OnFault.TheVariants.{Report, Stop}
use Rattle.vl_script_model.specs.declared.ending.Ending.TheVariants.{Complete, BadLine, BadWords, DiskFault, ReaderFault}
use Rattle.vl_script_model.specs.declared.ending.Ending.TheVariants.{Refused, Damaged, NoMemory, ReadFault, WriteFault}
use Rattle.vl_script_model.specs.declared.ending.Ending.TheVariants.{AnswerCut, Stopped}

-- a count of lines stands still at its type's end
abbrev pub line_number : ℕ → ℕ
line_number n = min n (2 ^ 64 - 1)

-- the last lines of runs that don't end with an answer

abbrev pub bad_line : ℕ → List ℕ
bad_line n = codes "bad line " ++ decimal (line_number n) ++ (10 ∷ [])

abbrev pub usage_line : List ℕ
usage_line =
    codes "usage: vlstore replay DIR, trial STOP OUTCOME, bench SEED COUNT, drive CLIENTS TXNS SEED or ids CLIENTS COUNT LEASE"
    ++ (10 ∷ [])

abbrev pub disk_fault_line : List ℕ
disk_fault_line = codes "disk fault" ++ (10 ∷ [])

-- a file, by its kind and number
abbrev pub file_text : Name → List ℕ
file_text (Log number) = codes "log " ++ decimal number
file_text (Table number) = codes "table " ++ decimal number
file_text (Manifest number) = codes "manifest " ++ decimal number

-- of bytes of a file that aren't what should stand there
abbrev pub damage_line : Name → ℕ → List ℕ
damage_line name place = codes "damaged " ++ file_text name ++ codes " at " ++ decimal place ++ (10 ∷ [])

-- of what isn't opened
abbrev pub refusal_line : Refusal → List ℕ
refusal_line NotAStore = codes "not a store" ++ (10 ∷ [])
refusal_line (NewerFormat format) = codes "newer format " ++ decimal format ++ (10 ∷ [])
refusal_line (DamagedFile name place) = damage_line name place
refusal_line (Exhausted counter) = codes "exhausted " ++ counter_text counter ++ (10 ∷ [])

abbrev pub no_memory_line : List ℕ
no_memory_line = codes "no memory" ++ (10 ∷ [])

abbrev pub read_fault_line : List ℕ
read_fault_line = codes "read fault" ++ (10 ∷ [])

-- what ended a run
pub data Culprit : Type 0 where
  -- nothing: the input was at its end
  NoOne : Culprit
  -- a line that is none of the language
  TheLine : Culprit
  -- words that aren't plain
  TheWords : Culprit
  TheDisk : Culprit
  -- the reader of an open store's files, or what writes a merge's file; the disk counts no fault of its own then
  TheReader : Culprit
  -- what stands on the disk and is no store
  TheFiles : Culprit
  -- bytes of a file at a place, which a read of an open store met and which aren't what should stand there
  TheBytes : Name → ℕ → Culprit
  -- want of memory
  Memory : Culprit
  TheSource : Culprit
  TheSink : Culprit

-- what a run puts last, behind whole answers
pub data LastPiece : Type 0 where
  NoPiece : LastPiece
  -- the bad line, with the number of the next line
  BadLinePiece : LastPiece
  Line : List ℕ → LastPiece
  -- some first bytes of the last line of another ending, none or all of them included
  LineFront : LastPiece
  -- some first bytes of the answer to the next line, none or all of them included
  AnswerFront : LastPiece

pub record End : Type 0 where
  pub status : ℕ
  pub culprit : Culprit
  pub last : LastPiece

-- the table
abbrev pub end_of : Ending → End
end_of Complete = record { status = 0; culprit = NoOne; last = NoPiece }
end_of BadLine = record { status = 1; culprit = TheLine; last = BadLinePiece }
end_of BadWords = record { status = 2; culprit = TheWords; last = Line usage_line }
end_of DiskFault = record { status = 3; culprit = TheDisk; last = Line disk_fault_line }
end_of ReaderFault = record { status = 3; culprit = TheReader; last = Line disk_fault_line }
end_of (Refused refusal) = record { status = 4; culprit = TheFiles; last = Line (refusal_line refusal) }
end_of (Damaged name place) =
    record { status = 4; culprit = TheBytes name place; last = Line (damage_line name place) }
end_of NoMemory = record { status = 5; culprit = Memory; last = Line no_memory_line }
end_of ReadFault = record { status = 6; culprit = TheSource; last = Line read_fault_line }
end_of WriteFault = record { status = 7; culprit = TheSink; last = LineFront }
end_of AnswerCut = record { status = 7; culprit = TheSink; last = AnswerFront }
end_of Stopped = record { status = 3; culprit = TheDisk; last = Line [] }

abbrev pub status_of : Ending → ℕ
status_of ending = (end_of ending).status

abbrev pub culprit_of : Ending → Culprit
culprit_of ending = (end_of ending).culprit

abbrev pub line_of_piece : ℕ → LastPiece → Option (List ℕ)
line_of_piece n NoPiece = None
line_of_piece n BadLinePiece = Some (bad_line n)
line_of_piece n (Line line) = Some line
line_of_piece n LineFront = None
line_of_piece n AnswerFront = None

-- the line of its own that a run which ended so puts last, before the n-th line of its script
abbrev pub last_line : ℕ → Ending → Option (List ℕ)
last_line n ending = line_of_piece n (end_of ending).last

-- the run ended between two lines: at the input's end, at a bad line, or where no more could be read
abbrev pub IsBetweenLines : Culprit → Type 0
IsBetweenLines NoOne = Unit {0}
IsBetweenLines TheLine = Unit {0}
IsBetweenLines TheWords = ⊥
IsBetweenLines TheDisk = ⊥
IsBetweenLines TheReader = ⊥
IsBetweenLines TheFiles = ⊥
IsBetweenLines (TheBytes name place) = ⊥
IsBetweenLines Memory = ⊥
IsBetweenLines TheSource = Unit {0}
IsBetweenLines TheSink = ⊥

-- the run ended while the answer to a line was put
abbrev pub CutsAnswer : Ending → Type 0
CutsAnswer ending = (end_of ending).last ≡ AnswerFront

-- a step, or a run, ended by this one; None says that it goes on
abbrev pub EndedBy : Culprit → Option Ending → Type 0
EndedBy who ended = option_map culprit_of ended ≡ Some who

-- its last line couldn't be put, and what that line was about isn't told
abbrev pub LastLineFailed : Option Ending → Type 0
LastLineFailed ended = ended ≡ Some WriteFault

-- The faults of one of the outside objects, counted before and after a step, or a run, that ended so.
pub record CountsFaultsOf (who : Culprit) (ended : Option Ending) (before now : ℕ) : Type 0 where
  pub later : before ≤ now
  -- where it ended by this object a fault was counted,
  pub rose : EndedBy who ended → Rose before now
  -- and else none, unless its last line failed, which may have been about such a fault
  pub steady : (EndedBy who ended → ⊥) → (LastLineFailed ended → ⊥) → now ≡ before

-- what shows that a culprit ended a run, where that is asked for: of the source and the disk that a fault was counted
abbrev pub Evidence : (by_source by_disk : Type 0) → Culprit → Type 0
Evidence by_source by_disk NoOne = ⊥
Evidence by_source by_disk TheLine = ⊥
Evidence by_source by_disk TheWords = ⊥
Evidence by_source by_disk TheDisk = by_disk
Evidence by_source by_disk TheReader = ⊥
Evidence by_source by_disk TheFiles = ⊥
Evidence by_source by_disk (TheBytes name place) = ⊥
Evidence by_source by_disk Memory = ⊥
Evidence by_source by_disk TheSource = by_source
Evidence by_source by_disk TheSink = ⊥

-- so it is where only the disk is asked: `failed` says that it did
abbrev pub OnlyByDisk : (failed : Type 0) → Culprit → Type 0
OnlyByDisk failed = Evidence ⊥ failed

-- how a run ends where its disk fails
abbrev pub ending_at : OnFault → Ending
ending_at Report = DiskFault
ending_at Stop = Stopped

-- and what it puts then
abbrev pub line_at : OnFault → List ℕ
line_at Report = disk_fault_line
line_at Stop = []

-- where a step, or a run, ended by its disk, it ended so
abbrev pub EndsAs : OnFault → Option Ending → Type 0
EndsAs on_fault ended = EndedBy TheDisk ended → ended ≡ Some (ending_at on_fault)
