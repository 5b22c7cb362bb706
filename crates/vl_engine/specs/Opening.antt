-- What an opening gives, where a store was opened and where not.
use Rattle.std.specs.Prelude.{◌≡◌, ℕ, Option, None, Some, Result, Ok, Err}
use Rattle.vl_disk.specs.Crash.{Image}
use Rattle.vl_disk.specs.Faults.{NoneCounted}
use Rattle.vl_disk.specs.declared.watched.Watched.{Ghosts}
use Rattle.vl_engine.specs.declared.engine.Engine.{Engine}
use Rattle.vl_recover.specs.declared.fails.OpenError.{OpenError}
use Rattle.vl_recover.specs.declared.fails.OpenError.TheVariants as why
use Rattle.vl_recover.specs.declared.fails.OpenFail.{OpenFail}
use Rattle.vl_recover.specs.opening.Answers.{AnswersBy, Finds, used_up}
use Rattle.vl_recover.specs.opening.Results.{counted, recovery_by}

-- the disk behind an opening: in the engine, or handed back. The type of an engine names all that its disk has.
abbrev pub disk_behind : {D Held Reader Writer R : Type 0} {watched : _} {held : _} {cloned : _} {read : _} {write : _}
    → Result (Engine D Held Reader Writer watched held cloned read write) (OpenFail D R) → D
disk_behind (Ok engine) = engine.disk
disk_behind (Err fail) = fail.disk

-- why none was opened
abbrev pub why_of : {E D R : Type 0} → Result E (OpenFail D R) → Option OpenError
why_of (Ok engine) = None
why_of (Err fail) = Some fail.why

-- how many faults the reader of an opening has counted that is handed back, if there is one
abbrev pub reader_faults : {E D R : Type 0} → (R → ℕ) → Result E (OpenFail D R) → ℕ
reader_faults faults (Ok engine) = 0
reader_faults faults (Err fail) = counted faults fail.reader

-- an opening answers so by what reads give: a store that is there, with a number left for each file that is made, is
-- opened; a refusal has its cause; want of memory and faults may come instead
abbrev pub AnswersOpening : Image → Option OpenError → Type 0
AnswersOpening read None = (found : Finds read) × (used_up found ≡ None)
AnswersOpening read (Some reason) = AnswersBy read (recovery_by reason)

-- the disk failed, or its reader
abbrev pub IsFault : Option OpenError → Type 0
IsFault None = ⊥
IsFault (Some why.NotAStore) = ⊥
IsFault (Some (why.NewerFormat format)) = ⊥
IsFault (Some (why.Damaged name place)) = ⊥
IsFault (Some (why.Exhausted counter)) = ⊥
IsFault (Some why.NoMemory) = ⊥
IsFault (Some (why.Disk name)) = Unit {0}

-- the disk failed itself, and not the reader, which has counted so many faults
abbrev pub IsDiskFault : ℕ → Option OpenError → Type 0
IsDiskFault read_faults None = ⊥
IsDiskFault read_faults (Some why.NotAStore) = ⊥
IsDiskFault read_faults (Some (why.NewerFormat format)) = ⊥
IsDiskFault read_faults (Some (why.Damaged name place)) = ⊥
IsDiskFault read_faults (Some (why.Exhausted counter)) = ⊥
IsDiskFault read_faults (Some why.NoMemory) = ⊥
IsDiskFault read_faults (Some (why.Disk name)) = NoneCounted read_faults

-- the disk is as it was, and was asked for no changing call
abbrev pub IsAsBefore : {D : Type 0} → Ghosts D → (old new : D) → Type 0
IsAsBefore g old new = (g.told new ≡ g.told old) × (g.calls new ≡ g.calls old)
