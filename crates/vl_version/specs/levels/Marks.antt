-- What is asked of tables for a merge: which of them is the first that has an entry, and whether it is one of the inputs.
use Rattle.std.specs.Prelude.{◌≡◌, ℕ, Bool, ◌&&◌, if◌then◌else◌, IfErr, IfOk, List, [], ◌∷◌, Option, Some, None, Result}
use Rattle.std.specs.Option.{option_map}
use Rattle.vl_disk.specs.Faults.{HasCause}
use Rattle.vl_model.specs.declared.entry.Entry.{Entry}
use Rattle.vl_table.specs.Answers.{Failed}
use Rattle.vl_table.specs.CursorParts.{MayFailOn}
use Rattle.vl_table.specs.Kept.{Files}
use Rattle.vl_table.specs.KeptBlocks.{AreKept, ReadsOf}
use Rattle.vl_table.specs.OfTables.{AreOf}
use Rattle.vl_table.specs.declared.block_reader.BlockReader.{BlockReader}
use Rattle.vl_disk.specs.declared.read_fault.ReadFault.{ReadFault}
use Rattle.vl_table.specs.declared.table.Table.{Table}
use Rattle.vl_version.specs.Bases.{is_input}
use Rattle.vl_version.specs.levels.Looks.{sought}
use Rattle.vl_version.specs.declared.levels.mark.Asked.{Asked}

-- ---- which table is the first

abbrev pub mark_if : Bool → Option Entry → Option Bool
mark_if input found = option_map (λ e. input) found

abbrev pub or_mark : Option Bool → Option Bool → Option Bool
or_mark None later = later
or_mark (Some input) later = Some input

module _ {H : Type 0} where
  -- only the other tables are asked, and this is an input
  abbrev pub is_passed : Asked → Table H → Bool
  is_passed asked t = asked.outside && is_input asked.inputs.now t

  -- whether the table is an input, where it has such an entry among these of it
  abbrev pub mark_of : Asked → Table H → List Entry → Option Bool
  mark_of asked t es =
      if is_passed asked t then None else mark_if (is_input asked.inputs.now t) (sought asked.look asked.key.now es)

  -- the same of the first table that has one
  abbrev pub first_mark : Asked → List (Table H) → List (List Entry) → Option Bool
  first_mark asked [] ess = None
  first_mark asked (t ∷ ts) [] = None
  first_mark asked (t ∷ ts) (es ∷ ess) = or_mark (mark_of asked t es) (first_mark asked ts ess)

-- ---- what is answered

-- Something was asked of tables that their entries say. That is answered where the reader keeps blocks of their files, and where
-- they are true and lawful. A fault is of one of them, and reading failed only where that was counted.
pub record Tells {H R T : Type 0} (bytes_of : H → Option (List ℕ)) (faults : R → ℕ) (ts : List (Table H)) (Lawful : Type 0)
    (good : List (List Entry) → T → Type 0) (old new : BlockReader R) (result : Result T ReadFault) : Type 0 where
  pub cause : HasCause (faults old.reader) (faults new.reader) (Failed result)
  pub kept : (files : Files) → ReadsOf bytes_of files old ts → AreKept files new
  pub fault : (files : Files) → ReadsOf bytes_of files old ts → IfErr result (MayFailOn bytes_of ts)
  pub answer : (files : Files) → ReadsOf bytes_of files old ts → Lawful → (ess : List (List Entry)) → AreOf bytes_of ts ess
      → IfOk result (good ess)

-- so it is of the first of these tables that has an entry
abbrev pub TellsFirst : {H R : Type 0} → (H → Option (List ℕ)) → (R → ℕ) → Asked → List (Table H) → (Lawful : Type 0)
    → (old new : BlockReader R) → Result (Option Bool) ReadFault → Type 0
TellsFirst bytes_of faults asked ts Lawful old new result =
    Tells bytes_of faults ts Lawful (λ ess found. found ≡ first_mark asked ts ess) old new result
