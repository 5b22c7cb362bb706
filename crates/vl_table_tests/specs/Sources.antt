-- What a cursor over memory or over a table has left, how it may fail, and up to where it was read whole.
use Rattle.std.specs.declared.clone.Clone as Clone
use Rattle.vl_disk.specs.declared.reader.HeldFile as HeldFile
use Rattle.std.specs.Prelude.{◌≡◌, ℕ, Bool, List, length, Option, Some}
use Rattle.vl_model.specs.declared.entry.Entry.{Entry}
use Rattle.vl_table.specs.CursorLeft.{cursor_budget, cursor_left}
use Rattle.vl_table.specs.CursorStops.{MayStop}
use Rattle.vl_table.specs.ReadTo.{CursorStands}
use Rattle.vl_disk.specs.declared.read_fault.ReadFault.{ReadFault}
use Rattle.vl_disk.specs.declared.read_fault.ReadFault.TheVariants.{NoMemory}
use Rattle.vl_table_tests.specs.declared.source.Source.{Source}
use Rattle.vl_table_tests.specs.declared.source.Source.TheVariants.{Memory, Table}

module _ {H R : Type 0} {g : HeldFile.Ghosts H} {k : Clone.Ghosts H} where
  abbrev pub source_left : (H → Option (List ℕ)) → Source H R g k → Option (List Entry)
  source_left bytes_of (Memory es) = Some es
  source_left bytes_of (Table c) = cursor_left bytes_of c

  abbrev pub source_budget : Source H R g k → ℕ
  source_budget (Memory es) = length es
  source_budget (Table c) = cursor_budget c

  abbrev pub SourceMayFail : (H → Option (List ℕ)) → Source H R g k → ReadFault → Type 0
  SourceMayFail bytes_of (Memory es) fault = fault ≡ NoMemory
  SourceMayFail bytes_of (Table c) fault = MayStop bytes_of c fault

  abbrev pub SourceStands : (H → Option (List ℕ)) → Source H R g k → (Entry → Bool) → Type 0
  SourceStands bytes_of (Memory es) is_met = Unit {0}
  SourceStands bytes_of (Table c) is_met = CursorStands bytes_of c is_met
