-- What a source gives, and how it may fail.
use Rattle.std.specs.declared.clone.Clone as Clone
use Rattle.vl_disk.specs.declared.reader.HeldFile as HeldFile
use Rattle.std.specs.Prelude.{◌≡◌, ℕ, Bool, true, false, List, length, Option, Some}
use Rattle.vl_model.specs.declared.entry.Entry.{Entry}
use Rattle.vl_table.specs.CursorLeft.{cursor_budget, cursor_left}
use Rattle.vl_table.specs.CursorStops.{MayStop}
use Rattle.vl_disk.specs.declared.read_fault.ReadFault.{ReadFault}
use Rattle.vl_version.specs.Own.{own_left}
use Rattle.vl_disk.specs.declared.read_fault.ReadFault.TheVariants.{NoMemory, Disk, Damaged}
use Rattle.vl_version.specs.declared.source.Source.{Source}
use Rattle.vl_version.specs.declared.source.Source.TheVariants.{Own, Held, Tables}

-- whether reading failed
abbrev pub is_disk_fault : ReadFault → Bool
is_disk_fault NoMemory = false
is_disk_fault (Disk name) = true
is_disk_fault (Damaged name place) = false

module _ {H R : Type 0} {g : HeldFile.Ghosts H} {k : Clone.Ghosts H} where
  -- the entries that are left of it, as its way goes, where they are told
  abbrev pub left_in : (H → Option (List ℕ)) → Source H R g k → Option (List Entry)
  left_in bytes_of (Own cursor) = Some (own_left cursor)
  left_in bytes_of (Held cursor) = Some cursor
  left_in bytes_of (Tables cursor) = cursor_left bytes_of cursor

  abbrev pub source_budget : Source H R g k → ℕ
  source_budget (Own cursor) = length cursor.writes.now
  source_budget (Held cursor) = length cursor
  source_budget (Tables cursor) = cursor_budget cursor

  -- memory runs out, or a table fails
  abbrev pub SourceMayFail : (H → Option (List ℕ)) → Source H R g k → ReadFault → Type 0
  SourceMayFail bytes_of (Own cursor) fault = fault ≡ NoMemory
  SourceMayFail bytes_of (Held cursor) fault = fault ≡ NoMemory
  SourceMayFail bytes_of (Tables cursor) fault =
      (why : ReadFault) × MayStop bytes_of cursor why × (fault ≡ why)
