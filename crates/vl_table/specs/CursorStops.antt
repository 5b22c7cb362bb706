-- Where a cursor over tables stops, by its fault.
use Rattle.std.specs.declared.clone.Clone as Clone
use Rattle.vl_disk.specs.declared.reader.HeldFile as HeldFile
use Rattle.std.specs.Prelude.{◌≡◌, ℕ, Bool, true, Option, List, ◌++◌}
use Rattle.vl_disk.specs.declared.read_fault.ReadFault.{ReadFault}
use Rattle.vl_model.specs.declared.span.Span.{Span}
use Rattle.vl_model.specs.declared.way.Way.{Way}
use Rattle.vl_table.specs.CursorLeft.{unread}
use Rattle.vl_table.specs.CursorParts.{AllStand, Block, MayFailOn, StopsBefore, blocks_over, rise_over}
use Rattle.vl_table.specs.Stretches.{on_way}
use Rattle.vl_table.specs.declared.cursor.TableCursor.{TableCursor}
use Rattle.vl_table.specs.declared.table.Table.{Table}

module _ {H : Type 0} (bytes_of : H → Option (List ℕ)) where
  -- The first of these blocks stand; reading stops before the next one, which the fault names.
  pub record StopIn (bs : List (Block H)) (fault : ReadFault) : Type 0 where
    pub read : List (Block H)
    pub rest : List (Block H)
    pub parts : bs ≡ read ++ rest
    pub stood : AllStand bytes_of read
    pub stops : StopsBefore bytes_of rest fault

  -- it is a fault on these tables; and where their indexes rise, it is where reading these blocks of them stops
  abbrev pub MayStopOver : Bool → List (Table H) → List (Block H) → ReadFault → Type 0
  MayStopOver rises ts bs fault = MayFailOn bytes_of ts fault × (rises ≡ true → StopIn bs fault)

  -- so it is of the blocks of these tables that may have keys of the interval, as the way goes through them
  abbrev pub MayStopOn : Span → Way → List (Table H) → ReadFault → Type 0
  MayStopOn span way ts fault = MayStopOver (rise_over span ts) ts (blocks_over span way (on_way way ts)) fault

-- and of those that a cursor has still to read
abbrev pub MayStop : {H R : Type 0} {g : HeldFile.Ghosts H} {k : Clone.Ghosts H} → (H → Option (List ℕ))
    → TableCursor H R g k → ReadFault → Type 0
MayStop bytes_of c fault = MayStopOver bytes_of (rise_over c.span c.tables.items) c.tables.items (unread c) fault
