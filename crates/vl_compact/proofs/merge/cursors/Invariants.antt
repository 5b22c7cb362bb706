use Rattle.std.proofs.Common.{Bool, List, take}
use Rattle.std.specs.List.{AllByRecursion, AllZip}
use Rattle.vl_compact.specs.Laid.{AreTablesOf}
use Rattle.vl_compact.specs.Lefts.{HasBehind}
use Rattle.vl_engine_model.specs.declared.table.Table as laid
use Rattle.vl_merge.specs.MergeOf.{OneMayFail}
use Rattle.vl_table.specs.CursorLeft.{cursor_left}
use Rattle.vl_compact.specs.Stops.{InputsReadTo, MayStopIn}
use Rattle.vl_model.specs.declared.entry.Entry.{Entry}
use Rattle.vl_table.specs.ReadTo.{CursorStands}
use Rattle.vl_table.specs.CursorStops.{MayStop}
use Rattle.vl_table.specs.declared.cursor.TableCursor.{TableCursor}
use Rattle.vl_disk.specs.declared.read_fault.ReadFault.{ReadFault}
use Rattle.vl_compact.proofs.merge.cursors.Given as goal

abbrev pub invariant-loop-table : goal.invariant-loop-table
invariant-loop-table g l = record {
  left : (ts : List laid.Table) → AreTablesOf g.H.HeldFile.bytes l.tables ts
      → AllZip (HasBehind (λ (c : TableCursor g.row.H.Denot g.row.R.Denot g.H.HeldFile g.H.Clone). cursor_left g.H.HeldFile.bytes c) l.after) l.cursors.items
      (take l.table-index ts);
  fails : (fault : ReadFault)
      → OneMayFail (λ (c : TableCursor g.row.H.Denot g.row.R.Denot g.H.HeldFile g.H.Clone) (f : ReadFault). MayStop g.H.HeldFile.bytes c f)
      l.cursors.items fault → MayStopIn g.H.HeldFile.bytes l.after l.tables fault;
  stands : (is_met : Entry → Bool)
      → AllByRecursion (λ (c : TableCursor g.row.H.Denot g.row.R.Denot g.H.HeldFile g.H.Clone). CursorStands g.H.HeldFile.bytes c is_met)
      l.cursors.items → InputsReadTo g.H.HeldFile.bytes l.after is_met (take l.table-index l.tables);
}
