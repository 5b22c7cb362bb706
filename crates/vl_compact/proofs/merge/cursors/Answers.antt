use Rattle.std.proofs.Common.{List, [], ◌∷◌, ◌++◌, subst, sym, take}
use Rattle.std.specs.List.{AllZip}
use Rattle.vl_compact.proofs.Lefts.{item_there, more_fails}
use Rattle.vl_compact.proofs.Stopping.{stand_next, stops_there}
use Rattle.vl_compact.proofs.Zips.{zip_all, zip_at, zip_push}
use Rattle.vl_compact.specs.Laid.{IsTableOf}
use Rattle.vl_compact.specs.Lefts.{HasBehind}
use Rattle.vl_compact.specs.Stops.{InputsReadTo, MayStopIn}
use Rattle.vl_compact.specs.Keys.{span_behind}
use Rattle.vl_model.specs.declared.way.Way.TheVariants.{Up}
use Rattle.vl_table.specs.ReadTo.{CursorStands, TablesReadTo}
use Rattle.vl_table.specs.declared.table.Table.{Table}
use Rattle.std.proofs.lemmas.List.{take_all}
use Rattle.vl_table.specs.CursorStops.{MayStop}
use Rattle.vl_engine_model.specs.declared.table.Table as laid
use Rattle.vl_merge.specs.MergeOf.{OneMayFail}
use Rattle.vl_table.specs.CursorLeft.{cursor_left}
use Rattle.vl_table.specs.declared.cursor.TableCursor.{TableCursor}
use Rattle.vl_disk.specs.declared.read_fault.ReadFault.{ReadFault}
use Rattle.vl_compact.proofs.merge.cursors.Goals as goal

pub loop-table-preserved : goal.loop-table-preserved
loop-table-preserved g c = record {
  left = λ ts are.
      let i = c.loop-table.table-index in
      let R = HasBehind (λ (x : TableCursor g.row.H.Denot g.row.R.Denot g.H.HeldFile g.H.Clone). cursor_left g.H.HeldFile.bytes x) c.args.after.now in
      let at = zip_at (IsTableOf g.H.HeldFile.bytes) c.args.tables.now ts i c.table-item.result are
      c.loop-table-test.true c.table-item.is in
      subst (λ (l : List laid.Table). AllZip R c.push.new.self.items l) (sym at.taken)
      (subst (λ (l : List (TableCursor g.row.H.Denot g.row.R.Denot g.H.HeldFile g.H.Clone)). AllZip R l (take i ts ++ at.item ∷ []))
      (sym c.in_ok-push.ensures.items)
      (zip_push R c.loop-table.cursors.items (take i ts) c.in_ok-cursor.field-0 at.item (c.loop-table.invariant.left ts are)
      (c.in_ok-cursor.ensures.left at.item at.is)));
  fails = λ fault may.
      let May = λ (x : TableCursor g.row.H.Denot g.row.R.Denot g.H.HeldFile g.H.Clone) (f : ReadFault). MayStop g.H.HeldFile.bytes x f in
      more_fails May (MayStopIn g.H.HeldFile.bytes c.args.after.now c.args.tables.now) c.loop-table.cursors.items c.in_ok-cursor.field-0 fault
      (c.loop-table.invariant.fails fault)
      (λ here. stops_there g.H.HeldFile.bytes c.args.after.now c.args.tables.now c.table-item.result c.loop-table.table-index
      (item_there c.args.tables.now c.loop-table.table-index c.table-item.result c.loop-table-test.true c.table-item.is) fault
      (c.in_ok-cursor.ensures.may_fail fault here))
      (subst (λ (l : List (TableCursor g.row.H.Denot g.row.R.Denot g.H.HeldFile g.H.Clone)). OneMayFail May l fault) c.in_ok-push.ensures.items may);
  stands = λ is_met.
      let bytes = g.H.HeldFile.bytes in
      stand_next (λ (x : TableCursor g.row.H.Denot g.row.R.Denot g.H.HeldFile g.H.Clone). CursorStands bytes x is_met)
      (λ (t : Table g.row.H.Denot). TablesReadTo bytes (span_behind c.args.after.now) Up is_met (t ∷ []))
      c.loop-table.cursors.items c.push.new.self.items c.in_ok-cursor.field-0 c.args.tables.now c.loop-table.table-index c.table-item.result
      c.loop-table-test.true c.table-item.is c.in_ok-push.ensures.items (c.loop-table.invariant.stands is_met)
      (c.in_ok-cursor.ensures.stands is_met);
}

pub returns-clause-left : goal.returns-clause-left
returns-clause-left g c = λ ts are.
    subst (λ (l : List laid.Table). AllZip
    (HasBehind (λ (x : TableCursor g.row.H.Denot g.row.R.Denot g.H.HeldFile g.H.Clone). cursor_left g.H.HeldFile.bytes x) c.args.after.now)
    c.loop-table.cursors.items l)
    (zip_all (IsTableOf g.H.HeldFile.bytes) c.args.tables.now ts c.loop-table.table-index are c.loop-table-test.false)
    (c.loop-table.invariant.left ts are)

pub returns-clause-stands : goal.returns-clause-stands
returns-clause-stands g c = λ is_met stand.
    subst (λ (l : List (Table g.row.H.Denot)). InputsReadTo g.H.HeldFile.bytes c.args.after.now is_met l)
    (take_all c.loop-table.table-index c.args.tables.now c.loop-table-test.false) (c.loop-table.invariant.stands is_met stand)
