use Rattle.std.proofs.Common.{◌≡◌, ◌≤◌, Bool}
use Rattle.vl_model.specs.Cursors.{Keeps}
use Rattle.vl_model.specs.declared.entry.Entry.{Entry}
use Rattle.vl_table.specs.CursorLeft.{GoesOn, HasRead, blocks_left, cursor_budget, cursor_left}
use Rattle.vl_table.specs.ReadTo.{CursorStands}
use Rattle.vl_table.proofs.cursor.TableCursorCursor.next.Given as goal

abbrev pub invariant-steps : goal.invariant-steps
invariant-steps g l = record {
  left : Keeps (cursor_left g.H.HeldFile.bytes l.fn.self) (cursor_left g.H.HeldFile.bytes l.self);
  budget : cursor_budget l.self ≤ cursor_budget l.fn.self;
  steady : g.R.Reader.faults l.reader ≡ g.R.Reader.faults l.initial.reader;
  read : HasRead g.H.HeldFile.bytes l.fn.self l.self;
  goes : GoesOn l.fn.self l.self;
  back : (is_met : Entry → Bool) → CursorStands g.H.HeldFile.bytes l.self is_met → CursorStands g.H.HeldFile.bytes l.fn.self is_met;
}

abbrev pub decreases-steps : goal.decreases-steps
decreases-steps g l = blocks_left l.self
