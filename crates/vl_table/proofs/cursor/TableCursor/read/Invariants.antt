use Rattle.std.proofs.Common.{◌≡◌, ◌≤◌, ◌-◌, true}
use Rattle.vl_table.specs.CursorLeft.{GoesOn, blocks_left, unread}
use Rattle.vl_table.specs.CursorParts.{rise_over}
use Rattle.vl_table.proofs.cursor.TableCursor.read.Given as goal

abbrev pub invariant-tables : goal.invariant-tables
invariant-tables g l = record {
  unread : rise_over l.fn.self.span l.fn.self.tables.items ≡ true → unread l.self ≡ unread l.fn.self;
  fewer : blocks_left l.self ≤ blocks_left l.fn.self;
  goes : GoesOn l.fn.self l.self;
  entries : l.self.entries ≡ l.fn.self.entries;
  steady : g.R.Reader.faults l.reader ≡ g.R.Reader.faults l.initial.reader;
}

abbrev pub decreases-tables : goal.decreases-tables
decreases-tables g l = l.self.later.end - l.self.later.first
