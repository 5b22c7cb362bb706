use Rattle.std.proofs.Common.{◌≡◌, ◌≤◌, ◌-◌}
use Rattle.vl_table.specs.CursorLeft.{StaysIn, in_block}
use Rattle.vl_table.proofs.cursor.TableCursor.give.Given as goal

abbrev pub invariant-skips : goal.invariant-skips
invariant-skips g l = record {
  left : in_block l.self ≡ in_block l.fn.self;
  fewer : l.self.entries.end - l.self.entries.first ≤ l.fn.self.entries.end - l.fn.self.entries.first;
  stays : StaysIn l.fn.self l.self;
}

abbrev pub decreases-skips : goal.decreases-skips
decreases-skips g l = l.self.entries.end - l.self.entries.first
