use Rattle.std.proofs.Common.{◌≡◌, ◌≤◌, ℕ, ◌+◌, length, take}
use Rattle.vl_pins.specs.Files.{BecomesBy, HasRoom, tables_retired, with_tables}
use Rattle.vl_space.proofs.kept.Removing.switch.Given as goal

abbrev pub invariant-loop-table : goal.invariant-loop-table
invariant-loop-table g l = record {
  pins : l.self.pins ≡ l.initial.self.pins;
  becomes : BecomesBy (with_tables (take l.table-index l.added)) l.initial.self.stock l.self.stock;
  room : (t n : ℕ) → t + l.table-index ≤ length l.added → HasRoom l.initial.self.stock (length l.added) 0 n
      → HasRoom l.self.stock t 0 n;
}

abbrev pub invariant-loop-table-2 : goal.invariant-loop-table-2
invariant-loop-table-2 g l = record {
  pins : l.self.pins ≡ l.initial.self.pins;
  becomes : BecomesBy (tables_retired l.epoch (take l.table-index l.dropped)) l.initial.self.stock l.self.stock;
  room : (n : ℕ) → HasRoom l.initial.self.stock 0 0 n → HasRoom l.self.stock 0 0 n;
}
