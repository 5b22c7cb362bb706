-- Of entries that a table may have each may come behind those before it.
use Rattle.std.proofs.Common.{List, [], ◌∷◌, ◌++◌}
use Rattle.std.specs.List.{AllByRecursion}
use Rattle.vl_back.specs.Tables.{AreSpellable, IsSpellable}
use Rattle.vl_table.specs.body.Blocks.{entries}
use Rattle.vl_table.specs.body.Entries.{IsEntry}
use Rattle.vl_table.specs.body.Lists.{IsNext, last_item}
use Rattle.vl_model.specs.Formats.{table_format}
use Rattle.vl_model.specs.declared.entry.Entry.{Entry}
use Rattle.vl_model.specs.laws.OrderLaws.{IsRising, rising}
use Rattle.vl_table.specs.writer.Writing.{MayCome}

pub spellable_at : (front : List Entry) (e : Entry) (rest : List Entry) → AllByRecursion IsSpellable (front ++ e ∷ rest) → IsSpellable e
spellable_at [] e rest each = each.0
spellable_at (f ∷ front) e rest each = spellable_at front e rest each.1

next_at : (front : List Entry) (e : Entry) (rest : List Entry) → IsRising (front ++ e ∷ rest)
    → IsNext (entries table_format) (last_item front) e
next_at [] e rest rises = tt
next_at (f ∷ []) e rest rises = rises.0.0
next_at (f ∷ g ∷ front) e rest rises = next_at (g ∷ front) e rest rises.1

pub may_come : (front : List Entry) (e : Entry) (rest : List Entry) → AreSpellable (front ++ e ∷ rest) → IsEntry table_format e
    → MayCome front e
may_come front e rest spellable entry = record {
  entry = entry;
  next = next_at front e rest (rising (front ++ e ∷ rest) spellable.ordered);
}
