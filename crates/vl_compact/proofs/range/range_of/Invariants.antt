use Rattle.std.proofs.Common.{◌≡◌, ◌≤◌, List, length, drop}
use Rattle.std.specs.Option.{option_map}
use Rattle.vl_compact.specs.Laid.{AreTablesOf}
use Rattle.vl_compact.specs.Ranges.{range_in}
use Rattle.vl_engine_model.specs.Levels.{range_of}
use Rattle.vl_engine_model.specs.declared.table.Table as laid
use Rattle.vl_compact.proofs.range.range_of.Given as goal

abbrev pub invariant-loop-at : goal.invariant-loop-at
invariant-loop-at g l = record {
  within : l.at ≤ length l.tables;
  range : (ts : List laid.Table) → AreTablesOf g.H.HeldFile.bytes l.tables ts
      → option_map range_in l.range ≡ range_of (drop l.at ts);
}

abbrev pub decreases-loop-at : goal.decreases-loop-at
decreases-loop-at g l = l.at
