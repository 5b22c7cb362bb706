use Rattle.std.proofs.Common.{◌≤◌, List, length, drop}
use Rattle.std.specs.Option.{option_copied}
use Rattle.vl_compact.specs.Laid.{AreBoth, AreTablesOf, IsTableOf}
use Rattle.vl_engine_model.specs.Levels.{least_table}
use Rattle.vl_engine_model.specs.declared.table.Table as laid
use Rattle.vl_compact.proofs.choice.least.Given as goal

abbrev pub invariant-loop-at : goal.invariant-loop-at
invariant-loop-at g l = record {
  within : l.at ≤ length l.tables;
  best : (ts : List laid.Table) → AreTablesOf g.H.HeldFile.bytes l.tables ts
      → AreBoth (IsTableOf g.H.HeldFile.bytes) (option_copied l.best) (least_table (drop l.at ts));
}

abbrev pub decreases-loop-at : goal.decreases-loop-at
decreases-loop-at g l = l.at
