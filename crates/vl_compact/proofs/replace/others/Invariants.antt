use Rattle.std.proofs.Common.{List, take}
use Rattle.vl_compact.specs.Laid.{AreTablesOf}
use Rattle.vl_engine_model.specs.Levels.{without}
use Rattle.vl_engine_model.specs.declared.table.Table as laid
use Rattle.vl_compact.proofs.replace.others.Given as goal

abbrev pub invariant-loop-table : goal.invariant-loop-table
invariant-loop-table g l = (ts : List laid.Table) → AreTablesOf g.H.HeldFile.bytes l.tables ts
    → AreTablesOf g.H.HeldFile.bytes l.all.items (without l.inputs (take l.table-index ts))
