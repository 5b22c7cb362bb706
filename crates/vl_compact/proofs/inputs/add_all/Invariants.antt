use Rattle.std.proofs.Common.{List, ◌++◌, take}
use Rattle.vl_compact.specs.Laid.{AreTablesOf}
use Rattle.vl_engine_model.specs.declared.table.Table as laid
use Rattle.vl_compact.proofs.inputs.add_all.Given as goal

abbrev pub invariant-loop-table : goal.invariant-loop-table
invariant-loop-table g l = (ts us : List laid.Table) → AreTablesOf g.H.HeldFile.bytes l.fn.all.items ts
    → AreTablesOf g.H.HeldFile.bytes l.tables us → AreTablesOf g.H.HeldFile.bytes l.all.items (ts ++ take l.table-index us)
