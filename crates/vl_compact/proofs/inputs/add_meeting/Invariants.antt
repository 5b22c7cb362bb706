use Rattle.std.proofs.Common.{List, ◌++◌, take}
use Rattle.std.specs.Option.{option_map}
use Rattle.std.specs.List.{filter}
use Rattle.vl_compact.specs.Laid.{AreTablesOf}
use Rattle.vl_compact.specs.Ranges.{range_in}
use Rattle.vl_engine_model.specs.Levels.{meets}
use Rattle.vl_engine_model.specs.declared.table.Table as laid
use Rattle.vl_compact.proofs.inputs.add_meeting.Given as goal

abbrev pub invariant-loop-table : goal.invariant-loop-table
invariant-loop-table g l = (ts us : List laid.Table) → AreTablesOf g.H.HeldFile.bytes l.fn.all.items ts
    → AreTablesOf g.H.HeldFile.bytes l.tables us
    → AreTablesOf g.H.HeldFile.bytes l.all.items (ts ++ filter (meets (option_map range_in l.range)) (take l.table-index us))
