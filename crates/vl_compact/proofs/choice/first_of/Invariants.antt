use Rattle.std.proofs.Common.{◌≡◌, List, drop}
use Rattle.vl_compact.specs.Due.{has_leading}
use Rattle.vl_compact.specs.Laid.{AreTablesOf}
use Rattle.vl_engine_model.specs.Levels.{first_into}
use Rattle.vl_engine_model.specs.declared.table.Table as laid
use Rattle.vl_compact.proofs.choice.first_of.Given as goal

abbrev pub invariant-loop-table : goal.invariant-loop-table
invariant-loop-table g l = ((ts : List laid.Table) → AreTablesOf g.H.HeldFile.bytes l.tables ts
    → first_into l.segment ts ≡ first_into l.segment (drop l.table-index ts))
    × (has_leading l.segment l.tables ≡ has_leading l.segment (drop l.table-index l.tables))
