use Rattle.std.proofs.Common.{◌≡◌, List, drop}
use Rattle.std.specs.Prelude.{nat_lt}
use Rattle.vl_compact.proofs.DueLaws.{bytes_of}
use Rattle.vl_compact.specs.Due.{file_bytes}
use Rattle.vl_compact.specs.Laid.{AreTablesOf}
use Rattle.vl_engine_model.specs.declared.table.Table as laid
use Rattle.vl_compact.proofs.due.is_over.Given as goal

abbrev pub invariant-loop-table : goal.invariant-loop-table
invariant-loop-table g l = ((ts : List laid.Table) → AreTablesOf g.H.HeldFile.bytes l.tables ts
    → nat_lt l.bytes (bytes_of ts) ≡ nat_lt l.left (bytes_of (drop l.table-index ts)))
    × (nat_lt l.bytes (file_bytes g.H.HeldFile.size l.tables)
    ≡ nat_lt l.left (file_bytes g.H.HeldFile.size (drop l.table-index l.tables)))
