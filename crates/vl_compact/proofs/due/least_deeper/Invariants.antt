use Rattle.std.proofs.Common.{◌≡◌, ◌+◌, List, drop}
use Rattle.std.specs.List.{AllZip}
use Rattle.vl_compact.specs.Due.{has_due}
use Rattle.vl_compact.specs.Laid.{AreTablesOf}
use Rattle.vl_engine_model.specs.Levels.{due_from}
use Rattle.vl_engine_model.specs.declared.table.Table as laid
use Rattle.vl_compact.proofs.due.least_deeper.Given as goal

abbrev pub invariant-loop-at : goal.invariant-loop-at
invariant-loop-at g l = ((ls : List (List laid.Table)) → AllZip (AreTablesOf g.H.HeldFile.bytes) l.levels ls
    → due_from 1 ls ≡ due_from (l.at + 1) (drop l.at ls))
    × (has_due g.H.HeldFile.size 1 l.levels ≡ has_due g.H.HeldFile.size (l.at + 1) (drop l.at l.levels))
