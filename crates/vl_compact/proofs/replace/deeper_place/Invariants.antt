use Rattle.std.specs.List.{AllZip}
use Rattle.std.proofs.Common.{◌≡◌, ◌+◌, List, drop}
use Rattle.vl_compact.specs.Laid.{AreTablesOf}
use Rattle.vl_compact.specs.Places.{input_from}
use Rattle.vl_engine_model.specs.declared.table.Table as laid
use Rattle.vl_compact.proofs.replace.deeper_place.Given as goal

abbrev pub invariant-loop-at : goal.invariant-loop-at
invariant-loop-at g l = (ls : List (List laid.Table)) → AllZip (AreTablesOf g.H.HeldFile.bytes) l.levels ls
    → input_from 1 l.inputs ls ≡ input_from (l.at + 1) l.inputs (drop l.at ls)
