use Rattle.std.specs.Prelude.{map}
use Rattle.std.specs.List.{AllZip}
use Rattle.std.proofs.Common.{List, take}
use Rattle.vl_compact.specs.Laid.{AreTablesOf}
use Rattle.vl_engine_model.specs.Levels.{without}
use Rattle.vl_engine_model.specs.declared.table.Table as laid
use Rattle.vl_compact.proofs.replace.others_of_each.Given as goal

abbrev pub invariant-loop-level : goal.invariant-loop-level
invariant-loop-level g l = (ls : List (List laid.Table)) → AllZip (AreTablesOf g.H.HeldFile.bytes) l.levels ls
    → AllZip (AreTablesOf g.H.HeldFile.bytes) l.all.items (map (without l.inputs) (take l.level-index ls))
