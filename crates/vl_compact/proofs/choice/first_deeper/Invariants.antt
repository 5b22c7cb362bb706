use Rattle.std.proofs.Common.{◌≡◌, List, drop}
use Rattle.std.specs.List.{AllZip, flat_map}
use Rattle.vl_compact.specs.Due.{has_leading}
use Rattle.vl_compact.specs.Laid.{AreTablesOf}
use Rattle.vl_engine_model.specs.Levels.{first_into}
use Rattle.vl_engine_model.specs.declared.table.Table as laid
use Rattle.vl_version.specs.levels.LevelTables.{all_tables}
use Rattle.vl_compact.proofs.choice.first_deeper.Given as goal

abbrev pub invariant-loop-level : goal.invariant-loop-level
invariant-loop-level g l = ((ls : List (List laid.Table)) → AllZip (AreTablesOf g.H.HeldFile.bytes) l.levels ls
    → first_into l.segment (flat_map (λ level. level) ls) ≡ first_into l.segment (flat_map (λ level. level) (drop l.level-index ls)))
    × (has_leading l.segment (all_tables l.levels) ≡ has_leading l.segment (all_tables (drop l.level-index l.levels)))
