use Rattle.std.proofs.Common.{◌≡◌, ◌++◌, drop}
use Rattle.vl_back.specs.InstallEdits.{drops_of}
use Rattle.vl_manifest.specs.Levels.{all_tables}
use Rattle.vl_back.proofs.install.add_all_drops.Given as goal

abbrev pub invariant-loop-tables : goal.invariant-loop-tables
invariant-loop-tables l =
    l.edits.items ++ drops_of l.inputs (all_tables (drop l.tables-index l.levels))
    ≡ l.fn.edits.items ++ drops_of l.inputs (all_tables l.levels)
