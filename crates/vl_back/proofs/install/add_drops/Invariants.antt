use Rattle.std.proofs.Common.{◌≡◌, ◌++◌, drop}
use Rattle.vl_back.specs.InstallEdits.{drops_of}
use Rattle.vl_back.proofs.install.add_drops.Given as goal

abbrev pub invariant-loop-at : goal.invariant-loop-at
invariant-loop-at l =
    l.edits.items ++ drops_of l.inputs (drop l.at l.tables) ≡ l.fn.edits.items ++ drops_of l.inputs l.tables
