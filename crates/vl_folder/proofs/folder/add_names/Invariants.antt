use Rattle.std.proofs.Common.{All}
use Rattle.vl_disk.specs.Name.{IsNumbered}
use Rattle.vl_folder.proofs.folder.add_names.Given as goal

abbrev pub invariant-loop-text : goal.invariant-loop-text
invariant-loop-text l =
    (goal.iterator-loop-text).can_next l.text-iterator ×
    (goal.iterator-loop-text).is_finite l.text-iterator ×
    All IsNumbered l.names.items
