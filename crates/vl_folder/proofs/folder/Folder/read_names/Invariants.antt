use Rattle.std.proofs.Common.{All}
use Rattle.vl_disk.specs.Name.{IsNumbered}
use Rattle.vl_folder.proofs.folder.Folder.read_names.Given as goal

abbrev pub invariant-loop : goal.invariant-loop
invariant-loop g l = All IsNumbered l.names.items
