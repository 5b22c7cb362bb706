use Rattle.std.proofs.Common.{◌≤◌}
use Rattle.vl_folder.proofs.open_file.OpenFile.write_again.Given as goal

abbrev pub invariant-loop : goal.invariant-loop
invariant-loop l = l.left ≤ l.end
