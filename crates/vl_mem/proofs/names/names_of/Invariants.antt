use Rattle.std.proofs.Common.{◌≡◌, ◌++◌}
use Rattle.vl_mem.specs.Kept.{standing_names}
use Rattle.vl_mem.proofs.names.names_of.Given as goal

abbrev pub invariant-loop-name : goal.invariant-loop-name
invariant-loop-name l = l.names.items ++ standing_names l.name-iterator ≡ standing_names l.entries.entries
