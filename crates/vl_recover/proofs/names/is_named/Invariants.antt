use Rattle.std.proofs.Common.{◌≡◌, drop}
use Rattle.vl_recover.specs.opening.Named as named
use Rattle.vl_recover.proofs.names.is_named.Given as goal

-- one of the levels that are left names the table, or none does
abbrev pub invariant-loop-tables : goal.invariant-loop-tables
invariant-loop-tables l = named.is_named l.table (drop l.tables-index l.levels) ≡ named.is_named l.table l.levels
