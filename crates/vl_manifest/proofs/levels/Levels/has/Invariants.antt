use Rattle.std.proofs.Common.{◌≡◌, drop}
use Rattle.vl_manifest.specs.Levels.{all_tables, is_in}
use Rattle.vl_manifest.proofs.levels.Levels.has.Given as goal

-- the table is in the lists that are left, or in none
abbrev pub invariant-loop-list : goal.invariant-loop-list
invariant-loop-list l = is_in l.table (all_tables (drop l.list-index l.list-items)) ≡ is_in l.table (all_tables l.fn.self)
