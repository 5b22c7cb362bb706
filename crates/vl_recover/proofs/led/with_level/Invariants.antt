use Rattle.std.proofs.Common.{◌≡◌, drop}
use Rattle.vl_recover.specs.opening.FoundTables.{found_list}
use Rattle.vl_recover.specs.opening.Opening as opening
use Rattle.vl_recover.proofs.led.with_level.Given as goal

-- the same of the tables of a level
abbrev pub invariant-loop-table : goal.invariant-loop-table
invariant-loop-table g l =
    opening.led_by (found_list (drop l.table-index l.tables)) l.more.items ≡ opening.led_by (found_list l.tables) l.fn.led.items
