use Rattle.std.proofs.Common.{◌≡◌, drop, map}
use Rattle.vl_recover.specs.opening.FoundTables.{found_level}
use Rattle.vl_recover.specs.opening.Opening as opening
use Rattle.vl_recover.proofs.led.led_into.Given as goal

-- the levels that are left, behind those that were gone through, come to what all come to
abbrev pub invariant-loop-tables : goal.invariant-loop-tables
invariant-loop-tables g l =
    opening.led_through (map found_level (drop l.tables-index l.levels)) l.led.items ≡ opening.led_into (map found_level l.levels)
