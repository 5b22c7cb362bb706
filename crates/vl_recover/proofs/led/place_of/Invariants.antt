use Rattle.std.proofs.Common.{◌≡◌, ◌++◌, drop, take}
use Rattle.vl_recover.specs.opening.Opening as opening
use Rattle.vl_recover.proofs.led.place_of.Given as goal

-- the numbers before the place are below
abbrev pub invariant-loop-place : goal.invariant-loop-place
invariant-loop-place l = opening.put_number l.number l.led ≡ take l.place l.led ++ opening.put_number l.number (drop l.place l.led)
