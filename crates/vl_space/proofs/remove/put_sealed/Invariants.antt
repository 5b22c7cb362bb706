use Rattle.std.proofs.Common.{◌≡◌, ◌++◌, take}
use Rattle.std.specs.Prelude.{map}
use Rattle.vl_pins.specs.InUse.{but}
use Rattle.vl_space.proofs.remove.put_sealed.Given as goal

abbrev pub invariant-loop-log : goal.invariant-loop-log
invariant-loop-log g l =
    l.numbers.items ≡ l.initial.numbers.items ++ but l.active (map (λ log. log.number) (take l.log-index l.logs))
