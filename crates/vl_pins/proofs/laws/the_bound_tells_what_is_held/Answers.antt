use Rattle.vl_pins.specs.laws.PinLaws.{free_up_to}
use Rattle.vl_pins.proofs.laws.the_bound_tells_what_is_held.Goals as goal

pub returns : goal.returns
returns c = λ pins l r are old. free_up_to l r old pins are
