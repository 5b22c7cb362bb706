use Rattle.vl_pins.specs.laws.PinLaws.{pins_begun, pins_begun_ended, pins_ended}
use Rattle.vl_pins.proofs.laws.pins_are_those_of_what_lives.Goals as goal

pub returns-clause-begun : goal.returns-clause-begun
returns-clause-begun c = λ pins l number are rising. pins_begun pins l are rising number

pub returns-clause-ended : goal.returns-clause-ended
returns-clause-ended c = λ pins l ticket are. pins_ended pins l are ticket

pub returns-clause-neither : goal.returns-clause-neither
returns-clause-neither c = λ pins l are rising. pins_begun_ended pins l are rising
