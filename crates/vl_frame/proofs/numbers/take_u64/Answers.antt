use Rattle.std.proofs.Common.{arith}
use Rattle.vl_frame.proofs.Fronts.{front_of_8}
use Rattle.vl_frame.proofs.numbers.take_u64.Goals as goal

pub returns-clause-found : goal.returns-clause-found
returns-clause-found c =
    front_of_8 c.args.bytes.now c.in_ok-front.front.now c.in_ok-front.rest.now c.read_u64.result
    (λ i. omega (arith, c.type_inv.bytes i)) c.in_ok-front.ensures.found c.in_ok-front.ensures.count c.read_u64.ensures
