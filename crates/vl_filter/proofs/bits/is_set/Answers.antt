use Rattle.std.proofs.Common.{ap, nat_eq, get_or, ◌/◌, ◌%◌}
use Rattle.std.proofs.lemmas.Nat.Bits.{shr_and_one}
use Rattle.vl_filter.specs.Bits.{is_set}
use Rattle.vl_filter.proofs.bits.is_set.Goals as goal

pub returns : goal.returns
unfolding is_set
returns c = ap (λ n. nat_eq n 1) (shr_and_one (get_or c.args.bytes.now (c.args.place / 8) 0) (c.args.place % 8))
