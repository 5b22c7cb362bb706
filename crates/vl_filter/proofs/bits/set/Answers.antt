use Rattle.std.proofs.Common.{arith, ◌<◌, ◌/◌, length}
use Rattle.vl_filter.proofs.BitLaws.{sets_one}
use Rattle.vl_filter.proofs.bits.set.Goals as goal

pub returns : goal.returns
returns c = let within : c.args.place / 8 < length c.args.bytes.now = omega arith in λ p. sets_one c.args.bytes.now c.args.place within p
