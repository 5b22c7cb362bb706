use Rattle.std.proofs.Common.{ap}
use Rattle.std.specs.Prelude.{nat_le}
use Rattle.vl_compact.proofs.fill.is_full.Goals as goal

pub returns : goal.returns
returns c = λ number es given writing. ap (λ n. nat_le 2097152 n) (c.block_bytes.ensures number es given writing)
