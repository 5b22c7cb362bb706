use Rattle.std.proofs.Common.{arith}
use Rattle.std.proofs.lemmas.Bool.Decides.{nat_tests}
use Rattle.vl_table.proofs.BodySteps.{next_point}
use Rattle.vl_table.proofs.body.points.is_next.Goals as goal

pub returns : goal.returns
returns c = next_point c.args.list.now c.args.point _ (grind (arith, nat_tests))
