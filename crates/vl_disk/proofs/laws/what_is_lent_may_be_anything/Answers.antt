use Rattle.vl_disk.specs.laws.Lending.{lent_left}
use Rattle.vl_disk.proofs.laws.what_is_lent_may_be_anything.Goals as goal

pub returns : goal.returns
returns c = λ name disk left made. lent_left name disk made left
