use Rattle.vl_compact.specs.laws.WholeLaws.{all_stand}
use Rattle.vl_compact.proofs.laws.what_was_read_whole_stands.Goals as goal

pub returns : goal.returns
returns g c = λ ts whole. all_stand g.H.HeldFile.bytes ts whole
