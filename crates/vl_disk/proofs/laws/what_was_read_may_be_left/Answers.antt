use Rattle.vl_disk.specs.Started.{read_left}
use Rattle.vl_disk.proofs.laws.what_was_read_may_be_left.Goals as goal

pub returns : goal.returns
returns c = read_left
