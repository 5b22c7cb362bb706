use Rattle.vl_stream.specs.laws.BackupLaws.{one_stream}
use Rattle.vl_stream.proofs.laws.an_input_is_read_in_one_way.Goals as goal

pub returns : goal.returns
returns c = one_stream
