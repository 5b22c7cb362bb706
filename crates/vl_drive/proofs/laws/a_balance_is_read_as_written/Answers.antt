use Rattle.vl_drive.specs.laws.TurnLaws.{balance_read}
use Rattle.vl_drive.proofs.laws.a_balance_is_read_as_written.Goals as goal

pub returns : goal.returns
returns c = balance_read
