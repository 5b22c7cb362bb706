use Rattle.vl_drive.specs.laws.TurnLaws.{two_accounts}
use Rattle.vl_drive.proofs.laws.a_transfer_has_two_accounts.Goals as goal

pub returns : goal.returns
returns c = two_accounts
