use Rattle.vl_drive.proofs.Gathering.{sure_of}
use Rattle.vl_drive.proofs.laws.sure_shops_meet_no_fault.Goals as goal

pub returns : goal.returns
returns c vs ws why zip sure is = sure_of why vs ws zip sure is
