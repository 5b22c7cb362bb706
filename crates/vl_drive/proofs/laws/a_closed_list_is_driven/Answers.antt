use Rattle.vl_drive.proofs.WholeList.{list-driven}
use Rattle.vl_drive.proofs.laws.a_closed_list_is_driven.Goals as goal

pub returns : goal.returns
returns c = list-driven
