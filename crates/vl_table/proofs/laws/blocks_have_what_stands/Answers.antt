use Rattle.vl_table.proofs.StandingBlocks.{standing-none, standing-says}
use Rattle.vl_table.proofs.laws.blocks_have_what_stands.Goals as goal

pub returns-clause-stands : goal.returns-clause-stands
returns-clause-stands c = standing-says

pub returns-clause-none : goal.returns-clause-none
returns-clause-none c = standing-none
