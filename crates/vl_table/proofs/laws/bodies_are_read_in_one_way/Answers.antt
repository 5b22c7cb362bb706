use Rattle.vl_table.specs.laws.BlockLaws.{one_block, one_index}
use Rattle.vl_table.specs.laws.FooterLaws.{one_footer}
use Rattle.vl_table.proofs.laws.bodies_are_read_in_one_way.Goals as goal

pub returns-clause-block : goal.returns-clause-block
returns-clause-block c = one_block

pub returns-clause-index : goal.returns-clause-index
returns-clause-index c = one_index

pub returns-clause-footer : goal.returns-clause-footer
returns-clause-footer c = one_footer
