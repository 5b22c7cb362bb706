use Rattle.vl_table.specs.laws.TrueBlocks.{no_bad_block}
use Rattle.vl_table.proofs.laws.true_tables_have_no_bad_block.Goals as goal

pub returns : goal.returns
returns g c = no_bad_block g.H.HeldFile.bytes
