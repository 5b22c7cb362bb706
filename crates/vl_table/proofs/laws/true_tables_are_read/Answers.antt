use Rattle.vl_table.proofs.TrueTables.{reads_table}
use Rattle.vl_table.proofs.laws.true_tables_are_read.Goals as goal

pub returns : goal.returns
returns c = reads_table
