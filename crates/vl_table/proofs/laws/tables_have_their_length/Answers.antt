use Rattle.vl_table.specs.laws.Lengths.{length-table_bytes}
use Rattle.vl_table.proofs.laws.tables_have_their_length.Goals as goal

pub returns : goal.returns
returns c = length-table_bytes
