use Rattle.vl_table.proofs.Fits.{has_table}
use Rattle.vl_table.proofs.writer.laws.tables_have_room.Goals as goal

pub returns : goal.returns
returns c = has_table
