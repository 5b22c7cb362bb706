use Rattle.vl_table.proofs.TrueTables.{not_damaged, one_read}
use Rattle.vl_table.proofs.laws.tables_are_read_in_one_way.Goals as goal

pub returns-clause-one : goal.returns-clause-one
returns-clause-one c = one_read

pub returns-clause-whole : goal.returns-clause-whole
returns-clause-whole c = not_damaged
