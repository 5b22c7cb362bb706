use Rattle.vl_model.specs.laws.CuttingLaws.{blocks-whole}
use Rattle.vl_engine_model.specs.laws.TableLaws.{cut-whole}
use Rattle.vl_engine_model.proofs.laws.cutting_keeps_all_entries.Goals as goal

pub returns-clause-blocks : goal.returns-clause-blocks
returns-clause-blocks c format es = blocks-whole format es

pub returns-clause-tables : goal.returns-clause-tables
returns-clause-tables c es = cut-whole es
