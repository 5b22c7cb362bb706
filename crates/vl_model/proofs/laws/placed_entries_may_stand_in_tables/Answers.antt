use Rattle.vl_model.proofs.PlacementLaws.{placed-placed, placed-weakest}
use Rattle.vl_model.proofs.laws.placed_entries_may_stand_in_tables.Goals as goal

pub returns-clause-flushed : goal.returns-clause-flushed
returns-clause-flushed c = placed-placed

pub returns-clause-weakest : goal.returns-clause-weakest
returns-clause-weakest c = placed-weakest
