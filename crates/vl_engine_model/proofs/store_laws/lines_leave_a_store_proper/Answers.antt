use Rattle.vl_engine_model.specs.laws.StoreLaws.{step_proper}
use Rattle.vl_engine_model.proofs.store_laws.lines_leave_a_store_proper.Goals as goal

pub returns-clause-new : goal.returns-clause-new
returns-clause-new c room = record { commits = record { numbers = tt; base = tt; commits = tt }; writes = tt; names = tt }

pub returns-clause-line : goal.returns-clause-line
returns-clause-line c s line p = step_proper s p line
