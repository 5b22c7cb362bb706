use Rattle.vl_engine_model_laws.specs.laws.PlanOpen.{drain_opens, plan_opens}
use Rattle.vl_engine_model_laws.proofs.laws.a_planned_job_is_open_well.Goals as goal

pub returns-clause-plan : goal.returns-clause-plan
returns-clause-plan c l h job are w some of is = plan_opens l h are w.stocked.tables_drawn some of job is

pub returns-clause-drain : goal.returns-clause-drain
returns-clause-drain c l h segment job are w some of is = drain_opens l h are w.stocked.tables_drawn some of segment job is
