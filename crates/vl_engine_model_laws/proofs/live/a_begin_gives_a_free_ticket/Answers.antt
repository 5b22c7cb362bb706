use Rattle.vl_engine_model_laws.specs.laws.Lives.{begun_free, begun_number}
use Rattle.vl_engine_model_laws.proofs.live.a_begin_gives_a_free_ticket.Goals as goal

pub returns-clause-ticket : goal.returns-clause-ticket
returns-clause-ticket c l h ticket number w is = begun_free l h w ticket number is

pub returns-clause-number : goal.returns-clause-number
returns-clause-number c l h ticket number is = begun_number l h ticket number is
