use Rattle.vl_engine_model.specs.laws.OrderShows.{shows_by_key, shows_in_order, shows_gathered}
use Rattle.vl_engine_model.proofs.laws.shown_key_by_key.Goals as goal

pub returns-clause-own : goal.returns-clause-own
returns-clause-own c logs es fs h from to same shows = shows_by_key logs es fs h from to same shows

pub returns-clause-order : goal.returns-clause-order
returns-clause-order c logs front es back h from to shows = shows_in_order logs front es back h from to shows

pub returns-clause-gathered : goal.returns-clause-gathered
returns-clause-gathered c logs es some fs h from to gathers shows = shows_gathered logs es some fs gathers h from to shows
