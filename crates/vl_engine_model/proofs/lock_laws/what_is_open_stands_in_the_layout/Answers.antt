use Rattle.vl_engine_model.specs.laws.LockHistoryLaws.{last_open, as_many_live}
use Rattle.vl_engine_model.specs.laws.OwnThings.{planned_opens, picked_opens}
use Rattle.vl_engine_model.proofs.lock_laws.what_is_open_stands_in_the_layout.Goals as goal

pub returns-clause-has : goal.returns-clause-has
returns-clause-has c last o l es has legal = last_open last o l es has legal

pub returns-clause-as_many : goal.returns-clause-as_many
returns-clause-as_many c o l has = as_many_live o l has

pub returns-clause-planned : goal.returns-clause-planned
returns-clause-planned c last o e es legal is = planned_opens last o e legal.0 is

pub returns-clause-picked : goal.returns-clause-picked
returns-clause-picked c last o e es legal is = picked_opens last o e legal.0 is
