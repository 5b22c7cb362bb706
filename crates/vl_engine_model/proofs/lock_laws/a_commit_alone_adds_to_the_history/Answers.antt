use Rattle.vl_engine_model.specs.laws.LockHistoryLaws.{history_of-same, history_of-put, last_number-is}
use Rattle.vl_engine_model.proofs.lock_laws.a_commit_alone_adds_to_the_history.Goals as goal

pub returns-clause-same : goal.returns-clause-same
returns-clause-same c base number es e none = history_of-same base number es e none

pub returns-clause-put : goal.returns-clause-put
returns-clause-put c base number es session ticket at writes l = history_of-put base number es session ticket at writes l

pub returns-clause-last : goal.returns-clause-last
returns-clause-last c base number es legal = last_number-is base number es legal
