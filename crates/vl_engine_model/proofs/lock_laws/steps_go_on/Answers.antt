use Rattle.vl_engine_model.specs.laws.LockHistoryLaws.{legal-append, legal-first, open_things-append, last_layout-append, history_of-extends}
use Rattle.vl_engine_model.proofs.lock_laws.steps_go_on.Goals as goal

pub returns-clause-more : goal.returns-clause-more
returns-clause-more c last o es more legal later = legal-append last o es more legal later

pub returns-clause-first : goal.returns-clause-first
returns-clause-first c last o es later legal = legal-first last o es later legal

pub returns-clause-things : goal.returns-clause-things
returns-clause-things c o es more = open_things-append o es more

pub returns-clause-layout : goal.returns-clause-layout
returns-clause-layout c l es more = last_layout-append l es more

pub returns-clause-history : goal.returns-clause-history
returns-clause-history c base number es more = history_of-extends base number es more
