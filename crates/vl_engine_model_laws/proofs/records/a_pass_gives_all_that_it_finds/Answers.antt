use Rattle.vl_engine_model_laws.specs.laws.Batches.{batch_found, batch_some, batch_within, batches_all, batches_are, none_given, none_left}
use Rattle.vl_engine_model_laws.proofs.records.a_pass_gives_all_that_it_finds.Goals as goal

pub returns-clause-some : goal.returns-clause-some
returns-clause-some c pass batch is = batch_some pass batch is

pub returns-clause-within : goal.returns-clause-within
returns-clause-within c pass batch is = batch_within pass batch is

pub returns-clause-found : goal.returns-clause-found
returns-clause-found c pass batch is = batch_found pass batch is

pub returns-clause-none : goal.returns-clause-none
returns-clause-none c pass = (none_left pass, none_given pass)

pub returns-clause-all : goal.returns-clause-all
returns-clause-all c pass batches are = batches_all pass batches are

pub returns-clause-end : goal.returns-clause-end
returns-clause-end c pass = batches_are pass
