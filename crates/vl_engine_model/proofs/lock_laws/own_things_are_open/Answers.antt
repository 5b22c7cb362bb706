use Rattle.std.specs.Prelude.{None}
use Rattle.vl_engine_model.specs.LockHistory.{nothing_open}
use Rattle.vl_engine_model.specs.laws.LockHistoryLaws.{own_is_open}
use Rattle.vl_engine_model.specs.laws.OwnThings.{job_stays, pass_stays}
use Rattle.vl_engine_model.proofs.lock_laws.own_things_are_open.Goals as goal

pub returns-clause-ticket : goal.returns-clause-ticket
returns-clause-ticket c last session ticket number es legal is = own_is_open last session ticket number es legal is

pub returns-clause-job : goal.returns-clause-job
returns-clause-job c last session job es legal is = job_stays last session job None nothing_open es legal (λ none. none) is

pub returns-clause-pass : goal.returns-clause-pass
returns-clause-pass c last session segment es legal is = pass_stays last session segment None nothing_open es legal (λ none. none) is
