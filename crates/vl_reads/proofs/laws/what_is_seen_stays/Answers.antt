use Rattle.vl_reads.specs.laws.ChangesLaws.{changes_later}
use Rattle.vl_reads.specs.laws.SeesLaws.{sees_alone_later, sees_later}
use Rattle.vl_reads.proofs.laws.what_is_seen_stays.Goals as goal

pub returns-clause-txn : goal.returns-clause-txn
returns-clause-txn g c txn least most reads extends sees = sees_later g.H.HeldFile.bytes txn least most reads extends sees

pub returns-clause-view : goal.returns-clause-view
returns-clause-view g c view least most extends sees = sees_alone_later g.H.HeldFile.bytes view least most extends sees

pub returns-clause-changes : goal.returns-clause-changes
returns-clause-changes g c view least most extends is =
    changes_later g.H.HeldFile.bytes view.version view.past view.number least most extends is
