use Rattle.vlstore.proofs.Leasing.{forget_told}
use Rattle.vlstore.proofs.sequence.lease.give_up.Goals as goal

pub forget-requires : goal.forget-requires
forget-requires g c = λ disk told tells. c.requires tells

pub returns-clause-closes : goal.returns-clause-closes
returns-clause-closes g c told =
    forget_told c.args.session.now c.forget.new.self c.forget.ensures.on c.args.txn.ticket c.args.txn.number c.args.txn.writes
    (c.forget.ensures.steps told)
