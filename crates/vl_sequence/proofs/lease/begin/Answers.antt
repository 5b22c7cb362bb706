use Rattle.vl_sequence.proofs.Taking.{begins, full_makes_none, want_makes_none, was_full}
use Rattle.vl_sequence.proofs.lease.begin.Goals as goal

pub returns-in-Ok-clause-begun : goal.returns-in-Ok-clause-begun
returns-in-Ok-clause-begun g c =
    begins (g.S.Shop.knows c.args.shop.now) (g.S.Shop.knows c.begin.new.self) (g.S.Shop.ticket c.in-Ok.txn) (g.S.Shop.number c.in-Ok.txn)
    c.in-Ok.ensures.steps

pub returns-in-Err-TooMany-clause-none : goal.returns-in-Err-TooMany-clause-none
returns-in-Err-TooMany-clause-none g c =
    full_makes_none (g.S.Shop.knows c.args.shop.now) (g.S.Shop.knows c.begin.new.self)
    (rw c.in-Err-TooMany.field-0-is at c.in-Err-TooMany.ensures.steps)

pub returns-in-Err-TooMany-clause-cause : goal.returns-in-Err-TooMany-clause-cause
returns-in-Err-TooMany-clause-cause g c =
    was_full (g.S.Shop.knows c.args.shop.now) (g.S.Shop.knows c.begin.new.self)
    (rw c.in-Err-TooMany.field-0-is at c.in-Err-TooMany.ensures.steps)

pub returns-in-Err-NoMemory-clause-none : goal.returns-in-Err-NoMemory-clause-none
returns-in-Err-NoMemory-clause-none g c =
    want_makes_none (g.S.Shop.knows c.args.shop.now) (g.S.Shop.knows c.begin.new.self)
    (rw c.in-Err-NoMemory.field-0-is at c.in-Err-NoMemory.ensures.steps)
