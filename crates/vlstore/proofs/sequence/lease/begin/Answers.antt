use Rattle.std.proofs.Common.{[], ap}
use Rattle.vl_engine_model.specs.LockHistory.{open_tickets}
use Rattle.vl_sequence.proofs.Taking.{begins, was_full}
use Rattle.vlstore.proofs.Leasing.{begins_told}
use Rattle.vlstore.specs.Shops.{known_by}
use Rattle.vlstore.proofs.sequence.lease.begin.Goals as goal

pub returns-in-Ok-clause-begun : goal.returns-in-Ok-clause-begun
returns-in-Ok-clause-begun g c told =
    let v = c.args.session.now in
    let w = c.begin.new.self in
    begins (known_by v) (known_by w) c.in-Ok.txn.ticket c.in-Ok.txn.number
    (begins_told v w c.begin.ensures.on _ (c.in-Ok.ensures.steps told))

pub returns-in-Err-TooMany-clause-nothing : goal.returns-in-Err-TooMany-clause-nothing
returns-in-Err-TooMany-clause-nothing g c told =
    let v = c.args.session.now in
    let w = c.begin.new.self in
    ap (open_tickets [])
    (begins_told v w c.begin.ensures.on _ (rw c.in-Err-TooMany.field-0-is at (c.in-Err-TooMany.ensures.steps told))).steps.own

pub returns-in-Err-TooMany-clause-cause : goal.returns-in-Err-TooMany-clause-cause
returns-in-Err-TooMany-clause-cause g c lease told =
    let v = c.args.session.now in
    let w = c.begin.new.self in
    was_full (known_by v) (known_by w)
    (begins_told v w c.begin.ensures.on _ (rw c.in-Err-TooMany.field-0-is at (c.in-Err-TooMany.ensures.steps told)))

pub returns-in-Err-NoMemory-clause-nothing : goal.returns-in-Err-NoMemory-clause-nothing
returns-in-Err-NoMemory-clause-nothing g c told =
    let v = c.args.session.now in
    let w = c.begin.new.self in
    ap (open_tickets [])
    (begins_told v w c.begin.ensures.on _ (rw c.in-Err-NoMemory.field-0-is at (c.in-Err-NoMemory.ensures.steps told))).steps.own
