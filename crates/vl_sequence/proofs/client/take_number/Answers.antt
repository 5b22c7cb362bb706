use Rattle.std.proofs.Common.{◌<◌, ◌≤◌, ◌∙◌, sym, subst, arith}
use Rattle.vl_sequence.proofs.Beginnings.{on_then, passed_up}
use Rattle.vl_sequence.proofs.Committed.{on_err}
use Rattle.vl_sequence.proofs.Numbering.{cause_now, passed, stop_was, taken_was}
use Rattle.vl_sequence.proofs.Stopping.{cause_since}
use Rattle.vl_sequence.specs.Counting.{HasLeased, IsStop}
use Rattle.vl_sequence.proofs.client.take_number.Goals as goal

-- a number was given

pub returns-in-Ok-clause-held : goal.returns-in-Ok-clause-held
returns-in-Ok-clause-held g c leases x below =
    let inv = c.loop.invariant in
    let was = c.args.sequence.now in
    let now = c.loop.sequence in
    let next_is = inv.4 in
    let end_is = inv.5 in
    let less : now.next < now.end = omega (arith, below, next_is, end_is) in
    subst (HasLeased was.key was.lease leases) (sym (c.in-Ok.ensures.given.held less).2) (inv.6 leases x)

pub returns-in-Ok-clause-taken : goal.returns-in-Ok-clause-taken
returns-in-Ok-clause-taken g c leases x none =
    let inv = c.loop.invariant in
    let was = c.args.sequence.now in
    let now = c.loop.sequence in
    let new = c.next-in-loop.new.self in
    let next_is = inv.4 in
    let end_is = inv.5 in
    let le : now.end ≤ now.next = omega (arith, none, next_is, end_is) in
    taken_was now.key was.key now.lease was.lease inv.2 inv.3 leases (g.S.Shop.knows now.shop) (g.S.Shop.knows new.shop)
    now.next now.end new.next new.end c.in-Ok.number c.in-Ok.ensures.on c.in-Ok.ensures.given le (inv.6 leases x)

-- it is asked for again

pub loop-preserved : goal.loop-preserved
loop-preserved g c =
    let inv = c.loop.invariant in
    let was = c.args.sequence.now in
    let mid = c.next-in-loop.new.self in
    let v = g.S.Shop.knows was.shop in
    let u = g.S.Shop.knows c.loop.sequence.shop in
    let x = g.S.Shop.knows mid.shop in
    let w = g.S.Shop.knows c.pass_over.new.sequence.shop in
    let p = c.in_ok-pass_over-in-Err.ensures in
    let key_is = c.in-Err.ensures.same.0 ∙ inv.2 in
    let lease_is = c.in-Err.ensures.same.1 ∙ inv.3 in (
      on_then v u w inv.0 (on_then u x w c.in-Err.ensures.on p.on),
      p.ready c.in-Err.ensures.ready,
      p.same.0 ∙ key_is,
      p.same.1 ∙ lease_is,
      p.same.2 ∙ c.in-Err.ensures.refused.0 ∙ inv.4,
      p.same.3 ∙ c.in-Err.ensures.refused.1 ∙ inv.5,
      λ leases h. passed mid.key was.key mid.lease was.lease key_is lease_is leases u x w c.in-Err.ensures.on (inv.6 leases h)
          (c.in-Err.ensures.commits leases) (p.leased leases),
    )

-- it is not

pub returns-in_err-pass_over-in-Err-clause-ready : goal.returns-in_err-pass_over-in-Err-clause-ready
returns-in_err-pass_over-in-Err-clause-ready g c = c.in_err-pass_over-in-Err.ensures.ready c.in-Err.ensures.ready

pub returns-in_err-pass_over-in-Err-clause-refused : goal.returns-in_err-pass_over-in-Err-clause-refused
returns-in_err-pass_over-in-Err-clause-refused g c leases h =
    let inv = c.loop.invariant in
    let was = c.args.sequence.now in
    let mid = c.next-in-loop.new.self in
    let u = g.S.Shop.knows c.loop.sequence.shop in
    let x = g.S.Shop.knows mid.shop in
    let w = g.S.Shop.knows c.pass_over.new.sequence.shop in
    on_err c.from_residual.result
    (passed mid.key was.key mid.lease was.lease (c.in-Err.ensures.same.0 ∙ inv.2) (c.in-Err.ensures.same.1 ∙ inv.3) leases u x w
    c.in-Err.ensures.on (inv.6 leases h) (c.in-Err.ensures.commits leases) (c.in_err-pass_over-in-Err.ensures.leased leases))

pub returns-in_err-pass_over-in-Err-clause-stopped : goal.returns-in_err-pass_over-in-Err-clause-stopped
returns-in_err-pass_over-in-Err-clause-stopped g c =
    let inv = c.loop.invariant in
    let was = c.args.sequence.now in
    let now = c.loop.sequence in
    let mid = c.next-in-loop.new.self in
    let v = g.S.Shop.knows was.shop in
    let u = g.S.Shop.knows now.shop in
    let x = g.S.Shop.knows mid.shop in
    let w = g.S.Shop.knows c.pass_over.new.sequence.shop in
    let why = c.in_err-pass_over-in-Err.field-0.0 in
    let cause = cause_now mid.key now.key mid.lease now.lease c.in-Err.ensures.same.0 c.in-Err.ensures.same.1 v x c.in-Err.why
    (cause_since v u x now.key now.lease inv.0 c.in-Err.why c.in-Err.ensures.cause) in
    passed_up c.from_residual.result why (IsStop v w was.key was.lease) c.from_residual.ensures.1
    (stop_was mid.key was.key mid.lease was.lease (c.in-Err.ensures.same.0 ∙ inv.2) (c.in-Err.ensures.same.1 ∙ inv.3) v w why
    (c.in_err-pass_over-in-Err.ensures.stopped v (on_then v u x inv.0 c.in-Err.ensures.on) cause))
