use Rattle.std.proofs.Common.{◌+◌, ◌<◌, ◌≤◌, ◌∙◌, arith}
use Rattle.vl_sequence.proofs.Beginnings.{on_then, passed_up}
use Rattle.vl_sequence.proofs.Numbering.{held_numbers, leased_now, leased_was, stop_was, taken_numbers}
use Rattle.vl_sequence.proofs.Stopping.{stop_since}
use Rattle.vl_sequence.specs.Counting.{IsStop}
use Rattle.vl_sequence.proofs.client.take_numbers.Goals.{then-left-eq0, else-left-eq0}
use Rattle.vl_sequence.proofs.client.take_numbers.Goals as goal

pub returns-in_err-take_number-clause-some : goal.returns-in_err-take_number-clause-some
returns-in_err-take_number-clause-some g c new =
    let inv = c.loop-tally.invariant in
    let was = c.args.sequence.now in
    let now = c.loop-tally.sequence in
    let leases = c.loop-tally.tally.leases in
    let least = inv.5 in
    let most = inv.4 in (
      leases,
      omega (arith, least, most),
      leased_was now.key was.key now.lease was.lease inv.2 inv.3 leases (g.S.Shop.knows c.take_number.new.sequence.shop)
          (c.in_err-take_number.ensures.refused leases
          (leased_now now.key was.key now.lease was.lease inv.2 inv.3 leases (g.S.Shop.knows now.shop) (inv.8 new))),
    )

pub returns-in_err-take_number-clause-stopped : goal.returns-in_err-take_number-clause-stopped
returns-in_err-take_number-clause-stopped g c =
    let inv = c.loop-tally.invariant in
    let was = c.args.sequence.now in
    let now = c.loop-tally.sequence in
    let v = g.S.Shop.knows was.shop in
    let u = g.S.Shop.knows now.shop in
    let w = g.S.Shop.knows c.take_number.new.sequence.shop in
    let why = c.in_err-take_number.field-0.0 in
    passed_up c.from_residual.result why (IsStop v w was.key was.lease) c.from_residual.ensures.1
    (stop_was now.key was.key now.lease was.lease inv.2 inv.3 v w why
    (stop_since v u w now.key now.lease inv.0 why c.in_err-take_number.ensures.stopped))

pub loop-tally-preserved : goal.loop-tally-preserved
loop-tally-preserved g c =
    let inv = c.loop-tally.invariant in
    let was = c.args.sequence.now in
    let now = c.loop-tally.sequence in
    let new = c.take_number.new.sequence in
    let v = g.S.Shop.knows was.shop in
    let u = g.S.Shop.knows now.shop in
    let w = g.S.Shop.knows new.shop in
    let tally = c.loop-tally.tally in
    let p = c.in_ok-take_number.ensures in
    let on = on_then v u w inv.0 p.on in
    let key_is = p.same.0 ∙ inv.2 in
    let lease_is = p.same.1 ∙ inv.3 in
    let length_is = inv.3 in
    let more = c.loop-tally-test.true in
    let number = c.from.ensures in
    let least = inv.5 in
    let held = inv.1.held in
    let left = c.left.ensures in
    elim c.if-left-eq0.branch [
      | then-left-eq0 b ↦ rw b.tally-is (
          let none_left = b.if-left-eq0.true in
          let none : now.end ≤ now.next = omega (arith, held, left, none_left) in
          let moved = p.moves.taken none in
          let numbers = taken_numbers tally.given tally.leases was.lease now.next now.end new.next new.end inv.6 held none
          (omega (arith, moved, length_is)) in (
            on,
            p.ready,
            key_is,
            lease_is,
            omega (arith, more, number),
            omega (arith, least),
            numbers.0,
            numbers.1,
            λ h. leased_was now.key was.key now.lease was.lease inv.2 inv.3 (tally.leases + 1) w
                (p.taken tally.leases (leased_now now.key was.key now.lease was.lease inv.2 inv.3 tally.leases u (inv.8 h)) none),
          )
          )
      | else-left-eq0 b ↦ rw b.tally-is (
          let some_left = b.if-left-eq0.false in
          let below : now.next < now.end = omega (arith, held, left, some_left) in
          let moved = p.moves.held below in
          let numbers = held_numbers tally.given tally.leases was.lease now.next now.end new.next new.end inv.6 inv.7 moved.0 moved.1 in (
            on,
            p.ready,
            key_is,
            lease_is,
            omega (arith, more, number),
            omega (arith, least),
            numbers.0,
            numbers.1,
            λ h. leased_was now.key was.key now.lease was.lease inv.2 inv.3 tally.leases w
                (p.held tally.leases (leased_now now.key was.key now.lease was.lease inv.2 inv.3 tally.leases u (inv.8 h)) below),
          )
          )
    ]
