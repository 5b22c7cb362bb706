use Rattle.std.proofs.Common.{false, ap, refl}
use Rattle.vl_sequence.proofs.Beginnings.{begins_itself}
use Rattle.vl_sequence.proofs.Committing.{at_closes, at_puts, conflict_closes, failed_closes, halted_closes, never_nothing, ruled, still_own}
use Rattle.vl_sequence.proofs.Tickets.{closes_later}
use Rattle.vl_sequence.proofs.lease.commit.Goals as goal

-- it was committed

pub returns-in-Ok-At-clause-closes : goal.returns-in-Ok-At-clause-closes
returns-in-Ok-At-clause-closes g c =
    at_closes (g.S.Shop.knows c.args.shop.now) (g.S.Shop.knows c.commit.new.self) (g.S.Shop.ticket c.args.txn) (g.S.Shop.number c.args.txn)
    c.requires.sees.1 (g.S.Shop.writes c.args.txn) _
    (rw c.in-Ok-At.field-0-is at (c.in-Ok-At.ensures.steps c.requires.sees.0 c.requires.sees.1 c.requires.sees.2))

pub returns-in-Ok-At-clause-puts : goal.returns-in-Ok-At-clause-puts
returns-in-Ok-At-clause-puts g c h reads sees =
    at_puts (g.S.Shop.knows c.args.shop.now) (g.S.Shop.knows c.commit.new.self) (g.S.Shop.ticket c.args.txn) (g.S.Shop.number c.args.txn)
    reads (g.S.Shop.writes c.args.txn) _ (rw c.in-Ok-At.field-0-is at (c.in-Ok-At.ensures.steps h reads sees))

-- it has writes

pub unreachable-requires : goal.unreachable-requires
unreachable-requires g c =
    never_nothing (g.S.Shop.knows c.args.shop.now) (g.S.Shop.knows c.commit.new.self) (g.S.Shop.ticket c.args.txn)
    (g.S.Shop.number c.args.txn) c.requires.sees.1 (g.S.Shop.writes c.args.txn) c.requires.writes
    (rw c.in-Ok-Nothing.field-0-is at (c.in-Ok-Nothing.ensures.steps c.requires.sees.0 c.requires.sees.1 c.requires.sees.2))

-- it ended

pub returns-in-Err-Conflict-clause-closes : goal.returns-in-Err-Conflict-clause-closes
returns-in-Err-Conflict-clause-closes g c =
    conflict_closes (g.S.Shop.knows c.args.shop.now) (g.S.Shop.knows c.commit.new.self) (g.S.Shop.ticket c.args.txn)
    (g.S.Shop.number c.args.txn) c.requires.sees.1 (g.S.Shop.writes c.args.txn) _ _
    (rw c.in-Err-Conflict.field-0-is at (c.in-Err-Conflict.ensures.steps c.requires.sees.0 c.requires.sees.1 c.requires.sees.2))

pub returns-in-Err-Conflict-clause-cause : goal.returns-in-Err-Conflict-clause-cause
returns-in-Err-Conflict-clause-cause g c h reads sees =
    let w = g.S.Shop.knows c.commit.new.self in (
      _,
      ruled (g.S.Shop.knows c.args.shop.now) w (g.S.Shop.ticket c.args.txn) (g.S.Shop.number c.args.txn) reads
          (g.S.Shop.writes c.args.txn) _ (rw c.in-Err-Conflict.field-0-is at (c.in-Err-Conflict.ensures.steps h reads sees)) w
          (begins_itself w.seen),
    )

pub returns-in-Err-Halted-clause-closes : goal.returns-in-Err-Halted-clause-closes
returns-in-Err-Halted-clause-closes g c =
    halted_closes (g.S.Shop.knows c.args.shop.now) (g.S.Shop.knows c.commit.new.self) (g.S.Shop.ticket c.args.txn)
    (g.S.Shop.number c.args.txn) c.requires.sees.1 (g.S.Shop.writes c.args.txn) _
    (rw c.in-Err-Halted.field-0-is at (c.in-Err-Halted.ensures.steps c.requires.sees.0 c.requires.sees.1 c.requires.sees.2))

pub returns-in-Err-Halted-clause-cause : goal.returns-in-Err-Halted-clause-cause
returns-in-Err-Halted-clause-cause g c h reads sees =
    let w = g.S.Shop.knows c.commit.new.self in (
      rw c.in-Err-Halted.field-0-is at c.in-Err-Halted.ensures.faults,
      ruled (g.S.Shop.knows c.args.shop.now) w (g.S.Shop.ticket c.args.txn) (g.S.Shop.number c.args.txn) reads
          (g.S.Shop.writes c.args.txn) _ (rw c.in-Err-Halted.field-0-is at (c.in-Err-Halted.ensures.steps h reads sees)) w
          (begins_itself w.seen),
    )

pub returns-in-Err-Disk-clause-closes : goal.returns-in-Err-Disk-clause-closes
returns-in-Err-Disk-clause-closes g c =
    failed_closes (g.S.Shop.knows c.args.shop.now) (g.S.Shop.knows c.commit.new.self) (g.S.Shop.ticket c.args.txn)
    (g.S.Shop.number c.args.txn) c.requires.sees.1 (g.S.Shop.writes c.args.txn) _
    (rw c.in-Err-Disk.field-0-is at (c.in-Err-Disk.ensures.steps c.requires.sees.0 c.requires.sees.1 c.requires.sees.2))

pub returns-in-Err-Disk-clause-cause : goal.returns-in-Err-Disk-clause-cause
returns-in-Err-Disk-clause-cause g c h reads sees = rw c.in-Err-Disk.field-0-is at c.in-Err-Disk.ensures.faults

-- it comes back, and is given up

pub give_up-requires-clause-own : goal.give_up-requires-clause-own
give_up-requires-clause-own g c κs within =
    let v = g.S.Shop.knows c.args.shop.now in
    let u = g.S.Shop.knows c.commit.new.self in
    let s = rw c.in-Err-Full.field-0-is at (c.in-Err-Full.ensures.steps c.requires.sees.0 c.requires.sees.1 c.requires.sees.2) in
    let back = (rw c.in-Err-Full.field-0-is at (c.in-Err-Full.ensures.back c.in-Err-Full.txn)) refl in
    still_own v u (g.S.Shop.ticket c.args.txn) (g.S.Shop.number c.args.txn) (g.S.Shop.ticket c.in-Err-Full.txn)
    (g.S.Shop.number c.in-Err-Full.txn) (ap g.S.Shop.ticket back) (ap g.S.Shop.number back) s.steps.own c.requires.own

pub returns-in-Err-Full-clause-closes : goal.returns-in-Err-Full-clause-closes
returns-in-Err-Full-clause-closes g c =
    let v = g.S.Shop.knows c.args.shop.now in
    let u = g.S.Shop.knows c.commit.new.self in
    let s = rw c.in-Err-Full.field-0-is at (c.in-Err-Full.ensures.steps c.requires.sees.0 c.requires.sees.1 c.requires.sees.2) in
    let back = (rw c.in-Err-Full.field-0-is at (c.in-Err-Full.ensures.back c.in-Err-Full.txn)) refl in
    closes_later false v u (g.S.Shop.knows c.give_up.new.shop) (g.S.Shop.ticket c.args.txn) (g.S.Shop.ticket c.in-Err-Full.txn) s.steps.on s.steps.own
    (ap g.S.Shop.ticket back) c.give_up.ensures

pub returns-in-Err-Full-clause-cause : goal.returns-in-Err-Full-clause-cause
returns-in-Err-Full-clause-cause g c h reads sees =
    let v = g.S.Shop.knows c.args.shop.now in
    let u = g.S.Shop.knows c.commit.new.self in
    let w = g.S.Shop.knows c.give_up.new.shop in
    ruled v u (g.S.Shop.ticket c.args.txn) (g.S.Shop.number c.args.txn) reads (g.S.Shop.writes c.args.txn) _
    (rw c.in-Err-Full.field-0-is at (c.in-Err-Full.ensures.steps h reads sees)) w c.give_up.ensures.on.seen

pub give_up-requires-in-Err-Exhausted-clause-own : goal.give_up-requires-in-Err-Exhausted-clause-own
give_up-requires-in-Err-Exhausted-clause-own g c κs within =
    let v = g.S.Shop.knows c.args.shop.now in
    let u = g.S.Shop.knows c.commit.new.self in
    let s = rw c.in-Err-Exhausted.field-0-is at (c.in-Err-Exhausted.ensures.steps c.requires.sees.0 c.requires.sees.1 c.requires.sees.2) in
    let back = (rw c.in-Err-Exhausted.field-0-is at (c.in-Err-Exhausted.ensures.back c.in-Err-Exhausted.txn)) refl in
    still_own v u (g.S.Shop.ticket c.args.txn) (g.S.Shop.number c.args.txn) (g.S.Shop.ticket c.in-Err-Exhausted.txn)
    (g.S.Shop.number c.in-Err-Exhausted.txn) (ap g.S.Shop.ticket back) (ap g.S.Shop.number back) s.steps.own c.requires.own

pub returns-in-Err-Exhausted-clause-closes : goal.returns-in-Err-Exhausted-clause-closes
returns-in-Err-Exhausted-clause-closes g c =
    let v = g.S.Shop.knows c.args.shop.now in
    let u = g.S.Shop.knows c.commit.new.self in
    let s = rw c.in-Err-Exhausted.field-0-is at (c.in-Err-Exhausted.ensures.steps c.requires.sees.0 c.requires.sees.1 c.requires.sees.2) in
    let back = (rw c.in-Err-Exhausted.field-0-is at (c.in-Err-Exhausted.ensures.back c.in-Err-Exhausted.txn)) refl in
    closes_later false v u (g.S.Shop.knows c.give_up-in-Err-Exhausted.new.shop) (g.S.Shop.ticket c.args.txn) (g.S.Shop.ticket c.in-Err-Exhausted.txn) s.steps.on s.steps.own
    (ap g.S.Shop.ticket back) c.give_up-in-Err-Exhausted.ensures

pub returns-in-Err-Exhausted-clause-cause : goal.returns-in-Err-Exhausted-clause-cause
returns-in-Err-Exhausted-clause-cause g c h reads sees =
    let v = g.S.Shop.knows c.args.shop.now in
    let u = g.S.Shop.knows c.commit.new.self in
    let w = g.S.Shop.knows c.give_up-in-Err-Exhausted.new.shop in (
      refl,
      ruled v u (g.S.Shop.ticket c.args.txn) (g.S.Shop.number c.args.txn) reads (g.S.Shop.writes c.args.txn) _
          (rw c.in-Err-Exhausted.field-0-is at (c.in-Err-Exhausted.ensures.steps h reads sees)) w
          c.give_up-in-Err-Exhausted.ensures.on.seen,
    )

pub give_up-requires-in-Err-NoMemory-clause-own : goal.give_up-requires-in-Err-NoMemory-clause-own
give_up-requires-in-Err-NoMemory-clause-own g c κs within =
    let v = g.S.Shop.knows c.args.shop.now in
    let u = g.S.Shop.knows c.commit.new.self in
    let s = rw c.in-Err-NoMemory.field-0-is at (c.in-Err-NoMemory.ensures.steps c.requires.sees.0 c.requires.sees.1 c.requires.sees.2) in
    let back = (rw c.in-Err-NoMemory.field-0-is at (c.in-Err-NoMemory.ensures.back c.in-Err-NoMemory.txn)) refl in
    still_own v u (g.S.Shop.ticket c.args.txn) (g.S.Shop.number c.args.txn) (g.S.Shop.ticket c.in-Err-NoMemory.txn)
    (g.S.Shop.number c.in-Err-NoMemory.txn) (ap g.S.Shop.ticket back) (ap g.S.Shop.number back) s.steps.own c.requires.own

pub returns-clause-closes : goal.returns-clause-closes
returns-clause-closes g c =
    let v = g.S.Shop.knows c.args.shop.now in
    let u = g.S.Shop.knows c.commit.new.self in
    let s = rw c.in-Err-NoMemory.field-0-is at (c.in-Err-NoMemory.ensures.steps c.requires.sees.0 c.requires.sees.1 c.requires.sees.2) in
    let back = (rw c.in-Err-NoMemory.field-0-is at (c.in-Err-NoMemory.ensures.back c.in-Err-NoMemory.txn)) refl in
    closes_later false v u (g.S.Shop.knows c.give_up-in-Err-NoMemory.new.shop) (g.S.Shop.ticket c.args.txn) (g.S.Shop.ticket c.in-Err-NoMemory.txn) s.steps.on s.steps.own
    (ap g.S.Shop.ticket back) c.give_up-in-Err-NoMemory.ensures
