use Rattle.std.proofs.Common.{false, ap, refl, sym, ◌∙◌}
use Rattle.vl_sequence.proofs.Committing.{at_closes, at_puts, conflict_closes, failed_closes, halted_closes, never_nothing, ruled, still_own}
use Rattle.vl_sequence.proofs.Tickets.{closes_later}
use Rattle.vlstore.proofs.Leasing.{commits_told, keeps_on}
use Rattle.vlstore.proofs.Making.{on_and_on}
use Rattle.vlstore.proofs.Merged.{prefix_itself}
use Rattle.vlstore.proofs.Shopping.{goes_on}
use Rattle.vlstore.specs.Shops.{known_by}
use Rattle.vlstore.proofs.sequence.lease.commit.Goals as goal

pub commit-requires : goal.commit-requires
commit-requires g c = λ disk told tells.
    let seen = c.requires.sees tells in
    record { own = c.requires.own tells; reads = seen.1; noted = seen.2.notes }

-- it was committed

pub returns-in-Ok-At-clause-closes : goal.returns-in-Ok-At-clause-closes
returns-in-Ok-At-clause-closes g c told =
    let v = c.args.session.now in
    let w = c.commit.new.self in
    let txn = c.args.txn in
    let seen = c.requires.sees told in
    at_closes (known_by v) (known_by w) txn.ticket txn.number seen.1 txn.writes _
    (commits_told v w c.commit.ensures.on txn.ticket txn.number seen.1 txn.writes _
    (rw c.in-Ok-At.field-0-is at (c.in-Ok-At.ensures.steps told seen.1 seen.2.notes)))

pub returns-in-Ok-At-clause-puts : goal.returns-in-Ok-At-clause-puts
returns-in-Ok-At-clause-puts g c told h reads sees =
    let v = c.args.session.now in
    let w = c.commit.new.self in
    let txn = c.args.txn in
    at_puts (known_by v) (known_by w) txn.ticket txn.number reads txn.writes _
    (commits_told v w c.commit.ensures.on txn.ticket txn.number reads txn.writes _
    (rw c.in-Ok-At.field-0-is at (c.in-Ok-At.ensures.steps told reads sees.notes)))

-- it has writes

pub returns-in-Ok-Nothing-clause-closes : goal.returns-in-Ok-Nothing-clause-closes
returns-in-Ok-Nothing-clause-closes g c told =
    let v = c.args.session.now in
    let w = c.commit.new.self in
    let txn = c.args.txn in
    let seen = c.requires.sees told in
    absurd (never_nothing (known_by v) (known_by w) txn.ticket txn.number seen.1 txn.writes c.requires.writes
    (commits_told v w c.commit.ensures.on txn.ticket txn.number seen.1 txn.writes _
    (rw c.in-Ok-Nothing.field-0-is at (c.in-Ok-Nothing.ensures.steps told seen.1 seen.2.notes))))

-- it ended

pub returns-in-Err-Conflict-clause-closes : goal.returns-in-Err-Conflict-clause-closes
returns-in-Err-Conflict-clause-closes g c told =
    let v = c.args.session.now in
    let w = c.commit.new.self in
    let txn = c.args.txn in
    let seen = c.requires.sees told in
    conflict_closes (known_by v) (known_by w) txn.ticket txn.number seen.1 txn.writes _ _
    (commits_told v w c.commit.ensures.on txn.ticket txn.number seen.1 txn.writes _
    (rw c.in-Err-Conflict.field-0-is at (c.in-Err-Conflict.ensures.steps told seen.1 seen.2.notes)))

pub returns-in-Err-Conflict-clause-cause : goal.returns-in-Err-Conflict-clause-cause
returns-in-Err-Conflict-clause-cause g c lease =
    let v = c.args.session.now in
    let w = c.commit.new.self in
    let txn = c.args.txn in (
      _,
      λ told h reads sees. ruled (known_by v) (known_by w) txn.ticket txn.number reads txn.writes _
          (commits_told v w c.commit.ensures.on txn.ticket txn.number reads txn.writes _
          (rw c.in-Err-Conflict.field-0-is at (c.in-Err-Conflict.ensures.steps told reads sees.notes)))
          (known_by w) (prefix_itself w.seen),
    )

pub returns-in-Err-Halted-clause-closes : goal.returns-in-Err-Halted-clause-closes
returns-in-Err-Halted-clause-closes g c told =
    let v = c.args.session.now in
    let w = c.commit.new.self in
    let txn = c.args.txn in
    let seen = c.requires.sees told in
    halted_closes (known_by v) (known_by w) txn.ticket txn.number seen.1 txn.writes _
    (commits_told v w c.commit.ensures.on txn.ticket txn.number seen.1 txn.writes _
    (rw c.in-Err-Halted.field-0-is at (c.in-Err-Halted.ensures.steps told seen.1 seen.2.notes)))

pub returns-in-Err-Disk-clause-closes : goal.returns-in-Err-Disk-clause-closes
returns-in-Err-Disk-clause-closes g c told =
    let v = c.args.session.now in
    let w = c.commit.new.self in
    let txn = c.args.txn in
    let seen = c.requires.sees told in
    failed_closes (known_by v) (known_by w) txn.ticket txn.number seen.1 txn.writes _
    (commits_told v w c.commit.ensures.on txn.ticket txn.number seen.1 txn.writes _
    (rw c.in-Err-Disk.field-0-is at (c.in-Err-Disk.ensures.steps told seen.1 seen.2.notes)))

-- it comes back, and is given up

pub give_up-requires : goal.give_up-requires
give_up-requires g c now =
    let v = c.args.session.now in
    let u = c.commit.new.self in
    let txn = c.args.txn in
    let told = sym c.commit.ensures.on.tells ∙ now in
    let seen = c.requires.sees told in
    let s = rw c.in-Err-Full.field-0-is at (c.in-Err-Full.ensures.steps told seen.1 seen.2.notes) in
    let back = (rw c.in-Err-Full.field-0-is at (c.in-Err-Full.ensures.back c.in-Err-Full.txn)) refl in
    still_own (known_by v) (known_by u) txn.ticket txn.number c.in-Err-Full.txn.ticket c.in-Err-Full.txn.number
    (ap (λ (t : _). t.ticket) back) (ap (λ (t : _). t.number) back) s.own (c.requires.own told)

pub returns-in-Err-Full-clause-on : goal.returns-in-Err-Full-clause-on
returns-in-Err-Full-clause-on g c =
    on_and_on c.args.session.now c.commit.new.self c.give_up.new.session c.commit.ensures.on c.give_up.ensures.on

pub returns-in-Err-Full-clause-merge : goal.returns-in-Err-Full-clause-merge
returns-in-Err-Full-clause-merge g c =
    keeps_on c.args.session.now c.commit.new.self c.give_up.new.session c.commit.ensures.merge c.give_up.ensures.merge

pub returns-in-Err-Full-clause-closes : goal.returns-in-Err-Full-clause-closes
returns-in-Err-Full-clause-closes g c told =
    let v = c.args.session.now in
    let u = c.commit.new.self in
    let seen = c.requires.sees told in
    let s = rw c.in-Err-Full.field-0-is at (c.in-Err-Full.ensures.steps told seen.1 seen.2.notes) in
    let back = (rw c.in-Err-Full.field-0-is at (c.in-Err-Full.ensures.back c.in-Err-Full.txn)) refl in
    closes_later false (known_by v) (known_by u) (known_by c.give_up.new.session) c.args.txn.ticket c.in-Err-Full.txn.ticket
    (goes_on v u c.commit.ensures.on) s.own (ap (λ (t : _). t.ticket) back) (c.give_up.ensures.closes (c.commit.ensures.on.tells ∙ told))

pub returns-in-Err-Full-clause-cause : goal.returns-in-Err-Full-clause-cause
returns-in-Err-Full-clause-cause g c lease told h reads sees =
    let v = c.args.session.now in
    let u = c.commit.new.self in
    let txn = c.args.txn in
    ruled (known_by v) (known_by u) txn.ticket txn.number reads txn.writes _
    (commits_told v u c.commit.ensures.on txn.ticket txn.number reads txn.writes _
    (rw c.in-Err-Full.field-0-is at (c.in-Err-Full.ensures.steps told reads sees.notes)))
    (known_by c.give_up.new.session) c.give_up.ensures.on.seen

pub give_up-requires-in-Err-Exhausted : goal.give_up-requires-in-Err-Exhausted
give_up-requires-in-Err-Exhausted g c now =
    let v = c.args.session.now in
    let u = c.commit.new.self in
    let txn = c.args.txn in
    let told = sym c.commit.ensures.on.tells ∙ now in
    let seen = c.requires.sees told in
    let s = rw c.in-Err-Exhausted.field-0-is at (c.in-Err-Exhausted.ensures.steps told seen.1 seen.2.notes) in
    let back = (rw c.in-Err-Exhausted.field-0-is at (c.in-Err-Exhausted.ensures.back c.in-Err-Exhausted.txn)) refl in
    still_own (known_by v) (known_by u) txn.ticket txn.number c.in-Err-Exhausted.txn.ticket c.in-Err-Exhausted.txn.number
    (ap (λ (t : _). t.ticket) back) (ap (λ (t : _). t.number) back) s.own (c.requires.own told)

pub returns-in-Err-Exhausted-clause-on : goal.returns-in-Err-Exhausted-clause-on
returns-in-Err-Exhausted-clause-on g c =
    on_and_on c.args.session.now c.commit.new.self c.give_up-in-Err-Exhausted.new.session c.commit.ensures.on c.give_up-in-Err-Exhausted.ensures.on

pub returns-in-Err-Exhausted-clause-merge : goal.returns-in-Err-Exhausted-clause-merge
returns-in-Err-Exhausted-clause-merge g c =
    keeps_on c.args.session.now c.commit.new.self c.give_up-in-Err-Exhausted.new.session c.commit.ensures.merge c.give_up-in-Err-Exhausted.ensures.merge

pub returns-in-Err-Exhausted-clause-closes : goal.returns-in-Err-Exhausted-clause-closes
returns-in-Err-Exhausted-clause-closes g c told =
    let v = c.args.session.now in
    let u = c.commit.new.self in
    let seen = c.requires.sees told in
    let s = rw c.in-Err-Exhausted.field-0-is at (c.in-Err-Exhausted.ensures.steps told seen.1 seen.2.notes) in
    let back = (rw c.in-Err-Exhausted.field-0-is at (c.in-Err-Exhausted.ensures.back c.in-Err-Exhausted.txn)) refl in
    closes_later false (known_by v) (known_by u) (known_by c.give_up-in-Err-Exhausted.new.session) c.args.txn.ticket c.in-Err-Exhausted.txn.ticket
    (goes_on v u c.commit.ensures.on) s.own (ap (λ (t : _). t.ticket) back) (c.give_up-in-Err-Exhausted.ensures.closes (c.commit.ensures.on.tells ∙ told))

pub returns-in-Err-Exhausted-clause-cause : goal.returns-in-Err-Exhausted-clause-cause
returns-in-Err-Exhausted-clause-cause g c lease told h reads sees =
    let v = c.args.session.now in
    let u = c.commit.new.self in
    let txn = c.args.txn in
    ruled (known_by v) (known_by u) txn.ticket txn.number reads txn.writes _
    (commits_told v u c.commit.ensures.on txn.ticket txn.number reads txn.writes _
    (rw c.in-Err-Exhausted.field-0-is at (c.in-Err-Exhausted.ensures.steps told reads sees.notes)))
    (known_by c.give_up-in-Err-Exhausted.new.session) c.give_up-in-Err-Exhausted.ensures.on.seen

pub give_up-requires-in-Err-NoMemory : goal.give_up-requires-in-Err-NoMemory
give_up-requires-in-Err-NoMemory g c now =
    let v = c.args.session.now in
    let u = c.commit.new.self in
    let txn = c.args.txn in
    let told = sym c.commit.ensures.on.tells ∙ now in
    let seen = c.requires.sees told in
    let s = rw c.in-Err-NoMemory.field-0-is at (c.in-Err-NoMemory.ensures.steps told seen.1 seen.2.notes) in
    let back = (rw c.in-Err-NoMemory.field-0-is at (c.in-Err-NoMemory.ensures.back c.in-Err-NoMemory.txn)) refl in
    still_own (known_by v) (known_by u) txn.ticket txn.number c.in-Err-NoMemory.txn.ticket c.in-Err-NoMemory.txn.number
    (ap (λ (t : _). t.ticket) back) (ap (λ (t : _). t.number) back) s.own (c.requires.own told)

pub returns-clause-on : goal.returns-clause-on
returns-clause-on g c =
    on_and_on c.args.session.now c.commit.new.self c.give_up-in-Err-NoMemory.new.session c.commit.ensures.on c.give_up-in-Err-NoMemory.ensures.on

pub returns-clause-merge : goal.returns-clause-merge
returns-clause-merge g c =
    keeps_on c.args.session.now c.commit.new.self c.give_up-in-Err-NoMemory.new.session c.commit.ensures.merge c.give_up-in-Err-NoMemory.ensures.merge

pub returns-clause-closes : goal.returns-clause-closes
returns-clause-closes g c told =
    let v = c.args.session.now in
    let u = c.commit.new.self in
    let seen = c.requires.sees told in
    let s = rw c.in-Err-NoMemory.field-0-is at (c.in-Err-NoMemory.ensures.steps told seen.1 seen.2.notes) in
    let back = (rw c.in-Err-NoMemory.field-0-is at (c.in-Err-NoMemory.ensures.back c.in-Err-NoMemory.txn)) refl in
    closes_later false (known_by v) (known_by u) (known_by c.give_up-in-Err-NoMemory.new.session) c.args.txn.ticket c.in-Err-NoMemory.txn.ticket
    (goes_on v u c.commit.ensures.on) s.own (ap (λ (t : _). t.ticket) back) (c.give_up-in-Err-NoMemory.ensures.closes (c.commit.ensures.on.tells ∙ told))

pub returns-in-Err-Disk-clause-cause : goal.returns-in-Err-Disk-clause-cause
returns-in-Err-Disk-clause-cause g c lease = (rw c.in-Err-Disk.field-0-is at c.in-Err-Disk.ensures.cause) tt
