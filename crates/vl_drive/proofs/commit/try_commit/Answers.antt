use Rattle.std.proofs.Common.{refl}
use Rattle.std.specs.FinMap.{entries}
use Rattle.vl_drive.proofs.Modesty.{aside_busy, aside_modest, commit_modest, conflict_idle, full_busy, idle_more, well_idle}
use Rattle.vl_drive.proofs.Playing.{aside_waits, trouble_since, waits_then}
use Rattle.vl_drive.proofs.Trying.{met_conflict, own_stays, was_full, was_full_own, well_done}
use Rattle.vl_drive.specs.Answers.{commit_outcome}
use Rattle.vl_drive.proofs.commit.try_commit.Goals as goal

pub returns-in-Ok-At-clause-tried : goal.returns-in-Ok-At-clause-tried
returns-in-Ok-At-clause-tried g c h reads sees =
    well_done (g.S.Shop.knows c.args.shop.now) (g.S.Shop.knows c.commit.new.self) (g.S.Shop.ticket c.args.txn) (g.S.Shop.number c.args.txn)
    reads (entries (g.S.Shop.writes c.args.txn)) c.in-Ok-At.field-0 c.requires.all c.requires.writes (c.in-Ok-At.ensures.steps h reads sees)

pub returns-in-Err-Conflict-clause-tried : goal.returns-in-Err-Conflict-clause-tried
returns-in-Err-Conflict-clause-tried g c h reads sees =
    met_conflict (g.S.Shop.knows c.args.shop.now) (g.S.Shop.knows c.commit.new.self) (g.S.Shop.ticket c.args.txn) (g.S.Shop.number c.args.txn)
    reads (entries (g.S.Shop.writes c.args.txn)) _ _ c.requires.all
    (rw c.in-Err-Conflict.field-0-is at (c.in-Err-Conflict.ensures.steps h reads sees))

pub returns-in-Ok-clause-tried : goal.returns-in-Ok-clause-tried
returns-in-Ok-clause-tried g c h reads sees =
    let v = g.S.Shop.knows c.args.shop.now in
    let u = g.S.Shop.knows c.commit.new.self in
    let w = g.S.Shop.knows c.rotate.new.self in
    let ticket = g.S.Shop.ticket c.args.txn in
    let number = g.S.Shop.number c.args.txn in
    let writes = entries (g.S.Shop.writes c.args.txn) in
    let full = rw c.in-Err-Full.field-0-is at (c.in-Err-Full.ensures.steps h reads sees) in
    let first = was_full v u ticket number reads writes _ _ c.requires.all full in
    let own = was_full_own v u ticket number reads writes _ _ c.requires.own full in (
      (rw c.in-Err-Full.field-0-is at (c.in-Err-Full.ensures.back c.in-Err-Full.txn)) refl,
      waits_then v u w first (aside_waits u w first.all c.rotate.ensures.steps),
      own_stays u w ticket number c.rotate.ensures.steps own,
    )

pub returns-in-Err-clause-trouble : goal.returns-in-Err-clause-trouble
returns-in-Err-clause-trouble g c =
    let v = g.S.Shop.knows c.args.shop.now in
    let u = g.S.Shop.knows c.commit.new.self in
    let w = g.S.Shop.knows c.rotate.new.self in
    let s = c.in-Err-Full.ensures.steps c.requires.sees.0 c.requires.sees.1 c.requires.sees.2 in
    trouble_since v u w _ s.steps.on (c.in-Err.ensures u w c.rotate.ensures.faults)

pub returns-in-Ok-At-clause-stays : goal.returns-in-Ok-At-clause-stays
returns-in-Ok-At-clause-stays g c turns busy =
    well_idle (g.S.Shop.knows c.args.shop.now) (g.S.Shop.knows c.commit.new.self) (g.S.Shop.ticket c.args.txn) (g.S.Shop.number c.args.txn)
    turns c.requires.sees.1 (entries (g.S.Shop.writes c.args.txn)) busy c.in-Ok-At.field-0
    (c.in-Ok-At.ensures.steps c.requires.sees.0 c.requires.sees.1 c.requires.sees.2)

pub returns-in-Err-Conflict-clause-stays : goal.returns-in-Err-Conflict-clause-stays
returns-in-Err-Conflict-clause-stays g c turns busy =
    let w = g.S.Shop.knows c.commit.new.self in
    idle_more turns w
    (conflict_idle (g.S.Shop.knows c.args.shop.now) w (g.S.Shop.ticket c.args.txn) (g.S.Shop.number c.args.txn)
    turns c.requires.sees.1 (entries (g.S.Shop.writes c.args.txn)) busy _ _
    (rw c.in-Err-Conflict.field-0-is at (c.in-Err-Conflict.ensures.steps c.requires.sees.0 c.requires.sees.1 c.requires.sees.2)))

pub returns-in-Err-Halted-clause-modest : goal.returns-in-Err-Halted-clause-modest
returns-in-Err-Halted-clause-modest g c turns busy =
    commit_modest (g.S.Shop.knows c.args.shop.now) (g.S.Shop.knows c.commit.new.self) (g.S.Shop.ticket c.args.txn) (g.S.Shop.number c.args.txn)
    turns c.requires.sees.1 (entries (g.S.Shop.writes c.args.txn)) busy (commit_outcome c.commit.result)
    (c.commit.ensures.steps c.requires.sees.0 c.requires.sees.1 c.requires.sees.2)

pub returns-in-Ok-clause-stays : goal.returns-in-Ok-clause-stays
returns-in-Ok-clause-stays g c turns busy =
    let u = g.S.Shop.knows c.commit.new.self in
    let ticket = g.S.Shop.ticket c.args.txn in
    let number = g.S.Shop.number c.args.txn in
    let reads = c.requires.sees.1 in
    let full = rw c.in-Err-Full.field-0-is at (c.in-Err-Full.ensures.steps c.requires.sees.0 reads c.requires.sees.2) in
    aside_busy u (g.S.Shop.knows c.rotate.new.self) c.rotate.ensures.steps ticket number turns
    (full_busy (g.S.Shop.knows c.args.shop.now) u ticket number turns reads (entries (g.S.Shop.writes c.args.txn)) busy _ _ full)

pub returns-in-Err-clause-modest : goal.returns-in-Err-clause-modest
returns-in-Err-clause-modest g c turns busy =
    let u = g.S.Shop.knows c.commit.new.self in
    aside_modest u (g.S.Shop.knows c.rotate.new.self) c.rotate.ensures.steps turns
    (commit_modest (g.S.Shop.knows c.args.shop.now) u (g.S.Shop.ticket c.args.txn) (g.S.Shop.number c.args.txn)
    turns c.requires.sees.1 (entries (g.S.Shop.writes c.args.txn)) busy (commit_outcome c.commit.result)
    (c.commit.ensures.steps c.requires.sees.0 c.requires.sees.1 c.requires.sees.2))
