use Rattle.std.proofs.Common.{List, sym, ◌∙◌, subst}
use Rattle.std.specs.FinMap.{entries}
use Rattle.vl_drive.proofs.Modesty.{on_err}
use Rattle.vl_drive.proofs.Playing.{waits_ended, waits_then}
use Rattle.vl_drive.specs.Answers.{asked}
use Rattle.vl_drive.specs.Knowing.{IsOwnTicket}
use Rattle.vl_drive.specs.Modest.{IsBusy}
use Rattle.vl_drive.specs.Playing.{HasEnded, HasTried, StaysModest}
use Rattle.vl_model.specs.History.{History}
use Rattle.vl_model.specs.Reads.{Read}
use Rattle.vl_drive.proofs.commit.commit.Goals as goal

pub try_commit-requires-clause-sees : goal.try_commit-requires-clause-sees
try_commit-requires-clause-sees g c κs within =
    subst (λ t. (h : History) × (reads : List Read) × g.S.Shop.sees t h reads) (sym c.loop.invariant.0) c.requires.sees

pub returns-in-Ended-clause-ended : goal.returns-in-Ended-clause-ended
returns-in-Ended-clause-ended g c h reads sees =
    let inv = c.loop.invariant in
    let shop = g.S.Shop in
    let v = shop.knows c.args.shop.now in
    let u = shop.knows c.loop.shop in
    let w = shop.knows c.try_commit.new.shop in
    let txn = c.loop.txn in
    let was = c.args.txn in
    let tried = c.in_ok-committed.ensures.tried h reads (subst (λ t. shop.sees t h reads) (sym inv.0) sees) in
    let ended = subst (HasTried txn (asked (shop.ticket txn) (shop.number txn) reads (entries (shop.writes txn))) u w) c.in-Ended.is tried in
    waits_ended v u w (asked (shop.ticket was) (shop.number was) reads (entries (shop.writes was))) c.in-Ended.committed inv.1
    (subst (λ t. HasEnded (asked (shop.ticket t) (shop.number t) reads (entries (shop.writes t))) c.in-Ended.committed u w) inv.0 ended)

pub loop-preserved : goal.loop-preserved
loop-preserved g c =
    let inv = c.loop.invariant in
    let shop = g.S.Shop in
    let v = shop.knows c.args.shop.now in
    let u = shop.knows c.loop.shop in
    let w = shop.knows c.try_commit.new.shop in
    let txn = c.loop.txn in
    let h = c.requires.sees.0 in
    let reads = c.requires.sees.1 in
    let tried = c.in_ok-committed.ensures.tried h reads (subst (λ t. shop.sees t h reads) (sym inv.0) c.requires.sees.2) in
    let again = subst (HasTried txn (asked (shop.ticket txn) (shop.number txn) reads (entries (shop.writes txn))) u w) c.in-Again.is tried in (
      again.0 ∙ inv.0,
      waits_then v u w inv.1 again.1,
      subst (λ t. IsOwnTicket w (shop.ticket t) (shop.number t)) (sym again.0) again.2,
      λ turns busy. let stays = c.in_ok-committed.ensures.stays turns (inv.3 turns busy) in
          let still = subst (StaysModest (shop.ticket txn) (shop.number txn) turns w) c.in-Again.is stays in
          subst (λ t. IsBusy (shop.ticket t) (shop.number t) turns w) (sym again.0) still,
    )

pub returns-in_err-committed-clause-modest : goal.returns-in_err-committed-clause-modest
returns-in_err-committed-clause-modest g c turns busy =
    on_err _ (c.in_err-committed.ensures.modest turns (c.loop.invariant.3 turns busy))

pub returns-in-Ended-clause-idle : goal.returns-in-Ended-clause-idle
returns-in-Ended-clause-idle g c turns busy =
    let shop = g.S.Shop in
    let txn = c.loop.txn in
    let stays = c.in_ok-committed.ensures.stays turns (c.loop.invariant.3 turns busy) in
    subst (StaysModest (shop.ticket txn) (shop.number txn) turns (shop.knows c.try_commit.new.shop)) c.in-Ended.is stays
