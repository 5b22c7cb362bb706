use Rattle.std.proofs.Common.{◌≡◌, [], refl, ap, sym, ◌∙◌, subst, arith}
use Rattle.std.specs.FinMap.{entries}
use Rattle.vl_drive.proofs.Keeping.{opens}
use Rattle.vl_drive.proofs.Modesty.{busy_as, busy_looked, busy_modest, idle_new, idle_next}
use Rattle.vl_drive.proofs.Playing.{looks_itself, looks_then}
use Rattle.vl_drive.proofs.Small.{first_more, small_below, small_first, some_first}
use Rattle.vl_drive.specs.Accounts.{first_balances, with_balance}
use Rattle.vl_drive.specs.Answers.{asked}
use Rattle.vl_drive.specs.Playing.{HasEnded}
use Rattle.vl_drive.specs.Small.{IsSmall}
use Rattle.vl_drive.specs.Steps.{history_by}
use Rattle.vl_drive.proofs.keeper.open_accounts.Goals as goal

pub loop-account-init : goal.loop-account-init
loop-account-init g c =
    (looks_itself (g.S.Shop.knows c.begin.new.shop), c.in_ok-txn.ensures.sees, refl, refl, c.in_ok-txn.ensures.new)

pub set-requires-clause-small : goal.set-requires-clause-small
set-requires-clause-small g c κs within =
    let account = c.loop-account.account in
    let below = c.loop-account-test.true in
    subst IsSmall (sym c.loop-account.invariant.4) (small_below account (first_balances account) (omega (arith, below)) (small_first account))

pub loop-account-preserved : goal.loop-account-preserved
loop-account-preserved g c =
    let inv = c.loop-account.invariant in
    let shop = g.S.Shop in
    let u = shop.knows c.begin.new.shop in
    let account = c.loop-account.account in (
      looks_then u (shop.knows c.loop-account.shop) (shop.knows c.set.new.shop) inv.0 c.in_ok-set.ensures.looks,
      c.in_ok-set.ensures.sees (history_by u.origin u.seen) [] inv.1,
      c.in_ok-set.ensures.ticket ∙ inv.2,
      c.in_ok-set.ensures.number ∙ inv.3,
      c.in_ok-set.ensures.writes ∙ ap (with_balance account 1000) inv.4 ∙ first_more account,
    )

pub commit-requires-clause-writes : goal.commit-requires-clause-writes
commit-requires-clause-writes g c κs within none =
    let above = c.loop-account-test.false in
    let end = c.loop-account.auto.account-end in
    some_first c.loop-account.account (omega (arith, above, end)) (ap entries (sym c.loop-account.invariant.4) ∙ none)

pub returns-clause-opened : goal.returns-clause-opened
returns-clause-opened g c none =
    let inv = c.loop-account.invariant in
    let shop = g.S.Shop in
    let v = shop.knows c.args.shop.now in
    let u = shop.knows c.begin.new.shop in
    let x = shop.knows c.loop-account.shop in
    let w = shop.knows c.commit.new.shop in
    let begun = c.in_ok-txn.txn in
    let last = c.loop-account.txn in
    let committed = c.in_ok-commit.field-0 in
    let above = c.loop-account-test.false in
    let end = c.loop-account.auto.account-end in
    let all : c.loop-account.account ≡ 64 = omega (arith, above, end) in
    let ended = c.in_ok-commit.ensures.ended (history_by u.origin u.seen) [] inv.1 in
    let at_ticket = subst (λ k. HasEnded (asked k (shop.number last) [] (entries (shop.writes last))) committed x w) inv.2 ended in
    let at_number = subst (λ n. HasEnded (asked (shop.ticket begun) n [] (entries (shop.writes last))) committed x w) inv.3 at_ticket in
    let written = subst (λ ws. HasEnded (asked (shop.ticket begun) (shop.number begun) [] (entries ws)) committed x w)
    (inv.4 ∙ ap first_balances all) at_number in
    opens committed v u x w (shop.ticket begun) (shop.number begun) c.in_ok-txn.ensures.begun.0 none c.in_ok-txn.ensures.on
    c.in_ok-txn.ensures.begun.1 inv.0 written

pub returns-in_err-txn-clause-modest : goal.returns-in_err-txn-clause-modest
returns-in_err-txn-clause-modest g c none = c.in_err-txn.ensures.modest 0 (idle_new (g.S.Shop.knows c.args.shop.now) none)

pub returns-in_err-set-clause-modest : goal.returns-in_err-set-clause-modest
returns-in_err-set-clause-modest g c none =
    let inv = c.loop-account.invariant in
    let shop = g.S.Shop in
    let ticket = shop.ticket c.in_ok-txn.txn in
    let number = shop.number c.in_ok-txn.txn in
    let x = shop.knows c.loop-account.shop in
    let w = shop.knows c.set.new.shop in
    busy_modest ticket number 0 w (busy_looked ticket number 0 x w c.set.ensures.looks
    (busy_looked ticket number 0 (shop.knows c.begin.new.shop) x inv.0
    (c.in_ok-txn.ensures.busy 0 (idle_new (shop.knows c.args.shop.now) none))))

pub returns-in_err-commit-clause-modest : goal.returns-in_err-commit-clause-modest
returns-in_err-commit-clause-modest g c none =
    let inv = c.loop-account.invariant in
    let shop = g.S.Shop in
    let ticket = shop.ticket c.in_ok-txn.txn in
    let number = shop.number c.in_ok-txn.txn in
    let x = shop.knows c.loop-account.shop in
    c.in_err-commit.ensures.modest 0
    (busy_as ticket number (shop.ticket c.loop-account.txn) (shop.number c.loop-account.txn) 0 x inv.2 inv.3
    (busy_looked ticket number 0 (shop.knows c.begin.new.shop) x inv.0
    (c.in_ok-txn.ensures.busy 0 (idle_new (shop.knows c.args.shop.now) none))))

pub returns-clause-modest : goal.returns-clause-modest
returns-clause-modest g c none =
    let inv = c.loop-account.invariant in
    let shop = g.S.Shop in
    let ticket = shop.ticket c.in_ok-txn.txn in
    let number = shop.number c.in_ok-txn.txn in
    let x = shop.knows c.loop-account.shop in
    idle_next 0 (shop.knows c.commit.new.shop) (c.in_ok-commit.ensures.idle 0
    (busy_as ticket number (shop.ticket c.loop-account.txn) (shop.number c.loop-account.txn) 0 x inv.2 inv.3
    (busy_looked ticket number 0 (shop.knows c.begin.new.shop) x inv.0
    (c.in_ok-txn.ensures.busy 0 (idle_new (shop.knows c.args.shop.now) none)))))
