use Rattle.std.proofs.Common.{◌≡◌, ◌^◌, ap, ◌∙◌, arith}
use Rattle.vl_drive.proofs.Sums.{sum-fits, sum-next}
use Rattle.vl_drive.specs.Accounts.{balance_after, balance_in, sum_of}
use Rattle.vl_drive.proofs.store_run.total.Goals as goal

pub get-requires-clause-shown : goal.get-requires-clause-shown
get-requires-clause-shown g c =
    (c.requires.shown.0, c.loop-account.invariant.0 c.requires.shown.0 c.requires.shown.1)

pub overflow_add-total : goal.overflow_add-total
overflow_add-total g c =
    let inv = c.loop-account.invariant in
    let h = c.requires.shown.0 in
    let shown = c.requires.shown.1 in
    let account = c.loop-account.account in
    let below = c.loop-account-test.true in
    let fits = sum-fits (balance_after h) account 64 (2 ^ 64) c.loop-account.total c.balance_in.result (omega (arith, below)) c.requires.shown.2
    (inv.1 h shown) (c.balance_in.ensures ∙ ap balance_in (c.in_ok-get.ensures.value h (inv.0 h shown))) in
    omega (arith, fits)

pub loop-account-preserved : goal.loop-account-preserved
loop-account-preserved g c =
    let inv = c.loop-account.invariant in
    let account = c.loop-account.account in (
      λ h shown. c.get.ensures.still h (inv.0 h shown),
      λ h shown. sum-next (balance_after h) account c.loop-account.total c.balance_in.result (inv.1 h shown)
          (c.balance_in.ensures ∙ ap balance_in (c.in_ok-get.ensures.value h (inv.0 h shown))),
    )

pub returns-clause-total : goal.returns-clause-total
returns-clause-total g c h shown =
    let below = c.loop-account-test.false in
    let end = c.loop-account.auto.account-end in
    let all : c.loop-account.account ≡ 64 = omega (arith, below, end) in
    c.loop-account.invariant.1 h shown ∙ ap (sum_of (balance_after h)) all
