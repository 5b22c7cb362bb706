use Rattle.std.proofs.Common.{◌≡◌, []}
use Rattle.vl_drive.specs.Accounts.{first_balances}
use Rattle.vl_drive.specs.Knowing.{Looks}
use Rattle.vl_drive.specs.Steps.{history_by}
use Rattle.vl_drive.proofs.keeper.open_accounts.Given as goal

abbrev pub invariant-loop-account : goal.invariant-loop-account
invariant-loop-account g l =
    let u = g.S.Shop.knows l.initial.shop in
    Looks u (g.S.Shop.knows l.shop) × g.S.Shop.sees l.txn (history_by u.origin u.seen) []
    × (g.S.Shop.ticket l.txn ≡ g.S.Shop.ticket l.initial.txn) × (g.S.Shop.number l.txn ≡ g.S.Shop.number l.initial.txn)
    × (g.S.Shop.writes l.txn ≡ first_balances l.account)
