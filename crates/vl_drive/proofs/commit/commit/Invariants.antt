use Rattle.std.proofs.Common.{◌≡◌, ℕ}
use Rattle.vl_drive.specs.Knowing.{IsOwnTicket}
use Rattle.vl_drive.specs.Modest.{IsBusy}
use Rattle.vl_drive.specs.Playing.{Waits}
use Rattle.vl_drive.proofs.commit.commit.Given as goal

abbrev pub invariant-loop : goal.invariant-loop
invariant-loop g l =
    (l.txn ≡ l.fn.txn) × Waits (g.S.Shop.knows l.fn.shop) (g.S.Shop.knows l.shop)
    × IsOwnTicket (g.S.Shop.knows l.shop) (g.S.Shop.ticket l.txn) (g.S.Shop.number l.txn)
    × ((turns : ℕ) → IsBusy (g.S.Shop.ticket l.fn.txn) (g.S.Shop.number l.fn.txn) turns (g.S.Shop.knows l.fn.shop)
    → IsBusy (g.S.Shop.ticket l.txn) (g.S.Shop.number l.txn) turns (g.S.Shop.knows l.shop))
