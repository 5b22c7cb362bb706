use Rattle.std.proofs.Common.{◌≡◌}
use Rattle.vl_drive.specs.Accounts.{balance_after, sum_of}
use Rattle.vl_model.specs.History.{History}
use Rattle.vl_drive.proofs.store_run.total.Given as goal

abbrev pub invariant-loop-account : goal.invariant-loop-account
invariant-loop-account g l =
    ((h : History) → g.C.Closed.shows l.fn.closed h → g.C.Closed.shows l.closed h)
    × ((h : History) → g.C.Closed.shows l.fn.closed h → l.total ≡ sum_of (balance_after h) l.account)
