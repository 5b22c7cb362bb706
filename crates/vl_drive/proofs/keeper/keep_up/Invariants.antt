use Rattle.vl_drive.specs.Clients.{HasOpened}
use Rattle.std.proofs.Common.{ℕ, List}
use Rattle.vl_drive.specs.Knowing.{GoesOn}
use Rattle.vl_drive.specs.Modest.{IsModest}
use Rattle.vl_engine_model.specs.declared.lock_history.LockEntry.{LockEntry}
use Rattle.vl_drive.proofs.keeper.keep_up.Given as goal

abbrev pub invariant-loop : goal.invariant-loop
invariant-loop g l =
    let v = g.S.Shop.knows l.fn.shop in
    let w = g.S.Shop.knows l.shop in
    GoesOn v w × ((note : List LockEntry) → HasOpened note v → HasOpened note w) × ((turns : ℕ) → IsModest turns v → IsModest turns w)
