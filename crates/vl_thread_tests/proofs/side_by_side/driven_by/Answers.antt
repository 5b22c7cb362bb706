use Rattle.std.proofs.Common.{ℕ, ◌+◌, List, [], ◌∷◌, map}
use Rattle.std.specs.List.{AllByRecursion}
use Rattle.vl_drive.specs.Clients.{IsNewAt}
use Rattle.vl_drive.specs.Knowing.{Knows}
use Rattle.vl_drive.specs.Stores.{AreFirst, Opened}
use Rattle.vl_thread_tests.proofs.side_by_side.driven_by.Goals as goal

first_new : (o : Opened) (first : ℕ) (vs : List Knows) → AreFirst o first vs → AllByRecursion (IsNewAt o.store) vs
first_new o first [] are = tt
first_new o first (v ∷ vs) are = (record { store_is = are.0.of.store_is; own = are.0.own }, first_new o (first + 1) vs are.1)

pub drive-requires-clause-new : goal.drive-requires-clause-new
drive-requires-clause-new g c κs within =
    let o = g.T.Shops.opened c.in-Ok._store in
    (o.store, first_new o 0 (map g.T.Shop.Shop.knows c.in-Ok.shops.items) c.in-Ok.ensures.first)
