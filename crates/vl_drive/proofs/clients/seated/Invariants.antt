use Rattle.std.proofs.Common.{◌≡◌, List, ◌++◌, length, map}
use Rattle.std.specs.List.{AllByRecursion}
use Rattle.std.specs.Vec.Iter.{into_iter_items, into_iter_len}
use Rattle.vl_drive.specs.Clients.{IsNewAt}
use Rattle.vl_drive.specs.Players.{AreSeated}
use Rattle.vl_drive.proofs.clients.seated.Given as goal

abbrev pub invariant-loop-shop : goal.invariant-loop-shop
invariant-loop-shop g l =
    let knows = g.S.Shop.knows in
    (knows l.keeper ≡ knows l.fn.keeper)
    × AllByRecursion (IsNewAt (knows l.fn.keeper).store) (map knows (into_iter_items l.shop-iterator))
    × (into_iter_len l.shop-iterator ≡ length (into_iter_items l.shop-iterator))
    × ((met : List _) × (met ++ into_iter_items l.shop-iterator ≡ l.fn.shops.items)
    × AreSeated knows (knows l.fn.keeper).seen 0 (map knows met) l.players.items × (length met ≡ l.client))
