use Rattle.std.proofs.Common.{◌≡◌, ◌++◌, length, map}
use Rattle.std.specs.List.{AllByRecursion}
use Rattle.std.specs.Vec.Iter.{into_iter_items, into_iter_len}
use Rattle.vl_sequence.specs.Clients.{IsOfLease, IsSeated, shop_of}
use Rattle.vl_sequence.proofs.clients.seated.Given as goal

abbrev pub invariant-loop-shop : goal.invariant-loop-shop
invariant-loop-shop g l =
    (into_iter_len l.shop-iterator ≡ length (into_iter_items l.shop-iterator))
    × (map shop_of l.clients.items ++ into_iter_items l.shop-iterator ≡ l.fn.shops.items)
    × AllByRecursion (IsSeated g.S.Shop.knows) l.clients.items × AllByRecursion (IsOfLease l.lease) l.clients.items
