use Rattle.std.proofs.Common.{◌≡◌, ◌++◌, length, map}
use Rattle.std.specs.Vec.Iter.{into_iter_items, into_iter_len}
use Rattle.vlstore.specs.Shops.{session_of}
use Rattle.vlstore.proofs.shop.hand.all_sessions.Given as goal

abbrev pub invariant-loop-shop : goal.invariant-loop-shop
invariant-loop-shop g l =
    (into_iter_len l.shop-iterator ≡ length (into_iter_items l.shop-iterator))
    × (l.sessions.items ++ map session_of (into_iter_items l.shop-iterator) ≡ map session_of l.fn.shops.items)
