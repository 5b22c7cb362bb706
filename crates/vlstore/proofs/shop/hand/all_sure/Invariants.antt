use Rattle.std.proofs.Common.{◌≡◌, ◌++◌, length, map}
use Rattle.std.specs.Vec.Iter.{into_iter_items, into_iter_len}
use Rattle.vlstore.specs.Shops.{AreSure, session_of}
use Rattle.vlstore.proofs.shop.hand.all_sure.Given as goal

abbrev pub invariant-loop-session : goal.invariant-loop-session
invariant-loop-session g l =
    AreSure (into_iter_items l.session-iterator)
    × (into_iter_len l.session-iterator ≡ length (into_iter_items l.session-iterator))
    × (map session_of l.shops.items ++ into_iter_items l.session-iterator ≡ l.fn.sessions.items)
