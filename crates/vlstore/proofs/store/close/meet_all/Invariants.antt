use Rattle.std.proofs.Common.{◌≡◌, List, ◌++◌, length}
use Rattle.std.specs.Vec.Iter.{into_iter_items, into_iter_len}
use Rattle.vl_turn.specs.Locks.{lock_name, lock_start}
use Rattle.vl_turn.specs.Tokens.{IsTokenOf}
use Rattle.vlstore.specs.Knowing.{Knows}
use Rattle.vlstore.specs.Stores.{AreAt, AreMet, owns_of}
use Rattle.vlstore.proofs.store.close.meet_all.Given as goal

abbrev pub invariant-loop-session : goal.invariant-loop-session
invariant-loop-session g l =
    IsTokenOf (lock_name l.fn.lock) (lock_start l.fn.lock) l.root × (l.root.me.0.made ≡ l.fn.root.me.0.made)
    × AreAt (lock_name l.fn.lock) (into_iter_items l.session-iterator)
    × (into_iter_len l.session-iterator ≡ length (into_iter_items l.session-iterator))
    × ((met : List Knows) × (met ++ into_iter_items l.session-iterator ≡ l.fn.sessions.items)
    × AreMet l.root.me.0.seen l.root.me.0.owns met × (l.root.me.0.owns ≡ l.fn.root.me.0.owns ++ owns_of met))
