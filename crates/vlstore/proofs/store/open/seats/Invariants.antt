use Rattle.std.proofs.Common.{◌≡◌, [], length}
use Rattle.std.specs.Arc.{arc_value}
use Rattle.std.specs.Prelude.{is_some}
use Rattle.vl_turn.specs.Locks.{lock_name, lock_start}
use Rattle.vlstore.specs.Stores.{AreFirst, numbering, store_of}
use Rattle.vlstore.proofs.store.open.seats.Given as goal

abbrev pub invariant-loop : goal.invariant-loop
invariant-loop g l =
    let name = lock_name (arc_value l.fn.lock) in
    let start = lock_start (arc_value l.fn.lock) in
    (l.root.table_id ≡ name) × (l.root.me ≡ (numbering start l.counter, []))
    × AreFirst (store_of name start.origin.me.0 (is_some (g.D.Watched.told start.engine.disk))) 0 l.made.items
    × (length l.made.items ≡ l.counter)
