use Rattle.std.proofs.Common.{rules, ◌≡◌, ℕ, ◌+◌, [], ◌∷◌, ◌++◌, length, subst, sym, ap, ◌∙◌, arith, length-append}
use Rattle.std.specs.Arc.{arc_value}
use Rattle.std.specs.Prelude.{is_some}
use Rattle.vlstore.specs.Stores.{AreFirst, IsFirst, numbering, store_of}
use Rattle.vlstore.proofs.Stores.{first_more}
use Rattle.vl_turn.specs.Locks.{lock_name, lock_start}
use Rattle.vl_turn.specs.Views.{next_of}
use Rattle.vlstore.proofs.store.open.seats.Goals as goal

pub loop-preserved : goal.loop-preserved
loop-preserved g c =
    let at = arc_value c.args.lock.now in
    let start = lock_start at in
    let store = store_of (lock_name at) start.origin.me.0 (is_some (g.D.Watched.told start.engine.disk)) in
    let inv = c.loop.invariant in
    let session = c.in_ok-session.session in
    let items : c.push.new.self.items ≡ c.loop.made.items ++ session ∷ [] = search rules in
    let counted : next_of c.loop.root.me.0.made ≡ c.loop.counter = ap (λ m. next_of m.0.made) inv.1 in
    let one : IsFirst store c.loop.counter session = subst (λ (n : ℕ). IsFirst store n session) counted
    c.in_ok-session.ensures.session in
    let many : length c.loop.made.items ≡ c.loop.counter = inv.3 in (
      c.seat.ensures.here,
      c.seat.ensures.next ∙ ap (λ (n : ℕ). (numbering start (n + 1), [])) counted,
      subst (AreFirst store 0) (sym items) (first_more store 0 c.loop.counter c.loop.made.items session inv.2
          (omega (arith, many)) one),
      ap length items ∙ omega (arith, many, length-append c.loop.made.items (session ∷ [])),
    )
