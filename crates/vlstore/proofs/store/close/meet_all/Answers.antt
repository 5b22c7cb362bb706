use Rattle.std.proofs.Common.{◌≡◌, List, [], ◌∷◌, ◌++◌, length, subst, sym, ap, ◌∙◌, arith, append_assoc}
use Rattle.std.specs.Arc.{arc_value}
use Rattle.std.specs.Prelude.{is_some}
use Rattle.std.specs.Vec.Iter.{into_iter_items}
use Rattle.vl_engine_model.specs.declared.lock_history.LockEntry.{LockEntry}
use Rattle.vlstore.specs.Knowing.{Knows, own_in, session_in}
use Rattle.vlstore.specs.Stores.{AreAt, AreMet, owns_of}
use Rattle.vlstore.proofs.Sessions.{knowing}
use Rattle.vlstore.proofs.Stores.{met_next, nil_after, nothing_left, owns_more, snoc_shift}
use Rattle.vl_turn.specs.Locks.{lock_name, lock_start}
use Rattle.vl_turn.specs.declared.view.Own.{Own}
use Rattle.vlstore.proofs.store.close.meet_all.Goals as goal

pub loop-session-preserved : goal.loop-session-preserved
loop-session-preserved g c =
    let inv = c.loop-session.invariant in
    let more : into_iter_items c.loop-session.session-iterator ≡ c.in-Some.session ∷ into_iter_items c.next.new.self =
    c.in-Some.ensures.steps.0 in
    let rest = subst (AreAt (lock_name c.args.lock.now)) more inv.2 in
    let met = inv.4 in
    let old = c.loop-session.root.me.0 in
    let new = c.meet.new.mine.me.0 in
    let at = arc_value c.session.inside.lock in
    let token = c.session.inside.token in
    let first = c.args.root.now.me.0.owns in
    let mine = knowing (lock_name at) (lock_start at).origin.me.0 (is_some (g.D.Watched.told (lock_start at).engine.disk)) token in
    let owns : token.me.0.owns ≡ record { number = session_in token.me.0.owns; entries = own_in token.me.0.owns } ∷ [] =
    c.session.invariant.owns ∙ sym (ap
    (λ (os : List (Own LockEntry)). record { number = session_in os; entries = own_in os } ∷ [])
    c.session.invariant.owns) in
    let grown : new.owns ≡ first ++ owns_of (met.0 ++ mine ∷ []) =
    ap (λ u. u.owns) c.meet.ensures.met ∙ (ap (λ os. old.owns ++ os) owns
    ∙ (ap (λ os. os ++ record { number = mine.session; entries = mine.own } ∷ []) met.3
    ∙ (append_assoc first (owns_of met.0) (record { number = mine.session; entries = mine.own } ∷ [])
    ∙ ap (λ os. first ++ os) (sym (owns_more met.0 mine))))) in
    let both =
    subst (λ (v : Knows). AreMet new.seen new.owns (met.0 ++ v ∷ []) × (new.owns ≡ first ++ owns_of (met.0 ++ v ∷ [])))
    c.session.view_is (
      met_next old.seen new.seen old.owns new.owns met.0
          (knowing (lock_name at) (lock_start at).origin.me.0 (is_some (g.D.Watched.told (lock_start at).engine.disk)) token)
          (ap (λ u. u.owns) c.meet.ensures.met ∙ ap (λ os. old.owns ++ os) owns) c.meet.ensures.mine c.meet.ensures.note met.2,
      grown,
    ) in (
      c.meet.ensures.token,
      ap (λ u. u.made) c.meet.ensures.met ∙ inv.1,
      rest.1,
      let was = inv.3 in let gone = c.in-Some.ensures.steps.1 in let short = ap length more in omega arith,
      (
        met.0 ++ c.in-Some.session ∷ [],
        snoc_shift met.0 c.in-Some.session (into_iter_items c.next.new.self) ∙ (ap (λ vs. met.0 ++ vs) (sym more) ∙ met.1),
        both.0,
        both.1,
      ),
    )

pub returns-clause-met : goal.returns-clause-met
returns-clause-met g c =
    let inv = c.loop-session.invariant in
    let met = inv.4 in
    let none : into_iter_items c.loop-session.session-iterator ≡ [] = nothing_left _ (sym inv.3 ∙ c.in-None.ensures.steps.0) in
    subst (AreMet c.loop-session.root.me.0.seen c.loop-session.root.me.0.owns)
    (nil_after met.0 ∙ (ap (λ vs. met.0 ++ vs) (sym none) ∙ met.1)) met.2

pub returns-clause-owns : goal.returns-clause-owns
returns-clause-owns g c =
    let inv = c.loop-session.invariant in
    let met = inv.4 in
    let none : into_iter_items c.loop-session.session-iterator ≡ [] = nothing_left _ (sym inv.3 ∙ c.in-None.ensures.steps.0) in
    met.3 ∙ ap (λ vs. c.args.root.now.me.0.owns ++ owns_of vs)
    (nil_after met.0 ∙ (ap (λ vs. met.0 ++ vs) (sym none) ∙ met.1))
