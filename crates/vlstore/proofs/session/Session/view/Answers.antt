use Rattle.std.proofs.Common.{◌≡◌, refl, sym, ap, ◌∙◌, subst}
use Rattle.std.specs.Prelude.{is_some, true, IfOk}
use Rattle.vlstore.specs.Entries.{Done, begin_done, begin_entry, done_by}
use Rattle.vlstore.specs.Knowing.{GoesOn, IsSession, Stepped, session_in, KeepsOwnMerge}
use Rattle.vlstore.specs.Lists.{history_by, layout_by}
use Rattle.vlstore.specs.Standing.{NeverFails, Stands, parts}
use Rattle.vlstore.proofs.Calls.{begin_leaves, leaves_by, leaves_merge, stands_on}
use Rattle.vlstore.proofs.Lending.{merges_left}
use Rattle.vlstore.proofs.Faults.{view_answers}
use Rattle.vlstore.proofs.Sessions.{knowing, may_enter, on_after, over, session_after, stepped_after, number_now}
use Rattle.vl_turn.specs.Locks.{lock_name, lock_start}
use Rattle.vl_steps.specs.Answers.{view_outcome}
use Rattle.vl_engine_model.specs.Decides.{as_before, no_effects}
use Rattle.vl_engine_model.specs.Rulings.View.{view_ruling}
use Rattle.vl_engine_model.specs.declared.lock_history.LockStep.TheVariants.{Changed}
use Rattle.vlstore.proofs.Collecting.{begin_same, collects_by, same_work}
use Rattle.vlstore.proofs.Steps.{begin_leads}
use Rattle.vlstore.proofs.Wholes.{begin_job, still_open, whole_by}
use Rattle.vl_reads.specs.Sees.{SeesAlone}
use Rattle.vlstore.specs.Knowing.{Knows, own_in}
use Rattle.vlstore.proofs.Begins.{view_own, view_sees}
use Rattle.vlstore.proofs.Sessions.{own_is, seen_after}
use Rattle.vlstore.proofs.Tickets.{merge_kept}
use Rattle.vlstore.proofs.session.Session.view.Goals as goal

pub finish-requires-clause-entry : goal.finish-requires-clause-entry
finish-requires-clause-entry g c =
    let at = c.deref-lock.result.now in
    let o = (lock_start at).origin.me.0 in
    let v = c.take-turn.result.token.now.me.0 in
    let l = layout_by o v.seen in
    let outcome = view_outcome c.view-answer.result in
    let done : Done = done_by (begin_done l) (Changed, l) outcome in
    may_enter v c.self.invariant.session c.self.invariant.own (done) c.is_begun-enters.result
    (ap (λ u. u.owns) c.take-turn.ensures.begins.is ∙ c.self.invariant.owns) (c.is_begun-enters.ensures l (Changed, l))

pub finish-requires-clause-stands : goal.finish-requires-clause-stands
finish-requires-clause-stands g c =
    let at = c.deref-lock.result.now in
    let o = (lock_start at).origin.me.0 in
    let tells = is_some (g.D.Watched.told (lock_start at).engine.disk) in
    let bytes = g.D.Held.HeldFile.bytes in
    let sure = NeverFails g.D.Watched.faults g.D.Reader.Reader.faults g.D.Writer.Writer.faults in
    let v = c.take-turn.result.token.now.me.0 in
    let l = layout_by o v.seen in
    let h = history_by o v.seen in
    let s = session_in v.owns in
    let old = c.value-locked.result.now.engine in
    let new = c.view-answer.new.self in
    let x = parts (g.D.Watched.told old.disk) old.core old.merging old.collecting old.removing in
    let y = parts (g.D.Watched.told new.disk) new.core new.merging new.collecting new.removing in
    let st = subst (λ (k : _). Stands bytes sure o tells v.seen (parts (g.D.Watched.told k.engine.disk) k.engine.core
    k.engine.merging k.engine.collecting k.engine.removing))
    (sym c.value-locked.ensures.value) c.take-turn.ensures.begins.meaning.1 in
    let outcome = view_outcome c.view-answer.result in
    let done : Done = done_by (begin_done l) (Changed, l) outcome in
    stands_on bytes sure o tells v.seen x y ((begin_entry) s l h) outcome (view_ruling l h) (as_before l l) no_effects st
    (merges_left o v.seen old.merging new.merging st.merges c.view-answer.ensures.merging ((begin_entry) s l h outcome)
    (leaves_merge l s done (leaves_by l (begin_done l) (Changed, l) outcome (begin_leaves l) (tt, refl))))
    (λ told is. begin_leads bytes o v.seen x is s)
    (λ surely. view_answers c.view-answer.result)
    (λ told is. let w = is.whole in whole_by bytes y h l (view_ruling l h) (as_before l l) outcome no_effects
    (c.view-answer.ensures.represents h l w.represents)
    (still_open l h bytes y old.merging (view_ruling l h) l outcome no_effects (begin_job l h) refl
    c.view-answer.ensures.merging w.opens)
    (c.view-answer.ensures.fits h l w.represents.stands w.fits)
    (collects_by old.core new.core old.collecting new.collecting c.view-answer.ensures.logs
    c.view-answer.ensures.collecting _ h l l
    (view_ruling l h) outcome no_effects (c.view-answer.ensures.represents h l w.represents) (begin_same l h)
    (same_work l) w.collects)
    (c.view-answer.ensures.removes h l w.represents.stands.fronts w.removes))

pub invariant_of-self : goal.invariant_of-self
invariant_of-self g c =
    let at = c.deref-lock.result.now in
    let o = (lock_start at).origin.me.0 in
    let v = c.take-turn.result.token.now.me.0 in
    let s = session_in v.owns in
    let l = layout_by o v.seen in
    let h = history_by o v.seen in
    let outcome = view_outcome c.view-answer.result in
    let before = c.self.inside.token in
    let is = over (sym c.deref-lock.ensures) (λ (k : _). IsSession (lock_name k) (lock_start k) before) c.self.invariant in
    over c.deref-lock.ensures (λ (k : _). IsSession (lock_name k) (lock_start k) c.finish.new.turn.1.0)
    (session_after _ (lock_name at) (lock_start at) (lock_start at).origin.me.0
    (is_some (g.D.Watched.told (lock_start at).engine.disk)) c.take-turn.result.value before c.finish.new.turn.1.0
    c.take-turn.result.token.now.me.0 ((begin_entry) s l h outcome) is c.take-turn.ensures.begins
    c.finish.ensures.entered c.finish.ensures.token)

pub returns-clause-on : goal.returns-clause-on
returns-clause-on g c =
    let at = c.deref-lock.result.now in
    let o = (lock_start at).origin.me.0 in
    let v = c.take-turn.result.token.now.me.0 in
    let s = session_in v.owns in
    let l = layout_by o v.seen in
    let h = history_by o v.seen in
    let outcome = view_outcome c.view-answer.result in
    let before = c.self.inside.token in
    let after = c.finish.new.turn.1.0 in
    let is = over (sym c.deref-lock.ensures) (λ (k : _). IsSession (lock_name k) (lock_start k) before) c.self.invariant in
    rw (sym c.self.view_is) (over c.deref-lock.ensures (λ (k : _). GoesOn
    (knowing (lock_name k) (lock_start k).origin.me.0 (is_some (g.D.Watched.told (lock_start k).engine.disk)) before)
    (knowing (lock_name k) (lock_start k).origin.me.0 (is_some (g.D.Watched.told (lock_start k).engine.disk)) after))
    (on_after _ (lock_name at) (lock_start at) (lock_start at).origin.me.0
    (is_some (g.D.Watched.told (lock_start at).engine.disk)) c.take-turn.result.value before after
    c.take-turn.result.token.now.me.0 ((begin_entry) s l h outcome) is c.take-turn.ensures.begins c.finish.ensures.entered))

pub returns-clause-steps : goal.returns-clause-steps
returns-clause-steps g c =
    let at = c.deref-lock.result.now in
    let o = (lock_start at).origin.me.0 in
    let tells = is_some (g.D.Watched.told (lock_start at).engine.disk) in
    let bytes = g.D.Held.HeldFile.bytes in
    let sure = NeverFails g.D.Watched.faults g.D.Reader.Reader.faults g.D.Writer.Writer.faults in
    let v = c.take-turn.result.token.now.me.0 in
    let l = layout_by o v.seen in
    let h = history_by o v.seen in
    let s = session_in v.owns in
    let st = subst (λ (k : _). Stands bytes sure o tells v.seen (parts (g.D.Watched.told k.engine.disk) k.engine.core
    k.engine.merging k.engine.collecting k.engine.removing))
    (sym c.value-locked.ensures.value) c.take-turn.ensures.begins.meaning.1 in
    let outcome = view_outcome c.view-answer.result in
    let before = c.self.inside.token in
    let after = c.finish.new.turn.1.0 in
    let is = over (sym c.deref-lock.ensures) (λ (k : _). IsSession (lock_name k) (lock_start k) before) c.self.invariant in
    rw (sym c.self.view_is) (over c.deref-lock.ensures
    (λ (k : _). is_some (g.D.Watched.told (lock_start k).engine.disk) ≡ true → Stepped sure
    (knowing (lock_name k) (lock_start k).origin.me.0 (is_some (g.D.Watched.told (lock_start k).engine.disk)) before)
    (knowing (lock_name k) (lock_start k).origin.me.0 (is_some (g.D.Watched.told (lock_start k).engine.disk)) after)
    view_ruling begin_entry outcome)
    (λ told.
    let w = (st.behind told).whole in
    stepped_after _ (lock_name at) (lock_start at) o tells c.take-turn.result.value before after v
    ((begin_entry) s l h outcome) is c.take-turn.ensures.begins
    c.finish.ensures.entered view_ruling begin_entry outcome _ (as_before l l) no_effects refl
    (c.view-answer.ensures.represents h l w.represents)
    ((finish-requires-clause-stands g c.before).behind told).legal
    (st.behind told) (λ surely. view_answers c.view-answer.result)))

pub returns-clause-own : goal.returns-clause-own
returns-clause-own g c told =
    let at = c.deref-lock.result.now in
    let o = (lock_start at).origin.me.0 in
    let v = c.take-turn.result.token.now.me.0 in
    let before = c.self.inside.token in
    let after = c.finish.new.turn.1.0 in
    let is = over (sym c.deref-lock.ensures) (λ (k : _). IsSession (lock_name k) (lock_start k) before) c.self.invariant in
    view_own (session_in v.owns) (layout_by o v.seen) (history_by o v.seen) (own_in before.me.0.owns)
    (own_in after.me.0.owns) c.view-answer.result
    (own_is _ (lock_name at) (lock_start at) o (is_some (g.D.Watched.told (lock_start at).engine.disk))
    c.take-turn.result.value before after v _
    is c.take-turn.ensures.begins c.finish.ensures.entered)

pub returns-clause-sees : goal.returns-clause-sees
returns-clause-sees g c told =
    let at = c.deref-lock.result.now in
    let o = (lock_start at).origin.me.0 in
    let tells = is_some (g.D.Watched.told (lock_start at).engine.disk) in
    let bytes = g.D.Held.HeldFile.bytes in
    let sure = NeverFails g.D.Watched.faults g.D.Reader.Reader.faults g.D.Writer.Writer.faults in
    let v = c.take-turn.result.token.now.me.0 in
    let l = layout_by o v.seen in
    let before = c.self.inside.token in
    let after = c.finish.new.turn.1.0 in
    let st = subst (λ (k : _). Stands bytes sure o tells v.seen (parts (g.D.Watched.told k.engine.disk) k.engine.core
    k.engine.merging k.engine.collecting k.engine.removing))
    (sym c.value-locked.ensures.value) c.take-turn.ensures.begins.meaning.1 in
    let is = over (sym c.deref-lock.ensures) (λ (k : _). IsSession (lock_name k) (lock_start k) before) c.self.invariant in
    let told_then = over (sym c.deref-lock.ensures) (λ (k : _). is_some (g.D.Watched.told (lock_start k).engine.disk) ≡ true)
    (subst (λ (u : Knows). u.tells ≡ true) (sym c.self.view_is) told) in
    let w = (st.behind told_then).whole in
    over c.deref-lock.ensures (λ (k : _). IfOk c.view-answer.result
    (λ r. SeesAlone bytes r (history_by (lock_start k).origin.me.0 after.me.0.seen)))
    (view_sees bytes o (session_in v.owns) l v.seen after.me.0.seen c.view-answer.result
    (seen_after _ (lock_name at) (lock_start at) o tells c.take-turn.result.value before after v _ is
    c.take-turn.ensures.begins c.finish.ensures.entered)
    (c.view-answer.ensures.sees (history_by o v.seen) l w.represents.stands))

pub returns-clause-merge : goal.returns-clause-merge
returns-clause-merge g c =
    let at = c.deref-lock.result.now in
    let o = (lock_start at).origin.me.0 in
    let tells = is_some (g.D.Watched.told (lock_start at).engine.disk) in
    let bytes = g.D.Held.HeldFile.bytes in
    let sure = NeverFails g.D.Watched.faults g.D.Reader.Reader.faults g.D.Writer.Writer.faults in
    let v = c.take-turn.result.token.now.me.0 in
    let l = layout_by o v.seen in
    let h = history_by o v.seen in
    let s = session_in v.owns in
    let st = subst (λ (k : _). Stands bytes sure o tells v.seen
    (parts (g.D.Watched.told k.engine.disk) k.engine.core k.engine.merging k.engine.collecting k.engine.removing))
    (sym c.value-locked.ensures.value) c.take-turn.ensures.begins.meaning.1 in
    let outcome = view_outcome c.view-answer.result in
    let done : Done = done_by (begin_done l) (Changed, l) outcome in
    let before = c.self.inside.token in
    let after = c.finish.new.turn.1.0 in
    let is = over (sym c.deref-lock.ensures) (λ (k : _). IsSession (lock_name k) (lock_start k) before) c.self.invariant in
    rw (sym c.self.view_is) (over c.deref-lock.ensures (λ (k : _). KeepsOwnMerge
    (knowing (lock_name k) (lock_start k).origin.me.0 (is_some (g.D.Watched.told (lock_start k).engine.disk)) before)
    (knowing (lock_name k) (lock_start k).origin.me.0 (is_some (g.D.Watched.told (lock_start k).engine.disk)) after))
    (merge_kept _ (lock_name at) (lock_start at) c.take-turn.result.value before v is c.take-turn.ensures.begins o tells
    st.merges.keep after
    (begin_entry s l h outcome) (own_is _ (lock_name at) (lock_start at) o tells c.take-turn.result.value before after v
    (begin_entry s l h outcome) is c.take-turn.ensures.begins
    c.finish.ensures.entered)
    (number_now _ (lock_name at) (lock_start at) o tells c.take-turn.result.value before after v (begin_entry s l h outcome) is
    c.take-turn.ensures.begins
    c.finish.ensures.entered)
    (leaves_merge l s done (leaves_by l (begin_done l) (Changed, l) outcome (begin_leaves l) (tt, refl)))))
