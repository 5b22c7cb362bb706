use Rattle.std.proofs.Common.{◌≡◌, refl, sym, ap, ◌∙◌, subst}
use Rattle.std.specs.Prelude.{is_some, true}
use Rattle.vlstore.specs.Entries.{Done, rotate_entry, step_done, done_by}
use Rattle.vlstore.specs.Knowing.{GoesOn, IsSession, Stepped, session_in, KeepsOwnMerge}
use Rattle.vlstore.specs.Lists.{history_by, layout_by}
use Rattle.vlstore.specs.Standing.{NeverFails, Stands, parts}
use Rattle.vlstore.proofs.Calls.{leaves_by, leaves_merge, stands_on, step_leaves}
use Rattle.vlstore.proofs.Lending.{merges_left}
use Rattle.vlstore.proofs.Faults.{step_fails, unfailing}
use Rattle.vlstore.proofs.Sessions.{knowing, may_enter, on_after, over, session_after, stepped_after, number_now, own_is}
use Rattle.vl_turn.specs.Locks.{lock_name, lock_start}
use Rattle.vl_steps.specs.Rotating.{rotate_effects}
use Rattle.vl_steps.specs.Stepping.{step_outcome}
use Rattle.vl_engine_model.specs.Decides.{as_before}
use Rattle.vl_engine_model.specs.Rulings.Rotate.{rotate_ruling, rotated}
use Rattle.vl_engine_model.specs.declared.lock_history.LockStep.TheVariants.{Changed}
use Rattle.vlstore.proofs.Steps.{rotate_leads}
use Rattle.vlstore.proofs.Wholes.{rotate_job, still_open, whole_by}
use Rattle.vlstore.proofs.Tickets.{merge_kept}
use Rattle.vlstore.proofs.session.Session.rotate.Goals as goal

pub finish-requires-clause-entry : goal.finish-requires-clause-entry
finish-requires-clause-entry g c =
    let at = c.deref-lock.result.now in
    let o = (lock_start at).origin.me.0 in
    let v = c.take-turn.result.token.now.me.0 in
    let l = layout_by o v.seen in
    let outcome = step_outcome c.rotate-answer.result in
    let done : Done = done_by (step_done (rotated l)) (Changed, l) outcome in
    may_enter v c.self.invariant.session c.self.invariant.own (done) c.has_stepped-enters.result
    (ap (λ u. u.owns) c.take-turn.ensures.begins.is ∙ c.self.invariant.owns)
    (c.has_stepped-enters.ensures (rotated l) (Changed, l))

pub finish-requires-clause-stands : goal.finish-requires-clause-stands
finish-requires-clause-stands g c =
    let at = c.deref-lock.result.now in
    let o = (lock_start at).origin.me.0 in
    let tells = is_some (g.D.Watched.told (lock_start at).engine.disk) in
    let bytes = g.D.Held.HeldFile.bytes in
    let sure = NeverFails g.D.Watched.faults g.D.Reader.Reader.faults g.D.Writer.Writer.faults in
    let v = c.take-turn.result.token.now.me.0 in
    let l = layout_by o v.seen in
    let h = history_by o v.seen in
    let s = session_in v.owns in
    let old = c.value-locked.result.now.engine in
    let new = c.rotate-answer.new.self in
    let x = parts (g.D.Watched.told old.disk) old.core old.merging old.collecting old.removing in
    let y = parts (g.D.Watched.told new.disk) new.core new.merging new.collecting new.removing in
    let st = subst (λ (k : _). Stands bytes sure o tells v.seen (parts (g.D.Watched.told k.engine.disk) k.engine.core
    k.engine.merging k.engine.collecting k.engine.removing))
    (sym c.value-locked.ensures.value) c.take-turn.ensures.begins.meaning.1 in
    let outcome = step_outcome c.rotate-answer.result in
    let done : Done = done_by (step_done (rotated l)) (Changed, l) outcome in
    stands_on bytes sure o tells v.seen x y ((rotate_entry) s l h) outcome (rotate_ruling l h) (as_before l l)
    (rotate_effects c.rotate-answer.result) st
    (merges_left o v.seen old.merging new.merging st.merges c.rotate-answer.ensures.merging ((rotate_entry) s l h outcome)
    (leaves_merge l s done (leaves_by l (step_done (rotated l)) (Changed, l) outcome (step_leaves l (rotated l) refl)
    (tt, refl))))
    (λ told is. rotate_leads bytes o v.seen x is s)
    (unfailing g.D.Watched.faults g.D.Reader.Reader.faults g.D.Writer.Writer.faults old.disk new.disk outcome c.rotate-answer.ensures.cause
    (step_fails c.rotate-answer.result))
    (λ told is. let w = is.whole in whole_by bytes y h l (rotate_ruling l h) (as_before l l) outcome
    (rotate_effects c.rotate-answer.result)
    (c.rotate-answer.ensures.carries h l w.represents).decides
    (still_open l h bytes y old.merging (rotate_ruling l h) l outcome (rotate_effects c.rotate-answer.result)
    (rotate_job l h) refl
    c.rotate-answer.ensures.merging w.opens)
    (c.rotate-answer.ensures.fits h l w.represents.stands w.fits)
    (c.rotate-answer.ensures.collects h l w.represents.stands (λ running. (w.fits.running running).numbers) w.collects)
    (c.rotate-answer.ensures.removes h l w.represents.stands w.opens (λ running. (w.fits.running running).numbers) w.removes))

pub invariant_of-self : goal.invariant_of-self
invariant_of-self g c =
    let at = c.deref-lock.result.now in
    let o = (lock_start at).origin.me.0 in
    let v = c.take-turn.result.token.now.me.0 in
    let s = session_in v.owns in
    let l = layout_by o v.seen in
    let h = history_by o v.seen in
    let outcome = step_outcome c.rotate-answer.result in
    let before = c.self.inside.token in
    let is = over (sym c.deref-lock.ensures) (λ (k : _). IsSession (lock_name k) (lock_start k) before) c.self.invariant in
    over c.deref-lock.ensures (λ (k : _). IsSession (lock_name k) (lock_start k) c.finish.new.turn.1.0)
    (session_after _ (lock_name at) (lock_start at) (lock_start at).origin.me.0
    (is_some (g.D.Watched.told (lock_start at).engine.disk)) c.take-turn.result.value before c.finish.new.turn.1.0
    c.take-turn.result.token.now.me.0 ((rotate_entry) s l h outcome) is c.take-turn.ensures.begins
    c.finish.ensures.entered c.finish.ensures.token)

pub returns-clause-on : goal.returns-clause-on
returns-clause-on g c =
    let at = c.deref-lock.result.now in
    let o = (lock_start at).origin.me.0 in
    let v = c.take-turn.result.token.now.me.0 in
    let s = session_in v.owns in
    let l = layout_by o v.seen in
    let h = history_by o v.seen in
    let outcome = step_outcome c.rotate-answer.result in
    let before = c.self.inside.token in
    let after = c.finish.new.turn.1.0 in
    let is = over (sym c.deref-lock.ensures) (λ (k : _). IsSession (lock_name k) (lock_start k) before) c.self.invariant in
    rw (sym c.self.view_is) (over c.deref-lock.ensures (λ (k : _). GoesOn
    (knowing (lock_name k) (lock_start k).origin.me.0 (is_some (g.D.Watched.told (lock_start k).engine.disk)) before)
    (knowing (lock_name k) (lock_start k).origin.me.0 (is_some (g.D.Watched.told (lock_start k).engine.disk)) after))
    (on_after _ (lock_name at) (lock_start at) (lock_start at).origin.me.0
    (is_some (g.D.Watched.told (lock_start at).engine.disk)) c.take-turn.result.value before after
    c.take-turn.result.token.now.me.0 ((rotate_entry) s l h outcome) is c.take-turn.ensures.begins c.finish.ensures.entered))

pub returns-clause-steps : goal.returns-clause-steps
returns-clause-steps g c =
    let at = c.deref-lock.result.now in
    let o = (lock_start at).origin.me.0 in
    let tells = is_some (g.D.Watched.told (lock_start at).engine.disk) in
    let bytes = g.D.Held.HeldFile.bytes in
    let sure = NeverFails g.D.Watched.faults g.D.Reader.Reader.faults g.D.Writer.Writer.faults in
    let v = c.take-turn.result.token.now.me.0 in
    let l = layout_by o v.seen in
    let h = history_by o v.seen in
    let s = session_in v.owns in
    let old = c.value-locked.result.now.engine in
    let new = c.rotate-answer.new.self in
    let st = subst (λ (k : _). Stands bytes sure o tells v.seen (parts (g.D.Watched.told k.engine.disk) k.engine.core
    k.engine.merging k.engine.collecting k.engine.removing))
    (sym c.value-locked.ensures.value) c.take-turn.ensures.begins.meaning.1 in
    let outcome = step_outcome c.rotate-answer.result in
    let before = c.self.inside.token in
    let after = c.finish.new.turn.1.0 in
    let is = over (sym c.deref-lock.ensures) (λ (k : _). IsSession (lock_name k) (lock_start k) before) c.self.invariant in
    rw (sym c.self.view_is) (over c.deref-lock.ensures
    (λ (k : _). is_some (g.D.Watched.told (lock_start k).engine.disk) ≡ true → Stepped sure
    (knowing (lock_name k) (lock_start k).origin.me.0 (is_some (g.D.Watched.told (lock_start k).engine.disk)) before)
    (knowing (lock_name k) (lock_start k).origin.me.0 (is_some (g.D.Watched.told (lock_start k).engine.disk)) after)
    rotate_ruling rotate_entry outcome)
    (λ told.
    let w = (st.behind told).whole in
    stepped_after _ (lock_name at) (lock_start at) o tells c.take-turn.result.value before after v
    ((rotate_entry) s l h outcome) is c.take-turn.ensures.begins
    c.finish.ensures.entered rotate_ruling rotate_entry outcome _ (as_before l l) (rotate_effects c.rotate-answer.result) refl
    ((c.rotate-answer.ensures.carries h l w.represents).decides)
    ((finish-requires-clause-stands g c.before).behind told).legal
    (st.behind told) (unfailing g.D.Watched.faults g.D.Reader.Reader.faults g.D.Writer.Writer.faults old.disk new.disk outcome c.rotate-answer.ensures.cause
    (step_fails c.rotate-answer.result))))

pub returns-clause-merge : goal.returns-clause-merge
returns-clause-merge g c =
    let at = c.deref-lock.result.now in
    let o = (lock_start at).origin.me.0 in
    let tells = is_some (g.D.Watched.told (lock_start at).engine.disk) in
    let bytes = g.D.Held.HeldFile.bytes in
    let sure = NeverFails g.D.Watched.faults g.D.Reader.Reader.faults g.D.Writer.Writer.faults in
    let v = c.take-turn.result.token.now.me.0 in
    let l = layout_by o v.seen in
    let h = history_by o v.seen in
    let s = session_in v.owns in
    let st = subst (λ (k : _). Stands bytes sure o tells v.seen
    (parts (g.D.Watched.told k.engine.disk) k.engine.core k.engine.merging k.engine.collecting k.engine.removing))
    (sym c.value-locked.ensures.value) c.take-turn.ensures.begins.meaning.1 in
    let outcome = step_outcome c.rotate-answer.result in
    let done : Done = done_by (step_done (rotated l)) (Changed, l) outcome in
    let before = c.self.inside.token in
    let after = c.finish.new.turn.1.0 in
    let is = over (sym c.deref-lock.ensures) (λ (k : _). IsSession (lock_name k) (lock_start k) before) c.self.invariant in
    rw (sym c.self.view_is) (over c.deref-lock.ensures (λ (k : _). KeepsOwnMerge
    (knowing (lock_name k) (lock_start k).origin.me.0 (is_some (g.D.Watched.told (lock_start k).engine.disk)) before)
    (knowing (lock_name k) (lock_start k).origin.me.0 (is_some (g.D.Watched.told (lock_start k).engine.disk)) after))
    (merge_kept _ (lock_name at) (lock_start at) c.take-turn.result.value before v is c.take-turn.ensures.begins o tells
    st.merges.keep after
    (rotate_entry s l h outcome) (own_is _ (lock_name at) (lock_start at) o tells c.take-turn.result.value before after v
    (rotate_entry s l h outcome) is c.take-turn.ensures.begins
    c.finish.ensures.entered)
    (number_now _ (lock_name at) (lock_start at) o tells c.take-turn.result.value before after v (rotate_entry s l h outcome) is
    c.take-turn.ensures.begins
    c.finish.ensures.entered)
    (leaves_merge l s done (leaves_by l (step_done (rotated l)) (Changed, l) outcome (step_leaves l (rotated l) refl) (tt, refl)))))

pub returns-clause-cause : goal.returns-clause-cause
returns-clause-cause g c failed = record {
  before = c.value-locked.result.now.engine.disk;
  after = c.rotate-answer.new.self.disk;
  rose = c.rotate-answer.ensures.cause.rose failed;
}
