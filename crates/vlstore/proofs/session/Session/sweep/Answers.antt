use Rattle.std.proofs.Common.{◌≡◌, refl, sym, ap, ◌∙◌, subst}
use Rattle.std.specs.Prelude.{is_some, true, None}
use Rattle.vlstore.specs.Entries.{Done}
use Rattle.vlstore.specs.Knowing.{GoesOn, IsSession, Stepped, session_in, KeepsOwnMerge}
use Rattle.vlstore.specs.Lists.{history_by, layout_by}
use Rattle.vlstore.specs.Standing.{NeverFails, Stands, parts}
use Rattle.vlstore.proofs.Faults.{sweep_fails, unfailing}
use Rattle.vlstore.proofs.Sessions.{knowing, may_enter, on_after, over, session_after, stepped_after, number_now, own_is}
use Rattle.vl_turn.specs.Locks.{lock_name, lock_start}
use Rattle.std.proofs.Common.{ℕ}
use Rattle.vl_engine_laws.specs.Lent.{StandsOpen}
use Rattle.vl_space.specs.Sweeping.{gone_before, sweep_effects, sweep_otherwise, sweep_outcome, up_to}
use Rattle.vl_engine_model.specs.Decides.{Decides}
use Rattle.vl_engine_model.specs.Rulings.Sweep.{sweep_lost, sweep_ruling}
use Rattle.vl_engine_model.specs.declared.lock_history.LockStep.TheVariants.{Changed}
use Rattle.vlstore.specs.Entries.{done_by, sweep_done, sweep_entry}
use Rattle.vlstore.specs.Standing.{IsWhole}
use Rattle.vlstore.proofs.Calls.{leaves_merge, stands_on}
use Rattle.vlstore.proofs.Lending.{merges_left}
use Rattle.vlstore.proofs.Sweeping.{sweep_leads, sweep_leaves}
use Rattle.vlstore.proofs.Wholes.{whole_with}
use Rattle.vlstore.proofs.Tickets.{merge_kept}
use Rattle.vlstore.proofs.session.Session.sweep.Goals as goal

pub finish-requires-clause-entry : goal.finish-requires-clause-entry
finish-requires-clause-entry g c =
    let at = c.deref-lock.result.now in
    let o = (lock_start at).origin.me.0 in
    let v = c.take-turn.result.token.now.me.0 in
    let l = layout_by o v.seen in
    let h = history_by o v.seen in
    let new = c.sweep-answer.new.self in
    let gone = gone_before c.of-asked.result.value.removing new.removing in
    let outcome = sweep_outcome c.sweep-answer.result in
    let done : Done = done_by (sweep_done (sweep_ruling l h).layout) (Changed, sweep_lost None l gone) outcome in
    may_enter v c.self.invariant.session c.self.invariant.own done c.has_swept-enters.result
    (ap (λ u. u.owns) c.take-turn.ensures.begins.is ∙ c.self.invariant.owns)
    (c.has_swept-enters.ensures (sweep_ruling l h).layout (Changed, sweep_lost None l gone))

pub finish-requires-clause-stands : goal.finish-requires-clause-stands
finish-requires-clause-stands g c =
    let at = c.deref-lock.result.now in
    let o = (lock_start at).origin.me.0 in
    let tells = is_some (g.D.Watched.told (lock_start at).engine.disk) in
    let bytes = g.D.Held.HeldFile.bytes in
    let sure = NeverFails g.D.Watched.faults g.D.Reader.Reader.faults g.D.Writer.Writer.faults in
    let v = c.take-turn.result.token.now.me.0 in
    let l = layout_by o v.seen in
    let h = history_by o v.seen in
    let s = session_in v.owns in
    let old = c.value-locked.result.now.engine in
    let new = c.sweep-answer.new.self in
    let x = parts (g.D.Watched.told old.disk) old.core old.merging old.collecting old.removing in
    let y = parts (g.D.Watched.told new.disk) new.core new.merging new.collecting new.removing in
    let st = subst (λ (k : _). Stands bytes sure o tells v.seen
    (parts (g.D.Watched.told k.engine.disk) k.engine.core k.engine.merging k.engine.collecting k.engine.removing))
    (sym c.value-locked.ensures.value) c.take-turn.ensures.begins.meaning.1 in
    let gone = gone_before c.of-asked.result.value.removing new.removing in
    let outcome = sweep_outcome c.sweep-answer.result in
    let done : Done = done_by (sweep_done (sweep_ruling l h).layout) (Changed, sweep_lost None l gone) outcome in
    let effects = sweep_effects (up_to None old.core.back.epoch old.removing.pins)
    old.removing.stock.trash.items c.sweep-answer.result in
    stands_on bytes sure o tells v.seen x y (sweep_entry gone s l h) outcome (sweep_ruling l h) (sweep_otherwise None l gone)
    effects st
    (merges_left o v.seen old.merging new.merging st.merges c.sweep-answer.ensures.merging
    (sweep_entry gone s l h outcome) (leaves_merge l s done (sweep_leaves gone l h outcome)))
    (λ told is. sweep_leads bytes o v.seen x is s gone)
    (unfailing g.D.Watched.faults g.D.Reader.Reader.faults g.D.Writer.Writer.faults old.disk new.disk outcome c.sweep-answer.ensures.cause
    (sweep_fails c.sweep-answer.result))
    (λ told is. let w = is.whole in let opens : StandsOpen bytes old.core old.merging h l = record
    { stands = w.represents.stands; opens = w.opens } in
    subst (λ (n : ℕ). Decides (IsWhole bytes y) h l (sweep_ruling l h) (sweep_otherwise None l n) outcome effects)
    (sym (ap (λ (k : _). gone_before k.removing new.removing) c.of-asked.ensures))
    (whole_with bytes y h l (sweep_ruling l h) (sweep_otherwise None l (gone_before old.removing new.removing)) outcome effects
    (c.sweep-answer.ensures.carries h l w.represents w.removes).decides (c.sweep-answer.ensures.stands h l opens w.removes)
    (c.sweep-answer.ensures.fits h l w.fits w.represents.stands w.removes)
    (c.sweep-answer.ensures.collects h l w.represents.stands w.removes w.collects)
    (c.sweep-answer.ensures.removes h l w.represents.stands w.removes)))

pub invariant_of-self : goal.invariant_of-self
invariant_of-self g c =
    let at = c.deref-lock.result.now in
    let o = (lock_start at).origin.me.0 in
    let tells = is_some (g.D.Watched.told (lock_start at).engine.disk) in
    let v = c.take-turn.result.token.now.me.0 in
    let l = layout_by o v.seen in
    let h = history_by o v.seen in
    let s = session_in v.owns in
    let new = c.sweep-answer.new.self in
    let gone = gone_before c.of-asked.result.value.removing new.removing in
    let outcome = sweep_outcome c.sweep-answer.result in
    let before = c.self.inside.token in
    let after = c.finish.new.turn.1.0 in
    let is = over (sym c.deref-lock.ensures) (λ (k : _). IsSession (lock_name k) (lock_start k) before) c.self.invariant in
    over c.deref-lock.ensures (λ (k : _). IsSession (lock_name k) (lock_start k) after)
    (session_after _ (lock_name at) (lock_start at) o tells c.take-turn.result.value before after v
    (sweep_entry gone s l h outcome) is c.take-turn.ensures.begins
    c.finish.ensures.entered c.finish.ensures.token)

pub returns-clause-on : goal.returns-clause-on
returns-clause-on g c =
    let at = c.deref-lock.result.now in
    let o = (lock_start at).origin.me.0 in
    let tells = is_some (g.D.Watched.told (lock_start at).engine.disk) in
    let v = c.take-turn.result.token.now.me.0 in
    let l = layout_by o v.seen in
    let h = history_by o v.seen in
    let s = session_in v.owns in
    let new = c.sweep-answer.new.self in
    let gone = gone_before c.of-asked.result.value.removing new.removing in
    let outcome = sweep_outcome c.sweep-answer.result in
    let before = c.self.inside.token in
    let after = c.finish.new.turn.1.0 in
    let is = over (sym c.deref-lock.ensures) (λ (k : _). IsSession (lock_name k) (lock_start k) before) c.self.invariant in
    rw (sym c.self.view_is) (over c.deref-lock.ensures (λ (k : _). GoesOn
    (knowing (lock_name k) (lock_start k).origin.me.0 (is_some (g.D.Watched.told (lock_start k).engine.disk)) before)
    (knowing (lock_name k) (lock_start k).origin.me.0 (is_some (g.D.Watched.told (lock_start k).engine.disk)) after))
    (on_after _ (lock_name at) (lock_start at) o tells c.take-turn.result.value before after v
    (sweep_entry gone s l h outcome) is c.take-turn.ensures.begins
    c.finish.ensures.entered))

pub returns-clause-steps : goal.returns-clause-steps
returns-clause-steps g c =
    let at = c.deref-lock.result.now in
    let o = (lock_start at).origin.me.0 in
    let tells = is_some (g.D.Watched.told (lock_start at).engine.disk) in
    let bytes = g.D.Held.HeldFile.bytes in
    let sure = NeverFails g.D.Watched.faults g.D.Reader.Reader.faults g.D.Writer.Writer.faults in
    let v = c.take-turn.result.token.now.me.0 in
    let l = layout_by o v.seen in
    let h = history_by o v.seen in
    let s = session_in v.owns in
    let old = c.value-locked.result.now.engine in
    let new = c.sweep-answer.new.self in
    let st = subst (λ (k : _). Stands bytes sure o tells v.seen
    (parts (g.D.Watched.told k.engine.disk) k.engine.core k.engine.merging k.engine.collecting k.engine.removing))
    (sym c.value-locked.ensures.value) c.take-turn.ensures.begins.meaning.1 in
    let gone = gone_before c.of-asked.result.value.removing new.removing in
    let outcome = sweep_outcome c.sweep-answer.result in
    let effects = sweep_effects (up_to None old.core.back.epoch old.removing.pins)
    old.removing.stock.trash.items c.sweep-answer.result in
    let before = c.self.inside.token in
    let after = c.finish.new.turn.1.0 in
    let is = over (sym c.deref-lock.ensures) (λ (k : _). IsSession (lock_name k) (lock_start k) before) c.self.invariant in
    rw (sym c.self.view_is) (over c.deref-lock.ensures (λ (k : _). is_some (g.D.Watched.told (lock_start k).engine.disk) ≡ true
    → (n : ℕ) × Stepped sure
    (knowing (lock_name k) (lock_start k).origin.me.0 (is_some (g.D.Watched.told (lock_start k).engine.disk)) before)
    (knowing (lock_name k) (lock_start k).origin.me.0 (is_some (g.D.Watched.told (lock_start k).engine.disk)) after)
    sweep_ruling (sweep_entry n) outcome)
    (λ told.
    let w = (st.behind told).whole in (
      gone,
      stepped_after _ (lock_name at) (lock_start at) o tells c.take-turn.result.value before after v
          (sweep_entry gone s l h outcome) is c.take-turn.ensures.begins
          c.finish.ensures.entered sweep_ruling (sweep_entry gone) outcome _
          (sweep_otherwise None l (gone_before old.removing new.removing))
          effects refl (c.sweep-answer.ensures.carries h l w.represents w.removes).decides
          ((finish-requires-clause-stands g c.before.before).behind told).legal
          (st.behind told) (unfailing g.D.Watched.faults g.D.Reader.Reader.faults g.D.Writer.Writer.faults old.disk new.disk outcome c.sweep-answer.ensures.cause
          (sweep_fails c.sweep-answer.result)),
    )))

pub returns-clause-merge : goal.returns-clause-merge
returns-clause-merge g c =
    let at = c.deref-lock.result.now in
    let o = (lock_start at).origin.me.0 in
    let tells = is_some (g.D.Watched.told (lock_start at).engine.disk) in
    let bytes = g.D.Held.HeldFile.bytes in
    let sure = NeverFails g.D.Watched.faults g.D.Reader.Reader.faults g.D.Writer.Writer.faults in
    let v = c.take-turn.result.token.now.me.0 in
    let l = layout_by o v.seen in
    let h = history_by o v.seen in
    let s = session_in v.owns in
    let new = c.sweep-answer.new.self in
    let st = subst (λ (k : _). Stands bytes sure o tells v.seen
    (parts (g.D.Watched.told k.engine.disk) k.engine.core k.engine.merging k.engine.collecting k.engine.removing))
    (sym c.value-locked.ensures.value) c.take-turn.ensures.begins.meaning.1 in
    let gone = gone_before c.of-asked.result.value.removing new.removing in
    let outcome = sweep_outcome c.sweep-answer.result in
    let done : Done = done_by (sweep_done (sweep_ruling l h).layout) (Changed, sweep_lost None l gone) outcome in
    let before = c.self.inside.token in
    let after = c.finish.new.turn.1.0 in
    let is = over (sym c.deref-lock.ensures) (λ (k : _). IsSession (lock_name k) (lock_start k) before) c.self.invariant in
    rw (sym c.self.view_is) (over c.deref-lock.ensures (λ (k : _). KeepsOwnMerge
    (knowing (lock_name k) (lock_start k).origin.me.0 (is_some (g.D.Watched.told (lock_start k).engine.disk)) before)
    (knowing (lock_name k) (lock_start k).origin.me.0 (is_some (g.D.Watched.told (lock_start k).engine.disk)) after))
    (merge_kept _ (lock_name at) (lock_start at) c.take-turn.result.value before v is c.take-turn.ensures.begins o tells
    st.merges.keep after
    (sweep_entry gone s l h outcome) (own_is _ (lock_name at) (lock_start at) o tells c.take-turn.result.value before after v
    (sweep_entry gone s l h outcome) is c.take-turn.ensures.begins
    c.finish.ensures.entered)
    (number_now _ (lock_name at) (lock_start at) o tells c.take-turn.result.value before after v (sweep_entry gone s l h outcome)
    is c.take-turn.ensures.begins
    c.finish.ensures.entered)
    (leaves_merge l s done (sweep_leaves gone l h outcome))))

pub returns-clause-cause : goal.returns-clause-cause
returns-clause-cause g c failed = record {
  before = c.value-locked.result.now.engine.disk;
  after = c.sweep-answer.new.self.disk;
  rose = c.sweep-answer.ensures.cause.rose failed;
}
