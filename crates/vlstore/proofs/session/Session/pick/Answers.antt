use Rattle.std.proofs.Common.{◌≡◌, sym, ap, ◌∙◌, subst}
use Rattle.std.specs.Prelude.{is_some, true, IfOk, None, Some}
use Rattle.vlstore.specs.Entries.{Done, entry_of, pick_entry}
use Rattle.vlstore.specs.Knowing.{GoesOn, IsSession, Stepped, session_in, KeepsOwnMerge}
use Rattle.vlstore.specs.Lists.{history_by, layout_by}
use Rattle.vlstore.specs.Standing.{NeverFails, Stands, parts}
use Rattle.vlstore.proofs.Calls.{leaves_merge}
use Rattle.vlstore.proofs.Lending.{merges_left}
use Rattle.vlstore.proofs.Faults.{pick_answers}
use Rattle.vlstore.proofs.Sessions.{knowing, may_enter, on_after, over, session_after, stepped_after}
use Rattle.vl_turn.specs.Locks.{lock_name, lock_start}
use Rattle.std.specs.Option.{option_map}
use Rattle.vl_space.specs.Collecting.{IsPicked, pick_outcome}
use Rattle.vl_engine_model.specs.Decides.{as_before, no_effects}
use Rattle.vl_engine_model.specs.LockHistory.{open_pass}
use Rattle.vl_engine_model.specs.Rulings.Pick.{PickAnswer, pick_ruling}
use Rattle.vl_engine_model.specs.declared.job.OpenJob.{OpenJob}
use Rattle.vlstore.specs.Knowing.{Knows, own_in}
use Rattle.vlstore.specs.Standing.{IsBehind}
use Rattle.vlstore.proofs.Leading.{goes_by}
use Rattle.vlstore.proofs.Picking.{pass_own, pick_did, pick_enters, pick_job, pick_leaves, pick_same, picked_at, picked_of, picked_segment}
use Rattle.vlstore.proofs.Sessions.{number_now, own_is, seen_after}
use Rattle.vlstore.proofs.Wholes.{whole_with}
use Rattle.vlstore.proofs.Works.{pick_leads}
use Rattle.vl_turn.specs.Entries.{with_entry}
use Rattle.vlstore.proofs.Tickets.{merge_kept}
use Rattle.vlstore.proofs.session.Session.pick.Goals as goal

pub finish-requires-clause-entry : goal.finish-requires-clause-entry
finish-requires-clause-entry g c =
    let at = c.deref-lock.result.now in
    let o = (lock_start at).origin.me.0 in
    let v = c.take-turn.result.token.now.me.0 in
    let l = layout_by o v.seen in
    let h = history_by o v.seen in
    let done : Done = pick_did (pick_ruling l h c.args.percent).layout c.pick-answer.result in
    may_enter v c.self.invariant.session c.self.invariant.own (done) c.is_ok-enters.result
    (ap (λ u. u.owns) c.take-turn.ensures.begins.is ∙ c.self.invariant.owns)
    (c.is_ok-enters.ensures.value ∙ pick_enters (pick_ruling l h c.args.percent).layout c.pick-answer.result)

pub finish-requires-clause-stands : goal.finish-requires-clause-stands
finish-requires-clause-stands g c =
    let at = c.deref-lock.result.now in
    let o = (lock_start at).origin.me.0 in
    let tells = is_some (g.D.Watched.told (lock_start at).engine.disk) in
    let bytes = g.D.Held.HeldFile.bytes in
    let sure = NeverFails g.D.Watched.faults g.D.Reader.Reader.faults g.D.Writer.Writer.faults in
    let v = c.take-turn.result.token.now.me.0 in
    let l = layout_by o v.seen in
    let h = history_by o v.seen in
    let s = session_in v.owns in
    let old = c.value-locked.result.now.engine in
    let new = c.pick-answer.new.self in
    let x = parts (g.D.Watched.told old.disk) old.core old.merging old.collecting old.removing in
    let y = parts (g.D.Watched.told new.disk) new.core new.merging new.collecting new.removing in
    let st = subst (λ (k : _). Stands bytes sure o tells v.seen (parts (g.D.Watched.told k.engine.disk) k.engine.core
    k.engine.merging k.engine.collecting k.engine.removing))
    (sym c.value-locked.ensures.value) c.take-turn.ensures.begins.meaning.1 in
    let outcome = pick_outcome (pick_ruling l h c.args.percent).answer c.pick-answer.result in
    let done : Done = pick_did (pick_ruling l h c.args.percent).layout c.pick-answer.result in
    record {
      merges = merges_left o v.seen old.merging new.merging st.merges c.pick-answer.ensures.merging (entry_of s done)
          (leaves_merge l s done (pick_leaves l (pick_ruling l h c.args.percent).layout c.pick-answer.result
          (ap (option_map (λ (j : OpenJob). j.lent)) (pick_job l h c.args.percent))));
      behind = λ told.
          let is = st.behind told in
          let w = is.whole in
          subst (λ e. IsBehind bytes sure o (with_entry v.seen e) y)
          (sym (pick_same s l (pick_ruling l h c.args.percent).layout (pick_ruling l h c.args.percent).answer
          c.pick-answer.result (picked_of bytes (pick_ruling l h c.args.percent).layout
          (pick_ruling l h c.args.percent).answer c.pick-answer.result
          (c.pick-answer.ensures.pass h l w.represents.stands w.collects))))
          (goes_by bytes o v.seen (pick_ruling l h c.args.percent) (as_before l l) (pick_entry c.args.percent s l h) x y
          outcome no_effects is
          (pick_leads bytes o v.seen x is s c.args.percent)
          (λ surely. pick_answers (pick_ruling l h c.args.percent).answer c.pick-answer.result)
          (whole_with bytes y h l (pick_ruling l h c.args.percent) (as_before l l) outcome no_effects
          (c.pick-answer.ensures.represents h l w.represents w.collects)
          (c.pick-answer.ensures.stands h l (record { stands = w.represents.stands; opens = w.opens }) w.collects)
          (c.pick-answer.ensures.fits h l w.represents.stands w.collects w.fits)
          (c.pick-answer.ensures.collects h l w.represents.stands w.collects)
          (c.pick-answer.ensures.removes h l w.represents.stands w.collects w.removes)));
    }

pub invariant_of-self : goal.invariant_of-self
invariant_of-self g c =
    let at = c.deref-lock.result.now in
    let o = (lock_start at).origin.me.0 in
    let v = c.take-turn.result.token.now.me.0 in
    let s = session_in v.owns in
    let l = layout_by o v.seen in
    let h = history_by o v.seen in
    let before = c.self.inside.token in
    let is = over (sym c.deref-lock.ensures) (λ (k : _). IsSession (lock_name k) (lock_start k) before) c.self.invariant in
    over c.deref-lock.ensures (λ (k : _). IsSession (lock_name k) (lock_start k) c.finish.new.turn.1.0)
    (session_after _ (lock_name at) (lock_start at) (lock_start at).origin.me.0
    (is_some (g.D.Watched.told (lock_start at).engine.disk)) c.take-turn.result.value before c.finish.new.turn.1.0
    c.take-turn.result.token.now.me.0 (entry_of s
    (pick_did (pick_ruling l h c.args.percent).layout c.pick-answer.result)) is c.take-turn.ensures.begins
    c.finish.ensures.entered c.finish.ensures.token)

pub returns-clause-on : goal.returns-clause-on
returns-clause-on g c =
    let at = c.deref-lock.result.now in
    let o = (lock_start at).origin.me.0 in
    let v = c.take-turn.result.token.now.me.0 in
    let s = session_in v.owns in
    let l = layout_by o v.seen in
    let h = history_by o v.seen in
    let before = c.self.inside.token in
    let after = c.finish.new.turn.1.0 in
    let is = over (sym c.deref-lock.ensures) (λ (k : _). IsSession (lock_name k) (lock_start k) before) c.self.invariant in
    rw (sym c.self.view_is) (over c.deref-lock.ensures (λ (k : _). GoesOn
    (knowing (lock_name k) (lock_start k).origin.me.0 (is_some (g.D.Watched.told (lock_start k).engine.disk)) before)
    (knowing (lock_name k) (lock_start k).origin.me.0 (is_some (g.D.Watched.told (lock_start k).engine.disk)) after))
    (on_after _ (lock_name at) (lock_start at) (lock_start at).origin.me.0
    (is_some (g.D.Watched.told (lock_start at).engine.disk)) c.take-turn.result.value before after
    c.take-turn.result.token.now.me.0 (entry_of s
    (pick_did (pick_ruling l h c.args.percent).layout c.pick-answer.result)) is c.take-turn.ensures.begins
    c.finish.ensures.entered))

pub returns-clause-steps : goal.returns-clause-steps
returns-clause-steps g c =
    let at = c.deref-lock.result.now in
    let o = (lock_start at).origin.me.0 in
    let tells = is_some (g.D.Watched.told (lock_start at).engine.disk) in
    let bytes = g.D.Held.HeldFile.bytes in
    let sure = NeverFails g.D.Watched.faults g.D.Reader.Reader.faults g.D.Writer.Writer.faults in
    let v = c.take-turn.result.token.now.me.0 in
    let l = layout_by o v.seen in
    let h = history_by o v.seen in
    let s = session_in v.owns in
    let st = subst (λ (k : _). Stands bytes sure o tells v.seen (parts (g.D.Watched.told k.engine.disk) k.engine.core
    k.engine.merging k.engine.collecting k.engine.removing))
    (sym c.value-locked.ensures.value) c.take-turn.ensures.begins.meaning.1 in
    let outcome = pick_outcome (pick_ruling l h c.args.percent).answer c.pick-answer.result in
    let before = c.self.inside.token in
    let after = c.finish.new.turn.1.0 in
    let is = over (sym c.deref-lock.ensures) (λ (k : _). IsSession (lock_name k) (lock_start k) before) c.self.invariant in
    rw (sym c.self.view_is) (over c.deref-lock.ensures (λ (k : _). is_some (g.D.Watched.told (lock_start k).engine.disk) ≡ true
    → (picked : PickAnswer) × Stepped sure
    (knowing (lock_name k) (lock_start k).origin.me.0 (is_some (g.D.Watched.told (lock_start k).engine.disk)) before)
    (knowing (lock_name k) (lock_start k).origin.me.0 (is_some (g.D.Watched.told (lock_start k).engine.disk)) after)
    (λ l h. pick_ruling l h c.args.percent) (pick_entry c.args.percent) (pick_outcome picked c.pick-answer.result)
    × IfOk c.pick-answer.result (λ pass. IsPicked bytes pass (layout_by (lock_start k).origin.me.0 after.me.0.seen) picked))
    (λ told.
    let w = (st.behind told).whole in (
      (pick_ruling l h c.args.percent).answer,
      stepped_after _ (lock_name at) (lock_start at) o tells c.take-turn.result.value before after v
          (entry_of s (pick_did (pick_ruling l h c.args.percent).layout c.pick-answer.result)) is
          c.take-turn.ensures.begins c.finish.ensures.entered (λ l h. pick_ruling l h c.args.percent)
          (pick_entry c.args.percent) outcome _ (as_before l l) no_effects
          (pick_same s l (pick_ruling l h c.args.percent).layout (pick_ruling l h c.args.percent).answer
          c.pick-answer.result (picked_of bytes (pick_ruling l h c.args.percent).layout
          (pick_ruling l h c.args.percent).answer c.pick-answer.result
          (c.pick-answer.ensures.pass h l w.represents.stands w.collects)))
          (c.pick-answer.ensures.represents h l w.represents w.collects)
          ((finish-requires-clause-stands g c.before).behind told).legal
          (st.behind told) (λ surely. pick_answers (pick_ruling l h c.args.percent).answer c.pick-answer.result),
      picked_at bytes (pick_ruling l h c.args.percent).layout (pick_ruling l h c.args.percent).answer o s v.seen
          after.me.0.seen c.pick-answer.result
          (seen_after _ (lock_name at) (lock_start at) o tells c.take-turn.result.value before after v
          (entry_of s (pick_did (pick_ruling l h c.args.percent).layout c.pick-answer.result)) is
          c.take-turn.ensures.begins c.finish.ensures.entered) (c.pick-answer.ensures.pass h l w.represents.stands w.collects),
    )))

pub returns-clause-own : goal.returns-clause-own
returns-clause-own g c told =
    let at = c.deref-lock.result.now in
    let o = (lock_start at).origin.me.0 in
    let tells = is_some (g.D.Watched.told (lock_start at).engine.disk) in
    let bytes = g.D.Held.HeldFile.bytes in
    let sure = NeverFails g.D.Watched.faults g.D.Reader.Reader.faults g.D.Writer.Writer.faults in
    let v = c.take-turn.result.token.now.me.0 in
    let l = layout_by o v.seen in
    let h = history_by o v.seen in
    let s = session_in v.owns in
    let old = c.value-locked.result.now.engine in
    let new = c.pick-answer.new.self in
    let before = c.self.inside.token in
    let after = c.finish.new.turn.1.0 in
    let st = subst (λ (k : _). Stands bytes sure o tells v.seen (parts (g.D.Watched.told k.engine.disk) k.engine.core
    k.engine.merging k.engine.collecting k.engine.removing))
    (sym c.value-locked.ensures.value) c.take-turn.ensures.begins.meaning.1 in
    let is = over (sym c.deref-lock.ensures) (λ (k : _). IsSession (lock_name k) (lock_start k) before) c.self.invariant in
    let told_then = over (sym c.deref-lock.ensures) (λ (k : _). is_some (g.D.Watched.told (lock_start k).engine.disk) ≡ true)
    (subst (λ (u : Knows). u.tells ≡ true) (sym c.self.view_is) told) in
    let w = (st.behind told_then).whole in
    subst (λ n. IfOk c.pick-answer.result (λ pass. open_pass None (own_in after.me.0.owns) ≡ Some (n, pass.log.number)))
    (sym (number_now _ (lock_name at) (lock_start at) o tells c.take-turn.result.value before after v
    (entry_of s (pick_did (pick_ruling l h c.args.percent).layout c.pick-answer.result)) is c.take-turn.ensures.begins
    c.finish.ensures.entered))
    (pass_own s (pick_ruling l h c.args.percent).layout (own_in before.me.0.owns) (own_in after.me.0.owns) c.pick-answer.result
    (own_is _ (lock_name at) (lock_start at) o tells c.take-turn.result.value before after v
    (entry_of s (pick_did (pick_ruling l h c.args.percent).layout c.pick-answer.result)) is c.take-turn.ensures.begins
    c.finish.ensures.entered)
    (picked_segment new.core old.collecting new.collecting h l (pick_ruling l h c.args.percent) c.pick-answer.result
    (c.pick-answer.ensures.collects h l w.represents.stands w.collects) c.pick-answer.ensures.passing))

pub returns-clause-looks : goal.returns-clause-looks
returns-clause-looks g c told =
    let at = c.deref-lock.result.now in
    let o = (lock_start at).origin.me.0 in
    let tells = is_some (g.D.Watched.told (lock_start at).engine.disk) in
    let bytes = g.D.Held.HeldFile.bytes in
    let sure = NeverFails g.D.Watched.faults g.D.Reader.Reader.faults g.D.Writer.Writer.faults in
    let v = c.take-turn.result.token.now.me.0 in
    let l = layout_by o v.seen in
    let h = history_by o v.seen in
    let st = subst (λ (k : _). Stands bytes sure o tells v.seen (parts (g.D.Watched.told k.engine.disk) k.engine.core
    k.engine.merging k.engine.collecting k.engine.removing))
    (sym c.value-locked.ensures.value) c.take-turn.ensures.begins.meaning.1 in
    let told_then = over (sym c.deref-lock.ensures) (λ (k : _). is_some (g.D.Watched.told (lock_start k).engine.disk) ≡ true)
    (subst (λ (u : Knows). u.tells ≡ true) (sym c.self.view_is) told) in
    let w = (st.behind told_then).whole in
    c.pick-answer.ensures.looks h l w.represents.stands

pub returns-clause-merge : goal.returns-clause-merge
returns-clause-merge g c =
    let at = c.deref-lock.result.now in
    let o = (lock_start at).origin.me.0 in
    let tells = is_some (g.D.Watched.told (lock_start at).engine.disk) in
    let bytes = g.D.Held.HeldFile.bytes in
    let sure = NeverFails g.D.Watched.faults g.D.Reader.Reader.faults g.D.Writer.Writer.faults in
    let v = c.take-turn.result.token.now.me.0 in
    let l = layout_by o v.seen in
    let h = history_by o v.seen in
    let s = session_in v.owns in
    let st = subst (λ (k : _). Stands bytes sure o tells v.seen
    (parts (g.D.Watched.told k.engine.disk) k.engine.core k.engine.merging k.engine.collecting k.engine.removing))
    (sym c.value-locked.ensures.value) c.take-turn.ensures.begins.meaning.1 in
    let next = (pick_ruling l h c.args.percent).layout in
    let done : Done = pick_did next c.pick-answer.result in
    let before = c.self.inside.token in
    let after = c.finish.new.turn.1.0 in
    let is = over (sym c.deref-lock.ensures) (λ (k : _). IsSession (lock_name k) (lock_start k) before) c.self.invariant in
    rw (sym c.self.view_is) (over c.deref-lock.ensures (λ (k : _). KeepsOwnMerge
    (knowing (lock_name k) (lock_start k).origin.me.0 (is_some (g.D.Watched.told (lock_start k).engine.disk)) before)
    (knowing (lock_name k) (lock_start k).origin.me.0 (is_some (g.D.Watched.told (lock_start k).engine.disk)) after))
    (merge_kept _ (lock_name at) (lock_start at) c.take-turn.result.value before v is c.take-turn.ensures.begins o tells
    st.merges.keep after
    (entry_of s done) (own_is _ (lock_name at) (lock_start at) o tells c.take-turn.result.value before after v (entry_of s done)
    is c.take-turn.ensures.begins
    c.finish.ensures.entered)
    (number_now _ (lock_name at) (lock_start at) o tells c.take-turn.result.value before after v (entry_of s done) is
    c.take-turn.ensures.begins
    c.finish.ensures.entered)
    (leaves_merge l s done (pick_leaves l next c.pick-answer.result
    (ap (option_map (λ (j : OpenJob). j.lent)) (pick_job l h c.args.percent))))))
