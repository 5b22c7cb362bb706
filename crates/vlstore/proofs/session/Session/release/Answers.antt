use Rattle.std.proofs.Common.{◌≡◌, refl, sym, ap, ◌∙◌, subst, []}
use Rattle.std.specs.Prelude.{is_some, true, Some}
use Rattle.vlstore.specs.Entries.{Done, end_entry}
use Rattle.vlstore.specs.Knowing.{GoesOn, IsSession, Stepped, session_in, KeepsOwnMerge}
use Rattle.vlstore.specs.Lists.{history_by, layout_by}
use Rattle.vlstore.specs.Standing.{NeverFails, Stands, parts}
use Rattle.vlstore.proofs.Calls.{leaves_merge, stands_on}
use Rattle.vlstore.proofs.Lending.{merges_left}
use Rattle.vlstore.proofs.Faults.{always_answers}
use Rattle.vlstore.proofs.Sessions.{knowing, may_enter, on_after, over, session_after, stepped_after, number_now, own_is}
use Rattle.vl_turn.specs.Locks.{lock_name, lock_start}
use Rattle.vl_engine_laws.specs.Lent.{Opens}
use Rattle.vl_reads.specs.declared.view.View.{View}
use Rattle.vl_engine_model.specs.Decides.{Answered, Outcome, as_before, no_effects}
use Rattle.vl_engine_model.specs.LockHistory.{number_of, open_tickets}
use Rattle.vl_engine_model.specs.Ruling.{ended, leaving}
use Rattle.vl_engine_model.specs.declared.lock_history.LockStep.TheVariants.{Ended}
use Rattle.vlstore.specs.Knowing.{Knows}
use Rattle.vlstore.proofs.Collecting.{collects_on}
use Rattle.vlstore.proofs.Steps.{ends_lead}
use Rattle.vlstore.proofs.Tickets.{ticket_open, merge_kept}
use Rattle.vlstore.proofs.Wholes.{always_by}
use Rattle.vl_turn.specs.Entries.{with_entry}
use Rattle.vlstore.proofs.session.Session.release.Goals as goal

pub finish-requires-clause-entry : goal.finish-requires-clause-entry
finish-requires-clause-entry g c =
    let at = c.deref-lock.result.now in
    let o = (lock_start at).origin.me.0 in
    let v = c.take-turn.result.token.now.me.0 in
    let l = layout_by o v.seen in
    may_enter v c.self.invariant.session c.self.invariant.own
    (Some (Ended c.of-asked.result.value.ticket, ended c.of-asked.result.value.ticket l)) true
    (ap (λ u. u.owns) c.take-turn.ensures.begins.is ∙ c.self.invariant.owns) (refl)

pub finish-requires-clause-stands : goal.finish-requires-clause-stands
finish-requires-clause-stands g c =
    let at = c.deref-lock.result.now in
    let o = (lock_start at).origin.me.0 in
    let tells = is_some (g.D.Watched.told (lock_start at).engine.disk) in
    let bytes = g.D.Held.HeldFile.bytes in
    let sure = NeverFails g.D.Watched.faults g.D.Reader.Reader.faults g.D.Writer.Writer.faults in
    let v = c.take-turn.result.token.now.me.0 in
    let l = layout_by o v.seen in
    let h = history_by o v.seen in
    let s = session_in v.owns in
    let old = c.value-locked.result.now.engine in
    let new = c.release.new.self in
    let x = parts (g.D.Watched.told old.disk) old.core old.merging old.collecting old.removing in
    let y = parts (g.D.Watched.told new.disk) new.core new.merging new.collecting new.removing in
    let st = subst (λ (k : _). Stands bytes sure o tells v.seen (parts (g.D.Watched.told k.engine.disk) k.engine.core
    k.engine.merging k.engine.collecting k.engine.removing))
    (sym c.value-locked.ensures.value) c.take-turn.ensures.begins.meaning.1 in
    let outcome : Outcome (Unit {0}) = Answered tt in
    let done : Done = Some (Ended c.args.view.ticket, ended c.args.view.ticket l) in
    subst (λ (t : View _ _). Stands bytes sure o tells (with_entry v.seen (end_entry t.ticket s l h outcome)) y)
    (sym c.of-asked.ensures) (stands_on bytes sure o tells v.seen x y ((end_entry c.args.view.ticket) s l h) outcome
    (leaving tt h (ended c.args.view.ticket l)) (as_before l (ended c.args.view.ticket l)) no_effects st
    (merges_left o v.seen old.merging new.merging st.merges c.release.ensures.merging
    ((end_entry c.args.view.ticket) s l h outcome)
    (leaves_merge l s done ((tt, refl))))
    (λ told is. let told_now = subst (λ (u : Knows). u.tells ≡ true) c.self.view_is
    (over c.deref-lock.ensures (λ (k : _). is_some (g.D.Watched.told (lock_start k).engine.disk) ≡ true) told) in
    let own = subst (λ (u : Knows). number_of c.args.view.ticket (open_tickets [] u.own) ≡ Some c.args.view.number)
    (sym c.self.view_is) (c.requires (lock_start at).engine.disk told told_now) in
    let sess = over (sym c.deref-lock.ensures) (λ (k : _). IsSession (lock_name k) (lock_start k) c.self.inside.token)
    c.self.invariant in
    ends_lead bytes o v.seen x is s c.args.view.ticket (ticket_open _ (lock_name at) (lock_start at)
    c.take-turn.result.value c.self.inside.token v sess c.take-turn.ensures.begins o is.legal c.args.view.ticket
    c.args.view.number own))
    (λ surely. always_answers)
    (λ told is. let w = is.whole in always_by bytes y h l (ended c.args.view.ticket l) (record {
      represents = c.release.ensures.represents h l w.represents;
      opens = subst (λ m. Opens m l.job) (sym c.release.ensures.merging) w.opens;
      fits = c.release.ensures.fits h l w.fits;
      collects = collects_on old.core new.core old.collecting new.collecting c.release.ensures.logs
          c.release.ensures.collecting l (ended c.args.view.ticket l)
          (record { sealed_is = refl; tables_are = refl; flushed_is = refl; pass_is = refl; job_is = refl }) w.collects;
      removes = c.release.ensures.removes l w.removes;
    })))

pub invariant_of-self : goal.invariant_of-self
invariant_of-self g c =
    let at = c.deref-lock.result.now in
    let o = (lock_start at).origin.me.0 in
    let v = c.take-turn.result.token.now.me.0 in
    let s = session_in v.owns in
    let l = layout_by o v.seen in
    let h = history_by o v.seen in
    let outcome : Outcome (Unit {0}) = Answered tt in
    let before = c.self.inside.token in
    let is = over (sym c.deref-lock.ensures) (λ (k : _). IsSession (lock_name k) (lock_start k) before) c.self.invariant in
    over c.deref-lock.ensures (λ (k : _). IsSession (lock_name k) (lock_start k) c.finish.new.turn.1.0)
    (session_after _ (lock_name at) (lock_start at) (lock_start at).origin.me.0
    (is_some (g.D.Watched.told (lock_start at).engine.disk)) c.take-turn.result.value before c.finish.new.turn.1.0
    c.take-turn.result.token.now.me.0 (end_entry c.of-asked.result.value.ticket s l h outcome) is
    c.take-turn.ensures.begins c.finish.ensures.entered c.finish.ensures.token)

pub returns-clause-on : goal.returns-clause-on
returns-clause-on g c =
    let at = c.deref-lock.result.now in
    let o = (lock_start at).origin.me.0 in
    let v = c.take-turn.result.token.now.me.0 in
    let s = session_in v.owns in
    let l = layout_by o v.seen in
    let h = history_by o v.seen in
    let outcome : Outcome (Unit {0}) = Answered tt in
    let before = c.self.inside.token in
    let after = c.finish.new.turn.1.0 in
    let is = over (sym c.deref-lock.ensures) (λ (k : _). IsSession (lock_name k) (lock_start k) before) c.self.invariant in
    rw (sym c.self.view_is) (over c.deref-lock.ensures (λ (k : _). GoesOn
    (knowing (lock_name k) (lock_start k).origin.me.0 (is_some (g.D.Watched.told (lock_start k).engine.disk)) before)
    (knowing (lock_name k) (lock_start k).origin.me.0 (is_some (g.D.Watched.told (lock_start k).engine.disk)) after))
    (on_after _ (lock_name at) (lock_start at) (lock_start at).origin.me.0
    (is_some (g.D.Watched.told (lock_start at).engine.disk)) c.take-turn.result.value before after
    c.take-turn.result.token.now.me.0 (end_entry c.of-asked.result.value.ticket s l h outcome) is
    c.take-turn.ensures.begins c.finish.ensures.entered))

pub returns-clause-steps : goal.returns-clause-steps
returns-clause-steps g c =
    let at = c.deref-lock.result.now in
    let o = (lock_start at).origin.me.0 in
    let tells = is_some (g.D.Watched.told (lock_start at).engine.disk) in
    let bytes = g.D.Held.HeldFile.bytes in
    let sure = NeverFails g.D.Watched.faults g.D.Reader.Reader.faults g.D.Writer.Writer.faults in
    let v = c.take-turn.result.token.now.me.0 in
    let l = layout_by o v.seen in
    let h = history_by o v.seen in
    let s = session_in v.owns in
    let old = c.value-locked.result.now.engine in
    let new = c.release.new.self in
    let y = parts (g.D.Watched.told new.disk) new.core new.merging new.collecting new.removing in
    let st = subst (λ (k : _). Stands bytes sure o tells v.seen (parts (g.D.Watched.told k.engine.disk) k.engine.core
    k.engine.merging k.engine.collecting k.engine.removing))
    (sym c.value-locked.ensures.value) c.take-turn.ensures.begins.meaning.1 in
    let outcome : Outcome (Unit {0}) = Answered tt in
    let before = c.self.inside.token in
    let after = c.finish.new.turn.1.0 in
    let is = over (sym c.deref-lock.ensures) (λ (k : _). IsSession (lock_name k) (lock_start k) before) c.self.invariant in
    rw (sym c.self.view_is) (over c.deref-lock.ensures
    (λ (k : _). is_some (g.D.Watched.told (lock_start k).engine.disk) ≡ true → Stepped sure
    (knowing (lock_name k) (lock_start k).origin.me.0 (is_some (g.D.Watched.told (lock_start k).engine.disk)) before)
    (knowing (lock_name k) (lock_start k).origin.me.0 (is_some (g.D.Watched.told (lock_start k).engine.disk)) after)
    (λ l h. leaving tt h (ended c.args.view.ticket l)) (end_entry c.args.view.ticket) outcome)
    (λ told.
    let w = (st.behind told).whole in
    stepped_after _ (lock_name at) (lock_start at) o tells c.take-turn.result.value before after v
    (end_entry c.of-asked.result.value.ticket s l h outcome) is c.take-turn.ensures.begins
    c.finish.ensures.entered (λ l h. leaving tt h (ended c.args.view.ticket l)) (end_entry c.args.view.ticket) outcome _
    (as_before l (ended c.args.view.ticket l)) no_effects (ap (λ (t : View _ _). end_entry t.ticket s l h outcome)
    c.of-asked.ensures)
    (always_by bytes y h l (ended c.args.view.ticket l) (record {
      represents = c.release.ensures.represents h l w.represents;
      opens = subst (λ m. Opens m l.job) (sym c.release.ensures.merging) w.opens;
      fits = c.release.ensures.fits h l w.fits;
      collects = collects_on old.core new.core old.collecting new.collecting c.release.ensures.logs
          c.release.ensures.collecting l (ended c.args.view.ticket l)
          (record { sealed_is = refl; tables_are = refl; flushed_is = refl; pass_is = refl; job_is = refl }) w.collects;
      removes = c.release.ensures.removes l w.removes;
    }))
    ((finish-requires-clause-stands g c.before.before).behind told).legal
    (st.behind told) (λ surely. always_answers)))

pub returns-clause-merge : goal.returns-clause-merge
returns-clause-merge g c =
    let at = c.deref-lock.result.now in
    let o = (lock_start at).origin.me.0 in
    let tells = is_some (g.D.Watched.told (lock_start at).engine.disk) in
    let bytes = g.D.Held.HeldFile.bytes in
    let sure = NeverFails g.D.Watched.faults g.D.Reader.Reader.faults g.D.Writer.Writer.faults in
    let v = c.take-turn.result.token.now.me.0 in
    let l = layout_by o v.seen in
    let h = history_by o v.seen in
    let s = session_in v.owns in
    let st = subst (λ (k : _). Stands bytes sure o tells v.seen
    (parts (g.D.Watched.told k.engine.disk) k.engine.core k.engine.merging k.engine.collecting k.engine.removing))
    (sym c.value-locked.ensures.value) c.take-turn.ensures.begins.meaning.1 in
    let outcome : Outcome (Unit {0}) = Answered tt in
    let done : Done = Some (Ended c.of-asked.result.value.ticket, ended c.of-asked.result.value.ticket l) in
    let before = c.self.inside.token in
    let after = c.finish.new.turn.1.0 in
    let is = over (sym c.deref-lock.ensures) (λ (k : _). IsSession (lock_name k) (lock_start k) before) c.self.invariant in
    rw (sym c.self.view_is) (over c.deref-lock.ensures (λ (k : _). KeepsOwnMerge
    (knowing (lock_name k) (lock_start k).origin.me.0 (is_some (g.D.Watched.told (lock_start k).engine.disk)) before)
    (knowing (lock_name k) (lock_start k).origin.me.0 (is_some (g.D.Watched.told (lock_start k).engine.disk)) after))
    (merge_kept _ (lock_name at) (lock_start at) c.take-turn.result.value before v is c.take-turn.ensures.begins o tells
    st.merges.keep after
    (end_entry c.of-asked.result.value.ticket s l h outcome)
    (own_is _ (lock_name at) (lock_start at) o tells c.take-turn.result.value before after v
    (end_entry c.of-asked.result.value.ticket s l h outcome) is c.take-turn.ensures.begins
    c.finish.ensures.entered)
    (number_now _ (lock_name at) (lock_start at) o tells c.take-turn.result.value before after v
    (end_entry c.of-asked.result.value.ticket s l h outcome) is c.take-turn.ensures.begins
    c.finish.ensures.entered)
    (leaves_merge l s done (tt, refl))))
