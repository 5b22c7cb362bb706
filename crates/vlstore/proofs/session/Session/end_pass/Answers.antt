use Rattle.std.proofs.Common.{◌≡◌, refl, sym, ap, ◌∙◌, subst, []}
use Rattle.std.specs.Prelude.{is_some, true, None, Some}
use Rattle.vlstore.specs.Entries.{Done, end_pass_entry}
use Rattle.vlstore.specs.Knowing.{GoesOn, IsSession, Stepped, session_in, KeepsOwnMerge}
use Rattle.vlstore.specs.Lists.{history_by, layout_by}
use Rattle.vlstore.specs.Standing.{NeverFails, Stands, parts}
use Rattle.vlstore.proofs.Calls.{leaves_merge, stands_on}
use Rattle.vlstore.proofs.Lending.{merges_left}
use Rattle.vlstore.proofs.Faults.{always_answers}
use Rattle.vlstore.proofs.Sessions.{knowing, may_enter, on_after, over, session_after, stepped_after, number_now, own_is}
use Rattle.vl_turn.specs.Locks.{lock_name, lock_start}
use Rattle.vl_engine_model.specs.Decides.{Answered, Outcome, as_before, no_effects}
use Rattle.vl_engine_model.specs.LockHistory.{open_pass}
use Rattle.vl_engine_model.specs.Relocation.{Pass}
use Rattle.vl_engine_model.specs.Ruling.{leaving}
use Rattle.vl_engine_model.specs.Rulings.EndPass.{without_pass}
use Rattle.vl_engine_model.specs.declared.lock_history.LockStep.TheVariants.{PassEnded}
use Rattle.vlstore.specs.Knowing.{Knows}
use Rattle.vlstore.proofs.Tickets.{pass_open, merge_kept}
use Rattle.vlstore.proofs.Wholes.{always_by}
use Rattle.vlstore.proofs.Works.{end_pass_lead}
use Rattle.vlstore.proofs.session.Session.end_pass.Goals as goal

pub finish-requires-clause-entry : goal.finish-requires-clause-entry
finish-requires-clause-entry g c =
    let at = c.deref-lock.result.now in
    let o = (lock_start at).origin.me.0 in
    let v = c.take-turn.result.token.now.me.0 in
    let l = layout_by o v.seen in
    let done : Done = Some (PassEnded, (without_pass l)) in
    may_enter v c.self.invariant.session c.self.invariant.own (done) true
    (ap (λ u. u.owns) c.take-turn.ensures.begins.is ∙ c.self.invariant.owns) (refl)

pub finish-requires-clause-stands : goal.finish-requires-clause-stands
finish-requires-clause-stands g c =
    let at = c.deref-lock.result.now in
    let o = (lock_start at).origin.me.0 in
    let tells = is_some (g.D.Watched.told (lock_start at).engine.disk) in
    let bytes = g.D.Held.HeldFile.bytes in
    let sure = NeverFails g.D.Watched.faults g.D.Reader.Reader.faults g.D.Writer.Writer.faults in
    let v = c.take-turn.result.token.now.me.0 in
    let l = layout_by o v.seen in
    let h = history_by o v.seen in
    let s = session_in v.owns in
    let old = c.value-locked.result.now.engine in
    let new = c.end_pass.new.self in
    let x = parts (g.D.Watched.told old.disk) old.core old.merging old.collecting old.removing in
    let y = parts (g.D.Watched.told new.disk) new.core new.merging new.collecting new.removing in
    let st = subst (λ (k : _). Stands bytes sure o tells v.seen (parts (g.D.Watched.told k.engine.disk) k.engine.core
    k.engine.merging k.engine.collecting k.engine.removing))
    (sym c.value-locked.ensures.value) c.take-turn.ensures.begins.meaning.1 in
    let outcome : Outcome (Unit {0}) = Answered tt in
    let done : Done = Some (PassEnded, (without_pass l)) in
    stands_on bytes sure o tells v.seen x y ((end_pass_entry) s l h) outcome (leaving tt h (without_pass l))
    (as_before l (without_pass l)) no_effects st
    (merges_left o v.seen old.merging new.merging st.merges c.end_pass.ensures.merging ((end_pass_entry) s l h outcome)
    (leaves_merge l s done ((tt, refl))))
    (λ told is. let told_now = subst (λ (u : Knows). u.tells ≡ true) c.self.view_is
    (over c.deref-lock.ensures (λ (k : _). is_some (g.D.Watched.told (lock_start k).engine.disk) ≡ true) told) in
    let own = subst (λ (u : Knows). open_pass None u.own ≡ Some (u.session, c.args.pass.log.number))
    (sym c.self.view_is) (c.requires (lock_start at).engine.disk told told_now) in
    let sess = over (sym c.deref-lock.ensures) (λ (k : _). IsSession (lock_name k) (lock_start k) c.self.inside.token)
    c.self.invariant in
    end_pass_lead bytes o v.seen x is s (pass_open _ (lock_name at) (lock_start at) c.take-turn.result.value
    c.self.inside.token v sess c.take-turn.ensures.begins o is.legal c.args.pass.log.number own))
    (λ surely. always_answers)
    (λ told is. let w = is.whole in always_by bytes y h l (without_pass l) (record {
      represents = c.end_pass.ensures.represents h l (record { segment = 0; base = []; left = [] }) w.represents;
      opens = (c.end_pass.ensures.stands h l (record { segment = 0; base = []; left = [] })
          (record { stands = w.represents.stands; opens = w.opens })).opens;
      fits = c.end_pass.ensures.fits h l (record { segment = 0; base = []; left = [] }) w.fits;
      collects = c.end_pass.ensures.collects h l (record { segment = 0; base = []; left = [] }) w.collects;
      removes = c.end_pass.ensures.removes h l (record { segment = 0; base = []; left = [] }) w.removes;
    }))

pub invariant_of-self : goal.invariant_of-self
invariant_of-self g c =
    let at = c.deref-lock.result.now in
    let o = (lock_start at).origin.me.0 in
    let v = c.take-turn.result.token.now.me.0 in
    let s = session_in v.owns in
    let l = layout_by o v.seen in
    let h = history_by o v.seen in
    let outcome : Outcome (Unit {0}) = Answered tt in
    let before = c.self.inside.token in
    let is = over (sym c.deref-lock.ensures) (λ (k : _). IsSession (lock_name k) (lock_start k) before) c.self.invariant in
    over c.deref-lock.ensures (λ (k : _). IsSession (lock_name k) (lock_start k) c.finish.new.turn.1.0)
    (session_after _ (lock_name at) (lock_start at) (lock_start at).origin.me.0
    (is_some (g.D.Watched.told (lock_start at).engine.disk)) c.take-turn.result.value before c.finish.new.turn.1.0
    c.take-turn.result.token.now.me.0 ((end_pass_entry) s l h outcome) is c.take-turn.ensures.begins
    c.finish.ensures.entered c.finish.ensures.token)

pub returns-clause-on : goal.returns-clause-on
returns-clause-on g c =
    let at = c.deref-lock.result.now in
    let o = (lock_start at).origin.me.0 in
    let v = c.take-turn.result.token.now.me.0 in
    let s = session_in v.owns in
    let l = layout_by o v.seen in
    let h = history_by o v.seen in
    let outcome : Outcome (Unit {0}) = Answered tt in
    let before = c.self.inside.token in
    let after = c.finish.new.turn.1.0 in
    let is = over (sym c.deref-lock.ensures) (λ (k : _). IsSession (lock_name k) (lock_start k) before) c.self.invariant in
    rw (sym c.self.view_is) (over c.deref-lock.ensures (λ (k : _). GoesOn
    (knowing (lock_name k) (lock_start k).origin.me.0 (is_some (g.D.Watched.told (lock_start k).engine.disk)) before)
    (knowing (lock_name k) (lock_start k).origin.me.0 (is_some (g.D.Watched.told (lock_start k).engine.disk)) after))
    (on_after _ (lock_name at) (lock_start at) (lock_start at).origin.me.0
    (is_some (g.D.Watched.told (lock_start at).engine.disk)) c.take-turn.result.value before after
    c.take-turn.result.token.now.me.0 ((end_pass_entry) s l h outcome) is c.take-turn.ensures.begins c.finish.ensures.entered))

pub returns-clause-steps : goal.returns-clause-steps
returns-clause-steps g c =
    let at = c.deref-lock.result.now in
    let o = (lock_start at).origin.me.0 in
    let tells = is_some (g.D.Watched.told (lock_start at).engine.disk) in
    let bytes = g.D.Held.HeldFile.bytes in
    let sure = NeverFails g.D.Watched.faults g.D.Reader.Reader.faults g.D.Writer.Writer.faults in
    let v = c.take-turn.result.token.now.me.0 in
    let l = layout_by o v.seen in
    let h = history_by o v.seen in
    let s = session_in v.owns in
    let new = c.end_pass.new.self in
    let y = parts (g.D.Watched.told new.disk) new.core new.merging new.collecting new.removing in
    let st = subst (λ (k : _). Stands bytes sure o tells v.seen (parts (g.D.Watched.told k.engine.disk) k.engine.core
    k.engine.merging k.engine.collecting k.engine.removing))
    (sym c.value-locked.ensures.value) c.take-turn.ensures.begins.meaning.1 in
    let outcome : Outcome (Unit {0}) = Answered tt in
    let before = c.self.inside.token in
    let after = c.finish.new.turn.1.0 in
    let is = over (sym c.deref-lock.ensures) (λ (k : _). IsSession (lock_name k) (lock_start k) before) c.self.invariant in
    rw (sym c.self.view_is) (over c.deref-lock.ensures
    (λ (k : _). is_some (g.D.Watched.told (lock_start k).engine.disk) ≡ true → (p : Pass) → Stepped sure
    (knowing (lock_name k) (lock_start k).origin.me.0 (is_some (g.D.Watched.told (lock_start k).engine.disk)) before)
    (knowing (lock_name k) (lock_start k).origin.me.0 (is_some (g.D.Watched.told (lock_start k).engine.disk)) after)
    (λ l h. leaving tt h (without_pass l)) end_pass_entry outcome)
    (λ told p.
    let w = (st.behind told).whole in
    stepped_after _ (lock_name at) (lock_start at) o tells c.take-turn.result.value before after v
    ((end_pass_entry) s l h outcome) is c.take-turn.ensures.begins
    c.finish.ensures.entered (λ l h. leaving tt h (without_pass l)) end_pass_entry outcome _
    (as_before l (without_pass l)) no_effects refl
    (always_by bytes y h l (without_pass l) (record {
      represents = c.end_pass.ensures.represents h l (record { segment = 0; base = []; left = [] }) w.represents;
      opens = (c.end_pass.ensures.stands h l (record { segment = 0; base = []; left = [] })
          (record { stands = w.represents.stands; opens = w.opens })).opens;
      fits = c.end_pass.ensures.fits h l (record { segment = 0; base = []; left = [] }) w.fits;
      collects = c.end_pass.ensures.collects h l (record { segment = 0; base = []; left = [] }) w.collects;
      removes = c.end_pass.ensures.removes h l (record { segment = 0; base = []; left = [] }) w.removes;
    }))
    ((finish-requires-clause-stands g c.before).behind told).legal
    (st.behind told) (λ surely. always_answers)))

pub returns-clause-merge : goal.returns-clause-merge
returns-clause-merge g c =
    let at = c.deref-lock.result.now in
    let o = (lock_start at).origin.me.0 in
    let tells = is_some (g.D.Watched.told (lock_start at).engine.disk) in
    let bytes = g.D.Held.HeldFile.bytes in
    let sure = NeverFails g.D.Watched.faults g.D.Reader.Reader.faults g.D.Writer.Writer.faults in
    let v = c.take-turn.result.token.now.me.0 in
    let l = layout_by o v.seen in
    let h = history_by o v.seen in
    let s = session_in v.owns in
    let st = subst (λ (k : _). Stands bytes sure o tells v.seen
    (parts (g.D.Watched.told k.engine.disk) k.engine.core k.engine.merging k.engine.collecting k.engine.removing))
    (sym c.value-locked.ensures.value) c.take-turn.ensures.begins.meaning.1 in
    let outcome : Outcome (Unit {0}) = Answered tt in
    let done : Done = Some (PassEnded, without_pass l) in
    let before = c.self.inside.token in
    let after = c.finish.new.turn.1.0 in
    let is = over (sym c.deref-lock.ensures) (λ (k : _). IsSession (lock_name k) (lock_start k) before) c.self.invariant in
    rw (sym c.self.view_is) (over c.deref-lock.ensures (λ (k : _). KeepsOwnMerge
    (knowing (lock_name k) (lock_start k).origin.me.0 (is_some (g.D.Watched.told (lock_start k).engine.disk)) before)
    (knowing (lock_name k) (lock_start k).origin.me.0 (is_some (g.D.Watched.told (lock_start k).engine.disk)) after))
    (merge_kept _ (lock_name at) (lock_start at) c.take-turn.result.value before v is c.take-turn.ensures.begins o tells
    st.merges.keep after
    (end_pass_entry s l h outcome) (own_is _ (lock_name at) (lock_start at) o tells c.take-turn.result.value before after v
    (end_pass_entry s l h outcome) is c.take-turn.ensures.begins
    c.finish.ensures.entered)
    (number_now _ (lock_name at) (lock_start at) o tells c.take-turn.result.value before after v (end_pass_entry s l h outcome) is
    c.take-turn.ensures.begins
    c.finish.ensures.entered)
    (leaves_merge l s done (tt, refl))))
