use Rattle.std.proofs.Common.{◌≡◌, refl, sym, ap, ◌∙◌, subst}
use Rattle.std.specs.Prelude.{is_some, true, IfOk, Option, None}
use Rattle.vlstore.specs.Entries.{Done, entry_of}
use Rattle.vlstore.specs.Knowing.{GoesOn, IsSession, Knows, Stepped, own_in, session_in, KeepsOwnMerge}
use Rattle.vlstore.specs.Lists.{history_by, layout_by}
use Rattle.vlstore.specs.Standing.{IsBehind, NeverFails, Stands, parts}
use Rattle.vlstore.proofs.Faults.{plan_answers}
use Rattle.vlstore.proofs.Sessions.{knowing, may_enter, number_now, on_after, over, own_is, session_after, stepped_after}
use Rattle.vl_turn.specs.Locks.{lock_name, lock_start}
use Rattle.vl_turn.specs.Entries.{with_entry}
use Rattle.std.specs.Option.{ForSome}
use Rattle.vl_compact.specs.Laid.{AreBoth}
use Rattle.vl_engine_laws.specs.declared.kept.Core.{Core}
use Rattle.vl_steps.specs.Merging.{HasMerge, plan_outcome}
use Rattle.vl_engine_laws.specs.Lent.{StandsOpen}
use Rattle.vl_engine_model.specs.Decides.{as_before, no_effects}
use Rattle.vl_engine_model.specs.Rulings.Plan.{plan_ruling}
use Rattle.vl_engine_model.specs.declared.job.Job.{Job}
use Rattle.vlstore.specs.Entries.{plan_entry}
use Rattle.vlstore.specs.Handing.{IsUnderWayIn}
use Rattle.vlstore.proofs.Collecting.{collects_past, plan_leaves, same_logs}
use Rattle.vlstore.proofs.Leading.{goes_by}
use Rattle.vlstore.proofs.Planning.{plan_did, plan_enters, plan_merges, plan_same, plan_under_way, plan_none}
use Rattle.vlstore.proofs.Wholes.{whole_with}
use Rattle.vlstore.proofs.Works.{plan_leads}
use Rattle.vlstore.proofs.Tickets.{merge_kept, merge_open}
use Rattle.vlstore.proofs.session.Session.plan.Goals as goal

pub finish-requires-clause-entry : goal.finish-requires-clause-entry
finish-requires-clause-entry g c =
    let at = c.deref-lock.result.now in
    let o = (lock_start at).origin.me.0 in
    let v = c.take-turn.result.token.now.me.0 in
    let l = layout_by o v.seen in
    let h = history_by o v.seen in
    let ruled = (plan_ruling l h).answer in
    let done : Done = plan_did l ruled c.plan-answer.result in
    may_enter v c.self.invariant.session c.self.invariant.own done c.is_planned-enters.result
    (ap (λ u. u.owns) c.take-turn.ensures.begins.is ∙ c.self.invariant.owns)
    (c.is_planned-enters.ensures ∙ plan_enters l ruled c.plan-answer.result)

pub finish-requires-clause-stands : goal.finish-requires-clause-stands
finish-requires-clause-stands g c =
    let at = c.deref-lock.result.now in
    let o = (lock_start at).origin.me.0 in
    let tells = is_some (g.D.Watched.told (lock_start at).engine.disk) in
    let bytes = g.D.Held.HeldFile.bytes in
    let sure = NeverFails g.D.Watched.faults g.D.Reader.Reader.faults g.D.Writer.Writer.faults in
    let v = c.take-turn.result.token.now.me.0 in
    let l = layout_by o v.seen in
    let h = history_by o v.seen in
    let s = session_in v.owns in
    let old = c.value-locked.result.now.engine in
    let new = c.plan-answer.new.self in
    let x = parts (g.D.Watched.told old.disk) old.core old.merging old.collecting old.removing in
    let y = parts (g.D.Watched.told new.disk) new.core new.merging new.collecting new.removing in
    let st = subst (λ (k : _). Stands bytes sure o tells v.seen
    (parts (g.D.Watched.told k.engine.disk) k.engine.core k.engine.merging k.engine.collecting k.engine.removing))
    (sym c.value-locked.ensures.value) c.take-turn.ensures.begins.meaning.1 in
    let ruled = (plan_ruling l h).answer in
    let outcome = plan_outcome ruled c.plan-answer.result in
    record {
      merges = plan_merges o v.seen old.merging new.merging st.merges s l ruled c.plan-answer.result
          c.plan-answer.ensures.merging c.plan-answer.ensures.open;
      behind = λ told.
          let is = st.behind told in
          let w = is.whole in
          let opened : StandsOpen bytes old.core old.merging h l = record { stands = w.represents.stands; opens = w.opens } in
          subst (λ e. IsBehind bytes sure o (with_entry v.seen e) y)
          (sym (plan_same (HasMerge g.D.Writer.Writer bytes) s l c.plan-answer.result ruled
          (c.plan-answer.ensures.job h l opened)))
          (goes_by bytes o v.seen (plan_ruling l h) (as_before l l) (plan_entry s l h) x y outcome no_effects is
          (plan_leads bytes o v.seen x is s)
          (λ surely. plan_answers ruled c.plan-answer.result)
          (whole_with bytes y h l (plan_ruling l h) (as_before l l) outcome no_effects
          (c.plan-answer.ensures.represents h l w.represents opened)
          (c.plan-answer.ensures.stands h l opened) (c.plan-answer.ensures.fits h l opened w.fits)
          (collects_past old.core new.core old.collecting new.collecting
          (ap (λ (k : Core _). k.version.behind.logs) c.plan-answer.ensures.core) c.plan-answer.ensures.collecting _ h l
          l
          (plan_ruling l h) outcome no_effects (c.plan-answer.ensures.represents h l w.represents opened)
          (plan_leaves l h).0 (plan_leaves l h).1 (same_logs l) refl w.collects)
          (c.plan-answer.ensures.removes h l opened w.removes)));
    }

pub invariant_of-self : goal.invariant_of-self
invariant_of-self g c =
    let at = c.deref-lock.result.now in
    let o = (lock_start at).origin.me.0 in
    let tells = is_some (g.D.Watched.told (lock_start at).engine.disk) in
    let v = c.take-turn.result.token.now.me.0 in
    let l = layout_by o v.seen in
    let h = history_by o v.seen in
    let s = session_in v.owns in
    let ruled = (plan_ruling l h).answer in
    let done : Done = plan_did l ruled c.plan-answer.result in
    let before = c.self.inside.token in
    let after = c.finish.new.turn.1.0 in
    let is = over (sym c.deref-lock.ensures) (λ (k : _). IsSession (lock_name k) (lock_start k) before) c.self.invariant in
    over c.deref-lock.ensures (λ (k : _). IsSession (lock_name k) (lock_start k) after)
    (session_after _ (lock_name at) (lock_start at) o tells c.take-turn.result.value before after v (entry_of s done) is
    c.take-turn.ensures.begins
    c.finish.ensures.entered c.finish.ensures.token)

pub returns-clause-on : goal.returns-clause-on
returns-clause-on g c =
    let at = c.deref-lock.result.now in
    let o = (lock_start at).origin.me.0 in
    let tells = is_some (g.D.Watched.told (lock_start at).engine.disk) in
    let v = c.take-turn.result.token.now.me.0 in
    let l = layout_by o v.seen in
    let h = history_by o v.seen in
    let s = session_in v.owns in
    let ruled = (plan_ruling l h).answer in
    let done : Done = plan_did l ruled c.plan-answer.result in
    let before = c.self.inside.token in
    let after = c.finish.new.turn.1.0 in
    let is = over (sym c.deref-lock.ensures) (λ (k : _). IsSession (lock_name k) (lock_start k) before) c.self.invariant in
    rw (sym c.self.view_is) (over c.deref-lock.ensures (λ (k : _). GoesOn
    (knowing (lock_name k) (lock_start k).origin.me.0 (is_some (g.D.Watched.told (lock_start k).engine.disk)) before)
    (knowing (lock_name k) (lock_start k).origin.me.0 (is_some (g.D.Watched.told (lock_start k).engine.disk)) after))
    (on_after _ (lock_name at) (lock_start at) o tells c.take-turn.result.value before after v (entry_of s done) is
    c.take-turn.ensures.begins
    c.finish.ensures.entered))

pub returns-clause-steps : goal.returns-clause-steps
returns-clause-steps g c =
    let at = c.deref-lock.result.now in
    let o = (lock_start at).origin.me.0 in
    let tells = is_some (g.D.Watched.told (lock_start at).engine.disk) in
    let bytes = g.D.Held.HeldFile.bytes in
    let sure = NeverFails g.D.Watched.faults g.D.Reader.Reader.faults g.D.Writer.Writer.faults in
    let v = c.take-turn.result.token.now.me.0 in
    let l = layout_by o v.seen in
    let h = history_by o v.seen in
    let s = session_in v.owns in
    let old = c.value-locked.result.now.engine in
    let st = subst (λ (k : _). Stands bytes sure o tells v.seen
    (parts (g.D.Watched.told k.engine.disk) k.engine.core k.engine.merging k.engine.collecting k.engine.removing))
    (sym c.value-locked.ensures.value) c.take-turn.ensures.begins.meaning.1 in
    let ruled = (plan_ruling l h).answer in
    let outcome = plan_outcome ruled c.plan-answer.result in
    let done : Done = plan_did l ruled c.plan-answer.result in
    let before = c.self.inside.token in
    let after = c.finish.new.turn.1.0 in
    let is = over (sym c.deref-lock.ensures) (λ (k : _). IsSession (lock_name k) (lock_start k) before) c.self.invariant in
    rw (sym c.self.view_is) (over c.deref-lock.ensures (λ (k : _). is_some (g.D.Watched.told (lock_start k).engine.disk) ≡ true
    → (planned : Option Job) × Stepped sure
    (knowing (lock_name k) (lock_start k).origin.me.0 (is_some (g.D.Watched.told (lock_start k).engine.disk)) before)
    (knowing (lock_name k) (lock_start k).origin.me.0 (is_some (g.D.Watched.told (lock_start k).engine.disk)) after)
    (λ l h. plan_ruling l h) plan_entry (plan_outcome planned c.plan-answer.result)
    × IfOk c.plan-answer.result (λ job. AreBoth (HasMerge g.D.Writer.Writer bytes) job planned))
    (λ told.
    let w = (st.behind told).whole in
    let opened : StandsOpen bytes old.core old.merging h l = record { stands = w.represents.stands; opens = w.opens } in (
      ruled,
      stepped_after _ (lock_name at) (lock_start at) o tells c.take-turn.result.value before after v (entry_of s done)
          is c.take-turn.ensures.begins
          c.finish.ensures.entered (λ l h. plan_ruling l h) plan_entry outcome _ (as_before l l) no_effects
          (plan_same (HasMerge g.D.Writer.Writer bytes) s l c.plan-answer.result ruled
          (c.plan-answer.ensures.job h l opened)) (c.plan-answer.ensures.represents h l w.represents opened)
          ((finish-requires-clause-stands g c.before).behind told).legal
          (st.behind told) (λ surely. plan_answers ruled c.plan-answer.result),
      c.plan-answer.ensures.job h l opened,
    )))

pub returns-clause-under_way : goal.returns-clause-under_way
returns-clause-under_way g c =
    let at = c.deref-lock.result.now in
    let o = (lock_start at).origin.me.0 in
    let tells = is_some (g.D.Watched.told (lock_start at).engine.disk) in
    let bytes = g.D.Held.HeldFile.bytes in
    let sure = NeverFails g.D.Watched.faults g.D.Reader.Reader.faults g.D.Writer.Writer.faults in
    let v = c.take-turn.result.token.now.me.0 in
    let l = layout_by o v.seen in
    let h = history_by o v.seen in
    let s = session_in v.owns in
    let old = c.value-locked.result.now.engine in
    let st = subst (λ (k : _). Stands bytes sure o tells v.seen
    (parts (g.D.Watched.told k.engine.disk) k.engine.core k.engine.merging k.engine.collecting k.engine.removing))
    (sym c.value-locked.ensures.value) c.take-turn.ensures.begins.meaning.1 in
    let ruled = (plan_ruling l h).answer in
    let done : Done = plan_did l ruled c.plan-answer.result in
    let before = c.self.inside.token in
    let after = c.finish.new.turn.1.0 in
    let is = over (sym c.deref-lock.ensures) (λ (k : _). IsSession (lock_name k) (lock_start k) before) c.self.invariant in
    over c.deref-lock.ensures (λ (k : _). IfOk c.plan-answer.result (λ job. ForSome job (IsUnderWayIn
    (knowing (lock_name k) (lock_start k).origin.me.0 (is_some (g.D.Watched.told (lock_start k).engine.disk)) after)
    g.D.Writer.Writer bytes)))
    (plan_under_way g.D.Writer.Writer bytes (knowing (lock_name at) o tells after) s (own_in before.me.0.owns) l
    (number_now _ (lock_name at) (lock_start at) o tells c.take-turn.result.value before after v (entry_of s done) is
    c.take-turn.ensures.begins
    c.finish.ensures.entered)
    ruled c.plan-answer.result (own_is _ (lock_name at) (lock_start at) o tells c.take-turn.result.value before after v
    (entry_of s done) is c.take-turn.ensures.begins
    c.finish.ensures.entered)
    c.plan-answer.ensures.new (λ told. let w = (st.behind told).whole in let opened : StandsOpen bytes old.core
    old.merging h l = record { stands = w.represents.stands; opens = w.opens } in c.plan-answer.ensures.job h l opened))

pub returns-clause-looks : goal.returns-clause-looks
returns-clause-looks g c told =
    let at = c.deref-lock.result.now in
    let o = (lock_start at).origin.me.0 in
    let tells = is_some (g.D.Watched.told (lock_start at).engine.disk) in
    let bytes = g.D.Held.HeldFile.bytes in
    let sure = NeverFails g.D.Watched.faults g.D.Reader.Reader.faults g.D.Writer.Writer.faults in
    let v = c.take-turn.result.token.now.me.0 in
    let l = layout_by o v.seen in
    let h = history_by o v.seen in
    let st = subst (λ (k : _). Stands bytes sure o tells v.seen
    (parts (g.D.Watched.told k.engine.disk) k.engine.core k.engine.merging k.engine.collecting k.engine.removing))
    (sym c.value-locked.ensures.value) c.take-turn.ensures.begins.meaning.1 in
    let told_then = over (sym c.deref-lock.ensures) (λ (k : _). is_some (g.D.Watched.told (lock_start k).engine.disk) ≡ true)
    (subst (λ (u : Knows). u.tells ≡ true) (sym c.self.view_is) told) in
    let w = (st.behind told_then).whole in
    c.plan-answer.ensures.looks h l (record { stands = w.represents.stands; opens = w.opens })

pub returns-clause-merge : goal.returns-clause-merge
returns-clause-merge g c =
    let at = c.deref-lock.result.now in
    let o = (lock_start at).origin.me.0 in
    let tells = is_some (g.D.Watched.told (lock_start at).engine.disk) in
    let bytes = g.D.Held.HeldFile.bytes in
    let sure = NeverFails g.D.Watched.faults g.D.Reader.Reader.faults g.D.Writer.Writer.faults in
    let v = c.take-turn.result.token.now.me.0 in
    let l = layout_by o v.seen in
    let h = history_by o v.seen in
    let s = session_in v.owns in
    let old = c.value-locked.result.now.engine in
    let st = subst (λ (k : _). Stands bytes sure o tells v.seen
    (parts (g.D.Watched.told k.engine.disk) k.engine.core k.engine.merging k.engine.collecting k.engine.removing))
    (sym c.value-locked.ensures.value) c.take-turn.ensures.begins.meaning.1 in
    let ruled = (plan_ruling l h).answer in
    let before = c.self.inside.token in
    let after = c.finish.new.turn.1.0 in
    let is = over (sym c.deref-lock.ensures) (λ (k : _). IsSession (lock_name k) (lock_start k) before) c.self.invariant in
    rw (sym c.self.view_is) (over c.deref-lock.ensures (λ (k : _). KeepsOwnMerge
    (knowing (lock_name k) (lock_start k).origin.me.0 (is_some (g.D.Watched.told (lock_start k).engine.disk)) before)
    (knowing (lock_name k) (lock_start k).origin.me.0 (is_some (g.D.Watched.told (lock_start k).engine.disk)) after))
    (λ job own.
    let found = merge_open _ (lock_name at) (lock_start at) c.take-turn.result.value before v is c.take-turn.ensures.begins o
    st.merges.keep job own in
    let none = plan_none l ruled c.plan-answer.result old.merging (st.merges.open_is ∙ ap is_some found.0) c.plan-answer.ensures.open in
    merge_kept _ (lock_name at) (lock_start at) c.take-turn.result.value before v is c.take-turn.ensures.begins o tells st.merges.keep after
    None (own_is _ (lock_name at) (lock_start at) o tells c.take-turn.result.value before after v
    (entry_of s (plan_did l ruled c.plan-answer.result)) is c.take-turn.ensures.begins
    c.finish.ensures.entered ∙ ap (λ d. with_entry (own_in before.me.0.owns) (entry_of s d)) none)
    (number_now _ (lock_name at) (lock_start at) o tells c.take-turn.result.value before after v
    (entry_of s (plan_did l ruled c.plan-answer.result)) is c.take-turn.ensures.begins
    c.finish.ensures.entered)
    tt job own))
