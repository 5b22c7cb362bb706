use Rattle.std.proofs.Common.{◌≡◌, refl, sym, ap, ◌∙◌, subst}
use Rattle.std.specs.Prelude.{is_some, true, IfOk}
use Rattle.vlstore.specs.Entries.{Done}
use Rattle.vlstore.specs.Knowing.{GoesOn, IsSession, Knows, Stepped, session_in}
use Rattle.vlstore.specs.Lists.{history_by, layout_by}
use Rattle.vlstore.specs.Standing.{NeverFails, Stands, parts}
use Rattle.vlstore.proofs.Faults.{fresh_fails, unfailing}
use Rattle.vlstore.proofs.Sessions.{knowing, may_enter, number_now, on_after, over, own_is, session_after, stepped_after}
use Rattle.vl_turn.specs.Locks.{lock_name, lock_start}
use Rattle.vl_engine_laws.specs.Lent.{StandsOpen}
use Rattle.vl_steps.specs.Merging.{fresh_effects, fresh_outcome}
use Rattle.vl_engine_model.specs.Decides.{as_before}
use Rattle.vl_engine_model.specs.LockHistory.{IsOwn}
use Rattle.vl_engine_model.specs.Rulings.Fresh.{fresh_ruling}
use Rattle.vl_engine_model.specs.declared.lock_history.LockStep.TheVariants.{Changed}
use Rattle.vlstore.specs.Entries.{done_by, fresh_done, fresh_entry}
use Rattle.vlstore.specs.Handing.{IsLentTo, IsUnderWayIn}
use Rattle.vlstore.proofs.Calls.{stands_on}
use Rattle.vlstore.proofs.Collecting.{collects_past, fresh_leaves, same_logs, told_some}
use Rattle.vlstore.proofs.Drawing.{fresh_merges}
use Rattle.vlstore.proofs.Tickets.{merge_open, number_found}
use Rattle.vlstore.proofs.Wholes.{whole_with}
use Rattle.vlstore.proofs.Working.{empty_told, fresh_lent_to, fresh_under_way, lent_of}
use Rattle.vlstore.proofs.Works.{fresh_leads}
use Rattle.vlstore.proofs.session.Session.fresh.Goals as goal

pub fresh-answer-requires : goal.fresh-answer-requires
fresh-answer-requires g c =
    let at = c.deref-lock.result.now in
    let o = (lock_start at).origin.me.0 in
    let tells = is_some (g.D.Watched.told (lock_start at).engine.disk) in
    let bytes = g.D.Held.HeldFile.bytes in
    let sure = NeverFails g.D.Watched.faults g.D.Reader.Reader.faults g.D.Writer.Writer.faults in
    let v = c.take-turn.result.token.now.me.0 in
    let st = subst (λ (k : _). Stands bytes sure o tells v.seen
    (parts (g.D.Watched.told k.engine.disk) k.engine.core k.engine.merging k.engine.collecting k.engine.removing))
    (sym c.value-locked.ensures.value) c.take-turn.ensures.begins.meaning.1 in
    let before = c.self.inside.token in
    let is = over (sym c.deref-lock.ensures) (λ (k : _). IsSession (lock_name k) (lock_start k) before) c.self.invariant in
    let given = over (sym c.deref-lock.ensures) (λ (k : _). IsUnderWayIn
    (knowing (lock_name k) (lock_start k).origin.me.0 (is_some (g.D.Watched.told (lock_start k).engine.disk))
    before) g.D.Writer.Writer bytes c.args.job.now)
    (subst (λ (u : Knows). IsUnderWayIn u g.D.Writer.Writer bytes c.args.job.now) (sym c.self.view_is) c.requires) in
    let found = merge_open _ (lock_name at) (lock_start at) c.take-turn.result.value before v is
    c.take-turn.ensures.begins o st.merges.keep
    given.planned given.own in
    st.merges.open_is ∙ ap is_some found.0

pub finish-requires-clause-entry : goal.finish-requires-clause-entry
finish-requires-clause-entry g c =
    let at = c.deref-lock.result.now in
    let o = (lock_start at).origin.me.0 in
    let v = c.take-turn.result.token.now.me.0 in
    let l = layout_by o v.seen in
    let outcome = fresh_outcome c.fresh-answer.result in
    let done : Done = done_by (fresh_done l) (Changed, l) outcome in
    may_enter v c.self.invariant.session c.self.invariant.own done c.has_drawn-enters.result
    (ap (λ u. u.owns) c.take-turn.ensures.begins.is ∙ c.self.invariant.owns) (c.has_drawn-enters.ensures l (Changed, l))

pub finish-requires-clause-stands : goal.finish-requires-clause-stands
finish-requires-clause-stands g c =
    let at = c.deref-lock.result.now in
    let o = (lock_start at).origin.me.0 in
    let tells = is_some (g.D.Watched.told (lock_start at).engine.disk) in
    let bytes = g.D.Held.HeldFile.bytes in
    let sure = NeverFails g.D.Watched.faults g.D.Reader.Reader.faults g.D.Writer.Writer.faults in
    let v = c.take-turn.result.token.now.me.0 in
    let l = layout_by o v.seen in
    let h = history_by o v.seen in
    let s = session_in v.owns in
    let old = c.value-locked.result.now.engine in
    let new = c.fresh-answer.new.self in
    let x = parts (g.D.Watched.told old.disk) old.core old.merging old.collecting old.removing in
    let y = parts (g.D.Watched.told new.disk) new.core new.merging new.collecting new.removing in
    let st = subst (λ (k : _). Stands bytes sure o tells v.seen
    (parts (g.D.Watched.told k.engine.disk) k.engine.core k.engine.merging k.engine.collecting k.engine.removing))
    (sym c.value-locked.ensures.value) c.take-turn.ensures.begins.meaning.1 in
    let outcome = fresh_outcome c.fresh-answer.result in
    let before = c.self.inside.token in
    let is = over (sym c.deref-lock.ensures) (λ (k : _). IsSession (lock_name k) (lock_start k) before) c.self.invariant in
    let given = over (sym c.deref-lock.ensures) (λ (k : _). IsUnderWayIn
    (knowing (lock_name k) (lock_start k).origin.me.0 (is_some (g.D.Watched.told (lock_start k).engine.disk))
    before) g.D.Writer.Writer bytes c.args.job.now)
    (subst (λ (u : Knows). IsUnderWayIn u g.D.Writer.Writer bytes c.args.job.now) (sym c.self.view_is) c.requires) in
    let found = merge_open _ (lock_name at) (lock_start at) c.take-turn.result.value before v is
    c.take-turn.ensures.begins o st.merges.keep
    given.planned given.own in
    let own = subst (IsOwn s) (sym found.0) refl in
    stands_on bytes sure o tells v.seen x y (fresh_entry s l h) outcome (fresh_ruling l h) (as_before l l)
    (fresh_effects c.fresh-answer.result) st
    (fresh_merges o v.seen old.merging new.merging st.merges s own h c.fresh-answer.result
    c.fresh-answer.ensures.merging c.fresh-answer.ensures.refused)
    (λ told is. fresh_leads bytes o v.seen x is s)
    (unfailing g.D.Watched.faults g.D.Reader.Reader.faults g.D.Writer.Writer.faults old.disk new.disk outcome c.fresh-answer.ensures.cause
    (fresh_fails c.fresh-answer.result))
    (λ told is. let w = is.whole in let opens : StandsOpen bytes old.core old.merging h l = record
    { stands = w.represents.stands; opens = w.opens } in
    whole_with bytes y h l (fresh_ruling l h) (as_before l l) outcome (fresh_effects c.fresh-answer.result)
    (c.fresh-answer.ensures.carries h l w.represents).decides
    (c.fresh-answer.ensures.stands h l opens (λ running. (w.fits.running running).numbers))
    (c.fresh-answer.ensures.fits h l w.represents.stands.fronts w.fits)
    (collects_past old.core new.core old.collecting new.collecting c.fresh-answer.ensures.logs
    c.fresh-answer.ensures.collecting _ h l l (fresh_ruling l h) outcome
    (fresh_effects c.fresh-answer.result) (c.fresh-answer.ensures.carries h l w.represents).decides (fresh_leaves l h).0
    (fresh_leaves l h).1 (same_logs l) refl w.collects)
    (c.fresh-answer.ensures.removes h l opens (λ running. (w.fits.running running).numbers) w.removes))

pub invariant_of-self : goal.invariant_of-self
invariant_of-self g c =
    let at = c.deref-lock.result.now in
    let o = (lock_start at).origin.me.0 in
    let tells = is_some (g.D.Watched.told (lock_start at).engine.disk) in
    let v = c.take-turn.result.token.now.me.0 in
    let l = layout_by o v.seen in
    let h = history_by o v.seen in
    let s = session_in v.owns in
    let outcome = fresh_outcome c.fresh-answer.result in
    let before = c.self.inside.token in
    let after = c.finish.new.turn.1.0 in
    let is = over (sym c.deref-lock.ensures) (λ (k : _). IsSession (lock_name k) (lock_start k) before) c.self.invariant in
    over c.deref-lock.ensures (λ (k : _). IsSession (lock_name k) (lock_start k) after)
    (session_after _ (lock_name at) (lock_start at) o tells c.take-turn.result.value before after v
    (fresh_entry s l h outcome) is c.take-turn.ensures.begins
    c.finish.ensures.entered c.finish.ensures.token)

pub returns-clause-on : goal.returns-clause-on
returns-clause-on g c =
    let at = c.deref-lock.result.now in
    let o = (lock_start at).origin.me.0 in
    let tells = is_some (g.D.Watched.told (lock_start at).engine.disk) in
    let v = c.take-turn.result.token.now.me.0 in
    let l = layout_by o v.seen in
    let h = history_by o v.seen in
    let s = session_in v.owns in
    let outcome = fresh_outcome c.fresh-answer.result in
    let before = c.self.inside.token in
    let after = c.finish.new.turn.1.0 in
    let is = over (sym c.deref-lock.ensures) (λ (k : _). IsSession (lock_name k) (lock_start k) before) c.self.invariant in
    rw (sym c.self.view_is) (over c.deref-lock.ensures (λ (k : _). GoesOn
    (knowing (lock_name k) (lock_start k).origin.me.0 (is_some (g.D.Watched.told (lock_start k).engine.disk)) before)
    (knowing (lock_name k) (lock_start k).origin.me.0 (is_some (g.D.Watched.told (lock_start k).engine.disk)) after))
    (on_after _ (lock_name at) (lock_start at) o tells c.take-turn.result.value before after v
    (fresh_entry s l h outcome) is c.take-turn.ensures.begins
    c.finish.ensures.entered))

pub returns-clause-steps : goal.returns-clause-steps
returns-clause-steps g c =
    let at = c.deref-lock.result.now in
    let o = (lock_start at).origin.me.0 in
    let tells = is_some (g.D.Watched.told (lock_start at).engine.disk) in
    let bytes = g.D.Held.HeldFile.bytes in
    let sure = NeverFails g.D.Watched.faults g.D.Reader.Reader.faults g.D.Writer.Writer.faults in
    let v = c.take-turn.result.token.now.me.0 in
    let l = layout_by o v.seen in
    let h = history_by o v.seen in
    let s = session_in v.owns in
    let old = c.value-locked.result.now.engine in
    let new = c.fresh-answer.new.self in
    let st = subst (λ (k : _). Stands bytes sure o tells v.seen
    (parts (g.D.Watched.told k.engine.disk) k.engine.core k.engine.merging k.engine.collecting k.engine.removing))
    (sym c.value-locked.ensures.value) c.take-turn.ensures.begins.meaning.1 in
    let outcome = fresh_outcome c.fresh-answer.result in
    let before = c.self.inside.token in
    let after = c.finish.new.turn.1.0 in
    let is = over (sym c.deref-lock.ensures) (λ (k : _). IsSession (lock_name k) (lock_start k) before) c.self.invariant in
    rw (sym c.self.view_is) (over c.deref-lock.ensures
    (λ (k : _). is_some (g.D.Watched.told (lock_start k).engine.disk) ≡ true → Stepped sure
    (knowing (lock_name k) (lock_start k).origin.me.0 (is_some (g.D.Watched.told (lock_start k).engine.disk)) before)
    (knowing (lock_name k) (lock_start k).origin.me.0 (is_some (g.D.Watched.told (lock_start k).engine.disk)) after)
    fresh_ruling fresh_entry outcome)
    (λ told.
    let w = (st.behind told).whole in
    stepped_after _ (lock_name at) (lock_start at) o tells c.take-turn.result.value before after v
    (fresh_entry s l h outcome) is c.take-turn.ensures.begins
    c.finish.ensures.entered fresh_ruling fresh_entry outcome _ (as_before l l) (fresh_effects c.fresh-answer.result) refl
    (c.fresh-answer.ensures.carries h l w.represents).decides
    ((finish-requires-clause-stands g c.before).behind told).legal
    (st.behind told) (unfailing g.D.Watched.faults g.D.Reader.Reader.faults g.D.Writer.Writer.faults old.disk new.disk outcome c.fresh-answer.ensures.cause
    (fresh_fails c.fresh-answer.result))))

pub returns-clause-under_way : goal.returns-clause-under_way
returns-clause-under_way g c =
    let at = c.deref-lock.result.now in
    let o = (lock_start at).origin.me.0 in
    let tells = is_some (g.D.Watched.told (lock_start at).engine.disk) in
    let bytes = g.D.Held.HeldFile.bytes in
    let sure = NeverFails g.D.Watched.faults g.D.Reader.Reader.faults g.D.Writer.Writer.faults in
    let v = c.take-turn.result.token.now.me.0 in
    let l = layout_by o v.seen in
    let h = history_by o v.seen in
    let s = session_in v.owns in
    let st = subst (λ (k : _). Stands bytes sure o tells v.seen
    (parts (g.D.Watched.told k.engine.disk) k.engine.core k.engine.merging k.engine.collecting k.engine.removing))
    (sym c.value-locked.ensures.value) c.take-turn.ensures.begins.meaning.1 in
    let outcome = fresh_outcome c.fresh-answer.result in
    let before = c.self.inside.token in
    let after = c.finish.new.turn.1.0 in
    let is = over (sym c.deref-lock.ensures) (λ (k : _). IsSession (lock_name k) (lock_start k) before) c.self.invariant in
    let given = over (sym c.deref-lock.ensures) (λ (k : _). IsUnderWayIn
    (knowing (lock_name k) (lock_start k).origin.me.0 (is_some (g.D.Watched.told (lock_start k).engine.disk))
    before) g.D.Writer.Writer bytes c.args.job.now)
    (subst (λ (u : Knows). IsUnderWayIn u g.D.Writer.Writer bytes c.args.job.now) (sym c.self.view_is) c.requires) in
    let found = merge_open _ (lock_name at) (lock_start at) c.take-turn.result.value before v is
    c.take-turn.ensures.begins o st.merges.keep
    given.planned given.own in
    let lent_is = found.1 ∙ given.lent_is in
    over c.deref-lock.ensures (λ (k : _). IsUnderWayIn
    (knowing (lock_name k) (lock_start k).origin.me.0 (is_some (g.D.Watched.told (lock_start k).engine.disk)) after)
    g.D.Writer.Writer bytes c.fresh-answer.new.job)
    (fresh_under_way g.D.Writer.Writer bytes (knowing (lock_name at) o tells before)
    (knowing (lock_name at) o tells after) refl refl
    (number_now _ (lock_name at) (lock_start at) o tells c.take-turn.result.value before after v
    (fresh_entry s l h outcome) is c.take-turn.ensures.begins
    c.finish.ensures.entered ∙ number_found _ (lock_name at) (lock_start at) c.take-turn.result.value before v is
    c.take-turn.ensures.begins) s
    l h c.args.job.now c.fresh-answer.new.job c.fresh-answer.ensures.job c.fresh-answer.result
    (own_is _ (lock_name at) (lock_start at) o tells c.take-turn.result.value before after v (fresh_entry s l h outcome)
    is c.take-turn.ensures.begins
    c.finish.ensures.entered) given lent_is)

pub returns-clause-lent : goal.returns-clause-lent
returns-clause-lent g c =
    let at = c.deref-lock.result.now in
    let o = (lock_start at).origin.me.0 in
    let tells = is_some (g.D.Watched.told (lock_start at).engine.disk) in
    let bytes = g.D.Held.HeldFile.bytes in
    let sure = NeverFails g.D.Watched.faults g.D.Reader.Reader.faults g.D.Writer.Writer.faults in
    let v = c.take-turn.result.token.now.me.0 in
    let l = layout_by o v.seen in
    let h = history_by o v.seen in
    let s = session_in v.owns in
    let old = c.value-locked.result.now.engine in
    let st = subst (λ (k : _). Stands bytes sure o tells v.seen
    (parts (g.D.Watched.told k.engine.disk) k.engine.core k.engine.merging k.engine.collecting k.engine.removing))
    (sym c.value-locked.ensures.value) c.take-turn.ensures.begins.meaning.1 in
    let outcome = fresh_outcome c.fresh-answer.result in
    let before = c.self.inside.token in
    let after = c.finish.new.turn.1.0 in
    let is = over (sym c.deref-lock.ensures) (λ (k : _). IsSession (lock_name k) (lock_start k) before) c.self.invariant in
    let given = over (sym c.deref-lock.ensures) (λ (k : _). IsUnderWayIn
    (knowing (lock_name k) (lock_start k).origin.me.0 (is_some (g.D.Watched.told (lock_start k).engine.disk))
    before) g.D.Writer.Writer bytes c.args.job.now)
    (subst (λ (u : Knows). IsUnderWayIn u g.D.Writer.Writer bytes c.args.job.now) (sym c.self.view_is) c.requires) in
    let found = merge_open _ (lock_name at) (lock_start at) c.take-turn.result.value before v is
    c.take-turn.ensures.begins o st.merges.keep
    given.planned given.own in
    let lent_is = found.1 ∙ given.lent_is in
    let lent = lent_of old.merging given.lent (st.merges.lent ∙ lent_is) in
    over c.deref-lock.ensures (λ (k : _). IfOk c.fresh-answer.result
    (IsLentTo (knowing (lock_name k) (lock_start k).origin.me.0 (is_some (g.D.Watched.told (lock_start k).engine.disk))
    after) g.D.Writer.Writer bytes c.fresh-answer.new.job))
    (fresh_lent_to g.D.Writer.Writer bytes (knowing (lock_name at) o tells before)
    (knowing (lock_name at) o tells after) refl refl
    (number_now _ (lock_name at) (lock_start at) o tells c.take-turn.result.value before after v
    (fresh_entry s l h outcome) is c.take-turn.ensures.begins
    c.finish.ensures.entered ∙ number_found _ (lock_name at) (lock_start at) c.take-turn.result.value before v is
    c.take-turn.ensures.begins) s
    l h c.args.job.now c.fresh-answer.new.job c.fresh-answer.ensures.job c.fresh-answer.result
    (own_is _ (lock_name at) (lock_start at) o tells c.take-turn.result.value before after v (fresh_entry s l h outcome)
    is c.take-turn.ensures.begins
    c.finish.ensures.entered) given lent_is old.merging lent c.fresh-answer.ensures.fresh)

pub returns-clause-empty : goal.returns-clause-empty
returns-clause-empty g c told =
    let at = c.deref-lock.result.now in
    let old = c.value-locked.result.now.engine in
    let told_then = over (sym c.deref-lock.ensures) (λ (k : _). is_some (g.D.Watched.told (lock_start k).engine.disk) ≡ true)
    (subst (λ (u : Knows). u.tells ≡ true) (sym c.self.view_is) told) in
    let is_told = told_some (g.D.Watched.told (lock_start at).engine.disk) (g.D.Watched.told old.disk) told_then
    (λ none. g.met.D.Disk.alike old.disk (lock_start at).engine.disk none) in
    empty_told g.D.Writer.Writer (g.D.Watched.told old.disk) is_told.0 is_told.1 c.fresh-answer.result
    c.fresh-answer.ensures.empty

pub returns-clause-cause : goal.returns-clause-cause
returns-clause-cause g c failed = record {
  before = c.value-locked.result.now.engine.disk;
  after = c.fresh-answer.new.self.disk;
  rose = c.fresh-answer.ensures.cause.rose failed;
}
