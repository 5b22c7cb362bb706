use Rattle.std.proofs.Common.{◌≡◌, refl, sym, ap, ◌∙◌, subst}
use Rattle.std.specs.Prelude.{is_some, true, None, Some}
use Rattle.vlstore.specs.Entries.{Done}
use Rattle.vlstore.specs.Knowing.{GoesOn, IsSession, Knows, Stepped, own_in, session_in}
use Rattle.vlstore.specs.Lists.{history_by, layout_by}
use Rattle.vlstore.specs.Standing.{NeverFails, Stands, parts}
use Rattle.vlstore.proofs.Faults.{always_answers}
use Rattle.vlstore.proofs.Sessions.{knowing, may_enter, on_after, over, session_after, stepped_after}
use Rattle.vl_turn.specs.Locks.{lock_name, lock_start}
use Rattle.std.proofs.Common.{ℕ}
use Rattle.std.specs.Option.{option_map}
use Rattle.vl_compact.specs.Progress.{made_of}
use Rattle.vl_engine_laws.specs.declared.kept.Core.{Core}
use Rattle.vl_steps.specs.Merging.{HasMerge}
use Rattle.vl_engine_laws.specs.Lent.{StandsOpen}
use Rattle.vl_engine_model.specs.Decides.{Answered, Outcome, as_before, no_effects}
use Rattle.vl_engine_model.specs.Jobs.{Made, job_ended}
use Rattle.vl_engine_model.specs.LockHistory.{IsOwn, nothing_open, open_job}
use Rattle.vl_engine_model.specs.Ruling.{leaving}
use Rattle.vl_engine_model.specs.Rulings.Abandon.{abandon_ruling}
use Rattle.vl_engine_model.specs.declared.job.Job.{Job}
use Rattle.vl_engine_model.specs.declared.lock_history.LockStep.TheVariants.{JobEnded}
use Rattle.vl_engine_model.specs.laws.OwnThings.{open_job-is}
use Rattle.vlstore.specs.Entries.{abandon_entry}
use Rattle.vlstore.specs.Handing.{IsUnderWayIn}
use Rattle.vlstore.specs.Standing.{IsWhole}
use Rattle.vlstore.proofs.Calls.{stands_on}
use Rattle.vlstore.proofs.Collecting.{collects_with}
use Rattle.vlstore.proofs.Lending.{merges_ended}
use Rattle.vlstore.proofs.Planning.{job_or}
use Rattle.vlstore.proofs.Tickets.{merge_open}
use Rattle.vlstore.proofs.Wholes.{always_by, answered_by}
use Rattle.vlstore.proofs.Working.{are_lent, has_job, lent_of, under_way}
use Rattle.vlstore.proofs.Works.{abandon_lead}
use Rattle.vlstore.proofs.session.Session.abandon.Goals as goal

pub abandon-requires : goal.abandon-requires
abandon-requires g c =
    let at = c.deref-lock.result.now in
    let o = (lock_start at).origin.me.0 in
    let tells = is_some (g.D.Watched.told (lock_start at).engine.disk) in
    let bytes = g.D.Held.HeldFile.bytes in
    let sure = NeverFails g.D.Watched.faults g.D.Reader.Reader.faults g.D.Writer.Writer.faults in
    let v = c.take-turn.result.token.now.me.0 in
    let old = c.value-locked.result.now.engine in
    let st = subst (λ (k : _). Stands bytes sure o tells v.seen
    (parts (g.D.Watched.told k.engine.disk) k.engine.core k.engine.merging k.engine.collecting k.engine.removing))
    (sym c.value-locked.ensures.value) c.take-turn.ensures.begins.meaning.1 in
    let before = c.self.inside.token in
    let is = over (sym c.deref-lock.ensures) (λ (k : _). IsSession (lock_name k) (lock_start k) before) c.self.invariant in
    let given = over (sym c.deref-lock.ensures) (λ (k : _). IsUnderWayIn
    (knowing (lock_name k) (lock_start k).origin.me.0 (is_some (g.D.Watched.told (lock_start k).engine.disk))
    before) g.D.Writer.Writer bytes c.args.job)
    (subst (λ (u : Knows). IsUnderWayIn u g.D.Writer.Writer bytes c.args.job) (sym c.self.view_is) c.requires) in
    let found = merge_open _ (lock_name at) (lock_start at) c.take-turn.result.value before v is
    c.take-turn.ensures.begins o st.merges.keep
    given.planned given.own in
    let lent_is = found.1 ∙ given.lent_is in
    let lent = lent_of old.merging given.lent (st.merges.lent ∙ lent_is) in
    under_way g.D.Watched g.D.Writer.Writer bytes old.disk old.core.front.halted old.merging c.args.job
    (knowing (lock_name at) o tells before)
    (g.D.Watched.told (lock_start at).engine.disk) refl (λ none. g.met.D.Disk.alike (lock_start at).engine.disk
    old.disk none) given lent

pub finish-requires-clause-entry : goal.finish-requires-clause-entry
finish-requires-clause-entry g c =
    let at = c.deref-lock.result.now in
    let o = (lock_start at).origin.me.0 in
    let v = c.take-turn.result.token.now.me.0 in
    let l = layout_by o v.seen in
    let old = c.value-locked.result.now.engine in
    let x = parts (g.D.Watched.told old.disk) old.core old.merging old.collecting old.removing in
    let planned = job_or (option_map (λ (x : ℕ × Job). x.1) (open_job None v.seen)) in
    let made = made_of c.of-asked.result.value planned in
    let done : Done = Some (JobEnded, job_ended made l) in
    may_enter v c.self.invariant.session c.self.invariant.own done true
    (ap (λ u. u.owns) c.take-turn.ensures.begins.is ∙ c.self.invariant.owns) refl

pub finish-requires-clause-stands : goal.finish-requires-clause-stands
finish-requires-clause-stands g c =
    let at = c.deref-lock.result.now in
    let o = (lock_start at).origin.me.0 in
    let tells = is_some (g.D.Watched.told (lock_start at).engine.disk) in
    let bytes = g.D.Held.HeldFile.bytes in
    let sure = NeverFails g.D.Watched.faults g.D.Reader.Reader.faults g.D.Writer.Writer.faults in
    let v = c.take-turn.result.token.now.me.0 in
    let l = layout_by o v.seen in
    let h = history_by o v.seen in
    let s = session_in v.owns in
    let old = c.value-locked.result.now.engine in
    let new = c.abandon.new.self in
    let x = parts (g.D.Watched.told old.disk) old.core old.merging old.collecting old.removing in
    let y = parts (g.D.Watched.told new.disk) new.core new.merging new.collecting new.removing in
    let st = subst (λ (k : _). Stands bytes sure o tells v.seen
    (parts (g.D.Watched.told k.engine.disk) k.engine.core k.engine.merging k.engine.collecting k.engine.removing))
    (sym c.value-locked.ensures.value) c.take-turn.ensures.begins.meaning.1 in
    let planned = job_or (option_map (λ (x : ℕ × Job). x.1) (open_job None v.seen)) in
    let outcome : Outcome (Unit {0}) = Answered tt in
    let made = made_of c.of-asked.result.value planned in
    let before = c.self.inside.token in
    let is = over (sym c.deref-lock.ensures) (λ (k : _). IsSession (lock_name k) (lock_start k) before) c.self.invariant in
    let given = over (sym c.deref-lock.ensures) (λ (k : _). IsUnderWayIn
    (knowing (lock_name k) (lock_start k).origin.me.0 (is_some (g.D.Watched.told (lock_start k).engine.disk))
    before) g.D.Writer.Writer bytes c.args.job)
    (subst (λ (u : Knows). IsUnderWayIn u g.D.Writer.Writer bytes c.args.job) (sym c.self.view_is) c.requires) in
    let found = merge_open _ (lock_name at) (lock_start at) c.take-turn.result.value before v is
    c.take-turn.ensures.begins o st.merges.keep
    given.planned given.own in
    let lent_is = found.1 ∙ given.lent_is in
    let own = subst (IsOwn s) (sym found.0) refl in
    stands_on bytes sure o tells v.seen x y (abandon_entry made s l h) outcome (leaving tt h (job_ended made l))
    (as_before l (job_ended made l)) no_effects st
    (merges_ended o v.seen old.merging new.merging st.merges s (job_ended made l) own c.abandon.ensures.merging refl)
    (λ told is. abandon_lead bytes o v.seen x is s (subst (IsOwn s) (sym (open_job-is nothing_open v.seen ∙ found.0))
    refl) planned made)
    (λ surely. always_answers)
    (λ told is.
    let w = is.whole in
    let laid = has_job o v.seen s given.planned given.lent is.start is.legal found.0 lent_is in
    let same : planned ≡ laid.open_job.job = ap (λ p. job_or (option_map (λ (x : ℕ × Job). x.1) p)) found.0 ∙ sym laid.job_is in
    let j = laid.open_job in
    let has_merge = subst (λ (p : Job). HasMerge g.D.Writer.Writer bytes c.args.job p) (sym laid.job_is) (given.has_merge told) in
    let files = are_lent g.D.Writer.Writer bytes c.args.job (knowing (lock_name at) o tells before) given j.job
    has_merge j.lent laid.lent_is in
    let opens : StandsOpen bytes old.core old.merging h l = record { stands = w.represents.stands; opens = w.opens } in
    let made_is : made ≡ made_of c.args.job j.job = ap (λ (r : _). made_of r planned) c.of-asked.ensures ∙ ap
    (λ (p : Job). made_of c.args.job p) same in
    always_by bytes y h l (job_ended made l) (
    subst (λ (m : Made). IsWhole bytes y h (job_ended m l)) (sym made_is) (record {
      represents = c.abandon.ensures.represents h l j (made_of c.args.job j.job) w.represents laid.is_open files;
      opens = (c.abandon.ensures.stands h l j (made_of c.args.job j.job) opens laid.is_open files).opens;
      fits = c.abandon.ensures.fits h l j (made_of c.args.job j.job) w.fits;
      collects = collects_with old.core new.core old.collecting new.collecting
          (ap (λ (k : Core _). k.version.behind.logs) c.abandon.ensures.core)
          c.abandon.ensures.collecting l (job_ended (made_of c.args.job j.job) l)
          (record { sealed_is = refl; tables_are = refl; flushed_is = refl }) refl w.collects;
      removes = c.abandon.ensures.removes h l j opens laid.is_open has_merge w.removes;
    })))

pub invariant_of-self : goal.invariant_of-self
invariant_of-self g c =
    let at = c.deref-lock.result.now in
    let o = (lock_start at).origin.me.0 in
    let tells = is_some (g.D.Watched.told (lock_start at).engine.disk) in
    let v = c.take-turn.result.token.now.me.0 in
    let l = layout_by o v.seen in
    let h = history_by o v.seen in
    let s = session_in v.owns in
    let old = c.value-locked.result.now.engine in
    let x = parts (g.D.Watched.told old.disk) old.core old.merging old.collecting old.removing in
    let planned = job_or (option_map (λ (x : ℕ × Job). x.1) (open_job None v.seen)) in
    let outcome : Outcome (Unit {0}) = Answered tt in
    let made = made_of c.of-asked.result.value planned in
    let before = c.self.inside.token in
    let after = c.finish.new.turn.1.0 in
    let is = over (sym c.deref-lock.ensures) (λ (k : _). IsSession (lock_name k) (lock_start k) before) c.self.invariant in
    over c.deref-lock.ensures (λ (k : _). IsSession (lock_name k) (lock_start k) after)
    (session_after _ (lock_name at) (lock_start at) o tells c.take-turn.result.value before after v
    (abandon_entry made s l h outcome) is c.take-turn.ensures.begins
    c.finish.ensures.entered c.finish.ensures.token)

pub returns-clause-on : goal.returns-clause-on
returns-clause-on g c =
    let at = c.deref-lock.result.now in
    let o = (lock_start at).origin.me.0 in
    let tells = is_some (g.D.Watched.told (lock_start at).engine.disk) in
    let v = c.take-turn.result.token.now.me.0 in
    let l = layout_by o v.seen in
    let h = history_by o v.seen in
    let s = session_in v.owns in
    let old = c.value-locked.result.now.engine in
    let x = parts (g.D.Watched.told old.disk) old.core old.merging old.collecting old.removing in
    let planned = job_or (option_map (λ (x : ℕ × Job). x.1) (open_job None v.seen)) in
    let outcome : Outcome (Unit {0}) = Answered tt in
    let made = made_of c.of-asked.result.value planned in
    let before = c.self.inside.token in
    let after = c.finish.new.turn.1.0 in
    let is = over (sym c.deref-lock.ensures) (λ (k : _). IsSession (lock_name k) (lock_start k) before) c.self.invariant in
    rw (sym c.self.view_is) (over c.deref-lock.ensures (λ (k : _). GoesOn
    (knowing (lock_name k) (lock_start k).origin.me.0 (is_some (g.D.Watched.told (lock_start k).engine.disk)) before)
    (knowing (lock_name k) (lock_start k).origin.me.0 (is_some (g.D.Watched.told (lock_start k).engine.disk)) after))
    (on_after _ (lock_name at) (lock_start at) o tells c.take-turn.result.value before after v
    (abandon_entry made s l h outcome) is c.take-turn.ensures.begins
    c.finish.ensures.entered))

pub returns-clause-steps : goal.returns-clause-steps
returns-clause-steps g c =
    let at = c.deref-lock.result.now in
    let o = (lock_start at).origin.me.0 in
    let tells = is_some (g.D.Watched.told (lock_start at).engine.disk) in
    let bytes = g.D.Held.HeldFile.bytes in
    let sure = NeverFails g.D.Watched.faults g.D.Reader.Reader.faults g.D.Writer.Writer.faults in
    let v = c.take-turn.result.token.now.me.0 in
    let l = layout_by o v.seen in
    let h = history_by o v.seen in
    let s = session_in v.owns in
    let old = c.value-locked.result.now.engine in
    let x = parts (g.D.Watched.told old.disk) old.core old.merging old.collecting old.removing in
    let st = subst (λ (k : _). Stands bytes sure o tells v.seen
    (parts (g.D.Watched.told k.engine.disk) k.engine.core k.engine.merging k.engine.collecting k.engine.removing))
    (sym c.value-locked.ensures.value) c.take-turn.ensures.begins.meaning.1 in
    let planned = job_or (option_map (λ (x : ℕ × Job). x.1) (open_job None v.seen)) in
    let outcome : Outcome (Unit {0}) = Answered tt in
    let made = made_of c.of-asked.result.value planned in
    let before = c.self.inside.token in
    let after = c.finish.new.turn.1.0 in
    let is = over (sym c.deref-lock.ensures) (λ (k : _). IsSession (lock_name k) (lock_start k) before) c.self.invariant in
    rw (sym c.self.view_is) (over c.deref-lock.ensures (λ (k : _). is_some (g.D.Watched.told (lock_start k).engine.disk) ≡ true
    → (p : Job) → open_job None (own_in before.me.0.owns) ≡ Some (session_in before.me.0.owns, p) → Stepped sure
    (knowing (lock_name k) (lock_start k).origin.me.0 (is_some (g.D.Watched.told (lock_start k).engine.disk)) before)
    (knowing (lock_name k) (lock_start k).origin.me.0 (is_some (g.D.Watched.told (lock_start k).engine.disk)) after)
    (λ l h. abandon_ruling l h p (made_of c.args.job p)) (abandon_entry (made_of c.args.job p)) (Answered tt))
    (λ told p mine.
    let one : made ≡ made_of c.args.job p = ap (λ (r : _). made_of r planned) c.of-asked.ensures ∙ ap
    (λ (q : Job). made_of c.args.job q)
    (ap (λ q. job_or (option_map (λ (x : ℕ × Job). x.1) q))
    (merge_open _ (lock_name at) (lock_start at) c.take-turn.result.value before v is
    c.take-turn.ensures.begins o st.merges.keep p mine).0) in
    stepped_after _ (lock_name at) (lock_start at) o tells c.take-turn.result.value before after v
    (abandon_entry made s l h outcome) is c.take-turn.ensures.begins
    c.finish.ensures.entered (λ l h. abandon_ruling l h p (made_of c.args.job p)) (abandon_entry (made_of c.args.job p)) outcome _
    (as_before l (job_ended (made_of c.args.job p) l)) no_effects (ap (λ (m : Made). abandon_entry m s l h outcome) one)
    (answered_by h l (job_ended (made_of c.args.job p) l))
    ((finish-requires-clause-stands g c.before.before).behind told).legal
    (st.behind told) (λ surely. always_answers)))
