use Rattle.std.proofs.Common.{◌≡◌, refl, sym, ap, ◌∙◌, subst}
use Rattle.std.specs.Prelude.{is_some, true, None, Some}
use Rattle.vlstore.specs.Entries.{Done}
use Rattle.vlstore.specs.Knowing.{GoesOn, IsSession, Knows, Stepped, own_in, session_in}
use Rattle.vlstore.specs.Lists.{history_by, layout_by}
use Rattle.vlstore.specs.Standing.{IsBehind, NeverFails, Stands, parts}
use Rattle.vlstore.proofs.Faults.{install_fails, unfailing}
use Rattle.vlstore.proofs.Sessions.{knowing, may_enter, number_now, on_after, over, own_is, session_after, stepped_after}
use Rattle.vl_turn.specs.Locks.{lock_name, lock_start}
use Rattle.vl_turn.specs.Entries.{with_entry}
use Rattle.std.proofs.Common.{ℕ}
use Rattle.std.specs.Option.{option_map}
use Rattle.vl_compact.specs.Progress.{made_of}
use Rattle.vl_engine_laws.specs.MayStep.{AreLogFiles}
use Rattle.vl_engine_laws.specs.Represents.{Represents}
use Rattle.vl_steps.specs.Installing.{install_otherwise}
use Rattle.vl_steps.specs.Merging.{HasAllMerge, HasMerge, install_effects, install_outcome}
use Rattle.vl_engine_laws.specs.Lent.{StandsOpen}
use Rattle.vl_engine_model.specs.Decides.{Decides}
use Rattle.vl_engine_model.specs.Jobs.{Made, job_ended}
use Rattle.vl_engine_model.specs.LockHistory.{IsOwn, nothing_open, open_job}
use Rattle.vl_engine_model.specs.Rulings.Install.{install_ruling}
use Rattle.vl_engine_model.specs.declared.job.Job.{Job}
use Rattle.vl_engine_model.specs.declared.lock_history.LockStep.TheVariants.{JobEnded}
use Rattle.vl_engine_model.specs.laws.OwnThings.{open_job-is}
use Rattle.vlstore.specs.Entries.{done_by, install_entry}
use Rattle.std.specs.Option.{ForSome}
use Rattle.vlstore.specs.Handing.{IsHandedInto, job_back}
use Rattle.vlstore.proofs.Collecting.{told_some}
use Rattle.vlstore.proofs.Installing.{handed_again, install_merges, job_back_is}
use Rattle.vlstore.proofs.Leading.{goes_by}
use Rattle.vlstore.proofs.Planning.{job_or}
use Rattle.vlstore.proofs.Tickets.{merge_open, number_found}
use Rattle.vlstore.proofs.Wholes.{whole_with}
use Rattle.vlstore.proofs.Working.{are_lent, handed_in, has_job, lent_of}
use Rattle.vlstore.proofs.Works.{install_leads}
use Rattle.vlstore.proofs.session.Session.install.Goals as goal

pub install-answer-requires : goal.install-answer-requires
install-answer-requires g c =
    let at = c.deref-lock.result.now in
    let o = (lock_start at).origin.me.0 in
    let tells = is_some (g.D.Watched.told (lock_start at).engine.disk) in
    let bytes = g.D.Held.HeldFile.bytes in
    let sure = NeverFails g.D.Watched.faults g.D.Reader.Reader.faults g.D.Writer.Writer.faults in
    let v = c.take-turn.result.token.now.me.0 in
    let old = c.value-locked.result.now.engine in
    let st = subst (λ (k : _). Stands bytes sure o tells v.seen
    (parts (g.D.Watched.told k.engine.disk) k.engine.core k.engine.merging k.engine.collecting k.engine.removing))
    (sym c.value-locked.ensures.value) c.take-turn.ensures.begins.meaning.1 in
    let before = c.self.inside.token in
    let is = over (sym c.deref-lock.ensures) (λ (k : _). IsSession (lock_name k) (lock_start k) before) c.self.invariant in
    let given = over (sym c.deref-lock.ensures) (λ (k : _). IsHandedInto
    (knowing (lock_name k) (lock_start k).origin.me.0 (is_some (g.D.Watched.told (lock_start k).engine.disk))
    before) g.D.Writer.Writer bytes c.args.job)
    (subst (λ (u : Knows). IsHandedInto u g.D.Writer.Writer bytes c.args.job) (sym c.self.view_is) c.requires) in
    let found = merge_open _ (lock_name at) (lock_start at) c.take-turn.result.value before v is
    c.take-turn.ensures.begins o st.merges.keep
    given.under_way.planned given.under_way.own in
    let lent_is = found.1 ∙ given.under_way.lent_is in
    let lent = lent_of old.merging given.under_way.lent (st.merges.lent ∙ lent_is) in
    handed_in g.D.Watched g.D.Writer.Writer bytes old.disk old.core.front.halted old.merging c.args.job
    (knowing (lock_name at) o tells before)
    (g.D.Watched.told (lock_start at).engine.disk) refl (λ none. g.met.D.Disk.alike (lock_start at).engine.disk
    old.disk none) given lent

pub finish-requires-clause-entry : goal.finish-requires-clause-entry
finish-requires-clause-entry g c =
    let at = c.deref-lock.result.now in
    let o = (lock_start at).origin.me.0 in
    let v = c.take-turn.result.token.now.me.0 in
    let l = layout_by o v.seen in
    let h = history_by o v.seen in
    let old = c.value-locked.result.now.engine in
    let x = parts (g.D.Watched.told old.disk) old.core old.merging old.collecting old.removing in
    let planned = job_or (option_map (λ (x : ℕ × Job). x.1) (open_job None v.seen)) in
    let made = made_of c.of-asked.result.value planned in
    let outcome = install_outcome c.install-answer.result in
    let done : Done = done_by (λ answer. Some (JobEnded, (install_ruling l h planned made).layout))
    (JobEnded, job_ended made l) outcome in
    may_enter v c.self.invariant.session c.self.invariant.own done c.has_come-enters.result
    (ap (λ u. u.owns) c.take-turn.ensures.begins.is ∙ c.self.invariant.owns) (c.has_come-enters.ensures planned made l h)

pub finish-requires-clause-stands : goal.finish-requires-clause-stands
finish-requires-clause-stands g c =
    let at = c.deref-lock.result.now in
    let o = (lock_start at).origin.me.0 in
    let tells = is_some (g.D.Watched.told (lock_start at).engine.disk) in
    let bytes = g.D.Held.HeldFile.bytes in
    let sure = NeverFails g.D.Watched.faults g.D.Reader.Reader.faults g.D.Writer.Writer.faults in
    let v = c.take-turn.result.token.now.me.0 in
    let l = layout_by o v.seen in
    let h = history_by o v.seen in
    let s = session_in v.owns in
    let old = c.value-locked.result.now.engine in
    let new = c.install-answer.new.self in
    let x = parts (g.D.Watched.told old.disk) old.core old.merging old.collecting old.removing in
    let y = parts (g.D.Watched.told new.disk) new.core new.merging new.collecting new.removing in
    let st = subst (λ (k : _). Stands bytes sure o tells v.seen
    (parts (g.D.Watched.told k.engine.disk) k.engine.core k.engine.merging k.engine.collecting k.engine.removing))
    (sym c.value-locked.ensures.value) c.take-turn.ensures.begins.meaning.1 in
    let planned = job_or (option_map (λ (x : ℕ × Job). x.1) (open_job None v.seen)) in
    let made = made_of c.of-asked.result.value planned in
    let outcome = install_outcome c.install-answer.result in
    let before = c.self.inside.token in
    let is = over (sym c.deref-lock.ensures) (λ (k : _). IsSession (lock_name k) (lock_start k) before) c.self.invariant in
    let given = over (sym c.deref-lock.ensures) (λ (k : _). IsHandedInto
    (knowing (lock_name k) (lock_start k).origin.me.0 (is_some (g.D.Watched.told (lock_start k).engine.disk))
    before) g.D.Writer.Writer bytes c.args.job)
    (subst (λ (u : Knows). IsHandedInto u g.D.Writer.Writer bytes c.args.job) (sym c.self.view_is) c.requires) in
    let found = merge_open _ (lock_name at) (lock_start at) c.take-turn.result.value before v is
    c.take-turn.ensures.begins o st.merges.keep
    given.under_way.planned given.under_way.own in
    let lent_is = found.1 ∙ given.under_way.lent_is in
    let own = subst (IsOwn s) (sym found.0) refl in
    record {
      merges = install_merges o v.seen old.merging new.merging st.merges s own planned made h c.args.job
          c.install-answer.result c.install-answer.ensures.handed;
      behind = λ told.
          let is = st.behind told in
          let w = is.whole in
          let laid = has_job o v.seen s given.under_way.planned given.under_way.lent is.start is.legal found.0 lent_is in
          let same : planned ≡ laid.open_job.job = ap (λ p. job_or (option_map (λ (x : ℕ × Job). x.1) p)) found.0 ∙ sym
          laid.job_is in
          let j = laid.open_job in
          let has_all = subst (λ (p : Job). HasAllMerge g.D.Writer.Writer bytes c.args.job p) (sym laid.job_is)
          (given.has_all told) in
          let has_merge = subst (λ (p : Job). HasMerge g.D.Writer.Writer bytes c.args.job p) (sym laid.job_is)
          (given.under_way.has_merge told) in
          let files = are_lent g.D.Writer.Writer bytes c.args.job (knowing (lock_name at) o tells before)
          given.under_way j.job has_merge j.lent laid.lent_is in
          let opens : StandsOpen bytes old.core old.merging h l = record { stands = w.represents.stands; opens = w.opens } in
          let told_is = told_some (g.D.Watched.told (lock_start at).engine.disk) (g.D.Watched.told old.disk) told
          (λ none. g.met.D.Disk.alike old.disk (lock_start at).engine.disk none) in
          let runs : l.halted ≡ None → AreLogFiles l = λ running. (w.fits.running running).files in
          subst (λ (p : Job). IsBehind bytes sure o (with_entry v.seen
          (install_entry p (made_of c.of-asked.result.value p) s l h outcome)) y) (sym same)
          (subst (λ (r : _). IsBehind bytes sure o (with_entry v.seen (install_entry j.job (made_of r j.job) s l h outcome))
          y) (sym c.of-asked.ensures)
          (goes_by bytes o v.seen (install_ruling l h j.job (made_of c.args.job j.job))
          (install_otherwise l (made_of c.args.job j.job)) (install_entry j.job (made_of c.args.job j.job) s l h) x y
          outcome
          (install_effects c.install-answer.result) is
          (install_leads bytes o v.seen x is s (subst (IsOwn s) (sym (open_job-is nothing_open v.seen ∙ found.0)) refl)
          j.job (made_of c.args.job j.job))
          (unfailing g.D.Watched.faults g.D.Reader.Reader.faults g.D.Writer.Writer.faults old.disk new.disk outcome c.install-answer.ensures.cause
          (install_fails c.install-answer.result))
          (whole_with bytes y h l (install_ruling l h j.job (made_of c.args.job j.job))
          (install_otherwise l (made_of c.args.job j.job)) outcome (install_effects c.install-answer.result)
          (c.install-answer.ensures.carries h l j w.represents opens laid.is_open has_all files).decides
          (c.install-answer.ensures.stands told_is.0 h l j told_is.1 opens laid.is_open runs has_all files)
          (c.install-answer.ensures.fits h l j opens laid.is_open has_all files w.fits)
          (c.install-answer.ensures.collects told_is.0 h l j told_is.1 opens laid.is_open runs has_all files w.collects)
          (c.install-answer.ensures.removes told_is.0 h l j told_is.1 opens laid.is_open runs has_all files w.collects
          w.removes))));
    }

pub invariant_of-self : goal.invariant_of-self
invariant_of-self g c =
    let at = c.deref-lock.result.now in
    let o = (lock_start at).origin.me.0 in
    let tells = is_some (g.D.Watched.told (lock_start at).engine.disk) in
    let v = c.take-turn.result.token.now.me.0 in
    let l = layout_by o v.seen in
    let h = history_by o v.seen in
    let s = session_in v.owns in
    let old = c.value-locked.result.now.engine in
    let x = parts (g.D.Watched.told old.disk) old.core old.merging old.collecting old.removing in
    let planned = job_or (option_map (λ (x : ℕ × Job). x.1) (open_job None v.seen)) in
    let made = made_of c.of-asked.result.value planned in
    let outcome = install_outcome c.install-answer.result in
    let before = c.self.inside.token in
    let after = c.finish.new.turn.1.0 in
    let is = over (sym c.deref-lock.ensures) (λ (k : _). IsSession (lock_name k) (lock_start k) before) c.self.invariant in
    over c.deref-lock.ensures (λ (k : _). IsSession (lock_name k) (lock_start k) after)
    (session_after _ (lock_name at) (lock_start at) o tells c.take-turn.result.value before after v
    (install_entry planned made s l h outcome) is c.take-turn.ensures.begins
    c.finish.ensures.entered c.finish.ensures.token)

pub returns-clause-on : goal.returns-clause-on
returns-clause-on g c =
    let at = c.deref-lock.result.now in
    let o = (lock_start at).origin.me.0 in
    let tells = is_some (g.D.Watched.told (lock_start at).engine.disk) in
    let v = c.take-turn.result.token.now.me.0 in
    let l = layout_by o v.seen in
    let h = history_by o v.seen in
    let s = session_in v.owns in
    let old = c.value-locked.result.now.engine in
    let x = parts (g.D.Watched.told old.disk) old.core old.merging old.collecting old.removing in
    let planned = job_or (option_map (λ (x : ℕ × Job). x.1) (open_job None v.seen)) in
    let made = made_of c.of-asked.result.value planned in
    let outcome = install_outcome c.install-answer.result in
    let before = c.self.inside.token in
    let after = c.finish.new.turn.1.0 in
    let is = over (sym c.deref-lock.ensures) (λ (k : _). IsSession (lock_name k) (lock_start k) before) c.self.invariant in
    rw (sym c.self.view_is) (over c.deref-lock.ensures (λ (k : _). GoesOn
    (knowing (lock_name k) (lock_start k).origin.me.0 (is_some (g.D.Watched.told (lock_start k).engine.disk)) before)
    (knowing (lock_name k) (lock_start k).origin.me.0 (is_some (g.D.Watched.told (lock_start k).engine.disk)) after))
    (on_after _ (lock_name at) (lock_start at) o tells c.take-turn.result.value before after v
    (install_entry planned made s l h outcome) is c.take-turn.ensures.begins
    c.finish.ensures.entered))

pub returns-clause-steps : goal.returns-clause-steps
returns-clause-steps g c =
    let at = c.deref-lock.result.now in
    let o = (lock_start at).origin.me.0 in
    let tells = is_some (g.D.Watched.told (lock_start at).engine.disk) in
    let bytes = g.D.Held.HeldFile.bytes in
    let sure = NeverFails g.D.Watched.faults g.D.Reader.Reader.faults g.D.Writer.Writer.faults in
    let v = c.take-turn.result.token.now.me.0 in
    let l = layout_by o v.seen in
    let h = history_by o v.seen in
    let s = session_in v.owns in
    let old = c.value-locked.result.now.engine in
    let new = c.install-answer.new.self in
    let x = parts (g.D.Watched.told old.disk) old.core old.merging old.collecting old.removing in
    let st = subst (λ (k : _). Stands bytes sure o tells v.seen
    (parts (g.D.Watched.told k.engine.disk) k.engine.core k.engine.merging k.engine.collecting k.engine.removing))
    (sym c.value-locked.ensures.value) c.take-turn.ensures.begins.meaning.1 in
    let planned = job_or (option_map (λ (x : ℕ × Job). x.1) (open_job None v.seen)) in
    let made = made_of c.of-asked.result.value planned in
    let outcome = install_outcome c.install-answer.result in
    let before = c.self.inside.token in
    let after = c.finish.new.turn.1.0 in
    let is = over (sym c.deref-lock.ensures) (λ (k : _). IsSession (lock_name k) (lock_start k) before) c.self.invariant in
    let given = over (sym c.deref-lock.ensures) (λ (k : _). IsHandedInto
    (knowing (lock_name k) (lock_start k).origin.me.0 (is_some (g.D.Watched.told (lock_start k).engine.disk))
    before) g.D.Writer.Writer bytes c.args.job)
    (subst (λ (u : Knows). IsHandedInto u g.D.Writer.Writer bytes c.args.job) (sym c.self.view_is) c.requires) in
    let found = merge_open _ (lock_name at) (lock_start at) c.take-turn.result.value before v is
    c.take-turn.ensures.begins o st.merges.keep
    given.under_way.planned given.under_way.own in
    let lent_is = found.1 ∙ given.under_way.lent_is in
    rw (sym c.self.view_is) (over c.deref-lock.ensures (λ (k : _). is_some (g.D.Watched.told (lock_start k).engine.disk) ≡ true
    → (p : Job) → open_job None (own_in before.me.0.owns) ≡ Some (session_in before.me.0.owns, p) → Stepped sure
    (knowing (lock_name k) (lock_start k).origin.me.0 (is_some (g.D.Watched.told (lock_start k).engine.disk)) before)
    (knowing (lock_name k) (lock_start k).origin.me.0 (is_some (g.D.Watched.told (lock_start k).engine.disk)) after)
    (λ l h. install_ruling l h p (made_of c.args.job p)) (install_entry p (made_of c.args.job p)) outcome)
    (λ told p mine.
    let open_is = (merge_open _ (lock_name at) (lock_start at) c.take-turn.result.value before v is c.take-turn.ensures.begins o
    st.merges.keep p mine).0 in
    let legal = ((finish-requires-clause-stands g c.before.before).behind told).legal in
    let is_behind = st.behind told in
    let w = is_behind.whole in
    let laid = has_job o v.seen s given.under_way.planned given.under_way.lent is_behind.start is_behind.legal found.0 lent_is in
    let same : planned ≡ laid.open_job.job = ap (λ p. job_or (option_map (λ (x : ℕ × Job). x.1) p)) found.0 ∙ sym laid.job_is in
    let j = laid.open_job in
    let has_all = subst (λ (p : Job). HasAllMerge g.D.Writer.Writer bytes c.args.job p) (sym laid.job_is) (given.has_all told) in
    let has_merge = subst (λ (p : Job). HasMerge g.D.Writer.Writer bytes c.args.job p) (sym laid.job_is)
    (given.under_way.has_merge told) in
    let files = are_lent g.D.Writer.Writer bytes c.args.job (knowing (lock_name at) o tells before) given.under_way
    j.job has_merge j.lent laid.lent_is in
    let opens : StandsOpen bytes old.core old.merging h l = record { stands = w.represents.stands; opens = w.opens } in
    let one : planned ≡ p = ap (λ q. job_or (option_map (λ (x : ℕ × Job). x.1) q)) open_is in
    let theirs : j.job ≡ p = sym same ∙ one in
    let made_is : made ≡ made_of c.args.job p = ap (λ (r : _). made_of r planned) c.of-asked.ensures ∙ ap
    (λ (q : Job). made_of c.args.job q) one in
    stepped_after _ (lock_name at) (lock_start at) o tells c.take-turn.result.value before after v
    (install_entry planned made s l h outcome) is c.take-turn.ensures.begins
    c.finish.ensures.entered (λ l h. install_ruling l h p (made_of c.args.job p))
    (install_entry p (made_of c.args.job p)) outcome _
    (install_otherwise l (made_of c.args.job p)) (install_effects c.install-answer.result)
    (ap (λ (q : Job). install_entry q made s l h outcome) one ∙ ap (λ (m : Made). install_entry p m s l h outcome) made_is)
    (subst (λ (q : Job). Decides (Represents bytes new.core (g.D.Watched.told new.disk)) h l
    (install_ruling l h q (made_of c.args.job q))
    (install_otherwise l (made_of c.args.job q)) outcome (install_effects c.install-answer.result)) theirs
    (c.install-answer.ensures.carries h l j w.represents opens laid.is_open has_all files).decides)
    legal is_behind
    (unfailing g.D.Watched.faults g.D.Reader.Reader.faults g.D.Writer.Writer.faults old.disk new.disk outcome c.install-answer.ensures.cause
    (install_fails c.install-answer.result))))

pub returns-clause-back : goal.returns-clause-back
returns-clause-back g c =
    job_back_is c.args.job _ _ c.install-answer.result c.install-answer.ensures.handed

pub returns-clause-again : goal.returns-clause-again
returns-clause-again g c =
    let at = c.deref-lock.result.now in
    let o = (lock_start at).origin.me.0 in
    let tells = is_some (g.D.Watched.told (lock_start at).engine.disk) in
    let bytes = g.D.Held.HeldFile.bytes in
    let v = c.take-turn.result.token.now.me.0 in
    let l = layout_by o v.seen in
    let h = history_by o v.seen in
    let s = session_in v.owns in
    let old = c.value-locked.result.now.engine in
    let new = c.install-answer.new.self in
    let x = parts (g.D.Watched.told old.disk) old.core old.merging old.collecting old.removing in
    let planned = job_or (option_map (λ (x : ℕ × Job). x.1) (open_job None v.seen)) in
    let made = made_of c.of-asked.result.value planned in
    let outcome = install_outcome c.install-answer.result in
    let before = c.self.inside.token in
    let after = c.finish.new.turn.1.0 in
    let is = over (sym c.deref-lock.ensures) (λ (k : _). IsSession (lock_name k) (lock_start k) before) c.self.invariant in
    let given = over (sym c.deref-lock.ensures) (λ (k : _). IsHandedInto
    (knowing (lock_name k) (lock_start k).origin.me.0 (is_some (g.D.Watched.told (lock_start k).engine.disk)) before)
    g.D.Writer.Writer bytes c.args.job)
    (subst (λ (u : Knows). IsHandedInto u g.D.Writer.Writer bytes c.args.job) (sym c.self.view_is) c.requires) in
    over c.deref-lock.ensures (λ (k : _). ForSome (job_back c.install-answer.result) (IsHandedInto
    (knowing (lock_name k) (lock_start k).origin.me.0 (is_some (g.D.Watched.told (lock_start k).engine.disk)) after)
    g.D.Writer.Writer bytes))
    (handed_again g.D.Writer.Writer bytes (knowing (lock_name at) o tells before) (knowing (lock_name at) o tells after) refl refl
    (number_now _ (lock_name at) (lock_start at) o tells c.take-turn.result.value before after v
    (install_entry planned made s l h outcome) is c.take-turn.ensures.begins
    c.finish.ensures.entered
    ∙ number_found _ (lock_name at) (lock_start at) c.take-turn.result.value before v is c.take-turn.ensures.begins)
    c.args.job given planned made s l h old.merging new.merging c.install-answer.result
    (own_is _ (lock_name at) (lock_start at) o tells c.take-turn.result.value before after v
    (install_entry planned made s l h outcome) is c.take-turn.ensures.begins
    c.finish.ensures.entered) c.install-answer.ensures.handed)

pub returns-clause-cause : goal.returns-clause-cause
returns-clause-cause g c failed = record {
  before = c.value-locked.result.now.engine.disk;
  after = c.install-answer.new.self.disk;
  rose = c.install-answer.ensures.cause.rose failed;
}
