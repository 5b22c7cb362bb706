use Rattle.std.proofs.Common.{◌≡◌, refl, sym, ◌∙◌, subst}
use Rattle.std.specs.Prelude.{length, min, ◌^◌, ◌-◌, Option, Some, Ok, Err}
use Rattle.vl_compact.specs.Laid.{AreBoth}
use Rattle.vl_compact.specs.Progress.{made_of}
use Rattle.vl_compact.specs.laws.ReadLaws.{new_read}
use Rattle.vl_disk.specs.declared.errors.NoMemory.{NoMemory}
use Rattle.vl_steps.specs.Merging.{HasMerge, install_outcome, plan_outcome}
use Rattle.vl_engine_model.specs.Decides.{Answered}
use Rattle.vl_engine_model.specs.Merging.{merged_entries}
use Rattle.vl_engine_model.specs.Rulings.Abandon.{abandon_ruling}
use Rattle.vl_engine_model.specs.Rulings.Install.{Installed, install_ruling}
use Rattle.vl_engine_model.specs.Rulings.Plan.{plan_ruling}
use Rattle.vl_engine_model.specs.declared.job.Job.{Job}
use Rattle.vlstore.specs.Entries.{abandon_entry, install_entry, plan_entry}
use Rattle.vlstore.specs.Knowing.{Stepped}
use Rattle.vlstore.specs.Merging.{IsWork, PutIn}
use Rattle.vlstore.specs.Standing.{NeverFails}
use Rattle.vlstore.proofs.Making.{given_back, on_and_on}
use Rattle.vlstore.proofs.Merged.{abandon_works, did_on, did_work, install_ends, install_works, job_ended, none_due, none_own, one_due}
use Rattle.vlstore.proofs.Merged.{own_back, own_stays, plan_works}
use Rattle.vlstore.proofs.Merged.{planned_own, planned_some, prefix_itself, same_own, stepped_so, was_put_in}
use Rattle.vlstore.proofs.Refused.{answered_in, goes_nowhere, read_all, read_to, unmade, unplanned, unput, wider}
use Rattle.vlstore.proofs.Stores.{prefix_on}
use Rattle.vlstore.specs.Refused.{Between}
use Rattle.vl_engine_model.specs.declared.layout.Layout.{Layout}
use Rattle.vl_model.specs.History.{History}
use Rattle.vlstore.proofs.session.Session.merge.Goals as goal

-- ---- what its calls ask

pub carry_out-requires-clause-under_way : goal.carry_out-requires-clause-under_way
carry_out-requires-clause-under_way g c = c.in_ok-job.ensures.under_way c.in-Some.job c.in-Some.is

pub carry_out-requires-clause-looks : goal.carry_out-requires-clause-looks
carry_out-requires-clause-looks g c told =
    c.in_ok-job.ensures.looks (sym c.plan.ensures.on.tells ∙ told) c.in-Some.job c.in-Some.is

pub abandoned-requires : goal.abandoned-requires
abandoned-requires g c =
    given_back c.install.new.self g.D.Writer.Writer g.D.Held.HeldFile.bytes c.in-Err-install.fail c.in-Err-install.ensures.again

-- ---- what is seen

pub returns-in-Err-clause-on : goal.returns-in-Err-clause-on
returns-in-Err-clause-on g c =
    on_and_on c.args.self.now c.plan.new.self c.abandon.new.self c.plan.ensures.on
    (on_and_on c.plan.new.self c.carry_out.new.self c.abandon.new.self c.carry_out.ensures.on c.abandon.ensures.on)

pub returns-in-Ok-clause-on : goal.returns-in-Ok-clause-on
returns-in-Ok-clause-on g c =
    on_and_on c.args.self.now c.plan.new.self c.install.new.self c.plan.ensures.on
    (on_and_on c.plan.new.self c.carry_out.new.self c.install.new.self c.carry_out.ensures.on c.install.ensures.on)

pub returns-in-Err-install-clause-on : goal.returns-in-Err-install-clause-on
returns-in-Err-install-clause-on g c =
    on_and_on c.args.self.now c.plan.new.self c.abandoned.new.self c.plan.ensures.on
    (on_and_on c.plan.new.self c.carry_out.new.self c.abandoned.new.self c.carry_out.ensures.on
    (on_and_on c.carry_out.new.self c.install.new.self c.abandoned.new.self c.install.ensures.on c.abandoned.ensures.on))

-- ---- what its own steps are

pub returns-in_err-job-clause-works : goal.returns-in_err-job-clause-works
returns-in_err-job-clause-works g c told =
    let s = c.plan.ensures.steps told in
    stepped_so IsWork c.args.self.now c.plan.new.self (λ l h. plan_ruling l h) plan_entry (plan_outcome s.0 c.plan.result)
    (λ n l h. plan_works n l h (plan_outcome s.0 c.plan.result)) s.1

pub returns-in_default-clause-works : goal.returns-in_default-clause-works
returns-in_default-clause-works g c told =
    let s = c.plan.ensures.steps told in
    stepped_so IsWork c.args.self.now c.plan.new.self (λ l h. plan_ruling l h) plan_entry (plan_outcome s.0 c.plan.result)
    (λ n l h. plan_works n l h (plan_outcome s.0 c.plan.result)) s.1

pub returns-in-Err-clause-works : goal.returns-in-Err-clause-works
returns-in-Err-clause-works g c told =
    let s = c.plan.ensures.steps told in
    let planned_so = stepped_so IsWork c.args.self.now c.plan.new.self (λ l h. plan_ruling l h) plan_entry
    (plan_outcome s.0 c.plan.result) (λ n l h. plan_works n l h (plan_outcome s.0 c.plan.result)) s.1 in
    let told_then = c.plan.ensures.on.tells ∙ told in
    let made_so = did_work c.plan.new.self c.carry_out.new.self (c.carry_out.ensures.changes told_then) in
    let way = c.carry_out.ensures.under_way in
    let made = made_of c.carry_out.new.job way.planned in
    did_on IsWork c.args.self.now c.plan.new.self c.abandon.new.self planned_so
    (did_on IsWork c.plan.new.self c.carry_out.new.self c.abandon.new.self made_so
    (stepped_so IsWork c.carry_out.new.self c.abandon.new.self (λ l h. abandon_ruling l h way.planned made) (abandon_entry made)
    (Answered tt) (abandon_works made)
    (c.abandon.ensures.steps (c.carry_out.ensures.on.tells ∙ told_then) way.planned way.own)))

pub returns-in-Ok-clause-works : goal.returns-in-Ok-clause-works
returns-in-Ok-clause-works g c told =
    let s = c.plan.ensures.steps told in
    let planned_so = stepped_so IsWork c.args.self.now c.plan.new.self (λ l h. plan_ruling l h) plan_entry
    (plan_outcome s.0 c.plan.result) (λ n l h. plan_works n l h (plan_outcome s.0 c.plan.result)) s.1 in
    let told_then = c.plan.ensures.on.tells ∙ told in
    let made_so = did_work c.plan.new.self c.carry_out.new.self (c.carry_out.ensures.changes told_then) in
    let way = c.carry_out.ensures.under_way in
    let made = made_of c.carry_out.new.job way.planned in
    did_on IsWork c.args.self.now c.plan.new.self c.install.new.self planned_so
    (did_on IsWork c.plan.new.self c.carry_out.new.self c.install.new.self made_so
    (stepped_so IsWork c.carry_out.new.self c.install.new.self (λ l h. install_ruling l h way.planned made)
    (install_entry way.planned made) (install_outcome c.install.result)
    (λ n l h. install_works way.planned made n l h (install_outcome c.install.result))
    (c.install.ensures.steps (c.carry_out.ensures.on.tells ∙ told_then) way.planned way.own)))

pub returns-in-Err-install-clause-works : goal.returns-in-Err-install-clause-works
returns-in-Err-install-clause-works g c told =
    let s = c.plan.ensures.steps told in
    let planned_so = stepped_so IsWork c.args.self.now c.plan.new.self (λ l h. plan_ruling l h) plan_entry
    (plan_outcome s.0 c.plan.result) (λ n l h. plan_works n l h (plan_outcome s.0 c.plan.result)) s.1 in
    let told_then = c.plan.ensures.on.tells ∙ told in
    let told_made = c.carry_out.ensures.on.tells ∙ told_then in
    let made_so = did_work c.plan.new.self c.carry_out.new.self (c.carry_out.ensures.changes told_then) in
    let way = c.carry_out.ensures.under_way in
    let made = made_of c.carry_out.new.job way.planned in
    did_on IsWork c.args.self.now c.plan.new.self c.abandoned.new.self planned_so
    (did_on IsWork c.plan.new.self c.carry_out.new.self c.abandoned.new.self made_so
    (did_on IsWork c.carry_out.new.self c.install.new.self c.abandoned.new.self
    (stepped_so IsWork c.carry_out.new.self c.install.new.self (λ l h. install_ruling l h way.planned made)
    (install_entry way.planned made) (install_outcome c.install.result)
    (λ n l h. install_works way.planned made n l h (install_outcome c.install.result))
    (c.install.ensures.steps told_made way.planned way.own))
    (c.abandoned.ensures.works (c.install.ensures.on.tells ∙ told_made))))

-- ---- which merge it was

pub returns-in_default-clause-merged : goal.returns-in_default-clause-merged
returns-in_default-clause-merged g c told =
    let s = c.in_ok-job.ensures.steps told in
    let sure = NeverFails g.D.Watched.faults g.D.Reader.Reader.faults g.D.Writer.Writer.faults in
    none_due c.args.self.now c.plan.new.self c.plan.new.self
    (subst (λ (o : Option _). Stepped sure c.args.self.now c.plan.new.self (λ l h. plan_ruling l h) plan_entry
    (plan_outcome {E = NoMemory} s.0 (Ok o))) c.in_default.is s.1) (prefix_itself c.plan.new.self.seen)

pub returns-in-Ok-clause-merged : goal.returns-in-Ok-clause-merged
returns-in-Ok-clause-merged g c told =
    let s = c.in_ok-job.ensures.steps told in
    let sure = NeverFails g.D.Watched.faults g.D.Reader.Reader.faults g.D.Writer.Writer.faults in
    let fits = HasMerge g.D.Writer.Writer g.D.Held.HeldFile.bytes in
    let u = c.args.self.now in
    let v = c.plan.new.self in
    let some = planned_some fits c.in-Some.job s.0 (subst (λ (o : Option _). AreBoth fits o s.0) c.in-Some.is s.2) in
    let step = subst (λ (p : Option Job). Stepped sure u v (λ l h. plan_ruling l h) plan_entry (Answered p)) some.1
    (subst (λ (o : Option _). Stepped sure u v (λ l h. plan_ruling l h) plan_entry (plan_outcome {E = NoMemory} s.0 (Ok o)))
    c.in-Some.is s.1) in
    let told_then = c.plan.ensures.on.tells ∙ told in
    let handed = c.in_default-carry_out.ensures.handed in
    let same = same_own c.carry_out.new.self handed.under_way.planned some.0 handed.under_way.own
    (own_stays v c.carry_out.new.self some.0 c.carry_out.ensures.on.session (c.carry_out.ensures.changes told_then)
    (planned_own u v some.0 c.plan.ensures.on.session step)) in
    one_due u v c.install.new.self some.0 c.kept_count-kept.result
    (subst (λ (j : Job). c.kept_count-kept.result ≡ min (length (merged_entries j)) (2 ^ 64 - 1)) same
    (c.kept_count-kept.ensures handed.under_way.planned (handed.has_all (c.carry_out.ensures.on.tells ∙ told_then)))) step
    (prefix_on v.seen c.carry_out.new.self.seen c.install.new.self.seen c.carry_out.ensures.on.seen c.install.ensures.on.seen)
    (subst (λ (j : Job). PutIn u c.install.new.self j) same
    (was_put_in u c.carry_out.new.self c.install.new.self handed.under_way.planned
    (made_of c.carry_out.new.job handed.under_way.planned) (c.carry_out.ensures.on.origin ∙ c.plan.ensures.on.origin)
    (c.carry_out.ensures.on.session ∙ c.plan.ensures.on.session)
    (prefix_on u.seen v.seen c.carry_out.new.self.seen c.plan.ensures.on.seen c.carry_out.ensures.on.seen)
    (c.in-Ok.ensures.steps (c.carry_out.ensures.on.tells ∙ told_then) handed.under_way.planned handed.under_way.own)))

-- ---- none is left open

pub returns-in_err-job-clause-over : goal.returns-in_err-job-clause-over
returns-in_err-job-clause-over g c told job own =
    own_back c.args.self.now c.plan.new.self (c.in_err-job.ensures.steps told).1.own c.plan.ensures.on.session job own

pub returns-in_default-clause-over : goal.returns-in_default-clause-over
returns-in_default-clause-over g c told job own =
    let s = c.in_ok-job.ensures.steps told in
    let sure = NeverFails g.D.Watched.faults g.D.Reader.Reader.faults g.D.Writer.Writer.faults in
    let step = subst (λ (o : Option _). Stepped sure c.args.self.now c.plan.new.self (λ l h. plan_ruling l h) plan_entry
    (plan_outcome {E = NoMemory} s.0 (Ok o))) c.in_default.is s.1 in
    own_back c.args.self.now c.plan.new.self step.own c.plan.ensures.on.session job own

pub returns-in-Err-clause-over : goal.returns-in-Err-clause-over
returns-in-Err-clause-over g c told job own =
    let way = c.carry_out.ensures.under_way in
    let made = made_of c.carry_out.new.job way.planned in
    absurd (none_own c.abandon.new.self
    (job_ended c.carry_out.new.self c.abandon.new.self (λ l h. abandon_ruling l h way.planned made) (abandon_entry made)
    (Answered tt) (λ s l h. refl)
    (c.abandon.ensures.steps (c.carry_out.ensures.on.tells ∙ (c.plan.ensures.on.tells ∙ told)) way.planned way.own)) job own)

pub returns-in-Ok-clause-over : goal.returns-in-Ok-clause-over
returns-in-Ok-clause-over g c told job own =
    let way = c.carry_out.ensures.under_way in
    let made = made_of c.carry_out.new.job way.planned in
    absurd (none_own c.install.new.self
    (job_ended c.carry_out.new.self c.install.new.self (λ l h. install_ruling l h way.planned made)
    (install_entry way.planned made) (Answered Installed) (λ s l h. refl)
    (c.in-Ok.ensures.steps (c.carry_out.ensures.on.tells ∙ (c.plan.ensures.on.tells ∙ told)) way.planned way.own)) job own)

pub returns-in-Err-install-clause-over : goal.returns-in-Err-install-clause-over
returns-in-Err-install-clause-over g c told job own =
    let way = c.carry_out.ensures.under_way in
    let made = made_of c.carry_out.new.job way.planned in
    let told_made = c.carry_out.ensures.on.tells ∙ (c.plan.ensures.on.tells ∙ told) in
    let left = c.abandoned.ensures.over (c.install.ensures.on.tells ∙ told_made) job own in
    let fail = c.in-Err-install.fail in
    absurd (none_own c.install.new.self
    (job_ended c.carry_out.new.self c.install.new.self (λ l h. install_ruling l h way.planned made)
    (install_entry way.planned made) (install_outcome (Err fail)) (install_ends way.planned made fail left.1)
    (c.in-Err-install.ensures.steps told_made way.planned way.own)) job left.0)

-- ---- why it was refused

pub returns-in_err-job-clause-refused : goal.returns-in_err-job-clause-refused
returns-in_err-job-clause-refused g c told =
    unplanned (NeverFails g.D.Watched.faults g.D.Reader.Reader.faults g.D.Writer.Writer.faults) g.D.Writer.Writer
    g.D.Held.HeldFile.bytes (λ r. g.D.Reader.Reader.faults r) c.args.self.now c.plan.new.self c.from_residual.result
    c.from_residual.ensures.1

pub returns-in-Err-clause-refused : goal.returns-in-Err-clause-refused
returns-in-Err-clause-refused g c told =
    let bytes = g.D.Held.HeldFile.bytes in
    let sure = NeverFails g.D.Watched.faults g.D.Reader.Reader.faults g.D.Writer.Writer.faults in
    let s = c.in_ok-job.ensures.steps told in
    let u = c.args.self.now in
    let v = c.plan.new.self in
    let fits = HasMerge g.D.Writer.Writer bytes in
    let some = planned_some fits c.in-Some.job s.0 (subst (λ (o : Option _). AreBoth fits o s.0) c.in-Some.is s.2) in
    let step = subst (λ (p : Option Job). Stepped sure u v (λ l h. plan_ruling l h) plan_entry (Answered p)) some.1
    (subst (λ (o : Option _). Stepped sure u v (λ l h. plan_ruling l h) plan_entry (plan_outcome {E = NoMemory} s.0 (Ok o)))
    c.in-Some.is s.1) in
    unmade sure g.D.Writer.Writer bytes (λ r. g.D.Reader.Reader.faults r) u v c.carry_out.new.self c.abandon.new.self c.in-Some.job
    c.carry_out.new.job.after c.plan.ensures.on c.carry_out.ensures.on c.abandon.ensures.on
    (record {
      planned = some.0;
      due = answered_in u v (λ l h. plan_ruling l h) plan_entry (Some some.0) step;
      has = subst (λ (p : Option Job). AreBoth fits (Some c.in-Some.job) p) some.1
          (subst (λ (o : Option _). AreBoth fits o s.0) c.in-Some.is s.2);
      looks = c.in_ok-job.ensures.looks told c.in-Some.job c.in-Some.is;
    })
    (read_to sure g.D.Writer.Writer bytes (λ r. g.D.Reader.Reader.faults r) c.in-Some.job c.carry_out.new.job c.carry_out.ensures.inputs
    (c.carry_out.ensures.read (new_read bytes c.in-Some.job (c.in_ok-job.ensures.new c.in-Some.job c.in-Some.is))))
    c.in-Err.fail (c.in-Err.ensures.refused (c.plan.ensures.on.tells ∙ told))

pub returns-in-Err-install-clause-refused : goal.returns-in-Err-install-clause-refused
returns-in-Err-install-clause-refused g c told =
    let bytes = g.D.Held.HeldFile.bytes in
    let sure = NeverFails g.D.Watched.faults g.D.Reader.Reader.faults g.D.Writer.Writer.faults in
    let s = c.in_ok-job.ensures.steps told in
    let u = c.args.self.now in
    let v = c.plan.new.self in
    let m = c.carry_out.new.self in
    let fits = HasMerge g.D.Writer.Writer bytes in
    let some = planned_some fits c.in-Some.job s.0 (subst (λ (o : Option _). AreBoth fits o s.0) c.in-Some.is s.2) in
    let step = subst (λ (p : Option Job). Stepped sure u v (λ l h. plan_ruling l h) plan_entry (Answered p)) some.1
    (subst (λ (o : Option _). Stepped sure u v (λ l h. plan_ruling l h) plan_entry (plan_outcome {E = NoMemory} s.0 (Ok o)))
    c.in-Some.is s.1) in
    let told_then = c.plan.ensures.on.tells ∙ told in
    let handed = c.in_default-carry_out.ensures.handed in
    let same = same_own m handed.under_way.planned some.0 handed.under_way.own
    (own_stays v m some.0 c.carry_out.ensures.on.session (c.carry_out.ensures.changes told_then)
    (planned_own u v some.0 c.plan.ensures.on.session step)) in
    let ruled = λ (l : Layout) (h : History). (plan_ruling l h).answer in
    unput sure g.D.Writer.Writer bytes (λ r. g.D.Reader.Reader.faults r) u m c.install.new.self c.abandoned.new.self
    handed.under_way.planned (made_of c.carry_out.new.job handed.under_way.planned)
    (on_and_on u v m c.plan.ensures.on c.carry_out.ensures.on) c.install.ensures.on c.abandoned.ensures.on
    (wider (λ l h. ruled l h ≡ Some handed.under_way.planned) u u v m (goes_nowhere u) c.carry_out.ensures.on
    (subst (λ (j : Job). Between u v (λ l h. ruled l h ≡ Some j)) (sym same)
    (answered_in u v (λ l h. plan_ruling l h) plan_entry (Some some.0) step)))
    c.in-Err-install.fail
    (c.in-Err-install.ensures.steps (c.carry_out.ensures.on.tells ∙ told_then) handed.under_way.planned handed.under_way.own)
    c.abandoned.result c.abandoned.ensures.refusal

-- ---- up to where its inputs were read

pub returns-in-Ok-clause-read : goal.returns-in-Ok-clause-read
returns-in-Ok-clause-read g c told =
    let bytes = g.D.Held.HeldFile.bytes in
    let sure = NeverFails g.D.Watched.faults g.D.Reader.Reader.faults g.D.Writer.Writer.faults in
    let s = c.in_ok-job.ensures.steps told in
    let u = c.args.self.now in
    let v = c.plan.new.self in
    let fits = HasMerge g.D.Writer.Writer bytes in
    let some = planned_some fits c.in-Some.job s.0 (subst (λ (o : Option _). AreBoth fits o s.0) c.in-Some.is s.2) in
    let step = subst (λ (p : Option Job). Stepped sure u v (λ l h. plan_ruling l h) plan_entry (Answered p)) some.1
    (subst (λ (o : Option _). Stepped sure u v (λ l h. plan_ruling l h) plan_entry (plan_outcome {E = NoMemory} s.0 (Ok o)))
    c.in-Some.is s.1) in
    read_all sure g.D.Writer.Writer bytes (λ r. g.D.Reader.Reader.faults r) u v c.install.new.self c.in-Some.job c.carry_out.new.job
    (on_and_on v c.carry_out.new.self c.install.new.self c.carry_out.ensures.on c.install.ensures.on)
    (record {
      planned = some.0;
      due = answered_in u v (λ l h. plan_ruling l h) plan_entry (Some some.0) step;
      has = subst (λ (p : Option Job). AreBoth fits (Some c.in-Some.job) p) some.1
          (subst (λ (o : Option _). AreBoth fits o s.0) c.in-Some.is s.2);
      looks = c.in_ok-job.ensures.looks told c.in-Some.job c.in-Some.is;
    })
    c.carry_out.ensures.inputs
    (c.in_default-carry_out.ensures.whole (new_read bytes c.in-Some.job (c.in_ok-job.ensures.new c.in-Some.job c.in-Some.is)))
