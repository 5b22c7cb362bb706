use Rattle.std.specs.Option.{is_some}
use Rattle.std.proofs.Common.{Err, Global, Ok, Option, Some, Vec, ap, refl, subst, sym, ◌∙◌}
use Rattle.vl_seglog.specs.declared.sealed.SealedLog.{SealedLog}
use Rattle.vl_compact.specs.Progress.{made_of}
use Rattle.vl_compact.specs.laws.ReadLaws.{new_read}
use Rattle.vl_disk.specs.declared.errors.NoMemory.{NoMemory}
use Rattle.vl_engine_laws.specs.laws.Carrying.{IsWatched}
use Rattle.vl_engine.proofs.MergedExits.{below_install, below_same, just_unmoved, left_halted, made_above, merge_planned, merged}
use Rattle.vl_engine.proofs.MergedExits.{never_put, none_due, one_job, put_halted, puts_in, read_to, same_drawn, unmade, unmoved, unplanned}
use Rattle.vl_engine.proofs.MergedExits.{unput}
use Rattle.vl_engine.proofs.Refusing.{below_none, below_then, leaves_store}
use Rattle.vl_engine.specs.Refusals.{moment, moved_in}
use Rattle.vl_engine.proofs.UnderWay.{handed_back_way, just_planned, none_open}
use Rattle.vl_engine_laws.specs.declared.kept.Core.{Core}
use Rattle.vl_engine.proofs.MergeRemoved.{abandoned_removing, install_unpinned, is_halted, not_put_in, put_in_removing}
use Rattle.vl_engine.proofs.MergeRemoved.{untouched_removing, was_put_in}
use Rattle.vl_engine.proofs.Whole.{begun, begun_with, collects_so, abandoned, abandoned_collecting, goes_on, none_kept, put_in}
use Rattle.vl_disk.specs.Faults.{Rose}
use Rattle.vl_engine.specs.declared.fails.MergeFail.{MergeFail}
use Rattle.vl_engine.proofs.Sure.{at_install, err_same, not_memory}
use Rattle.vl_engine.proofs.Switching.{install_idle}
use Rattle.vl_engine.proofs.Whole.{put_in_collecting, unless_halted, untouched_by, untouched_collecting}
use Rattle.vl_steps.specs.declared.fails.InstallFail.TheVariants as fails
use Rattle.vl_steps.specs.Merging.{HasAllMerge, OpensMerge, made_numbers}
use Rattle.vl_space.specs.Pinning.{PinsMerge}
use Rattle.vl_space.specs.Removing.{Removes}
use Rattle.vl_engine.specs.Whole.{kept_of}
use Rattle.vl_space.specs.declared.kept.Collecting.{Collecting}
use Rattle.vl_engine_model.specs.Jobs.{AreLent}
use Rattle.vl_engine_model.specs.Rulings.Plan.{plan_ruling}
use Rattle.vl_engine_model.specs.declared.job.Job.{Job}
use Rattle.vl_engine_model.specs.declared.layout.Layout.{Layout}
use Rattle.vl_model.specs.History.{History}
use Rattle.vl_engine.proofs.engine.Engine.merge.Goals as goal

pub carry_out-requires : goal.carry_out-requires
carry_out-requires g c =
    just_planned g.D.Watched g.D.Writer.Writer c.plan.new.self.disk c.plan.new.self.core.front.halted c.plan.new.self.merging
    c.in-Some.job
    (subst (λ (o : Option _). OpensMerge {E = NoMemory} c.args.self.now.merging c.plan.new.self.merging (Ok o)) c.in-Some.is
    c.in_ok-job.ensures.merging)
    (c.in_ok-job.ensures.new c.in-Some.job c.in-Some.is)

-- none was planned

pub returns-in_err-job-clause-stays : goal.returns-in_err-job-clause-stays
returns-in_err-job-clause-stays g c h l is stands fits =
    let watched : IsWatched g.D.Watched = record { only_now = g.met.D.Disk.only_now; counts_now = g.met.D.Disk.counts_now } in
    untouched_by g.D.Watched g.D.Held.HeldFile.bytes watched c.args.self.now.disk c.plan.new.self.disk c.args.self.now.core
    c.plan.new.self.core c.args.self.now.merging c.plan.new.self.merging h l c.plan.ensures.disk c.plan.ensures.core
    c.in_err-job.ensures.merging is stands fits

pub returns-in_default-clause-stays : goal.returns-in_default-clause-stays
returns-in_default-clause-stays g c h l is stands fits =
    let watched : IsWatched g.D.Watched = record { only_now = g.met.D.Disk.only_now; counts_now = g.met.D.Disk.counts_now } in
    untouched_by g.D.Watched g.D.Held.HeldFile.bytes watched c.args.self.now.disk c.plan.new.self.disk c.args.self.now.core
    c.plan.new.self.core c.args.self.now.merging c.plan.new.self.merging h l c.plan.ensures.disk c.plan.ensures.core
    (subst (λ (o : Option _). OpensMerge {E = NoMemory} c.args.self.now.merging c.plan.new.self.merging (Ok o)) c.in_default.is
    c.in_ok-job.ensures.merging) is stands fits

-- it wasn't carried out, and was given up

pub returns-in-Err-clause-stays : goal.returns-in-Err-clause-stays
returns-in-Err-clause-stays g c h l is stands fits =
    let watched : IsWatched g.D.Watched = record { only_now = g.met.D.Disk.only_now; counts_now = g.met.D.Disk.counts_now } in
    let bytes = g.D.Held.HeldFile.bytes in
    let opened = begun g.D.Watched watched g.D.Writer.Writer bytes NoMemory c.args.self.now.disk c.plan.new.self.disk c.args.self.now.core
    c.plan.new.self.core c.plan.new.self.merging c.in-Some.job h l c.plan.ensures.disk is c.in_ok-job.field-0 c.in-Some.is
    (c.in_ok-job.ensures.stands h l stands) (c.in_ok-job.ensures.represents h l is stands) (c.in_ok-job.ensures.fits h l stands fits)
    (c.in_ok-job.ensures.job h l stands) in
    let makes = c.in-Err.ensures.makes h opened.stays.layout opened.open_job opened.stays.represents opened.stays.stands
    opened.stays.fits opened.is_open opened.has (c.in_ok-job.ensures.looks h l stands c.in-Some.job c.in-Some.is) in
    abandoned g.D.Watched bytes c.args.self.now.disk c.carry_out.new.self.disk c.abandon.new.self.disk c.carry_out.new.self.core
    c.abandon.new.self.core c.carry_out.new.self.merging c.abandon.new.self.merging h l
    (goes_on g.D.Watched bytes c.args.self.now.disk c.plan.new.self.disk c.carry_out.new.self.disk c.plan.new.self.core
    c.carry_out.new.self.core c.plan.new.self.merging c.carry_out.new.self.merging h l opened.stays opened.alike makes.stays)
    c.abandon.ensures.disk c.abandon.ensures.core c.abandon.ensures.merging

-- its tables were put in

pub returns-in-Ok-clause-stays : goal.returns-in-Ok-clause-stays
returns-in-Ok-clause-stays g c h l is stands fits =
    let watched : IsWatched g.D.Watched = record { only_now = g.met.D.Disk.only_now; counts_now = g.met.D.Disk.counts_now } in
    let bytes = g.D.Held.HeldFile.bytes in
    let opened = begun g.D.Watched watched g.D.Writer.Writer bytes NoMemory c.args.self.now.disk c.plan.new.self.disk c.args.self.now.core
    c.plan.new.self.core c.plan.new.self.merging c.in-Some.job h l c.plan.ensures.disk is c.in_ok-job.field-0 c.in-Some.is
    (c.in_ok-job.ensures.stands h l stands) (c.in_ok-job.ensures.represents h l is stands) (c.in_ok-job.ensures.fits h l stands fits)
    (c.in_ok-job.ensures.job h l stands) in
    let makes = c.in_default-carry_out.ensures.makes h opened.stays.layout opened.open_job opened.stays.represents opened.stays.stands
    opened.stays.fits opened.is_open opened.has (c.in_ok-job.ensures.looks h l stands c.in-Some.job c.in-Some.is) in
    let s = goes_on g.D.Watched bytes c.args.self.now.disk c.plan.new.self.disk c.carry_out.new.self.disk c.plan.new.self.core
    c.carry_out.new.self.core c.plan.new.self.merging c.carry_out.new.self.merging h l opened.stays opened.alike makes.stays in
    let whole = subst (λ (j : Job). HasAllMerge g.D.Writer.Writer bytes c.carry_out.new.job j) (sym makes.job_is) makes.whole in
    let lent = subst (λ (j : Job). AreLent makes.open_job.lent (made_of c.carry_out.new.job j)) (sym makes.job_is) makes.lent in
    abandoned g.D.Watched bytes c.args.self.now.disk c.install.new.self.disk c.install.new.self.disk c.install.new.self.core
    c.install.new.self.core _ c.install.new.self.merging h l
    (put_in g.D.Watched bytes c.args.self.now.disk c.carry_out.new.self.disk c.install.new.self.disk c.carry_out.new.self.core
    c.install.new.self.core c.carry_out.new.self.merging c.install.new.self.merging h l s (makes.running ∙ opened.alike)
    makes.open_job.job (made_of c.carry_out.new.job makes.open_job.job) _ _
    (c.in-Ok.ensures.carries h s.layout makes.open_job s.represents s.stands makes.is_open whole lent)
    (c.in-Ok.ensures.fits h s.layout makes.open_job s.stands makes.is_open whole lent s.fits))
    refl refl c.in-Ok.ensures.handed

-- or weren't

pub returns-in-Err-install-clause-stays : goal.returns-in-Err-install-clause-stays
returns-in-Err-install-clause-stays g c h l is stands fits =
    let watched : IsWatched g.D.Watched = record { only_now = g.met.D.Disk.only_now; counts_now = g.met.D.Disk.counts_now } in
    let bytes = g.D.Held.HeldFile.bytes in
    let opened = begun g.D.Watched watched g.D.Writer.Writer bytes NoMemory c.args.self.now.disk c.plan.new.self.disk c.args.self.now.core
    c.plan.new.self.core c.plan.new.self.merging c.in-Some.job h l c.plan.ensures.disk is c.in_ok-job.field-0 c.in-Some.is
    (c.in_ok-job.ensures.stands h l stands) (c.in_ok-job.ensures.represents h l is stands) (c.in_ok-job.ensures.fits h l stands fits)
    (c.in_ok-job.ensures.job h l stands) in
    let makes = c.in_default-carry_out.ensures.makes h opened.stays.layout opened.open_job opened.stays.represents opened.stays.stands
    opened.stays.fits opened.is_open opened.has (c.in_ok-job.ensures.looks h l stands c.in-Some.job c.in-Some.is) in
    let s = goes_on g.D.Watched bytes c.args.self.now.disk c.plan.new.self.disk c.carry_out.new.self.disk c.plan.new.self.core
    c.carry_out.new.self.core c.plan.new.self.merging c.carry_out.new.self.merging h l opened.stays opened.alike makes.stays in
    let whole = subst (λ (j : Job). HasAllMerge g.D.Writer.Writer bytes c.carry_out.new.job j) (sym makes.job_is) makes.whole in
    let lent = subst (λ (j : Job). AreLent makes.open_job.lent (made_of c.carry_out.new.job j)) (sym makes.job_is) makes.lent in
    abandoned g.D.Watched bytes c.args.self.now.disk c.install.new.self.disk c.abandoned.new.self.disk c.install.new.self.core
    c.abandoned.new.self.core _ c.abandoned.new.self.merging h l
    (put_in g.D.Watched bytes c.args.self.now.disk c.carry_out.new.self.disk c.install.new.self.disk c.carry_out.new.self.core
    c.install.new.self.core c.carry_out.new.self.merging c.install.new.self.merging h l s (makes.running ∙ opened.alike)
    makes.open_job.job (made_of c.carry_out.new.job makes.open_job.job) _ _
    (c.in-Err-install.ensures.carries h s.layout makes.open_job s.represents s.stands makes.is_open whole lent)
    (c.in-Err-install.ensures.fits h s.layout makes.open_job s.stands makes.is_open whole lent s.fits))
    c.abandoned.ensures.disk c.abandoned.ensures.core
    (none_open c.carry_out.new.job c.carry_out.new.self.merging c.install.new.self.merging c.abandoned.new.self.merging
    c.install.new.self.removing c.abandoned.new.self.removing c.in-Err-install.fail c.in-Err-install.ensures.handed c.abandoned.ensures.ended)

-- how many entries it kept

pub returns-in_default-clause-counts : goal.returns-in_default-clause-counts
returns-in_default-clause-counts g c h l is stands fits =
    none_kept _ c.in_ok-job.field-0 (plan_ruling l h).answer c.in_default.is (c.in_ok-job.ensures.job h l stands)

pub returns-in-Ok-clause-counts : goal.returns-in-Ok-clause-counts
returns-in-Ok-clause-counts g c h l is stands fits =
    let watched : IsWatched g.D.Watched = record { only_now = g.met.D.Disk.only_now; counts_now = g.met.D.Disk.counts_now } in
    let bytes = g.D.Held.HeldFile.bytes in
    let opened = begun g.D.Watched watched g.D.Writer.Writer bytes NoMemory c.args.self.now.disk c.plan.new.self.disk c.args.self.now.core
    c.plan.new.self.core c.plan.new.self.merging c.in-Some.job h l c.plan.ensures.disk is c.in_ok-job.field-0 c.in-Some.is
    (c.in_ok-job.ensures.stands h l stands) (c.in_ok-job.ensures.represents h l is stands) (c.in_ok-job.ensures.fits h l stands fits)
    (c.in_ok-job.ensures.job h l stands) in
    let makes = c.in_default-carry_out.ensures.makes h opened.stays.layout opened.open_job opened.stays.represents opened.stays.stands
    opened.stays.fits opened.is_open opened.has (c.in_ok-job.ensures.looks h l stands c.in-Some.job c.in-Some.is) in
    ap Some (c.kept_count-kept.ensures opened.open_job.job makes.whole) ∙ ap kept_of (sym opened.planned)

-- what is kept of where space comes back from

pub returns-in_err-job-clause-collects : goal.returns-in_err-job-clause-collects
returns-in_err-job-clause-collects g c h l is stands fits has =
    let watched : IsWatched g.D.Watched = record { only_now = g.met.D.Disk.only_now; counts_now = g.met.D.Disk.counts_now } in
    untouched_collecting g.D.Watched g.D.Held.HeldFile.bytes watched c.args.self.now.disk c.plan.new.self.disk c.args.self.now.core
    c.plan.new.self.core c.args.self.now.merging c.plan.new.self.merging c.args.self.now.collecting c.plan.new.self.collecting h l
    c.plan.ensures.disk c.plan.ensures.core c.in_err-job.ensures.merging c.plan.ensures.collecting is stands fits has

pub returns-in_default-clause-collects : goal.returns-in_default-clause-collects
returns-in_default-clause-collects g c h l is stands fits has =
    let watched : IsWatched g.D.Watched = record { only_now = g.met.D.Disk.only_now; counts_now = g.met.D.Disk.counts_now } in
    untouched_collecting g.D.Watched g.D.Held.HeldFile.bytes watched c.args.self.now.disk c.plan.new.self.disk c.args.self.now.core
    c.plan.new.self.core c.args.self.now.merging c.plan.new.self.merging c.args.self.now.collecting c.plan.new.self.collecting h l
    c.plan.ensures.disk c.plan.ensures.core
    (subst (λ (o : Option _). OpensMerge {E = NoMemory} c.args.self.now.merging c.plan.new.self.merging (Ok o)) c.in_default.is
    c.in_ok-job.ensures.merging) c.plan.ensures.collecting is stands fits has

pub returns-in-Err-clause-collects : goal.returns-in-Err-clause-collects
returns-in-Err-clause-collects g c h l is stands fits has =
    let watched : IsWatched g.D.Watched = record { only_now = g.met.D.Disk.only_now; counts_now = g.met.D.Disk.counts_now } in
    let bytes = g.D.Held.HeldFile.bytes in
    let opened = begun g.D.Watched watched g.D.Writer.Writer bytes NoMemory c.args.self.now.disk c.plan.new.self.disk c.args.self.now.core
    c.plan.new.self.core c.plan.new.self.merging c.in-Some.job h l c.plan.ensures.disk is c.in_ok-job.field-0 c.in-Some.is
    (c.in_ok-job.ensures.stands h l stands) (c.in_ok-job.ensures.represents h l is stands) (c.in_ok-job.ensures.fits h l stands fits)
    (c.in_ok-job.ensures.job h l stands) in
    let makes = c.in-Err.ensures.makes h opened.stays.layout opened.open_job opened.stays.represents opened.stays.stands
    opened.stays.fits opened.is_open opened.has (c.in_ok-job.ensures.looks h l stands c.in-Some.job c.in-Some.is) in
    let s = goes_on g.D.Watched bytes c.args.self.now.disk c.plan.new.self.disk c.carry_out.new.self.disk c.plan.new.self.core
    c.carry_out.new.self.core c.plan.new.self.merging c.carry_out.new.self.merging h l opened.stays opened.alike makes.stays in
    let collects = collects_so c.args.self.now.core c.carry_out.new.self.core c.args.self.now.collecting
    c.carry_out.new.self.collecting l makes.stays.layout s.same (makes.levels ∙ opened.tables.levels)
    (makes.flushed ∙ opened.tables.flushed)
    (ap (λ (v : Vec (SealedLog g.row.D-Held.Denot) Global). v.items) c.carry_out.ensures.logs
    ∙ ap (λ (k : Core g.row.D-Held.Denot). k.version.behind.logs.items) c.plan.ensures.core)
    (c.carry_out.ensures.collecting ∙ c.plan.ensures.collecting) has in
    abandoned_collecting g.D.Watched bytes c.args.self.now.disk c.carry_out.new.self.disk c.abandon.new.self.disk
    c.carry_out.new.self.core c.abandon.new.self.core c.carry_out.new.self.merging c.abandon.new.self.merging
    c.carry_out.new.self.collecting c.abandon.new.self.collecting h l s collects c.abandon.ensures.disk c.abandon.ensures.core
    c.abandon.ensures.merging c.abandon.ensures.collecting

pub returns-in-Ok-clause-collects : goal.returns-in-Ok-clause-collects
returns-in-Ok-clause-collects g c h l is stands fits has =
    let watched : IsWatched g.D.Watched = record { only_now = g.met.D.Disk.only_now; counts_now = g.met.D.Disk.counts_now } in
    let bytes = g.D.Held.HeldFile.bytes in
    let opened = begun g.D.Watched watched g.D.Writer.Writer bytes NoMemory c.args.self.now.disk c.plan.new.self.disk c.args.self.now.core
    c.plan.new.self.core c.plan.new.self.merging c.in-Some.job h l c.plan.ensures.disk is c.in_ok-job.field-0 c.in-Some.is
    (c.in_ok-job.ensures.stands h l stands) (c.in_ok-job.ensures.represents h l is stands) (c.in_ok-job.ensures.fits h l stands fits)
    (c.in_ok-job.ensures.job h l stands) in
    let makes = c.in_default-carry_out.ensures.makes h opened.stays.layout opened.open_job opened.stays.represents opened.stays.stands
    opened.stays.fits opened.is_open opened.has (c.in_ok-job.ensures.looks h l stands c.in-Some.job c.in-Some.is) in
    let s = goes_on g.D.Watched bytes c.args.self.now.disk c.plan.new.self.disk c.carry_out.new.self.disk c.plan.new.self.core
    c.carry_out.new.self.core c.plan.new.self.merging c.carry_out.new.self.merging h l opened.stays opened.alike makes.stays in
    let collects = collects_so c.args.self.now.core c.carry_out.new.self.core c.args.self.now.collecting
    c.carry_out.new.self.collecting l makes.stays.layout s.same (makes.levels ∙ opened.tables.levels)
    (makes.flushed ∙ opened.tables.flushed)
    (ap (λ (v : Vec (SealedLog g.row.D-Held.Denot) Global). v.items) c.carry_out.ensures.logs
    ∙ ap (λ (k : Core g.row.D-Held.Denot). k.version.behind.logs.items) c.plan.ensures.core)
    (c.carry_out.ensures.collecting ∙ c.plan.ensures.collecting) has in
    let whole = subst (λ (j : Job). HasAllMerge g.D.Writer.Writer bytes c.carry_out.new.job j) (sym makes.job_is) makes.whole in
    let lent = subst (λ (j : Job). AreLent makes.open_job.lent (made_of c.carry_out.new.job j)) (sym makes.job_is) makes.lent in
    let put = put_in_collecting g.D.Watched bytes c.args.self.now.disk c.carry_out.new.self.disk c.install.new.self.disk
    c.carry_out.new.self.core c.install.new.self.core c.carry_out.new.self.merging c.install.new.self.merging h l s
    (makes.running ∙ opened.alike) c.install.new.self.collecting makes.open_job.job (made_of c.carry_out.new.job makes.open_job.job) _ _
    (c.in-Ok.ensures.carries h s.layout makes.open_job s.represents s.stands makes.is_open whole lent)
    (c.in-Ok.ensures.fits h s.layout makes.open_job s.stands makes.is_open whole lent s.fits)
    (unless_halted c.carry_out.new.self.core (g.D.Watched.told c.carry_out.new.self.disk) h s.layout s.stands.stands.fronts s.fits _
    (λ state told files. c.in-Ok.ensures.collects state h s.layout makes.open_job told s.stands makes.is_open files whole lent collects)
    (λ name halted. install_idle c.carry_out.new.self.core c.install.new.self.core c.carry_out.new.self.collecting
    c.install.new.self.collecting _ h s.layout makes.open_job.job (made_of c.carry_out.new.job makes.open_job.job) _ (fails.Halted name)
    _ (c.in-Ok.ensures.halted name halted) c.in-Ok.ensures.core (c.in-Ok.ensures.idle name halted) collects
    (c.in-Ok.ensures.carries h s.layout makes.open_job s.represents s.stands makes.is_open whole lent).decides)) in
    abandoned_collecting g.D.Watched bytes c.args.self.now.disk c.install.new.self.disk c.install.new.self.disk
    c.install.new.self.core c.install.new.self.core _ c.install.new.self.merging c.install.new.self.collecting
    c.install.new.self.collecting h l put.stays put.collects refl refl c.in-Ok.ensures.handed refl

pub returns-in-Err-install-clause-collects : goal.returns-in-Err-install-clause-collects
returns-in-Err-install-clause-collects g c h l is stands fits has =
    let watched : IsWatched g.D.Watched = record { only_now = g.met.D.Disk.only_now; counts_now = g.met.D.Disk.counts_now } in
    let bytes = g.D.Held.HeldFile.bytes in
    let opened = begun g.D.Watched watched g.D.Writer.Writer bytes NoMemory c.args.self.now.disk c.plan.new.self.disk c.args.self.now.core
    c.plan.new.self.core c.plan.new.self.merging c.in-Some.job h l c.plan.ensures.disk is c.in_ok-job.field-0 c.in-Some.is
    (c.in_ok-job.ensures.stands h l stands) (c.in_ok-job.ensures.represents h l is stands) (c.in_ok-job.ensures.fits h l stands fits)
    (c.in_ok-job.ensures.job h l stands) in
    let makes = c.in_default-carry_out.ensures.makes h opened.stays.layout opened.open_job opened.stays.represents opened.stays.stands
    opened.stays.fits opened.is_open opened.has (c.in_ok-job.ensures.looks h l stands c.in-Some.job c.in-Some.is) in
    let s = goes_on g.D.Watched bytes c.args.self.now.disk c.plan.new.self.disk c.carry_out.new.self.disk c.plan.new.self.core
    c.carry_out.new.self.core c.plan.new.self.merging c.carry_out.new.self.merging h l opened.stays opened.alike makes.stays in
    let collects = collects_so c.args.self.now.core c.carry_out.new.self.core c.args.self.now.collecting
    c.carry_out.new.self.collecting l makes.stays.layout s.same (makes.levels ∙ opened.tables.levels)
    (makes.flushed ∙ opened.tables.flushed)
    (ap (λ (v : Vec (SealedLog g.row.D-Held.Denot) Global). v.items) c.carry_out.ensures.logs
    ∙ ap (λ (k : Core g.row.D-Held.Denot). k.version.behind.logs.items) c.plan.ensures.core)
    (c.carry_out.ensures.collecting ∙ c.plan.ensures.collecting) has in
    let whole = subst (λ (j : Job). HasAllMerge g.D.Writer.Writer bytes c.carry_out.new.job j) (sym makes.job_is) makes.whole in
    let lent = subst (λ (j : Job). AreLent makes.open_job.lent (made_of c.carry_out.new.job j)) (sym makes.job_is) makes.lent in
    let put = put_in_collecting g.D.Watched bytes c.args.self.now.disk c.carry_out.new.self.disk c.install.new.self.disk
    c.carry_out.new.self.core c.install.new.self.core c.carry_out.new.self.merging c.install.new.self.merging h l s
    (makes.running ∙ opened.alike) c.install.new.self.collecting makes.open_job.job (made_of c.carry_out.new.job makes.open_job.job) _ _
    (c.in-Err-install.ensures.carries h s.layout makes.open_job s.represents s.stands makes.is_open whole lent)
    (c.in-Err-install.ensures.fits h s.layout makes.open_job s.stands makes.is_open whole lent s.fits)
    (unless_halted c.carry_out.new.self.core (g.D.Watched.told c.carry_out.new.self.disk) h s.layout s.stands.stands.fronts s.fits _
    (λ state told files. c.in-Err-install.ensures.collects state h s.layout makes.open_job told s.stands makes.is_open
    files whole lent collects)
    (λ name halted. install_idle c.carry_out.new.self.core c.install.new.self.core c.carry_out.new.self.collecting
    c.install.new.self.collecting _ h s.layout makes.open_job.job (made_of c.carry_out.new.job makes.open_job.job) _ (fails.Halted name)
    _ (c.in-Err-install.ensures.halted name halted) c.in-Err-install.ensures.core (c.in-Err-install.ensures.idle name halted) collects
    (c.in-Err-install.ensures.carries h s.layout makes.open_job s.represents s.stands makes.is_open whole lent).decides)) in
    abandoned_collecting g.D.Watched bytes c.args.self.now.disk c.install.new.self.disk c.abandoned.new.self.disk
    c.install.new.self.core c.abandoned.new.self.core _ c.abandoned.new.self.merging c.install.new.self.collecting
    c.abandoned.new.self.collecting h l put.stays put.collects c.abandoned.ensures.disk c.abandoned.ensures.core
    (none_open c.carry_out.new.job c.carry_out.new.self.merging c.install.new.self.merging c.abandoned.new.self.merging
    c.install.new.self.removing c.abandoned.new.self.removing c.in-Err-install.fail c.in-Err-install.ensures.handed c.abandoned.ensures.ended)
    c.abandoned.ensures.collecting

-- which pass is open

pub returns-in_err-job-clause-passing : goal.returns-in_err-job-clause-passing
returns-in_err-job-clause-passing g c = ap (λ (k : Collecting). k.passing) c.plan.ensures.collecting

pub returns-in_default-clause-passing : goal.returns-in_default-clause-passing
returns-in_default-clause-passing g c = ap (λ (k : Collecting). k.passing) c.plan.ensures.collecting

pub returns-in-Err-clause-passing : goal.returns-in-Err-clause-passing
returns-in-Err-clause-passing g c =
    ap (λ (k : Collecting). k.passing)
    (c.abandon.ensures.collecting ∙ c.carry_out.ensures.collecting ∙ c.plan.ensures.collecting)

pub returns-in-Ok-clause-passing : goal.returns-in-Ok-clause-passing
returns-in-Ok-clause-passing g c =
    c.in-Ok.ensures.passing ∙ ap (λ (k : Collecting). k.passing) (c.carry_out.ensures.collecting ∙ c.plan.ensures.collecting)

pub returns-in-Err-install-clause-passing : goal.returns-in-Err-install-clause-passing
returns-in-Err-install-clause-passing g c =
    ap (λ (k : Collecting). k.passing) c.abandoned.ensures.collecting ∙ c.in-Err-install.ensures.passing
    ∙ ap (λ (k : Collecting). k.passing) (c.carry_out.ensures.collecting ∙ c.plan.ensures.collecting)

pub abandoned-requires : goal.abandoned-requires
abandoned-requires g c =
    handed_back_way g.D.Watched c.carry_out.new.self.disk c.install.new.self.disk c.carry_out.new.self.core c.install.new.self.core
    c.carry_out.new.job c.carry_out.new.self.merging c.install.new.self.merging c.in-Err-install.fail
    c.in_default-carry_out.ensures.handed c.in-Err-install.ensures.handed c.in-Err-install.ensures.core
    c.in-Err-install.ensures.untouched

-- what is kept of which files can go

pub returns-in_err-job-clause-removes : goal.returns-in_err-job-clause-removes
returns-in_err-job-clause-removes g c h l is stands fits has removes =
    let watched : IsWatched g.D.Watched = record { only_now = g.met.D.Disk.only_now; counts_now = g.met.D.Disk.counts_now } in
    untouched_removing g.D.Watched g.D.Held.HeldFile.bytes watched c.args.self.now.disk c.plan.new.self.disk c.args.self.now.core
    c.plan.new.self.core c.args.self.now.merging c.plan.new.self.merging c.args.self.now.collecting c.plan.new.self.collecting
    c.args.self.now.removing c.plan.new.self.removing h l c.plan.ensures.disk c.plan.ensures.core c.in_err-job.ensures.merging
    c.plan.ensures.collecting c.in_err-job.ensures.removing is stands fits has removes

pub returns-in_default-clause-removes : goal.returns-in_default-clause-removes
returns-in_default-clause-removes g c h l is stands fits has removes =
    let watched : IsWatched g.D.Watched = record { only_now = g.met.D.Disk.only_now; counts_now = g.met.D.Disk.counts_now } in
    untouched_removing g.D.Watched g.D.Held.HeldFile.bytes watched c.args.self.now.disk c.plan.new.self.disk c.args.self.now.core
    c.plan.new.self.core c.args.self.now.merging c.plan.new.self.merging c.args.self.now.collecting c.plan.new.self.collecting
    c.args.self.now.removing c.plan.new.self.removing h l c.plan.ensures.disk c.plan.ensures.core
    (subst (λ (o : Option _). OpensMerge {E = NoMemory} c.args.self.now.merging c.plan.new.self.merging (Ok o)) c.in_default.is
    c.in_ok-job.ensures.merging) c.plan.ensures.collecting
    (subst (λ (o : Option _). PinsMerge {E = NoMemory} c.args.self.now.core.back.epoch c.args.self.now.removing
    c.plan.new.self.removing (Ok o)) c.in_default.is c.in_ok-job.ensures.removing) is stands fits has removes

pub returns-in-Err-clause-removes : goal.returns-in-Err-clause-removes
returns-in-Err-clause-removes g c h l is stands fits has removes =
    let watched : IsWatched g.D.Watched = record { only_now = g.met.D.Disk.only_now; counts_now = g.met.D.Disk.counts_now } in
    let bytes = g.D.Held.HeldFile.bytes in
    let (opened, pinned) = begun_with g.D.Watched watched g.D.Writer.Writer bytes
    (λ (k : History) (y : Layout). Removes c.plan.new.self.core c.plan.new.self.removing y) NoMemory c.args.self.now.disk
    c.plan.new.self.disk c.args.self.now.core c.plan.new.self.core c.plan.new.self.merging c.in-Some.job h l c.plan.ensures.disk is
    c.in_ok-job.field-0 c.in-Some.is (c.in_ok-job.ensures.stands h l stands) (c.in_ok-job.ensures.represents h l is stands)
    (c.in_ok-job.ensures.fits h l stands fits) (c.in_ok-job.ensures.job h l stands)
    (c.in_ok-job.ensures.removes h l stands removes) in
    let made = c.in-Err.ensures.removes h opened.stays.layout opened.open_job opened.stays.represents opened.stays.stands
    opened.stays.fits opened.is_open opened.has (c.in_ok-job.ensures.looks h l stands c.in-Some.job c.in-Some.is) pinned in
    let makes = made.makes in
    let s = goes_on g.D.Watched bytes c.args.self.now.disk c.plan.new.self.disk c.carry_out.new.self.disk c.plan.new.self.core
    c.carry_out.new.self.core c.plan.new.self.merging c.carry_out.new.self.merging h l opened.stays opened.alike makes.stays in
    let collects = collects_so c.args.self.now.core c.carry_out.new.self.core c.args.self.now.collecting
    c.carry_out.new.self.collecting l makes.stays.layout s.same (makes.levels ∙ opened.tables.levels)
    (makes.flushed ∙ opened.tables.flushed)
    (ap (λ (v : Vec (SealedLog g.row.D-Held.Denot) Global). v.items) c.carry_out.ensures.logs
    ∙ ap (λ (k : Core g.row.D-Held.Denot). k.version.behind.logs.items) c.plan.ensures.core)
    (c.carry_out.ensures.collecting ∙ c.plan.ensures.collecting) has in
    abandoned_removing g.D.Watched bytes g.D.Writer.Writer c.args.self.now.disk c.carry_out.new.self.disk c.abandon.new.self.disk
    c.carry_out.new.self.core c.abandon.new.self.core c.carry_out.new.self.merging c.abandon.new.self.merging
    c.carry_out.new.self.collecting c.abandon.new.self.collecting c.carry_out.new.job c.carry_out.new.self.removing
    c.abandon.new.self.removing h l s collects made.removes makes.open_job makes.is_open c.carry_out.ensures.under_way
    c.carry_out.new.self.there c.abandon.ensures.left c.abandon.ensures.pins c.abandon.ensures.disk c.abandon.ensures.core
    c.abandon.ensures.merging c.abandon.ensures.collecting

pub returns-in-Ok-clause-removes : goal.returns-in-Ok-clause-removes
returns-in-Ok-clause-removes g c h l is stands fits has removes =
    let watched : IsWatched g.D.Watched = record { only_now = g.met.D.Disk.only_now; counts_now = g.met.D.Disk.counts_now } in
    let bytes = g.D.Held.HeldFile.bytes in
    let (opened, pinned) = begun_with g.D.Watched watched g.D.Writer.Writer bytes
    (λ (k : History) (y : Layout). Removes c.plan.new.self.core c.plan.new.self.removing y) NoMemory c.args.self.now.disk
    c.plan.new.self.disk c.args.self.now.core c.plan.new.self.core c.plan.new.self.merging c.in-Some.job h l c.plan.ensures.disk is
    c.in_ok-job.field-0 c.in-Some.is (c.in_ok-job.ensures.stands h l stands) (c.in_ok-job.ensures.represents h l is stands)
    (c.in_ok-job.ensures.fits h l stands fits) (c.in_ok-job.ensures.job h l stands)
    (c.in_ok-job.ensures.removes h l stands removes) in
    let made = c.in_default-carry_out.ensures.removes h opened.stays.layout opened.open_job opened.stays.represents opened.stays.stands
    opened.stays.fits opened.is_open opened.has (c.in_ok-job.ensures.looks h l stands c.in-Some.job c.in-Some.is) pinned in
    let makes = made.makes in
    let s = goes_on g.D.Watched bytes c.args.self.now.disk c.plan.new.self.disk c.carry_out.new.self.disk c.plan.new.self.core
    c.carry_out.new.self.core c.plan.new.self.merging c.carry_out.new.self.merging h l opened.stays opened.alike makes.stays in
    let collects = collects_so c.args.self.now.core c.carry_out.new.self.core c.args.self.now.collecting
    c.carry_out.new.self.collecting l makes.stays.layout s.same (makes.levels ∙ opened.tables.levels)
    (makes.flushed ∙ opened.tables.flushed)
    (ap (λ (v : Vec (SealedLog g.row.D-Held.Denot) Global). v.items) c.carry_out.ensures.logs
    ∙ ap (λ (k : Core g.row.D-Held.Denot). k.version.behind.logs.items) c.plan.ensures.core)
    (c.carry_out.ensures.collecting ∙ c.plan.ensures.collecting) has in
    let whole = subst (λ (j : Job). HasAllMerge g.D.Writer.Writer bytes c.carry_out.new.job j) (sym makes.job_is) makes.whole in
    let lent = subst (λ (j : Job). AreLent makes.open_job.lent (made_of c.carry_out.new.job j)) (sym makes.job_is) makes.lent in
    let carries = c.in-Ok.ensures.carries h s.layout makes.open_job s.represents s.stands makes.is_open whole lent in
    let fitting = c.in-Ok.ensures.fits h s.layout makes.open_job s.stands makes.is_open whole lent s.fits in
    let collecting = unless_halted c.carry_out.new.self.core (g.D.Watched.told c.carry_out.new.self.disk) h s.layout s.stands.stands.fronts
    s.fits _
    (λ state told files. c.in-Ok.ensures.collects state h s.layout makes.open_job told s.stands makes.is_open files whole lent
    collects)
    (λ name halted. install_idle c.carry_out.new.self.core c.install.new.self.core c.carry_out.new.self.collecting
    c.install.new.self.collecting _ h s.layout makes.open_job.job (made_of c.carry_out.new.job makes.open_job.job) _ (fails.Halted name)
    _ (c.in-Ok.ensures.halted name halted) c.in-Ok.ensures.core (c.in-Ok.ensures.idle name halted) collects carries.decides) in
    let removing = unless_halted c.carry_out.new.self.core (g.D.Watched.told c.carry_out.new.self.disk) h s.layout s.stands.stands.fronts
    s.fits _
    (λ state told files. c.in-Ok.ensures.removes state h s.layout makes.open_job told s.stands makes.is_open files whole lent
    collects made.removes)
    (λ name halted. install_unpinned c.install.new.self.core c.carry_out.new.self.removing c.install.new.self.removing _ h s.layout
    makes.open_job.job (made_of c.carry_out.new.job makes.open_job.job) _ name _ (c.in-Ok.ensures.halted name halted)
    (is_halted c.carry_out.new.self.core h s.layout name s.stands.stands.fronts halted) (c.in-Ok.ensures.unpinned name halted)
    c.carry_out.new.self.core made.removes carries.decides) in
    was_put_in g.D.Watched bytes c.args.self.now.disk c.install.new.self.disk c.install.new.self.core c.install.new.self.merging
    c.install.new.self.collecting c.install.new.self.removing h l c.in-Ok.ensures.handed
    (put_in_removing g.D.Watched bytes c.args.self.now.disk c.carry_out.new.self.disk c.install.new.self.disk
    c.carry_out.new.self.core c.install.new.self.core c.carry_out.new.self.merging h l s (makes.running ∙ opened.alike)
    c.install.new.self.collecting makes.open_job.job (made_of c.carry_out.new.job makes.open_job.job) _ c.install.new.self.removing _
    carries fitting collecting removing tt)

pub returns-in-Err-install-clause-removes : goal.returns-in-Err-install-clause-removes
returns-in-Err-install-clause-removes g c h l is stands fits has removes =
    let watched : IsWatched g.D.Watched = record { only_now = g.met.D.Disk.only_now; counts_now = g.met.D.Disk.counts_now } in
    let bytes = g.D.Held.HeldFile.bytes in
    let (opened, pinned) = begun_with g.D.Watched watched g.D.Writer.Writer bytes
    (λ (k : History) (y : Layout). Removes c.plan.new.self.core c.plan.new.self.removing y) NoMemory c.args.self.now.disk
    c.plan.new.self.disk c.args.self.now.core c.plan.new.self.core c.plan.new.self.merging c.in-Some.job h l c.plan.ensures.disk is
    c.in_ok-job.field-0 c.in-Some.is (c.in_ok-job.ensures.stands h l stands) (c.in_ok-job.ensures.represents h l is stands)
    (c.in_ok-job.ensures.fits h l stands fits) (c.in_ok-job.ensures.job h l stands)
    (c.in_ok-job.ensures.removes h l stands removes) in
    let made = c.in_default-carry_out.ensures.removes h opened.stays.layout opened.open_job opened.stays.represents opened.stays.stands
    opened.stays.fits opened.is_open opened.has (c.in_ok-job.ensures.looks h l stands c.in-Some.job c.in-Some.is) pinned in
    let makes = made.makes in
    let s = goes_on g.D.Watched bytes c.args.self.now.disk c.plan.new.self.disk c.carry_out.new.self.disk c.plan.new.self.core
    c.carry_out.new.self.core c.plan.new.self.merging c.carry_out.new.self.merging h l opened.stays opened.alike makes.stays in
    let collects = collects_so c.args.self.now.core c.carry_out.new.self.core c.args.self.now.collecting
    c.carry_out.new.self.collecting l makes.stays.layout s.same (makes.levels ∙ opened.tables.levels)
    (makes.flushed ∙ opened.tables.flushed)
    (ap (λ (v : Vec (SealedLog g.row.D-Held.Denot) Global). v.items) c.carry_out.ensures.logs
    ∙ ap (λ (k : Core g.row.D-Held.Denot). k.version.behind.logs.items) c.plan.ensures.core)
    (c.carry_out.ensures.collecting ∙ c.plan.ensures.collecting) has in
    let whole = subst (λ (j : Job). HasAllMerge g.D.Writer.Writer bytes c.carry_out.new.job j) (sym makes.job_is) makes.whole in
    let lent = subst (λ (j : Job). AreLent makes.open_job.lent (made_of c.carry_out.new.job j)) (sym makes.job_is) makes.lent in
    let carries = c.in-Err-install.ensures.carries h s.layout makes.open_job s.represents s.stands makes.is_open whole lent in
    let fitting = c.in-Err-install.ensures.fits h s.layout makes.open_job s.stands makes.is_open whole lent s.fits in
    let collecting = unless_halted c.carry_out.new.self.core (g.D.Watched.told c.carry_out.new.self.disk) h s.layout s.stands.stands.fronts
    s.fits _
    (λ state told files. c.in-Err-install.ensures.collects state h s.layout makes.open_job told s.stands makes.is_open files whole lent
    collects)
    (λ name halted. install_idle c.carry_out.new.self.core c.install.new.self.core c.carry_out.new.self.collecting
    c.install.new.self.collecting _ h s.layout makes.open_job.job (made_of c.carry_out.new.job makes.open_job.job) _ (fails.Halted name)
    _ (c.in-Err-install.ensures.halted name halted) c.in-Err-install.ensures.core (c.in-Err-install.ensures.idle name halted) collects
    carries.decides) in
    let removing = unless_halted c.carry_out.new.self.core (g.D.Watched.told c.carry_out.new.self.disk) h s.layout s.stands.stands.fronts
    s.fits _
    (λ state told files. c.in-Err-install.ensures.removes state h s.layout makes.open_job told s.stands makes.is_open files whole lent
    collects made.removes)
    (λ name halted. install_unpinned c.install.new.self.core c.carry_out.new.self.removing c.install.new.self.removing _ h s.layout
    makes.open_job.job (made_of c.carry_out.new.job makes.open_job.job) _ name _ (c.in-Err-install.ensures.halted name halted)
    (is_halted c.carry_out.new.self.core h s.layout name s.stands.stands.fronts halted) (c.in-Err-install.ensures.unpinned name halted)
    c.carry_out.new.self.core made.removes carries.decides) in
    not_put_in g.D.Watched bytes c.args.self.now.disk c.carry_out.new.self.disk c.install.new.self.disk c.abandoned.new.self.disk
    c.carry_out.new.self.core c.install.new.self.core c.abandoned.new.self.core c.carry_out.new.self.merging c.install.new.self.merging
    c.abandoned.new.self.merging h l s (makes.running ∙ opened.alike) c.install.new.self.collecting c.abandoned.new.self.collecting
    c.install.new.self.removing c.abandoned.new.self.removing c.carry_out.new.job makes.open_job makes.is_open
    (made_of c.carry_out.new.job makes.open_job.job) _ c.install.new.self.there c.abandoned.ensures.disk c.abandoned.ensures.core
    c.abandoned.ensures.collecting c.in-Err-install.fail carries fitting collecting removing c.in-Err-install.ensures.handed
    c.abandoned.ensures.ended
    (handed_back_way g.D.Watched c.carry_out.new.self.disk c.install.new.self.disk c.carry_out.new.self.core c.install.new.self.core
    c.carry_out.new.job c.carry_out.new.self.merging c.install.new.self.merging c.in-Err-install.fail c.in_default-carry_out.ensures.handed
    c.in-Err-install.ensures.handed c.in-Err-install.ensures.core c.in-Err-install.ensures.untouched)

-- ---- what it answers has its cause

pub returns-in_err-job-clause-as_merged : goal.returns-in_err-job-clause-as_merged
returns-in_err-job-clause-as_merged g c =
    let old = moment c.args.self.now.core c.args.self.now.merging c.args.self.now.disk in
    let p = moment c.plan.new.self.core c.plan.new.self.merging c.plan.new.self.disk in
    unplanned g.D.Watched g.D.Writer.Writer g.D.Held.HeldFile.bytes (λ r. g.D.Reader.Reader.faults r) old p
    (same_drawn g.D.Watched old p (record { core = c.plan.ensures.core; disk = c.plan.ensures.disk })) c.from_residual.result
    c.from_residual.ensures.1

pub returns-in_default-clause-as_merged : goal.returns-in_default-clause-as_merged
returns-in_default-clause-as_merged g c = (c.plan.ensures.core, c.plan.ensures.disk)

pub returns-in-Err-clause-as_merged : goal.returns-in-Err-clause-as_merged
returns-in-Err-clause-as_merged g c =
    unmade g.D.Watched g.D.Writer.Writer g.D.Held.HeldFile.bytes (λ r. g.D.Reader.Reader.faults r)
    (moment c.args.self.now.core c.args.self.now.merging c.args.self.now.disk)
    (moment c.plan.new.self.core c.plan.new.self.merging c.plan.new.self.disk)
    (moment c.carry_out.new.self.core c.carry_out.new.self.merging c.carry_out.new.self.disk)
    (moment c.abandon.new.self.core c.abandon.new.self.merging c.abandon.new.self.disk) c.in-Some.job c.carry_out.new.job.after
    (record { core = c.plan.ensures.core; disk = c.plan.ensures.disk })
    (record { core = c.abandon.ensures.core; disk = c.abandon.ensures.disk })
    (record {
      version = c.in_ok-job.ensures.base c.in-Some.job c.in-Some.is;
      planned = λ h l stands. merge_planned g.D.Writer.Writer g.D.Held.HeldFile.bytes c.in-Some.job c.in_ok-job.field-0
          (plan_ruling l h).answer c.in-Some.is (c.in_ok-job.ensures.job h l stands);
    })
    (read_to g.D.Watched g.D.Writer.Writer g.D.Held.HeldFile.bytes (λ r. g.D.Reader.Reader.faults r)
    (moment c.args.self.now.core c.args.self.now.merging c.args.self.now.disk) c.in-Some.job c.carry_out.new.job c.carry_out.ensures.inputs
    (c.carry_out.ensures.read (new_read g.D.Held.HeldFile.bytes c.in-Some.job (c.in_ok-job.ensures.new c.in-Some.job c.in-Some.is))))
    c.in-Err.fail c.in-Err.ensures.as_made

pub returns-in-Ok-clause-as_merged : goal.returns-in-Ok-clause-as_merged
returns-in-Ok-clause-as_merged g c =
    merged g.D.Watched g.D.Writer.Writer g.D.Held.HeldFile.bytes (λ r. g.D.Reader.Reader.faults r)
    (moment c.args.self.now.core c.args.self.now.merging c.args.self.now.disk)
    (moment c.plan.new.self.core c.plan.new.self.merging c.plan.new.self.disk)
    (moment c.carry_out.new.self.core c.carry_out.new.self.merging c.carry_out.new.self.disk)
    (moment c.install.new.self.core c.install.new.self.merging c.install.new.self.disk) c.in-Some.job c.carry_out.new.job
    (record { core = c.plan.ensures.core; disk = c.plan.ensures.disk })
    (record {
      version = c.in_ok-job.ensures.base c.in-Some.job c.in-Some.is;
      planned = λ h l stands. merge_planned g.D.Writer.Writer g.D.Held.HeldFile.bytes c.in-Some.job c.in_ok-job.field-0
          (plan_ruling l h).answer c.in-Some.is (c.in_ok-job.ensures.job h l stands);
    })
    c.carry_out.ensures.inputs
    (c.in_default-carry_out.ensures.whole
    (new_read g.D.Held.HeldFile.bytes c.in-Some.job (c.in_ok-job.ensures.new c.in-Some.job c.in-Some.is)))
    c.in_default-carry_out.ensures.as_made c.in-Ok.ensures.core
    c.in-Ok.ensures.written c.in-Ok.ensures.calls c.in-Ok.ensures.cause

pub returns-in-Err-install-clause-as_merged : goal.returns-in-Err-install-clause-as_merged
returns-in-Err-install-clause-as_merged g c =
    unput g.D.Watched g.D.Writer.Writer g.D.Held.HeldFile.bytes (λ r. g.D.Reader.Reader.faults r)
    (moment c.args.self.now.core c.args.self.now.merging c.args.self.now.disk)
    (moment c.plan.new.self.core c.plan.new.self.merging c.plan.new.self.disk)
    (moment c.carry_out.new.self.core c.carry_out.new.self.merging c.carry_out.new.self.disk)
    (moment c.install.new.self.core c.install.new.self.merging c.install.new.self.disk)
    (moment c.abandoned.new.self.core c.abandoned.new.self.merging c.abandoned.new.self.disk) c.carry_out.new.job
    (record { core = c.plan.ensures.core; disk = c.plan.ensures.disk })
    (record { core = c.abandoned.ensures.core; disk = c.abandoned.ensures.disk }) c.in_default-carry_out.ensures.as_made
    c.in-Err-install.fail c.in-Err-install.ensures.core c.in-Err-install.ensures.untouched c.in-Err-install.ensures.stopped
    c.in-Err-install.ensures.cause
    (λ key n is. unmoved (moved_in c.carry_out.new.self.merging) c.carry_out.new.job.needless.items (key, n)
    (just_unmoved c.plan.new.self.core.back.state.next_table c.plan.new.self.merging c.carry_out.new.self.merging
    (subst (λ (o : Option _). OpensMerge {E = NoMemory} c.args.self.now.merging c.plan.new.self.merging (Ok o)) c.in-Some.is
    c.in_ok-job.ensures.merging) c.carry_out.ensures.lends) (c.in-Err-install.ensures.raced key n is))
    c.abandoned.result c.abandoned.ensures.refusal

-- over a disk that gives what never fails

pub returns-in_err-job-clause-sure : goal.returns-in_err-job-clause-sure
returns-in_err-job-clause-sure g c name gives at = absurd (not_memory c.from_residual.result name c.from_residual.ensures.1 at)

pub returns-in-Err-clause-sure : goal.returns-in-Err-clause-sure
returns-in-Err-clause-sure g c name gives at =
    subst (λ (d : g.row.D.Denot). Rose (g.D.Watched.faults d) (g.D.Watched.faults c.abandon.new.self.disk)) c.plan.ensures.disk
    (subst (λ (d : g.row.D.Denot). Rose (g.D.Watched.faults c.plan.new.self.disk) (g.D.Watched.faults d)) (sym c.abandon.ensures.disk)
    (c.carry_out.ensures.sure name (subst g.D.Watched.gives_steady (sym c.plan.ensures.disk) gives) (c.in-Err.is ∙ ap (λ (f : MergeFail). Err f) (err_same _ _ _ refl at))))

pub returns-in-Err-install-clause-sure : goal.returns-in-Err-install-clause-sure
returns-in-Err-install-clause-sure g c name gives at =
    subst (λ (d : g.row.D.Denot). Rose (g.D.Watched.faults c.args.self.now.disk) (g.D.Watched.faults d)) (sym c.abandoned.ensures.disk)
    (at_install _ _ _ c.in-Err-install.fail c.abandoned.result name
    (c.in_default-carry_out.ensures.as_made.steady ∙ ap g.D.Watched.faults c.plan.ensures.disk)
    c.in-Err-install.ensures.cause c.abandoned.ensures.refusal (err_same _ _ _ refl at))

-- a halted engine did nothing

pub returns-in_err-job-clause-untouched : goal.returns-in_err-job-clause-untouched
returns-in_err-job-clause-untouched g c name is =
    leaves_store g.D.Watched (moment c.args.self.now.core c.args.self.now.merging c.args.self.now.disk)
    (moment c.plan.new.self.core c.plan.new.self.merging c.plan.new.self.disk) (c.plan.ensures.core, c.plan.ensures.disk)

pub returns-in_default-clause-untouched : goal.returns-in_default-clause-untouched
returns-in_default-clause-untouched g c name is =
    leaves_store g.D.Watched (moment c.args.self.now.core c.args.self.now.merging c.args.self.now.disk)
    (moment c.plan.new.self.core c.plan.new.self.merging c.plan.new.self.disk) (c.plan.ensures.core, c.plan.ensures.disk)

pub returns-in-Err-clause-untouched : goal.returns-in-Err-clause-untouched
returns-in-Err-clause-untouched g c name is =
    left_halted g.D.Watched (moment c.args.self.now.core c.args.self.now.merging c.args.self.now.disk)
    (moment c.plan.new.self.core c.plan.new.self.merging c.plan.new.self.disk)
    (moment c.carry_out.new.self.core c.carry_out.new.self.merging c.carry_out.new.self.disk)
    (record { core = c.plan.ensures.core; disk = c.plan.ensures.disk }) name is
    (moment c.abandon.new.self.core c.abandon.new.self.merging c.abandon.new.self.disk)
    (record { core = c.abandon.ensures.core; disk = c.abandon.ensures.disk }) c.carry_out.ensures.idle

pub returns-in-Ok-clause-untouched : goal.returns-in-Ok-clause-untouched
returns-in-Ok-clause-untouched g c name is =
    never_put g.D.Watched (moment c.args.self.now.core c.args.self.now.merging c.args.self.now.disk)
    (moment c.plan.new.self.core c.plan.new.self.merging c.plan.new.self.disk)
    (moment c.carry_out.new.self.core c.carry_out.new.self.merging c.carry_out.new.self.disk)
    (record { core = c.plan.ensures.core; disk = c.plan.ensures.disk }) name is c.install.new.self.core c.carry_out.ensures.idle
    c.in-Ok.ensures.core

pub returns-in-Err-install-clause-untouched : goal.returns-in-Err-install-clause-untouched
returns-in-Err-install-clause-untouched g c name is =
    put_halted g.D.Watched (moment c.args.self.now.core c.args.self.now.merging c.args.self.now.disk)
    (moment c.plan.new.self.core c.plan.new.self.merging c.plan.new.self.disk)
    (moment c.carry_out.new.self.core c.carry_out.new.self.merging c.carry_out.new.self.disk)
    (record { core = c.plan.ensures.core; disk = c.plan.ensures.disk }) name is
    (moment c.install.new.self.core c.install.new.self.merging c.install.new.self.disk)
    (moment c.abandoned.new.self.core c.abandoned.new.self.merging c.abandoned.new.self.disk)
    (record { core = c.abandoned.ensures.core; disk = c.abandoned.ensures.disk }) c.carry_out.ensures.idle
    c.in-Err-install.fail c.in-Err-install.ensures.core c.in-Err-install.ensures.untouched c.in-Err-install.ensures.halted

-- which files come and go

pub returns-in_err-job-clause-files : goal.returns-in_err-job-clause-files
returns-in_err-job-clause-files g c =
    below_none c.args.self.now.core.back.state.next_table (g.D.Watched.told c.args.self.now.disk)
    (g.D.Watched.told c.plan.new.self.disk) (ap g.D.Watched.told c.plan.ensures.disk)

pub returns-in_default-clause-files : goal.returns-in_default-clause-files
returns-in_default-clause-files g c =
    below_none c.args.self.now.core.back.state.next_table (g.D.Watched.told c.args.self.now.disk)
    (g.D.Watched.told c.plan.new.self.disk) (ap g.D.Watched.told c.plan.ensures.disk)

pub returns-in-Err-clause-files : goal.returns-in-Err-clause-files
returns-in-Err-clause-files g c =
    below_same g.D.Watched (moment c.args.self.now.core c.args.self.now.merging c.args.self.now.disk)
    (moment c.plan.new.self.core c.plan.new.self.merging c.plan.new.self.disk)
    (moment c.carry_out.new.self.core c.carry_out.new.self.merging c.carry_out.new.self.disk)
    (moment c.abandon.new.self.core c.abandon.new.self.merging c.abandon.new.self.disk)
    (record { core = c.plan.ensures.core; disk = c.plan.ensures.disk })
    (record { core = c.abandon.ensures.core; disk = c.abandon.ensures.disk }) c.carry_out.ensures.files

pub returns-in-Ok-clause-files : goal.returns-in-Ok-clause-files
returns-in-Ok-clause-files g c =
    below_same g.D.Watched (moment c.args.self.now.core c.args.self.now.merging c.args.self.now.disk)
    (moment c.plan.new.self.core c.plan.new.self.merging c.plan.new.self.disk)
    (moment c.install.new.self.core c.install.new.self.merging c.install.new.self.disk)
    (moment c.install.new.self.core c.install.new.self.merging c.install.new.self.disk)
    (record { core = c.plan.ensures.core; disk = c.plan.ensures.disk }) (record { core = refl; disk = refl })
    (below_then c.plan.new.self.core.back.state.next_table (g.D.Watched.told c.plan.new.self.disk)
    (g.D.Watched.told c.carry_out.new.self.disk) (g.D.Watched.told c.install.new.self.disk) c.carry_out.ensures.files
    c.carry_out.ensures.tells
    (below_install c.plan.new.self.core.back.state.next_table (made_numbers c.carry_out.new.job)
    (g.D.Watched.told c.carry_out.new.self.disk) (g.D.Watched.told c.install.new.self.disk)
    (made_above g.D.Watched g.D.Writer.Writer c.plan.new.self.core.back.state.next_table c.carry_out.new.self.disk
    c.carry_out.new.self.core.front.halted c.plan.new.self.merging c.carry_out.new.self.merging c.carry_out.new.job
    (subst (λ (o : Option _). OpensMerge {E = NoMemory} c.args.self.now.merging c.plan.new.self.merging (Ok o)) c.in-Some.is
    c.in_ok-job.ensures.merging) c.carry_out.ensures.lends c.in_default-carry_out.ensures.handed) c.install.ensures.files))

pub returns-in-Err-install-clause-files : goal.returns-in-Err-install-clause-files
returns-in-Err-install-clause-files g c =
    below_same g.D.Watched (moment c.args.self.now.core c.args.self.now.merging c.args.self.now.disk)
    (moment c.plan.new.self.core c.plan.new.self.merging c.plan.new.self.disk)
    (moment c.install.new.self.core c.install.new.self.merging c.install.new.self.disk)
    (moment c.abandoned.new.self.core c.abandoned.new.self.merging c.abandoned.new.self.disk)
    (record { core = c.plan.ensures.core; disk = c.plan.ensures.disk })
    (record { core = c.abandoned.ensures.core; disk = c.abandoned.ensures.disk })
    (below_then c.plan.new.self.core.back.state.next_table (g.D.Watched.told c.plan.new.self.disk)
    (g.D.Watched.told c.carry_out.new.self.disk) (g.D.Watched.told c.install.new.self.disk) c.carry_out.ensures.files
    c.carry_out.ensures.tells
    (below_install c.plan.new.self.core.back.state.next_table (made_numbers c.carry_out.new.job)
    (g.D.Watched.told c.carry_out.new.self.disk) (g.D.Watched.told c.install.new.self.disk)
    (made_above g.D.Watched g.D.Writer.Writer c.plan.new.self.core.back.state.next_table c.carry_out.new.self.disk
    c.carry_out.new.self.core.front.halted c.plan.new.self.merging c.carry_out.new.self.merging c.carry_out.new.job
    (subst (λ (o : Option _). OpensMerge {E = NoMemory} c.args.self.now.merging c.plan.new.self.merging (Ok o)) c.in-Some.is
    c.in_ok-job.ensures.merging) c.carry_out.ensures.lends c.in_default-carry_out.ensures.handed) c.install.ensures.files))

-- where its tables were put in

pub returns-in_default-clause-put_in : goal.returns-in_default-clause-put_in
returns-in_default-clause-put_in g c h l is stands fits =
    none_due _ _ c.in_ok-job.field-0 (plan_ruling l h).answer c.in_default.is (c.in_ok-job.ensures.job h l stands)

pub returns-in-Ok-clause-put_in : goal.returns-in-Ok-clause-put_in
returns-in-Ok-clause-put_in g c h l is stands fits j planned =
    let watched : IsWatched g.D.Watched = record { only_now = g.met.D.Disk.only_now; counts_now = g.met.D.Disk.counts_now } in
    let bytes = g.D.Held.HeldFile.bytes in
    let opened = begun g.D.Watched watched g.D.Writer.Writer bytes NoMemory c.args.self.now.disk c.plan.new.self.disk c.args.self.now.core
    c.plan.new.self.core c.plan.new.self.merging c.in-Some.job h l c.plan.ensures.disk is c.in_ok-job.field-0 c.in-Some.is
    (c.in_ok-job.ensures.stands h l stands) (c.in_ok-job.ensures.represents h l is stands) (c.in_ok-job.ensures.fits h l stands fits)
    (c.in_ok-job.ensures.job h l stands) in
    let makes = c.in_default-carry_out.ensures.makes h opened.stays.layout opened.open_job opened.stays.represents opened.stays.stands
    opened.stays.fits opened.is_open opened.has (c.in_ok-job.ensures.looks h l stands c.in-Some.job c.in-Some.is) in
    let s = goes_on g.D.Watched bytes c.args.self.now.disk c.plan.new.self.disk c.carry_out.new.self.disk c.plan.new.self.core
    c.carry_out.new.self.core c.plan.new.self.merging c.carry_out.new.self.merging h l opened.stays opened.alike makes.stays in
    let whole = subst (λ (j : Job). HasAllMerge g.D.Writer.Writer bytes c.carry_out.new.job j) (sym makes.job_is) makes.whole in
    let lent = subst (λ (j : Job). AreLent makes.open_job.lent (made_of c.carry_out.new.job j)) (sym makes.job_is) makes.lent in
    puts_in g.D.Writer.Writer bytes c.carry_out.new.job (g.D.Watched.told c.install.new.self.disk) c.install.new.self.core h l s.layout
    makes.open_job.job j s.same (makes.levels ∙ opened.tables.levels) (makes.flushed ∙ opened.tables.flushed) whole _ _
    (c.in-Ok.ensures.carries h s.layout makes.open_job s.represents s.stands makes.is_open whole lent).decides
    (makes.job_is ∙ one_job opened.open_job.job j (sym opened.planned ∙ planned))

pub returns-in_default-clause-due : goal.returns-in_default-clause-due
returns-in_default-clause-due g c is = sym c.in_ok-job.ensures.due ∙ ap is_some c.in_default.is
