use Rattle.std.proofs.Common.{Some, ap, subst, sym}
use Rattle.std.specs.Prelude.{Option}
use Rattle.vl_compact.specs.Laid.{AreBoth}
use Rattle.vl_disk.specs.DiskState.{DiskState}
use Rattle.vl_steps.specs.laws.Planning.{decides_planned, fits_planned, fits_readers, is_planned, job_begun, merge_for}
use Rattle.vl_steps.specs.laws.Planning.{represents_planned, stands_planned}
use Rattle.vl_engine.proofs.BegunRemoved.{removes_planned}
use Rattle.vl_engine.proofs.engine.Engine.begin_chosen.Goals as goal
use Rattle.vl_space.specs.Removing.{Removes}
use Rattle.vl_steps.specs.Planning.{IsChosen}
use Rattle.vl_steps.specs.Merging.{HasMerge}
use Rattle.vl_engine_laws.specs.Lent.{StandsOpen}
use Rattle.vl_engine_laws.specs.Represents.{Represents}
use Rattle.vl_engine_laws.specs.MayStep.{Fits}
use Rattle.vl_engine_laws.specs.declared.kept.Core.{Core}
use Rattle.vl_engine_model.specs.Ruling.{Ruling}
use Rattle.vl_engine_model.specs.Rulings.Plan.{with_job}
use Rattle.vl_engine_model.specs.declared.job.Job.{Job}
use Rattle.vl_engine_model.specs.declared.layout.Layout.{Layout}

pub returns-in_ok-begin_merge-in-Some-clause-stands : goal.returns-in_ok-begin_merge-in-Some-clause-stands
returns-in_ok-begin_merge-in-Some-clause-stands g c h l ruling is chosen =
    let bytes = g.D.Held.HeldFile.bytes in
    let core = c.args.self.now.core in
    let inputs = c.in-Some.inputs in
    let p = is_planned bytes h l ruling inputs (subst (λ (o : Option _). IsChosen bytes o h l ruling) c.in-Some.is chosen) in
    let after = c.begin_merge.new.self.merging in
    decides_planned bytes core h l ruling inputs p (StandsOpen bytes c.begin_merge.new.self.core after)
    (subst (λ (k : Core g.row.D-Held.Denot). StandsOpen bytes k after h (with_job (job_begun bytes core h l ruling inputs p) l))
    (sym c.begin_merge.ensures.core)
    (stands_planned bytes core h l ruling inputs p after c.in_ok-begin_merge-in-Some.ensures.begun is.stands))

pub returns-in_ok-begin_merge-in-Some-clause-represents : goal.returns-in_ok-begin_merge-in-Some-clause-represents
returns-in_ok-begin_merge-in-Some-clause-represents g c h l ruling represents chosen =
    let bytes = g.D.Held.HeldFile.bytes in
    let core = c.args.self.now.core in
    let inputs = c.in-Some.inputs in
    let told = g.D.Watched.told c.args.self.now.disk in
    let after = g.D.Watched.told c.begin_merge.new.self.disk in
    let p = is_planned bytes h l ruling inputs (subst (λ (o : Option _). IsChosen bytes o h l ruling) c.in-Some.is chosen) in
    let then_is = with_job (job_begun bytes core h l ruling inputs p) l in
    decides_planned bytes core h l ruling inputs p (Represents bytes c.begin_merge.new.self.core after)
    (subst (λ (k : Core g.row.D-Held.Denot). Represents bytes k after h then_is) (sym c.begin_merge.ensures.core)
    (subst (λ (t : Option DiskState). Represents bytes core t h then_is) (sym (ap g.D.Watched.told c.begin_merge.ensures.disk))
    (represents_planned bytes core h l ruling inputs p told represents)))

pub returns-in_ok-begin_merge-in-Some-clause-fits : goal.returns-in_ok-begin_merge-in-Some-clause-fits
returns-in_ok-begin_merge-in-Some-clause-fits g c h l ruling fits chosen =
    let bytes = g.D.Held.HeldFile.bytes in
    let core = c.args.self.now.core in
    let inputs = c.in-Some.inputs in
    let told = g.D.Watched.told c.args.self.now.disk in
    let after = g.D.Watched.told c.begin_merge.new.self.disk in
    let p = is_planned bytes h l ruling inputs (subst (λ (o : Option _). IsChosen bytes o h l ruling) c.in-Some.is chosen) in
    let then_is = with_job (job_begun bytes core h l ruling inputs p) l in
    decides_planned bytes core h l ruling inputs p (Fits after c.begin_merge.new.self.core)
    (subst (λ (k : Core g.row.D-Held.Denot). Fits after k h then_is) (sym c.begin_merge.ensures.core)
    (subst (λ (t : Option DiskState). Fits t core h then_is) (sym (ap g.D.Watched.told c.begin_merge.ensures.disk))
    (fits_planned bytes core h l ruling inputs p told fits)))

pub returns-in_ok-begin_merge-in-Some-clause-job : goal.returns-in_ok-begin_merge-in-Some-clause-job
returns-in_ok-begin_merge-in-Some-clause-job g c h l ruling is chosen =
    let bytes = g.D.Held.HeldFile.bytes in
    let core = c.args.self.now.core in
    let inputs = c.in-Some.inputs in
    let job = c.in_ok-begin_merge-in-Some.field-0 in
    let p = is_planned bytes h l ruling inputs (subst (λ (o : Option _). IsChosen bytes o h l ruling) c.in-Some.is chosen) in
    subst (λ (r : Ruling (Option Job)). AreBoth (HasMerge {R = g.row.D-Reader.Denot} g.D.Writer.Writer bytes {g = g.D.Writer.Writer})
    (Some job) r.answer) p.ruled
    (c.in_ok-begin_merge-in-Some.ensures.has (job_begun bytes core h l ruling inputs p)
    (merge_for bytes h l ruling core inputs p is g.D.Writer.Writer job c.in_ok-begin_merge-in-Some.ensures.merge))

pub returns-in_ok-begin_merge-in-Some-clause-looks : goal.returns-in_ok-begin_merge-in-Some-clause-looks
returns-in_ok-begin_merge-in-Some-clause-looks g c h l is =
    fits_readers g.D.Held.HeldFile.bytes c.args.self.now.core h l c.in-Some.inputs c.in_ok-begin_merge-in-Some.field-0 is
    c.in_ok-begin_merge-in-Some.ensures.merge

pub returns-in_ok-begin_merge-in-Some-clause-removes : goal.returns-in_ok-begin_merge-in-Some-clause-removes
returns-in_ok-begin_merge-in-Some-clause-removes g c h l ruling is removes chosen =
    let bytes = g.D.Held.HeldFile.bytes in
    let core = c.args.self.now.core in
    let inputs = c.in-Some.inputs in
    let p = is_planned bytes h l ruling inputs (subst (λ (o : Option _). IsChosen bytes o h l ruling) c.in-Some.is chosen) in
    let after = c.begin_merge.new.self in
    decides_planned bytes core h l ruling inputs p (λ _ (k : Layout). Removes after.core after.removing k)
    (removes_planned core after.core h l is c.begin_merge.ensures.core c.args.self.now.removing after.removing removes
    (job_begun bytes core h l ruling inputs p) c.in_ok-begin_merge-in-Some.ensures.pinned)
