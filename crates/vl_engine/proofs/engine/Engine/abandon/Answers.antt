use Rattle.std.proofs.Common.{subst, sym, ◌∙◌}
use Rattle.vl_compact.specs.Progress.{made_of}
use Rattle.vl_engine_laws.specs.MayStep.{Fits}
use Rattle.vl_engine_laws.specs.Represents.{Represents, StandsFor}
use Rattle.vl_engine_laws.specs.declared.kept.Core.{Core}
use Rattle.vl_engine.proofs.LeftRemoved.{halted_none, merge_numbers, removes_left}
use Rattle.vl_steps.specs.laws.Planning.{fits_abandoned, represents_abandoned, stands_abandoned}
use Rattle.vl_space.specs.Removing.{Removes}
use Rattle.vl_engine_model.specs.Jobs.{job_ended}
use Rattle.vl_engine.proofs.engine.Engine.abandon.Goals as goal

pub returns-clause-stands : goal.returns-clause-stands
returns-clause-stands g c h l o made is opened lent =
    stands_abandoned g.D.Held.HeldFile.bytes c.abandon_open.new.self.core h l o made opened lent c.abandon_open.new.self.merging c.abandon_open.ensures.merging
    (subst (λ (x : Core g.row.D-Held.Denot). StandsFor g.D.Held.HeldFile.bytes x h l) (sym c.abandon_open.ensures.core) is.stands)

pub returns-clause-represents : goal.returns-clause-represents
returns-clause-represents g c h l o made is opened lent =
    represents_abandoned g.D.Held.HeldFile.bytes c.abandon_open.new.self.core h l o made opened lent
    (g.D.Watched.told c.abandon_open.new.self.disk)
    (subst (λ (d : g.row.D.Denot). Represents g.D.Held.HeldFile.bytes c.abandon_open.new.self.core (g.D.Watched.told d) h l)
    (sym c.abandon_open.ensures.disk) (subst (λ (x : Core g.row.D-Held.Denot). Represents g.D.Held.HeldFile.bytes x
    (g.D.Watched.told c.args.self.now.disk) h l) (sym c.abandon_open.ensures.core) is))

pub returns-clause-fits : goal.returns-clause-fits
returns-clause-fits g c h l o made fits =
    fits_abandoned c.abandon_open.new.self.core h l o.job made (g.D.Watched.told c.abandon_open.new.self.disk)
    (subst (λ (d : g.row.D.Denot). Fits (g.D.Watched.told d) c.abandon_open.new.self.core h l) (sym c.abandon_open.ensures.disk)
    (subst (λ (x : Core g.row.D-Held.Denot). Fits (g.D.Watched.told c.args.self.now.disk) x h l) (sym c.abandon_open.ensures.core) fits))

pub returns-clause-removes : goal.returns-clause-removes
returns-clause-removes g c h l o is opened has removes =
    subst (λ (x : Core g.row.D-Held.Denot). Removes x c.abandon_open.new.self.removing (job_ended (made_of c.args.job o.job) l))
    (sym c.abandon_open.ensures.core)
    (removes_left g.D.Watched c.args.self.now.disk c.args.self.now.core c.args.self.now.merging c.args.job c.args.self.now.removing
    c.abandon_open.new.self.removing c.args.self.now.there c.requires c.abandon_open.ensures.left l (made_of c.args.job o.job)
    (merge_numbers g.D.Held.HeldFile.bytes c.args.job o.job has)
    (λ runs. halted_none c.args.self.now.core.front.halted (is.stands.fronts.halted ∙ runs)) c.abandon_open.ensures.pins removes)

pub returns-clause-pins : goal.returns-clause-pins
returns-clause-pins g c = c.abandon_open.ensures.pins
