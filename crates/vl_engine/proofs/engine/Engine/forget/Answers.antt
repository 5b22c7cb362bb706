use Rattle.std.proofs.Common.{ℕ, subst}
use Rattle.vl_engine_laws.specs.MayStep.{Fits}
use Rattle.vl_engine_laws.specs.Represents.{Fronts, Represents, StandsFor}
use Rattle.vl_engine_model.specs.Ruling.{ended}
use Rattle.vl_space.specs.Removing.{Removes}
use Rattle.vl_engine.proofs.engine.Engine.forget.Goals as goal

pub returns-clause-decides : goal.returns-clause-decides
returns-clause-decides g c h l is =
    subst (λ (n : ℕ). Fronts c.end.new.self.core h (ended n l)) c.ticket.ensures (c.end.ensures.decides h l is)

pub returns-clause-stands : goal.returns-clause-stands
returns-clause-stands g c h l is =
    subst (λ (n : ℕ). StandsFor g.D.Held.HeldFile.bytes c.end.new.self.core h (ended n l)) c.ticket.ensures
    (c.end.ensures.stands h l is)

pub returns-clause-represents : goal.returns-clause-represents
returns-clause-represents g c h l is =
    subst (λ (n : ℕ). Represents g.D.Held.HeldFile.bytes c.end.new.self.core (g.D.Watched.told c.end.new.self.disk) h (ended n l))
    c.ticket.ensures (c.end.ensures.represents h l is)

pub returns-clause-fits : goal.returns-clause-fits
returns-clause-fits g c h l fits =
    subst (λ (n : ℕ). Fits (g.D.Watched.told c.end.new.self.disk) c.end.new.self.core h (ended n l)) c.ticket.ensures
    (c.end.ensures.fits h l fits)

pub returns-clause-removes : goal.returns-clause-removes
returns-clause-removes g c l removes =
    subst (λ (n : ℕ). Removes c.end.new.self.core c.end.new.self.removing (ended n l)) c.ticket.ensures (c.end.ensures.removes l removes)
