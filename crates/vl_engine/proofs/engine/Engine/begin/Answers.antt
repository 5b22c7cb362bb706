use Rattle.std.proofs.Common.{ap, subst, sym, ◌∙◌}
use Rattle.vl_engine_laws.specs.MayStep.{Fits}
use Rattle.vl_engine_laws.specs.Represents.{Fronts, Represents, StandsFor}
use Rattle.vl_engine.proofs.Beginning.{begun_alike, refused_so}
use Rattle.vl_reads.specs.Past.{beginning}
use Rattle.vl_table.specs.KeptBlocks.{AreKept}
use Rattle.vl_version.specs.LiesOver.{IsInMemory}
use Rattle.vl_space.specs.laws.Pinned.{refused_pins}
use Rattle.vl_space.specs.Removing.{Removes}
use Rattle.vl_engine_model.specs.Decides.{Decides, Outcome, as_before, no_effects}
use Rattle.vl_engine_model.specs.Rulings.Begin.{BeginAnswer, begin_ruling}
use Rattle.vl_engine_model.specs.declared.layout.Layout.{Layout}
use Rattle.vl_engine.proofs.engine.Engine.begin.Goals as goal

pub returns-in_err-view-clause-removes : goal.returns-in_err-view-clause-removes
returns-in_err-view-clause-removes g c h l is removes =
    subst (λ (o : Outcome BeginAnswer). Decides (λ _ (k : Layout). Removes c.view.new.self.core c.view.new.self.removing k) h l
    (begin_ruling l h) (as_before l l) o no_effects)
    (refused_so c.from_residual.result c.in_err-view.field-0.0 c.from_residual.ensures.1)
    (c.in_err-view.ensures.removes h l is removes)

pub returns-in_err-view-clause-pins : goal.returns-in_err-view-clause-pins
returns-in_err-view-clause-pins g c =
    refused_pins c.args.self.now.core.back.epoch c.args.self.now.removing.pins c.view.new.self.removing.pins
    c.from_residual.result c.in_err-view.field-0.0 c.from_residual.ensures.1 c.in_err-view.ensures.pins

pub returns-clause-ticket : goal.returns-clause-ticket
returns-clause-ticket g c = c.new.ensures.ticket ∙ c.in_ok-view.ensures.ticket

pub returns-clause-decides : goal.returns-clause-decides
returns-clause-decides g c h l is =
    subst (λ (o : Outcome BeginAnswer). Decides (Fronts c.view.new.self.core) h l
    (begin_ruling l h) (as_before l l) o no_effects)
    (begun_alike c.in_ok-view.view c.new.result c.new.ensures.ticket c.new.ensures.number) (c.in_ok-view.ensures.decides h l is)

pub returns-clause-stands : goal.returns-clause-stands
returns-clause-stands g c h l is =
    subst (λ (o : Outcome BeginAnswer). Decides (StandsFor g.D.Held.HeldFile.bytes c.view.new.self.core) h l
    (begin_ruling l h) (as_before l l) o no_effects)
    (begun_alike c.in_ok-view.view c.new.result c.new.ensures.ticket c.new.ensures.number) (c.in_ok-view.ensures.stands h l is)

pub returns-clause-represents : goal.returns-clause-represents
returns-clause-represents g c h l is =
    subst (λ (o : Outcome BeginAnswer). Decides (Represents g.D.Held.HeldFile.bytes c.view.new.self.core (g.D.Watched.told c.view.new.self.disk)) h l
    (begin_ruling l h) (as_before l l) o no_effects)
    (begun_alike c.in_ok-view.view c.new.result c.new.ensures.ticket c.new.ensures.number) (c.in_ok-view.ensures.represents h l is)

pub returns-clause-removes : goal.returns-clause-removes
returns-clause-removes g c h l is removes =
    subst (λ (o : Outcome BeginAnswer). Decides (λ _ (k : Layout). Removes c.view.new.self.core c.view.new.self.removing k) h l
    (begin_ruling l h) (as_before l l) o no_effects)
    (begun_alike c.in_ok-view.view c.new.result c.new.ensures.ticket c.new.ensures.number) (c.in_ok-view.ensures.removes h l is removes)

pub returns-clause-fits : goal.returns-clause-fits
returns-clause-fits g c h l is fits =
    subst (λ (o : Outcome BeginAnswer). Decides (Fits (g.D.Watched.told c.view.new.self.disk) c.view.new.self.core) h l
    (begin_ruling l h) (as_before l l) o no_effects)
    (begun_alike c.in_ok-view.view c.new.result c.new.ensures.ticket c.new.ensures.number) (c.in_ok-view.ensures.fits h l is fits)

pub returns-clause-began : goal.returns-clause-began
returns-clause-began g c h l is = ap beginning c.new.ensures.past ∙ c.in_ok-view.ensures.began h l is

pub returns-clause-memory : goal.returns-clause-memory
returns-clause-memory g c in_memory =
    subst (IsInMemory {H = g.row.D-Held.Denot}) (sym c.new.ensures.version) (c.in_ok-view.ensures.memory in_memory)

pub returns-clause-blocks : goal.returns-clause-blocks
returns-clause-blocks g c files = subst (AreKept files) (sym c.new.ensures.reader) (c.in_ok-view.ensures.blocks files)

pub returns-clause-sees : goal.returns-clause-sees
returns-clause-sees g c h l is = c.new.ensures.sees h (c.in_ok-view.ensures.sees h l is)
