-- What the engine keeps of which files can go is what its call leaves, and whether there is a merge is said of either choice.
use Rattle.std.proofs.Common.{subst, sym}
use Rattle.vl_replay.specs.AsCalled.{can_merge}
use Rattle.vl_steps.specs.Merging.{plan_outcome}
use Rattle.vl_steps.specs.Planning.{PlansWhere}
use Rattle.vl_space.specs.Removing.{Removes}
use Rattle.vl_engine_model.specs.Decides.{Decides, as_before, no_effects}
use Rattle.vl_replay_laws.specs.Choosing.{chosen}
use Rattle.vl_replay.proofs.replayer.merge.choose.Goals as goal

pub returns-in-Due-clause-removes : goal.returns-in-Due-clause-removes
returns-in-Due-clause-removes g c h l is removes =
    subst (λ choice. Decides (λ _ k. Removes c.plan.new.self.core c.plan.new.self.removing k) h l (chosen choice l h) (as_before l l)
    (plan_outcome (chosen choice l h).answer c.plan.result) no_effects) (sym c.in-Due.is) (c.plan.ensures.removes h l is removes)

pub returns-in-LeadsInto-clause-removes : goal.returns-in-LeadsInto-clause-removes
returns-in-LeadsInto-clause-removes g c h l is removes =
    subst (λ choice. Decides (λ _ k. Removes c.drain.new.self.core c.drain.new.self.removing k) h l (chosen choice l h) (as_before l l)
    (plan_outcome (chosen choice l h).answer c.drain.result) no_effects) (sym c.in-LeadsInto.is) (c.drain.ensures.removes h l is removes)

pub returns-in-Due-clause-there : goal.returns-in-Due-clause-there
returns-in-Due-clause-there g c =
    subst (λ choice. PlansWhere (can_merge g.D.Held.HeldFile.size choice c.args.engine.now.core.version) c.args.engine.now.merging
    c.plan.result) (sym c.in-Due.is) c.plan.ensures.due

pub returns-in-LeadsInto-clause-there : goal.returns-in-LeadsInto-clause-there
returns-in-LeadsInto-clause-there g c =
    subst (λ choice. PlansWhere (can_merge g.D.Held.HeldFile.size choice c.args.engine.now.core.version) c.args.engine.now.merging
    c.drain.result) (sym c.in-LeadsInto.is) c.drain.ensures.leads
