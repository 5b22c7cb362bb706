use Rattle.std.proofs.Common.{List, ap, subst, ◌∙◌}
use Rattle.vl_collect.proofs.Walking.{if_given, not_any}
use Rattle.vl_collect.proofs.pass.Pass.next.Goals as goal
use Rattle.vl_collect.specs.Passing.{Walks}
use Rattle.vl_collect.specs.declared.batch.Found.{Found}
use Rattle.vl_engine_model.specs.Relocation.{if_any}

pub returns-clause-gives : goal.returns-clause-gives
returns-clause-gives g c = λ p fits is.
    let w = subst (λ (fs : List Found). Walks g.H.HeldFile.bytes c.args.self.now.log p fs c.walk.new.batch.items c.in_ok-at.at)
    c.new-batch.ensures.items (c.in_ok-at.ensures.walks p fits is) in
    record {
      batch_is = c.of.ensures ∙ ap if_any w.given;
      now = record {
        segment = is.segment;
        base = is.base;
        told = w.told;
        tells = w.tells;
        left = w.left;
      };
    }

pub returns-clause-over : goal.returns-clause-over
returns-clause-over g c = not_any c.walk.new.batch.items _ _ c.of.ensures c.in_ok-at.ensures.over

pub returns-clause-read : goal.returns-clause-read
returns-clause-read g c = if_given c.walk.new.batch.items _ _ c.of.ensures (c.in_ok-at.ensures.read c.new-batch.ensures.items)
