use Rattle.std.proofs.Common.{ℕ, subst, sym}
use Rattle.vl_front.proofs.Pruning.{AreAbove}
use Rattle.vl_front.proofs.front.Front.begin.Goals as goal

pub returns-clause-pruned : goal.returns-clause-pruned
returns-clause-pruned c pruned =
    subst (λ (n : ℕ). AreAbove n c.args.self.now.recent.named) (sym c.begin.ensures.floor_stays) pruned
