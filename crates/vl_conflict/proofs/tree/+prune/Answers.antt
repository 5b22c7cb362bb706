use Rattle.std.proofs.Common.{◌<◌, ◌≤◌, subst}
use Rattle.vl_conflict.specs.declared.tree.Node.{Node}
use Rattle.vl_conflict.proofs.TreeLaws.{all-go, all-stay}
use Rattle.vl_conflict.proofs.tree.+prune.Goals as goal

pub pruned_below-returns-then-deref-floor-clause-named : goal.pruned_below-returns-then-deref-floor-clause-named
pruned_below-returns-then-deref-floor-clause-named t c =
    all-stay c.args.floor c.args.node.value c.requires.whole
    (let P : Node → Type 0 = λ n. c.args.floor < n.least in subst P c.deref.ensures c.if-deref-floor.true)

pub pruned_below-returns-then-deref-floor-2-clause-named : goal.pruned_below-returns-then-deref-floor-2-clause-named
pruned_below-returns-then-deref-floor-2-clause-named t c =
    all-go c.args.floor c.args.node.value c.requires.whole
    (let P : Node → Type 0 = λ n. n.greatest ≤ c.args.floor in subst P c.deref-2.ensures c.if-deref-floor-2.true)
