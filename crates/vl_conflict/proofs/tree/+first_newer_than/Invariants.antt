use Rattle.std.proofs.Common.{◌+◌, ◌*◌, max}
use Rattle.vl_conflict.proofs.tree.Tree.TheLaws.{the_size}
use Rattle.vl_conflict.proofs.tree.+first_newer_than.Given as goal

abbrev pub decreases-first_newer_than : goal.decreases-first_newer_than
decreases-first_newer_than l = 2 * the_size l.tree.now

abbrev pub decreases-first_newer_than_below : goal.decreases-first_newer_than_below
decreases-first_newer_than_below l = 2 * max (the_size l.node.now.left) (the_size l.node.now.right) + 1
