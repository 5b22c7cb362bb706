use Rattle.std.proofs.Common.{◌+◌, ◌*◌, max}
use Rattle.vl_conflict.proofs.tree.Tree.TheLaws.{the_size}
use Rattle.vl_conflict.proofs.tree.+put.Given as goal

abbrev pub decreases-put : goal.decreases-put
decreases-put l = 2 * the_size l.tree

abbrev pub decreases-put_below : goal.decreases-put_below
decreases-put_below l = 2 * max (the_size l.top.value.left) (the_size l.top.value.right) + 1
