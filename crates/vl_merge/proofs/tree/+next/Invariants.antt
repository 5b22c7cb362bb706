use Rattle.std.proofs.Common.{◌+◌, ◌*◌, max}
use Rattle.vl_merge.proofs.tree.Tree.TheLaws.{the_size}
use Rattle.vl_merge.proofs.tree.+next.Given as goal

abbrev pub decreases-Tree::next : goal.decreases-Tree::next
decreases-Tree::next g l = 3 * the_size g.row.C g.C.laws l.self.now

-- the deeper half counts
abbrev pub decreases-next_of_two : goal.decreases-next_of_two
decreases-next_of_two g l = 3 * max (the_size g.row.C g.C.laws l.newer.now) (the_size g.row.C g.C.laws l.older.now) + 2

abbrev pub decreases-look : goal.decreases-look
decreases-look g l = 3 * the_size g.row.C g.C.laws l.half.now + 1
