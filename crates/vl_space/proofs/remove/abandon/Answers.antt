use Rattle.std.proofs.Common.{◌++◌, List, map, subst}
use Rattle.vl_compact.specs.declared.files.Lent.{Lent}
use Rattle.vl_space.specs.Retiring.{LeavesFiles, left_of}
use Rattle.vl_space.proofs.remove.abandon.Goals as goal

pub returns-clause-left : goal.returns-clause-left
returns-clause-left g c =
    subst (λ (files : List (Lent g.row.W.Denot g.W.Writer)). LeavesFiles files c.args.removing.now.stock c.abandon_files.new.stock)
    (λ i. map left_of (c.into_parts-made.ensures.made i).items ++ (c.into_parts-made.ensures.leavings i).items) c.abandon_files.ensures
