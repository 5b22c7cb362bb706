use Rattle.vl_merge.proofs.GroupLaws.{left-grouped}
use Rattle.vl_merge.proofs.merge.Merge.keys_stand_together.Goals as goal

pub returns : goal.returns
returns g c = left-grouped (λ k. g.C.Cursor.left k) c.args.self.now.way c.args.self.now.sources
