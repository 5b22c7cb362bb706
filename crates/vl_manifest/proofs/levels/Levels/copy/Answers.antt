use Rattle.std.proofs.Common.{◌∙◌}
use Rattle.vl_manifest.proofs.Seven.{seven}
use Rattle.vl_manifest.proofs.levels.Levels.copy.Goals as goal

pub returns : goal.returns
returns c =
    seven c.self.inside.lists c.self.invariant _ _ _ _ _ _ _ _ _ _ _ _ _ _
    c.in_ok-copy.ensures c.in_ok-copy-2.ensures c.in_ok-copy-3.ensures c.in_ok-copy-4.ensures
    c.in_ok-copy-5.ensures c.in_ok-copy-6.ensures c.in_ok-copy-7.ensures
    ∙ c.self.view_is
