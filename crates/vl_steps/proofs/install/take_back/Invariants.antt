use Rattle.std.proofs.Common.{length, ◌≡◌}
use Rattle.vl_compact.specs.Replacing.{HasRoom}
use Rattle.vl_steps.specs.Taking.{MayTakeAll, TakesBack}
use Rattle.vl_steps.proofs.install.take_back.Given as goal

abbrev pub invariant-loop-left : goal.invariant-loop-left
invariant-loop-left g l = record {
  taken : TakesBack g.D.Watched g.D.Held.HeldFile.bytes g.D.Writer.Writer l.fn.made.items l.left.items l.fn.disk l.disk
      l.fn.levels l.levels;
  may : MayTakeAll g.D.Watched g.D.Writer.Writer l.disk l.left.items;
  room : HasRoom (length l.left.items) l.levels;
  faults : g.D.Watched.faults l.disk ≡ g.D.Watched.faults l.fn.disk;
}

abbrev pub decreases-loop-left : goal.decreases-loop-left
decreases-loop-left g l = length l.left.items
