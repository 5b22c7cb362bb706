use Rattle.std.proofs.Common.{arith}
use Rattle.vl_collect.proofs.Rooms.{over_here}
use Rattle.vl_collect.proofs.take.has_room.Goals as goal

pub returns-then-left-length : goal.returns-then-left-length
returns-then-left-length c =
    over_here c.args.batch.now c.loop-found.found-index c.found-item.result c.loop-found.left c.args.more
    c.loop-found-test.true c.found-item.is
    c.loop-found.invariant (omega (arith, c.len-length.ensures, c.if-left-length.true))
