use Rattle.std.proofs.Common.{refl}
use Rattle.vl_turn.proofs.Turns.{empty_kept}
use Rattle.vl_turn.proofs.raw.RawLock.empty.Goals as goal

pub vacant-requires : goal.vacant-requires
vacant-requires g c = empty_kept g.T.Standing.stands g.T.Standing.by c.of-start.result.value _ refl
