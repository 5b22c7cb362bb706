use Rattle.std.proofs.Common.{rules}
use Rattle.vl_turn.proofs.Sharing.{load_keeps}
use Rattle.vl_turn.proofs.raw.RawLock.load.Goals as goal

pub load-requires : goal.load-requires
load-requires g c = (
  search rules,
  search rules,
  load_keeps g.T.Standing.stands g.T.Standing.by
      c.args.self.now.table.shared.key.value _ _ c.args.token.now.me,
)
