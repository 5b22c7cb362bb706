use Rattle.std.proofs.Common.{rules}
use Rattle.vl_turn.proofs.Turns.{take_keeps}
use Rattle.vl_turn.proofs.raw.RawLock.take.Goals as goal

pub swap-requires : goal.swap-requires
swap-requires g c = (
  search rules,
  search rules,
  take_keeps g.T.Standing.stands g.T.Standing.by
      c.args.self.now.table.shared.key.value _ _ c.args.token.now.me c.requires.unclosed,
)
