use Rattle.std.proofs.Common.{rules}
use Rattle.vl_turn.proofs.Turns.{close_keeps}
use Rattle.vl_turn.proofs.raw.RawLock.close.Goals as goal

pub store-requires : goal.store-requires
store-requires g c = (
  search rules,
  search rules,
  close_keeps g.T.Standing.stands g.T.Standing.by
      c.args.self.now.table.shared.key.value _ _ c.args.token.now.me c.requires.holds c.requires.unclosed c.requires.slots,
)
