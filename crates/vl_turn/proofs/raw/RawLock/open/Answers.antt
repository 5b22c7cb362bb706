use Rattle.std.proofs.Common.{rules}
use Rattle.vl_turn.proofs.Turns.{open_keeps}
use Rattle.vl_turn.proofs.raw.RawLock.open.Goals as goal

pub store-requires : goal.store-requires
store-requires g c = (
  search rules,
  search rules,
  open_keeps g.T.Standing.stands g.T.Standing.by
      c.args.self.now.table.shared.key.value _ _ c.args.token.now.me c.requires.holds c.requires.closed,
)
