use Rattle.std.proofs.Common.{rules}
use Rattle.vl_turn.proofs.Turns.{give_keeps}
use Rattle.vl_turn.proofs.raw.RawLock.give.Goals as goal

pub store-requires : goal.store-requires
store-requires g c =
    let v = c.requires.value in (
      search rules,
      search rules,
      give_keeps g.T.Standing.stands g.T.Standing.by c.args.self.now.table.shared.key.value _
          _ c.args.token.now.me c.args.self.now.table.shared.key.value v.0 c.requires.turn.0 c.requires.turn.1 c.requires.from v.1 v.2,
    )
