use Rattle.std.proofs.Common.{rules}
use Rattle.vl_turn.proofs.Sharing.{split_keeps}
use Rattle.vl_turn.proofs.raw.RawLock.split.Goals as goal

pub split_seat-requires : goal.split_seat-requires
split_seat-requires g c = (
  search rules,
  search rules,
  split_keeps g.T.Standing.stands g.T.Standing.by c.args.self.now.table.shared.key.value
      c.args.token.now.id c.args.token.now.me.0,
)
