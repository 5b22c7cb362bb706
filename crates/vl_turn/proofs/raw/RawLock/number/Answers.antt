use Rattle.std.proofs.Common.{rules}
use Rattle.vl_turn.proofs.Sharing.{number_keeps}
use Rattle.vl_turn.proofs.raw.RawLock.number.Goals as goal

pub fetch_add-requires : goal.fetch_add-requires
fetch_add-requires g c = (
  search rules,
  search rules,
  number_keeps g.T.Standing.stands g.T.Standing.by c.args.self.now.table.shared.key.value _
      _ c.args.token.now.me _ c.requires.root.0,
)
