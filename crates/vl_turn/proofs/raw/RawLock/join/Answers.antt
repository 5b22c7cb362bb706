use Rattle.std.proofs.Common.{rules}
use Rattle.vl_turn.proofs.Sharing.{join_keeps}
use Rattle.vl_turn.proofs.raw.RawLock.join.Goals as goal

pub join_seat-requires : goal.join_seat-requires
join_seat-requires g c =
    let keeps = join_keeps g.T.Standing.stands g.T.Standing.by c.args.self.now.table.shared.key.value c.args.stay.now.id
    c.args.stay.now.me.0 c.args.gone.id c.args.gone.me.0 c.requires.stay.idle c.requires.gone.idle c.requires.gone.unclosed in
    (search rules, search rules, search rules, search rules, keeps)
