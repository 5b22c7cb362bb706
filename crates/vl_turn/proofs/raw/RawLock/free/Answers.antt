use Rattle.std.proofs.Common.{◌≡◌, None, ◌∙◌, sym}
use Rattle.vl_turn.proofs.Ends.{emptied}
use Rattle.vl_turn.proofs.raw.RawLock.free.Goals as goal

pub unreachable-requires : goal.unreachable-requires
unreachable-requires g c =
    let last = c.close_with-closed.ensures.values.2 in
    let none : c.take.result ≡ None =
    (emptied g.T.Standing.stands g.T.Standing.by c.args.self.table.shared.key.value last.0 last.1.0 c.args.token.id
    c.args.token.me.0 _ c.take.result last.1.1 c.requires.holds c.requires.closed last.4 c.take.ensures.value).1 in
    cc (sym none ∙ c.in-Some.is)

pub returns : goal.returns
returns g c =
    let last = c.close_with-closed.ensures.values.2 in
    (emptied g.T.Standing.stands g.T.Standing.by c.args.self.table.shared.key.value last.0 last.1.0 c.args.token.id
    c.args.token.me.0 _ c.take.result last.1.1 c.requires.holds c.requires.closed last.4 c.take.ensures.value).0
