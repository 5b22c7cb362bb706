use Rattle.std.proofs.Common.{rules, subst, sym}
use Rattle.vl_turn.specs.Steps.{MayEnter}
use Rattle.vl_turn.proofs.Turns.{enter_keeps}
use Rattle.vl_turn.proofs.raw.RawLock.enter.Goals as goal

pub fetch_add-requires : goal.fetch_add-requires
fetch_add-requires g c =
    let may = subst (MayEnter g.T.Standing.by c.args.token.now.me.0 g.W.Says.entry) (sym c.amount.ensures) c.requires.entry in (
      search rules,
      search rules,
      enter_keeps g.T.Standing.stands g.T.Standing.by c.args.self.now.table.shared.key.value
          _ _ c.args.token.now.me _ g.W.Says.entry c.requires.turn may,
    )
