use Rattle.vl_sequence.proofs.Committing.{forget_closes}
use Rattle.vl_sequence.proofs.lease.give_up.Goals as goal

pub returns : goal.returns
returns g c =
    forget_closes (g.S.Shop.knows c.args.shop.now) (g.S.Shop.knows c.forget.new.self) (g.S.Shop.ticket c.args.txn)
    (g.S.Shop.number c.args.txn) (g.S.Shop.writes c.args.txn) c.forget.ensures.steps
