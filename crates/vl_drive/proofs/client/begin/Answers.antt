use Rattle.vl_drive.proofs.Modesty.{begun_busy}
use Rattle.vl_drive.proofs.client.begin.Goals as goal

pub returns-in-Ok-clause-busy : goal.returns-in-Ok-clause-busy
returns-in-Ok-clause-busy g c turns idle =
    begun_busy (g.S.Shop.knows c.args.shop.now) (g.S.Shop.knows c.begin.new.self) (g.S.Shop.ticket c.in-Ok.txn) (g.S.Shop.number c.in-Ok.txn)
    turns c.in-Ok.ensures.steps idle
