use Rattle.vlstore.proofs.Shopping.{meets}
use Rattle.vlstore.proofs.shop.calls.SureSessionSureDiskShop.meet.Goals as goal

pub returns : goal.returns
returns c = meets c.args.self.now.session c.meet.new.self c.args.note c.meet.ensures
