use Rattle.vlstore.proofs.Shopping.{no_fault_counted}
use Rattle.vlstore.proofs.shop.calls.SureSessionSureDiskShop.collect.Goals as goal

pub collect-requires-clause-tells : goal.collect-requires-clause-tells
collect-requires-clause-tells g c = c.args.self.now.tells

pub collect-requires-clause-runs : goal.collect-requires-clause-runs
collect-requires-clause-runs g c = c.args.self.now.runs

pub returns-clause-faults : goal.returns-clause-faults
returns-clause-faults g c = no_fault_counted _ c.args.self.now.session c.collect.new.session c.collect.ensures.faults
