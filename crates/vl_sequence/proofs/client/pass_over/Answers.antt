use Rattle.vl_sequence.proofs.Leased.{leased_on}
use Rattle.vl_sequence.proofs.Stopping.{stops_since}
use Rattle.vl_sequence.proofs.client.pass_over.Goals as goal

pub returns-in-Full-clause-leased : goal.returns-in-Full-clause-leased
returns-in-Full-clause-leased g c leases x =
    let self = c.args.sequence.now in
    leased_on self.key self.lease leases (g.S.Shop.knows self.shop) (g.S.Shop.knows c.rotate.new.self.shop) c.rotate.ensures.steps.on x
    (c.rotate.ensures.commits leases x.committed)

pub returns-in-Full-clause-stopped : goal.returns-in-Full-clause-stopped
returns-in-Full-clause-stopped g c v on cause =
    let self = c.args.sequence.now in
    let u = g.S.Shop.knows self.shop in
    let w = g.S.Shop.knows c.rotate.new.self.shop in
    stops_since v u w self.key self.lease on c.sealed.result (c.sealed.ensures u w self.key self.lease c.rotate.ensures.faults)
