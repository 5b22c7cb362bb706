use Rattle.vl_sequence.proofs.Committed.{committed_aside}
use Rattle.vl_sequence.proofs.Giving.{ready_on}
use Rattle.vl_sequence.proofs.sequence.Sequence.rotate.Goals as goal

pub returns-clause-ready : goal.returns-clause-ready
returns-clause-ready g c =
    let self = c.args.self.now in
    ready_on (g.S.Shop.knows self.shop) (g.S.Shop.knows c.rotate.new.self) self.key self.lease self.next self.end
    c.rotate.ensures.steps.on

pub returns-clause-commits : goal.returns-clause-commits
returns-clause-commits g c commits made =
    committed_aside commits (g.S.Shop.knows c.args.self.now.shop) (g.S.Shop.knows c.rotate.new.self) made c.rotate.ensures.steps
