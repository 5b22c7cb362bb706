use Rattle.std.proofs.Common.{[]}
use Rattle.vl_reads.specs.Sees.{asked}
use Rattle.vlstore.proofs.Shopping.{forgets_so}
use Rattle.vlstore.proofs.shop.calls.SureSessionSureDiskShop.forget.Goals as goal

pub forget-requires : goal.forget-requires
forget-requires g c = λ disk told tells. c.requires.own

pub returns : goal.returns
returns g c = record {
  steps = forgets_so c.args.self.now.session c.forget.new.self c.forget.ensures.on (asked c.args.txn [])
      (c.forget.ensures.steps c.args.self.now.tells);
}
