use Rattle.std.proofs.Common.{◌≡◌, Option, subst}
use Rattle.std.specs.FinMap.{get}
use Rattle.std.specs.Prelude.{IfOk}
use Rattle.vl_reads.proofs.Seeing.{seen_under, unwritten}
use Rattle.vl_model.specs.Keys.{Stored}
use Rattle.vl_reads.proofs.txn.Txn.get.Goals as goal

pub returns-in-None-clause-value : goal.returns-in-None-clause-value
returns-in-None-clause-value g c h reads sees =
    let t = c.args.self.now in
    subst (λ (v : Option Stored). IfOk c.look_up.result (λ value. value ≡ v))
    (seen_under t.writes h t.number c.args.key.now (unwritten (get t.writes c.args.key.now) _ c.in_ok-value.ensures c.in-None.is))
    (c.look_up.ensures.value h reads sees)

pub returns-in-None-clause-looks : goal.returns-in-None-clause-looks
returns-in-None-clause-looks g c files over none = c.look_up.ensures.looks files over
