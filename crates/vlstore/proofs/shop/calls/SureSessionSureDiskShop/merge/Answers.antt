use Rattle.std.proofs.Common.{◌∙◌}
use Rattle.vlstore.proofs.ShopMerges.{merge_refused}
use Rattle.vlstore.proofs.Shopping.{looks_aside, no_fault_counted}
use Rattle.vlstore.proofs.SureDisks.{sure_disks}
use Rattle.vlstore.proofs.shop.calls.SureSessionSureDiskShop.merge.Goals as goal

pub returns-clause-steps : goal.returns-clause-steps
returns-clause-steps g c =
    looks_aside c.args.self.now.session c.merge-answer.new.self c.number.new.self _ c.merge-answer.ensures.on c.number.ensures.on
    (c.merge-answer.ensures.works c.args.self.now.tells)
    (c.number.ensures.looks (c.merge-answer.ensures.on.tells ∙ c.args.self.now.tells))

pub returns-clause-refused : goal.returns-clause-refused
returns-clause-refused g c =
    merge_refused _ sure_disks _ _ _ sure_disks.readers sure_disks.writers c.args.self.now.session c.merge-answer.new.self
    c.number.new.self c.number.ensures.on c.number.ensures.own c.args.self.now.runs c.merge-answer.result c.as_merge.result
    c.as_merge.ensures.refused (c.merge-answer.ensures.refused c.args.self.now.tells)

pub returns-clause-faults : goal.returns-clause-faults
returns-clause-faults g c = no_fault_counted _ c.args.self.now.session c.number.new.self c.as_merge.ensures.faults
