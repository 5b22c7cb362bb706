use Rattle.std.proofs.Common.{ap}
use Rattle.vl_model.specs.Keys.{untagged}
use Rattle.vl_model.specs.declared.change.Change.TheVariants.{Set}
use Rattle.vlstore.proofs.ShopReads.{on_ok, set_done, set_sound}
use Rattle.vlstore.proofs.Shopping.{looks_itself}
use Rattle.vlstore.proofs.SmallWrites.{within_limits}
use Rattle.vlstore.proofs.shop.calls.SureSessionSureDiskShop.set.Goals as goal

pub as_set-requires : goal.as_set-requires
as_set-requires c =
    set_sound c.args.txn.now.writes c.set.new.self.writes c.args.key.now (Set (untagged c.args.value.now)) c.set.result
    (within_limits c.args.txn.now.writes c.args.key.now c.args.value.now c.requires.key c.requires.value c.requires.small)
    c.set.ensures.written

pub returns-clause-looks : goal.returns-clause-looks
returns-clause-looks c = looks_itself c.args.self.now.session

pub returns-clause-ticket : goal.returns-clause-ticket
returns-clause-ticket c = ap (λ (t : _). t.ticket) c.set.ensures.keeps

pub returns-clause-number : goal.returns-clause-number
returns-clause-number c = ap (λ (t : _). t.number) c.set.ensures.keeps

pub returns-clause-writes : goal.returns-clause-writes
returns-clause-writes c =
    on_ok _ c.as_set.result c.set.result c.as_set.ensures
    (set_done c.args.txn.now.writes c.set.new.self.writes c.args.key.now (Set (untagged c.args.value.now)) c.set.result
    c.set.ensures.written)
