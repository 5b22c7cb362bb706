use Rattle.std.proofs.Common.{◌≡◌, ap, subst}
use Rattle.std.specs.Prelude.{List, IfOk, Option, Some}
use Rattle.vl_disk.specs.Faults.{never}
use Rattle.vl_mem.specs.Held.{held_bytes}
use Rattle.vl_reads.specs.Sees.{Sees}
use Rattle.vl_model.specs.History.{value_at}
use Rattle.vl_model.specs.Keys.{Stored}
use Rattle.vl_model.specs.Reads.{Read}
use Rattle.vlstore.proofs.ShopReads.{read_sound, seen_then, unwritten_read, unwritten_value}
use Rattle.vlstore.proofs.Shopping.{no_fault_counted, if_ok, looks_itself}
use Rattle.vlstore.proofs.SureDisks.{sure_disks}
use Rattle.vlstore.proofs.shop.calls.SureSessionSureDiskShop.get.Goals as goal

pub as_read-requires : goal.as_read-requires
as_read-requires c =
    read_sound c.args.key.now never never
    c.get.result c.requires.key c.get.ensures.refused c.get.ensures.cause
    (sure_disks.readers c.get.new.self.reader.reader.inner) (c.get.ensures.sound c.requires.sees.0 c.requires.sees.1 c.requires.sees.2)

pub returns-clause-looks : goal.returns-clause-looks
returns-clause-looks c = looks_itself c.args.self.now.session

pub returns-clause-value : goal.returns-clause-value
returns-clause-value c h reads sees =
    if_ok _ c.as_read.result c.get.result c.as_read.ensures.ok
    (subst (λ (v : Option Stored). IfOk c.get.result (λ value. value ≡ v))
    (unwritten_value (value_at h c.args.txn.now.number c.args.key.now) _ c.requires.unwritten)
    (c.get.ensures.value h reads sees))

pub returns-clause-sees : goal.returns-clause-sees
returns-clause-sees c h reads sees =
    let value = value_at h c.args.txn.now.number c.args.key.now in
    if_ok _ c.as_read.result c.get.result c.as_read.ensures.ok
    (seen_then (λ (rs : List Read). Sees (λ held. Some (held_bytes held)) c.get.new.self h rs) reads c.args.key.now value c.get.result
    (subst (λ (v : Option Stored). IfOk c.get.result (λ answer. answer ≡ v))
    (unwritten_value value _ c.requires.unwritten) (c.get.ensures.value h reads sees))
    (unwritten_read c.args.txn.now.writes reads c.args.key.now value c.requires.unwritten)
    (c.get.ensures.sees h reads sees))

pub returns-clause-ticket : goal.returns-clause-ticket
returns-clause-ticket c = ap (λ (t : _). t.ticket) c.get.ensures.keeps

pub returns-clause-number : goal.returns-clause-number
returns-clause-number c = ap (λ (t : _). t.number) c.get.ensures.keeps

pub returns-clause-writes : goal.returns-clause-writes
returns-clause-writes c = ap (λ (t : _). t.writes) c.get.ensures.keeps

pub returns-clause-faults : goal.returns-clause-faults
returns-clause-faults c = no_fault_counted _ c.args.self.now.session c.args.self.now.session c.as_read.ensures.faults
