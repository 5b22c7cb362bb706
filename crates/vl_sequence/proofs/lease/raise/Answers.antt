use Rattle.std.proofs.Common.{◌≡◌, ap, ◌∙◌, subst}
use Rattle.std.specs.FinMap.{get, get-empty}
use Rattle.std.specs.Prelude.{Option, Some}
use Rattle.vl_model.specs.History.{value_at}
use Rattle.vl_model.specs.Keys.{Stored, key_cmp}
use Rattle.vl_sequence.proofs.Beginnings.{passed_up}
use Rattle.vl_sequence.proofs.Values.{raise_cause}
use Rattle.vl_sequence.proofs.Writing.{small_none}
use Rattle.vl_sequence.specs.Causes.{IsRaiseCause}
use Rattle.vl_sequence.specs.Leases.{number_in}
use Rattle.vl_sequence.proofs.lease.raise.Goals as goal

pub get-requires-clause-unwritten : goal.get-requires-clause-unwritten
get-requires-clause-unwritten g c =
    ap (λ writes. get writes c.args.key.now) c.requires.new ∙ get-empty key_cmp c.args.key.now

pub set-requires-clause-small : goal.set-requires-clause-small
set-requires-clause-small g c = small_none (g.S.Shop.writes c.get.new.txn) (c.get.ensures.writes ∙ c.requires.new)

pub returns-in_err-first-clause-cause : goal.returns-in_err-first-clause-cause
returns-in_err-first-clause-cause g c h reads sees =
    let v = g.S.Shop.knows c.args.shop.now in
    let w = g.S.Shop.knows c.get.new.self in
    let why = c.in_err-first.field-0.0 in
    passed_up c.from_residual.result why
    (IsRaiseCause v w (value_at h (g.S.Shop.number c.args.txn.now) c.args.key.now) c.args.lease) c.from_residual.ensures.1
    (subst (λ (val : Option Stored). IsRaiseCause v w val c.args.lease why) (c.in-Ok.ensures.value h reads sees)
    (raise_cause v w c.in-Ok.value c.args.lease why (c.in_err-first.ensures.cause c.args.lease)))

pub returns-in_err-end-clause-cause : goal.returns-in_err-end-clause-cause
returns-in_err-end-clause-cause g c h reads sees =
    let v = g.S.Shop.knows c.args.shop.now in
    let w = g.S.Shop.knows c.get.new.self in
    let value = value_at h (g.S.Shop.number c.args.txn.now) c.args.key.now in
    passed_up c.from_residual-in_err-end.result c.in_err-end.field-0.0 (IsRaiseCause v w value c.args.lease)
    c.from_residual-in_err-end.ensures.1
    (raise_cause v w value c.args.lease c.in_err-end.field-0.0
    (c.in_err-end.ensures.cause value
    (subst (λ (val : Option Stored). number_in val ≡ Some c.in_ok-first.first) (c.in-Ok.ensures.value h reads sees)
    c.in_ok-first.ensures.told)))
