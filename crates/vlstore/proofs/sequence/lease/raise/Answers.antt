use Rattle.std.proofs.Common.{◌≡◌, ◌++◌, ◌∷◌, [], List, ap, sym, ◌∙◌, subst}
use Rattle.std.specs.Prelude.{Option}
use Rattle.vl_model.specs.History.{History, value_at}
use Rattle.vl_model.specs.Keys.{Stored}
use Rattle.vl_model.specs.Reads.{KeyRead, Read}
use Rattle.vl_reads.specs.Sees.{Sees}
use Rattle.vl_sequence.proofs.Beginnings.{passed_up}
use Rattle.vl_sequence.specs.Leases.{number_in}
use Rattle.vlstore.proofs.Leasing.{by_value, no_lease, unwritten}
use Rattle.vlstore.proofs.ShopReads.{unwritten_read, unwritten_value}
use Rattle.vlstore.specs.Counting.{WasCounted}
use Rattle.vlstore.specs.Sequences.{IsNoLease}
use Rattle.vlstore.proofs.sequence.lease.raise.Goals as goal

pub returns-in-Ok-set-clause-told : goal.returns-in-Ok-set-clause-told
returns-in-Ok-set-clause-told g c h reads sees =
    let txn = c.args.txn.now in
    let key = c.args.key.now in
    ap number_in (sym (c.in-Ok.ensures.value h reads sees
    ∙ unwritten_value (value_at h txn.number key) _ (unwritten txn.writes key c.requires.new)))
    ∙ c.in_ok-first.ensures.told

pub returns-in-Ok-set-clause-sees : goal.returns-in-Ok-set-clause-sees
returns-in-Ok-set-clause-sees g c h reads sees =
    let txn = c.args.txn.now in
    let key = c.args.key.now in
    let value = value_at h txn.number key in
    c.set.ensures.sees h (reads ++ KeyRead key value ∷ [])
    (subst (λ (rs : List Read). Sees g.H.HeldFile.bytes c.get.new.self h rs)
    (unwritten_read txn.writes reads key value (unwritten txn.writes key c.requires.new))
    (c.in-Ok.ensures.sees h reads sees))

-- nothing was read

pub returns-in-Err-clause-cause : goal.returns-in-Err-clause-cause
returns-in-Err-clause-cause g c =
    no_lease ⊥ ⊥ (λ value. ⊥) _ (λ answer. ⊥) (λ answer. ⊥) _ (WasCounted g.F.Reader.faults) c.args.lease c.not_read.result (λ no. no)
    (λ value no. absurd no) (λ answer no. no) (λ failed. record {
      before = c.args.txn.now.reader.reader;
      after = c.get.new.self.reader.reader;
      rose = c.in-Err.ensures.cause.rose failed;
    }) (c.not_read.ensures c.args.lease)

-- what was read refuses

pub returns-in_err-first-clause-cause : goal.returns-in_err-first-clause-cause
returns-in_err-first-clause-cause g c =
    let txn = c.args.txn.now in
    let key = c.args.key.now in
    let had : Option Stored → Type 0 = λ value. (h : History) (reads : List Read) → Sees g.H.HeldFile.bytes txn h reads
    → value ≡ value_at h txn.number key in
    let why = c.in_err-first.field-0.0 in
    passed_up c.from_residual.result why (IsNoLease ⊥ had (λ answer. ⊥) (WasCounted g.F.Reader.faults) c.args.lease) c.from_residual.ensures.1
    (by_value had (WasCounted g.F.Reader.faults) c.args.lease why c.in-Ok.value
    (λ h reads sees. c.in-Ok.ensures.value h reads sees
    ∙ unwritten_value (value_at h txn.number key) _ (unwritten txn.writes key c.requires.new))
    (c.in_err-first.ensures.cause c.args.lease))

pub returns-in_err-end-clause-cause : goal.returns-in_err-end-clause-cause
returns-in_err-end-clause-cause g c =
    let txn = c.args.txn.now in
    let key = c.args.key.now in
    let had : Option Stored → Type 0 = λ value. (h : History) (reads : List Read) → Sees g.H.HeldFile.bytes txn h reads
    → value ≡ value_at h txn.number key in
    let why = c.in_err-end.field-0.0 in
    passed_up c.from_residual-in_err-end.result why (IsNoLease ⊥ had (λ answer. ⊥) (WasCounted g.F.Reader.faults) c.args.lease)
    c.from_residual-in_err-end.ensures.1
    (by_value had (WasCounted g.F.Reader.faults) c.args.lease why c.in-Ok.value
    (λ h reads sees. c.in-Ok.ensures.value h reads sees
    ∙ unwritten_value (value_at h txn.number key) _ (unwritten txn.writes key c.requires.new))
    (c.in_err-end.ensures.cause c.in-Ok.value c.in_ok-first.ensures.told))
