use Rattle.std.proofs.Common.{◌≡◌, ap, Err, Ok, Option, rules, subst}
use Rattle.vl_reads.proofs.Seeing.{fail_tagged, handed_on}
use Rattle.vl_reads.specs.Reading.{with_its_tag}
use Rattle.vl_model.specs.Keys.{Stored}
use Rattle.vl_reads.proofs.txn.Txn.get_tagged.Goals as goal

pub returns-in_err-get-clause-sound : goal.returns-in_err-get-clause-sound
returns-in_err-get-clause-sound g c h reads sees =
    handed_on (Option Stored) _ c.in_err-get.field-0.0 (c.in_err-get.ensures.sound h reads sees) c.from_residual.result
    c.from_residual.ensures.1

pub returns-clause-value : goal.returns-clause-value
returns-clause-value g c h reads sees =
    subst (λ (v : Option Stored). c.map.result ≡ with_its_tag v) (c.in_ok-get.ensures.value h reads sees) (search rules)

pub returns-clause-looks : goal.returns-clause-looks
returns-clause-looks g c files over none =
    let same : c.map.result ≡ with_its_tag c.in_ok-get.field-0 = search rules in
    record { untagged = Ok c.in_ok-get.field-0; looks = c.in_ok-get.ensures.looks files over none; tagged = ap Ok same }

pub returns-in_err-get-clause-looks : goal.returns-in_err-get-clause-looks
returns-in_err-get-clause-looks g c files over none = record {
  untagged = Err c.in_err-get.field-0.0;
  looks = c.in_err-get.ensures.looks files over none;
  tagged = fail_tagged c.in_err-get.field-0.0 c.from_residual.result c.from_residual.ensures.1;
}
