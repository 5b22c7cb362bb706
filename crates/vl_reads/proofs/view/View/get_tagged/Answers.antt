use Rattle.std.proofs.Common.{◌≡◌, ap, Err, Ok, Option, rules}
use Rattle.vl_reads.proofs.Seeing.{fail_tagged, handed_on}
use Rattle.vl_reads.specs.Reading.{with_its_tag}
use Rattle.vl_model.specs.Keys.{Stored}
use Rattle.vl_reads.proofs.view.View.get_tagged.Goals as goal

pub returns-in_err-get-clause-sound : goal.returns-in_err-get-clause-sound
returns-in_err-get-clause-sound g c h v =
    handed_on (Option Stored) _ c.in_err-get.field-0.0 (c.in_err-get.ensures.sound h v) c.from_residual.result c.from_residual.ensures.1

pub returns-clause-looks : goal.returns-clause-looks
returns-clause-looks g c files over =
    let same : c.map.result ≡ with_its_tag c.in_ok-get.field-0 = search rules in
    record { untagged = Ok c.in_ok-get.field-0; looks = c.in_ok-get.ensures.looks files over; tagged = ap Ok same }

pub returns-in_err-get-clause-looks : goal.returns-in_err-get-clause-looks
returns-in_err-get-clause-looks g c files over = record {
  untagged = Err c.in_err-get.field-0.0;
  looks = c.in_err-get.ensures.looks files over;
  tagged = fail_tagged c.in_err-get.field-0.0 c.from_residual.result c.from_residual.ensures.1;
}
