use Rattle.vl_frame.proofs.Spellings.{is_apart}
use Rattle.vl_frame.proofs.fields.take_apart.Goals as goal

pub returns-clause-found : goal.returns-clause-found
returns-clause-found c =
    is_apart c.args.bytes.now c.in_ok-kind.kind c.in_ok-code.code c.in_ok-length.length c.in_ok-body.body.now c.in_ok-check.check.now
    c.in_ok-code.rest.now c.in_ok-length.rest.now c.in_ok-body.rest.now c.in_ok-check.field-0-1.now
    c.in_ok-code.ensures.found c.in_ok-kind.ensures.found c.in_ok-length.ensures.found c.in_ok-length.ensures.fits
    c.in_ok-body.ensures.found c.in_ok-body.ensures.count c.in_ok-check.ensures.found c.in_ok-check.ensures.count
