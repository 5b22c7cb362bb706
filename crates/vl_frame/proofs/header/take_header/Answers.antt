use Rattle.vl_frame.proofs.Headers.{is_header_apart}
use Rattle.vl_frame.proofs.header.take_header.Goals as goal

pub returns-clause-found : goal.returns-clause-found
returns-clause-found c =
    is_header_apart c.args.bytes.now c.in_ok-front.front.now c.in_ok-format.format c.in_ok-number.number c.in_ok-last.last
    c.in_ok-front.rest.now c.in_ok-format.rest.now c.in_ok-number.rest.now c.in_ok-last.field-0-1.now
    c.in_ok-front.ensures.count c.in_ok-format.ensures.fits c.in_ok-number.ensures.fits c.in_ok-last.ensures.fits
    c.in_ok-front.ensures.found c.in_ok-format.ensures.found c.in_ok-number.ensures.found c.in_ok-last.ensures.found
