use Rattle.vl_seglog.proofs.Pointers.{is_pointer_spelled}
use Rattle.vl_seglog.proofs.pointer.read_pointer.Goals as goal

pub returns-clause-found : goal.returns-clause-found
returns-clause-found c =
    is_pointer_spelled c.args.bytes.now c.in_ok-segment.segment c.in_ok-place.place c.in_ok-length.length
    c.in_ok-segment.rest.now c.in_ok-place.rest.now c.in_ok-length.field-0-1.now
    (record { segment = c.in_ok-segment.ensures.fits; place = c.in_ok-place.ensures.fits; length = c.in_ok-length.ensures.fits })
    c.in_ok-segment.ensures.found c.in_ok-place.ensures.found c.in_ok-length.ensures.found
