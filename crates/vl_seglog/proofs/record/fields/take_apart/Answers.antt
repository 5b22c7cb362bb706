use Rattle.vl_seglog.proofs.RecordParts.{is_apart}
use Rattle.vl_seglog.proofs.record.fields.take_apart.Goals as goal

pub returns-clause-found : goal.returns-clause-found
returns-clause-found c =
    let head = c.in_ok-head.head in
    is_apart c.args.format c.args.bytes.now c.in_ok-key.key.now c.in_ok-value.value.now
    c.in_ok-head.rest.now c.in_ok-key.rest.now c.in_ok-value.field-0-1.now head.flag head.tag head.key_length head.value_length
    c.in_ok-head.ensures.found c.in_ok-head.ensures.kept c.in_ok-head.ensures.fits.0 c.in_ok-head.ensures.fits.1
    c.in_ok-key.ensures.found c.in_ok-key.ensures.count c.in_ok-value.ensures.found c.in_ok-value.ensures.count
