use Rattle.vl_seglog.proofs.Headless.{heading_read}
use Rattle.vl_seglog.proofs.read.header.header_format.Goals as goal

pub returns : goal.returns
returns c =
    heading_read c.args.number c.args.bytes.now c.ranges.number.fits c.read_header.result c.read_header.ensures.found
    c.read_header.ensures.readable c.read_header.ensures.none
