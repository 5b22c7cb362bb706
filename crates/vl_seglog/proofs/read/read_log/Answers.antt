use Rattle.vl_seglog.specs.laws.LogReadingLaws.{reads_no_header}
use Rattle.vl_seglog.proofs.Headless.{no_header}
use Rattle.vl_seglog.proofs.read.read_log.Goals as goal

pub returns-in_default-clause-reads : goal.returns-in_default-clause-reads
returns-in_default-clause-reads c =
    rw c.new.ensures.items (reads_no_header c.args.number c.args.bytes.now
    (no_header c.args.number c.args.bytes.now c.ranges.number.fits c.in_default.ensures.none))
