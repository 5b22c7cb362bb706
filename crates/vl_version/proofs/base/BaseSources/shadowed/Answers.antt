use Rattle.vl_version.proofs.marking.VersionLaws.{IsFirst, first_found, fails_by, fits_on, is_counted}
use Rattle.vl_version.proofs.base.BaseSources.shadowed.Goals as goal

pub returns-clause-found : goal.returns-clause-found
returns-clause-found g c = λ ms fits has.
    first_found g.H.HeldFile.bytes g.R.Reader.faults c.args.self.now.version c.args.key.now c.args.version
    c.args.reader.now c.is_first_outside.new.reader c.args.inputs.now
    c.is_first_outside.result c.is_first_outside.ensures ms fits has

pub returns-clause-fits : goal.returns-clause-fits
returns-clause-fits g c = λ fits.
    let version = c.args.self.now.version in
    fits_on g.H.HeldFile.bytes g.R.Reader.faults version
    (IsFirst g.H.HeldFile.bytes g.R.Reader.faults version c.args.inputs.now c.args.key.now c.args.version)
    c.args.reader.now c.is_first_outside.new.reader c.is_first_outside.result c.is_first_outside.ensures fits

pub returns-clause-cause : goal.returns-clause-cause
returns-clause-cause g c =
    let version = c.args.self.now.version in
    is_counted g.H.HeldFile.bytes g.R.Reader.faults version
    (IsFirst g.H.HeldFile.bytes g.R.Reader.faults version c.args.inputs.now c.args.key.now c.args.version)
    c.args.reader.now c.is_first_outside.new.reader c.is_first_outside.result c.is_first_outside.ensures

pub returns-clause-may_fail : goal.returns-clause-may_fail
returns-clause-may_fail g c = λ fits.
    let version = c.args.self.now.version in
    fails_by g.H.HeldFile.bytes g.R.Reader.faults version
    (IsFirst g.H.HeldFile.bytes g.R.Reader.faults version c.args.inputs.now c.args.key.now c.args.version)
    c.args.reader.now c.is_first_outside.new.reader c.is_first_outside.result c.is_first_outside.ensures fits
