use Rattle.vl_version.proofs.marking.VersionLaws.{SourcesHave, exact_found, fails_by, fits_on, is_counted}
use Rattle.vl_version.proofs.base.BaseSources.exact.Goals as goal

pub returns-clause-found : goal.returns-clause-found
returns-clause-found g c = λ inputs ms fits has.
    exact_found g.H.HeldFile.bytes g.R.Reader.faults c.args.self.now.version c.args.key.now c.args.version
    c.args.reader.now c.exact.new.reader c.exact.result c.exact.ensures inputs ms fits has

pub returns-clause-fits : goal.returns-clause-fits
returns-clause-fits g c = λ fits.
    let version = c.args.self.now.version in
    fits_on g.H.HeldFile.bytes g.R.Reader.faults version
    (SourcesHave g.H.HeldFile.bytes g.R.Reader.faults version c.args.key.now c.args.version)
    c.args.reader.now c.exact.new.reader c.exact.result c.exact.ensures fits

pub returns-clause-cause : goal.returns-clause-cause
returns-clause-cause g c =
    let version = c.args.self.now.version in
    is_counted g.H.HeldFile.bytes g.R.Reader.faults version
    (SourcesHave g.H.HeldFile.bytes g.R.Reader.faults version c.args.key.now c.args.version)
    c.args.reader.now c.exact.new.reader c.exact.result c.exact.ensures

pub returns-clause-may_fail : goal.returns-clause-may_fail
returns-clause-may_fail g c = λ fits.
    let version = c.args.self.now.version in
    fails_by g.H.HeldFile.bytes g.R.Reader.faults version
    (SourcesHave g.H.HeldFile.bytes g.R.Reader.faults version c.args.key.now c.args.version)
    c.args.reader.now c.exact.new.reader c.exact.result c.exact.ensures fits
