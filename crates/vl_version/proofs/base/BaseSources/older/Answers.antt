use Rattle.vl_version.proofs.marking.VersionLaws.{HasOlder, older_found, fails_by, fits_on, is_counted}
use Rattle.vl_version.proofs.base.BaseSources.older.Goals as goal

pub returns-clause-found : goal.returns-clause-found
returns-clause-found g c = λ ms fits has.
    older_found g.H.HeldFile.bytes g.R.Reader.faults c.args.self.now.version c.args.key.now c.args.version
    c.args.reader.now c.has_older.new.reader c.args.inputs.now
    c.has_older.result c.has_older.ensures ms fits has

pub returns-clause-fits : goal.returns-clause-fits
returns-clause-fits g c = λ fits.
    let version = c.args.self.now.version in
    fits_on g.H.HeldFile.bytes g.R.Reader.faults version
    (HasOlder g.H.HeldFile.bytes g.R.Reader.faults version c.args.inputs.now c.args.key.now c.args.version)
    c.args.reader.now c.has_older.new.reader c.has_older.result c.has_older.ensures fits

pub returns-clause-cause : goal.returns-clause-cause
returns-clause-cause g c =
    let version = c.args.self.now.version in
    is_counted g.H.HeldFile.bytes g.R.Reader.faults version
    (HasOlder g.H.HeldFile.bytes g.R.Reader.faults version c.args.inputs.now c.args.key.now c.args.version)
    c.args.reader.now c.has_older.new.reader c.has_older.result c.has_older.ensures

pub returns-clause-may_fail : goal.returns-clause-may_fail
returns-clause-may_fail g c = λ fits.
    let version = c.args.self.now.version in
    fails_by g.H.HeldFile.bytes g.R.Reader.faults version
    (HasOlder g.H.HeldFile.bytes g.R.Reader.faults version c.args.inputs.now c.args.key.now c.args.version)
    c.args.reader.now c.has_older.new.reader c.has_older.result c.has_older.ensures fits
