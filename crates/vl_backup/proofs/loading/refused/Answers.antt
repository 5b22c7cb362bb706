-- What was handed back is given up, and what was not has ended.
use Rattle.vl_backup.proofs.Committing.{full_left, short_left, used_up_left}
use Rattle.vl_backup.specs.Loading.{parts}
use Rattle.vl_backup.proofs.loading.refused.Goals as goal

pub returns-in-Exhausted-clause-works : goal.returns-in-Exhausted-clause-works
returns-in-Exhausted-clause-works g c h l is =
    used_up_left g.D.Watched g.D.Held.HeldFile.bytes (parts c.forget.new.self.core c.forget.new.self.disk) h l c.args.why
    c.in-Exhausted.txn
    c.in-Exhausted.is
    (record { represents = c.forget.ensures.represents h l is.represents; fits = c.forget.ensures.fits h l is.fits })

pub returns-in-Full-clause-works : goal.returns-in-Full-clause-works
returns-in-Full-clause-works g c h l is =
    full_left g.D.Watched g.D.Held.HeldFile.bytes (parts c.forget-in-Full.new.self.core c.forget-in-Full.new.self.disk) h l
    c.args.why
    c.in-Full.txn
    c.in-Full.length c.in-Full.frame c.in-Full.is
    (record {
      represents = c.forget-in-Full.ensures.represents h l is.represents;
      fits = c.forget-in-Full.ensures.fits h l
          is.fits;
    })

pub returns-clause-works : goal.returns-clause-works
returns-clause-works g c h l is =
    short_left g.D.Watched g.D.Held.HeldFile.bytes
    (parts c.forget-in-NoMemory.new.self.core c.forget-in-NoMemory.new.self.disk) h l
    c.args.why c.in-NoMemory.txn
    c.in-NoMemory.is
    (record {
      represents = c.forget-in-NoMemory.ensures.represents h l is.represents;
      fits = c.forget-in-NoMemory.ensures.fits h l is.fits;
    })
