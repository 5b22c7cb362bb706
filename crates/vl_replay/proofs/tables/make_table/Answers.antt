use Rattle.std.proofs.Common.{Option, true, ◌≡◌, ◌∙◌, ap, subst}
use Rattle.vl_script_model.specs.Sequential.{history_of}
use Rattle.vl_version.specs.Bases.{Fits}
use Rattle.vl_version.specs.declared.base.Base.{Base}
use Rattle.vl_replay.proofs.AsCalled.Merging.{met_alike, met_filling, met_reading, met_unlent}
use Rattle.std.specs.Prelude.{Err, IfNone}
use Rattle.vl_steps.specs.Merging.{HasAllMerge}
use Rattle.vl_steps.specs.laws.SameJobs.{first_same, has_same, next_same}
use Rattle.vl_replay.specs.Rounds.{halt_by}
use Rattle.vl_replay.specs.declared.tables.Round.{Round}
use Rattle.vl_replay.proofs.CarryingJob.{filling_failed, filling_sure, fits_kept, fits_same, fits_taken, left_under_way, lent_under_way}
use Rattle.vl_replay.proofs.CarryingJob.{one_lent, reading_failed, reading_sure, refused_under_way, sound_filling, sound_reading, still_lent}
use Rattle.vl_replay.proofs.CarryingJob.{unlent_cause, unlent_fault, unlent_tells}
use Rattle.vl_replay.proofs.CarryingRounds.{ended, filled, is_fresh, unfilled, unlent, unread}
use Rattle.vl_space.specs.Removing.{Removes}
use Rattle.vl_replay.proofs.CarryingRemoved.{lent_leaves, unlent_leaves}
use Rattle.vl_compact.specs.declared.files.Lent.{Lent}
use Rattle.vl_compact.specs.laws.SureReaders.{still_sure}
use Rattle.vl_table.specs.declared.block_reader.BlockReader.{BlockReader}
use Rattle.vl_replay.proofs.tables.make_table.Goals as goal

-- ---- it has all of its tables

pub returns-in-Ok-None-clause-rounds : goal.returns-in-Ok-None-clause-rounds
returns-in-Ok-None-clause-rounds g c s j way =
    ended g.D.Watched (record { only_now = g.met.D.Disk.only_now; counts_now = g.met.D.Disk.counts_now }) g.D.Writer.Writer
    g.D.Held.HeldFile.bytes s j
    c.args.engine.now.disk c.args.engine.now.core c.args.engine.now.merging c.args.job.now c.ready.new.self c.args.reader.now
    c.ready.new.reader
    way c.ready.ensures.kept (c.in-Ok-None.ensures.answers j way.fits way.has).state
    (subst (λ (o : Option _). IfNone o (HasAllMerge g.D.Writer.Writer g.D.Held.HeldFile.bytes c.ready.new.self j)) c.in-Ok-None.field-0-is
    (c.in-Ok-None.ensures.answers j way.fits way.has).all)

pub returns-in-Ok-None-clause-lent : goal.returns-in-Ok-None-clause-lent
returns-in-Ok-None-clause-lent g c lent = (
  still_lent g.D.Watched g.D.Writer.Writer c.args.engine.now.disk c.args.engine.now.merging c.args.job.now c.ready.new.self
      c.ready.ensures.kept lent,
  subst (λ (o : Option _). IfNone o (c.ready.new.self.ended ≡ true)) c.in-Ok-None.field-0-is c.in-Ok-None.ensures.ended,
)

pub returns-in-Ok-None-clause-under_way : goal.returns-in-Ok-None-clause-under_way
returns-in-Ok-None-clause-under_way g c lent =
    lent_under_way g.D.Watched g.D.Writer.Writer c.args.engine.now.disk c.args.engine.now.core.front.halted c.args.engine.now.merging
    c.ready.new.self
    (still_lent g.D.Watched g.D.Writer.Writer c.args.engine.now.disk c.args.engine.now.merging c.args.job.now c.ready.new.self
    c.ready.ensures.kept lent)

-- ---- it goes on with what it found

pub fill-requires-clause-next : goal.fill-requires-clause-next
fill-requires-clause-next g c =
    next_same c.ready.new.self c.fresh.new.job c.fresh.ensures.job c.in-Ok-Some.next _ _ g.D.Held.HeldFile.bytes
    (c.in-Ok-Some.ensures.next c.in-Ok-Some.next c.in-Ok-Some.field-0-is)

-- ---- it couldn't read on

pub returns-in-Err-clause-under_way : goal.returns-in-Err-clause-under_way
returns-in-Err-clause-under_way g c lent =
    lent_under_way g.D.Watched g.D.Writer.Writer c.args.engine.now.disk c.args.engine.now.core.front.halted c.args.engine.now.merging
    c.ready.new.self
    (still_lent g.D.Watched g.D.Writer.Writer c.args.engine.now.disk c.args.engine.now.merging c.args.job.now c.ready.new.self
    c.ready.ensures.kept lent)

pub returns-in-Err-clause-rounds : goal.returns-in-Err-clause-rounds
returns-in-Err-clause-rounds g c s j way =
    rw c.halt_at.ensures (unread g.D.Watched (record
    { only_now = g.met.D.Disk.only_now; counts_now = g.met.D.Disk.counts_now }) g.D.Writer.Writer
    g.D.Held.HeldFile.bytes s j
    c.args.engine.now.disk c.args.engine.now.core c.args.engine.now.merging c.args.job.now c.ready.new.self c.args.reader.now
    c.ready.new.reader
    way c.in-Err.fault
    (sound_reading g.D.Writer.Writer g.D.Held.HeldFile.bytes c.args.job.now c.args.reader.now.looks j way.has way.fits _ c.in-Err.fault
    c.in-Err.ensures.cause))

pub returns-in-Err-clause-fault : goal.returns-in-Err-clause-fault
returns-in-Err-clause-fault g c running by = record {
  failed = reading_failed g.D.Reader.Reader.faults g.D.Writer.Writer c.args.reader.now c.ready.new.reader Round _ _ c.in-Err.fault
      c.in-Err.ensures.cause
      (rw c.halt_at.ensures at by);
  not_so = λ sure. reading_sure g.D.Reader.Reader.faults g.D.Writer.Writer c.args.reader.now c.ready.new.reader sure.reads Round _ _
      c.in-Err.fault c.in-Err.ensures.cause (rw c.halt_at.ensures at by);
}

-- ---- it was lent no file

pub returns-in-Err-fresh-clause-rounds : goal.returns-in-Err-fresh-clause-rounds
returns-in-Err-fresh-clause-rounds g c s j way =
    rw c.refused.ensures (unlent g.D.Watched (record
    { only_now = g.met.D.Disk.only_now; counts_now = g.met.D.Disk.counts_now }) g.D.Writer.Writer
    g.D.Held.HeldFile.bytes s j
    c.args.engine.now.disk c.fresh.new.self.disk c.args.engine.now.core c.fresh.new.self.core c.args.engine.now.merging
    c.fresh.new.self.merging
    c.args.job.now c.ready.new.self c.fresh.new.job c.fresh.new.job c.args.reader.now c.ready.new.reader c.ready.new.reader
    way c.ready.ensures.kept (c.in-Ok-Some.ensures.answers j way.fits way.has).state
    ((c.in-Ok-Some.ensures.answers j way.fits way.has).missing c.in-Ok-Some.next c.in-Ok-Some.field-0-is)
    (fits_kept g.D.Held.HeldFile.bytes c.args.job.now c.ready.new.self c.ready.new.reader.looks c.ready.ensures.kept
    (c.ready.ensures.fits way.fits))
    c.fresh.ensures.job c.in-Err-fresh.fail (record {
      stands = c.in-Err-fresh.ensures.stands (history_of s) s.store.layout;
      carries = c.in-Err-fresh.ensures.carries (history_of s) s.store.layout;
      fits = c.in-Err-fresh.ensures.fits (history_of s) s.store.layout;
      untouched = c.in-Err-fresh.ensures.untouched;
      files = c.in-Err-fresh.ensures.files;
      stopped = c.in-Err-fresh.ensures.stopped;
      core = c.in-Err-fresh.ensures.core;
      failed = c.in-Err-fresh.ensures.failed;
      meanwhile = c.in-Err-fresh.ensures.meanwhile;
      leaves = c.in-Err-fresh.ensures.leaves (history_of s) s.store.layout;
      within = c.in-Err-fresh.ensures.within;
    }))

pub returns-in-Err-fresh-clause-cause : goal.returns-in-Err-fresh-clause-cause
returns-in-Err-fresh-clause-cause g c =
    rw c.refused.ensures (unlent_cause (Lent g.row.D-Writer.Denot g.D.Writer.Writer) _ _ c.in-Err-fresh.fail c.in-Err-fresh.ensures.cause)

pub returns-in-Err-fresh-clause-fault : goal.returns-in-Err-fresh-clause-fault
returns-in-Err-fresh-clause-fault g c running by =
    absurd (unlent_fault g.D.Writer.Writer c.args.engine.now.core c.fresh.new.self.core c.in-Err-fresh.fail running c.in-Err-fresh.ensures.core
    (rw c.refused.ensures at by))

pub returns-in-Err-fresh-clause-under_way : goal.returns-in-Err-fresh-clause-under_way
returns-in-Err-fresh-clause-under_way g c lent =
    refused_under_way g.D.Watched g.D.Writer.Writer c.args.engine.now.disk c.fresh.new.self.disk c.fresh.new.self.core.front.halted
    c.args.engine.now.merging c.fresh.new.self.merging c.args.job.now c.ready.new.self c.fresh.new.job lent c.ready.ensures.kept
    c.fresh.ensures.job c.in-Err-fresh.ensures.refused
    (unlent_tells g.D.Watched g.D.Writer.Writer c.args.engine.now.core c.fresh.new.self.core c.args.engine.now.disk
    c.fresh.new.self.disk c.in-Err-fresh.fail c.in-Err-fresh.ensures.core c.in-Err-fresh.ensures.untouched)

-- ---- the file became a table

pub returns-in-Ok-fill-clause-under_way : goal.returns-in-Ok-fill-clause-under_way
returns-in-Ok-fill-clause-under_way g c lent =
    lent_under_way g.D.Watched g.D.Writer.Writer c.fresh.new.self.disk c.fresh.new.self.core.front.halted c.fresh.new.self.merging
    c.fill.new.self
    (one_lent g.D.Watched g.D.Writer.Writer c.args.engine.now.disk c.fresh.new.self.disk c.args.engine.now.merging c.fresh.new.self.merging
    c.args.job.now c.ready.new.self c.fresh.new.job c.fill.new.self c.in-Ok.file lent c.ready.ensures.kept c.fresh.ensures.job
    c.in-Ok-fill.ensures.takes c.in-Ok.ensures.merging c.in-Ok.ensures.fresh c.in-Ok.ensures.empty c.in-Ok.ensures.untold)

pub returns-in-Ok-fill-clause-rounds : goal.returns-in-Ok-fill-clause-rounds
returns-in-Ok-fill-clause-rounds g c s j way =
    let has = (c.in-Ok-Some.ensures.answers j way.fits way.has).state in
    let fits =
    fits_kept g.D.Held.HeldFile.bytes c.args.job.now c.ready.new.self c.ready.new.reader.looks c.ready.ensures.kept
    (c.ready.ensures.fits way.fits)
    in
    let still = fits_same g.D.Held.HeldFile.bytes c.ready.new.self c.fresh.new.job c.ready.new.reader.looks c.fresh.ensures.job fits in
    let short = (c.in-Ok-Some.ensures.answers j way.fits way.has).missing c.in-Ok-Some.next c.in-Ok-Some.field-0-is in
    filled g.D.Watched (record { only_now = g.met.D.Disk.only_now; counts_now = g.met.D.Disk.counts_now }) g.D.Writer.Writer
    g.D.Held.HeldFile.bytes s j
    c.args.engine.now.disk c.fresh.new.self.disk c.args.engine.now.core c.fresh.new.self.core c.args.engine.now.merging
    c.fresh.new.self.merging
    c.args.job.now c.ready.new.self c.fresh.new.job c.fill.new.self c.args.reader.now c.ready.new.reader c.fill.new.reader
    way c.ready.ensures.kept has short fits c.fresh.ensures.job c.in-Ok.file (record {
      stands = c.in-Ok.ensures.stands (history_of s) s.store.layout;
      carries = c.in-Ok.ensures.carries (history_of s) s.store.layout;
      fits = c.in-Ok.ensures.fits (history_of s) s.store.layout;
      untouched = c.in-Ok.ensures.untouched;
      files = c.in-Ok.ensures.files;
      stopped = c.in-Ok.ensures.stopped;
      core = c.in-Ok.ensures.core;
      failed = c.in-Ok.ensures.failed;
      meanwhile = c.in-Ok.ensures.meanwhile;
      leaves = c.in-Ok.ensures.leaves (history_of s) s.store.layout;
      within = c.in-Ok.ensures.within;
    })
    c.in-Ok-fill.ensures.takes
    (c.in-Ok-fill.ensures.next j still
    (is_fresh g.D.Watched (record { only_now = g.met.D.Disk.only_now; counts_now = g.met.D.Disk.counts_now }) g.D.Writer.Writer
    g.D.Held.HeldFile.bytes s j
    c.args.engine.now.disk c.fresh.new.self.disk c.args.engine.now.core c.fresh.new.self.core c.args.engine.now.merging
    c.fresh.new.self.merging
    c.args.job.now c.ready.new.self c.fresh.new.job c.fill.new.self c.args.reader.now c.ready.new.reader c.fill.new.reader
    way c.ready.ensures.kept has short fits c.fresh.ensures.job c.in-Ok.file c.in-Ok.ensures.empty)
    (has_same g.D.Writer.Writer g.D.Held.HeldFile.bytes c.ready.new.self c.fresh.new.job j c.fresh.ensures.job has)
    (first_same c.ready.new.self c.fresh.new.job c.fresh.ensures.job c.in-Ok-Some.next _ j
    ((c.in-Ok-Some.ensures.answers j way.fits way.has).first c.in-Ok-Some.next c.in-Ok-Some.field-0-is)))
    (fits_taken g.D.Writer.Writer g.D.Held.HeldFile.bytes c.in-Ok.file c.fresh.new.job c.fill.new.self c.fill.new.reader.looks
    c.in-Ok-fill.ensures.takes (c.fill.ensures.fits still))

pub returns-in-Ok-fill-clause-lent : goal.returns-in-Ok-fill-clause-lent
returns-in-Ok-fill-clause-lent g c lent =
    one_lent g.D.Watched g.D.Writer.Writer c.args.engine.now.disk c.fresh.new.self.disk c.args.engine.now.merging c.fresh.new.self.merging
    c.args.job.now c.ready.new.self c.fresh.new.job c.fill.new.self c.in-Ok.file lent c.ready.ensures.kept c.fresh.ensures.job
    c.in-Ok-fill.ensures.takes c.in-Ok.ensures.merging c.in-Ok.ensures.fresh c.in-Ok.ensures.empty c.in-Ok.ensures.untold

-- ---- the file couldn't be filled

pub returns-in-Err-fill-clause-under_way : goal.returns-in-Err-fill-clause-under_way
returns-in-Err-fill-clause-under_way g c lent =
    left_under_way g.D.Watched g.D.Writer.Writer c.args.engine.now.disk c.fresh.new.self.disk c.fresh.new.self.core.front.halted
    c.args.engine.now.merging c.fresh.new.self.merging c.args.job.now c.ready.new.self c.fresh.new.job c.fill.new.self c.in-Ok.file
    lent c.ready.ensures.kept c.fresh.ensures.job c.in-Err-fill.ensures.refused c.in-Ok.ensures.merging c.in-Ok.ensures.fresh
    c.in-Ok.ensures.empty c.in-Ok.ensures.untold

pub returns-in-Err-fill-clause-rounds : goal.returns-in-Err-fill-clause-rounds
returns-in-Err-fill-clause-rounds g c s j way =
    let has = (c.in-Ok-Some.ensures.answers j way.fits way.has).state in
    let fits =
    fits_kept g.D.Held.HeldFile.bytes c.args.job.now c.ready.new.self c.ready.new.reader.looks c.ready.ensures.kept
    (c.ready.ensures.fits way.fits)
    in
    let still = fits_same g.D.Held.HeldFile.bytes c.ready.new.self c.fresh.new.job c.ready.new.reader.looks c.fresh.ensures.job fits in
    rw c.halt_at-in-Err-fill.ensures (unfilled g.D.Watched
    (record { only_now = g.met.D.Disk.only_now; counts_now = g.met.D.Disk.counts_now })
    g.D.Writer.Writer g.D.Held.HeldFile.bytes s j
    c.args.engine.now.disk c.fresh.new.self.disk c.args.engine.now.core c.fresh.new.self.core c.args.engine.now.merging
    c.fresh.new.self.merging
    c.args.job.now c.ready.new.self c.fresh.new.job c.fill.new.self c.args.reader.now c.ready.new.reader c.fill.new.reader
    way c.ready.ensures.kept has ((c.in-Ok-Some.ensures.answers j way.fits way.has).missing c.in-Ok-Some.next c.in-Ok-Some.field-0-is) fits c.fresh.ensures.job c.in-Ok.file (record {
      stands = c.in-Ok.ensures.stands (history_of s) s.store.layout;
      carries = c.in-Ok.ensures.carries (history_of s) s.store.layout;
      fits = c.in-Ok.ensures.fits (history_of s) s.store.layout;
      untouched = c.in-Ok.ensures.untouched;
      files = c.in-Ok.ensures.files;
      stopped = c.in-Ok.ensures.stopped;
      core = c.in-Ok.ensures.core;
      failed = c.in-Ok.ensures.failed;
      meanwhile = c.in-Ok.ensures.meanwhile;
      leaves = c.in-Ok.ensures.leaves (history_of s) s.store.layout;
      within = c.in-Ok.ensures.within;
    })
    c.in-Err-fill.fault
    (sound_filling g.D.Writer.Writer g.D.Held.HeldFile.bytes c.fresh.new.job c.ready.new.reader.looks j
    (has_same g.D.Writer.Writer g.D.Held.HeldFile.bytes c.ready.new.self c.fresh.new.job j c.fresh.ensures.job has) still _ c.in-Ok.file
    c.fresh.new.job c.fill.new.self c.in-Err-fill.fault c.in-Err-fill.ensures.cause))

pub returns-in-Err-fill-clause-fault : goal.returns-in-Err-fill-clause-fault
returns-in-Err-fill-clause-fault g c running by = record {
  failed = filling_failed g.D.Reader.Reader.faults g.D.Writer.Writer c.ready.new.reader c.fill.new.reader Round _ _ c.in-Ok.file c.fresh.new.job
      c.fill.new.self c.in-Err-fill.fault c.in-Err-fill.ensures.cause (rw c.halt_at-in-Err-fill.ensures at by);
  not_so = λ sure. filling_sure g.D.Reader.Reader.faults g.D.Writer.Writer c.ready.new.reader c.fill.new.reader
      (still_sure (λ (l : BlockReader _). g.D.Reader.Reader.faults l.reader) g.D.Reader.Reader.faults c.args.reader.now
      c.ready.new.reader c.in-Ok-Some.ensures.steady sure.reads) Round _ _ c.in-Ok.file c.fresh.new.job c.fill.new.self
      c.in-Err-fill.fault (c.in-Ok.ensures.writer.never_fails sure.gives) c.in-Err-fill.ensures.cause
      (rw c.halt_at-in-Err-fill.ensures at by);
}

-- ---- what the engine keeps of which files can go

pub returns-in-Err-fresh-clause-removes : goal.returns-in-Err-fresh-clause-removes
returns-in-Err-fresh-clause-removes g c s j way removes =
    let new = c.fresh.new.self in
    rw c.refused.ensures (unlent_leaves s.store.layout (history_of s) (Removes new.core new.removing) _ _ _
    g.D.Writer.Writer c.in-Err-fresh.fail
    (c.in-Err-fresh.ensures.removes (history_of s) s.store.layout
    (record { stands = way.serves.stands; opens = way.serves.opens }) (λ running. (way.serves.fits.running running).numbers) removes))

pub returns-in-Ok-fill-clause-removes : goal.returns-in-Ok-fill-clause-removes
returns-in-Ok-fill-clause-removes g c s j way removes =
    let new = c.fresh.new.self in
    lent_leaves s.store.layout (history_of s) (Removes new.core new.removing) _ _ c.in-Ok.file
    (c.in-Ok.ensures.removes (history_of s) s.store.layout
    (record { stands = way.serves.stands; opens = way.serves.opens }) (λ running. (way.serves.fits.running running).numbers) removes)

-- ---- damage, whatever the disk holds

pub returns-in-Err-clause-as_called : goal.returns-in-Err-clause-as_called
returns-in-Err-clause-as_called g c =
    rw c.halt_at.ensures (met_reading g.D.Held.HeldFile.bytes g.D.Reader.Reader.faults g.D.Writer.Writer
    (Fits g.D.Held.HeldFile.bytes c.args.job.now.base.version c.args.reader.now.looks) c.args.job.now c.args.job.now.after Round _ c.in-Err.fault
    c.in-Err.ensures.cause
    (reading_failed g.D.Reader.Reader.faults g.D.Writer.Writer c.args.reader.now c.ready.new.reader Round _ _ c.in-Err.fault
    c.in-Err.ensures.cause))

pub returns-in-Err-fresh-clause-as_called : goal.returns-in-Err-fresh-clause-as_called
returns-in-Err-fresh-clause-as_called g c =
    rw c.refused.ensures (met_unlent g.D.Held.HeldFile.bytes g.D.Reader.Reader.faults g.D.Writer.Writer _ c.args.job.now c.in-Err-fresh.fail)

pub returns-in-Err-fill-clause-as_called : goal.returns-in-Err-fill-clause-as_called
returns-in-Err-fill-clause-as_called g c =
    let bytes = g.D.Held.HeldFile.bytes in
    rw c.halt_at-in-Err-fill.ensures (met_alike bytes g.D.Reader.Reader.faults g.D.Writer.Writer {T = Round}
    (Fits bytes c.fresh.new.job.base.version c.ready.new.reader.looks)
    (Fits bytes c.args.job.now.base.version c.args.reader.now.looks) c.args.job.now c.fresh.new.job
    (ap (λ j. j.base) c.fresh.ensures.job.same ∙ ap (λ j. j.base) c.ready.ensures.kept)
    (ap (λ j. j.inputs) c.fresh.ensures.job.same ∙ ap (λ j. j.inputs) c.ready.ensures.kept)
    (λ fits. fits_same bytes c.ready.new.self c.fresh.new.job c.ready.new.reader.looks c.fresh.ensures.job
    (fits_kept bytes c.args.job.now c.ready.new.self c.ready.new.reader.looks c.ready.ensures.kept (c.ready.ensures.fits fits)))
    (Err (halt_by c.in-Err-fill.fault)) (met_filling bytes g.D.Reader.Reader.faults g.D.Writer.Writer _ c.fresh.new.job c.fresh.new.job.after Round _ c.in-Ok.file c.fresh.new.job
    c.fill.new.self
    c.in-Err-fill.fault c.in-Err-fill.ensures.cause
    (filling_failed g.D.Reader.Reader.faults g.D.Writer.Writer c.ready.new.reader c.fill.new.reader Round _ _ c.in-Ok.file c.fresh.new.job
    c.fill.new.self c.in-Err-fill.fault c.in-Err-fill.ensures.cause)))

-- ---- what is merged stays the same

pub returns-in-Ok-None-clause-base : goal.returns-in-Ok-None-clause-base
returns-in-Ok-None-clause-base g c = ap (λ j. j.base) c.ready.ensures.kept

pub returns-in-Ok-None-clause-inputs : goal.returns-in-Ok-None-clause-inputs
returns-in-Ok-None-clause-inputs g c = ap (λ j. j.inputs) c.ready.ensures.kept

pub returns-in-Ok-None-clause-fits : goal.returns-in-Ok-None-clause-fits
returns-in-Ok-None-clause-fits g c = c.ready.ensures.fits

pub returns-in-Err-clause-base : goal.returns-in-Err-clause-base
returns-in-Err-clause-base g c = ap (λ j. j.base) c.ready.ensures.kept

pub returns-in-Err-clause-inputs : goal.returns-in-Err-clause-inputs
returns-in-Err-clause-inputs g c = ap (λ j. j.inputs) c.ready.ensures.kept

pub returns-in-Err-clause-fits : goal.returns-in-Err-clause-fits
returns-in-Err-clause-fits g c = c.ready.ensures.fits

pub returns-in-Err-fresh-clause-base : goal.returns-in-Err-fresh-clause-base
returns-in-Err-fresh-clause-base g c = ap (λ j. j.base) c.fresh.ensures.job.same ∙ ap (λ j. j.base) c.ready.ensures.kept

pub returns-in-Err-fresh-clause-inputs : goal.returns-in-Err-fresh-clause-inputs
returns-in-Err-fresh-clause-inputs g c = ap (λ j. j.inputs) c.fresh.ensures.job.same ∙ ap (λ j. j.inputs) c.ready.ensures.kept

pub returns-in-Err-fresh-clause-fits : goal.returns-in-Err-fresh-clause-fits
returns-in-Err-fresh-clause-fits g c = c.ready.ensures.fits

pub returns-in-Ok-fill-clause-base : goal.returns-in-Ok-fill-clause-base
returns-in-Ok-fill-clause-base g c = ap (λ j. j.base) c.in-Ok-fill.ensures.takes.kept ∙ ap (λ j. j.base) c.fresh.ensures.job.same ∙ ap (λ j. j.base) c.ready.ensures.kept

pub returns-in-Ok-fill-clause-inputs : goal.returns-in-Ok-fill-clause-inputs
returns-in-Ok-fill-clause-inputs g c = ap (λ j. j.inputs) c.in-Ok-fill.ensures.takes.kept ∙ ap (λ j. j.inputs) c.fresh.ensures.job.same ∙ ap (λ j. j.inputs) c.ready.ensures.kept

pub returns-in-Ok-fill-clause-fits : goal.returns-in-Ok-fill-clause-fits
returns-in-Ok-fill-clause-fits g c = λ fits.
    let bytes = g.D.Held.HeldFile.bytes in
    let base = ap (λ j. j.base) c.fresh.ensures.job.same ∙ ap (λ j. j.base) c.ready.ensures.kept in
    subst (λ (b : Base _ _). Fits bytes b.version c.fill.new.reader.looks) base
    (c.fill.ensures.fits (fits_same bytes c.ready.new.self c.fresh.new.job c.ready.new.reader.looks c.fresh.ensures.job
    (fits_kept bytes c.args.job.now c.ready.new.self c.ready.new.reader.looks c.ready.ensures.kept (c.ready.ensures.fits fits))))

pub returns-in-Err-fill-clause-base : goal.returns-in-Err-fill-clause-base
returns-in-Err-fill-clause-base g c = ap (λ j. j.base) c.in-Err-fill.ensures.refused.kept ∙ ap (λ j. j.base) c.fresh.ensures.job.same ∙ ap (λ j. j.base) c.ready.ensures.kept

pub returns-in-Err-fill-clause-inputs : goal.returns-in-Err-fill-clause-inputs
returns-in-Err-fill-clause-inputs g c = ap (λ j. j.inputs) c.in-Err-fill.ensures.refused.kept ∙ ap (λ j. j.inputs) c.fresh.ensures.job.same ∙ ap (λ j. j.inputs) c.ready.ensures.kept

pub returns-in-Err-fill-clause-fits : goal.returns-in-Err-fill-clause-fits
returns-in-Err-fill-clause-fits g c = λ fits.
    let bytes = g.D.Held.HeldFile.bytes in
    let base = ap (λ j. j.base) c.fresh.ensures.job.same ∙ ap (λ j. j.base) c.ready.ensures.kept in
    subst (λ (b : Base _ _). Fits bytes b.version c.fill.new.reader.looks) base
    (c.fill.ensures.fits (fits_same bytes c.ready.new.self c.fresh.new.job c.ready.new.reader.looks c.fresh.ensures.job
    (fits_kept bytes c.args.job.now c.ready.new.self c.ready.new.reader.looks c.ready.ensures.kept (c.ready.ensures.fits fits))))

-- ---- what never fails

pub returns-in-Ok-fill-clause-sure : goal.returns-in-Ok-fill-clause-sure
returns-in-Ok-fill-clause-sure g c sure made = record {
  gives = c.in-Ok.ensures.steady sure.gives;
  reads = still_sure (λ (l : BlockReader _). g.D.Reader.Reader.faults l.reader) g.D.Reader.Reader.faults c.ready.new.reader
      c.fill.new.reader c.in-Ok-fill.ensures.steady
      (still_sure (λ (l : BlockReader _). g.D.Reader.Reader.faults l.reader) g.D.Reader.Reader.faults c.args.reader.now
      c.ready.new.reader c.in-Ok-Some.ensures.steady sure.reads);
}
