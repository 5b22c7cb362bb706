use Rattle.std.specs.Prelude.{Err, Ok, Option}
use Rattle.vl_model.specs.declared.counter.Counter.{Counter}
use Rattle.vl_replay.specs.declared.tables.Round.{Round}
use Rattle.std.proofs.Common.{refl, ap, ◌∙◌, subst, sym}
use Rattle.vl_version.specs.Bases.{Fits}
use Rattle.vl_version.specs.declared.base.Base.{Base}
use Rattle.vl_replay.proofs.AsCalled.Merging.{met_alike, met_halt}
use Rattle.vl_engine_laws.specs.declared.kept.Core.{Core}
use Rattle.vl_replay.proofs.CarryingJob.{just_planned, lent_under_way, may_hand_in}
use Rattle.vl_replay.proofs.CarryingTables.{all_made, halted, not_begun, one_so_far, out_is, planned_so_far, used_up}
use Rattle.vl_space.specs.Removing.{Removes}
use Rattle.vl_replay.proofs.CarryingRemoved.{left_before, left_ended, left_first, left_made, left_used_up}
use Rattle.vl_replay_laws.specs.laws.Names.Halts.{less_sure}
use Rattle.vl_replay.proofs.tables.make_tables.Goals as goal

-- ---- before the first round

pub returns-in_err-reader-clause-merged : goal.returns-in_err-reader-clause-merged
returns-in_err-reader-clause-merged g c s j planned =
    rw (out_is c.from_residual.result c.from_residual.ensures.1)
    (not_begun g.D.Watched (record { only_now = g.met.D.Disk.only_now; counts_now = g.met.D.Disk.counts_now }) g.D.Writer.Writer
    g.D.Held.HeldFile.bytes s j c.args.engine.now.disk c.args.engine.now.core c.args.engine.now.merging c.args.job.now planned)

pub returns-in_err-reader-clause-under_way : goal.returns-in_err-reader-clause-under_way
returns-in_err-reader-clause-under_way g c =
    lent_under_way g.D.Watched g.D.Writer.Writer c.args.engine.now.disk c.args.engine.now.core.front.halted c.args.engine.now.merging
    c.args.job.now
    (just_planned g.D.Watched g.D.Writer.Writer c.args.engine.now.disk c.args.engine.now.merging c.args.job.now
    c.requires.open c.requires.new)

pub tables-init : goal.tables-init
tables-init g c = record {
  lent = just_planned g.D.Watched g.D.Writer.Writer c.args.engine.now.disk c.args.engine.now.merging c.args.job.now
      c.requires.open c.requires.new;
  collecting = refl;
  logs = refl;
  base = refl;
  inputs = refl;
  fits = λ fits. fits c.in_ok-reader.reader.looks (λ files. c.in_ok-reader.ensures.blocks files);
  steady = refl;
  sure = λ gives. record {
    gives = gives;
    reads = record {
      looks_never = c.in_ok-reader.ensures.looks.never_fails gives;
      files_never = c.in_ok-reader.ensures.files.never_fails gives;
    };
  };
  running = λ running. running;
  so_far = λ s j planned.
      planned_so_far g.D.Watched (record { only_now = g.met.D.Disk.only_now; counts_now = g.met.D.Disk.counts_now }) g.D.Writer.Writer
      g.D.Held.HeldFile.bytes s j c.args.engine.now.disk c.args.engine.now.core c.args.engine.now.merging c.args.job.now
      c.in_ok-reader.reader
      planned c.requires.new (planned.looks c.in_ok-reader.reader.looks (λ files. c.in_ok-reader.ensures.blocks files));
  removes = λ s j planned removes.
      left_first (Removes c.args.engine.now.core c.args.engine.now.removing) c.args.engine.now.core s.store.layout
      (planned.serves.fits.running planned.serves.running).numbers.next_table removes;
}

-- ---- a round made a table

pub tables-preserved : goal.tables-preserved
tables-preserved g c =
    let lent = rw c.in-Ok-Made.field-0-is at (c.in-Ok-Made.ensures.lent c.tables.invariant.lent) in
    record {
      lent = lent;
      collecting = c.in-Ok-Made.ensures.collecting ∙ c.tables.invariant.collecting;
      logs = c.in-Ok-Made.ensures.logs ∙ c.tables.invariant.logs;
      base = c.in-Ok-Made.ensures.base ∙ c.tables.invariant.base;
      inputs = c.in-Ok-Made.ensures.inputs ∙ c.tables.invariant.inputs;
      fits = λ fits. subst (λ (b : Base _ _). Fits g.D.Held.HeldFile.bytes b.version c.make_table.new.reader.looks)
          (sym c.in-Ok-Made.ensures.base) (c.in-Ok-Made.ensures.fits (c.tables.invariant.fits fits));
      steady = c.in-Ok-Made.ensures.cause.steady (λ by. by) ∙ c.tables.invariant.steady;
      sure = λ gives. c.in-Ok-Made.ensures.sure (c.tables.invariant.sure gives) (ap Ok c.in-Ok-Made.field-0-is);
      running = λ running. ap (λ (core : Core _). core.front.halted) (c.in-Ok-Made.ensures.drawn (ap Ok c.in-Ok-Made.field-0-is)).1
          ∙ c.tables.invariant.running running;
      so_far = λ s j planned.
          let before = c.tables.invariant.so_far s j planned in
          one_so_far g.D.Watched (record { only_now = g.met.D.Disk.only_now; counts_now = g.met.D.Disk.counts_now }) g.D.Writer.Writer
          g.D.Held.HeldFile.bytes s j c.args.engine.now.disk c.tables.engine.disk c.make_table.new.engine.disk c.tables.engine.core
          c.make_table.new.engine.core c.tables.engine.merging c.make_table.new.engine.merging c.tables.job
          c.make_table.new.job c.tables.reader
          c.make_table.new.reader before c.tables.invariant.steady
          (rw c.in-Ok-Made.field-0-is at (c.in-Ok-Made.ensures.rounds _ j before.way));
      removes = λ s j planned removes.
          let before = c.tables.invariant.so_far s j planned in
          let was = left_before g.D.Watched g.D.Writer.Writer g.D.Held.HeldFile.bytes s j c.args.engine.now.disk c.tables.engine.disk
          c.make_table.new.engine.disk c.tables.engine.core c.make_table.new.engine.core c.tables.engine.merging
          c.make_table.new.engine.merging c.tables.job c.make_table.new.job c.tables.reader c.make_table.new.reader before
          (Removes c.tables.engine.core c.tables.engine.removing) (Removes c.make_table.new.engine.core c.make_table.new.engine.removing)
          (c.tables.invariant.removes s j planned removes) in
          left_made g.D.Watched g.D.Writer.Writer g.D.Held.HeldFile.bytes s j c.args.engine.now.disk c.tables.engine.disk
          c.make_table.new.engine.disk c.tables.engine.core c.make_table.new.engine.core c.tables.engine.merging
          c.make_table.new.engine.merging c.tables.job c.make_table.new.job c.tables.reader c.make_table.new.reader before
          (Removes c.tables.engine.core c.tables.engine.removing) (Removes c.make_table.new.engine.core c.make_table.new.engine.removing)
          (c.tables.invariant.removes s j planned removes)
          (rw c.in-Ok-Made.field-0-is at (c.in-Ok-Made.ensures.rounds _ j before.way))
          (rw c.in-Ok-Made.field-0-is at (c.in-Ok-Made.ensures.removes _ j before.way was));
    }

-- ---- it ended

pub returns-in-Ok-Ended-clause-merged : goal.returns-in-Ok-Ended-clause-merged
returns-in-Ok-Ended-clause-merged g c s j planned =
    let before = c.tables.invariant.so_far s j planned in
    all_made g.D.Watched (record { only_now = g.met.D.Disk.only_now; counts_now = g.met.D.Disk.counts_now }) g.D.Writer.Writer
    g.D.Held.HeldFile.bytes s j c.args.engine.now.disk c.tables.engine.disk c.make_table.new.engine.disk c.tables.engine.core
    c.make_table.new.engine.core c.tables.engine.merging c.make_table.new.engine.merging c.tables.job c.make_table.new.job c.tables.reader
    c.make_table.new.reader before c.tables.invariant.steady
    (rw c.in-Ok-Ended.field-0-is at (c.in-Ok-Ended.ensures.rounds _ j before.way))

pub returns-in-Ok-Ended-clause-handed : goal.returns-in-Ok-Ended-clause-handed
returns-in-Ok-Ended-clause-handed g c is =
    let lent = rw c.in-Ok-Ended.field-0-is at (c.in-Ok-Ended.ensures.lent c.tables.invariant.lent) in
    may_hand_in g.D.Watched g.D.Writer.Writer c.make_table.new.engine.disk c.make_table.new.engine.merging c.make_table.new.job
    lent.0 lent.1

pub returns-in-Ok-Ended-clause-under_way : goal.returns-in-Ok-Ended-clause-under_way
returns-in-Ok-Ended-clause-under_way g c = c.in-Ok-Ended.ensures.under_way c.tables.invariant.lent

pub returns-in-Ok-Exhausted-clause-under_way : goal.returns-in-Ok-Exhausted-clause-under_way
returns-in-Ok-Exhausted-clause-under_way g c = c.in-Ok-Exhausted.ensures.under_way c.tables.invariant.lent

pub returns-in-Err-clause-under_way : goal.returns-in-Err-clause-under_way
returns-in-Err-clause-under_way g c = c.in-Err.ensures.under_way c.tables.invariant.lent

pub returns-in-Ok-Exhausted-clause-merged : goal.returns-in-Ok-Exhausted-clause-merged
returns-in-Ok-Exhausted-clause-merged g c s j planned =
    let before = c.tables.invariant.so_far s j planned in
    used_up g.D.Watched (record { only_now = g.met.D.Disk.only_now; counts_now = g.met.D.Disk.counts_now }) g.D.Writer.Writer
    g.D.Held.HeldFile.bytes s j c.args.engine.now.disk c.tables.engine.disk c.make_table.new.engine.disk c.tables.engine.core
    c.make_table.new.engine.core c.tables.engine.merging c.make_table.new.engine.merging c.tables.job c.make_table.new.job c.tables.reader
    c.make_table.new.reader before c.tables.invariant.steady c.in-Ok-Exhausted.counter
    (rw c.in-Ok-Exhausted.field-0-is at (c.in-Ok-Exhausted.ensures.rounds _ j before.way))

pub returns-in-Err-clause-merged : goal.returns-in-Err-clause-merged
returns-in-Err-clause-merged g c s j planned =
    let before = c.tables.invariant.so_far s j planned in
    halted g.D.Watched (record { only_now = g.met.D.Disk.only_now; counts_now = g.met.D.Disk.counts_now }) g.D.Writer.Writer
    g.D.Held.HeldFile.bytes s j c.args.engine.now.disk c.tables.engine.disk c.make_table.new.engine.disk c.tables.engine.core
    c.make_table.new.engine.core c.tables.engine.merging c.make_table.new.engine.merging c.tables.job c.make_table.new.job c.tables.reader
    c.make_table.new.reader before c.tables.invariant.steady c.in-Err.halt (c.in-Err.ensures.rounds _ j before.way)

pub returns-in-Err-clause-fault : goal.returns-in-Err-clause-fault
returns-in-Err-clause-fault g c running by =
    less_sure _ c.tables.invariant.sure (c.in-Err.ensures.fault (c.tables.invariant.running running) by)

-- ---- what never fails

pub returns-in-Ok-Ended-clause-steady : goal.returns-in-Ok-Ended-clause-steady
returns-in-Ok-Ended-clause-steady g c gives = c.in-Ok-Ended.ensures.steady (c.tables.invariant.sure gives).gives

pub returns-in-Ok-Exhausted-clause-steady : goal.returns-in-Ok-Exhausted-clause-steady
returns-in-Ok-Exhausted-clause-steady g c gives = c.in-Ok-Exhausted.ensures.steady (c.tables.invariant.sure gives).gives

pub returns-in-Err-clause-steady : goal.returns-in-Err-clause-steady
returns-in-Err-clause-steady g c gives = c.in-Err.ensures.steady (c.tables.invariant.sure gives).gives

-- ---- what the engine keeps of which files can go

pub returns-in_err-reader-clause-removes : goal.returns-in_err-reader-clause-removes
returns-in_err-reader-clause-removes g c s j count planned is removes = rw (out_is c.from_residual.result c.from_residual.ensures.1) tt

pub returns-in-Ok-Ended-clause-removes : goal.returns-in-Ok-Ended-clause-removes
returns-in-Ok-Ended-clause-removes g c s j count planned is removes =
    let before = c.tables.invariant.so_far s j planned in
    let was = left_before g.D.Watched g.D.Writer.Writer g.D.Held.HeldFile.bytes s j c.args.engine.now.disk c.tables.engine.disk
    c.make_table.new.engine.disk c.tables.engine.core c.make_table.new.engine.core c.tables.engine.merging
    c.make_table.new.engine.merging c.tables.job c.make_table.new.job c.tables.reader c.make_table.new.reader before
    (Removes c.tables.engine.core c.tables.engine.removing) (Removes c.make_table.new.engine.core c.make_table.new.engine.removing)
    (c.tables.invariant.removes s j planned removes) in
    left_ended g.D.Watched g.D.Writer.Writer g.D.Held.HeldFile.bytes s j c.args.engine.now.disk c.tables.engine.disk
    c.make_table.new.engine.disk c.tables.engine.core c.make_table.new.engine.core c.tables.engine.merging
    c.make_table.new.engine.merging c.tables.job c.make_table.new.job c.tables.reader c.make_table.new.reader before
    (Removes c.tables.engine.core c.tables.engine.removing) (Removes c.make_table.new.engine.core c.make_table.new.engine.removing)
    (c.tables.invariant.removes s j planned removes)
    (rw c.in-Ok-Ended.field-0-is at (c.in-Ok-Ended.ensures.rounds _ j before.way))
    (rw c.in-Ok-Ended.field-0-is at (c.in-Ok-Ended.ensures.removes _ j before.way was)) count is

pub returns-in-Ok-Exhausted-clause-removes : goal.returns-in-Ok-Exhausted-clause-removes
returns-in-Ok-Exhausted-clause-removes g c s j count planned is removes =
    let before = c.tables.invariant.so_far s j planned in
    let was = left_before g.D.Watched g.D.Writer.Writer g.D.Held.HeldFile.bytes s j c.args.engine.now.disk c.tables.engine.disk
    c.make_table.new.engine.disk c.tables.engine.core c.make_table.new.engine.core c.tables.engine.merging
    c.make_table.new.engine.merging c.tables.job c.make_table.new.job c.tables.reader c.make_table.new.reader before
    (Removes c.tables.engine.core c.tables.engine.removing) (Removes c.make_table.new.engine.core c.make_table.new.engine.removing)
    (c.tables.invariant.removes s j planned removes) in
    left_used_up g.D.Watched g.D.Writer.Writer g.D.Held.HeldFile.bytes s j c.args.engine.now.disk c.tables.engine.disk
    c.make_table.new.engine.disk c.tables.engine.core c.make_table.new.engine.core c.tables.engine.merging
    c.make_table.new.engine.merging c.tables.job c.make_table.new.job c.tables.reader c.make_table.new.reader before
    (Removes c.tables.engine.core c.tables.engine.removing) (Removes c.make_table.new.engine.core c.make_table.new.engine.removing)
    (c.tables.invariant.removes s j planned removes) c.in-Ok-Exhausted.counter
    (rw c.in-Ok-Exhausted.field-0-is at (c.in-Ok-Exhausted.ensures.rounds _ j before.way))
    (rw c.in-Ok-Exhausted.field-0-is at (c.in-Ok-Exhausted.ensures.removes _ j before.way was)) count is

-- ---- damage, whatever the disk holds

pub returns-in_err-reader-clause-as_called : goal.returns-in_err-reader-clause-as_called
returns-in_err-reader-clause-as_called g c = rw (out_is c.from_residual.result c.from_residual.ensures.1) tt

pub returns-in-Err-clause-as_called : goal.returns-in-Err-clause-as_called
returns-in-Err-clause-as_called g c =
    met_alike g.D.Held.HeldFile.bytes g.D.Reader.Reader.faults g.D.Writer.Writer {T = Option Counter} _ _ c.args.job.now c.tables.job c.tables.invariant.base
    c.tables.invariant.inputs
    c.tables.invariant.fits (Err c.in-Err.halt) (met_halt g.D.Held.HeldFile.bytes g.D.Reader.Reader.faults g.D.Writer.Writer _ c.tables.job Round (Option Counter)
    c.in-Err.halt
    c.in-Err.ensures.as_called)
