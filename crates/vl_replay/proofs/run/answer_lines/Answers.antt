use Rattle.std.proofs.Common.{◌≢◌, ◌∙◌, ℕ, List, refl, ap, arith, subst, sym}
use Rattle.std.specs.Prelude.{Some}
use Rattle.vl_script_model.specs.Endings.{EndsAs, Evidence, TheSource, culprit_of, no_memory_line}
use Rattle.vl_script_model.specs.declared.ending.Ending.{Ending}
use Rattle.vl_script_model.specs.declared.ending.OnFault.{OnFault}
use Rattle.vl_script_model.specs.laws.Laws.{keeps_up_at_first}
use Rattle.vl_script_model.specs.Reading.{HasRead, streams}
use Rattle.vl_replay.specs.AsCalled.{AnswersAsCalled}
use Rattle.vl_replay.specs.Served.{StandsFor, disk_of}
use Rattle.vl_script_model.specs.Called.{HasCalled, IsApart, RunsAsCalled}
use Rattle.vl_script_model.specs.laws.Calling.{calls_none, ends_unbegun}
use Rattle.vl_script_model.specs.Runs.{script_of, outside}
use Rattle.vl_script_model.specs.Steps.{kept}
use Rattle.vl_script_model.specs.Stored.{IsStopped, IsStored}
use Rattle.vl_engine_laws.specs.Shown.{Shown}
use Rattle.vl_script_model.specs.declared.ending.Ending.TheVariants.{NoMemory, ReaderFault, Refused}
use Rattle.vl_script_model.specs.laws.Ends.{counts_none, finish_counts, finished, line_leaves_disk, or_cut, otherwise_as, otherwise_counts}
use Rattle.vl_script_model.specs.laws.ShownDisk.{shown_stays, stored_exactly}
use Rattle.vl_replay.proofs.Runs.ReadingOn.{finished_otherwise, read_nothing, reads_nothing}
use Rattle.vl_script_model.specs.laws.Stepping.{step_apart}
use Rattle.vl_script_model.specs.laws.UnderWay.{UnderWay, begun, further, over}
use Rattle.vl_recover.specs.crash.Starts.{MayOpen}
use Rattle.vl_replay.proofs.Runs.StaysOpen.{held_open}
use Rattle.vl_script_model.specs.Durable.{Tells}
use Rattle.vl_replay_laws.specs.laws.Names.Halts.{less_sure}
use Rattle.vl_replay.proofs.run.answer_lines.Goals as goal

pub returns-in_default-clause-runs : goal.returns-in_default-clause-runs
returns-in_default-clause-runs g c s input stands told =
    let script = script_of s 0 input in
    step_apart g.D.Watched (record { only_now = g.met.D.Disk.only_now; counts_now = g.met.D.Disk.counts_now }) IsStored
    Shown IsStopped shown_stays stored_exactly script
    (outside g.S.Source g.K.Sink c.args.source.now c.args.sink.now (disk_of c.args.replayer))
    (outside g.S.Source g.K.Sink c.args.source.now c.finish.new.sink c.close.result)
    ⊥ (λ never. absurd never) c.finish.result
    (line_leaves_disk g.K.Sink _ _ _ NoMemory c.finish.result (λ e. cc, λ e. cc) c.finish.ensures) c.close.ensures
    (finished g.K.Sink c.args.sink.now c.finish.new.sink (Evidence ⊥ ⊥) script (g.S.Source.left c.args.source.now)
    NoMemory c.finish.result no_memory_line refl tt c.finish.ensures)
    (keeps_up_at_first input (g.S.Source.asked c.args.source.now) (g.met.S.Source.since_asked c.args.source.now input told))

pub lines-init : goal.lines-init
lines-init g c = record {
  under_way = λ s input stands told.
      let begin = outside g.S.Source g.K.Sink c.args.source.now c.args.sink.now (disk_of c.args.replayer) in
      subst (λ (b : List ℕ). UnderWay g.D.Watched IsStored Shown (script_of s 0 input) begin begin
      (kept (StandsFor g.D.Watched g.D.Writer.Writer g.D.Held.HeldFile.bytes c.args.replayer) b 0)) (sym c.in-Ok.ensures)
      (begun g.D.Watched (record { only_now = g.met.D.Disk.only_now; counts_now = g.met.D.Disk.counts_now }) IsStored
      Shown IsStopped shown_stays stored_exactly s input begin
      (StandsFor g.D.Watched g.D.Writer.Writer g.D.Held.HeldFile.bytes c.args.replayer) stands told
      (g.met.S.Source.since_asked c.args.source.now));
  has_read = λ input told.
      let begin = streams g.S.Source g.K.Sink c.args.source.now c.args.sink.now in
      subst (λ (b : List ℕ). HasRead input begin begin b 0) (sym c.in-Ok.ensures)
      (read_nothing input begin told (keeps_up_at_first input begin.asked (g.met.S.Source.since_asked c.args.source.now input told)));
  stands = λ s stands. (s, record { stands = stands; unfailing = λ was. was });
  held = λ s stands held. (s, stands, held);
  called = subst (λ (b : List ℕ). HasCalled (AnswersAsCalled g.D.Watched g.D.Held.HeldFile.bytes g.D.Reader.Reader.faults
      g.D.Writer.Writer) g.K.Sink c.args.replayer c.args.replayer (g.S.Source.left c.args.source.now) (g.S.Source.left c.args.source.now) b
      c.args.sink.now c.args.sink.now) (sym c.in-Ok.ensures)
      (calls_none (AnswersAsCalled g.D.Watched g.D.Held.HeldFile.bytes g.D.Reader.Reader.faults g.D.Writer.Writer) g.K.Sink
      c.args.on_fault c.args.replayer (g.S.Source.left c.args.source.now) c.args.sink.now);
  source_steady = refl;
  sink_steady = refl;
  disk_steady = refl;
  mode = refl;
  goes_on = c.requires;
}

pub lines-preserved : goal.lines-preserved
lines-preserved g c = record {
  under_way = λ s input stands told.
      let u = c.lines.invariant.under_way s input stands told in
      further g.D.Watched (record { only_now = g.met.D.Disk.only_now; counts_now = g.met.D.Disk.counts_now }) IsStored
      Shown IsStopped shown_stays stored_exactly s input
      (outside g.S.Source g.K.Sink c.args.source.now c.args.sink.now (disk_of c.args.replayer))
      (outside g.S.Source g.K.Sink c.lines.source c.lines.sink (disk_of c.lines.progress.replayer))
      (outside g.S.Source g.K.Sink c.step.new.source c.step.new.sink (disk_of c.step.new.self.replayer))
      (kept (StandsFor g.D.Watched g.D.Writer.Writer g.D.Held.HeldFile.bytes c.lines.progress.replayer)
      c.lines.progress.buffer c.lines.progress.answered)
      (kept (StandsFor g.D.Watched g.D.Writer.Writer g.D.Held.HeldFile.bytes c.step.new.self.replayer)
      c.step.new.self.buffer c.step.new.self.answered) u
      (c.in_default-step.ensures.runs u.rest u.to_do);
  has_read = λ input told. c.in_default-step.ensures.reads input
      (streams g.S.Source g.K.Sink c.args.source.now c.args.sink.now) (c.lines.invariant.has_read input told);
  stands = λ s stands.
      let (t, is) = c.lines.invariant.stands s stands in
      let (u, then) = c.in_default-step.ensures.stands t is.stands refl in
      (u, record { stands = then.stands; unfailing = λ was. then.unfailing (is.unfailing was) });
  held = λ s stands held. let (t, is, there) = c.lines.invariant.held s stands held in c.in_default-step.ensures.again t is there;
  called = c.in_default-step.ensures.called c.args.replayer (g.S.Source.left c.args.source.now) c.args.sink.now c.lines.invariant.called;
  source_steady = c.in_default-step.ensures.source_faults.steady (λ e. cc) (λ e. cc) ∙ c.lines.invariant.source_steady;
  sink_steady = c.in_default-step.ensures.sink_faults.steady (λ e. cc) (λ e. cc) ∙ c.lines.invariant.sink_steady;
  disk_steady = c.in_default-step.ensures.disk_faults.steady (λ e. cc) (λ e. cc) ∙ c.lines.invariant.disk_steady;
  mode = c.in_default-step.ensures.same_mode ∙ c.lines.invariant.mode;
  goes_on = c.in_default-step.ensures.goes_on refl;
}

pub returns-in-Some-clause-runs : goal.returns-in-Some-clause-runs
returns-in-Some-clause-runs g c s input stands told =
    let u = c.lines.invariant.under_way s input stands told in
    let same = c.lines.invariant.source_steady in
    let same_disk = c.lines.invariant.disk_steady in
    rw c.close-in-Some.ensures
    (over g.D.Watched (record { only_now = g.met.D.Disk.only_now; counts_now = g.met.D.Disk.counts_now }) IsStored
    Shown IsStopped shown_stays stored_exactly s input
    (outside g.S.Source g.K.Sink c.args.source.now c.args.sink.now (disk_of c.args.replayer))
    (outside g.S.Source g.K.Sink c.lines.source c.lines.sink (disk_of c.lines.progress.replayer))
    (outside g.S.Source g.K.Sink c.step.new.source c.step.new.sink (disk_of c.step.new.self.replayer))
    (kept (StandsFor g.D.Watched g.D.Writer.Writer g.D.Held.HeldFile.bytes c.lines.progress.replayer)
    c.lines.progress.buffer c.lines.progress.answered)
    (kept (StandsFor g.D.Watched g.D.Writer.Writer g.D.Held.HeldFile.bytes c.step.new.self.replayer)
    c.step.new.self.buffer c.step.new.self.answered) u
    c.in-Some.ending (omega arith) same_disk (c.in-Some.ensures.runs u.rest u.to_do))

pub returns-in_default-clause-input : goal.returns-in_default-clause-input
returns-in_default-clause-input g c input told =
    let other = finished_otherwise g.K.Sink c.args.sink.now c.finish.new.sink no_memory_line NoMemory c.finish.result
    (λ e. cc, λ e. cc, λ name place e. cc, λ e. cc) c.finish.ensures in
    reads_nothing input (streams g.S.Source g.K.Sink c.args.source.now c.args.sink.now)
    (streams g.S.Source g.K.Sink c.args.source.now c.finish.new.sink) c.finish.result
    (c.finish.ensures.printed, c.finish.ensures.taken) other
    (keeps_up_at_first input (g.S.Source.asked c.args.source.now) (g.met.S.Source.since_asked c.args.source.now input told))

pub returns-in-Some-clause-input : goal.returns-in-Some-clause-input
returns-in-Some-clause-input g c input told = c.in-Some.ensures.reads input
    (streams g.S.Source g.K.Sink c.args.source.now c.args.sink.now) (c.lines.invariant.has_read input told)

-- ---- the faults that are counted, and the measure

pub returns-in_default-clause-source_faults : goal.returns-in_default-clause-source_faults
returns-in_default-clause-source_faults g c =
    counts_none TheSource c.finish.result (g.S.Source.faults c.args.source.now)
    (or_cut g.K.Sink _ _ _ NoMemory c.finish.result (λ (e : Ending). culprit_of e ≢ TheSource) c.finish.ensures (λ e. cc) (λ e. cc))

pub returns-in_default-clause-not_the_files : goal.returns-in_default-clause-not_the_files
returns-in_default-clause-not_the_files g c refusal is =
    or_cut g.K.Sink _ _ _ NoMemory c.finish.result (λ (e : Ending). e ≢ Refused refusal) c.finish.ensures (λ e. cc) (λ e. cc) is

pub returns-in_default-clause-sink_faults : goal.returns-in_default-clause-sink_faults
returns-in_default-clause-sink_faults g c = finish_counts g.K.Sink _ _ _ NoMemory c.finish.result (λ e. cc) c.finish.ensures

pub returns-in_default-clause-disk_faults : goal.returns-in_default-clause-disk_faults
returns-in_default-clause-disk_faults g c =
    otherwise_counts g.K.Sink _ _ _ NoMemory c.finish.result (λ e. cc) c.finish.ensures _ _ (ap g.D.Watched.faults c.close.ensures)

pub returns-in-Some-clause-not_the_files : goal.returns-in-Some-clause-not_the_files
returns-in-Some-clause-not_the_files g c refusal is = c.in-Some.ensures.not_the_files refusal (ap Some is)

pub lines-smaller : goal.lines-smaller
lines-smaller g c = c.in_default-step.ensures.shorter refl

-- ---- how it ends where the disk fails

pub returns-in_default-clause-as_meant : goal.returns-in_default-clause-as_meant
returns-in_default-clause-as_meant g c = otherwise_as g.K.Sink _ _ _ NoMemory c.finish.result c.args.on_fault (λ e. cc) c.finish.ensures

pub returns-in-Some-clause-as_meant : goal.returns-in-Some-clause-as_meant
returns-in-Some-clause-as_meant g c = subst (λ (f : OnFault). EndsAs f (Some c.in-Some.ending)) c.lines.invariant.mode
    c.in-Some.ensures.as_meant

-- ---- which reader failed

pub returns-in_default-clause-reader_fault : goal.returns-in_default-clause-reader_fault
returns-in_default-clause-reader_fault g c s stands is =
    absurd (or_cut g.K.Sink _ _ _ NoMemory c.finish.result (λ (e : Ending). e ≢ ReaderFault) c.finish.ensures (λ e. cc) (λ e. cc) is)

pub returns-in-Some-clause-reader_fault : goal.returns-in-Some-clause-reader_fault
returns-in-Some-clause-reader_fault g c s stands is =
    let now = c.lines.invariant.stands s stands in
    less_sure _ now.1.unfailing (c.in-Some.ensures.reader_fault now.0 now.1.stands (ap Some is))

-- ---- what is told of the source stays told

pub returns-in_default-clause-still_told : goal.returns-in_default-clause-still_told
returns-in_default-clause-still_told g c left told = (left, told)

pub returns-in-Some-clause-still_told : goal.returns-in-Some-clause-still_told
returns-in-Some-clause-still_told g c left told = let h = c.lines.invariant.has_read left told
    in c.in-Some.ensures.still_told h.rest h.left_is

-- ---- a store may be opened on the disk again

pub returns-in_default-clause-again : goal.returns-in_default-clause-again
returns-in_default-clause-again g c s stands held =
    subst (λ disk. Tells g.D.Watched disk MayOpen) (sym c.close.ensures) (held_open g.D.Watched s (disk_of c.args.replayer) held)

pub returns-in-Some-clause-again : goal.returns-in-Some-clause-again
returns-in-Some-clause-again g c s stands held =
    let (t, is, there) = c.lines.invariant.held s stands held in
    subst (λ disk. Tells g.D.Watched disk MayOpen) (sym c.close-in-Some.ensures) (c.in-Some.ensures.again t is there)

-- ---- what its lines are answered, whatever the disk holds

pub returns-in_default-clause-called : goal.returns-in_default-clause-called
returns-in_default-clause-called g c =
    ends_unbegun (AnswersAsCalled g.D.Watched g.D.Held.HeldFile.bytes g.D.Reader.Reader.faults g.D.Writer.Writer) g.K.Sink c.args.on_fault
    c.args.replayer (g.S.Source.left c.args.source.now) c.args.sink.now c.finish.new.sink c.finish.result
    (or_cut g.K.Sink _ _ _ NoMemory c.finish.result IsApart c.finish.ensures tt tt)

pub returns-in-Some-clause-called : goal.returns-in-Some-clause-called
returns-in-Some-clause-called g c =
    subst (λ (f : OnFault). RunsAsCalled (AnswersAsCalled g.D.Watched g.D.Held.HeldFile.bytes g.D.Reader.Reader.faults g.D.Writer.Writer)
    g.K.Sink f c.args.replayer (g.S.Source.left c.args.source.now) c.args.sink.now c.step.new.sink c.in-Some.ending)
    c.lines.invariant.mode
    (c.in-Some.ensures.called c.args.replayer (g.S.Source.left c.args.source.now) c.args.sink.now c.lines.invariant.called)
