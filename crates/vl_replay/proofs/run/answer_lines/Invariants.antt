use Rattle.std.proofs.Common.{◌≡◌, ◌+◌, ℕ, List, length, Some}
use Rattle.vl_script_model.specs.Reading.{HasRead, streams}
use Rattle.vl_replay.specs.AsCalled.{AnswersAsCalled}
use Rattle.vl_script_model.specs.Called.{HasCalled}
use Rattle.vl_replay.specs.Served.{GoesOnFor, TakesLines, StandsFor, disk_of}
use Rattle.vl_script_model.specs.Durable.{HoldsState}
use Rattle.vl_script_model.specs.Runs.{script_of, outside}
use Rattle.vl_script_model.specs.Sequential.{State}
use Rattle.vl_script_model.specs.Steps.{kept}
use Rattle.vl_script_model.specs.Stored.{IsStored}
use Rattle.vl_engine_laws.specs.Shown.{Shown}
use Rattle.vl_script_model.specs.laws.UnderWay.{UnderWay}
use Rattle.vl_replay.proofs.run.answer_lines.Given as goal

abbrev pub invariant-lines : goal.invariant-lines
invariant-lines g l =
    let begin = outside g.S.Source g.K.Sink l.fn.source l.fn.sink (disk_of l.fn.replayer) in
    let now = outside g.S.Source g.K.Sink l.source l.sink (disk_of l.progress.replayer) in
    record {
      under_way : (s : State) (input : List ℕ) → StandsFor g.D.Watched g.D.Writer.Writer g.D.Held.HeldFile.bytes
          l.fn.replayer s → begin.left ≡ Some input
          → UnderWay g.D.Watched IsStored Shown (script_of s 0 input) begin now
          (kept (StandsFor g.D.Watched g.D.Writer.Writer g.D.Held.HeldFile.bytes l.progress.replayer)
          l.progress.buffer l.progress.answered);
      has_read : (input : List ℕ) → begin.left ≡ Some input
          → HasRead input (streams g.S.Source g.K.Sink l.fn.source l.fn.sink)
          (streams g.S.Source g.K.Sink l.source l.sink) l.progress.buffer l.progress.answered;
      stands : (s : State) → StandsFor g.D.Watched g.D.Writer.Writer g.D.Held.HeldFile.bytes l.fn.replayer s
          → (t : State) × GoesOnFor g.D.Watched g.D.Writer.Writer g.D.Held.HeldFile.bytes g.D.Reader.Reader.faults
          l.fn.replayer l.progress.replayer t;
      held : (s : State) → StandsFor g.D.Watched g.D.Writer.Writer g.D.Held.HeldFile.bytes l.fn.replayer s
          → HoldsState g.D.Watched IsStored s (disk_of l.fn.replayer)
          → (t : State) × StandsFor g.D.Watched g.D.Writer.Writer g.D.Held.HeldFile.bytes l.progress.replayer t
          × HoldsState g.D.Watched IsStored t (disk_of l.progress.replayer);
      called : HasCalled (AnswersAsCalled g.D.Watched g.D.Held.HeldFile.bytes g.D.Reader.Reader.faults g.D.Writer.Writer) g.K.Sink
          l.fn.replayer l.progress.replayer begin.left now.left l.progress.buffer l.fn.sink l.sink;
      source_steady : g.S.Source.faults l.source ≡ g.S.Source.faults l.fn.source;
      sink_steady : g.K.Sink.faults l.sink ≡ g.K.Sink.faults l.fn.sink;
      disk_steady : g.D.Watched.faults (disk_of l.progress.replayer) ≡ g.D.Watched.faults (disk_of l.fn.replayer);
      mode : l.progress.on_fault ≡ l.fn.on_fault;
      goes_on : TakesLines l.progress.replayer;
    }

abbrev pub decreases-lines : goal.decreases-lines
decreases-lines g l = length l.progress.buffer + g.S.Source.budget l.source
