use Rattle.std.proofs.Common.{◌≡◌, ◌≢◌, ◌≤◌, [], arith, true, false, sym, ◌∙◌}
use Rattle.vl_disk.specs.laws.Counting.{never_counted}
use Rattle.vl_disk.specs.Faults.{NoneCounted, never}
use Rattle.vl_mem.specs.contracts.steady_writer.SteadyWriterWriter.TheImpl as writing
use Rattle.vl_mem.specs.contracts.stopping_disk.StoppingDiskWatched.TheImpl as memory
use Rattle.vl_script_model.specs.Failing.{Beside, ByReader, ByWriter, ReaderFailed, beside}
use Rattle.vl_replay.specs.Served.{StandsFor, disk_of}
use Rattle.vl_script_model.specs.Runs.{outside}
use Rattle.vl_script_model.specs.Trial.{begun}
use Rattle.vl_script_model.specs.Trying.{all_told, trial_of}
use Rattle.vl_script_model.specs.declared.ending.Ending.{Ending}
use Rattle.vl_script_model.specs.declared.ending.Ending.TheVariants.{ReaderFault}
use Rattle.vl_replay.proofs.Runs.OpenedRuns.{of_unopened}
use Rattle.vl_replay.proofs.Trials.Reopening.{memory_line}
use Rattle.vl_replay.proofs.Trials.TrialEnds.{comes_nowhere, of_ended, stopped_opening, stops_by_fault, stops_by_memory}
use Rattle.vl_replay.proofs.Trials.InTime.{none_in_time}
use Rattle.vl_script_model.specs.laws.Ends.{takes_nothing}
use Rattle.vl_script_model.specs.laws.Laws.{keeps_up_at_first}
use Rattle.vl_script_model.specs.laws.TrialRun.{comes, puts_in_time}
use Rattle.vl_replay.proofs.stopped.run_to_stop.Goals as goal

not_both : true ≡ false → ⊥
not_both e = cc

-- no reader of the disk counts a fault, nor does what writes its files beside it
none_counted : {R W : Type 0} (x : Beside R W) → NoneCounted (beside (λ (reader : R). never) (λ (writer : W). never) x)
none_counted (ByReader reader) = never_counted
none_counted (ByWriter writer) = never_counted

never_reader : {R W : Type 0} {P : Type 0} → (P → ReaderFailed (beside (λ (reader : R). never) (λ (writer : W). never))) → P → ⊥
never_reader failed p = (none_counted (failed p).reader).none (failed p).some

pub returns-in-Ok-clause-comes : goal.returns-in-Ok-clause-comes
returns-in-Ok-clause-comes g c input told =
    let still = c.answer_lines.ensures.still_told input told in
    comes c.args.stop (omega (arith, c.ranges.stop.fits)) input (StandsFor memory.ghosts writing.ghosts all_told c.in-Ok.replayer)
    (outside g.S.Source g.K.Sink c.args.source.now c.args.sink.now (disk_of c.in-Ok.replayer))
    (outside g.S.Source g.K.Sink c.answer_lines.new.source c.answer_lines.new.sink c.answer_lines.result.disk)
    c.in-Ok.ensures.opened c.answer_lines.result.ending (c.answer_lines.ensures.runs begun input c.in-Ok.ensures.opened.stands_for told)
    c.answer_lines.ensures.as_meant c.answer_lines.ensures.disk_faults
    (never_reader (λ fault. (c.answer_lines.ensures.reader_fault begun c.in-Ok.ensures.opened.stands_for fault).failed)) still.0 still.1

pub returns-then-is_fault-clause-comes : goal.returns-then-is_fault-clause-comes
returns-then-is_fault-clause-comes g c input told =
    let stops = stops_by_fault c.args.stop c.in-Err.field-0.disk c.in-Err.field-0.why
    (c.is_fault.ensures.0 c.if-is_fault.true) c.in-Err.ensures.stopped in
    stopped_opening c.args.stop input c.in-Err.field-0.disk _ _ stops.0 stops.1 input told

pub returns-else-is_fault-clause-comes : goal.returns-else-is_fault-clause-comes
returns-else-is_fault-clause-comes g c input told =
    comes_nowhere g.K.Sink c.args.sink.now c.end_unopened-ending.new.sink c.end_unopened-ending.result
    (memory_line g.K.Sink c.args.sink.now c.end_unopened-ending.new.sink c.in-Err.field-0.why
    c.end_unopened-ending.result c.end_unopened-ending.ensures
    (stops_by_memory c.args.stop c.in-Err.field-0.disk c.in-Err.field-0.why
    (λ by. not_both (sym (c.is_fault.ensures.1 by) ∙ c.if-is_fault.false)) c.in-Err.ensures.stopped))
    (trial_of c.args.stop input) _ c.in-Err.field-0.disk

-- ---- no read of the store fails

pub returns-in-Ok-clause-no_read_fault : goal.returns-in-Ok-clause-no_read_fault
returns-in-Ok-clause-no_read_fault g c =
    never_reader (λ fault. (c.answer_lines.ensures.reader_fault begun c.in-Ok.ensures.opened.stands_for fault).failed)

pub returns-then-is_fault-clause-no_read_fault : goal.returns-then-is_fault-clause-no_read_fault
returns-then-is_fault-clause-no_read_fault g c e = cc

pub returns-else-is_fault-clause-no_read_fault : goal.returns-else-is_fault-clause-no_read_fault
returns-else-is_fault-clause-no_read_fault g c =
    of_ended g.K.Sink c.args.sink.now c.end_unopened-ending.new.sink c.in-Err.field-0.why c.end_unopened-ending.result
    (λ (e : Ending). e ≢ ReaderFault)
    c.end_unopened-ending.ensures (λ how. of_unopened (λ (e : Ending). e ≢ ReaderFault) (λ refusal e. cc) (λ e. cc) (λ e. cc) how) (λ e. cc)

-- ---- when answers are put

pub returns-in-Ok-clause-in_time : goal.returns-in-Ok-clause-in_time
returns-in-Ok-clause-in_time g c input outcome told =
    puts_in_time c.args.stop (omega (arith, c.ranges.stop.fits)) input (StandsFor memory.ghosts writing.ghosts all_told c.in-Ok.replayer)
    (outside g.S.Source g.K.Sink c.args.source.now c.args.sink.now (disk_of c.in-Ok.replayer))
    (outside g.S.Source g.K.Sink c.answer_lines.new.source c.answer_lines.new.sink c.answer_lines.result.disk)
    c.in-Ok.ensures.opened c.answer_lines.result.ending (c.answer_lines.ensures.runs begun input c.in-Ok.ensures.opened.stands_for told)
    outcome

pub returns-then-is_fault-clause-in_time : goal.returns-then-is_fault-clause-in_time
returns-then-is_fault-clause-in_time g c input outcome told =
    none_in_time (trial_of c.args.stop input outcome) _ _ (g.S.Source.asked c.args.source.now) [] (takes_nothing _)
    (keeps_up_at_first input (g.S.Source.asked c.args.source.now) (g.met.S.Source.since_asked c.args.source.now input told))

pub returns-else-is_fault-clause-in_time : goal.returns-else-is_fault-clause-in_time
returns-else-is_fault-clause-in_time g c input outcome told =
    let (how, reason, (line, is, finishes)) = c.end_unopened-ending.ensures in
    none_in_time (trial_of c.args.stop input outcome) _ _ (g.S.Source.asked c.args.source.now) finishes.printed finishes.taken
    (keeps_up_at_first input (g.S.Source.asked c.args.source.now) (g.met.S.Source.since_asked c.args.source.now input told))
