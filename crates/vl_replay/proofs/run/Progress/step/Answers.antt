use Rattle.std.proofs.Common.{◌≡◌, ◌≢◌, ◌∙◌, ◌++◌, ℕ, List, None, Some, refl, subst, sym, ap, Err}
use Rattle.vl_disk.specs.Faults.{Rose}
use Rattle.vl_script_model.specs.Endings.{Evidence, no_memory_line, read_fault_line}
use Rattle.vl_script_model.specs.Reading.{ReadsOn, streams}
use Rattle.vl_replay.specs.AsCalled.{AnswersAsCalled}
use Rattle.vl_replay.specs.Served.{StandsFor, disk_of}
use Rattle.vl_script_model.specs.Called.{CallsOn, IsApart, RunsAsCalled}
use Rattle.vl_script_model.specs.laws.Calling.{calls_last, calls_line, ends_apart, no_fault_on}
use Rattle.vl_script_model.specs.Runs.{outside}
use Rattle.vl_script_model.specs.Steps.{kept, Steps}
use Rattle.vl_script_model.specs.Stored.{IsStopped, IsStored}
use Rattle.vl_engine_laws.specs.Shown.{Shown}
use Rattle.vl_script_model.specs.declared.ending.Ending.{Ending}
use Rattle.vl_script_model.specs.declared.ending.Ending.TheVariants.{Complete, NoMemory, ReadFault, ReaderFault}
use Rattle.vl_script.specs.declared.next.Next.TheVariants.{Line as WholeLine, LastLine, TooLong, End}
use Rattle.vl_script_model.specs.laws.Ends.{too_long_is_bad, finished, finish_counts, last_unread, line_leaves_disk, ended_lines-none, or_cut}
use Rattle.vl_script_model.specs.laws.ShownDisk.{shown_stays, stored_exactly}
use Rattle.vl_replay.proofs.Runs.ReadingOn.{ends_at_long, finishes_otherwise, reads_all, reads_end, reads_last, reads_line}
use Rattle.vl_script_model.specs.laws.Stepping.{reads_script, still_keeps_up, next_line, next_last, step_line, step_last, step_apart}
use Rattle.vl_script_model.specs.laws.Stepping.{step_end}
use Rattle.vl_replay.proofs.Runs.StaysOpen.{held_open, stays_open}
use Rattle.vl_replay.proofs.run.Progress.step.Goals as goal

pub returns-in-Ok-Line-clause-runs : goal.returns-in-Ok-Line-clause-runs
returns-in-Ok-Line-clause-runs g c script to_do =
    let reads = reads_script WholeLine script.bytes (c.args.self.now.buffer ++ to_do.rest) c.read_line.new.line.items
    c.read_line.new.buffer (g.S.Source.left c.read_line.new.source) to_do.bytes_are
    (rw c.in-Ok-Line.field-0-is at (c.in-Ok-Line.ensures.line to_do.rest to_do.left_is)) in
    let old = outside g.S.Source g.K.Sink c.args.source.now c.args.sink.now (disk_of c.args.self.now.replayer) in
    let new = outside g.S.Source g.K.Sink c.read_line.new.source c.answer.new.sink (disk_of c.answer.new.self.replayer) in
    subst (λ (b : List ℕ). Steps g.D.Watched IsStored Shown IsStopped script old new
    (kept (StandsFor g.D.Watched g.D.Writer.Writer g.D.Held.HeldFile.bytes c.answer.new.self.replayer) b
    c.answer.new.self.answered) c.answer.result) (sym c.answer.ensures.same)
    (step_line g.D.Watched (record { only_now = g.met.D.Disk.only_now; counts_now = g.met.D.Disk.counts_now }) IsStored
    Shown IsStopped shown_stays stored_exactly script old new c.read_line.new.line.items
    (StandsFor g.D.Watched g.D.Writer.Writer g.D.Held.HeldFile.bytes c.answer.new.self.replayer)
    c.read_line.new.buffer c.answer.new.self.answered c.answer.result (c.answer.ensures.counted script.before to_do.count) reads
    (c.answer.ensures.printed script to_do.stands to_do.count
    (next_line script c.read_line.new.line.items c.read_line.new.buffer (g.S.Source.left c.read_line.new.source)
    reads)) (c.answer.ensures.moves script.start to_do.stands)
    (still_keeps_up script.bytes (c.args.self.now.buffer ++ to_do.rest) (g.S.Source.asked c.args.source.now)
    (g.S.Source.asked c.read_line.new.source) to_do.bytes_are (c.read_line.ensures.keeps_up to_do.rest to_do.left_is) to_do.kept_up))

pub returns-in-Ok-LastLine-clause-runs : goal.returns-in-Ok-LastLine-clause-runs
returns-in-Ok-LastLine-clause-runs g c script to_do =
    let reads = reads_script LastLine script.bytes (c.args.self.now.buffer ++ to_do.rest) c.read_line.new.line.items
    c.read_line.new.buffer (g.S.Source.left c.read_line.new.source) to_do.bytes_are
    (rw c.in-Ok-LastLine.field-0-is at (c.in-Ok-LastLine.ensures.line to_do.rest to_do.left_is)) in
    let answered = c.answer-in-Ok-LastLine in
    let old = outside g.S.Source g.K.Sink c.args.source.now c.args.sink.now (disk_of c.args.self.now.replayer) in
    let new = outside g.S.Source g.K.Sink c.read_line.new.source answered.new.sink (disk_of answered.new.self.replayer) in
    step_last g.D.Watched (record { only_now = g.met.D.Disk.only_now; counts_now = g.met.D.Disk.counts_now }) IsStored
    Shown IsStopped shown_stays stored_exactly script old new c.read_line.new.line.items
    (StandsFor g.D.Watched g.D.Writer.Writer g.D.Held.HeldFile.bytes answered.new.self.replayer)
    c.read_line.new.buffer answered.result c.unwrap_or.result c.unwrap_or.ensures reads
    (answered.ensures.printed script to_do.stands to_do.count
    (next_last script c.read_line.new.line.items c.read_line.new.buffer (g.S.Source.left c.read_line.new.source)
    reads)) (answered.ensures.moves script.start to_do.stands)
    (still_keeps_up script.bytes (c.args.self.now.buffer ++ to_do.rest) (g.S.Source.asked c.args.source.now)
    (g.S.Source.asked c.read_line.new.source) to_do.bytes_are (c.read_line.ensures.keeps_up to_do.rest to_do.left_is) to_do.kept_up)

pub returns-in-Ok-TooLong-clause-runs : goal.returns-in-Ok-TooLong-clause-runs
returns-in-Ok-TooLong-clause-runs g c script to_do =
    let (text, texts, lines, long) = reads_script TooLong script.bytes (c.args.self.now.buffer ++ to_do.rest)
    c.read_line.new.line.items c.read_line.new.buffer (g.S.Source.left c.read_line.new.source) to_do.bytes_are
    (rw c.in-Ok-TooLong.field-0-is at (c.in-Ok-TooLong.ensures.line to_do.rest to_do.left_is)) in
    let left = g.S.Source.left c.read_line.new.source in
    let ended = c.end_at_bad_line in
    step_apart g.D.Watched (record { only_now = g.met.D.Disk.only_now; counts_now = g.met.D.Disk.counts_now }) IsStored
    Shown IsStopped shown_stays stored_exactly script
    (outside g.S.Source g.K.Sink c.args.source.now c.args.sink.now (disk_of c.args.self.now.replayer))
    (outside g.S.Source g.K.Sink c.read_line.new.source ended.new.sink (disk_of c.args.self.now.replayer))
    ⊥ (λ never. absurd never) ended.result (ended.ensures.whole, ended.ensures.not_the_disk) refl
    (ended.ensures.printed script text left to_do.count (texts, lines) (too_long_is_bad script.start text long))
    (still_keeps_up script.bytes (c.args.self.now.buffer ++ to_do.rest) (g.S.Source.asked c.args.source.now)
    (g.S.Source.asked c.read_line.new.source) to_do.bytes_are (c.read_line.ensures.keeps_up to_do.rest to_do.left_is) to_do.kept_up)

pub returns-in-Ok-End-clause-runs : goal.returns-in-Ok-End-clause-runs
returns-in-Ok-End-clause-runs g c script to_do =
    let reads = reads_script End script.bytes (c.args.self.now.buffer ++ to_do.rest) c.read_line.new.line.items
    c.read_line.new.buffer (g.S.Source.left c.read_line.new.source) to_do.bytes_are
    (rw c.in-Ok-End.field-0-is at (c.in-Ok-End.ensures.line to_do.rest to_do.left_is)) in
    step_end g.D.Watched (record { only_now = g.met.D.Disk.only_now; counts_now = g.met.D.Disk.counts_now }) IsStored
    Shown IsStopped shown_stays stored_exactly script
    (outside g.S.Source g.K.Sink c.args.source.now c.args.sink.now (disk_of c.args.self.now.replayer))
    (outside g.S.Source g.K.Sink c.read_line.new.source c.args.sink.now (disk_of c.args.self.now.replayer))
    reads.1 reads.0 refl refl
    (still_keeps_up script.bytes (c.args.self.now.buffer ++ to_do.rest) (g.S.Source.asked c.args.source.now)
    (g.S.Source.asked c.read_line.new.source) to_do.bytes_are (c.read_line.ensures.keeps_up to_do.rest to_do.left_is) to_do.kept_up)

pub returns-in-Err-NoMemory-clause-runs : goal.returns-in-Err-NoMemory-clause-runs
returns-in-Err-NoMemory-clause-runs g c script to_do =
    step_apart g.D.Watched (record { only_now = g.met.D.Disk.only_now; counts_now = g.met.D.Disk.counts_now }) IsStored
    Shown IsStopped shown_stays stored_exactly script
    (outside g.S.Source g.K.Sink c.args.source.now c.args.sink.now (disk_of c.args.self.now.replayer))
    (outside g.S.Source g.K.Sink c.read_line.new.source c.finish.new.sink (disk_of c.args.self.now.replayer))
    ⊥ (λ never. absurd never) c.finish.result
    (line_leaves_disk g.K.Sink _ _ _ NoMemory c.finish.result (λ e. cc, λ e. cc) c.finish.ensures) refl
    (finished g.K.Sink c.args.sink.now c.finish.new.sink (Evidence ⊥ ⊥) script (g.S.Source.left c.read_line.new.source)
    NoMemory c.finish.result no_memory_line refl tt c.finish.ensures)
    (still_keeps_up script.bytes (c.args.self.now.buffer ++ to_do.rest) (g.S.Source.asked c.args.source.now)
    (g.S.Source.asked c.read_line.new.source) to_do.bytes_are (c.read_line.ensures.keeps_up to_do.rest to_do.left_is) to_do.kept_up)

pub returns-in-Err-NoMemory-clause-sink_faults : goal.returns-in-Err-NoMemory-clause-sink_faults
returns-in-Err-NoMemory-clause-sink_faults g c = finish_counts g.K.Sink _ _ _ NoMemory c.finish.result (λ e. cc) c.finish.ensures

pub returns-in-Err-Fault-clause-runs : goal.returns-in-Err-Fault-clause-runs
returns-in-Err-Fault-clause-runs g c script to_do =
    let ended = c.finish-in-Err-Fault in
    let fault = c.in-Err-Fault.is ∙ ap Err c.in-Err-Fault.field-0-is in
    let (given, rest, left_is, parts, unended) = c.read_line.ensures.within fault to_do.rest to_do.left_is in
    let rose = c.read_line.ensures.cause.rose fault in
    step_apart g.D.Watched (record { only_now = g.met.D.Disk.only_now; counts_now = g.met.D.Disk.counts_now }) IsStored
    Shown IsStopped shown_stays stored_exactly script
    (outside g.S.Source g.K.Sink c.args.source.now c.args.sink.now (disk_of c.args.self.now.replayer))
    (outside g.S.Source g.K.Sink c.read_line.new.source ended.new.sink (disk_of c.args.self.now.replayer))
    (Rose (g.S.Source.faults c.args.source.now) (g.S.Source.faults c.read_line.new.source)) (λ rose. rose) ended.result
    (line_leaves_disk g.K.Sink _ _ _ ReadFault ended.result (λ e. cc, λ e. cc) ended.ensures) refl
    (finished g.K.Sink c.args.sink.now ended.new.sink
    (Evidence (Rose (g.S.Source.faults c.args.source.now) (g.S.Source.faults c.read_line.new.source)) ⊥) script
    (g.S.Source.left c.read_line.new.source) ReadFault ended.result read_fault_line refl
    (rose, (given, rest, to_do.bytes_are ∙ parts, left_is, sym (ended_lines-none given unended))) ended.ensures)
    (still_keeps_up script.bytes (c.args.self.now.buffer ++ to_do.rest) (g.S.Source.asked c.args.source.now)
    (g.S.Source.asked c.read_line.new.source) to_do.bytes_are (c.read_line.ensures.keeps_up to_do.rest to_do.left_is) to_do.kept_up)

pub returns-in-Err-Fault-clause-sink_faults : goal.returns-in-Err-Fault-clause-sink_faults
returns-in-Err-Fault-clause-sink_faults g c = finish_counts g.K.Sink _ _ _ ReadFault c.finish-in-Err-Fault.result
    (λ e. cc) c.finish-in-Err-Fault.ensures

-- ---- what is told of the input

pub returns-in-Ok-Line-clause-reads : goal.returns-in-Ok-Line-clause-reads
returns-in-Ok-Line-clause-reads g c input begin h =
    let old = streams g.S.Source g.K.Sink c.args.source.now c.args.sink.now in
    let new = streams g.S.Source g.K.Sink c.read_line.new.source c.answer.new.sink in
    let buffer = c.args.self.now.buffer in
    let count = c.args.self.now.answered in
    let reads = rw c.in-Ok-Line.field-0-is at (c.in-Ok-Line.ensures.line h.rest h.left_is) in
    subst (λ (b : List ℕ). ReadsOn input begin new b c.answer.new.self.answered c.answer.result) (sym c.answer.ensures.same)
    (reads_line input begin old new buffer count h c.read_line.new.line.items c.read_line.new.buffer
    c.answer.new.self.answered c.answer.result c.answer.ensures.counted reads c.answer.ensures.reads
    (c.read_line.ensures.keeps_up h.rest h.left_is h.kept_up))

pub returns-in-Ok-LastLine-clause-reads : goal.returns-in-Ok-LastLine-clause-reads
returns-in-Ok-LastLine-clause-reads g c input begin h =
    let answered = c.answer-in-Ok-LastLine in
    let old = streams g.S.Source g.K.Sink c.args.source.now c.args.sink.now in
    let new = streams g.S.Source g.K.Sink c.read_line.new.source answered.new.sink in
    let buffer = c.args.self.now.buffer in
    let count = c.args.self.now.answered in
    let reads = rw c.in-Ok-LastLine.field-0-is at (c.in-Ok-LastLine.ensures.line h.rest h.left_is) in
    reads_last input begin old new buffer count h c.read_line.new.line.items c.read_line.new.buffer answered.result
    c.unwrap_or.result c.unwrap_or.ensures reads answered.ensures.reads (c.read_line.ensures.keeps_up h.rest h.left_is h.kept_up)

pub returns-in-Ok-TooLong-clause-reads : goal.returns-in-Ok-TooLong-clause-reads
returns-in-Ok-TooLong-clause-reads g c input begin h =
    let old = streams g.S.Source g.K.Sink c.args.source.now c.args.sink.now in
    let new = streams g.S.Source g.K.Sink c.read_line.new.source c.end_at_bad_line.new.sink in
    let buffer = c.args.self.now.buffer in
    let count = c.args.self.now.answered in
    let reads = rw c.in-Ok-TooLong.field-0-is at (c.in-Ok-TooLong.ensures.line h.rest h.left_is) in
    reads_end input begin old new buffer count h c.end_at_bad_line.result (c.read_line.ensures.keeps_up h.rest h.left_is h.kept_up)
    (ends_at_long (buffer ++ h.rest) c.read_line.new.line.items c.read_line.new.buffer new.left count
    c.end_at_bad_line.result old.held new.held reads c.end_at_bad_line.ensures.reads)

pub returns-in-Ok-End-clause-reads : goal.returns-in-Ok-End-clause-reads
returns-in-Ok-End-clause-reads g c input begin h =
    let old = streams g.S.Source g.K.Sink c.args.source.now c.args.sink.now in
    let new = streams g.S.Source g.K.Sink c.read_line.new.source c.args.sink.now in
    let buffer = c.args.self.now.buffer in
    let count = c.args.self.now.answered in
    let reads = rw c.in-Ok-End.field-0-is at (c.in-Ok-End.ensures.line h.rest h.left_is) in
    reads_all input begin old new buffer count h reads.1 reads.0 refl (c.read_line.ensures.keeps_up h.rest h.left_is h.kept_up)

pub returns-in-Err-NoMemory-clause-reads : goal.returns-in-Err-NoMemory-clause-reads
returns-in-Err-NoMemory-clause-reads g c input begin h =
    let old = streams g.S.Source g.K.Sink c.args.source.now c.args.sink.now in
    let new = streams g.S.Source g.K.Sink c.read_line.new.source c.finish.new.sink in
    let buffer = c.args.self.now.buffer in
    let count = c.args.self.now.answered in
    reads_end input begin old new buffer count h c.finish.result (c.read_line.ensures.keeps_up h.rest h.left_is h.kept_up)
    (finishes_otherwise g.K.Sink c.args.sink.now c.finish.new.sink no_memory_line NoMemory c.finish.result _ _ count
    (λ e. cc, λ e. cc, λ name place e. cc, λ e. cc) c.finish.ensures)

pub returns-in-Err-Fault-clause-reads : goal.returns-in-Err-Fault-clause-reads
returns-in-Err-Fault-clause-reads g c input begin h =
    let ended = c.finish-in-Err-Fault in
    let old = streams g.S.Source g.K.Sink c.args.source.now c.args.sink.now in
    let new = streams g.S.Source g.K.Sink c.read_line.new.source ended.new.sink in
    let buffer = c.args.self.now.buffer in
    let count = c.args.self.now.answered in
    reads_end input begin old new buffer count h ended.result (c.read_line.ensures.keeps_up h.rest h.left_is h.kept_up)
    (finishes_otherwise g.K.Sink c.args.sink.now ended.new.sink read_fault_line ReadFault ended.result _ _ count
    (λ e. cc, λ e. cc, λ name place e. cc, λ e. cc) ended.ensures)

-- ---- at what read it ends, and over what store it goes on

some_ending : (a b : Ending) → Some a ≡ Some b → a ≡ b
some_ending a b e = cc

some_none : (a : Ending) → Some a ≡ None → ⊥
some_none a e = cc

pub returns-in-Ok-Line-clause-reader_fault : goal.returns-in-Ok-Line-clause-reader_fault
returns-in-Ok-Line-clause-reader_fault g c s stands = c.answer.ensures.reader_fault s stands

pub returns-in-Ok-LastLine-clause-reader_fault : goal.returns-in-Ok-LastLine-clause-reader_fault
returns-in-Ok-LastLine-clause-reader_fault g c s stands by =
    let answered = c.answer-in-Ok-LastLine in
    answered.ensures.reader_fault s stands (last_unread answered.result c.unwrap_or.result c.unwrap_or.ensures by)

pub returns-in-Ok-TooLong-clause-reader_fault : goal.returns-in-Ok-TooLong-clause-reader_fault
returns-in-Ok-TooLong-clause-reader_fault g c s stands by = absurd (c.end_at_bad_line.ensures.readable (some_ending _ _ by))

pub returns-in-Ok-End-clause-reader_fault : goal.returns-in-Ok-End-clause-reader_fault
returns-in-Ok-End-clause-reader_fault g c s stands by = absurd (cc)

pub returns-in-Err-NoMemory-clause-reader_fault : goal.returns-in-Err-NoMemory-clause-reader_fault
returns-in-Err-NoMemory-clause-reader_fault g c s stands by =
    absurd (or_cut g.K.Sink _ _ _ NoMemory c.finish.result (λ (e : Ending). Some e ≢ Some ReaderFault) c.finish.ensures
    (λ e. cc) (λ e. cc) by)

pub returns-in-Err-Fault-clause-reader_fault : goal.returns-in-Err-Fault-clause-reader_fault
returns-in-Err-Fault-clause-reader_fault g c s stands by =
    absurd (or_cut g.K.Sink _ _ _ ReadFault c.finish-in-Err-Fault.result (λ (e : Ending). Some e ≢ Some ReaderFault)
    c.finish-in-Err-Fault.ensures (λ e. cc) (λ e. cc) by)

pub returns-in-Ok-Line-clause-stands : goal.returns-in-Ok-Line-clause-stands
returns-in-Ok-Line-clause-stands g c s stands on = c.answer.ensures.stands s stands on

pub returns-in-Ok-LastLine-clause-stands : goal.returns-in-Ok-LastLine-clause-stands
returns-in-Ok-LastLine-clause-stands g c s stands on = absurd (some_none _ on)

pub returns-in-Ok-TooLong-clause-stands : goal.returns-in-Ok-TooLong-clause-stands
returns-in-Ok-TooLong-clause-stands g c s stands on = absurd (some_none _ on)

pub returns-in-Ok-End-clause-stands : goal.returns-in-Ok-End-clause-stands
returns-in-Ok-End-clause-stands g c s stands on = absurd (some_none _ on)

pub returns-in-Err-NoMemory-clause-stands : goal.returns-in-Err-NoMemory-clause-stands
returns-in-Err-NoMemory-clause-stands g c s stands on = absurd (some_none _ on)

pub returns-in-Err-Fault-clause-stands : goal.returns-in-Err-Fault-clause-stands
returns-in-Err-Fault-clause-stands g c s stands on = absurd (some_none _ on)

-- ---- a store may be opened on the disk again

pub returns-in-Ok-Line-clause-again : goal.returns-in-Ok-Line-clause-again
returns-in-Ok-Line-clause-again g c s stands held = c.answer.ensures.again s stands held

pub returns-in-Ok-LastLine-clause-again : goal.returns-in-Ok-LastLine-clause-again
returns-in-Ok-LastLine-clause-again g c s stands held =
    stays_open g.D.Watched
    (StandsFor g.D.Watched g.D.Writer.Writer g.D.Held.HeldFile.bytes c.answer-in-Ok-LastLine.new.self.replayer) (disk_of c.answer-in-Ok-LastLine.new.self.replayer) c.answer-in-Ok-LastLine.result
    (c.answer-in-Ok-LastLine.ensures.again s stands held)

pub returns-in-Ok-TooLong-clause-again : goal.returns-in-Ok-TooLong-clause-again
returns-in-Ok-TooLong-clause-again g c s stands held = held_open g.D.Watched s (disk_of c.args.self.now.replayer) held

pub returns-in-Ok-End-clause-again : goal.returns-in-Ok-End-clause-again
returns-in-Ok-End-clause-again g c s stands held = held_open g.D.Watched s (disk_of c.args.self.now.replayer) held

pub returns-in-Err-NoMemory-clause-again : goal.returns-in-Err-NoMemory-clause-again
returns-in-Err-NoMemory-clause-again g c s stands held = held_open g.D.Watched s (disk_of c.args.self.now.replayer) held

pub returns-in-Err-Fault-clause-again : goal.returns-in-Err-Fault-clause-again
returns-in-Err-Fault-clause-again g c s stands held = held_open g.D.Watched s (disk_of c.args.self.now.replayer) held

-- ---- what its line is answered, whatever the disk holds

pub returns-in-Ok-Line-clause-called : goal.returns-in-Ok-Line-clause-called
returns-in-Ok-Line-clause-called g c first left begin h =
    let called = AnswersAsCalled g.D.Watched g.D.Held.HeldFile.bytes g.D.Reader.Reader.faults g.D.Writer.Writer in
    subst (λ (b : List ℕ). CallsOn called g.K.Sink c.args.self.now.on_fault first c.answer.new.self.replayer left
    (g.S.Source.left c.read_line.new.source) b begin c.answer.new.sink c.answer.result) (sym c.answer.ensures.same)
    (calls_line called g.K.Sink c.args.self.now.on_fault first left begin c.args.self.now.replayer (g.S.Source.left c.args.source.now)
    c.args.self.now.buffer c.args.sink.now h c.read_line.new.line.items c.answer.new.self.replayer c.answer.new.sink
    (g.S.Source.left c.read_line.new.source) c.read_line.new.buffer c.answer.result
    (no_fault_on c.answer.result _ _ c.answer.ensures.sink_faults)
    (λ rest is. rw c.in-Ok-Line.field-0-is at (c.in-Ok-Line.ensures.line rest is)) c.answer.ensures.called)

pub returns-in-Ok-LastLine-clause-called : goal.returns-in-Ok-LastLine-clause-called
returns-in-Ok-LastLine-clause-called g c first left begin h =
    let called = AnswersAsCalled g.D.Watched g.D.Held.HeldFile.bytes g.D.Reader.Reader.faults g.D.Writer.Writer in
    let answered = c.answer-in-Ok-LastLine in
    subst (λ (e : Ending). RunsAsCalled called g.K.Sink c.args.self.now.on_fault first left begin answered.new.sink e)
    (sym c.unwrap_or.ensures)
    (calls_last called g.K.Sink c.args.self.now.on_fault first left begin c.args.self.now.replayer (g.S.Source.left c.args.source.now)
    c.args.self.now.buffer c.args.sink.now h c.read_line.new.line.items answered.new.self.replayer answered.new.sink
    (g.S.Source.left c.read_line.new.source) c.read_line.new.buffer answered.result
    (no_fault_on answered.result _ _ answered.ensures.sink_faults)
    (λ rest is. rw c.in-Ok-LastLine.field-0-is at (c.in-Ok-LastLine.ensures.line rest is)) answered.ensures.called)

pub returns-in-Ok-TooLong-clause-called : goal.returns-in-Ok-TooLong-clause-called
returns-in-Ok-TooLong-clause-called g c first left begin h =
    ends_apart (AnswersAsCalled g.D.Watched g.D.Held.HeldFile.bytes g.D.Reader.Reader.faults g.D.Writer.Writer) g.K.Sink
    c.args.self.now.on_fault first left begin c.args.self.now.replayer (g.S.Source.left c.args.source.now) c.args.self.now.buffer
    c.args.sink.now h c.end_at_bad_line.new.sink c.end_at_bad_line.result c.end_at_bad_line.ensures.apart

pub returns-in-Ok-End-clause-called : goal.returns-in-Ok-End-clause-called
returns-in-Ok-End-clause-called g c first left begin h =
    ends_apart (AnswersAsCalled g.D.Watched g.D.Held.HeldFile.bytes g.D.Reader.Reader.faults g.D.Writer.Writer) g.K.Sink
    c.args.self.now.on_fault first left begin c.args.self.now.replayer (g.S.Source.left c.args.source.now) c.args.self.now.buffer
    c.args.sink.now h c.args.sink.now Complete tt

pub returns-in-Err-NoMemory-clause-called : goal.returns-in-Err-NoMemory-clause-called
returns-in-Err-NoMemory-clause-called g c first left begin h =
    ends_apart (AnswersAsCalled g.D.Watched g.D.Held.HeldFile.bytes g.D.Reader.Reader.faults g.D.Writer.Writer) g.K.Sink
    c.args.self.now.on_fault first left begin c.args.self.now.replayer (g.S.Source.left c.args.source.now) c.args.self.now.buffer
    c.args.sink.now h c.finish.new.sink c.finish.result
    (or_cut g.K.Sink _ _ _ NoMemory c.finish.result IsApart c.finish.ensures tt tt)

pub returns-in-Err-Fault-clause-called : goal.returns-in-Err-Fault-clause-called
returns-in-Err-Fault-clause-called g c first left begin h =
    let ended = c.finish-in-Err-Fault in
    ends_apart (AnswersAsCalled g.D.Watched g.D.Held.HeldFile.bytes g.D.Reader.Reader.faults g.D.Writer.Writer) g.K.Sink
    c.args.self.now.on_fault first left begin c.args.self.now.replayer (g.S.Source.left c.args.source.now) c.args.self.now.buffer
    c.args.sink.now h ended.new.sink ended.result (or_cut g.K.Sink _ _ _ ReadFault ended.result IsApart ended.ensures tt tt)
