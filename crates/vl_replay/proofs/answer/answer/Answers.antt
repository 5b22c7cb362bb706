use Rattle.std.proofs.Common.{◌≡◌, ◌≢◌, inl, inr, ◌∙◌, ap, Err, ℕ, List, refl, subst, sym}
use Rattle.std.specs.Prelude.{Option, None, Some}
use Rattle.std.specs.Prelude.{is_ok}
use Rattle.vl_io.specs.Sink.{Takes, TakesPrefix}
use Rattle.vl_disk.specs.Faults.{Rose}
use Rattle.vl_script_model.specs.Runs.{next_number}
use Rattle.vl_script_model.specs.Endings.{OnlyByDisk, TheSink, TheSource, culprit_of, disk_fault_line, ending_at, line_at}
use Rattle.vl_script_model.specs.Endings.{no_memory_line, TheDisk}
use Rattle.vl_script_model.specs.Halts.{HaltsByDisk}
use Rattle.vl_replay.specs.Served.{disk_of}
use Rattle.vl_script_model.specs.Durable.{HoldsState}
use Rattle.vl_script_model.specs.Exchanges.{Exchange, state_behind}
use Rattle.vl_script_model.specs.Stored.{IsStored}
use Rattle.vl_script_model.specs.declared.ending.Ending.{Ending}
use Rattle.vl_script_model.specs.declared.ending.Ending.TheVariants.{AnswerCut, BadWords, NoMemory, ReaderFault, Refused}
use Rattle.vl_script_model.specs.laws.Ends.{answer_cut, finished, finish_counts, before_weaker, at_damage, at_fault}
use Rattle.vl_script_model.specs.laws.Ends.{damage_counts, damage_counts_sink, ends_as, fault_as, fault_counts, fault_line}
use Rattle.vl_script_model.specs.laws.Ends.{fault_stops, or_cut, otherwise_as, otherwise_counts, unread_stops}
use Rattle.vl_script_model.specs.laws.Texts.{by_damage, by_halt, by_read, halts, is_damage, is_unread, of_ok, ends_cut, ends_bad}
use Rattle.vl_script_model.specs.laws.Texts.{ends_out, ends_fault, ends_unread, was_halted}
use Rattle.vl_replay.proofs.Runs.ReadingOn.{IsOtherwise, ends_for, ends_otherwise, finishes_damaged, finishes_otherwise, finishes_unread}
use Rattle.vl_replay.proofs.answer.answer.Goals as goal

pub returns-in-Ok-clause-printed : goal.returns-in-Ok-clause-printed
returns-in-Ok-clause-printed g c script stands count next =
    let made = rw c.in-Ok-Some.field-0-is at (c.in-Ok-Some.ensures.answers script.start stands) in (
      made.0,
      made.1,
      made.2,
      subst
          (λ (l : List ℕ). Takes (g.K.Sink.held c.args.sink.now) (g.K.Sink.held c.put.new.self) l)
          ((rw c.in-Ok-Some.field-0-is at c.deref.ensures.value) ∙ made.3) c.in-Ok.ensures.taken,
    )

pub returns-in-Ok-clause-moves : goal.returns-in-Ok-clause-moves
returns-in-Ok-clause-moves g c s stands held =
    let carried = c.execute_line.ensures.carries s stands held in
    record {
      held = of_ok c.execute_line.result _ (ap is_ok c.in-Ok-Some.is) carried.answered;
      through = carried.through;
      steady = c.execute_line.ensures.cause.steady
          (subst (λ r. HaltsByDisk r → ⊥) (sym c.in-Ok-Some.is) (λ by. by));
    }

pub returns-in-Ok-Some-clause-printed : goal.returns-in-Ok-Some-clause-printed
returns-in-Ok-Some-clause-printed g c script stands count next left =
    let made = rw c.in-Ok-Some.field-0-is at (c.in-Ok-Some.ensures.answers script.start stands) in
    answer_cut _ script c.args.text.now left made.0 (g.K.Sink.held c.args.sink.now) (g.K.Sink.held c.put.new.self) next made.1
    (subst (λ (l : List ℕ). TakesPrefix (g.K.Sink.held c.args.sink.now) (g.K.Sink.held c.put.new.self) l)
    ((rw c.in-Ok-Some.field-0-is at c.deref.ensures.value) ∙ made.3) c.in-Err.ensures.part)

pub returns-in-Ok-Some-clause-moves : goal.returns-in-Ok-Some-clause-moves
returns-in-Ok-Some-clause-moves g c s stands held =
    ends_cut g.D.Watched (record { only_now = g.met.D.Disk.only_now; counts_now = g.met.D.Disk.counts_now }) s
    c.args.text.now (disk_of c.args.replayer.now) (disk_of c.execute_line.new.replayer) c.execute_line.result
    (ap is_ok c.in-Ok-Some.is) (c.execute_line.ensures.carries s stands held)

pub returns-in-Ok-None-clause-printed : goal.returns-in-Ok-None-clause-printed
returns-in-Ok-None-clause-printed g c script stands count next left =
    let bad = rw c.in-Ok-None.field-0-is at (c.in-Ok-None.ensures.answers script.start stands) in
    before_weaker _ script left c.end_at_bad_line.result _ _ (c.end_at_bad_line.ensures.printed script c.args.text.now left count next bad)

pub returns-in-Ok-None-clause-moves : goal.returns-in-Ok-None-clause-moves
returns-in-Ok-None-clause-moves g c s stands held =
    let bad = rw c.in-Ok-None.field-0-is at (c.in-Ok-None.ensures.answers s stands) in
    ends_bad g.D.Watched (record { only_now = g.met.D.Disk.only_now; counts_now = g.met.D.Disk.counts_now }) s
    c.args.text.now (disk_of c.args.replayer.now) (disk_of c.execute_line.new.replayer) c.execute_line.result
    c.end_at_bad_line.result (ap is_ok c.in-Ok-None.is) c.end_at_bad_line.ensures.not_the_disk bad
    (c.execute_line.ensures.carries s stands held)

pub returns-in-Err-NoMemory-clause-printed : goal.returns-in-Err-NoMemory-clause-printed
returns-in-Err-NoMemory-clause-printed g c script stands count next left =
    finished g.K.Sink c.args.sink.now c.finish.new.sink _ script left NoMemory c.finish.result no_memory_line refl tt c.finish.ensures

pub returns-in-Err-NoMemory-clause-moves : goal.returns-in-Err-NoMemory-clause-moves
returns-in-Err-NoMemory-clause-moves g c s stands held =
    ends_out g.D.Watched (record { only_now = g.met.D.Disk.only_now; counts_now = g.met.D.Disk.counts_now }) s
    c.args.text.now (disk_of c.args.replayer.now) (disk_of c.execute_line.new.replayer) g.K.Sink c.args.sink.now
    c.finish.new.sink no_memory_line c.execute_line.result c.finish.result
    (c.in-Err-NoMemory.is ∙ ap Err c.in-Err-NoMemory.field-0-is) c.finish.ensures (c.execute_line.ensures.carries s stands held)

pub returns-in-Err-NoMemory-clause-sink_faults : goal.returns-in-Err-NoMemory-clause-sink_faults
returns-in-Err-NoMemory-clause-sink_faults g c = finish_counts g.K.Sink _ _ _ NoMemory c.finish.result (λ e. cc) c.finish.ensures

pub returns-clause-printed : goal.returns-clause-printed
returns-clause-printed g c script stands count next left =
    finished g.K.Sink c.args.sink.now c.end_at_fault.new.sink _ script left (ending_at c.args.on_fault)
    c.end_at_fault.result (line_at c.args.on_fault) (fault_line (next_number script 0) c.args.on_fault)
    (fault_stops (OnlyByDisk
    (Rose (g.D.Watched.faults (disk_of c.args.replayer.now))
    (g.D.Watched.faults (disk_of c.execute_line.new.replayer)))) script left 0
    (c.execute_line.ensures.cause.rose
    (halts c.execute_line.result c.in-Err-Disk.field-0-0 (c.in-Err-Disk.is ∙ ap Err c.in-Err-Disk.field-0-is)))
    c.args.on_fault) c.end_at_fault.ensures

pub returns-clause-moves : goal.returns-clause-moves
returns-clause-moves g c s stands held =
    let by = halts c.execute_line.result c.in-Err-Disk.field-0-0 (c.in-Err-Disk.is ∙ ap Err c.in-Err-Disk.field-0-is) in
    ends_fault g.D.Watched (record { only_now = g.met.D.Disk.only_now; counts_now = g.met.D.Disk.counts_now }) s
    c.args.text.now (disk_of c.args.replayer.now) (disk_of c.execute_line.new.replayer) g.K.Sink c.args.sink.now
    c.end_at_fault.new.sink (line_at c.args.on_fault) c.execute_line.result c.args.on_fault c.end_at_fault.result
    (c.execute_line.ensures.cause.rose by) by c.end_at_fault.ensures (c.execute_line.ensures.carries s stands held)

pub returns-clause-sink_faults : goal.returns-clause-sink_faults
returns-clause-sink_faults g c = finish_counts g.K.Sink _ _ _ (ending_at c.args.on_fault) c.end_at_fault.result
    (at_fault (λ (e : Ending). culprit_of e ≢ TheSink) (λ e. cc) (λ e. cc) c.args.on_fault) c.end_at_fault.ensures

pub returns-in-Ok-clause-reads : goal.returns-in-Ok-clause-reads
returns-in-Ok-clause-reads g c =
    let (is, (answer, out_is)) = rw c.in-Ok-Some.field-0-is at c.in-Ok-Some.ensures.reads in (
      is,
      (
        answer,
        subst (λ (l : List ℕ). Takes (g.K.Sink.held c.args.sink.now) (g.K.Sink.held c.put.new.self) l)
            ((rw c.in-Ok-Some.field-0-is at c.deref.ensures.value) ∙ out_is) c.in-Ok.ensures.taken,
      ),
    )

pub returns-in-Ok-Some-clause-reads : goal.returns-in-Ok-Some-clause-reads
returns-in-Ok-Some-clause-reads g c = ends_otherwise _ _ c.args.answered AnswerCut _ _ (_, c.in-Err.ensures.part.2)
    (λ e. cc, λ e. cc, λ name place e. cc, λ e. cc)

pub returns-in-Ok-None-clause-reads : goal.returns-in-Ok-None-clause-reads
returns-in-Ok-None-clause-reads g c =
    let none = rw c.in-Ok-None.field-0-is at c.in-Ok-None.ensures.reads in
    ends_for (Unit {0}) _ ⊥ _ c.args.answered c.end_at_bad_line.result _ _ (λ _. none) (λ never. absurd never)
    c.end_at_bad_line.ensures.reads

pub returns-in-Err-NoMemory-clause-reads : goal.returns-in-Err-NoMemory-clause-reads
returns-in-Err-NoMemory-clause-reads g c =
    finishes_otherwise g.K.Sink c.args.sink.now c.finish.new.sink no_memory_line NoMemory c.finish.result _ _
    c.args.answered (λ e. cc, λ e. cc, λ name place e. cc, λ e. cc) c.finish.ensures

pub returns-clause-reads : goal.returns-clause-reads
returns-clause-reads g c =
    finishes_otherwise g.K.Sink c.args.sink.now c.end_at_fault.new.sink (line_at c.args.on_fault)
    (ending_at c.args.on_fault) c.end_at_fault.result _ _ c.args.answered
    (at_fault IsOtherwise (λ e. cc, λ e. cc, λ name place e. cc, λ e. cc)
    (λ e. cc, λ e. cc, λ name place e. cc, λ e. cc) c.args.on_fault) c.end_at_fault.ensures

-- ---- how it ends where the disk fails

pub returns-clause-disk_faults : goal.returns-clause-disk_faults
returns-clause-disk_faults g c =
    let by = halts c.execute_line.result c.in-Err-Disk.field-0-0 (c.in-Err-Disk.is ∙ ap Err c.in-Err-Disk.field-0-is) in
    fault_counts g.K.Sink _ _ _ c.end_at_fault.result c.args.on_fault _ _ _ by c.execute_line.ensures.cause c.end_at_fault.ensures

pub returns-clause-not_the_source : goal.returns-clause-not_the_source
returns-clause-not_the_source g c =
    or_cut g.K.Sink _ _ _ (ending_at c.args.on_fault) c.end_at_fault.result
    (λ (e : Ending). Some (culprit_of e) ≢ Some TheSource) c.end_at_fault.ensures
    (at_fault (λ (e : Ending). Some (culprit_of e) ≢ Some TheSource) (λ e. cc) (λ e. cc) c.args.on_fault) (λ e. cc)

pub returns-clause-not_the_files : goal.returns-clause-not_the_files
returns-clause-not_the_files g c refusal =
    or_cut g.K.Sink _ _ _ (ending_at c.args.on_fault) c.end_at_fault.result
    (λ (e : Ending). Some e ≢ Some (Refused refusal)) c.end_at_fault.ensures
    (at_fault (λ (e : Ending). Some e ≢ Some (Refused refusal)) (λ e. cc) (λ e. cc) c.args.on_fault) (λ e. cc)

pub returns-clause-not_the_words : goal.returns-clause-not_the_words
returns-clause-not_the_words g c =
    or_cut g.K.Sink _ _ _ (ending_at c.args.on_fault) c.end_at_fault.result (λ (e : Ending). Some e ≢ Some BadWords) c.end_at_fault.ensures
    (at_fault (λ (e : Ending). Some e ≢ Some BadWords) (λ e. cc) (λ e. cc) c.args.on_fault) (λ e. cc)

pub returns-clause-as_meant : goal.returns-clause-as_meant
returns-clause-as_meant g c = fault_as g.K.Sink _ _ _ c.end_at_fault.result c.args.on_fault c.end_at_fault.ensures

pub returns-in-Err-NoMemory-clause-as_meant : goal.returns-in-Err-NoMemory-clause-as_meant
returns-in-Err-NoMemory-clause-as_meant g c = otherwise_as g.K.Sink _ _ _ NoMemory c.finish.result c.args.on_fault
    (λ e. cc) c.finish.ensures

pub returns-in-Ok-None-clause-as_meant : goal.returns-in-Ok-None-clause-as_meant
returns-in-Ok-None-clause-as_meant g c = ends_as c.args.on_fault c.end_at_bad_line.result (inl c.end_at_bad_line.ensures.not_the_disk)

pub returns-in-Ok-Some-clause-as_meant : goal.returns-in-Ok-Some-clause-as_meant
returns-in-Ok-Some-clause-as_meant g c = ends_as c.args.on_fault AnswerCut (inl (λ e. cc))

pub returns-in-Ok-clause-as_meant : goal.returns-in-Ok-clause-as_meant
returns-in-Ok-clause-as_meant g c by = absurd (cc)

-- ---- how it ends where a read met damage

pub returns-in-Err-Damaged-clause-printed : goal.returns-in-Err-Damaged-clause-printed
returns-in-Err-Damaged-clause-printed g c script stands count next =
    absurd (c.execute_line.ensures.undamaged script.start stands
    (is_damage c.execute_line.result _ _ (c.in-Err-Damaged.is ∙ ap Err c.in-Err-Damaged.field-0-is)))

pub returns-in-Err-Damaged-clause-moves : goal.returns-in-Err-Damaged-clause-moves
returns-in-Err-Damaged-clause-moves g c s stands held =
    absurd (c.execute_line.ensures.undamaged s stands
    (is_damage c.execute_line.result _ _ (c.in-Err-Damaged.is ∙ ap Err c.in-Err-Damaged.field-0-is)))

pub returns-in-Err-Damaged-clause-sink_faults : goal.returns-in-Err-Damaged-clause-sink_faults
returns-in-Err-Damaged-clause-sink_faults g c = damage_counts_sink g.K.Sink _ _ _ _ c.end_at_damage.result c.end_at_damage.ensures

pub returns-in-Err-Damaged-clause-disk_faults : goal.returns-in-Err-Damaged-clause-disk_faults
returns-in-Err-Damaged-clause-disk_faults g c =
    damage_counts g.K.Sink _ _ _ _ c.end_at_damage.result c.end_at_damage.ensures _ _
    (c.execute_line.ensures.cause.steady
    (subst (λ r. HaltsByDisk r → ⊥) (sym (c.in-Err-Damaged.is ∙ ap Err c.in-Err-Damaged.field-0-is)) (λ by. by)))

pub returns-in-Err-Damaged-clause-not_the_source : goal.returns-in-Err-Damaged-clause-not_the_source
returns-in-Err-Damaged-clause-not_the_source g c =
    at_damage g.K.Sink _ _ _ _ c.end_at_damage.result (λ (e : Ending). Some (culprit_of e) ≢ Some TheSource)
    c.end_at_damage.ensures (λ e. cc) (λ e. cc) (λ e. cc)

pub returns-in-Err-Damaged-clause-not_the_files : goal.returns-in-Err-Damaged-clause-not_the_files
returns-in-Err-Damaged-clause-not_the_files g c refusal =
    at_damage g.K.Sink _ _ _ _ c.end_at_damage.result (λ (e : Ending). Some e ≢ Some (Refused refusal))
    c.end_at_damage.ensures (λ e. cc) (λ e. cc) (λ e. cc)

pub returns-in-Err-Damaged-clause-not_the_words : goal.returns-in-Err-Damaged-clause-not_the_words
returns-in-Err-Damaged-clause-not_the_words g c =
    at_damage g.K.Sink _ _ _ _ c.end_at_damage.result (λ (e : Ending). Some e ≢ Some BadWords) c.end_at_damage.ensures
    (λ e. cc) (λ e. cc) (λ e. cc)

pub returns-in-Err-Damaged-clause-reads : goal.returns-in-Err-Damaged-clause-reads
returns-in-Err-Damaged-clause-reads g c =
    finishes_damaged g.K.Sink _ _ _ _ c.end_at_damage.result _ _ c.args.answered
    (c.execute_line.ensures.met
    (by_damage c.execute_line.result _ _ (c.in-Err-Damaged.is ∙ ap Err c.in-Err-Damaged.field-0-is))) c.end_at_damage.ensures

pub returns-in-Err-Damaged-clause-as_meant : goal.returns-in-Err-Damaged-clause-as_meant
returns-in-Err-Damaged-clause-as_meant g c =
    ends_as c.args.on_fault c.end_at_damage.result
    (inl (at_damage g.K.Sink _ _ _ _ c.end_at_damage.result (λ (e : Ending). culprit_of e ≢ TheDisk)
    c.end_at_damage.ensures (λ e. cc) (λ e. cc) (λ e. cc)))

-- ---- how it ends where a read failed

pub returns-in-Err-Read-clause-printed : goal.returns-in-Err-Read-clause-printed
returns-in-Err-Read-clause-printed g c script stands count next left =
    finished g.K.Sink c.args.sink.now c.finish-in-Err-Read.new.sink _ script left ReaderFault
    c.finish-in-Err-Read.result disk_fault_line refl
    (unread_stops (OnlyByDisk
    (Rose (g.D.Watched.faults (disk_of c.args.replayer.now))
    (g.D.Watched.faults (disk_of c.execute_line.new.replayer)))) script c.args.text.now left next
    (c.execute_line.ensures.readable script.start stands
    (by_read c.execute_line.result _ (c.in-Err-Read.is ∙ ap Err c.in-Err-Read.field-0-is))))
    c.finish-in-Err-Read.ensures

pub returns-in-Err-Read-clause-moves : goal.returns-in-Err-Read-clause-moves
returns-in-Err-Read-clause-moves g c s stands held =
    ends_unread g.D.Watched (record { only_now = g.met.D.Disk.only_now; counts_now = g.met.D.Disk.counts_now }) s
    c.args.text.now (disk_of c.args.replayer.now) (disk_of c.execute_line.new.replayer) g.K.Sink c.args.sink.now
    c.finish-in-Err-Read.new.sink disk_fault_line c.execute_line.result c.finish-in-Err-Read.result
    (by_read c.execute_line.result _ (c.in-Err-Read.is ∙ ap Err c.in-Err-Read.field-0-is)) c.finish-in-Err-Read.ensures
    (c.execute_line.ensures.carries s stands held)

pub returns-in-Err-Read-clause-sink_faults : goal.returns-in-Err-Read-clause-sink_faults
returns-in-Err-Read-clause-sink_faults g c = finish_counts g.K.Sink _ _ _ ReaderFault c.finish-in-Err-Read.result
    (λ e. cc) c.finish-in-Err-Read.ensures

pub returns-in-Err-Read-clause-disk_faults : goal.returns-in-Err-Read-clause-disk_faults
returns-in-Err-Read-clause-disk_faults g c =
    otherwise_counts g.K.Sink _ _ _ ReaderFault c.finish-in-Err-Read.result (λ e. cc) c.finish-in-Err-Read.ensures _ _
    (c.execute_line.ensures.cause.steady
    (subst (λ r. HaltsByDisk r → ⊥) (sym (c.in-Err-Read.is ∙ ap Err c.in-Err-Read.field-0-is)) (λ by. by)))

pub returns-in-Err-Read-clause-reads : goal.returns-in-Err-Read-clause-reads
returns-in-Err-Read-clause-reads g c =
    finishes_unread g.K.Sink _ _ c.finish-in-Err-Read.result _ _ c.args.answered
    (c.execute_line.ensures.met (by_read c.execute_line.result _ (c.in-Err-Read.is ∙ ap Err c.in-Err-Read.field-0-is)))
    c.finish-in-Err-Read.ensures

pub returns-in-Err-Read-clause-as_meant : goal.returns-in-Err-Read-clause-as_meant
returns-in-Err-Read-clause-as_meant g c = otherwise_as g.K.Sink _ _ _ ReaderFault c.finish-in-Err-Read.result
    c.args.on_fault (λ e. cc) c.finish-in-Err-Read.ensures

pub returns-in-Err-Read-clause-reader_fault : goal.returns-in-Err-Read-clause-reader_fault
returns-in-Err-Read-clause-reader_fault g c s stands by =
    c.execute_line.ensures.fault s stands (is_unread c.execute_line.result _ (c.in-Err-Read.is ∙ ap Err c.in-Err-Read.field-0-is))

-- ---- no other ending is by a reader, and the run goes on over a store

some_ending : (a b : Ending) → Some a ≡ Some b → a ≡ b
some_ending a b e = cc

some_none : (a : Ending) → Some a ≡ None → ⊥
some_none a e = cc

pub returns-in-Ok-clause-stands : goal.returns-in-Ok-clause-stands
returns-in-Ok-clause-stands g c s stands on =
    let made = rw c.in-Ok-Some.field-0-is at (c.in-Ok-Some.ensures.answers s stands) in (
      made.0.after,
      record {
        stands = made.2;
        unfailing = λ was. of_ok c.execute_line.result _ (ap is_ok c.in-Ok-Some.is) (c.execute_line.ensures.sure s stands was);
      },
    )

pub returns-in-Err-NoMemory-clause-reader_fault : goal.returns-in-Err-NoMemory-clause-reader_fault
returns-in-Err-NoMemory-clause-reader_fault g c s stands by =
    absurd (or_cut g.K.Sink _ _ _ NoMemory c.finish.result (λ (e : Ending). Some e ≢ Some ReaderFault) c.finish.ensures
    (λ e. cc) (λ e. cc) by)

pub returns-in-Err-Damaged-clause-reader_fault : goal.returns-in-Err-Damaged-clause-reader_fault
returns-in-Err-Damaged-clause-reader_fault g c s stands by =
    absurd (at_damage g.K.Sink _ _ _ _ c.end_at_damage.result (λ (e : Ending). Some e ≢ Some ReaderFault)
    c.end_at_damage.ensures (λ e. cc) (λ e. cc) (λ e. cc) by)

pub returns-clause-reader_fault : goal.returns-clause-reader_fault
returns-clause-reader_fault g c s stands by =
    absurd (or_cut g.K.Sink _ _ _ (ending_at c.args.on_fault) c.end_at_fault.result
    (λ (e : Ending). Some e ≢ Some ReaderFault) c.end_at_fault.ensures
    (at_fault (λ (e : Ending). Some e ≢ Some ReaderFault) (λ e. cc) (λ e. cc) c.args.on_fault) (λ e. cc) by)

pub returns-in-Ok-None-clause-reader_fault : goal.returns-in-Ok-None-clause-reader_fault
returns-in-Ok-None-clause-reader_fault g c s stands by = absurd (c.end_at_bad_line.ensures.readable (some_ending _ _ by))

pub returns-in-Ok-Some-clause-reader_fault : goal.returns-in-Ok-Some-clause-reader_fault
returns-in-Ok-Some-clause-reader_fault g c s stands by = absurd cc

pub returns-in-Ok-clause-reader_fault : goal.returns-in-Ok-clause-reader_fault
returns-in-Ok-clause-reader_fault g c s stands by = absurd cc

pub returns-in-Ok-Some-clause-stands : goal.returns-in-Ok-Some-clause-stands
returns-in-Ok-Some-clause-stands g c s stands on = absurd (some_none _ on)

pub returns-in-Ok-None-clause-stands : goal.returns-in-Ok-None-clause-stands
returns-in-Ok-None-clause-stands g c s stands on = absurd (some_none _ on)

pub returns-in-Err-NoMemory-clause-stands : goal.returns-in-Err-NoMemory-clause-stands
returns-in-Err-NoMemory-clause-stands g c s stands on = absurd (some_none _ on)

pub returns-in-Err-Damaged-clause-stands : goal.returns-in-Err-Damaged-clause-stands
returns-in-Err-Damaged-clause-stands g c s stands on = absurd (some_none _ on)

pub returns-in-Err-Read-clause-stands : goal.returns-in-Err-Read-clause-stands
returns-in-Err-Read-clause-stands g c s stands on = absurd (some_none _ on)

pub returns-clause-stands : goal.returns-clause-stands
returns-clause-stands g c s stands on = absurd (some_none _ on)

pub returns-in-Err-Read-clause-not_the_source : goal.returns-in-Err-Read-clause-not_the_source
returns-in-Err-Read-clause-not_the_source g c =
    or_cut g.K.Sink _ _ _ ReaderFault c.finish-in-Err-Read.result (λ (e : Ending). Some (culprit_of e) ≢ Some TheSource)
    c.finish-in-Err-Read.ensures (λ e. cc) (λ e. cc)

pub returns-in-Err-Read-clause-not_the_files : goal.returns-in-Err-Read-clause-not_the_files
returns-in-Err-Read-clause-not_the_files g c refusal =
    or_cut g.K.Sink _ _ _ ReaderFault c.finish-in-Err-Read.result (λ (e : Ending). Some e ≢ Some (Refused refusal))
    c.finish-in-Err-Read.ensures (λ e. cc) (λ e. cc)

pub returns-in-Err-Read-clause-not_the_words : goal.returns-in-Err-Read-clause-not_the_words
returns-in-Err-Read-clause-not_the_words g c =
    or_cut g.K.Sink _ _ _ ReaderFault c.finish-in-Err-Read.result (λ (e : Ending). Some e ≢ Some BadWords)
    c.finish-in-Err-Read.ensures (λ e. cc) (λ e. cc)

-- ---- an engine that was halted before

pub returns-in-Err-Halted-clause-printed : goal.returns-in-Err-Halted-clause-printed
returns-in-Err-Halted-clause-printed g c script stands count next left =
    finished g.K.Sink c.args.sink.now c.finish-in-Err-Halted.new.sink _ script left ReaderFault
    c.finish-in-Err-Halted.result disk_fault_line refl
    (unread_stops (OnlyByDisk
    (Rose (g.D.Watched.faults (disk_of c.args.replayer.now))
    (g.D.Watched.faults (disk_of c.execute_line.new.replayer)))) script c.args.text.now left next
    (c.execute_line.ensures.readable script.start stands
    (by_halt c.execute_line.result _ (c.in-Err-Halted.is ∙ ap Err c.in-Err-Halted.field-0-is))))
    c.finish-in-Err-Halted.ensures

pub returns-in-Err-Halted-clause-moves : goal.returns-in-Err-Halted-clause-moves
returns-in-Err-Halted-clause-moves g c s stands held =
    ends_unread g.D.Watched (record { only_now = g.met.D.Disk.only_now; counts_now = g.met.D.Disk.counts_now }) s
    c.args.text.now (disk_of c.args.replayer.now) (disk_of c.execute_line.new.replayer) g.K.Sink c.args.sink.now
    c.finish-in-Err-Halted.new.sink disk_fault_line c.execute_line.result c.finish-in-Err-Halted.result
    (by_halt c.execute_line.result _ (c.in-Err-Halted.is ∙ ap Err c.in-Err-Halted.field-0-is)) c.finish-in-Err-Halted.ensures
    (c.execute_line.ensures.carries s stands held)

pub returns-in-Err-Halted-clause-sink_faults : goal.returns-in-Err-Halted-clause-sink_faults
returns-in-Err-Halted-clause-sink_faults g c = finish_counts g.K.Sink _ _ _ ReaderFault c.finish-in-Err-Halted.result
    (λ e. cc) c.finish-in-Err-Halted.ensures

pub returns-in-Err-Halted-clause-disk_faults : goal.returns-in-Err-Halted-clause-disk_faults
returns-in-Err-Halted-clause-disk_faults g c =
    otherwise_counts g.K.Sink _ _ _ ReaderFault c.finish-in-Err-Halted.result (λ e. cc) c.finish-in-Err-Halted.ensures _ _
    (c.execute_line.ensures.cause.steady
    (subst (λ r. HaltsByDisk r → ⊥) (sym (c.in-Err-Halted.is ∙ ap Err c.in-Err-Halted.field-0-is)) (λ by. by)))

pub returns-in-Err-Halted-clause-reads : goal.returns-in-Err-Halted-clause-reads
returns-in-Err-Halted-clause-reads g c =
    finishes_unread g.K.Sink _ _ c.finish-in-Err-Halted.result _ _ c.args.answered
    (c.execute_line.ensures.met (by_halt c.execute_line.result _ (c.in-Err-Halted.is ∙ ap Err c.in-Err-Halted.field-0-is)))
    c.finish-in-Err-Halted.ensures

pub returns-in-Err-Halted-clause-as_meant : goal.returns-in-Err-Halted-clause-as_meant
returns-in-Err-Halted-clause-as_meant g c = otherwise_as g.K.Sink _ _ _ ReaderFault c.finish-in-Err-Halted.result
    c.args.on_fault (λ e. cc) c.finish-in-Err-Halted.ensures

pub returns-in-Err-Halted-clause-reader_fault : goal.returns-in-Err-Halted-clause-reader_fault
returns-in-Err-Halted-clause-reader_fault g c s stands by =
    c.execute_line.ensures.fault s stands (was_halted c.execute_line.result _ (c.in-Err-Halted.is ∙ ap Err c.in-Err-Halted.field-0-is))

pub returns-in-Err-Halted-clause-stands : goal.returns-in-Err-Halted-clause-stands
returns-in-Err-Halted-clause-stands g c s stands on = absurd (some_none _ on)

pub returns-in-Err-Halted-clause-not_the_source : goal.returns-in-Err-Halted-clause-not_the_source
returns-in-Err-Halted-clause-not_the_source g c =
    or_cut g.K.Sink _ _ _ ReaderFault c.finish-in-Err-Halted.result (λ (e : Ending). Some (culprit_of e) ≢ Some TheSource)
    c.finish-in-Err-Halted.ensures (λ e. cc) (λ e. cc)

pub returns-in-Err-Halted-clause-not_the_files : goal.returns-in-Err-Halted-clause-not_the_files
returns-in-Err-Halted-clause-not_the_files g c refusal =
    or_cut g.K.Sink _ _ _ ReaderFault c.finish-in-Err-Halted.result (λ (e : Ending). Some e ≢ Some (Refused refusal))
    c.finish-in-Err-Halted.ensures (λ e. cc) (λ e. cc)

pub returns-in-Err-Halted-clause-not_the_words : goal.returns-in-Err-Halted-clause-not_the_words
returns-in-Err-Halted-clause-not_the_words g c =
    or_cut g.K.Sink _ _ _ ReaderFault c.finish-in-Err-Halted.result (λ (e : Ending). Some e ≢ Some BadWords)
    c.finish-in-Err-Halted.ensures (λ e. cc) (λ e. cc)

-- ---- how it ends, whatever the disk holds

pub returns-in-Ok-clause-as_called : goal.returns-in-Ok-clause-as_called
returns-in-Ok-clause-as_called g c =
    let (line, answer, at, called, out_is) = rw c.in-Ok-Some.field-0-is at c.in-Ok-Some.ensures.as_called in (
      line,
      answer,
      at,
      called,
      subst (λ (l : List ℕ). Takes (g.K.Sink.held c.args.sink.now) (g.K.Sink.held c.put.new.self) l)
          ((rw c.in-Ok-Some.field-0-is at c.deref.ensures.value) ∙ out_is) c.in-Ok.ensures.taken,
    )

pub returns-in-Ok-Some-clause-as_called : goal.returns-in-Ok-Some-clause-as_called
returns-in-Ok-Some-clause-as_called g c =
    let (line, answer, at, called, out_is) = rw c.in-Ok-Some.field-0-is at c.in-Ok-Some.ensures.as_called in
    inr (inl (
      refl,
      line,
      answer,
      at,
      called,
      subst (λ (l : List ℕ). TakesPrefix (g.K.Sink.held c.args.sink.now) (g.K.Sink.held c.put.new.self) l)
          ((rw c.in-Ok-Some.field-0-is at c.deref.ensures.value) ∙ out_is) c.in-Err.ensures.part,
    ))

pub returns-in-Ok-None-clause-as_called : goal.returns-in-Ok-None-clause-as_called
returns-in-Ok-None-clause-as_called g c = inl c.end_at_bad_line.ensures.apart

pub returns-in-Err-NoMemory-clause-as_called : goal.returns-in-Err-NoMemory-clause-as_called
returns-in-Err-NoMemory-clause-as_called g c =
    inr (inr (_, (rw c.in-Err-NoMemory.field-0-is at c.in-Err-NoMemory.ensures.halted), (no_memory_line, refl, c.finish.ensures)))

pub returns-in-Err-Damaged-clause-as_called : goal.returns-in-Err-Damaged-clause-as_called
returns-in-Err-Damaged-clause-as_called g c =
    inr (inr (_, (rw c.in-Err-Damaged.field-0-is at c.in-Err-Damaged.ensures.halted), c.end_at_damage.ensures))

pub returns-in-Err-Read-clause-as_called : goal.returns-in-Err-Read-clause-as_called
returns-in-Err-Read-clause-as_called g c =
    inr (inr (_, (rw c.in-Err-Read.field-0-is at c.in-Err-Read.ensures.halted), (disk_fault_line, refl, c.finish-in-Err-Read.ensures)))

pub returns-in-Err-Halted-clause-as_called : goal.returns-in-Err-Halted-clause-as_called
returns-in-Err-Halted-clause-as_called g c =
    inr (inr (_, (rw c.in-Err-Halted.field-0-is at c.in-Err-Halted.ensures.halted), (disk_fault_line, refl, c.finish-in-Err-Halted.ensures)))

pub returns-clause-as_called : goal.returns-clause-as_called
returns-clause-as_called g c =
    inr (inr (_, (rw c.in-Err-Disk.field-0-is at c.in-Err-Disk.ensures.halted), c.end_at_fault.ensures))

-- ---- the store may be opened on the disk again

pub returns-in-Ok-clause-again : goal.returns-in-Ok-clause-again
returns-in-Ok-clause-again g c s stands held =
    let made = rw c.in-Ok-Some.field-0-is at (c.in-Ok-Some.ensures.answers s stands) in
    let carried = c.execute_line.ensures.carries s stands held in (
      made.0.after,
      made.2,
      subst (λ (at : Option Exchange). HoldsState g.D.Watched IsStored (state_behind s at) (disk_of c.execute_line.new.replayer)) made.1
          (of_ok c.execute_line.result _ (ap is_ok c.in-Ok-Some.is) carried.answered),
    )

pub returns-in-Ok-Some-clause-again : goal.returns-in-Ok-Some-clause-again
returns-in-Ok-Some-clause-again g c s stands held = (c.execute_line.ensures.carries s stands held).tells

pub returns-in-Ok-None-clause-again : goal.returns-in-Ok-None-clause-again
returns-in-Ok-None-clause-again g c s stands held = (c.execute_line.ensures.carries s stands held).tells

pub returns-in-Err-NoMemory-clause-again : goal.returns-in-Err-NoMemory-clause-again
returns-in-Err-NoMemory-clause-again g c s stands held = (c.execute_line.ensures.carries s stands held).tells

pub returns-in-Err-Damaged-clause-again : goal.returns-in-Err-Damaged-clause-again
returns-in-Err-Damaged-clause-again g c s stands held = (c.execute_line.ensures.carries s stands held).tells

pub returns-in-Err-Read-clause-again : goal.returns-in-Err-Read-clause-again
returns-in-Err-Read-clause-again g c s stands held = (c.execute_line.ensures.carries s stands held).tells

pub returns-in-Err-Halted-clause-again : goal.returns-in-Err-Halted-clause-again
returns-in-Err-Halted-clause-again g c s stands held = (c.execute_line.ensures.carries s stands held).tells

pub returns-clause-again : goal.returns-clause-again
returns-clause-again g c s stands held = (c.execute_line.ensures.carries s stands held).tells
