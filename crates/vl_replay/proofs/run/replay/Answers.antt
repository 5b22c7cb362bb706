use Rattle.std.proofs.Common.{◌≡◌, ◌≢◌, ◌⊎◌, ⊎_elim, inl, inr, ℕ, ap, refl, subst, sym}
use Rattle.vl_disk.specs.Faults.{Rose}
use Rattle.vl_recover.specs.opening.Answers.{AnswersBy}
use Rattle.vl_recover.specs.opening.Results.{recovery_by}
use Rattle.vl_recover.specs.declared.fails.OpenError.{OpenError}
use Rattle.vl_script_model.specs.Durable.{Tells}
use Rattle.vl_script_model.specs.Endings.{CountsFaultsOf, TheDisk, culprit_of}
use Rattle.vl_script_model.specs.declared.ending.Ending.{Ending}
use Rattle.vl_script_model.specs.declared.ending.Ending.TheVariants.{DiskFault, ReaderFault, Stopped}
use Rattle.vl_script_model.specs.laws.Laws.{keeps_up_at_first}
use Rattle.vl_engine.specs.Opening.{IsFault}
use Rattle.vl_engine_laws.specs.Found.{IsDurable}
use Rattle.vl_script_model.specs.Reading.{streams}
use Rattle.vl_replay.specs.Served.{disk_of}
use Rattle.vl_script_model.specs.Runs.{script_of, outside}
use Rattle.vl_script_model.specs.Sequential.{State}
use Rattle.vl_script_model.specs.Start.{EndsAtTables, FailsAtTables}
use Rattle.vl_script_model.specs.Stored.{IsStopped, IsStored}
use Rattle.vl_engine_laws.specs.Shown.{Shown}
use Rattle.std.specs.Prelude.{IsTrue, Some, true, false}
use Rattle.vl_script_model.specs.laws.ShownDisk.{shown_stays, stored_exactly}
use Rattle.vl_replay.proofs.Runs.OpenedRuns.{again_openable, ends_opened, ends_refused, of_result, of_unopened}
use Rattle.vl_replay.proofs.Runs.OpenedRuns.{refused, refused_nothing, refused_as, refused_line, not_for_words}
use Rattle.vl_replay.proofs.Runs.OpenedRuns.{not_silent, out_of_memory, counts_sink, counts_source}
use Rattle.vl_replay.proofs.Runs.ReaderFaults.{by_either, disk_or_tables, left_as_before}
use Rattle.vl_replay.proofs.Runs.ReadingOn.{unopened_reads_nothing}
use Rattle.vl_replay.proofs.Runs.Refusals.{fault_for, fault_of, first_for, no_fault, opened_not_refused, refused_for, refused_or_first}
use Rattle.vl_replay_laws.specs.laws.Names.Halts.{less_sure}
use Rattle.vl_replay.proofs.run.replay.Goals as goal

pub returns-in-Ok-clause-runs : goal.returns-in-Ok-clause-runs
returns-in-Ok-clause-runs g c s input starts told =
    ends_opened g.D.Watched (record { only_now = g.met.D.Disk.only_now; counts_now = g.met.D.Disk.counts_now }) IsStored
    Shown IsStopped shown_stays stored_exactly
    (λ (t : State). IsTrue t.openable) (Tells g.D.Watched c.args.disk IsDurable) (script_of s 0 input)
    (outside g.S.Source g.K.Sink c.args.source.now c.args.sink.now c.args.disk)
    (outside g.S.Source g.K.Sink c.answer_lines.new.source c.answer_lines.new.sink c.answer_lines.result.disk)
    g.D.Reader.Reader.faults
    (outside g.S.Source g.K.Sink c.args.source.now c.args.sink.now (disk_of c.in-Ok.replayer))
    c.answer_lines.result.ending refl refl (c.in-Ok.ensures.cause.steady (λ by. by))
    (λ openable durable. c.in-Ok.ensures.holds s starts openable) (λ openable durable. c.in-Ok.ensures.through s starts durable)
    (c.answer_lines.ensures.runs s input (c.in-Ok.ensures.store s starts) told)

pub returns-in-Ok-clause-refused : goal.returns-in-Ok-clause-refused
returns-in-Ok-clause-refused g c refusal is = absurd (c.answer_lines.ensures.not_the_files refusal is)

pub returns-in-Ok-clause-refuses : goal.returns-in-Ok-clause-refuses
returns-in-Ok-clause-refuses g c state read refusal told is_read is_refused = absurd
    (not_err (c.in-Ok.ensures.refused state read refusal told is_read is_refused).0)
  where
    not_err : false ≡ true → ⊥
    not_err e = cc

pub returns-clause-runs : goal.returns-clause-runs
returns-clause-runs g c s input starts told =
    let ended = c.end_unopened-ending in
    let fail = c.in-Err.field-0 in
    let reason = fail.why in
    let how = ended.ensures.0 in
    let script = script_of s 0 input in
    let by_disk = Rose (g.D.Watched.faults c.args.disk) (g.D.Watched.faults fail.disk)
    ⊎ (FailsAtTables g.D.Watched g.D.Reader.Reader.faults c.args.disk fail.disk × (0 ≡ 0)) in
    let shown = by_either g.D.Watched g.D.Reader.Reader.faults c.args.disk fail.disk fail.reader reason
    c.in-Err.ensures.cause c.in-Err.ensures.unread c.in-Err.ensures.unmoved c.in-Err.ensures.steady in
    ends_refused g.D.Watched (record { only_now = g.met.D.Disk.only_now; counts_now = g.met.D.Disk.counts_now })
    IsStored Shown IsStopped shown_stays stored_exactly
    (λ (t : State). IsTrue t.openable) (Tells g.D.Watched c.args.disk IsDurable) script
    (outside g.S.Source g.K.Sink c.args.source.now c.args.sink.now c.args.disk)
    (outside g.S.Source g.K.Sink c.args.source.now ended.new.sink fail.disk)
    g.D.Reader.Reader.faults
    ended.result (refused_nothing g.K.Sink c.args.sink.now ended.new.sink how ended.result ended.ensures.2)
    (refused g.K.Sink c.args.sink.now ended.new.sink
    (Rose (g.S.Source.faults c.args.source.now) (g.S.Source.faults c.args.source.now)) by_disk script
    (g.S.Source.left c.args.source.now) how ended.result
    (λ refusal is. opened_not_refused starts.read starts.found starts.unused refusal
    (subst (λ (w : OpenError). AnswersBy starts.read (recovery_by w))
    (refused_for reason how refusal ended.ensures.1 is) (c.in-Err.ensures.answer starts.state starts.read starts.told starts.is_read)))
    (λ fault. ⊎_elim
    (λ (rose : Rose (g.D.Watched.faults c.args.disk) (g.D.Watched.faults fail.disk)). inl rose)
    (λ (tables : FailsAtTables g.D.Watched g.D.Reader.Reader.faults c.args.disk fail.disk). inr (tables, refl))
    (shown (fault_for reason how ended.ensures.1 fault))) ended.ensures.2)
    (keeps_up_at_first input (g.S.Source.asked c.args.source.now) (g.met.S.Source.since_asked c.args.source.now input told))
    (λ openable durable. c.in-Err.ensures.through s starts durable)
    (λ openable durable. let now = c.in-Err.ensures.tells durable.0 durable.1 in
    (now.0, now.1, c.in-Err.ensures.again durable.0 now.0 durable.1 durable.2.may_open now.1))
    (left_as_before g.D.Watched g.D.Reader.Reader.faults c.args.disk fail.disk fail.reader reason c.in-Err.ensures.cause
    c.in-Err.ensures.unread c.in-Err.ensures.unmoved c.in-Err.ensures.steady
    (λ none. c.in-Err.ensures.left_alone none refl))
    (λ out. c.in-Err.ensures.left_alone
    (λ fault. out_of_memory g.K.Sink c.args.sink.now ended.new.sink how ended.result ended.ensures.2 out
    (fault_of reason how ended.ensures.1 fault)) refl)
    (c.in-Err.ensures.at_most s starts)

pub returns-clause-source_faults : goal.returns-clause-source_faults
returns-clause-source_faults g c = counts_source g.K.Sink _ _ c.end_unopened-ending.ensures.0
    c.end_unopened-ending.result c.end_unopened-ending.ensures.2 _

pub returns-clause-sink_faults : goal.returns-clause-sink_faults
returns-clause-sink_faults g c = counts_sink g.K.Sink _ _ c.end_unopened-ending.ensures.0 c.end_unopened-ending.result
    c.end_unopened-ending.ensures.2

pub returns-clause-disk_faults : goal.returns-clause-disk_faults
returns-clause-disk_faults g c =
    let ended = c.end_unopened-ending in
    let fail = c.in-Err.field-0 in
    ⊎_elim
    (λ (counted : CountsFaultsOf TheDisk (Some ended.result) (g.D.Watched.faults c.args.disk) (g.D.Watched.faults fail.disk)). inl counted)
    (λ (tables : EndsAtTables g.D.Watched g.D.Reader.Reader.faults g.K.Sink c.args.disk fail.disk c.args.sink.now
    ended.new.sink ended.result). inr (tables, refl))
    (disk_or_tables g.D.Watched g.D.Reader.Reader.faults c.args.disk fail.disk fail.reader fail.why
    c.in-Err.ensures.cause c.in-Err.ensures.unread c.in-Err.ensures.unmoved c.in-Err.ensures.steady
    g.K.Sink c.args.sink.now ended.new.sink ended.ensures.0 ended.result ended.ensures.1 ended.ensures.2)

-- ---- which reader failed

pub returns-in-Ok-clause-reader_fault : goal.returns-in-Ok-clause-reader_fault
returns-in-Ok-clause-reader_fault g c s starts is =
    less_sure _ (c.in-Ok.ensures.unfailing s starts)
    (c.answer_lines.ensures.reader_fault s (c.in-Ok.ensures.store s starts) is)

pub returns-clause-reader_fault : goal.returns-clause-reader_fault
returns-clause-reader_fault g c s starts is =
    absurd (of_result g.K.Sink _ _ c.end_unopened-ending.ensures.0 c.end_unopened-ending.result c.end_unopened-ending.ensures.2
    (λ (e : Ending). e ≢ ReaderFault)
    (of_unopened (λ (e : Ending). e ≢ ReaderFault) (λ refusal e. cc) (λ e. cc) (λ e. cc) c.end_unopened-ending.ensures.0) (λ e. cc) is)

-- ---- what else is counted

pub returns-in-Ok-clause-disk_faults : goal.returns-in-Ok-clause-disk_faults
returns-in-Ok-clause-disk_faults g c =
    inl (subst (λ (n : ℕ). CountsFaultsOf TheDisk (Some c.answer_lines.result.ending) n (g.D.Watched.faults c.answer_lines.result.disk))
    (c.in-Ok.ensures.cause.steady (λ by. by)) c.answer_lines.ensures.disk_faults)

pub returns-clause-not_the_words : goal.returns-clause-not_the_words
returns-clause-not_the_words g c = not_for_words g.K.Sink _ _ c.end_unopened-ending.ensures.0
    c.end_unopened-ending.result c.end_unopened-ending.ensures.2

pub returns-clause-refused : goal.returns-clause-refused
returns-clause-refused g c refusal is =
    let ended = c.end_unopened-ending in
    let reason = c.in-Err.field-0.why in
    let how = ended.ensures.0 in
    let reason_is = refused_for reason how refusal ended.ensures.1
    (refused_as g.K.Sink c.args.sink.now ended.new.sink how ended.result ended.ensures.2 refusal is) in (
      record {
        given = λ state read told is_read. subst (λ (w : OpenError). AnswersBy read (recovery_by w)) reason_is
            (c.in-Err.ensures.answer state read told is_read);
        unchanged = c.in-Err.ensures.left_alone
            (λ fault. no_fault refusal (subst (λ (w : OpenError). IsFault (Some w)) reason_is fault)) refl;
        printed = refused_line g.K.Sink c.args.sink.now ended.new.sink how ended.result ended.ensures.2 refusal is;
      },
      refl,
    )

pub returns-clause-refuses : goal.returns-clause-refuses
returns-clause-refuses g c state read refusal told is_read is_refused =
    let ended = c.end_unopened-ending in
    let reason = c.in-Err.field-0.why in
    let how = ended.ensures.0 in (
      record {
        how = how;
        how_is = first_for reason how refusal ended.ensures.1
            (refused_or_first read refusal is_refused reason (c.in-Err.ensures.answer state read told is_read));
        printed = ended.ensures.2;
        unchanged = (c.in-Err.ensures.refused state read refusal told is_read is_refused).1;
      },
      refl,
    )

pub returns-in-Ok-clause-again : goal.returns-in-Ok-clause-again
returns-in-Ok-clause-again g c s starts may =
    let first : State = record s { openable = true } in
    let begins = again_openable g.D.Watched c.args.disk s starts may in
    c.answer_lines.ensures.again first (c.in-Ok.ensures.store first begins) (c.in-Ok.ensures.holds first begins refl)

pub returns-clause-again : goal.returns-clause-again
returns-clause-again g c s starts (state, is, may) =
    let now = c.in-Err.ensures.tells state is in
    (now.0, now.1, c.in-Err.ensures.again state now.0 is may now.1)

pub returns-clause-input : goal.returns-clause-input
returns-clause-input g c input told =
    let ended = c.end_unopened-ending in
    unopened_reads_nothing g.K.Sink c.args.sink.now ended.new.sink ended.ensures.0 ended.result ended.ensures.2 input
    (streams g.S.Source g.K.Sink c.args.source.now c.args.sink.now)
    (streams g.S.Source g.K.Sink c.args.source.now ended.new.sink) (λ taken. taken)
    (keeps_up_at_first input (g.S.Source.asked c.args.source.now) (g.met.S.Source.since_asked c.args.source.now input told))

-- ---- it says how it ended

pub returns-in-Ok-clause-reported : goal.returns-in-Ok-clause-reported
returns-in-Ok-clause-reported g c silent =
    not_both (sym silent) (some_ending _ _ (c.answer_lines.ensures.as_meant (ap (λ (e : Ending). Some (culprit_of e)) silent)))
  where
    some_ending : (a b : Ending) → Some a ≡ Some b → a ≡ b
    some_ending a b e = cc

    not_both : {e : Ending} → Stopped ≡ e → e ≡ DiskFault → ⊥
    not_both a b = cc

pub returns-clause-reported : goal.returns-clause-reported
returns-clause-reported g c = not_silent g.K.Sink _ _ c.end_unopened-ending.ensures.0 c.end_unopened-ending.result
    c.end_unopened-ending.ensures.2

-- ---- what its lines are answered, whatever the disk holds

pub returns-in-Ok-clause-called : goal.returns-in-Ok-clause-called
returns-in-Ok-clause-called g c = inl (c.in-Ok.ensures.answer, (c.in-Ok.replayer, c.answer_lines.ensures.called))

pub returns-clause-called : goal.returns-clause-called
returns-clause-called g c = inr (c.in-Err.field-0.why, c.in-Err.ensures.answer, c.end_unopened-ending.ensures)
