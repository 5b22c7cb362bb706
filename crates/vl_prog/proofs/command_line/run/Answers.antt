use Rattle.std.proofs.Common.{◌≡◌, ◌≢◌, ◌<◌, ◌≤◌, ⊎_elim, inl, inr, ℕ, Some, refl, sym, ap, subst, ◌∙◌, arith}
use Rattle.std.specs.Prelude.{map, string_bytes}
use Rattle.vl_mem.specs.declared.outcome.Outcome.{Outcome}
use Rattle.vl_engine_model.specs.Store.Commits.{AreProper}
use Rattle.vl_script_model.specs.Trial.{EndsTrial, TriesInTime, begun}
use Rattle.vl_script_model.specs.Trying.{trial_of}
use Rattle.vl_script.specs.declared.words.Command.TheVariants.{Bench, Drive, Ids, Replay, Trial}
use Rattle.vl_script.specs.Script.{lines_of}
use Rattle.vl_recover.specs.declared.fails.OpenError.TheVariants as unopened
use Rattle.vl_script_model.specs.Endings.{CountsFaultsOf, TheDisk, TheSource, TheSink, no_memory_line, status_of, usage_line}
use Rattle.vl_disk.specs.Faults.{Rose}
use Rattle.vl_disk.specs.declared.name.Name.{Name}
use Rattle.vl_script_model.specs.Failing.{ByReader}
use Rattle.vl_script_model.specs.Reading.{ReadsInput, streams}
use Rattle.vl_script_model.specs.Start.{EndsAtTables, all_explained, explained_from}
use Rattle.vl_script_model.specs.declared.ending.Ending.TheVariants.{Damaged, ReaderFault, Refused}
use Rattle.vl_script_model.specs.declared.fails.Refusal.{Refusal}
use Rattle.vl_script_model.specs.laws.Laws.{keeps_up_at_first}
use Rattle.vl_script_model.specs.laws.WordLaws.{disk_steady, rose_or_unread, source_status, sink_status, is_refused, is_bad_words}
use Rattle.vl_script_model.specs.laws.WordLaws.{rose_by, steady_by, refused_status, refused_rose, refused_steady}
use Rattle.vl_script_model.specs.declared.ending.Ending.{Ending}
use Rattle.vl_replay.specs.Benchmark.{PrintsSummary, summary_of}
use Rattle.vl_prog.specs.Counting.{PrintsCounted, TellsCounted}
use Rattle.vl_prog.specs.Driving.{PrintsDriven, TellsDriven}
use Rattle.vl_replay.proofs.Benchmarks.{bench_ends}
use Rattle.vl_prog.proofs.Asked.{is_asked, no_bench, no_bench_counted, no_bench_driven, no_bench_tried, no_drive, no_drive_benched}
use Rattle.vl_prog.proofs.Asked.{no_drive_counted, no_drive_tried, no_ids, no_ids_benched, no_ids_driven, no_ids_tried, no_replay}
use Rattle.vl_prog.proofs.Asked.{no_replay_counted, no_replay_driven, no_trial, no_trial_asked, no_trial_counted, no_trial_driven}
use Rattle.vl_prog.proofs.Asked.{none_asked, one_asked, other_asked, same_bench, same_drive, same_ids, same_trial}
use Rattle.vl_prog.proofs.NotBegun.{answers_nothing, reads_nothing, reported, tries_nothing}
use Rattle.vl_prog.proofs.Printed.{lines_end}
use Rattle.vl_prog.proofs.Ranges.{in_range}
use Rattle.vl_prog.proofs.command_line.run.Goals as goal

-- the store on an empty disk has no commits
empty_proper : AreProper begun.store.commits
empty_proper = record { numbers = tt; base = tt; commits = tt }

below : (n m : ℕ) → n < 6 → 6 ≤ m → n ≢ m
below n m less le e = omega arith

-- ---- a replay

pub returns-in-Some-Replay-clause-answers : goal.returns-in-Some-Replay-clause-answers
returns-in-Some-Replay-clause-answers g c
    plain = (c.replay-ending.result.ending, c.status-status-in-Some-Replay.ensures, c.replay-ending.ensures.reported, c.replay-ending.ensures.runs)

pub returns-in-Some-Replay-clause-drives : goal.returns-in-Some-Replay-clause-drives
returns-in-Some-Replay-clause-drives g c clients txns seed asked = absurd
    (no_drive clients txns seed
    (one_asked Replay (Drive clients txns seed) c.in-Ok.ensures.command
    (c.in-Some-Replay.is ∙ ap Some (rw c.in-Some-Replay.is at c.in-Some-Replay.field-0-is)) asked))

pub returns-in-Some-Replay-clause-counts : goal.returns-in-Some-Replay-clause-counts
returns-in-Some-Replay-clause-counts g c clients count lease asked = absurd
    (no_ids clients count lease
    (one_asked Replay (Ids clients count lease) c.in-Ok.ensures.command
    (c.in-Some-Replay.is ∙ ap Some (rw c.in-Some-Replay.is at c.in-Some-Replay.field-0-is)) asked))

pub returns-in-Some-Replay-clause-explained : goal.returns-in-Some-Replay-clause-explained
returns-in-Some-Replay-clause-explained g c s input starts = all_explained
    c.reads_without_conflict_stay_explained.ensures g.D.Watched c.args.disk s (lines_of input) starts

pub returns-in-Some-Replay-clause-explained_in_trial : goal.returns-in-Some-Replay-clause-explained_in_trial
returns-in-Some-Replay-clause-explained_in_trial g c input = explained_from
    c.reads_without_conflict_stay_explained.ensures begun (lines_of input) empty_proper refl

pub returns-in-Some-Replay-clause-no_usage_line : goal.returns-in-Some-Replay-clause-no_usage_line
returns-in-Some-Replay-clause-no_usage_line g c command plain two = c.replay-ending.ensures.not_the_words
    (is_bad_words c.replay-ending.result.ending (sym c.status-status-in-Some-Replay.ensures ∙ two))

pub returns-in-Some-Replay-clause-not_plain : goal.returns-in-Some-Replay-clause-not_plain
returns-in-Some-Replay-clause-not_plain g c other = absurd
    (is_asked Replay c.in-Ok.ensures.command (c.in-Some-Replay.is ∙ ap Some (rw c.in-Some-Replay.is at c.in-Some-Replay.field-0-is)) other)

pub returns-in-Some-Replay-clause-disk_fault : goal.returns-in-Some-Replay-clause-disk_fault
returns-in-Some-Replay-clause-disk_fault g c is =
    let ending = c.replay-ending.result.ending in
    let old = streams g.S.Source g.K.Sink c.args.source.now c.args.sink.now in
    let new = streams g.S.Source g.K.Sink c.replay-ending.new.source c.replay-ending.new.sink in
    let before = g.D.Watched.faults c.args.disk in
    let now = g.D.Watched.faults c.replay-ending.result.disk in
    ⊎_elim
    (λ (counts : CountsFaultsOf TheDisk (Some ending) before now). ⊎_elim
    (λ (rose : Rose before now). inl rose)
    (λ (unread : ending ≡ ReaderFault). inr
    (inl (λ input told. subst (ReadsInput input old new) unread (c.replay-ending.ensures.input input told))))
    (rose_or_unread ending before now counts (sym c.status-status-in-Some-Replay.ensures ∙ is)))
    (λ (tables : EndsAtTables g.D.Watched g.D.Reader.Reader.faults g.K.Sink c.args.disk c.replay-ending.result.disk
    c.args.sink.now c.replay-ending.new.sink ending
    × (c.replay-ending.new.source ≡ c.args.source.now)). inr (inr (tables.1, (ending, tables.0))))
    c.replay-ending.ensures.disk_faults

pub returns-in-Some-Replay-clause-reader_fault : goal.returns-in-Some-Replay-clause-reader_fault
returns-in-Some-Replay-clause-reader_fault g c s starts is =
    let ending = c.replay-ending.result.ending in
    let before = g.D.Watched.faults c.args.disk in
    let now = g.D.Watched.faults c.replay-ending.result.disk in
    ⊎_elim
    (λ (counts : CountsFaultsOf TheDisk (Some ending) before now). ⊎_elim
    (λ (rose : Rose before now). inl rose)
    (λ (unread : ending ≡ ReaderFault). inr (c.replay-ending.ensures.reader_fault s starts unread))
    (rose_or_unread ending before now counts (sym c.status-status-in-Some-Replay.ensures ∙ is)))
    (λ (tables : EndsAtTables g.D.Watched g.D.Reader.Reader.faults g.K.Sink c.args.disk c.replay-ending.result.disk
    c.args.sink.now c.replay-ending.new.sink ending
    × (c.replay-ending.new.source ≡ c.args.source.now)).
    inr (record {
      failed = record { reader = ByReader tables.0.0.reader.reader; some = tables.0.0.reader.some };
      not_so = tables.0.0.gives;
    }))
    c.replay-ending.ensures.disk_faults

pub returns-in-Some-Replay-clause-no_disk_fault : goal.returns-in-Some-Replay-clause-no_disk_fault
returns-in-Some-Replay-clause-no_disk_fault g c other whole =
    let ending = c.replay-ending.result.ending in
    let before = g.D.Watched.faults c.args.disk in
    let now = g.D.Watched.faults c.replay-ending.result.disk in
    ⊎_elim
    (λ (counts : CountsFaultsOf TheDisk (Some ending) before now).
    disk_steady ending before now counts (λ e. other (c.status-status-in-Some-Replay.ensures ∙ e)) (λ e. whole (c.status-status-in-Some-Replay.ensures ∙ e)))
    (λ (tables : EndsAtTables g.D.Watched g.D.Reader.Reader.faults g.K.Sink c.args.disk c.replay-ending.result.disk
    c.args.sink.now c.replay-ending.new.sink ending
    × (c.replay-ending.new.source ≡ c.args.source.now)). tables.0.0.steady)
    c.replay-ending.ensures.disk_faults

pub returns-in-Some-Replay-clause-refused : goal.returns-in-Some-Replay-clause-refused
returns-in-Some-Replay-clause-refused g c plain is =
    let ending = c.replay-ending.result.ending in
    let old = streams g.S.Source g.K.Sink c.args.source.now c.args.sink.now in
    let new = streams g.S.Source g.K.Sink c.replay-ending.new.source c.replay-ending.new.sink in
    ⊎_elim
    (λ (by : (refusal : Refusal) × (ending ≡ Refused refusal)). let refused = c.replay-ending.ensures.refused by.0 by.1
    in inl ((by.0, refused.0), refused.1))
    (λ (by : (name : Name) × (place : ℕ) × (ending ≡ Damaged name place)).
    inr (by.0, by.1, λ input told. subst (ReadsInput input old new) by.2 (c.replay-ending.ensures.input input told)))
    (is_refused ending (sym c.status-status-in-Some-Replay.ensures ∙ is))

pub returns-in-Some-Replay-clause-refuses : goal.returns-in-Some-Replay-clause-refuses
returns-in-Some-Replay-clause-refuses g c plain state read refusal told is_read is_refused =
    let stays = c.replay-ending.ensures.refuses state read refusal told is_read is_refused in
    ((c.replay-ending.result.ending, c.status-status-in-Some-Replay.ensures, stays.0), stays.1)

pub returns-in-Some-Replay-clause-read_fault : goal.returns-in-Some-Replay-clause-read_fault
returns-in-Some-Replay-clause-read_fault g c is =
    let six = sym c.status-status-in-Some-Replay.ensures ∙ is in (
      rose_by TheSource 6 source_status c.replay-ending.result.ending _ _ c.replay-ending.ensures.source_faults six,
      steady_by TheSink 7 sink_status c.replay-ending.result.ending _ _ c.replay-ending.ensures.sink_faults
          (λ e. apart (sym six ∙ e)) (λ e. apart (sym six ∙ e)),
    )
  where
    apart : ◌≡◌ {A = ℕ} 6 7 → ⊥
    apart e = omega arith

pub returns-in-Some-Replay-clause-write_fault : goal.returns-in-Some-Replay-clause-write_fault
returns-in-Some-Replay-clause-write_fault g c is = rose_by TheSink 7 sink_status c.replay-ending.result.ending _ _
    c.replay-ending.ensures.sink_faults (sym c.status-status-in-Some-Replay.ensures ∙ is)

pub returns-in-Some-Replay-clause-no_stream_fault : goal.returns-in-Some-Replay-clause-no_stream_fault
returns-in-Some-Replay-clause-no_stream_fault g c less =
    let ending = c.replay-ending.result.ending in
    let small : status_of ending < 6 = subst (λ (n : ℕ). n < 6) c.status-status-in-Some-Replay.ensures less in (
      steady_by TheSource 6 source_status ending _ _ c.replay-ending.ensures.source_faults
          (below (status_of ending) 6 small (omega arith)) (below (status_of ending) 7 small (omega arith)),
      steady_by TheSink 7 sink_status ending _ _ c.replay-ending.ensures.sink_faults
          (below (status_of ending) 7 small (omega arith)) (below (status_of ending) 7 small (omega arith)),
    )

pub returns-in-Some-Replay-clause-input : goal.returns-in-Some-Replay-clause-input
returns-in-Some-Replay-clause-input g c plain input
    told = (c.replay-ending.result.ending, c.status-status-in-Some-Replay.ensures, c.replay-ending.ensures.input input told)

pub returns-in-Some-Replay-clause-called : goal.returns-in-Some-Replay-clause-called
returns-in-Some-Replay-clause-called g c plain =
    (c.replay-ending.result.ending, c.status-status-in-Some-Replay.ensures, c.replay-ending.ensures.called)

pub returns-in-Some-Replay-clause-tries : goal.returns-in-Some-Replay-clause-tries
returns-in-Some-Replay-clause-tries g c stop outcome input asked = absurd
    (no_trial stop outcome c.in-Ok.ensures.command (c.in-Some-Replay.is ∙ ap Some (rw c.in-Some-Replay.is at c.in-Some-Replay.field-0-is)) asked)

pub returns-in-Some-Replay-clause-tries_in_time : goal.returns-in-Some-Replay-clause-tries_in_time
returns-in-Some-Replay-clause-tries_in_time g c stop outcome input asked = absurd
    (no_trial stop outcome c.in-Ok.ensures.command (c.in-Some-Replay.is ∙ ap Some (rw c.in-Some-Replay.is at c.in-Some-Replay.field-0-is)) asked)

pub returns-in-Some-Replay-clause-untouched : goal.returns-in-Some-Replay-clause-untouched
returns-in-Some-Replay-clause-untouched g c stop outcome asked = absurd
    (no_trial stop outcome c.in-Ok.ensures.command (c.in-Some-Replay.is ∙ ap Some (rw c.in-Some-Replay.is at c.in-Some-Replay.field-0-is)) asked)

pub returns-in-Some-Replay-clause-no_fault_in_trial : goal.returns-in-Some-Replay-clause-no_fault_in_trial
returns-in-Some-Replay-clause-no_fault_in_trial g c stop outcome asked = absurd
    (no_trial stop outcome c.in-Ok.ensures.command (c.in-Some-Replay.is ∙ ap Some (rw c.in-Some-Replay.is at c.in-Some-Replay.field-0-is)) asked)

pub returns-in-Some-Replay-clause-benches : goal.returns-in-Some-Replay-clause-benches
returns-in-Some-Replay-clause-benches g c seed count asked = absurd
    (no_bench seed count
    (one_asked Replay (Bench seed count) c.in-Ok.ensures.command (c.in-Some-Replay.is ∙ ap Some (rw c.in-Some-Replay.is at c.in-Some-Replay.field-0-is)) asked))

pub returns-in-Some-Replay-clause-again : goal.returns-in-Some-Replay-clause-again
returns-in-Some-Replay-clause-again g c s starts = c.replay-ending.ensures.again s starts

-- ---- words that aren't plain

pub returns-in-None-clause-answers : goal.returns-in-None-clause-answers
returns-in-None-clause-answers g c plain = absurd (none_asked Replay c.in-Ok.ensures.command c.in-None.is plain)

pub returns-in-None-clause-explained : goal.returns-in-None-clause-explained
returns-in-None-clause-explained g c s input starts = all_explained c.reads_without_conflict_stay_explained.ensures
    g.D.Watched c.args.disk s (lines_of input) starts

pub returns-in-None-clause-explained_in_trial : goal.returns-in-None-clause-explained_in_trial
returns-in-None-clause-explained_in_trial g c input = explained_from c.reads_without_conflict_stay_explained.ensures
    begun (lines_of input) empty_proper refl

pub returns-in-None-clause-no_usage_line : goal.returns-in-None-clause-no_usage_line
returns-in-None-clause-no_usage_line g c command plain = absurd (none_asked command c.in-Ok.ensures.command c.in-None.is plain)

pub returns-in-None-clause-not_plain : goal.returns-in-None-clause-not_plain
returns-in-None-clause-not_plain g c
    other = (refl, refl, (c.finish-in-None.result, c.status-status-in-None.ensures, (usage_line, refl, c.finish-in-None.ensures)))

pub returns-in-None-clause-disk_fault : goal.returns-in-None-clause-disk_fault
returns-in-None-clause-disk_fault g c is = absurd
    (refused_status g.K.Sink _ _ _ c.finish-in-None.result c.finish-in-None.ensures 3 (λ e. omega arith) (λ e. omega arith)
    (sym c.status-status-in-None.ensures ∙ is))

pub returns-in-None-clause-reader_fault : goal.returns-in-None-clause-reader_fault
returns-in-None-clause-reader_fault g c s starts is = absurd
    (refused_status g.K.Sink _ _ _ c.finish-in-None.result c.finish-in-None.ensures 3 (λ e. omega arith) (λ e. omega arith)
    (sym c.status-status-in-None.ensures ∙ is))

pub returns-in-None-clause-refused : goal.returns-in-None-clause-refused
returns-in-None-clause-refused g c plain is = absurd
    (refused_status g.K.Sink _ _ _ c.finish-in-None.result c.finish-in-None.ensures 4 (λ e. omega arith) (λ e. omega arith)
    (sym c.status-status-in-None.ensures ∙ is))

pub returns-in-None-clause-refuses : goal.returns-in-None-clause-refuses
returns-in-None-clause-refuses g c plain = absurd (none_asked Replay c.in-Ok.ensures.command c.in-None.is plain)

pub returns-in-None-clause-read_fault : goal.returns-in-None-clause-read_fault
returns-in-None-clause-read_fault g c is = absurd
    (refused_status g.K.Sink _ _ _ c.finish-in-None.result c.finish-in-None.ensures 6 (λ e. omega arith) (λ e. omega arith)
    (sym c.status-status-in-None.ensures ∙ is))

pub returns-in-None-clause-write_fault : goal.returns-in-None-clause-write_fault
returns-in-None-clause-write_fault g c is = refused_rose g.K.Sink _ _ _ c.finish-in-None.result c.finish-in-None.ensures
    (sym c.status-status-in-None.ensures ∙ is)

pub returns-in-None-clause-no_stream_fault : goal.returns-in-None-clause-no_stream_fault
returns-in-None-clause-no_stream_fault g c
    less = (
      refl,
      refused_steady g.K.Sink _ _ _ c.finish-in-None.result c.finish-in-None.ensures
          (subst (λ (n : ℕ). n < 6) c.status-status-in-None.ensures less),
    )

pub returns-in-None-clause-again : goal.returns-in-None-clause-again
returns-in-None-clause-again g c s starts may = may

pub returns-in-None-clause-input : goal.returns-in-None-clause-input
returns-in-None-clause-input g c plain = absurd (none_asked Replay c.in-Ok.ensures.command c.in-None.is plain)

pub returns-in-None-clause-called : goal.returns-in-None-clause-called
returns-in-None-clause-called g c plain = absurd (none_asked Replay c.in-Ok.ensures.command c.in-None.is plain)

pub returns-in-None-clause-tries : goal.returns-in-None-clause-tries
returns-in-None-clause-tries g c stop outcome input asked = absurd (none_asked (Trial stop outcome) c.in-Ok.ensures.command c.in-None.is asked)

pub returns-in-None-clause-tries_in_time : goal.returns-in-None-clause-tries_in_time
returns-in-None-clause-tries_in_time g c stop outcome input asked = absurd (none_asked (Trial stop outcome) c.in-Ok.ensures.command c.in-None.is asked)

pub returns-in-None-clause-benches : goal.returns-in-None-clause-benches
returns-in-None-clause-benches g c seed count asked = absurd (none_asked (Bench seed count) c.in-Ok.ensures.command c.in-None.is asked)

pub returns-in-None-clause-untouched : goal.returns-in-None-clause-untouched
returns-in-None-clause-untouched g c stop outcome asked = refl

pub returns-in-None-clause-no_fault_in_trial : goal.returns-in-None-clause-no_fault_in_trial
returns-in-None-clause-no_fault_in_trial g c stop outcome asked = absurd
    (none_asked (Trial stop outcome) c.in-Ok.ensures.command c.in-None.is asked)

-- ---- a trial

pub returns-in-Some-Trial-clause-answers : goal.returns-in-Some-Trial-clause-answers
returns-in-Some-Trial-clause-answers g c asked = absurd
    (other_asked c.in-Some-Trial.stop c.in-Some-Trial.outcome c.in-Ok.ensures.command
    (c.in-Some-Trial.is ∙ ap Some (rw c.in-Some-Trial.is at c.in-Some-Trial.field-0-is)) asked)

pub returns-in-Some-Trial-clause-tries : goal.returns-in-Some-Trial-clause-tries
returns-in-Some-Trial-clause-tries g c stop outcome input asked told =
    let same = same_trial stop c.in-Some-Trial.stop outcome c.in-Some-Trial.outcome c.in-Ok.ensures.command
    (c.in-Some-Trial.is ∙ ap Some (rw c.in-Some-Trial.is at c.in-Some-Trial.field-0-is)) asked in (
      c.trial.result,
      c.status-status-in-Some-Trial.ensures,
      subst (λ (n : ℕ). EndsTrial (trial_of n input outcome) (g.K.Sink.held c.args.sink.now)
          (g.K.Sink.held c.trial.new.sink) (g.S.Source.left c.trial.new.source) c.trial.result) same.0
          (subst (λ (o : Outcome). EndsTrial (trial_of c.in-Some-Trial.stop input o) (g.K.Sink.held c.args.sink.now)
          (g.K.Sink.held c.trial.new.sink) (g.S.Source.left c.trial.new.source) c.trial.result) same.1
          (c.trial.ensures.ends input told)),
    )

pub returns-in-Some-Trial-clause-tries_in_time : goal.returns-in-Some-Trial-clause-tries_in_time
returns-in-Some-Trial-clause-tries_in_time g c stop outcome input asked told =
    let same = same_trial stop c.in-Some-Trial.stop outcome c.in-Some-Trial.outcome c.in-Ok.ensures.command
    (c.in-Some-Trial.is ∙ ap Some (rw c.in-Some-Trial.is at c.in-Some-Trial.field-0-is)) asked in
    subst (λ (n : ℕ). TriesInTime (trial_of n input outcome) (g.K.Sink.held c.args.sink.now)
    (g.K.Sink.held c.trial.new.sink) (g.S.Source.asked c.trial.new.source)) same.0
    (subst (λ (o : Outcome). TriesInTime (trial_of c.in-Some-Trial.stop input o) (g.K.Sink.held c.args.sink.now)
    (g.K.Sink.held c.trial.new.sink) (g.S.Source.asked c.trial.new.source)) same.1 (c.trial.ensures.in_time input told))

pub returns-in-Some-Trial-clause-benches : goal.returns-in-Some-Trial-clause-benches
returns-in-Some-Trial-clause-benches g c seed count asked = absurd
    (no_bench_tried c.in-Some-Trial.stop seed count c.in-Some-Trial.outcome
    (one_asked (Trial c.in-Some-Trial.stop c.in-Some-Trial.outcome) (Bench seed count) c.in-Ok.ensures.command
    (c.in-Some-Trial.is ∙ ap Some (rw c.in-Some-Trial.is at c.in-Some-Trial.field-0-is)) asked))

pub returns-in-Some-Trial-clause-drives : goal.returns-in-Some-Trial-clause-drives
returns-in-Some-Trial-clause-drives g c clients txns seed asked = absurd
    (no_drive_tried c.in-Some-Trial.stop clients txns seed c.in-Some-Trial.outcome
    (one_asked (Trial c.in-Some-Trial.stop c.in-Some-Trial.outcome) (Drive clients txns seed) c.in-Ok.ensures.command
    (c.in-Some-Trial.is ∙ ap Some (rw c.in-Some-Trial.is at c.in-Some-Trial.field-0-is)) asked))

pub returns-in-Some-Trial-clause-counts : goal.returns-in-Some-Trial-clause-counts
returns-in-Some-Trial-clause-counts g c clients count lease asked = absurd
    (no_ids_tried c.in-Some-Trial.stop clients count lease c.in-Some-Trial.outcome
    (one_asked (Trial c.in-Some-Trial.stop c.in-Some-Trial.outcome) (Ids clients count lease) c.in-Ok.ensures.command
    (c.in-Some-Trial.is ∙ ap Some (rw c.in-Some-Trial.is at c.in-Some-Trial.field-0-is)) asked))

pub returns-in-Some-Trial-clause-explained : goal.returns-in-Some-Trial-clause-explained
returns-in-Some-Trial-clause-explained g c s input starts = all_explained
    c.reads_without_conflict_stay_explained.ensures g.D.Watched c.args.disk s (lines_of input) starts

pub returns-in-Some-Trial-clause-explained_in_trial : goal.returns-in-Some-Trial-clause-explained_in_trial
returns-in-Some-Trial-clause-explained_in_trial g c input = explained_from
    c.reads_without_conflict_stay_explained.ensures begun (lines_of input) empty_proper refl

pub returns-in-Some-Trial-clause-no_usage_line : goal.returns-in-Some-Trial-clause-no_usage_line
returns-in-Some-Trial-clause-no_usage_line g c command plain two = c.trial.ensures.not_the_words
    (is_bad_words c.trial.result (sym c.status-status-in-Some-Trial.ensures ∙ two))

pub returns-in-Some-Trial-clause-not_plain : goal.returns-in-Some-Trial-clause-not_plain
returns-in-Some-Trial-clause-not_plain g c other = absurd
    (is_asked (Trial c.in-Some-Trial.stop c.in-Some-Trial.outcome) c.in-Ok.ensures.command
    (c.in-Some-Trial.is ∙ ap Some (rw c.in-Some-Trial.is at c.in-Some-Trial.field-0-is)) other)

pub returns-in-Some-Trial-clause-untouched : goal.returns-in-Some-Trial-clause-untouched
returns-in-Some-Trial-clause-untouched g c stop outcome asked = refl

pub returns-in-Some-Trial-clause-no_fault_in_trial : goal.returns-in-Some-Trial-clause-no_fault_in_trial
returns-in-Some-Trial-clause-no_fault_in_trial g c stop outcome asked is = c.trial.ensures.no_disk_fault
    (sym c.status-status-in-Some-Trial.ensures ∙ is)

pub returns-in-Some-Trial-clause-disk_fault : goal.returns-in-Some-Trial-clause-disk_fault
returns-in-Some-Trial-clause-disk_fault g c is = absurd (c.trial.ensures.no_disk_fault (sym c.status-status-in-Some-Trial.ensures ∙ is))

pub returns-in-Some-Trial-clause-reader_fault : goal.returns-in-Some-Trial-clause-reader_fault
returns-in-Some-Trial-clause-reader_fault g c s starts is = absurd
    (c.trial.ensures.no_disk_fault (sym c.status-status-in-Some-Trial.ensures ∙ is))

pub returns-in-Some-Trial-clause-no_disk_fault : goal.returns-in-Some-Trial-clause-no_disk_fault
returns-in-Some-Trial-clause-no_disk_fault g c other whole = refl

pub returns-in-Some-Trial-clause-refused : goal.returns-in-Some-Trial-clause-refused
returns-in-Some-Trial-clause-refused g c asked is = absurd
    (other_asked c.in-Some-Trial.stop c.in-Some-Trial.outcome c.in-Ok.ensures.command
    (c.in-Some-Trial.is ∙ ap Some (rw c.in-Some-Trial.is at c.in-Some-Trial.field-0-is)) asked)

pub returns-in-Some-Trial-clause-refuses : goal.returns-in-Some-Trial-clause-refuses
returns-in-Some-Trial-clause-refuses g c asked = absurd
    (other_asked c.in-Some-Trial.stop c.in-Some-Trial.outcome c.in-Ok.ensures.command
    (c.in-Some-Trial.is ∙ ap Some (rw c.in-Some-Trial.is at c.in-Some-Trial.field-0-is)) asked)

pub returns-in-Some-Trial-clause-read_fault : goal.returns-in-Some-Trial-clause-read_fault
returns-in-Some-Trial-clause-read_fault g c is =
    let six = sym c.status-status-in-Some-Trial.ensures ∙ is in (
      rose_by TheSource 6 source_status c.trial.result _ _ c.trial.ensures.source_faults six,
      steady_by TheSink 7 sink_status c.trial.result _ _ c.trial.ensures.sink_faults (λ e. apart (sym six ∙ e)) (λ e. apart (sym six ∙ e)),
    )
  where
    apart : ◌≡◌ {A = ℕ} 6 7 → ⊥
    apart e = omega arith

pub returns-in-Some-Trial-clause-write_fault : goal.returns-in-Some-Trial-clause-write_fault
returns-in-Some-Trial-clause-write_fault g c is = rose_by TheSink 7 sink_status c.trial.result _ _
    c.trial.ensures.sink_faults (sym c.status-status-in-Some-Trial.ensures ∙ is)

pub returns-in-Some-Trial-clause-no_stream_fault : goal.returns-in-Some-Trial-clause-no_stream_fault
returns-in-Some-Trial-clause-no_stream_fault g c less =
    let ending = c.trial.result in
    let small : status_of ending < 6 = subst (λ (n : ℕ). n < 6) c.status-status-in-Some-Trial.ensures less in (
      steady_by TheSource 6 source_status ending _ _ c.trial.ensures.source_faults
          (below (status_of ending) 6 small (omega arith)) (below (status_of ending) 7 small (omega arith)),
      steady_by TheSink 7 sink_status ending _ _ c.trial.ensures.sink_faults
          (below (status_of ending) 7 small (omega arith)) (below (status_of ending) 7 small (omega arith)),
    )

pub returns-in-Some-Trial-clause-again : goal.returns-in-Some-Trial-clause-again
returns-in-Some-Trial-clause-again g c s starts may = may

pub returns-in-Some-Trial-clause-input : goal.returns-in-Some-Trial-clause-input
returns-in-Some-Trial-clause-input g c asked = absurd
    (other_asked c.in-Some-Trial.stop c.in-Some-Trial.outcome c.in-Ok.ensures.command
    (c.in-Some-Trial.is ∙ ap Some (rw c.in-Some-Trial.is at c.in-Some-Trial.field-0-is)) asked)

pub returns-in-Some-Trial-clause-called : goal.returns-in-Some-Trial-clause-called
returns-in-Some-Trial-clause-called g c asked = absurd
    (other_asked c.in-Some-Trial.stop c.in-Some-Trial.outcome c.in-Ok.ensures.command
    (c.in-Some-Trial.is ∙ ap Some (rw c.in-Some-Trial.is at c.in-Some-Trial.field-0-is)) asked)

-- ---- a benchmark

pub returns-in-Some-Bench-clause-benches : goal.returns-in-Some-Bench-clause-benches
returns-in-Some-Bench-clause-benches g c seed count asked =
    let same = same_bench c.in-Some-Bench.seed c.in-Some-Bench.count seed count
    (one_asked (Bench c.in-Some-Bench.seed c.in-Some-Bench.count) (Bench seed count) c.in-Ok.ensures.command
    (c.in-Some-Bench.is ∙ ap Some (rw c.in-Some-Bench.is at c.in-Some-Bench.field-0-is)) asked) in (
      refl,
      refl,
      (
        c.bench.result,
        c.status-status-in-Some-Bench.ensures,
        subst (λ (n : ℕ). PrintsSummary g.K.Sink (summary_of n count) c.args.sink.now c.bench.new.sink c.bench.result) same.0
            (subst (λ (n : ℕ). PrintsSummary g.K.Sink (summary_of c.in-Some-Bench.seed n) c.args.sink.now c.bench.new.sink
            c.bench.result) same.1 c.bench.ensures.prints),
      ),
    )

pub returns-in-Some-Bench-clause-drives : goal.returns-in-Some-Bench-clause-drives
returns-in-Some-Bench-clause-drives g c clients txns seed asked = absurd
    (no_drive_benched c.in-Some-Bench.seed c.in-Some-Bench.count clients txns seed
    (one_asked (Bench c.in-Some-Bench.seed c.in-Some-Bench.count) (Drive clients txns seed) c.in-Ok.ensures.command
    (c.in-Some-Bench.is ∙ ap Some (rw c.in-Some-Bench.is at c.in-Some-Bench.field-0-is)) asked))

pub returns-in-Some-Bench-clause-counts : goal.returns-in-Some-Bench-clause-counts
returns-in-Some-Bench-clause-counts g c clients count lease asked = absurd
    (no_ids_benched c.in-Some-Bench.seed c.in-Some-Bench.count clients count lease
    (one_asked (Bench c.in-Some-Bench.seed c.in-Some-Bench.count) (Ids clients count lease) c.in-Ok.ensures.command
    (c.in-Some-Bench.is ∙ ap Some (rw c.in-Some-Bench.is at c.in-Some-Bench.field-0-is)) asked))

pub returns-in-Some-Bench-clause-answers : goal.returns-in-Some-Bench-clause-answers
returns-in-Some-Bench-clause-answers g c asked = absurd
    (no_replay c.in-Some-Bench.seed c.in-Some-Bench.count
    (one_asked (Bench c.in-Some-Bench.seed c.in-Some-Bench.count) Replay c.in-Ok.ensures.command
    (c.in-Some-Bench.is ∙ ap Some (rw c.in-Some-Bench.is at c.in-Some-Bench.field-0-is)) asked))

pub returns-in-Some-Bench-clause-tries : goal.returns-in-Some-Bench-clause-tries
returns-in-Some-Bench-clause-tries g c stop outcome input asked = absurd
    (no_trial_asked c.in-Some-Bench.seed c.in-Some-Bench.count stop outcome
    (one_asked (Bench c.in-Some-Bench.seed c.in-Some-Bench.count) (Trial stop outcome) c.in-Ok.ensures.command
    (c.in-Some-Bench.is ∙ ap Some (rw c.in-Some-Bench.is at c.in-Some-Bench.field-0-is)) asked))

pub returns-in-Some-Bench-clause-tries_in_time : goal.returns-in-Some-Bench-clause-tries_in_time
returns-in-Some-Bench-clause-tries_in_time g c stop outcome input asked = absurd
    (no_trial_asked c.in-Some-Bench.seed c.in-Some-Bench.count stop outcome
    (one_asked (Bench c.in-Some-Bench.seed c.in-Some-Bench.count) (Trial stop outcome) c.in-Ok.ensures.command
    (c.in-Some-Bench.is ∙ ap Some (rw c.in-Some-Bench.is at c.in-Some-Bench.field-0-is)) asked))

pub returns-in-Some-Bench-clause-explained : goal.returns-in-Some-Bench-clause-explained
returns-in-Some-Bench-clause-explained g c s input starts = all_explained c.reads_without_conflict_stay_explained.ensures
    g.D.Watched c.args.disk s (lines_of input) starts

pub returns-in-Some-Bench-clause-explained_in_trial : goal.returns-in-Some-Bench-clause-explained_in_trial
returns-in-Some-Bench-clause-explained_in_trial g c input = explained_from c.reads_without_conflict_stay_explained.ensures
    begun (lines_of input) empty_proper refl

pub returns-in-Some-Bench-clause-no_usage_line : goal.returns-in-Some-Bench-clause-no_usage_line
returns-in-Some-Bench-clause-no_usage_line g c command plain is = absurd
    (bench_ends g.K.Sink _ _ _ c.bench.result (λ (e : Ending). status_of e ≢ 2) c.bench.ensures.prints (λ e. omega arith) (λ e. omega arith)
    (λ e. omega arith) (sym c.status-status-in-Some-Bench.ensures ∙ is))

pub returns-in-Some-Bench-clause-not_plain : goal.returns-in-Some-Bench-clause-not_plain
returns-in-Some-Bench-clause-not_plain g c other = absurd
    (is_asked (Bench c.in-Some-Bench.seed c.in-Some-Bench.count) c.in-Ok.ensures.command
    (c.in-Some-Bench.is ∙ ap Some (rw c.in-Some-Bench.is at c.in-Some-Bench.field-0-is)) other)

pub returns-in-Some-Bench-clause-untouched : goal.returns-in-Some-Bench-clause-untouched
returns-in-Some-Bench-clause-untouched g c stop outcome asked = refl

pub returns-in-Some-Bench-clause-no_fault_in_trial : goal.returns-in-Some-Bench-clause-no_fault_in_trial
returns-in-Some-Bench-clause-no_fault_in_trial g c stop outcome asked = absurd
    (no_trial_asked c.in-Some-Bench.seed c.in-Some-Bench.count stop outcome
    (one_asked (Bench c.in-Some-Bench.seed c.in-Some-Bench.count) (Trial stop outcome) c.in-Ok.ensures.command
    (c.in-Some-Bench.is ∙ ap Some (rw c.in-Some-Bench.is at c.in-Some-Bench.field-0-is)) asked))

pub returns-in-Some-Bench-clause-disk_fault : goal.returns-in-Some-Bench-clause-disk_fault
returns-in-Some-Bench-clause-disk_fault g c is = absurd
    (bench_ends g.K.Sink _ _ _ c.bench.result (λ (e : Ending). status_of e ≢ 3) c.bench.ensures.prints (λ e. omega arith) (λ e. omega arith)
    (λ e. omega arith) (sym c.status-status-in-Some-Bench.ensures ∙ is))

pub returns-in-Some-Bench-clause-reader_fault : goal.returns-in-Some-Bench-clause-reader_fault
returns-in-Some-Bench-clause-reader_fault g c s starts is = absurd
    (bench_ends g.K.Sink _ _ _ c.bench.result (λ (e : Ending). status_of e ≢ 3) c.bench.ensures.prints (λ e. omega arith) (λ e. omega arith)
    (λ e. omega arith) (sym c.status-status-in-Some-Bench.ensures ∙ is))

pub returns-in-Some-Bench-clause-no_disk_fault : goal.returns-in-Some-Bench-clause-no_disk_fault
returns-in-Some-Bench-clause-no_disk_fault g c other whole = refl

pub returns-in-Some-Bench-clause-refused : goal.returns-in-Some-Bench-clause-refused
returns-in-Some-Bench-clause-refused g c asked is = absurd
    (no_replay c.in-Some-Bench.seed c.in-Some-Bench.count
    (one_asked (Bench c.in-Some-Bench.seed c.in-Some-Bench.count) Replay c.in-Ok.ensures.command
    (c.in-Some-Bench.is ∙ ap Some (rw c.in-Some-Bench.is at c.in-Some-Bench.field-0-is)) asked))

pub returns-in-Some-Bench-clause-refuses : goal.returns-in-Some-Bench-clause-refuses
returns-in-Some-Bench-clause-refuses g c asked = absurd
    (no_replay c.in-Some-Bench.seed c.in-Some-Bench.count
    (one_asked (Bench c.in-Some-Bench.seed c.in-Some-Bench.count) Replay c.in-Ok.ensures.command
    (c.in-Some-Bench.is ∙ ap Some (rw c.in-Some-Bench.is at c.in-Some-Bench.field-0-is)) asked))

pub returns-in-Some-Bench-clause-read_fault : goal.returns-in-Some-Bench-clause-read_fault
returns-in-Some-Bench-clause-read_fault g c is = absurd
    (bench_ends g.K.Sink _ _ _ c.bench.result (λ (e : Ending). status_of e ≢ 6) c.bench.ensures.prints (λ e. omega arith) (λ e. omega arith)
    (λ e. omega arith) (sym c.status-status-in-Some-Bench.ensures ∙ is))

pub returns-in-Some-Bench-clause-write_fault : goal.returns-in-Some-Bench-clause-write_fault
returns-in-Some-Bench-clause-write_fault g c is = rose_by TheSink 7 sink_status c.bench.result _ _
    c.bench.ensures.sink_faults (sym c.status-status-in-Some-Bench.ensures ∙ is)

pub returns-in-Some-Bench-clause-no_stream_fault : goal.returns-in-Some-Bench-clause-no_stream_fault
returns-in-Some-Bench-clause-no_stream_fault g c less =
    let ending = c.bench.result in
    let small : status_of ending < 6 = subst (λ (n : ℕ). n < 6) c.status-status-in-Some-Bench.ensures less in (
      refl,
      steady_by TheSink 7 sink_status ending _ _ c.bench.ensures.sink_faults
          (below (status_of ending) 7 small (omega arith)) (below (status_of ending) 7 small (omega arith)),
    )

pub returns-in-Some-Bench-clause-again : goal.returns-in-Some-Bench-clause-again
returns-in-Some-Bench-clause-again g c s starts may = may

pub returns-in-Some-Bench-clause-input : goal.returns-in-Some-Bench-clause-input
returns-in-Some-Bench-clause-input g c asked = absurd
    (no_replay c.in-Some-Bench.seed c.in-Some-Bench.count
    (one_asked (Bench c.in-Some-Bench.seed c.in-Some-Bench.count) Replay c.in-Ok.ensures.command
    (c.in-Some-Bench.is ∙ ap Some (rw c.in-Some-Bench.is at c.in-Some-Bench.field-0-is)) asked))

pub returns-in-Some-Bench-clause-called : goal.returns-in-Some-Bench-clause-called
returns-in-Some-Bench-clause-called g c asked = absurd
    (no_replay c.in-Some-Bench.seed c.in-Some-Bench.count
    (one_asked (Bench c.in-Some-Bench.seed c.in-Some-Bench.count) Replay c.in-Ok.ensures.command
    (c.in-Some-Bench.is ∙ ap Some (rw c.in-Some-Bench.is at c.in-Some-Bench.field-0-is)) asked))

-- ---- clients

pub drive-requires-clause-clients : goal.drive-requires-clause-clients
drive-requires-clause-clients g c κs within =
    in_range (map string_bytes c.args.words.now) (Drive c.in-Some-Drive.clients c.in-Some-Drive.txns c.in-Some-Drive.seed)
    (sym c.in-Ok.ensures.command ∙ c.in-Some-Drive.is ∙ ap Some (rw c.in-Some-Drive.is at c.in-Some-Drive.field-0-is))

pub returns-in-Some-Drive-clause-drives : goal.returns-in-Some-Drive-clause-drives
returns-in-Some-Drive-clause-drives g c clients txns seed asked =
    let same = same_drive c.in-Some-Drive.clients c.in-Some-Drive.txns c.in-Some-Drive.seed clients txns seed
    (one_asked (Drive c.in-Some-Drive.clients c.in-Some-Drive.txns c.in-Some-Drive.seed) (Drive clients txns seed) c.in-Ok.ensures.command
    (c.in-Some-Drive.is ∙ ap Some (rw c.in-Some-Drive.is at c.in-Some-Drive.field-0-is)) asked) in (
      refl,
      refl,
      (
        c.drive.result,
        c.status-status-in-Some-Drive.ensures,
        subst (λ (n : ℕ). PrintsDriven g.K.Sink n txns seed c.args.sink.now c.drive.new.sink c.drive.result) same.0
            (subst (λ (n : ℕ). PrintsDriven g.K.Sink c.in-Some-Drive.clients n seed c.args.sink.now c.drive.new.sink c.drive.result) same.1
            (subst (λ (n : ℕ). PrintsDriven g.K.Sink c.in-Some-Drive.clients c.in-Some-Drive.txns n c.args.sink.now c.drive.new.sink
            c.drive.result) same.2 c.drive.ensures.prints)),
      ),
    )

pub returns-in-Some-Drive-clause-counts : goal.returns-in-Some-Drive-clause-counts
returns-in-Some-Drive-clause-counts g c clients count lease asked = absurd
    (no_ids_driven c.in-Some-Drive.clients c.in-Some-Drive.txns c.in-Some-Drive.seed clients count lease
    (one_asked (Drive c.in-Some-Drive.clients c.in-Some-Drive.txns c.in-Some-Drive.seed) (Ids clients count lease) c.in-Ok.ensures.command
    (c.in-Some-Drive.is ∙ ap Some (rw c.in-Some-Drive.is at c.in-Some-Drive.field-0-is)) asked))

pub returns-in-Some-Drive-clause-benches : goal.returns-in-Some-Drive-clause-benches
returns-in-Some-Drive-clause-benches g c seed count asked = absurd
    (no_bench_driven seed count c.in-Some-Drive.clients c.in-Some-Drive.txns c.in-Some-Drive.seed
    (one_asked (Drive c.in-Some-Drive.clients c.in-Some-Drive.txns c.in-Some-Drive.seed) (Bench seed count) c.in-Ok.ensures.command
    (c.in-Some-Drive.is ∙ ap Some (rw c.in-Some-Drive.is at c.in-Some-Drive.field-0-is)) asked))

pub returns-in-Some-Drive-clause-answers : goal.returns-in-Some-Drive-clause-answers
returns-in-Some-Drive-clause-answers g c asked = absurd
    (no_replay_driven c.in-Some-Drive.clients c.in-Some-Drive.txns c.in-Some-Drive.seed
    (one_asked (Drive c.in-Some-Drive.clients c.in-Some-Drive.txns c.in-Some-Drive.seed) Replay c.in-Ok.ensures.command
    (c.in-Some-Drive.is ∙ ap Some (rw c.in-Some-Drive.is at c.in-Some-Drive.field-0-is)) asked))

pub returns-in-Some-Drive-clause-tries : goal.returns-in-Some-Drive-clause-tries
returns-in-Some-Drive-clause-tries g c stop outcome input asked = absurd
    (no_trial_driven c.in-Some-Drive.clients c.in-Some-Drive.txns c.in-Some-Drive.seed stop outcome
    (one_asked (Drive c.in-Some-Drive.clients c.in-Some-Drive.txns c.in-Some-Drive.seed) (Trial stop outcome) c.in-Ok.ensures.command
    (c.in-Some-Drive.is ∙ ap Some (rw c.in-Some-Drive.is at c.in-Some-Drive.field-0-is)) asked))

pub returns-in-Some-Drive-clause-tries_in_time : goal.returns-in-Some-Drive-clause-tries_in_time
returns-in-Some-Drive-clause-tries_in_time g c stop outcome input asked = absurd
    (no_trial_driven c.in-Some-Drive.clients c.in-Some-Drive.txns c.in-Some-Drive.seed stop outcome
    (one_asked (Drive c.in-Some-Drive.clients c.in-Some-Drive.txns c.in-Some-Drive.seed) (Trial stop outcome) c.in-Ok.ensures.command
    (c.in-Some-Drive.is ∙ ap Some (rw c.in-Some-Drive.is at c.in-Some-Drive.field-0-is)) asked))

pub returns-in-Some-Drive-clause-explained : goal.returns-in-Some-Drive-clause-explained
returns-in-Some-Drive-clause-explained g c s input starts = all_explained c.reads_without_conflict_stay_explained.ensures
    g.D.Watched c.args.disk s (lines_of input) starts

pub returns-in-Some-Drive-clause-explained_in_trial : goal.returns-in-Some-Drive-clause-explained_in_trial
returns-in-Some-Drive-clause-explained_in_trial g c input = explained_from c.reads_without_conflict_stay_explained.ensures
    begun (lines_of input) empty_proper refl

pub returns-in-Some-Drive-clause-no_usage_line : goal.returns-in-Some-Drive-clause-no_usage_line
returns-in-Some-Drive-clause-no_usage_line g c command plain is = absurd
    (lines_end g.K.Sink (TellsDriven c.in-Some-Drive.clients c.in-Some-Drive.txns c.in-Some-Drive.seed) _ _ c.drive.result
    (λ (e : Ending). status_of e ≢ 2) c.drive.ensures.prints (λ e. omega arith) (λ e. omega arith) (λ e. omega arith)
    (sym c.status-status-in-Some-Drive.ensures ∙ is))

pub returns-in-Some-Drive-clause-not_plain : goal.returns-in-Some-Drive-clause-not_plain
returns-in-Some-Drive-clause-not_plain g c other = absurd
    (is_asked (Drive c.in-Some-Drive.clients c.in-Some-Drive.txns c.in-Some-Drive.seed) c.in-Ok.ensures.command
    (c.in-Some-Drive.is ∙ ap Some (rw c.in-Some-Drive.is at c.in-Some-Drive.field-0-is)) other)

pub returns-in-Some-Drive-clause-untouched : goal.returns-in-Some-Drive-clause-untouched
returns-in-Some-Drive-clause-untouched g c stop outcome asked = refl

pub returns-in-Some-Drive-clause-no_fault_in_trial : goal.returns-in-Some-Drive-clause-no_fault_in_trial
returns-in-Some-Drive-clause-no_fault_in_trial g c stop outcome asked = absurd
    (no_trial_driven c.in-Some-Drive.clients c.in-Some-Drive.txns c.in-Some-Drive.seed stop outcome
    (one_asked (Drive c.in-Some-Drive.clients c.in-Some-Drive.txns c.in-Some-Drive.seed) (Trial stop outcome) c.in-Ok.ensures.command
    (c.in-Some-Drive.is ∙ ap Some (rw c.in-Some-Drive.is at c.in-Some-Drive.field-0-is)) asked))

pub returns-in-Some-Drive-clause-disk_fault : goal.returns-in-Some-Drive-clause-disk_fault
returns-in-Some-Drive-clause-disk_fault g c is = absurd
    (lines_end g.K.Sink (TellsDriven c.in-Some-Drive.clients c.in-Some-Drive.txns c.in-Some-Drive.seed) _ _ c.drive.result
    (λ (e : Ending). status_of e ≢ 3) c.drive.ensures.prints (λ e. omega arith) (λ e. omega arith) (λ e. omega arith)
    (sym c.status-status-in-Some-Drive.ensures ∙ is))

pub returns-in-Some-Drive-clause-reader_fault : goal.returns-in-Some-Drive-clause-reader_fault
returns-in-Some-Drive-clause-reader_fault g c s starts is = absurd
    (lines_end g.K.Sink (TellsDriven c.in-Some-Drive.clients c.in-Some-Drive.txns c.in-Some-Drive.seed) _ _ c.drive.result
    (λ (e : Ending). status_of e ≢ 3) c.drive.ensures.prints (λ e. omega arith) (λ e. omega arith) (λ e. omega arith)
    (sym c.status-status-in-Some-Drive.ensures ∙ is))

pub returns-in-Some-Drive-clause-no_disk_fault : goal.returns-in-Some-Drive-clause-no_disk_fault
returns-in-Some-Drive-clause-no_disk_fault g c other whole = refl

pub returns-in-Some-Drive-clause-refused : goal.returns-in-Some-Drive-clause-refused
returns-in-Some-Drive-clause-refused g c asked is = absurd
    (no_replay_driven c.in-Some-Drive.clients c.in-Some-Drive.txns c.in-Some-Drive.seed
    (one_asked (Drive c.in-Some-Drive.clients c.in-Some-Drive.txns c.in-Some-Drive.seed) Replay c.in-Ok.ensures.command
    (c.in-Some-Drive.is ∙ ap Some (rw c.in-Some-Drive.is at c.in-Some-Drive.field-0-is)) asked))

pub returns-in-Some-Drive-clause-refuses : goal.returns-in-Some-Drive-clause-refuses
returns-in-Some-Drive-clause-refuses g c asked = absurd
    (no_replay_driven c.in-Some-Drive.clients c.in-Some-Drive.txns c.in-Some-Drive.seed
    (one_asked (Drive c.in-Some-Drive.clients c.in-Some-Drive.txns c.in-Some-Drive.seed) Replay c.in-Ok.ensures.command
    (c.in-Some-Drive.is ∙ ap Some (rw c.in-Some-Drive.is at c.in-Some-Drive.field-0-is)) asked))

pub returns-in-Some-Drive-clause-read_fault : goal.returns-in-Some-Drive-clause-read_fault
returns-in-Some-Drive-clause-read_fault g c is = absurd
    (lines_end g.K.Sink (TellsDriven c.in-Some-Drive.clients c.in-Some-Drive.txns c.in-Some-Drive.seed) _ _ c.drive.result
    (λ (e : Ending). status_of e ≢ 6) c.drive.ensures.prints (λ e. omega arith) (λ e. omega arith) (λ e. omega arith)
    (sym c.status-status-in-Some-Drive.ensures ∙ is))

pub returns-in-Some-Drive-clause-write_fault : goal.returns-in-Some-Drive-clause-write_fault
returns-in-Some-Drive-clause-write_fault g c is = rose_by TheSink 7 sink_status c.drive.result _ _
    c.drive.ensures.sink_faults (sym c.status-status-in-Some-Drive.ensures ∙ is)

pub returns-in-Some-Drive-clause-no_stream_fault : goal.returns-in-Some-Drive-clause-no_stream_fault
returns-in-Some-Drive-clause-no_stream_fault g c less =
    let ending = c.drive.result in
    let small : status_of ending < 6 = subst (λ (n : ℕ). n < 6) c.status-status-in-Some-Drive.ensures less in (
      refl,
      steady_by TheSink 7 sink_status ending _ _ c.drive.ensures.sink_faults
          (below (status_of ending) 7 small (omega arith)) (below (status_of ending) 7 small (omega arith)),
    )

pub returns-in-Some-Drive-clause-again : goal.returns-in-Some-Drive-clause-again
returns-in-Some-Drive-clause-again g c s starts may = may

pub returns-in-Some-Drive-clause-input : goal.returns-in-Some-Drive-clause-input
returns-in-Some-Drive-clause-input g c asked = absurd
    (no_replay_driven c.in-Some-Drive.clients c.in-Some-Drive.txns c.in-Some-Drive.seed
    (one_asked (Drive c.in-Some-Drive.clients c.in-Some-Drive.txns c.in-Some-Drive.seed) Replay c.in-Ok.ensures.command
    (c.in-Some-Drive.is ∙ ap Some (rw c.in-Some-Drive.is at c.in-Some-Drive.field-0-is)) asked))

pub returns-in-Some-Drive-clause-called : goal.returns-in-Some-Drive-clause-called
returns-in-Some-Drive-clause-called g c asked = absurd
    (no_replay_driven c.in-Some-Drive.clients c.in-Some-Drive.txns c.in-Some-Drive.seed
    (one_asked (Drive c.in-Some-Drive.clients c.in-Some-Drive.txns c.in-Some-Drive.seed) Replay c.in-Ok.ensures.command
    (c.in-Some-Drive.is ∙ ap Some (rw c.in-Some-Drive.is at c.in-Some-Drive.field-0-is)) asked))

-- ---- clients that take numbers

pub count-requires-clause-clients : goal.count-requires-clause-clients
count-requires-clause-clients g c κs within =
    (in_range (map string_bytes c.args.words.now) (Ids c.in-Some-Ids.clients c.in-Some-Ids.count c.in-Some-Ids.lease)
    (sym c.in-Ok.ensures.command ∙ c.in-Some-Ids.is ∙ ap Some (rw c.in-Some-Ids.is at c.in-Some-Ids.field-0-is))).0

pub count-requires-clause-count : goal.count-requires-clause-count
count-requires-clause-count g c κs within =
    (in_range (map string_bytes c.args.words.now) (Ids c.in-Some-Ids.clients c.in-Some-Ids.count c.in-Some-Ids.lease)
    (sym c.in-Ok.ensures.command ∙ c.in-Some-Ids.is ∙ ap Some (rw c.in-Some-Ids.is at c.in-Some-Ids.field-0-is))).1

pub count-requires-clause-lease : goal.count-requires-clause-lease
count-requires-clause-lease g c κs within =
    (in_range (map string_bytes c.args.words.now) (Ids c.in-Some-Ids.clients c.in-Some-Ids.count c.in-Some-Ids.lease)
    (sym c.in-Ok.ensures.command ∙ c.in-Some-Ids.is ∙ ap Some (rw c.in-Some-Ids.is at c.in-Some-Ids.field-0-is))).2

pub returns-in-Some-Ids-clause-counts : goal.returns-in-Some-Ids-clause-counts
returns-in-Some-Ids-clause-counts g c clients count lease asked =
    let same = same_ids c.in-Some-Ids.clients c.in-Some-Ids.count c.in-Some-Ids.lease clients count lease
    (one_asked (Ids c.in-Some-Ids.clients c.in-Some-Ids.count c.in-Some-Ids.lease) (Ids clients count lease) c.in-Ok.ensures.command
    (c.in-Some-Ids.is ∙ ap Some (rw c.in-Some-Ids.is at c.in-Some-Ids.field-0-is)) asked) in (
      refl,
      refl,
      (
        c.count.result,
        c.status-status-in-Some-Ids.ensures,
        subst (λ (n : ℕ). PrintsCounted g.K.Sink n count lease c.args.sink.now c.count.new.sink c.count.result) same.0
            (subst (λ (n : ℕ). PrintsCounted g.K.Sink c.in-Some-Ids.clients n lease c.args.sink.now c.count.new.sink c.count.result) same.1
            (subst (λ (n : ℕ). PrintsCounted g.K.Sink c.in-Some-Ids.clients c.in-Some-Ids.count n c.args.sink.now c.count.new.sink
            c.count.result) same.2 c.count.ensures.prints)),
      ),
    )

pub returns-in-Some-Ids-clause-drives : goal.returns-in-Some-Ids-clause-drives
returns-in-Some-Ids-clause-drives g c clients txns seed asked = absurd
    (no_drive_counted clients txns seed c.in-Some-Ids.clients c.in-Some-Ids.count c.in-Some-Ids.lease
    (one_asked (Ids c.in-Some-Ids.clients c.in-Some-Ids.count c.in-Some-Ids.lease) (Drive clients txns seed) c.in-Ok.ensures.command
    (c.in-Some-Ids.is ∙ ap Some (rw c.in-Some-Ids.is at c.in-Some-Ids.field-0-is)) asked))

pub returns-in-Some-Ids-clause-benches : goal.returns-in-Some-Ids-clause-benches
returns-in-Some-Ids-clause-benches g c seed count asked = absurd
    (no_bench_counted seed count c.in-Some-Ids.clients c.in-Some-Ids.count c.in-Some-Ids.lease
    (one_asked (Ids c.in-Some-Ids.clients c.in-Some-Ids.count c.in-Some-Ids.lease) (Bench seed count) c.in-Ok.ensures.command
    (c.in-Some-Ids.is ∙ ap Some (rw c.in-Some-Ids.is at c.in-Some-Ids.field-0-is)) asked))

pub returns-in-Some-Ids-clause-answers : goal.returns-in-Some-Ids-clause-answers
returns-in-Some-Ids-clause-answers g c asked = absurd
    (no_replay_counted c.in-Some-Ids.clients c.in-Some-Ids.count c.in-Some-Ids.lease
    (one_asked (Ids c.in-Some-Ids.clients c.in-Some-Ids.count c.in-Some-Ids.lease) Replay c.in-Ok.ensures.command
    (c.in-Some-Ids.is ∙ ap Some (rw c.in-Some-Ids.is at c.in-Some-Ids.field-0-is)) asked))

pub returns-in-Some-Ids-clause-tries : goal.returns-in-Some-Ids-clause-tries
returns-in-Some-Ids-clause-tries g c stop outcome input asked = absurd
    (no_trial_counted c.in-Some-Ids.clients c.in-Some-Ids.count c.in-Some-Ids.lease stop outcome
    (one_asked (Ids c.in-Some-Ids.clients c.in-Some-Ids.count c.in-Some-Ids.lease) (Trial stop outcome) c.in-Ok.ensures.command
    (c.in-Some-Ids.is ∙ ap Some (rw c.in-Some-Ids.is at c.in-Some-Ids.field-0-is)) asked))

pub returns-in-Some-Ids-clause-tries_in_time : goal.returns-in-Some-Ids-clause-tries_in_time
returns-in-Some-Ids-clause-tries_in_time g c stop outcome input asked = absurd
    (no_trial_counted c.in-Some-Ids.clients c.in-Some-Ids.count c.in-Some-Ids.lease stop outcome
    (one_asked (Ids c.in-Some-Ids.clients c.in-Some-Ids.count c.in-Some-Ids.lease) (Trial stop outcome) c.in-Ok.ensures.command
    (c.in-Some-Ids.is ∙ ap Some (rw c.in-Some-Ids.is at c.in-Some-Ids.field-0-is)) asked))

pub returns-in-Some-Ids-clause-explained : goal.returns-in-Some-Ids-clause-explained
returns-in-Some-Ids-clause-explained g c s input starts = all_explained c.reads_without_conflict_stay_explained.ensures
    g.D.Watched c.args.disk s (lines_of input) starts

pub returns-in-Some-Ids-clause-explained_in_trial : goal.returns-in-Some-Ids-clause-explained_in_trial
returns-in-Some-Ids-clause-explained_in_trial g c input = explained_from c.reads_without_conflict_stay_explained.ensures
    begun (lines_of input) empty_proper refl

pub returns-in-Some-Ids-clause-no_usage_line : goal.returns-in-Some-Ids-clause-no_usage_line
returns-in-Some-Ids-clause-no_usage_line g c command plain is = absurd
    (lines_end g.K.Sink (TellsCounted c.in-Some-Ids.clients c.in-Some-Ids.count c.in-Some-Ids.lease) _ _ c.count.result
    (λ (e : Ending). status_of e ≢ 2) c.count.ensures.prints (λ e. omega arith) (λ e. omega arith) (λ e. omega arith)
    (sym c.status-status-in-Some-Ids.ensures ∙ is))

pub returns-in-Some-Ids-clause-not_plain : goal.returns-in-Some-Ids-clause-not_plain
returns-in-Some-Ids-clause-not_plain g c other = absurd
    (is_asked (Ids c.in-Some-Ids.clients c.in-Some-Ids.count c.in-Some-Ids.lease) c.in-Ok.ensures.command
    (c.in-Some-Ids.is ∙ ap Some (rw c.in-Some-Ids.is at c.in-Some-Ids.field-0-is)) other)

pub returns-in-Some-Ids-clause-untouched : goal.returns-in-Some-Ids-clause-untouched
returns-in-Some-Ids-clause-untouched g c stop outcome asked = refl

pub returns-in-Some-Ids-clause-no_fault_in_trial : goal.returns-in-Some-Ids-clause-no_fault_in_trial
returns-in-Some-Ids-clause-no_fault_in_trial g c stop outcome asked = absurd
    (no_trial_counted c.in-Some-Ids.clients c.in-Some-Ids.count c.in-Some-Ids.lease stop outcome
    (one_asked (Ids c.in-Some-Ids.clients c.in-Some-Ids.count c.in-Some-Ids.lease) (Trial stop outcome) c.in-Ok.ensures.command
    (c.in-Some-Ids.is ∙ ap Some (rw c.in-Some-Ids.is at c.in-Some-Ids.field-0-is)) asked))

pub returns-in-Some-Ids-clause-disk_fault : goal.returns-in-Some-Ids-clause-disk_fault
returns-in-Some-Ids-clause-disk_fault g c is = absurd
    (lines_end g.K.Sink (TellsCounted c.in-Some-Ids.clients c.in-Some-Ids.count c.in-Some-Ids.lease) _ _ c.count.result
    (λ (e : Ending). status_of e ≢ 3) c.count.ensures.prints (λ e. omega arith) (λ e. omega arith) (λ e. omega arith)
    (sym c.status-status-in-Some-Ids.ensures ∙ is))

pub returns-in-Some-Ids-clause-reader_fault : goal.returns-in-Some-Ids-clause-reader_fault
returns-in-Some-Ids-clause-reader_fault g c s starts is = absurd
    (lines_end g.K.Sink (TellsCounted c.in-Some-Ids.clients c.in-Some-Ids.count c.in-Some-Ids.lease) _ _ c.count.result
    (λ (e : Ending). status_of e ≢ 3) c.count.ensures.prints (λ e. omega arith) (λ e. omega arith) (λ e. omega arith)
    (sym c.status-status-in-Some-Ids.ensures ∙ is))

pub returns-in-Some-Ids-clause-no_disk_fault : goal.returns-in-Some-Ids-clause-no_disk_fault
returns-in-Some-Ids-clause-no_disk_fault g c other whole = refl

pub returns-in-Some-Ids-clause-refused : goal.returns-in-Some-Ids-clause-refused
returns-in-Some-Ids-clause-refused g c asked is = absurd
    (no_replay_counted c.in-Some-Ids.clients c.in-Some-Ids.count c.in-Some-Ids.lease
    (one_asked (Ids c.in-Some-Ids.clients c.in-Some-Ids.count c.in-Some-Ids.lease) Replay c.in-Ok.ensures.command
    (c.in-Some-Ids.is ∙ ap Some (rw c.in-Some-Ids.is at c.in-Some-Ids.field-0-is)) asked))

pub returns-in-Some-Ids-clause-refuses : goal.returns-in-Some-Ids-clause-refuses
returns-in-Some-Ids-clause-refuses g c asked = absurd
    (no_replay_counted c.in-Some-Ids.clients c.in-Some-Ids.count c.in-Some-Ids.lease
    (one_asked (Ids c.in-Some-Ids.clients c.in-Some-Ids.count c.in-Some-Ids.lease) Replay c.in-Ok.ensures.command
    (c.in-Some-Ids.is ∙ ap Some (rw c.in-Some-Ids.is at c.in-Some-Ids.field-0-is)) asked))

pub returns-in-Some-Ids-clause-read_fault : goal.returns-in-Some-Ids-clause-read_fault
returns-in-Some-Ids-clause-read_fault g c is = absurd
    (lines_end g.K.Sink (TellsCounted c.in-Some-Ids.clients c.in-Some-Ids.count c.in-Some-Ids.lease) _ _ c.count.result
    (λ (e : Ending). status_of e ≢ 6) c.count.ensures.prints (λ e. omega arith) (λ e. omega arith) (λ e. omega arith)
    (sym c.status-status-in-Some-Ids.ensures ∙ is))

pub returns-in-Some-Ids-clause-write_fault : goal.returns-in-Some-Ids-clause-write_fault
returns-in-Some-Ids-clause-write_fault g c is = rose_by TheSink 7 sink_status c.count.result _ _
    c.count.ensures.sink_faults (sym c.status-status-in-Some-Ids.ensures ∙ is)

pub returns-in-Some-Ids-clause-no_stream_fault : goal.returns-in-Some-Ids-clause-no_stream_fault
returns-in-Some-Ids-clause-no_stream_fault g c less =
    let ending = c.count.result in
    let small : status_of ending < 6 = subst (λ (n : ℕ). n < 6) c.status-status-in-Some-Ids.ensures less in (
      refl,
      steady_by TheSink 7 sink_status ending _ _ c.count.ensures.sink_faults
          (below (status_of ending) 7 small (omega arith)) (below (status_of ending) 7 small (omega arith)),
    )

pub returns-in-Some-Ids-clause-again : goal.returns-in-Some-Ids-clause-again
returns-in-Some-Ids-clause-again g c s starts may = may

pub returns-in-Some-Ids-clause-input : goal.returns-in-Some-Ids-clause-input
returns-in-Some-Ids-clause-input g c asked = absurd
    (no_replay_counted c.in-Some-Ids.clients c.in-Some-Ids.count c.in-Some-Ids.lease
    (one_asked (Ids c.in-Some-Ids.clients c.in-Some-Ids.count c.in-Some-Ids.lease) Replay c.in-Ok.ensures.command
    (c.in-Some-Ids.is ∙ ap Some (rw c.in-Some-Ids.is at c.in-Some-Ids.field-0-is)) asked))

pub returns-in-Some-Ids-clause-called : goal.returns-in-Some-Ids-clause-called
returns-in-Some-Ids-clause-called g c asked = absurd
    (no_replay_counted c.in-Some-Ids.clients c.in-Some-Ids.count c.in-Some-Ids.lease
    (one_asked (Ids c.in-Some-Ids.clients c.in-Some-Ids.count c.in-Some-Ids.lease) Replay c.in-Ok.ensures.command
    (c.in-Some-Ids.is ∙ ap Some (rw c.in-Some-Ids.is at c.in-Some-Ids.field-0-is)) asked))

-- ---- plain words for which there was no memory

pub returns-in_default-clause-answers : goal.returns-in_default-clause-answers
returns-in_default-clause-answers g c plain = (
  c.finish.result,
  c.status-status.ensures,
  reported g.K.Sink c.args.sink.now c.finish.new.sink c.finish.result c.finish.ensures,
  answers_nothing g.K.Sink c.args.sink.now c.finish.new.sink c.finish.result c.finish.ensures g.D.Watched
      (record { only_now = g.met.D.Disk.only_now; counts_now = g.met.D.Disk.counts_now }) g.D.Reader.Reader.faults c.args.disk
      (g.S.Source.left c.args.source.now) (g.S.Source.asked c.args.source.now) (g.S.Source.faults c.args.source.now)
      (λ input told. keeps_up_at_first input (g.S.Source.asked c.args.source.now) (g.met.S.Source.since_asked c.args.source.now input told)),
)

pub returns-in_default-clause-tries : goal.returns-in_default-clause-tries
returns-in_default-clause-tries g c stop outcome input asked told = (
  c.finish.result,
  c.status-status.ensures,
  tries_nothing g.K.Sink c.args.sink.now c.finish.new.sink c.finish.result c.finish.ensures (trial_of stop input outcome)
      (g.S.Source.left c.args.source.now),
)

pub returns-in_default-clause-tries_in_time : goal.returns-in_default-clause-tries_in_time
returns-in_default-clause-tries_in_time g c stop outcome input asked told = inl (
  0,
  c.finish.ensures.printed,
  (omega arith, c.finish.ensures.taken),
  keeps_up_at_first input (g.S.Source.asked c.args.source.now) (g.met.S.Source.since_asked c.args.source.now input told),
)

pub returns-in_default-clause-explained : goal.returns-in_default-clause-explained
returns-in_default-clause-explained g c s input starts = all_explained c.reads_without_conflict_stay_explained.ensures
    g.D.Watched c.args.disk s (lines_of input) starts

pub returns-in_default-clause-explained_in_trial : goal.returns-in_default-clause-explained_in_trial
returns-in_default-clause-explained_in_trial g c input = explained_from c.reads_without_conflict_stay_explained.ensures
    begun (lines_of input) empty_proper refl

pub returns-in_default-clause-input : goal.returns-in_default-clause-input
returns-in_default-clause-input g c plain input told = (
  c.finish.result,
  c.status-status.ensures,
  reads_nothing g.K.Sink c.args.sink.now c.finish.new.sink c.finish.result c.finish.ensures input (g.S.Source.left c.args.source.now)
      (g.S.Source.asked c.args.source.now)
      (keeps_up_at_first input (g.S.Source.asked c.args.source.now) (g.met.S.Source.since_asked c.args.source.now input told)),
)

pub returns-in_default-clause-called : goal.returns-in_default-clause-called
returns-in_default-clause-called g c plain = (
  c.finish.result,
  c.status-status.ensures,
  inr (unopened.NoMemory, λ state read told is_read. tt, (unopened.NoMemory, inl refl, (no_memory_line, refl, c.finish.ensures))),
)
