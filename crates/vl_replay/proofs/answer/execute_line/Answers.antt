use Rattle.std.proofs.Common.{◌++◌, ℕ, List, length, sym, ap, ◌∙◌, arith}
use Rattle.std.specs.Prelude.{Err, is_ok, is_err}
use Rattle.std.specs.Option.{option_map}
use Rattle.vl_script.specs.Script.{text_of}
use Rattle.vl_script_model.specs.Exchanges.{exchanged}
use Rattle.vl_replay.specs.AsCalled.{AnswersAsCalled}
use Rattle.vl_replay.specs.Served.{disk_of}
use Rattle.vl_script_model.specs.Sequential.{answer_to}
use Rattle.vl_script_model.specs.laws.AskingLaws.{line_asks}
use Rattle.vl_script_model.specs.laws.Ends.{exchange_at-answered}
use Rattle.vl_script_model.specs.laws.Halting.{beside_still, by_disk_still, by_read_still, out_not_by_disk, out_readable}
use Rattle.vl_script_model.specs.laws.Extending.{is_printed_text}
use Rattle.vl_script_model.specs.laws.Texts.{by_damage_still, by_reader_still, carries_nothing, carries_bad, carries_line}
use Rattle.vl_script_model.specs.laws.Texts.{kept_without_number, of_ok, ok_not_err, out_not_by_reader, out_undamaged}
use Rattle.vl_replay.proofs.AsCalled.Lines.{halted_line, halted_out}
use Rattle.vl_replay.proofs.answer.execute_line.Goals as goal

pub line-requires : goal.line-requires
line-requires g c = record { rows = line_asks c.args.text.now c.in-Some.line (sym c.in_ok-line.ensures ∙ c.in-Some.is) }

pub returns-clause-answers : goal.returns-clause-answers
returns-clause-answers g c s stands =
    let line = c.in-Some.line in
    let answer = c.in_ok-answer.answer in (
      exchanged s line,
      exchange_at-answered s c.args.text.now line (sym c.in_ok-line.ensures ∙ c.in-Some.is),
      c.in_ok-answer.ensures.after s stands,
      c.in_ok-print_answer.ensures.text ∙ ap (λ (l : List ℕ). l ++ text_of answer) c.in_ok-out.ensures.items
          ∙ is_printed_text answer (answer_to s line) (c.in_ok-answer.ensures.answer s stands),
    )

pub returns-in_err-line-clause-carries : goal.returns-in_err-line-clause-carries
returns-in_err-line-clause-carries g c s stands held =
    carries_nothing g.D.Watched (record { only_now = g.met.D.Disk.only_now; counts_now = g.met.D.Disk.counts_now }) s
    c.args.text.now (disk_of c.args.replayer.now) c.from_residual.result c.from_residual.ensures.0
    (out_not_by_disk c.from_residual.result c.from_residual.ensures.1) held

pub returns-in_default-clause-carries : goal.returns-in_default-clause-carries
returns-in_default-clause-carries g c s stands held =
    carries_bad g.D.Watched (record { only_now = g.met.D.Disk.only_now; counts_now = g.met.D.Disk.counts_now }) s
    c.args.text.now (disk_of c.args.replayer.now) _ (ap (option_map (exchanged s)) (sym c.in_ok-line.ensures ∙ c.in_default.is)) held

pub returns-in_err-out-clause-carries : goal.returns-in_err-out-clause-carries
returns-in_err-out-clause-carries g c s stands held =
    carries_nothing g.D.Watched (record { only_now = g.met.D.Disk.only_now; counts_now = g.met.D.Disk.counts_now }) s
    c.args.text.now (disk_of c.args.replayer.now) c.from_residual-in_err-out.result c.from_residual-in_err-out.ensures.0
    (out_not_by_disk c.from_residual-in_err-out.result c.from_residual-in_err-out.ensures.1) held

pub returns-in_err-answer-clause-carries : goal.returns-in_err-answer-clause-carries
returns-in_err-answer-clause-carries g c s stands held =
    let residual = c.from_residual-in_err-answer in
    let carried = c.line.ensures.carries c.requires s stands held in
    carries_line g.D.Watched (record { only_now = g.met.D.Disk.only_now; counts_now = g.met.D.Disk.counts_now }) s
    c.args.text.now (disk_of c.args.replayer.now) (disk_of c.line.new.self) c.in-Some.line c.line.result residual.result
    (sym c.in_ok-line.ensures ∙ c.in-Some.is) carried
    (λ ok. absurd (ok_not_err residual.result ok residual.ensures.0))
    (by_disk_still c.line.result residual.result _ c.in_err-answer.was residual.ensures.1)
    (λ by. carried.short (beside_still c.line.result residual.result _ c.in_err-answer.was residual.ensures.1 by))

pub returns-in_err-print_answer-clause-carries : goal.returns-in_err-print_answer-clause-carries
returns-in_err-print_answer-clause-carries g c s stands held =
    let residual = c.from_residual-in_err-print_answer in
    let carried = c.line.ensures.carries c.requires s stands held in
    let ok = ap is_ok c.in_ok-answer.was in
    carries_line g.D.Watched (record { only_now = g.met.D.Disk.only_now; counts_now = g.met.D.Disk.counts_now }) s
    c.args.text.now (disk_of c.args.replayer.now) (disk_of c.line.new.self) c.in-Some.line c.line.result residual.result
    (sym c.in_ok-line.ensures ∙ c.in-Some.is) carried
    (λ is_it. absurd (ok_not_err residual.result is_it residual.ensures.0))
    (λ by. absurd (out_not_by_disk residual.result residual.ensures.1 by))
    (λ by. kept_without_number g.D.Watched
    (record { only_now = g.met.D.Disk.only_now; counts_now = g.met.D.Disk.counts_now }) s c.args.text.now
    (disk_of c.args.replayer.now) (disk_of c.line.new.self) c.in-Some.line c.in_ok-answer.answer stands.serves.sound
    (c.in_ok-answer.ensures.answer s stands)
    (λ number is_number. ok_not_err c.print_answer.result
    (c.print_answer.ensures.room number is_number
    (omega (arith, ap length c.in_ok-out.ensures.items, c.in_ok-out.ensures.capacity))) (ap is_err c.in_err-print_answer.was))
    (λ is_done. ok_not_err c.print_answer.result
    (c.print_answer.ensures.room_for_ok is_done
    (omega (arith, ap length c.in_ok-out.ensures.items, c.in_ok-out.ensures.capacity))) (ap is_err c.in_err-print_answer.was))
    (λ count is_moved. ok_not_err c.print_answer.result
    (c.print_answer.ensures.room_for_moved count is_moved
    (omega (arith, ap length c.in_ok-out.ensures.items, c.in_ok-out.ensures.capacity))) (ap is_err c.in_err-print_answer.was))
    (λ count is_removed. ok_not_err c.print_answer.result
    (c.print_answer.ensures.room_for_removed count is_removed
    (omega (arith, ap length c.in_ok-out.ensures.items, c.in_ok-out.ensures.capacity))) (ap is_err c.in_err-print_answer.was))
    held (of_ok c.line.result _ ok carried.answered))

pub returns-clause-carries : goal.returns-clause-carries
returns-clause-carries g c s stands held =
    carries_line g.D.Watched (record { only_now = g.met.D.Disk.only_now; counts_now = g.met.D.Disk.counts_now }) s
    c.args.text.now (disk_of c.args.replayer.now) (disk_of c.line.new.self) c.in-Some.line c.line.result _
    (sym c.in_ok-line.ensures ∙ c.in-Some.is) (c.line.ensures.carries c.requires s stands held)
    (λ ok. ap is_ok c.in_ok-answer.was) (λ by. absurd by) (λ by. absurd by)

pub returns-in_default-clause-reads : goal.returns-in_default-clause-reads
returns-in_default-clause-reads g c = sym c.in_ok-line.ensures ∙ c.in_default.is

pub returns-clause-reads : goal.returns-clause-reads
returns-clause-reads g c =
    let answer = c.in_ok-answer.answer in (
      (c.in-Some.line, sym c.in_ok-line.ensures ∙ c.in-Some.is),
      (answer, c.in_ok-print_answer.ensures.text ∙ ap (λ (l : List ℕ). l ++ text_of answer) c.in_ok-out.ensures.items),
    )

-- ---- what can't be read

pub returns-in_err-line-clause-readable : goal.returns-in_err-line-clause-readable
returns-in_err-line-clause-readable g c s stands by = absurd (out_readable c.from_residual.result c.from_residual.ensures.1 by)

pub returns-in_err-out-clause-readable : goal.returns-in_err-out-clause-readable
returns-in_err-out-clause-readable g c s stands by =
    absurd (out_readable c.from_residual-in_err-out.result c.from_residual-in_err-out.ensures.1 by)

pub returns-in_err-answer-clause-readable : goal.returns-in_err-answer-clause-readable
returns-in_err-answer-clause-readable g c s stands by =
    let line = c.in-Some.line in (
      exchanged s line,
      exchange_at-answered s c.args.text.now line (sym c.in_ok-line.ensures ∙ c.in-Some.is),
      c.line.ensures.sound c.requires s stands
          (by_read_still c.line.result c.from_residual-in_err-answer.result _ c.in_err-answer.was
          c.from_residual-in_err-answer.ensures.1 by),
    )

pub returns-in_err-print_answer-clause-readable : goal.returns-in_err-print_answer-clause-readable
returns-in_err-print_answer-clause-readable g c s stands by =
    absurd (out_readable c.from_residual-in_err-print_answer.result c.from_residual-in_err-print_answer.ensures.1 by)

pub returns-in_default-clause-readable : goal.returns-in_default-clause-readable
returns-in_default-clause-readable g c s stands by = absurd by

pub returns-clause-readable : goal.returns-clause-readable
returns-clause-readable g c s stands by = absurd by

pub returns-in_err-line-clause-undamaged : goal.returns-in_err-line-clause-undamaged
returns-in_err-line-clause-undamaged g c s stands = out_undamaged c.from_residual.result c.from_residual.ensures.1

pub returns-in_err-out-clause-undamaged : goal.returns-in_err-out-clause-undamaged
returns-in_err-out-clause-undamaged g c s stands = out_undamaged c.from_residual-in_err-out.result c.from_residual-in_err-out.ensures.1

pub returns-in_err-answer-clause-undamaged : goal.returns-in_err-answer-clause-undamaged
returns-in_err-answer-clause-undamaged g c s stands by =
    c.line.ensures.undamaged c.requires s stands
    (by_damage_still c.line.result c.from_residual-in_err-answer.result _ c.in_err-answer.was c.from_residual-in_err-answer.ensures.1 by)

pub returns-in_err-print_answer-clause-undamaged : goal.returns-in_err-print_answer-clause-undamaged
returns-in_err-print_answer-clause-undamaged g c s stands =
    out_undamaged c.from_residual-in_err-print_answer.result c.from_residual-in_err-print_answer.ensures.1

pub returns-in_default-clause-undamaged : goal.returns-in_default-clause-undamaged
returns-in_default-clause-undamaged g c s stands by = by

pub returns-clause-undamaged : goal.returns-clause-undamaged
returns-clause-undamaged g c s stands by = by

pub returns-in_err-line-clause-fault : goal.returns-in_err-line-clause-fault
returns-in_err-line-clause-fault g c s stands by = absurd (out_not_by_reader c.from_residual.result c.from_residual.ensures.1 by)

pub returns-in_err-out-clause-fault : goal.returns-in_err-out-clause-fault
returns-in_err-out-clause-fault g c s stands by =
    absurd (out_not_by_reader c.from_residual-in_err-out.result c.from_residual-in_err-out.ensures.1 by)

pub returns-in_err-answer-clause-fault : goal.returns-in_err-answer-clause-fault
returns-in_err-answer-clause-fault g c s stands by =
    c.line.ensures.fault c.requires s stands
    (by_reader_still c.line.result c.from_residual-in_err-answer.result _ c.in_err-answer.was c.from_residual-in_err-answer.ensures.1 by)

pub returns-in_err-print_answer-clause-fault : goal.returns-in_err-print_answer-clause-fault
returns-in_err-print_answer-clause-fault g c s stands by =
    absurd (out_not_by_reader c.from_residual-in_err-print_answer.result c.from_residual-in_err-print_answer.ensures.1 by)

pub returns-in_default-clause-fault : goal.returns-in_default-clause-fault
returns-in_default-clause-fault g c s stands by = absurd by

pub returns-clause-fault : goal.returns-clause-fault
returns-clause-fault g c s stands by = absurd by

pub returns-in_err-line-clause-met : goal.returns-in_err-line-clause-met
returns-in_err-line-clause-met g c by = absurd (out_readable c.from_residual.result c.from_residual.ensures.1 by)

pub returns-in_err-out-clause-met : goal.returns-in_err-out-clause-met
returns-in_err-out-clause-met g c by = (c.in-Some.line, sym c.in_ok-line.ensures ∙ c.in-Some.is)

pub returns-in_err-answer-clause-met : goal.returns-in_err-answer-clause-met
returns-in_err-answer-clause-met g c by = (c.in-Some.line, sym c.in_ok-line.ensures ∙ c.in-Some.is)

pub returns-in_err-print_answer-clause-met : goal.returns-in_err-print_answer-clause-met
returns-in_err-print_answer-clause-met g c by = (c.in-Some.line, sym c.in_ok-line.ensures ∙ c.in-Some.is)

pub returns-in_default-clause-met : goal.returns-in_default-clause-met
returns-in_default-clause-met g c by = absurd by

pub returns-clause-met : goal.returns-clause-met
returns-clause-met g c by = absurd by

-- ---- what it is answered, whatever the disk holds

pub returns-in_default-clause-as_called : goal.returns-in_default-clause-as_called
returns-in_default-clause-as_called g c = sym c.in_ok-line.ensures ∙ c.in_default.is

pub returns-clause-as_called : goal.returns-clause-as_called
returns-clause-as_called g c =
    let answer = c.in_ok-answer.answer in (
      c.in-Some.line,
      answer,
      sym c.in_ok-line.ensures ∙ c.in-Some.is,
      c.in_ok-answer.ensures.as_called c.requires,
      c.in_ok-print_answer.ensures.text ∙ ap (λ (l : List ℕ). l ++ text_of answer) c.in_ok-out.ensures.items,
    )

pub returns-in_err-line-clause-halted : goal.returns-in_err-line-clause-halted
returns-in_err-line-clause-halted g c =
    halted_out (AnswersAsCalled g.D.Watched g.D.Held.HeldFile.bytes g.D.Reader.Reader.faults g.D.Writer.Writer c.args.replayer.now c.args.replayer.now)
    c.args.text.now c.from_residual.result c.from_residual.ensures.1

pub returns-in_err-out-clause-halted : goal.returns-in_err-out-clause-halted
returns-in_err-out-clause-halted g c =
    halted_out (AnswersAsCalled g.D.Watched g.D.Held.HeldFile.bytes g.D.Reader.Reader.faults g.D.Writer.Writer c.args.replayer.now c.args.replayer.now)
    c.args.text.now c.from_residual-in_err-out.result c.from_residual-in_err-out.ensures.1

pub returns-in_err-answer-clause-halted : goal.returns-in_err-answer-clause-halted
returns-in_err-answer-clause-halted g c =
    halted_line (AnswersAsCalled g.D.Watched g.D.Held.HeldFile.bytes g.D.Reader.Reader.faults g.D.Writer.Writer c.args.replayer.now c.line.new.self)
    c.args.text.now c.line.result c.from_residual-in_err-answer.result _ c.in_err-answer.was
    c.from_residual-in_err-answer.ensures.1 c.in-Some.line (sym c.in_ok-line.ensures ∙ c.in-Some.is) (c.line.ensures.as_called c.requires)

pub returns-in_err-print_answer-clause-halted : goal.returns-in_err-print_answer-clause-halted
returns-in_err-print_answer-clause-halted g c =
    halted_out (AnswersAsCalled g.D.Watched g.D.Held.HeldFile.bytes g.D.Reader.Reader.faults g.D.Writer.Writer c.args.replayer.now c.line.new.self)
    c.args.text.now c.from_residual-in_err-print_answer.result c.from_residual-in_err-print_answer.ensures.1

-- ---- where nothing was to fail beside the disk, nothing is

pub returns-in_default-clause-sure : goal.returns-in_default-clause-sure
returns-in_default-clause-sure g c s stands was = was

pub returns-clause-sure : goal.returns-clause-sure
returns-clause-sure g c s stands was = c.in_ok-answer.ensures.sure c.requires s stands was
