use Rattle.std.proofs.Common.{◌≡◌, ◌+◌, List, drop, get_or, refl, subst, sym, ◌∙◌}
use Rattle.std.specs.Prelude.{Some}
use Rattle.std.specs.FinMap.{get}
use Rattle.std.proofs.lemmas.List.{drop_all, drop_more}
use Rattle.vl_disk.specs.Disk.{Stands}
use Rattle.vl_disk.specs.DiskState.{file_at}
use Rattle.vl_disk.specs.declared.name.Name.{Name}
use Rattle.vl_disk.specs.declared.name.Name.TheVariants.{Log}
use Rattle.vl_recover.specs.opening.Finding.{IsReadLog}
use Rattle.vl_recover.specs.opening.Opening.{NamedLog, NamedLogs}
use Rattle.vl_recover.proofs.opening.FaultNames.{handed_on}
use Rattle.vl_recover.proofs.opening.HandedCalls.{fault_handed, no_fault_handed}
use Rattle.vl_recover.proofs.opening.Handing.{as_handed, of_stage}
use Rattle.vl_recover.proofs.opening.LedInto.{AreHeldSoFar, all_held, held_as_read, not_held, one_held}
use Rattle.vl_recover.proofs.opening.Looking.{as_read}
use Rattle.vl_recover.proofs.opening.NamingTables.{AreTested, all_tested, log_refused, none_tested, one_tested}
use Rattle.vl_recover.proofs.opening.Unmoved.{no_call, then_call}
use Rattle.vl_seglog.specs.declared.sealed.SealedLog.{SealedLog}
use Rattle.vl_recover.proofs.led.hold_led.Goals as goal

pub loop-number-init : goal.loop-number-init
loop-number-init g c = record {
  still = no_call g.D.Watched c.args.disk.now;
  tested = λ state read told is. none_tested read c.args.led.now;
  held = λ state read told is.
      subst (λ (logs : List (SealedLog g.row.D-Held.Denot)). AreHeldSoFar g.D.Held.HeldFile.bytes read c.args.head c.args.led.now logs 0)
      (sym c.new-logs.ensures.items) tt;
}

pub loop-number-preserved-then-number-head : goal.loop-number-preserved-then-number-head
loop-number-preserved-then-number-head g c =
    let led = c.args.led.now in
    let i = c.loop-number.number-index in
    let so = c.loop-number.invariant in
    record {
      still = then_call g.D.Watched c.args.disk.now c.loop-number.disk c.format_of_log.new.disk ⊥ so.still c.in_ok-format.ensures.no_change;
      tested = λ state read told is.
          one_tested read led (get_or led i 0) (drop (i + 1) led)
          (subst (AreTested read led) (drop_more led i 0 c.loop-number-test.true) (so.tested state read told is))
          (c.in_ok-format.ensures.answer state read (so.still.told ∙ told) is);
      held = λ state read told is.
          not_held g.D.Held.HeldFile.bytes read c.args.head led c.loop-number.logs.items i c.loop-number-test.true c.if-number-head.true
          (so.held state read told is);
    }

pub loop-number-preserved : goal.loop-number-preserved
loop-number-preserved g c =
    let led = c.args.led.now in
    let i = c.loop-number.number-index in
    let number = get_or led i 0 in
    let so = c.loop-number.invariant in
    let first = then_call g.D.Watched c.args.disk.now c.loop-number.disk c.format_of_log.new.disk ⊥ so.still
    c.in_ok-format.ensures.no_change in
    record {
      still = then_call g.D.Watched c.args.disk.now c.format_of_log.new.disk c.hold.new.disk ⊥ first c.in_ok-held.ensures.no_change;
      tested = λ state read told is.
          one_tested read led number (drop (i + 1) led)
          (subst (AreTested read led) (drop_more led i 0 c.loop-number-test.true) (so.tested state read told is))
          (c.in_ok-format.ensures.answer state read (so.still.told ∙ told) is);
      held = λ state read told is.
          let there = ((c.requires.lists state told).all (Log number)).0 c.in_ok-format.ensures.named in
          let stands : get read (Log number) ≡ Some (file_at state (Log number)).bytes =
          as_read read state (Log number) (file_at state (Log number)).bytes is there refl in
          one_held g.D.Held.HeldFile.bytes read c.args.head led c.loop-number.logs.items c.push.new.self.items
          (record { number = number; format = c.in_ok-format.format; held = c.in_ok-held.held }) i
          c.loop-number-test.true c.if-number-head.false
          c.in-Ok.ensures.items (so.held state read told is)
          (held_as_read g.D.Held.HeldFile.bytes read c.args.head led number c.in_ok-format.format c.in_ok-held.held
          (c.in_ok-format.ensures.format state read (so.still.told ∙ told) is)
          (c.in_ok-held.ensures.bytes state (first.told ∙ told) ∙ sym stands));
    }

pub returns-clause-answer : goal.returns-clause-answer
returns-clause-answer g c = λ state read told is.
    all_tested read c.args.led.now
    (subst (AreTested read c.args.led.now) (drop_all c.loop-number.number-index c.args.led.now c.loop-number-test.false)
    (c.loop-number.invariant.tested state read told is))

pub returns-clause-held : goal.returns-clause-held
returns-clause-held g c = λ state read told is.
    all_held g.D.Held.HeldFile.bytes read c.args.head c.args.led.now c.loop-number.logs.items c.loop-number.number-index
    c.loop-number-test.false
    (c.loop-number.invariant.held state read told is)

pub returns-in_err-format-clause-answer : goal.returns-in_err-format-clause-answer
returns-in_err-format-clause-answer g c = λ state read told is.
    let led = c.args.led.now in
    let i = c.loop-number.number-index in
    let so = c.loop-number.invariant in
    as_handed (λ _. tt) (NamedLogs read led) c.from_residual.result c.in_err-format.field-0.0
    c.from_residual.ensures.0 c.from_residual.ensures.1
    (of_stage (NamedLog read (get_or led i 0)) (NamedLogs read led)
    (λ why refused. log_refused read led (get_or led i 0) (drop (i + 1) led) why
    (subst (AreTested read led) (drop_more led i 0 c.loop-number-test.true) (so.tested state read told is)) refused)
    c.in_err-format.field-0.0 (c.in_err-format.ensures.answer state read (so.still.told ∙ told) is))

pub returns-in_err-format-clause-no_change : goal.returns-in_err-format-clause-no_change
returns-in_err-format-clause-no_change g c =
    fault_handed g.D.Watched c.args.disk.now c.loop-number.disk c.format_of_log.new.disk c.loop-number.invariant.still
    c.in_err-format.field-0.0 c.from_residual.result c.from_residual.ensures.0 c.from_residual.ensures.1 c.in_err-format.ensures.no_change

pub returns-in_err-held-clause-at : goal.returns-in_err-held-clause-at
returns-in_err-held-clause-at g c =
    let name = Log (get_or c.args.led.now c.loop-number.number-index 0) in
    handed_on c.hold.result c.in_err-held.field-0.0 c.from_residual-in_err-held.result (λ (at : Name). at ≡ name)
    (IsReadLog (g.D.Watched.told c.args.disk.now)) c.in_err-held.was c.from_residual-in_err-held.ensures.0
    c.from_residual-in_err-held.ensures.1
    (λ at is. record {
      number = get_or c.args.led.now c.loop-number.number-index 0;
      is = is;
      stands = λ state told. subst (λ (n : Name). Stands n state) (sym is)
          (((c.requires.lists state told).all name).0 c.in_ok-format.ensures.named);
    })
    c.hold.ensures.at

pub returns-in_err-held-clause-no_change : goal.returns-in_err-held-clause-no_change
returns-in_err-held-clause-no_change g c =
    let first = then_call g.D.Watched c.args.disk.now c.loop-number.disk c.format_of_log.new.disk ⊥
    c.loop-number.invariant.still c.in_ok-format.ensures.no_change in
    fault_handed g.D.Watched c.args.disk.now c.format_of_log.new.disk c.hold.new.disk first
    c.in_err-held.field-0.0 c.from_residual-in_err-held.result c.from_residual-in_err-held.ensures.0
    c.from_residual-in_err-held.ensures.1 c.in_err-held.ensures.no_change

pub returns-in-Err-clause-no_change : goal.returns-in-Err-clause-no_change
returns-in-Err-clause-no_change g c =
    let first = then_call g.D.Watched c.args.disk.now c.loop-number.disk c.format_of_log.new.disk ⊥
    c.loop-number.invariant.still c.in_ok-format.ensures.no_change in
    no_fault_handed g.D.Watched c.args.disk.now c.format_of_log.new.disk c.hold.new.disk first ⊥ (λ e. e) c.in_ok-held.ensures.no_change
