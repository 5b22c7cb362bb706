use Rattle.std.proofs.Common.{List, ℕ, ap, map, subst, sym, ◌∙◌}
use Rattle.std.specs.Prelude.{All, Err, Ok, nat_lt}
use Rattle.std.specs.List.{AllZip, filter}
use Rattle.vl_recover.specs.declared.fails.OpenError.TheVariants as why
use Rattle.vl_recover.specs.opening.FoundTables.{all_found, found_level}
use Rattle.vl_recover.specs.opening.HeldFiles.{AreHeldFound, AreWaiting, IsReadLog}
use Rattle.vl_recover.specs.opening.Leading.{AnswersStage}
use Rattle.vl_recover.specs.opening.Opening.{NamedLogs, led_into}
use Rattle.vl_recover.specs.opening.Results.{IsOneRun}
use Rattle.vl_manifest.specs.declared.waiting.Waiting.{Waiting}
use Rattle.vl_recover.proofs.opening.Composing.{found_handed, led_refuse, manifest_refuses, tables_refuse}
use Rattle.vl_recover.proofs.opening.HandedCalls.{disk_fault_handed, fault_answered}
use Rattle.vl_recover.proofs.opening.HeldLogs.{found_held, found_wait}
use Rattle.vl_recover.proofs.opening.Unmoved.{as_disk_fault, calm_handed, then_call}
use Rattle.vl_recover.proofs.find.find.Goals as goal

-- ---- answers

pub returns-in_err-state-clause-answer : goal.returns-in_err-state-clause-answer
returns-in_err-state-clause-answer g c state read told is =
    found_handed read c.from_residual-in_err-state.result c.in_err-state.field-0.0 c.from_residual-in_err-state.ensures.0
    c.from_residual-in_err-state.ensures.1
    (manifest_refuses read c.in_err-state.field-0.0 (c.in_err-state.ensures.says state read (c.in_ok-names.ensures.no_change.told ∙ told)
    is))

pub returns-in_err-levels-clause-answer : goal.returns-in_err-levels-clause-answer
returns-in_err-levels-clause-answer g c state read told is =
    let told1 = c.in_ok-state.ensures.no_change.told ∙ (c.in_ok-names.ensures.no_change.told ∙ told) in
    found_handed read c.from_residual-in_err-levels.result c.in_err-levels.field-0.0 c.from_residual-in_err-levels.ensures.0
    c.from_residual-in_err-levels.ensures.1
    (tables_refuse read c.in_ok-state.state (c.in_ok-state.ensures.says state read (c.in_ok-names.ensures.no_change.told ∙ told) is)
    c.in_err-levels.field-0.0 (c.in_err-levels.ensures.answer state read told1 is))

pub returns-in_err-lower-clause-answer : goal.returns-in_err-lower-clause-answer
returns-in_err-lower-clause-answer g c state read told is =
    let told1 = c.in_ok-state.ensures.no_change.told ∙ (c.in_ok-names.ensures.no_change.told ∙ told) in
    let told2 = c.in_ok-levels.ensures.no_change.told ∙ told1 in
    let led_is = c.deref-6.ensures.value ∙ c.in_ok-led.ensures
    ∙ ap (λ (ls : List _). led_into (map found_level ls)) c.deref-4.ensures.value in
    found_handed read c.from_residual-in_err-lower.result c.in_err-lower.field-0.0 c.from_residual-in_err-lower.ensures.0
    c.from_residual-in_err-lower.ensures.1
    (led_refuse read c.in_ok-state.state (all_found c.in_ok-levels.levels)
    (c.in_ok-state.ensures.says state read (c.in_ok-names.ensures.no_change.told ∙ told) is)
    (c.in_ok-levels.ensures.answer state read told1 is)
    c.in_err-lower.field-0.0
    (subst (λ (led : List ℕ). AnswersStage (NamedLogs read led) (Err c.in_err-lower.field-0.0)) led_is
    (c.in_err-lower.ensures.answer state read told2 is)))

pub returns-in_err-findings-clause-answer : goal.returns-in_err-findings-clause-answer
returns-in_err-findings-clause-answer g c state read told is =
    let told1 = c.in_ok-names.ensures.no_change.told ∙ told in
    let told2 = c.in_ok-state.ensures.no_change.told ∙ told1 in
    let told3 = c.in_ok-levels.ensures.no_change.told ∙ told2 in
    let told4 = c.in_ok-lower.ensures.no_change.told ∙ told3 in
    found_handed read c.from_residual-in_err-findings.result c.in_err-findings.field-0.0 c.from_residual-in_err-findings.ensures.0
    c.from_residual-in_err-findings.ensures.1
    (c.in_err-findings.ensures.answer state read (all_found c.in_ok-levels.levels) is (c.in_ok-names.ensures.names state told)
    (record {
      current = c.in_ok-state.ensures.says state read told1 is;
      tables = c.in_ok-levels.ensures.answer state read told2 is;
      logs = subst (λ (led : List ℕ). NamedLogs read led (Ok tt)) c.deref-6.ensures.value
          (c.in_ok-lower.ensures.answer state read told3 is);
      led_is = c.in_ok-led.ensures ∙ ap (λ (ls : List _). led_into (map found_level ls)) c.deref-4.ensures.value;
    })
    (c.in_ok-logs.ensures.reads state read told4 is))

pub returns-clause-answer : goal.returns-clause-answer
returns-clause-answer g c state read told is =
    let told1 = c.in_ok-names.ensures.no_change.told ∙ told in
    let told2 = c.in_ok-state.ensures.no_change.told ∙ told1 in
    let told3 = c.in_ok-levels.ensures.no_change.told ∙ told2 in
    let told4 = c.in_ok-lower.ensures.no_change.told ∙ told3 in
    c.in_ok-findings.ensures.answer state read (all_found c.in_ok-levels.levels) is (c.in_ok-names.ensures.names state told)
    (record {
      current = c.in_ok-state.ensures.says state read told1 is;
      tables = c.in_ok-levels.ensures.answer state read told2 is;
      logs = subst (λ (led : List ℕ). NamedLogs read led (Ok tt)) c.deref-6.ensures.value
          (c.in_ok-lower.ensures.answer state read told3 is);
      led_is = c.in_ok-led.ensures ∙ ap (λ (ls : List _). led_into (map found_level ls)) c.deref-4.ensures.value;
    })
    (c.in_ok-logs.ensures.reads state read told4 is)

-- ---- what is held, and what waits

pub returns-clause-tables : goal.returns-clause-tables
returns-clause-tables g c state read told is =
    c.in_ok-levels.ensures.held state read (c.in_ok-state.ensures.no_change.told ∙ (c.in_ok-names.ensures.no_change.told ∙ told)) is

pub returns-clause-waiting : goal.returns-clause-waiting
returns-clause-waiting g c state read finds told is =
    let told3 = c.in_ok-levels.ensures.no_change.told ∙ (c.in_ok-state.ensures.no_change.told
    ∙ (c.in_ok-names.ensures.no_change.told ∙ told)) in
    let told4 = c.in_ok-lower.ensures.no_change.told ∙ told3 in
    let found = returns-clause-answer g c state read told is in
    subst (λ (ws : List Waiting). AreWaiting finds.opening.state.covered ws finds.opening.logs)
    (sym (ap (λ (v : _). v.items) c.in_ok-findings.ensures.waiting))
    (found_wait g.D.Held.HeldFile.bytes read c.in_ok-findings.findings found.0 finds c.in_ok-state.state c.in_ok-logs.logs.waiting.items
    c.in_ok-findings.ensures.state
    (λ logs number standing walk. c.in_ok-logs.ensures.waiting state read logs number told4 is standing walk))

pub returns-clause-logs : goal.returns-clause-logs
returns-clause-logs g c state read finds told is =
    let told3 = c.in_ok-levels.ensures.no_change.told ∙ (c.in_ok-state.ensures.no_change.told
    ∙ (c.in_ok-names.ensures.no_change.told ∙ told)) in
    let told4 = c.in_ok-lower.ensures.no_change.told ∙ told3 in
    let found = returns-clause-answer g c state read told is in
    let bytes = g.D.Held.HeldFile.bytes in
    subst (λ (ls : List _). AreHeldFound bytes finds ls) (sym
    (c.reserve.ensures.items ∙ ap (λ (v : _). v.items) c.in_ok-findings.ensures.sealed))
    (found_held bytes read c.in_ok-findings.findings found.0 finds c.in_ok-state.state (all_found c.in_ok-levels.levels)
    c.in_ok-led.led.items
    c.in_ok-lower.lower.items c.in_ok-logs.logs.sealed.items c.in_ok-findings.ensures.state found.1
    (c.in_ok-led.ensures ∙ ap (λ (ls : List _). led_into (map found_level ls)) c.deref-4.ensures.value)
    (subst (λ (led : List ℕ). AllZip (IsReadLog bytes read) c.in_ok-lower.lower.items
    (filter (λ n. nat_lt n c.in_ok-state.state.head) led)) c.deref-6.ensures.value
    (c.in_ok-lower.ensures.held state read told3 is))
    (λ logs standing. c.in_ok-logs.ensures.held state read logs told4 is standing))

-- ---- nothing is changed

pub returns-in_err-lower-clause-no_change : goal.returns-in_err-lower-clause-no_change
returns-in_err-lower-clause-no_change g c =
    let d = g.D.Watched in
    let two = then_call d c.args.disk.now c.list_names.new.disk c.current_state.new.disk ⊥ c.in_ok-names.ensures.no_change
    c.in_ok-state.ensures.no_change in
    let three = then_call d c.args.disk.now c.current_state.new.disk c.open_tables.new.disk ⊥ two c.in_ok-levels.ensures.no_change in
    let faults = g.D.Reader.Reader.faults c.open_tables.new.reader in
    disk_fault_handed d c.args.disk.now c.open_tables.new.disk c.hold_led.new.disk three faults c.in_err-lower.field-0.0
    c.from_residual-in_err-lower.result c.from_residual-in_err-lower.ensures.0 c.from_residual-in_err-lower.ensures.1
    (as_disk_fault d c.open_tables.new.disk c.hold_led.new.disk faults c.in_err-lower.field-0.0 c.in_ok-levels.ensures.fresh
    c.in_err-lower.ensures.no_change)

pub returns-in_err-logs-clause-no_change : goal.returns-in_err-logs-clause-no_change
returns-in_err-logs-clause-no_change g c =
    let d = g.D.Watched in
    let two = then_call d c.args.disk.now c.list_names.new.disk c.current_state.new.disk ⊥ c.in_ok-names.ensures.no_change
    c.in_ok-state.ensures.no_change in
    let three = then_call d c.args.disk.now c.current_state.new.disk c.open_tables.new.disk ⊥ two c.in_ok-levels.ensures.no_change in
    let four = then_call d c.args.disk.now c.open_tables.new.disk c.hold_led.new.disk ⊥ three c.in_ok-lower.ensures.no_change in
    let faults = g.D.Reader.Reader.faults c.open_tables.new.reader in
    disk_fault_handed d c.args.disk.now c.hold_led.new.disk c.read_logs.new.disk four faults c.in_err-logs.field-0.0
    c.from_residual-in_err-logs.result c.from_residual-in_err-logs.ensures.0 c.from_residual-in_err-logs.ensures.1
    (as_disk_fault d c.hold_led.new.disk c.read_logs.new.disk faults c.in_err-logs.field-0.0 c.in_ok-levels.ensures.fresh
    c.in_err-logs.ensures.no_change)

pub returns-in_err-findings-clause-no_change : goal.returns-in_err-findings-clause-no_change
returns-in_err-findings-clause-no_change g c =
    let d = g.D.Watched in
    let two = then_call d c.args.disk.now c.list_names.new.disk c.current_state.new.disk ⊥ c.in_ok-names.ensures.no_change
    c.in_ok-state.ensures.no_change in
    let three = then_call d c.args.disk.now c.current_state.new.disk c.open_tables.new.disk ⊥ two c.in_ok-levels.ensures.no_change in
    let four = then_call d c.args.disk.now c.open_tables.new.disk c.hold_led.new.disk ⊥ three c.in_ok-lower.ensures.no_change in
    let five = then_call d c.args.disk.now c.hold_led.new.disk c.read_logs.new.disk ⊥ four c.in_ok-logs.ensures.no_change in
    calm_handed d c.args.disk.now c.read_logs.new.disk (g.D.Reader.Reader.faults c.open_tables.new.reader) c.in_err-findings.field-0.0
    c.from_residual-in_err-findings.result c.from_residual-in_err-findings.ensures.0 c.from_residual-in_err-findings.ensures.1
    c.in_err-findings.ensures.no_fault five

pub returns-in_err-reserve-clause-no_change : goal.returns-in_err-reserve-clause-no_change
returns-in_err-reserve-clause-no_change g c =
    let d = g.D.Watched in
    let two = then_call d c.args.disk.now c.list_names.new.disk c.current_state.new.disk ⊥ c.in_ok-names.ensures.no_change
    c.in_ok-state.ensures.no_change in
    let three = then_call d c.args.disk.now c.current_state.new.disk c.open_tables.new.disk ⊥ two c.in_ok-levels.ensures.no_change in
    let four = then_call d c.args.disk.now c.open_tables.new.disk c.hold_led.new.disk ⊥ three c.in_ok-lower.ensures.no_change in
    let five = then_call d c.args.disk.now c.hold_led.new.disk c.read_logs.new.disk ⊥ four c.in_ok-logs.ensures.no_change in
    calm_handed d c.args.disk.now c.read_logs.new.disk (g.D.Reader.Reader.faults c.open_tables.new.reader) why.NoMemory
    c.from_residual-in_err-reserve.result c.from_residual-in_err-reserve.ensures.0 c.from_residual-in_err-reserve.ensures.1 (λ none. none)
    five

pub returns-clause-no_change : goal.returns-clause-no_change
returns-clause-no_change g c =
    let d = g.D.Watched in
    let two = then_call d c.args.disk.now c.list_names.new.disk c.current_state.new.disk ⊥ c.in_ok-names.ensures.no_change
    c.in_ok-state.ensures.no_change in
    let three = then_call d c.args.disk.now c.current_state.new.disk c.open_tables.new.disk ⊥ two c.in_ok-levels.ensures.no_change in
    let four = then_call d c.args.disk.now c.open_tables.new.disk c.hold_led.new.disk ⊥ three c.in_ok-lower.ensures.no_change in
    then_call d c.args.disk.now c.hold_led.new.disk c.read_logs.new.disk ⊥ four c.in_ok-logs.ensures.no_change

-- ---- the reader

pub returns-in_err-levels-clause-unread : goal.returns-in_err-levels-clause-unread
returns-in_err-levels-clause-unread g c state read told is none =
    c.in_err-levels.ensures.unread
    (none c.in_ok-state.state (c.in_ok-state.ensures.says state read (c.in_ok-names.ensures.no_change.told ∙ told) is))

pub returns-in_err-levels-clause-read_fault : goal.returns-in_err-levels-clause-read_fault
returns-in_err-levels-clause-read_fault g c some =
    fault_answered c.in_err-levels.field-0.0 c.from_residual-in_err-levels.result c.from_residual-in_err-levels.ensures.0
    c.from_residual-in_err-levels.ensures.1 (c.in_err-levels.ensures.read_fault some)

-- ---- runs

pub returns-clause-runs : goal.returns-clause-runs
returns-clause-runs g c =
    subst (λ (v : _). All IsOneRun v.items) (sym c.in_ok-findings.ensures.frozen) c.in_ok-logs.ensures.runs
