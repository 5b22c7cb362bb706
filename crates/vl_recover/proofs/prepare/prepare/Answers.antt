use Rattle.std.proofs.Common.{◌∙◌, List, subst, sym}
use Rattle.std.specs.Prelude.{All}
use Rattle.vl_manifest.specs.declared.waiting.Waiting.{Waiting}
use Rattle.vl_recover.specs.opening.HeldFiles.{AreWaiting}
use Rattle.vl_recover.specs.opening.Results.{IsOneRun}
use Rattle.vl_recover.specs.laws.opening.ReadImage.{read_image}
use Rattle.vl_recover.proofs.opening.Decided.{answer_by, decided_answer, decided_at, decided_prepared, decided_ready}
use Rattle.vl_recover.proofs.repairs.Fitted.{found_fits}
use Rattle.vl_recover.proofs.opening.Numbers.{decided_numbers, decided_table}
use Rattle.vl_recover.proofs.repairs.Holding.{decided_holds}
use Rattle.vl_recover.proofs.opening.HandedCalls.{fault_answered}
use Rattle.vl_recover.proofs.opening.Unmoved.{then_call}
use Rattle.vl_recover.proofs.prepare.prepare.Goals as goal

pub returns-in_err-prepared-clause-answer : goal.returns-in_err-prepared-clause-answer
returns-in_err-prepared-clause-answer g c state read told is =
    answer_by read c.from_residual-in_err-prepared.result c.in_err-prepared.field-0.0 c.from_residual-in_err-prepared.ensures.0
    c.from_residual-in_err-prepared.ensures.1
    (decided_answer read c.in_ok-found.found ((c.in_ok-found.ensures.answer state read told is).0) c.in_err-prepared.field-0.0
    c.in_err-prepared.ensures)

pub returns-clause-answer : goal.returns-clause-answer
returns-clause-answer g c state read told is =
    let found = c.in_ok-found.ensures.answer state read told is in
    decided_ready read c.in_ok-found.found found.0 c.in_ok-prepared.prepared c.in_ok-prepared.ensures _ found.1

pub returns-clause-fits : goal.returns-clause-fits
returns-clause-fits g c state told =
    let (read, is) = read_image state in
    let before = sym (c.ready_all.ensures.no_change.told ∙ c.in_ok-found.ensures.no_change.told) ∙ told in
    let prepared = decided_prepared read c.in_ok-found.found ((c.in_ok-found.ensures.answer state read before is).0)
    c.in_ok-prepared.prepared c.in_ok-prepared.ensures in
    found_fits prepared.finds state is _ prepared.plan

pub returns-then-is_err-clause-no_change : goal.returns-then-is_err-clause-no_change
returns-then-is_err-clause-no_change g c = then_call g.D.Watched _ _ _ ⊥ c.in_ok-found.ensures.no_change c.ready_all.ensures.no_change

pub returns-clause-no_change : goal.returns-clause-no_change
returns-clause-no_change g c = then_call g.D.Watched _ _ _ ⊥ c.in_ok-found.ensures.no_change c.ready_all.ensures.no_change

pub ready_all-requires-clause-numbers : goal.ready_all-requires-clause-numbers
ready_all-requires-clause-numbers g c =
    decided_numbers c.in_ok-found.found c.in_ok-found.ensures.numbers c.in_ok-found.ensures.last c.in_ok-prepared.ensures.unused _
    c.in_ok-prepared.ensures.plan

pub returns-clause-numbers : goal.returns-clause-numbers
returns-clause-numbers g c =
    decided_numbers c.in_ok-found.found c.in_ok-found.ensures.numbers c.in_ok-found.ensures.last c.in_ok-prepared.ensures.unused _
    c.in_ok-prepared.ensures.plan

pub returns-in_err-prepared-clause-at : goal.returns-in_err-prepared-clause-at
returns-in_err-prepared-clause-at g c =
    decided_at c.in_ok-found.found (g.D.Watched.told c.args.disk.now) c.from_residual-in_err-prepared.result c.in_err-prepared.field-0.0
    c.from_residual-in_err-prepared.ensures.0 c.from_residual-in_err-prepared.ensures.1 c.in_err-prepared.ensures

pub ready_all-requires-clause-holds : goal.ready_all-requires-clause-holds
ready_all-requires-clause-holds g c = decided_holds c.in_ok-found.found c.in_ok-prepared.prepared c.in_ok-prepared.ensures

pub returns-clause-holds : goal.returns-clause-holds
returns-clause-holds g c = decided_holds c.in_ok-found.found c.in_ok-prepared.prepared c.in_ok-prepared.ensures

pub returns-clause-tables : goal.returns-clause-tables
returns-clause-tables g c state read told is = c.in_ok-found.ensures.tables state read told is

pub returns-clause-seven : goal.returns-clause-seven
returns-clause-seven g c = c.in_ok-found.ensures.seven

pub returns-clause-logs : goal.returns-clause-logs
returns-clause-logs g c state read finds told is = c.in_ok-found.ensures.logs state read finds told is

pub returns-clause-place : goal.returns-clause-place
returns-clause-place g c = c.in_ok-found.ensures.place

pub returns-clause-waiting : goal.returns-clause-waiting
returns-clause-waiting g c state read finds told is =
    subst (λ (ws : List Waiting). AreWaiting finds.opening.state.covered ws finds.opening.logs) (sym c.in_ok-prepared.ensures.waiting)
    (c.in_ok-found.ensures.waiting state read finds told is)

pub returns-clause-numbered : goal.returns-clause-numbered
returns-clause-numbered g c = decided_table c.in_ok-found.found c.in_ok-prepared.prepared.state c.in_ok-prepared.ensures.state

pub returns-in_err-found-clause-read_fault : goal.returns-in_err-found-clause-read_fault
returns-in_err-found-clause-read_fault g c some =
    fault_answered c.in_err-found.field-0.0 c.from_residual.result c.from_residual.ensures.0 c.from_residual.ensures.1
    (c.in_err-found.ensures.read_fault some)

pub returns-clause-runs : goal.returns-clause-runs
returns-clause-runs g c = subst (All IsOneRun) (sym c.in_ok-prepared.ensures.frozen) c.in_ok-found.ensures.runs
