use Rattle.std.proofs.Common.{◌≡◌, ◌∙◌, ap, refl, subst, sym}
use Rattle.std.specs.Prelude.{Some}
use Rattle.std.specs.FinMap.{get}
use Rattle.vl_disk.specs.DiskState.{file_at}
use Rattle.vl_disk.specs.laws.Counting.{never_fails}
use Rattle.vl_disk.specs.declared.name.Name.TheVariants.{Table}
use Rattle.vl_recover.specs.declared.fails.OpenError.{OpenError}
use Rattle.vl_recover.specs.opening.OpenedTables.{IsNoTable}
use Rattle.vl_recover.specs.opening.Results.{HasFailed, recovery_by}
use Rattle.vl_table.specs.declared.table.Table.{Table as OpenedTable}
use Rattle.vl_recover.proofs.opening.Looking.{as_read}
use Rattle.vl_recover.proofs.opening.OneTable.{fault_read, table_fails, table_reads}
use Rattle.vl_recover.proofs.one_table.open_table.Goals as goal

pub returns-in-Ok-clause-answer : goal.returns-in-Ok-clause-answer
returns-in-Ok-clause-answer g c = λ state read told is.
    let name = Table c.args.number in
    let bytes = (file_at state name).bytes in
    let there = ((c.requires.lists state told).all name).0 (c.has.ensures.0 c.if-not-has.false) in
    let stands : get read name ≡ Some bytes = as_read read state name bytes is there refl in
    table_reads read c.args.number bytes stands c.in-Ok.table c.in-Ok.ensures.number
    (c.in-Ok.ensures.answers.answer bytes (c.in_ok-held.ensures.bytes state told))

pub returns-in-Err-clause-answer : goal.returns-in-Err-clause-answer
returns-in-Err-clause-answer g c = λ state read told is.
    let name = Table c.args.number in
    let bytes = (file_at state name).bytes in
    let there = ((c.requires.lists state told).all name).0 (c.has.ensures.0 c.if-not-has.false) in
    let stands : get read name ≡ Some bytes = as_read read state name bytes is there refl in
    subst (IsNoTable read c.args.number) (sym c.from.ensures)
    (table_fails read c.args.number bytes stands g.row.D-Held.Denot c.in-Err.fault c.in-Err.ensures.answers.named
    (c.in-Err.ensures.answers.answer bytes (c.in_ok-held.ensures.bytes state told)))

pub returns-in-Ok-clause-held : goal.returns-in-Ok-clause-held
returns-in-Ok-clause-held g c = λ state read told is.
    let name = Table c.args.number in
    let bytes = (file_at state name).bytes in
    let there = ((c.requires.lists state told).all name).0 (c.has.ensures.0 c.if-not-has.false) in
    let stands : get read name ≡ Some bytes = as_read read state name bytes is there refl in
    ap g.D.Held.HeldFile.bytes c.in-Ok.ensures.held ∙ c.in_ok-held.ensures.bytes state told ∙ sym stands

pub returns-in-Err-clause-read_fault : goal.returns-in-Err-clause-read_fault
returns-in-Err-clause-read_fault g c some =
    subst (λ (e : OpenError). HasFailed (recovery_by e)) (sym c.from.ensures)
    (fault_read (OpenedTable g.row.D-Held.Denot) _ _ c.in-Err.fault c.requires.fresh c.in-Err.ensures.answers.cause some)

pub returns-in-Ok-clause-steady : goal.returns-in-Ok-clause-steady
returns-in-Ok-clause-steady g c sure = never_fails _ _ _ c.in-Ok.ensures.answers.cause sure

pub returns-in-Err-clause-steady : goal.returns-in-Err-clause-steady
returns-in-Err-clause-steady g c sure = never_fails _ _ _ c.in-Err.ensures.answers.cause sure
