use Rattle.std.proofs.Common.{ℕ, ap, ◌∙◌}
use Rattle.vl_compact.proofs.Searching.{breaks_there, fails_there}
use Rattle.vl_compact.proofs.Lefts.{item_there}
use Rattle.vl_table.specs.declared.body.shape.TableShape.{TableShape}
use Rattle.vl_compact.proofs.disorder.disorder_in.Goals as goal

pub returns-in-Ok-Some-clause-may : goal.returns-in-Ok-Some-clause-may
returns-in-Ok-Some-clause-may g c = λ after.
    let out = rw c.in-Ok-Some.field-0-is at c.in-Ok-Some.ensures.order in
    breaks_there g.H.HeldFile.bytes after c.args.tables.now c.table-item.result c.loop-table.table-index
    (item_there c.args.tables.now c.loop-table.table-index c.table-item.result c.loop-table-test.true c.table-item.is)
    c.shape.result.now.number c.in-Ok-Some.place (ap (λ (s : TableShape). s.number) c.shape.ensures) out

pub returns-in-Err-clause-may : goal.returns-in-Err-clause-may
returns-in-Err-clause-may g c = λ after.
    fails_there g.H.HeldFile.bytes after c.args.tables.now c.table-item.result c.loop-table.table-index
    (item_there c.args.tables.now c.loop-table.table-index c.table-item.result c.loop-table-test.true c.table-item.is)
    c.in-Err.fault c.in-Err.ensures.may_fail c.in-Err.ensures.order
