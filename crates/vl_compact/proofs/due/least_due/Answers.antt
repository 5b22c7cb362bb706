use Rattle.std.specs.List.{AllZip}
use Rattle.std.proofs.Common.{List, length, ap, sym, subst, refl, ◌∙◌, arith}
use Rattle.vl_compact.proofs.DueLaws.{few_full, full_here, full_next, many_full, top_due, top_not}
use Rattle.vl_compact.specs.Due.{has_due}
use Rattle.vl_compact.specs.Laid.{AreTablesOf, IsTableOf, by_level}
use Rattle.vl_table.specs.declared.table.Table.{Table}
use Rattle.vl_compact.proofs.due.least_due.Goals as goal

pub returns-then-newest-ge-DUE_TABLES-clause-due : goal.returns-then-newest-ge-DUE_TABLES-clause-due
returns-then-newest-ge-DUE_TABLES-clause-due g c = λ ls are.
    let levels = c.args.levels.now in
    top_due (IsTableOf g.H.HeldFile.bytes) levels.newest.items levels.deeper.items ls are
    (omega (arith, c.if-newest-ge-DUE_TABLES.true, ap length c.newest.ensures))

pub returns-clause-due : goal.returns-clause-due
returns-clause-due g c = λ ls are.
    let levels = c.args.levels.now in
    top_not (IsTableOf g.H.HeldFile.bytes) levels.newest.items levels.deeper.items ls _ are
    (omega (arith, c.if-newest-ge-DUE_TABLES.false, ap length c.newest.ensures))
    (λ ds some. c.least_deeper.ensures.due ds
    (subst (λ (l : List (List (Table g.row.H.Denot))). AllZip (AreTablesOf g.H.HeldFile.bytes) l ds) (sym c.deeper.ensures) some))

pub returns-then-newest-ge-DUE_TABLES-clause-some : goal.returns-then-newest-ge-DUE_TABLES-clause-some
returns-then-newest-ge-DUE_TABLES-clause-some g c =
    let levels = c.args.levels.now in
    sym (full_here g.H.HeldFile.size 0 levels.newest.items (by_level levels) levels.deeper.items refl
    (many_full g.H.HeldFile.size levels.newest.items (omega (arith, c.if-newest-ge-DUE_TABLES.true, ap length c.newest.ensures))))

pub returns-clause-some : goal.returns-clause-some
returns-clause-some g c =
    let levels = c.args.levels.now in
    c.least_deeper.ensures.some ∙ ap (has_due g.H.HeldFile.size 1) c.deeper.ensures
    ∙ sym (full_next g.H.HeldFile.size 0 levels.newest.items (by_level levels) levels.deeper.items refl
    (few_full g.H.HeldFile.size levels.newest.items (omega (arith, c.if-newest-ge-DUE_TABLES.false, ap length c.newest.ensures))))
