use Rattle.std.specs.List.{AllZip}
use Rattle.std.proofs.Common.{List, ap, sym, subst, ◌∙◌}
use Rattle.vl_compact.proofs.Into.{behind_into, front_into, leading_behind, leading_first}
use Rattle.vl_compact.specs.Due.{has_leading}
use Rattle.vl_compact.specs.Laid.{AreTablesOf, IsTableOf}
use Rattle.vl_table.specs.declared.table.Table.{Table}
use Rattle.vl_version.specs.levels.LevelTables.{all_tables}
use Rattle.vl_compact.proofs.choice.first_into.Goals as goal

pub returns-in-Some-clause-laid : goal.returns-in-Some-clause-laid
returns-in-Some-clause-laid g c = λ ls are.
    let levels = c.args.levels.now in
    front_into (IsTableOf g.H.HeldFile.bytes) c.args.segment levels.newest.items levels.deeper.items ls c.in-Some.table.now are
    (λ ts some. c.in-Some.ensures.laid ts
    (subst (λ (l : List (Table g.row.H.Denot)). AreTablesOf g.H.HeldFile.bytes l ts) (sym c.newest.ensures) some))

pub returns-in-None-clause-laid : goal.returns-in-None-clause-laid
returns-in-None-clause-laid g c = λ ls are.
    let levels = c.args.levels.now in
    behind_into (IsTableOf g.H.HeldFile.bytes) c.args.segment levels.newest.items levels.deeper.items ls _ are
    (λ ts some. c.in-None.ensures.laid ts
    (subst (λ (l : List (Table g.row.H.Denot)). AreTablesOf g.H.HeldFile.bytes l ts) (sym c.newest.ensures) some))
    (λ ds some. c.first_deeper.ensures.laid ds
    (subst (λ (l : List (List (Table g.row.H.Denot))). AllZip (AreTablesOf g.H.HeldFile.bytes) l ds) (sym c.deeper.ensures) some))

pub returns-in-Some-clause-leads : goal.returns-in-Some-clause-leads
returns-in-Some-clause-leads g c =
    let levels = c.args.levels.now in
    sym (leading_first c.args.segment levels.newest.items (all_tables levels.deeper.items)
    (sym (c.in-Some.ensures.leads ∙ ap (has_leading c.args.segment) c.newest.ensures)))

pub returns-in-None-clause-leads : goal.returns-in-None-clause-leads
returns-in-None-clause-leads g c =
    let levels = c.args.levels.now in
    c.first_deeper.ensures.leads ∙ ap (λ (l : List (List (Table g.row.H.Denot))). has_leading c.args.segment (all_tables l)) c.deeper.ensures
    ∙ sym (leading_behind c.args.segment levels.newest.items (all_tables levels.deeper.items)
    (sym (c.in-None.ensures.leads ∙ ap (has_leading c.args.segment) c.newest.ensures)))
