use Rattle.std.specs.Prelude.{Option}
use Rattle.std.proofs.Common.{◌≡◌, ◌+◌, ◌∙◌, List, [], ap, sym, subst}
use Rattle.std.proofs.lemmas.Result.{IfOk-weaker}
use Rattle.vl_compact.proofs.Choices.{due_all, due_one, none_next, of_some}
use Rattle.vl_compact.proofs.Into.{none_both}
use Rattle.vl_compact.specs.Laid.{AreTablesOf, IsTableOf}
use Rattle.vl_engine_model.specs.Levels.{due_inputs, least_table, level_at, one_or_none, with_next}
use Rattle.vl_engine_model.specs.declared.table.Table as laid
use Rattle.vl_table.specs.declared.table.Table.{Table}
use Rattle.vl_compact.proofs.plan.inputs_at.Goals as goal

pub returns-then-level-eq0 : goal.returns-then-level-eq0
returns-then-level-eq0 g c =
    IfOk-weaker c.with_next.result _ _
    (λ all so ls are.
    let ts = level_at c.args.level ls in
    let us = level_at (c.args.level + 1) ls in
    subst (λ (l : List laid.Table). AreTablesOf g.H.HeldFile.bytes all.items (with_next l us)) (due_all c.args.level ts c.if-level-eq0.true)
    (so ts us (c.level_at-tables.ensures ls are) (c.level_at-next.ensures ls are)))
    c.with_next.ensures

pub returns-in-Some : goal.returns-in-Some
returns-in-Some g c =
    IfOk-weaker c.one_with_next.result _ _
    (λ all so ls are.
    let ts = level_at c.args.level ls in
    let us = level_at (c.args.level + 1) ls in
    subst (λ (l : List laid.Table). AreTablesOf g.H.HeldFile.bytes all.items (with_next l us))
    (due_one c.args.level ts c.if-level-eq0.false)
    (of_some (IsTableOf g.H.HeldFile.bytes)
    (λ (o : Option laid.Table). AreTablesOf g.H.HeldFile.bytes all.items (with_next (one_or_none o) us))
    c.in-Some.table.now (least_table ts) (c.in-Some.ensures ts (c.level_at-tables.ensures ls are))
    (λ t is. so t us is (c.level_at-next.ensures ls are))))
    c.one_with_next.ensures

pub returns-in-None : goal.returns-in-None
returns-in-None g c = λ ls are.
    let ts = level_at c.args.level ls in
    let us = level_at (c.args.level + 1) ls in
    let none : one_or_none (least_table ts) ≡ [] =
    ap one_or_none (none_both (IsTableOf g.H.HeldFile.bytes) (least_table ts) (c.in-None.ensures ts (c.level_at-tables.ensures ls are))) in
    let all : [] ≡ with_next (due_inputs c.args.level ts) us =
    sym (none_next us) ∙ ap (λ (l : List laid.Table). with_next l us) (sym none ∙ due_one c.args.level ts c.if-level-eq0.false) in
    subst (AreTablesOf g.H.HeldFile.bytes c.new.result.items) all
    (subst (λ (l : List (Table g.row.H.Denot)). AreTablesOf g.H.HeldFile.bytes l []) (sym c.new.ensures.items) tt)
