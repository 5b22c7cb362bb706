use Rattle.std.specs.Prelude.{Some, None}
use Rattle.std.specs.List.{slice_get}
use Rattle.std.specs.Option.{option_copied}
use Rattle.std.proofs.Common.{◌≡◌, ◌-◌, ◌∙◌, List, ap, sym, subst}
use Rattle.vl_compact.proofs.LevelAt.{deeper_is, front_is, no_deeper}
use Rattle.vl_compact.specs.Laid.{AreTablesOf, IsTableOf}
use Rattle.vl_engine_model.specs.Levels.{level_at}
use Rattle.vl_model.specs.laws.Places.{slice_get-lent}
use Rattle.vl_table.specs.declared.table.Table.{Table}
use Rattle.vl_compact.proofs.choice.level_at.Goals as goal

pub returns-then-level-eq0 : goal.returns-then-level-eq0
returns-then-level-eq0 g c = λ ls are.
    let levels = c.args.levels.now in
    subst (λ (l : List (Table g.row.H.Denot)). AreTablesOf g.H.HeldFile.bytes l (level_at c.args.level ls)) (sym c.newest.ensures)
    (front_is (IsTableOf g.H.HeldFile.bytes) levels.newest.items levels.deeper.items ls c.args.level are c.if-level-eq0.true)

pub returns-in-Some : goal.returns-in-Some
returns-in-Some g c = λ ls are.
    let levels = c.args.levels.now in
    let i = c.args.level - 1 in
    let here : slice_get levels.deeper.items i ≡ Some c.as_slice.result.now =
    ap (λ (l : List (List (Table g.row.H.Denot))). slice_get l i) (sym c.deeper.ensures)
    ∙ sym (slice_get-lent c.deeper.result.now i c.get.result c.get.ensures.lookup)
    ∙ ap option_copied c.in-Some.is ∙ ap Some (sym c.as_slice.ensures) in
    deeper_is (IsTableOf g.H.HeldFile.bytes) levels.newest.items levels.deeper.items ls c.args.level c.as_slice.result.now are
    c.if-level-eq0.false here

pub returns-in-None : goal.returns-in-None
returns-in-None g c = λ ls are.
    let levels = c.args.levels.now in
    let i = c.args.level - 1 in
    let here : slice_get levels.deeper.items i ≡ None =
    ap (λ (l : List (List (Table g.row.H.Denot))). slice_get l i) (sym c.deeper.ensures)
    ∙ sym (slice_get-lent c.deeper.result.now i c.get.result c.get.ensures.lookup)
    ∙ ap option_copied c.in-None.is in
    no_deeper (IsTableOf g.H.HeldFile.bytes) levels.newest.items levels.deeper.items ls c.args.level are c.if-level-eq0.false here
