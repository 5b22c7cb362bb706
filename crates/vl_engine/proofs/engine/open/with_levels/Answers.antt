use Rattle.std.proofs.Common.{◌≡◌, ◌∷◌, ◌++◌, ◌∙◌, Global, List, Vec, ap, map, sym}
use Rattle.std.proofs.lemmas.Iterator.Adapters.{YieldsList-from_vec}
use Rattle.std.proofs.lemmas.Iterator.Consumers.{YieldsList-end}
use Rattle.vl_engine.proofs.Leveled.{leveled}
use Rattle.vl_space.specs.laws.Retired.Changing.{map-same}
use Rattle.vl_table.specs.declared.table.Table.{Table}
use Rattle.vl_engine.proofs.engine.open.with_levels.Goals as goal

pub returns : goal.returns
returns g c =
    let others = c.remove-newest.new.self in
    let items = map (λ (v : Vec (Table g.row.H.Denot) Global). v.items) in
    let all : c.loop-level.yielded ≡ others.items = sym (map-same c.loop-level.yielded)
    ∙ (YieldsList-end (YieldsList-from_vec {s = c.into_iter-level-iterator.result} others.items
    c.into_iter-level-iterator.ensures.into_iter_gives.0
    (c.into_iter-level-iterator.ensures.into_iter_gives.1 ∙ others.ok.0)) c.loop-level.yielded c.loop-level.level-iterator
    c.loop-level.yielded_by c.next.result c.next.new.self c.in-None.is c.next.ensures.steps).0 in
    leveled c.args.tables.items c.remove-newest.result others.items c.new-2.result c.requires.some
    c.remove-newest.ensures.value c.remove-newest.ensures.items c.new-2.ensures.newest
    (ap (λ (v : Vec (List (Table g.row.H.Denot)) Global). v.items) c.new-2.ensures.deeper ∙ c.loop-level.invariant.levels
    ∙ ap (λ (l : List (List (Table g.row.H.Denot))). l ++ items c.loop-level.yielded) c.requires.empty ∙ ap items all)
