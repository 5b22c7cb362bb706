use Rattle.std.proofs.Common.{List, ap, refl, ◌++◌, ◌∙◌}
use Rattle.std.specs.Borrow.{Bor}
use Rattle.std.specs.Prelude.{map}
use Rattle.vl_table.specs.declared.body.footer.Footer.{Footer}
use Rattle.vl_version.specs.laws.LevelWalk.{levels_begin, levels_end, levels_next}
use Rattle.vl_space.specs.laws.Footers.{points-append}
use Rattle.vl_space.proofs.collect.footers_of.Goals as goal
use Rattle.vl_space.specs.Collecting.{points_in}
use Rattle.vl_table.specs.declared.table.Table.{Table}
use Rattle.vl_version.specs.levels.LevelTables.{all_tables}

pub loop-level-init : goal.loop-level-init
loop-level-init g c =
    levels_begin points_in points-append c.args.levels.now.newest.items c.deeper-level-items.result.now
    (map (λ (f : Bor Footer). f.now.points.items) c.new-footers.result.items)
    (map (λ (f : Bor Footer). f.now.points.items) c.put_footers.new.footers.items) refl
    (ap (λ (fs : List (Bor Footer)). map (λ (f : Bor Footer). f.now.points.items) fs) c.new-footers.ensures.items)
    (c.in_ok-put_footers.ensures
    ∙ ap (λ (ts : List (Table g.row.H.Denot)).
    map (λ (f : Bor Footer). f.now.points.items) c.new-footers.result.items ++ points_in ts) c.newest.ensures)

pub loop-level-preserved : goal.loop-level-preserved
loop-level-preserved g c =
    levels_next points_in points-append c.args.levels.now.newest.items c.deeper-level-items.result.now
    (map (λ (f : Bor Footer). f.now.points.items) c.loop-level.footers.items)
    (map (λ (f : Bor Footer). f.now.points.items) c.put_footers-in-loop-level.new.footers.items) c.loop-level.level-index
    c.level-item.result c.loop-level-test.true c.level-item.is c.loop-level.invariant
    (c.in_ok-put_footers-2.ensures
    ∙ ap (λ (ts : List (Table g.row.H.Denot)).
    map (λ (f : Bor Footer). f.now.points.items) c.loop-level.footers.items ++ points_in ts) c.as_slice.ensures)

pub returns : goal.returns
returns g c =
    levels_end points_in points-append c.args.levels.now.newest.items c.deeper-level-items.result.now
    (map (λ (f : Bor Footer). f.now.points.items) c.loop-level.footers.items) c.loop-level.level-index
    c.loop-level-test.false c.loop-level.invariant
    ∙ ap (λ (ls : List (List (Table g.row.H.Denot))). points_in (c.args.levels.now.newest.items ++ all_tables ls))
    c.deeper-level-items.ensures
