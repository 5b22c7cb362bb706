use Rattle.std.proofs.Common.{List, ap, refl, ◌++◌, ◌∙◌}
use Rattle.std.specs.List.{filter}
use Rattle.std.specs.Prelude.{map}
use Rattle.vl_version.specs.laws.LevelWalk.{levels_begin, levels_end, levels_next}
use Rattle.vl_steps.proofs.InputNumbers.{map-some}
use Rattle.vl_steps.proofs.install.input_numbers.Goals as goal
use Rattle.vl_table.specs.Tables.{number_of}
use Rattle.vl_table.specs.declared.table.Table.{Table}
use Rattle.vl_version.specs.Bases.{is_input}
use Rattle.vl_version.specs.levels.LevelTables.{all_tables}

pub loop-level-init : goal.loop-level-init
loop-level-init g c =
    levels_begin (λ ts. map number_of (filter (is_input c.args.inputs.now) ts)) (map-some number_of (is_input c.args.inputs.now))
    c.args.levels.now.newest.items c.deeper-level-items.result.now
    c.new-numbers.result.items c.put_inputs.new.numbers.items refl c.new-numbers.ensures.items
    (c.in_ok-put_inputs.ensures
    ∙ ap (λ (ts : List (Table g.row.H.Denot)). c.new-numbers.result.items ++ map number_of (filter (is_input c.args.inputs.now) ts))
    c.newest.ensures)

pub loop-level-preserved : goal.loop-level-preserved
loop-level-preserved g c =
    levels_next (λ ts. map number_of (filter (is_input c.args.inputs.now) ts)) (map-some number_of (is_input c.args.inputs.now))
    c.args.levels.now.newest.items c.deeper-level-items.result.now c.loop-level.numbers.items
    c.put_inputs-in-loop-level.new.numbers.items c.loop-level.level-index
    c.level-item.result c.loop-level-test.true c.level-item.is c.loop-level.invariant
    (c.in_ok-put_inputs-2.ensures
    ∙ ap (λ (ts : List (Table g.row.H.Denot)). c.loop-level.numbers.items ++ map number_of (filter (is_input c.args.inputs.now) ts))
    c.as_slice.ensures)

pub returns : goal.returns
returns g c =
    levels_end (λ ts. map number_of (filter (is_input c.args.inputs.now) ts)) (map-some number_of (is_input c.args.inputs.now))
    c.args.levels.now.newest.items c.deeper-level-items.result.now c.loop-level.numbers.items c.loop-level.level-index
    c.loop-level-test.false c.loop-level.invariant
    ∙ ap (λ (ls : List (List (Table g.row.H.Denot))). map number_of
    (filter (is_input c.args.inputs.now) (c.args.levels.now.newest.items ++ all_tables ls)))
    c.deeper-level-items.ensures
