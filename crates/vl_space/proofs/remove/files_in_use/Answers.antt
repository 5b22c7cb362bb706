use Rattle.std.proofs.Common.{List, ap, ◌++◌, ◌∙◌}
use Rattle.std.specs.Prelude.{map}
use Rattle.vl_version.specs.laws.LevelWalk.{levels_next}
use Rattle.vl_space.specs.laws.Retired.Changing.{map-both}
use Rattle.vl_space.proofs.remove.files_in_use.Goals as goal
use Rattle.vl_table.specs.Tables.{number_of}
use Rattle.vl_table.specs.declared.table.Table.{Table}

pub loop-level-preserved : goal.loop-level-preserved
loop-level-preserved g c = record {
  tables = levels_next (map number_of) (map-both number_of) c.args.core.now.version.behind.levels.newest.items
      c.deeper-level-items.result.now c.loop-level.in_use.tables.items c.put_numbers-in-loop-level.new.numbers.items
      c.loop-level.level-index c.level-item.result c.loop-level-test.true c.level-item.is c.loop-level.invariant.tables
      (c.in_ok-put_numbers-2.ensures
      ∙ ap (λ (ts : List (Table g.row.H.Denot)). c.loop-level.in_use.tables.items ++ map number_of ts) c.as_slice.ensures);
  logs = c.loop-level.invariant.logs;
}
