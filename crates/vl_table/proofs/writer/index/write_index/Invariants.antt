use Rattle.std.proofs.Common.{◌≡◌, ◌++◌, drop}
use Rattle.vl_table.specs.body.Index.{places}
use Rattle.vl_table.specs.body.Lists.{items_bytes}
use Rattle.vl_table.proofs.writer.index.write_index.Given as goal

abbrev pub invariant-loop-block : goal.invariant-loop-block
invariant-loop-block l = l.out.items ++ items_bytes places (drop l.block-index l.blocks) ≡ l.initial.out.items
    ++ items_bytes places l.blocks
