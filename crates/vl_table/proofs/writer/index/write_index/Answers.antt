use Rattle.vl_table.specs.body.Index.{places}
use Rattle.vl_table.specs.laws.WritingLaws.{writes_one}
use Rattle.vl_table.proofs.writer.index.write_index.Goals as goal

pub loop-block-preserved : goal.loop-block-preserved
loop-block-preserved c =
    writes_one places c.args.blocks.now c.loop-block.block-index c.block-item.result c.block-item.result
    c.loop-block.out.items c.write_place.new.out.items _
    c.loop-block-test.true c.block-item.is c.in_ok-write_place.ensures.written c.loop-block.invariant
