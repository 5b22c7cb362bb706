use Rattle.std.proofs.Common.{refl}
use Rattle.vl_table.specs.body.Footer.{points}
use Rattle.vl_table.specs.laws.WritingLaws.{writes_one}
use Rattle.vl_table.proofs.writer.points.write_points.Goals as goal

pub loop-point-preserved : goal.loop-point-preserved
loop-point-preserved c =
    writes_one points c.args.list.now c.loop-point.point-index _ (record { segment = 0; bytes = 0 })
    c.loop-point.out.items c.write_point.new.out.items _
    c.loop-point-test.true refl c.in_ok-write_point.ensures.written c.loop-point.invariant
