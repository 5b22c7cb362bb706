use Rattle.std.proofs.Common.{ap, arith, length}
use Rattle.vl_manifest.specs.laws.TableLists.{put_past}
use Rattle.vl_manifest.proofs.levels.Levels.put.Goals as goal

pub returns-then-level-as_slice : goal.returns-then-level-as_slice
returns-then-level-as_slice c =
    put_past c.args.level c.args.position c.args.table c.args.self.now (omega (arith, ap length c.as_slice.ensures))
