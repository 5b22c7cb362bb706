use Rattle.std.proofs.Common.{◌≡◌, drop}
use Rattle.std.specs.Prelude.{All, Contains, IfSome, Some}
use Rattle.vl_disk.specs.Calls.{ChangesNothing}
use Rattle.vl_disk.specs.Crash.{Image}
use Rattle.vl_disk.specs.DiskState.{DiskState}
use Rattle.vl_disk.specs.Started.{IsRead}
use Rattle.vl_disk.specs.declared.name.Name.TheVariants as kinds
use Rattle.vl_recover.specs.opening.Results.{IsOneRun}
use Rattle.vl_recover.proofs.opening.Naming.{LogsToCome}
use Rattle.vl_recover.proofs.opening.ReadingLogs.{AreReadUpTo}
use Rattle.vl_recover.proofs.logs.read_logs.Given as goal

abbrev pub invariant-loop-name : goal.invariant-loop-name
invariant-loop-name g l = record {
  still : ChangesNothing g.D.Watched l.fn.disk l.disk ⊥;
  come : LogsToCome l.names l.least (drop l.name-index l.names);
  last : IfSome l.so_far.last (λ q. Contains l.names (kinds.Log q.number));
  runs : All IsOneRun l.so_far.frozen.items;
  reads : (state : DiskState) (read : Image) → g.D.Watched.told l.fn.disk ≡ Some state → IsRead read state
      → AreReadUpTo g.D.Held.HeldFile.bytes read l.names l.head l.covered l.least l.fn.lower.items l.so_far;
}
