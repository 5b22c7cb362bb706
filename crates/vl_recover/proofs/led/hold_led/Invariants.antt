use Rattle.std.proofs.Common.{◌≡◌, drop}
use Rattle.std.specs.Prelude.{Some}
use Rattle.vl_disk.specs.Calls.{ChangesNothing}
use Rattle.vl_disk.specs.Crash.{Image}
use Rattle.vl_disk.specs.DiskState.{DiskState}
use Rattle.vl_disk.specs.Started.{IsRead}
use Rattle.vl_recover.proofs.opening.LedInto.{AreHeldSoFar}
use Rattle.vl_recover.proofs.opening.NamingTables.{AreTested}
use Rattle.vl_recover.proofs.led.hold_led.Given as goal

abbrev pub invariant-loop-number : goal.invariant-loop-number
invariant-loop-number g l = record {
  still : ChangesNothing g.D.Watched l.fn.disk l.disk ⊥;
  tested : (state : DiskState) (read : Image) → g.D.Watched.told l.fn.disk ≡ Some state → IsRead read state
      → AreTested read l.led (drop l.number-index l.led);
  held : (state : DiskState) (read : Image) → g.D.Watched.told l.fn.disk ≡ Some state → IsRead read state
      → AreHeldSoFar g.D.Held.HeldFile.bytes read l.head l.led l.logs.items l.number-index;
}
