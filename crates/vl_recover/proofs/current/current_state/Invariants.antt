use Rattle.std.proofs.Common.{◌≡◌, ◌-◌, length, take}
use Rattle.std.specs.Prelude.{Some}
use Rattle.vl_disk.specs.Calls.{ChangesNothing}
use Rattle.vl_disk.specs.Crash.{Image}
use Rattle.vl_disk.specs.DiskState.{DiskState}
use Rattle.vl_disk.specs.Started.{IsRead}
use Rattle.vl_recover.specs.opening.Leading.{ArePassed}
use Rattle.vl_recover.proofs.opening.Naming.{ManifestsLeft}
use Rattle.vl_recover.proofs.current.current_state.Given as goal

abbrev pub invariant-loop-i : goal.invariant-loop-i
invariant-loop-i g l = record {
  still : ChangesNothing g.D.Watched l.fn.disk l.disk ⊥;
  left : ManifestsLeft l.names l.above (take (length l.names - l.i) l.names);
  passed : (state : DiskState) (read : Image) → g.D.Watched.told l.fn.disk ≡ Some state → IsRead read state
      → ArePassed read l.above l.newest;
}
