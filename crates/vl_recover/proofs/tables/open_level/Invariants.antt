use Rattle.std.proofs.Common.{◌≡◌, drop}
use Rattle.std.specs.Prelude.{Some}
use Rattle.vl_disk.specs.Faults.{NoneCounted, never}
use Rattle.vl_disk.specs.Calls.{ChangesNothing}
use Rattle.vl_disk.specs.Crash.{Image}
use Rattle.vl_disk.specs.DiskState.{DiskState}
use Rattle.vl_disk.specs.Started.{IsRead}
use Rattle.vl_recover.specs.opening.FoundTables.{found_level}
use Rattle.vl_recover.specs.opening.HeldFiles.{AreReadTables}
use Rattle.vl_recover.proofs.opening.NamingTables.{AreOpened}
use Rattle.vl_recover.proofs.tables.open_level.Given as goal

abbrev pub invariant-loop-number : goal.invariant-loop-number
invariant-loop-number g l = record {
  still : ChangesNothing g.D.Watched l.fn.disk l.disk ⊥;
  fresh : NoneCounted (g.D.Reader.Reader.faults l.reader);
  steady : g.D.Reader.Reader.faults l.fn.reader ≡ never → g.D.Reader.Reader.faults l.reader ≡ never;
  so_far : (state : DiskState) (read : Image) → g.D.Watched.told l.fn.disk ≡ Some state → IsRead read state
      → AreOpened read l.is_deeper l.tables (found_level l.opened) (drop l.number-index l.tables);
  held : (state : DiskState) (read : Image) → g.D.Watched.told l.fn.disk ≡ Some state → IsRead read state
      → AreReadTables g.D.Held.HeldFile.bytes read l.opened.items;
}
