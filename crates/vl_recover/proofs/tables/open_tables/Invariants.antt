use Rattle.std.proofs.Common.{◌≡◌, drop, length}
use Rattle.std.specs.Prelude.{Some}
use Rattle.vl_disk.specs.Faults.{NoneCounted, never}
use Rattle.vl_disk.specs.Calls.{ChangesNothing}
use Rattle.vl_disk.specs.Crash.{Image}
use Rattle.vl_disk.specs.DiskState.{DiskState}
use Rattle.vl_disk.specs.Started.{IsRead}
use Rattle.vl_recover.specs.opening.FoundTables.{all_found}
use Rattle.vl_recover.specs.opening.HeldFiles.{AreReadTables, tables_of}
use Rattle.vl_recover.proofs.opening.NamingTables.{AreLevelsOpened}
use Rattle.vl_recover.proofs.tables.open_tables.Given as goal

abbrev pub invariant-loop-list : goal.invariant-loop-list
invariant-loop-list g l = record {
  still : ChangesNothing g.D.Watched l.fn.disk l.disk ⊥;
  fresh : NoneCounted (g.D.Reader.Reader.faults l.reader);
  steady : g.D.Reader.Reader.faults l.fn.reader ≡ never → g.D.Reader.Reader.faults l.reader ≡ never;
  so_far : (state : DiskState) (read : Image) → g.D.Watched.told l.fn.disk ≡ Some state → IsRead read state
      → AreLevelsOpened read l.list-items (all_found l.opened) l.is_deeper (drop l.list-index l.list-items);
  held : (state : DiskState) (read : Image) → g.D.Watched.told l.fn.disk ≡ Some state → IsRead read state
      → AreReadTables g.D.Held.HeldFile.bytes read (tables_of l.opened.items);
  counted : length l.opened.items ≡ l.list-index;
}
