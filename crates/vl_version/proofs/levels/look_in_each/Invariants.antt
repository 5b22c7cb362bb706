use Rattle.std.proofs.Common.{◌≡◌, take}
use Rattle.std.specs.Option.{option_map}
use Rattle.vl_table.specs.body.Founds.{found_of}
use Rattle.vl_table.specs.Kept.{Files}
use Rattle.vl_table.specs.KeptBlocks.{ReadsOf}
use Rattle.vl_version.proofs.looking.LooksSoFar.{SoFar}
use Rattle.vl_version.proofs.levels.look_in_each.Given as goal

abbrev pub invariant-loop-table : goal.invariant-loop-table
invariant-loop-table g l = record {
  steady : g.R.Reader.faults l.reader.reader ≡ g.R.Reader.faults l.fn.reader.reader;
  so : (files : Files) → ReadsOf g.H.HeldFile.bytes files l.fn.reader l.tables
      → SoFar g.H.HeldFile.bytes files (take l.table-index l.tables) (Unit {0}) (Unit {0}) l.look l.key
      (option_map (found_of l.key) l.fn.newer) (g.R.Reader.faults l.fn.reader.reader) (g.R.Reader.faults l.reader.reader) l.reader l.best;
}
