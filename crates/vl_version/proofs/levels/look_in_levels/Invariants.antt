use Rattle.std.proofs.Common.{◌≡◌, take}
use Rattle.std.specs.Option.{option_map}
use Rattle.vl_table.specs.body.Founds.{found_of}
use Rattle.vl_table.specs.Kept.{Files}
use Rattle.vl_table.specs.KeptBlocks.{ReadsOf}
use Rattle.vl_version.specs.levels.LevelTables.{AreAllApart, AreAllRanged, all_tables}
use Rattle.vl_version.proofs.looking.LooksSoFar.{SoFar}
use Rattle.vl_version.proofs.levels.look_in_levels.Given as goal

abbrev pub invariant-loop-level : goal.invariant-loop-level
invariant-loop-level g l = record {
  steady : g.R.Reader.faults l.reader.reader ≡ g.R.Reader.faults l.fn.reader.reader;
  so : (files : Files) → ReadsOf g.H.HeldFile.bytes files l.fn.reader (all_tables l.levels)
      → SoFar g.H.HeldFile.bytes files (all_tables (take l.level-index l.levels)) (AreAllApart l.levels)
      (AreAllApart l.levels × AreAllRanged l.levels) l.look l.key (option_map (found_of l.key) l.fn.newer)
      (g.R.Reader.faults l.fn.reader.reader) (g.R.Reader.faults l.reader.reader) l.reader l.best;
}
