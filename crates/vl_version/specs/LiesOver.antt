-- What a version lies over: memory alone, or files, whatever stands in them.
use Rattle.std.specs.Prelude.{◌≡◌, ℕ, List, [], Option}
use Rattle.vl_table.specs.Kept.{Files}
use Rattle.vl_table.specs.KeptBlocks.{ReadsOf}
use Rattle.vl_table.specs.declared.block_reader.BlockReader.{BlockReader}
use Rattle.vl_version.specs.Near.{AreNear}
use Rattle.vl_version.specs.Sources.{AreTold, in_memory, tables_in}
use Rattle.vl_version.specs.declared.version.Version.{Version}
use Rattle.vl_version.specs.levels.LevelsLooked.{AreLaidOut}

-- All of the version is in memory, so that no read of it asks a file: it has no tables, and no entry leads into a log.
pub record IsInMemory {H : Type 0} (version : Version H) : Type 0 where
  pub tables : tables_in version ≡ []
  pub near : AreNear (in_memory version)

-- A version lies over these files, whatever stands in them: its reader keeps blocks of them, its tables are laid out, and its
-- logs are told.
pub record LiesOver {H R : Type 0} (bytes : H → Option (List ℕ)) (files : Files) (version : Version H) (reader : BlockReader R)
    : Type 0 where
  pub reads : ReadsOf bytes files reader (tables_in version)
  pub tables : AreLaidOut version.behind.levels
  pub logs : AreTold bytes version.behind.logs.items
