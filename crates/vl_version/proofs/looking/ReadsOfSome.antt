-- A reader reads some of several tables.
use Rattle.std.specs.Prelude.{◌≡◌, ◌<◌, ℕ, suc, List, [], ◌∷◌, ◌++◌, length, get_or, take, drop, Option}
use Rattle.std.proofs.Common.{sym, subst}
use Rattle.vl_table.specs.Kept.{Files}
use Rattle.vl_table.specs.KeptBlocks.{AreFiles, AreKept, ReadsOf}
use Rattle.vl_table.specs.Tables.{number_of}
use Rattle.vl_table.specs.declared.block_reader.BlockReader.{BlockReader}
use Rattle.vl_table.specs.declared.table.Table.{Table}
use Rattle.vl_version.specs.levels.LevelTables.{all_tables}
use Rattle.vl_version.proofs.looking.Parts.{all-back, all-front, all-middle, all_get, tables-split}

module _ {H R : Type 0} (bytes_of : H → Option (List ℕ)) (files : Files) (b : BlockReader R) where
  abbrev IsFile : Table H → Type 0
  IsFile t = files (number_of t) ≡ bytes_of t.held

  -- one of them
  pub read_at : (ts : List (Table H)) (i : ℕ) (t : Table H) → i < length ts → t ≡ get_or ts i t
      → ReadsOf bytes_of files b ts → ReadsOf bytes_of files b (t ∷ [])
  read_at ts i t within is reads = record
      { kept = reads.kept; told = (subst IsFile (sym is) (all_get IsFile ts i t reads.told within), tt) }

  -- those in front, and those behind
  pub read_front : (ts us : List (Table H)) → ReadsOf bytes_of files b (ts ++ us) → ReadsOf bytes_of files b ts
  read_front ts us reads = record { kept = reads.kept; told = all-front IsFile ts us reads.told }

  pub read_back : (ts us : List (Table H)) → ReadsOf bytes_of files b (ts ++ us) → ReadsOf bytes_of files b us
  read_back ts us reads = record { kept = reads.kept; told = all-back IsFile ts us reads.told }

  -- those of one level
  pub read_level : (levels : List (List (Table H))) (i : ℕ) (level : List (Table H)) → i < length levels → level ≡ get_or levels i level
      → ReadsOf bytes_of files b (all_tables levels) → ReadsOf bytes_of files b level
  read_level levels i level within is reads = record {
    kept = reads.kept;
    told = all-middle IsFile (all_tables (take i levels)) level (all_tables (drop (suc i) levels))
        (subst (AreFiles bytes_of files) (tables-split levels i level within is) reads.told);
  }

-- the reader went on, and keeps blocks of the same files
pub read_on : {H R : Type 0} (bytes_of : H → Option (List ℕ)) (files : Files) (b now : BlockReader R) (ts : List (Table H))
    → AreKept files now → ReadsOf bytes_of files b ts → ReadsOf bytes_of files now ts
read_on bytes_of files b now ts kept reads = record { kept = kept; told = reads.told }
