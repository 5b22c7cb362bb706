-- The tables of a merge, whose files the disk takes back, one after the other, and holds for readers.
use Rattle.std.specs.Prelude.{◌≡◌, ◌≢◌, ◌⊎◌, ℕ, List, [], ◌∷◌, ◌++◌, map, Option, None, Some, IsSome, IsTrue}
use Rattle.std.specs.Arc.{arc_value}
use Rattle.std.specs.List.{AllByRecursion, AllZip}
use Rattle.std.specs.Option.{ForSome}
use Rattle.vl_compact.specs.Laid.{AreTablesOf}
use Rattle.vl_compact.specs.Replacing.{AreReady}
use Rattle.vl_compact.specs.declared.files.Synced.{Synced}
use Rattle.vl_compact.specs.declared.ready.ReadyLevels.{ReadyLevels}
use Rattle.vl_disk.specs.Disk.{IsChangedBy, IsFree}
use Rattle.vl_disk.specs.DiskState.{DiskState, File, new_file}
use Rattle.vl_disk.specs.Lending.{adopted}
use Rattle.vl_disk.specs.Moments.{Elapses}
use Rattle.vl_disk.specs.declared.name.Name.TheVariants.{Manifest, Table as table_name}
use Rattle.vl_disk.specs.declared.name.Name.{Name}
use Rattle.vl_disk.specs.declared.watched.Watched.{Ghosts}
use Rattle.vl_disk.specs.declared.writer.Writer.{Ghosts as Writers}
use Rattle.vl_engine_model.specs.Jobs.{AreDistinct}
use Rattle.vl_engine_model.specs.declared.job.Target.{Target}
use Rattle.vl_engine_model.specs.declared.table.Table as laid
use Rattle.vl_table.specs.Tables.{shape_of}
use Rattle.vl_table.specs.declared.table.Table.{Table}

-- ---- what it makes of a disk

-- the file of a writer, which one that tells nothing says nothing of
abbrev pub file_in : Option File → File
file_in None = new_file
file_in (Some file) = file

module _ {W : Type 0} (w : Writers W) where
  abbrev pub file_of_table : {s : _} → Synced W s → File
  file_of_table t = file_in (w.file t.writer)

  -- the disk with the files of these tables
  abbrev pub with_files : {s : _} → List (Synced W s) → DiskState → DiskState
  with_files [] disk = disk
  with_files (t ∷ ts) disk = with_files ts (adopted (table_name t.number) (file_of_table t) disk)

  -- what it may be meanwhile
  abbrev pub WhileTaking : {s : _} → List (Synced W s) → DiskState → DiskState → Type 0
  WhileTaking [] disk now = now ≡ disk
  WhileTaking (t ∷ ts) disk now = (now ≡ disk) ⊎ WhileTaking ts (adopted (table_name t.number) (file_of_table t) disk) now

module _ {D W : Type 0} (g : Ghosts D) (w : Writers W) where
  -- The file can be taken back: there is room for it, no file stands under its name, and its writer tells it where the disk tells
  -- its files.
  pub record MayTake {s : _} (disk : D) (t : Synced W s) : Type 0 where
    pub room : IsTrue (g.spare disk (table_name t.number)).adopt
    pub free : ForSome (g.told disk) (IsFree (table_name t.number))
    pub tells : ForSome (g.told disk) (λ _. IsSome (w.file t.writer))

  -- so it is of each of these, and each has a number of its own
  pub record MayTakeAll {s : _} (disk : D) (ts : List (Synced W s)) : Type 0 where
    pub each : AllByRecursion (MayTake disk) ts
    pub distinct : AreDistinct (map (λ (t : Synced W s). t.number) ts)

  -- These files were taken back, by no changing call. The room of manifests stays, and so does that of all other tables.
  pub record Takes {s : _} (ts : List (Synced W s)) (old new : D) : Type 0 where
    pub changed : IsChangedBy (with_files w ts) (g.told old) (g.told new)
    pub calls : g.calls new ≡ g.calls old
    pub time : Elapses g old new (WhileTaking w ts)
    pub manifests : (n : ℕ) → g.spare new (Manifest n) ≡ g.spare old (Manifest n)
    pub others : (n : ℕ) → AllByRecursion (λ (t : Synced W s). n ≢ t.number) ts → g.spare new (table_name n) ≡ g.spare old (table_name n)

  -- It stopped at the last file that was taken back, which couldn't be held.
  pub record StopsTaking {s : _} (made : List (Synced W s)) (old new : D) (name : Name) : Type 0 where
    pub before : List (Synced W s)
    pub at : Synced W s
    pub left : List (Synced W s)
    pub made_are : made ≡ before ++ at ∷ left
    pub name_is : name ≡ table_name at.number
    pub takes : Takes (before ++ at ∷ []) old new

-- ---- what it puts in memory

-- a table that is held, of a file that was taken back
pub record IsHeldTable {H W : Type 0} (bytes : H → Option (List ℕ)) (w : Writers W) (told : Option DiskState) {s : _}
    (table : Table H) (t : Synced W s) : Type 0 where
  pub shape : shape_of table ≡ arc_value t.shape
  pub held : ForSome told (λ _. bytes table.held ≡ Some (file_of_table w t).bytes)

-- the tables were put behind those that were put before
abbrev pub PutsAll : {H : Type 0} → (H → Option (List ℕ)) → ReadyLevels H → List (Table H) → ReadyLevels H → Type 0
PutsAll bytes before tables after = (target : Target) (inputs : List ℕ) (first : Option (List ℕ)) (levels : List (List laid.Table))
    (new outs : List laid.Table) → AreReady bytes target inputs first levels new before → AreTablesOf bytes tables outs
    → AreReady bytes target inputs first levels (new ++ outs) after

-- The first of some tables were taken back, held and put. These are left.
pub record TakesBack {D H W : Type 0} (g : Ghosts D) (bytes : H → Option (List ℕ)) (w : Writers W) {s : _}
    (made left : List (Synced W s)) (old new : D) (before after : ReadyLevels H) : Type 0 where
  pub front : List (Synced W s)
  pub made_are : made ≡ front ++ left
  pub takes : Takes g w front old new
  pub tables : List (Table H)
  pub held : AllZip (IsHeldTable bytes w (g.told old)) tables front
  pub puts : PutsAll bytes before tables after
