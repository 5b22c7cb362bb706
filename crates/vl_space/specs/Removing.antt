-- What an engine keeps of which files can go: what still looks at them, which are in use, and which wait for their removal. That it
-- is what the layout has, and that the disk has these files.
use Rattle.std.specs.Prelude.{◌≡◌, ◌≤◌, ◌+◌, ℕ, ◌==◌, ◌&&◌, not, Bool, true, false, List, [], ◌∷◌, ◌++◌}
use Rattle.std.specs.Prelude.{length, map, All, IsSome, Option, None, Some}
use Rattle.std.specs.List.{AllByRecursion}
use Rattle.std.specs.Option.{ForSome}
use Rattle.std.specs.VecDeque.{deque_len, deque_capacity}
use Rattle.vl_compact.specs.declared.files.Lent.{Lent}
use Rattle.vl_engine_laws.specs.declared.kept.Core.{Core}
use Rattle.vl_disk.specs.Disk.{Stands}
use Rattle.vl_disk.specs.DiskState.{DiskState}
use Rattle.vl_disk.specs.declared.name.Name.TheVariants.{Log, Manifest, Table}
use Rattle.vl_disk.specs.declared.name.Name.{Name}
use Rattle.vl_disk.specs.declared.watched.Watched.{Ghosts}
use Rattle.vl_disk.specs.declared.writer.Writer.{Ghosts as Writers}
use Rattle.vl_space.specs.Collecting.{AreSealed}
use Rattle.vl_engine_laws.specs.Lent.{IsLent, lent_in}
use Rattle.vl_engine_laws.specs.declared.open.OpenMerge.{OpenMerge}
use Rattle.vl_space.specs.declared.kept.Removing.{Removing}
use Rattle.vl_engine_model.specs.Jobs.{lent_numbers}
use Rattle.vl_engine_model.specs.Sources.{rising, tables}
use Rattle.vl_engine_model.specs.Stock.{is_in}
use Rattle.vl_engine_model.specs.Tidy.{log_numbers, sealed}
use Rattle.vl_engine_model.specs.declared.file_name.Retired.{Retired}
use Rattle.vl_engine_model.specs.declared.layout.Layout.{Layout}
use Rattle.vl_engine_model.specs.declared.table.Table as laid
use Rattle.vl_model.specs.Numbers.{has}
use Rattle.vl_pins.specs.Files.{file_of, retired_of}
use Rattle.vl_pins.specs.Pins.{ArePinsOf}
use Rattle.vl_pins.specs.declared.in_use.InUse.{InUse}
use Rattle.vl_pins.specs.declared.retired_file.RetiredFile.{RetiredFile}
use Rattle.vl_pins.specs.declared.stock.Stock.{Stock}
use Rattle.vl_seglog.specs.declared.sealed.SealedLog.{SealedLog}
use Rattle.vl_table.specs.Tables.{number_of}
use Rattle.vl_version.specs.declared.version.Version.{Version}
use Rattle.vl_version.specs.levels.LevelsLooked.{tables_of}

-- ---- what the layout has

-- Each table of the layout is among those in use, and the logs in use are its sealed ones.
pub record AreInUse (in_use : InUse) (l : Layout) : Type 0 where
  pub tables : AllByRecursion (λ (t : laid.Table). has t.number in_use.tables.items ≡ true) (tables l)
  pub logs : in_use.logs.items ≡ log_numbers (rising (sealed l))

-- Until they are kept for the first time no log is retired, so that the version has no other than the sealed ones.
abbrev pub UsesThoseOf : {H : Type 0} → List (SealedLog H) → Option InUse → Layout → Type 0
UsesThoseOf logs None l = AreSealed logs l
UsesThoseOf logs (Some in_use) l = AreInUse in_use l

abbrev pub all_retired : {L : Type 0} → List (RetiredFile L) → List Retired
all_retired trash = map retired_of trash

-- The files that wait are the layout's retired ones.
pub record IsStockOf {H L : Type 0} (core : Core H) (stock : Stock L) (l : Layout) : Type 0 where
  pub in_use : UsesThoseOf core.version.behind.logs.items stock.in_use l
  pub trash : all_retired stock.trash.items ≡ l.retired
  pub aged : AllByRecursion (λ (r : Retired). r.epoch ≤ l.epoch) l.retired
  -- there is room for each file that was lent to the open merge
  pub room : deque_len stock.trash + length (lent_numbers l.job) ≤ deque_capacity stock.trash

-- What is kept of which files can go is what the layout has.
pub record Removes {H L : Type 0} (core : Core H) (kept : Removing L) (l : Layout) : Type 0 where
  pub pins : ArePinsOf kept.pins l
  -- unless the engine is halted
  pub stock : l.halted ≡ None → IsStockOf core kept.stock l

-- nothing is pinned, and nothing waits
pub record IsNothingRemoved {L : Type 0} (kept : Removing L) : Type 0 where
  pub live : kept.pins.live ≡ record { last = 0; tickets = [] }
  pub merge : kept.pins.merge ≡ None
  pub pass : kept.pins.pass ≡ None
  pub in_use : kept.stock.in_use ≡ None
  pub trash : kept.stock.trash.items ≡ []

-- ---- what the disk has

-- the tables that are in use, and the sealed logs: a version's, until they are kept for the first time
abbrev pub tables_in_use : {H : Type 0} → Version H → Option InUse → List ℕ
tables_in_use version None = map number_of (tables_of version.behind.levels)
tables_in_use version (Some in_use) = in_use.tables.items

abbrev pub logs_in_use : {H : Type 0} → Version H → Option InUse → List ℕ
logs_in_use {H} version None = map (λ (log : SealedLog H). log.number) version.behind.logs.items
logs_in_use version (Some in_use) = in_use.logs.items

-- the active log isn't among those that are kept as in use
abbrev pub is_none_of : ℕ → Option InUse → Bool
is_none_of active None = true
is_none_of active (Some in_use) = not (has active in_use.logs.items)

-- a file that isn't in use, nor the active log, nor a manifest
abbrev pub is_unused : (active : ℕ) → (tables logs : List ℕ) → Name → Bool
is_unused active tables logs (Log n) = not (has n logs) && not (n == active)
is_unused active tables logs (Table n) = not (has n tables)
is_unused active tables logs (Manifest n) = false

-- so it is with each of these, and none stands twice
abbrev pub are_unused : (active : ℕ) → (tables logs : List ℕ) → List Name → Bool
are_unused active tables logs [] = true
are_unused active tables logs (n ∷ ns) = is_unused active tables logs n && not (is_in (file_of n) (map file_of ns))
    && are_unused active tables logs ns

module _ {D W : Type 0} (g : Ghosts D) (w : Writers W) where
  -- A file that was lent and that nothing took back: it can be taken back, and its writer tells it where the disk tells its files.
  pub record IsLeft {s : _} (disk : D) (next_table : ℕ) (file : Lent W s) : Type 0 where
    pub lent : IsLent g disk next_table file.number
    pub tells : ForSome (g.told disk) (λ _. IsSome (w.file file.writer))

  -- A retired file stands, or is one that was lent.
  pub record IsWaiting {s : _} (disk : D) (next_table : ℕ) (file : RetiredFile (Lent W s)) : Type 0 where
    pub stands : file.lent ≡ None → ForSome (g.told disk) (Stands file.name)
    pub left : ForSome file.lent (IsLeft disk next_table)
    pub named : ForSome file.lent (λ (f : Lent W s). file.name ≡ Table f.number)

-- the names of the retired files that stand, and the numbers of those that were lent
abbrev pub with_standing : {W : Type 0} {s : _} → Name → Option (Lent W s) → List Name → List Name
with_standing name None names = name ∷ names
with_standing name (Some f) names = names

abbrev pub standing_names : {W : Type 0} {s : _} → List (RetiredFile (Lent W s)) → List Name
standing_names [] = []
standing_names (file ∷ trash) = with_standing file.name file.lent (standing_names trash)

abbrev pub with_number : {W : Type 0} {s : _} → Option (Lent W s) → List ℕ → List ℕ
with_number None numbers = numbers
with_number (Some f) numbers = f.number ∷ numbers

abbrev pub numbers_left : {W : Type 0} {s : _} → List (RetiredFile (Lent W s)) → List ℕ
numbers_left [] = []
numbers_left (file ∷ trash) = with_number file.lent (numbers_left trash)

abbrev pub are_distinct : List ℕ → Bool
are_distinct [] = true
are_distinct (n ∷ ns) = not (has n ns) && are_distinct ns

-- On the disk stand the files in use, and no retired file is one of these.
pub record HasInUse {H W : Type 0} {s : _} (core : Core H) (stock : Stock (Lent W s)) (disk : DiskState) : Type 0 where
  pub tables : All (λ n. Stands (Table n) disk) (tables_in_use core.version stock.in_use)
  pub logs : All (λ n. Stands (Log n) disk) (logs_in_use core.version stock.in_use)
  pub unused : are_unused core.front.log.number (tables_in_use core.version stock.in_use) (logs_in_use core.version stock.in_use)
      (standing_names stock.trash.items) ≡ true
  pub active : is_none_of core.front.log.number stock.in_use ≡ true

-- So that each retired file can be removed. Those that were lent have numbers of their own, which the open merge's files haven't.
pub record IsThere {D H W : Type 0} (g : Ghosts D) (w : Writers W) (disk : D) (core : Core H) (merging : Option OpenMerge) {s : _}
    (stock : Stock (Lent W s)) : Type 0 where
  pub waiting : All (IsWaiting g w disk core.back.state.next_table) stock.trash.items
  pub distinct : are_distinct (lent_in merging ++ numbers_left stock.trash.items) ≡ true
  -- there is room for each file that is lent, too
  pub room : deque_len stock.trash + length (lent_in merging) ≤ deque_capacity stock.trash
  pub files : ForSome (g.told disk) (HasInUse core stock)
