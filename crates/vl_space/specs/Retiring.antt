-- How steps change which files are in use, and which wait for their removal.
use Rattle.std.specs.Prelude.{◌≡◌, ◌⊎◌, ◌≤◌, ◌+◌, ℕ, ◌==◌, ◌&&◌, ◌||◌, nat_lt, not, Bool, false, List, [], ◌++◌, length, map, Option}
use Rattle.std.specs.Prelude.{None, Some}
use Rattle.std.specs.List.{filter}
use Rattle.std.specs.VecDeque.{deque_len, deque_capacity}
use Rattle.vl_compact.specs.declared.files.Lent.{Lent}
use Rattle.vl_compact.specs.declared.files.Synced.{Synced}
use Rattle.vl_compact.specs.declared.job.Job.{Job}
use Rattle.vl_engine_laws.specs.declared.kept.Core.{Core}
use Rattle.vl_space.specs.Collecting.{head_in}
use Rattle.vl_pins.specs.Files.{BecomesBy, Has, HasRoom, Kept, left_at, log_sealed, logs_retired, tables_retired, with_tables}
use Rattle.vl_pins.specs.InUse.{but}
use Rattle.vl_pins.specs.declared.in_use.InUse.{InUse}
use Rattle.vl_pins.specs.declared.retired_file.RetiredFile.{RetiredFile}
use Rattle.vl_pins.specs.declared.stock.Stock.{Stock}
use Rattle.vl_seglog.specs.declared.sealed.SealedLog.{SealedLog}
use Rattle.vl_stats.specs.Live.{bytes_of}
use Rattle.vl_stats.specs.Tallies.{Tallied}
use Rattle.vl_table.specs.Tables.{number_of}
use Rattle.vl_version.specs.Bases.{is_input}
use Rattle.vl_version.specs.Needed.{levels_into}
use Rattle.vl_version.specs.declared.base.Base.{Base}
use Rattle.vl_version.specs.declared.version.Version.{Version}
use Rattle.vl_version.specs.levels.LevelsLooked.{tables_of}

-- ---- how it is made

-- the files in use, with those that wait: where they aren't kept yet those of the version
abbrev pub used_by : {H L : Type 0} → Core H → List (RetiredFile L) → Option InUse → Kept L
used_by {H} core trash None = record {
  tables = map number_of (tables_of core.version.behind.levels);
  logs = but core.front.log.number (map (λ (log : SealedLog H). log.number) core.version.behind.logs.items);
  trash = trash;
}
used_by core trash (Some in_use) = record { tables = in_use.tables.items; logs = in_use.logs.items; trash = trash }

abbrev pub used_in : {H L : Type 0} → Core H → Stock L → Kept L
used_in core stock = used_by core stock.trash.items stock.in_use

-- they aren't kept yet, or are those
abbrev pub AreUsed : {H L : Type 0} → Core H → (old new : Stock L) → Type 0
AreUsed core old new = ((old.in_use ≡ None) × (new.in_use ≡ None)) ⊎ Has new (used_in core old)

-- What is kept is as before, but that the files in use may be kept then.
pub record StaysUsed {H L : Type 0} (core : Core H) (old new : Stock L) : Type 0 where
  pub trash : new.trash.items ≡ old.trash.items
  pub capacity : deque_capacity old.trash ≤ deque_capacity new.trash
  pub used : AreUsed core old new

-- They are kept then, with room.
pub record IsReadied {H L : Type 0} (core : Core H) (old new : Stock L) (tables lent : ℕ) : Type 0 where
  pub has : Has new (used_in core old)
  pub trash : new.trash.items ≡ old.trash.items
  pub capacity : deque_capacity old.trash ≤ deque_capacity new.trash
  pub room : HasRoom new tables 1 lent

-- ---- what a switch does to it

-- a log below head of which nothing is live
abbrev pub is_idle_log : ℕ → List (ℕ × ℕ) → ℕ → Bool
is_idle_log head live n = nat_lt n head && (bytes_of live n == 0)

-- the logs of which this is so are retired
abbrev pub retiring : {L : Type 0} → ℕ → (ℕ → Bool) → Kept L → Kept L
retiring version idle kept = logs_retired version (filter idle kept.logs) kept

-- Tables come into use, tables are retired, and then such logs.
abbrev pub switching : {L : Type 0} → ℕ → (added dropped : List ℕ) → (ℕ → Bool) → Kept L → Kept L
switching version added dropped idle kept = retiring version idle (tables_retired version dropped (with_tables added kept))

-- by what is kept of live bytes
abbrev pub is_idle_in : ℕ → Option Tallied → ℕ → Bool
is_idle_in head None n = false
is_idle_in head (Some tally) n = is_idle_log head tally.live n

abbrev pub numbers_held : {H : Type 0} → Version H → List ℕ
numbers_held {H} version = map (λ (log : SealedLog H). log.number) version.behind.logs.items

-- Of the logs that the version before a switch holds, the one behind it holds just those of which this isn't so, and those into which
-- one of its tables leads.
abbrev pub HoldsNeeded : {H : Type 0} → (before after : Core H) → Option Tallied → Type 0
HoldsNeeded before after tally = numbers_held after.version
    ≡ filter (λ n. not (is_idle_in (head_in after) tally n) || levels_into n after.version.behind.levels) (numbers_held before.version)

abbrev pub logs_kept : {L : Type 0} → Stock L → List ℕ
logs_kept stock = logs_of stock.in_use
  where
    logs_of : Option InUse → List ℕ
    logs_of None = []
    logs_of (Some in_use) = in_use.logs.items

-- ---- files that are left

abbrev pub left_of : {W : Type 0} {s : _} → Synced W s → Lent W s
left_of table = record { number = table.number; writer = table.writer; named = table.named }

abbrev pub all_left : {W : Type 0} {s : _} → List (Lent W s) → List (RetiredFile (Lent W s))
all_left {W} {s} files = map (λ (file : Lent W s). left_at file.number file) files

-- those of a merge: its tables', and its other ones
abbrev pub files_in : {V H W : Type 0} {s : _} → Job V H W s → List (Lent W s)
files_in job = map left_of job.made.items ++ job.leavings.items

-- Where there is room for them these files wait too, behind the others.
pub record LeavesFiles {W : Type 0} {s : _} (files : List (Lent W s)) (old new : Stock (Lent W s)) : Type 0 where
  pub in_use : new.in_use ≡ old.in_use
  pub capacity : deque_capacity new.trash ≡ deque_capacity old.trash
  pub left : deque_len old.trash + length files ≤ deque_capacity old.trash
      → new.trash.items ≡ old.trash.items ++ all_left files
  -- and else some of them
  pub some : (kept : List (Lent W s)) × (new.trash.items ≡ old.trash.items ++ all_left kept)

-- ---- what a step does to it

module _ {H W : Type 0} (before : Core H) where
  -- The sealed log came into use, behind the others.
  pub record SealsInto {s : _} (old new : Stock (Lent W s)) (lent : ℕ) : Type 0 where
    pub readied : Stock (Lent W s)
    pub is_ready : IsReadied before old readied 0 lent
    pub sealed : BecomesBy (log_sealed before.front.log.number) readied new
    pub trash : new.trash ≡ readied.trash

  -- The tables that a switch adds came into use; those that it drops, and the idle logs behind it, are retired.
  pub record SwitchesStock {s : _} (after : Core H) (added dropped : List ℕ) (tally : Option Tallied) (old new : Stock (Lent W s))
      (lent : ℕ) : Type 0 where
    pub readied : Stock (Lent W s)
    pub is_ready : IsReadied before old readied (length added) lent
    pub switched : BecomesBy (switching (before.back.epoch + 1) added dropped (is_idle_in (head_in after) tally)) readied new
    pub room : HasRoom new 0 0 lent
    pub held : HoldsNeeded before after tally

-- The same, where first the merge's other files were put behind those that wait.
pub record InstallsInto {H R W : Type 0} {s : _} (job : Job (Base H R) H W s) (before after : Core H) (tally : Option Tallied)
    (old new : Stock (Lent W s)) (lent : ℕ) : Type 0 where
  pub readied : Stock (Lent W s)
  pub is_ready : IsReadied before old readied (length job.made.items) lent
  pub mid : Stock (Lent W s)
  pub left : LeavesFiles job.leavings.items readied mid
  pub switched : BecomesBy (switching (before.back.epoch + 1) (map (λ (t : Synced W s). t.number) job.made.items)
      (map number_of (filter (is_input (map number_of job.inputs.tables.items)) (tables_of before.version.behind.levels)))
      (is_idle_in (head_in after) tally)) mid new
  pub held : HoldsNeeded before after tally
