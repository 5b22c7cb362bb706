-- What is found where a store is opened, and what an engine keeps then.
use Rattle.std.specs.Prelude.{◌≡◌, ℕ, ◌+◌, max, List, [], ◌∷◌, map, Option, None, Vec}
use Rattle.std.specs.Global.{Global}
use Rattle.vl_back.specs.declared.back.Back.{Back}
use Rattle.vl_disk.specs.Crash.{Image}
use Rattle.vl_disk.specs.DiskState.{DiskState}
use Rattle.vl_disk.specs.Started.{IsRead}
use Rattle.vl_engine_laws.specs.Begun.{recovered_as}
use Rattle.vl_engine_laws.specs.Laid.{by_level}
use Rattle.vl_engine_laws.specs.Shown.{Shown}
use Rattle.vl_engine_laws.specs.declared.kept.Core.{Core}
use Rattle.vl_front.specs.Front.{Knows}
use Rattle.vl_engine_model.specs.Start.{Recovered, newest_first}
use Rattle.vl_manifest.specs.declared.state.ManifestState.{ManifestState}
use Rattle.vl_model.specs.History.{History, last_number}
use Rattle.vl_recover.specs.crash.Alike.{IsLeft, OpensLike}
use Rattle.vl_recover.specs.crash.Meanwhile.{IsAsLong}
use Rattle.vl_recover.specs.crash.Starts.{MayOpen}
use Rattle.vl_recover.specs.opening.Answers.{Finds, held_log, logs_then}
use Rattle.vl_recover.specs.opening.FoundTables.{found_list}
use Rattle.vl_recover.specs.opening.HeldFiles.{AreHeldLogs, AreReadTables, AreWaiting, but_last}
use Rattle.vl_recover.specs.opening.Plans.{active_log, new_state}
use Rattle.vl_recover.specs.opening.Results.{frozen_log}
use Rattle.vl_table.specs.declared.table.Table.{Table}
use Rattle.vl_version.specs.Sources.{tables_in}
use Rattle.vl_version.specs.declared.levels.Levels.{Levels}

-- All of the store is durable: whatever a crash leaves of the disk opens as what reads give. So it is with a disk that was just
-- started, and with one that an engine left without a fault.
pub record IsDurable (disk : DiskState) : Type 0 where
  pub may_open : MayOpen disk
  pub as_read : (read image : Image) → IsRead read disk → IsLeft disk image → OpensLike image read

-- ---- what is found

-- what the new manifest says then
abbrev pub state_then : {read : Image} → Finds read → ManifestState
state_then found = new_state found.greatest found.opening.state

-- As a layout has it, where reads show a history: the tables that they show, the logs from head on, and those below it that tables
-- lead into.
abbrev pub recovered : {read : Image} (found : Finds read) {h : History} {m : ℕ} → Shown read h m → Recovered
recovered found shown = recovered_as found shown (but_last (logs_then found))

-- What steps on files need of an engine that was just opened: what the new manifest says, which number the next log gets, the new
-- manifest at its length, and the logs whose memtables wait for their flush.
pub record IsBackAtStart {read : Image} (found : Finds read) (back : Back) : Type 0 where
  pub state : back.state ≡ state_then found
  pub next_log : back.next_log
      ≡ max (state_then found).next_log (active_log found.greatest found.opening.state found.logs + 1)
  pub number : back.manifest.number ≡ found.greatest.manifest + 1
  pub long : IsAsLong back.state back.manifest
  pub waiting : AreWaiting found.opening.state.covered back.waiting.items found.opening.logs
  pub epoch : back.epoch ≡ 0

-- ---- its tables

-- the levels have these tables, the ones of level 0 first
abbrev pub AreLeveled : {H : Type 0} → List (Vec (Table H) Global) → Levels H → Type 0
AreLeveled [] levels = ⊥
AreLeveled {H} (tables ∷ others) levels =
    (levels.newest ≡ tables) × (levels.deeper.items ≡ map (λ (v : Vec (Table H) Global). v.items) others)

-- ---- what the engine keeps then

-- What an engine keeps that was just opened is what was found. So it is also where reads show no history: an opening checks no
-- blocks of tables, and these may be damaged.
pub record IsCoreOf {H : Type 0} (bytes : H → Option (List ℕ)) {read : Image} (found : Finds read) (room : ℕ) (core : Core H)
    : Type 0 where
  -- the last commit is the last one that was found, and nothing is live
  pub oracle : core.front.oracle ≡ record { last = found.opening.number; tickets = [] }
  -- it knows each history that ends with that commit: nothing is remembered of later ones
  pub knows : (h : History) → last_number h ≡ found.opening.number → Knows core.front h
  -- the active log has only its header, and the room that was given
  pub log : core.front.log ≡ record { number = active_log found.greatest found.opening.state found.logs; length = 16 }
  pub room_is : core.front.room ≡ room
  -- it isn't halted
  pub halted : core.front.halted ≡ None
  -- the memtable that takes commits is empty
  pub active : core.version.active ≡ record { entries = []; lengths = [] }
  -- the frozen ones are those of the logs that were found with frames, the newest first
  pub frozen : map frozen_log core.version.behind.frozen.items ≡ map held_log (newest_first found.opening.logs)
  -- its tables are those that were found, level by level, held as reads give them
  pub levels : map found_list (by_level core.version.behind.levels) ≡ found.opening.levels
  pub tables : AreReadTables bytes read (tables_in core.version)
  -- and its sealed logs are those that stay, but for the one that takes commits
  pub sealed : AreHeldLogs bytes found core.version.behind.logs.items
