-- What a table of the oldest memtable is made of: in memory, and on the disk.
use Rattle.std.specs.Prelude.{◌≡◌, ℕ, ◌+◌, ◌-◌, ◌^◌, ◌∷◌, List, drop, length, map, min, Option, Some}
use Rattle.std.specs.Arc.{arc_value}
use Rattle.std.specs.List.{filter}
use Rattle.std.specs.Option.{ForSome}
use Rattle.vl_back.specs.Staging.{IsStagedFlush}
use Rattle.vl_back.specs.Writing.{WhileWriting, flush_files, written}
use Rattle.vl_back.specs.declared.back.Back.{Back}
use Rattle.vl_back.specs.declared.flush.StagedFlush.{StagedFlush}
use Rattle.vl_disk.specs.Calls.{ChangesNothing}
use Rattle.vl_disk.specs.Disk.{IsChangedBy}
use Rattle.vl_disk.specs.DiskState.{DiskState}
use Rattle.vl_disk.specs.Faults.{after_calls}
use Rattle.vl_disk.specs.Moments.{Elapses}
use Rattle.vl_disk.specs.Name.{IsNumbered}
use Rattle.vl_disk.specs.Performs.{FailedAt, GoesOnTelling}
use Rattle.vl_disk.specs.declared.name.Name.TheVariants as names
use Rattle.vl_disk.specs.declared.name.Name.{Name}
use Rattle.vl_disk.specs.declared.watched.Watched.{Ghosts}
use Rattle.vl_engine_laws.specs.declared.kept.Core.{Core}
use Rattle.vl_memtable.specs.declared.frozen_log.FrozenLog.{FrozenLog}
use Rattle.vl_model.specs.Placement.{placed}
use Rattle.vl_table.specs.Tables.{shape_of}
use Rattle.vl_table.specs.declared.table.Table.{Table}
use Rattle.vl_version.specs.Flushing.{IsFlushed}
use Rattle.vl_version.specs.Needed.{head_of, is_kept}
use Rattle.vl_version.specs.Oldest.{oldest_frozen}
use Rattle.vl_version.specs.declared.flush.FlushedVersion.{FlushedVersion}
use Rattle.vl_version.specs.declared.version.Version.{Version}

-- ---- what is staged

-- the flush of the log that has been frozen for longest, of all entries of its memtable
pub record IsStagedOf {H : Type 0} (core : Core H) (staged : StagedFlush) : Type 0 where
  pub log : FrozenLog
  pub oldest : oldest_frozen core.version.behind.frozen.items ≡ Some log
  pub is : IsStagedFlush core.back core.front.log.number (map placed log.memtable.entries) staged
  pub numbered : IsNumbered (names.Table core.back.state.next_table)

-- ---- the disk

-- the disk once it is written, and what it may be meanwhile
abbrev pub flush_written : {H : Type 0} → Core H → StagedFlush → DiskState → DiskState
flush_written core staged disk =
    written core.back.state.next_table staged.table.bytes.items core.back.manifest.number staged.edits.frame.items disk

abbrev pub WhileFlushed : {H : Type 0} → Core H → StagedFlush → DiskState → DiskState → Type 0
WhileFlushed core staged disk now =
    WhileWriting core.back.state.next_table staged.table.bytes.items core.back.manifest.number staged.edits.frame.items disk now

-- First nothing was changed, and from then on the disk was what it is while the flush is written.
pub record WritesFlush {D H : Type 0} (g : Ghosts D) (core : Core H) (staged : StagedFlush) (old new : D) : Type 0 where
  pub mid : D
  pub before : ChangesNothing g old mid ⊥
  pub time : Elapses g mid new (WhileFlushed core staged)
  pub tells : GoesOnTelling (g.told mid) (g.told new)

-- the files of its changing calls: where it failed, the last one that was made is on the file that is named
abbrev pub StopsFlushing : (table manifest before now : ℕ) → Name → Type 0
StopsFlushing table manifest before now name = FailedAt (flush_files table manifest) before now name

-- ---- memory

-- the table stands in a held file, with the bytes and the shape that were staged
pub record IsTableHeld {H : Type 0} (bytes : H → Option (List ℕ)) (told : Option DiskState) (staged : StagedFlush) (table : Table H)
    : Type 0 where
  pub shape : shape_of table ≡ arc_value staged.table.shape
  pub held : ForSome told (λ _. bytes table.held ≡ Some staged.table.bytes.items)

-- The version has the table in front of level 0, and the oldest memtable no more. It let go of logs that it doesn't need, where the
-- active one has this number.
pub record IsNextVersion {H : Type 0} (bytes : H → Option (List ℕ)) (number : ℕ) (before after : Version H) (table : Table H)
    : Type 0 where
  pub next : FlushedVersion H
  pub is : IsFlushed bytes before next
  pub active : after.active ≡ next.active
  pub frozen : after.behind.frozen.items ≡ next.frozen.items
  pub newest : after.behind.levels.newest.items ≡ table ∷ next.levels.newest.items
  pub deeper : after.behind.levels.deeper ≡ next.levels.deeper
  pub idle : List ℕ
  pub logs : after.behind.logs.items
      ≡ filter (is_kept idle (head_of number next.frozen.items) after.behind.levels) next.logs.items

-- the manifest is longer by the frame, says what was staged, and one log fewer waits
pub record IsNextBack (before after : Back) (staged : StagedFlush) : Type 0 where
  pub number : after.manifest.number ≡ before.manifest.number
  pub longer : after.manifest.length
      ≡ min (before.manifest.length + length staged.edits.frame.items) (2 ^ 64 - 1)
  pub state : after.state ≡ staged.state
  pub next_log : after.next_log ≡ before.next_log
  pub waiting : after.waiting.items ≡ drop 1 before.waiting.items
  pub version : after.epoch ≡ before.epoch + 1

-- ---- what it came to

-- the table is made and named
pub record IsTableMade {D H : Type 0} (g : Ghosts D) (bytes : H → Option (List ℕ)) (old new : D) (before after : Core H)
    : Type 0 where
  pub staged : StagedFlush
  pub of : IsStagedOf before staged
  pub writes : WritesFlush g before staged old new
  pub changed : IsChangedBy (flush_written before staged) (g.told writes.mid) (g.told new)
  pub calls : g.calls new ≡ after_calls 5 (g.calls writes.mid)
  pub table : Table H
  pub held : IsTableHeld bytes (g.told writes.mid) staged table
  pub front : after.front ≡ before.front
  pub back : IsNextBack before.back after.back staged
  pub version : IsNextVersion bytes before.front.log.number before.version after.version table

-- The disk has the table of the oldest memtable's entries, and the frame of the switch that names it at the manifest's end,
-- and nothing else of it was changed. The table has the next number.
pub record IsFlushWritten {H : Type 0} (core : Core H) (number : ℕ) (old new : Option DiskState) : Type 0 where
  pub number_is : number ≡ core.back.state.next_table
  pub staged : StagedFlush
  pub of : IsStagedOf core staged
  pub changed : IsChangedBy (flush_written core staged) old new

-- it failed at this file, which halts
pub record IsTableUnmade {D H : Type 0} (g : Ghosts D) (old new : D) (before after : Core H) (name : Name) : Type 0 where
  pub staged : StagedFlush
  pub of : IsStagedOf before staged
  pub writes : WritesFlush g before staged old new
  pub stops : StopsFlushing before.back.state.next_table before.back.manifest.number (g.calls old) (g.calls new) name
  pub front : after.front ≡ record before.front { halted = Some name }
  pub epoch : after.back.epoch ≡ before.back.epoch
  pub state : after.back.state ≡ before.back.state
  pub version : after.version ≡ before.version
