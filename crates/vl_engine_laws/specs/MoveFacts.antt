-- What a relocation's frame is made of that was handed to the disk: on the disk, and in memory.
use Rattle.std.specs.Prelude.{◌≡◌, ◌≤◌, ◌<◌, ℕ, ◌+◌, ◌++◌, List, length, IsTrue, Option, None, Some}
use Rattle.std.specs.List.{AllByRecursion}
use Rattle.std.specs.Option.{ForSome}
use Rattle.vl_disk.specs.Calls.{ChangesNothing}
use Rattle.vl_disk.specs.Disk.{IsChangedBy}
use Rattle.vl_disk.specs.DiskState.{DiskState}
use Rattle.vl_disk.specs.Faults.{after_calls}
use Rattle.vl_disk.specs.Moments.{Elapses}
use Rattle.vl_disk.specs.declared.name.Name.TheVariants.{Log}
use Rattle.vl_disk.specs.declared.name.Name.{Name}
use Rattle.vl_disk.specs.declared.watched.Watched.{Ghosts}
use Rattle.vl_engine_laws.specs.Writing.{StopsWriting, WhileWriting, written}
use Rattle.vl_engine_laws.specs.declared.kept.Core.{Core}
use Rattle.vl_frame.specs.Runs.{HasFrame}
use Rattle.vl_front.specs.declared.front.Front.{Front}
use Rattle.vl_engine_model.specs.Logs.{frame_entries}
use Rattle.vl_engine_model.specs.Relocation.{Candidate}
use Rattle.vl_engine_model.specs.Shown.{IsThere}
use Rattle.vl_model.specs.Entries.{in_order}
use Rattle.vl_model.specs.Formats.{log_format}
use Rattle.vl_model.specs.Frames.{frame_length}
use Rattle.vl_model.specs.Limits.{max_epoch}
use Rattle.vl_model.specs.declared.entry.Entry.{Entry}
use Rattle.vl_model.specs.declared.log_frame.LogFrame.TheVariants.{Relocated}
use Rattle.vl_model.specs.declared.log_frame.Moved.{Moved}
use Rattle.vl_seglog.specs.Frames.{frame_at, frames_grammar}
use Rattle.vl_seglog.specs.Stored.{stored_at}
use Rattle.vl_seglog.specs.declared.sealed.SealedLog.{SealedLog}

-- ---- what is moved

-- Where each record of a batch was found, the bytes of its log have nothing but its value, if they are told.
abbrev pub AreThere : {H : Type 0} → (H → Option (List ℕ)) → SealedLog H → List Candidate → Type 0
AreThere bytes log batch =
    ForSome (bytes log.held) (λ told. AllByRecursion (IsThere (stored_at log.format told) log.number) batch)

-- the entries that the records get at the front's log's end
abbrev pub move_entries : Front → List Moved → List Entry
move_entries front moved = frame_entries log_format front.log.number front.log.length (Relocated moved)

-- how long the log's frame is
abbrev pub move_length : List Moved → ℕ
move_length moved = frame_length log_format (Relocated moved)

-- Nothing stands against moving them: the engine isn't halted, there are some, an epoch is left and the log has room.
pub record CanMove {H : Type 0} (core : Core H) (moved : List Moved) : Type 0 where
  pub running : core.front.halted ≡ None
  pub some : 1 ≤ length moved
  pub left : core.back.epoch < max_epoch
  pub fits : core.front.log.length + move_length moved ≤ core.front.room

-- ---- the disk

-- the active log, and the bytes of the frame by which these records are moved to its end
abbrev pub move_log : Front → Name
move_log front = Log front.log.number

abbrev pub move_frame : Front → List Moved → List ℕ
move_frame front moved = frame_at log_format front.log.number front.log.length (Relocated moved)

-- The frame was handed over: first nothing was changed, and from then on the disk was what it is while the frame is written.
pub record HandsMove {D : Type 0} (g : Ghosts D) (front : Front) (moved : List Moved) (old new : D) : Type 0 where
  pub mid : D
  pub before : ChangesNothing g old mid ⊥
  pub has : HasFrame (frames_grammar log_format) (Relocated moved)
  pub time : Elapses g mid new (WhileWriting (move_log front) (move_frame front moved))
  pub tells : (state : DiskState) → g.told mid ≡ Some state → (now : DiskState) × (g.told new ≡ Some now)

-- ---- what it came to

-- they were written
pub record HasMoved {D H : Type 0} (g : Ghosts D) (old new : D) (before after : Core H) (moved : List Moved) : Type 0 where
  pub hands : HandsMove g before.front moved old new
  pub changed : IsChangedBy (written (move_log before.front) (move_frame before.front moved)) (g.told hands.mid) (g.told new)
  pub calls : g.calls new ≡ after_calls 2 (g.calls hands.mid)
  pub front : after.front ≡ record before.front {
    log = record { number = before.front.log.number; length = before.front.log.length + move_length moved };
  }
  pub behind : after.version.behind ≡ before.version.behind
  pub more : after.version.active.entries ≡ in_order (move_entries before.front moved ++ before.version.active.entries)
  pub back : after.back ≡ record before.back { epoch = before.back.epoch + 1 }

-- writing them failed at the active log, which halts
pub record HasFailedToMove {D H : Type 0} (g : Ghosts D) (old new : D) (before after : Core H) (moved : List Moved)
    : Type 0 where
  pub hands : HandsMove g before.front moved old new
  pub stopped : IsTrue g.fails_cleanly
      → StopsWriting g (move_log before.front) (move_frame before.front moved) hands.mid new
  pub core : after ≡ record before { front = record before.front { halted = Some (move_log before.front) } }
