-- What writing a commit does, whatever the engine stands for: to the disk, and in memory.
use Rattle.std.specs.Prelude.{◌≡◌, ℕ, ◌+◌, ◌++◌, List, Result, Ok, Err, Some, IsTrue}
use Rattle.vl_disk.specs.Calls.{ChangesNothing}
use Rattle.vl_disk.specs.Disk.{IsChangedBy}
use Rattle.vl_disk.specs.DiskState.{DiskState}
use Rattle.vl_disk.specs.Faults.{after_calls}
use Rattle.vl_disk.specs.Moments.{Elapses}
use Rattle.vl_disk.specs.declared.name.Name.{Name}
use Rattle.vl_disk.specs.declared.name.Name.TheVariants.{Log}
use Rattle.vl_disk.specs.declared.watched.Watched.{Ghosts}
use Rattle.vl_steps.specs.Staging.{next_frame}
use Rattle.vl_engine_laws.specs.Writing.{StopsWriting, WhileWriting, written}
use Rattle.vl_steps.specs.declared.done.Done.{Done}
use Rattle.vl_steps.specs.declared.done.Done.TheVariants as done
use Rattle.vl_steps.specs.declared.fails.CommitFail.{CommitFail}
use Rattle.vl_steps.specs.declared.fails.CommitFail.TheVariants as fails
use Rattle.vl_engine_laws.specs.declared.kept.Core.{Core}
use Rattle.vl_frame.specs.Runs.{HasFrame}
use Rattle.vl_front.specs.Front.{IsSame, Knows}
use Rattle.vl_front.specs.declared.front.Front.{Front}
use Rattle.vl_engine_model.specs.Logs.{frame_entries}
use Rattle.vl_model.specs.Entries.{in_order}
use Rattle.vl_model.specs.Formats.{log_format}
use Rattle.vl_model.specs.Frames.{frame_length}
use Rattle.vl_model.specs.History.{History, with_commit}
use Rattle.vl_model.specs.Keys.{Writes}
use Rattle.vl_oracle.specs.LiveTickets as oracle
use Rattle.vl_seglog.specs.Frames.{frame_at, frames_grammar}

-- ---- the disk

-- the active log, and the bytes of the frame by which these writes become the next commit
abbrev pub log_of : Front → Name
log_of front = Log front.log.number

abbrev pub frame_of : Front → Writes → List ℕ
frame_of front writes = frame_at log_format front.log.number front.log.length (next_frame front writes)

-- The frame was handed over: first nothing was changed, and from then on the disk was what it is while the frame is written.
pub record Hands {D : Type 0} (g : Ghosts D) (front : Front) (writes : Writes) (old new : D) : Type 0 where
  pub mid : D
  pub before : ChangesNothing g old mid ⊥
  pub has : HasFrame (frames_grammar log_format) (next_frame front writes)
  pub time : Elapses g mid new (WhileWriting (log_of front) (frame_of front writes))
  pub tells : (state : DiskState) → g.told mid ≡ Some state → (now : DiskState) × (g.told new ≡ Some now)

-- ---- what a commit came to

-- nothing was changed but for room that was made
pub record IsUnwritten {D H : Type 0} (g : Ghosts D) (old new : D) (before after : Core H) : Type 0 where
  pub front : IsSame before.front after.front
  pub version : after.version ≡ before.version
  pub disk : ChangesNothing g old new ⊥

-- it was written, and its transaction has ended
pub record IsWritten {D H : Type 0} (g : Ghosts D) (old new : D) (before after : Core H) (ticket : ℕ) (writes : Writes)
    : Type 0 where
  pub hands : Hands g before.front writes old new
  pub changed : IsChangedBy (written (log_of before.front) (frame_of before.front writes)) (g.told hands.mid) (g.told new)
  pub calls : g.calls new ≡ after_calls 2 (g.calls hands.mid)
  pub live : after.front.oracle ≡ oracle.ended ticket (oracle.advanced (before.front.oracle.last + 1) before.front.oracle)
  pub number : after.front.log.number ≡ before.front.log.number
  pub long : after.front.log.length ≡ before.front.log.length + frame_length log_format (next_frame before.front writes)
  pub room : after.front.room ≡ before.front.room
  pub halted : after.front.halted ≡ before.front.halted
  pub knows : (h : History) → Knows before.front h → Knows after.front (with_commit h writes)
  pub behind : after.version.behind ≡ before.version.behind
  pub more : after.version.active.entries
      ≡ in_order (frame_entries log_format before.front.log.number before.front.log.length (next_frame before.front writes)
      ++ before.version.active.entries)

-- it failed at the active log, which halts, and its transaction has ended
pub record IsFailed {D H : Type 0} (g : Ghosts D) (old new : D) (before after : Core H) (ticket : ℕ) (writes : Writes)
    : Type 0 where
  pub hands : Hands g before.front writes old new
  pub stopped : IsTrue g.fails_cleanly
      → StopsWriting g (log_of before.front) (frame_of before.front writes) hands.mid new
  pub live : after.front.oracle ≡ oracle.ended ticket before.front.oracle
  pub log : after.front.log ≡ before.front.log
  pub room : after.front.room ≡ before.front.room
  pub halted : after.front.halted ≡ Some (log_of before.front)
  pub knows : (h : History) → Knows before.front h → Knows after.front h
  pub version : after.version ≡ before.version

-- so it is with what writing a commit answers
abbrev pub WritesAs : {D H R : Type 0} → Ghosts D → (old new : D) → (before after : Core H) → (ticket : ℕ) → Writes
    → Result Done (CommitFail H R) → Type 0
WritesAs g old new before after ticket writes (Ok (done.At number)) =
    (number ≡ before.front.oracle.last + 1) × IsWritten g old new before after ticket writes
WritesAs g old new before after ticket writes (Ok done.Nothing) = ⊥
WritesAs g old new before after ticket writes (Err (fails.Halted name)) = ⊥
WritesAs g old new before after ticket writes (Err (fails.Exhausted txn)) = ⊥
WritesAs g old new before after ticket writes (Err (fails.Conflict key number)) = ⊥
WritesAs g old new before after ticket writes (Err (fails.Full txn length frame)) = ⊥
WritesAs g old new before after ticket writes (Err (fails.NoMemory txn)) = IsUnwritten g old new before after
WritesAs g old new before after ticket writes (Err (fails.Disk name)) =
    (name ≡ log_of before.front) × IsFailed g old new before after ticket writes
