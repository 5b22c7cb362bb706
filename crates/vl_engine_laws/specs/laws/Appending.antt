-- A disk that tells its bytes still tells them where a frame was written, or where that failed.
use Rattle.std.proofs.Common.{◌≡◌, ℕ, ◌≤◌, List, length, Option, Some, Result, Ok, Err, OnOk, OnErr, ◌∙◌, ap, true, false}
use Rattle.vl_disk.specs.Calls.{Appends, Syncs}
use Rattle.vl_disk.specs.Faults.{one_more}
use Rattle.vl_disk.specs.declared.watched.Watched.{Ghosts}
use Rattle.vl_engine_laws.specs.Writing.{StopsWriting, at_sync}
use Rattle.vl_disk.specs.declared.errors.Failed.{Failed}
use Rattle.vl_disk.specs.declared.name.Name.{Name}
use Rattle.vl_disk.specs.Disk.{IsChangedBy}
use Rattle.vl_disk.specs.DiskState.{DiskState, appended, synced}

pub told_after : (change : DiskState → DiskState) (old new : Option DiskState) (state : DiskState) → old ≡ Some state
    → IsChangedBy change old new → new ≡ Some (change state)
told_after change old new state is changed = cc

pub tells_part : (name : Name) (piece : List ℕ) (old new : Option DiskState) (state : DiskState) → old ≡ Some state
    → (taken : ℕ) × (taken ≤ length piece) × IsChangedBy (appended name piece taken) old new → (now : DiskState) × (new ≡ Some now)
tells_part name piece old new state is
    (taken, le, changed) = (appended name piece taken state, told_after (appended name piece taken) old new state is changed)

pub tells_all : (name other : Name) (piece : List ℕ) (told0 told1 told2 : Option DiskState) (state : DiskState)
    → told0 ≡ Some state → IsChangedBy (appended name piece (length piece)) told0 told1
    → (result : Result (Unit {0}) Failed) → OnOk result (IsChangedBy (synced other) told1 told2)
    → OnErr result (told2 ≡ told1) → (now : DiskState) × (told2 ≡ Some now)
tells_all name other piece told0 told1 told2 state is appends (Ok x) changed err = (
  synced other (appended name piece (length piece) state),
  told_after (synced other) told1 told2 (appended name piece (length piece) state)
      (told_after (appended name piece (length piece)) told0 told1 state is appends) changed,
)
tells_all name other piece told0 told1 told2 state is appends (Err e) ok same =
    (appended name piece (length piece) state, same ∙ told_after (appended name piece (length piece)) told0 told1 state is appends)

false_true : false ≡ true → ⊥
false_true e = cc

-- where the sync failed, the disk was stopped behind an append that passed
pub sync_stops : {D T U E F : Type 0} (g : Ghosts D) (name other : Name) (frame : List ℕ) (old mid new : D) (x : T)
    → Appends {T = T} {E = E} g name frame old mid (Ok x) → (result : Result U F) → Syncs g other mid new result
    → OnErr result (StopsWriting g name frame old new)
sync_stops g name other frame old mid new x appends (Ok y) syncs = tt
sync_stops g name other frame old mid new x appends (Err f) syncs = at_sync
    (syncs.failed ∙ appends.appended)
    (syncs.as_call.calls ∙ ap one_more appends.as_call.calls)
    (record {
      mid = mid;
      counted = appends.as_call.calls;
      steady = appends.as_call.cause.steady (λ e. false_true e);
      as_planned = appends.as_call.time.as_planned;
    })
