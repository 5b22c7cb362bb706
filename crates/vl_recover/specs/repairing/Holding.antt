-- The hold of the last log behind its repairing: which log is held, the room that the hold wants, and what is held then.
use Rattle.std.specs.Prelude.{◌≡◌, ◌&&◌, ℕ, if◌then◌else◌, List, [], ◌∷◌, Option, None, Some, IsTrue}
use Rattle.vl_disk.specs.DiskState.{DiskState, file_at}
use Rattle.vl_disk.specs.Spare.{Spare}
use Rattle.vl_disk.specs.declared.name.Name.{Name}
use Rattle.vl_disk.specs.declared.name.Name.TheVariants.{Log}
use Rattle.vl_recover.specs.repairing.Repairing.{Cut, Headed, Kept, LastLog, NoLast, Rewritten}
use Rattle.vl_recover.specs.declared.found.LastLog as found
use Rattle.vl_recover.specs.declared.plan.LogToHold.{LogToHold}
use Rattle.vl_seglog.specs.declared.sealed.SealedLog.{SealedLog}

-- the log that is held: the last one, where it has frames, and so keeps its header
abbrev pub hold_for : Option found.LastLog → Option LogToHold
hold_for None = None
hold_for (Some last) =
    if last.header && last.has_frames then Some (record { number = last.number; format = last.format }) else None

-- what is held is the last log, which keeps its header and what stands behind it
abbrev pub IsHoldOf : LastLog → Option LogToHold → Type 0
IsHoldOf last None = Unit {0}
IsHoldOf NoLast (Some hold) = ⊥
IsHoldOf (Kept log) (Some hold) = hold.number ≡ log
IsHoldOf (Cut log len) (Some hold) = hold.number ≡ log
IsHoldOf (Rewritten log) (Some hold) = ⊥
IsHoldOf (Headed log) (Some hold) = ⊥

-- there is room for it
abbrev pub IsReadyToHold : Option LogToHold → (Name → Spare) → Type 0
IsReadyToHold None spare = Unit {0}
IsReadyToHold (Some hold) spare = IsTrue (spare (Log hold.number)).hold

-- the room for a hold of the last log is as it was
abbrev pub SameHold : LastLog → (Name → Spare) → (Name → Spare) → Type 0
SameHold NoLast old new = Unit {0}
SameHold (Kept log) old new = (new (Log log)).hold ≡ (old (Log log)).hold
SameHold (Cut log len) old new = (new (Log log)).hold ≡ (old (Log log)).hold
SameHold (Rewritten log) old new = Unit {0}
SameHold (Headed log) old new = Unit {0}

-- the log, where there is one
abbrev pub listed : {A : Type 0} → Option A → List A
listed None = []
listed (Some a) = a ∷ []

module _ {H : Type 0} (bytes_of : H → Option (List ℕ)) where
  -- the log is held with the bytes that it has on a disk
  pub record IsHeldOn (hold : LogToHold) (log : SealedLog H) (disk : DiskState) : Type 0 where
    pub number_is : log.number ≡ hold.number
    pub format_is : log.format ≡ hold.format
    pub told : bytes_of log.held ≡ Some (file_at disk (Log hold.number)).bytes

  -- so it is with the one that is to be held, if one is
  abbrev pub IsHeld : Option LogToHold → Option (SealedLog H) → DiskState → Type 0
  IsHeld None None disk = Unit {0}
  IsHeld None (Some log) disk = ⊥
  IsHeld (Some hold) None disk = ⊥
  IsHeld (Some hold) (Some log) disk = IsHeldOn hold log disk
