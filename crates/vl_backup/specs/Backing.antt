-- What a backup answers, and what it puts.
use Rattle.std.specs.Prelude.{◌≡◌, ◌⊎◌, ◌<◌, ◌≤◌, ℕ, List, length, Option, Result, Ok, Err}
use Rattle.vl_stream.specs.Batches.{Write, batches}
use Rattle.vl_stream.specs.Streams.{HoldsStream, Whole, stream}
use Rattle.vl_backup.specs.declared.fails.BackupFail.{BackupFail}
use Rattle.vl_backup.specs.declared.fails.BackupFail.TheVariants as fails
use Rattle.vl_disk.specs.declared.read_fault.ReadFault.{ReadFault}
use Rattle.vl_disk.specs.declared.read_fault.ReadFault.TheVariants as fault
use Rattle.vl_io.specs.Sink.{Takes}

-- The number isn't above the view's own; and it is 0, or not below the greatest version of a deletion that was dropped.
abbrev pub MayTell : (number gone since : ℕ) → Type 0
MayTell number gone since = (since ≤ number) × ((since ≡ 0) ⊎ (gone ≤ since))

-- It is refused by its number exactly where the view may not tell since then; every other answer comes only where it may.
abbrev pub IsAnsweredSince : (number gone since : ℕ) → Result ℕ BackupFail → Type 0
IsAnsweredSince number gone since (Err (fails.Ahead own)) = (number < since) × (own ≡ number)
IsAnsweredSince number gone since (Err (fails.TooOld least)) = (since ≤ number) × (0 < since) × (since < gone) × (least ≡ gone)
IsAnsweredSince number gone since (Ok count) = MayTell number gone since
IsAnsweredSince number gone since (Err fails.NoMemory) = MayTell number gone since
IsAnsweredSince number gone since (Err (fails.Disk name)) = MayTell number gone since
IsAnsweredSince number gone since (Err (fails.Damaged name place)) = MayTell number gone since
IsAnsweredSince number gone since (Err fails.Write) = MayTell number gone since

-- just the stream of these records was put, which is whole and holds their batches, and they were counted
pub record PutStream (since number : ℕ) (ws : List Write) (held now : Option (List ℕ)) (count : ℕ) : Type 0 where
  pub put : Takes held now (stream since number ws)
  pub counted : count ≡ length ws
  pub holds : HoldsStream (stream since number ws) (batches ws) Whole

-- it was refused by its number
abbrev pub IsRefused : Result ℕ BackupFail → Type 0
IsRefused (Err (fails.Ahead own)) = Unit {0}
IsRefused (Err (fails.TooOld least)) = Unit {0}
IsRefused (Ok count) = ⊥
IsRefused (Err fails.NoMemory) = ⊥
IsRefused (Err (fails.Disk name)) = ⊥
IsRefused (Err (fails.Damaged name place)) = ⊥
IsRefused (Err fails.Write) = ⊥

-- a read of the view's files failed
abbrev pub BackupFailed : Result ℕ BackupFail → Type 0
BackupFailed (Err (fails.Disk name)) = Unit {0}
BackupFailed (Ok count) = ⊥
BackupFailed (Err (fails.Ahead own)) = ⊥
BackupFailed (Err (fails.TooOld least)) = ⊥
BackupFailed (Err fails.NoMemory) = ⊥
BackupFailed (Err (fails.Damaged name place)) = ⊥
BackupFailed (Err fails.Write) = ⊥

-- a fault of the view's files that is handed on is so; all other answers are free
abbrev pub FailsBy : (ReadFault → Type 0) → Result ℕ BackupFail → Type 0
FailsBy P (Err (fails.Disk name)) = P (fault.Disk name)
FailsBy P (Err (fails.Damaged name place)) = P (fault.Damaged name place)
FailsBy P (Ok count) = Unit {0}
FailsBy P (Err (fails.Ahead own)) = Unit {0}
FailsBy P (Err (fails.TooOld least)) = Unit {0}
FailsBy P (Err fails.NoMemory) = Unit {0}
FailsBy P (Err fails.Write) = Unit {0}
