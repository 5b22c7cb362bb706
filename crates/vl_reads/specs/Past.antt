-- Reads of the past: from which number on they are answered, and what of a version that needs.
use Rattle.std.specs.Prelude.{◌≡◌, ◌≤◌, ◌<◌, ◌+◌, ℕ, nat_lt, min, if◌then◌else◌, List, Option, None, Some, Result, Ok, Err}
use Rattle.vl_disk.specs.Faults.{HasCause}
use Rattle.vl_version.specs.LiesOver.{IsInMemory}
use Rattle.vl_reads.specs.declared.fails.AtFail.{AtFail}
use Rattle.vl_reads.specs.declared.fails.AtFail.TheVariants as why
use Rattle.vl_reads.specs.declared.past.Past.{Past}
use Rattle.vl_engine_model.specs.AtAnswer.{Ahead, AtAnswer, Beginning, Dropped, EmptyKey, Found, KeyTooLong, at_answer}
use Rattle.vl_engine_model.specs.Shows.{Shows}
use Rattle.vl_model.specs.History.{History, last_number}
use Rattle.vl_model.specs.Keys.{Stored}
use Rattle.vl_model.specs.Numbers.{at_least, low_of}
use Rattle.vl_model.specs.Versions.{low, versions_in}
use Rattle.vl_model.specs.Winners.{Logs}
use Rattle.vl_model.specs.declared.entry.Entry.{Entry}
use Rattle.vl_table.specs.Kept.{Files}
use Rattle.vl_table.specs.KeptBlocks.{AreKept, ReadsOf}
use Rattle.vl_table.specs.declared.block_reader.BlockReader.{BlockReader}
use Rattle.vl_txn.specs.Refusals.{refused_key}
use Rattle.vl_txn.specs.declared.key_fail.KeyFail.{KeyFail}
use Rattle.vl_txn.specs.declared.key_fail.KeyFail.TheVariants as keys
use Rattle.vl_version.specs.Answers.{Gives}
use Rattle.vl_version.specs.Naming.{IsKeyFault}
use Rattle.vl_version.specs.Over.{LooksOver}
use Rattle.vl_version.specs.Past.{LooksNth}
use Rattle.vl_version.specs.Sources.{HasEntries, stored_in, tables_in}
use Rattle.vl_disk.specs.declared.read_fault.ReadFault.{ReadFault as VersionFault}
use Rattle.vl_disk.specs.declared.read_fault.ReadFault.TheVariants as fault
use Rattle.vl_version.specs.declared.version.Version.{Version}

-- ---- what is seen of the past

-- how far back it may be read, as the layout has it
abbrev pub beginning : Past → Beginning
beginning past = record { floor = past.floor; keep = past.keep; since = past.since }

-- The version shows the history up to this number, each key from the least number on at which it could be read where this
-- began. What it holds of a key's versions gives that least number.
pub record ShowsPast {H : Type 0} (bytes : H → Option (List ℕ)) (version : Version H) (past : Past) (number : ℕ) (h : History)
    : Type 0 where
  pub entries_of : List Entry
  pub logs : Logs
  pub has : HasEntries bytes version entries_of logs
  pub shows : Shows logs entries_of h (λ key. low h past.floor past.keep past.since key) number
  pub exact : (key : List ℕ) → low_of (versions_in entries_of key) past.floor past.keep past.since
      ≡ low h past.floor past.keep past.since key
  pub floor : past.floor ≤ last_number h

-- ---- answers

-- it is answered so, unless memory ran out or a file couldn't be read; damage isn't met
abbrev pub IsAnsweredAt : AtAnswer → Result (Option Stored) AtFail → Type 0
IsAnsweredAt answer (Ok value) = answer ≡ Found value
IsAnsweredAt answer (Err why.EmptyKey) = answer ≡ EmptyKey
IsAnsweredAt answer (Err why.KeyTooLong) = answer ≡ KeyTooLong
IsAnsweredAt answer (Err (why.Ahead number)) = answer ≡ Ahead number
IsAnsweredAt answer (Err (why.Dropped least)) = answer ≡ Dropped least
IsAnsweredAt answer (Err why.NoMemory) = Unit {0}
IsAnsweredAt answer (Err (why.Disk name)) = Unit {0}
IsAnsweredAt answer (Err (why.Damaged name place)) = ⊥

-- the key isn't refused, and the number isn't above that at which it reads
abbrev pub IsWithin : (number : ℕ) → (key : List ℕ) → (at : ℕ) → Type 0
IsWithin number key at = (refused_key key ≡ None) × (at ≤ number)

-- A key is refused by the limits, and then a number is where it is above that at which it reads. All else comes behind these.
abbrev pub IsRefusedAt : (number : ℕ) → (key : List ℕ) → (at : ℕ) → Result (Option Stored) AtFail → Type 0
IsRefusedAt number key at (Ok value) = IsWithin number key at
IsRefusedAt number key at (Err why.EmptyKey) = refused_key key ≡ Some keys.EmptyKey
IsRefusedAt number key at (Err why.KeyTooLong) = refused_key key ≡ Some keys.KeyTooLong
IsRefusedAt number key at (Err (why.Ahead read)) = (refused_key key ≡ None) × (read ≡ number) × (number < at)
IsRefusedAt number key at (Err (why.Dropped least)) = IsWithin number key at
IsRefusedAt number key at (Err why.NoMemory) = IsWithin number key at
IsRefusedAt number key at (Err (why.Disk name)) = IsWithin number key at
IsRefusedAt number key at (Err (why.Damaged name place)) = IsWithin number key at

-- the reader failed
abbrev pub AtFailed : Result (Option Stored) AtFail → Type 0
AtFailed (Ok value) = ⊥
AtFailed (Err why.EmptyKey) = ⊥
AtFailed (Err why.KeyTooLong) = ⊥
AtFailed (Err (why.Ahead number)) = ⊥
AtFailed (Err (why.Dropped least)) = ⊥
AtFailed (Err why.NoMemory) = ⊥
AtFailed (Err (why.Disk name)) = Unit {0}
AtFailed (Err (why.Damaged name place)) = ⊥

-- A version was read at a number for a reader of the version that reads at another one.
pub record ReadsPast {H R : Type 0} (bytes : H → Option (List ℕ)) (faults : R → ℕ) (version : Version H) (past : Past) (number : ℕ)
    (key : List ℕ) (at : ℕ) (old new : BlockReader R) (result : Result (Option Stored) AtFail) : Type 0 where
  pub cause : HasCause (faults old.reader) (faults new.reader) (AtFailed result)
  pub near : IsInMemory version → AtFailed result → ⊥
  pub kept : (files : Files) → ReadsOf bytes files old (tables_in version) → AreKept files new
  pub refused : IsRefusedAt number key at result
  pub answers : (files : Files) (h : History) → ReadsOf bytes files old (tables_in version)
      → ShowsPast bytes version past number h → IsAnsweredAt (at_answer h (beginning past) number key at) result

-- the least number, where it is above this one
abbrev pub if_above : (at least : ℕ) → Option ℕ
if_above at least = if nat_lt at least then Some least else None

-- ---- refusals

abbrev pub as_at_fail : KeyFail → AtFail
as_at_fail keys.EmptyKey = why.EmptyKey
as_at_fail keys.KeyTooLong = why.KeyTooLong

abbrev pub as_failed_at : VersionFault → AtFail
as_failed_at fault.NoMemory = why.NoMemory
as_failed_at (fault.Disk name) = why.Disk name
as_failed_at (fault.Damaged name place) = why.Damaged name place

-- ---- faults

-- a fault of the version that is handed on is so; all else is free
abbrev pub IfFailsAt : (VersionFault → Type 0) → Result (Option Stored) AtFail → Type 0
IfFailsAt P (Ok value) = Unit {0}
IfFailsAt P (Err why.EmptyKey) = Unit {0}
IfFailsAt P (Err why.KeyTooLong) = Unit {0}
IfFailsAt P (Err (why.Ahead number)) = Unit {0}
IfFailsAt P (Err (why.Dropped least)) = Unit {0}
IfFailsAt P (Err why.NoMemory) = Unit {0}
IfFailsAt P (Err (why.Disk name)) = P (fault.Disk name)
IfFailsAt P (Err (why.Damaged name place)) = P (fault.Damaged name place)

-- a fault is of a table of the version that may hold the key, or of a log
abbrev pub NamesAt : {H : Type 0} → (H → Option (List ℕ)) → Version H → List ℕ → Result (Option Stored) AtFail → Type 0
NamesAt bytes version key result = IfFailsAt (IsKeyFault bytes (tables_in version) version.behind.logs.items key) result

-- ---- answers over tables that may not be true

-- What a version answers is handed on, and so are its faults. Want of memory is free.
abbrev pub IsHandedBack : (Result (Option Stored) VersionFault → Type 0) → Result (Option Stored) AtFail → Type 0
IsHandedBack answers (Ok value) = answers (Ok value)
IsHandedBack answers (Err why.EmptyKey) = ⊥
IsHandedBack answers (Err why.KeyTooLong) = ⊥
IsHandedBack answers (Err (why.Ahead number)) = ⊥
IsHandedBack answers (Err (why.Dropped least)) = ⊥
IsHandedBack answers (Err why.NoMemory) = Unit {0}
IsHandedBack answers (Err (why.Disk name)) = answers (Err (fault.Disk name))
IsHandedBack answers (Err (why.Damaged name place)) = answers (Err (fault.Damaged name place))

-- the least number by the oldest version of those that are kept, or the fault at which that wasn't found
abbrev pub IsLeastBy : Past → (at : ℕ) → (oldest result : Result (Option ℕ) VersionFault) → Type 0
IsLeastBy past at (Ok oldest) result = result ≡ Ok (if_above at (min past.floor (at_least past.since oldest)))
IsLeastBy past at (Err e) result = result ≡ Err e

module _ {H : Type 0} (bytes : H → Option (List ℕ)) (version : Version H) (past : Past) (key : List ℕ) (at : ℕ) where
  -- the versions that are kept were looked up, from the newest that is at most the floor to the oldest, and that gives the least number
  pub record LooksForOldest (result : Result (Option ℕ) VersionFault) : Type 0 where
    pub oldest : Result (Option ℕ) VersionFault
    pub looks : LooksNth bytes version key (past.floor + 1) past.keep oldest
    pub gives : IsLeastBy past at oldest result

  -- the least number at which the key can be read was looked for, where it is above this one
  pub record LooksForLeast (result : Result (Option ℕ) VersionFault) : Type 0 where
    -- from the floor on nothing is dropped,
    pub above : past.floor ≤ at → result ≡ Ok None
    -- below it all is where one version is kept,
    pub alone : at < past.floor → past.keep ≤ 1 → result ≡ Ok (Some past.floor)
    -- and where more are kept it is by the oldest of these.
    pub among : at < past.floor → 2 ≤ past.keep → LooksForOldest result

  -- Below the least number a read is refused by it; else the key is looked up at its own number.
  abbrev pub FollowsLeast : (least : Result (Option ℕ) VersionFault) → Result (Option Stored) AtFail → Type 0
  FollowsLeast (Ok None) result = IsHandedBack (LooksOver bytes version key at (Gives (stored_in bytes version.behind.logs.items))) result
  FollowsLeast (Ok (Some least)) result = result ≡ Err (why.Dropped least)
  FollowsLeast (Err e) result = result ≡ Err (as_failed_at e)

  -- The least number was looked for, and then the key, each in memory and in each table that may have what counts, up to the
  -- first that fails. So no answer hides a damaged block that had to be read, and none tells of damage elsewhere.
  pub record LooksBack (result : Result (Option Stored) AtFail) : Type 0 where
    pub least : Result (Option ℕ) VersionFault
    pub looks : LooksForLeast least
    pub follows : FollowsLeast least result
