-- What reads of a transaction or a view answer, and when they are refused.
use Rattle.std.specs.Prelude.{◌≡◌, ◌⊎◌, ℕ, List, [], Option, None, Some, Result, Ok, Err}
use Rattle.std.specs.FinMap.{get}
use Rattle.std.specs.Option.{option_map}
use Rattle.vl_reads.specs.declared.fails.ReadFail.{ReadFail}
use Rattle.vl_reads.specs.declared.fails.ReadFail.TheVariants as why
use Rattle.vl_reads.specs.declared.fails.ReadFault.{ReadFault}
use Rattle.vl_reads.specs.declared.fails.ReadFault.TheVariants as fault
use Rattle.vl_reads.specs.declared.txn.Txn.{Txn}
use Rattle.vl_reads.specs.declared.view.View.{View}
use Rattle.vl_model.specs.History.{History, contents_at, value_at, value_left}
use Rattle.vl_model.specs.Keys.{Row, Stored, Writes}
use Rattle.vl_model.specs.Reads.{rows_of}
use Rattle.vl_model.specs.declared.change.Change.{Change}
use Rattle.vl_model.specs.declared.way.Way.{Way}
use Rattle.vl_seglog.specs.Sealed.{IsHere, IsSmall}
use Rattle.vl_txn.specs.Reads.{scan_of}
use Rattle.vl_txn.specs.Refusals.{refused_bound}
use Rattle.vl_txn.specs.declared.key_fail.KeyFail.{KeyFail}
use Rattle.vl_txn.specs.declared.key_fail.KeyFail.TheVariants.{EmptyKey, KeyTooLong}
use Rattle.vl_version.specs.Answers.{Fills, Gives}
use Rattle.vl_version.specs.Gathered.{span_of}
use Rattle.vl_version.specs.Naming.{IsLogFault, IsScanFault}
use Rattle.vl_version.specs.Over.{LooksOver}
use Rattle.vl_version.specs.Sources.{stored_in, tables_in}
use Rattle.vl_version.specs.Whole.{LevelsStop}
use Rattle.vl_disk.specs.declared.name.Name.{Name}
use Rattle.vl_disk.specs.declared.read_fault.ReadFault.{ReadFault as VersionFault}
use Rattle.vl_disk.specs.declared.read_fault.ReadFault.TheVariants as failed
use Rattle.vl_version.specs.declared.found.Found.{Found}
use Rattle.vl_version.specs.declared.found.Found.TheVariants as found
use Rattle.vl_version.specs.declared.version.Version.{Version}

-- ---- refusals

-- either of two bounds may be refused
abbrev pub either : Option KeyFail → Option KeyFail → Option KeyFail
either None second = second
either (Some why) second = Some why

abbrev pub refused_bounds : (low high : List ℕ) → Option KeyFail
refused_bounds low high = either (refused_bound low) (refused_bound high)

-- a read is refused exactly where the limits refuse it
abbrev pub IsRefusedBy : {T : Type 0} → Option KeyFail → Result T ReadFail → Type 0
IsRefusedBy refused (Ok answer) = refused ≡ None
IsRefusedBy refused (Err why.EmptyKey) = refused ≡ Some EmptyKey
IsRefusedBy refused (Err why.KeyTooLong) = refused ≡ Some KeyTooLong
IsRefusedBy refused (Err why.NoMemory) = refused ≡ None
IsRefusedBy refused (Err (why.Disk name)) = refused ≡ None
IsRefusedBy refused (Err (why.Damaged name place)) = refused ≡ None

-- so is one without memory
abbrev pub IsRefusedInto : {T : Type 0} → Option KeyFail → Result T ReadFault → Type 0
IsRefusedInto refused (Ok answer) = refused ≡ None
IsRefusedInto refused (Err fault.EmptyKey) = refused ≡ Some EmptyKey
IsRefusedInto refused (Err fault.KeyTooLong) = refused ≡ Some KeyTooLong
IsRefusedInto refused (Err (fault.Disk name)) = refused ≡ None
IsRefusedInto refused (Err (fault.Damaged name place)) = refused ≡ None

-- ---- causes

-- the reader failed
abbrev pub ReadFailed : {T : Type 0} → Result T ReadFail → Type 0
ReadFailed (Ok answer) = ⊥
ReadFailed (Err why.EmptyKey) = ⊥
ReadFailed (Err why.KeyTooLong) = ⊥
ReadFailed (Err why.NoMemory) = ⊥
ReadFailed (Err (why.Disk name)) = Unit {0}
ReadFailed (Err (why.Damaged name place)) = ⊥

abbrev pub ReadIntoFailed : {T : Type 0} → Result T ReadFault → Type 0
ReadIntoFailed (Ok answer) = ⊥
ReadIntoFailed (Err fault.EmptyKey) = ⊥
ReadIntoFailed (Err fault.KeyTooLong) = ⊥
ReadIntoFailed (Err (fault.Disk name)) = Unit {0}
ReadIntoFailed (Err (fault.Damaged name place)) = ⊥

-- a fault of the version that is handed on is so; refusals and want of memory are free
abbrev pub IfFails : {T : Type 0} → (VersionFault → Type 0) → Result T ReadFail → Type 0
IfFails P (Ok answer) = Unit {0}
IfFails P (Err why.EmptyKey) = Unit {0}
IfFails P (Err why.KeyTooLong) = Unit {0}
IfFails P (Err why.NoMemory) = Unit {0}
IfFails P (Err (why.Disk name)) = P (failed.Disk name)
IfFails P (Err (why.Damaged name place)) = P (failed.Damaged name place)

-- a fault of a scan is of a table of the version whose range meets the interval, or of a log
abbrev pub NamesScanned : {H T : Type 0} → (H → Option (List ℕ)) → Version H → (low high : List ℕ) → Result T ReadFail → Type 0
NamesScanned bytes version low high result =
    IfFails (IsScanFault bytes (span_of low high) (tables_in version) version.behind.logs.items) result

-- and where it is of a table, reading stopped there, behind blocks that stand
abbrev pub StopsScanned : {H T : Type 0} → (H → Option (List ℕ)) → Version H → (low high : List ℕ) → Way → Result T ReadFail → Type 0
StopsScanned bytes version low high way result = IfFails
    (λ fault. LevelsStop bytes (span_of low high) way version.behind.levels fault ⊎ IsLogFault version.behind.logs.items fault) result

-- where damage is answered, this is so of its place
abbrev pub IfDamaged : {T : Type 0} → (Name → ℕ → Type 0) → Result T ReadFail → Type 0
IfDamaged P (Ok answer) = Unit {0}
IfDamaged P (Err why.EmptyKey) = Unit {0}
IfDamaged P (Err why.KeyTooLong) = Unit {0}
IfDamaged P (Err why.NoMemory) = Unit {0}
IfDamaged P (Err (why.Disk name)) = Unit {0}
IfDamaged P (Err (why.Damaged name place)) = P name place

-- damage was met
abbrev pub MetDamage : {T : Type 0} → Result T ReadFail → Type 0
MetDamage (Ok answer) = ⊥
MetDamage (Err why.EmptyKey) = ⊥
MetDamage (Err why.KeyTooLong) = ⊥
MetDamage (Err why.NoMemory) = ⊥
MetDamage (Err (why.Disk name)) = ⊥
MetDamage (Err (why.Damaged name place)) = Unit {0}

abbrev pub MetDamageInto : {T : Type 0} → Result T ReadFault → Type 0
MetDamageInto (Ok answer) = ⊥
MetDamageInto (Err fault.EmptyKey) = ⊥
MetDamageInto (Err fault.KeyTooLong) = ⊥
MetDamageInto (Err (fault.Disk name)) = ⊥
MetDamageInto (Err (fault.Damaged name place)) = Unit {0}

-- no damage was met
abbrev pub IsSound : {T : Type 0} → Result T ReadFail → Type 0
IsSound result = MetDamage result → ⊥

abbrev pub IsSoundInto : {T : Type 0} → Result T ReadFault → Type 0
IsSoundInto result = MetDamageInto result → ⊥

-- ---- answers

-- the value that a write leaves
abbrev pub written_value : Change → Option Stored
written_value change = value_left None (Some change)

-- the value of a key under the transaction's own writes
abbrev pub value_under : Writes → History → ℕ → List ℕ → Option Stored
value_under own h number key = value_left (value_at h number key) (get own key)

-- a value with its tag
abbrev pub with_its_tag : Option Stored → Option (Stored × ℕ)
with_its_tag value = option_map (λ (v : Stored). (v, v.tag)) value

-- an answer with a tag is that without it
abbrev pub IsTagged : Result (Option Stored) ReadFail → Result (Option (Stored × ℕ)) ReadFail → Type 0
IsTagged (Ok value) result = result ≡ Ok (with_its_tag value)
IsTagged (Err why) result = result ≡ Err why

abbrev pub tagged_under : Writes → History → ℕ → List ℕ → Option (Stored × ℕ)
tagged_under own h number key = with_its_tag (value_under own h number key)

-- the rows of a scan under them
abbrev pub rows_under : Writes → History → ℕ → List ℕ → List ℕ → ℕ → Way → List Row
rows_under own h number low high limit way =
    rows_of (contents_at h number) (scan_of low high limit way [] own)

-- a value that was read into the caller's bytes: it stands at their front, or they are as they were
abbrev pub IsFound : Option Stored → List ℕ → List ℕ → Found → Type 0
IsFound value old new found.None = (value ≡ None) × (new ≡ old)
IsFound value old new (found.Here len) = IsHere value old new len
IsFound value old new (found.Small len) = IsSmall value old new len

-- ---- answers over tables that may not be true

-- What a version answers is handed on, and so are its faults. A refused key and want of memory are free.
abbrev pub IsHandedOn : {T : Type 0} → (Result T VersionFault → Type 0) → Result T ReadFail → Type 0
IsHandedOn answers (Ok answer) = answers (Ok answer)
IsHandedOn answers (Err why.EmptyKey) = Unit {0}
IsHandedOn answers (Err why.KeyTooLong) = Unit {0}
IsHandedOn answers (Err why.NoMemory) = Unit {0}
IsHandedOn answers (Err (why.Disk name)) = answers (Err (failed.Disk name))
IsHandedOn answers (Err (why.Damaged name place)) = answers (Err (failed.Damaged name place))

-- so are those of a read without memory
abbrev pub IsHandedInto : {T : Type 0} → (Result T VersionFault → Type 0) → Result T ReadFault → Type 0
IsHandedInto answers (Ok answer) = answers (Ok answer)
IsHandedInto answers (Err fault.EmptyKey) = Unit {0}
IsHandedInto answers (Err fault.KeyTooLong) = Unit {0}
IsHandedInto answers (Err (fault.Disk name)) = answers (Err (failed.Disk name))
IsHandedInto answers (Err (fault.Damaged name place)) = answers (Err (failed.Damaged name place))

module _ {H : Type 0} (bytes : H → Option (List ℕ)) (version : Version H) (key : List ℕ) (number : ℕ) where
  -- A key is looked up in memory and in each table that may have what counts, up to the first that fails. So no answer hides a
  -- damaged block that had to be read, and none tells of damage elsewhere.
  abbrev pub LooksUp : Result (Option Stored) ReadFail → Type 0
  LooksUp result = IsHandedOn (LooksOver bytes version key number (Gives (stored_in bytes version.behind.logs.items))) result

  -- the same, and then the value's tag is put beside it
  pub record LooksUpTagged (result : Result (Option (Stored × ℕ)) ReadFail) : Type 0 where
    pub untagged : Result (Option Stored) ReadFail
    pub looks : LooksUp untagged
    pub tagged : IsTagged untagged result

  -- the same where the value is read into the caller's bytes
  abbrev pub LooksUpInto : List ℕ → List ℕ → Result Found ReadFault → Type 0
  LooksUpInto old new result =
      IsHandedInto (LooksOver bytes version key number (λ winner. Fills (stored_in bytes version.behind.logs.items) winner old new)) result

-- A key that is written is answered by what was written. No file is read for it.
abbrev pub IsOwn : {T : Type 0} → T → Result T ReadFail → Type 0
IsOwn own (Ok answer) = answer ≡ own
IsOwn own (Err why.EmptyKey) = Unit {0}
IsOwn own (Err why.KeyTooLong) = Unit {0}
IsOwn own (Err why.NoMemory) = Unit {0}
IsOwn own (Err (why.Disk name)) = ⊥
IsOwn own (Err (why.Damaged name place)) = ⊥

-- ---- what stays

-- only what it notes, and its reader, may have changed
abbrev pub OnlyNotes : {H R : Type 0} → Txn H R → Txn H R → Type 0
OnlyNotes old new = new ≡ record old { reads = new.reads; reader = new.reader }

-- only its reader may have changed
abbrev pub NotesNothing : {H R : Type 0} → Txn H R → Txn H R → Type 0
NotesNothing old new = new ≡ record old { reader = new.reader }

-- only what it has written may have changed
abbrev pub OnlyWrites : {H R : Type 0} → Txn H R → Txn H R → Type 0
OnlyWrites old new = new ≡ record old { writes = new.writes }

-- so it is with a view
abbrev pub OnlyReads : {H R : Type 0} → View H R → View H R → Type 0
OnlyReads old new = new ≡ record old { reader = new.reader }
