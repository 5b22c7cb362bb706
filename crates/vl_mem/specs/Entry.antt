-- What a disk in memory keeps under each name.
use Rattle.std.specs.Prelude.{◌≡◌, ℕ, ◌+◌, ◌≤◌, Bool, true, false, List, [], length, Option, None, Some, if◌then◌else◌, vec_capacity, Vec}
use Rattle.std.specs.Global.{Global}
use Rattle.std.specs.Option.{ForSome, option_map}
use Rattle.std.specs.BTreeMap as tree
use Rattle.std.specs.BTreeMap.{BTreeMap}
use Rattle.std.specs.FinMap.{get}
use Rattle.vl_disk.specs.declared.name.Name.{Name}
use Rattle.vl_disk.specs.Name.{name_cmp}
use Rattle.vl_disk.specs.Spare.{Spare}
use Rattle.vl_disk.specs.DiskState.{File, DiskState}
use Rattle.vl_mem.specs.declared.entry.Entry.{Entry}
use Rattle.vl_mem.specs.declared.entry.Presence.{Presence}
use Rattle.vl_mem.specs.declared.entry.Presence.TheVariants.{Absent, Standing, Removed, Lent}

-- a file, but for the pieces that are unsynced
abbrev pub plain : File → File
plain file = record file { unsynced = [] }

-- so the file of an entry
abbrev pub file_of : Entry → File
file_of entry = record {
  bytes = entry.bytes.items;
  synced = entry.synced;
  wholly_synced = entry.wholly_synced;
  lasting = entry.lasting;
  unsynced = [];
}

abbrev pub is_standing : Presence → Bool
is_standing Absent = false
is_standing Standing = true
is_standing Removed = false
is_standing Lent = false

-- the file that stands, and the one that was removed
abbrev pub if_standing : Presence → File → Option File
if_standing Absent file = None
if_standing Standing file = Some file
if_standing Removed file = None
if_standing Lent file = None

abbrev pub if_removed : Presence → File → Option File
if_removed Absent file = None
if_removed Standing file = None
if_removed Removed file = Some file
if_removed Lent file = Some file

-- a writer has the file
abbrev pub is_lent : Presence → Bool
is_lent Absent = false
is_lent Standing = false
is_lent Removed = false
is_lent Lent = true

abbrev pub standing_in : Option Entry → Option File
standing_in None = None
standing_in (Some entry) = if_standing entry.presence (file_of entry)

abbrev pub removed_in : Option Entry → Option File
removed_in None = None
removed_in (Some entry) = if_removed entry.presence (file_of entry)

-- an entry has the file that stands under its name, or the one that was removed there
pub record Matches (entry : Option Entry) (there gone : Option File) : Type 0 where
  pub standing : standing_in entry ≡ option_map plain there
  pub removed : removed_in entry ≡ option_map plain gone

abbrev pub Entries : Type 0
Entries = BTreeMap Name Entry

-- the entry of a name
abbrev pub entry_of : Entries → Name → Option Entry
entry_of entries name = tree.get name_cmp entries name

-- so it is of each name
abbrev pub HasFiles : Entries → DiskState → Type 0
HasFiles entries disk = (name : Name) → Matches (entry_of entries name) (get disk.standing name) (get disk.removed name)

-- the room that is made there
abbrev pub spare_of : Option Entry → Spare
spare_of None = record { change = false; append = None; hold = false; lend = false; adopt = false }
spare_of (Some entry) = record {
  change = entry.change;
  append = option_map vec_capacity entry.buffer;
  hold = entry.hold;
  lend = entry.lend;
  adopt = is_lent entry.presence;
}

-- the calls at which a writer of the name is to fail
abbrev pub failing_of : Option Entry → List ℕ
failing_of None = []
failing_of (Some entry) = entry.failing.items

-- no writer is to fail
abbrev pub NoneFail : Entries → Type 0
NoneFail entries = (name : Name) → failing_of (entry_of entries name) ≡ []

-- so many bytes may yet come into some room
abbrev pub room_in : Option (Vec ℕ Global) → ℕ
room_in None = 0
room_in (Some buffer) = vec_capacity buffer

-- what is made of rooms is there
pub record Fits (entry : Entry) : Type 0 where
  -- the room for the next piece is empty, and the file has as much behind its end
  pub piece : ForSome entry.buffer (λ buffer. (buffer.items ≡ [])
      × (length entry.bytes.items + vec_capacity buffer ≤ vec_capacity entry.bytes))
  -- the room for a copy is empty, and has place for the file with that piece
  pub empty : entry.copy.items ≡ []
  pub copy : entry.hold ≡ true → length entry.bytes.items + room_in entry.buffer ≤ vec_capacity entry.copy

-- a file that stands may be removed; one that is lent may be adopted, and then synced and removed
abbrev pub removes : Presence → ℕ
removes Absent = 0
removes Standing = 1
removes Removed = 0
removes Lent = 3

abbrev pub appends : Option (Vec ℕ Global) → ℕ
appends None = 0
appends (Some buffer) = 2

-- how many events may yet come of this name before the next `ready`: a create with a sync and a remove after it, a lend
-- with an adopt, a sync and a remove after it, an append with a sync, and a sync and a remove of what is there
abbrev pub slots : Entry → ℕ
slots entry =
    (if entry.change then 3 else 0) + (if entry.lend then 3 else 0) + appends entry.buffer
    + (if entry.wholly_synced then 0 else 1) + removes entry.presence

-- a call that leaves an event has this of the file, in the room that was made
pub record Becomes (old new : Entry) (now : Presence) (left : File) : Type 0 where
  pub presence : new.presence ≡ now
  pub file : file_of new ≡ left
  pub fits : Fits old → Fits new
  pub slots : slots new + 1 ≤ slots old

-- the file is as it was
pub record KeepsFile (old new : Entry) : Type 0 where
  pub presence : new.presence ≡ old.presence
  pub file : file_of new ≡ file_of old
  pub fits : Fits old → Fits new

-- an entry of a name of which nothing is known
pub record IsBlank (entry : Entry) : Type 0 where
  pub presence : entry.presence ≡ Absent
  pub spare : spare_of (Some entry) ≡ spare_of None
  pub failing : failing_of (Some entry) ≡ []
  pub fits : Fits entry
  pub slots : slots entry ≡ 0
