-- Where the records of a frame lie in their log, and what a pointer leads to there.
use Rattle.std.specs.Prelude.{◌≡◌, ℕ, ◌+◌, Bool, ◌&&◌, ◌==◌, if◌then◌else◌, List, [], ◌∷◌, length, take, drop, get_or}
use Rattle.std.specs.Prelude.{map, bytes_eq, Option, Some, None}
use Rattle.vl_model.specs.Formats.{record_head, tag_kept}
use Rattle.vl_model.specs.Frames.{frame_length, moved_length, record_length}
use Rattle.vl_model.specs.Keys.{Stored, is_key_length, is_value_length, tagged, value_length}
use Rattle.vl_model.specs.declared.change.Change.{Change}
use Rattle.vl_model.specs.declared.change.Change.TheVariants.{Set}
use Rattle.vl_model.specs.declared.log_frame.LogFrame.{LogFrame}
use Rattle.vl_model.specs.declared.log_frame.LogFrame.TheVariants.{Committed, Relocated}
use Rattle.vl_model.specs.declared.log_frame.Moved.{Moved}
use Rattle.vl_model.specs.declared.pointer.Pointer.{Pointer}
use Rattle.vl_seglog.specs.Record.{IsSpelled, record_bytes}

-- ---- where records lie

-- to the record that lies at a place of the log of this format with this number
abbrev pub pointer_at : ℕ → ℕ → ℕ → List ℕ → Change → Pointer
pointer_at format log place key change =
    record { segment = log; place = place; length = record_length format key change }

-- to a commit's records, one for each, of which the first lies here
abbrev pub pointers_from : ℕ → ℕ → ℕ → List (List ℕ × Change) → List Pointer
pointers_from format log place [] = []
pointers_from format log place (write ∷ others) =
    pointer_at format log place write.0 write.1
    ∷ pointers_from format log (place + record_length format write.0 write.1) others

-- to a relocation's, each 8 bytes behind its version, of which the first lies here
abbrev pub moved_pointers : ℕ → ℕ → ℕ → List Moved → List Pointer
moved_pointers format log place [] = []
moved_pointers format log place (moved ∷ others) =
    pointer_at format log (place + 8) moved.key (Set moved.value)
    ∷ moved_pointers format log (place + moved_length format moved) others

-- To the records of the frame at a place, in their order. A commit has 17 bytes before its first record,
-- and a relocation 9 before its first version.
abbrev pub frame_pointers : ℕ → ℕ → ℕ → LogFrame → List Pointer
frame_pointers format log place (Committed number writes) = pointers_from format log (place + 17) writes
frame_pointers format log place (Relocated records) = moved_pointers format log (place + 9) records

-- what a moved record does to its key
abbrev pub moved_write : Moved → List ℕ × Change
moved_write moved = (moved.key, Set moved.value)

-- what the records of a frame do to their keys, in their order
abbrev pub frame_writes : LogFrame → List (List ℕ × Change)
frame_writes (Committed number writes) = writes
frame_writes (Relocated records) = map moved_write records

-- ---- what a pointer leads to

-- The record of this change to the key stands where the pointer leads to, in the bytes of the log of this format
-- with this number, and has its length.
pub record LeadsTo (format log : ℕ) (bytes : List ℕ) (p : Pointer) (key : List ℕ) (change : Change) : Type 0 where
  pub segment : p.segment ≡ log
  pub length : p.length ≡ record_length format key change
  pub stands : IsSpelled format (drop p.place bytes) key change

-- each of these pointers leads to the record of one of these writes, in order
abbrev pub LeadToAll : ℕ → ℕ → List ℕ → List Pointer → List (List ℕ × Change) → Type 0
LeadToAll format log bytes [] [] = Unit {0}
LeadToAll format log bytes [] (write ∷ others) = ⊥
LeadToAll format log bytes (p ∷ pointers) [] = ⊥
LeadToAll format log bytes (p ∷ pointers) (write ∷ others) =
    LeadsTo format log bytes p write.0 write.1 × LeadToAll format log bytes pointers others

-- The records of these frames are where they lie, of which the first frame stands at a place of the log.
abbrev pub AllLead : ℕ → ℕ → List ℕ → ℕ → List LogFrame → Type 0
AllLead format log bytes at [] = Unit {0}
AllLead format log bytes at (f ∷ frames) =
    LeadToAll format log bytes (frame_pointers format log at f) (frame_writes f)
    × AllLead format log bytes (at + frame_length format f) frames

-- whether the record of this key and value lies at the pointer's place in these bytes of a log of this format, and
-- has its length
abbrev pub lies_at : ℕ → List ℕ → Pointer → List ℕ → Stored → Bool
lies_at format bytes p key value =
    is_key_length (length key) && is_value_length format (value_length value)
    && (tag_kept format value.tag == value.tag) && (p.length == record_length format key (Set value))
    && bytes_eq (take p.length (drop p.place bytes)) (record_bytes format key (Set value))

-- what these bytes of a record hold, if it is one of a key of so many bytes: what stands behind the key, and the tag
-- behind the flag, which format 1 hasn't got
abbrev pub value_in : ℕ → List ℕ → ℕ → Stored
value_in format bytes key_length =
    tagged (drop (record_head format + key_length) bytes) (tag_kept format (get_or bytes 1 0))

-- The value that the pointer leads to in the bytes of its log, which has this format: that of the record at its
-- place, if this is one of the key, no deletion, and has the pointer's length. Whether the log is the pointer's
-- segment is not asked here: who reads finds the log by it.
abbrev pub stored_at : ℕ → List ℕ → Pointer → List ℕ → Option Stored
stored_at format bytes p key =
    let value = value_in format (take p.length (drop p.place bytes)) (length key) in
    if lies_at format bytes p key value then Some value else None
