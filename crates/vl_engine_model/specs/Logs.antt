-- What the frames of a log come to, in its format: its records with their places, the entries of its
-- memtable, its length.
use Rattle.std.specs.Prelude.{ℕ, ◌+◌, List, [], ◌∷◌, ◌++◌, map}
use Rattle.std.specs.List.{sum_by}
use Rattle.vl_model.specs.Entries.{in_order}
use Rattle.vl_model.specs.Frames.{record_length, moved_length, frame_length}
use Rattle.vl_model.specs.declared.change.Change.{Change}
use Rattle.vl_model.specs.declared.change.Change.TheVariants.{Set, Delete}
use Rattle.vl_model.specs.declared.entry.Entry.{Entry}
use Rattle.vl_model.specs.declared.entry.Body.{Body}
use Rattle.vl_model.specs.declared.entry.Body.TheVariants.{Gone, Logged}
use Rattle.vl_model.specs.declared.log_frame.LogFrame.{LogFrame}
use Rattle.vl_model.specs.declared.log_frame.LogFrame.TheVariants.{Committed, Relocated}
use Rattle.vl_model.specs.declared.log_frame.Moved.{Moved}
use Rattle.vl_model.specs.declared.pointer.Pointer.{Pointer}
use Rattle.vl_engine_model.specs.declared.segment.Segment.{Segment}

-- a record of a log: the version that it has, what it does to its key, and where its first byte
-- lies
pub record LogRecord : Type 0 where
  pub key : List ℕ
  pub version : ℕ
  pub change : Change
  pub place : ℕ

-- the records of a commit, of which the first lies here
abbrev pub committed_records : (format place number : ℕ) → List (List ℕ × Change) → List LogRecord
committed_records format place number [] = []
committed_records format place number (write ∷ writes) =
    record { key = write.0; version = number; change = write.1; place = place }
    ∷ committed_records format (place + record_length format write.0 write.1) number writes

-- those of a relocation, each 8 bytes behind its version, of which the first lies here
abbrev pub relocated_records : (format place : ℕ) → List Moved → List LogRecord
relocated_records format place [] = []
relocated_records format place (moved ∷ others) =
    record { key = moved.key; version = moved.version; change = Set moved.value; place = place + 8 }
    ∷ relocated_records format (place + moved_length format moved) others

-- the records of the frame at a place, whose body begins 5 bytes behind it: a commit has its number
-- and a count before them, a relocation a count
abbrev pub frame_records : (format place : ℕ) → LogFrame → List LogRecord
frame_records format place (Committed number writes) = committed_records format (place + 17) number writes
frame_records format place (Relocated moved) = relocated_records format (place + 9) moved

-- the records of frames of which the first stands here, in their order
abbrev pub records_from : (format place : ℕ) → List LogFrame → List LogRecord
records_from format place [] = []
records_from format place (f ∷ fs) =
    frame_records format place f ++ records_from format (place + frame_length format f) fs

-- all records of a log: its frames stand behind a header of 16 bytes
abbrev pub records : Segment → List LogRecord
records s = records_from s.format 16 s.frames

abbrev pub pointer_to : (format segment : ℕ) → LogRecord → Pointer
pointer_to format segment r =
    record { segment = segment; place = r.place; length = record_length format r.key r.change }

abbrev pub logged_body : Change → Pointer → Body
logged_body (Set value) pointer = Logged value pointer
logged_body Delete pointer = Gone

-- the entry that a memtable has of a record
abbrev pub record_entry : (format segment : ℕ) → LogRecord → Entry
record_entry format segment r =
    record { key = r.key; version = r.version; body = logged_body r.change (pointer_to format segment r) }

-- the entries of the frame at a place
abbrev pub frame_entries : (format segment place : ℕ) → LogFrame → List Entry
frame_entries format segment place f = map (record_entry format segment) (frame_records format place f)

-- the entries of frames of which the first stands here, those of the last frame first
abbrev pub logged_entries : (format segment place : ℕ) → List LogFrame → List Entry
logged_entries format segment place [] = []
logged_entries format segment place (f ∷ fs) =
    logged_entries format segment (place + frame_length format f) fs ++ frame_entries format segment place f

-- the entries of a log in order; of a key and version that stand twice the last record counts
abbrev pub memtable : Segment → List Entry
memtable s = in_order (logged_entries s.format s.number 16 s.frames)

abbrev pub log_length : ℕ → List LogFrame → ℕ
log_length format frames = 16 + sum_by (frame_length format) frames

-- the log of a format with this number and these frames
abbrev pub new_segment : (format number : ℕ) → List LogFrame → Segment
new_segment format number frames =
    record { format = format; number = number; length = log_length format frames; frames = frames }
