-- The pointers that a frame was staged or read with lead to its records.
use Rattle.std.specs.Prelude.{◌≡◌, ℕ, ◌+◌, List, [], ◌∷◌, ◌++◌, drop, map, Some}
use Rattle.std.specs.List.{AllByRecursion}
use Rattle.std.proofs.Common.{arith, refl, sym, ap, subst, ◌∙◌}
use Rattle.vl_model.specs.Formats.{log_format}
use Rattle.vl_model.specs.Frames.{frame_length, record_length}
use Rattle.vl_model.specs.declared.change.Change.{Change}
use Rattle.vl_model.specs.declared.log_frame.LogFrame.{LogFrame}
use Rattle.vl_model.specs.declared.pointer.Pointer.{Pointer}
use Rattle.vl_seglog.specs.LogReading.{ReadsLog}
use Rattle.vl_seglog.specs.Placed.{AreFramesFrom, AreMovedFrom, AreRecordsFrom, IsFrameAt, RecordsLie, read_pointers, records_of}
use Rattle.vl_seglog.specs.Reading.{frame_of, moved_of, reading_of, said_of, write_of}
use Rattle.vl_seglog.specs.Sealed.{IsFound}
use Rattle.vl_seglog.specs.Staging.{IsStaged}
use Rattle.vl_seglog.specs.Stored.{AllLead, LeadToAll, frame_pointers, frame_writes, moved_pointers, pointer_at, pointers_from}
use Rattle.vl_seglog.specs.declared.frame.Frame.{Frame}
use Rattle.vl_seglog.specs.declared.frame.ReadRecord.{ReadRecord}
use Rattle.vl_seglog.specs.declared.frame.Said.{Said}
use Rattle.vl_seglog.specs.declared.frame.Said.TheVariants as says
use Rattle.vl_seglog.specs.declared.read.LogRead.{LogRead}
use Rattle.vl_seglog.specs.declared.staged.Staged.{Staged}
use Rattle.vl_seglog.specs.laws.StoredLaws.{pointers_lead, reading_leads}

pub staged_pointers_lead : (number place : ℕ) (f : LogFrame) (staged : Staged) (bytes rest : List ℕ) → IsStaged number place f staged
    → drop place bytes ≡ staged.frame.items ++ rest → LeadToAll log_format number bytes staged.pointers.items (frame_writes f)
staged_pointers_lead number place f staged bytes rest is here =
    subst (λ (ps : List Pointer). LeadToAll log_format number bytes ps (frame_writes f)) (sym is.pointers)
    (pointers_lead log_format number place bytes f rest (record {
      lawful = is.has.lawful;
      short = is.has.short;
      spelled = here ∙ ap (λ (l : List ℕ). l ++ rest) is.frame;
    }))

-- ---- the pointers that were read are those of the frame at its place

record_pointers : (format log version place : ℕ) (records : List ReadRecord) → AreRecordsFrom format log version place records
    → map (λ (r : ReadRecord). r.pointer) records ≡ pointers_from format log place (map write_of records)
record_pointers format log version place [] lie = refl
record_pointers format log version place (r ∷ records) (here, lie) =
    let others = record_pointers format log version (place + record_length format r.key r.change) records lie in
    ap (λ (p : Pointer). p ∷ map (λ (r : ReadRecord). r.pointer) records) here.pointer_is
    ∙ ap (λ (ps : List Pointer). pointer_at format log place r.key r.change ∷ ps) others

moved_records : (format log place : ℕ) (records : List ReadRecord) → AreMovedFrom format log place records
    → map (λ (r : ReadRecord). r.pointer) records ≡ moved_pointers format log place (map moved_of records)
moved_records format log place [] lie = refl
moved_records format log place (r ∷ records) (here, lie) =
    let size = λ (change : Change). 8 + record_length format r.key change in
    let pointer = λ (change : Change). pointer_at format log (place + 8) r.key change in
    let others = moved_records format log (place + size r.change) records lie in
    let moved = map moved_of records in
    ap (λ (p : Pointer). p ∷ map (λ (r : ReadRecord). r.pointer) records) here.pointer_is
    ∙ ap (λ (ps : List Pointer). pointer r.change ∷ ps) others
    ∙ ap (λ (change : Change). pointer change ∷ moved_pointers format log (place + size change) moved) here.sets

said_pointers : (format log place : ℕ) (said : Said) → RecordsLie format log (place + 5) said
    → map (λ (r : ReadRecord). r.pointer) (records_of said) ≡ frame_pointers format log place (said_of said)
said_pointers format log place (says.Commit c) lie =
    let same : place + 5 + 12 ≡ place + 17 = omega arith in
    record_pointers format log c.number (place + 17) c.records.items
    (subst (λ (n : ℕ). AreRecordsFrom format log c.number n c.records.items) same lie)
said_pointers format log place (says.Moves records) lie =
    let same : place + 5 + 4 ≡ place + 9 = omega arith in
    moved_records format log (place + 9) records.items
    (subst (λ (n : ℕ). AreMovedFrom format log n records.items) same lie)

-- ---- so they lead to its records

read_lead : (format number place : ℕ) (bytes : List ℕ) (f : Frame) → IsFrameAt format number place f
    → LeadToAll format number bytes (frame_pointers format number place (frame_of f)) (frame_writes (frame_of f))
    → LeadToAll format number bytes (read_pointers f) (frame_writes (frame_of f))
read_lead format number place bytes f placed lead =
    subst (λ (ps : List Pointer). LeadToAll format number bytes ps (frame_writes (frame_of f)))
    (sym (said_pointers format number place f.said placed.records)) lead

pub scanned_pointers_lead : (format number place : ℕ) (bytes : List ℕ) (f : Frame) → IsFound format number place bytes (Some f)
    → IsFrameAt format number place f → LeadToAll format number bytes (read_pointers f) (frame_writes (frame_of f))
scanned_pointers_lead format number place bytes f (rest, stands) placed =
    read_lead format number place bytes f placed (pointers_lead format number place bytes (frame_of f) rest stands)

all_lead : (format number place : ℕ) (bytes : List ℕ) (frames : List Frame) → AllLead format number bytes place (map frame_of frames)
    → AreFramesFrom format number place frames
    → AllByRecursion (λ (f : Frame). LeadToAll format number bytes (read_pointers f) (frame_writes (frame_of f))) frames
all_lead format number place bytes [] lead placed = tt
all_lead format number place bytes (f ∷ frames) (here, lead) (at, placed) = (
  read_lead format number place bytes f at here,
  all_lead format number (place + frame_length format (frame_of f)) bytes frames lead placed,
)

pub log_pointers_lead : (format number : ℕ) (bytes : List ℕ) (read : LogRead) → ReadsLog number bytes (reading_of read)
    → read.header ≡ Some format
    → AreFramesFrom format number 16 read.frames.items
    → AllByRecursion (λ (f : Frame). LeadToAll format number bytes (read_pointers f) (frame_writes (frame_of f))) read.frames.items
log_pointers_lead format number bytes read reads header placed =
    all_lead format number 16 bytes read.frames.items (reading_leads number bytes (reading_of read) reads format header) placed
