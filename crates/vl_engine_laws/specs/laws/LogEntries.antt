-- The entries of logs, end to end: of logs together, from the newest on, and of those with frames alone.
use Rattle.std.specs.Prelude.{◌≡◌, ℕ, List, [], ◌∷◌, ◌++◌, map, Some, refl}
use Rattle.std.specs.List.{AllByRecursion, filter, flat_map}
use Rattle.std.proofs.Common.{sym, ap, ◌∙◌, append_assoc, append-nil}
use Rattle.std.proofs.lemmas.Grind.{flat_map-append}
use Rattle.vl_engine_laws.specs.Shown.{logs_entries}
use Rattle.vl_engine_model.specs.Logs.{log_length, memtable, new_segment}
use Rattle.vl_engine_model.specs.Start.{has_frames, newest_first}
use Rattle.vl_engine_model.specs.Tidy.{IsTrueLog}
use Rattle.vl_engine_model.specs.declared.segment.Segment.{Segment}
use Rattle.vl_model.specs.declared.entry.Entry.{Entry}
use Rattle.vl_model.specs.declared.log_frame.LogFrame.{LogFrame}
use Rattle.vl_recover.specs.crash.Held.{log_as_held}
use Rattle.vl_recover.specs.opening.Walk.{filled, with_frames}

-- the later logs' entries are the newer ones
pub entries-append : (xs ys : List Segment) → logs_entries (xs ++ ys) ≡ logs_entries ys ++ logs_entries xs
entries-append [] ys = sym (append-nil (logs_entries ys))
entries-append (x ∷ xs) ys =
    ap (λ (es : List Entry). es ++ memtable x) (entries-append xs ys)
    ∙ append_assoc (logs_entries ys) (logs_entries xs) (memtable x)

-- those of memtables, the newest first
pub entries-newest : (ss : List Segment) → flat_map memtable (newest_first ss) ≡ logs_entries ss
entries-newest [] = refl
entries-newest (s ∷ ss) =
    flat_map-append memtable (newest_first ss) (s ∷ [])
    ∙ ap (λ (es : List Entry). es ++ flat_map memtable (s ∷ [])) (entries-newest ss)
    ∙ ap (λ (es : List Entry). logs_entries ss ++ es) (append-nil (memtable s))

-- ---- logs without frames have none

abbrev with_all : Segment → List LogFrame → Segment
with_all s frames = record { format = s.format; number = s.number; length = s.length; frames = frames }

pub entries-filtered : (ss : List Segment) → logs_entries (filter has_frames ss) ≡ logs_entries ss
entries-filtered [] = refl
entries-filtered (s ∷ ss) = by s.frames (entries-filtered ss)
  where
    by : (frames : List LogFrame) → logs_entries (filter has_frames ss) ≡ logs_entries ss
        → logs_entries (filter has_frames (with_all s frames ∷ ss)) ≡ logs_entries ss ++ memtable (with_all s frames)
    by [] later = later ∙ sym (append-nil (logs_entries ss))
    by (f ∷ fs) later = ap (λ (es : List Entry). es ++ memtable (with_all s (f ∷ fs))) later

with_frames-entries : (format log : ℕ) (frames : List LogFrame) (others : List Segment)
    → logs_entries (with_frames log (Some format) frames others)
    ≡ logs_entries others ++ memtable (new_segment format log frames)
with_frames-entries format log [] others = sym (append-nil (logs_entries others))
with_frames-entries format log (f ∷ fs) others = refl

pub entries-filled : (ss : List Segment) → logs_entries (filled (map log_as_held ss)) ≡ logs_entries ss
entries-filled [] = refl
entries-filled (s ∷ ss) =
    with_frames-entries s.format s.number s.frames (filled (map log_as_held ss))
    ∙ ap (λ (es : List Entry). es ++ memtable s) (entries-filled ss)

-- the logs that an opening finds filled are those with frames
pub filled-filtered : (ss : List Segment) → AllByRecursion IsTrueLog ss
    → filled (map log_as_held ss) ≡ filter has_frames ss
filled-filtered [] true_logs = refl
filled-filtered (s ∷ ss) true_logs = by s.frames true_logs.0 (filled-filtered ss true_logs.1)
  where
    by : (frames : List LogFrame) → s.length ≡ log_length s.format frames
        → filled (map log_as_held ss) ≡ filter has_frames ss
        → filled (map log_as_held (with_all s frames ∷ ss)) ≡ filter has_frames (with_all s frames ∷ ss)
    by [] long later = later
    by (f ∷ fs) long later = λ i.
        record { format = s.format; number = s.number; length = sym long i; frames = f ∷ fs } ∷ later i
