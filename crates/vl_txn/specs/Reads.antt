-- What a transaction has noted of its reads, and of which reads it is the note.
use Rattle.std.specs.Prelude.{◌≡◌, ℕ, Bool, true, false, ◌++◌, if◌then◌else◌, is_some, List, [], ◌∷◌, Option, Some, None}
use Rattle.std.specs.BTreeSet.{insert_key}
use Rattle.std.specs.FinMap.{get}
use Rattle.std.specs.List.{list_any}
use Rattle.std.specs.Ordering.{eq_by_cmp}
use Rattle.vl_model.specs.Keys.{Stored, Row, Writes, key_cmp}
use Rattle.vl_model.specs.Notes.{AreNotesOf}
use Rattle.vl_model.specs.Reads.{Read, KeyRead, RangeRead, Scan, bound, covered}
use Rattle.vl_model.specs.declared.span.Span.{Span}
use Rattle.vl_model.specs.declared.way.Way.{Way}
use Rattle.vl_model.specs.declared.way.Way.TheVariants.{Up, Down}

-- the keys that were read, in rising order and each once, and the intervals that scans covered
pub record Notes : Type 0 where
  pub keys : List (List ℕ)
  pub spans : List Span

abbrev pub no_notes : Notes
no_notes = record { keys = []; spans = [] }

abbrev pub has_key : Notes → List ℕ → Bool
has_key notes key = list_any (eq_by_cmp key_cmp key) notes.keys

-- the notes with a key; one that is noted already takes no second note
abbrev pub with_key : Notes → List ℕ → Notes
with_key notes key =
    if has_key notes key then notes else record notes { keys = insert_key key_cmp notes.keys key }

abbrev pub with_span : Notes → Span → Notes
with_span notes span = record notes { spans = notes.spans ++ span ∷ [] }

-- a get of a key that the transaction has written itself notes nothing
abbrev pub after_get : Writes → List ℕ → Notes → Notes
after_get own key notes = if is_some (get own key) then notes else with_key notes key

-- a scan with these bounds, of these rows
abbrev pub scan_of : List ℕ → List ℕ → ℕ → Way → List Row → Writes → Scan
scan_of low high limit way rows own =
    record { low = low; high = high; limit = limit; way = way; own = own; rows = rows }

-- the reads with one more, that of a get; one of an own write is none
abbrev pub with_get : Writes → List Read → List ℕ → Option Stored → List Read
with_get own reads key answer = if is_some (get own key) then reads else reads ++ KeyRead key answer ∷ []

abbrev pub with_scan : List Read → Scan → List Read
with_scan reads scan = reads ++ RangeRead scan ∷ []

-- whatever the notes are of, after a get they are of that too
abbrev pub NotesGet : Writes → List ℕ → Notes → Notes → Type 0
NotesGet own key old new =
    (reads : List Read) (answer : Option Stored) → AreNotesOf reads old.keys old.spans
    → AreNotesOf (with_get own reads key answer) new.keys new.spans

-- and after a scan of that
abbrev pub NotesScan : (Writes → Scan) → Notes → Notes → Type 0
NotesScan scan old new =
    (reads : List Read) (own : Writes) → AreNotesOf reads old.keys old.spans
    → AreNotesOf (with_scan reads (scan own)) new.keys new.spans

-- the notes with what a scan covers, whatever its own writes
abbrev pub AddsSpan : (Writes → Scan) → Notes → Notes → Type 0
AddsSpan scan old new = (own : Writes) → new ≡ with_span old (covered (scan own))

-- what a scan in a direction covers as far as a row, and where there is none the whole of its interval
abbrev pub covered_up_to : List ℕ → List ℕ → Way → Option Row → Span
covered_up_to low high way None = record { lo = bound low; hi = bound high; closed = false }
covered_up_to low high Up (Some row) = record { lo = bound low; hi = Some row.0; closed = true }
covered_up_to low high Down (Some row) = record { lo = Some row.0; hi = bound high; closed = false }
