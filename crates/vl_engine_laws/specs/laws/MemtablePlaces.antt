-- What a memtable places far is found in the bytes of its log.
use Rattle.std.specs.Prelude.{◌≡◌, ℕ, ◌+◌, Bool, true, false, if◌then◌else◌, nat_le, List, [], ◌∷◌, map, Some, refl}
use Rattle.std.specs.List.{AllByRecursion}
use Rattle.std.specs.Option.{option_map}
use Rattle.std.proofs.Common.{ap, ◌∙◌}
use Rattle.vl_engine_laws.specs.Files.{IsLogFile}
use Rattle.vl_engine_laws.specs.Pointed.{bytes_of_log}
use Rattle.vl_engine_model.specs.Logs.{committed_records, frame_entries, logged_body, logged_entries, memtable, pointer_to}
use Rattle.vl_engine_model.specs.Logs.{record_entry, relocated_records}
use Rattle.vl_engine_model.specs.Shown.{ArePlaced}
use Rattle.vl_engine_model.specs.declared.segment.Segment.{Segment}
use Rattle.vl_engine_model.specs.laws.OrderShows.{all-in_order}
use Rattle.vl_engine_model.specs.laws.ShowsLaws.{all_both}
use Rattle.vl_model.specs.Frames.{frame_length, moved_length, record_length}
use Rattle.vl_model.specs.Keys.{value_length}
use Rattle.vl_model.specs.Limits.{max_inline_bytes}
use Rattle.vl_model.specs.Placement.{placement}
use Rattle.vl_model.specs.Winners.{Logs, resolved}
use Rattle.vl_model.specs.declared.change.Change.{Change}
use Rattle.vl_model.specs.declared.change.Change.TheVariants.{Delete, Set}
use Rattle.vl_model.specs.declared.entry.Body.{Body}
use Rattle.vl_model.specs.declared.entry.Body.TheVariants.{Far, Gone, Inline, Logged}
use Rattle.vl_model.specs.declared.entry.Entry.{Entry}
use Rattle.vl_model.specs.declared.log_frame.LogFrame.{LogFrame}
use Rattle.vl_model.specs.declared.log_frame.LogFrame.TheVariants.{Committed, Relocated}
use Rattle.vl_model.specs.declared.log_frame.Moved.{Moved}
use Rattle.vl_model.specs.declared.pointer.Pointer.{Pointer}
use Rattle.vl_seglog.specs.LogReading.{LogReading}
use Rattle.vl_seglog.specs.Stored.{AllLead, LeadToAll, LeadsTo, frame_pointers, frame_writes, moved_pointers}
use Rattle.vl_seglog.specs.Stored.{moved_write, pointers_from, stored_at}
use Rattle.vl_seglog.specs.laws.LogReadingLaws.{reads_written}
use Rattle.vl_seglog.specs.laws.StoredLaws.{leads_stored, reading_leads}

-- the body of a memtable's entry: a deletion, or a value that is found where its record lies
abbrev pub IsFoundAt : (format log : ℕ) (bytes key : List ℕ) → Body → Type 0
IsFoundAt format log bytes key (Inline value) = ⊥
IsFoundAt format log bytes key Gone = Unit {0}
IsFoundAt format log bytes key (Far p) = ⊥
IsFoundAt format log bytes key (Logged value p) = (p.segment ≡ log) × (stored_at format bytes p key ≡ Some value)

module _ (format log : ℕ) (bytes : List ℕ) where
  abbrev pub IsFound : Entry → Type 0
  IsFound e = IsFoundAt format log bytes e.key e.body

  one_found : (key : List ℕ) (change : Change) (p : Pointer) → LeadsTo format log bytes p key change
      → IsFoundAt format log bytes key (logged_body change p)
  one_found key (Set value) p leads = (leads.segment, leads_stored format log bytes p key value leads)
  one_found key Delete p leads = tt

  commit_found : (place number : ℕ) (writes : List (List ℕ × Change))
      → LeadToAll format log bytes (pointers_from format log place writes) writes
      → AllByRecursion IsFound (map (record_entry format log) (committed_records format place number writes))
  commit_found place number [] leads = tt
  commit_found place number (w ∷ writes) leads = (
    one_found w.0 w.1 (pointer_to format log (record { key = w.0; version = number; change = w.1; place = place })) leads.0,
    commit_found (place + record_length format w.0 w.1) number writes leads.1,
  )

  moves_found : (place : ℕ) (records : List Moved)
      → LeadToAll format log bytes (moved_pointers format log place records) (map moved_write records)
      → AllByRecursion IsFound (map (record_entry format log) (relocated_records format place records))
  moves_found place [] leads = tt
  moves_found place (m ∷ records) leads = (
    one_found m.key (Set m.value)
        (pointer_to format log (record { key = m.key; version = m.version; change = Set m.value; place = place + 8 })) leads.0,
    moves_found (place + moved_length format m) records leads.1,
  )

  frame_found : (place : ℕ) (f : LogFrame) → LeadToAll format log bytes (frame_pointers format log place f) (frame_writes f)
      → AllByRecursion IsFound (frame_entries format log place f)
  frame_found place (Committed number writes) leads = commit_found (place + 17) number writes leads
  frame_found place (Relocated records) leads = moves_found (place + 9) records leads

  frames_found : (place : ℕ) (fs : List LogFrame) → AllLead format log bytes place fs
      → AllByRecursion IsFound (logged_entries format log place fs)
  frames_found place [] leads = tt
  frames_found place (f ∷ fs) leads =
      all_both IsFound (logged_entries format log (place + frame_length format f) fs) (frame_entries format log place f)
      (frames_found (place + frame_length format f) fs leads.1) (frame_found place f leads.0)

-- All entries of a log's memtable are so.
pub memtable_found : (s : Segment) → IsLogFile s → AllByRecursion (IsFound s.format s.number (bytes_of_log s)) (memtable s)
memtable_found s is =
    let reading : LogReading = record { header = Some s.format; frames = s.frames; whole = true } in
    all-in_order (IsFound s.format s.number (bytes_of_log s)) (logged_entries s.format s.number 16 s.frames)
    (frames_found s.format s.number (bytes_of_log s) 16 s.frames
    (reading_leads s.number (bytes_of_log s) reading (reads_written s.format s.number is.readable s.frames is.have) s.format refl))

-- So where logs lead into these bytes, what is placed far is found there.
pub memtable_placed : (logs : Logs) (s : Segment) → IsLogFile s
    → ((p : Pointer) (key : List ℕ) → p.segment ≡ s.number → logs p key ≡ stored_at s.format (bytes_of_log s) p key)
    → ArePlaced logs (memtable s)
memtable_placed logs s is here = each (memtable s) (memtable_found s is)
  where
    body_placed : (key : List ℕ) (body : Body) → IsFoundAt s.format s.number (bytes_of_log s) key body
        → resolved logs key (placement body) ≡ resolved logs key body
    body_placed key (Inline value) found = refl
    body_placed key Gone found = refl
    body_placed key (Far p) found = refl
    body_placed key (Logged value p) found = by (nat_le (value_length value) max_inline_bytes)
      where
        by : (b : Bool) → resolved logs key (if b then Inline value else Far p) ≡ Some (Some value)
        by true = refl
        by false = ap (option_map Some) (here p key found.0 ∙ found.1)

    each : (es : List Entry) → AllByRecursion (IsFound s.format s.number (bytes_of_log s)) es → ArePlaced logs es
    each [] found = tt
    each (e ∷ es) found = (body_placed e.key e.body found.0, each es found.1)
