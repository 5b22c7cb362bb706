-- A table can be spelled of a log's memtable, each entry at its placement: its keys and values are short enough, and in order.
use Rattle.std.specs.Prelude.{◌≡◌, ◌≤◌, ℕ, ◌+◌, Bool, true, false, if◌then◌else◌, nat_le, List, [], ◌∷◌, length, map, refl}
use Rattle.std.specs.List.{AllByRecursion}
use Rattle.std.specs.declared.cmp.Ordering.TheVariants.{Equal, Greater, Less}
use Rattle.std.specs.declared.cmp.Ordering.{Ordering}
use Rattle.std.proofs.Common.{ap, ◌∙◌, arith, length-append}
use Rattle.std.proofs.lemmas.Bool.Decides.{nat_tests}
use Rattle.vl_back.specs.Tables.{AreSpellable, IsSpellable, IsSpellableBody}
use Rattle.vl_engine_laws.specs.Files.{IsLogFile}
use Rattle.vl_frame.specs.Runs.{HasFrame}
use Rattle.vl_engine_model.specs.Logs.{LogRecord, committed_records, frame_entries, logged_body, logged_entries, memtable}
use Rattle.vl_engine_model.specs.Logs.{record_entry, relocated_records}
use Rattle.vl_engine_model.specs.Start.{has_frames, is_any}
use Rattle.vl_engine_model.specs.declared.segment.Segment.{Segment}
use Rattle.vl_engine_model.specs.laws.OrderShows.{all-in_order}
use Rattle.vl_engine_model.specs.laws.ShowsLaws.{all_both}
use Rattle.vl_model.specs.Entries.{by_order, entry_cmp, in_order, put}
use Rattle.vl_model.specs.Frames.{frame_length, moved_length, record_length}
use Rattle.vl_model.specs.Keys.{is_key_length, value_length}
use Rattle.vl_model.specs.Limits.{max_inline_bytes}
use Rattle.vl_model.specs.Placement.{placed, placement}
use Rattle.vl_model.specs.declared.change.Change.TheVariants.{Delete, Set}
use Rattle.vl_model.specs.declared.change.Change.{Change}
use Rattle.vl_model.specs.declared.entry.Body.TheVariants.{Far, Inline}
use Rattle.vl_model.specs.declared.entry.Entry.{Entry}
use Rattle.vl_model.specs.declared.log_frame.LogFrame.TheVariants.{Committed, Relocated}
use Rattle.vl_model.specs.declared.log_frame.LogFrame.{LogFrame}
use Rattle.vl_model.specs.declared.log_frame.Moved.{Moved}
use Rattle.vl_model.specs.declared.pointer.Pointer.{Pointer}
use Rattle.vl_model.specs.laws.OrderLaws.{in_order-again}
use Rattle.vl_seglog.specs.Bodies.{IsFrame}
use Rattle.vl_seglog.specs.Commit.{AreRecords}
use Rattle.vl_seglog.specs.Frames.{frames_grammar}
use Rattle.vl_seglog.specs.Moves.{IsMoved}

-- ---- each entry

abbrev IsPlacedWell : Entry → Type 0
IsPlacedWell e = IsSpellable (placed e)

change_placed : (change : Change) (p : Pointer) → IsSpellableBody (placement (logged_body change p))
change_placed Delete p = tt
change_placed (Set value) p = by (nat_le (value_length value) max_inline_bytes) refl
  where
    by : (b : Bool) → nat_le (value_length value) max_inline_bytes ≡ b
        → IsSpellableBody (if b then Inline value else Far p)
    by true at = let short : value_length value ≤ max_inline_bytes = grind (arith, nat_tests, at) in short
    by false at = tt

module _ (format log : ℕ) where
  record_placed : (r : LogRecord) → is_key_length (length r.key) ≡ true → IsPlacedWell (record_entry format log r)
  record_placed r key = record {
    key = key;
    body = change_placed r.change (record { segment = log; place = r.place; length = record_length format r.key r.change });
  }

  commit_placed : (place number : ℕ) (writes : List (List ℕ × Change)) → AreRecords format writes
      → AllByRecursion IsPlacedWell (map (record_entry format log) (committed_records format place number writes))
  commit_placed place number [] are = tt
  commit_placed place number (w ∷ writes) are = (
    record_placed (record { key = w.0; version = number; change = w.1; place = place }) are.0.key_length,
    commit_placed (place + record_length format w.0 w.1) number writes are.1,
  )

  moves_placed : (place : ℕ) (records : List Moved) → AllByRecursion (IsMoved format) records
      → AllByRecursion IsPlacedWell (map (record_entry format log) (relocated_records format place records))
  moves_placed place [] are = tt
  moves_placed place (m ∷ records) are = (
    record_placed (record { key = m.key; version = m.version; change = Set m.value; place = place + 8 }) are.0.lawful.key_length,
    moves_placed (place + moved_length format m) records are.1,
  )

  frame_placed : (place : ℕ) (f : LogFrame) → IsFrame format f → AllByRecursion IsPlacedWell (frame_entries format log place f)
  frame_placed place (Committed number writes) is = commit_placed (place + 17) number writes is.lawful
  frame_placed place (Relocated records) is = moves_placed (place + 9) records is.lawful

  frames_placed : (place : ℕ) (fs : List LogFrame) → AllByRecursion (HasFrame (frames_grammar format)) fs
      → AllByRecursion IsPlacedWell (logged_entries format log place fs)
  frames_placed place [] have = tt
  frames_placed place (f ∷ fs) have =
      all_both IsPlacedWell (logged_entries format log (place + frame_length format f) fs) (frame_entries format log place f)
      (frames_placed (place + frame_length format f) fs have.1) (frame_placed place f have.0.lawful)

  -- ---- there is one

  commit_some : (place number : ℕ) (writes : List (List ℕ × Change)) → 1 ≤ length writes
      → 1 ≤ length (map (record_entry format log) (committed_records format place number writes))
  commit_some place number [] some = absurd (omega (arith, some))
  commit_some place number (w ∷ writes) some = omega arith

  moves_some : (place : ℕ) (records : List Moved) → 1 ≤ length records
      → 1 ≤ length (map (record_entry format log) (relocated_records format place records))
  moves_some place [] some = absurd (omega (arith, some))
  moves_some place (m ∷ records) some = omega arith

  frame_some : (place : ℕ) (f : LogFrame) → IsFrame format f → 1 ≤ length (frame_entries format log place f)
  frame_some place (Committed number writes) is = commit_some (place + 17) number writes is.some
  frame_some place (Relocated records) is = moves_some (place + 9) records is.some

  frames_some : (place : ℕ) (fs : List LogFrame) → AllByRecursion (HasFrame (frames_grammar format)) fs → is_any fs ≡ true
      → 1 ≤ length (logged_entries format log place fs)
  frames_some place [] have any = absurd cc
  frames_some place (f ∷ fs) have any =
      let first = frame_some place f have.0.lawful in
      omega (
        arith,
        first,
        length-append (logged_entries format log (place + frame_length format f) fs) (frame_entries format log place f),
      )

put_some : (e : Entry) (es : List Entry) → 1 ≤ length (put e es)
put_some e [] = omega arith
put_some e (f ∷ fs) = by (entry_cmp e f)
  where
    by : (r : Ordering) → 1 ≤ length (by_order r (e ∷ f ∷ fs) (e ∷ fs) (f ∷ put e fs))
    by Less = omega arith
    by Equal = omega arith
    by Greater = omega arith

ordered_some : (es : List Entry) → 1 ≤ length es → 1 ≤ length (in_order es)
ordered_some [] some = absurd (omega (arith, some))
ordered_some (e ∷ es) some = put_some e (in_order es)

-- ---- in order

put_placed : (e : Entry) (es : List Entry) → put (placed e) (map placed es) ≡ map placed (put e es)
put_placed e [] = refl
put_placed e (f ∷ fs) = by (put_placed e fs) (entry_cmp e f)
  where
    by : put (placed e) (map placed fs) ≡ map placed (put e fs) → (r : Ordering)
        → by_order r (placed e ∷ placed f ∷ map placed fs) (placed e ∷ map placed fs) (placed f ∷ put (placed e) (map placed fs))
        ≡ map placed (by_order r (e ∷ f ∷ fs) (e ∷ fs) (f ∷ put e fs))
    by later Less = refl
    by later Equal = refl
    by later Greater = ap (λ (l : List Entry). placed f ∷ l) later

order_placed : (es : List Entry) → in_order (map placed es) ≡ map placed (in_order es)
order_placed [] = refl
order_placed (e ∷ es) = ap (put (placed e)) (order_placed es) ∙ put_placed e (in_order es)

-- ---- all of them

map_some : (es : List Entry) → 1 ≤ length es → 1 ≤ length (map placed es)
map_some [] some = absurd (omega (arith, some))
map_some (e ∷ es) some = omega arith

map_all : (es : List Entry) → AllByRecursion IsPlacedWell es → AllByRecursion IsSpellable (map placed es)
map_all [] all = tt
map_all (e ∷ es) all = (all.0, map_all es all.1)

-- of a log that has frames
pub memtable_spelled : (s : Segment) → IsLogFile s → has_frames s ≡ true → AreSpellable (map placed (memtable s))
memtable_spelled s is framed =
    let logged = logged_entries s.format s.number 16 s.frames in
    record {
      some = map_some (memtable s) (ordered_some logged (frames_some s.format s.number 16 s.frames is.have framed));
      each = map_all (memtable s) (all-in_order IsPlacedWell logged (frames_placed s.format s.number 16 s.frames is.have));
      ordered = order_placed (memtable s) ∙ ap (map placed) (in_order-again logged);
    }
