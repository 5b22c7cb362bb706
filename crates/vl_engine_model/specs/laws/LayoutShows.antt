-- The rulings that change sources keep what these show: a rotation, a commit, a flush and a
-- relocation.
use Rattle.std.proofs.Common.{◌≡◌, ℕ, ◌+◌, ◌≤◌, Bool, true, false, ◌||◌, List, [], ◌∷◌, ◌++◌, map, refl, ap, sym, ◌∙◌}
use Rattle.std.proofs.Common.{subst, arith, append_assoc}
use Rattle.std.proofs.lemmas.List.Sums.{sum_by-cons}
use Rattle.std.specs.Prelude.{Option, Some}
use Rattle.std.specs.FinMap.{entries}
use Rattle.std.specs.List.{AllZip, AllByRecursion, flat_map, list_any, sum_by}
use Rattle.vl_model.specs.Keys.{Stored, Writes}
use Rattle.vl_model.specs.Entries.{is_at, in_order}
use Rattle.vl_model.specs.Frames.{moved_length, frame_length}
use Rattle.vl_model.specs.History.{History, last_number, with_commit}
use Rattle.vl_model.specs.Placement.{placed}
use Rattle.vl_model.specs.Winners.{Logs, resolved}
use Rattle.vl_model.specs.declared.entry.Entry.{Entry}
use Rattle.vl_model.specs.declared.change.Change.TheVariants.{Set}
use Rattle.vl_model.specs.declared.log_frame.LogFrame.{LogFrame}
use Rattle.vl_model.specs.declared.log_frame.LogFrame.TheVariants.{Relocated}
use Rattle.vl_model.specs.declared.log_frame.Moved.{Moved}
use Rattle.vl_engine_model.specs.laws.CommitShows.{shows_committed}
use Rattle.vl_engine_model.specs.Levels.{in_front}
use Rattle.vl_engine_model.specs.Logs.{LogRecord, record_entry, records_from, relocated_records, frame_entries}
use Rattle.vl_engine_model.specs.Logs.{frame_records, logged_entries, memtable}
use Rattle.vl_engine_model.specs.laws.OrderShows.{shows_taken_in}
use Rattle.vl_engine_model.specs.laws.RelocationShows.{shows_moved}
use Rattle.vl_engine_model.specs.Ruling.{logged, ended}
use Rattle.vl_engine_model.specs.Rulings.Commit.{commit_frame}
use Rattle.vl_engine_model.specs.Rulings.Flush.{flushed, flushed_table}
use Rattle.vl_engine_model.specs.Rulings.Relocate.{relocated}
use Rattle.vl_engine_model.specs.Rulings.Rotate.{rotated}
use Rattle.vl_engine_model.specs.Shows.{Shows, AreUpTo, StandsFor}
use Rattle.vl_engine_model.specs.laws.ShowsLaws.{shows_replaced, itself}
use Rattle.vl_engine_model.specs.Sources.{sources, behind_active, tables, table_entries, oldest, but_oldest}
use Rattle.vl_engine_model.specs.declared.layout.Layout.{Layout}
use Rattle.vl_engine_model.specs.declared.segment.Segment.{Segment}
use Rattle.vl_engine_model.specs.declared.table.Table.{Table}
use Rattle.vl_engine_model.specs.Shown.{ArePlaced}

-- ---- a rotation

pub sources-rotated : (l : Layout) → sources (rotated l) ≡ sources l
sources-rotated l = append_assoc (memtable l.active) (flat_map memtable l.frozen) (flat_map table_entries (tables l))

-- ---- a frame more

-- where the frame behind these stands
abbrev pub place_behind : (format place : ℕ) → List LogFrame → ℕ
place_behind format place [] = place
place_behind format place (f ∷ fs) = place_behind format (place + frame_length format f) fs

pub place_behind-is : (format place : ℕ) (fs : List LogFrame) → place_behind format place fs ≡ place + sum_by (frame_length format) fs
place_behind-is format place [] = omega arith
place_behind-is format place (f ∷ fs) =
    let later = place_behind-is format (place + frame_length format f) fs in
    let both = sum_by-cons (frame_length format) f fs in omega (arith, later, both)

-- and its records behind theirs
pub records_from-more : (format place : ℕ) (fs : List LogFrame) (f : LogFrame)
    → records_from format place (fs ++ f ∷ []) ≡ records_from format place fs ++ frame_records format (place_behind format place fs) f
records_from-more format place [] f = nothing_behind (frame_records format place f)
  where
    nothing_behind : (rs : List LogRecord) → rs ++ [] ≡ rs
    nothing_behind [] = refl
    nothing_behind (r ∷ rs) = ap (λ xs. r ∷ xs) (nothing_behind rs)
records_from-more format place (g ∷ gs) f =
    ap (λ rs. frame_records format place g ++ rs) (records_from-more format (place + frame_length format g) gs f)
    ∙ sym (append_assoc (frame_records format place g) (records_from format (place + frame_length format g) gs)
    (frame_records format (place_behind format (place + frame_length format g) gs) f))

-- a frame behind the others has its entries in front of theirs
pub logged_entries-more : (format segment place : ℕ) (fs : List LogFrame) (f : LogFrame)
    → logged_entries format segment place (fs ++ f ∷ []) ≡ frame_entries format segment (place_behind format place fs) f
    ++ logged_entries format segment place fs
logged_entries-more format segment place [] f = nothing_behind (frame_entries format segment place f)
  where
    nothing_behind : (es : List Entry) → es ≡ es ++ []
    nothing_behind [] = refl
    nothing_behind (e ∷ es) = ap (λ xs. e ∷ xs) (nothing_behind es)
logged_entries-more format segment place (g ∷ gs) f =
    ap (λ es. es ++ frame_entries format segment place g) (logged_entries-more format segment (place + frame_length format g) gs f)
    ∙ append_assoc (frame_entries format segment (place_behind format (place + frame_length format g) gs) f)
    (logged_entries format segment (place + frame_length format g) gs) (frame_entries format segment place g)

-- the entries that a frame adds to the active memtable
abbrev pub added : Layout → LogFrame → List Entry
added l f = frame_entries l.active.format l.active.number (place_behind l.active.format 16 l.active.frames) f

module _ (logs : Logs) (l : Layout) (f : LogFrame) (h : History) (from : List ℕ → ℕ) (to : ℕ) where
  -- what is shown with these entries in front of the sources is shown with the frame
  pub shows_logged : Shows logs (added l f ++ sources l) h from to
      → Shows logs (sources (logged f l)) h from to
  shows_logged shows =
      let old = logged_entries l.active.format l.active.number 16 l.active.frames in
      subst (λ es. Shows logs (in_order es ++ behind_active l) h from to)
      (sym (logged_entries-more l.active.format l.active.number 16 l.active.frames f))
      (shows_taken_in logs (added l f) old (behind_active l) h from to
      (subst (λ es. Shows logs es h from to) (sym (append_assoc (added l f) (in_order old) (behind_active l))) shows))

-- ---- a commit

pub commit_shows : (logs : Logs) (l : Layout) (ticket : ℕ) (h : History) (writes : Writes) (from : List ℕ → ℕ)
    → AreUpTo (last_number h) (sources l) → ((key : List ℕ) → from key ≤ last_number h)
    → Shows logs (sources l) h from (last_number h)
    → Shows logs (sources (logged (commit_frame h (entries writes)) (ended ticket l))) (with_commit h writes) from (last_number h + 1)
commit_shows logs l ticket h writes from up begins shows =
    shows_logged logs (ended ticket l) (commit_frame h (entries writes)) (with_commit h writes) from (last_number h + 1)
    (shows_committed logs (sources l) h from writes l.active.format l.active.number
    (place_behind l.active.format 16 l.active.frames + 17) up begins shows)

-- ---- a flush

module _ (logs : Logs) where
  zip_both : (es es' fs fs' : List Entry) → AllZip (StandsFor logs logs) es es'
      → AllZip (StandsFor logs logs) fs fs' → AllZip (StandsFor logs logs) (es ++ fs) (es' ++ fs')
  zip_both [] [] fs fs' s t = t
  zip_both [] (e' ∷ es') fs fs' s t = absurd s
  zip_both (e ∷ es) [] fs fs' s t = absurd s
  zip_both (e ∷ es) (e' ∷ es') fs fs' s t = (s.0, zip_both es es' fs fs' s.1 t)

  same : (es : List Entry)
      → AllByRecursion (λ (e : Entry). resolved logs e.key e.body ≡ resolved logs e.key e.body) es
  same [] = tt
  same (e ∷ es) = (refl, same es)

  as_they_are : (es : List Entry) → AllZip (StandsFor logs logs) es es
  as_they_are es = itself logs logs es (same es)

  as_placed : (es : List Entry) → ArePlaced logs es
      → AllZip (StandsFor logs logs) es (map placed es)
  as_placed [] found = tt
  as_placed (e ∷ es) found = (record { key = refl; version = refl; leads = found.0 }, as_placed es found.1)

-- the memtable that waits longest is the last of the frozen ones
frozen_parts : (ss : List Segment) (s : Segment) → oldest ss ≡ Some s
    → flat_map memtable ss ≡ flat_map memtable (but_oldest ss) ++ memtable s
frozen_parts [] s is = absurd cc
frozen_parts (t ∷ []) s is = nothing_behind (memtable t) ∙ ap memtable (the_one t s is)
  where
    nothing_behind : (es : List Entry) → es ++ [] ≡ es
    nothing_behind [] = refl
    nothing_behind (e ∷ es) = ap (λ xs. e ∷ xs) (nothing_behind es)

    the_one : (a b : Segment) → Some a ≡ Some b → a ≡ b
    the_one a b e = cc
frozen_parts (t ∷ u ∷ us) s is =
    ap (λ es. memtable t ++ es) (frozen_parts (u ∷ us) s is)
    ∙ sym (append_assoc (memtable t) (flat_map memtable (but_oldest (u ∷ us))) (memtable s))

module _ (logs : Logs) (l : Layout) (s : Segment) (h : History) (from : List ℕ → ℕ) (to : ℕ) where
  flush_parts : oldest l.frozen ≡ Some s → (level : List Table) (deeper : List (List Table))
      → l.levels ≡ level ∷ deeper
      → sources l ≡ memtable l.active ++ (flat_map memtable (but_oldest l.frozen) ++ (memtable s ++ flat_map table_entries (tables l)))
  flush_parts waits level deeper are =
      ap (λ es. memtable l.active ++ (es ++ flat_map table_entries (tables l))) (frozen_parts l.frozen s waits)
      ∙ ap (λ es. memtable l.active ++ es)
      (append_assoc (flat_map memtable (but_oldest l.frozen)) (memtable s) (flat_map table_entries (tables l)))

  flushed_parts : (level : List Table) (deeper : List (List Table)) → l.levels ≡ level ∷ deeper
      → sources (flushed l s) ≡ memtable l.active
      ++ (flat_map memtable (but_oldest l.frozen) ++ (map placed (memtable s) ++ flat_map table_entries (tables l)))
  flushed_parts level deeper are =
      ap (λ (levels : List (List Table)). memtable l.active
      ++ (flat_map memtable (but_oldest l.frozen) ++ flat_map table_entries
      (flat_map (λ ts. ts) (in_front (flushed_table l s) levels)))) are
      ∙ sym (ap (λ (levels : List (List Table)). memtable l.active
      ++ (flat_map memtable (but_oldest l.frozen)
      ++ (map placed (memtable s) ++ flat_map table_entries (flat_map (λ ts. ts) levels)))) are)

  pub flush_shows : oldest l.frozen ≡ Some s → (level : List Table) (deeper : List (List Table))
      → l.levels ≡ level ∷ deeper → ArePlaced logs (memtable s)
      → Shows logs (sources l) h from to → Shows logs (sources (flushed l s)) h from to
  flush_shows waits level deeper are found shows =
      let back = flat_map table_entries (tables l) in
      let front = flat_map memtable (but_oldest l.frozen) in
      subst (λ es. Shows logs es h from to) (sym (flushed_parts level deeper are))
      (shows_replaced logs logs (memtable l.active ++ (front ++ (memtable s ++ back)))
      (memtable l.active ++ (front ++ (map placed (memtable s) ++ back))) h from to
      (zip_both logs (memtable l.active) (memtable l.active) (front ++ (memtable s ++ back))
      (front ++ (map placed (memtable s) ++ back)) (as_they_are logs (memtable l.active))
      (zip_both logs front front (memtable s ++ back) (map placed (memtable s) ++ back) (as_they_are logs front)
      (zip_both logs (memtable s) (map placed (memtable s)) back back (as_placed logs (memtable s) found) (as_they_are logs back))))
      (subst (λ es. Shows logs es h from to) (flush_parts waits level deeper are) shows))

-- ---- a relocation

-- each record has the value that its key's version has, and the sources have an entry of these
abbrev pub AreShown : List Entry → (List ℕ → ℕ → Option Stored) → List Moved → Type 0
AreShown es meaning moved = AllByRecursion
    (λ (m : Moved). (list_any (is_at m.key m.version) es ≡ true) × (meaning m.key m.version ≡ Some m.value)) moved

module _ (logs : Logs) (h : History) (from : List ℕ → ℕ) (to : ℕ) (es : List Entry) (shows : Shows logs es h from to) where
  any_behind : (p : Entry → Bool) (new old : List Entry) → list_any p old ≡ true
      → list_any p (new ++ old) ≡ true
  any_behind p [] old there = there
  any_behind p (e ∷ new) old there = elim (p e) as (λ b. (b || list_any p (new ++ old)) ≡ true)
      [ true ↦ refl | false ↦ any_behind p new old there ]

  -- moved records in front of the sources, with the meaning that these have
  abbrev IsMoved : List Entry → Type 0
  IsMoved new = (shown : Shows logs (new ++ es) h from to) × (shown.meaning ≡ shows.meaning)

  moved_front : (format segment place : ℕ) (ms : List Moved) → AreShown es shows.meaning ms
      → IsMoved (map (record_entry format segment) (relocated_records format place ms))
  moved_front format segment place [] all = (shows, refl)
  moved_front format segment place (m ∷ ms) all =
      let later = moved_front format segment (place + moved_length format m) ms all.1 in
      let new = map (record_entry format segment) (relocated_records format (place + moved_length format m) ms) in
      let first = record_entry format segment (record { key = m.key; version = m.version; change = Set m.value; place = place + 8 }) in
      let both = shows_moved logs h from to first (new ++ es) m.value later.0
      (any_behind (is_at m.key m.version) new es all.0.0) refl (ap (λ meaning. meaning m.key m.version) later.1 ∙ all.0.1) in
      (both.0, both.1 ∙ later.1)

-- Moved records in the active memtable show what the sources showed.
pub relocate_shows : (logs : Logs) (l : Layout) (moved : List Moved) (h : History) (from : List ℕ → ℕ) (to : ℕ)
    (shows : Shows logs (sources l) h from to)
    → AreShown (sources l) shows.meaning moved
    → Shows logs (sources (relocated l moved)) h from to
relocate_shows logs l moved h from to shows all =
    shows_logged logs l (Relocated moved) h from to
    (moved_front logs h from to (sources l) shows l.active.format l.active.number
    (place_behind l.active.format 16 l.active.frames + 9) moved all).0
