-- A flush leaves a layout tidy whose pointers lead where they led before, in the logs that stay.
use Rattle.std.specs.Prelude.{◌≡◌, ◌⊎◌, ℕ, Bool, true, false, not, nat_le, if◌then◌else◌, List, [], ◌∷◌, ◌++◌, map, Option, Some, refl}
use Rattle.std.specs.List.{AllByRecursion, flat_map}
use Rattle.std.specs.Option.{option_map}
use Rattle.std.proofs.Common.{sym, ap, subst, ◌∙◌, ⊎_elim}
use Rattle.vl_engine_laws.specs.Files.{IsLogFile, found_levels}
use Rattle.vl_engine_laws.specs.Pointed.{IsFramedAmong, bytes_of_log, layout_logs, segment_at, stored_among, stored_of}
use Rattle.vl_engine_laws.specs.laws.FileLaws.{all_front}
use Rattle.vl_engine_laws.specs.laws.LedLaws.{AreFarTo, IsFarTo, among_in, led_in, led_more}
use Rattle.vl_engine_laws.specs.laws.MemtablePlaces.{IsFound, IsFoundAt, memtable_found, memtable_placed}
use Rattle.vl_engine_laws.specs.laws.SegmentLaws.{of_format, segment_there, segment_wider}
use Rattle.vl_engine_model.specs.Jobs.{AreDistinct}
use Rattle.vl_engine_model.specs.Logs.{memtable}
use Rattle.vl_engine_model.specs.Ruling.{is_idle}
use Rattle.vl_engine_model.specs.Rulings.Flush.{flushed, flushed_table}
use Rattle.vl_engine_model.specs.Levels.{in_front}
use Rattle.vl_engine_model.specs.Shown.{ShowsLow, low_at}
use Rattle.vl_engine_model.specs.Sources.{behind_active, but_oldest, oldest, sources, table_entries, tables}
use Rattle.vl_engine_model.specs.Start.{has_frames}
use Rattle.vl_engine_model.specs.Tidy.{IsPlacedAt, IsPlacedIn, IsTidy, log_numbers, sealed}
use Rattle.vl_engine_model.specs.declared.layout.Layout.{Layout}
use Rattle.vl_engine_model.specs.declared.segment.Segment.{Segment}
use Rattle.vl_engine_model.specs.declared.table.Table.{Table}
use Rattle.vl_engine_model.specs.laws.LayoutShows.{flush_shows}
use Rattle.vl_engine_model.specs.laws.ShowsLaws.{all_both, itself, shows_replaced}
use Rattle.vl_engine_model_laws.specs.laws.TidyLogs.{sealed_same}
use Rattle.vl_engine_model_laws.specs.laws.TidySteps.{tidy_flushed}
use Rattle.vl_model.specs.History.{History, last_number}
use Rattle.vl_model.specs.Keys.{value_length}
use Rattle.vl_model.specs.Limits.{max_inline_bytes}
use Rattle.vl_model.specs.Placement.{placed, placement}
use Rattle.vl_model.specs.Winners.{Logs, resolved}
use Rattle.vl_model.specs.declared.entry.Body.{Body}
use Rattle.vl_model.specs.declared.entry.Body.TheVariants.{Far, Gone, Inline, Logged}
use Rattle.vl_model.specs.declared.entry.Entry.{Entry}
use Rattle.vl_model.specs.declared.pointer.Pointer.{Pointer}
use Rattle.vl_recover.specs.opening.Opening.{IsAmong, led_into}
use Rattle.vl_seglog.specs.Stored.{stored_at}

-- ---- where entries lead

-- a log among these has the number
abbrev pub IsThere : List Segment → ℕ → Type 0
IsThere ss n = (log : Segment) × (segment_at ss n ≡ Some log)

-- What is placed in logs leads into these,
pub placed_far : (ss : List Segment) (key : List ℕ) (body : Body) → IsPlacedAt ss key body → IsFarTo (IsThere ss) body
placed_far ss key (Inline value) is = tt
placed_far ss key Gone is = tt
placed_far ss key (Far p) (format, told, placed) = of_format ss p.segment format told
placed_far ss key (Logged value p) is = tt

pub entries_far : (ss : List Segment) (es : List Entry) → AllByRecursion (IsPlacedIn ss) es → AreFarTo (IsThere ss) es
entries_far ss [] all = tt
entries_far ss (e ∷ es) all = (placed_far ss e.key e.body all.0, entries_far ss es all.1)

pub tables_far : (ss : List Segment) (ts : List Table) → AllByRecursion (λ (t : Table). AllByRecursion (IsPlacedIn ss) t.entries) ts
    → AllByRecursion (λ (t : Table). AreFarTo (IsThere ss) t.entries) ts
tables_far ss [] all = tt
tables_far ss (t ∷ ts) all = (entries_far ss t.entries all.0, tables_far ss ts all.1)

pub flat_far : (P : ℕ → Type 0) (ts : List Table) → AllByRecursion (λ (t : Table). AreFarTo P t.entries) ts
    → AreFarTo P (flat_map table_entries ts)
flat_far P [] all = tt
flat_far P (t ∷ ts) all = all_both (λ (e : Entry). IsFarTo P e.body) t.entries (flat_map table_entries ts) all.0 (flat_far P ts all.1)

-- and what a memtable has leads into none.
pub memtables_far : (P : ℕ → Type 0) (ss : List Segment) → AllByRecursion IsLogFile ss → AreFarTo P (flat_map memtable ss)
memtables_far P [] all = tt
memtables_far P (s ∷ ss) all = all_both (λ (e : Entry). IsFarTo P e.body) (memtable s) (flat_map memtable ss)
    (by (memtable s) (memtable_found s all.0)) (memtables_far P ss all.1)
  where
    one : (key : List ℕ) (body : Body) → IsFoundAt s.format s.number (bytes_of_log s) key body → IsFarTo P body
    one key (Inline value) found = absurd found
    one key Gone found = tt
    one key (Far p) found = absurd found
    one key (Logged value p) found = tt

    by : (es : List Entry) → AllByRecursion (IsFound s.format s.number (bytes_of_log s)) es → AreFarTo P es
    by [] found = tt
    by (e ∷ es) found = (one e.key e.body found.0, by es found.1)

-- ---- where logs are found as before

-- each log that is found among the one list is found among the other
abbrev pub IsWider : List Segment → List Segment → Type 0
IsWider ss wider = (n : ℕ) (log : Segment) → segment_at ss n ≡ Some log → segment_at wider n ≡ Some log

pub resolved_alike : (ss wider : List Segment) → IsWider ss wider → (key : List ℕ) (body : Body) → IsFarTo (IsThere ss) body
    → resolved (stored_among ss) key body ≡ resolved (stored_among wider) key body
resolved_alike ss wider more key (Inline value) far = refl
resolved_alike ss wider more key Gone far = refl
resolved_alike ss wider more key (Far p) (log, at) =
    ap (λ (o : Option Segment). option_map Some (stored_of o p key)) (at ∙ sym (more p.segment log at))
resolved_alike ss wider more key (Logged value p) far = refl

pub all_alike : (ss wider : List Segment) → IsWider ss wider → (es : List Entry) → AreFarTo (IsThere ss) es
    → AllByRecursion (λ (e : Entry). resolved (stored_among ss) e.key e.body ≡ resolved (stored_among wider) e.key e.body) es
all_alike ss wider more [] far = tt
all_alike ss wider more (e ∷ es) far = (resolved_alike ss wider more e.key e.body far.0, all_alike ss wider more es far.1)

-- What is tidy with some logs is so with others, where all entries lead to the same in both.
pub tidy_with : (logs others : Logs) (l : Layout) (h : History) → IsTidy logs l h
    → AllByRecursion (λ (e : Entry). resolved others e.key e.body ≡ resolved logs e.key e.body) (sources l) → IsTidy others l h
tidy_with logs others l h tidy alike = record {
  files = tidy.files;
  levels = tidy.levels;
  true_tables = tidy.true_tables;
  true_logs = tidy.true_logs;
  distinct = tidy.distinct;
  placed = tidy.placed;
  versions = tidy.versions;
  last = tidy.last;
  some = tidy.some;
  since = tidy.since;
  shows = shows_replaced logs others (sources l) (sources l) h (low_at l h) (last_number h)
      (itself logs others (sources l) alike) tidy.shows;
  job = tidy.job;
}

-- ---- a flush

module _ (l : Layout) (h : History) (s : Segment) (tidy : IsTidy (layout_logs l) l h) (waits : oldest l.frozen ≡ Some s)
    (level : List Table) (deeper : List (List Table)) (are : l.levels ≡ level ∷ deeper)
    (memtables : AllByRecursion IsLogFile (l.active ∷ l.frozen)) (is : IsLogFile s) where
  abbrev pub next : Layout
  next = flushed l s

  -- the sealed logs before the switch retires some
  sealed_was : but_oldest l.frozen ++ s ∷ l.flushed ≡ sealed l
  sealed_was = sealed_same l s waits

  distinct_was : AreDistinct (log_numbers (but_oldest l.frozen ++ s ∷ l.flushed))
  distinct_was = subst (λ (ss : List Segment). AreDistinct (log_numbers ss)) (sym sealed_was) tidy.distinct.1

  -- Logs that stay are found as before,
  pub stays : IsWider (sealed next) (sealed l)
  stays n log at = ap (λ (ss : List Segment). segment_at ss n) (sym sealed_was)
      ∙ segment_wider (λ (x : Segment). not (is_idle unswitched x)) n log (but_oldest l.frozen) (s ∷ l.flushed) distinct_was at
    where
      unswitched : Layout
      unswitched = record l {
        frozen = but_oldest l.frozen;
        flushed = s ∷ l.flushed;
        levels = in_front (flushed_table l s) l.levels;
        covered = next.covered;
        next_table = next.next_table;
        epoch = next.epoch;
      }

  -- and so is the one that is flushed.
  pub flushed_there : segment_at (sealed l) s.number ≡ Some s
  flushed_there = ap (λ (ss : List Segment). segment_at ss s.number) (sym sealed_was)
      ∙ segment_there (but_oldest l.frozen) s l.flushed distinct_was

  pub flushed_found : (p : Pointer) (key : List ℕ) → p.segment ≡ s.number
      → layout_logs l p key ≡ stored_at s.format (bytes_of_log s) p key
  flushed_found p key same =
      ap (λ (o : Option Segment). stored_of o p key) (ap (segment_at (sealed l)) same ∙ flushed_there)

  still_shows : ShowsLow (layout_logs l) next h
  still_shows = flush_shows (layout_logs l) l s h (low_at l h) (last_number h) waits level deeper are
      (memtable_placed (layout_logs l) s is flushed_found) tidy.shows

  -- with the logs of before it is tidy
  pub still_tidy : IsTidy (layout_logs l) next h
  still_tidy = tidy_flushed (layout_logs l) l h tidy s waits still_shows level deeper are

  next_far : AreFarTo (IsThere (sealed next)) (sources next)
  next_far = all_both (λ (e : Entry). IsFarTo (IsThere (sealed next)) e.body) (memtable l.active) (behind_active next)
      (all_parts_first (memtables_far (IsThere (sealed next)) (l.active ∷ []) (memtables.0, tt)))
      (all_both (λ (e : Entry). IsFarTo (IsThere (sealed next)) e.body) (flat_map memtable (but_oldest l.frozen))
      (flat_map table_entries (tables next))
      (memtables_far (IsThere (sealed next)) (but_oldest l.frozen) (all_but_oldest l.frozen memtables.1))
      (flat_far (IsThere (sealed next)) (tables next) (tables_far (sealed next) (tables next) still_tidy.placed)))
    where
      all_parts_first : AreFarTo (IsThere (sealed next)) (memtable l.active ++ [])
          → AreFarTo (IsThere (sealed next)) (memtable l.active)
      all_parts_first all = all_front (λ (e : Entry). IsFarTo (IsThere (sealed next)) e.body) (memtable l.active) [] all

      all_but_oldest : (ss : List Segment) → AllByRecursion IsLogFile ss → AllByRecursion IsLogFile (but_oldest ss)
      all_but_oldest [] all = tt
      all_but_oldest (x ∷ []) all = tt
      all_but_oldest (x ∷ y ∷ ss) all = (all.0, all_but_oldest (y ∷ ss) all.1)

  -- So it is tidy with the logs that stay.
  pub flush_tidy : IsTidy (layout_logs next) next h
  flush_tidy = tidy_with (layout_logs l) (layout_logs next) next h still_tidy
      (all_alike (sealed next) (sealed l) stays (sources next) next_far)

  -- ---- which logs its tables lead into

  abbrev IsNumbered : ℕ → Type 0
  IsNumbered n = n ≡ s.number

  placed_here : (es : List Entry) → AllByRecursion (IsFound s.format s.number (bytes_of_log s)) es
      → AreFarTo IsNumbered (map placed es)
  placed_here [] found = tt
  placed_here (e ∷ es) found = (one e.key e.body found.0, placed_here es found.1)
    where
      one : (key : List ℕ) (body : Body) → IsFoundAt s.format s.number (bytes_of_log s) key body → IsFarTo IsNumbered (placement body)
      one key (Inline value) at = absurd at
      one key Gone at = tt
      one key (Far p) at = absurd at
      one key (Logged value p) at = by (nat_le (value_length value) max_inline_bytes)
        where
          by : (b : Bool) → IsFarTo IsNumbered (if b then Inline value else Far p)
          by true = tt
          by false = at.0

  -- The logs that its tables lead into stay, and have frames.
  pub flush_led : has_frames s ≡ true
      → ((n : ℕ) → IsAmong (led_into (found_levels l.levels)) n → IsFramedAmong (sealed l) n)
      → (n : ℕ) → IsAmong (led_into (found_levels next.levels)) n → IsFramedAmong (sealed next) n
  flush_led framed led n among =
      by (among_in (IsThere (sealed next)) (led_into (found_levels next.levels)) n
      (led_in (IsThere (sealed next)) next.levels (tables_far (sealed next) (tables next) still_tidy.placed)) among)
    where
      new_is : next.levels ≡ (flushed_table l s ∷ level) ∷ deeper
      new_is = ap (in_front (flushed_table l s)) are

      either : (n ≡ s.number) ⊎ IsAmong (led_into (found_levels l.levels)) n
      either = subst (λ (ls : List (List Table)). (n ≡ s.number) ⊎ IsAmong (led_into (found_levels ls)) n) (sym are)
          (led_more IsNumbered (flushed_table l s) level deeper (placed_here (memtable s) (memtable_found s is)) n
          (subst (λ (ls : List (List Table)). IsAmong (led_into (found_levels ls)) n) new_is among))

      some_same : (a b : Segment) → Some a ≡ Some b → a ≡ b
      some_same a b e = cc

      by : IsThere (sealed next) n → IsFramedAmong (sealed next) n
      by (log, at) = ⊎_elim
          (λ (here : n ≡ s.number). (let same : log ≡ s = some_same log s
          (sym (stays n log at) ∙ ap (segment_at (sealed l)) here ∙ flushed_there) in
          record { log = log; at = at; framed = ap has_frames same ∙ framed }))
          (λ (before : IsAmong (led_into (found_levels l.levels)) n). (let was = led n before in
          let same : log ≡ was.log = some_same log was.log (sym (stays n log at) ∙ was.at) in
          record { log = log; at = at; framed = ap has_frames same ∙ was.framed }))
          either
