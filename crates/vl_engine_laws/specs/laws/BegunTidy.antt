-- The layout with which an engine begins is tidy.
use Rattle.std.specs.Prelude.{◌≡◌, ◌≢◌, ◌≤◌, ◌<◌, ℕ, ◌+◌, ◌-◌, ◌==◌, max, nat_lt, Bool, true, false, if◌then◌else◌}
use Rattle.std.specs.Prelude.{List, [], ◌∷◌, Some, refl}
use Rattle.std.specs.List.{AllByRecursion}
use Rattle.std.proofs.Common.{sym, ap, subst, ◌∙◌, arith, inl, inr}
use Rattle.std.proofs.lemmas.Bool.Decides.{nat_tests}
use Rattle.vl_model.specs.Cutting.{points_of}
use Rattle.vl_model.specs.declared.point.Point.{Point}
use Rattle.vl_disk.specs.Crash.{Image}
use Rattle.vl_disk.specs.declared.name.Name.TheVariants as names
use Rattle.vl_engine_laws.specs.Begun.{as_led, layout_begun, led_below, recovered_as}
use Rattle.vl_engine_laws.specs.Files.{HasTable, IsTableFile, found_levels}
use Rattle.vl_engine_laws.specs.Pointed.{layout_logs, segment_at}
use Rattle.vl_engine_laws.specs.Shown.{HasFramedAmong, Shown, tables_among}
use Rattle.vl_engine_laws.specs.laws.AmongLaws.{each_led}
use Rattle.vl_engine_laws.specs.laws.BegunLaws.{as_told, begun_led, each_below, led_alike, one_opening}
use Rattle.vl_engine_laws.specs.laws.BegunLevels.{begun_levels, files_shown}
use Rattle.vl_engine_laws.specs.laws.BegunShows.{begun_shows}
use Rattle.vl_engine_laws.specs.laws.FileLaws.{all_each, has_numbered}
use Rattle.vl_engine_laws.specs.laws.LedLaws.{AreFarTo, ArePointsTo, AreRisingNumbers, IsFarTo, led_rise, points_led}
use Rattle.vl_engine_laws.specs.laws.StartLaws.{active_from, before_from, before_rise, before_true, distinct_sealed}
use Rattle.vl_engine_laws.specs.laws.StartLaws.{each_sealed, not_above, other_number}
use Rattle.vl_engine_model.specs.Jobs.{AreDistinct}
use Rattle.vl_engine_model.specs.Start.{IsWellRecovered, Recovered}
use Rattle.vl_engine_model.specs.Stock.{HasBytes, HasBytesAt, IsFooted, PointsDrawn}
use Rattle.vl_engine_model.specs.Tidy.{IsPlacedAt, IsPlacedIn, IsTidy, IsTrueLog, IsTrueTable, format_of, log_numbers, sealed}
use Rattle.vl_engine_model.specs.declared.layout.Layout.{Layout}
use Rattle.vl_engine_model.specs.declared.segment.Segment.{Segment}
use Rattle.vl_engine_model.specs.declared.table.Table.{Table}
use Rattle.vl_engine_model_laws.specs.laws.Starting.{start_stocked}
use Rattle.vl_manifest.specs.declared.state.ManifestState.{ManifestState}
use Rattle.vl_model.specs.Frames.{record_length}
use Rattle.vl_model.specs.History.{History, last_number}
use Rattle.vl_model.specs.Limits.{max_inline_bytes}
use Rattle.vl_model.specs.declared.change.Change.TheVariants.{Delete}
use Rattle.vl_model.specs.declared.entry.Body.TheVariants.{Far, Gone, Inline, Logged}
use Rattle.vl_model.specs.declared.entry.Body.{Body}
use Rattle.vl_model.specs.declared.entry.Entry.{Entry}
use Rattle.vl_recover.specs.opening.Answers.{Finds, logs_then}
use Rattle.vl_recover.specs.opening.HeldFiles.{but_last}
use Rattle.vl_recover.specs.opening.Opening.{IsAmong, Opening, led_into}
use Rattle.vl_recover.specs.opening.Plans.{active_log, new_state}

-- ---- what is placed

-- a log that is found has its format
format_at : (ss : List Segment) (n : ℕ) (log : Segment) → segment_at ss n ≡ Some log → format_of ss n ≡ Some log.format
format_at [] n log at = absurd cc
format_at (s ∷ ss) n log at = by (s.number == n) (format_at ss n log) at
  where
    by : (b : Bool) → (segment_at ss n ≡ Some log → format_of ss n ≡ Some log.format)
        → (if b then Some s else segment_at ss n) ≡ Some log → (if b then Some s.format else format_of ss n) ≡ Some log.format
    by true later is = let same : s ≡ log = cc in ap (λ (x : Segment). Some x.format) same
    by false later is = later is

-- where a far value is placed its record has some length
placed_bytes : (ss : List Segment) (key : List ℕ) (body : Body) → IsPlacedAt ss key body → HasBytesAt body
placed_bytes ss key (Inline value) is = tt
placed_bytes ss key Gone is = tt
placed_bytes ss key (Far p) (format, told, placed) = some p.length (record_length format key Delete) placed
  where
    some : (n m : ℕ) → nat_lt max_inline_bytes (n - m) ≡ true → 0 < n
    some n m is = grind (arith, nat_tests, is)
placed_bytes ss key (Logged value p) is = absurd is

all_bytes : (ss : List Segment) (es : List Entry) → AllByRecursion (IsPlacedIn ss) es → AllByRecursion HasBytes es
all_bytes ss es all = all_each (IsPlacedIn ss) HasBytes es (λ e is. placed_bytes ss e.key e.body is) all

footed : (ss : List Segment) (ts : List Table) → AllByRecursion IsTableFile ts
    → AllByRecursion (λ (t : Table). AllByRecursion (IsPlacedIn ss) t.entries) ts → AllByRecursion IsFooted ts
footed ss [] files placed = tt
footed ss (t ∷ ts) files placed = (
  record { points = ap (λ (x : Table). x.points) files.0.laid; bytes = all_bytes ss t.entries placed.0 },
  footed ss ts files.1 placed.1,
)

-- ---- logs by their numbers

module _ {image : Image} {among : List Segment} (head : ℕ) where
  -- the logs below head that are led into have numbers of their own
  below_distinct : (ns : List ℕ) (led : (n : ℕ) → IsAmong ns n → HasFramedAmong image among n) → AreRisingNumbers ns
      → AreDistinct (log_numbers (led_below head ns led))
  below_distinct [] led rising = tt
  below_distinct (n ∷ ns) led rising = by (nat_lt n head) (below_distinct ns (λ m at. led m (inr at)) rising.1)
    where
      rest : (m : ℕ) → IsAmong ns m → HasFramedAmong image among m
      rest m at = led m (inr at)

      above : (ms : List ℕ) → AllByRecursion (λ (m : ℕ). n < m) ms → (m : ℕ) → IsAmong ms m → m ≢ n
      above [] all m at same = at
      above (k ∷ ks) all m (inl is) same = omega (arith, all.0, is, same)
      above (k ∷ ks) all m (inr is) same = above ks all.1 m is same

      others : AllByRecursion (λ (s : Segment). s.number ≢ n) (led_below head ns rest)
      others = each_below head (λ (s : Segment). s.number ≢ n) ns rest (λ m is. above ns rising.0 m is)

      by : (b : Bool) → AreDistinct (log_numbers (led_below head ns (λ m at. led m (inr at))))
          → AreDistinct (log_numbers (if b then as_led n (led n (inl refl)) ∷ led_below head ns (λ m at. led m (inr at))
          else led_below head ns (λ m at. led m (inr at))))
      by true later = (other_number n (led_below head ns rest) others, later)
      by false later = later

  below_less : (ns : List ℕ) (led : (n : ℕ) → IsAmong ns n → HasFramedAmong image among n)
      → AllByRecursion (λ (s : Segment). s.number < head) (led_below head ns led)
  below_less [] led = tt
  below_less (n ∷ ns) led = by (nat_lt n head) refl (below_less ns (λ m at. led m (inr at)))
    where
      by : (b : Bool) → nat_lt n head ≡ b
          → AllByRecursion (λ (s : Segment). s.number < head) (led_below head ns (λ m at. led m (inr at)))
          → AllByRecursion (λ (s : Segment). s.number < head) (if b then as_led n (led n (inl refl))
          ∷ led_below head ns (λ m at. led m (inr at)) else led_below head ns (λ m at. led m (inr at)))
      by true is later = ((let less : n < head = grind (arith, nat_tests, is) in less), later)
      by false is later = later

-- ---- the layout

module _ {read : Image} (found : Finds read) (h : History) (shown : Shown read h (last_number h)) (room : ℕ) where
  abbrev state : ManifestState
  state = new_state found.greatest found.opening.state

  abbrev active_number : ℕ
  active_number = active_log found.greatest found.opening.state found.logs

  abbrev begun : Layout
  begun = layout_begun room found shown (but_last (logs_then found))

  abbrev its : Recovered
  its = recovered_as found shown (but_last (logs_then found))

  abbrev below : List Segment
  below = led_below found.opening.state.head (led_into shown.opening.levels) shown.led

  -- what a table leads into has a lower number than the next log
  led_drawn : (n : ℕ) → IsAmong (led_into shown.opening.levels) n → n < state.next_log
  led_drawn n is =
      let up = not_above read names.Log found.greatest.log found.are_greatest.log.none_above n _
      (has_numbered read shown.sealed n (shown.led n is)) in
      omega (arith, up)

  tables_drawn : AllByRecursion (λ (t : Table). t.number < state.next_table) (tables_among shown.levels)
  tables_drawn = all_each (HasTable read) (λ (t : Table). t.number < state.next_table) (tables_among shown.levels)
      (λ t has. (let up = not_above read names.Table found.greatest.table found.are_greatest.table.none_above t.number _ has.stands in
      omega (arith, up))) shown.tables

  abbrev next : ℕ
  next = max state.next_log (active_number + 1)

  points_drawn : AllByRecursion (PointsDrawn next) (tables_among shown.levels)
  points_drawn = each (tables_among shown.levels) files_shown_here (points_led shown.levels)
    where
      files_shown_here : AllByRecursion IsTableFile (tables_among shown.levels)
      files_shown_here = files_shown found h shown room

      drawn : (ps : List Point) → ArePointsTo (IsAmong (led_into (found_levels shown.levels))) ps
          → AllByRecursion (λ (p : Point). p.segment < next) ps
      drawn ps all = all_each (λ (p : Point). IsAmong (led_into (found_levels shown.levels)) p.segment) (λ (p : Point). p.segment < next) ps
          (λ p is. (let less = led_drawn p.segment (as_told found h shown room p.segment is) in omega (arith, less))) all

      each : (ts : List Table) → AllByRecursion IsTableFile ts
          → AllByRecursion (λ (t : Table). ArePointsTo (IsAmong (led_into (found_levels shown.levels))) (points_of t.entries)) ts
          → AllByRecursion (PointsDrawn next) ts
      each [] files all = tt
      each (t ∷ ts) files all = (
        subst (λ (ps : List Point). AllByRecursion (λ (p : Point). p.segment < next) ps)
            (sym (ap (λ (x : Table). x.points) files.0.laid)) (drawn (points_of t.entries) all.0),
        each ts files.1 all.1,
      )

  well_recovered : IsWellRecovered its
  well_recovered = record {
    rising = (before_rise found).0;
    before = (before_rise found).1;
    below = each_below found.opening.state.head (λ (s : Segment). s.number < next) (led_into shown.opening.levels) shown.led
        (λ n is. (let less = led_drawn n is in omega (arith, less)));
    tables = tables_drawn;
    footed = footed shown.sealed (tables_among shown.levels) (files_shown found h shown room) shown.placed;
    points = points_drawn;
  }

  -- ---- logs

  from : found.opening.state.head ≤ active_number
  from = active_from found

  head_below : AllByRecursion (λ (s : Segment). s.number ≢ active_number) below
  head_below = all_each (λ (s : Segment). s.number < found.opening.state.head) (λ (s : Segment). s.number ≢ active_number) below
      (λ s less same. omega (arith, from, less, same))
      (below_less found.opening.state.head (led_into shown.opening.levels) shown.led)

  apart : AllByRecursion (λ (s : Segment). AllByRecursion (λ (t : Segment). t.number ≢ s.number) below) (but_last (logs_then found))
  apart = all_each (λ (s : Segment). found.opening.state.head ≤ s.number)
      (λ (s : Segment). AllByRecursion (λ (t : Segment). t.number ≢ s.number) below) (but_last (logs_then found))
      (λ s from. all_each (λ (t : Segment). t.number < found.opening.state.head) (λ (t : Segment). t.number ≢ s.number) below
      (λ t less same. omega (arith, from, less, same))
      (below_less found.opening.state.head (led_into shown.opening.levels) shown.led))
      (before_from found)

  -- ---- what is placed

  abbrev IsLed : ℕ → Type 0
  IsLed n = IsAmong (led_into (found_levels shown.levels)) n

  placed_body : (key : List ℕ) (body : Body) → IsFarTo IsLed body → IsPlacedAt shown.sealed key body
      → IsPlacedAt (sealed begun) key body
  placed_body key (Inline value) far is = is
  placed_body key Gone far is = is
  placed_body key (Far p) far (format, told, placed) =
      let is = begun_led found h shown room p.segment far in
      let has = shown.led p.segment (as_told found h shown room p.segment far) in
      let formats = (led_alike found h shown room p.segment is has).0 in
      let here = format_at (sealed begun) p.segment is.log is.at in
      let there = format_at shown.sealed p.segment has.is.log has.is.at in
      (format, here ∙ ap Some formats ∙ sym there ∙ told, placed)
  placed_body key (Logged value p) far is = is

  placed_entries : (es : List Entry) → AreFarTo IsLed es → AllByRecursion (IsPlacedIn shown.sealed) es
      → AllByRecursion (IsPlacedIn (sealed begun)) es
  placed_entries [] far placed = tt
  placed_entries (e ∷ es) far placed = (placed_body e.key e.body far.0 placed.0, placed_entries es far.1 placed.1)

  placed_tables : (ts : List Table) → AllByRecursion (λ (t : Table). AreFarTo IsLed t.entries) ts
      → AllByRecursion (λ (t : Table). AllByRecursion (IsPlacedIn shown.sealed) t.entries) ts
      → AllByRecursion (λ (t : Table). AllByRecursion (IsPlacedIn (sealed begun)) t.entries) ts
  placed_tables [] far placed = tt
  placed_tables (t ∷ ts) far placed = (placed_entries t.entries far.0 placed.0, placed_tables ts far.1 placed.1)

  -- It is tidy.
  pub begun_tidy : IsTidy (layout_logs (layout_begun room found shown (but_last (logs_then found))))
      (layout_begun room found shown (but_last (logs_then found))) h
  begun_tidy =
      let show = begun_shows found h shown room in
      let other : AllByRecursion (λ (s : Segment). s.number ≢ active_number) (but_last (logs_then found)) =
      all_each (λ (s : Segment). s.number < active_number) (λ (s : Segment). s.number ≢ active_number) (but_last (logs_then found))
      (λ s less same. omega (arith, less, same)) (before_rise found).1 in
      record {
        files = start_stocked room its well_recovered;
        levels = begun_levels found h shown room;
        true_tables = all_each IsTableFile IsTrueTable
            (tables_among shown.levels) (λ t is. is.laid) (files_shown found h shown room);
        true_logs = (
          refl,
          each_sealed IsTrueLog (but_last (logs_then found)) below (before_true found)
              (each_below found.opening.state.head IsTrueLog (led_into shown.opening.levels) shown.led (λ n is. refl)),
        );
        distinct = (
          other_number active_number (sealed begun)
              (each_sealed (λ (s : Segment). s.number ≢ active_number) (but_last (logs_then found)) below other head_below),
          distinct_sealed (but_last (logs_then found)) below (before_rise found).0 apart
              (below_distinct found.opening.state.head (led_into shown.opening.levels) shown.led (led_rise shown.opening.levels)),
        );
        placed = placed_tables (tables_among shown.levels) (each_led shown.levels) shown.placed;
        versions = show.versions;
        last = shown.last;
        some = subst (λ (o : Opening). 1 ≤ o.state.keep) (one_opening found h shown room) shown.some;
        since = subst (λ (o : Opening). o.state.since ≤ last_number h) (one_opening found h shown room) shown.since;
        shows = show.shows;
        job = λ o none. absurd cc;
      }
