-- What an opening leaves is a layout that the disk holds, tables and the logs that they lead into with it.
use Rattle.std.specs.Prelude.{◌≡◌, ◌≢◌, ◌⊎◌, ◌≤◌, ◌<◌, ◌^◌, ◌==◌, ℕ, ◌+◌, Bool, true, false, not, nat_lt}
use Rattle.std.specs.Prelude.{if◌then◌else◌, List, [], ◌∷◌, ◌++◌, map, Option, Some, Ok, refl}
use Rattle.std.specs.FinMap.{get}
use Rattle.std.specs.List.{AllByRecursion, filter}
use Rattle.std.proofs.Common.{sym, ap, subst, ◌∙◌, append-nil, arith, inl, inr, ⊎_elim}
use Rattle.std.proofs.lemmas.Bool.{cases_lt}
use Rattle.std.proofs.lemmas.Bool.Decides.{nat_tests}
use Rattle.vl_disk.specs.Crash.{Image}
use Rattle.vl_disk.specs.DiskState.{DiskState, IsLawful, settled}
use Rattle.vl_disk.specs.declared.name.Name.TheVariants.{Log, Manifest, Table}
use Rattle.vl_engine_laws.specs.Begun.{as_led, base_begun, layout_begun, led_below}
use Rattle.vl_engine_laws.specs.Files.{HasTable, HoldsLog, HoldsTable, bytes_of_table, found_levels}
use Rattle.vl_engine_laws.specs.Held.{Holds, IsBase}
use Rattle.vl_engine_laws.specs.Pointed.{IsFramedAmong, bytes_of_log, segment_at}
use Rattle.vl_engine_laws.specs.Shown.{HasFramedAmong, Shown, tables_among}
use Rattle.vl_engine_laws.specs.Spared.{Spares}
use Rattle.vl_engine_laws.specs.laws.FileLaws.{all_back, all_each, all_filtered, all_front, all_more, has_numbered, segment_all, segment_number}
use Rattle.vl_engine_laws.specs.laws.HeldLaws.{each_held}
use Rattle.vl_engine_laws.specs.laws.ShownLaws.{levels_numbers}
use Rattle.vl_engine_laws.specs.laws.StartLaws.{IsAsRead, all_newest, before_from, before_read, each_sealed, logs_end}
use Rattle.vl_engine_model.specs.Logs.{new_segment}
use Rattle.vl_engine_model.specs.Sources.{numbers_of}
use Rattle.vl_engine_model.specs.Start.{has_frames, is_any, newest_first}
use Rattle.vl_engine_model.specs.Tidy.{sealed}
use Rattle.vl_engine_model.specs.declared.layout.Layout.{Layout}
use Rattle.vl_engine_model.specs.declared.segment.Segment.{Segment}
use Rattle.vl_engine_model.specs.declared.table.Table as laid
use Rattle.vl_manifest.specs.States.{read_in, state_behind, state_then, whole_edits}
use Rattle.vl_manifest.specs.Switching.{HasFrames}
use Rattle.vl_manifest.specs.declared.manifest_log.ManifestLog.{ManifestLog}
use Rattle.vl_manifest.specs.declared.state.ManifestState.{ManifestState}
use Rattle.vl_manifest.specs.laws.StateLaws.{IsInRange}
use Rattle.vl_manifest.specs.laws.WholeLaws.{whole_says}
use Rattle.vl_model.specs.Formats.{log_format, manifest_format}
use Rattle.vl_model.specs.History.{History, last_number}
use Rattle.vl_recover.specs.crash.Held.{DurableAs, GoOn, HoldsLogs, HoldsStore, IsNowhere, view_of}
use Rattle.vl_recover.specs.laws.opening.OpeningLaws.{opened, single_opening, some_none, some_same}
use Rattle.vl_recover.specs.laws.repairing.RecoveredLaws.{found_goes_on}
use Rattle.vl_recover.specs.laws.repairing.StageLaws.{ok_same}
use Rattle.vl_recover.specs.opening.Answers.{Finds, and_made, as_segments, logs_then}
use Rattle.vl_recover.specs.opening.HeldFiles.{but_last}
use Rattle.vl_recover.specs.opening.Opening.{FoundTable, IsAmong, IsNamed, NamedLevels, Opening, Refusal, StandingLogs, led_into}
use Rattle.vl_recover.specs.opening.Plans.{active_log, log_made, new_state}
use Rattle.vl_recover.specs.opening.Walk.{StandingLog, format_of}
use Rattle.vl_seglog.specs.Frames.{log_bytes}
use Rattle.vl_seglog.specs.LogReading.{LogReading, ReadsLog}
use Rattle.vl_seglog.specs.laws.LogReadingLaws.{one_log_reading, reads_written}

-- ---- logs with frames, by their numbers

-- one of them has the number, and frames
abbrev pub HasFramed : List Segment → ℕ → Type 0
HasFramed [] k = ⊥
HasFramed (s ∷ ss) k = ((s.number ≡ k) × (has_frames s ≡ true)) ⊎ HasFramed ss k

abbrev AreFramed : List Segment → Type 0
AreFramed ss = AllByRecursion (λ (s : Segment). has_frames s ≡ true) ss

framed_front : (xs ys : List Segment) (k : ℕ) → HasFramed xs k → HasFramed (xs ++ ys) k
framed_front [] ys k has = absurd has
framed_front (x ∷ xs) ys k (inl here) = inl here
framed_front (x ∷ xs) ys k (inr later) = inr (framed_front xs ys k later)

framed_back : (xs ys : List Segment) (k : ℕ) → HasFramed ys k → HasFramed (xs ++ ys) k
framed_back [] ys k has = has
framed_back (x ∷ xs) ys k has = inr (framed_back xs ys k has)

-- the last one has none
framed_before : (xs : List Segment) (s : Segment) (k : ℕ) → has_frames s ≡ false → HasFramed (xs ++ s ∷ []) k → HasFramed xs k
framed_before [] s k none (inl here) = absurd (let both : true ≡ false = sym here.1 ∙ none in cc)
framed_before [] s k none (inr later) = absurd later
framed_before (x ∷ xs) s k none (inl here) = inl here
framed_before (x ∷ xs) s k none (inr later) = inr (framed_before xs s k none later)

framed_filtered : (xs : List Segment) (k : ℕ) → HasFramed xs k → HasFramed (filter has_frames xs) k
framed_filtered [] k has = absurd has
framed_filtered (x ∷ xs) k has = by (framed_filtered xs k) (has_frames x) refl has
  where
    by : (HasFramed xs k → HasFramed (filter has_frames xs) k) → (b : Bool) → has_frames x ≡ b
        → ((x.number ≡ k) × (has_frames x ≡ true)) ⊎ HasFramed xs k
        → HasFramed (if b then x ∷ filter has_frames xs else filter has_frames xs) k
    by later true at (inl here) = inl here
    by later true at (inr rest) = inr (later rest)
    by later false at (inl here) = absurd (let both : true ≡ false = sym here.1 ∙ at in cc)
    by later false at (inr rest) = later rest

framed_newest : (xs : List Segment) (k : ℕ) → HasFramed xs k → HasFramed (newest_first xs) k
framed_newest [] k has = absurd has
framed_newest (x ∷ xs) k (inl here) = framed_back (newest_first xs) (x ∷ []) k (inl here)
framed_newest (x ∷ xs) k (inr later) = framed_front (newest_first xs) (x ∷ []) k (framed_newest xs k later)

all_framed : (xs : List Segment) → AreFramed (filter has_frames xs)
all_framed [] = tt
all_framed (x ∷ xs) = by (all_framed xs) (has_frames x) refl
  where
    by : AreFramed (filter has_frames xs) → (b : Bool) → has_frames x ≡ b
        → AreFramed (if b then x ∷ filter has_frames xs else filter has_frames xs)
    by later true at = (at, later)
    by later false at = later

-- Where all of them have frames it is found,
found_framed : (xs ys : List Segment) (k : ℕ) → AreFramed xs → HasFramed xs k → IsFramedAmong (xs ++ ys) k
found_framed [] ys k framed has = absurd has
found_framed (x ∷ xs) ys k framed has = by (found_framed xs ys k framed.1) (x.number == k) refl has
  where
    by : (HasFramed xs k → IsFramedAmong (xs ++ ys) k) → (b : Bool) → (x.number == k) ≡ b
        → ((x.number ≡ k) × (has_frames x ≡ true)) ⊎ HasFramed xs k → IsFramedAmong (x ∷ (xs ++ ys)) k
    by later true at either = record {
      log = x;
      at = ap (λ (c : Bool). if c then Some x else segment_at (xs ++ ys) k) at;
      framed = framed.0;
    }
    by later false at (inl here) =
        let same : x.number ≡ k = here.0 in
        let yes : (x.number == k) ≡ true = grind (arith, nat_tests, same) in
        absurd (let both : true ≡ false = sym yes ∙ at in cc)
    by later false at (inr rest) =
        let is = later rest in
        record {
          log = is.log;
          at = ap (λ (c : Bool). if c then Some x else segment_at (xs ++ ys) k) at ∙ is.at;
          framed = is.framed;
        }

-- and behind others with other numbers too.
found_behind : (xs ys : List Segment) (k : ℕ) → AllByRecursion (λ (x : Segment). x.number ≢ k) xs → IsFramedAmong ys k
    → IsFramedAmong (xs ++ ys) k
found_behind [] ys k others is = is
found_behind (x ∷ xs) ys k others is =
    let rest = found_behind xs ys k others.1 is in
    let differs : x.number ≢ k = others.0 in
    let at : (x.number == k) ≡ false = grind (arith, nat_tests, differs) in
    record {
      log = rest.log;
      at = ap (λ (c : Bool). if c then Some x else segment_at (xs ++ ys) k) at ∙ rest.at;
      framed = rest.framed;
    }

-- ---- the logs below head

module _ {image : Image} {among : List Segment} (head : ℕ) where
  pub each_below : (P : Segment → Type 0) (ns : List ℕ) (led : (n : ℕ) → IsAmong ns n → HasFramedAmong image among n)
      → ((n : ℕ) (is : IsAmong ns n) → P (as_led n (led n is))) → AllByRecursion P (led_below head ns led)
  each_below P [] led each = tt
  each_below P (n ∷ ns) led each =
      by (each_below P ns (λ m is. led m (inr is)) (λ m is. each m (inr is))) (nat_lt n head)
    where
      by : AllByRecursion P (led_below head ns (λ m is. led m (inr is))) → (b : Bool)
          → AllByRecursion P (if b then as_led n (led n (inl refl)) ∷ led_below head ns (λ m is. led m (inr is))
          else led_below head ns (λ m is. led m (inr is)))
      by later true = (each n (inl refl), later)
      by later false = later

  has_below : (ns : List ℕ) (led : (n : ℕ) → IsAmong ns n → HasFramedAmong image among n) (k : ℕ) → IsAmong ns k → k < head
      → HasFramed (led_below head ns led) k
  has_below [] led k is less = absurd is
  has_below (n ∷ ns) led k is less =
      by (λ later. has_below ns (λ m at. led m (inr at)) k later less) (nat_lt n head) refl is
    where
      by : (IsAmong ns k → HasFramed (led_below head ns (λ m at. led m (inr at))) k) → (b : Bool) → nat_lt n head ≡ b
          → (n ≡ k) ⊎ IsAmong ns k
          → HasFramed (if b then as_led n (led n (inl refl)) ∷ led_below head ns (λ m at. led m (inr at))
          else led_below head ns (λ m at. led m (inr at))) k
      by later true at (inl same) = inl (same, (led n (inl refl)).is.framed)
      by later true at (inr rest) = inr (later rest)
      by later false at (inl same) = absurd (grind (arith, nat_tests, at, same, less))
      by later false at (inr rest) = later rest

-- ---- the logs from head on

-- One with frames that stands is among them.
standing_framed : (image : Image) (k : ℕ) (bytes : List ℕ) → get image (Log k) ≡ Some bytes
    → ((reading : LogReading) → ReadsLog k bytes reading → is_any reading.frames ≡ true)
    → (least : ℕ) (logs : List StandingLog) → StandingLogs image least logs → least ≤ k → HasFramed (as_segments logs) k
standing_framed image k bytes there framed least [] none from = absurd (some_none bytes (sym there ∙ none k from))
standing_framed image k bytes there framed least (q ∷ []) (next, behind) from =
    by (standing_framed image k bytes there framed (q.number + 1) [] behind)
  where
    at_one : q.number ≡ k → is_any q.reading.frames ≡ true
    at_one same =
        let one : bytes ≡ next.bytes = some_same bytes next.bytes
        (sym there ∙ sym (ap (λ (n : ℕ). get image (Log n)) same) ∙ next.stands) in
        framed q.reading (subst (λ (bs : List ℕ). ReadsLog k bs q.reading) (sym one)
        (subst (λ (n : ℕ). ReadsLog n next.bytes q.reading) same next.reads))

    by : (q.number + 1 ≤ k → HasFramed (as_segments []) k) → HasFramed (as_segments (q ∷ [])) k
    by later = ⊎_elim
        (λ (less : k < q.number). absurd (some_none bytes (sym there ∙ next.between k from less)))
        (λ (up : q.number ≤ k). ⊎_elim
        (λ (above : q.number < k). absurd (later (omega (arith, above))))
        (λ (below : k ≤ q.number). let same : q.number ≡ k = omega (arith, up, below) in inl (same, at_one same))
        (cases_lt q.number k))
        (cases_lt k q.number)
standing_framed image k bytes there framed least (q ∷ p ∷ ps) (next, behind) from =
    by (standing_framed image k bytes there framed (q.number + 1) (p ∷ ps) behind)
  where
    at_one : q.number ≡ k → is_any q.reading.frames ≡ true
    at_one same =
        let one : bytes ≡ next.bytes = some_same bytes next.bytes
        (sym there ∙ sym (ap (λ (n : ℕ). get image (Log n)) same) ∙ next.stands) in
        framed q.reading (subst (λ (bs : List ℕ). ReadsLog k bs q.reading) (sym one)
        (subst (λ (n : ℕ). ReadsLog n next.bytes q.reading) same next.reads))

    by : (q.number + 1 ≤ k → HasFramed (as_segments (p ∷ ps)) k) → HasFramed (as_segments (q ∷ p ∷ ps)) k
    by later = ⊎_elim
        (λ (less : k < q.number). absurd (some_none bytes (sym there ∙ next.between k from less)))
        (λ (up : q.number ≤ k). ⊎_elim
        (λ (above : q.number < k). inr (later (omega (arith, above))))
        (λ (below : k ≤ q.number). let same : q.number ≡ k = omega (arith, up, below) in inl (same, at_one same))
        (cases_lt q.number k))
        (cases_lt k q.number)

-- ---- what is durable as reads give it

table_durable : (read : Image) (disk : DiskState) (t : laid.Table) → HasTable read t → DurableAs read disk (Table t.number)
    → HoldsTable disk t
table_durable read disk t has (bytes, there, stands) = record {
  is = has.is;
  stands = stands ∙ ap (λ (bs : List ℕ). Some (settled bs)) (some_same bytes (bytes_of_table t) (sym there ∙ has.stands));
}

level_durable : (read : Image) (disk : DiskState) (ts : List laid.Table)
    → ((n : ℕ) → IsAmong (numbers_of ts) n → DurableAs read disk (Table n)) → AllByRecursion (HasTable read) ts
    → AllByRecursion (HoldsTable disk) ts
level_durable read disk [] each have = tt
level_durable read disk (t ∷ ts) each have = (
  table_durable read disk t have.0 (each t.number (inl refl)),
  level_durable read disk ts (λ n among. each n (inr among)) have.1,
)

levels_durable : (read : Image) (disk : DiskState) (levels : List (List laid.Table))
    → ((n : ℕ) → IsNamed (map numbers_of levels) n → DurableAs read disk (Table n))
    → AllByRecursion (HasTable read) (tables_among levels)
    → AllByRecursion (HoldsTable disk) (tables_among levels)
levels_durable read disk [] each have = tt
levels_durable read disk (ts ∷ levels) each have = all_more (HoldsTable disk) ts (tables_among levels)
    (level_durable read disk ts (λ n among. each n (inl among)) (all_front (HasTable read) ts (tables_among levels) have))
    (levels_durable read disk levels (λ n named. each n (inr named)) (all_back (HasTable read) ts (tables_among levels) have))

-- ---- how a log reads that is whole

-- A log that stands among others reads as its frames.
framed_reading : (image : Image) (ss : List Segment) (n : ℕ) (has : HasFramedAmong image ss n) (reading : LogReading)
    → ReadsLog n (bytes_of_log has.is.log) reading
    → ◌≡◌ {A = LogReading} (record { header = Some has.is.log.format; frames = has.is.log.frames; whole = true }) reading
framed_reading image ss n has reading reads =
    let log = has.is.log in
    one_log_reading log.number (bytes_of_log log) (record { header = Some log.format; frames = log.frames; whole = true }) reading
    (reads_written log.format log.number has.has.is.readable log.frames has.has.is.have)
    (subst (λ (m : ℕ). ReadsLog m (bytes_of_log log) reading) (sym (segment_number ss n log has.is.at)) reads)

-- ---- the whole

module _ {read : Image} (found : Finds read) (h : History) (shown : Shown read h (last_number h)) (room : ℕ) where
  abbrev pub state : ManifestState
  state = new_state found.greatest found.opening.state

  abbrev pub head : ℕ
  head = found.opening.state.head

  -- the logs from head on before the active one
  abbrev pub before : List Segment
  before = but_last (logs_then found)

  abbrev pub active : Segment
  active = new_segment log_format (active_log found.greatest found.opening.state found.logs) []

  abbrev pub begun : Layout
  begun = layout_begun room found shown (but_last (logs_then found))

  pub one_opening : shown.opening ≡ found.opening
  one_opening = ok_same {E = Refusal} shown.opening found.opening
      (single_opening read (Ok shown.opening) (Ok found.opening) shown.opens found.opens)

  -- the names are those of the tables that are shown
  pub names_are : found.opening.state.levels ≡ map numbers_of shown.levels
  names_are = ap (λ (o : Opening). o.state.levels) (sym one_opening)
      ∙ levels_numbers read false shown.opening.state.levels shown.levels
      (subst (λ (ls : List (List FoundTable)). NamedLevels false read shown.opening.state.levels (Ok ls)) shown.found
      (opened read shown.opening shown.opens).levels)

  -- the logs that they lead into are those that footers tell
  pub as_told : (k : ℕ) → IsAmong (led_into (found_levels shown.levels)) k → IsAmong (led_into shown.opening.levels) k
  as_told k among = subst (λ (ls : List (List FoundTable)). IsAmong (led_into ls) k) (sym shown.found) among

  abbrev pub below : List Segment
  below = led_below found.opening.state.head (led_into shown.opening.levels) shown.led

  -- a log that is led into reads with frames
  led_reads : (k : ℕ) → IsAmong (led_into shown.opening.levels) k
      → (bytes : List ℕ) × (get read (Log k) ≡ Some bytes)
      × ((reading : LogReading) → ReadsLog k bytes reading → is_any reading.frames ≡ true)
  led_reads k among = by (shown.led k among)
    where
      by : HasFramedAmong read shown.sealed k → (bytes : List ℕ) × (get read (Log k) ≡ Some bytes)
          × ((reading : LogReading) → ReadsLog k bytes reading → is_any reading.frames ≡ true)
      by has = (
        bytes_of_log has.is.log,
        has_numbered read shown.sealed k has,
        λ reading reads. ap (λ (r : LogReading). is_any r.frames) (sym (framed_reading read shown.sealed k has reading reads))
            ∙ has.is.framed,
      )

  -- What tables lead into is sealed, and has frames.
  pub begun_led : (k : ℕ) → IsAmong (led_into (found_levels (layout_begun room found shown (but_last (logs_then found))).levels)) k
      → IsFramedAmong (sealed (layout_begun room found shown (but_last (logs_then found)))) k
  begun_led k among = ⊎_elim
      (λ (less : k < head). found_behind (newest_first (filter has_frames before)) (without ++ below) k
      (all_newest (λ (x : Segment). x.number ≢ k) (filter has_frames before)
      (all_filtered (λ (x : Segment). x.number ≢ k) has_frames before (others less)))
      (found_behind without below k
      (all_filtered (λ (x : Segment). x.number ≢ k) (λ (x : Segment). not (has_frames x)) before (others less))
      (found_among below k (each_below head (λ (x : Segment). has_frames x ≡ true) (led_into shown.opening.levels) shown.led
      (λ n is. (shown.led n is).is.framed))
      (has_below head (led_into shown.opening.levels) shown.led k (as_told k among) less))))
      (λ (from : head ≤ k). (let (bytes, there, framed) = led_reads k (as_told k among) in
      found_framed (newest_first (filter has_frames before)) (without ++ below) k
      (all_newest (λ (x : Segment). has_frames x ≡ true) (filter has_frames before) (all_framed before))
      (framed_newest (filter has_frames before) k (framed_filtered before k
      (framed_before before active k refl
      (subst (λ (ss : List Segment). HasFramed ss k) (logs_end found)
      (framed_front (as_segments found.logs) (and_made (log_made state found.logs)) k
      (standing_framed read k bytes there framed head found.logs found.standing from))))))))
      (cases_lt k head)
    where
      without : List Segment
      without = filter (λ (x : Segment). not (has_frames x)) before

      others : k < head → AllByRecursion (λ (x : Segment). x.number ≢ k) before
      others less = all_each (λ (x : Segment). head ≤ x.number) (λ (x : Segment). x.number ≢ k) before
          (λ x from same. omega (arith, less, from, same)) (before_from found)

      found_among : (ss : List Segment) (n : ℕ) → AreFramed ss → HasFramed ss n → IsFramedAmong ss n
      found_among ss n framed has = subst (λ (ts : List Segment). IsFramedAmong ts n) (append-nil ss) (found_framed ss [] n framed has)

  -- ---- its logs are as they are read

  pub sealed_read : AllByRecursion (IsAsRead read) (sealed (layout_begun room found shown (but_last (logs_then found))))
  sealed_read = each_sealed (IsAsRead read) before below (before_read found)
      (each_below head (IsAsRead read) (led_into shown.opening.levels) shown.led read_below)
    where
      read_below : (n : ℕ) (is : IsAmong (led_into shown.opening.levels) n) → IsAsRead read (as_led n (shown.led n is))
      read_below n is = by (shown.led n is)
        where
          by : (led : HasFramedAmong read shown.sealed n) → IsAsRead read (as_led n led)
          by led =
              let log = led.is.log in
              record {
                bytes = bytes_of_log log;
                stands = has_numbered read shown.sealed n led;
                reading = record { header = Some log.format; frames = log.frames; whole = true };
                reads = subst (λ (m : ℕ). ReadsLog m (bytes_of_log log)
                    (record { header = Some log.format; frames = log.frames; whole = true }))
                    (segment_number shown.sealed n log led.is.at)
                    (reads_written log.format log.number led.has.is.readable log.frames led.has.is.have);
                frames = refl;
                format = λ framed. refl;
              }

  -- A log that tables lead into is found as reads show it.
  pub led_alike : (k : ℕ) (is : IsFramedAmong (sealed (layout_begun room found shown (but_last (logs_then found)))) k)
      (has : HasFramedAmong read shown.sealed k)
      → (is.log.format ≡ has.is.log.format) × (is.log.frames ≡ has.is.log.frames)
  led_alike k is has =
      let x = is.log in
      let y = has.is.log in
      let here = segment_all (IsAsRead read) (sealed begun) k x sealed_read is.at in
      let number : x.number ≡ k = segment_number (sealed begun) k x is.at in
      let bytes : here.bytes ≡ bytes_of_log y = some_same here.bytes (bytes_of_log y)
      (sym here.stands ∙ ap (λ (n : ℕ). get read (Log n)) number ∙ has_numbered read shown.sealed k has) in
      let same = framed_reading read shown.sealed k has here.reading
      (subst (λ (bs : List ℕ). ReadsLog k bs here.reading) bytes
      (subst (λ (n : ℕ). ReadsLog n here.bytes here.reading) number here.reads)) in (
        sym (here.format is.framed) ∙ sym (ap (λ (r : LogReading). format_of r.header) same),
        sym here.frames ∙ sym (ap (λ (r : LogReading). r.frames) same),
      )

  -- ---- what the disk holds

  -- Its base is that of the manifest that was made.
  pub begun_base : (manifest : ManifestLog) → manifest.number < 2 ^ 32 → IsInRange (new_state found.greatest found.opening.state)
      → found.opening.number ≡ last_number h
      → Spares (layout_begun room found shown (but_last (logs_then found))) h
      → IsBase (base_begun found manifest (but_last (logs_then found))) (layout_begun room found shown (but_last (logs_then found))) h
  begun_base manifest fits range number spared = record {
    numbered = fits;
    made = ap (λ (o : Option ManifestState). read_in manifest_format (state_then 16 (λ (t : ManifestState). state_behind t []) o))
        (whole_says state range);
    goes = subst (λ (ss : List Segment). GoOn state.covered ss (last_number h)) (logs_end found)
        (subst (GoOn state.covered (logs_then found)) number (found_goes_on found));
    levels = names_are;
    frozen = refl;
    led = begun_led;
    keep = refl;
    since = refl;
    gone = refl;
    covered = refl;
    format = refl;
    spared = spared;
  }

  module _ (disk : DiskState)
      (store : HoldsStore (new_state found.greatest found.opening.state) (view_of found) (logs_then found) disk) where
    logs_held : HoldsLogs head (before ++ active ∷ []) disk
    logs_held = subst (λ (ss : List Segment). HoldsLogs head ss disk) (logs_end found) store.logs_are

    -- And the disk holds it.
    pub begun_holds : (manifest : ManifestLog) → HasFrames manifest (whole_edits (new_state found.greatest found.opening.state) ∷ []) disk
        → ((m : ℕ) → manifest.number < m → IsNowhere disk (Manifest m)) → IsLawful disk
        → Holds (base_begun found manifest (but_last (logs_then found))) (layout_begun room found shown (but_last (logs_then found))) disk
    begun_holds manifest has above lawful = record {
      base = record { has = has; above = above };
      files = record {
        logs = logs_held;
        tables = levels_durable read disk shown.levels
            (λ n named. store.needs.tables n (subst (λ (ns : List (List ℕ)). IsNamed ns n) (sym names_are) named)) shown.tables;
        flushed = all_more (HoldsLog disk) (filter (λ (x : Segment). not (has_frames x)) before) below
            (all_filtered (HoldsLog disk) (λ (x : Segment). not (has_frames x)) before
            (each_held disk head before (active ∷ []) logs_held))
            (each_below head (HoldsLog disk) (led_into shown.opening.levels) shown.led led_durable);
      };
      durable = store.durable;
      lawful = lawful;
    }
      where
        led_durable : (n : ℕ) (is : IsAmong (led_into shown.opening.levels) n) → HoldsLog disk (as_led n (shown.led n is))
        led_durable n is =
            by (shown.led n is) (store.needs.logs n (subst (λ (o : Opening). IsAmong (led_into o.levels) n) one_opening is))
          where
            by : (led : HasFramedAmong read shown.sealed n) → DurableAs read disk (Log n) → HoldsLog disk (as_led n led)
            by led (bytes, there, stands) =
                let log = led.is.log in
                let number : log.number ≡ n = segment_number shown.sealed n log led.is.at in
                let same : bytes ≡ bytes_of_log (as_led n led) =
                some_same bytes (bytes_of_log log) (sym there ∙ has_numbered read shown.sealed n led)
                ∙ ap (λ (m : ℕ). log_bytes log.format m log.frames) number in
                record {
                  is = record { readable = led.has.is.readable; have = led.has.is.have };
                  stands = stands ∙ ap (λ (bs : List ℕ). Some (settled bs)) same;
                }
