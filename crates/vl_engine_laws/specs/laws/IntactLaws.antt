-- An image that shows a history is intact.
use Rattle.std.specs.Prelude.{◌≡◌, ◌<◌, ℕ, ◌==◌, nat_lt, if◌then◌else◌, Bool, true, false, List, [], ◌∷◌, ◌++◌, map, Option, Some, refl}
use Rattle.std.specs.List.{AllByRecursion, AllZip, flat_map}
use Rattle.std.specs.Option.{option_map}
use Rattle.std.proofs.Common.{sym, ap, subst, ◌∙◌, arith}
use Rattle.std.proofs.lemmas.Bool.Decides.{nat_tests}
use Rattle.vl_model.specs.Cutting.{joined}
use Rattle.vl_disk.specs.Crash.{Image}
use Rattle.vl_engine_laws.specs.Files.{HasTable, found_levels, found_of}
use Rattle.vl_engine_laws.specs.Pointed.{bytes_of_log, segment_at, stored_among, stored_of}
use Rattle.vl_engine_laws.specs.Reopened.{past_up_to, reopened}
use Rattle.vl_engine_laws.specs.Shown.{EntriesShow, HasFramedAmong, Shown, entries_among, logs_entries, tables_among}
use Rattle.vl_engine_laws.specs.laws.AmongLaws.{tables_led}
use Rattle.vl_engine_laws.specs.laws.FileLaws.{all_more, has_numbered, segment_number}
use Rattle.vl_engine_laws.specs.laws.LaidLaws.{memtable_near}
use Rattle.vl_engine_laws.specs.laws.LedLaws.{AreFarTo, IsFarTo}
use Rattle.vl_engine_laws.specs.laws.LogEntries.{entries-newest}
use Rattle.vl_engine_laws.specs.laws.ReopenedShown.{entries_show_reopened}
use Rattle.vl_engine_model.specs.Logs.{memtable}
use Rattle.vl_engine_model.specs.Sources.{table_entries}
use Rattle.vl_engine_model.specs.Start.{newest_first}
use Rattle.vl_engine_model.specs.Tidy.{IsPlacedAt, IsPlacedIn, format_of}
use Rattle.vl_engine_model.specs.declared.segment.Segment.{Segment}
use Rattle.vl_engine_model.specs.declared.table.Table.{Table}
use Rattle.vl_engine_model.specs.laws.ShowsLaws.{all_both, itself, shows_replaced}
use Rattle.vl_model.specs.Frames.{record_length}
use Rattle.vl_model.specs.History.{History}
use Rattle.vl_model.specs.Keys.{Stored, value_length}
use Rattle.vl_model.specs.Limits.{max_inline_bytes}
use Rattle.vl_model.specs.Placement.{far_value_length}
use Rattle.vl_model.specs.Versions.{low}
use Rattle.vl_model.specs.Winners.{Logs, resolved}
use Rattle.vl_model.specs.declared.change.Change.TheVariants.{Set}
use Rattle.vl_model.specs.declared.entry.Body.{Body}
use Rattle.vl_model.specs.declared.entry.Body.TheVariants.{Far, Gone, Inline, Logged}
use Rattle.vl_model.specs.declared.entry.Entry.{Entry}
use Rattle.vl_model.specs.declared.pointer.Pointer.{Pointer}
use Rattle.vl_recover.specs.laws.crash.IntactLaws.{stored_found}
use Rattle.vl_recover.specs.opening.Intact.{AllResolve, HasWholeLog, IsIntact, IsTableOf, LeadsFar, all_tables, entries_of, image_logs}
use Rattle.vl_recover.specs.opening.Opening.{FoundTable, IsAmong, led_into}
use Rattle.vl_seglog.specs.LogReading.{HasHeader, ReadsLog}
use Rattle.vl_seglog.specs.Stored.{stored_at}
use Rattle.vl_seglog.specs.laws.LogReadingLaws.{reads_written}
use Rattle.vl_seglog.specs.laws.StoredLaws.{stored_leads}

-- ---- lists

entries_joined : (ts : List Table) → flat_map table_entries ts ≡ joined (map table_entries ts)
entries_joined [] = refl
entries_joined (t ∷ ts) = ap (λ (es : List Entry). t.entries ++ es) (entries_joined ts)

-- ---- tables

level_true : (image : Image) (ts others : List Table) (found : List FoundTable)
    → AllByRecursion (HasTable image) (ts ++ others)
    → (AllByRecursion (HasTable image) others → AllZip (IsTableOf image) found (map table_entries others))
    → AllZip (IsTableOf image) (map found_of ts ++ found) (map table_entries (ts ++ others))
level_true image [] others found all rest = rest all
level_true image (t ∷ ts) others found all rest = (
  record { format = t.format; table = all.0.is.table; stands = all.0.stands; says = refl },
  level_true image ts others found all.1 rest,
)

-- the tables that are found have their entries
tables_true : (image : Image) (levels : List (List Table)) → AllByRecursion (HasTable image) (tables_among levels)
    → AllZip (IsTableOf image) (all_tables (found_levels levels)) (map table_entries (tables_among levels))
tables_true image [] all = tt
tables_true image (ts ∷ levels) all =
    level_true image ts (tables_among levels) (all_tables (found_levels levels)) all (tables_true image levels)

-- ---- a log as it stands

module _ (image : Image) (ss : List Segment) where
  whole_log : (n : ℕ) → HasFramedAmong image ss n → HasWholeLog image n
  whole_log n has =
      let log = has.is.log in record {
        bytes = bytes_of_log log;
        stands = has_numbered image ss n has;
        reading = record { header = Some log.format; frames = log.frames; whole = true };
        reads = subst (λ (m : ℕ). ReadsLog m (bytes_of_log log) (record { header = Some log.format; frames = log.frames; whole = true }))
            (segment_number ss n log has.is.at)
            (reads_written log.format log.number has.has.is.readable log.frames has.has.is.have);
        whole = refl;
      }

  -- a pointer into it leads where the image's own bytes say
  stored_same : (led : List ℕ) (p : Pointer) (key : List ℕ) → IsAmong led p.segment → HasFramedAmong image ss p.segment
      → image_logs image led p key ≡ stored_among ss p key
  stored_same led p key among has =
      let log = has.is.log in
      let reads = reads_written log.format log.number has.has.is.readable log.frames has.has.is.have in
      stored_found image led p key log.format (bytes_of_log log) among (has_numbered image ss p.segment has) has.has.is.readable
      (subst (λ (m : ℕ). HasHeader log.format m (bytes_of_log log)) (segment_number ss p.segment log has.is.at) reads.header.1)
      ∙ sym (ap (λ (o : Option Segment). stored_of o p key) has.is.at)

-- ---- a far value is long

format_at : (ss : List Segment) (n : ℕ) (log : Segment) → segment_at ss n ≡ Some log → format_of ss n ≡ Some log.format
format_at [] n log at = absurd cc
format_at (s ∷ ss) n log at = by (s.number == n) (format_at ss n log) at
  where
    by : (b : Bool) → (segment_at ss n ≡ Some log → format_of ss n ≡ Some log.format)
        → (if b then Some s else segment_at ss n) ≡ Some log → (if b then Some s.format else format_of ss n) ≡ Some log.format
    by true later is = let same : s ≡ log = cc in ap (λ (x : Segment). Some x.format) same
    by false later is = later is

some_number : (a b : ℕ) → Some a ≡ Some b → a ≡ b
some_number a b e = cc

value_long : (format : ℕ) (key : List ℕ) (p : Pointer) (value : Stored) → p.length ≡ record_length format key (Set value)
    → nat_lt max_inline_bytes (far_value_length format key p) ≡ true → max_inline_bytes < value_length value
value_long format key p value long placed =
    let far : far_value_length format key p ≡ value_length value = omega (arith, long) in
    let more : nat_lt max_inline_bytes (value_length value) ≡ true = ap (nat_lt max_inline_bytes) (sym far) ∙ placed in
    grind (arith, nat_tests, more)

memtable_far : (logs : Logs) (es : List Entry) → AreFarTo (λ n. ⊥) es → AllByRecursion (λ (e : Entry). LeadsFar logs e.key e.body) es
memtable_far logs [] far = tt
memtable_far logs (e ∷ es) far = (by e.body far.0, memtable_far logs es far.1)
  where
    by : (body : Body) → IsFarTo (λ n. ⊥) body → LeadsFar logs e.key body
    by (Inline value) is = tt
    by Gone is = tt
    by (Far p) is = absurd is
    by (Logged value p) is = tt

logs_near : (P : ℕ → Type 0) (ss : List Segment) → AreFarTo P (logs_entries ss)
logs_near P [] = tt
logs_near P (s ∷ ss) = all_both (λ (e : Entry). IsFarTo P e.body) (logs_entries ss) (memtable s) (logs_near P ss) (memtable_near P s)

-- ---- an image that shows a history

module _ (image : Image) (h : History) (m : ℕ) (shown : Shown image h m) where
  abbrev led : List ℕ
  led = led_into (found_levels shown.levels)

  abbrev own : Logs
  own = image_logs image led

  abbrev es : List Entry
  es = logs_entries shown.opening.logs ++ entries_among shown.levels

  framed : (n : ℕ) → IsAmong led n → HasFramedAmong image shown.sealed n
  framed n among = shown.led n (subst (λ (l : List (List FoundTable)). IsAmong (led_into l) n) (sym shown.found) among)

  stored_is : (p : Pointer) (key : List ℕ) → IsAmong led p.segment → own p key ≡ stored_among shown.sealed p key
  stored_is p key among = stored_same image shown.sealed led p key among (framed p.segment among)

  alike : (key : List ℕ) (body : Body) → IsFarTo (IsAmong led) body → resolved own key body ≡ resolved (stored_among shown.sealed) key body
  alike key (Inline value) far = refl
  alike key Gone far = refl
  alike key (Far p) far = ap (option_map Some) (stored_is p key far)
  alike key (Logged value p) far = refl

  all_alike : (xs : List Entry) → AreFarTo (IsAmong led) xs
      → AllByRecursion (λ (e : Entry). resolved own e.key e.body ≡ resolved (stored_among shown.sealed) e.key e.body) xs
  all_alike [] far = tt
  all_alike (e ∷ xs) far = (alike e.key e.body far.0, all_alike xs far.1)

  placed_far : (key : List ℕ) (body : Body) → IsFarTo (IsAmong led) body → IsPlacedAt shown.sealed key body → LeadsFar own key body
  placed_far key (Inline value) far is = tt
  placed_far key Gone far is = tt
  placed_far key (Far p) far (format, told, placed) = λ value stored.
      (let has = framed p.segment far in
      let log = has.is.log in
      let there : stored_at log.format (bytes_of_log log) p key ≡ Some value =
      sym (ap (λ (o : Option Segment). stored_of o p key) has.is.at) ∙ sym (stored_is p key far) ∙ stored in
      let same : format ≡ log.format = some_number format log.format
      (sym told ∙ format_at shown.sealed p.segment log has.is.at) in
      value_long format key p value
      (subst (λ (f : ℕ). p.length ≡ record_length f key (Set value)) (sym same)
      (stored_leads log.format (bytes_of_log log) p key value there).length) placed)
  placed_far key (Logged value p) far is = tt

  entries_far : (xs : List Entry) → AreFarTo (IsAmong led) xs → AllByRecursion (IsPlacedIn shown.sealed) xs
      → AllByRecursion (λ (e : Entry). LeadsFar own e.key e.body) xs
  entries_far [] far placed = tt
  entries_far (e ∷ xs) far placed = (placed_far e.key e.body far.0 placed.0, entries_far xs far.1 placed.1)

  placed_joined : (ts : List Table) → AllByRecursion (λ (t : Table). AllByRecursion (IsPlacedIn shown.sealed) t.entries) ts
      → AllByRecursion (IsPlacedIn shown.sealed) (flat_map table_entries ts)
  placed_joined [] all = tt
  placed_joined (t ∷ ts) all =
      all_more (IsPlacedIn shown.sealed) t.entries (flat_map table_entries ts) all.0 (placed_joined ts all.1)

  all_resolve : AllResolve m shown.opening.state.keep shown.opening.state.since own es
  all_resolve =
      let keep = shown.opening.state.keep in
      let since = shown.opening.state.since in
      let gone = shown.opening.state.gone in
      let show : EntriesShow keep since gone (stored_among shown.sealed) es (reopened h m) m =
      entries_show_reopened keep since gone (stored_among shown.sealed) es h m shown.entries in record {
        base = past_up_to h m;
        versions = show.versions;
        shows = shows_replaced (stored_among shown.sealed) own es es (reopened h m) (low (reopened h m) m keep since) m
            (itself (stored_among shown.sealed) own es
            (all_alike es (all_both (λ (e : Entry). IsFarTo (IsAmong led) e.body) (logs_entries shown.opening.logs)
            (entries_among shown.levels) (logs_near (IsAmong led) shown.opening.logs) (tables_led shown.levels))))
            show.shows;
        up_to = show.up_to;
        far = all_both (λ (e : Entry). LeadsFar own e.key e.body) (logs_entries shown.opening.logs) (entries_among shown.levels)
            (memtable_far own (logs_entries shown.opening.logs) (logs_near (λ n. ⊥) shown.opening.logs))
            (entries_far (entries_among shown.levels) (tables_led shown.levels) (placed_joined (tables_among shown.levels) shown.placed));
      }

  abbrev each : List (List Entry)
  each = map table_entries (tables_among shown.levels)

  sources_are : es ≡ entries_of shown.opening.logs each
  sources_are =
      ap (λ (xs : List Entry). xs ++ entries_among shown.levels) (sym (entries-newest shown.opening.logs))
      ∙ ap (λ (xs : List Entry). flat_map memtable (newest_first shown.opening.logs) ++ xs) (entries_joined (tables_among shown.levels))

  pub shown_intact : IsIntact image
  shown_intact =
      let keep = shown.opening.state.keep in
      let since = shown.opening.state.since in record {
        opening = shown.opening;
        opens = shown.opens;
        tables = each;
        tables_are = subst (λ (l : List (List FoundTable)). AllZip (IsTableOf image) (all_tables l) each) (sym shown.found)
            (tables_true image shown.levels shown.tables);
        whole = λ n among. whole_log image shown.sealed n (shown.led n among);
        resolve =
            subst (λ (n : ℕ). AllResolve n keep since (image_logs image (led_into shown.opening.levels))
            (entries_of shown.opening.logs each)) (sym shown.number)
            (subst (λ (l : List (List FoundTable)). AllResolve m keep since (image_logs image (led_into l))
            (entries_of shown.opening.logs each)) (sym shown.found)
            (subst (AllResolve m keep since own) sources_are all_resolve));
      }
