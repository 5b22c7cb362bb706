-- What is shown of a history stays shown of each later one, and by images that open alike.
use Rattle.std.specs.Prelude.{◌≡◌, ◌≤◌, ℕ, Bool, true, false, List, [], ◌∷◌, ◌++◌, map, Option, None, Ok, refl}
use Rattle.std.specs.FinMap.{get}
use Rattle.std.specs.List.{AllByRecursion}
use Rattle.std.proofs.Common.{sym, ap, subst, ◌∙◌, arith, inl, inr}
use Rattle.vl_disk.specs.Crash.{Image}
use Rattle.vl_disk.specs.DiskState.{DiskState}
use Rattle.vl_disk.specs.declared.name.Name.TheVariants.{Log, Table}
use Rattle.vl_engine_laws.specs.Files.{HasTable, found_levels, found_of}
use Rattle.vl_engine_laws.specs.Pointed.{stored_among}
use Rattle.vl_engine_laws.specs.Shown.{EntriesShow, HasFramedAmong, Shown, ShowsBetween, entries_among, logs_entries, tables_among}
use Rattle.vl_engine_laws.specs.laws.FileLaws.{all_back, all_front, all_more, segment_number}
use Rattle.vl_engine_laws.specs.laws.LogEntries.{entries-filled}
use Rattle.vl_engine_laws.specs.laws.SparedLaws.{spared_extends, whole_extends, whole_later}
use Rattle.vl_engine_model.specs.Shown.{IsOf}
use Rattle.vl_engine_model.specs.Sources.{numbers_of}
use Rattle.vl_engine_model.specs.Tidy.{IsPlacedIn}
use Rattle.vl_engine_model.specs.declared.segment.Segment.{Segment}
use Rattle.vl_engine_model.specs.declared.table.Table as laid
use Rattle.vl_engine_model.specs.laws.LowShows.{low_rises, shows-extends, shows_from}
use Rattle.vl_manifest.specs.declared.state.ManifestState.{ManifestState}
use Rattle.vl_model.specs.History.{Extends, History, last_number}
use Rattle.vl_model.specs.Limits.{max_commit_number}
use Rattle.vl_model.specs.Versions.{low}
use Rattle.vl_model.specs.Winners.{Logs}
use Rattle.vl_model.specs.declared.entry.Entry.{Entry}
use Rattle.vl_model.specs.laws.HistoryLaws.{last_number-extends}
use Rattle.vl_model.specs.laws.VersionLaws.{versions-stay}
use Rattle.vl_recover.specs.crash.Alike.{IsLeft, OpensAsOf, OpensLike, SameNeeded, ShowsAs}
use Rattle.vl_recover.specs.crash.Held.{View, opening_held}
use Rattle.vl_recover.specs.laws.opening.OpeningLaws.{opened}
use Rattle.vl_recover.specs.laws.repairing.StageLaws.{ok_same}
use Rattle.vl_recover.specs.opening.Opening.{FoundTable, IsAmong, IsNamed, NamedLevel, NamedLevels, Opening, Opens}
use Rattle.vl_recover.specs.opening.Opening.{Refusal, key_before, led_into}

-- ---- a later history

pub of_later : (h k : History) → Extends h k → (es : List Entry) → AllByRecursion (IsOf h) es
    → AllByRecursion (IsOf k) es
of_later h k extends [] all = tt
of_later h k extends (e ∷ es) all = (versions-stay h k extends e.key e.version all.0, of_later h k extends es all.1)

pub entries_show_later : (keep since gone : ℕ) (logs : Logs) (es : List Entry) (h k : History) (m : ℕ) → Extends h k
    → m ≤ last_number h → EntriesShow keep since gone logs es h m → EntriesShow keep since gone logs es k m
entries_show_later keep since gone logs es h k m extends le show = record {
  shows = shows_from logs es k (low h m keep since) (low k m keep since) m
      (λ key. low_rises h k extends m m keep since key (omega arith))
      (shows-extends logs es h k (low h m keep since) m extends le show.shows);
  versions = of_later h k extends es show.versions;
  up_to = show.up_to;
  spared = spared_extends h k extends es m m keep since le show.spared;
  whole = whole_extends h k extends es m m gone le show.whole;
}

-- a greater number for what is gone
pub entries_show_gone : (keep since gone more : ℕ) (logs : Logs) (es : List Entry) (h : History) (m : ℕ) → gone ≤ more
    → EntriesShow keep since gone logs es h m → EntriesShow keep since more logs es h m
entries_show_gone keep since gone more logs es h m up show = record {
  shows = show.shows;
  versions = show.versions;
  up_to = show.up_to;
  spared = show.spared;
  whole = whole_later h h es es m m m m gone more (omega arith) up (λ key n there. there) (λ key n le there missing. (le, there)) show.whole;
}

-- What an image shows of a history at one of its numbers it shows of each later history.
pub shown_later : (h k : History) → Extends h k → (image : Image) (m : ℕ) → m ≤ last_number h → Shown image h m
    → Shown image k m
shown_later h k extends image m le shown = record {
  opening = shown.opening;
  opens = shown.opens;
  number = shown.number;
  levels = shown.levels;
  found = shown.found;
  tables = shown.tables;
  sealed = shown.sealed;
  led = shown.led;
  placed = shown.placed;
  some = shown.some;
  since = shown.since;
  last = shown.last;
  entries = entries_show_later shown.opening.state.keep shown.opening.state.since shown.opening.state.gone (stored_among shown.sealed)
      (logs_entries shown.opening.logs ++ entries_among shown.levels) h k m extends le shown.entries;
}

pub between_itself : (h : History) (image : Image) → Shown image h (last_number h) → ShowsBetween h h image
between_itself h image shown = (last_number h, omega arith, omega arith, shown)

-- What is shown between two histories is shown between an earlier and a later one.
pub between_wider : (least less more most : History) → Extends least less → Extends more most → (image : Image)
    → ShowsBetween less more image → ShowsBetween least most image
between_wider least less more most lower upper image (m, low, high, shown) =
    let l = last_number-extends least less lower in
    let u = last_number-extends more most upper in
    (m, omega (arith, l, low), omega (arith, u, high), shown_later more most upper image m high shown)

-- ---- images

-- an image that opens with logs and tables which show a history shows it
pub shown_by : (image : Image) (state : ManifestState) (logs : List Segment) (view : View) (levels : List (List laid.Table))
    (sealed : List Segment) (h : History) (m : ℕ) → view.levels ≡ found_levels levels
    → Opens image (Ok (opening_held state view logs m))
    → AllByRecursion (HasTable image) (tables_among levels)
    → ((n : ℕ) → IsAmong (led_into (found_levels levels)) n → HasFramedAmong image sealed n)
    → AllByRecursion (λ (t : laid.Table). AllByRecursion (IsPlacedIn sealed) t.entries) (tables_among levels)
    → 1 ≤ state.keep → state.since ≤ m → m ≤ max_commit_number
    → EntriesShow state.keep state.since state.gone (stored_among sealed) (logs_entries logs ++ entries_among levels) h m → Shown image h m
shown_by image state logs view levels sealed h m found opens have led placed some since last show = record {
  opening = opening_held state view logs m;
  opens = opens;
  number = refl;
  levels = levels;
  found = found;
  tables = have;
  sealed = sealed;
  led = λ n among. led n (subst (λ (ts : List (List FoundTable)). IsAmong (led_into ts) n) found among);
  placed = placed;
  some = some;
  since = since;
  last = last;
  entries = subst (λ (es : List Entry). EntriesShow state.keep state.since state.gone (stored_among sealed) (es ++ entries_among levels) h m)
      (sym (entries-filled logs)) show;
}

-- ---- the tables that are found have the numbers that are named

module _ (image : Image) where
  level_numbers : (deeper : Bool) (before : Option (List ℕ)) (ns : List ℕ) (ts : List laid.Table)
      → NamedLevel deeper image before ns (Ok (map found_of ts)) → ns ≡ numbers_of ts
  level_numbers deeper before [] [] is = refl
  level_numbers deeper before [] (t ∷ ts) is = absurd cc
  level_numbers deeper before (n ∷ ns) [] (t, named, (others, rest, e)) = absurd cc
  level_numbers deeper before (n ∷ ns) (u ∷ us) (t, (stands, above), (others, rest, e)) =
      let same : found_of u ∷ map found_of us ≡ t ∷ others =
      ok_same {E = Refusal} (found_of u ∷ map found_of us) (t ∷ others) e in
      let first : found_of u ≡ t = cc in
      let rest_is : map found_of us ≡ others = cc in
      let number : n ≡ u.number = sym stands.numbered ∙ sym (ap (λ (x : FoundTable). x.number) first) in
      let numbers : ns ≡ numbers_of us = level_numbers deeper (key_before deeper t) ns us
      (subst (λ (l : List FoundTable). NamedLevel deeper image (key_before deeper t) ns (Ok l)) (sym rest_is) rest) in
      λ i. number i ∷ numbers i

  pub levels_numbers : (deeper : Bool) (levels : List (List ℕ)) (found : List (List laid.Table))
      → NamedLevels deeper image levels (Ok (found_levels found)) → levels ≡ map numbers_of found
  levels_numbers deeper [] [] is = refl
  levels_numbers deeper [] (ts ∷ found) is = absurd cc
  levels_numbers deeper (ns ∷ levels) [] (ts, named, (others, rest, e)) = absurd cc
  levels_numbers deeper (ns ∷ levels) (us ∷ found) (ts, named, (others, rest, e)) =
      let same : map found_of us ∷ found_levels found ≡ ts ∷ others =
      ok_same {E = Refusal} (map found_of us ∷ found_levels found) (ts ∷ others) e in
      let first : map found_of us ≡ ts = cc in
      let rest_is : found_levels found ≡ others = cc in
      let here : ns ≡ numbers_of us = level_numbers deeper None ns us
      (subst (λ (l : List FoundTable). NamedLevel deeper image None ns (Ok l)) (sym first) named) in
      let below : levels ≡ map numbers_of found = levels_numbers true levels found
      (subst (λ (l : List (List FoundTable)). NamedLevels true image levels (Ok l)) (sym rest_is) rest) in
      λ i. here i ∷ below i

-- ---- what is the same in both images

module _ (image other : Image) where
  level_has : (ts : List laid.Table) → ((n : ℕ) → IsAmong (numbers_of ts) n → get image (Table n) ≡ get other (Table n))
      → AllByRecursion (HasTable other) ts → AllByRecursion (HasTable image) ts
  level_has [] same have = tt
  level_has (t ∷ ts) same have = (
    record { is = have.0.is; stands = same t.number (inl refl) ∙ have.0.stands },
    level_has ts (λ n among. same n (inr among)) have.1,
  )

  levels_have : (levels : List (List laid.Table))
      → ((n : ℕ) → IsNamed (map numbers_of levels) n → get image (Table n) ≡ get other (Table n))
      → AllByRecursion (HasTable other) (tables_among levels) → AllByRecursion (HasTable image) (tables_among levels)
  levels_have [] same have = tt
  levels_have (ts ∷ levels) same have = all_more (HasTable image) ts (tables_among levels)
      (level_has ts (λ n among. same n (inl among)) (all_front (HasTable other) ts (tables_among levels) have))
      (levels_have levels (λ n named. same n (inr named)) (all_back (HasTable other) ts (tables_among levels) have))

  log_has : (logs : List Segment) (n : ℕ) → get image (Log n) ≡ get other (Log n) → HasFramedAmong other logs n
      → HasFramedAmong image logs n
  log_has logs n same has =
      let number = segment_number logs n has.is.log has.is.at in
      record {
        is = has.is;
        has = record {
          is = has.has.is;
          stands = ap (λ (m : ℕ). get image (Log m)) number ∙ same
              ∙ sym (ap (λ (m : ℕ). get other (Log m)) number) ∙ has.has.stands;
        };
      }

  -- An image that opens like one that shows a history shows it.
  pub shown_like : (h : History) (m : ℕ) → OpensLike image other → Shown other h m → Shown image h m
  shown_like h m like shown = by (like shown.opening shown.opens)
    where
      names_are : shown.opening.state.levels ≡ map numbers_of shown.levels
      names_are = levels_numbers other false shown.opening.state.levels shown.levels
          (subst (λ (l : List (List FoundTable)). NamedLevels false other shown.opening.state.levels (Ok l)) shown.found
          (opened other shown.opening shown.opens).levels)

      -- the entries of an opening that has the same show the same
      shows_with : (p : Opening) → ShowsAs p shown.opening → EntriesShow p.state.keep p.state.since p.state.gone (stored_among shown.sealed)
          (logs_entries p.logs ++ entries_among shown.levels) h m
      shows_with p alike =
          let logs = stored_among shown.sealed in
          let was = shown.opening.state in
          let more = entries_among shown.levels in
          entries_show_gone p.state.keep p.state.since was.gone p.state.gone logs (logs_entries p.logs ++ more) h m alike.state.gone
          (subst (λ (k : ℕ). EntriesShow k p.state.since was.gone logs (logs_entries p.logs ++ more) h m) (sym alike.state.keep)
          (subst (λ (n : ℕ). EntriesShow was.keep n was.gone logs (logs_entries p.logs ++ more) h m) (sym alike.state.since)
          (subst (λ (ss : List Segment). EntriesShow was.keep was.since was.gone logs (logs_entries ss ++ more) h m)
          (sym alike.logs) shown.entries)))

      by : ((p : Opening) × Opens image (Ok p) × ShowsAs p shown.opening × SameNeeded image other shown.opening)
          → Shown image h m
      by (p, opens, alike, needed) = record {
        opening = p;
        opens = opens;
        number = alike.number ∙ shown.number;
        levels = shown.levels;
        found = alike.levels ∙ shown.found;
        tables = levels_have shown.levels
            (λ n named. needed.tables n (subst (λ (l : List (List ℕ)). IsNamed l n) (sym names_are) named)) shown.tables;
        sealed = shown.sealed;
        led = λ n among.
            (let was = subst (λ (l : List (List FoundTable)). IsAmong (led_into l) n) alike.levels among in
            log_has shown.sealed n (needed.logs n was) (shown.led n was));
        placed = shown.placed;
        some = subst (λ (k : ℕ). 1 ≤ k) (sym alike.state.keep) shown.some;
        since = subst (λ (n : ℕ). n ≤ m) (sym alike.state.since) shown.since;
        last = shown.last;
        entries = shows_with p alike;
      }

-- So it is meanwhile where an opening begins on a disk of which whatever a crash leaves opens like what reads give.
pub opening_shown : (start now : DiskState) (read : Image) (h : History) (m : ℕ)
    → ((image : Image) → IsLeft start image → OpensLike image read) → Shown read h m → OpensAsOf start now
    → (image : Image) → IsLeft now image → Shown image h m
opening_shown start now read h m durable shown as_of image left =
    let (before, left_before, like) = as_of image left in
    shown_like image before h m like (shown_like before read h m (durable before left_before) shown)
