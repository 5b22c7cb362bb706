-- What a crash leaves of a disk that holds a layout shows the history, and a store may be opened on it again.
use Rattle.std.specs.Prelude.{◌≡◌, ◌≤◌, ℕ, ◌+◌, Bool, true, false, ◌==◌, ◌||◌, List, [], ◌∷◌, ◌++◌, Some, Ok, refl, map}
use Rattle.std.specs.FinMap.{get}
use Rattle.std.specs.List.{AllByRecursion, filter, flat_map}
use Rattle.std.proofs.Common.{sym, ap, subst, ◌∙◌, append_assoc}
use Rattle.vl_disk.specs.Crash.{Image, MayLeave}
use Rattle.vl_disk.specs.DiskState.{DiskState}
use Rattle.vl_disk.specs.Started.{IsRead, read_left}
use Rattle.vl_disk.specs.declared.name.Name.{Name}
use Rattle.vl_disk.specs.declared.name.Name.TheVariants.{Log, Table}
use Rattle.vl_engine_laws.specs.Files.{HasLog, HasTable, HoldsLog, HoldsTable, bytes_of_table, found_levels}
use Rattle.vl_engine_laws.specs.Held.{Base, Holds, HoldsBase, HoldsFiles, HoldsSources, IsBase, frames_of, logs_from}
use Rattle.vl_engine_laws.specs.Pointed.{bytes_of_log, layout_logs}
use Rattle.vl_engine_laws.specs.Shown.{EntriesShow, HasFramedAmong, Shown, entries_among, logs_entries}
use Rattle.vl_engine_laws.specs.Spared.{IsSpared, IsWhole}
use Rattle.vl_engine_laws.specs.laws.FileLaws.{IsTableAmong, all_each, all_filtered, all_more, has_numbered, named_among}
use Rattle.vl_engine_laws.specs.laws.FileLaws.{named_levels, named_logs, segment_all, segment_number}
use Rattle.vl_engine_laws.specs.laws.LogEntries.{entries-append, entries-filtered, entries-newest}
use Rattle.vl_engine_laws.specs.laws.ShownLaws.{shown_by}
use Rattle.vl_engine_model.specs.Logs.{memtable}
use Rattle.vl_engine_model.specs.Shown.{IsOf}
use Rattle.vl_engine_model.specs.Shows.{AreUpTo, Shows}
use Rattle.vl_engine_model.specs.Sources.{floor, sources, tables}
use Rattle.vl_engine_model.specs.Start.{has_frames, newest_first}
use Rattle.vl_engine_model.specs.Tidy.{IsTidy, sealed}
use Rattle.vl_engine_model.specs.TidyLevels.{AreLevels}
use Rattle.vl_engine_model.specs.declared.layout.Layout.{Layout}
use Rattle.vl_engine_model.specs.declared.segment.Segment.{Segment}
use Rattle.vl_engine_model.specs.declared.table.Table as laid
use Rattle.vl_engine_model.specs.laws.LowShows.{floor-up, shows_opened}
use Rattle.vl_manifest.specs.Current.{IsCurrent}
use Rattle.vl_manifest.specs.Manifest.{SaysState, manifest_bytes}
use Rattle.vl_manifest.specs.laws.ManifestLaws.{manifest_reads}
use Rattle.vl_model.specs.Formats.{log_format, manifest_format}
use Rattle.vl_model.specs.History.{History, last_number}
use Rattle.vl_model.specs.Versions.{low}
use Rattle.vl_model.specs.declared.entry.Entry.{Entry}
use Rattle.vl_model.specs.declared.log_frame.LogFrame.{LogFrame}
use Rattle.vl_model.specs.laws.VersionLaws.{versions-up}
use Rattle.vl_recover.specs.crash.Alike.{OpensLike, SameNeeded}
use Rattle.vl_recover.specs.crash.Held.{DurableAs, HoldsLogs, HoldsStore, Needs, View, log_as_held, opening_held}
use Rattle.vl_recover.specs.crash.Starts.{AllStay, MayOpen, StaysAsItIs}
use Rattle.vl_recover.specs.laws.crash.AlikeLaws.{shows_same}
use Rattle.vl_recover.specs.laws.opening.HeldLaws.{held_current, held_may_open, held_opens, held_standing, left_settled}
use Rattle.vl_recover.specs.laws.opening.IdleLaws.{StandAmongIdle, idle_filled, idle_walked}
use Rattle.vl_recover.specs.laws.opening.OpeningLaws.{is_opened, single_opening, some_same}
use Rattle.vl_recover.specs.laws.opening.ReadImage.{read_image}
use Rattle.vl_recover.specs.laws.repairing.StageLaws.{ok_same}
use Rattle.vl_recover.specs.opening.Opening.{IsAmong, IsNamed, Led, NamedLevels, NamedLogs, Opening, Opens, Refusal, led_into}
use Rattle.vl_recover.specs.opening.Walk.{keeps_header}
use Rattle.vl_seglog.specs.LogReading.{LogReading, ReadsLog}
use Rattle.vl_seglog.specs.laws.LogReadingLaws.{one_log_reading, reads_written}

-- versions of a history aren't above its last number
pub of_up_to : (h : History) (es : List Entry) → AllByRecursion (IsOf h) es → AreUpTo (last_number h) es
of_up_to h [] all = tt
of_up_to h (e ∷ es) all = (versions-up h e.key e.version all.0, of_up_to h es all.1)

-- ---- the logs of a disk

pub each_held : (disk : DiskState) (least : ℕ) (logs more : List Segment) → HoldsLogs least (logs ++ more) disk
    → AllByRecursion (HoldsLog disk) logs
each_held disk least [] more holds = tt
each_held disk least (s ∷ ss) more (from, between, readable, have, stands, rest) = (
  record { is = record { readable = readable; have = have }; stands = stands },
  each_held disk (s.number + 1) ss more rest,
)

all_newest : (P : Segment → Type 0) (ss : List Segment) → AllByRecursion P ss → AllByRecursion P (newest_first ss)
all_newest P [] all = tt
all_newest P (s ∷ ss) all = all_more P (newest_first ss) (s ∷ []) (all_newest P ss all.1) (all.0, tt)

-- a log with frames stays as it is, whatever its format
framed_stays : (format : ℕ) (frames : List LogFrame) (s : Segment) → s.format ≡ format → s.frames ≡ frames
    → has_frames s ≡ true → keeps_header (Some format) frames ≡ true
framed_stays format [] s formats is framed =
    absurd (let none : false ≡ true = sym (ap is_any_frame is) ∙ framed in cc)
  where
    is_any_frame : List LogFrame → Bool
    is_any_frame [] = false
    is_any_frame (f ∷ fs) = true
framed_stays format (f ∷ fs) s formats is framed = or_true (format == log_format)
  where
    or_true : (b : Bool) → (b || true) ≡ true
    or_true true = refl
    or_true false = refl

-- A log with frames that stands whole in an image stays as it is.
pub has_stays : (image : Image) (ss : List Segment) (n : ℕ) → HasFramedAmong image ss n → (bytes : List ℕ) (reading : LogReading)
    → get image (Log n) ≡ Some bytes → ReadsLog n bytes reading → StaysAsItIs reading
has_stays image ss n has bytes reading stands reads =
    let log = has.is.log in
    let same : bytes ≡ bytes_of_log log = some_same bytes (bytes_of_log log) (sym stands ∙ has_numbered image ss n has) in
    let written : LogReading = record { header = Some log.format; frames = log.frames; whole = true } in
    let is : written ≡ reading =
    one_log_reading log.number (bytes_of_log log) written reading
    (reads_written log.format log.number has.has.is.readable log.frames has.has.is.have)
    (subst (λ (m : ℕ). ReadsLog m (bytes_of_log log) reading) (sym (segment_number ss n log has.is.at))
    (subst (λ (bs : List ℕ). ReadsLog n bs reading) same reads)) in
    subst StaysAsItIs is (refl, framed_stays log.format log.frames log refl refl has.is.framed)

module _ (b : Base) (l : Layout) (h : History) (base : IsBase b l h) where
  -- The sources are the entries of the logs and those of the tables.
  pub sources-logs : sources l ≡ logs_entries (logs_from b l) ++ entries_among l.levels
  sources-logs =
      ap (λ (ss : List Segment). memtable l.active ++ (flat_map memtable ss ++ entries_among l.levels)) base.frozen
      ∙ ap (λ (es : List Entry). memtable l.active ++ (es ++ entries_among l.levels)) (entries-newest (filter has_frames b.before))
      ∙ ap (λ (es : List Entry). memtable l.active ++ (es ++ entries_among l.levels)) (entries-filtered b.before)
      ∙ sym (append_assoc (memtable l.active) (logs_entries b.before) (entries_among l.levels))
      ∙ ap (λ (es : List Entry). es ++ entries_among l.levels) (sym (entries-append b.before (l.active ∷ [])))

  -- What is appended to says the base's state.
  pub base_says : (disk : DiskState) → HoldsBase b disk
      → SaysState b.manifest.number (manifest_bytes b.manifest.number (frames_of b)) b.state
  base_says disk holds = record {
    format = manifest_format;
    first = b.first;
    others = b.others;
    reads = manifest_reads b.manifest.number (frames_of b) base.numbered holds.has.each;
    made = base.made;
  }

  -- ---- the files of a disk

  -- It holds the sealed logs too.
  pub sources_held : (disk : DiskState) → HoldsFiles b l disk → HoldsSources l disk
  sources_held disk files = record {
    tables = files.tables;
    sealed = all_more (HoldsLog disk) l.frozen l.flushed
        (subst (AllByRecursion (HoldsLog disk)) (sym base.frozen)
        (all_newest (HoldsLog disk) (filter has_frames b.before)
        (all_filtered (HoldsLog disk) has_frames b.before (each_held disk b.state.head b.before (l.active ∷ []) files.logs))))
        files.flushed;
  }

  module _ (disk : DiskState) (needs : HoldsSources l disk) (image : Image) (may : MayLeave disk image) where
    table_left : (t : laid.Table) → HoldsTable disk t → HasTable image t
    table_left t holds = record {
      is = holds.is;
      stands = left_settled disk image (Table t.number) (bytes_of_table t) holds.stands may;
    }

    log_left : (s : Segment) → HoldsLog disk s → HasLog image s
    log_left s holds = record {
      is = holds.is;
      stands = left_settled disk image (Log s.number) (bytes_of_log s) holds.stands may;
    }

    -- Whatever is left has its tables, and the logs that these lead into.
    pub tables_left : AllByRecursion (HasTable image) (tables l)
    tables_left = all_each (HoldsTable disk) (HasTable image) (tables l) table_left needs.tables

    led_held : (n : ℕ) → (among : IsAmong (led_into (found_levels l.levels)) n) → HoldsLog disk (base.led n among).log
    led_held n among = segment_all (HoldsLog disk) (sealed l) n (base.led n among).log needs.sealed (base.led n among).at

    pub led_left : (n : ℕ) → IsAmong (led_into (found_levels l.levels)) n → HasFramedAmong image (sealed l) n
    led_left n among = record { is = base.led n among; has = log_left (base.led n among).log (led_held n among) }

    -- what is needed of the disk, as it is left there
    abbrev pub view : View
    view = record { image = image; levels = found_levels l.levels }

    module _ (levels : AreLevels l.levels) where
      pub levels_left : NamedLevels false image b.state.levels (Ok (found_levels l.levels))
      levels_left = subst (λ (ns : List (List ℕ)). NamedLevels false image ns (Ok (found_levels l.levels))) (sym base.levels)
          (named_levels image l.levels tables_left levels.apart)

      pub logs_left : NamedLogs image (led_into (found_levels l.levels)) (Ok tt)
      logs_left = named_logs image (sealed l) (led_into (found_levels l.levels)) led_left

      durable_table : (n : ℕ) → IsTableAmong (HoldsTable disk) n → DurableAs image disk (Table n)
      durable_table n is = subst (λ (m : ℕ). DurableAs image disk (Table m)) is.numbered (
        bytes_of_table is.table,
        (table_left is.table is.is).stands,
        is.is.stands,
      )

      durable_log : (n : ℕ) → IsAmong (led_into (found_levels l.levels)) n → DurableAs image disk (Log n)
      unfolding led_left
      durable_log n among =
          let has = led_left n among in
          subst (λ (m : ℕ). DurableAs image disk (Log m))
          (segment_number (sealed l) n has.is.log has.is.at)
          (bytes_of_log has.is.log, has.has.stands, (led_held n among).stands)

      -- That is durable.
      pub needs_left : Needs b.state view disk
      needs_left = record {
        named = levels_left;
        led = logs_left;
        tables = λ n named. durable_table n
            (named_among (HoldsTable disk) l.levels n needs.tables (subst (λ (ns : List (List ℕ)). IsNamed ns n) base.levels named));
        logs = durable_log;
      }

      -- With a manifest that says the base's state, and the logs from its head on, the image opens as the layout.
      pub opens_under : (bytes : List ℕ) → IsCurrent image b.manifest.number bytes → SaysState b.manifest.number bytes b.state
          → HoldsLogs b.state.head (logs_from b l) disk
          → Opens image (Ok (opening_held b.state view (logs_from b l) (last_number h)))
      opens_under bytes current says logs =
          is_opened image (opening_held b.state view (logs_from b l) (last_number h)) (record {
            heading = Led b.manifest.number bytes;
            headed = current;
            says = (Ok b.state, says, refl);
            levels = levels_left;
            led = logs_left;
            standing = among.found;
            stands = among.stand;
            walk = idle_walked b.state.covered among.found (map log_as_held (logs_from b l)) among.with_idle ∙ base.goes;
            logs_are = sym (idle_filled among.found (map log_as_held (logs_from b l)) among.with_idle);
          })
        where
          among : StandAmongIdle image b.state.head (map log_as_held (logs_from b l))
          among = held_standing b.state.head (logs_from b l) disk image logs may

    -- The logs that tables lead into stay as they are at an opening.
    pub led_stay : AllStay image (led_into (found_levels l.levels))
    led_stay n bytes reading among stands reads = has_stays image (sealed l) n (led_left n among) bytes reading stands reads

  -- so it is a store that is held
  pub store_held : (disk : DiskState) (holds : Holds b l disk) (image : Image) (may : MayLeave disk image) → AreLevels l.levels
      → HoldsStore b.state (view disk (sources_held disk holds.files) image may) (logs_from b l) disk
  store_held disk holds image may levels = record {
    manifest = record {
      number = b.manifest.number;
      bytes = manifest_bytes b.manifest.number (frames_of b);
      stands = holds.base.has.durable;
      says = base_says disk holds.base;
      above = holds.base.above;
    };
    needs = needs_left disk (sources_held disk holds.files) image may levels;
    logs_are = holds.files.logs;
    durable = holds.durable;
  }

  -- ---- what is shown

  module _ (tidy : IsTidy (layout_logs l) l h) where
    -- The entries show the history at its last number.
    pub held_entries_show : EntriesShow b.state.keep b.state.since b.state.gone (layout_logs l)
        (logs_entries (logs_from b l) ++ entries_among l.levels) h (last_number h)
    held_entries_show =
        subst (λ (es : List Entry). EntriesShow b.state.keep b.state.since b.state.gone (layout_logs l) es h (last_number h)) sources-logs (record {
          shows = shows_opened (layout_logs l) (sources l) h (floor l h) b.state.keep b.state.since (floor-up l h) from_floor;
          versions = tidy.versions;
          up_to = of_up_to h (sources l) tidy.versions;
          spared = subst (λ (k : ℕ). IsSpared h (sources l) (last_number h) (last_number h) k b.state.since) (sym base.keep)
              (subst (λ (n : ℕ). IsSpared h (sources l) (last_number h) (last_number h) l.keep n) (sym base.since) base.spared.past);
          whole = subst (λ (n : ℕ). IsWhole h (sources l) (last_number h) (last_number h) n) (sym base.gone) base.spared.whole;
        })
      where
        from_floor : Shows (layout_logs l) (sources l) h (low h (floor l h) b.state.keep b.state.since) (last_number h)
        from_floor =
            subst (λ (k : ℕ). Shows (layout_logs l) (sources l) h (low h (floor l h) k b.state.since) (last_number h)) (sym base.keep)
            (subst (λ (n : ℕ). Shows (layout_logs l) (sources l) h (low h (floor l h) l.keep n) (last_number h))
            (sym base.since) tidy.shows)

    -- An image that is left of a disk with the layout's sources, and opens with its logs, shows the history.
    pub image_shows : (disk : DiskState) → HoldsSources l disk → (image : Image) → MayLeave disk image
        → (seen : View) → seen.levels ≡ found_levels l.levels
        → Opens image (Ok (opening_held b.state seen (logs_from b l) (last_number h)))
        → Shown image h (last_number h)
    image_shows disk needs image may seen found opens =
        shown_by image b.state (logs_from b l) seen l.levels (sealed l) h (last_number h) found opens
        (tables_left disk needs image may) (led_left disk needs image may) tidy.placed
        (subst (λ (k : ℕ). 1 ≤ k) (sym base.keep) tidy.some)
        (subst (λ (n : ℕ). n ≤ last_number h) (sym base.since) tidy.since)
        tidy.last
        held_entries_show

    -- So does one under a manifest that says the base's state,
    pub shows_under : (disk : DiskState) → HoldsFiles b l disk → (image : Image) → MayLeave disk image
        → (bytes : List ℕ) → IsCurrent image b.manifest.number bytes → SaysState b.manifest.number bytes b.state
        → Shown image h (last_number h)
    shows_under disk files image may bytes current says =
        let needs = sources_held disk files in
        image_shows disk needs image may (view disk needs image may) refl
        (opens_under disk needs image may tidy.levels bytes current says files.logs)

    -- and whatever a crash leaves where the files stand and the manifest, and no greater one stands or was removed.
    pub needed_shows : (disk : DiskState) → HoldsBase b disk → HoldsFiles b l disk → (image : Image) → MayLeave disk image
        → Shown image h (last_number h)
    needed_shows disk held files image may =
        shows_under disk files image may (manifest_bytes b.manifest.number (frames_of b))
        (held_current b.state disk (record {
          number = b.manifest.number;
          bytes = manifest_bytes b.manifest.number (frames_of b);
          stands = held.has.durable;
          says = base_says disk held;
          above = held.above;
        }) image may) (base_says disk held)

    -- Whatever a crash leaves of a disk that holds the layout shows it.
    pub held_shown : (disk : DiskState) → Holds b l disk → (image : Image) → MayLeave disk image
        → Shown image h (last_number h)
    held_shown disk holds image may = needed_shows disk holds.base holds.files image may

    -- So does what reads give.
    pub held_read : (disk : DiskState) → Holds b l disk → (read : Image) → IsRead read disk
        → Shown read h (last_number h)
    held_read disk holds read is = held_shown disk holds read (read_left read disk is)

  -- A store may be opened on a disk that holds a layout.
  pub held_opens_again : (disk : DiskState) → AreLevels l.levels → Holds b l disk → MayOpen disk
  held_opens_again disk levels holds =
      let read = read_image disk in
      let may = read_left read.0 disk read.1 in
      let needs = sources_held disk holds.files in
      held_may_open b.state (view disk needs read.0 may) (logs_from b l) disk holds.lawful
      (store_held disk holds read.0 may levels) (led_stay disk needs read.0 may)

  -- Whatever a crash leaves of such a disk opens like what reads give.
  pub held_durable : (disk : DiskState) → AreLevels l.levels → Holds b l disk → (read image : Image) → IsRead read disk
      → MayLeave disk image → OpensLike image read
  held_durable disk levels holds read image is may o opens =
      let needs = sources_held disk holds.files in
      let read_may = read_left read disk is in
      let number = last_number h in
      let found = opening_held b.state (view disk needs read read_may) (logs_from b l) number in
      let same : found ≡ o = ok_same {E = Refusal} found o (single_opening read (Ok found) (Ok o)
      (held_opens b.state (view disk needs read read_may) (logs_from b l) disk (store_held disk holds read read_may levels) number
      base.goes read read_may) opens) in
      let durable = needs_left disk needs read read_may levels in (
        o,
        subst (λ (x : Opening). Opens image (Ok x)) same
            (held_opens b.state (view disk needs image may) (logs_from b l) disk (store_held disk holds image may levels) number
            base.goes image may),
        shows_same o,
        subst (SameNeeded image read) same (record {
          tables = λ n named. left_as_read (Table n) (durable.tables n named);
          logs = λ n among. left_as_read (Log n) (durable.logs n among);
        }),
      )
    where
      left_as_read : (name : Name) → DurableAs read disk name → get image name ≡ get read name
      left_as_read name (bytes, there, stands) = left_settled disk image name bytes stands may ∙ sym there
