-- What an engine that was just opened stands for, and represents.
use Rattle.std.specs.Prelude.{◌≡◌, ◌≤◌, ℕ, ◌+◌, ◌-◌, ◌^◌, min, max, List, [], ◌∷◌, ◌++◌, map, reverse, Option, None}
use Rattle.std.specs.Prelude.{Some, IsSome, Vec, refl}
use Rattle.std.specs.FinMap.{get}
use Rattle.std.specs.Global.{Global}
use Rattle.std.specs.Option.{option_map}
use Rattle.std.proofs.Common.{sym, ap, subst, ◌∙◌, arith}
use Rattle.std.proofs.lemmas.List.{map-append, reverse-append}
use Rattle.vl_disk.specs.Calls.{ChangesNothing}
use Rattle.vl_disk.specs.Crash.{Image, Unchanged}
use Rattle.vl_disk.specs.Disk.{Stands}
use Rattle.vl_disk.specs.DiskState.{DiskState, File, IsLawful}
use Rattle.vl_disk.specs.Moments.{HoldsThroughout, While, holds_weaker, passes_none, past_of, waits}
use Rattle.vl_disk.specs.Started.{IsRead}
use Rattle.vl_disk.specs.declared.name.Name.TheVariants as names
use Rattle.vl_disk.specs.declared.watched.Watched.{Ghosts}
use Rattle.vl_engine_laws.specs.Begun.{base_begun}
use Rattle.vl_engine_laws.specs.Fit.{IsFitFor}
use Rattle.vl_engine_laws.specs.Laid.{by_level}
use Rattle.vl_engine_laws.specs.Found.{AreLeveled, IsBackAtStart, IsCoreOf, IsDurable, recovered, state_then}
use Rattle.vl_engine_laws.specs.Represents.{Fronts, Represents, StandsFor, file_of}
use Rattle.vl_engine_laws.specs.Shown.{LeavesBetween, Shown}
use Rattle.vl_engine_laws.specs.declared.kept.Core.{Core}
use Rattle.vl_engine_laws.specs.laws.BegunHolds.{begins_as, plan_as, repaired_base, repaired_layout}
use Rattle.vl_engine_laws.specs.laws.BegunLaws.{one_opening}
use Rattle.vl_engine_laws.specs.laws.BegunShows.{begun_spares, begun_shows}
use Rattle.vl_engine_laws.specs.laws.BegunTidy.{begun_tidy}
use Rattle.vl_engine_laws.specs.laws.FrontLaws.{front_known, front_started}
use Rattle.vl_engine_laws.specs.laws.KeptLaws.{none_drawn}
use Rattle.vl_engine_laws.specs.laws.LaidBegun.{begun_has, leveled_tables}
use Rattle.vl_engine_laws.specs.laws.ShownLaws.{between_itself, opening_shown}
use Rattle.vl_engine_laws.specs.laws.StartLaws.{before_found, newest_twice}
use Rattle.vl_front.specs.Front.{Knows}
use Rattle.vl_engine_model.specs.Start.{layout_at_start, newest_first}
use Rattle.vl_engine_model.specs.declared.layout.Layout.{Layout}
use Rattle.vl_engine_model.specs.declared.segment.Segment.{Segment}
use Rattle.vl_manifest.specs.declared.manifest_log.ManifestLog.{ManifestLog}
use Rattle.vl_manifest.specs.declared.state.ManifestState.{ManifestState}
use Rattle.vl_manifest.specs.declared.waiting.Waiting.{Waiting}
use Rattle.vl_memtable.specs.Contents.{Contents}
use Rattle.vl_memtable.specs.declared.frozen_log.FrozenLog.{FrozenLog}
use Rattle.vl_model.specs.History.{History, last_number}
use Rattle.vl_model.specs.Limits.{max_room}
use Rattle.vl_oracle.specs.LiveTickets.{LiveTickets}
use Rattle.vl_recover.specs.crash.Alike.{OpensAsOf}
use Rattle.vl_recover.specs.crash.Meanwhile.{IsAsLong, IsMeanwhile, IsRepaired, as_before}
use Rattle.vl_recover.specs.crash.Starts.{MayOpen}
use Rattle.vl_recover.specs.declared.parts.Parts.{Parts}
use Rattle.vl_recover.specs.laws.crash.OneName as one_name
use Rattle.vl_recover.specs.laws.opening.OneFinding.{same_greatest, same_logs, same_opening}
use Rattle.vl_recover.specs.laws.opening.OpeningLaws.{some_same}
use Rattle.vl_recover.specs.laws.repairing.RepairingStart.{Begins}
use Rattle.vl_recover.specs.opening.Answers.{Finds, Opened, held_log, logs_then, opened_from}
use Rattle.vl_recover.specs.opening.FoundTables.{found_level, found_list}
use Rattle.vl_recover.specs.opening.HeldFiles.{AreHeldLogs, AreReadTables, AreWaiting, IsReadyToGoOn, but_last, tables_of}
use Rattle.vl_recover.specs.opening.Opening.{FoundTable, Opening}
use Rattle.vl_recover.specs.opening.Plans.{Greatest, active_log, new_state}
use Rattle.vl_recover.specs.opening.Results.{frozen_log, opened_of}
use Rattle.vl_recover.specs.opening.Walk.{StandingLog}
use Rattle.vl_recover.specs.repairing.Repairing.{IsPlan, Plan, repaired}
use Rattle.vl_recover.specs.repairing.Steps.{MakesSome}
use Rattle.vl_seglog.specs.declared.active.ActiveLog.{ActiveLog}
use Rattle.vl_seglog.specs.declared.sealed.SealedLog.{SealedLog}
use Rattle.vl_table.specs.declared.table.Table.{Table}
use Rattle.vl_version.specs.declared.levels.Levels.{Levels}

-- ---- what was found

-- a disk's findings are one
same_opened : (image : Image) (a b : Finds image) → opened_from a ≡ opened_from b
same_opened image a b =
    ap (λ (g : Greatest). of g a.opening a.logs) (same_greatest image a b)
    ∙ ap (λ (o : Opening). of b.greatest o a.logs) (same_opening image a b)
    ∙ ap (λ (logs : List StandingLog). of b.greatest b.opening logs) (same_logs image a b)
  where
    of : Greatest → Opening → List StandingLog → Opened
    of g o logs = record {
      number = o.number;
      state = new_state g o.state;
      manifest = g.manifest + 1;
      levels = o.levels;
      frozen = map held_log o.logs;
      active = active_log g o.state logs;
    }

-- memtables are those of logs, and so they are turned round
newest_same : (fs : List FrozenLog) (ss : List Segment) → map frozen_log fs ≡ map held_log ss
    → map frozen_log (reverse fs) ≡ map held_log (newest_first ss)
newest_same [] [] same = refl
newest_same [] (s ∷ ss) same = absurd cc
newest_same (f ∷ fs) [] same = absurd cc
newest_same (f ∷ fs) (s ∷ ss) same =
    let here : frozen_log f ≡ held_log s = cc in
    let later : map frozen_log fs ≡ map held_log ss = cc in
    ap (map frozen_log) (reverse-append (f ∷ []) fs)
    ∙ map-append frozen_log (reverse fs) (f ∷ [])
    ∙ (λ i. newest_same fs ss later i ++ here i ∷ [])
    ∙ sym (map-append held_log (newest_first ss) (s ∷ []))

module _ {H : Type 0} where
  deeper_same : (levels : List (Vec (Table H) Global))
      → map found_list (map (λ (v : Vec (Table H) Global). v.items) levels) ≡ map found_level levels
  deeper_same [] = refl
  deeper_same (v ∷ levels) = ap (λ (ls : List (List FoundTable)). found_level v ∷ ls) (deeper_same levels)

  -- levels that are made of tables have what was found of these
  leveled_found : (levels : List (Vec (Table H) Global)) (made : Levels H) → AreLeveled levels made
      → map found_list (by_level made) ≡ map found_level levels
  leveled_found [] made is = absurd is
  leveled_found (v ∷ levels) made is =
      (λ i. found_level (is.0 i) ∷ map found_list (is.1 i))
      ∙ ap (λ (ls : List (List FoundTable)). found_level v ∷ ls) (deeper_same levels)

-- ---- what an engine makes of it

-- The engine is made of the parts that an opening found.
pub record IsMadeOf {D H : Type 0} (parts : Parts D H) (room : ℕ) (core : Core H) : Type 0 where
  pub last : core.front.oracle ≡ record { last = parts.number; tickets = [] }
  pub knows : (h : History) → last_number h ≡ parts.number → Knows core.front h
  pub log : core.front.log ≡ parts.active
  pub room_is : core.front.room ≡ room
  pub halted : core.front.halted ≡ None
  pub state : core.back.state ≡ parts.state
  pub next_log : core.back.next_log ≡ max parts.state.next_log (min (parts.active.number + 1) (2 ^ 32 - 1))
  pub manifest : core.back.manifest ≡ parts.manifest
  pub epoch : core.back.epoch ≡ 0
  pub waiting : core.back.waiting.items ≡ parts.waiting.items
  pub active : core.version.active ≡ record { entries = []; lengths = [] }
  pub frozen : core.version.behind.frozen.items ≡ reverse parts.frozen.items
  pub leveled : AreLeveled parts.levels.items core.version.behind.levels
  pub logs : core.version.behind.logs.items ≡ parts.sealed.items

-- the number of a log that stands leaves room for the next one
number_stands : (disk : DiskState) (number : ℕ) → IsLawful disk → Stands (names.Log number) disk → number ≤ 2 ^ 32 - 2
number_stands disk number lawful stands = by (get disk.standing (names.Log number)) refl stands
  where
    by : (file : Option File) → get disk.standing (names.Log number) ≡ file → IsSome file → number ≤ 2 ^ 32 - 2
    by None is some = absurd cc
    by (Some file) is some = (lawful.numbered (names.Log number) file is).1

least_within : (number : ℕ) → number ≤ 2 ^ 32 - 2 → min (number + 1) (2 ^ 32 - 1) ≡ number + 1
least_within number within = omega (arith, within)

module _ {D H : Type 0} (parts : Parts D H) (room : ℕ) (core : Core H) (made : IsMadeOf parts room core) where
  next_within : (now : DiskState) → IsLawful now → Stands (names.Log parts.active.number) now
      → core.back.next_log ≡ max parts.state.next_log (parts.active.number + 1)
  next_within now lawful stand = made.next_log
      ∙ ap (max parts.state.next_log) (least_within parts.active.number (number_stands now parts.active.number lawful stand))

  -- Its next calls find of the disk what they ask.
  pub opened_fit : (now : DiskState) → IsLawful now → IsReadyToGoOn parts.active.number parts.manifest.number parts.state now
      → IsFitFor core now
  opened_fit now lawful ready =
      let next = next_within now lawful ready.log in
      record {
        log = subst (λ (a : ActiveLog). Stands (names.Log a.number) now) (sym made.log) ready.log;
        steps = λ running. record {
          manifest = subst (λ (m : ManifestLog). Stands (names.Manifest m.number) now) (sym made.manifest) ready.manifest_is;
          logs = λ n from. ready.logs_free n (omega (arith, from, next)) (omega (arith, from, next));
          tables = λ n from. ready.tables_free n (subst (λ (s : ManifestState). s.next_table ≤ n) made.state from);
        };
      }

  pub opened_numbered : 1 ≤ parts.state.next_table → (1 ≤ core.back.next_log) × (1 ≤ core.back.state.next_table)
  opened_numbered first = (
    (let next = made.next_log in omega (arith, next)),
    subst (λ (s : ManifestState). 1 ≤ s.next_table) (sym made.state) first,
  )

  module _ (read : Image) (found other : Finds read) (opened : opened_of parts ≡ opened_from other) where
    is : opened_of parts ≡ opened_from found
    is = opened ∙ same_opened read other found

    active_number : parts.active.number ≡ active_log found.greatest found.opening.state found.logs
    active_number = ap (λ (o : Opened). o.active) is

    parts_state : parts.state ≡ state_then found
    parts_state = ap (λ (o : Opened). o.state) is

    -- What steps on files need is what was found.
    pub opened_back : (now : DiskState) → IsLawful now → Stands (names.Log parts.active.number) now
        → IsAsLong parts.state parts.manifest
        → AreWaiting found.opening.state.covered parts.waiting.items found.opening.logs → IsBackAtStart found core.back
    opened_back now lawful stand long waiting = record {
      state = made.state ∙ parts_state;
      next_log = next_within now lawful stand ∙ (λ i. max (parts_state i).next_log (active_number i + 1));
      number = ap (λ (m : ManifestLog). m.number) made.manifest ∙ ap (λ (o : Opened). o.manifest) is;
      long = subst (λ (m : ManifestLog). IsAsLong core.back.state m) (sym made.manifest)
          (subst (λ (s : ManifestState). IsAsLong s parts.manifest) (sym made.state) long);
      waiting = subst (λ (ws : List Waiting). AreWaiting found.opening.state.covered ws found.opening.logs) (sym made.waiting) waiting;
      epoch = made.epoch;
    }

    number_found : parts.number ≡ found.opening.number
    number_found = ap (λ (o : Opened). o.number) is

    -- What it keeps is what was found.
    pub opened_core : (bytes : H → Option (List ℕ)) → parts.active.length ≡ 16
        → AreReadTables bytes read (tables_of parts.levels.items) → AreHeldLogs bytes found parts.sealed.items
        → IsCoreOf bytes found room core
    opened_core bytes short tables logs = record {
      oracle = made.last ∙ ap (λ (n : ℕ). record { last = n; tickets = [] }) number_found;
      knows = λ h last. made.knows h (last ∙ sym number_found);
      log = made.log ∙ (λ i. record { number = active_number i; length = short i });
      room_is = made.room_is;
      halted = made.halted;
      active = made.active;
      frozen = ap (map frozen_log) made.frozen
          ∙ newest_same parts.frozen.items found.opening.logs (ap (λ (o : Opened). o.frozen) is);
      levels = leveled_found parts.levels.items core.version.behind.levels made.leveled ∙ ap (λ (o : Opened). o.levels) is;
      tables = subst (AreReadTables bytes read)
          (leveled_tables bytes read parts.levels.items core.version.behind.levels made.leveled) tables;
      sealed = subst (λ (logs : List (SealedLog H)). AreHeldLogs bytes found logs) (sym made.logs) logs;
    }

    module _ (bytes : H → Option (List ℕ)) (short : parts.active.length ≡ 16) (roomy : room ≤ max_room) (h : History)
        (shown : Shown read h (last_number h)) where
      abbrev its_layout : Layout
      its_layout = layout_at_start room (recovered found shown)

      number_is : parts.number ≡ last_number h
      number_is = ap (λ (o : Opened). o.number) is
          ∙ ap (λ (o : Opening). o.number) (sym (one_opening found h shown room)) ∙ shown.number

      last_is : core.front.oracle.last ≡ last_number h
      last_is = ap (λ (o : LiveTickets). o.last) made.last ∙ number_is

      none_lives : core.front.oracle.tickets ≡ []
      none_lives = ap (λ (o : LiveTickets). o.tickets) made.last

      opened_fronts : Fronts core h its_layout
      opened_fronts = record {
        front = front_known core.front.oracle [] h its_layout (front_started h its_layout core.front.oracle refl last_is none_lives)
            core.front.oracle core.front.recent.named refl (made.knows h (sym number_is)).remembers;
        number = ap (λ (a : ActiveLog). a.number) made.log ∙ active_number;
        length_is = ap (λ (a : ActiveLog). a.length) made.log ∙ short;
        format = refl;
        room = made.room_is;
        roomy = roomy;
        halted = ap (option_map file_of) made.halted;
        version = made.epoch;
        keep = ap (λ (s : ManifestState). s.keep) (made.state ∙ parts_state);
        since = ap (λ (s : ManifestState). s.since) (made.state ∙ parts_state);
      }

      -- It stands for the history that the opened image shows, and for the layout at its start;
      pub opened_stands : AreReadTables bytes read (tables_of parts.levels.items) → AreHeldLogs bytes found parts.sealed.items
          → StandsFor bytes core h (layout_at_start room (recovered found shown))
      opened_stands tables logs = record {
        fronts = opened_fronts;
        has = begun_has bytes found h shown room core.version parts.frozen.items parts.levels.items parts.sealed.items
            (ap (λ (held : Contents). held.entries) made.active) made.frozen made.leveled made.logs (ap (λ (o : Opened). o.frozen) is)
            (ap (λ (o : Opened). o.levels) is) tables logs;
        tidy = begun_tidy found h shown room;
        spared = begun_spares found h shown room;
      }

      -- and where a store may be opened it represents them.
      pub opened_represents : (start : DiskState) (told : Option DiskState) → IsLawful start → MayOpen start → IsRead read start
          → ((now : DiskState) → told ≡ Some now → IsLawful now) → IsRepaired read start told → IsBackAtStart found core.back
          → IsAsLong parts.state parts.manifest
          → StandsFor bytes core h (layout_at_start room (recovered found shown))
          → Represents bytes core told h (layout_at_start room (recovered found shown))
      opened_represents start told lawful may is_read each_lawful done back long stands = record {
        stands = stands;
        held = λ running. record {
          state = repaired done.repairing.plan start;
          told_is = done.told;
          base = base_begun found parts.manifest (but_last (logs_then found));
          is_base = repaired_base found start begins plan is_plan parts.manifest numbered its_long h shown room;
          back_is = record {
            manifest = made.manifest;
            state = back.state;
            next_log = back.next_log;
            next_table = omega arith;
            waiting = subst (AreWaiting found.opening.state.covered core.back.waiting.items)
                (sym (newest_twice found.opening.logs)
                ∙ sym (ap (λ (ss : List Segment). newest_first (newest_first ss)) (before_found found))) back.waiting;
          };
          holds = repaired_layout found start begins plan is_plan parts.manifest numbered its_long h shown room
              (each_lawful (repaired plan start) done.told);
          begun = none_drawn (state_then found).next_table (state_then found).next_table (repaired done.repairing.plan start)
              (omega arith);
        };
      }
        where
          plan : Plan
          plan = done.repairing.plan

          is_plan : IsPlan found plan
          is_plan = plan_as done.repairing.found found plan done.repairing.is

          begins : Begins found start
          begins = begins_as done.repairing.found found start (record {
            lawful = lawful;
            may = may;
            is_read = is_read;
            left = done.repairing.unused;
            has = done.repairing.has;
          })

          numbered : parts.manifest.number ≡ found.greatest.manifest + 1
          numbered = ap (λ (o : Opened). o.manifest) is

          its_long : IsAsLong (new_state found.greatest found.opening.state) parts.manifest
          its_long = subst (λ (s : ManifestState). IsAsLong s parts.manifest) parts_state long

-- What a crash leaves meanwhile shows what was opened, where all of it was durable.
pub opening_through : {D : Type 0} (g : Ghosts D) (old new : D) (state : DiskState) → IsDurable state → (read : Image)
    → IsRead read state → (h : History) → Shown read h (last_number h) → HoldsThroughout g old new (OpensAsOf state)
    → HoldsThroughout g old new (LeavesBetween h h)
opening_through g old new state durable read is_read h shown through =
    holds_weaker g (OpensAsOf state) (LeavesBetween h h) old new through
    (λ now as_of image left. between_itself h image
    (opening_shown state now read h (last_number h) (λ image. durable.as_read read image is_read) shown as_of image left))

-- ---- where nothing was done

module _ {D : Type 0} (g : Ghosts D) (disk : D) where
  pub nothing_done : ChangesNothing g disk disk ⊥
  nothing_done = record {
    told = refl;
    calls = refl;
    time = passes_none (past_of g disk) (While (g.told disk) Unchanged);
    cause = record { later = omega arith; rose = λ none. absurd none; steady = λ none. refl };
  }

  module _ (only_now : (disk : D) (state other : DiskState) → g.told disk ≡ Some state → g.states_since disk (g.moment disk) other
      → other ≡ state) (state : DiskState) (told : g.told disk ≡ Some state) where
    pub opens_still : HoldsThroughout g disk disk (OpensAsOf state)
    opens_still = waits g (OpensAsOf state) only_now disk state told (one_name.as_before state)

    pub stays_meanwhile : (read : Image) → HoldsThroughout g disk disk (IsMeanwhile read state)
    stays_meanwhile read = waits g (IsMeanwhile read state) only_now disk state told (as_before refl)

    pub may_open_still : MayOpen state → (now : DiskState) → g.told disk ≡ Some now → MayOpen now
    may_open_still may now is = subst MayOpen (some_same state now (sym told ∙ is)) may

pub none_made : (count before : ℕ) → MakesSome count before before
none_made count before = (0, omega arith, refl)
