-- In which states runs begin: over an empty disk, and behind another run. And of which disks all of the store is durable.
use Rattle.std.specs.Prelude.{◌≡◌, ◌≢◌, ◌<◌, ◌≤◌, ◌+◌, ◌^◌, ℕ, Bool, List, [], ◌∷◌, ◌++◌, length, map, Option, None}
use Rattle.std.specs.Prelude.{Some, Ok, Contains, IsSome, IsTrue, T, refl, true, false}
use Rattle.std.specs.FinMap.{empty, empty_of_len, entries, len-entries, entries-from_sorted, entries_sorted}
use Rattle.std.specs.FinMap.{from_sorted, get, get-empty, is_sorted, same_entries_map}
use Rattle.std.specs.List.{AllByRecursion}
use Rattle.std.specs.Option.{option_map}
use Rattle.std.specs.Ordering.{nat_cmp}
use Rattle.std.proofs.Common.{sym, ◌∙◌, ap, subst, arith}
use Rattle.vl_disk.specs.Crash.{Image}
use Rattle.vl_disk.specs.DiskState.{DiskState, File, IsLawful}
use Rattle.vl_disk.specs.Faults.{after_calls}
use Rattle.vl_disk.specs.Name.{IsNumbered, file_number, name_cmp}
use Rattle.vl_disk.specs.Started.{IsRead, Started, read_left, started_left}
use Rattle.vl_disk.specs.declared.name.Name.{Name}
use Rattle.vl_disk.specs.declared.name.Name.TheVariants.{Log, Manifest, Table}
use Rattle.vl_disk.specs.declared.watched.Watched.{Ghosts}
use Rattle.vl_engine_laws.specs.Files.{found_levels}
use Rattle.vl_engine_laws.specs.Found.{IsDurable, recovered}
use Rattle.vl_engine_laws.specs.Pointed.{stored_among}
use Rattle.vl_engine_laws.specs.Reopened.{reopened}
use Rattle.vl_engine_laws.specs.Shown.{EntriesShow, Shown, entries_among, logs_entries}
use Rattle.vl_engine_laws.specs.laws.HeldLaws.{has_stays, held_durable, held_opens_again}
use Rattle.vl_engine_laws.specs.laws.ReopenedShown.{entries_show_reopened, none_show}
use Rattle.vl_engine_model.specs.Start.{layout_at_start, no_tables}
use Rattle.vl_engine_model.specs.Store.Commits.{AreProper, Changes, Commits, history_in}
use Rattle.vl_engine_model.specs.Store.Dispatch.{new_store}
use Rattle.vl_manifest.specs.States.{fresh_state}
use Rattle.vl_model.specs.History.{History, Past, last_number, no_history}
use Rattle.vl_model.specs.Keys.{Writes, key_cmp}
use Rattle.vl_model.specs.Limits.{max_commit_number, max_room}
use Rattle.vl_recover.specs.laws.crash.AlikeLaws.{like_same}
use Rattle.vl_recover.specs.crash.Alike.{OpensLike}
use Rattle.vl_recover.specs.opening.Answers.{AreStrayNames, Finds, calls_to_open, used_up}
use Rattle.vl_recover.specs.crash.Starts.{AllStay, MayOpen}
use Rattle.vl_recover.specs.laws.opening.HeldLaws.{started_may_open}
use Rattle.vl_recover.specs.laws.opening.OpeningLaws.{single_opening}
use Rattle.vl_recover.specs.laws.repairing.StageLaws.{ok_same}
use Rattle.vl_recover.specs.opening.Opening.{Bare, IsAmong, Opening, Opens, Refusal, led_into}
use Rattle.vl_recover.specs.opening.Plans.{active_log, new_state}
use Rattle.vl_script_model.specs.Sequential.{State, history_of}
use Rattle.vl_script_model.specs.Start.{OpensUpTo, StartsIn}
use Rattle.vl_script_model.specs.Stopped.{AreNumberedUpTo}
use Rattle.vl_script_model.specs.Stored.{IsStored}
use Rattle.vl_script_model.specs.laws.Untabled.{in_levels, led_nowhere, none_named}

-- ---- an empty disk

-- the state without commits, over a disk on which a store may be opened and that was asked for so many changing calls; the manifest
-- and the log have number 1
abbrev pub empty_store : ℕ → State
empty_store calls = record { store = new_store max_room; calls = calls; files = 1; openable = true }

pub none_some : {X : Type 0} (x : X) → None ≡ Some x → ⊥
none_some x e = cc

-- no file stands in the empty image
pub nothing : (name : Name) → get (empty {K = Name} {X = List ℕ} {R = name_cmp}) name ≡ None
nothing name = get-empty name_cmp name

pub not_there : (name : Name) → IsSome (get (empty {K = Name} {X = List ℕ} {R = name_cmp}) name) → ⊥
not_there name there = of (get (empty {K = Name} {X = List ℕ} {R = name_cmp}) name) (nothing name) there
  where
    of : (o : Option (List ℕ)) → o ≡ None → IsSome o → ⊥
    of None is some = false_true some
      where
        false_true : false ≡ true → ⊥
        false_true e = cc
    of (Some bytes) is some = absurd (none_some bytes (sym is))

pub past : 1 ≤ 0 → ⊥
past le = omega (arith, le)

pub one_some : 1 ≤ 1
one_some = omega arith

pub none_past : 0 ≤ 0
none_past = omega arith

pub none_last : 0 ≤ max_commit_number
none_last = omega arith

-- it opens as a store without logs, at number 0
abbrev pub finds_nothing : Finds empty
finds_nothing = record {
  opening = record { state = fresh_state; levels = found_levels no_tables; logs = []; number = 0 };
  opens = (
    fresh_state,
    (
      Bare,
      record {
        none = λ n bytes is. none_some bytes (sym (nothing (Manifest n)) ∙ is.stands);
        no_log = λ n. nothing (Log n);
        no_table = λ n. nothing (Table n);
      },
      refl,
    ),
    (
      found_levels no_tables,
      none_named false empty no_tables refl,
      (tt, refl, ([], λ m _. nothing (Log m), refl)),
    ),
  );
  greatest = record { log = 0; table = 0; manifest = 0 };
  are_greatest = record {
    log = record { none_above = λ m _. nothing (Log m); stands = λ le. absurd (past le) };
    table = record { none_above = λ m _. nothing (Table m); stands = λ le. absurd (past le) };
    manifest = record { none_above = λ m _. nothing (Manifest m); stands = λ le. absurd (past le) };
  };
  logs = [];
  standing = λ m _. nothing (Log m);
}

no_strays : (o : Opening) → AreStrayNames empty o []
no_strays o = record {
  all = λ name. (λ among. absurd (none_among name among), λ is. absurd (not_there name is.0));
  once = λ i j d below within. absurd (behind j within);
}
  where
    behind : (j : ℕ) → j < length {A = Name} [] → ⊥
    behind j less = omega (arith, less)

    none_among : (name : Name) → Contains [] name → ⊥
    none_among name (i, less, is) = behind i less

-- the plain lists of no commits are those of a new store
pub no_commits : history_in (new_store max_room).commits ≡ no_history
no_commits = ap (λ (base : Past). record { first = 0; base = base; commits = [] })
    (empty_of_len (from_sorted []) (len-entries (from_sorted []) ∙ ap length (entries-from_sorted nat_cmp [] tt)))

-- it shows nothing, without tables
abbrev pub shown_nothing : Shown empty no_history 0
shown_nothing = record {
  opening = finds_nothing.opening;
  opens = finds_nothing.opens;
  number = refl;
  levels = no_tables;
  found = refl;
  tables = tt;
  sealed = [];
  led = λ n among. absurd among;
  placed = tt;
  entries = none_show (stored_among []);
  some = one_some;
  since = none_past;
  last = none_last;
}

-- what is shown of a history is shown of the same one
abbrev pub shown_same : {image : Image} (h k : History) (m n : ℕ) → h ≡ k → m ≡ n → Shown image h m → Shown image k n
shown_same h k m n same at shown = record {
  opening = shown.opening;
  opens = shown.opens;
  number = shown.number ∙ at;
  levels = shown.levels;
  found = shown.found;
  tables = shown.tables;
  sealed = shown.sealed;
  led = shown.led;
  placed = shown.placed;
  entries =
      subst (λ (g : History). EntriesShow shown.opening.state.keep shown.opening.state.since shown.opening.state.gone (stored_among shown.sealed)
      (logs_entries shown.opening.logs ++ entries_among shown.levels) g n) same
      (subst (λ (k : ℕ). EntriesShow shown.opening.state.keep shown.opening.state.since shown.opening.state.gone (stored_among shown.sealed)
      (logs_entries shown.opening.logs ++ entries_among shown.levels) h k) at shown.entries);
  some = shown.some;
  since = subst (λ (k : ℕ). shown.opening.state.since ≤ k) at shown.since;
  last = subst (λ (k : ℕ). k ≤ max_commit_number) at shown.last;
}

-- A run over a disk on which nothing stands begins in it, after six changing calls. What was removed there may have greater
-- numbers.
pub starts_bare : {D : Type 0} (g : Ghosts D) (disk : D) (state : DiskState) (files : ℕ) → g.told disk ≡ Some state
    → ((name : Name) → get state.standing name ≡ None) → 1 ≤ files → AreNumberedUpTo files state
    → (openable : Bool) → (IsTrue openable → MayOpen state)
    → StartsIn g disk (record (empty_store (after_calls 6 (g.calls disk))) { files = files; openable = openable })
starts_bare g disk state files told bare some numbered openable may_open = record {
  state = state;
  told = told;
  read = empty;
  is_read = record { each = λ name. nothing name ∙ sym (ap (option_map (λ (file : File). file.bytes)) (bare name)) };
  found = finds_nothing;
  unused = refl;
  shown = shown_same no_history (history_in (new_store max_room).commits) 0 (last_number (history_in (new_store max_room).commits))
      (sym no_commits) (ap last_number (sym no_commits)) shown_nothing;
  proper = record { numbers = tt; base = tt; commits = tt };
  layout = refl;
  things = refl;
  strays = [];
  are_strays = no_strays finds_nothing.opening;
  calls = refl;
  files = record {
    numbered = numbered;
    manifest = some;
    log = some;
    next = record
        { log = omega (arith, some); table = omega (arith, some) };
  };
  openable = may_open;
}

-- so also where nothing ever stood
pub starts_empty : {D : Type 0} (g : Ghosts D) (disk : D) (state : DiskState) → g.told disk ≡ Some state
    → ((name : Name) → get state.standing name ≡ None) → ((name : Name) → get state.removed name ≡ None) → MayOpen state
    → StartsIn g disk (empty_store (after_calls 6 (g.calls disk)))
starts_empty g disk state told bare none may_open =
    starts_bare g disk state 1 told bare (omega arith) (record {
      standing = λ name there. absurd (there (bare name));
      removed = λ name there. absurd (there (none name));
    }) true (λ _. may_open)

-- ---- a disk that shows a history

-- a history as plain lists
abbrev pub plain : History → Commits
plain h = record {
  first = h.first;
  base = map (λ (c : ℕ × Writes). (c.0, entries c.1)) (entries h.base);
  commits = map (λ (writes : Writes). entries writes) h.commits;
}

same_writes : (writes : Writes) → from_sorted (entries writes) ≡ writes
same_writes writes = same_entries_map (from_sorted (entries writes)) writes
    (entries-from_sorted key_cmp (entries writes) (entries_sorted writes))

same_commits : (cs : List Writes) → map from_sorted (map (λ (writes : Writes). entries writes) cs) ≡ cs
same_commits [] = refl
same_commits (c ∷ cs) = ap (λ (x : Writes). x ∷ map from_sorted (map (λ (writes : Writes). entries writes) cs))
    (same_writes c) ∙ ap (λ (xs : List Writes). c ∷ xs) (same_commits cs)

same_base : (cs : List (ℕ × Writes))
    → map (λ (c : ℕ × Changes). (c.0, from_sorted {R = key_cmp} c.1)) (map (λ (c : ℕ × Writes). (c.0, entries c.1)) cs) ≡ cs
same_base [] = refl
same_base (c ∷ cs) =
    ap (λ (x : Writes). (c.0, x) ∷ map (λ (c : ℕ × Changes). (c.0, from_sorted {R = key_cmp} c.1))
    (map (λ (c : ℕ × Writes). (c.0, entries c.1)) cs)) (same_writes c.1)
    ∙ ap (λ (xs : List (ℕ × Writes)). c ∷ xs) (same_base cs)

-- they are that history, and rise
pub plain_is : (h : History) → history_in (plain h) ≡ h
plain_is h =
    ap (λ (base : List (ℕ × Writes)). record {
      first = h.first;
      base = from_sorted base;
      commits = map from_sorted
          (map (λ (writes : Writes). entries writes) h.commits);
    }) (same_base (entries h.base))
    ∙ ap (λ (base : _). record
    { first = h.first; base = base; commits = map from_sorted (map (λ (writes : Writes). entries writes) h.commits) })
    (same_entries_map (from_sorted (entries h.base)) h.base (entries-from_sorted _ (entries h.base) (entries_sorted h.base)))
    ∙ ap (λ (cs : List Writes). record { first = h.first; base = h.base; commits = cs }) (same_commits h.commits)

pub reopened_last : (h : History) (m : ℕ) → last_number (reopened h m) ≡ m
reopened_last h m = omega arith

rising_base : (cs : List (ℕ × Writes)) → AllByRecursion (λ (c : ℕ × Changes). T (is_sorted key_cmp c.1))
    (map (λ (c : ℕ × Writes). (c.0, entries c.1)) cs)
rising_base [] = tt
rising_base (c ∷ cs) = (entries_sorted c.1, rising_base cs)

rising_commits : (cs : List Writes)
    → AllByRecursion (λ (c : Changes). T (is_sorted key_cmp c)) (map (λ (writes : Writes). entries writes) cs)
rising_commits [] = tt
rising_commits (c ∷ cs) = (entries_sorted c, rising_commits cs)

pub plain_proper : (h : History) → AreProper (plain h)
plain_proper h = record {
  numbers = subst (λ (cs : List (ℕ × Writes)). T (is_sorted nat_cmp cs)) (sym (same_base (entries h.base))) (entries_sorted h.base);
  base = rising_base (entries h.base);
  commits = rising_commits h.commits;
}

-- what the history has up to a number is shown of it as it is gone on with from there
abbrev pub shown_again : {read : Image} (h : History) (m : ℕ) → Shown read h m
    → Shown read (history_in (plain (reopened h m))) (last_number (history_in (plain (reopened h m))))
shown_again h m shown =
    let same : reopened h m ≡ history_in (plain (reopened h m)) = sym (plain_is (reopened h m)) in
    shown_same (reopened h m) (history_in (plain (reopened h m))) m (last_number (history_in (plain (reopened h m)))) same
    (sym (reopened_last h m) ∙ ap last_number same) (record {
      opening = shown.opening;
      opens = shown.opens;
      number = shown.number;
      levels = shown.levels;
      found = shown.found;
      tables = shown.tables;
      sealed = shown.sealed;
      led = shown.led;
      placed = shown.placed;
      entries = entries_show_reopened shown.opening.state.keep shown.opening.state.since shown.opening.state.gone
          (stored_among shown.sealed)
          (logs_entries shown.opening.logs ++ entries_among shown.levels) h m shown.entries;
      some = shown.some;
      since = shown.since;
      last = shown.last;
    })

-- the store that is opened then
abbrev pub reopened_store : {read : Image} → Finds read → (h : History) (m : ℕ) → Shown read h m → (calls files : ℕ) → Bool → State
reopened_store found h m shown calls files openable = record {
  store = record {
    commits = plain (reopened h m);
    layout = layout_at_start max_room (recovered found (shown_again h m shown));
    things = [];
  };
  calls = calls;
  files = files;
  openable = openable;
}

-- for each lawful disk there is a number that no file of the store passes
pub opens_up_to : {read : Image} (disk : DiskState) (found : Finds read) → IsLawful disk → (files : ℕ) × OpensUpTo files disk found
opens_up_to disk found lawful =
    let active : ℕ = active_log found.greatest found.opening.state found.logs in
    let next : ℕ = (new_state found.greatest found.opening.state).next_log in
    let table : ℕ = (new_state found.greatest found.opening.state).next_table in (
      2 ^ 32 + (found.greatest.manifest + 1) + active + next + table,
      record {
        numbered = record {
          standing = λ name there. of name (get disk.standing name) there (lawful.numbered name);
          removed = λ name there. of name (get disk.removed name) there (lawful.removed_numbered name);
        };
        manifest = omega arith;
        log = omega arith;
        next = record { log = omega arith; table = omega arith };
      },
    )
  where
    of : (name : Name) (o : Option File) → o ≢ None → ((file : File) → o ≡ Some file → IsNumbered name)
        → file_number name ≤ 2 ^ 32 + (found.greatest.manifest + 1) + active_log found.greatest found.opening.state
        found.logs + (new_state found.greatest found.opening.state).next_log
        + (new_state found.greatest found.opening.state).next_table
    of name None some is = absurd (some refl)
    of name (Some file) some is = omega (arith, (is file refl).1)

-- A run over a disk whose reads show a history at a number, as whatever a run left does, begins with what the history has there.
pub starts_shown : {D : Type 0} (g : Ghosts D) (disk : D) (state : DiskState) (read : Image) (found : Finds read)
    (strays : List Name) (h : History) (m files : ℕ) → g.told disk ≡ Some state → IsRead read state → used_up found ≡ None
    → AreStrayNames read found.opening strays → (shown : Shown read h m) → OpensUpTo files state found
    → (openable : Bool) → (IsTrue openable → MayOpen state)
    → StartsIn g disk (reopened_store found h m shown (after_calls (calls_to_open found (length strays)) (g.calls disk)) files openable)
starts_shown g disk state read found strays h m files told is_read left are_strays shown up_to openable may_open = record {
  state = state;
  told = told;
  read = read;
  is_read = is_read;
  found = found;
  unused = left;
  shown = shown_again h m shown;
  proper = plain_proper (reopened h m);
  layout = refl;
  things = refl;
  strays = strays;
  are_strays = are_strays;
  calls = refl;
  files = up_to;
  openable = may_open;
}

-- ---- durable stores

-- Where an image opens, the logs that its tables lead into stay as they are at an opening.
abbrev pub LedStay : Image → Type 0
LedStay image = (o : Opening) → Opens image (Ok o) → AllStay image (led_into o.levels)

-- So it is of one that shows a history, and of one that opens without tables.
pub shown_stay : (image : Image) (h : History) (m : ℕ) → Shown image h m → LedStay image
shown_stay image h m shown o opens n bytes reading among stands reads =
    let same : o ≡ shown.opening =
    ok_same {E = Refusal} o shown.opening (single_opening image (Ok o) (Ok shown.opening) opens shown.opens) in
    has_stays image shown.sealed n (shown.led n (subst (λ (x : Opening). IsAmong (led_into x.levels) n) same among))
    bytes reading stands reads

pub untabled_stay : (image : Image) → ((o : Opening) → Opens image (Ok o) → in_levels o.levels ≡ []) → LedStay image
untabled_stay image bare o opens n bytes reading among = absurd (led_nowhere o.levels (bare o opens) n among)

-- an empty one is such
pub empty_stay : LedStay empty
empty_stay = untabled_stay empty (λ o opens.
    ap (λ (x : Opening). in_levels x.levels) (ok_same {E = Refusal} o finds_nothing.opening
    (single_opening empty (Ok o) (Ok finds_nothing.opening) opens finds_nothing.opens)))

-- All of the store is durable on a disk that was just started from one,
pub started_durable : (image : Image) (disk : DiskState) → Started image disk → LedStay image → IsDurable disk
started_durable image disk started stay = record {
  may_open = started_may_open image disk started stay;
  as_read = λ read left is_read is_left.
      let same : read ≡ left = started_left image disk started read (read_left read disk is_read)
      ∙ sym (started_left image disk started left is_left.left) in
      subst (λ (i : Image). OpensLike i read) same (like_same read);
}

-- and on one that holds a state, as a run without a fault leaves it.
pub stored_durable : (s : State) (disk : DiskState) → IsStored s disk → IsDurable disk
stored_durable s disk stored = record {
  may_open = held_opens_again stored.base s.store.layout (history_of s) stored.is_base disk stored.tidy.levels stored.holds;
  as_read = λ read image is left. held_durable stored.base s.store.layout (history_of s) stored.is_base disk stored.tidy.levels
      stored.holds read image is left.left;
}
