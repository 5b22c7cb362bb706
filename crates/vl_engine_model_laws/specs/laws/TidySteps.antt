-- What is kept tidy stays so behind each change of a layout, where what is left shows what it should.
use Rattle.std.proofs.Common.{◌≡◌, ℕ, ◌+◌, ◌≤◌, ◌<◌, Bool, true, false, cond, not, List, [], ◌∷◌, ◌++◌, map, refl, ap}
use Rattle.std.proofs.Common.{sym, ◌∙◌, subst, arith, length-append}
use Rattle.std.proofs.lemmas.Bool.{and_parts}
use Rattle.std.proofs.lemmas.Bool.Decides.{nat_tests}
use Rattle.std.proofs.lemmas.List.Sums.{sum_by-append}
use Rattle.std.specs.Prelude.{Option, Some, None, T, is_some, ◌==◌, nat_le, nat_lt}
use Rattle.std.specs.FinMap.{find, from_sorted, get-from_sorted, is_sorted}
use Rattle.std.specs.List.{AllByRecursion, filter, flat_map}
use Rattle.std.specs.Ordering.{eq_by_cmp}
use Rattle.vl_model.specs.Entries.{in_order, is_at}
use Rattle.vl_model.specs.Frames.{frame_length, moved_length, record_length}
use Rattle.vl_model.specs.History.{History, last_number, with_commit}
use Rattle.vl_model.specs.Keys.{key_cmp}
use Rattle.vl_model.specs.Limits.{max_commit_number}
use Rattle.vl_model.specs.Numbers.{has}
use Rattle.vl_model.specs.Placement.{placed}
use Rattle.vl_model.specs.Versions.{versions}
use Rattle.vl_model.specs.Winners.{Logs, exact, leads_to, wins_exactly}
use Rattle.vl_model.specs.declared.change.Change.{Change}
use Rattle.vl_model.specs.declared.entry.Entry.{Entry}
use Rattle.vl_model.specs.declared.log_frame.LogFrame.{LogFrame}
use Rattle.vl_model.specs.declared.log_frame.LogFrame.TheVariants.{Relocated}
use Rattle.vl_model.specs.declared.log_frame.Moved.{Moved}
use Rattle.vl_model.specs.laws.HistoryLaws.{with_commit-extends}
use Rattle.vl_model.specs.laws.VersionLaws.{has-commit, versions-stay}
use Rattle.vl_engine_model.specs.Jobs.{AreDistinct, AreLent, Made, job_ended, lent_numbers}
use Rattle.vl_engine_model.specs.Levels.{in_front}
use Rattle.vl_engine_model.specs.Logs.{committed_records, logged_entries, memtable, record_entry, relocated_records}
use Rattle.vl_engine_model.specs.OpenJobs.{IsFitted, IsOpenWell}
use Rattle.vl_engine_model.specs.Relocation.{Candidate, is_moved, moved_of}
use Rattle.vl_engine_model.specs.Ruling.{ended, is_idle, logged}
use Rattle.vl_engine_model.specs.Rulings.Begin.{begun}
use Rattle.vl_engine_model.specs.Rulings.Commit.{commit_frame}
use Rattle.vl_engine_model.specs.Rulings.EndPass.{without_pass}
use Rattle.vl_engine_model.specs.Rulings.Flush.{flushed, flushed_table}
use Rattle.vl_engine_model.specs.Rulings.Fresh.{drawn, lent_to}
use Rattle.vl_engine_model.specs.Rulings.Keep.{keeping}
use Rattle.vl_engine_model.specs.Rulings.Pick.{with_pass}
use Rattle.vl_engine_model.specs.Rulings.Plan.{with_job}
use Rattle.vl_engine_model.specs.Rulings.Relocate.{moves_at, relocated, with_moves}
use Rattle.vl_engine_model.specs.Rulings.Rotate.{rotated}
use Rattle.vl_engine_model.specs.Rulings.Sweep.{without_files}
use Rattle.vl_engine_model.specs.Shown.{IsOf, ShowsLow}
use Rattle.vl_engine_model.specs.Sources.{behind_active, but_oldest, oldest, sources, table_entries, tables}
use Rattle.vl_engine_model.specs.Tidy.{IsPlacedIn, IsTidy, IsTrueLog, IsTrueTable, log_numbers, sealed}
use Rattle.vl_engine_model.specs.declared.file_name.FileName.{FileName}
use Rattle.vl_engine_model.specs.declared.job.Job.{Job}
use Rattle.vl_engine_model.specs.declared.job.OpenJob.{OpenJob}
use Rattle.vl_engine_model.specs.declared.job.Target.{Target}
use Rattle.vl_engine_model.specs.declared.job.Target.TheVariants.{Level, InPlace}
use Rattle.vl_engine_model.specs.declared.layout.Layout.{Layout}
use Rattle.vl_engine_model.specs.declared.segment.Segment.{Segment}
use Rattle.vl_engine_model.specs.declared.table.Table.{Table}
use Rattle.vl_engine_model.specs.laws.CommitShows.{all_found}
use Rattle.vl_engine_model.specs.laws.LayoutShows.{added, logged_entries-more, place_behind, sources-rotated}
use Rattle.vl_engine_model.specs.laws.LowRulings.{begun_shows_low, ended_shows_low, keeping_shows_low}
use Rattle.vl_engine_model.specs.laws.OrderShows.{all-taken_in}
use Rattle.vl_engine_model_laws.specs.laws.Beside.{open_begun, open_committed, open_drawn, open_ended, open_flushed}
use Rattle.vl_engine_model_laws.specs.laws.Beside.{open_keeping, open_picked, open_relocated, open_rotated, open_swept}
use Rattle.vl_engine_model_laws.specs.laws.Files.{all_both, all_filtered, all_parts, all_weaker, true_false}
use Rattle.vl_engine_model_laws.specs.laws.Keeps.{frozen_parts}
use Rattle.vl_engine_model_laws.specs.laws.LevelsKept.{levels_flushed}
use Rattle.vl_engine_model_laws.specs.laws.Switches.{flushing}
use Rattle.vl_engine_model_laws.specs.laws.TidyLogs.{all_placed_so, distinct_fewer, format_behind, format_there}
use Rattle.vl_engine_model_laws.specs.laws.TidyLogs.{memtable_placed, none_drawn, sealed_same, switched_placed}
use Rattle.vl_engine_model_laws.specs.laws.WellStocked.{well_begun, well_drawn, well_ended, well_flushed, well_job_ended}
use Rattle.vl_engine_model_laws.specs.laws.WellStocked.{well_keeping, well_logged, well_pass_ended, well_picked}
use Rattle.vl_engine_model_laws.specs.laws.WellStocked.{well_planned, well_relocated, well_rotated, well_swept}

-- ---- entries of all sources

pub each_table : (P : Entry → Type 0) (ts : List Table) → AllByRecursion P (flat_map table_entries ts)
    → AllByRecursion (λ (t : Table). AllByRecursion P t.entries) ts
each_table P [] all = tt
each_table P (t ∷ ts) all =
    let both = all_parts P t.entries (flat_map table_entries ts) all in (both.0, each_table P ts both.1)

pub of_tables : (P : Entry → Type 0) (ts : List Table)
    → AllByRecursion (λ (t : Table). AllByRecursion P t.entries) ts
    → AllByRecursion P (flat_map table_entries ts)
of_tables P [] all = tt
of_tables P (t ∷ ts) all = all_both P t.entries (flat_map table_entries ts) all.0 (of_tables P ts all.1)

-- what is so of a frame's entries and of all before is so of all with the frame
all_logged : (P : Entry → Type 0) (l : Layout) (f : LogFrame) → AllByRecursion P (added l f)
    → AllByRecursion P (sources l) → AllByRecursion P (sources (logged f l))
all_logged P l f new all =
    let parts = all_parts P (memtable l.active) (behind_active l) all in
    all_both P (memtable (logged f l).active) (behind_active l)
    (subst (λ (es : List Entry). AllByRecursion P (in_order es))
    (sym (logged_entries-more l.active.format l.active.number 16 l.active.frames f))
    (all-taken_in P (added l f) (logged_entries l.active.format l.active.number 16 l.active.frames)
    (all_both P (added l f) (memtable l.active) new parts.0)))
    parts.1

longer : (l : Layout) (f : LogFrame) → IsTrueLog l.active → IsTrueLog (logged f l).active
longer l f is =
    let more = sum_by-append (frame_length l.active.format) l.active.frames (f ∷ []) in
    omega (arith, is, more)

one_of : (es : List Entry) (P : Entry → Type 0) (key : List ℕ) (version : ℕ) (e : Entry)
    → exact es key version ≡ Some e → AllByRecursion P es → P e × (is_at key version e ≡ true)
one_of [] P key version e is all = absurd cc
one_of (x ∷ xs) P key version e is all =
    by (is_at key version x) refl is (λ later. one_of xs P key version e later all.1)
  where
    the_one : (a b : Entry) → Some a ≡ Some b → a ≡ b
    the_one a b is = cc

    by : (b : Bool) → is_at key version x ≡ b → cond b (Some x) (exact xs key version) ≡ Some e
        → (exact xs key version ≡ Some e → P e × (is_at key version e ≡ true)) → P e × (is_at key version e ≡ true)
    by true at is later =
        let same = the_one x e is in subst (λ (y : Entry). P y × (is_at key version y ≡ true)) same (all.0, at)
    by false at is later = later is

module _ (logs : Logs) (l : Layout) (h : History) (t : IsTidy logs l h) where
  -- ---- what lives, a pass, a sweep, v

  pub tidy_begun : (ticket : ℕ) → IsTidy logs (begun l ticket (last_number h)) h
  tidy_begun ticket = record {
    files = well_begun l t.files ticket (last_number h);
    levels = t.levels;
    true_tables = t.true_tables;
    true_logs = t.true_logs;
    distinct = t.distinct;
    placed = t.placed;
    versions = t.versions;
    last = t.last;
    some = t.some;
    since = t.since;
    shows = begun_shows_low h l logs ticket t.shows;
    job = λ o is. open_begun l h o.job o.moved (t.job o is) ticket;
  }

  pub tidy_ended : (ticket : ℕ) → IsTidy logs (ended ticket l) h
  tidy_ended ticket = record {
    files = well_ended l t.files ticket;
    levels = t.levels;
    true_tables = t.true_tables;
    true_logs = t.true_logs;
    distinct = t.distinct;
    placed = t.placed;
    versions = t.versions;
    last = t.last;
    some = t.some;
    since = t.since;
    shows = ended_shows_low h l logs ticket t.shows;
    job = λ o is. open_ended l h o.job o.moved (t.job o is) ticket;
  }

  pub tidy_picked : (segment : ℕ) → IsTidy logs (with_pass segment l) h
  tidy_picked segment = record {
    files = well_picked l t.files segment;
    levels = t.levels;
    true_tables = t.true_tables;
    true_logs = t.true_logs;
    distinct = t.distinct;
    placed = t.placed;
    versions = t.versions;
    last = t.last;
    some = t.some;
    since = t.since;
    shows = t.shows;
    job = λ o is. open_picked l h o.job o.moved (t.job o is) segment;
  }

  pub tidy_pass_ended : IsTidy logs (without_pass l) h
  tidy_pass_ended = record {
    files = well_pass_ended l t.files;
    levels = t.levels;
    true_tables = t.true_tables;
    true_logs = t.true_logs;
    distinct = t.distinct;
    placed = t.placed;
    versions = t.versions;
    last = t.last;
    some = t.some;
    since = t.since;
    shows = t.shows;
    job = λ o is. open_still o (t.job o is);
  }
    where
      open_still : (o : OpenJob) → IsOpenWell l h o.job o.moved → IsOpenWell (without_pass l) h o.job o.moved
      open_still o k = record {
        kept = k.kept;
        last = k.last;
        live = k.live;
        given = k.given;
        standing = k.standing;
        fitted = by o.job.target k.fitted;
        roomy = k.roomy;
        some = k.some;
        fits = k.fits;
        of = k.of;
      }
        where
          by : (target : Target) → IsFitted l o.job target → IsFitted (without_pass l) o.job target
          by (Level n) fit = fit
          by InPlace fit = fit

  pub tidy_swept : (gone : List FileName) → IsTidy logs (without_files gone l) h
  tidy_swept gone = record {
    files = well_swept l t.files gone;
    levels = t.levels;
    true_tables = t.true_tables;
    true_logs = t.true_logs;
    distinct = t.distinct;
    placed = t.placed;
    versions = t.versions;
    last = t.last;
    some = t.some;
    since = t.since;
    shows = t.shows;
    job = λ o is. open_swept l h o.job o.moved (t.job o is) gone;
  }

  pub tidy_keeping : (v : ℕ) → 1 ≤ v → IsTidy logs (keeping v h l) h
  tidy_keeping v some = record {
    files = well_keeping l t.files v h;
    levels = t.levels;
    true_tables = t.true_tables;
    true_logs = t.true_logs;
    distinct = t.distinct;
    placed = t.placed;
    versions = t.versions;
    last = t.last;
    some = some;
    since = low (nat_lt l.keep v);
    shows = keeping_shows_low h l logs v t.shows;
    job = λ o is. open_keeping l h o.job o.moved (t.job o is) v t.since;
  }
    where
      low : (b : Bool) → cond b (last_number h) l.since ≤ last_number h
      low true = omega arith
      low false = t.since

  -- ---- a job

  pub tidy_planned : (job : Job) → IsOpenWell (with_job job l) h job [] → IsTidy logs (with_job job l) h
  tidy_planned job k = record {
    files = well_planned l t.files job;
    levels = t.levels;
    true_tables = t.true_tables;
    true_logs = t.true_logs;
    distinct = t.distinct;
    placed = t.placed;
    versions = t.versions;
    last = t.last;
    some = t.some;
    since = t.since;
    shows = t.shows;
    job = λ o is. subst (λ (x : OpenJob). IsOpenWell (with_job job l) h x.job x.moved) (the_one _ o is) k;
  }
    where
      the_one : (a b : OpenJob) → Some a ≡ Some b → a ≡ b
      the_one a b is = cc

  pub tidy_drawn : IsTidy logs (drawn l) h
  tidy_drawn = record {
    files = well_drawn l t.files;
    levels = t.levels;
    true_tables = t.true_tables;
    true_logs = t.true_logs;
    distinct = t.distinct;
    placed = t.placed;
    versions = t.versions;
    last = t.last;
    some = t.some;
    since = t.since;
    shows = t.shows;
    job = by l.job refl;
  }
    where
      by : (j : Option OpenJob) → l.job ≡ j → (o : OpenJob) → lent_to l.next_table j ≡ Some o
          → IsOpenWell (drawn l) h o.job o.moved
      by None was o is = absurd cc
      by (Some j) was o is =
          let job : j.job ≡ o.job = cc in
          let moved : j.moved ≡ o.moved = cc in
          subst (λ (m : List (List ℕ × ℕ)). IsOpenWell (drawn l) h o.job m) moved
          (subst (λ (x : Job). IsOpenWell (drawn l) h x j.moved) job (open_drawn l h j.job j.moved (t.job j was)))

  pub tidy_job_ended : (made : Made) → AreLent (lent_numbers l.job) made → IsTidy logs (job_ended made l) h
  tidy_job_ended made are = record {
    files = well_job_ended l t.files made are;
    levels = t.levels;
    true_tables = t.true_tables;
    true_logs = t.true_logs;
    distinct = t.distinct;
    placed = t.placed;
    versions = t.versions;
    last = t.last;
    some = t.some;
    since = t.since;
    shows = t.shows;
    job = λ o is. absurd cc;
  }

  -- ---- a commit

  commit_versions : (writes : List (List ℕ × Change)) → T (is_sorted key_cmp writes)
      → (place : ℕ) (ws : List (List ℕ × Change))
      → AllByRecursion (λ w. find key_cmp w.0 writes ≡ Some w.1) ws
      → AllByRecursion (IsOf (with_commit h (from_sorted writes)))
      (map (record_entry l.active.format l.active.number) (committed_records l.active.format place (last_number h + 1) ws))
  commit_versions writes rising place [] found = tt
  commit_versions writes rising place (w ∷ ws) found = (
    has-commit h (from_sorted writes) w.0 (ap is_some (get-from_sorted key_cmp writes w.0 rising ∙ found.0)),
    commit_versions writes rising (place + record_length l.active.format w.0 w.1) ws found.1,
  )

  pub tidy_committed : (ticket : ℕ) (writes : List (List ℕ × Change)) → T (is_sorted key_cmp writes)
      → last_number h < max_commit_number
      → ShowsLow logs (logged (commit_frame h writes) (ended ticket l)) (with_commit h (from_sorted writes))
      → IsTidy logs (logged (commit_frame h writes) (ended ticket l)) (with_commit h (from_sorted writes))
  tidy_committed ticket writes rising room shows = record {
    files = well_logged (ended ticket l) (well_ended l t.files ticket) (commit_frame h writes);
    levels = t.levels;
    true_tables = t.true_tables;
    true_logs = (longer l (commit_frame h writes) t.true_logs.0, t.true_logs.1);
    distinct = t.distinct;
    placed = t.placed;
    versions = all_logged (IsOf (with_commit h (from_sorted writes))) (ended ticket l) (commit_frame h writes)
        (commit_versions writes rising (place_behind l.active.format 16 l.active.frames + 17) writes (all_found writes rising))
        (all_weaker (IsOf h) (IsOf (with_commit h (from_sorted writes)))
        (λ e is. versions-stay h (with_commit h (from_sorted writes)) (with_commit-extends h (from_sorted writes))
        e.key e.version is) (sources l) t.versions);
    last = omega (arith, one_more, room);
    some = t.some;
    since = (let low = t.since in omega (arith, one_more, low));
    shows = shows;
    job = λ o is. open_committed l h o.job o.moved (t.job o is) ticket writes;
  }
    where
      one_more : last_number (with_commit h (from_sorted writes)) ≡ last_number h + 1
      one_more = let both = length-append h.commits (from_sorted {R = key_cmp} writes ∷ []) in omega (arith, both)

  -- ---- a relocation

  moved_versions : (place : ℕ) (ms : List Moved)
      → AllByRecursion (λ (m : Moved). has m.version (versions h m.key) ≡ true) ms
      → AllByRecursion (IsOf h) (map (record_entry l.active.format l.active.number) (relocated_records l.active.format place ms))
  moved_versions place [] all = tt
  moved_versions place (m ∷ ms) all = (all.0, moved_versions (place + moved_length l.active.format m) ms all.1)

  -- what is moved is of a version that the sources have
  pub moved_known : (segment last : ℕ) (batch : List Candidate)
      → AllByRecursion (λ (m : Moved). has m.version (versions h m.key) ≡ true) (moved_of (sources l) segment last batch)
  moved_known segment last [] = tt
  moved_known segment last (c ∷ cs) = by (is_moved (sources l) segment last c) refl (moved_known segment last cs)
    where
      Known : Moved → Type 0
      Known m = has m.version (versions h m.key) ≡ true

      won : (o : Option Entry) → exact (sources l) c.moved.key c.moved.version ≡ o
          → leads_to segment c.place o ≡ true → has c.moved.version (versions h c.moved.key) ≡ true
      won None is leads = absurd (true_false (sym leads))
      won (Some e) is leads =
          let found = one_of (sources l) (IsOf h) c.moved.key c.moved.version e is t.versions in
          let both = and_parts (eq_by_cmp key_cmp c.moved.key e.key) (e.version == c.moved.version) found.1 in
          let same : e.version ≡ c.moved.version = (let at = both.1 in grind (arith, nat_tests, at)) in
          subst (λ (v : ℕ). has v (versions h c.moved.key) ≡ true) same
          (subst (λ (k : List ℕ). has e.version (versions h k) ≡ true)
          (sym (Rattle.vl_model.specs.laws.WinnerLaws.same_key c.moved.key e.key both.0)) found.0)

      by : (b : Bool) → is_moved (sources l) segment last c ≡ b
          → AllByRecursion (λ (m : Moved). has m.version (versions h m.key) ≡ true) (moved_of (sources l) segment last cs)
          → AllByRecursion (λ (m : Moved). has m.version (versions h m.key) ≡ true)
          (map (λ (x : Candidate). x.moved)
          (cond b (c ∷ filter (is_moved (sources l) segment last) cs) (filter (is_moved (sources l) segment last) cs)))
      by true is later = (
        won (exact (sources l) c.moved.key c.moved.version) refl
            (and_parts (wins_exactly (sources l) segment c.moved.key c.moved.version c.place) (nat_le c.moved.version last) is).0,
        later,
      )
      by false is later = later

  pub tidy_relocated : (moved : List Moved)
      → AllByRecursion (λ (m : Moved). has m.version (versions h m.key) ≡ true) moved
      → ShowsLow logs (relocated l moved) h → IsTidy logs (relocated l moved) h
  tidy_relocated moved known shows = record {
    files = well_relocated l t.files moved;
    levels = t.levels;
    true_tables = t.true_tables;
    true_logs = (longer l (Relocated moved) t.true_logs.0, t.true_logs.1);
    distinct = t.distinct;
    placed = t.placed;
    versions =
        all_logged (IsOf h) l (Relocated moved)
        (moved_versions (place_behind l.active.format 16 l.active.frames + 9) moved known) t.versions;
    last = t.last;
    some = t.some;
    since = t.since;
    shows = shows;
    job = by l.job refl;
  }
    where
      by : (j : Option OpenJob) → l.job ≡ j → (o : OpenJob)
          → with_moves (l.epoch + 1) moved j ≡ Some o
          → IsOpenWell (relocated l moved) h o.job o.moved
      by None was o is = absurd cc
      by (Some j) was o is =
          let job : j.job ≡ o.job = cc in
          let with_new : moves_at (l.epoch + 1) moved ++ j.moved ≡ o.moved = cc in
          subst (λ (m : List (List ℕ × ℕ)). IsOpenWell (relocated l moved) h o.job m) with_new
          (subst (λ (x : Job). IsOpenWell (relocated l moved) h x (moves_at (l.epoch + 1) moved ++ j.moved))
          job (open_relocated l h j.job j.moved (t.job j was) moved))

  -- ---- a rotation

  pub tidy_rotated : ShowsLow logs (rotated l) h → IsTidy logs (rotated l) h
  tidy_rotated shows = record {
    files = well_rotated l t.files;
    levels = t.levels;
    true_tables = t.true_tables;
    true_logs = (refl, t.true_logs);
    distinct = (none_drawn l.next_log (l.active ∷ sealed l) all_drawn, t.distinct);
    placed =
        all_weaker (λ (u : Table). AllByRecursion (IsPlacedIn (sealed l)) u.entries)
        (λ (u : Table). AllByRecursion (IsPlacedIn (l.active ∷ sealed l)) u.entries)
        (λ u all. all_placed_so (sealed l) (l.active ∷ sealed l) u.entries
        (λ n f into is. format_behind l.active (sealed l) n f t.distinct.0 is) all) (tables l) t.placed;
    versions = subst (AllByRecursion (IsOf h)) (sym (sources-rotated l)) t.versions;
    last = t.last;
    some = t.some;
    since = t.since;
    shows = shows;
    job = λ o is. open_rotated l h o.job o.moved (t.job o is);
  }
    where
      all_drawn : AllByRecursion (λ (s : Segment). s.number < l.next_log) (l.active ∷ sealed l)
      all_drawn = (
        t.files.stocked.logs_drawn.0,
        all_both (λ (s : Segment). s.number < l.next_log) l.frozen l.flushed
            t.files.stocked.logs_drawn.1 t.files.stocked.flushed_drawn,
      )

  -- ---- a flush

  pub tidy_flushed : (s : Segment) → oldest l.frozen ≡ Some s → ShowsLow logs (flushed l s) h
      → (level : List Table) (deeper : List (List Table)) → l.levels ≡ level ∷ deeper
      → IsTidy logs (flushed l s) h
  tidy_flushed s waits shows level deeper are = record {
    files = well_flushed l t.files s level deeper waits are;
    levels = levels_flushed l s t.levels t.files.stocked.tables_drawn;
    true_tables = subst (AllByRecursion IsTrueTable) (sym new) (refl, t.true_tables);
    true_logs = (
      t.true_logs.0,
      (let parts = all_parts IsTrueLog (but_oldest l.frozen) (s ∷ l.flushed)
          (subst (AllByRecursion IsTrueLog) (sym (sealed_same l s waits)) t.true_logs.1) in
          all_both IsTrueLog (but_oldest l.frozen) (flushed l s).flushed parts.0
          (all_filtered IsTrueLog (λ (x : Segment). not (is_idle (flushing l s) x)) (s ∷ l.flushed) parts.1)),
    );
    distinct =
        distinct_fewer (λ (x : Segment). not (is_idle (flushing l s) x)) (l.active ∷ but_oldest l.frozen) (s ∷ l.flushed) there;
    placed = switched_placed (flushing l s) [] (well_flushed l t.files s level deeper waits are).stocked.footed
        (subst (AllByRecursion (λ (u : Table). AllByRecursion (IsPlacedIn (sealed (flushing l s))) u.entries)) (sym new) (
          memtable_placed (sealed (flushing l s)) s (format_there (but_oldest l.frozen) s l.flushed there.1),
          subst (λ (ss : List Segment). AllByRecursion (λ (u : Table). AllByRecursion (IsPlacedIn ss) u.entries)
              (tables l)) (sym (sealed_same l s waits)) t.placed,
        ));
    versions = (let parts = all_parts (IsOf h) (memtable l.active) (behind_active l) t.versions in
        let behind = all_parts (IsOf h) (flat_map memtable l.frozen) (flat_map table_entries (tables l)) parts.1 in
        let frozen = all_parts (IsOf h) (flat_map memtable (but_oldest l.frozen)) (memtable s)
        (subst (AllByRecursion (IsOf h)) (frozen_parts l.frozen s waits) behind.0) in
        all_both (IsOf h) (memtable l.active) (behind_active (flushed l s)) parts.0
        (all_both (IsOf h) (flat_map memtable (but_oldest l.frozen)) (flat_map table_entries (tables (flushed l s))) frozen.0
        (subst (λ (ts : List Table). AllByRecursion (IsOf h) (flat_map table_entries ts)) (sym new)
        (all_both (IsOf h) (map placed (memtable s)) (flat_map table_entries (tables l)) (still_of (memtable s) frozen.1) behind.1))));
    last = t.last;
    some = t.some;
    since = t.since;
    shows = shows;
    job = λ o is. open_flushed l h o.job o.moved (t.job o is) s level deeper waits are;
  }
    where
      new : tables (flushed l s) ≡ flushed_table l s ∷ tables l
      new =
          ap (λ (levels : List (List Table)). flat_map (λ ts. ts) (in_front (flushed_table l s) levels)) are
          ∙ ap (λ (levels : List (List Table)). flushed_table l s ∷ flat_map (λ ts. ts) levels) (sym are)

      there : AreDistinct (log_numbers (l.active ∷ (but_oldest l.frozen ++ s ∷ l.flushed)))
      there =
          subst (λ (ss : List Segment). AreDistinct (log_numbers (l.active ∷ ss))) (sym (sealed_same l s waits)) t.distinct

      still_of : (es : List Entry) → AllByRecursion (IsOf h) es → AllByRecursion (IsOf h) (map placed es)
      still_of [] all = tt
      still_of (e ∷ es) all = (all.0, still_of es all.1)
