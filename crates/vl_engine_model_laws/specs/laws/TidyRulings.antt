-- What is kept tidy stays so, whatever a call answers.
use Rattle.std.proofs.Common.{◌≡◌, ℕ, ◌+◌, ◌≤◌, ◌<◌, Bool, true, false, not, ◌||◌, List, [], ◌∷◌, length, refl, sym, subst, arith}
use Rattle.std.proofs.lemmas.Bool.Decides.{nat_tests}
use Rattle.std.specs.Prelude.{Option, Some, None, T, ◌==◌, nat_le, nat_lt, if◌then◌else◌}
use Rattle.std.specs.FinMap.{is_sorted}
use Rattle.std.specs.List.{AllByRecursion, filter, flat_map}
use Rattle.vl_model.specs.Conflicts.{Named, first_conflict}
use Rattle.vl_model.specs.Frames.{frame_length}
use Rattle.vl_model.specs.History.{History, last_number}
use Rattle.vl_model.specs.Keys.{key_cmp}
use Rattle.vl_model.specs.Limits.{max_commit_number, max_live}
use Rattle.vl_model.specs.Numbers.{has}
use Rattle.vl_model.specs.Versions.{versions}
use Rattle.vl_model.specs.Winners.{Logs}
use Rattle.vl_model.specs.laws.VersionLaws.{versions-up}
use Rattle.vl_model.specs.declared.entry.Entry.{Entry}
use Rattle.vl_model.specs.declared.log_frame.LogFrame.{LogFrame}
use Rattle.vl_model.specs.declared.log_frame.LogFrame.TheVariants.{Relocated}
use Rattle.vl_model.specs.declared.log_frame.Moved.{Moved}
use Rattle.vl_engine_model.specs.Garbage.{best}
use Rattle.vl_engine_model.specs.Jobs.{AreLent, AreOutputs, Made, job_ended, lent_numbers}
use Rattle.vl_engine_model.specs.Levels.{due_from, first_into, inputs_at, is_among}
use Rattle.vl_engine_model.specs.Logs.{memtable}
use Rattle.vl_engine_model.specs.Merging.{outputs}
use Rattle.vl_engine_model.specs.OpenJobs.{IsOpenWell}
use Rattle.vl_engine_model.specs.Relocation.{Candidate, Pass, moved_of}
use Rattle.vl_engine_model.specs.Ruling.{Ruling, has_no_number, has_no_epoch, is_idle}
use Rattle.vl_engine_model.specs.Rulings.Abandon.{abandon_ruling}
use Rattle.vl_engine_model.specs.Rulings.Begin.{begin_ruling}
use Rattle.vl_engine_model.specs.Rulings.Commit.{Transaction, commit_checked, commit_frame, commit_ruling, commit_running}
use Rattle.vl_engine_model.specs.Rulings.Commit.{commit_unless, committed}
use Rattle.vl_engine_model.specs.Rulings.Drain.{drain_of, drain_ruling, drain_unless}
use Rattle.vl_engine_model.specs.Rulings.EndPass.{end_pass_ruling}
use Rattle.vl_engine_model.specs.Rulings.Flush.{flush_of, flush_ruling, flush_unless}
use Rattle.vl_engine_model.specs.Rulings.Forget.{forget_ruling}
use Rattle.vl_engine_model.specs.Rulings.Fresh.{fresh_ruling, fresh_unless}
use Rattle.vl_engine_model.specs.Rulings.Install.{install_checked, install_ruling, install_unless, installed, moved_since, put_in, race}
use Rattle.vl_engine_model.specs.Rulings.Keep.{keep_ruling, keep_unless}
use Rattle.vl_engine_model.specs.Rulings.Pick.{pick_best, pick_ruling, pick_unless}
use Rattle.vl_engine_model.specs.Rulings.Plan.{job_of, plan_of, plan_ruling, plan_unless}
use Rattle.vl_engine_model.specs.Rulings.Release.{release_ruling}
use Rattle.vl_engine_model.specs.Rulings.Relocate.{relocate_of, relocate_ruling, relocate_unless}
use Rattle.vl_engine_model.specs.Rulings.Rotate.{rotate_of, rotate_ruling, rotate_unless}
use Rattle.vl_engine_model.specs.Rulings.Sweep.{sweep_ruling, sweep_to_ruling, sweep_unless, swept}
use Rattle.vl_engine_model.specs.Rulings.View.{View}
use Rattle.vl_engine_model.specs.Shown.{ArePlaced, IsOf, IsThere, ShowsLow}
use Rattle.vl_engine_model.specs.Sources.{behind_active, oldest, sources, table_entries, tables}
use Rattle.vl_engine_model.specs.Stock.{IsWellStocked}
use Rattle.vl_engine_model.specs.Tickets.{free_ticket, tickets_of}
use Rattle.vl_engine_model.specs.Tidy.{IsPlacedIn, IsTidy, IsTrueLog, IsTrueTable, sealed}
use Rattle.vl_engine_model.specs.TidyLevels.{AreLevels}
use Rattle.vl_engine_model.specs.declared.file_name.FileName.{FileName}
use Rattle.vl_engine_model.specs.declared.job.Job.{Job}
use Rattle.vl_engine_model.specs.declared.job.OpenJob.{OpenJob}
use Rattle.vl_engine_model.specs.declared.job.OpenPass.{OpenPass}
use Rattle.vl_engine_model.specs.declared.job.Target.TheVariants.{Level, InPlace}
use Rattle.vl_engine_model.specs.declared.layout.Layout.{Layout}
use Rattle.vl_engine_model.specs.declared.segment.Segment.{Segment}
use Rattle.vl_engine_model.specs.declared.segment.SegmentStat.{SegmentStat}
use Rattle.vl_engine_model.specs.declared.table.Table.{Table}
use Rattle.vl_engine_model.specs.laws.LowRulings.{commit_shows_low, flush_shows_low, relocate_shows_low, rotate_shows_low}
use Rattle.vl_engine_model_laws.specs.laws.Beside.{open_installs_low}
use Rattle.vl_engine_model_laws.specs.laws.Files.{all_both, all_filtered, all_parts, all_weaker, or_false}
use Rattle.vl_engine_model_laws.specs.laws.InstallTidy.{distinct_made, lent_here, other_made}
use Rattle.vl_engine_model_laws.specs.laws.JobTables.{all_made, made_below, made_footed, made_from, made_into}
use Rattle.vl_engine_model_laws.specs.laws.LevelsKept.{levels_replaced}
use Rattle.vl_engine_model_laws.specs.laws.PlanOpen.{drain_of-well, plan_of-well}
use Rattle.vl_engine_model_laws.specs.laws.Switches.{all_replaced}
use Rattle.vl_engine_model_laws.specs.laws.TidyLogs.{distinct_fewer, switched_placed}
use Rattle.vl_engine_model_laws.specs.laws.TidySteps.{each_table, moved_known, of_tables, tidy_begun, tidy_committed}
use Rattle.vl_engine_model_laws.specs.laws.TidySteps.{tidy_drawn, tidy_ended, tidy_flushed, tidy_job_ended, tidy_keeping}
use Rattle.vl_engine_model_laws.specs.laws.TidySteps.{tidy_pass_ended, tidy_picked, tidy_planned, tidy_relocated}
use Rattle.vl_engine_model_laws.specs.laws.TidySteps.{tidy_rotated, tidy_swept}
use Rattle.vl_engine_model_laws.specs.laws.WellInstalled.{well_installed}

first_level : (levels : List (List Table)) → AreLevels levels
    → (level : List Table) × (deeper : List (List Table)) × (levels ≡ level ∷ deeper)
first_level [] are = absurd (let seven = are.seven in omega (arith, seven))
first_level (level ∷ deeper) are = (level, deeper, refl)

module _ (logs : Logs) (l : Layout) (h : History) (t : IsTidy logs l h) where
  -- where what is left shows what it should
  abbrev pub LeavesTidy : {A : Type 0} → Ruling A → Type 0
  LeavesTidy r = ShowsLow logs r.layout r.history → IsTidy logs r.layout r.history

  abbrev pub StaysTidy : {A : Type 0} → Ruling A → Type 0
  StaysTidy r = IsTidy logs r.layout r.history

  one_of_two : {A : Type 0} (b : Bool) (x y : Ruling A) → StaysTidy x → (b ≡ false → StaysTidy y)
      → StaysTidy (if b then x else y)
  one_of_two true x y one other = one
  one_of_two false x y one other = other refl

  either : {A : Type 0} (b : Bool) (x y : Ruling A) → LeavesTidy x → (b ≡ false → LeavesTidy y)
      → LeavesTidy (if b then x else y)
  either true x y one other = one
  either false x y one other = other refl

  pub begin_tidy : StaysTidy (begin_ruling l h)
  begin_tidy =
      one_of_two (nat_le max_live (length l.live)) _ _ t (λ room. tidy_begun logs l h t (free_ticket (tickets_of l.live)))

  -- ---- a commit

  module _ (x : Transaction) (rising : T (is_sorted key_cmp x.writes)) where
    checked : last_number h < max_commit_number → (conflict : Option Named) → LeavesTidy (commit_checked l h x conflict)
    checked room (Some named) = λ shows. tidy_ended logs l h t x.ticket
    checked room None =
        either (nat_le (l.active.length + frame_length l.active.format (commit_frame h x.writes)) l.room)
        (committed l h x) _ (tidy_committed logs l h t x.ticket x.writes rising room) (λ no shows. t)

    running : (conflict : Option Named) → LeavesTidy (commit_running l h x conflict)
    running conflict =
        either (length x.writes == 0) _ _ (λ shows. tidy_ended logs l h t x.ticket)
        (λ some. either (nat_le max_commit_number (last_number h)) _ _ (λ shows. t)
        (λ low. checked (grind (arith, nat_tests, low)) conflict))

    unless : (halted : Option FileName) (conflict : Option Named) → LeavesTidy (commit_unless halted l h x conflict)
    unless (Some name) conflict = λ shows. tidy_ended logs l h t x.ticket
    unless None conflict = running conflict

    pub commit_tidy : StaysTidy (commit_ruling l h x)
    commit_tidy =
        unless l.halted (first_conflict h x.number x.reads) (commit_shows_low h l logs x rising up_to t.shows)
      where
        up_to : AllByRecursion (λ (e : Entry). e.version ≤ last_number h) (sources l)
        up_to =
            all_weaker (IsOf h) (λ (e : Entry). e.version ≤ last_number h) (λ e is. versions-up h e.key e.version is) (sources l) t.versions

  pub forget_tidy : (x : Transaction) → StaysTidy (forget_ruling l h x)
  forget_tidy x = tidy_ended logs l h t x.ticket

  pub release_tidy : (v : View) → StaysTidy (release_ruling l h v)
  release_tidy v = tidy_ended logs l h t v.ticket

  -- ---- a rotation, a flush, a relocation

  rotate_by : (frames : List LogFrame) → LeavesTidy (rotate_of frames l h)
  rotate_by [] = λ shows. t
  rotate_by (f ∷ fs) =
      either (has_no_number l.next_log 1) _ _ (λ shows. t)
      (λ one. either (has_no_epoch l) _ _ (λ shows. t) (λ two shows. tidy_rotated logs l h t shows))

  rotate_unless-tidy : (halted : Option FileName) → LeavesTidy (rotate_unless halted l h)
  rotate_unless-tidy (Some name) = λ shows. t
  rotate_unless-tidy None = rotate_by l.active.frames

  pub rotate_tidy : StaysTidy (rotate_ruling l h)
  rotate_tidy = rotate_unless-tidy l.halted (rotate_shows_low h l logs t.shows)

  flush_by : (o : Option Segment) → oldest l.frozen ≡ o → LeavesTidy (flush_of l h o)
  flush_by None is = λ shows. t
  flush_by (Some s) is =
      let first = first_level l.levels t.levels in
      either (has_no_number l.next_table 1) _ _ (λ shows. t)
      (λ one. either (has_no_epoch l) _ _ (λ shows. t) (λ two shows. tidy_flushed logs l h t s is shows first.0 first.1 first.2))

  flush_unless-tidy : (halted : Option FileName) → LeavesTidy (flush_unless halted l h)
  flush_unless-tidy (Some name) = λ shows. t
  flush_unless-tidy None = flush_by (oldest l.frozen) refl

  pub flush_tidy : ((s : Segment) → oldest l.frozen ≡ Some s → ArePlaced logs (memtable s))
      → StaysTidy (flush_ruling l h)
  flush_tidy found =
      let first = first_level l.levels t.levels in
      flush_unless-tidy l.halted (flush_shows_low h l logs first.0 first.1 first.2 found t.shows)

  relocate_by : (moved : List Moved)
      → AllByRecursion (λ (m : Moved). has m.version (versions h m.key) ≡ true) moved
      → LeavesTidy (relocate_of l h moved)
  relocate_by [] known = λ shows. t
  relocate_by (m ∷ ms) known =
      either (has_no_epoch l) _ _ (λ shows. t)
      (λ one. either (nat_le (l.active.length + frame_length l.active.format (Relocated (m ∷ ms))) l.room) _ _
      (λ shows. tidy_relocated logs l h t (m ∷ ms) known shows) (λ two shows. t))

  relocate_unless-tidy : (pass : Pass) (batch : List Candidate) (halted : Option FileName)
      → LeavesTidy (relocate_unless halted l h pass batch)
  relocate_unless-tidy pass batch (Some name) = λ shows. t
  relocate_unless-tidy pass batch None =
      relocate_by (moved_of (sources l) pass.segment (last_number h) batch) (moved_known logs l h t pass.segment (last_number h) batch)

  pub relocate_tidy : (pass : Pass) (batch : List Candidate) → AllByRecursion (IsThere logs pass.segment) batch
      → StaysTidy (relocate_ruling l h pass batch)
  relocate_tidy pass batch there =
      relocate_unless-tidy pass batch l.halted (relocate_shows_low h l logs pass batch there t.shows)

  -- ---- jobs

  table_versions : AllByRecursion (λ (u : Table). AllByRecursion (IsOf h) u.entries) (tables l)
  table_versions =
      let parts = all_parts (IsOf h) (memtable l.active) (behind_active l) t.versions in
      each_table (IsOf h) (tables l) (all_parts (IsOf h) (flat_map memtable l.frozen) (flat_map table_entries (tables l)) parts.1).1

  plan_by : (o : Option ℕ) → due_from 0 l.levels ≡ o → IsTidy logs (plan_of l h o).layout h
  plan_by None is = t
  plan_by (Some n) is =
      let job = job_of l h (inputs_at n l.levels) (Level (n + 1)) in
      tidy_planned logs l h t job (plan_of-well l h t.levels t.files.stocked.tables_drawn t.some table_versions (Some n) is job refl)

  plan_unless-tidy : (o : Option OpenJob) → IsTidy logs (plan_unless o l h).layout (plan_unless o l h).history
  plan_unless-tidy (Some o) = t
  plan_unless-tidy None = by (due_from 0 l.levels) refl
    where
      by : (o : Option ℕ) → due_from 0 l.levels ≡ o → StaysTidy (plan_of l h o)
      by None is = plan_by None is
      by (Some n) is = plan_by (Some n) is

  pub plan_tidy : StaysTidy (plan_ruling l h)
  plan_tidy = plan_unless-tidy l.job

  drain_by : (segment : ℕ) (o : Option Table) → first_into segment (tables l) ≡ o → StaysTidy (drain_of l h o)
  drain_by segment None is = t
  drain_by segment (Some u) is =
      let job = job_of l h (u ∷ []) InPlace in
      tidy_planned logs l h t job
      (drain_of-well l h t.levels t.files.stocked.tables_drawn t.some table_versions segment (Some u) is job refl)

  drain_unless-tidy : (segment : ℕ) (o : Option OpenJob)
      → IsTidy logs (drain_unless o l h segment).layout (drain_unless o l h segment).history
  drain_unless-tidy segment (Some o) = t
  drain_unless-tidy segment None = drain_by segment (first_into segment (tables l)) refl

  pub drain_tidy : (segment : ℕ) → StaysTidy (drain_ruling l h segment)
  drain_tidy segment = drain_unless-tidy segment l.job

  fresh_unless-tidy : (halted : Option FileName) → StaysTidy (fresh_unless halted l h)
  fresh_unless-tidy (Some name) = t
  fresh_unless-tidy None = one_of_two (has_no_number l.next_table 1) _ _ t (λ room. tidy_drawn logs l h t)

  pub fresh_tidy : StaysTidy (fresh_ruling l h)
  fresh_tidy = fresh_unless-tidy l.halted

  pub abandon_tidy : (job : Job) (made : Made) → AreLent (lent_numbers l.job) made
      → StaysTidy (abandon_ruling l h job made)
  abandon_tidy job made are = tidy_job_ended logs l h t made are

  module _ (o : OpenJob) (is : l.job ≡ Some o) (made : Made) (all : AreOutputs o.job made) (lent : AreLent o.lent made) where
    k : IsOpenWell l h o.job o.moved
    k = t.job o is

    given_up : IsTidy logs (job_ended made l) h
    given_up = tidy_job_ended logs l h t made (lent_here l h o is made t.files t.levels (t.job o is) all lent)

    stocked : IsWellStocked (installed o.job made l)
    stocked =
        well_installed l t.files o.job made (lent_here l h o is made t.files t.levels (t.job o is) all lent) (t.job o is).standing
        (made_footed l h o.job o.moved (t.job o is) made all t.files.stocked.footed)
        (made_into l h o.job o.moved (t.job o is) made all t.files.stocked.footed)
        (made_below l h o.job o.moved (t.job o is) made all t.files.stocked.footed t.files.drawn.points)
        t.levels.distinct

    -- what is so of all tables' entries is so of all tables' entries then
    of_all : (Q : Entry → Type 0) → AllByRecursion (λ (u : Table). AllByRecursion Q u.entries) (tables l)
        → AllByRecursion (λ (u : Table). AllByRecursion Q u.entries) (tables (installed o.job made l))
    of_all Q each = all_replaced (λ (u : Table). AllByRecursion Q u.entries) o.job.inputs made.tables
        (subst (AllByRecursion (λ (u : Table). AllByRecursion Q u.entries)) (sym all.tables)
        (all_made (AllByRecursion Q) (λ (u : Table). AllByRecursion Q u.entries) (λ n es these. these) all.numbers
        (outputs o.job) (made_from l h o.job o.moved (t.job o is) made all Q each)))
        o.job.target l.levels
        (all_weaker (λ (u : Table). AllByRecursion Q u.entries)
        (λ (u : Table). is_among o.job.inputs u ≡ false → AllByRecursion Q u.entries) (λ u these out. these) (tables l) each)

    tidy_installed : ShowsLow logs (installed o.job made l) h → IsTidy logs (installed o.job made l) h
    tidy_installed shows = record {
      files = stocked;
      levels =
          levels_replaced l h o.job o.moved (t.job o is) made all t.levels
          (distinct_made l h o is made t.files t.levels (t.job o is) all lent)
          (other_made l h o is made t.files t.levels (t.job o is) all lent);
      true_tables = all_replaced IsTrueTable o.job.inputs made.tables
          (subst (AllByRecursion IsTrueTable) (sym all.tables)
          (all_made (λ es. Unit {0}) IsTrueTable (λ n es any. refl) all.numbers (outputs o.job) (everything (outputs o.job))))
          o.job.target l.levels
          (all_weaker IsTrueTable (λ (u : Table). is_among o.job.inputs u ≡ false → IsTrueTable u)
          (λ u these out. these) (tables l) t.true_tables);
      true_logs = (
        t.true_logs.0,
        (let parts = all_parts IsTrueLog l.frozen l.flushed t.true_logs.1 in
            all_both IsTrueLog l.frozen (installed o.job made l).flushed parts.0
            (all_filtered IsTrueLog (λ (x : Segment). not (is_idle (put_in o.job made l) x)) l.flushed parts.1)),
      );
      distinct =
          distinct_fewer (λ (x : Segment). not (is_idle (put_in o.job made l) x)) (l.active ∷ l.frozen) l.flushed t.distinct;
      placed =
          switched_placed (put_in o.job made l) (filter (is_among o.job.inputs) (tables l)) stocked.stocked.footed
          (of_all (IsPlacedIn (sealed l)) t.placed);
      versions = (let parts = all_parts (IsOf h) (memtable l.active) (behind_active l) t.versions in
          let behind = all_parts (IsOf h) (flat_map memtable l.frozen) (flat_map table_entries (tables l)) parts.1 in
          all_both (IsOf h) (memtable l.active) (behind_active (installed o.job made l)) parts.0
          (all_both (IsOf h) (flat_map memtable l.frozen) (flat_map table_entries (tables (installed o.job made l))) behind.0
          (of_tables (IsOf h) (tables (installed o.job made l)) (of_all (IsOf h) table_versions))));
      last = t.last;
      some = t.some;
      since = t.since;
      shows = shows;
      job = λ o' no. absurd cc;
    }
      where
        everything : (ess : List (List Entry)) → AllByRecursion (λ (es : List Entry). Unit {0}) ess
        everything [] = tt
        everything (es ∷ ess) = (tt, everything ess)

    install_by : (named : Option Named) → LeavesTidy (install_checked l h o.job made named)
    install_by (Some named) = λ shows. given_up
    install_by None = either (has_no_epoch l) _ _ (λ shows. given_up) (λ no shows. tidy_installed shows)

    install_unless-tidy : (halted : Option FileName) → LeavesTidy (install_unless halted l h o.job made)
    install_unless-tidy (Some name) = λ shows. given_up
    install_unless-tidy None = install_by (race o.job (moved_since l.job))

    pub install_tidy : StaysTidy (install_ruling l h o.job made)
    install_tidy = install_unless-tidy l.halted (open_installs_low logs l h o is made all (t.job o is) t.shows)

  -- ---- a pass, a sweep, how many versions are kept

  pick_by : (o : Option SegmentStat) → StaysTidy (pick_best l h o)
  pick_by None = t
  pick_by (Some x) = tidy_picked logs l h t x.segment

  pick_unless-tidy : (percent : ℕ) (o : Option OpenPass) → StaysTidy (pick_unless o l h percent)
  pick_unless-tidy percent (Some pass) = t
  pick_unless-tidy percent None = pick_by (best l percent)

  pub pick_tidy : (percent : ℕ) → StaysTidy (pick_ruling l h percent)
  pick_tidy percent =
      one_of_two ((percent == 0) || nat_lt 99 percent) _ _ t (λ fair. pick_unless-tidy percent l.pass)

  pub end_pass_tidy : (pass : Pass) → StaysTidy (end_pass_ruling l h pass)
  end_pass_tidy pass = tidy_pass_ended logs l h t

  sweep_unless-tidy : (least : Option ℕ) (halted : Option FileName)
      → IsTidy logs (sweep_unless halted least l h).layout (sweep_unless halted least l h).history
  sweep_unless-tidy least (Some name) = t
  sweep_unless-tidy least None = tidy_swept logs l h t (swept least l)

  pub sweep_tidy : StaysTidy (sweep_ruling l h)
  sweep_tidy = sweep_unless-tidy None l.halted

  pub sweep_to_tidy : (least : ℕ) → StaysTidy (sweep_to_ruling l h least)
  sweep_to_tidy least = sweep_unless-tidy (Some least) l.halted

  keep_unless-tidy : (v : ℕ) (halted : Option FileName) → StaysTidy (keep_unless halted l h v)
  keep_unless-tidy v (Some name) = t
  keep_unless-tidy v None =
      one_of_two ((v == 0) || nat_lt 16 v) _ _ t (λ fair. one_of_two (v == l.keep) _ _ t (λ other. tidy_keeping logs l h t v (some v fair)))
    where
      some : (n : ℕ) → ((n == 0) || nat_lt 16 n) ≡ false → 1 ≤ n
      some n fair =
          let both = or_false (n == 0) (nat_lt 16 n) fair in let no = both.0 in grind (arith, nat_tests, no)

  pub keep_tidy : (v : ℕ) → StaysTidy (keep_ruling l h v)
  keep_tidy v = keep_unless-tidy v l.halted
