-- Each call's ruling keeps what is so of an engine's files, those that were lent to a job among them.
use Rattle.std.proofs.Common.{◌≡◌, ℕ, ◌+◌, Bool, true, false, not, ◌||◌, List, [], ◌∷◌, ◌++◌, map, refl, sym, ◌∙◌}
use Rattle.std.proofs.Common.{subst, arith, append_assoc}
use Rattle.std.proofs.lemmas.Bool.{false≢true}
use Rattle.std.proofs.lemmas.Bool.Decides.{nat_tests}
use Rattle.std.specs.Prelude.{Option, Some, None, ◌==◌}
use Rattle.std.specs.List.{AllByRecursion, flat_map, list_any}
use Rattle.vl_model.specs.History.{History}
use Rattle.vl_model.specs.Numbers.{has}
use Rattle.vl_model.specs.declared.log_frame.LogFrame.{LogFrame}
use Rattle.vl_model.specs.declared.log_frame.Moved.{Moved}
use Rattle.vl_engine_model.specs.Jobs.{Made, loose, lent_numbers, job_ended, AreDistinct, AreLent}
use Rattle.vl_engine_model.specs.Ruling.{logged, ended, retired_at}
use Rattle.vl_engine_model.specs.Rulings.Begin.{begun}
use Rattle.vl_engine_model.specs.Rulings.EndPass.{without_pass}
use Rattle.vl_engine_model.specs.Rulings.Flush.{flushed}
use Rattle.vl_engine_model.specs.Rulings.Fresh.{lent_to, drawn}
use Rattle.vl_engine_model.specs.Rulings.Keep.{keeping}
use Rattle.vl_engine_model.specs.Rulings.Pick.{with_pass}
use Rattle.vl_engine_model.specs.Rulings.Plan.{with_job}
use Rattle.vl_engine_model.specs.Rulings.Relocate.{with_moves, relocated}
use Rattle.vl_engine_model.specs.Rulings.Rotate.{rotated}
use Rattle.vl_engine_model.specs.Rulings.Sweep.{is_same, job_pin, pass_pin, pins, without_files}
use Rattle.vl_engine_model.specs.Sources.{log_of, pointed_logs, needed, numbers_of, oldest, table_of, tables}
use Rattle.vl_engine_model.specs.Stock.{AreOnce, IsLogOff, files_of, is_in, IsDrawn, IsUnneeded, IsOff, IsPinned, IsStocked}
use Rattle.vl_engine_model.specs.Stock.{IsDrawnWhole, with_lent, IsNotLent, IsWellStocked}
use Rattle.vl_engine_model.specs.declared.file_name.FileName.{FileName}
use Rattle.vl_engine_model.specs.declared.file_name.FileName.TheVariants.{Log, Table as TableFile, Manifest}
use Rattle.vl_engine_model.specs.declared.file_name.Retired.{Retired}
use Rattle.vl_engine_model.specs.declared.job.Job.{Job}
use Rattle.vl_engine_model.specs.declared.job.OpenJob.{OpenJob}
use Rattle.vl_engine_model.specs.declared.layout.Layout.{Layout}
use Rattle.vl_engine_model.specs.declared.live.Live.{Live}
use Rattle.vl_engine_model.specs.declared.live.Pin.{Pin}
use Rattle.vl_engine_model.specs.declared.segment.Segment.{Segment}
use Rattle.vl_engine_model.specs.declared.table.Table.{Table}
use Rattle.vl_engine_model_laws.specs.laws.Files.{all_weaker, all_both, all_parts, all_filtered, is_not, itself, or_right, same_file}
use Rattle.vl_engine_model_laws.specs.laws.Once.{files-both, log_not_loose, loose_once, off_both, off_filtered, once_both}
use Rattle.vl_engine_model_laws.specs.laws.Once.{once_filtered, switched_apart, switched_once}
use Rattle.vl_engine_model_laws.specs.laws.Steps.{in_logs, nothing_more, stocked_begun, stocked_ended, stocked_planned}
use Rattle.vl_engine_model_laws.specs.laws.Steps.{stocked_picked, stocked_freed, stocked_pass_ended, stocked_logged}
use Rattle.vl_engine_model_laws.specs.laws.Steps.{stocked_relocated, stocked_rotated}
use Rattle.vl_engine_model_laws.specs.laws.Streaming.{lending, stocked_lent}
use Rattle.vl_engine_model_laws.specs.laws.Drawn.{drawn_begun, drawn_ended, drawn_planned, drawn_picked, drawn_freed}
use Rattle.vl_engine_model_laws.specs.laws.Drawn.{drawn_pass_ended, drawn_logged, drawn_relocated, drawn_rotated}
use Rattle.vl_engine_model_laws.specs.laws.Drawn.{drawn_lent, drawn_flushed}
use Rattle.vl_engine_model_laws.specs.laws.Switches.{flushing, oldest_in, stocked_flushed}

-- ---- other retired files, another job

pub restocked : (l : Layout) (rs : List Retired) → IsStocked l
    → ((P : Retired → Type 0) → AllByRecursion P l.retired → AllByRecursion P rs) → IsStocked (record l { retired = rs })
restocked l rs s within = record {
  unneeded = within (IsUnneeded (needed l)) s.unneeded;
  retired_drawn = within (λ (r : Retired). IsDrawn l.next_log l.next_table r.file) s.retired_drawn;
  pinned = all_weaker (IsPinned l.epoch l.retired) (IsPinned l.epoch rs)
      (λ p is. record { old = is.old; off = within (IsOff p) is.off }) (pins l) s.pinned;
  tables_drawn = s.tables_drawn;
  logs_drawn = s.logs_drawn;
  flushed_drawn = s.flushed_drawn;
  falling = s.falling;
  footed = s.footed;
}

rejobbed : (l : Layout) (job : Option OpenJob) → job_pin job ≡ job_pin l.job → IsStocked l → IsStocked (record l { job = job })
rejobbed l job same s = record {
  unneeded = s.unneeded;
  retired_drawn = s.retired_drawn;
  pinned =
      subst (λ (ps : List Pin). AllByRecursion (IsPinned l.epoch l.retired)
      ((map (λ (x : Live). x.pin) l.live ++ ps) ++ pass_pin l.pass)) (sym same) s.pinned;
  tables_drawn = s.tables_drawn;
  logs_drawn = s.logs_drawn;
  flushed_drawn = s.flushed_drawn;
  falling = s.falling;
  footed = s.footed;
}

pub with_gone : (l : Layout) (gone keep since : ℕ) → IsStocked l → IsStocked (record l { gone = gone; keep = keep; since = since })
with_gone l gone keep since s = record {
  unneeded = s.unneeded;
  retired_drawn = s.retired_drawn;
  pinned = s.pinned;
  tables_drawn = s.tables_drawn;
  logs_drawn = s.logs_drawn;
  flushed_drawn = s.flushed_drawn;
  falling = s.falling;
  footed = s.footed;
}

-- ---- what is lent

pub up : (l : Layout) → IsDrawnWhole l → IsDrawnWhole (with_lent l)
up l d = record { points = d.points; pins_drawn = d.pins_drawn }

pub none_lent : (rs : List Retired) → AllByRecursion (λ (r : Retired). IsNotLent [] r.file) rs
none_lent [] = tt
none_lent (r ∷ rs) = (by_file r.file, none_lent rs)
  where
    by_file : (f : FileName) → IsNotLent [] f
    by_file (Log n) = tt
    by_file (TableFile n) = refl
    by_file (Manifest n) = tt

pub or_false : (a b : Bool) → a ≡ false → b ≡ false → (a || b) ≡ false
or_false true b p q = absurd (false≢true (sym p))
or_false false b p q = q

-- what is so of a file with each number that was lent is so of the files with these, which were
pub of_lent : (P : Retired → Type 0) (lent ms : List ℕ) → AllByRecursion P (loose lent)
    → AllByRecursion (λ n. has n lent ≡ true) ms
    → AllByRecursion P (loose ms)
of_lent P lent [] all are = tt
of_lent P lent (m ∷ ms) all are = (one lent all are.0, of_lent P lent ms all are.1)
  where
    one : (ns : List ℕ) → AllByRecursion P (loose ns) → has m ns ≡ true → P (retired_at 0 (TableFile m))
    one [] all is = absurd (false≢true is)
    one (n ∷ ns) all is = by_test (n == m) refl is (one ns all.1)
      where
        by_test : (b : Bool) → (n == m) ≡ b → (b || has m ns) ≡ true
            → (has m ns ≡ true → P (retired_at 0 (TableFile m))) → P (retired_at 0 (TableFile m))
        by_test true at is later =
            let same : n ≡ m = grind (arith, nat_tests) in subst (λ (k : ℕ). P (retired_at 0 (TableFile k))) same all.0
        by_test false at is later = later is

pub lent_drawn : (l : Layout) → IsWellStocked l
    → AllByRecursion (λ (r : Retired). IsDrawn l.next_log l.next_table r.file) (loose (lent_numbers l.job))
lent_drawn l w =
    (all_parts (λ (r : Retired). IsDrawn l.next_log l.next_table r.file) (loose (lent_numbers l.job)) l.retired w.stocked.retired_drawn).0

pub retired_drawn : (l : Layout) → IsWellStocked l
    → AllByRecursion (λ (r : Retired). IsDrawn l.next_log l.next_table r.file) l.retired
retired_drawn l w =
    (all_parts (λ (r : Retired). IsDrawn l.next_log l.next_table r.file) (loose (lent_numbers l.job)) l.retired w.stocked.retired_drawn).1

module _ (l : Layout) (w : IsWellStocked l) where
  -- ---- what lives, a pass, a frame

  pub well_begun : (ticket number : ℕ) → IsWellStocked (begun l ticket number)
  well_begun ticket number = record {
    stocked = stocked_begun (with_lent l) w.stocked ticket number;
    drawn =
        let d = drawn_begun (with_lent l) w.stocked (up l w.drawn) ticket number in record { points = d.points; pins_drawn = d.pins_drawn };
    lent_once = w.lent_once;
    lent_apart = w.lent_apart;
    once = w.once;
    flushed_apart = w.flushed_apart;
  }

  pub well_ended : (ticket : ℕ) → IsWellStocked (ended ticket l)
  well_ended ticket = record {
    stocked = stocked_ended (with_lent l) w.stocked ticket;
    drawn =
        let d = drawn_ended (with_lent l) w.stocked (up l w.drawn) ticket in record { points = d.points; pins_drawn = d.pins_drawn };
    lent_once = w.lent_once;
    lent_apart = w.lent_apart;
    once = w.once;
    flushed_apart = w.flushed_apart;
  }

  pub well_picked : (segment : ℕ) → IsWellStocked (with_pass segment l)
  well_picked segment = record {
    stocked = stocked_picked (with_lent l) w.stocked segment;
    drawn =
        let d = drawn_picked (with_lent l) w.stocked (up l w.drawn) segment in record { points = d.points; pins_drawn = d.pins_drawn };
    lent_once = w.lent_once;
    lent_apart = w.lent_apart;
    once = w.once;
    flushed_apart = w.flushed_apart;
  }

  pub well_pass_ended : IsWellStocked (without_pass l)
  well_pass_ended = record {
    stocked = stocked_pass_ended (with_lent l) w.stocked;
    drawn =
        let d = drawn_pass_ended (with_lent l) w.stocked (up l w.drawn) in record { points = d.points; pins_drawn = d.pins_drawn };
    lent_once = w.lent_once;
    lent_apart = w.lent_apart;
    once = w.once;
    flushed_apart = w.flushed_apart;
  }

  pub well_logged : (f : LogFrame) → IsWellStocked (logged f l)
  well_logged f = record {
    stocked = stocked_logged (with_lent l) w.stocked f;
    drawn =
        let d = drawn_logged (with_lent l) w.stocked (up l w.drawn) f in record { points = d.points; pins_drawn = d.pins_drawn };
    lent_once = w.lent_once;
    lent_apart = w.lent_apart;
    once = w.once;
    flushed_apart = w.flushed_apart;
  }

  pub well_keeping : (v : ℕ) (h : History) → IsWellStocked (keeping v h l)
  well_keeping v h = record {
    stocked = with_gone (with_lent l) l.gone (keeping v h l).keep (keeping v h l).since w.stocked;
    drawn = record { points = w.drawn.points; pins_drawn = w.drawn.pins_drawn };
    lent_once = w.lent_once;
    lent_apart = w.lent_apart;
    once = w.once;
    flushed_apart = w.flushed_apart;
  }

  -- ---- a rotation, a relocation

  pub well_rotated : IsWellStocked (rotated l)
  well_rotated = record {
    stocked = stocked_rotated (with_lent l) w.stocked;
    drawn =
        let d = drawn_rotated (with_lent l) w.stocked (up l w.drawn) in record { points = d.points; pins_drawn = d.pins_drawn };
    lent_once = w.lent_once;
    lent_apart = w.lent_apart;
    once = w.once;
    flushed_apart = w.flushed_apart;
  }

  lent_moved : (number : ℕ) (moved : List Moved) (o : Option OpenJob)
      → lent_numbers (with_moves number moved o) ≡ lent_numbers o
  lent_moved number moved None = refl
  lent_moved number moved (Some job) = refl

  pub well_relocated : (moved : List Moved) → IsWellStocked (relocated l moved)
  well_relocated moved =
      let same = sym (lent_moved (l.epoch + 1) moved l.job) in
      record {
        stocked =
            subst (λ (ns : List ℕ). IsStocked (record (relocated l moved) { retired = loose ns ++ l.retired })) same
            (stocked_relocated (with_lent l) w.stocked moved);
        drawn =
            let d = drawn_relocated (with_lent l) w.stocked (up l w.drawn) moved in record { points = d.points; pins_drawn = d.pins_drawn };
        lent_once = subst AreDistinct same w.lent_once;
        lent_apart =
            subst (λ (ns : List ℕ). AllByRecursion (λ (r : Retired). IsNotLent ns r.file) l.retired) same w.lent_apart;
        once = w.once;
        flushed_apart = w.flushed_apart;
      }

  -- ---- a flush

  logs_apart : (lent : List ℕ) (v : ℕ) (ss : List Segment)
      → AllByRecursion (λ (r : Retired). IsNotLent lent r.file) (map (retired_at v) (map log_of ss))
  logs_apart lent v [] = tt
  logs_apart lent v (s ∷ ss) = (tt, logs_apart lent v ss)

  -- what is needed isn't retired
  pub needed_off : (f : FileName) → is_in f (needed l) ≡ true → (rs : List Retired)
      → AllByRecursion (IsUnneeded (needed l)) rs → is_in f (files_of rs) ≡ false
  needed_off f there [] un = refl
  needed_off f there (r ∷ rs) un = or_false (is_same f r.file) (is_in f (files_of rs))
      (is_not (is_same f r.file)
      (λ is. false≢true (sym un.0 ∙ subst (λ (g : FileName). is_in g (needed l) ≡ true) (same_file f r.file is) there)))
      (needed_off f there rs un.1)

  pub unneeded : AllByRecursion (IsUnneeded (needed l)) l.retired
  unneeded = (all_parts (IsUnneeded (needed l)) (loose (lent_numbers l.job)) l.retired w.stocked.unneeded).1

  waiting_off : (s : Segment) → oldest l.frozen ≡ Some s → IsLogOff (files_of l.retired) s
  waiting_off s waits = needed_off (log_of s)
      (in_logs (log_of s) (map table_of (tables l)) (flat_map pointed_logs (tables l)) (map log_of (l.active ∷ l.frozen))
      (or_right (is_same (log_of s) (log_of l.active)) (is_in (log_of s) (map log_of l.frozen))
      (oldest_in (log_of s) l.frozen s waits (itself (log_of s)))))
      l.retired unneeded

  -- what is lent isn't retired
  lent_off : (n : ℕ) → has n (lent_numbers l.job) ≡ true → (rs : List Retired)
      → AllByRecursion (λ (r : Retired). IsNotLent (lent_numbers l.job) r.file) rs
      → is_in (TableFile n) (files_of rs) ≡ false
  lent_off n is [] off = refl
  lent_off n is (r ∷ rs) off = or_false (is_same (TableFile n) r.file) (is_in (TableFile n) (files_of rs))
      (is_not (is_same (TableFile n) r.file)
      (λ at. false≢true (sym (subst (IsNotLent (lent_numbers l.job)) (sym (same_file (TableFile n) r.file at)) off.0) ∙ is)))
      (lent_off n is rs off.1)

  all_lent_off : (ns : List ℕ) → AllByRecursion (λ n. has n (lent_numbers l.job) ≡ true) ns
      → AllByRecursion (λ g. is_in g (files_of l.retired) ≡ false) (files_of (loose ns))
  all_lent_off [] are = tt
  all_lent_off (n ∷ ns) are = (lent_off n are.0 l.retired w.lent_apart, all_lent_off ns are.1)

  pub with_loose : (ns : List ℕ) → AllByRecursion (λ n. has n (lent_numbers l.job) ≡ true) ns
      → AreDistinct ns → AreOnce (files_of (l.retired ++ loose ns))
  with_loose ns are distinct =
      subst AreOnce (sym (files-both l.retired (loose ns)))
      (once_both (files_of l.retired) (files_of (loose ns)) w.once (loose_once ns distinct) (all_lent_off ns are))

  pub logs_off_loose : (ns : List ℕ) → AllByRecursion (IsLogOff (files_of (l.retired ++ loose ns))) l.flushed
  logs_off_loose ns =
      subst (λ (fs : List FileName). AllByRecursion (IsLogOff fs) l.flushed) (sym (files-both l.retired (loose ns)))
      (all_weaker (IsLogOff (files_of l.retired)) (IsLogOff (files_of l.retired ++ files_of (loose ns)))
      (λ s off. off_both (log_of s) (files_of l.retired) (files_of (loose ns)) off (log_not_loose s.number ns)) l.flushed w.flushed_apart)

  pub well_flushed : (s : Segment) (level : List Table) (deeper : List (List Table))
      → oldest l.frozen ≡ Some s → l.levels ≡ level ∷ deeper
      → IsWellStocked (flushed l s)
  well_flushed s level deeper waits are = record {
    stocked = restocked (flushed (with_lent l) s) (loose (lent_numbers l.job) ++ (flushed l s).retired)
        (stocked_flushed (with_lent l) s level deeper w.stocked waits are)
        (λ P all. subst (AllByRecursion P) (append_assoc (loose (lent_numbers l.job)) l.retired _) all);
    drawn =
        let d = drawn_flushed (with_lent l) w.stocked (up l w.drawn) s level deeper waits are in record
        { points = d.points; pins_drawn = d.pins_drawn };
    lent_once = w.lent_once;
    lent_apart =
        all_both (λ (r : Retired). IsNotLent (lent_numbers l.job) r.file) l.retired _ w.lent_apart
        (logs_apart (lent_numbers l.job) (l.epoch + 1) _);
    once =
        switched_once (flushing l s) [] (subst AreOnce (sym (nothing_more (files_of l.retired))) w.once)
        (waiting_off s waits, w.flushed_apart);
    flushed_apart =
        switched_apart (flushing l s) [] (subst AreOnce (sym (nothing_more (files_of l.retired))) w.once)
        (waiting_off s waits, w.flushed_apart);
  }

  -- ---- a sweep

  pub well_swept : (gone : List FileName) → IsWellStocked (without_files gone l)
  well_swept gone = record {
    stocked = restocked (with_lent l) (loose (lent_numbers l.job) ++ (without_files gone l).retired) w.stocked
        (λ P all. let both = all_parts P (loose (lent_numbers l.job)) l.retired all in
        all_both P (loose (lent_numbers l.job)) (without_files gone l).retired both.0
        (all_filtered P (λ (r : Retired). not (list_any (is_same r.file) gone)) l.retired both.1));
    drawn = record { points = w.drawn.points; pins_drawn = w.drawn.pins_drawn };
    lent_once = w.lent_once;
    lent_apart =
        all_filtered (λ (r : Retired). IsNotLent (lent_numbers l.job) r.file)
        (λ (r : Retired). not (list_any (is_same r.file) gone)) l.retired w.lent_apart;
    once = once_filtered (λ (r : Retired). not (list_any (is_same r.file) gone)) l.retired w.once;
    flushed_apart = all_weaker (IsLogOff (files_of l.retired)) (IsLogOff (files_of (without_files gone l).retired))
        (λ s off. off_filtered (log_of s) (λ (r : Retired). not (list_any (is_same r.file) gone)) l.retired off) l.flushed w.flushed_apart;
  }

  -- ---- a job begins, draws a number and ends without its switch

  pub well_planned : (job : Job) → IsWellStocked (with_job job l)
  well_planned job = record {
    stocked = stocked_planned (record l { retired = l.retired })
        (restocked (with_lent l) l.retired w.stocked (λ P all. (all_parts P (loose (lent_numbers l.job)) l.retired all).1)) job;
    drawn =
        let d = drawn_planned (with_lent l) w.stocked (up l w.drawn) job in record { points = d.points; pins_drawn = d.pins_drawn };
    lent_once = tt;
    lent_apart = none_lent l.retired;
    once = w.once;
    flushed_apart = w.flushed_apart;
  }

  same_pin : (n : ℕ) (o : Option OpenJob) → job_pin (lent_to n o) ≡ job_pin o
  same_pin n None = refl
  same_pin n (Some job) = refl

  one_more : (n : ℕ) (rs : List Retired) (o : Option OpenJob) (P : Retired → Type 0)
      → AllByRecursion P ((loose (lent_numbers o) ++ rs) ++ retired_at 0 (TableFile n) ∷ [])
      → AllByRecursion P (loose (lent_numbers (lent_to n o)) ++ rs)
  one_more n rs None P all = (all_parts P rs (retired_at 0 (TableFile n) ∷ []) all).0
  one_more n rs (Some job) P all =
      let outer = all_parts P (loose job.lent ++ rs) (retired_at 0 (TableFile n) ∷ []) all in
      let inner = all_parts P (loose job.lent) rs outer.0 in
      all_both P (loose (job.lent ++ n ∷ [])) rs (appended job.lent inner.0 outer.1) inner.1
    where
      appended : (ns : List ℕ) → AllByRecursion P (loose ns)
          → AllByRecursion P (retired_at 0 (TableFile n) ∷ []) → AllByRecursion P (loose (ns ++ n ∷ []))
      appended [] some one = one
      appended (m ∷ ms) some one = (some.0, appended ms some.1 one)

  not_drawn : (next_log n : ℕ) (ns : List ℕ)
      → AllByRecursion (λ (r : Retired). IsDrawn next_log n r.file) (loose ns) → has n ns ≡ false
  not_drawn next_log n [] all = refl
  not_drawn next_log n (m ∷ ms) all =
      let less = all.0 in
      let no : (m == n) ≡ false = grind (arith, nat_tests, less) in
      or_false (m == n) (has n ms) no (not_drawn next_log n ms all.1)

  has-more : (m n : ℕ) (ns : List ℕ) → has m ns ≡ false → (n == m) ≡ false → has m (ns ++ n ∷ []) ≡ false
  has-more m n [] none apart = or_false (n == m) false apart refl
  has-more m n (k ∷ ks) none apart = by_test (k == m) none (has-more m n ks)
    where
      by_test : (b : Bool) → (b || has m ks) ≡ false
          → (has m ks ≡ false → (n == m) ≡ false → has m (ks ++ n ∷ []) ≡ false)
          → (b || has m (ks ++ n ∷ [])) ≡ false
      by_test true none later = absurd (false≢true (sym none))
      by_test false none later = later none apart

  once_more : (n : ℕ) (ns : List ℕ) → AreDistinct ns → has n ns ≡ false → AreDistinct (ns ++ n ∷ [])
  once_more n [] once none = (refl, tt)
  once_more n (m ∷ ms) once none = by_test (m == n) refl none (once_more n ms once.1)
    where
      by_test : (b : Bool) → (m == n) ≡ b → (b || has n ms) ≡ false
          → (has n ms ≡ false → AreDistinct (ms ++ n ∷ [])) → AreDistinct (m ∷ (ms ++ n ∷ []))
      by_test true is none later = absurd (false≢true (sym none))
      by_test false is none later =
          let apart : (n == m) ≡ false = grind (arith, nat_tests) in (has-more m n ms once.0 apart, later none)

  once_lent : (n : ℕ) (o : Option OpenJob) → AreDistinct (lent_numbers o) → has n (lent_numbers o) ≡ false
      → AreDistinct (lent_numbers (lent_to n o))
  once_lent n None once none = tt
  once_lent n (Some job) once none = once_more n job.lent once none

  apart_lent : (next_log n : ℕ) (o : Option OpenJob) (rs : List Retired)
      → AllByRecursion (λ (r : Retired). IsNotLent (lent_numbers o) r.file) rs
      → AllByRecursion (λ (r : Retired). IsDrawn next_log n r.file) rs
      → AllByRecursion (λ (r : Retired). IsNotLent (lent_numbers (lent_to n o)) r.file) rs
  apart_lent next_log n o [] apart given = tt
  apart_lent next_log n o (r ∷ rs) apart given =
      (by_file r.file o apart.0 given.0, apart_lent next_log n o rs apart.1 given.1)
    where
      by_file : (f : FileName) (x : Option OpenJob) → IsNotLent (lent_numbers x) f → IsDrawn next_log n f
          → IsNotLent (lent_numbers (lent_to n x)) f
      by_file (Log m) x apart given = tt
      by_file (TableFile m) None apart given = refl
      by_file (TableFile m) (Some job) apart given =
          let no : (n == m) ≡ false = grind (arith, nat_tests, given) in has-more m n job.lent apart no
      by_file (Manifest m) x apart given = tt

  pub well_drawn : IsWellStocked (drawn l)
  well_drawn =
      let n = l.next_table in
      record {
        stocked =
            rejobbed (record (lending (with_lent l)) { retired = loose (lent_numbers (lent_to n l.job)) ++ l.retired })
            (lent_to n l.job) (same_pin n l.job)
            (restocked (lending (with_lent l)) (loose (lent_numbers (lent_to n l.job)) ++ l.retired)
            (stocked_lent (with_lent l) w.stocked (up l w.drawn)) (one_more n l.retired l.job));
        drawn = let d = drawn_lent (with_lent l) w.stocked (up l w.drawn) in record {
          points = d.points;
          pins_drawn =
              subst (λ (ps : List Pin). AllByRecursion
              (λ (p : Pin). AllByRecursion (IsDrawn l.next_log (n + 1)) p.needs)
              ((map (λ (x : Live). x.pin) l.live ++ ps) ++ pass_pin l.pass)) (sym (same_pin n l.job)) d.pins_drawn;
        };
        lent_once = once_lent n l.job w.lent_once (not_drawn l.next_log n (lent_numbers l.job) (lent_drawn l w));
        lent_apart = apart_lent l.next_log n l.job l.retired w.lent_apart (retired_drawn l w);
        once = w.once;
        flushed_apart = w.flushed_apart;
      }

  pub well_job_ended : (made : Made) → AreLent (lent_numbers l.job) made → IsWellStocked (job_ended made l)
  well_job_ended made are = record {
    stocked =
        restocked (record (with_lent l) { job = None }) (job_ended made l).retired (stocked_freed (with_lent l) w.stocked)
        (λ P all. let both = all_parts P (loose (lent_numbers l.job)) l.retired all in
        all_both P l.retired (loose (numbers_of made.tables ++ made.leavings)) both.1
        (of_lent P (lent_numbers l.job) (numbers_of made.tables ++ made.leavings) both.0 are.drawn));
    drawn =
        let d = drawn_freed (with_lent l) w.stocked (up l w.drawn) in record { points = d.points; pins_drawn = d.pins_drawn };
    lent_once = tt;
    lent_apart = none_lent (job_ended made l).retired;
    once = with_loose (numbers_of made.tables ++ made.leavings) are.drawn are.distinct;
    flushed_apart = logs_off_loose (numbers_of made.tables ++ made.leavings);
  }
