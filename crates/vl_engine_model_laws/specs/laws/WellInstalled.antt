-- The switch of a job, whose tables are put in, keeps what is so of an engine's files.
use Rattle.std.proofs.Common.{◌≡◌, ℕ, ◌<◌, Bool, true, false, ◌||◌, List, [], ◌∷◌, ◌++◌, map, refl, ap, sym, ◌∙◌, subst, arith}
use Rattle.std.proofs.lemmas.Bool.{false≢true}
use Rattle.std.proofs.lemmas.Bool.Decides.{nat_tests}
use Rattle.std.specs.Prelude.{◌==◌}
use Rattle.std.specs.List.{AllByRecursion, flat_map, list_any, filter}
use Rattle.vl_model.specs.Numbers.{has}
use Rattle.vl_engine_model.specs.Jobs.{Made, loose, lent_numbers, AreDistinct, AreLent}
use Rattle.vl_engine_model.specs.Levels.{is_among}
use Rattle.vl_engine_model.specs.Merging.{needless, gone_after}
use Rattle.vl_engine_model.specs.OpenJobs.{AreStanding}
use Rattle.vl_engine_model.specs.Ruling.{switched}
use Rattle.vl_engine_model.specs.Rulings.Install.{installed, put_in}
use Rattle.vl_engine_model.specs.Rulings.Sweep.{is_same, pins}
use Rattle.vl_engine_model.specs.Sources.{log_of, pointed_logs, needed, numbers_of, table_of, tables}
use Rattle.vl_engine_model.specs.TidyLevels.{IsDistinct}
use Rattle.vl_engine_model.specs.Stock.{AreOnce, files_of, is_in, leads, IsDrawn, IsUnneeded, IsOff, IsPinned, IsFooted}
use Rattle.vl_engine_model.specs.Stock.{PointsDrawn, with_lent, IsNotLent, IsWellStocked}
use Rattle.vl_engine_model.specs.declared.file_name.FileName.{FileName}
use Rattle.vl_engine_model.specs.declared.file_name.FileName.TheVariants.{Log, Table as TableFile, Manifest}
use Rattle.vl_engine_model.specs.declared.file_name.Retired.{Retired}
use Rattle.vl_engine_model.specs.declared.job.Job.{Job}
use Rattle.vl_engine_model.specs.declared.layout.Layout.{Layout}
use Rattle.vl_engine_model.specs.declared.table.Table.{Table}
use Rattle.vl_engine_model_laws.specs.laws.Files.{all_weaker, all_both, all_parts, all_filtered, any-map, is_not, or_left, or_right}
use Rattle.vl_engine_model_laws.specs.laws.Once.{distinct_filtered, files-both, off_both, once_both, switched_apart, switched_once, tables_once}
use Rattle.vl_engine_model_laws.specs.laws.Steps.{in_tables, tables_only}
use Rattle.vl_engine_model_laws.specs.laws.Streaming.{stocked_put, putting}
use Rattle.vl_engine_model_laws.specs.laws.Drawn.{drawn_put}
use Rattle.vl_engine_model_laws.specs.laws.WellStocked.{lent_drawn, logs_off_loose, needed_off, none_lent, of_lent}
use Rattle.vl_engine_model_laws.specs.laws.WellStocked.{or_false, unneeded, up, with_gone, with_loose}

module _ (l : Layout) (w : IsWellStocked l) where
  -- a lent number is that of no table
  pub not_standing : (n : ℕ) → has n (lent_numbers l.job) ≡ true
      → list_any (λ (t : Table). n == t.number) (tables l) ≡ false
  not_standing n is =
      sym (any-map (is_same (TableFile n)) table_of (tables l))
      ∙ front (is_in (TableFile n) (map table_of (tables l))) refl
      (of_lent (λ (r : Retired). IsUnneeded (needed l) r) (lent_numbers l.job) (n ∷ [])
      (all_parts (IsUnneeded (needed l)) (loose (lent_numbers l.job)) l.retired w.stocked.unneeded).0 (is, tt)).0
    where
      front : (b : Bool) → is_in (TableFile n) (map table_of (tables l)) ≡ b
          → is_in (TableFile n) (needed l) ≡ false → is_in (TableFile n) (map table_of (tables l)) ≡ false
      front true at none =
          absurd (false≢true (sym none
          ∙ in_tables (TableFile n) (map table_of (tables l)) (flat_map pointed_logs (tables l)) (map log_of (l.active ∷ l.frozen)) at))
      front false at none = at

  no_input : (inputs : List ℕ) → AreStanding (tables l) inputs → (t : Table)
      → has t.number (lent_numbers l.job) ≡ true → is_among inputs t ≡ false
  no_input [] standing t lent = refl
  no_input (n ∷ ns) standing t lent =
      or_false (n == t.number) (is_among ns t) (apart (n == t.number) refl) (no_input ns standing.1 t lent)
    where
      apart : (b : Bool) → (n == t.number) ≡ b → (n == t.number) ≡ false
      apart true is =
          let same : t.number ≡ n = grind (arith, nat_tests) in
          absurd (false≢true (sym (subst (λ (m : ℕ). list_any (λ (u : Table). m == u.number) (tables l) ≡ false) same
          (not_standing t.number lent)) ∙ standing.0))
      apart false is = is

  all_no_input : (inputs : List ℕ) → AreStanding (tables l) inputs → (ts : List Table)
      → AllByRecursion (λ n. has n (lent_numbers l.job) ≡ true) (numbers_of ts)
      → AllByRecursion (λ (t : Table). is_among inputs t ≡ false) ts
  all_no_input inputs standing [] lent = tt
  all_no_input inputs standing (t ∷ ts) lent =
      (no_input inputs standing t lent.0, all_no_input inputs standing ts lent.1)

  given_below : (ts : List Table) → AllByRecursion (λ n. has n (lent_numbers l.job) ≡ true) (numbers_of ts)
      → AllByRecursion (λ (t : Table). t.number < l.next_table) ts
  given_below [] lent = tt
  given_below (t ∷ ts) lent = (
    (of_lent (λ (r : Retired). IsDrawn l.next_log l.next_table r.file) (lent_numbers l.job) (t.number ∷ [])
        (lent_drawn l w) (lent.0, tt)).0,
    given_below ts lent.1,
  )

  -- a file that isn't lent is none of tables that were
  not_made : (f : FileName) → IsNotLent (lent_numbers l.job) f → (ts : List Table)
      → AllByRecursion (λ n. has n (lent_numbers l.job) ≡ true) (numbers_of ts)
      → is_in f (map table_of ts) ≡ false
  not_made (Log n) off ts lent = tables_only n ts
  not_made (TableFile n) off [] lent = refl
  not_made (TableFile n) off (t ∷ ts) lent =
      or_false (n == t.number) (is_in (TableFile n) (map table_of ts)) (apart (n == t.number) refl) (not_made (TableFile n) off ts lent.1)
    where
      apart : (b : Bool) → (n == t.number) ≡ b → (n == t.number) ≡ false
      apart true is =
          let same : t.number ≡ n = grind (arith, nat_tests) in
          absurd (false≢true (sym off ∙ subst (λ (m : ℕ). has m (lent_numbers l.job) ≡ true) same lent.0))
      apart false is = is
  not_made (Manifest n) off ts lent = no_manifest ts
    where
      no_manifest : (us : List Table) → is_in (Manifest n) (map table_of us) ≡ false
      no_manifest [] = refl
      no_manifest (u ∷ us) = no_manifest us

  all_not_made : (rs : List Retired)
      → AllByRecursion (λ (r : Retired). IsNotLent (lent_numbers l.job) r.file) rs → (ts : List Table)
      → AllByRecursion (λ n. has n (lent_numbers l.job) ≡ true) (numbers_of ts)
      → AllByRecursion (λ (r : Retired). is_in r.file (map table_of ts) ≡ false) rs
  all_not_made [] off ts lent = tt
  all_not_made (r ∷ rs) off ts lent = (not_made r.file off.0 ts lent, all_not_made rs off.1 ts lent)

  distinct-later : (ns ms : List ℕ) → AreDistinct (ns ++ ms) → AllByRecursion (λ (m : ℕ). has m ns ≡ false) ms
  distinct-later ns [] once = tt
  distinct-later ns (m ∷ ms) once = (first ns once, distinct-later ns ms (but_one ns once))
    where
      has-append : (k : ℕ) (xs ys : List ℕ) → has k (xs ++ ys) ≡ false → (has k xs ≡ false) × (has k ys ≡ false)
      has-append k [] ys none = (refl, none)
      has-append k (x ∷ xs) ys none = by_test (x == k) none (has-append k xs ys)
        where
          by_test : (b : Bool) → (b || has k (xs ++ ys)) ≡ false
              → (has k (xs ++ ys) ≡ false → (has k xs ≡ false) × (has k ys ≡ false))
              → ((b || has k xs) ≡ false) × (has k ys ≡ false)
          by_test true none later = absurd (false≢true (sym none))
          by_test false none later = later none

      first : (xs : List ℕ) → AreDistinct (xs ++ m ∷ ms) → has m xs ≡ false
      first [] once = refl
      first (x ∷ xs) once = or_false (x == m) (has m xs) (apart (x == m) refl) (first xs once.1)
        where
          apart : (b : Bool) → (x == m) ≡ b → (x == m) ≡ false
          apart true is = let turned : (m == x) ≡ true = grind (arith, nat_tests) in
              absurd (false≢true (sym (has-append x xs (m ∷ ms) once.0).1 ∙ ap (λ b. b || has x ms) turned))
          apart false is = is

      but_one : (xs : List ℕ) → AreDistinct (xs ++ m ∷ ms) → AreDistinct (xs ++ ms)
      but_one [] once = once.1
      but_one (x ∷ xs) once = (fewer x xs once.0, but_one xs once.1)
        where
          fewer : (k : ℕ) (ys : List ℕ) → has k (ys ++ m ∷ ms) ≡ false → has k (ys ++ ms) ≡ false
          fewer k [] none = (by_test (m == k) none)
            where
              by_test : (b : Bool) → (b || has k ms) ≡ false → has k ms ≡ false
              by_test true none = absurd (false≢true (sym none))
              by_test false none = none
          fewer k (y ∷ ys) none = by_test (y == k) none (fewer k ys)
            where
              by_test : (b : Bool) → (b || has k (ys ++ m ∷ ms)) ≡ false
                  → (has k (ys ++ m ∷ ms) ≡ false → has k (ys ++ ms) ≡ false)
                  → (b || has k (ys ++ ms)) ≡ false
              by_test true none later = absurd (false≢true (sym none))
              by_test false none later = later none

  leavings_off : (ts : List Table) (ns : List ℕ) → AllByRecursion (λ (m : ℕ). has m (numbers_of ts) ≡ false) ns
      → AllByRecursion (λ (r : Retired). is_in r.file (map table_of ts) ≡ false) (loose ns)
  leavings_off ts [] off = tt
  leavings_off ts (n ∷ ns) off = (one ts off.0, leavings_off ts ns off.1)
    where
      one : (us : List Table) → has n (numbers_of us) ≡ false → is_in (TableFile n) (map table_of us) ≡ false
      one [] none = refl
      one (u ∷ us) none = by_test (u.number == n) refl none (one us)
        where
          by_test : (b : Bool) → (u.number == n) ≡ b → (b || has n (numbers_of us)) ≡ false
              → (has n (numbers_of us) ≡ false → is_in (TableFile n) (map table_of us) ≡ false)
              → ((n == u.number) || is_in (TableFile n) (map table_of us)) ≡ false
          by_test true is none later = absurd (false≢true (sym none))
          by_test false is none later =
              let turned : (n == u.number) ≡ false = grind (arith, nat_tests) in or_false (n == u.number)
              (is_in (TableFile n) (map table_of us)) turned (later none)

  distinct_back : (ns ms : List ℕ) → AreDistinct (ns ++ ms) → AreDistinct ms
  distinct_back [] ms distinct = distinct
  distinct_back (n ∷ ns) ms distinct = distinct_back ns ms distinct.1

  standing_all : (ts : List Table)
      → AllByRecursion (λ (t : Table). list_any (λ (u : Table). t.number == u.number) ts ≡ true) ts
  standing_all [] = tt
  standing_all (t ∷ ts) = (
    or_left (t.number == t.number) (list_any (λ (u : Table). t.number == u.number) ts) (grind (arith, nat_tests)),
    all_weaker (λ (x : Table). list_any (λ (u : Table). x.number == u.number) ts ≡ true)
        (λ (x : Table). list_any (λ (u : Table). x.number == u.number) (t ∷ ts) ≡ true)
        (λ x is. or_right (x.number == t.number) (list_any (λ (u : Table). x.number == u.number) ts) is) ts (standing_all ts),
  )

  -- The switch of a job whose inputs stand, and whose tables have true footers and lead only where tables lead.
  pub well_installed : (job : Job) (made : Made) → AreLent (lent_numbers l.job) made
      → AllByRecursion (λ (n : ℕ). list_any (λ (t : Table). n == t.number) (tables l) ≡ true) job.inputs
      → AllByRecursion IsFooted made.tables
      → ((n : ℕ) → AllByRecursion
      (λ (t : Table). leads n t.points ≡ true → list_any (λ (u : Table). leads n u.points) (tables l) ≡ true) made.tables)
      → AllByRecursion (PointsDrawn l.next_log) made.tables → IsDistinct (tables l)
      → IsWellStocked (installed job made l)
  well_installed job made are standing footed into below distinct = record {
    stocked =
        with_gone (switched (filter (is_among job.inputs) (tables l)) (putting (with_lent l) job made.tables rest))
        (gone_after l.gone (needless job)) l.keep l.since
        (stocked_put (with_lent l) job made.tables rest w.stocked
        (within (IsUnneeded (needed l)) w.stocked.unneeded)
        (within (λ (r : Retired). IsDrawn l.next_log l.next_table r.file) w.stocked.retired_drawn)
        (all_weaker (IsPinned l.epoch (loose (lent_numbers l.job) ++ l.retired)) (IsPinned l.epoch rest)
        (λ p is. record { old = is.old; off = within (IsOff p) is.off }) (pins l) w.stocked.pinned)
        (all_both (λ (r : Retired). is_in r.file (map table_of made.tables) ≡ false) l.retired (loose made.leavings)
        (all_not_made l.retired w.lent_apart made.tables lent.0)
        (leavings_off made.tables made.leavings (distinct-later (numbers_of made.tables) made.leavings are.distinct)))
        (given_below made.tables lent.0)
        (all_no_input job.inputs standing made.tables lent.0)
        footed into);
    drawn =
        let d = drawn_put (with_lent l) w.stocked (up l w.drawn) job made.tables rest below in record
        { points = d.points; pins_drawn = d.pins_drawn };
    lent_once = tt;
    lent_apart = none_lent (installed job made l).retired;
    once = switched_once (put_in job made l) dropped dropped_once (logs_off_loose l w made.leavings);
    flushed_apart = switched_apart (put_in job made l) dropped dropped_once (logs_off_loose l w made.leavings);
  }
    where
      lent : AllByRecursion (λ n. has n (lent_numbers l.job) ≡ true) (numbers_of made.tables)
          × AllByRecursion (λ n. has n (lent_numbers l.job) ≡ true) made.leavings
      lent = all_parts (λ n. has n (lent_numbers l.job) ≡ true) (numbers_of made.tables) made.leavings are.drawn

      dropped : List Table
      dropped = filter (is_among job.inputs) (tables l)

      -- an input is needed, so it isn't retired; and no leaving is a table
      inputs_off : (ts : List Table)
          → AllByRecursion (λ (t : Table). list_any (λ (u : Table). t.number == u.number) (tables l) ≡ true) ts
          → AllByRecursion (λ g. is_in g (files_of (l.retired ++ loose made.leavings)) ≡ false) (map table_of ts)
      inputs_off [] stand = tt
      inputs_off (t ∷ ts) stand = (
        subst (λ (fs : List FileName). is_in (table_of t) fs ≡ false) (sym (files-both l.retired (loose made.leavings)))
            (off_both (table_of t) (files_of l.retired) (files_of (loose made.leavings))
            (needed_off l w (table_of t)
            (in_tables (table_of t) (map table_of (tables l)) (flat_map pointed_logs (tables l))
            (map log_of (l.active ∷ l.frozen)) (any-map (is_same (table_of t)) table_of (tables l) ∙ stand.0)) l.retired (unneeded l w))
            (off_leavings made.leavings lent.1)),
        inputs_off ts stand.1,
      )
        where
          off_leavings : (ns : List ℕ) → AllByRecursion (λ n. has n (lent_numbers l.job) ≡ true) ns
              → is_in (table_of t) (files_of (loose ns)) ≡ false
          off_leavings [] are = refl
          off_leavings (n ∷ ns) are = or_false (t.number == n) (is_in (table_of t) (files_of (loose ns)))
              (is_not (t.number == n) (λ is.
              let same : t.number ≡ n = grind (arith, nat_tests, is) in
              false≢true (sym (not_standing n are.0)
              ∙ subst (λ (m : ℕ). list_any (λ (u : Table). m == u.number) (tables l) ≡ true) same stand.0)))
              (off_leavings ns are.1)

      dropped_once : AreOnce (files_of (put_in job made l).retired ++ map table_of (filter (is_among job.inputs) (tables l)))
      dropped_once =
          once_both (files_of (l.retired ++ loose made.leavings)) (map table_of (filter (is_among job.inputs) (tables l)))
          (with_loose l w made.leavings lent.1 (distinct_back (numbers_of made.tables) made.leavings are.distinct))
          (tables_once (filter (is_among job.inputs) (tables l)) (distinct_filtered (is_among job.inputs) (tables l) distinct))
          (inputs_off (filter (is_among job.inputs) (tables l))
          (all_filtered (λ (t : Table). list_any (λ (u : Table). t.number == u.number) (tables l) ≡ true)
          (is_among job.inputs) (tables l) (standing_all (tables l))))

      rest : List Retired
      rest = l.retired ++ loose made.leavings

      within : (P : Retired → Type 0) → AllByRecursion P (loose (lent_numbers l.job) ++ l.retired)
          → AllByRecursion P (l.retired ++ loose made.leavings)
      within P all = let both = all_parts P (loose (lent_numbers l.job)) l.retired all in
          all_both P l.retired (loose made.leavings) both.1
          (of_lent P (lent_numbers l.job) made.leavings both.0
          (all_parts (λ n. has n (lent_numbers l.job) ≡ true) (numbers_of made.tables) made.leavings are.drawn).1)
