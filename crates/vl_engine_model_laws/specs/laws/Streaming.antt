-- Tables with numbers drawn before their switch: a lent file counts as one that retired at 0, which no pin may need.
use Rattle.std.proofs.Common.{◌≡◌, ◌⊎◌, inl, inr, ⊎_elim, ℕ, ◌+◌, ◌<◌, true, false, List, [], ◌∷◌, ◌++◌, map, refl, ap, sym, ◌∙◌, arith}
use Rattle.std.proofs.lemmas.Bool.Decides.{nat_tests}
use Rattle.std.specs.Prelude.{None, ◌==◌}
use Rattle.std.specs.List.{AllByRecursion, flat_map, list_any, filter}
use Rattle.vl_model.specs.declared.point.Point.{Point}
use Rattle.vl_engine_model.specs.Levels.{is_among, replaced}
use Rattle.vl_engine_model.specs.Ruling.{retired_at, switched}
use Rattle.vl_engine_model.specs.Rulings.Sweep.{is_same, pins, job_pin, pass_pin}
use Rattle.vl_engine_model.specs.Sources.{needed, tables, log_of, table_of, pointed_logs}
use Rattle.vl_engine_model.specs.declared.file_name.FileName.{FileName}
use Rattle.vl_engine_model.specs.declared.file_name.FileName.TheVariants.{Log, Table as TableFile, Manifest}
use Rattle.vl_engine_model.specs.declared.file_name.Retired.{Retired}
use Rattle.vl_engine_model.specs.declared.job.Job.{Job}
use Rattle.vl_engine_model.specs.declared.layout.Layout.{Layout}
use Rattle.vl_engine_model.specs.declared.live.Live.{Live}
use Rattle.vl_engine_model.specs.declared.live.Pin.{Pin}
use Rattle.vl_engine_model.specs.declared.segment.Segment.{Segment}
use Rattle.vl_engine_model.specs.declared.table.Table.{Table}
use Rattle.vl_engine_model_laws.specs.laws.Files.{true_false, neither, is_not, any-append, any-map, all_weaker, all_both}
use Rattle.vl_engine_model_laws.specs.laws.Files.{all_parts, all_passed, all_mapped, picked, everything}
use Rattle.vl_engine_model_laws.specs.laws.Switches.{all_replaced, seen, early_pins}
use Rattle.vl_engine_model_laws.specs.laws.Steps.{drawn_later, needed_parts, in_tables, in_points, in_logs, is_pointed, not_in, stocked_switched}
use Rattle.vl_engine_model.specs.Stock.{is_in, leads, IsFooted, IsDrawn, IsUnneeded, IsOff, IsPinned, IsStocked, PointsDrawn, IsDrawnWhole}

-- ---- what a pin needs was drawn

pub needed_drawn : (l : Layout) → IsStocked l → AllByRecursion (PointsDrawn l.next_log) (tables l)
    → AllByRecursion (IsDrawn l.next_log l.next_table) (needed l)
needed_drawn l s points =
    all_both (IsDrawn l.next_log l.next_table) (map table_of (tables l) ++ flat_map pointed_logs (tables l))
    (map log_of (l.active ∷ l.frozen))
    (all_both (IsDrawn l.next_log l.next_table) (map table_of (tables l)) (flat_map pointed_logs (tables l))
    (all_mapped (IsDrawn l.next_log l.next_table) table_of (tables l) s.tables_drawn)
    (flat (tables l) points))
    (all_mapped (IsDrawn l.next_log l.next_table) log_of (l.active ∷ l.frozen) s.logs_drawn)
  where
    flat : (ts : List Table) → AllByRecursion (PointsDrawn l.next_log) ts
        → AllByRecursion (IsDrawn l.next_log l.next_table) (flat_map pointed_logs ts)
    flat [] all = tt
    flat (t ∷ ts) all = all_both (IsDrawn l.next_log l.next_table) (pointed_logs t) (flat_map pointed_logs ts)
        (all_mapped (IsDrawn l.next_log l.next_table) (λ (p : Point). Log p.segment) t.points all.0) (flat ts all.1)

-- a number that is still to be given stands nowhere among drawn files
not_drawn_yet : (next_log next_table : ℕ) (fs : List FileName) → AllByRecursion (IsDrawn next_log next_table) fs
    → is_in (TableFile next_table) fs ≡ false
not_drawn_yet next_log next_table [] all = refl
not_drawn_yet next_log next_table (Log n ∷ fs) all = not_drawn_yet next_log next_table fs all.1
not_drawn_yet next_log next_table (TableFile n ∷ fs) all =
    let apart : (next_table == n) ≡ false = let less = all.0 in grind (arith, nat_tests, less) in
    neither (next_table == n) (is_in (TableFile next_table) fs) apart (not_drawn_yet next_log next_table fs all.1)
not_drawn_yet next_log next_table (Manifest n ∷ fs) all = absurd all.0

-- ---- a number is drawn for a job

-- with a file lent, as if it had retired at 0
abbrev pub lending : Layout → Layout
lending l = record l { next_table = l.next_table + 1; retired = l.retired ++ retired_at 0 (TableFile l.next_table) ∷ [] }

pub stocked_lent : (l : Layout) → IsStocked l → IsDrawnWhole l → IsStocked (lending l)
stocked_lent l s d =
    let new : Retired = retired_at 0 (TableFile l.next_table) in
    record {
      unneeded =
          all_both (IsUnneeded (needed l)) l.retired (new ∷ []) s.unneeded
          (not_drawn_yet l.next_log l.next_table (needed l) (needed_drawn l s d.points), tt);
      retired_drawn = all_both (λ (r : Retired). IsDrawn l.next_log (l.next_table + 1) r.file) l.retired (new ∷ [])
          (all_weaker (λ (r : Retired). IsDrawn l.next_log l.next_table r.file)
          (λ (r : Retired). IsDrawn l.next_log (l.next_table + 1) r.file)
          (λ r is. drawn_later l.next_log l.next_table l.next_log (l.next_table + 1) (omega arith) (omega arith) r.file
          is) l.retired s.retired_drawn)
          (omega arith, tt);
      pinned = two (pins l) s.pinned d.pins_drawn;
      tables_drawn =
          all_weaker (λ (t : Table). t.number < l.next_table) (λ (t : Table). t.number < l.next_table + 1)
          (λ t less. omega (arith, less)) (tables l) s.tables_drawn;
      logs_drawn = s.logs_drawn;
      flushed_drawn = s.flushed_drawn;
      falling = s.falling;
      footed = s.footed;
    }
  where
    two : (ps : List Pin) → AllByRecursion (IsPinned l.epoch l.retired) ps
        → AllByRecursion (λ (p : Pin). AllByRecursion (IsDrawn l.next_log l.next_table) p.needs) ps
        → AllByRecursion (IsPinned l.epoch (l.retired ++ retired_at 0 (TableFile l.next_table) ∷ [])) ps
    two [] a b = tt
    two (p ∷ ps) a b = (
      record {
        old = a.0.old;
        off =
            all_both (IsOff p) l.retired (retired_at 0 (TableFile l.next_table) ∷ []) a.0.off
            (inr (not_drawn_yet l.next_log l.next_table p.needs b.0), tt);
      },
      two ps a.1 b.1,
    )

-- ---- its tables are put in

-- the layout with some tables in place of a job's inputs, before files retire; the numbers were drawn before
abbrev pub putting : Layout → Job → List Table → List Retired → Layout
putting l job made rest = record l {
  levels = replaced job.target job.inputs made l.levels;
  epoch = l.epoch + 1;
  job = None;
  retired = rest;
}

still_off : (made : List Table) (before now : List FileName)
    → ((f : FileName) → is_in f now ≡ true → (is_in f before ≡ true) ⊎ (is_in f (map table_of made) ≡ true))
    → (rs : List Retired) → AllByRecursion (IsUnneeded before) rs
    → AllByRecursion (λ (r : Retired). is_in r.file (map table_of made) ≡ false) rs
    → AllByRecursion (IsUnneeded now) rs
still_off made before now gains [] un off = tt
still_off made before now gains (r ∷ rs) un off = (
  is_not (is_in r.file now)
      (λ there. ⊎_elim (λ (was : is_in r.file before ≡ true). true_false (sym was ∙ un.0))
      (λ (new : is_in r.file (map table_of made) ≡ true). true_false (sym new ∙ off.0)) (gains r.file there)),
  still_off made before now gains rs un.1 off.1,
)

module _ (l : Layout) (job : Job) (made : List Table) (rest : List Retired) (k : IsStocked l)
    -- those that stay retired or lent are others than those made
    (rest_unneeded : AllByRecursion (IsUnneeded (needed l)) rest)
    (rest_drawn : AllByRecursion (λ (r : Retired). IsDrawn l.next_log l.next_table r.file) rest)
    (rest_pinned : AllByRecursion (IsPinned l.epoch rest) (pins l))
    (off : AllByRecursion (λ (r : Retired). is_in r.file (map table_of made) ≡ false) rest)
    (given : AllByRecursion (λ (t : Table). t.number < l.next_table) made)
    -- and no input is one of them
    (apart : AllByRecursion (λ (t : Table). is_among job.inputs t ≡ false) made)
    (footed : AllByRecursion IsFooted made)
    (into : (n : ℕ) → AllByRecursion
    (λ (t : Table). leads n t.points ≡ true → list_any (λ (u : Table). leads n u.points) (tables l) ≡ true) made) where
  after : List Table
  after = flat_map (λ ts. ts) (replaced job.target job.inputs made l.levels)

  put_names : (f : FileName) → is_in f (map table_of (tables (putting l job made rest))) ≡ true
      → (is_in f (needed l) ≡ true) ⊎ (is_in f (map table_of made) ≡ true)
  put_names f there =
      let Goal : Type 0 = (is_in f (needed l) ≡ true) ⊎ (is_in f (map table_of made) ≡ true) in
      let Q : Table → Type 0 = λ t. is_same f (table_of t) ≡ true → Goal in
      let found = picked Q (λ (t : Table). is_same f (table_of t)) (tables (putting l job made rest))
      (all_replaced Q job.inputs made
      (all_weaker (λ (t : Table). is_same f (table_of t) ≡ true → list_any (λ (u : Table). is_same f (table_of u)) made ≡ true) Q
      (λ t is at. inr (any-map (is_same f) table_of made ∙ is at)) made (seen (λ (u : Table). is_same f (table_of u)) made))
      job.target l.levels
      (all_weaker (λ (t : Table). is_same f (table_of t) ≡ true
      → list_any (λ (u : Table). is_same f (table_of u)) (tables l) ≡ true) (λ (t : Table). is_among job.inputs t ≡ false → Q t)
      (λ t is out at. inl (in_tables f (map table_of (tables l)) (flat_map pointed_logs (tables l))
      (map log_of (l.active ∷ l.frozen)) (any-map (is_same f) table_of (tables l) ∙ is at)))
      (tables l) (seen (λ (u : Table). is_same f (table_of u)) (tables l))))
      (sym (any-map (is_same f) table_of (tables (putting l job made rest))) ∙ there) in
      found.2 found.1

  put_logs : (n : ℕ) → list_any (λ (t : Table). leads n t.points) (tables (putting l job made rest)) ≡ true
      → list_any (λ (t : Table). leads n t.points) (tables l) ≡ true
  put_logs n there =
      let Q : Table → Type 0 =
      λ t. leads n t.points ≡ true → list_any (λ (u : Table). leads n u.points) (tables l) ≡ true in
      let found = picked Q (λ (t : Table). leads n t.points) (tables (putting l job made rest))
      (all_replaced Q job.inputs made (into n) job.target l.levels
      (all_weaker Q (λ (t : Table). is_among job.inputs t ≡ false → Q t) (λ t is out. is) (tables l)
      (seen (λ (t : Table). leads n t.points) (tables l))))
      there in
      found.2 found.1

  no_pointed_table : (n : ℕ) (ts : List Table) → is_in (TableFile n) (flat_map pointed_logs ts) ≡ false
  no_pointed_table n [] = refl
  no_pointed_table n (t ∷ ts) =
      any-append (is_same (TableFile n)) (pointed_logs t) (flat_map pointed_logs ts)
      ∙ neither (is_in (TableFile n) (pointed_logs t)) (is_in (TableFile n) (flat_map pointed_logs ts)) (never t.points)
      (no_pointed_table n ts)
    where
      never : (ps : List Point) → is_in (TableFile n) (map (λ (p : Point). Log p.segment) ps) ≡ false
      never [] = refl
      never (p ∷ ps) = never ps

  no_pointed_manifest : (n : ℕ) (ts : List Table) → is_in (Manifest n) (flat_map pointed_logs ts) ≡ false
  no_pointed_manifest n [] = refl
  no_pointed_manifest n (t ∷ ts) =
      any-append (is_same (Manifest n)) (pointed_logs t) (flat_map pointed_logs ts)
      ∙ neither (is_in (Manifest n) (pointed_logs t)) (is_in (Manifest n) (flat_map pointed_logs ts)) (never t.points)
      (no_pointed_manifest n ts)
    where
      never : (ps : List Point) → is_in (Manifest n) (map (λ (p : Point). Log p.segment) ps) ≡ false
      never [] = refl
      never (p ∷ ps) = never ps

  put_points : (f : FileName) → is_in f (flat_map pointed_logs (tables (putting l job made rest))) ≡ true
      → is_in f (flat_map pointed_logs (tables l)) ≡ true
  put_points (Log n) two =
      is_pointed n (tables l) ∙ put_logs n (sym (is_pointed n (tables (putting l job made rest))) ∙ two)
  put_points (TableFile n) two =
      absurd (true_false (sym two ∙ no_pointed_table n (tables (putting l job made rest))))
  put_points (Manifest n) two =
      absurd (true_false (sym two ∙ no_pointed_manifest n (tables (putting l job made rest))))

  put_gains : (f : FileName) → is_in f (needed (putting l job made rest)) ≡ true
      → (is_in f (needed l) ≡ true) ⊎ (is_in f (map table_of made) ≡ true)
  put_gains f there =
      let L = map log_of (l.active ∷ l.frozen) in
      ⊎_elim
      (λ (one : is_in f (map table_of (tables (putting l job made rest))) ≡ true). put_names f one)
      (λ (other : (is_in f (flat_map pointed_logs (tables (putting l job made rest))) ≡ true) ⊎ (is_in f L ≡ true)). ⊎_elim
      (λ (two : is_in f (flat_map pointed_logs (tables (putting l job made rest))) ≡ true). inl
      (in_points f (map table_of (tables l)) (flat_map pointed_logs (tables l)) L (put_points f two)))
      (λ (three : is_in f L ≡ true). inl (in_logs f (map table_of (tables l)) (flat_map pointed_logs (tables l)) L three))
      other)
      (needed_parts f (map table_of (tables (putting l job made rest))) (flat_map pointed_logs (tables (putting l job made rest))) L there)

  put_free_pins : AllByRecursion (IsPinned l.epoch rest) (pins (putting l job made rest))
  put_free_pins =
      let outer = all_parts (IsPinned l.epoch rest) (map (λ (x : Live). x.pin) l.live ++ job_pin l.job)
      (pass_pin l.pass) rest_pinned in
      let inner = all_parts (IsPinned l.epoch rest) (map (λ (x : Live). x.pin) l.live) (job_pin l.job) outer.0 in
      all_both (IsPinned l.epoch rest) (map (λ (x : Live). x.pin) l.live ++ []) (pass_pin l.pass)
      (all_both (IsPinned l.epoch rest) (map (λ (x : Live). x.pin) l.live) [] inner.0 tt) outer.1

  put_inputs_gone : AllByRecursion
      (λ (t : Table). (is_in (table_of t) (needed (putting l job made rest)) ≡ false) × (t.number < l.next_table))
      (filter (is_among job.inputs) (tables l))
  put_inputs_gone =
      all_passed (λ (t : Table). t.number < l.next_table)
      (λ (t : Table). (is_in (table_of t) (needed (putting l job made rest)) ≡ false) × (t.number < l.next_table)) (is_among job.inputs)
      (λ t drawn input. (gone t input, drawn))
      (tables l) k.tables_drawn
    where
      no_log : (n : ℕ) (ss : List Segment) → is_in (TableFile n) (map log_of ss) ≡ false
      no_log n [] = refl
      no_log n (s ∷ ss) = no_log n ss

      same_number : (t u : Table) → t.number ≡ u.number → is_among job.inputs t ≡ is_among job.inputs u
      same_number t u same = ap (λ (n : ℕ). list_any (λ number. number == n) job.inputs) same

      gone : (t : Table) → is_among job.inputs t ≡ true → is_in (table_of t) (needed (putting l job made rest)) ≡ false
      gone t input =
          not_in (table_of t) (map table_of (tables (putting l job made rest)))
          (flat_map pointed_logs (tables (putting l job made rest))) (map log_of (l.active ∷ l.frozen))
          (is_not (is_in (table_of t) (map table_of (tables (putting l job made rest)))) (λ there.
          let Q : Table → Type 0 = λ u. (t.number == u.number) ≡ true → ⊥ in
          let found = picked Q (λ (u : Table). is_same (table_of t) (table_of u)) (tables (putting l job made rest))
          (all_replaced Q job.inputs made
          (all_weaker (λ (u : Table). is_among job.inputs u ≡ false) Q
          (λ u out at. let e : t.number ≡ u.number = grind (arith, nat_tests, at) in true_false
          (sym input ∙ same_number t u e ∙ out)) made apart)
          job.target l.levels
          (all_weaker (λ (u : Table). Unit {0}) (λ (u : Table). is_among job.inputs u ≡ false → Q u)
          (λ u any out at. let e : t.number ≡ u.number = grind (arith, nat_tests, at) in true_false (sym input ∙ same_number t u e ∙ out))
          (tables l) (everything (tables l))))
          (sym (any-map (is_same (table_of t)) table_of (tables (putting l job made rest))) ∙ there) in
          found.2 found.1))
          (no_pointed_table t.number (tables (putting l job made rest))) (no_log t.number (l.active ∷ l.frozen))

  -- The switch of a job whose tables were made beside it.
  pub stocked_put : IsStocked (switched (filter (is_among job.inputs) (tables l)) (putting l job made rest))
  stocked_put =
      let stocked : IsStocked (putting l job made rest) = record {
        unneeded = still_off made (needed l) (needed (putting l job made rest)) put_gains rest rest_unneeded off;
        retired_drawn = rest_drawn;
        pinned =
            all_weaker (IsPinned l.epoch rest) (IsPinned (l.epoch + 1) rest)
            (λ p is. record { old = (let less = is.old in omega (arith, less)); off = is.off })
            (pins (putting l job made rest)) put_free_pins;
        tables_drawn =
            all_replaced (λ (t : Table). t.number < l.next_table) job.inputs made given job.target l.levels
            (all_weaker (λ (t : Table). t.number < l.next_table)
            (λ (t : Table). is_among job.inputs t ≡ false → t.number < l.next_table) (λ t less out. less) (tables l) k.tables_drawn);
        logs_drawn = k.logs_drawn;
        flushed_drawn = k.flushed_drawn;
        falling = k.falling;
        footed = all_replaced IsFooted job.inputs made footed job.target l.levels
            (all_weaker IsFooted (λ (t : Table). is_among job.inputs t ≡ false → IsFooted t) (λ t is out. is) (tables l) k.footed);
      } in
      stocked_switched (putting l job made rest) stocked (filter (is_among job.inputs) (tables l))
      (early_pins l.epoch rest (pins (putting l job made rest)) put_free_pins) put_inputs_gone
