-- What an install drops of the sources is at most `gone`, which it raises to its needless deletions, or is passed by what it leaves.
use Rattle.std.proofs.Common.{◌≡◌, ◌⊎◌, inl, inr, ⊎_elim, ℕ, zero, suc, ◌+◌, ◌≤◌, ◌<◌, Bool, true, false, not, ◌&&◌, ◌||◌}
use Rattle.std.proofs.Common.{List, [], ◌∷◌, refl, ap, sym, ◌∙◌, subst, arith}
use Rattle.std.proofs.lemmas.Bool.{and_parts}
use Rattle.std.proofs.lemmas.Bool.Decides.{nat_tests}
use Rattle.std.specs.Prelude.{Option, Some, None, nat_le, ◌==◌}
use Rattle.std.specs.List.{AllByRecursion, AllZip, list_any}
use Rattle.vl_engine_model.specs.Marks.{kept_of, plain}
use Rattle.vl_engine_model.specs.Merging.{Sourced, drops_by_need, if_so, inputs_of, is_needless, is_outdated, is_shadowed, needless, needless_from, outside_of}
use Rattle.vl_engine_model.specs.OpenJobs.{IsKeptFor, IsStillBehind, Preceded, preceded, preceded_if}
use Rattle.vl_engine_model.specs.declared.job.Job.{Job}
use Rattle.vl_engine_model.specs.Spared.{Passes}
use Rattle.vl_engine_model.specs.laws.FromLow.{has-versions_in, in_versions, next_above}
use Rattle.vl_model.specs.Conflicts.{Named}
use Rattle.vl_model.specs.Entries.{is_at}
use Rattle.vl_model.specs.History.{History}
use Rattle.vl_model.specs.Numbers.{AreAmong, greatest_below, has}
use Rattle.vl_model.specs.Versions.{versions, versions_in}
use Rattle.vl_model.specs.declared.entry.Entry.{Entry}
use Rattle.vl_model.specs.laws.NumberLaws as laws
use Rattle.vl_model.specs.laws.NumberLaws.{AreRisen, IsFound, greatest-found, greatest-reaches, nth-risen}
use Rattle.vl_engine_model_laws.specs.laws.Justified.{same_inputs}
use Rattle.vl_engine_model_laws.specs.laws.Lists.{at_parts, or_cases, or_left, or_right, true_false}
use Rattle.vl_engine_model_laws.specs.laws.OpenJobs.{drops_at, head_mark, marked_by, marks_now, rest_preceded}
use Rattle.vl_engine_laws.specs.Spared.{IsWhole}

-- ---- why a version is missing behind a merge

-- the three rules, one after the other
by_rules : (s o n : Bool) → (s || (o || n)) ≡ true
    → (s ≡ true) ⊎ ((o ≡ true) ⊎ ((not s && (not o && n)) ≡ true))
by_rules true o n h = inl refl
by_rules false true n h = inr (inl refl)
by_rules false false n h = inr (inr h)

or_false : (a b : Bool) → (a || b) ≡ false → (a ≡ false) × (b ≡ false)
or_false true b none = absurd (true_false none)
or_false false b none = (refl, none)

module _ (keep : ℕ) (I O : List Entry) (floor gone : ℕ) where
  -- what the third rule alone drops at a place is at most `gone`
  abbrev pub IsBounded : Preceded → Type 0
  IsBounded p = drops_by_need keep I O floor p.newer p.entry ≡ true → p.entry.version ≤ gone

  bounded_if : (b : Bool) (e : Entry) (newer : List Entry) (ps : List Preceded) (es : List Entry)
      → AllByRecursion (λ (x : Entry). x.version ≤ gone) (if_so (b && drops_by_need keep I O floor newer e) e es)
      → (AllByRecursion (λ (x : Entry). x.version ≤ gone) es → AllByRecursion IsBounded ps)
      → AllByRecursion IsBounded (preceded_if b e newer ps)
  bounded_if false e newer ps es all later = later all
  bounded_if true e newer ps es all later = by_test (drops_by_need keep I O floor newer e) refl all
    where
      by_test : (d : Bool) → drops_by_need keep I O floor newer e ≡ d
          → AllByRecursion (λ (x : Entry). x.version ≤ gone) (if_so d e es)
          → (drops_by_need keep I O floor newer e ≡ true → e.version ≤ gone) × AllByRecursion IsBounded ps
      by_test true is all = ((λ drops. all.0), later all.1)
      by_test false is all = ((λ drops. absurd (true_false (sym drops ∙ is))), later all)

  pub bounded : (newer : List Entry) (ss : List Sourced)
      → AllByRecursion (λ (x : Entry). x.version ≤ gone) (needless_from keep I O floor newer ss)
      → AllByRecursion IsBounded (preceded newer ss)
  bounded newer [] all = tt
  bounded newer (s ∷ ss) all =
      bounded_if s.0 s.1 newer (preceded (s.1 ∷ newer) ss) (needless_from keep I O floor (s.1 ∷ newer) ss) all
      (bounded (s.1 ∷ newer) ss)

  module _ (key : List ℕ) (version : ℕ) where
    -- an entry of it was dropped as outdated, or it is at most `gone`
    abbrev pub Went : Type 0
    Went = ((e : Entry) × (is_at key version e ≡ true) × (is_outdated keep I floor e ≡ true)) ⊎ (version ≤ gone)

    abbrev Any : List Entry → Bool
    Any es = list_any (is_at key version) es

    -- the first of them isn't shadowed
    unshadowed : (newer : List Entry) (e : Entry) (q : Preceded) → IsStillBehind q (record { entry = e; newer = newer })
        → IsBounded q → Any newer ≡ false → is_at key version e ≡ true → drops_at keep I O floor q ≡ true → Went
    unshadowed newer e q still bound none at drops = ⊎_elim
        (λ (shadowed : is_shadowed q.newer q.entry ≡ true).
        absurd (true_false (sym (still.covers q.entry.key q.entry.version shadowed)
        ∙ ap (λ (x : Entry). list_any (is_at x.key x.version) newer) (sym still.same)
        ∙ ap (λ (k : List ℕ). list_any (is_at k e.version) newer) parts.0
        ∙ ap (λ (v : ℕ). list_any (is_at key v) newer) parts.1 ∙ none)))
        (λ (other : (is_outdated keep I floor q.entry ≡ true) ⊎ (drops_by_need keep I O floor q.newer q.entry ≡ true)). ⊎_elim
        (λ (outdated : is_outdated keep I floor q.entry ≡ true).
        inl (q.entry, subst (λ (x : Entry). is_at key version x ≡ true) still.same at, outdated))
        (λ (needed : drops_by_need keep I O floor q.newer q.entry ≡ true).
        inr (subst (λ (v : ℕ). v ≤ gone) (ap (λ (x : Entry). x.version) (sym still.same) ∙ parts.1) (bound needed)))
        other)
        (by_rules (is_shadowed q.newer q.entry) (is_outdated keep I floor q.entry) (is_needless keep O floor q.entry) drops)
      where
        parts : (e.key ≡ key) × (e.version ≡ version)
        parts = at_parts key version e at

    pub went : (newer : List Entry) (ps : List Preceded) (ss : List Sourced) → AllZip IsStillBehind ps (preceded newer ss)
        → AllByRecursion IsBounded ps
        → Any newer ≡ false → Any (plain ss) ≡ true → Any (kept_of (marked_by keep I O floor ps ss)) ≡ false → Went
    went newer ps [] zip bounds none there left = absurd (true_false (sym there))
    went newer ps (s ∷ ss) zip bounds none there left =
        by s.0 ps zip bounds left (λ (qs : List Preceded) (z : AllZip IsStillBehind qs (preceded (s.1 ∷ newer) ss))
        (b : AllByRecursion IsBounded qs). went (s.1 ∷ newer) qs ss z b)
      where
        -- it is another's
        other : (qs : List Preceded) → is_at key version s.1 ≡ false
            → Any (kept_of (marked_by keep I O floor qs ss)) ≡ false
            → (Any (s.1 ∷ newer) ≡ false → Any (plain ss) ≡ true → Any (kept_of (marked_by keep I O floor qs ss)) ≡ false
            → Went) → Went
        other qs off left later =
            later (ap (λ b. b || Any newer) off ∙ none) (sym (ap (λ b. b || Any (plain ss)) off) ∙ there) left

        of_input : (q : Preceded) (qs : List Preceded) → IsStillBehind q (record { entry = s.1; newer = newer }) → IsBounded q
            → (a d : Bool) → is_at key version s.1 ≡ a → drops_at keep I O floor q ≡ d
            → Any (if_so (not d) s.1 (kept_of (marked_by keep I O floor qs ss))) ≡ false
            → (Any (s.1 ∷ newer) ≡ false → Any (plain ss) ≡ true → Any (kept_of (marked_by keep I O floor qs ss)) ≡ false
            → Went) → Went
        of_input q qs still bound true true at drops left later = unshadowed newer s.1 q still bound none at drops
        of_input q qs still bound true false at drops left later =
            absurd (true_false (sym (ap (λ b. b || Any (kept_of (marked_by keep I O floor qs ss))) at) ∙ left))
        of_input q qs still bound false true at drops left later = other qs at left later
        of_input q qs still bound false false at drops left later =
            other qs at (sym (ap (λ b. b || Any (kept_of (marked_by keep I O floor qs ss))) at) ∙ left) later

        by : (b : Bool) (qs : List Preceded) → AllZip IsStillBehind qs (preceded_if b s.1 newer (preceded (s.1 ∷ newer) ss))
            → AllByRecursion IsBounded qs
            → Any (if_so (head_mark keep I O floor b qs s.1).kept (head_mark keep I O floor b qs s.1).entry
            (kept_of (marked_by keep I O floor (rest_preceded b qs) ss))) ≡ false
            → ((rs : List Preceded) → AllZip IsStillBehind rs (preceded (s.1 ∷ newer) ss) → AllByRecursion IsBounded rs
            → Any (s.1 ∷ newer) ≡ false → Any (plain ss) ≡ true → Any (kept_of (marked_by keep I O floor rs ss)) ≡ false → Went)
            → Went
        by false qs z bs left later =
            let parts = or_false (is_at key version s.1) (Any (kept_of (marked_by keep I O floor qs ss))) left in
            other qs parts.0 parts.1 (later qs z bs)
        by true [] z bs left later = absurd z
        by true (q ∷ qs) z bs left later =
            of_input q qs z.0 bs.0 (is_at key version s.1) (drops_at keep I O floor q) refl refl left (later qs z.1 bs.1)

-- ---- what the inputs have, the sources have

any_if : (p : Entry → Bool) (b : Bool) (e : Entry) (es fs : List Entry) → (list_any p es ≡ true → list_any p fs ≡ true)
    → list_any p (if_so b e es) ≡ true → list_any p (e ∷ fs) ≡ true
any_if p true e es fs more there = ⊎_elim
    (λ (at : p e ≡ true). or_left (p e) (list_any p fs) at)
    (λ (later : list_any p es ≡ true). or_right (p e) (list_any p fs) (more later))
    (or_cases (p e) (list_any p es) there)
any_if p false e es fs more there = or_right (p e) (list_any p fs) (more there)

any_input : (p : Entry → Bool) (ss : List Sourced) → list_any p (inputs_of ss) ≡ true → list_any p (plain ss) ≡ true
any_input p [] there = there
any_input p (s ∷ ss) there = any_if p s.0 s.1 (inputs_of ss) (plain ss) (any_input p ss) there

-- ---- of a job that is put in later than it was planned

module _ (job : Job) (moved : List Named) (now : List Sourced) (k : IsKeptFor job moved now) (some : 1 ≤ job.keep) where
  abbrev pub left : List Entry
  left = kept_of (marks_now job now)

  abbrev I : List Entry
  I = inputs_of job.base

  inside : (key : List ℕ) → AreAmong (versions_in I key) (versions_in (plain now) key)
  inside key n there =
      has-versions_in key n (plain now)
      ∙ any_input (is_at key n) now
      (subst (λ (es : List Entry). list_any (is_at key n) es ≡ true) (sym (same_inputs job moved now k))
      (sym (has-versions_in key n I) ∙ there))

  -- an outdated one has another above it among the sources, at most the job's floor
  passed : (key : List ℕ) (keep : ℕ) → 1 ≤ keep → (e : Entry) → e.key ≡ key → is_outdated keep I job.floor e ≡ true
      → (w : ℕ) × (e.version < w) × (w ≤ job.floor) × (has w (versions_in (plain now) key) ≡ true)
  passed key zero least e keys outdated = absurd (omega (arith, least))
  passed key (suc n) least e keys outdated =
      let f = next_above I job.floor key n e keys outdated in
      (f.0.version, f.3, f.2, inside key f.0.version (in_versions key I f.0 (sym f.1) f.5))

  module _ (gone : ℕ) (bound : AllByRecursion (λ (x : Entry). x.version ≤ gone) (needless job)) (key : List ℕ) where
    lost : (n : ℕ) → has n (versions_in (plain now) key) ≡ true → has n (versions_in left key) ≡ false
        → ((w : ℕ) × (n < w) × (w ≤ job.floor) × (has w (versions_in (plain now) key) ≡ true)) ⊎ (n ≤ gone)
    lost n there missing = ⊎_elim
        (λ (x : (e : Entry) × (is_at key n e ≡ true) × (is_outdated job.keep I job.floor e ≡ true)).
        let parts = at_parts key n x.0 x.1 in
        let version = parts.1 in
        let w = passed key job.keep some x.0 parts.0 x.2 in
        let less = w.1 in
        inl (w.0, omega (arith, version, less), w.2, w.3))
        (λ (low : n ≤ gone). inr low)
        (went job.keep I (outside_of job.base) job.floor gone key n [] (preceded [] job.base) now k.inputs
        (bounded job.keep I (outside_of job.base) job.floor gone [] job.base bound) refl
        (sym (has-versions_in key n (plain now)) ∙ there) (sym (has-versions_in key n left) ∙ missing))

    module _ (floor : ℕ) (up : job.floor ≤ floor) where
      -- what is passed by a version of the sources is passed by one that is left, or is at most `gone`
      still : (n : ℕ) (o : Option ℕ) → IsFound (floor + 1) (versions_in (plain now) key) o
          → ((w : ℕ) → has w (versions_in (plain now) key) ≡ true → w < floor + 1 → laws.Reaches w o)
          → Passes n o → (n ≤ gone) ⊎ Passes n (greatest_below (floor + 1) (versions_in left key))
      still n None found all p = absurd p
      still n (Some m) found all p = by (has m (versions_in left key)) refl
        where
          reached : (o : Option ℕ) → laws.Reaches m o → Passes n o
          reached None r = absurd r
          reached (Some x) r = omega (arith, r, p)

          by : (t : Bool) → has m (versions_in left key) ≡ t
              → (n ≤ gone) ⊎ Passes n (greatest_below (floor + 1) (versions_in left key))
          by true is = inr (reached (greatest_below (floor + 1) (versions_in left key))
              (greatest-reaches m (floor + 1) (versions_in left key) is found.0))
          by false is = ⊎_elim
              (λ (x : (w : ℕ) × (m < w) × (w ≤ job.floor) × (has w (versions_in (plain now) key) ≡ true)).
              let less = x.1 in
              let low = x.2 in
              let most : x.0 ≤ m = all x.0 x.3 (omega (arith, low, up)) in
              absurd (omega (arith, less, most)))
              (λ (low : m ≤ gone). inl (omega (arith, low, p)))
              (lost m found.1 is)

      passes_found : (n w : ℕ) (o : Option ℕ) → n < w → laws.Reaches w o → Passes n o
      passes_found n w None less r = absurd r
      passes_found n w (Some x) less r = omega (arith, less, r)

      from_all : (n : ℕ) → Passes n (greatest_below (floor + 1) (versions_in (plain now) key))
          → (n ≤ gone) ⊎ Passes n (greatest_below (floor + 1) (versions_in left key))
      from_all n p = still n (greatest_below (floor + 1) (versions_in (plain now) key))
          (greatest-found (floor + 1) (versions_in (plain now) key))
          (λ w there less. greatest-reaches w (floor + 1) (versions_in (plain now) key) there less) p

  -- What is left of the sources has lost nothing but what is at most `gone`, where no deletion that the third rule drops is above it.
  pub whole_left : (h : History) (to floor gone gone' : ℕ) → job.floor ≤ floor → gone ≤ gone'
      → AllByRecursion (λ (x : Entry). x.version ≤ gone') (needless job)
      → IsWhole h (plain now) to floor gone → IsWhole h left to floor gone'
  whole_left h to floor gone gone' up more bound whole key n le there missing = by (has n (versions_in (plain now) key)) refl
    where
      by : (t : Bool) → has n (versions_in (plain now) key) ≡ t
          → (n ≤ gone') ⊎ Passes n (greatest_below (floor + 1) (versions_in left key))
      by true is = ⊎_elim
          (λ (x : (w : ℕ) × (n < w) × (w ≤ job.floor) × (has w (versions_in (plain now) key) ≡ true)).
          let low = x.2 in
          from_all gone' bound key floor up n
          (passes_found gone' bound key floor up n x.0 (greatest_below (floor + 1) (versions_in (plain now) key)) x.1
          (greatest-reaches x.0 (floor + 1) (versions_in (plain now) key) x.3 (omega (arith, low, up)))))
          (λ (low : n ≤ gone'). inl low)
          (lost gone' bound key n is missing)
      by false is = ⊎_elim
          (λ (low : n ≤ gone). inl (omega (arith, low, more)))
          (λ (p : Passes n (greatest_below (floor + 1) (versions_in (plain now) key))). from_all gone' bound key floor up n p)
          (whole key n le there is)
