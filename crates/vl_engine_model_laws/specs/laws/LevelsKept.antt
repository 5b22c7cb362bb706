-- A flush and an install leave levels as they should be: seven, no table twice, true ranges, and apart from level 1 on.
use Rattle.std.proofs.Common.{◌≡◌, ◌≢◌, inl, inr, ⊎_elim, ℕ, ◌-◌, ◌<◌, Bool, true, false, cond, not, List, [], ◌∷◌}
use Rattle.std.proofs.Common.{◌++◌, map, refl, ap, sym, ◌∙◌, subst, arith, length, append_assoc}
use Rattle.std.proofs.lemmas.Bool.Decides.{nat_tests}
use Rattle.std.specs.Prelude.{◌==◌}
use Rattle.std.specs.List.{AllByRecursion, filter, flat_map}
use Rattle.vl_model.specs.Conflicts.{Named}
use Rattle.vl_model.specs.History.{History}
use Rattle.vl_model.specs.Placement.{placed}
use Rattle.vl_model.specs.declared.entry.Entry.{Entry}
use Rattle.vl_model.specs.Cutting.{first_key, last_key}
use Rattle.vl_engine_model.specs.Jobs.{AreOutputs, Made, tables_made}
use Rattle.vl_engine_model.specs.Levels.{at_level, in_front, in_key_order, is_among, level_at, replaced, without}
use Rattle.vl_engine_model.specs.Logs.{logged_entries, memtable}
use Rattle.vl_engine_model.specs.Merging.{inputs_of, outputs}
use Rattle.vl_engine_model.specs.OpenJobs.{IsBesideAll, IsFitted, IsIdle, IsOpenWell, IsRoomy}
use Rattle.vl_engine_model.specs.Rulings.Flush.{flushed, flushed_table}
use Rattle.vl_engine_model.specs.Rulings.Plan.{sourced}
use Rattle.vl_engine_model.specs.Sources.{tables}
use Rattle.vl_engine_model.specs.TidyLevels.{AreLevels, IsApart, IsDistinct, IsRanged, IsWide, Le}
use Rattle.vl_engine_model.specs.declared.job.Job.{Job}
use Rattle.vl_engine_model.specs.declared.job.Target.{Target}
use Rattle.vl_engine_model.specs.declared.job.Target.TheVariants.{Level, InPlace}
use Rattle.vl_engine_model.specs.declared.layout.Layout.{Layout}
use Rattle.vl_engine_model.specs.declared.segment.Segment.{Segment}
use Rattle.vl_engine_model.specs.declared.table.Table.{Table}
use Rattle.vl_engine_model_laws.specs.laws.Files.{true_false}
use Rattle.vl_engine_model_laws.specs.laws.JobTables.{first_last, job_ends, job_wide}
use Rattle.vl_engine_model_laws.specs.laws.Justified.{same_inputs}
use Rattle.vl_engine_model_laws.specs.laws.KeyOrder.{IsAside, all_among, key_order_apart}
use Rattle.vl_engine_model_laws.specs.laws.Once.{distinct_filtered}
use Rattle.vl_engine_model_laws.specs.laws.Outputs.{IsSorted, Lt, from_first, le_lt, lt_le_then, outputs_apart, sorted_in_order, up_to_last}
use Rattle.vl_engine_model_laws.specs.laws.Pairs.{AreOther, all_both, all_filtered, all_parts, all_weaker, distinct_parts, others_turned}
use Rattle.vl_engine_model_laws.specs.laws.Roomy.{sourced_inputs}
use Rattle.vl_engine_model_laws.specs.laws.Switches.{all_at_level, all_replaced}

abbrev pub flat : List (List Table) → List Table
flat levels = flat_map (λ ts. ts) levels

-- ---- no number twice

distinct_both : (xs ys : List Table) → IsDistinct xs → IsDistinct ys → AreOther xs ys → IsDistinct (xs ++ ys)
distinct_both [] ys a b other = b
distinct_both (x ∷ xs) ys a b other =
    (all_both (λ (u : Table). u.number ≢ x.number) xs ys a.0 other.0, distinct_both xs ys a.1 b other.1)

distinct_among : (new ts : List Table) → IsDistinct new → IsDistinct ts → AreOther new ts
    → IsDistinct (in_key_order new ts)
distinct_among new [] a b other = a
distinct_among new (t ∷ ts) a b other =
    let turned = others_turned new (t ∷ ts) other in
    elim (Rattle.vl_engine_model.specs.Levels.is_before t new) as (λ c. IsDistinct (cond c (t ∷ in_key_order new ts) (new ++ t ∷ ts))) [
      | true ↦ (
        all_among (λ (u : Table). u.number ≢ t.number) new ts turned.0 b.0,
        distinct_among new ts a b.1
            (others_turned ts new turned.1),
      )
      | false ↦ distinct_both new (t ∷ ts) a b other
    ]

distinct_at_level : (new : List Table) → IsDistinct new → (n : ℕ) (levels : List (List Table))
    → IsDistinct (flat levels) → AreOther new (flat levels)
    → IsDistinct (flat (at_level n (in_key_order new) levels))
distinct_at_level new made n [] d other = tt
distinct_at_level new made n (ts ∷ deeper) d other =
    let parts = distinct_parts ts (flat deeper) d in
    let turned = all_parts (λ (t : Table). AllByRecursion (λ (x : Table). x.number ≢ t.number) new) ts (flat deeper)
    (others_turned new (ts ++ flat deeper) other) in
    let first : AreOther new ts = others_turned ts new turned.0 in
    let behind : AreOther new (flat deeper) = others_turned (flat deeper) new turned.1 in
    elim (n == 0) as (λ b. IsDistinct (flat (cond b (in_key_order new ts ∷ deeper) (ts ∷ at_level (n - 1) (in_key_order new) deeper)))) [
      | true ↦ distinct_both (in_key_order new ts) (flat deeper) (distinct_among new ts made parts.0 first) parts.1.0
          (all_among (λ (x : Table). AllByRecursion (λ (y : Table). y.number ≢ x.number) (flat deeper)) new ts behind parts.1.1)
      | false ↦ distinct_both ts (flat (at_level (n - 1) (in_key_order new) deeper)) parts.0
          (distinct_at_level new made (n - 1) deeper parts.1.0 behind)
          (others_turned (flat (at_level (n - 1) (in_key_order new) deeper)) ts
          (all_at_level (λ (u : Table). AllByRecursion (λ (t : Table). t.number ≢ u.number) ts) [] new first (n - 1)
          deeper (others_turned ts (flat deeper) parts.1.1)))
    ]

filter-append : (p : Table → Bool) (xs ys : List Table) → filter p (xs ++ ys) ≡ filter p xs ++ filter p ys
filter-append p [] ys = refl
filter-append p (x ∷ xs) ys = elim (p x) as
    (λ b. cond b (x ∷ filter p (xs ++ ys)) (filter p (xs ++ ys)) ≡ cond b (x ∷ filter p xs) (filter p xs) ++ filter p ys) [
      | true ↦ ap (λ zs. x ∷ zs) (filter-append p xs ys)
      | false ↦ filter-append p xs ys
    ]

flat_without : (inputs : List ℕ) (levels : List (List Table))
    → flat (map (without inputs) levels) ≡ without inputs (flat levels)
flat_without inputs [] = refl
flat_without inputs (ts ∷ deeper) =
    ap (λ (us : List Table). without inputs ts ++ us) (flat_without inputs deeper)
    ∙ sym (filter-append (λ t. not (is_among inputs t)) ts (flat deeper))

-- ---- a level of what was replaced

level-map : (f : List Table → List Table) → f [] ≡ [] → (n : ℕ) (levels : List (List Table))
    → level_at n (map f levels) ≡ f (level_at n levels)
level-map f none n [] = sym none
level-map f none n (ts ∷ deeper) = elim (n == 0) as
    (λ b. cond b (f ts) (level_at (n - 1) (map f deeper)) ≡ f (cond b ts (level_at (n - 1) deeper))) [
      | true ↦ refl
      | false ↦ level-map f none (n - 1) deeper
    ]

-- a level is the changed one, or as it was
level-at_level : (P : List Table → Type 0) (f : List Table → List Table) (m n : ℕ) (levels : List (List Table))
    → P (level_at n levels) → (m ≡ n → P (f (level_at n levels))) → P (level_at n (at_level m f levels))
level-at_level P f m n [] same changed = same
level-at_level P f m n (ts ∷ deeper) same changed =
    by (m == 0) (n == 0) refl refl same changed (λ one other. level-at_level P f (m - 1) (n - 1) deeper one other)
  where
    by : (a b : Bool) → (m == 0) ≡ a → (n == 0) ≡ b → P (cond b ts (level_at (n - 1) deeper))
        → (m ≡ n → P (f (cond b ts (level_at (n - 1) deeper))))
        → (P (level_at (n - 1) deeper) → (m - 1 ≡ n - 1 → P (f (level_at (n - 1) deeper)))
        → P (level_at (n - 1) (at_level (m - 1) f deeper)))
        → P (level_at n (cond a (f ts ∷ deeper) (ts ∷ at_level (m - 1) f deeper)))
    by true true m_is n_is one other later =
        subst (λ b. P (cond b (f ts) (level_at (n - 1) deeper))) (sym n_is)
        (other (let a : m ≡ 0 = grind (arith, nat_tests, m_is) in let b : n ≡ 0 = grind (arith, nat_tests, n_is) in omega (arith, a, b)))
    by true false m_is n_is one other later =
        subst (λ b. P (cond b (f ts) (level_at (n - 1) deeper))) (sym n_is) one
    by false true m_is n_is one other later =
        subst (λ b. P (cond b ts (level_at (n - 1) (at_level (m - 1) f deeper)))) (sym n_is) one
    by false false m_is n_is one other later =
        subst (λ b. P (cond b ts (level_at (n - 1) (at_level (m - 1) f deeper)))) (sym n_is)
        (later one (λ same. other
        (let a : 0 < m = grind (arith, nat_tests, m_is) in let b : 0 < n = grind (arith, nat_tests, n_is) in omega (arith, a, b, same))))

apart_filtered : (p : Table → Bool) (ts : List Table) → IsApart ts → IsApart (filter p ts)
apart_filtered p [] apart = tt
apart_filtered p (t ∷ ts) apart = elim (p t) as (λ b. IsApart (cond b (t ∷ filter p ts) (filter p ts))) [
  | true ↦ (all_filtered (λ (u : Table). Lt t.last u.first) p ts apart.0, apart_filtered p ts apart.1)
  | false ↦ apart_filtered p ts apart.1
]

length-map : (f : List Table → List Table) (levels : List (List Table)) → length (map f levels) ≡ length levels
length-map f [] = refl
length-map f (ts ∷ deeper) = let later = length-map f deeper in omega (arith, later)

length-at_level : (n : ℕ) (f : List Table → List Table) (levels : List (List Table))
    → length (at_level n f levels) ≡ length levels
length-at_level n f [] = refl
length-at_level n f (ts ∷ deeper) = elim (n == 0) as
    (λ b. length (cond b (f ts ∷ deeper) (ts ∷ at_level (n - 1) f deeper)) ≡ length (ts ∷ deeper)) [
      | true ↦ omega arith
      | false ↦ (let later = length-at_level (n - 1) f deeper in omega (arith, later))
    ]

pub at_a_level : (P : Table → Type 0) (n : ℕ) (levels : List (List Table)) → AllByRecursion P (flat levels)
    → AllByRecursion P (level_at n levels)
at_a_level P n [] all = tt
at_a_level P n (ts ∷ deeper) all =
    let both = all_parts P ts (flat deeper) all in
    elim (n == 0) as (λ b. AllByRecursion P (cond b ts (level_at (n - 1) deeper))) [
      | true ↦ both.0
      | false ↦ at_a_level P (n - 1) deeper both.1
    ]

distinct_level : (n : ℕ) (levels : List (List Table)) → IsDistinct (flat levels) → IsDistinct (level_at n levels)
distinct_level n [] d = tt
distinct_level n (ts ∷ deeper) d =
    let parts = distinct_parts ts (flat deeper) d in
    elim (n == 0) as (λ b. IsDistinct (cond b ts (level_at (n - 1) deeper))) [
      | true ↦ parts.0
      | false ↦ distinct_level (n - 1) deeper parts.1.0
    ]

-- ---- a flush

keys_placed : (es : List Entry) → IsSorted es → IsSorted (map placed es)
keys_placed [] sorted = tt
keys_placed (e ∷ es) sorted = (below es sorted.0, keys_placed es sorted.1)
  where
    below : (fs : List Entry) → AllByRecursion (λ (f : Entry). Le e.key f.key) fs
        → AllByRecursion (λ (f : Entry). Le e.key f.key) (map placed fs)
    below [] all = tt
    below (f ∷ fs) all = (all.0, below fs all.1)

both_all : (P Q : Entry → Type 0) (es : List Entry) → AllByRecursion P es → AllByRecursion Q es
    → AllByRecursion (λ (e : Entry). P e × Q e) es
both_all P Q [] a b = tt
both_all P Q (e ∷ es) a b = ((a.0, b.0), both_all P Q es a.1 b.1)

pub levels_flushed : (l : Layout) (s : Segment) → AreLevels l.levels
    → AllByRecursion (λ (t : Table). t.number < l.next_table) (tables l) → AreLevels (flushed l s).levels
levels_flushed l s are drawn = by l.levels are drawn
  where
    t : Table
    t = flushed_table l s

    sorted : IsSorted (map placed (memtable s))
    sorted = keys_placed (memtable s) (sorted_in_order (logged_entries s.format s.number 16 s.frames))

    ranged : IsRanged (flushed_table l s)
    ranged =
        both_all (λ (e : Entry). Le (first_key (map placed (memtable s))) e.key)
        (λ (e : Entry). Le e.key (last_key (map placed (memtable s)))) (map placed (memtable s))
        (from_first (map placed (memtable s)) sorted) (up_to_last (map placed (memtable s)) sorted)

    by : (levels : List (List Table)) → AreLevels levels
        → AllByRecursion (λ (u : Table). u.number < l.next_table) (flat levels)
        → AreLevels (in_front (flushed_table l s) levels)
    by [] are drawn = absurd (let seven = are.seven in omega (arith, seven))
    by (level ∷ deeper) are drawn = record {
      distinct = (
        all_weaker (λ (u : Table). u.number < l.next_table) (λ (u : Table). u.number ≢ l.next_table)
            (λ u less same. omega (arith, less, same)) (flat (level ∷ deeper)) drawn,
        are.distinct,
      );
      ranged = (ranged, are.ranged);
      wide = (first_last (map placed (memtable s)) sorted, are.wide);
      apart = λ n some. let no : (n == 0) ≡ false = grind (arith, nat_tests, some) in
          subst IsApart (ap (λ b. cond b level (level_at (n - 1) deeper)) no
          ∙ sym (ap (λ b. cond b (flushed_table l s ∷ level) (level_at (n - 1) deeper)) no)) (are.apart n some);
      seven = are.seven;
    }

-- ---- an install into a level

module _ (l : Layout) (h : History) (job : Job) (moved : List Named) (k : IsOpenWell l h job moved) (made : Made)
    (all : AreOutputs job made)
    (are : AreLevels l.levels) (distinct_made : IsDistinct made.tables) (other : AreOther made.tables (tables l)) where
  made_all : (Q : Table → Type 0) → AllByRecursion Q (tables_made all.numbers (outputs job))
      → AllByRecursion Q made.tables
  made_all Q these = subst (AllByRecursion Q) (sym all.tables) these

  ranged_made : AllByRecursion IsRanged made.tables
  ranged_made = made_all IsRanged (outputs_apart job all.numbers).0

  wide_made : AllByRecursion IsWide made.tables
  wide_made = made_all IsWide (job_wide job all.numbers)

  apart_made : IsApart made.tables
  apart_made = subst IsApart (sym all.tables) (outputs_apart job all.numbers).1

  stay : (P : Table → Type 0) → AllByRecursion P (tables l)
      → AllByRecursion (λ (t : Table). is_among job.inputs t ≡ false → P t) (tables l)
  stay P these = all_weaker P (λ (t : Table). is_among job.inputs t ≡ false → P t) (λ t is out. is) (tables l) these

  aside_made : (u : Table) → IsBesideAll (inputs_of job.base) u → IsAside made.tables u
  aside_made u beside = ⊎_elim
      (λ (above : AllByRecursion (λ (e : Entry). Lt u.last e.key) (inputs_of job.base)). inl
      (all_weaker (λ (t : Table). Lt u.last t.first × Lt u.last t.last) (λ (t : Table). Lt u.last t.first) (λ t is. is.0) made.tables
      (made_all (λ (t : Table). Lt u.last t.first × Lt u.last t.last) (job_ends (λ (key : List ℕ). Lt u.last key) job all.numbers above))))
      (λ (below : AllByRecursion (λ (e : Entry). Lt e.key u.first) (inputs_of job.base)). inr
      (all_weaker (λ (t : Table). Lt t.first u.first × Lt t.last u.first) (λ (t : Table). Lt t.last u.first) (λ t is. is.1) made.tables
      (made_all (λ (t : Table). Lt t.first u.first × Lt t.last u.first)
      (job_ends (λ (key : List ℕ). Lt key u.first) job all.numbers below))))
      beside

  asides : (us : List Table)
      → AllByRecursion (λ (u : Table). is_among job.inputs u ≡ false → IsBesideAll (inputs_of job.base) u) us
      → AllByRecursion (IsAside made.tables) (without job.inputs us)
  asides [] beside = tt
  asides (u ∷ us) beside = by (is_among job.inputs u) beside.0 (asides us beside.1)
    where
      by : (b : Bool) → (b ≡ false → IsBesideAll (inputs_of job.base) u)
          → AllByRecursion (IsAside made.tables) (without job.inputs us)
          → AllByRecursion (IsAside made.tables) (cond (not b) (u ∷ without job.inputs us) (without job.inputs us))
      by true here later = later
      by false here later = (aside_made u (here refl), later)

  into_level : (m : ℕ) → IsRoomy l.levels job (Level m) → AreLevels (replaced (Level m) job.inputs made.tables l.levels)
  into_level m roomy = record {
    distinct = distinct_at_level made.tables distinct_made m (map (without job.inputs) l.levels)
        (subst IsDistinct (sym (flat_without job.inputs l.levels))
        (distinct_filtered (λ t. not (is_among job.inputs t)) (tables l) are.distinct))
        (subst (AreOther made.tables) (sym (flat_without job.inputs l.levels))
        (all_weaker (λ (x : Table). AllByRecursion (λ (y : Table). y.number ≢ x.number) (tables l))
        (λ (x : Table). AllByRecursion (λ (y : Table). y.number ≢ x.number) (without job.inputs (tables l)))
        (λ x off. all_filtered (λ (y : Table). y.number ≢ x.number) (λ t. not (is_among job.inputs t)) (tables l) off) made.tables other));
    ranged = all_replaced IsRanged job.inputs made.tables ranged_made (Level m) l.levels (stay IsRanged are.ranged);
    wide = all_replaced IsWide job.inputs made.tables wide_made (Level m) l.levels (stay IsWide are.wide);
    apart = λ n some. level-at_level IsApart (in_key_order made.tables) m n (map (without job.inputs) l.levels)
        (kept_apart n some)
        (λ same. key_order_apart made.tables (level_at n (map (without job.inputs) l.levels)) apart_made
        (kept_apart n some) wide_made (kept_wide n) (kept_aside n same));
    seven =
        length-at_level m (in_key_order made.tables) (map (without job.inputs) l.levels)
        ∙ length-map (without job.inputs) l.levels ∙ are.seven;
  }
    where
      kept_is : (n : ℕ) → level_at n (map (without job.inputs) l.levels) ≡ without job.inputs (level_at n l.levels)
      kept_is n = level-map (without job.inputs) refl n l.levels

      kept_apart : (n : ℕ) → 0 < n → IsApart (level_at n (map (without job.inputs) l.levels))
      kept_apart n some =
          subst IsApart (sym (kept_is n)) (apart_filtered (λ t. not (is_among job.inputs t)) (level_at n l.levels) (are.apart n some))

      kept_wide : (n : ℕ) → AllByRecursion IsWide (level_at n (map (without job.inputs) l.levels))
      kept_wide n =
          subst (AllByRecursion IsWide) (sym (kept_is n))
          (all_filtered IsWide (λ t. not (is_among job.inputs t)) (level_at n l.levels) (at_a_level IsWide n l.levels are.wide))

      kept_aside : (n : ℕ) → m ≡ n
          → AllByRecursion (IsAside made.tables) (level_at n (map (without job.inputs) l.levels))
      kept_aside n same = subst (AllByRecursion (IsAside made.tables)) (sym (kept_is n))
          (asides (level_at n l.levels)
          (subst (λ (i : ℕ). AllByRecursion
          (λ (u : Table). is_among job.inputs u ≡ false → IsBesideAll (inputs_of job.base) u) (level_at i l.levels)) same roomy.1.1))

  -- ---- in the place of one table

  swap : List Table → List Table
  swap ts = flat_map (λ t. cond (is_among job.inputs t) made.tables (t ∷ [])) ts

  swap-append : (xs ys : List Table) → flat_map (λ t. cond (is_among job.inputs t) made.tables (t ∷ [])) (xs ++ ys)
      ≡ flat_map (λ t. cond (is_among job.inputs t) made.tables (t ∷ [])) xs ++ flat_map
      (λ t. cond (is_among job.inputs t) made.tables (t ∷ [])) ys
  swap-append [] ys = refl
  swap-append (x ∷ xs) ys =
      ap (λ (zs : List Table). cond (is_among job.inputs x) made.tables (x ∷ []) ++ zs) (swap-append xs ys)
      ∙ sym (append_assoc (cond (is_among job.inputs x) made.tables (x ∷ []))
      (flat_map (λ t. cond (is_among job.inputs t) made.tables (t ∷ [])) xs)
      (flat_map (λ t. cond (is_among job.inputs t) made.tables (t ∷ [])) ys))

  swap_idle : (xs : List Table) → IsIdle job.inputs xs
      → flat_map (λ t. cond (is_among job.inputs t) made.tables (t ∷ [])) xs ≡ xs
  swap_idle [] idle = refl
  swap_idle (x ∷ xs) idle =
      ap (λ b. cond b made.tables (x ∷ []) ++ flat_map (λ t. cond (is_among job.inputs t) made.tables (t ∷ [])) xs) idle.0
      ∙ ap (λ (ys : List Table). x ∷ ys) (swap_idle xs idle.1)

  flat_swapped : (levels : List (List Table))
      → flat (map (flat_map (λ t. cond (is_among job.inputs t) made.tables (t ∷ []))) levels)
      ≡ flat_map (λ t. cond (is_among job.inputs t) made.tables (t ∷ [])) (flat levels)
  flat_swapped [] = refl
  flat_swapped (ts ∷ deeper) =
      ap (λ (us : List Table). flat_map (λ t. cond (is_among job.inputs t) made.tables (t ∷ [])) ts ++ us) (flat_swapped deeper)
      ∙ sym (swap-append ts (flat deeper))

  -- all new tables lie in the range of an input, which is the only one
  abbrev pub IsInside : ℕ → Table → Type 0
  IsInside number u =
      is_among job.inputs u ≡ true → (u.number ≡ number) × AllByRecursion (λ (v : Table). Le u.first v.first × Le v.last u.last) made.tables

  behind_swapped : (number : ℕ) (t : Table) (us : List Table)
      → AllByRecursion (λ (u : Table). Lt t.last u.first) us → AllByRecursion (IsInside number) us
      → AllByRecursion (λ (u : Table). Lt t.last u.first) (flat_map (λ t. cond (is_among job.inputs t) made.tables (t ∷ [])) us)
  behind_swapped number t [] after inside = tt
  behind_swapped number t (u ∷ us) after inside =
      all_both (λ (v : Table). Lt t.last v.first) (cond (is_among job.inputs u) made.tables (u ∷ []))
      (flat_map (λ t. cond (is_among job.inputs t) made.tables (t ∷ [])) us)
      (one (is_among job.inputs u) refl) (behind_swapped number t us after.1 inside.1)
    where
      one : (b : Bool) → is_among job.inputs u ≡ b
          → AllByRecursion (λ (v : Table). Lt t.last v.first) (cond b made.tables (u ∷ []))
      one true is =
          all_weaker (λ (v : Table). Le u.first v.first × Le v.last u.last) (λ (v : Table). Lt t.last v.first)
          (λ v at. lt_le_then t.last u.first v.first after.0 at.0) made.tables (inside.0 is).1
      one false is = (after.0, tt)

  apart_before : (vs us : List Table) → IsApart vs → IsApart us
      → AllByRecursion (λ (v : Table). AllByRecursion (λ (u : Table). Lt v.last u.first) us) vs
      → IsApart (vs ++ us)
  apart_before [] us a b before = b
  apart_before (v ∷ vs) us a b before =
      (all_both (λ (u : Table). Lt v.last u.first) vs us a.0 before.0, apart_before vs us a.1 b before.1)

  apart_swapped : (number : ℕ) (ts : List Table) → IsApart ts → IsDistinct ts
      → AllByRecursion (IsInside number) ts
      → IsApart (flat_map (λ t. cond (is_among job.inputs t) made.tables (t ∷ [])) ts)
  apart_swapped number [] apart d inside = tt
  apart_swapped number (t ∷ ts) apart d inside =
      by (is_among job.inputs t) refl (apart_swapped number ts apart.1 d.1 inside.1)
    where
      by : (b : Bool) → is_among job.inputs t ≡ b
          → IsApart (flat_map (λ t. cond (is_among job.inputs t) made.tables (t ∷ [])) ts)
          → IsApart (cond b made.tables (t ∷ []) ++ flat_map (λ t. cond (is_among job.inputs t) made.tables (t ∷ [])) ts)
      by true is later =
          let within = inside.0 is in
          let idle : IsIdle job.inputs ts = no_more ts d.0 inside.1 in
          subst (λ (us : List Table). IsApart (made.tables ++ us)) (sym (swap_idle ts idle))
          (apart_before made.tables ts apart_made apart.1
          (all_weaker (λ (v : Table). Le t.first v.first × Le v.last t.last)
          (λ (v : Table). AllByRecursion (λ (u : Table). Lt v.last u.first) ts)
          (λ v at. all_weaker (λ (u : Table). Lt t.last u.first) (λ (u : Table). Lt v.last u.first)
          (λ u less. le_lt v.last t.last u.first at.1 less) ts apart.0) made.tables within.1))
        where
          no_more : (us : List Table) → AllByRecursion (λ (u : Table). u.number ≢ t.number) us
              → AllByRecursion (IsInside number) us → IsIdle job.inputs us
          no_more [] off in_us = tt
          no_more (u ∷ us) off in_us =
              (not_so (is_among job.inputs u) (λ at. off.0 ((in_us.0 at).0 ∙ sym (inside.0 is).0)), no_more us off.1 in_us.1)
            where
              not_so : (b : Bool) → (b ≡ true → ⊥) → b ≡ false
              not_so true never = absurd (never refl)
              not_so false never = refl
      by false is later = (behind_swapped number t ts apart.0 inside.1, later)

  into_place : IsFitted l job InPlace → AreLevels (replaced InPlace job.inputs made.tables l.levels)
  into_place fit = record {
    distinct =
        subst IsDistinct (sym (flat_swapped l.levels
        ∙ ap (flat_map (λ t. cond (is_among job.inputs t) made.tables (t ∷ []))) fit.3 ∙ swapped))
        (distinct_both fit.0 (made.tables ++ fit.2) front.0 (distinct_both made.tables fit.2 distinct_made back.1.0
        (all_weaker (λ (x : Table). AllByRecursion (λ (y : Table). y.number ≢ x.number) (tables l))
        (λ (x : Table). AllByRecursion (λ (y : Table). y.number ≢ x.number) fit.2)
        (λ x off. (others x off).1) made.tables other))
        (both (λ (x : Table). AllByRecursion (λ (y : Table). y.number ≢ x.number) (t ∷ fit.2))
        (λ (x : Table). AllByRecursion (λ (y : Table). y.number ≢ x.number) made.tables)
        (λ (x : Table). AllByRecursion (λ (y : Table). y.number ≢ x.number) (made.tables ++ fit.2))
        (λ x a b. all_both (λ (y : Table). y.number ≢ x.number) made.tables fit.2 b a.1) fit.0 front.1.1
        (others_turned made.tables fit.0
        (all_weaker (λ (x : Table). AllByRecursion (λ (y : Table). y.number ≢ x.number) (tables l))
        (λ (x : Table). AllByRecursion (λ (y : Table). y.number ≢ x.number) fit.0) (λ x off. (others x off).0) made.tables other))));
    ranged = all_replaced IsRanged job.inputs made.tables ranged_made InPlace l.levels (stay IsRanged are.ranged);
    wide = all_replaced IsWide job.inputs made.tables wide_made InPlace l.levels (stay IsWide are.wide);
    apart =
        λ n some. subst IsApart (sym (level-map (flat_map (λ t. cond (is_among job.inputs t) made.tables (t ∷ []))) refl n l.levels))
        (apart_swapped t.number (level_at n l.levels) (are.apart n some) (distinct_level n l.levels are.distinct)
        (at_a_level (IsInside t.number) n l.levels insides));
    seven = length-map (flat_map (λ t. cond (is_among job.inputs t) made.tables (t ∷ []))) l.levels ∙ are.seven;
  }
    where
      t : Table
      t = fit.1

      front : IsDistinct fit.0 × (IsDistinct (t ∷ fit.2) × AreOther fit.0 (t ∷ fit.2))
      front =
          let d = distinct_parts fit.0 (t ∷ fit.2) (subst IsDistinct fit.3 are.distinct) in (d.0, (d.1.0, d.1.1))

      back : AllByRecursion (λ (u : Table). u.number ≢ t.number) fit.2 × (IsDistinct fit.2 × Unit {0})
      back = (front.1.0.0, (front.1.0.1, tt))

      swapped : flat_map (λ t. cond (is_among job.inputs t) made.tables (t ∷ [])) (fit.0 ++ t ∷ fit.2) ≡ fit.0 ++ (made.tables ++ fit.2)
      swapped =
          swap-append fit.0 (t ∷ fit.2)
          ∙ ap (λ (us : List Table). us ++ flat_map (λ t. cond (is_among job.inputs t) made.tables (t ∷ []))
          (t ∷ fit.2)) (swap_idle fit.0 fit.4.0)
          ∙ ap (λ (us : List Table). fit.0 ++ us)
          (ap (λ b. cond b made.tables (t ∷ []) ++ flat_map (λ t. cond (is_among job.inputs t) made.tables (t ∷ []))
          fit.2) fit.4.1.0 ∙ ap (λ (us : List Table). made.tables ++ us) (swap_idle fit.2 fit.4.1.1))

      others : (x : Table) → AllByRecursion (λ (y : Table). y.number ≢ x.number) (tables l)
          → AllByRecursion (λ (y : Table). y.number ≢ x.number) fit.0 × AllByRecursion (λ (y : Table). y.number ≢ x.number) fit.2
      others x off =
          let parts = all_parts (λ (y : Table). y.number ≢ x.number) fit.0 (t ∷ fit.2)
          (subst (AllByRecursion (λ (y : Table). y.number ≢ x.number)) fit.3 off) in (parts.0, parts.1.1)

      both : (P Q R : Table → Type 0) → ((x : Table) → P x → Q x → R x) → (xs : List Table)
          → AllByRecursion P xs → AllByRecursion Q xs → AllByRecursion R xs
      both P Q R f [] a b = tt
      both P Q R f (x ∷ xs) a b = (f x a.0 b.0, both P Q R f xs a.1 b.1)

      ranged_t : IsRanged t
      ranged_t = (all_parts IsRanged fit.0 (t ∷ fit.2) (subst (AllByRecursion IsRanged) fit.3 are.ranged)).1.0

      idle_so : (P : Table → Type 0) (xs : List Table) → IsIdle job.inputs xs
          → AllByRecursion (λ (x : Table). is_among job.inputs x ≡ true → P x) xs
      idle_so P xs idle =
          all_weaker (λ (x : Table). is_among job.inputs x ≡ false) (λ (x : Table). is_among job.inputs x ≡ true → P x)
          (λ x out is. absurd (true_false (sym is ∙ out))) xs idle

      only_t : (P : Table → Type 0) → P t
          → AllByRecursion (λ (x : Table). is_among job.inputs x ≡ true → P x) (tables l)
      only_t P here = subst (AllByRecursion (λ (x : Table). is_among job.inputs x ≡ true → P x)) (sym fit.3)
          (all_both (λ (x : Table). is_among job.inputs x ≡ true → P x) fit.0 (t ∷ fit.2) (idle_so P fit.0 fit.4.0)
          ((λ is. here), idle_so P fit.2 fit.4.1.1))

      within : AllByRecursion (λ (e : Entry). Le t.first e.key × Le e.key t.last) (inputs_of job.base)
      within =
          subst (AllByRecursion (λ (e : Entry). Le t.first e.key × Le e.key t.last)) (same_inputs job moved (sourced l job.inputs) k.kept)
          (sourced_inputs (λ (e : Entry). Le t.first e.key × Le e.key t.last) l job.inputs
          (only_t (λ (x : Table). AllByRecursion (λ (e : Entry). Le t.first e.key × Le e.key t.last) x.entries) ranged_t))

      inside_t : AllByRecursion (λ (v : Table). Le t.first v.first × Le v.last t.last) made.tables
      inside_t =
          all_weaker (λ (v : Table). (Le t.first v.first × Le v.first t.last) × (Le t.first v.last × Le v.last t.last))
          (λ (v : Table). Le t.first v.first × Le v.last t.last) (λ v is. (is.0.0, is.1.1)) made.tables
          (made_all (λ (v : Table). (Le t.first v.first × Le v.first t.last) × (Le t.first v.last × Le v.last t.last))
          (job_ends (λ (key : List ℕ). Le t.first key × Le key t.last) job all.numbers within))

      insides : AllByRecursion (IsInside t.number) (tables l)
      insides =
          only_t (λ (u : Table). (u.number ≡ t.number)
          × AllByRecursion (λ (v : Table). Le u.first v.first × Le v.last u.last) made.tables) (refl, inside_t)

  pub levels_replaced : AreLevels (replaced job.target job.inputs made.tables l.levels)
  levels_replaced = by job.target k.fitted k.roomy
    where
      by : (target : Target) → IsFitted l job target → IsRoomy l.levels job target
          → AreLevels (replaced target job.inputs made.tables l.levels)
      by (Level m) fit roomy = into_level m roomy
      by InPlace fit roomy = into_place fit
