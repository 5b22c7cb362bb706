-- A job is open well once it is planned.
use Rattle.std.proofs.Common.{◌≡◌, ◌⊎◌, ℕ, ◌+◌, ◌≤◌, ◌<◌, Bool, true, false, cond, ◌&&◌, ◌||◌, List, [], ◌∷◌, ◌++◌}
use Rattle.std.proofs.Common.{refl, ap, sym, ◌∙◌, subst, arith, length}
use Rattle.std.proofs.lemmas.Bool.{and_parts}
use Rattle.std.proofs.lemmas.Bool.Decides.{nat_tests}
use Rattle.std.specs.Prelude.{Option, Some, None, ◌==◌, nat_le, nat_lt, if◌then◌else◌}
use Rattle.std.specs.List.{AllByRecursion, filter, list_any, sum_by}
use Rattle.std.specs.Ordering.{eq_by_cmp}
use Rattle.vl_model.specs.History.{History}
use Rattle.vl_model.specs.Keys.{key_cmp}
use Rattle.vl_model.specs.Numbers.{has}
use Rattle.vl_model.specs.Versions.{versions, versions_in}
use Rattle.vl_model.specs.declared.entry.Entry.{Entry}
use Rattle.vl_model.specs.laws.WinnerLaws.{same_key}
use Rattle.vl_engine_model.specs.Levels.{due_from, due_inputs, due_tables, first_into, has_point, inputs_at, is_among}
use Rattle.vl_engine_model.specs.Levels.{is_due, level_at, level_bytes, meets, range_of}
use Rattle.vl_engine_model.specs.Merging.{inputs_of}
use Rattle.vl_engine_model.specs.OpenJobs.{AreStanding, IsFitted, IsOpenWell}
use Rattle.vl_engine_model.specs.Rulings.Drain.{drain_of, drain_ruling, drain_unless}
use Rattle.vl_engine_model.specs.Rulings.Plan.{job_of, plan_of, plan_ruling, plan_unless, sourced, with_job}
use Rattle.vl_engine_model.specs.Shown.{AreOf, IsOf}
use Rattle.vl_engine_model.specs.Sources.{numbers_of, tables}
use Rattle.vl_engine_model.specs.TidyLevels.{AreLevels}
use Rattle.vl_engine_model.specs.declared.job.Job.{Job}
use Rattle.vl_engine_model.specs.declared.job.OpenJob.{OpenJob}
use Rattle.vl_engine_model.specs.declared.job.Target.{Target}
use Rattle.vl_engine_model.specs.declared.job.Target.TheVariants.{Level, InPlace}
use Rattle.vl_engine_model.specs.declared.layout.Layout.{Layout}
use Rattle.vl_engine_model.specs.declared.table.Table.{Table}
use Rattle.vl_engine_model_laws.specs.laws.Beside.{open_at_first}
use Rattle.vl_engine_model_laws.specs.laws.Files.{all_both, all_filtered, all_weaker, or_cases, or_left, or_right, true_false}
use Rattle.vl_engine_model_laws.specs.laws.LevelsKept.{at_a_level}
use Rattle.vl_engine_model_laws.specs.laws.Planned.{all_given, drain_fitted, plan_fitted}
use Rattle.vl_engine_model_laws.specs.laws.Roomy.{plan_roomy, sourced_inputs}

-- ---- versions of the history

-- where each entry's version is one of the history, all of a key's are
pub are_of : (h : History) (es : List Entry) → AllByRecursion (IsOf h) es → AreOf h es
are_of h [] all key n there = absurd (true_false (sym there))
are_of h (e ∷ es) all key n there =
    by (eq_by_cmp key_cmp key e.key) refl there (λ later. are_of h es all.1 key n later)
  where
    by : (b : Bool) → eq_by_cmp key_cmp key e.key ≡ b
        → has n (Rattle.std.proofs.Common.map (λ (f : Entry). f.version)
        (cond b (e ∷ filter (λ (f : Entry). eq_by_cmp key_cmp key f.key) es) (filter (λ (f : Entry). eq_by_cmp key_cmp key f.key) es)))
        ≡ true
        → (has n (versions_in es key) ≡ true → has n (versions h key) ≡ true) → has n (versions h key) ≡ true
    by false is there rest = rest there
    by true is there rest = Rattle.std.proofs.Common.⊎_elim
        (λ (here : (e.version == n) ≡ true).
        let same : e.version ≡ n = grind (arith, nat_tests, here) in
        subst (λ (m : ℕ). has m (versions h key) ≡ true) same
        (subst (λ (k : List ℕ). has e.version (versions h k) ≡ true) (sym (same_key key e.key is)) all.0))
        (λ (later : has n (versions_in es key) ≡ true). rest later)
        (or_cases (e.version == n) (has n (versions_in es key)) there)

-- ---- a plan

-- none deeper than level 5 is due
due_within : (k n : ℕ) (levels : List (List Table)) → due_from k levels ≡ Some n → n ≤ 5
due_within k n [] is = absurd cc
due_within k n (ts ∷ deeper) is = by (is_due k ts) refl is (due_within (k + 1) n deeper)
  where
    deep : (b : Bool) → (k == 0) ≡ b
        → cond b (nat_le due_tables (length ts)) (nat_le k 5 && nat_lt (level_bytes k) (sum_by (λ (t : Table). t.length) ts))
        ≡ true → k ≤ 5
    deep true at due = let zero_is : k ≡ 0 = grind (arith, nat_tests, at) in omega (arith, zero_is)
    deep false at due =
        let less = (and_parts (nat_le k 5) (nat_lt (level_bytes k) (sum_by (λ (t : Table). t.length) ts)) due).0 in let
        is : k ≤ 5 = grind (arith, nat_tests, less) in is

    by : (b : Bool) → is_due k ts ≡ b → (if b then Some k else due_from (k + 1) deeper) ≡ Some n
        → (due_from (k + 1) deeper ≡ Some n → n ≤ 5) → n ≤ 5
    by true due is later = let same : k ≡ n = cc in subst (λ (m : ℕ). m ≤ 5) same (deep (k == 0) refl due)
    by false due is later = later is

all_inputs : (P : Table → Type 0) (l : Layout) (n : ℕ) → AllByRecursion P (tables l)
    → AllByRecursion P (inputs_at n l.levels)
all_inputs P l n all =
    all_both P (due_inputs n (level_at n l.levels))
    (filter (meets (range_of (due_inputs n (level_at n l.levels)))) (level_at (n + 1) l.levels))
    (all_given P n (level_at n l.levels) (at_a_level P n l.levels all))
    (all_filtered P (meets (range_of (due_inputs n (level_at n l.levels)))) (level_at (n + 1) l.levels) (at_a_level P (n + 1) l.levels all))

standing_all : (ts : List Table)
    → AllByRecursion (λ (t : Table). list_any (λ (u : Table). t.number == u.number) ts ≡ true) ts
standing_all [] = tt
standing_all (t ∷ ts) = (
  or_left (t.number == t.number) (list_any (λ (u : Table). t.number == u.number) ts) (grind (arith, nat_tests)),
  all_weaker (λ (x : Table). list_any (λ (u : Table). x.number == u.number) ts ≡ true)
      (λ (x : Table). list_any (λ (u : Table). x.number == u.number) (t ∷ ts) ≡ true)
      (λ x is. or_right (x.number == t.number) (list_any (λ (u : Table). x.number == u.number) ts) is) ts (standing_all ts),
)

stand : (l : Layout) (ins : List Table)
    → AllByRecursion (λ (t : Table). list_any (λ (u : Table). t.number == u.number) (tables l) ≡ true) ins
    → AreStanding (tables l) (numbers_of ins)
stand l [] all = tt
stand l (t ∷ ts) all = (all.0, stand l ts all.1)

one_into : (P : Table → Type 0) (segment : ℕ) (ts : List Table) (t : Table) → AllByRecursion P ts
    → first_into segment ts ≡ Some t → P t
one_into P segment [] t all is = absurd cc
one_into P segment (u ∷ us) t all is = by (has_point segment u) is (one_into P segment us t all.1)
  where
    by : (b : Bool) → cond b (Some u) (first_into segment us) ≡ Some t → (first_into segment us ≡ Some t → P t) → P t
    by true is later = let same : u ≡ t = cc in subst P same all.0
    by false is later = later is

module _ (l : Layout) (h : History) (are : AreLevels l.levels)
    (drawn : AllByRecursion (λ (t : Table). t.number < l.next_table) (tables l)) (some : 1 ≤ l.keep)
    (of : AllByRecursion (λ (t : Table). AllByRecursion (IsOf h) t.entries) (tables l)) where
  base_of : (inputs : List ℕ) → AreOf h (inputs_of (sourced l inputs))
  base_of inputs = are_of h (inputs_of (sourced l inputs)) (sourced_inputs (IsOf h) l inputs
      (all_weaker (λ (t : Table). AllByRecursion (IsOf h) t.entries)
      (λ (t : Table). is_among inputs t ≡ true → AllByRecursion (IsOf h) t.entries) (λ t all is. all) (tables l) of))

  -- with itself as the open one
  opened : (job : Job) → IsOpenWell l h job [] → IsOpenWell (with_job job l) h job []
  opened job k = record {
    kept = k.kept;
    last = k.last;
    live = k.live;
    given = k.given;
    standing = k.standing;
    fitted = by job.target k.fitted;
    roomy = k.roomy;
    some = k.some;
    fits = k.fits;
    of = k.of;
  }
    where
      by : (target : Target) → IsFitted l job target → IsFitted (with_job job l) job target
      by (Level n) fit = fit
      by InPlace fit = fit

  planned_well : (n : ℕ) → n ≤ 5
      → IsOpenWell (with_job (job_of l h (inputs_at n l.levels) (Level (n + 1))) l) h (job_of l h (inputs_at n l.levels) (Level (n + 1))) []
  planned_well n low =
      let within : n + 1 < length l.levels = (let seven = are.seven in omega (arith, seven, low)) in
      opened (job_of l h (inputs_at n l.levels) (Level (n + 1)))
      (open_at_first l h (inputs_at n l.levels) (Level (n + 1)) (all_inputs (λ (t : Table). t.number < l.next_table) l n drawn)
      (stand l (inputs_at n l.levels)
      (all_inputs (λ (t : Table). list_any (λ (u : Table). t.number == u.number) (tables l) ≡ true) l n (standing_all (tables l))))
      (plan_fitted l h n are within) (plan_roomy l h n are within) some (base_of (numbers_of (inputs_at n l.levels))))

  pub plan_of-well : (o : Option ℕ) → due_from 0 l.levels ≡ o → (job : Job)
      → (plan_of l h o).answer ≡ Some job → IsOpenWell (plan_of l h o).layout h job []
  plan_of-well None is job answer = absurd cc
  plan_of-well (Some n) is job answer =
      let same : job_of l h (inputs_at n l.levels) (Level (n + 1)) ≡ job = cc in
      subst (λ (j : Job). IsOpenWell (with_job (job_of l h (inputs_at n l.levels) (Level (n + 1))) l) h j []) same
      (planned_well n (due_within 0 n l.levels is))

  plan_unless-well : (o : Option OpenJob) (job : Job) → (plan_unless o l h).answer ≡ Some job
      → IsOpenWell (plan_unless o l h).layout h job []
  plan_unless-well (Some open_one) job answer = absurd cc
  plan_unless-well None job answer = plan_of-well (due_from 0 l.levels) refl job answer

  pub plan_opens : (job : Job) → (plan_ruling l h).answer ≡ Some job → IsOpenWell (plan_ruling l h).layout h job []
  plan_opens job answer = plan_unless-well l.job job answer

  drained_well : (segment : ℕ) (t : Table) → first_into segment (tables l) ≡ Some t
      → IsOpenWell (with_job (job_of l h (t ∷ []) InPlace) l) h (job_of l h (t ∷ []) InPlace) []
  drained_well segment t is =
      opened (job_of l h (t ∷ []) InPlace)
      (open_at_first l h (t ∷ []) InPlace (one_into (λ (u : Table). u.number < l.next_table) segment (tables l) t drawn is, tt) (
        one_into (λ (u : Table). list_any (λ (v : Table). u.number == v.number) (tables l) ≡ true) segment (tables l) t
            (standing_all (tables l)) is,
        tt,
      )
      (drain_fitted l h segment t are.distinct is) tt some (base_of (numbers_of (t ∷ []))))

  pub drain_of-well : (segment : ℕ) (o : Option Table) → first_into segment (tables l) ≡ o → (job : Job)
      → (drain_of l h o).answer ≡ Some job → IsOpenWell (drain_of l h o).layout h job []
  drain_of-well segment None is job answer = absurd cc
  drain_of-well segment (Some t) is job answer =
      let same : job_of l h (t ∷ []) InPlace ≡ job = cc in
      subst (λ (j : Job). IsOpenWell (with_job (job_of l h (t ∷ []) InPlace) l) h j []) same (drained_well segment t is)

  drain_unless-well : (segment : ℕ) (o : Option OpenJob) (job : Job)
      → (drain_unless o l h segment).answer ≡ Some job
      → IsOpenWell (drain_unless o l h segment).layout h job []
  drain_unless-well segment (Some open_one) job answer = absurd cc
  drain_unless-well segment None job answer = drain_of-well segment (first_into segment (tables l)) refl job answer

  pub drain_opens : (segment : ℕ) (job : Job) → (drain_ruling l h segment).answer ≡ Some job
      → IsOpenWell (drain_ruling l h segment).layout h job []
  drain_opens segment job answer = drain_unless-well segment l.job job answer
