-- Which tables stand behind an install: those that it made, and each that was no input.
use Rattle.std.proofs.Common.{◌≡◌, ⊎_elim, ℕ, ◌-◌, ◌<◌, Bool, true, false, not, ◌&&◌, ◌||◌, List, [], ◌∷◌, ◌++◌}
use Rattle.std.proofs.Common.{length, map, refl, ap, sym, ◌∙◌, arith}
use Rattle.std.proofs.lemmas.Bool.Decides.{nat_tests}
use Rattle.std.specs.Prelude.{◌==◌, if◌then◌else◌}
use Rattle.std.specs.List.{flat_map, list_any}
use Rattle.vl_engine_model.specs.Jobs.{Made}
use Rattle.vl_engine_model.specs.Levels.{at_level, in_key_order, is_among, is_before, replaced, without}
use Rattle.vl_engine_model.specs.OpenJobs.{IsFitted, IsRoomy}
use Rattle.vl_engine_model.specs.Rulings.Install.{installed}
use Rattle.vl_engine_model.specs.Sources.{tables}
use Rattle.vl_engine_model.specs.declared.job.Job.{Job}
use Rattle.vl_engine_model.specs.declared.job.Target.TheVariants.{InPlace, Level}
use Rattle.vl_engine_model.specs.declared.job.Target.{Target}
use Rattle.vl_engine_model.specs.declared.layout.Layout.{Layout}
use Rattle.vl_engine_model.specs.declared.table.Table.{Table}
use Rattle.vl_engine_model_laws.specs.laws.Files.{any-append, any-flat_map, or_cases, or_left, or_right, true_false}

-- ---- which tables pass a test

module _ (q : Table → Bool) where
  abbrev pub Any : List Table → Bool
  Any ts = list_any q ts

  abbrev pub AnyIn : List (List Table) → Bool
  AnyIn levels = Any (flat_map (λ ts. ts) levels)

  any_levels : (ts : List Table) (deeper : List (List Table)) → AnyIn (ts ∷ deeper) ≡ (Any ts || AnyIn deeper)
  any_levels ts deeper = any-append q ts (flat_map (λ us. us) deeper)

  either_level : (ts us : List Table) (deeper others : List (List Table)) → (Any ts ≡ true → Any us ≡ true)
      → (AnyIn deeper ≡ true → AnyIn others ≡ true) → AnyIn (ts ∷ deeper) ≡ true → AnyIn (us ∷ others) ≡ true
  either_level ts us deeper others here below there = any_levels us others ∙ ⊎_elim
      (λ (at : Any ts ≡ true). or_left (Any us) (AnyIn others) (here at))
      (λ (later : AnyIn deeper ≡ true). or_right (Any us) (AnyIn others) (below later))
      (or_cases (Any ts) (AnyIn deeper) (sym (any_levels ts deeper) ∙ there))

  -- ---- into a level

  in_order_stays : (new ts : List Table) → Any ts ≡ true → Any (in_key_order new ts) ≡ true
  in_order_stays new [] there = absurd (true_false (sym there))
  in_order_stays new (t ∷ ts) there = by (is_before t new) (in_order_stays new ts)
    where
      by : (b : Bool) → (Any ts ≡ true → Any (in_key_order new ts) ≡ true)
          → Any (if b then t ∷ in_key_order new ts else new ++ t ∷ ts) ≡ true
      by true later = ⊎_elim (λ (at : q t ≡ true). or_left (q t) (Any (in_key_order new ts)) at)
          (λ (more : Any ts ≡ true). or_right (q t) (Any (in_key_order new ts)) (later more)) (or_cases (q t) (Any ts) there)
      by false later = any-append q new (t ∷ ts) ∙ or_right (Any new) (Any (t ∷ ts)) there

  in_order_put : (new ts : List Table) → Any new ≡ true → Any (in_key_order new ts) ≡ true
  in_order_put new [] there = there
  in_order_put new (t ∷ ts) there = by (is_before t new) (in_order_put new ts there)
    where
      by : (b : Bool) → Any (in_key_order new ts) ≡ true → Any (if b then t ∷ in_key_order new ts else new ++ t ∷ ts) ≡ true
      by true later = or_right (q t) (Any (in_key_order new ts)) later
      by false later = any-append q new (t ∷ ts) ∙ or_left (Any new) (Any (t ∷ ts)) there

  same_level : (levels : List (List Table)) (more : List Table → List Table)
      → ((ts : List Table) → Any ts ≡ true → Any (more ts) ≡ true) → (n : ℕ) → AnyIn levels ≡ true
      → AnyIn (at_level n more levels) ≡ true
  same_level [] more stays n there = absurd (true_false (sym there))
  same_level (ts ∷ deeper) more stays n there = by (n == 0) (same_level deeper more stays (n - 1))
    where
      by : (b : Bool) → (AnyIn deeper ≡ true → AnyIn (at_level (n - 1) more deeper) ≡ true)
          → AnyIn (if b then more ts ∷ deeper else ts ∷ at_level (n - 1) more deeper) ≡ true
      by true below = either_level ts (more ts) deeper deeper (stays ts) (λ later. later) there
      by false below = either_level ts ts deeper (at_level (n - 1) more deeper) (λ at. at) below there

  put_level : (levels : List (List Table)) (more : List Table → List Table) → ((ts : List Table) → Any (more ts) ≡ true)
      → (n : ℕ) → n < length levels → AnyIn (at_level n more levels) ≡ true
  put_level [] more puts n less = absurd (omega (arith, less))
  put_level (ts ∷ deeper) more puts n less = by (n == 0) refl (put_level deeper more puts (n - 1))
    where
      by : (b : Bool) → (n == 0) ≡ b → (n - 1 < length deeper → AnyIn (at_level (n - 1) more deeper) ≡ true)
          → AnyIn (if b then more ts ∷ deeper else ts ∷ at_level (n - 1) more deeper) ≡ true
      by true is below = any_levels (more ts) deeper ∙ or_left (Any (more ts)) (AnyIn deeper) (puts ts)
      by false is below =
          let some : 0 < n = grind (arith, nat_tests, is) in
          any_levels ts (at_level (n - 1) more deeper)
          ∙ or_right (Any ts) (AnyIn (at_level (n - 1) more deeper)) (below (omega (arith, less, some)))

  -- ---- those that are no inputs

  module _ (inputs : List ℕ) where
    abbrev pub Other : List Table → Bool
    Other ts = list_any (λ (t : Table). not (is_among inputs t) && q t) ts

    left_there : (ts : List Table) → Other ts ≡ true → Any (without inputs ts) ≡ true
    left_there [] there = there
    left_there (t ∷ ts) there = by (is_among inputs t) there (left_there ts)
      where
        by : (b : Bool) → ((not b && q t) || Other ts) ≡ true → (Other ts ≡ true → Any (without inputs ts) ≡ true)
            → Any (if not b then t ∷ without inputs ts else without inputs ts) ≡ true
        by true at later = later at
        by false at later = ⊎_elim (λ (here : q t ≡ true). or_left (q t) (Any (without inputs ts)) here)
            (λ (more : Other ts ≡ true). or_right (q t) (Any (without inputs ts)) (later more)) (or_cases (q t) (Other ts) at)

    other_levels : (levels : List (List Table)) → Other (flat_map (λ ts. ts) levels) ≡ true
        → AnyIn (map (without inputs) levels) ≡ true
    other_levels [] there = there
    other_levels (ts ∷ deeper) there = any_levels (without inputs ts) (map (without inputs) deeper) ∙ ⊎_elim
        (λ (here : Other ts ≡ true).
        or_left (Any (without inputs ts)) (AnyIn (map (without inputs) deeper)) (left_there ts here))
        (λ (below : Other (flat_map (λ us. us) deeper) ≡ true).
        or_right (Any (without inputs ts)) (AnyIn (map (without inputs) deeper)) (other_levels deeper below))
        (or_cases (Other ts) (Other (flat_map (λ us. us) deeper))
        (sym (any-append (λ (t : Table). not (is_among inputs t) && q t) ts (flat_map (λ us. us) deeper)) ∙ there))

    module _ (new : List Table) where
      abbrev swap : Table → List Table
      swap t = if is_among inputs t then new else t ∷ []

      swapped_levels : (levels : List (List Table))
          → AnyIn (map (flat_map (λ t. if is_among inputs t then new else t ∷ [])) levels)
          ≡ list_any (λ (t : Table). Any (swap t)) (flat_map (λ ts. ts) levels)
      swapped_levels [] = refl
      swapped_levels (ts ∷ deeper) =
          any_levels (flat_map (λ t. if is_among inputs t then new else t ∷ []) ts)
          (map (flat_map (λ t. if is_among inputs t then new else t ∷ [])) deeper)
          ∙ ap (λ b. b || AnyIn (map (flat_map (λ t. if is_among inputs t then new else t ∷ [])) deeper))
          (any-flat_map q (λ (t : Table). swap t) ts)
          ∙ ap (λ b. list_any (λ (t : Table). Any (swap t)) ts || b) (swapped_levels deeper)
          ∙ sym (any-append (λ (t : Table). Any (swap t)) ts (flat_map (λ us. us) deeper))

      swap_stays : (ts : List Table) → Other ts ≡ true → list_any (λ (t : Table). Any (swap t)) ts ≡ true
      swap_stays [] there = there
      swap_stays (t ∷ ts) there = by (is_among inputs t) there (swap_stays ts)
        where
          by : (b : Bool) → ((not b && q t) || Other ts) ≡ true
              → (Other ts ≡ true → list_any (λ (u : Table). Any (swap u)) ts ≡ true)
              → (Any (if b then new else t ∷ []) || list_any (λ (u : Table). Any (swap u)) ts) ≡ true
          by true at later = or_right (Any new) (list_any (λ (u : Table). Any (swap u)) ts) (later at)
          by false at later = ⊎_elim
              (λ (here : q t ≡ true).
              or_left (Any (t ∷ [])) (list_any (λ (u : Table). Any (swap u)) ts) (or_left (q t) false here))
              (λ (more : Other ts ≡ true). or_right (Any (t ∷ [])) (list_any (λ (u : Table). Any (swap u)) ts) (later more))
              (or_cases (q t) (Other ts) at)

      swap_puts : (xs : List Table) (t : Table) (ys : List Table) → is_among inputs t ≡ true → Any new ≡ true
          → list_any (λ (u : Table). Any (swap u)) (xs ++ t ∷ ys) ≡ true
      swap_puts [] t ys is there =
          ap (λ b. Any (if b then new else t ∷ []) || list_any (λ (u : Table). Any (swap u)) ys) is
          ∙ or_left (Any new) (list_any (λ (u : Table). Any (swap u)) ys) there
      swap_puts (x ∷ xs) t ys is there =
          or_right (Any (swap x)) (list_any (λ (u : Table). Any (swap u)) (xs ++ t ∷ ys)) (swap_puts xs t ys is there)

-- ---- behind an install

module _ (q : Table → Bool) (l : Layout) (job : Job) (made : Made) where
  -- What was no input stays,
  pub others_stay : list_any (λ (t : Table). not (is_among job.inputs t) && q t) (tables l) ≡ true
      → list_any q (tables (installed job made l)) ≡ true
  others_stay there = by job.target
    where
      by : (target : Target) → AnyIn q (replaced target job.inputs made.tables l.levels) ≡ true
      by (Level n) = same_level q (map (without job.inputs) l.levels) (in_key_order made.tables) (in_order_stays q made.tables) n
          (other_levels q job.inputs l.levels there)
      by InPlace = swapped_levels q job.inputs made.tables l.levels ∙ swap_stays q job.inputs made.tables (tables l) there

  -- and what was made stands there.
  pub made_stand : IsFitted l job job.target → IsRoomy l.levels job job.target → list_any q made.tables ≡ true
      → list_any q (tables (installed job made l)) ≡ true
  made_stand fitted roomy there = by job.target fitted roomy
    where
      mapped : (levels : List (List Table)) → length (map (without job.inputs) levels) ≡ length levels
      mapped [] = refl
      mapped (ts ∷ deeper) = let same = mapped deeper in omega (arith, same)

      by : (target : Target) → IsFitted l job target → IsRoomy l.levels job target
          → AnyIn q (replaced target job.inputs made.tables l.levels) ≡ true
      by (Level n) fit room =
          let same = mapped l.levels in
          let less = room.1.0 in
          put_level q (map (without job.inputs) l.levels) (in_key_order made.tables)
          (λ ts. in_order_put q made.tables ts there) n (omega (arith, same, less))
      by InPlace (xs, t, ys, are, (before, (is, behind))) room =
          swapped_levels q job.inputs made.tables l.levels
          ∙ ap (list_any (λ (u : Table). list_any q (if is_among job.inputs u then made.tables else u ∷ []))) are
          ∙ swap_puts q job.inputs made.tables xs t ys is there
