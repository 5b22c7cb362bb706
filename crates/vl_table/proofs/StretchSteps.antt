-- A way through a stretch of a list, position by position.
use Rattle.std.specs.Prelude.{◌≡◌, ◌+◌, ◌-◌, ◌<◌, ◌≤◌, ℕ, suc, List, [], ◌∷◌, drop, get_or, length, reverse, take}
use Rattle.std.proofs.Common.{ap, sym, ◌∙◌, arith, length-drop}
use Rattle.std.proofs.Math.Seq.{drop-cons, take-suc}
use Rattle.std.proofs.lemmas.List.{get_or-drop, reverse-append}
use Rattle.vl_model.specs.declared.way.Way.{Way}
use Rattle.vl_model.specs.declared.way.Way.TheVariants.{Up, Down}
use Rattle.vl_table.specs.Stretches.{IsNextOn, on_way, stretch_of}
use Rattle.vl_table.specs.declared.stretch.Stretch.{Stretch}

module _ {X : Type 0} where
  up_step : (first end : ℕ) (xs : List X) (x : X) → end ≤ length xs → first < end
      → take (end - first) (drop first xs) ≡ get_or xs first x ∷ take (end - (first + 1)) (drop (first + 1) xs)
  up_step first end xs x within less =
      let count : end - first ≡ suc (end - (first + 1)) = omega arith in
      let one : suc first ≡ first + 1 = omega arith in
      ap (λ (n : ℕ). take n (drop first xs)) count
      ∙ ap (take (suc (end - (first + 1)))) (drop-cons xs first x (omega arith))
      ∙ ap (λ (n : ℕ). get_or xs first x ∷ take (end - (first + 1)) (drop n xs)) one

  down_step : (first at : ℕ) (xs : List X) (x : X) → at + 1 ≤ length xs → first < at + 1
      → reverse (take (at + 1 - first) (drop first xs)) ≡ get_or xs at x ∷ reverse (take (at - first) (drop first xs))
  down_step first at xs x within less =
      let l = drop first xs in
      let count : at + 1 - first ≡ suc (at - first) = omega arith in
      let place : first + (at - first) ≡ at = omega arith in
      ap (λ (n : ℕ). reverse (take n l)) count
      ∙ ap reverse (take-suc l (at - first) x (omega (arith, length-drop first xs)))
      ∙ reverse-append (take (at - first) l) (get_or l (at - first) x ∷ [])
      ∙ ap (λ (y : X). y ∷ reverse (take (at - first) l)) (get_or-drop first xs (at - first) x ∙ ap (λ (n : ℕ). get_or xs n x) place)

  pub step_on : (way : Way) (s rest : Stretch) (at : ℕ) (xs : List X) (x : X) → s.end ≤ length xs → IsNextOn way s at rest
      → on_way way (stretch_of s xs) ≡ get_or xs at x ∷ on_way way (stretch_of rest xs)
  step_on Up s rest at xs x within next =
      up_step s.first s.end xs x within next.0
      ∙ ap (λ (n : ℕ). get_or xs n x ∷ take (s.end - (s.first + 1)) (drop (s.first + 1) xs)) (sym next.1)
      ∙ ap (λ (r : Stretch). get_or xs at x ∷ stretch_of r xs) (sym next.2)
  step_on Down s rest at xs x within next =
      ap (λ (n : ℕ). reverse (take (n - s.first) (drop s.first xs))) (sym next.1)
      ∙ down_step s.first at xs x (omega (arith, within, next.1)) (omega (arith, next.0, next.1))
      ∙ ap (λ (r : Stretch). get_or xs at x ∷ reverse (stretch_of r xs)) (sym next.2)

  none_taken : (n : ℕ) (xs : List X) → n ≡ 0 → take n xs ≡ []
  none_taken n xs is = ap (λ (m : ℕ). take m xs) is

  -- nothing is left where the end is reached
  pub end_on : (way : Way) (s : Stretch) (xs : List X) → s.end ≤ s.first → on_way way (stretch_of s xs) ≡ []
  end_on Up s xs past = none_taken (s.end - s.first) (drop s.first xs) (omega arith)
  end_on Down s xs past = ap reverse (none_taken (s.end - s.first) (drop s.first xs) (omega arith))

-- one position is taken
pub less_on : (way : Way) (s rest : Stretch) (at : ℕ) → IsNextOn way s at rest
    → (rest.end - rest.first + 1 ≡ s.end - s.first) × (at < s.end) × (rest.end ≤ s.end)
less_on Up s rest at next =
    let is = next.2 in
    let first : rest.first ≡ s.first + 1 = ap (λ (r : Stretch). r.first) is in
    let end : rest.end ≡ s.end = ap (λ (r : Stretch). r.end) is in
    (omega (arith, next.0, first, end), omega (arith, next.0, next.1), omega (arith, end))
less_on Down s rest at next =
    let is = next.2 in
    let first : rest.first ≡ s.first = ap (λ (r : Stretch). r.first) is in
    let end : rest.end ≡ at = ap (λ (r : Stretch). r.end) is in
    (omega (arith, next.0, next.1, first, end), omega (arith, next.1), omega (arith, next.1, end))
