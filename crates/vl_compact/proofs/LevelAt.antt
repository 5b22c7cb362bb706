-- The tables of one level.
use Rattle.std.specs.Prelude.{Bool, false, Some, None, ◌==◌, if◌then◌else◌}
use Rattle.std.specs.List.{AllZip, slice_get}
use Rattle.std.proofs.Common.{◌≡◌, ℕ, zero, suc, ◌-◌, List, [], ◌∷◌, refl, ap, sym, subst, ◌∙◌, arith}
use Rattle.std.proofs.lemmas.Bool.Decides.{nat_tests}
use Rattle.vl_engine_model.specs.Levels.{level_at}
use Rattle.vl_engine_model.specs.declared.table.Table.{Table}

not_first : (n : ℕ) → (suc n == 0) ≡ false
not_first n = grind (arith, nat_tests)

less_one : (n : ℕ) → suc n - 1 ≡ n
less_one n = omega arith

below_first : (n : ℕ) (l : List Table) (ls : List (List Table)) → level_at (suc n) (l ∷ ls) ≡ level_at n ls
below_first n l ls =
    ap (λ (b : Bool). if b then l else level_at (suc n - 1) ls) (not_first n) ∙ ap (λ (m : ℕ). level_at m ls) (less_one n)

-- a level that isn't the first is among those below it
below : (n : ℕ) (l : List Table) (ls : List (List Table)) → (n ≡ 0 → ⊥) → level_at n (l ∷ ls) ≡ level_at (n - 1) ls
below zero l ls some = absurd (some refl)
below (suc n) l ls some = below_first n l ls ∙ ap (λ (m : ℕ). level_at m ls) (sym (less_one n))

module _ {A : Type 0} (R : A → Table → Type 0) where
  pub at_level : (xs : List (List A)) (ls : List (List Table)) (n : ℕ) (x : List A) → AllZip (AllZip R) xs ls → slice_get xs n ≡ Some x
      → AllZip R x (level_at n ls)
  at_level [] ls n x zip is = absurd cc
  at_level (y ∷ xs) [] n x zip is = absurd zip
  at_level (y ∷ xs) (l ∷ ls) zero x zip is = let same : y ≡ x = cc in subst (λ (z : List A). AllZip R z l) same zip.0
  at_level (y ∷ xs) (l ∷ ls) (suc n) x zip is = subst (AllZip R x) (sym (below_first n l ls)) (at_level xs ls n x zip.1 is)

  pub past_levels : (xs : List (List A)) (ls : List (List Table)) (n : ℕ) → AllZip (AllZip R) xs ls → slice_get xs n ≡ None
      → level_at n ls ≡ []
  past_levels [] [] n zip is = refl
  past_levels [] (l ∷ ls) n zip is = absurd zip
  past_levels (y ∷ xs) [] n zip is = absurd zip
  past_levels (y ∷ xs) (l ∷ ls) zero zip is = absurd cc
  past_levels (y ∷ xs) (l ∷ ls) (suc n) zip is = below_first n l ls ∙ past_levels xs ls n zip.1 is

  -- by its number among all levels
  pub front_is : (front : List A) (xs : List (List A)) (ls : List (List Table)) (n : ℕ) → AllZip (AllZip R) (front ∷ xs) ls → n ≡ 0
      → AllZip R front (level_at n ls)
  front_is front xs [] n zip is = absurd zip
  front_is front xs (l ∷ ls) n zip is = subst (λ (m : ℕ). AllZip R front (level_at m (l ∷ ls))) (sym is) zip.0

  pub deeper_is : (front : List A) (xs : List (List A)) (ls : List (List Table)) (n : ℕ) (x : List A) → AllZip (AllZip R) (front ∷ xs) ls
      → (n ≡ 0 → ⊥) → slice_get xs (n - 1) ≡ Some x → AllZip R x (level_at n ls)
  deeper_is front xs [] n x zip some is = absurd zip
  deeper_is front xs (l ∷ ls) n x zip some is = subst (AllZip R x) (sym (below n l ls some)) (at_level xs ls (n - 1) x zip.1 is)

  pub no_deeper : (front : List A) (xs : List (List A)) (ls : List (List Table)) (n : ℕ) → AllZip (AllZip R) (front ∷ xs) ls
      → (n ≡ 0 → ⊥) → slice_get xs (n - 1) ≡ None → AllZip R [] (level_at n ls)
  no_deeper front xs [] n zip some is = absurd zip
  no_deeper front xs (l ∷ ls) n zip some is = subst (AllZip R []) (sym (below n l ls some ∙ past_levels xs ls (n - 1) zip.1 is)) tt
