-- What is left of lists where something is taken out.
use Rattle.std.proofs.Common.{◌≡◌, ℕ, ◌≤◌, ◌<◌, Bool, true, false, cond, not, ◌||◌, List, [], ◌∷◌, ◌++◌, length, nat_lt, refl, sym}
use Rattle.std.proofs.Common.{ap, ◌∙◌, arith}
use Rattle.std.proofs.Common.{take, drop, get_or, suc, zero}
use Rattle.std.proofs.lemmas.Bool.Decides.{nat_tests}
use Rattle.std.proofs.lemmas.List.{take_all}
use Rattle.std.specs.Prelude.{◌==◌, ◌↔◌, Option, Some, None, IfSome, IfNone, IsSome, OnSome, slice_index_or}
use Rattle.std.specs.List.{filter, remove}
use Rattle.vl_model.specs.Numbers.{has}
use Rattle.vl_pins.specs.Files.{TakesUpTo, is_up_to}
use Rattle.vl_pins.specs.InUse.{but}
use Rattle.vl_pins.specs.declared.retired_file.RetiredFile.{RetiredFile}

pub but_shorter : (n : ℕ) (ns : List ℕ) → length (but n ns) ≤ length ns
but_shorter n [] = omega arith
but_shorter n (m ∷ ns) = by (m == n) (but_shorter n ns)
  where
    by : (b : Bool) → length (but n ns) ≤ length ns → length (cond (not b) (m ∷ but n ns) (but n ns)) ≤ length (m ∷ ns)
    by true less = omega (arith, less)
    by false less = omega (arith, less)

test : (a b : ℕ) (r : Bool) → nat_lt a b ≡ r → nat_lt (suc a) (suc b) ≡ r
test a b true is = grind (arith, nat_tests)
test a b false is = grind (arith, nat_tests)

-- fewer are left exactly where it was among them
pub fewer_left : (n : ℕ) (ns : List ℕ) → nat_lt (length (but n ns)) (length ns) ≡ has n ns
fewer_left n [] = refl
fewer_left n (m ∷ ns) = by (m == n) (fewer_left n ns) (but_shorter n ns)
  where
    by : (b : Bool) → nat_lt (length (but n ns)) (length ns) ≡ has n ns → length (but n ns) ≤ length ns
        → nat_lt (length (cond (not b) (m ∷ but n ns) (but n ns))) (length (m ∷ ns)) ≡ (b || has n ns)
    by true is less = grind (arith, nat_tests, less)
    by false is less = test (length (but n ns)) (length ns) (has n ns) is

-- a list about a place in it
pub split_at : {X : Type 0} (d : X) (xs : List X) (at : ℕ) → at < length xs → xs ≡ take at xs ++ get_or xs at d ∷ drop (suc at) xs
split_at d [] at within = absurd (omega (arith, within))
split_at d (x ∷ xs) zero within = refl
split_at d (x ∷ xs) (suc at) within = ap (λ ys. x ∷ ys) (split_at d xs at (omega (arith, within)))

-- ---- the first that is free

module _ {L : Type 0} (bound : ℕ) where
  -- What is taken out at the place of the first that is free is that one.
  pub takes_first : (r : Option (RetiredFile L)) (old new : List (RetiredFile L)) (at n : ℕ) → n ≡ length old
      → filter (is_up_to bound) (take at old) ≡ []
      → ((d : RetiredFile L) → at < length old → is_up_to bound (get_or old at d) ≡ true)
      → IfSome r (λ y. y ≡ slice_index_or old at y) → OnSome r (new ≡ remove old at) → IfNone r (new ≡ old)
      → IsSome r ↔ (at < n) → TakesUpTo bound old new r
  takes_first (Some y) old new at n long held free value items same there =
      let within : at < length old = let in_n = there.0 refl in omega (arith, in_n, long) in
      let is : y ≡ get_or old at y = value in
      record {
        before = take at old;
        behind = drop (suc at) old;
        old_are = split_at y old at within ∙ ap (λ x. take at old ++ x ∷ drop (suc at) old) (sym is);
        held = held;
        free = ap (is_up_to bound) is ∙ free y within;
        new_are = items;
      }
  takes_first None old new at n long held free value items same there =
      record { held = sym (ap (filter (is_up_to bound)) (take_all at old (all (nat_lt at n) refl))) ∙ held; same = same }
    where
      all : (b : Bool) → nat_lt at n ≡ b → length old ≤ at
      all true is = absurd (let h = there.1 (let less : at < n = grind (arith, nat_tests) in less) in cc)
      all false is = let le : n ≤ at = grind (arith, nat_tests) in omega (arith, le, long)

pub if_none : {X : Type 0} (A B : Type 0) → (A → B) → (r : Option X) → IfNone r A → IfNone r B
if_none A B gives None is = gives is
if_none A B gives (Some x) is = tt
