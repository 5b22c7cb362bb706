-- Lists that are gone through by an index.
use Rattle.std.proofs.Common.{◌≡◌, ℕ, zero, suc, ◌+◌, ◌<◌, ◌≤◌, true, false, cond, List, [], ◌∷◌, ◌++◌, length, take}
use Rattle.std.proofs.Common.{drop, get_or, refl, ap, sym, ◌∙◌, arith, Some}
use Rattle.std.specs.FinMap.{find}
use Rattle.std.specs.Ordering.{eq_by_cmp}
use Rattle.vl_model.specs.Conflicts.{Named}
use Rattle.vl_model.specs.Keys.{key_cmp}

suc_more : (i : ℕ) → suc i + 1 ≡ suc (i + 1)
suc_more i = omega arith

pub drop_next : {A : Type 0} (xs : List A) (i : ℕ) (x : A) → i < length xs → x ≡ get_or xs i x → drop i xs ≡ x ∷ drop (i + 1) xs
drop_next [] i x within is = absurd (omega arith)
drop_next (a ∷ xs) zero x within is = ap (λ y. y ∷ xs) (sym is)
drop_next (a ∷ xs) (suc i) x within is = drop_next xs i x (omega arith) is ∙ ap (λ n. x ∷ drop n (a ∷ xs)) (sym (suc_more i))

pub drop_end : {A : Type 0} (xs : List A) (i : ℕ) → length xs ≤ i → drop i xs ≡ []
drop_end [] zero behind = refl
drop_end [] (suc i) behind = refl
drop_end (a ∷ xs) zero behind = absurd (omega arith)
drop_end (a ∷ xs) (suc i) behind = drop_end xs i (omega arith)

pub take_next : {A : Type 0} (xs : List A) (i : ℕ) (x : A) → i < length xs → x ≡ get_or xs i x → take (i + 1) xs ≡ take i xs ++ x ∷ []
take_next [] i x within is = absurd (omega arith)
take_next (a ∷ xs) zero x within is = ap (λ y. y ∷ []) (sym is)
take_next (a ∷ xs) (suc i) x within is = ap (λ n. take n (a ∷ xs)) (suc_more i) ∙ ap (λ l. a ∷ l) (take_next xs i x (omega arith) is)

pub take_end : {A : Type 0} (xs : List A) (i : ℕ) → length xs ≤ i → take i xs ≡ xs
take_end [] zero behind = refl
take_end [] (suc i) behind = refl
take_end (a ∷ xs) zero behind = absurd (omega arith)
take_end (a ∷ xs) (suc i) behind = ap (λ l. a ∷ l) (take_end xs i (omega arith))

-- ---- moves

pub find_here : (key : List ℕ) (x : Named) (xs : List Named) → eq_by_cmp key_cmp key x.0 ≡ true → find key_cmp key (x ∷ xs) ≡ Some x.1
find_here key x xs is = ap (λ b. cond b (Some x.1) (find key_cmp key xs)) is

pub find_later : (key : List ℕ) (x : Named) (xs : List Named) → eq_by_cmp key_cmp key x.0 ≡ false
    → find key_cmp key (x ∷ xs) ≡ find key_cmp key xs
find_later key x xs is = ap (λ b. cond b (Some x.1) (find key_cmp key xs)) is
