-- Lists side by side, taken apart at a place.
use Rattle.std.proofs.Common.{◌≡◌, ℕ, zero, suc, ◌+◌, ◌<◌, ◌≤◌, List, [], ◌∷◌, ◌++◌, length, take, drop, get_or, refl}
use Rattle.std.proofs.Common.{ap, subst, sym, ◌∙◌, arith}
use Rattle.std.specs.List.{AllZip}

suc_more : (i : ℕ) → suc i + 1 ≡ suc (i + 1)
suc_more i = omega arith

-- a list from the place of an item on, and from its end on
pub from_item : {A : Type 0} (xs : List A) (i : ℕ) (x : A) → i < length xs → x ≡ get_or xs i x → drop i xs ≡ x ∷ drop (i + 1) xs
from_item [] i x within is = absurd (omega arith)
from_item (a ∷ xs) zero x within is = ap (λ (y : _). y ∷ xs) (sym is)
from_item (a ∷ xs) (suc i) x within is =
    from_item xs i x (omega arith) is ∙ ap (λ n. x ∷ drop n (a ∷ xs)) (sym (suc_more i))

pub from_end : {A : Type 0} (xs : List A) (i : ℕ) → length xs ≤ i → drop i xs ≡ []
from_end [] zero behind = refl
from_end [] (suc i) behind = refl
from_end (a ∷ xs) zero behind = absurd (omega arith)
from_end (a ∷ xs) (suc i) behind = from_end xs i (omega arith)

module _ {A B : Type 0} (R : A → B → Type 0) where
  -- what stands beside the item at a place
  pub record ZipAt (ys : List B) (i : ℕ) (x : A) : Type 0 where
    pub item : B
    pub is : R x item
    pub rest : drop i ys ≡ item ∷ drop (i + 1) ys
    pub taken : take (i + 1) ys ≡ take i ys ++ item ∷ []

  pub zip_at : (xs : List A) (ys : List B) (i : ℕ) (x : A) → AllZip R xs ys → i < length xs → x ≡ get_or xs i x → ZipAt ys i x
  zip_at [] ys i x zip within is = absurd (omega arith)
  zip_at (a ∷ xs) [] i x zip within is = absurd zip
  zip_at (a ∷ xs) (b ∷ ys) zero x zip within is =
      record { item = b; is = subst (λ (z : A). R z b) (sym is) zip.0; rest = refl; taken = refl }
  zip_at (a ∷ xs) (b ∷ ys) (suc i) x zip within is =
      let at = zip_at xs ys i x zip.1 (omega arith) is in
      record {
        item = at.item;
        is = at.is;
        rest = at.rest ∙ ap (λ n. at.item ∷ drop n (b ∷ ys)) (sym (suc_more i));
        taken = ap (λ n. take n (b ∷ ys)) (suc_more i) ∙ ap (λ l. b ∷ l) at.taken;
      }

  pub zip_end : (xs : List A) (ys : List B) (i : ℕ) → AllZip R xs ys → length xs ≤ i → drop i ys ≡ []
  zip_end [] [] zero zip behind = refl
  zip_end [] [] (suc i) zip behind = refl
  zip_end [] (b ∷ ys) i zip behind = absurd zip
  zip_end (a ∷ xs) [] i zip behind = absurd zip
  zip_end (a ∷ xs) (b ∷ ys) zero zip behind = absurd (omega arith)
  zip_end (a ∷ xs) (b ∷ ys) (suc i) zip behind = zip_end xs ys i zip.1 (omega arith)

  pub zip_all : (xs : List A) (ys : List B) (i : ℕ) → AllZip R xs ys → length xs ≤ i → take i ys ≡ ys
  zip_all [] [] zero zip behind = refl
  zip_all [] [] (suc i) zip behind = refl
  zip_all [] (b ∷ ys) i zip behind = absurd zip
  zip_all (a ∷ xs) [] i zip behind = absurd zip
  zip_all (a ∷ xs) (b ∷ ys) zero zip behind = absurd (omega arith)
  zip_all (a ∷ xs) (b ∷ ys) (suc i) zip behind = ap (λ l. b ∷ l) (zip_all xs ys i zip.1 (omega arith))

  pub zip_push : (xs : List A) (ys : List B) (x : A) (y : B) → AllZip R xs ys → R x y → AllZip R (xs ++ x ∷ []) (ys ++ y ∷ [])
  zip_push [] [] x y all one = (one, tt)
  zip_push [] (b ∷ bs) x y all one = absurd all
  zip_push (a ∷ xs) [] x y all one = absurd all
  zip_push (a ∷ xs) (b ∷ bs) x y all one = (all.0, zip_push xs bs x y all.1 one)

  pub zip_length : (xs : List A) (ys : List B) → AllZip R xs ys → length xs ≡ length ys
  zip_length [] [] zip = refl
  zip_length [] (b ∷ ys) zip = absurd zip
  zip_length (a ∷ xs) [] zip = absurd zip
  zip_length (a ∷ xs) (b ∷ ys) zip = ap suc (zip_length xs ys zip.1)
