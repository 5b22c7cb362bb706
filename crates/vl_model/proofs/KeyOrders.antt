-- Keys that are compared by several bytes at a time: the numbers that they spell, the highest first, stand
-- to each other as the bytes do.
use Rattle.std.proofs.Common.{◌≡◌, ◌≢◌, ℕ, zero, suc, ◌+◌, ◌*◌, ◌^◌, ◌<◌, ◌≤◌, List, [], ◌∷◌, ◌++◌, length, length-drop, min, take, drop, get_or}
use Rattle.std.proofs.Common.{refl, ap, ap₂, sym, ◌∙◌, subst, arith}
use Rattle.std.proofs.Math.Nat.{mul-le-mul_right}
use Rattle.std.proofs.Math.Seq.{get_or-drop, take-add, take-take}
use Rattle.std.proofs.lemmas.Cmp.{ranked}
use Rattle.std.specs.Cmp.{nat_cmp_is}
use Rattle.std.specs.FinMap.{nat_cmp-IsAntisymmetric}
use Rattle.std.specs.List.{slice_index}
use Rattle.std.specs.Ordering.{MatchOrdering, nat_cmp, ordering_then}
use Rattle.std.specs.declared.cmp.Ordering.{Ordering}
use Rattle.std.specs.declared.cmp.Ordering.TheVariants.{Less, Equal, Greater}
use Rattle.byteorder.specs.Endian.{big_number}
use Rattle.byteorder.specs.Numbers.{big_from-cons, big_from-lt}
use Rattle.vl_model.specs.Keys.{key_cmp}

abbrev pub Bytes : List ℕ → Type 0
Bytes xs = (k : ℕ) → get_or xs k 0 < 256

-- a number in two parts, of which the upper one decides first
by_parts : (m x y p q : ℕ) → p < m → q < m → nat_cmp (x * m + p) (y * m + q) ≡ ordering_then (nat_cmp x y) (nat_cmp p q)
by_parts m x y p q fits also = upper (nat_cmp x y) (nat_cmp p q) (ranked x y _ refl) (ranked p q _ refl)
  where
    upper : (r s : Ordering) → MatchOrdering r (x < y) (x ≡ y) (y < x)
        → MatchOrdering s (p < q) (p ≡ q) (q < p)
        → nat_cmp (x * m + p) (y * m + q) ≡ ordering_then r s
    upper Less s lt lower =
        let lt : x < y = lt in
        let far : (x + 1) * m ≤ y * m = mul-le-mul_right m (omega arith) in
        let less : x * m + p < y * m + q = omega arith in
        sym (nat_cmp_is _ _ Less less)
    upper Greater s gt lower =
        let gt : y < x = gt in
        let far : (y + 1) * m ≤ x * m = mul-le-mul_right m (omega arith) in
        let more : y * m + q < x * m + p = omega arith in
        sym (nat_cmp_is _ _ Greater more)
    upper Equal Less is lt =
        let is : x ≡ y = is in
        let lt : p < q = lt in
        let same : x * m ≡ y * m = ap (λ (n : ℕ). n * m) is in
        let less : x * m + p < y * m + q = omega arith in
        sym (nat_cmp_is _ _ Less less)
    upper Equal Equal is also_is =
        let is : x ≡ y = is in
        let also_is : p ≡ q = also_is in
        let same : x * m ≡ y * m = ap (λ (n : ℕ). n * m) is in
        let all : x * m + p ≡ y * m + q = omega arith in
        sym (nat_cmp_is _ _ Equal all)
    upper Equal Greater is gt =
        let is : x ≡ y = is in
        let gt : q < p = gt in
        let same : x * m ≡ y * m = ap (λ (n : ℕ). n * m) is in
        let more : y * m + q < x * m + p = omega arith in
        sym (nat_cmp_is _ _ Greater more)

then_then : (r s t : Ordering) → ordering_then (ordering_then r s) t ≡ ordering_then r (ordering_then s t)
then_then Less s t = refl
then_then Equal s t = refl
then_then Greater s t = refl

tail_bytes : (x : ℕ) (xs : List ℕ) → Bytes (x ∷ xs) → Bytes xs
tail_bytes x xs all = λ k. all (suc k)

-- keys compare by the numbers in their first n bytes, and then by what is left
pub by_number : (n : ℕ) (xs ys : List ℕ) → n ≤ length xs → n ≤ length ys → Bytes xs → Bytes ys
    → key_cmp xs ys ≡ ordering_then (nat_cmp (big_number n xs) (big_number n ys)) (key_cmp (drop n xs) (drop n ys))
by_number zero xs ys has also all both = refl
by_number (suc n) [] ys has also all both = absurd (omega arith)
by_number (suc n) (x ∷ xs) [] has also all both = absurd (omega arith)
by_number (suc n) (x ∷ xs) (y ∷ ys) has also all both =
    let left = tail_bytes x xs all in
    let right = tail_bytes y ys both in
    let parts = by_parts (256 ^ n) x y (big_number n xs) (big_number n ys) (big_from-lt 0 n xs left) (big_from-lt 0 n ys right) in
    ap (ordering_then (nat_cmp x y)) (by_number n xs ys (omega arith) (omega arith) left right)
    ∙ sym (then_then (nat_cmp x y) (nat_cmp (big_number n xs) (big_number n ys)) (key_cmp (drop n xs) (drop n ys)))
    ∙ ap (λ r. ordering_then r (key_cmp (drop n xs) (drop n ys)))
    (sym (ap₂ (λ s t. nat_cmp (x * 256 ^ n + s) (y * 256 ^ n + t)) (big_from-cons 0 n x xs) (big_from-cons 0 n y ys) ∙ parts))

tied : (m n : ℕ) → m ≡ n → nat_cmp m n ≡ Equal
tied m n is = sym (nat_cmp_is m n Equal is)

both_tied : (r s : Ordering) → ordering_then r s ≡ Equal → (r ≡ Equal) × (s ≡ Equal)
both_tied Less s is = absurd cc
both_tied Equal s is = (refl, is)
both_tied Greater s is = absurd cc

-- bytes that spell the same number are the same
same_bytes : (n : ℕ) (xs ys : List ℕ) → n ≤ length xs → n ≤ length ys → Bytes xs → Bytes ys
    → big_number n xs ≡ big_number n ys → take n xs ≡ take n ys
same_bytes zero xs ys has also all both is = refl
same_bytes (suc n) [] ys has also all both is = absurd (omega arith)
same_bytes (suc n) (x ∷ xs) [] has also all both is = absurd (omega arith)
same_bytes (suc n) (x ∷ xs) (y ∷ ys) has also all both is =
    let left = tail_bytes x xs all in
    let right = tail_bytes y ys both in
    let parts = by_parts (256 ^ n) x y (big_number n xs) (big_number n ys) (big_from-lt 0 n xs left) (big_from-lt 0 n ys right) in
    let whole : x * 256 ^ n + big_number n xs ≡ y * 256 ^ n + big_number n ys =
    ap (λ (s : ℕ). x * 256 ^ n + s) (sym (big_from-cons 0 n x xs)) ∙ is ∙ ap (λ (s : ℕ). y * 256 ^ n + s) (big_from-cons 0 n y ys) in
    let equal = both_tied (nat_cmp x y) (nat_cmp (big_number n xs) (big_number n ys)) (sym parts ∙ tied _ _ whole) in
    ap₂ (λ (z : ℕ) (zs : List ℕ). z ∷ zs) (nat_cmp-IsAntisymmetric x y equal.0)
    (same_bytes n xs ys (omega arith) (omega arith) left right (nat_cmp-IsAntisymmetric _ _ equal.1))

-- keys that begin alike compare by what follows
past_front : (n : ℕ) (xs ys : List ℕ) → n ≤ length xs → n ≤ length ys → take n xs ≡ take n ys
    → key_cmp xs ys ≡ key_cmp (drop n xs) (drop n ys)
past_front zero xs ys has also alike = refl
past_front (suc n) [] ys has also alike = absurd (omega arith)
past_front (suc n) (x ∷ xs) [] has also alike = absurd (omega arith)
past_front (suc n) (x ∷ xs) (y ∷ ys) has also alike =
    let first : x ≡ y = cc in
    let rest : take n xs ≡ take n ys = cc in
    ap (λ r. ordering_then r (key_cmp xs ys)) (tied x y first) ∙ past_front n xs ys (omega arith) (omega arith) rest

one_more : (m n : ℕ) → nat_cmp (suc m) (suc n) ≡ nat_cmp m n
one_more m n = by (nat_cmp m n) (ranked m n _ refl)
  where
    by : (r : Ordering) → MatchOrdering r (m < n) (m ≡ n) (n < m) → nat_cmp (suc m) (suc n) ≡ r
    by Less lt = let lt : m < n = lt in let less : suc m < suc n = omega arith in sym (nat_cmp_is _ _ Less less)
    by Equal is = sym (nat_cmp_is _ _ Equal (ap (λ (k : ℕ). suc k) is))
    by Greater gt = let gt : n < m = gt in let more : suc n < suc m = omega arith in sym (nat_cmp_is _ _ Greater more)

-- and by their lengths, where one begins the other
pub by_lengths : (n : ℕ) (xs ys : List ℕ) → n ≡ min (length xs) (length ys) → take n xs ≡ take n ys
    → nat_cmp (length xs) (length ys) ≡ key_cmp xs ys
by_lengths zero [] [] is alike = refl
by_lengths zero [] (y ∷ ys) is alike = let less : 0 < length (y ∷ ys) = omega arith in sym (nat_cmp_is _ _ Less less)
by_lengths zero (x ∷ xs) [] is alike = let more : 0 < length (x ∷ xs) = omega arith in sym (nat_cmp_is _ _ Greater more)
by_lengths zero (x ∷ xs) (y ∷ ys) is alike = absurd (omega arith)
by_lengths (suc n) [] ys is alike = absurd (omega arith)
by_lengths (suc n) (x ∷ xs) [] is alike = absurd (omega arith)
by_lengths (suc n) (x ∷ xs) (y ∷ ys) is alike =
    let first : x ≡ y = cc in
    let rest : take n xs ≡ take n ys = cc in
    one_more (length xs) (length ys)
    ∙ by_lengths n xs ys (omega arith) rest
    ∙ sym (ap (λ r. ordering_then r (key_cmp xs ys)) (tied x y first))

dropped_bytes : (n : ℕ) (xs : List ℕ) → Bytes xs → Bytes (drop n xs)
dropped_bytes n xs all = λ k. subst (λ (b : ℕ). b < 256) (sym (get_or-drop n xs k 0)) (all (n + k))

apart_then : (x y : ℕ) (r : Ordering) → x ≢ y → ordering_then (nat_cmp x y) r ≡ nat_cmp x y
apart_then x y r apart = by (nat_cmp x y) refl
  where
    by : (s : Ordering) → s ≡ nat_cmp x y → ordering_then s r ≡ s
    by Less is = refl
    by Equal is = absurd (apart (nat_cmp-IsAntisymmetric x y (sym is)))
    by Greater is = refl

-- two words of n bytes behind bytes that are alike: where they differ they decide, and else all is alike up
-- to behind them
module _ (n at : ℕ) (xs ys : List ℕ) (has : at + n ≤ length xs) (also : at + n ≤ length ys) (all : Bytes xs) (both : Bytes ys)
    (alike : take at xs ≡ take at ys) (x y : ℕ) (left : x ≡ big_number n (drop at xs)) (right : y ≡ big_number n (drop at ys)) where
  pub words_decide : x ≢ y → nat_cmp x y ≡ key_cmp xs ys
  words_decide apart =
      sym (past_front at xs ys (omega arith) (omega arith) alike
      ∙ by_number n (drop at xs) (drop at ys) (omega (arith, length-drop at xs)) (omega (arith, length-drop at ys))
      (dropped_bytes at xs all) (dropped_bytes at ys both)
      ∙ ap₂ (λ s t. ordering_then (nat_cmp s t) (key_cmp (drop n (drop at xs)) (drop n (drop at ys)))) (sym left) (sym right)
      ∙ apart_then x y _ apart)

  pub words_alike : x ≡ y → take (at + n) xs ≡ take (at + n) ys
  words_alike is =
      take-add at n xs
      ∙ ap₂ (λ (s t : List ℕ). s ++ t) alike
      (same_bytes n (drop at xs) (drop at ys) (omega (arith, length-drop at xs)) (omega (arith, length-drop at ys))
      (dropped_bytes at xs all) (dropped_bytes at ys both) (sym left ∙ is ∙ right))
      ∙ sym (take-add at n ys)

pub fewer_alike : (m n : ℕ) (xs ys : List ℕ) → m ≤ n → take n xs ≡ take n ys → take m xs ≡ take m ys
fewer_alike m n xs ys fewer alike = sym (take-take m n xs fewer) ∙ ap (take m) alike ∙ take-take m n ys fewer

-- one byte as a word
pub byte_word : (at : ℕ) (xs : List ℕ) → get_or xs at 0 ≡ big_number 1 (drop at xs)
byte_word at xs =
    let place : at ≡ at + 0 = omega arith in
    let is : get_or xs at 0 ≡ slice_index (drop at xs) 0 =
    ap (λ (k : ℕ). get_or xs k 0) place ∙ sym (get_or-drop at xs 0 0) in
    omega arith
