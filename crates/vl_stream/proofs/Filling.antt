-- What a source gives, in several pieces.
use Rattle.std.specs.Prelude.{◌≡◌, ◌≤◌, ℕ, ◌+◌, List, [], ◌∷◌, ◌++◌, drop, length, take, Option, None, Some, IfSome, refl}
use Rattle.std.proofs.Common.{sym, ap, ◌∙◌, add-one, append_assoc, append-nil, length-drop, subst, arith}
use Rattle.std.proofs.lemmas.List.{drop_at, length-take-le, take-append-le}
use borrow.Rule.Slice.PartMut.{post_of, put_mid}
use Rattle.vl_io.specs.Source.{HandsOver}

-- nothing yet
pub hands_none : (left : Option (List ℕ)) → HandsOver left left []
hands_none None = refl
hands_none (Some bytes) = refl

-- one piece behind another
pub hands_then : (a b c : Option (List ℕ)) (x y : List ℕ) → HandsOver a b x → HandsOver b c y → HandsOver a c (x ++ y)
hands_then None None c x y p q = q
hands_then None (Some b) c x y p q = absurd (cc)
hands_then (Some a) None c x y p q = absurd p
hands_then (Some a) (Some b) None x y p q = absurd q
hands_then (Some a) (Some b) (Some c) x y p q = p ∙ ap (λ (l : List ℕ). x ++ l) q ∙ sym (append_assoc x y c)

take_past : (p q : List ℕ) (n : ℕ) → take (length p + n) (p ++ q) ≡ p ++ take n q
take_past [] q n = ap (λ (m : ℕ). take m q) (none_more n)
  where
    none_more : (m : ℕ) → 0 + m ≡ m
    none_more m = omega arith
take_past (x ∷ p) q n =
    let more : length (x ∷ p) + n ≡ (length p + n) + 1 = omega arith in
    ap (λ (m : ℕ). take m (x ∷ (p ++ q))) more ∙ one_more (length p + n) (p ++ q) ∙ ap (λ (l : List ℕ). x ∷ l) (take_past p q n)
  where
    one_more : (m : ℕ) (l : List ℕ) → take (m + 1) (x ∷ l) ≡ x ∷ take m l
    one_more m l = rw add-one refl

-- what stands in a buffer behind the next piece
pub taken_more : (a k n : ℕ) (xs ys : List ℕ) → a ≤ length xs → n ≤ length ys
    → take (a + n) (put_mid a k xs ys) ≡ take a xs ++ take n ys
taken_more a k n xs ys within fits =
    let front : length (take a xs) ≡ a = length-take-le a xs within in
    ap (λ (m : ℕ). take (m + n) (take a xs ++ (ys ++ post_of a k xs))) (sym front)
    ∙ take_past (take a xs) (ys ++ post_of a k xs) n
    ∙ ap (λ (l : List ℕ). take a xs ++ l) (take-append-le n ys (post_of a k xs) fits)

pub filled_more : (first before after : Option (List ℕ)) (a k n total : ℕ) (xs ys : List ℕ) → a ≤ length xs → n ≤ length ys
    → total ≡ a + n → HandsOver first before (take a xs) → HandsOver before after (take n ys)
    → HandsOver first after (take total (put_mid a k xs ys))
filled_more first before after a k n total xs ys within fits sum so_far next =
    subst (λ (l : List ℕ). HandsOver first after l)
    (sym (ap (λ (m : ℕ). take m (put_mid a k xs ys)) sum ∙ taken_more a k n xs ys within fits))
    (hands_then first before after (take a xs) (take n ys) so_far next)

-- a source that was at its end is there still
pub still_at_end : (before after : Option (List ℕ)) (given : List ℕ) → IfSome before (λ rest. rest ≡ [])
    → HandsOver before after given → IfSome after (λ rest. rest ≡ [])
still_at_end None None given end hands = tt
still_at_end None (Some rest) given end hands = absurd (cc)
still_at_end (Some before) None given end hands = absurd hands
still_at_end (Some before) (Some rest) given end hands = behind given rest (sym hands ∙ end)
  where
    behind : (x y : List ℕ) → x ++ y ≡ [] → y ≡ []
    behind [] y none = none
    behind (b ∷ x) y none = absurd (cc)

-- a buffer whose front stays, and whose rest was filled
pub put_behind : (a k : ℕ) (xs ys : List ℕ) → a ≤ length xs → length ys ≡ k → a + k ≡ length xs
    → put_mid a k xs ys ≡ take a xs ++ ys
put_behind a k xs ys within long whole =
    let none : post_of a k xs ≡ [] =
    nothing (post_of a k xs) (omega (arith, within, whole, length-drop k (drop a xs), length-drop a xs)) in
    ap (λ (l : List ℕ). take a xs ++ (ys ++ l)) none ∙ ap (λ (l : List ℕ). take a xs ++ l) (append-nil ys)
  where
    nothing : (l : List ℕ) → length l ≡ 0 → l ≡ []
    nothing [] is = refl
    nothing (x ∷ l) is = absurd (omega (arith, is))

-- What stands behind a head that was put to the front of a buffer, and stayed there.
pub record StandsBehind (head out frame : List ℕ) : Type 0 where
  pub front : frame ≡ head ++ out
  pub behind : drop 5 frame ≡ out

pub stands_behind : (head before frame out : List ℕ) (k : ℕ) → length head ≡ 5 → take 5 before ≡ head → length out ≡ k
    → 5 + k ≡ length before → frame ≡ put_mid 5 k before out → StandsBehind head out frame
stands_behind head before frame out k five front long whole is =
    let parts : frame ≡ head ++ out =
    is ∙ put_behind 5 k before out (omega (arith, whole)) long whole ∙ ap (λ (l : List ℕ). l ++ out) front in
    record { front = parts; behind = ap (drop 5) parts ∙ drop_at head out 5 five }
