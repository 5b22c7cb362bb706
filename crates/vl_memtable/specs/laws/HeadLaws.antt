-- The order of heads is that of keys, so that a place among entries is found by heads where these differ.
use Rattle.std.proofs.Common.{◌≡◌, ℕ, zero, suc, ◌+◌, ◌*◌, ◌^◌, ◌<◌, ◌≤◌, Bool, true, false, List, [], ◌∷◌, ◌++◌}
use Rattle.std.proofs.Common.{length, drop, get_or, refl, ap, sym, subst, ◌∙◌, arith, mul_comm, Some, None}
use Rattle.std.specs.Prelude.{◌≢◌, ◌==◌, ◌&&◌}
use Rattle.std.specs.List.{prefix_len}
use Rattle.std.specs.Cmp.Lexicographic.{nat_list_cmp_total}
use Rattle.std.specs.Ordering.{ordering_reverse, ordering_then, nat_cmp, is_gt, eq_by_cmp}
use Rattle.std.specs.declared.cmp.Ordering.{Ordering}
use Rattle.std.specs.declared.cmp.Ordering.TheVariants.{Less, Equal, Greater}
use Rattle.std.proofs.Math.Nat.{pow-le-pow_right}
use Rattle.std.proofs.lemmas.Cmp.{ranked}
use Rattle.std.proofs.lemmas.Nat.{mul-add-lt, pow-add}
use Rattle.vl_model.specs.Keys.{key_cmp}
use Rattle.vl_model.specs.declared.entry.Entry.{Entry}
use Rattle.vl_model.specs.laws.WinnerLaws.{same_key}
use Rattle.vl_memtable.specs.Heads.{AreBytes, AreHeads, IsHead, number_with}
use Rattle.vl_model.specs.Winners.{only_if}
use Rattle.vl_model.specs.Lookups.{first_failing, if_exact, if_of_key, is_ahead}
use Rattle.vl_model.specs.EntryOrder.{place_of}
use Rattle.vl_model.specs.laws.Places.{first-none, first-some}

-- ---- the order

-- zeros are the least that may stand behind a number
zeros_least : (x y n : ℕ) (bytes : List ℕ) → x ≤ y → number_with x n [] ≤ number_with y n bytes
zeros_least x y zero bytes le = le
zeros_least x y (suc n) [] le = zeros_least (x * 256) (y * 256) n [] (omega (arith, le))
zeros_least x y (suc n) (b ∷ bytes) le = zeros_least (x * 256) (y * 256 + b) n bytes (omega (arith, le))

no_bytes : (n : ℕ) → AreBytes n []
no_bytes zero = tt
no_bytes (suc n) = tt

-- bytes behind two numbers don't turn their order
stays_less : (x y n : ℕ) (a b : List ℕ) → AreBytes n a → x < y → number_with x n a < number_with y n b
stays_less x y zero a b bytes less = less
stays_less x y (suc n) [] [] bytes less = stays_less (x * 256) (y * 256) n [] [] (no_bytes n) (omega (arith, less))
stays_less x y (suc n) [] (b ∷ ys) bytes less = stays_less (x * 256) (y * 256 + b) n [] ys (no_bytes n) (omega (arith, less))
stays_less x y (suc n) (a ∷ xs) [] bytes less =
    stays_less (x * 256 + a) (y * 256) n xs [] bytes.1 (omega (arith, less, bytes.0))
stays_less x y (suc n) (a ∷ xs) (b ∷ ys) bytes less =
    stays_less (x * 256 + a) (y * 256 + b) n xs ys bytes.1 (omega (arith, less, bytes.0))

number_less : (x n : ℕ) (a b : List ℕ) → AreBytes n b → number_with x n a < number_with x n b → key_cmp a b ≡ Less
number_less x zero a b bytes less = absurd (omega (arith, less))
number_less x (suc n) [] [] bytes less = absurd (omega (arith, less))
number_less x (suc n) [] (b ∷ ys) bytes less = refl
number_less x (suc n) (a ∷ xs) [] bytes less =
    absurd (omega (arith, less, zeros_least (x * 256) (x * 256 + a) n xs (omega arith)))
number_less x (suc n) (a ∷ xs) (b ∷ ys) bytes less =
    by (λ lower. number_less (x * 256 + b) n xs ys bytes.1 lower) (nat_cmp a b) refl
  where
    by : (number_with (x * 256 + b) n xs < number_with (x * 256 + b) n ys → key_cmp xs ys ≡ Less)
        → (r : Ordering) → nat_cmp a b ≡ r → ordering_then r (key_cmp xs ys) ≡ Less
    by later Less is = refl
    by later Equal is =
        let same : a ≡ b = ranked a b Equal (sym is) in
        let lower : number_with (x * 256 + b) n xs < number_with (x * 256 + b) n ys =
        omega (arith, less, ap (λ (c : ℕ). number_with (x * 256 + c) n xs) same) in
        later lower
    by later Greater is =
        let above : b < a = ranked a b Greater (sym is) in
        absurd (omega (arith, less, stays_less (x * 256 + b) (x * 256 + a) n ys xs bytes.1 (omega (arith, above))))

pub head_less : (a b : List ℕ) (x y : ℕ) → IsHead a x → IsHead b y → x < y → key_cmp a b ≡ Less
head_less a b x y p q less = number_less 0 8 a b q.bytes (omega (arith, less, p.number, q.number))

-- a key has one head
pub one_head : (a b : List ℕ) (x y : ℕ) → IsHead a x → IsHead b y → a ≡ b → x ≡ y
one_head a b x y p q same = p.number ∙ ap (number_with 0 8) same ∙ sym q.number

-- ---- a look-up by heads

module _ (key : List ℕ) (version head : ℕ) (has : IsHead key head) (e : Entry) (other : ℕ) (is : IsHead e.key other) where
  pub lower_ahead : other < head → is_ahead key version e ≡ true
  lower_ahead less =
      let below : key_cmp key e.key ≡ Greater =
      nat_list_cmp_total.antisymm key e.key ∙ ap ordering_reverse (head_less e.key key other head is has less) in
      ap (λ r. is_gt (ordering_then r (nat_cmp e.version version))) below

  pub higher_behind : head < other → is_ahead key version e ≡ false
  higher_behind less =
      ap (λ r. is_gt (ordering_then r (nat_cmp e.version version))) (head_less key e.key head other has is less)

  other_key : head ≢ other → eq_by_cmp key_cmp key e.key ≡ false
  other_key apart = by (eq_by_cmp key_cmp key e.key) refl
    where
      by : (b : Bool) → eq_by_cmp key_cmp key e.key ≡ b → b ≡ false
      by false is_not = refl
      by true same = absurd (apart (one_head key e.key head other has is (same_key key e.key same)))

-- ---- the heads of entries

pub heads-length : (heads : List ℕ) (es : List Entry) → AreHeads heads es → length heads ≡ length es
heads-length [] [] are = refl
heads-length [] (e ∷ es) are = absurd are
heads-length (h ∷ heads) [] are = absurd are
heads-length (h ∷ heads) (e ∷ es) are = ap (λ (n : ℕ). suc n) (heads-length heads es are.1)

pub heads-at : (heads : List ℕ) (es : List Entry) (i x : ℕ) (e : Entry) → AreHeads heads es → i < length es
    → IsHead (get_or es i e).key (get_or heads i x)
heads-at [] [] i x d are within = absurd (omega (arith, within))
heads-at [] (e ∷ es) i x d are within = absurd are
heads-at (h ∷ heads) [] i x d are within = absurd are
heads-at (h ∷ heads) (e ∷ es) zero x d are within = are.0
heads-at (h ∷ heads) (e ∷ es) (suc i) x d are within = heads-at heads es i x d are.1 (omega (arith, within))

-- the head of an entry that stands at a place
pub heads-here : (heads : List ℕ) (es : List Entry) (i : ℕ) (e : Entry) → AreHeads heads es → i < length es
    → e ≡ get_or es i e → IsHead e.key (get_or heads i 0)
heads-here heads es i e are within is =
    subst (λ (f : Entry). IsHead f.key (get_or heads i 0)) (sym is) (heads-at heads es i 0 e are within)

pub heads-more : (heads : List ℕ) (es : List Entry) (head : ℕ) (e : Entry) → AreHeads heads es → IsHead e.key head
    → AreHeads (heads ++ head ∷ []) (es ++ e ∷ [])
heads-more [] [] head e are is = (is, tt)
heads-more [] (f ∷ es) head e are is = absurd are
heads-more (h ∷ heads) [] head e are is = absurd are
heads-more (h ∷ heads) (f ∷ es) head e are is = (are.0, heads-more heads es head e are.1 is)

-- ---- one byte more of a head

pub bytes-more : (i : ℕ) (bytes : List ℕ) → AreBytes i bytes → get_or bytes i 0 < 256 → AreBytes (suc i) bytes
bytes-more i [] are fits = tt
bytes-more zero (b ∷ bytes) are fits = (fits, tt)
bytes-more (suc i) (b ∷ bytes) are fits = (are.0, bytes-more i bytes are.1 fits)

pub number-more : (x n i : ℕ) (bytes : List ℕ)
    → number_with x (suc n) (drop i bytes) ≡ number_with (x * 256 + get_or bytes i 0) n (drop (suc i) bytes)
number-more x n zero [] = ap (λ (y : ℕ). number_with y n []) (omega arith)
number-more x n (suc i) [] = ap (λ (y : ℕ). number_with y n []) (omega arith)
number-more x n zero (b ∷ bytes) = refl
number-more x n (suc i) (b ∷ bytes) = number-more x n i bytes

-- seven bytes and one more fit in eight
pub grown : (i x b : ℕ) → x < 256 ^ i → i < 8 → b < 256 → (x * 256 + b < 256 ^ (i + 1)) × (x * 256 + b < 2 ^ 64)
grown i x b fits within byte =
    let row : x * 256 + b < 256 * 256 ^ i = mul-add-lt x 256 b (256 ^ i) fits byte in
    let power : 256 ^ (i + 1) ≡ 256 * 256 ^ i = pow-add 256 i 1 ∙ mul_comm (256 ^ i) (256 ^ 1) in
    let cap : 256 ^ (i + 1) ≤ 256 ^ 8 = pow-le-pow_right {n = 256} (omega arith) {i = i + 1} {j = 8} (omega (arith, within)) in
    (omega (arith, row, power), omega (arith, row, power, cap))

-- ---- what stands at the place that is looked for

module _ (key : List ℕ) (version head : ℕ) (has : IsHead key head) (heads : List ℕ) (es : List Entry)
    (are : AreHeads heads es) (i : ℕ) (place : i ≡ prefix_len (is_ahead key version) es) where
  pub past_all : length es ≤ i → first_failing (is_ahead key version) es ≡ None
  past_all past = first-none (is_ahead key version) es i place past

  pub at_found : (e : Entry) → i < length es → e ≡ get_or es i e → first_failing (is_ahead key version) es ≡ Some e
  at_found e within is = first-some (is_ahead key version) es i e place within ∙ ap Some (sym is)

  -- an entry of another head is of another key
  pub at_other : i < length es → get_or heads i 0 ≢ head
      → (if_of_key key (first_failing (is_ahead key version) es) ≡ None)
      × (if_exact key version (first_failing (is_ahead key version) es) ≡ None)
  at_other within apart =
      let e = get_or es i (place_of key version) in
      let some : first_failing (is_ahead key version) es ≡ Some e =
      first-some (is_ahead key version) es i (place_of key version) place within in
      let has_head = heads-at heads es i 0 (place_of key version) are within in
      let other : eq_by_cmp key_cmp key e.key ≡ false =
      other_key key version head has e (get_or heads i 0) has_head (λ same. apart (sym same)) in (
        ap (if_of_key key) some ∙ ap (λ b. only_if b e) other,
        ap (if_exact key version) some ∙ ap (λ b. only_if (b && (e.version == version)) e) other,
      )
