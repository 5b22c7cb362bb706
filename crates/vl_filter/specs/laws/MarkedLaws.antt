-- The bytes of a filter have the bits that are marked, and no other bytes have these bits.
use Rattle.std.proofs.Common.{◌≡◌, ℕ, zero, suc, ◌+◌, ◌-◌, ◌*◌, ◌/◌, ◌%◌, ◌^◌, ◌<◌, ◌≤◌, Bool, true, false, cond}
use Rattle.std.proofs.Common.{◌==◌, ◌||◌, List, [], ◌∷◌, length, get_or, refl, ap, sym, ◌∙◌, arith, ⊎_elim}
use Rattle.std.specs.Int.{bit_at}
use Rattle.std.proofs.Math.Nat.{pow-succ'}
use Rattle.std.proofs.lemmas.Bool.{cases_lt}
use Rattle.std.proofs.lemmas.Bool.Decides.{nat_tests}
use Rattle.std.proofs.lemmas.List.{get_or_past}
use Rattle.std.proofs.lemmas.List.FromFn.{fill_by_all, get_or-map-range_with_len, length-map-range_with_len}
use Rattle.std.proofs.lemmas.Nat.Bits.{bit_at-lt, bit_at-zero, bit_at_cat_high, bit_at_cat_low, same_from_bits_below}
use Rattle.vl_filter.specs.Bits.{is_set}
use Rattle.vl_filter.specs.Filters.{byte_count, is_marked, marked_bytes, number_with}
use Rattle.vl_filter.specs.Places.{has_place_below, place}
use Rattle.vl_filter.specs.declared.hashes.Hashes.{Hashes}

-- ---- a number with some bits

abbrev bit_value : Bool → ℕ
bit_value b = cond b 1 0

bit_of : (b : Bool) → bit_at (bit_value b) 0 ≡ bit_value b
bit_of true = refl
bit_of false = refl

bit_small : (b : Bool) → bit_value b ≤ 1
bit_small true = omega arith
bit_small false = omega arith

scaled : (b : Bool) (k : ℕ) → bit_value b * k ≤ k
scaled true k = omega arith
scaled false k = omega arith

module _ (bit : ℕ → Bool) where
  number-fits : (n : ℕ) → number_with bit n < 2 ^ n
  number-fits zero = omega arith
  number-fits (suc n) = more (2 ^ n) (bit_value (bit n) * 2 ^ n) (number_with bit n) (2 ^ suc n) (pow-succ' 2 n)
      (scaled (bit n) (2 ^ n)) (number-fits n)
    where
      more : (k a b m : ℕ) → m ≡ 2 * k → a ≤ k → b < k → a + b < m
      more k a b m is le less = omega (arith, is, le, less)

  number-bit : (n i : ℕ) → i < n → bit_at (number_with bit n) i ≡ bit_value (bit i)
  number-bit zero i within = absurd (omega arith)
  number-bit (suc n) i within =
      ⊎_elim
      (λ (less : i < n). bit_at_cat_low (bit_value (bit n)) n (number_with bit n) i less ∙ number-bit n i less)
      (λ (past : n ≤ i).
      let same : i ≡ n = omega (arith, within, past) in
      bit_at_cat_high (bit_value (bit n)) n (number_with bit n) i (number-fits n) past
      ∙ ap (λ k. bit_at (bit_value (bit n)) k) (none i n same) ∙ bit_of (bit n) ∙ ap (λ k. bit_value (bit k)) (sym same))
      (cases_lt i n)
    where
      none : (i n : ℕ) → i ≡ n → i - n ≡ 0
      none i n same = omega (arith, same)

-- ---- the bytes of a filter

past_place : (bits : ℕ) (hashes : Hashes) (n p : ℕ) → 0 < bits → bits ≤ p → has_place_below bits hashes n p ≡ false
past_place bits hashes zero p some past = refl
past_place bits hashes (suc n) p some past =
    neither (p == place bits hashes n) (has_place_below bits hashes n p) (other_test p (place bits hashes n) below)
    (past_place bits hashes n p some past)
  where
    below : place bits hashes n < p
    below = omega (arith, some, past)

    other_test : (m n : ℕ) → n < m → (m == n) ≡ false
    other_test m n less = grind (arith, nat_tests)

    neither : (a b : Bool) → a ≡ false → b ≡ false → (a || b) ≡ false
    neither true b is also = absurd cc
    neither false b is also = also

past_marked : (bits : ℕ) (list : List Hashes) (p : ℕ) → 0 < bits → bits ≤ p → is_marked bits list p ≡ false
past_marked bits [] p some past = refl
past_marked bits (hashes ∷ list) p some past =
    neither (has_place_below bits hashes 7 p) (is_marked bits list p) (past_place bits hashes 7 p some past)
    (past_marked bits list p some past)
  where
    neither : (a b : Bool) → a ≡ false → b ≡ false → (a || b) ≡ false
    neither true b is also = absurd cc
    neither false b is also = also

test_of : (b : Bool) → (bit_value b == 1) ≡ b
test_of true = refl
test_of false = refl

of_test : (n : ℕ) (b : Bool) → n < 2 → (n == 1) ≡ b → n ≡ bit_value b
of_test n true small is = grind (arith, nat_tests)
of_test n false small is = let apart : n ≤ 0 = grind (arith, nat_tests) in omega (arith, apart)

module _ (list : List Hashes) where
  byte_at : ℕ → ℕ
  byte_at at = number_with (λ bit. is_marked (8 * byte_count (length list)) list (8 * at + bit)) 8

  many : 8 ≤ byte_count (length list)
  many = omega arith

  -- a bit is 1 exactly where it is marked
  pub marked-bits : (p : ℕ) → is_set (marked_bytes list) p ≡ is_marked (8 * byte_count (length list)) list p
  unfolding is_set byte_at
  marked-bits p =
      ⊎_elim
      (λ (within : p / 8 < byte_count (length list)).
      ap (λ (n : ℕ). bit_at n (p % 8) == 1)
      (get_or-map-range_with_len byte_at 0 (byte_count (length list)) (p / 8) (p / 8) 0 within (omega arith))
      ∙ ap (λ (n : ℕ). n == 1)
      (number-bit (λ bit. is_marked (8 * byte_count (length list)) list (8 * (p / 8) + bit)) 8 (p % 8) (omega arith))
      ∙ test_of (is_marked (8 * byte_count (length list)) list (8 * (p / 8) + p % 8))
      ∙ ap (is_marked (8 * byte_count (length list)) list) (parts p))
      (λ (past : byte_count (length list) ≤ p / 8).
      ap (λ (n : ℕ). bit_at n (p % 8) == 1)
      (get_or_past (marked_bytes list) (p / 8) 0 (omega (arith, past, length-map-range_with_len byte_at 0 (byte_count (length list)))))
      ∙ ap (λ (n : ℕ). n == 1) (bit_at-zero (p % 8))
      ∙ sym (past_marked (8 * byte_count (length list)) list p (omega (arith, many)) (omega (arith, past))))
      (cases_lt (p / 8) (byte_count (length list)))
    where
      parts : (p : ℕ) → 8 * (p / 8) + p % 8 ≡ p
      parts p = omega arith

  pub marked-length : length (marked_bytes list) ≡ byte_count (length list)
  unfolding byte_at
  marked-length = length-map-range_with_len byte_at 0 (byte_count (length list))

  -- no other bytes have them
  pub only-marked : (bytes : List ℕ) → ((k : ℕ) → get_or bytes k 0 < 2 ^ 8) → length bytes ≡ byte_count (length list)
      → ((p : ℕ) → is_set bytes p ≡ is_marked (8 * byte_count (length list)) list p) → bytes ≡ marked_bytes list
  unfolding is_set byte_at
  only-marked bytes fits long exact =
      fill_by_all byte_at bytes (byte_count (length list)) 0 long (λ k within.
      same_from_bits_below 8 (get_or bytes k 0) (byte_at k) (fits k)
      (number-fits (λ bit. is_marked (8 * byte_count (length list)) list (8 * k + bit)) 8)
      (λ i small.
      of_test (bit_at (get_or bytes k 0) i) (is_marked (8 * byte_count (length list)) list (8 * k + i)) (bit_at-lt (get_or bytes k 0) i)
      (sym (ap (λ (n : ℕ). bit_at (get_or bytes n 0) i == 1) (front k i small))
      ∙ sym (ap (λ (n : ℕ). bit_at (get_or bytes ((8 * k + i) / 8) 0) n == 1) (back k i small)) ∙ exact (8 * k + i))
      ∙ sym (number-bit (λ bit. is_marked (8 * byte_count (length list)) list (8 * k + bit)) 8 i small)))
    where
      front : (k i : ℕ) → i < 8 → (8 * k + i) / 8 ≡ k
      front k i small = omega (arith, small)

      back : (k i : ℕ) → i < 8 → (8 * k + i) % 8 ≡ i
      back k i small = omega (arith, small)
