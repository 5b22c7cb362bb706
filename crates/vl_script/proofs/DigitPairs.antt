-- Pairs of digits, by the values that the code has of them.
use Rattle.std.proofs.Common.{◌≡◌, ◌⊎◌, inl, inr, ℕ, ◌+◌, ◌*◌, ◌%◌, ◌<◌, ◌≤◌, max, refl, sym, ap, subst, arith}
use Rattle.std.proofs.Common.{List, length, take, drop, slice_index, slice_set, Option, Some, None, Result, Ok, Err, MatchOption}
use Rattle.std.proofs.lemmas.Bool.{cases_lt}
use Rattle.hex.specs.Hex.{digit_or_error, hex_digit_value, pair_value, decode_pairs, ◌>>=◌}
use Rattle.hex.proofs.Pairs.{prepend, decode_step, decode_err}
use Rattle.hex.specs.declared.error.FromHexError.{FromHexError}
use Rattle.vl_script.specs.Script.{decoded}

-- the value that the code has of a digit
abbrev pub IsValue : Option ℕ → ℕ → Type 0
IsValue digit value = MatchOption digit (value ≡ 255) (λ v. (value ≡ v) × (v < 16))

module _ (a b i : ℕ) where
  abbrev pair_of : Option ℕ → Option ℕ → Result ℕ FromHexError
  pair_of x y = digit_or_error a i x >>= λ h. digit_or_error b (i + 1) y >>= λ l. Ok (h * 16 + l)

  module _ (h l : ℕ) where
    reads_of : (x y : Option ℕ) → IsValue x h → IsValue y l → h < 16 → l < 16 → pair_of x y ≡ Ok (h * 16 + l)
    reads_of (Some v) (Some w) is_h is_l p q = rw (is_h.0, is_l.0) refl
    reads_of (Some v) None is_h is_l p q = absurd (omega (arith, is_l))
    reads_of None y is_h is_l p q = absurd (omega (arith, is_h))

    fails_of : (x y : Option ℕ) → IsValue x h → IsValue y l → (16 ≤ h) ⊎ (16 ≤ l)
        → (e : FromHexError) × (pair_of x y ≡ Err e)
    fails_of None y is_h is_l either = (_, refl)
    fails_of (Some v) None is_h is_l either = (_, refl)
    fails_of (Some v) (Some w) is_h is_l (inl p) = absurd (omega (arith, is_h.0, is_h.1))
    fails_of (Some v) (Some w) is_h is_l (inr p) = absurd (omega (arith, is_l.0, is_l.1))

    -- two digits
    pub pair_reads : IsValue (hex_digit_value a) h → IsValue (hex_digit_value b) l → h < 16 → l < 16
        → pair_value a b i ≡ Ok (h * 16 + l)
    pair_reads is_h is_l p q = reads_of (hex_digit_value a) (hex_digit_value b) is_h is_l p q

    -- of two bytes one is no digit
    pub pair_fails : IsValue (hex_digit_value a) h → IsValue (hex_digit_value b) l → (16 ≤ h) ⊎ (16 ≤ l)
        → (e : FromHexError) × (pair_value a b i ≡ Err e)
    pair_fails is_h is_l either = fails_of (hex_digit_value a) (hex_digit_value b) is_h is_l either

-- Behind so many pairs the greatest value of a digit is `most`: where that is a digit's, all of them were read;
abbrev pub Reads : (digits bytes : List ℕ) → (pairs most : ℕ) → Type 0
Reads digits bytes pairs most = most < 16
    → decode_pairs 0 digits ≡ prepend (take pairs bytes) (decode_pairs (2 * pairs) (drop (2 * pairs) digits))

-- else the whole is none.
abbrev pub Fails : (digits : List ℕ) → (most : ℕ) → Type 0
Fails digits most = 16 ≤ most → decoded (decode_pairs 0 digits) ≡ None

-- one pair more
module _ (digits bytes : List ℕ) (i most : ℕ) (within : 2 * i + 1 < length digits) (room : i < length bytes) where
  abbrev high : ℕ
  high = slice_index digits (2 * i)

  abbrev low : ℕ
  low = slice_index digits (2 * i + 1)

  module _ (h l now : ℕ) (is_h : IsValue (hex_digit_value high) h) (is_l : IsValue (hex_digit_value low) l)
      (is : now ≡ max (max most h) l) where
    pub reads_on : Reads digits bytes i most → Reads digits (slice_set bytes i ((h * 16 % 256 + l) % 256)) (i + 1) now
    reads_on reads small =
        let below : max (max most h) l < 16 = omega (arith, is, small) in
        let byte : (h * 16 % 256 + l) % 256 ≡ h * 16 + l = omega (arith, below) in
        let pair = pair_reads high low (2 * i) h l is_h is_l (omega (arith, below)) (omega (arith, below)) in
        subst (λ (b : ℕ). decode_pairs 0 digits
        ≡ prepend (take (i + 1) (slice_set bytes i b)) (decode_pairs (2 * (i + 1)) (drop (2 * (i + 1)) digits)))
        (sym byte) (decode_step digits bytes i (h * 16 + l) within room pair (reads (omega (arith, below))))

    great_one : 16 ≤ now → most < 16 → (16 ≤ h) ⊎ (16 ≤ l)
    great_one great small = elim (cases_lt h 16) [
      | inl below ↦ inr (omega (arith, is, great, small, below))
      | inr above ↦ inl above
    ]

    pub fails_on : Reads digits bytes i most → Fails digits most → Fails digits now
    fails_on reads fails great = elim (cases_lt most 16) [
      | inl small ↦
          let pair = pair_fails high low (2 * i) h l is_h is_l (great_one great small) in
          ap decoded (decode_err digits bytes i pair.0 within pair.1 (reads small))
      | inr before ↦ fails before
    ]
