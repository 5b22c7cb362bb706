-- One bit of bytes, read and written.
use Rattle.std.proofs.Common.{◌≡◌, ◌≢◌, ℕ, ◌*◌, ◌/◌, ◌%◌, ◌^◌, ◌<◌, Bool, true, false, ◌==◌, ◌||◌, List, length}
use Rattle.std.proofs.Common.{get_or, slice_set, bit_or, refl, ap, sym, ◌∙◌, arith, ⊎_elim, w8}
use Rattle.std.specs.Int.{bit_at}
use Rattle.std.proofs.lemmas.Bool.{cases_eq}
use Rattle.std.proofs.lemmas.Bool.Decides.{nat_tests}
use Rattle.std.proofs.lemmas.List.{get_or-set_same, get_or-set_other}
use Rattle.std.proofs.lemmas.Nat.Bits.{bit_at_set_same, bit_at_set_other}
use Rattle.vl_filter.specs.Bits.{is_set}

same_test : (m n : ℕ) → m ≡ n → (m == n) ≡ true
same_test m n same = grind (arith, nat_tests)

other_test : (m n : ℕ) → m ≢ n → (m == n) ≡ false
other_test m n apart = grind (arith, nat_tests, apart)

or_false : (b : Bool) → b ≡ (false || b)
or_false true = refl
or_false false = refl

stays : (bytes : List ℕ) (p : ℕ) → (bit_at (get_or bytes (p / 8) 0) (p % 8) == 1) ≡ (false || is_set bytes p)
unfolding is_set
stays bytes p = or_false (bit_at (get_or bytes (p / 8) 0) (p % 8) == 1)

module _ (bytes : List ℕ) (place : ℕ) (within : place / 8 < length bytes) where
  byte : ℕ
  byte = bit_or (get_or bytes (place / 8) 0) (1 * 2 ^ (place % 8) % 256)

  written : List ℕ
  written = slice_set bytes (place / 8) byte

  small : place % 8 < 8
  small = omega arith

  -- a bit of another byte
  apart_bytes : (p : ℕ) → p / 8 ≢ place / 8 → is_set written p ≡ is_set bytes p
  unfolding is_set written
  apart_bytes p apart = ap (λ (n : ℕ). bit_at n (p % 8) == 1) (get_or-set_other bytes (place / 8) (p / 8) byte 0 apart)

  -- a bit of the byte
  of_byte : (p : ℕ) → p / 8 ≡ place / 8 → is_set written p ≡ (bit_at byte (p % 8) == 1)
  unfolding is_set written
  of_byte p same = ap (λ (k : ℕ). bit_at (get_or written k 0) (p % 8) == 1) same
      ∙ ap (λ (n : ℕ). bit_at n (p % 8) == 1) (get_or-set_same bytes (place / 8) byte 0 within)

  -- the bit that is written is 1, and each other stays
  pub sets_one : (p : ℕ) → is_set
      (slice_set bytes (place / 8) (bit_or (get_or bytes (place / 8) 0) (1 * 2 ^ (place % 8) % 256))) p ≡ (p == place || is_set bytes p)
  unfolding written byte
  sets_one p =
      ⊎_elim
      (λ (same : p ≡ place).
      of_byte p (ap (λ (n : ℕ). n / 8) same)
      ∙ ap (λ (n : ℕ). bit_at byte (n % 8) == 1) same
      ∙ same_test (bit_at byte (place % 8)) 1 (bit_at_set_same w8 (get_or bytes (place / 8) 0) (place % 8) small)
      ∙ sym (ap (λ (t : Bool). t || is_set bytes p) (same_test p place same)))
      (λ (apart : p ≢ place).
      ⊎_elim
      (λ (here : p / 8 ≡ place / 8).
      of_byte p here
      ∙ ap (λ (n : ℕ). n == 1)
      (bit_at_set_other w8 (get_or bytes (place / 8) 0) (place % 8) small (p % 8) (λ same. apart (omega (arith, here, same))))
      ∙ ap (λ (k : ℕ). bit_at (get_or bytes k 0) (p % 8) == 1) (sym here)
      ∙ stays bytes p
      ∙ ap (λ (t : Bool). t || is_set bytes p) (sym (other_test p place apart)))
      (λ (far : p / 8 ≢ place / 8).
      apart_bytes p far ∙ or_false (is_set bytes p) ∙ ap (λ (t : Bool). t || is_set bytes p) (sym (other_test p place apart)))
      (cases_eq (p / 8) (place / 8)))
      (cases_eq p place)
