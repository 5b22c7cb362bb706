-- Where a search finds a byte.
use Rattle.std.proofs.Common.{◌≡◌, ℕ, ◌<◌, Bool, true, false, List, Option, Some, None, length, refl, arith}
use Rattle.std.specs.List.{position, position_or_len}
use Rattle.std.proofs.lemmas.List.Sums.{position_or_len_is}
use Rattle.std.proofs.lemmas.Bool.Decides.{nat_tests}
use Rattle.memchr.specs.Find.{IsFirstByte}

is_false : (b : Bool) → (b ≡ true → ⊥) → b ≡ false
is_false true denied = absurd (denied refl)
is_false false denied = refl

-- a search's answer is the first position
module _ (test : ℕ → Bool) (bytes : List ℕ) where
  pub first_byte-position : (r : Option ℕ) → IsFirstByte test bytes r → r ≡ position test bytes
  first_byte-position None none =
      let end : position_or_len test bytes ≡ length bytes =
      position_or_len_is test bytes (length bytes) 0 (omega arith) (λ k low. is_false _ (none k (omega arith) low))
      (λ low. absurd (omega arith)) in
      grind (arith, nat_tests)
  first_byte-position (Some k) found =
      let first = found.0 in
      let at : position_or_len test bytes ≡ k =
      position_or_len_is test bytes k 0 (omega arith) (λ j low. is_false _ (first.before j (omega arith) low))
      (λ low. found.1) in
      let high : k < length bytes = first.high in
      grind (arith, nat_tests)
