-- Numbers of ten digits, written and read.
use Rattle.std.proofs.Common.{◌≡◌, ◌≢◌, ℕ, ◌-◌, ◌^◌, ◌<◌, ◌==◌, Result, Ok, get_or, true, false, List, [], ◌∷◌, ◌++◌}
use Rattle.std.proofs.Common.{length, replicate, sym, ap, subst, suc, ⊎_elim, arith}
use Rattle.std.proofs.lemmas.List.{append-nil, length-append, length-replicate}
use Rattle.std.proofs.lemmas.Bool.Decides.{eqb_tells}
use Rattle.std.proofs.lemmas.Fmt.{decimal-digits_value}
use Rattle.std.proofs.lemmas.Str.Parse.{IsNumeralModel, numerals_by_value, tells_digits, parse_plain}
use Rattle.std.specs.Fmt.{decimal, styled_decimal, padded_integral, format_spec, char_count}
use Rattle.std.specs.Str.Parse.{AllDigits, digits_value, ParsesUnsigned}
use Rattle.std.specs.Result.{OkIff}
use Rattle.vl_folder.specs.FileName.{ten_digits}

-- what `{:010}` writes
ten_wide : (digits : List ℕ)
    → padded_integral (format_spec 32 0 4 10 (2 ^ 64 - 1)) false [] digits ≡ replicate (10 - length digits) 48 ++ digits
unfolding padded_integral char_count
ten_wide digits = let none : (n : ℕ) → n - 0 ≡ n = λ n. omega arith in rw (none, none, append-nil digits)

-- the path of a file
pub path_text : (folder ending : List ℕ) (number : ℕ)
    → folder ++ (47 ∷ (styled_decimal (format_spec 32 0 4 10 (2 ^ 64 - 1)) number ++ ending)) ≡ folder ++ 47 ∷ (ten_digits number ++ ending)
path_text folder ending number = rw (ten_wide (decimal number))

pub own : IsNumeralModel (AllDigits 10) (digits_value 10)
own = numerals_by_value (AllDigits 10) tells_digits

-- digits are their value in decimal, with zeros before it
module _ (value : ℕ) (some : 0 < value) (small : value < 2 ^ 64) where
  with_zeros : (digits : List ℕ) → AllDigits 10 digits → digits_value 10 digits ≡ value
      → replicate (length digits - length (decimal value)) 48 ++ decimal value ≡ digits
  with_zeros [] all is = absurd (omega arith)
  with_zeros (digit ∷ digits) (first, all) is = ⊎_elim (zero_first (with_zeros digits all)) other_first (eqb_tells digit 48)
    where
      zero_first : (digits_value 10 digits ≡ value → replicate (length digits - length (decimal value)) 48 ++ decimal value ≡ digits)
          → ((digit == 48) ≡ true) × (digit ≡ 48) → replicate (length (digit ∷ digits) - length (decimal value)) 48
          ++ decimal value ≡ digit ∷ digits
      zero_first so_far (_, same) =
          let rest : replicate (length digits - length (decimal value)) 48 ++ decimal value ≡ digits =
          so_far (subst (λ d. digits_value 10 (d ∷ digits) ≡ value) same is) in
          let one_more : length (digit ∷ digits) - length (decimal value) ≡ suc (length digits - length (decimal value)) =
          omega (
            arith,
            ap length rest,
            length-append (replicate (length digits - length (decimal value)) 48) (decimal value),
            length-replicate {A = ℕ} (length digits - length (decimal value)) 48,
          ) in
          rw (one_more, same) (ap (λ digits. 48 ∷ digits) rest)

      other_first : ((digit == 48) ≡ false) × (digit ≢ 48)
          → replicate (length (digit ∷ digits) - length (decimal value)) 48 ++ decimal value ≡ digit ∷ digits
      other_first (_, other) =
          let written : decimal value ≡ digit ∷ digits = subst (λ v. decimal v ≡ digit ∷ digits) is
          (decimal-digits_value own (digit ∷ digits) (first, all) (omega arith) (λ same. absurd (other same)) (omega (arith, is, small))) in
          let none : length (digit ∷ digits) - length (decimal value) ≡ 0 = omega (arith, ap length written) in
          rw none written

-- ten digits that were read as a number
pub number_text : {E : Type 0} (digits text : List ℕ) (parsed : Result ℕ E) (number : ℕ)
    → ParsesUnsigned 32 10 text parsed → parsed ≡ Ok number
    → text ≡ digits → get_or digits 0 0 ≢ 43 → length digits ≡ 10 → 0 < number → number < 2 ^ 32 → digits ≡ ten_digits number
number_text {E = E} digits text parsed number gives is same unsigned long some small =
    let read : OkIff {E = E} (Ok number) (AllDigits 10 digits × (0 < length digits) × (digits_value 10 digits < 2 ^ 32))
    (digits_value 10 digits) =
    subst (λ r. OkIff r (AllDigits 10 digits × (0 < length digits) × (digits_value 10 digits < 2 ^ 32)) (digits_value 10 digits)) is
    (parse_plain own 32 digits parsed (subst (λ bs. ParsesUnsigned 32 10 bs parsed) same gives) unsigned) in
    sym (subst (λ count. replicate (count - length (decimal number)) 48 ++ decimal number ≡ digits) long
    (with_zeros number some (omega arith) digits read.0.0 (sym read.1)))
