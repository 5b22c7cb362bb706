-- What the ten digits of a number are, and how a name ends behind them.
use Rattle.std.proofs.Common.{Option, None, Some, ◌≡◌, ◌≢◌, ℕ, ◌-◌, ◌^◌, ◌<◌, Result, Ok, get_or, List, [], ◌∷◌, ◌++◌}
use Rattle.std.proofs.Common.{length, replicate, sym, ◌∙◌, ap, subst, zero, suc, arith, refl, drop}
use Rattle.std.proofs.lemmas.List.{length-append, length-replicate}
use Rattle.std.proofs.lemmas.Fmt.{digits_decimal, digits_value-decimal, length-decimal-le, IsAscii-from_digits}
use Rattle.std.proofs.lemmas.Str.{IsUtf8-from_ascii}
use Rattle.std.proofs.lemmas.Str.Parse.{parse_gives}
use Rattle.vl_folder.proofs.Digits.{own}
use Rattle.std.specs.Fmt.{decimal}
use Rattle.std.specs.Option.{IfNone}
use Rattle.std.specs.Str.{IsUtf8}
use Rattle.std.specs.Char.{digit_value}
use Rattle.std.specs.Str.Parse.{AllDigits, digits_value, ParsesUnsigned}
use Rattle.vl_disk.specs.Name.{IsNumbered, file_number}
use Rattle.vl_disk.specs.declared.name.Name.{Name}
use Rattle.vl_folder.specs.FileName.{ten_digits, ending, file_name}

pub length_ten : (number : ℕ) → number < 2 ^ 32 → length (ten_digits number) ≡ 10
length_ten number small = omega (
  arith,
  length-append (replicate (10 - length (decimal number)) 48) (decimal number),
  length-replicate {A = ℕ} (10 - length (decimal number)) 48,
  length-decimal-le 10 number (omega arith) (omega (arith, small)) (omega (arith, small)),
)

-- zeros before digits are digits, and change no number
zeros_digits : (count : ℕ) (digits : List ℕ) → AllDigits 10 digits → AllDigits 10 (replicate count 48 ++ digits)
zeros_digits zero digits all = all
zeros_digits (suc count) digits all = (omega arith, zeros_digits count digits all)

zeros_value : (count : ℕ) (digits : List ℕ) → digits_value 10 (replicate count 48 ++ digits) ≡ digits_value 10 digits
zeros_value zero digits = refl
zeros_value (suc count) digits = zeros_value count digits

pub digits_ten : (number : ℕ) → number < 2 ^ 32 → AllDigits 10 (ten_digits number)
digits_ten number small = zeros_digits (10 - length (decimal number)) (decimal number) (digits_decimal own number (omega (arith, small)))

pub value_ten : (number : ℕ) → number < 2 ^ 32 → digits_value 10 (ten_digits number) ≡ number
value_ten number small = zeros_value (10 - length (decimal number)) (decimal number)
    ∙ digits_value-decimal own number (omega (arith, small))

pub utf8_ten : (number : ℕ) → number < 2 ^ 32 → IsUtf8 (ten_digits number)
utf8_ten number small = IsUtf8-from_ascii (ten_digits number) (IsAscii-from_digits (ten_digits number) (digits_ten number small))

-- the first of them is no plus
pub no_plus : (number : ℕ) → number < 2 ^ 32 → get_or (ten_digits number) 0 0 ≢ 43
no_plus number small = first (ten_digits number) (digits_ten number small)
  where
    first : (digits : List ℕ) → AllDigits 10 digits → get_or digits 0 0 ≢ 43
    first [] all is = absurd (omega (arith, is))
    first (digit ∷ digits) (is_digit, all) is = absurd (omega (arith, subst (λ d. digit_value d < 10) is is_digit))

-- they are read as the number
pub parse_ten : {E : Type 0} (number : ℕ) (text : List ℕ) (parsed : Result ℕ E) → number < 2 ^ 32 → text ≡ ten_digits number
    → ParsesUnsigned 32 10 text parsed → parsed ≡ Ok number
parse_ten {E = E} number text parsed small is parses =
    parse_gives own 32 (ten_digits number) parsed (subst (λ bytes. ParsesUnsigned {E = E} 32 10 bytes parsed) is parses)
    (digits_ten number small) (omega (arith, length_ten number small)) (omega (arith, value_ten number small, small))
    ∙ ap Ok (value_ten number small)

append_parts : (a b x y : List ℕ) → length a ≡ length b → a ++ x ≡ b ++ y → (a ≡ b) × (x ≡ y)
append_parts [] [] x y same is = (refl, is)
append_parts [] (c ∷ b) x y same is = absurd (omega (arith, same))
append_parts (c ∷ a) [] x y same is = absurd (omega (arith, same))
append_parts (c ∷ a) (d ∷ b) x y same is =
    let rest : (a ≡ b) × (x ≡ y) = append_parts a b x y (omega (arith, same)) (ap (drop 1) is) in
    let one : c ≡ d = ap (λ bytes. get_or bytes 0 0) is in
    (rw one (ap (λ bytes. d ∷ bytes) rest.0), rest.1)

-- a name is its first ten bytes and its ending
pub first_ten : (digits rest : List ℕ) (name : Name) → IsNumbered name → length digits ≡ 10 → digits ++ rest ≡ file_name name
    → (digits ≡ ten_digits (file_number name)) × (rest ≡ ending name)
first_ten digits rest name numbered ten is =
    let long : length (ten_digits (file_number name)) ≡ 10 = length_ten (file_number name) (omega (arith, numbered.1)) in
    append_parts digits (ten_digits (file_number name)) rest (ending name) (ten ∙ sym long) is

-- what is said of no file
pub of_none : {P Q : Type 0} (found : Option Name) → IfNone found P → (P → Q) → IfNone found Q
of_none None holds follows = follows holds
of_none (Some name) holds follows = tt
