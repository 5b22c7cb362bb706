-- Numbers that words spell, by what parsing gives.
use Rattle.std.proofs.Common.{◌≡◌, ◌⊎◌, ⊎_elim, inl, inr, ℕ, ◌^◌, ◌<◌, ◌≤◌, refl, sym, ◌∙◌, ap, arith}
use Rattle.std.proofs.Common.{Bool, true, false, cond, List, Some, None, Result, Ok, Err}
use Rattle.std.specs.Prelude.{◌&&◌, nat_le, not}
use Rattle.std.specs.Result.{result_ok}
use Rattle.std.specs.Fmt.{decimal}
use Rattle.std.specs.Str.{bytes_eq}
use Rattle.std.specs.Str.Parse.{AllDigits, ParsesUnsigned, digits_value}
use Rattle.std.proofs.lemmas.Bool.Decides.{nat_tests}
use Rattle.std.proofs.lemmas.Fmt.{digits_value-decimal, parse-decimal}
use Rattle.std.proofs.lemmas.Slice.Eq.{bytes_eq-Decides}
use Rattle.std.proofs.lemmas.Str.Parse.{IsNumeralModel, numerals_by_value, tells_digits}
use Rattle.vl_script.specs.Numbers.{number_of}

own : IsNumeralModel (AllDigits 10) (digits_value 10)
own = numerals_by_value (AllDigits 10) tells_digits

both_true : (a b : Bool) → (a && b) ≡ true → (a ≡ true) × (b ≡ true)
both_true true true e = (refl, refl)
both_true true false e = absurd (cc)
both_true false b e = absurd (cc)

and_true : (a b : Bool) → a ≡ true → b ≡ true → (a && b) ≡ true
and_true true true p q = refl
and_true true false p q = absurd (cc)
and_true false b p q = absurd (cc)

cases : (b : Bool) → (b ≡ true) ⊎ (b ≡ false)
cases true = inl refl
cases false = inr refl

within : (a b : ℕ) → nat_le a b ≡ true → a ≤ b
within a b e = grind (arith, nat_tests)

is_within : (a b : ℕ) → a ≤ b → nat_le a b ≡ true
is_within a b le = grind (arith, nat_tests)

chosen_true : {A : Type 0} (b : Bool) (x y : A) → b ≡ true → cond b x y ≡ x
chosen_true true x y e = refl
chosen_true false x y e = absurd (cc)

chosen_false : {A : Type 0} (b : Bool) (x y : A) → b ≡ false → cond b x y ≡ y
chosen_false true x y e = absurd (cc)
chosen_false false x y e = refl

module _ (word : List ℕ) (most : ℕ) where
  abbrev value : ℕ
  value = digits_value 10 word

  abbrev test : Bool
  test = bytes_eq (decimal (digits_value 10 word)) word && nat_le (digits_value 10 word) most

  -- a word that spells no such number
  pub none_spelled : ((n : ℕ) → word ≡ decimal n → n ≤ most → ⊥) → number_of most word ≡ None
  none_spelled none = ⊎_elim
      (λ (passes : test ≡ true).
      let both = both_true (bytes_eq (decimal value) word) (nat_le value most) passes in
      absurd (none value (sym ((bytes_eq-Decides (decimal value) word).0 both.0)) (within value most both.1)))
      (λ (fails : test ≡ false). chosen_false test (Some value) None fails)
      (cases test)

  -- and one that does
  pub some_spelled : (n : ℕ) → n < 2 ^ 64 → word ≡ decimal n → n ≤ most → number_of most word ≡ Some n
  some_spelled n small is le =
      let same : value ≡ n = ap (digits_value 10) is ∙ digits_value-decimal own n (omega (arith, small)) in
      let spelled : bytes_eq (decimal value) word ≡ true = (bytes_eq-Decides (decimal value) word).1 (ap decimal same ∙ sym is) in
      let fits : nat_le value most ≡ true = is_within value most (omega (arith, same, le)) in
      chosen_true test (Some value) None (and_true (bytes_eq (decimal value) word) (nat_le value most) spelled fits)
      ∙ ap Some same

  module _ {E : Type 0} (small : most < 2 ^ 64) (r : Result ℕ E) (parses : ParsesUnsigned 64 10 word r) where
    parsed : (n : ℕ) → word ≡ decimal n → n ≤ most → r ≡ Ok n
    parsed n is le = parse-decimal 64 n word r (omega (arith, small, le)) (omega (arith, small, le)) is parses

    -- it isn't parsed
    pub none_parsed : ((n : ℕ) → r ≡ Ok n → ⊥) → number_of most word ≡ None
    none_parsed none = none_spelled (λ n is le. none n (parsed n is le))

    -- what is parsed isn't spelled so, or is too great
    pub none_fits : (n : ℕ) → r ≡ Ok n → (word ≡ decimal n → n ≤ most → ⊥) → number_of most word ≡ None
    none_fits n is_n none = none_spelled (λ k is le.
        let same : k ≡ n = same_ok k n (sym (parsed k is le) ∙ is_n) in
        none (is ∙ ap decimal same) (omega (arith, same, le)))
      where
        same_ok : (a b : ℕ) → ◌≡◌ {A = Result ℕ E} (Ok a) (Ok b) → a ≡ b
        same_ok a b e = cc

-- ---- what the code knows of it

ok_some : {E : Type 0} (r : Result ℕ E) (n : ℕ) → Some n ≡ result_ok r → r ≡ Ok n
ok_some (Ok x) n is = ap Ok (sym (some_same n x is))
  where
    some_same : (a b : ℕ) → Some a ≡ Some b → a ≡ b
    some_same a b e = cc
ok_some (Err e) n is = absurd (cc)

ok_none : {E : Type 0} (r : Result ℕ E) (n : ℕ) → None ≡ result_ok r → r ≡ Ok n → ⊥
ok_none r n none is = some_none n (sym (none ∙ ap result_ok is))
  where
    some_none : (n : ℕ) → Some n ≡ None → ⊥
    some_none n e = cc

not_false : (b : Bool) → false ≡ not b → b ≡ true
not_false true e = refl
not_false false e = cc

not_true : (b : Bool) → true ≡ not b → b ≡ true → ⊥
not_true b e is = true_false (e ∙ ap not is)
  where
    true_false : true ≡ false → ⊥
    true_false f = cc

module _ {E : Type 0} (word : List ℕ) (most : ℕ) (small : most < 2 ^ 64) (r : Result ℕ E) (parses : ParsesUnsigned 64 10 word r) where
  pub no_number : None ≡ result_ok r → number_of most word ≡ None
  no_number none = none_parsed word most small r parses (λ n is. ok_none r n none is)

  module _ (n : ℕ) (given : Some n ≡ result_ok r) (text other : List ℕ)
      (text_is : text ≡ decimal n) (other_is : other ≡ word) where
    -- the number is written otherwise, or is too great
    pub other_number : (true ≡ not (bytes_eq text other)) ⊎ (most < n) → number_of most word ≡ None
    other_number either = none_fits word most small r parses n (ok_some r n given) (λ is le. ⊎_elim
        (λ (apart : true ≡ not (bytes_eq text other)).
        not_true (bytes_eq text other) apart ((bytes_eq-Decides text other).1 (text_is ∙ sym is ∙ sym other_is)))
        (λ (past : most < n). omega (arith, past, le))
        either)

    pub this_number : false ≡ not (bytes_eq text other) → n ≤ most → number_of most word ≡ Some n
    this_number same le =
        let alike : text ≡ other = (bytes_eq-Decides text other).0 (not_false (bytes_eq text other) same) in
        some_spelled word most n (omega (arith, small, le)) (sym other_is ∙ sym alike ∙ text_is) le
