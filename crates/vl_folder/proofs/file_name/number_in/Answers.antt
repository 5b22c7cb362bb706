use Rattle.std.proofs.Common.{rules, ◌≡◌, ◌≢◌, ℕ, Ok, ◌^◌, ◌<◌, sym, ◌∙◌, ap, subst, arith, ⊎_elim, slice_index}
use Rattle.std.specs.Option.{IfNone}
use Rattle.std.specs.Str.{IsUtf8}
use Rattle.vl_folder.specs.FileName.{ten_digits}
use Rattle.vl_folder.proofs.Digits.{number_text}
use Rattle.vl_folder.proofs.TenDigits.{utf8_ten, no_plus, parse_ten}
use Rattle.vl_disk.specs.Name.{IsNumbered}
use Rattle.vl_disk.specs.declared.name.Name.TheVariants.{Log}
use Rattle.vl_folder.proofs.file_name.number_in.Goals as goal

pub returns-clause-spelled : goal.returns-clause-spelled
returns-clause-spelled c = number_text c.args.digits.now c.in_ok-ok.field-0.now c.parse.result c.in_ok-number.number
    c.parse.ensures.value.0 (search rules) (search rules) (search rules) c.requires (search rules) (search rules)

pub returns-then-digits-eq43-clause-of_others : goal.returns-then-digits-eq43-clause-of_others
returns-then-digits-eq43-clause-of_others c number numbered is =
    let small : number < 2 ^ 32 = omega (arith, numbered.1) in
    no_plus number small (ap (λ bytes. slice_index bytes 0) (sym is) ∙ c.if-digits-eq43.true)

pub returns-in_err-ok-clause-of_others : goal.returns-in_err-ok-clause-of_others
returns-in_err-ok-clause-of_others c =
    let no_text : IsUtf8 c.args.digits.now → ⊥ = search rules in
    let others : (number : ℕ) → IsNumbered (Log number) → c.args.digits.now ≢ ten_digits number =
    (λ number numbered is. no_text (subst IsUtf8 (sym is) (utf8_ten number (omega (arith, numbered.1))))) in
    subst (λ found. IfNone found ((number : ℕ) → IsNumbered (Log number) → c.args.digits.now ≢ ten_digits number))
    (sym c.from_residual.ensures) others

pub returns-in_err-number-clause-of_others : goal.returns-in_err-number-clause-of_others
returns-in_err-number-clause-of_others c =
    let same : c.in_ok-ok.field-0.now ≡ c.args.digits.now = search rules in
    let others : (number : ℕ) → IsNumbered (Log number) → c.args.digits.now ≢ ten_digits number =
    (λ number numbered is.
    let parsed : c.parse.result ≡ Ok number =
    parse_ten number c.in_ok-ok.field-0.now c.parse.result (omega (arith, numbered.1)) (same ∙ is) c.parse.ensures.value.0 in
    search rules) in
    subst (λ found. IfNone found ((number : ℕ) → IsNumbered (Log number) → c.args.digits.now ≢ ten_digits number))
    (sym c.from_residual-in_err-number.ensures) others

pub returns-then-number-eq0-clause-of_others : goal.returns-then-number-eq0-clause-of_others
returns-then-number-eq0-clause-of_others c number numbered is =
    let same : c.in_ok-ok.field-0.now ≡ c.args.digits.now = search rules in
    let parsed : c.parse.result ≡ Ok number =
    parse_ten number c.in_ok-ok.field-0.now c.parse.result (omega (arith, numbered.1)) (same ∙ is) c.parse.ensures.value.0 in
    let read : c.in_ok-number.number ≡ number = search rules in
    ⊎_elim (λ zero. omega (arith, zero, read, numbered.0)) (λ last. omega (arith, last.1, read, numbered.1)) c.then-number-eq0.either
