use Rattle.std.proofs.Common.{rules, ◌≡◌, ◌≢◌, length, ◌++◌, sym, ◌∙◌, subst}
use Rattle.std.specs.Option.{IfNone}
use Rattle.vl_folder.specs.FileName.{file_name}
use Rattle.vl_folder.proofs.TenDigits.{first_ten, of_none}
use Rattle.vl_disk.specs.Name.{IsNumbered, file_number}
use Rattle.vl_disk.specs.declared.name.Name.{Name}
use Rattle.vl_folder.proofs.file_name.named.Goals as goal

pub returns-in_err-number-clause-of_others : goal.returns-in_err-number-clause-of_others
returns-in_err-number-clause-of_others c =
    let parts : c.in_ok-digits.digits.now ++ c.in_ok-digits.ending.now ≡ c.args.text.now = search rules in
    let ten : length c.in_ok-digits.digits.now ≡ 10 = search rules in
    let others : (name : Name) → IsNumbered name → c.args.text.now ≢ file_name name =
    (λ name numbered is.
    c.in_err-number.ensures.of_others (file_number name) numbered
    (first_ten c.in_ok-digits.digits.now c.in_ok-digits.ending.now name numbered ten (parts ∙ is)).0) in
    subst (λ found. IfNone found ((name : Name) → IsNumbered name → c.args.text.now ≢ file_name name))
    (sym c.from_residual-in_err-number.ensures) others

pub returns-clause-of_others : goal.returns-clause-of_others
returns-clause-of_others c =
    let parts : c.in_ok-digits.digits.now ++ c.in_ok-digits.ending.now ≡ c.args.text.now = search rules in
    let ten : length c.in_ok-digits.digits.now ≡ 10 = search rules in
    of_none c.with_ending.result c.with_ending.ensures.of_others
    (λ other name numbered is. other name
    (first_ten c.in_ok-digits.digits.now c.in_ok-digits.ending.now name numbered ten (parts ∙ is)).1)
