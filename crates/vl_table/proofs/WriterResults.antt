-- What holds of a result that is handed on.
use Rattle.std.specs.Prelude.{◌≡◌, Result, Ok, Err, IsErrAnd, IsErrOf, OnOk}
use Rattle.std.proofs.Common.{ap, sym, ◌∙◌}
use Rattle.vl_table.specs.declared.writer.add_fail.AddFail.{AddFail}
use Rattle.vl_table.specs.declared.writer.add_fail.AddFail.TheVariants as add
use Rattle.vl_table.specs.declared.writer.write_fail.WriteFail.{WriteFail}
use Rattle.vl_table.specs.declared.writer.write_fail.WriteFail.TheVariants as why
use Rattle.vl_table.specs.writer.Fails.{write_failed}

pub on_ok_both : {T E : Type 0} (r : Result T E) (P Q : Type 0) → OnOk r P → OnOk r Q → OnOk r (P × Q)
on_ok_both (Ok x) P Q p q = (p, q)
on_ok_both (Err e) P Q p q = tt

pub on_ok_any : {T E : Type 0} (r : Result T E) (P : Type 0) → P → OnOk r P
on_ok_any (Ok x) P p = p
on_ok_any (Err e) P p = tt

-- ---- failures that are handed on

-- want of memory isn't too long
pub memory_only : {T : Type 0} (result : Result T WriteFail) → IsErrAnd result (λ f. f ≡ why.NoMemory) → IsErrOf result why.TooLong → ⊥
memory_only (Ok x) and is = cc
memory_only (Err why.NoMemory) and is = cc
memory_only (Err why.TooLong) and is = cc

pub same_fault : {B : Type 0} (e : WriteFail) (result : Result B WriteFail) → IsErrAnd result (λ f. f ≡ e)
    → IsErrOf result why.TooLong → e ≡ why.TooLong
same_fault e (Ok x) and is = absurd and
same_fault e (Err why.NoMemory) and is = cc
same_fault e (Err why.TooLong) and is = cc

-- so of what adding an entry answers
pub add_too_long : {T : Type 0} (e : WriteFail) (result : Result T AddFail) → IsErrAnd result (λ f. f ≡ write_failed e)
    → IsErrOf result add.TooLong → e ≡ why.TooLong
add_too_long e (Ok x) and is = absurd and
add_too_long why.TooLong (Err f) and is = cc
add_too_long why.NoMemory (Err f) and is = absurd (let no : f ≡ add.NoMemory = and in cc)

pub too_long_added : {T : Type 0} (e : WriteFail) (result : Result T AddFail) → IsErrAnd result (λ f. f ≡ write_failed e)
    → e ≡ why.TooLong → IsErrOf result add.TooLong
too_long_added e (Ok x) and is = absurd and
too_long_added e (Err f) and is = ap Err (and ∙ ap write_failed is)

-- two errors of one result are one
pub one_error : {T : Type 0} (e f : WriteFail) (r : Result T WriteFail) → r ≡ Err e → r ≡ Err f → e ≡ f
one_error e f r first second = let same = sym first ∙ second in cc

pub never_unlawful : {T : Type 0} (e : WriteFail) (result : Result T AddFail) → IsErrAnd result (λ f. f ≡ write_failed e)
    → IsErrOf result add.NotLawful → ⊥
never_unlawful e (Ok x) and is = cc
never_unlawful why.TooLong (Err f) and is = let no : f ≡ add.TooLong = and in cc
never_unlawful why.NoMemory (Err f) and is = let no : f ≡ add.NoMemory = and in cc
