-- What a write that isn't refused meets, and what a refused one leaves.
use Rattle.std.proofs.Common.{◌≡◌, ℕ, ◌==◌, Bool, true, false, cond, not, List, length, refl, arith, Option, Some, None, Err}
use Rattle.std.proofs.lemmas.Bool.Decides.{nat_tests}
use Rattle.std.specs.Prelude.{nat_le}
use Rattle.std.specs.FinMap.{insert}
use Rattle.vl_model.specs.Formats.{log_format}
use Rattle.vl_model.specs.Keys.{Writes, value_bytes, is_key_length, is_value_length}
use Rattle.vl_model.specs.Limits.{max_key_bytes}
use Rattle.vl_model.specs.declared.change.Change.{Change}
use Rattle.vl_txn.specs.Refusals.{refused_write, fits_transaction, IsWritten}
use Rattle.vl_txn.specs.declared.set_fail.SetFail.{SetFail}
use Rattle.vl_txn.specs.declared.set_fail.SetFail.TheVariants.{EmptyKey, KeyTooLong, ValueTooLong, TooBig, NoMemory}

-- the four tests by themselves: of an empty key, of the key's and the value's length, and of the whole
abbrev tested : Bool → Bool → Bool → Bool → Option SetFail
tested empty short_key short_value fits =
    cond empty (Some EmptyKey)
    (cond (not short_key) (Some KeyTooLong) (cond (not short_value) (Some ValueTooLong) (cond fits None (Some TooBig))))

all_pass : (a b v f : Bool) → tested a b v f ≡ None → (a ≡ false) × (b ≡ true) × (v ≡ true) × (f ≡ true)
all_pass true b v f is = cc
all_pass false false v f is = cc
all_pass false true false f is = cc
all_pass false true true false is = cc
all_pass false true true true is = (refl, refl, refl, refl)

key_length : (n : ℕ) → (n == 0) ≡ false → nat_le n max_key_bytes ≡ true → is_key_length n ≡ true
key_length n some short = grind (arith, nat_tests)

pub allowed : (writes : Writes) (key : List ℕ) (change : Change) → refused_write writes key change ≡ None
    → (is_key_length (length key) ≡ true) × (is_value_length log_format (length (value_bytes change)) ≡ true)
    × (fits_transaction (insert writes key change) ≡ true)
allowed writes key change is =
    let parts = all_pass (length key == 0) (nat_le (length key) max_key_bytes)
    (is_value_length log_format (length (value_bytes change))) (fits_transaction (insert writes key change)) is in
    (key_length (length key) parts.0 parts.1, parts.2, parts.3)

-- no test answers that memory ran out
never_memory : (a b v f : Bool) → tested a b v f ≡ Some NoMemory → ⊥
never_memory true b v f is = cc
never_memory false false v f is = cc
never_memory false true false f is = cc
never_memory false true true false is = cc
never_memory false true true true is = cc

pub refused_so : (old : Writes) (key : List ℕ) (change : Change) (new : Writes) (why : SetFail)
    → refused_write old key change ≡ Some why → new ≡ old → IsWritten old key change new (Err why)
refused_so old key change new EmptyKey is same = (is, same)
refused_so old key change new KeyTooLong is same = (is, same)
refused_so old key change new ValueTooLong is same = (is, same)
refused_so old key change new TooBig is same = (is, same)
refused_so old key change new NoMemory is same =
    absurd (never_memory (length key == 0) (nat_le (length key) max_key_bytes)
    (is_value_length log_format (length (value_bytes change))) (fits_transaction (insert old key change)) is)
