-- Which calls of a transaction are refused, by the limits on keys, values and transactions.
use Rattle.std.specs.Prelude.{◌≡◌, ℕ, ◌+◌, ◌==◌, Bool, ◌&&◌, not, nat_le, if◌then◌else◌, List, length, sum_by, Option}
use Rattle.std.specs.Prelude.{Some, None, Result, Ok, Err, ⊤}
use Rattle.std.specs.FinMap.{entries, len, insert}
use Rattle.vl_model.specs.Formats.{log_format}
use Rattle.vl_model.specs.Keys.{Writes, value_bytes, is_value_length}
use Rattle.vl_model.specs.Limits.{max_key_bytes, max_transaction_keys, max_transaction_bytes}
use Rattle.vl_model.specs.declared.change.Change.{Change}
use Rattle.vl_txn.specs.declared.key_fail.KeyFail.{KeyFail}
use Rattle.vl_txn.specs.declared.key_fail.KeyFail.TheVariants.{EmptyKey as NoKey, KeyTooLong as LongKey}
use Rattle.vl_txn.specs.declared.set_fail.SetFail.{SetFail}
use Rattle.vl_txn.specs.declared.set_fail.SetFail.TheVariants.{EmptyKey, KeyTooLong, ValueTooLong, TooBig, NoMemory}

-- an answer without a value, where this refuses it
abbrev pub unless : {E : Type 0} → Option E → Result ⊤ E
unless None = Ok tt
unless (Some why) = Err why

-- a bound of a scan may be empty
abbrev pub refused_bound : List ℕ → Option KeyFail
refused_bound bound = if nat_le (length bound) max_key_bytes then None else Some LongKey

abbrev pub refused_key : List ℕ → Option KeyFail
refused_key key = if length key == 0 then Some NoKey else refused_bound key

-- the bytes of the written keys and of their values; a deletion has those of its key
abbrev pub write_bytes : Writes → ℕ
write_bytes writes = sum_by (λ write. length write.0 + length (value_bytes write.1)) (entries writes)

-- whether one transaction may have these writes
abbrev pub fits_transaction : Writes → Bool
fits_transaction writes =
    nat_le (len writes) max_transaction_keys && nat_le (write_bytes writes) max_transaction_bytes

-- A write beside these ones, in the place of an earlier one of its key: the first limit that it would pass.
abbrev pub refused_write : Writes → List ℕ → Change → Option SetFail
refused_write writes key change =
    if length key == 0 then Some EmptyKey
    else (if not (nat_le (length key) max_key_bytes) then Some KeyTooLong
    else (if not (is_value_length log_format (length (value_bytes change))) then Some ValueTooLong
    else (if fits_transaction (insert writes key change) then None else Some TooBig)))

-- What a write ends in: one within the limits is made, where memory doesn't fail, and another is refused; a refused one
-- changes nothing.
abbrev pub IsWritten : Writes → List ℕ → Change → Writes → Result ⊤ SetFail → Type 0
IsWritten old key change new (Ok done) = (refused_write old key change ≡ None) × (new ≡ insert old key change)
IsWritten old key change new (Err NoMemory) = (refused_write old key change ≡ None) × (new ≡ old)
IsWritten old key change new (Err why) = (refused_write old key change ≡ Some why) × (new ≡ old)

-- the keys and the bytes that there are with a write of a value of this length
abbrev pub HasSizes : Writes → List ℕ → ℕ → ℕ × ℕ → Type 0
HasSizes writes key value_length sizes =
    (change : Change) → length (value_bytes change) ≡ value_length
    → (sizes.0 ≡ len (insert writes key change)) × (sizes.1 ≡ write_bytes (insert writes key change))

-- whether a write of a value of this length is refused, and the bytes that there are with it where it isn't
abbrev pub IsAllowed : Writes → List ℕ → ℕ → Result ℕ SetFail → Type 0
IsAllowed writes key value_length (Ok bytes) =
    (change : Change) → length (value_bytes change) ≡ value_length
    → (refused_write writes key change ≡ None) × (bytes ≡ write_bytes (insert writes key change))
IsAllowed writes key value_length (Err why) =
    (change : Change) → length (value_bytes change) ≡ value_length → refused_write writes key change ≡ Some why
