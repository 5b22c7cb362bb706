-- What a transaction has written, as a list of entries in the order of their keys.
use Rattle.std.specs.Prelude.{◌≡◌, ℕ, Bool, true, ◌+◌, ◌≤◌, IsTrue, List, length, sum_by, Option, Some, None, refl}
use Rattle.std.specs.Coded.{Coded, code_by, coded_ℕ, coded_list, coded_option, coded×}
use Rattle.std.specs.FinMap.{from_sorted, is_sorted, code}
use Rattle.std.specs.List.{AllByRecursion}
use Rattle.std.specs.Ordering.{is_gt}
use Rattle.vl_model.specs.Formats.{log_format}
use Rattle.vl_model.specs.Keys.{Writes, key_cmp, tagged, value_bytes, is_key_length, is_value_length}
use Rattle.vl_model.specs.Limits.{max_transaction_keys, max_transaction_bytes}
use Rattle.vl_model.specs.declared.change.Change.{Change}
use Rattle.vl_model.specs.declared.change.Change.TheVariants.{Set as Put, Delete}

-- a change is stored as the bytes and the tag of the value that it sets, if any
abbrev pub value_set : Change → Option (List ℕ × ℕ)
value_set (Put value) = Some (value.bytes, value.tag)
value_set Delete = None

abbrev pub change_to : Option (List ℕ × ℕ) → Change
change_to (Some value) = Put (tagged value.0 value.1)
change_to None = Delete

pub change_to-value_set : (change : Change) → change_to (value_set change) ≡ change
change_to-value_set (Put value) = refl
change_to-value_set Delete = refl

abbrev pub coded_change : Coded Change
coded_change = code_by (Option (List ℕ × ℕ)) (coded_option (coded× (coded_list coded_ℕ) coded_ℕ)) value_set change_to change_to-value_set

abbrev pub coded_writes : Coded Writes
coded_writes = code (coded_list coded_ℕ) coded_change

-- a key with what is written to it
abbrev pub Write : Type 0
Write = List ℕ × Change

abbrev pub writes_of : List Write → Writes
writes_of list = from_sorted list

-- the bytes of the keys and of the values
abbrev pub entry_bytes : List Write → ℕ
entry_bytes list = sum_by (λ write. length write.0 + length (value_bytes write.1)) list

-- whether a key is above that of an entry
abbrev pub is_above : List ℕ → Write → Bool
is_above key entry = is_gt (key_cmp key entry.0)

-- key and value are within their limits
pub record IsLawful (write : Write) : Type 0 where
  pub key : is_key_length (length write.0) ≡ true
  pub value : is_value_length log_format (length (value_bytes write.1)) ≡ true

-- the keys rise, each write is lawful, the bytes are counted, and one transaction may have so many of both
pub record AreWrites (list : List Write) (bytes : ℕ) : Type 0 where
  pub sorted : IsTrue (is_sorted key_cmp list)
  pub lawful : AllByRecursion IsLawful list
  pub counted : bytes ≡ entry_bytes list
  pub bounded : bytes ≤ max_transaction_bytes
  pub few : length list ≤ max_transaction_keys
