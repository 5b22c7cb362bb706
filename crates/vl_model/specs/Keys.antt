-- Keys and values as lists of bytes, and which of them are lawful.
use Rattle.std.specs.Prelude.{ℕ, List, [], Bool, ◌&&◌, nat_le, length}
use Rattle.std.specs.FinMap.{FinMap}
use Rattle.std.specs.Cmp.Lexicographic.{slice_cmp}
use Rattle.std.specs.Ordering.{nat_cmp}
use Rattle.std.specs.declared.cmp.Ordering.{Ordering}
use Rattle.vl_model.specs.Limits.{max_key_bytes, max_value_bytes}
use Rattle.vl_model.specs.declared.value.Value.{Value}
use Rattle.vl_model.specs.declared.change.Change.{Change}
use Rattle.vl_model.specs.declared.change.Change.TheVariants.{Set, Delete}

-- the value that stands at a key: its bytes, and its tag
abbrev pub Stored : Type 0
Stored = Value

abbrev pub tagged : List ℕ → ℕ → Stored
tagged bytes tag = record { bytes = bytes; tag = tag }

-- a value to which no tag was given
abbrev pub untagged : List ℕ → Stored
untagged bytes = tagged bytes 0

-- how many bytes a value has, its tag not counted
abbrev pub value_length : Stored → ℕ
value_length value = length value.bytes

-- a key with its value
abbrev pub Row : Type 0
Row = List ℕ × Stored

-- keys in the order of their bytes from the left; a key that begins another is below it
abbrev pub key_cmp : List ℕ → List ℕ → Ordering
key_cmp = slice_cmp nat_cmp

-- the values that stand at some keys
abbrev pub Pairs : Type 0
Pairs = FinMap key_cmp Stored

-- what one transaction or commit does to the keys that it names
abbrev pub Writes : Type 0
Writes = FinMap key_cmp Change

-- the bytes of the value that a change sets; a deletion has none
abbrev pub value_bytes : Change → List ℕ
value_bytes (Set value) = value.bytes
value_bytes Delete = []

-- and its tag; a deletion has 0
abbrev pub value_tag : Change → ℕ
value_tag (Set value) = value.tag
value_tag Delete = 0

-- whether a key may have so many bytes
abbrev pub is_key_length : ℕ → Bool
is_key_length n = nat_le 1 n && nat_le n max_key_bytes

-- whether a value may have so many bytes in a log of a format
abbrev pub is_value_length : ℕ → ℕ → Bool
is_value_length format n = nat_le n (max_value_bytes format)
