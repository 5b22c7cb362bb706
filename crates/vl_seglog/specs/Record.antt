-- How a record is spelled: a flag (0 a value, 1 a deletion) and the value's tag (0 for a deletion) in one byte each,
-- the key's length in 2, the value's length in 4 (0 for a deletion), each with its highest byte first; then the key
-- and the value. Format 1 has no tag, and a value there has tag 0.
use Rattle.std.specs.Prelude.{◌≡◌, ◌<◌, ◌^◌, ℕ, nat_le, if◌then◌else◌, List, [], ◌∷◌, ◌++◌, length, true, Option, Some, None}
use Rattle.byteorder.specs.Endian.{big_bytes}
use Rattle.vl_model.specs.Formats.{tag_kept}
use Rattle.vl_model.specs.Keys.{is_key_length, is_value_length, tagged, value_bytes, value_tag}
use Rattle.vl_model.specs.declared.change.Change.{Change}
use Rattle.vl_model.specs.declared.change.Change.TheVariants.{Set, Delete}

-- what a record does to its key: it sets the bytes that it holds, with their tag, or deletes
abbrev pub change_of : Option (List ℕ) → ℕ → Change
change_of None tag = Delete
change_of (Some bytes) tag = Set (tagged bytes tag)

abbrev pub flag_of : Change → ℕ
flag_of (Set value) = 0
flag_of Delete = 1

-- a log of this format keeps the tag
abbrev pub IsTag : ℕ → ℕ → Type 0
IsTag format tag = tag_kept format tag ≡ tag

-- the key and the value have lengths that are lawful in a log of this format, which keeps the value's tag
pub record IsRecord (format : ℕ) (key : List ℕ) (change : Change) : Type 0 where
  pub key_length : is_key_length (length key) ≡ true
  pub value_length : is_value_length format (length (value_bytes change)) ≡ true
  pub tag : IsTag format (value_tag change)

-- their lengths have room in the bytes that they are spelled in
pub record HasWidths (key : List ℕ) (change : Change) : Type 0 where
  pub key_fits : length key < 2 ^ 16
  pub value_fits : length (value_bytes change) < 2 ^ 32

-- the tag, where the format has one
abbrev pub tag_bytes : ℕ → ℕ → List ℕ
tag_bytes format tag = if nat_le format 1 then [] else tag ∷ []

-- what stands before a record's key
abbrev pub head_bytes : ℕ → ℕ → ℕ → ℕ → ℕ → List ℕ
head_bytes format flag tag key_length value_length =
    flag ∷ tag_bytes format tag ++ (big_bytes 2 key_length ++ big_bytes 4 value_length)

-- the one spelling in a log of a format
unfoldable pub record_bytes : ℕ → List ℕ → Change → List ℕ
record_bytes format key change =
    head_bytes format (flag_of change) (value_tag change) (length key) (length (value_bytes change))
    ++ key ++ value_bytes change

-- a lawful record stands at the front of the bytes; any bytes may follow it
pub record IsSpelled (format : ℕ) (bytes key : List ℕ) (change : Change) : Type 0 where
  pub lawful : IsRecord format key change
  pub rest : List ℕ
  pub parts : bytes ≡ record_bytes format key change ++ rest

-- The bytes begin with a flag, a tag, a key and a value, behind their lengths, whatever these are.
pub record IsApart (format : ℕ) (bytes : List ℕ) (flag tag : ℕ) (key value : List ℕ) : Type 0 where
  pub tag_kept : IsTag format tag
  pub key_fits : length key < 2 ^ 16
  pub value_fits : length value < 2 ^ 32
  pub rest : List ℕ
  pub spelled : bytes ≡ (head_bytes format flag tag (length key) (length value) ++ key ++ value) ++ rest
