-- What a filter's body is, and of which keys it says that they may be there.
use Rattle.std.specs.Prelude.{◌≡◌, ◌≤◌, ◌<◌, ◌^◌, ◌*◌, ◌&&◌, ◌||◌, not, nat_le, nat_lt, ℕ, zero, suc, ◌+◌, ◌/◌, max}
use Rattle.std.specs.Prelude.{Bool, true, if◌then◌else◌, List, ◌++◌, length, map}
use Rattle.std.specs.List.{list_any, range_with_len}
use Rattle.byteorder.specs.Endian.{big_bytes}
use Rattle.vl_filter.specs.Bits.{is_set}
use Rattle.vl_filter.specs.Places.{has_place, hashes_of, place}
use Rattle.vl_filter.specs.declared.hashes.Hashes.{Hashes}

-- how many bits these are, and then the bytes with them: at least 64, and as many as the number can say
pub record SpellsFilter (body bytes : List ℕ) : Type 0 where
  pub some : 8 ≤ length bytes
  pub fits : 8 * length bytes < 2 ^ 32
  pub spelled : body ≡ big_bytes 4 (8 * length bytes) ++ bytes

-- ---- asking

-- whether the bits of a key with an index below this one are all 1
abbrev pub are_set : List ℕ → Hashes → ℕ → Bool
are_set bytes hashes zero = true
are_set bytes hashes (suc n) = is_set bytes (place (8 * length bytes) hashes n) && are_set bytes hashes n

-- whether all seven bits of the key are 1
abbrev pub may_hold : List ℕ → List ℕ → Bool
may_hold bytes key = are_set bytes (hashes_of key) 7

-- Whether these bits let a key pass: as many as a filter may have do where they may hold it, and others, such as none, always.
abbrev pub passes : List ℕ → List ℕ → Bool
passes bytes key = not (nat_le 8 (length bytes) && nat_lt (8 * length bytes) (2 ^ 32)) || may_hold bytes key

-- ---- the filter of some keys

-- how many bytes a filter of so many keys has: ten bits for each key, and at least 64
abbrev pub byte_count : ℕ → ℕ
byte_count keys = max ((keys * 10 + 7) / 8) 8

-- the number of so many bits that are these, the least first
abbrev pub number_with : (ℕ → Bool) → ℕ → ℕ
number_with bit zero = 0
number_with bit (suc n) = (if bit n then 1 else 0) * 2 ^ n + number_with bit n

-- whether a bit is at one of the seven places of one of the keys with these hashes
abbrev pub is_marked : ℕ → List Hashes → ℕ → Bool
is_marked bits list p = list_any (λ hashes. has_place bits hashes p) list

-- The bytes of the filter of keys with these hashes: a bit is 1 exactly where it is marked.
abbrev pub marked_bytes : List Hashes → List ℕ
marked_bytes list =
    let count = byte_count (length list) in
    map (λ at. number_with (λ bit. is_marked (8 * count) list (8 * at + bit)) 8) (range_with_len 0 count)

abbrev pub marked_body : List Hashes → List ℕ
marked_body list = big_bytes 4 (8 * byte_count (length list)) ++ marked_bytes list

-- the filter of these keys, which all differ: its bytes, and the body that spells them
abbrev pub filter_bytes : List (List ℕ) → List ℕ
filter_bytes keys = marked_bytes (map hashes_of keys)

abbrev pub filter_body : List (List ℕ) → List ℕ
filter_body keys = marked_body (map hashes_of keys)
