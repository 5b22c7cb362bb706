-- Where the seven bits of a key stand among so many bits.
use Rattle.std.specs.Prelude.{ℕ, zero, suc, ◌+◌, ◌*◌, ◌%◌, ◌^◌, ◌==◌, ◌||◌, Bool, false, List, take, drop}
use Rattle.byteorder.specs.Endian.{big_number}
use Rattle.sha2.specs.Sha256.{sha256}
use Rattle.vl_filter.specs.declared.hashes.Hashes.{Hashes}

-- the first and the second eight bytes of a key's digest, as numbers
unfoldable pub first_hash : List ℕ → ℕ
first_hash key = big_number 8 (sha256 key)

unfoldable pub second_hash : List ℕ → ℕ
second_hash key = big_number 8 (take 8 (drop 8 (sha256 key)))

abbrev pub hashes_of : List ℕ → Hashes
hashes_of key = record { first = first_hash key; second = second_hash key }

-- the place of the bit with this index, of a key with these hashes
abbrev pub place : ℕ → Hashes → ℕ → ℕ
place bits hashes index = ((hashes.first + index * hashes.second) % 2 ^ 64) % bits

-- whether this is the place of a bit of the key, with an index below this one, or with any
abbrev pub has_place_below : ℕ → Hashes → ℕ → ℕ → Bool
has_place_below bits hashes zero p = false
has_place_below bits hashes (suc n) p = p == place bits hashes n || has_place_below bits hashes n p

abbrev pub has_place : ℕ → Hashes → ℕ → Bool
has_place bits hashes p = has_place_below bits hashes 7 p
