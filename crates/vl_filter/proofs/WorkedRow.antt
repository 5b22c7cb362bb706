-- The filter of one key, bit by bit.
use Rattle.std.proofs.Common.{◌≡◌, [], ◌∷◌, refl}
use Rattle.sha2.specs.Sha256.{compress, digest_bytes, first_words, hash_after, rounds, schedule, sha256}
use Rattle.vl_filter.specs.Filters.{filter_body}
use Rattle.vl_filter.specs.Places.{first_hash, second_hash}

pub worked : filter_body ((97 ∷ 98 ∷ 99 ∷ []) ∷ [])
    ≡ 0 ∷ 0 ∷ 0 ∷ 64 ∷ 0x00 ∷ 0x20 ∷ 0x08 ∷ 0x02 ∷ 0x00 ∷ 0x04 ∷ 0x41 ∷ 0x10 ∷ []
unfolding first_hash second_hash sha256 digest_bytes hash_after compress rounds schedule first_words
worked = refl
