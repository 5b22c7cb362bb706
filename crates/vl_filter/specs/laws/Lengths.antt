-- How long a filter is.
use Rattle.std.specs.Prelude.{◌≡◌, ℕ, ◌+◌, ◌*◌, List, length, map}
use Rattle.std.proofs.Common.{ap, arith}
use Rattle.std.proofs.lemmas.List.{length-map}
use Rattle.std.proofs.lemmas.List.FromFn.{length-map-range_with_len}
use Rattle.vl_filter.specs.Filters.{byte_count, filter_body, is_marked, marked_body, marked_bytes, number_with}
use Rattle.vl_filter.specs.Places.{hashes_of}
use Rattle.vl_filter.specs.declared.hashes.Hashes.{Hashes}

pub length-marked_bytes : (list : List Hashes) → length (marked_bytes list) ≡ byte_count (length list)
length-marked_bytes list =
    length-map-range_with_len
    (λ at. number_with (λ bit. is_marked (8 * byte_count (length list)) list (8 * at + bit)) 8) 0 (byte_count (length list))

pub length-marked_body : (list : List Hashes) → length (marked_body list) ≡ 4 + byte_count (length list)
length-marked_body list = omega (arith, length-marked_bytes list)

pub length-filter_body : (keys : List (List ℕ)) → length (filter_body keys) ≡ 4 + byte_count (length keys)
length-filter_body keys = omega (arith, length-marked_body (map hashes_of keys), ap byte_count (length-map keys hashes_of))
