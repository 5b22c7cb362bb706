-- A body spells one filter, and that of some keys is spelled by its body.
use Rattle.std.specs.Prelude.{◌≡◌, ◌<◌, ◌*◌, ◌^◌, ℕ, List, ◌++◌, length, map, drop}
use Rattle.std.proofs.Common.{ap, sym, ◌∙◌, arith}
use Rattle.std.proofs.lemmas.List.{drop_at, length-map}
use Rattle.byteorder.specs.Endian.{big_bytes}
use Rattle.byteorder.specs.Numbers.{length-bytes_high_first}
use Rattle.vl_filter.specs.Filters.{SpellsFilter, byte_count, filter_body, filter_bytes, marked_bytes}
use Rattle.vl_filter.specs.Places.{hashes_of}
use Rattle.vl_filter.specs.laws.Lengths.{length-marked_bytes}

one_front : (a b : ℕ) (x y : List ℕ) → a < 2 ^ 32 → b < 2 ^ 32 → big_bytes 4 a ++ x ≡ big_bytes 4 b ++ y → x ≡ y
one_front a b x y a-fits b-fits e =
    sym (drop_at (big_bytes 4 a) x 4 (length-bytes_high_first 4 a)) ∙ ap (drop 4) e
    ∙ drop_at (big_bytes 4 b) y 4 (length-bytes_high_first 4 b)

pub one_filter : (body bytes others : List ℕ) → SpellsFilter body bytes → SpellsFilter body others → bytes ≡ others
one_filter body bytes others a b =
    one_front (8 * length bytes) (8 * length others) bytes others a.fits b.fits (sym a.spelled ∙ b.spelled)

pub spells : (keys : List (List ℕ)) → 8 * byte_count (length keys) < 2 ^ 32 → SpellsFilter (filter_body keys) (filter_bytes keys)
spells keys fits =
    let list = map hashes_of keys in
    let long : length (marked_bytes list) ≡ byte_count (length list) = length-marked_bytes list in
    let same : length list ≡ length keys = length-map keys hashes_of in
    record {
      some = omega (arith, long);
      fits = omega (arith, long, fits, ap byte_count same);
      spelled = ap (λ (n : ℕ). big_bytes 4 (8 * n) ++ marked_bytes list) (sym long);
    }
