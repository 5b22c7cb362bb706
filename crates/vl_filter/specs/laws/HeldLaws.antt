-- A filter holds the keys that it was built of, and a body spells one filter.
use Rattle.std.proofs.Common.{◌≡◌, ℕ, zero, suc, ◌*◌, Bool, true, false, ◌==◌, ◌&&◌, ◌||◌, List, [], ◌∷◌, length, map}
use Rattle.std.proofs.Common.{refl, ap, sym, ◌∙◌, arith}
use Rattle.std.proofs.lemmas.Bool.Decides.{nat_tests}
use Rattle.std.specs.List.{AllByRecursion}
use Rattle.vl_filter.specs.Bits.{is_set}
use Rattle.std.proofs.lemmas.List.{length-map}
use Rattle.vl_filter.specs.Filters.{are_set, byte_count, filter_bytes, is_marked, may_hold}
use Rattle.vl_filter.specs.Places.{has_place, has_place_below, hashes_of, place}
use Rattle.vl_filter.specs.declared.hashes.Hashes.{Hashes}
use Rattle.vl_filter.specs.laws.MarkedLaws.{marked-bits, marked-length}

same_test : (m : ℕ) → (m == m) ≡ true
same_test m = grind (arith, nat_tests)

or_last : (a b : Bool) → b ≡ true → (a || b) ≡ true
or_last true b is = refl
or_last false b is = is

or_first : (a b : Bool) → a ≡ true → (a || b) ≡ true
or_first true b is = refl
or_first false b is = absurd cc

and_both : (a b : Bool) → a ≡ true → b ≡ true → (a && b) ≡ true
and_both true b is also = also
and_both false b is also = absurd cc

-- where all places of a key are set its bits are
module _ (bytes : List ℕ) (hashes : Hashes) where
  all_of : (n : ℕ) → ((p : ℕ) → has_place_below (8 * length bytes) hashes n p ≡ true → is_set bytes p ≡ true)
      → are_set bytes hashes n ≡ true
  all_of zero set = refl
  all_of (suc n) set =
      let q = place (8 * length bytes) hashes n in
      and_both (is_set bytes q) (are_set bytes hashes n)
      (set q (or_first (q == q) (has_place_below (8 * length bytes) hashes n q) (same_test q)))
      (all_of n (λ p has. set p (or_last (p == q) (has_place_below (8 * length bytes) hashes n p) has)))

each : (bytes : List ℕ) (keys : List (List ℕ))
    → ((p : ℕ) → is_marked (8 * length bytes) (map hashes_of keys) p ≡ true → is_set bytes p ≡ true)
    → AllByRecursion (λ key. may_hold bytes key ≡ true) keys
each bytes [] set = tt
each bytes (key ∷ keys) set = (
  all_of bytes (hashes_of key) 7
      (λ p has. set p (or_first (has_place (8 * length bytes) (hashes_of key) p)
      (is_marked (8 * length bytes) (map hashes_of keys) p) has)),
  each bytes keys (λ p has. set p
      (or_last (has_place (8 * length bytes) (hashes_of key) p) (is_marked (8 * length bytes) (map hashes_of keys) p) has)),
)

pub holds_all : (keys : List (List ℕ)) → AllByRecursion (λ key. may_hold (filter_bytes keys) key ≡ true) keys
holds_all keys = each (filter_bytes keys) keys (λ p has.
    marked-bits (map hashes_of keys) p
    ∙ ap (λ (n : ℕ). is_marked (8 * n) (map hashes_of keys) p) (sym (marked-length (map hashes_of keys))) ∙ has)

pub bits_of : (keys : List (List ℕ)) (p : ℕ) → is_set (filter_bytes keys) p ≡ is_marked (8 * byte_count (length keys))
    (map hashes_of keys) p
bits_of keys p =
    marked-bits (map hashes_of keys) p
    ∙ ap (λ (n : ℕ). is_marked (8 * byte_count n) (map hashes_of keys) p) (length-map keys hashes_of)
