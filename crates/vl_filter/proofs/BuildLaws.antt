-- A body that was built spells the filter of its keys.
use Rattle.std.proofs.Common.{◌≡◌, ℕ, zero, suc, ◌*◌, ◌/◌, ◌%◌, ◌^◌, ◌<◌, Bool, true, false, ◌==◌, ◌||◌, List, []}
use Rattle.std.proofs.Common.{◌++◌, length, get_or, refl, ap, sym, ◌∙◌, arith}
use Rattle.std.proofs.Math.ListN.{replicate}
use Rattle.std.proofs.lemmas.List.{length-replicate}
use Rattle.std.proofs.lemmas.Nat.Bits.{bit_at-zero}
use Rattle.std.specs.Int.{bit_at}
use Rattle.byteorder.specs.Endian.{big_bytes}
use Rattle.vl_filter.specs.Bits.{is_set}
use Rattle.vl_filter.specs.Filters.{byte_count, is_marked, marked_body, marked_bytes}
use Rattle.vl_filter.specs.declared.hashes.Hashes.{Hashes}
use Rattle.vl_filter.specs.laws.MarkedLaws.{only-marked}

none_or : (a b : Bool) → b ≡ false → (a || b) ≡ a
none_or true b is = refl
none_or false b is = is

zero_at : (n k : ℕ) → get_or {A = ℕ} (replicate {A = ℕ} n 0) k 0 ≡ 0
zero_at zero k = refl
zero_at (suc n) zero = refl
zero_at (suc n) (suc k) = zero_at n k

pub zeros_unset : (n p : ℕ) → is_set (replicate {A = ℕ} n 0) p ≡ false
unfolding is_set
zeros_unset n p = ap (λ b. bit_at b (p % 8) == 1) (zero_at n (p / 8)) ∙ ap (λ b. b == 1) (bit_at-zero (p % 8))

pub built : (keys : List Hashes) (n : ℕ) (zeros ws now four middle body : List ℕ) → ((k : ℕ) → get_or ws k 0 < 2 ^ 8)
    → n ≡ byte_count (length keys)
    → zeros ≡ replicate {A = ℕ} n 0 → length ws ≡ length zeros → now ≡ ws
    → ((p : ℕ) → is_set ws p ≡ (is_marked (8 * length zeros) keys p || is_set zeros p))
    → four ≡ big_bytes 4 (n * 8) → middle ≡ [] ++ four → body ≡ middle ++ now → body ≡ marked_body keys
built keys n zeros ws now four middle body fits count zeros_are same now_is marked four_is middle_is body_is =
    let size : length ws ≡ n = same ∙ ap length zeros_are ∙ length-replicate {A = ℕ} n 0 in
    let bits : n * 8 ≡ 8 * byte_count (length keys) = omega (arith, count) in
    let are : ws ≡ marked_bytes keys =
    only-marked keys ws fits (size ∙ count) (λ p.
    marked p ∙ none_or (is_marked (8 * length zeros) keys p) (is_set zeros p) (ap (λ l. is_set l p) zeros_are ∙ zeros_unset n p)
    ∙ ap (λ (k : ℕ). is_marked (8 * k) keys p) (sym same ∙ size ∙ count)) in
    body_is ∙ ap (λ l. middle ++ l) (now_is ∙ are) ∙ ap (λ l. l ++ marked_bytes keys) (middle_is ∙ four_is ∙ ap (big_bytes 4) bits)
