-- How much room a batch has, by its records.
use Rattle.std.proofs.Common.{◌≡◌, ℕ, zero, suc, ◌+◌, ◌<◌, ◌≤◌, List, [], ◌∷◌, length, take, get_or, refl, ap, sym, ◌∙◌, arith}
use Rattle.std.proofs.lemmas.Bool.Decides.{nat_tests}
use Rattle.std.proofs.lemmas.List.Sums.{sum_by-cons}
use Rattle.std.specs.Prelude.{Bool, true, false, ◌==◌, ◌&&◌, ◌||◌, nat_le, nat_lt}
use Rattle.vl_collect.specs.Taking.{candidate_of, candidates}
use Rattle.vl_collect.specs.declared.batch.Found.{Found}
use Rattle.vl_engine_model.specs.Relocation.{Candidate, has_room, value_lengths}
use Rattle.vl_model.specs.Keys.{value_length}
use Rattle.vl_model.specs.Limits.{max_batch_records, max_batch_bytes}

lengths-cons : (x : Found) (xs : List Found)
    → value_lengths (candidates (x ∷ xs)) ≡ value_length x.moved.value + value_lengths (candidates xs)
lengths-cons x xs = sum_by-cons (λ (d : Candidate). value_length d.moved.value) (candidate_of x) (candidates xs)

prefix_and_one : (xs : List Found) (i : ℕ) (x : Found) → i < length xs → x ≡ get_or xs i x
    → value_lengths (candidates (take i xs)) + value_length x.moved.value ≤ value_lengths (candidates xs)
prefix_and_one [] i x within is = absurd (omega (arith, within))
prefix_and_one (y ∷ ys) zero x within is =
    let same = ap (λ (f : Found). value_length f.moved.value) is in
    let sum = lengths-cons y ys in
    omega (arith, same, sum)
prefix_and_one (y ∷ ys) (suc i) x within is =
    let rest = prefix_and_one ys i x (omega (arith, within)) is in
    let sum = lengths-cons y ys in
    let front = lengths-cons y (take i ys) in
    omega (arith, rest, sum, front)

none_of : (a : Bool) → (a && false) ≡ false
none_of true = refl
none_of false = refl

-- a value fits in with those of the first records no more
pub over_here : (xs : List Found) (i : ℕ) (x : Found) (left more : ℕ) → i < length xs → x ≡ get_or xs i x
    → left + more + value_lengths (candidates (take i xs)) ≡ max_batch_bytes → left < value_length x.moved.value
    → false ≡ has_room (length xs) (value_lengths (candidates xs)) more
over_here xs i x left more within is sum less =
    let both = prefix_and_one xs i x within is in
    let bytes = value_lengths (candidates xs) in
    let some : (length xs == 0) ≡ false = grind (arith, nat_tests, within) in
    let over : nat_le (bytes + more) max_batch_bytes ≡ false = grind (arith, nat_tests, both, sum, less) in
    sym (ap (λ (t : Bool). t || (nat_lt (length xs) max_batch_records && nat_le (bytes + more) max_batch_bytes)) some
    ∙ ap (λ (t : Bool). nat_lt (length xs) max_batch_records && t) over ∙ none_of (nat_lt (length xs) max_batch_records))
