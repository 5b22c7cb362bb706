-- What the definition of a relocation says: how long it is, and that it is spelled in one way.
use Rattle.std.specs.Prelude.{◌≡◌, ℕ, ◌+◌, ◌≤◌, ◌<◌, ◌^◌, List, [], ◌∷◌, length, refl}
use Rattle.std.specs.List.{sum_by}
use Rattle.std.proofs.Common.{subst, length-append, arith}
use Rattle.std.proofs.lemmas.List.Sums.{sum_by-cons}
use Rattle.vl_frame.specs.laws.NumberLaws.{one_number}
use Rattle.vl_model.specs.Frames.{moved_length}
use Rattle.vl_model.specs.declared.log_frame.Moved.{Moved}
use Rattle.vl_seglog.specs.laws.MoveLaws.{length-moved_bytes}
use Rattle.vl_seglog.specs.Relocation.{IsRelocation, moves_bytes, moves_spelling, relocation_body}
use Rattle.vl_seglog.specs.Moves.{moved_bytes}
use Rattle.vl_seglog.specs.laws.SeriesLaws.{one_series}

-- ---- lengths

-- Moved records one behind the other have the sum of their lengths.
pub moves_length : (format : ℕ) (records : List Moved) → length (moves_bytes format records) ≡ sum_by (moved_length format) records
moves_length format [] = refl
moves_length format (m ∷ records) =
    omega (
      arith,
      length-append (moved_bytes format m) (moves_bytes format records),
      length-moved_bytes format m,
      moves_length format records,
      sum_by-cons (moved_length format) m records,
    )

pub length-relocation_body : (format : ℕ) (records : List Moved)
    → length (relocation_body format records) ≡ 4 + sum_by (moved_length format) records
unfolding relocation_body
length-relocation_body format records = omega (arith, moves_length format records)

many_bytes : (format : ℕ) (records : List Moved) → length records ≤ length (moves_bytes format records)
many_bytes format [] = omega arith
many_bytes format (m ∷ records) = omega
    (arith, length-append (moved_bytes format m) (moves_bytes format records), length-moved_bytes format m, many_bytes format records)

-- Where a body is short enough for a frame, its records can be counted.
pub few_moves : (format : ℕ) (records : List Moved) → length (relocation_body format records) < 2 ^ 32 → length records < 2 ^ 32
unfolding relocation_body
few_moves format records short = omega (arith, short, many_bytes format records)

-- ---- one spelling

pub one_relocation : (format : ℕ) (records others : List Moved) → IsRelocation format records
    → IsRelocation format others → length (relocation_body format records) < 2 ^ 32
    → relocation_body format records ≡ relocation_body format others → records ≡ others
unfolding relocation_body
one_relocation format records others p q short e =
    let other_short : length (relocation_body format others) < 2 ^ 32 = subst (λ (body : List ℕ). length body < 2 ^ 32) e short in
    let counts = one_number 4 (length records) (length others) _ _ (few_moves format records short)
    (few_moves format others other_short) e in
    one_series (moves_spelling format) records others p.lawful q.lawful counts.0 counts.1
