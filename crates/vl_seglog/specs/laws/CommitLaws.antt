-- What the definition of a commit says: how long its frame is, and that it is spelled in one way.
use Rattle.std.specs.Prelude.{◌≡◌, ℕ, ◌+◌, ◌*◌, ◌<◌, ◌≤◌, ◌^◌, List, [], ◌∷◌, ◌++◌, length, refl}
use Rattle.std.specs.List.{sum_by}
use Rattle.std.proofs.Common.{sym, ap, subst, ◌∙◌, length-append, arith}
use Rattle.std.proofs.lemmas.List.Sums.{sum_by-cons}
use Rattle.byteorder.specs.Endian.{big_bytes}
use Rattle.vl_frame.specs.laws.NumberLaws.{one_number}
use Rattle.vl_model.specs.Formats.{log_format}
use Rattle.vl_model.specs.Frames.{frame_length, record_length}
use Rattle.vl_model.specs.Keys.{value_bytes}
use Rattle.vl_model.specs.declared.change.Change.{Change}
use Rattle.vl_model.specs.declared.log_frame.LogFrame.TheVariants.{Committed}
use Rattle.vl_seglog.specs.laws.RecordLaws.{length-record_bytes, least_record}
use Rattle.vl_seglog.specs.Record.{record_bytes}
use Rattle.vl_seglog.specs.Commit.{Commit, IsCommit, commit_body, commit_length, records_bytes, records_spelling}
use Rattle.vl_seglog.specs.laws.SeriesLaws.{one_series}

-- ---- lengths

-- Records one behind the other have the sum of their lengths.
pub records_length : (format : ℕ) (writes : List (List ℕ × Change))
    → length (records_bytes format writes) ≡ sum_by (λ write. record_length format write.0 write.1) writes
records_length format [] = refl
records_length format (w ∷ writes) =
    length-append (record_bytes format w.0 w.1) (records_bytes format writes)
    ∙ ap (λ (n : ℕ). n + length (records_bytes format writes)) (length-record_bytes format w.0 w.1)
    ∙ ap (λ (n : ℕ). record_length format w.0 w.1 + n) (records_length format writes)
    ∙ sym (sum_by-cons (λ write. record_length format write.0 write.1) w writes)

pub body_length : (format : ℕ) (c : Commit) → length (commit_body format c) ≡ 12 + length (records_bytes format c.writes)
unfolding commit_body
body_length format c = omega arith

-- 8 bytes for each record, and those of the keys and values
parts_length : (writes : List (List ℕ × Change)) → length (records_bytes log_format writes) ≡ 8 * length writes + sum_by
    (λ write. length write.0 + length (value_bytes write.1)) writes
parts_length [] = refl
parts_length (w ∷ writes) =
    omega (
      arith,
      length-append (record_bytes log_format w.0 w.1) (records_bytes log_format writes),
      length-record_bytes
          log_format w.0 w.1,
      parts_length writes,
      sum_by-cons
          (λ (write : List ℕ × Change). length write.0 + length (value_bytes write.1)) w writes,
    )

-- That is its length as the layout has it.
pub frame_length-committed : (number : ℕ) (writes : List (List ℕ × Change))
    → frame_length log_format (Committed number writes) ≡ commit_length (length writes)
    (sum_by (λ write. length write.0 + length (value_bytes write.1)) writes)
frame_length-committed number writes = omega (arith, records_length log_format writes, parts_length writes)

many_bytes : (format : ℕ) (writes : List (List ℕ × Change)) → length writes ≤ length (records_bytes format writes)
many_bytes format [] = omega arith
many_bytes format (w ∷ writes) =
    omega (
      arith,
      length-append (record_bytes format w.0 w.1) (records_bytes format writes),
      length-record_bytes format
          w.0 w.1,
      least_record format w.0 w.1,
      many_bytes format writes,
    )

-- Where a body is short enough for a frame, its records can be counted.
pub few_records : (format : ℕ) (c : Commit) → length (commit_body format c) < 2 ^ 32 → length c.writes < 2 ^ 32
few_records format c short = omega (arith, short, body_length format c, many_bytes format c.writes)

-- ---- one spelling

pub one_body : (format : ℕ) (c d : Commit) → IsCommit format c → IsCommit format d
    → length (commit_body format c) < 2 ^ 32 → commit_body format c ≡ commit_body format d → c ≡ d
unfolding commit_body
one_body format c d p q short e =
    let bytes : big_bytes 8 c.number ++ (big_bytes 4 (length c.writes) ++ records_bytes format c.writes) ≡ big_bytes 8
    d.number ++ (big_bytes 4 (length d.writes) ++ records_bytes format d.writes) = e in
    let a = one_number 8 c.number d.number _ _ (omega (arith, p.last)) (omega (arith, q.last)) bytes in
    let other_short : length (commit_body format d) < 2 ^ 32 = subst (λ (body : List ℕ). length body < 2 ^ 32) e short in
    let b = one_number 4 (length c.writes) (length d.writes) _ _ (few_records format c short) (few_records format d other_short) a.1 in
    let writes = one_series (records_spelling format) c.writes d.writes p.lawful q.lawful b.0 b.1 in
    λ i. record { number = a.0 i; writes = writes i }
