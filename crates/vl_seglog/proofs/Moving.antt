-- Moved records, as they are read from the left.
use Rattle.std.proofs.Common.{◌≡◌, ℕ, ◌<◌, ◌≤◌, ◌^◌, List, ◌++◌, length, refl, sym, ap, subst, ◌∙◌, arith}
use Rattle.byteorder.specs.Endian.{big_bytes}
use Rattle.vl_frame.specs.laws.NumberLaws.{one_number}
use Rattle.vl_model.specs.declared.change.Change.{Change}
use Rattle.vl_model.specs.declared.change.Change.TheVariants.{Set}
use Rattle.vl_model.specs.declared.log_frame.Moved.{Moved}
use Rattle.vl_seglog.specs.laws.RecordLaws.{one_record}
use Rattle.vl_seglog.specs.Reading.{moved_of, value_of}
use Rattle.vl_seglog.specs.declared.frame.ReadRecord.{ReadRecord}
use Rattle.vl_seglog.specs.Record.{IsRecord, IsSpelled, record_bytes}
use Rattle.vl_seglog.specs.Relocation.{IsRelocation, moves_bytes, moves_spelling, relocation_body}
use Rattle.vl_seglog.specs.Moves.{AreOnce, IsMoved, moved_bytes}
use Rattle.vl_seglog.specs.laws.RelocationLaws.{few_moves}
use Rattle.vl_seglog.specs.Series.{IsSeries}
use Rattle.vl_seglog.specs.laws.SeriesLaws.{one_series}

-- behind the version of a moved record stands the record
pub behind_version : (format : ℕ) (bytes : List ℕ) (version : ℕ) (rest : List ℕ) (moved : Moved) (after : List ℕ)
    → bytes ≡ big_bytes 8 version ++ rest → version < 2 ^ 64 → IsMoved format moved → bytes ≡ moved_bytes format moved ++ after
    → IsSpelled format rest moved.key (Set moved.value)
behind_version format bytes version rest moved after e fits lawful spelled =
    let both : big_bytes 8 version ++ rest ≡ big_bytes 8 moved.version
    ++ (record_bytes format moved.key (Set moved.value) ++ after) = sym e ∙ spelled in
    record { lawful = lawful.lawful; rest = after; parts = (one_number 8 version moved.version _ _ fits lawful.version both).1 }

-- fewer bytes than a version has
pub no_version : (format : ℕ) (bytes : List ℕ) (moved : Moved) (after : List ℕ) → length bytes < 8
    → bytes ≡ moved_bytes format moved ++ after → ⊥
no_version format bytes moved after short spelled = let len = ap length spelled in omega (arith, len)

-- what stands where a moved record does sets its key
pub must_set : (format : ℕ) (rest key : List ℕ) (change : Change) (after : List ℕ) (moved : Moved)
    → IsRecord format key change → rest ≡ record_bytes format key change ++ after
    → IsSpelled format rest moved.key (Set moved.value) → change ≡ Set (value_of change)
must_set format rest key change after moved lawful parts s =
    let same : change ≡ Set moved.value =
    (one_record format rest key moved.key change (Set moved.value) (record { lawful = lawful; rest = after; parts = parts }) s).1 in
    subst (λ (c : Change). c ≡ Set (value_of c)) (sym same) refl

-- a version, and a record behind it that sets its key
pub is_moved : (format : ℕ) (bytes : List ℕ) (version : ℕ) (rest : List ℕ) (r : ReadRecord) (after : List ℕ)
    → bytes ≡ big_bytes 8 version ++ rest → version < 2 ^ 64 → IsRecord format r.key r.change
    → rest ≡ record_bytes format r.key r.change ++ after
    → r.version ≡ version → r.change ≡ Set (value_of r.change) → IsMoved format (moved_of r)
    × (bytes ≡ moved_bytes format (moved_of r) ++ after)
is_moved format bytes version rest r after e fits lawful parts same sets = (
  record { version = subst (λ (n : ℕ). n < 2 ^ 64) (sym same) fits; lawful = subst (IsRecord format r.key) sets lawful },
  e ∙ ap (λ (n : ℕ). big_bytes 8 n ++ rest) (sym same)
      ∙ ap (λ (b : List ℕ). big_bytes 8 r.version ++ b) (parts ∙ ap (λ (c : Change). record_bytes format r.key c ++ after) sets),
)

-- ---- bodies

-- too few bytes for a count
pub no_count : (format : ℕ) (body : List ℕ) (records : List Moved) → length body < 4 → body ≡ relocation_body format records → ⊥
unfolding relocation_body
no_count format body records short spelled = let len = ap length spelled in omega (arith, len)

-- a relocation that the body spells has the count, and the series behind it
pub series_of : (format : ℕ) (body : List ℕ) (count : ℕ) (rest : List ℕ) (records : List Moved) → count < 2 ^ 32
    → body ≡ big_bytes 4 count ++ rest → length body < 2 ^ 32 → IsRelocation format records → body ≡ relocation_body format records
    → IsSeries (moves_spelling format) rest count records
unfolding relocation_body
series_of format body count rest records fits e short lawful spelled =
    let few = few_moves format records (subst (λ (bytes : List ℕ). length bytes < 2 ^ 32) spelled short) in
    let both : big_bytes 4 count ++ rest ≡ big_bytes 4 (length records) ++ moves_bytes format records = sym e ∙ spelled in
    let same = one_number 4 count (length records) _ _ fits few both in
    record { counted = sym same.0; lawful = lawful.lawful; spelled = same.1 }

-- where the records that were read aren't there once, none does
pub not_once : (format : ℕ) (rest : List ℕ) (count : ℕ) (read records : List Moved)
    → IsSeries (moves_spelling format) rest count read → (AreOnce read → ⊥)
    → IsSeries (moves_spelling format) rest count records → IsRelocation format records → ⊥
not_once format rest count read records one twice other lawful =
    let same = one_series (moves_spelling format) records read other.lawful one.lawful (other.counted ∙ sym one.counted)
    (sym other.spelled ∙ one.spelled) in
    twice (subst AreOnce same lawful.once)

-- a count and a series behind it
pub is_relocation : (format : ℕ) (body : List ℕ) (count : ℕ) (rest : List ℕ) (records : List Moved)
    → body ≡ big_bytes 4 count ++ rest → 1 ≤ count → IsSeries (moves_spelling format) rest count records → AreOnce records
    → IsRelocation format records × (body ≡ relocation_body format records)
unfolding relocation_body
is_relocation format body count rest records e some series once = (
  record { some = omega (arith, some, series.counted); lawful = series.lawful; once = once },
  e ∙ ap (λ (r : List ℕ). big_bytes 4 count ++ r) series.spelled
      ∙ ap (λ (n : ℕ). big_bytes 4 n ++ moves_bytes format records) (sym series.counted),
)
