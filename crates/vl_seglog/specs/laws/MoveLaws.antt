-- What the definition of a moved record says: how long it is, and that one at most stands at the front of some bytes.
use Rattle.std.specs.Prelude.{◌≡◌, ℕ, List, ◌++◌, length}
use Rattle.std.proofs.Common.{ap, arith}
use Rattle.byteorder.specs.Endian.{big_bytes}
use Rattle.vl_frame.specs.laws.NumberLaws.{one_number}
use Rattle.vl_model.specs.Frames.{moved_length}
use Rattle.vl_model.specs.Keys.{value_bytes, value_tag}
use Rattle.vl_model.specs.declared.change.Change.{Change}
use Rattle.vl_model.specs.declared.change.Change.TheVariants.{Set}
use Rattle.vl_model.specs.declared.log_frame.Moved.{Moved}
use Rattle.vl_seglog.specs.Moves.{IsMoved, moved_bytes}
use Rattle.vl_seglog.specs.Record.{record_bytes}
use Rattle.vl_seglog.specs.laws.RecordLaws.{length-record_bytes, one_write}

-- A record behind its version has 8 bytes more than the record.
pub length-moved_bytes : (format : ℕ) (moved : Moved) → length (moved_bytes format moved) ≡ moved_length format moved
length-moved_bytes format moved = omega (arith, length-record_bytes format moved.key (Set moved.value))

-- At the front of the same bytes stands one of them at most, and the same stands behind it.
pub one_moved : (format : ℕ) (a b : Moved) (rest other : List ℕ) → IsMoved format a → IsMoved format b
    → moved_bytes format a ++ rest ≡ moved_bytes format b ++ other → (a ≡ b) × (rest ≡ other)
one_moved format a b rest other p q e =
    let bytes = record_bytes format a.key (Set a.value) ++ rest in
    let behind : big_bytes 8 a.version ++ bytes ≡ big_bytes 8 b.version ++ (record_bytes format b.key (Set b.value) ++ other) =
    e in
    let versions = one_number 8 a.version b.version _ _ p.version q.version behind in
    let same =
    one_write format (a.key, Set a.value) (b.key, Set b.value) rest other p.lawful q.lawful versions.1 in
    let key : a.key ≡ b.key = ap (λ (w : List ℕ × Change). w.0) same.0 in
    let bytes_are : a.value.bytes ≡ b.value.bytes = ap (λ (w : List ℕ × Change). value_bytes w.1) same.0 in
    let tag : a.value.tag ≡ b.value.tag = ap (λ (w : List ℕ × Change). value_tag w.1) same.0 in
    ((λ i. record { key = key i; version = versions.0 i; value = record { bytes = bytes_are i; tag = tag i } }), same.1)
