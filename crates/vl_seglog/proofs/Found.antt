-- The value that a pointer leads to, found by its record's head and key.
use Rattle.std.specs.Prelude.{◌≡◌, ◌+◌, ◌≤◌, ℕ, true, List, ◌++◌, length, take, drop, Option, Some, None}
use Rattle.std.proofs.Common.{refl, ap, sym, subst, ◌∙◌, append_assoc, length-append, arith}
use Rattle.std.proofs.Math.Seq.{drop-drop}
use Rattle.std.proofs.lemmas.List.{take_at, take-append-drop, length-drop, length-take-le}
use Rattle.vl_disk.specs.DiskState.{bytes_at}
use Rattle.vl_model.specs.Formats.{record_head}
use Rattle.vl_model.specs.Keys.{Stored, is_key_length, is_value_length, tagged, value_length}
use Rattle.vl_model.specs.declared.change.Change.TheVariants.{Set}
use Rattle.vl_model.specs.declared.pointer.Pointer.{Pointer}
use Rattle.vl_seglog.specs.Record.{IsTag, head_bytes, record_bytes}
use Rattle.vl_seglog.specs.Stored.{LeadsTo, stored_at}
use Rattle.vl_seglog.specs.laws.RecordLaws.{least_record, length-head_bytes, length-record_bytes}
use Rattle.vl_seglog.specs.laws.StoredLaws.{leads_stored, stored_leads}

none_or : (found : Option Stored) → ((value : Stored) → found ≡ Some value → ⊥) → found ≡ None
none_or None other = refl
none_or (Some value) other = absurd (other value refl)

-- where a pointer leads to no value's record, it gives nothing
pub gives_none : (format : ℕ) (bytes : List ℕ) (p : Pointer) (key : List ℕ)
    → ((value : Stored) → LeadsTo format p.segment bytes p key (Set value) → ⊥) → stored_at format bytes p key ≡ None
gives_none format bytes p key other = none_or (stored_at format bytes p key)
    (λ value is. other value (stored_leads format bytes p key value is))

-- a record to which a pointer leads is inside the bytes
pub leads_inside : (format : ℕ) (bytes : List ℕ) (p : Pointer) (key : List ℕ) (value : Stored)
    → LeadsTo format p.segment bytes p key (Set value) → p.place + p.length ≤ length bytes
leads_inside format bytes p key value leads =
    let whole = record_bytes format key (Set value) in
    omega (
      arith,
      leads.length,
      ap length leads.stands.parts,
      length-append whole leads.stands.rest,
      length-record_bytes
          format key (Set value),
      length-drop p.place bytes,
      least_record format key (Set value),
    )

-- and begins with its head and key
pub leads_front : (format : ℕ) (bytes : List ℕ) (p : Pointer) (key : List ℕ) (value : Stored) (n : ℕ)
    → LeadsTo format p.segment bytes p key (Set value) → p.length ≡ record_head format + length key + n
    → bytes_at p.place (record_head format + length key) bytes ≡ head_bytes format 0 value.tag (length key) n ++ key
unfolding record_bytes
leads_front format bytes p key value n leads sized =
    let same : value_length value ≡ n = omega (arith, leads.length, sized) in
    let front = head_bytes format 0 value.tag (length key) (value_length value) ++ key in
    let parts : drop p.place bytes ≡ front ++ (value.bytes ++ leads.stands.rest) = leads.stands.parts
    ∙ append_assoc front value.bytes leads.stands.rest in
    let long : length front ≡ record_head format + length key =
    omega (
      arith,
      length-append (head_bytes format 0 value.tag (length key) (value_length value)) key,
      length-head_bytes
          format 0 value.tag (length key) (value_length value),
    ) in
    ap (take (record_head format + length key)) parts
    ∙ take_at front (value.bytes ++ leads.stands.rest) (record_head format + length key) long
    ∙ ap (λ (m : ℕ). head_bytes format 0 value.tag (length key) m ++ key) same

-- where a head and a key stand, and a value of lawful length behind them, the pointer gives this
pub gives_some : (format : ℕ) (bytes : List ℕ) (p : Pointer) (key : List ℕ) (tag n : ℕ)
    → is_key_length (length key) ≡ true → is_value_length format n ≡ true → IsTag format tag
    → p.length ≡ record_head format + length key + n → p.place + p.length ≤ length bytes
    → bytes_at p.place (record_head format + length key) bytes ≡ head_bytes format 0 tag (length key) n ++ key
    → stored_at format bytes p key ≡ Some (tagged (bytes_at (p.place + (record_head format + length key)) n bytes) tag)
unfolding record_bytes
gives_some format bytes p key tag n key_lawful value_lawful kept sized within front =
    let m = record_head format + length key in
    let behind = drop m (drop p.place bytes) in
    let there : drop (p.place + m) bytes ≡ behind = sym (drop-drop m p.place bytes) in
    let read = bytes_at (p.place + m) n bytes in
    let value = tagged read tag in
    let long : length read ≡ n = length-take-le n (drop (p.place + m) bytes)
    (omega (arith, sized, within, length-drop (p.place + m) bytes)) in
    let rest = drop n behind in
    let cut : behind ≡ read ++ rest = sym (take-append-drop n behind) ∙ ap (λ (l : List ℕ). take n l ++ rest) (sym there) in
    let parts : drop p.place bytes ≡ record_bytes format key (Set value) ++ rest =
    sym (take-append-drop m (drop p.place bytes)) ∙ ap (λ (l : List ℕ). l ++ behind) front
    ∙ ap (λ (l : List ℕ). (head_bytes format 0 tag (length key) n ++ key) ++ l) cut
    ∙ sym (append_assoc (head_bytes format 0 tag (length key) n ++ key) read rest)
    ∙ ap (λ (k : ℕ). (head_bytes format 0 tag (length key) k ++ key ++ read) ++ rest) (sym long) in
    leads_stored format p.segment bytes p key value (record {
      segment = refl;
      length = sized ∙ ap (λ (k : ℕ). m + k) (sym long);
      stands = record {
        lawful = record {
          key_length = key_lawful;
          value_length = subst (λ (k : ℕ). is_value_length format k ≡ true)
              (sym long) value_lawful;
          tag = kept;
        };
        rest = rest;
        parts = parts;
      };
    })
