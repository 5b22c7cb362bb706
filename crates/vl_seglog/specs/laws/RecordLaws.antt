-- What the definitions of records and pointers say: how long they are, and that one of each at most stands at the front of some bytes.
use Rattle.std.proofs.Common.{◌≡◌, ◌<◌, ◌≤◌, ◌^◌, ℕ, ◌+◌, cond, Bool, List, [], ◌∷◌, ◌++◌, true, false, length, drop}
use Rattle.std.proofs.Common.{get_or, refl, ap, sym, ◌∙◌, arith, append_assoc, length-append}
use Rattle.std.proofs.lemmas.Bool.Decides.{nat_tests}
use Rattle.std.specs.Prelude.{nat_le}
use Rattle.byteorder.specs.Endian.{big_bytes}
use Rattle.vl_frame.specs.laws.NumberLaws.{one_number, same_front}
use Rattle.vl_model.specs.Formats.{record_head}
use Rattle.vl_model.specs.Frames.{record_length}
use Rattle.vl_model.specs.Keys.{is_key_length, is_value_length, tagged, untagged, value_bytes, value_tag}
use Rattle.vl_model.specs.declared.change.Change.{Change}
use Rattle.vl_model.specs.declared.change.Change.TheVariants.{Set, Delete}
use Rattle.vl_model.specs.declared.pointer.Pointer.{Pointer}
use Rattle.vl_seglog.specs.Pointer.{IsPointerSpelled, pointer_bytes}
use Rattle.vl_seglog.specs.Record.{HasWidths, IsApart, IsRecord, IsSpelled, IsTag, flag_of, head_bytes, record_bytes, tag_bytes}

-- ---- records

-- The record of key 61 with value 01 and tag 7, that of its deletion, and that of the value in format 1, where its tag is 0.
pub worked_value : record_bytes 2 (97 ∷ []) (Set (tagged (1 ∷ []) 7)) ≡ 0 ∷ 7 ∷ 0 ∷ 1 ∷ 0 ∷ 0 ∷ 0 ∷ 1 ∷ 97 ∷ 1 ∷ []
unfolding record_bytes
worked_value = refl

pub worked_deletion : record_bytes 2 (97 ∷ []) Delete ≡ 1 ∷ 0 ∷ 0 ∷ 1 ∷ 0 ∷ 0 ∷ 0 ∷ 0 ∷ 97 ∷ []
unfolding record_bytes
worked_deletion = refl

pub worked_value_before_tags : record_bytes 1 (97 ∷ []) (Set (untagged (1 ∷ []))) ≡ 0 ∷ 0 ∷ 1 ∷ 0 ∷ 0 ∷ 0 ∷ 1 ∷ 97 ∷ 1 ∷ []
unfolding record_bytes
worked_value_before_tags = refl

-- A record has a tag from format 2 on, which makes its head longer.
pub length-tag_bytes : (format tag : ℕ) → length (tag_bytes format tag) + 7 ≡ record_head format
length-tag_bytes format tag = by (nat_le format 1)
  where
    by : (b : Bool) → length (cond b [] (tag ∷ [])) + 7 ≡ cond b 7 8
    by true = refl
    by false = refl

pub length-head_bytes : (format flag tag key_length value_length : ℕ)
    → length (head_bytes format flag tag key_length value_length) ≡ record_head format
length-head_bytes format flag tag key_length value_length =
    omega (arith, length-append (tag_bytes format tag) (big_bytes 2 key_length ++ big_bytes 4 value_length), length-tag_bytes format tag)

-- A record has as many bytes as its length says.
pub length-record_bytes : (format : ℕ) (key : List ℕ) (change : Change)
    → length (record_bytes format key change) ≡ record_length format key change
unfolding record_bytes
length-record_bytes format key change =
    let head = head_bytes format (flag_of change) (value_tag change) (length key) (length (value_bytes change)) in
    omega (
      arith,
      length-append (head ++ key) (value_bytes change),
      length-append head key,
      length-head_bytes format
          (flag_of change) (value_tag change) (length key) (length (value_bytes change)),
    )

-- It has a flag, at least.
pub least_record : (format : ℕ) (key : List ℕ) (change : Change) → 7 ≤ record_length format key change
least_record format key change = omega (arith, length-tag_bytes format 0)

key_length-fits : (n : ℕ) → is_key_length n ≡ true → n < 65536
key_length-fits n lawful = grind (arith, nat_tests)

value_length-fits : (format n : ℕ) → is_value_length format n ≡ true → n < 4294967296
value_length-fits format n lawful = by (nat_le format 1) lawful
  where
    by : (b : Bool) → nat_le n (cond b 1048576 8388608) ≡ true → n < 4294967296
    by true is = grind (arith, nat_tests)
    by false is = grind (arith, nat_tests)

-- Lawful lengths have room.
pub lawful-widths : (format : ℕ) (key : List ℕ) (change : Change) → IsRecord format key change → HasWidths key change
lawful-widths format key change lawful = record
    { key_fits = key_length-fits _ lawful.key_length; value_fits = value_length-fits format _ lawful.value_length }

same_change : (one other : Change) → flag_of one ≡ flag_of other → value_tag one ≡ value_tag other
    → value_bytes one ≡ value_bytes other → one ≡ other
same_change (Set a) (Set b) flags tags values = ap Set (λ i. record { bytes = values i; tag = tags i })
same_change (Set a) Delete flags tags values = absurd (omega arith)
same_change Delete (Set b) flags tags values = absurd (omega arith)
same_change Delete Delete flags tags values = refl

-- What stands at the front of the same bytes is one tag that the format keeps.
one_tag : (format a b : ℕ) (x y : List ℕ) → IsTag format a → IsTag format b
    → tag_bytes format a ++ x ≡ tag_bytes format b ++ y → (a ≡ b) × (x ≡ y)
one_tag format a b x y kept other_kept e = by (nat_le format 1) kept other_kept e
  where
    by : (is : Bool) → cond is 0 a ≡ a → cond is 0 b ≡ b → cond is [] (a ∷ []) ++ x ≡ cond is [] (b ∷ []) ++ y → (a ≡ b) × (x ≡ y)
    by true zero other e = (sym zero ∙ other, e)
    by false zero other e = (ap (λ (l : List ℕ). get_or l 0 0) e, ap (drop 1) e)

-- a head and what follows it, part by part
pub head_grouped : (format flag tag k v : ℕ) (rest : List ℕ)
    → head_bytes format flag tag k v ++ rest ≡ flag ∷ (tag_bytes format tag ++ (big_bytes 2 k ++ (big_bytes 4 v ++ rest)))
head_grouped format flag tag k v rest = ap (λ (l : List ℕ). flag ∷ l)
    (append_assoc (tag_bytes format tag) (big_bytes 2 k ++ big_bytes 4 v) rest)

-- two heads at the front of the same bytes are the same
pub record SameHead (flag other_flag tag other_tag k other_k v other_v : ℕ) (rest other_rest : List ℕ) : Type 0 where
  pub flag_is : flag ≡ other_flag
  pub tag_is : tag ≡ other_tag
  pub key_length_is : k ≡ other_k
  pub value_length_is : v ≡ other_v
  pub rest_is : rest ≡ other_rest

pub one_head : (format flag other_flag tag other_tag k other_k v other_v : ℕ) (rest other_rest : List ℕ)
    → IsTag format tag → IsTag format other_tag → k < 2 ^ 16 → other_k < 2 ^ 16 → v < 2 ^ 32 → other_v < 2 ^ 32
    → head_bytes format flag tag k v ++ rest ≡ head_bytes format other_flag other_tag other_k other_v ++ other_rest
    → SameHead flag other_flag tag other_tag k other_k v other_v rest other_rest
one_head format flag other_flag tag other_tag k other_k v other_v rest other_rest kept other_kept k_fits other_k_fits
    v_fits other_v_fits e =
    let both = sym (head_grouped format flag tag k v rest) ∙ e ∙ head_grouped format other_flag other_tag other_k other_v other_rest in
    let tags = one_tag format tag other_tag _ _ kept other_kept (ap (drop 1) both) in
    let a = one_number 2 k other_k _ _ k_fits other_k_fits tags.1 in
    let b = one_number 4 v other_v _ _ v_fits other_v_fits a.1 in
    record { flag_is = ap (λ (l : List ℕ). get_or l 0 0) both; tag_is = tags.0; key_length_is = a.0; value_length_is = b.0; rest_is = b.1 }

-- two cuts of the same bytes are the same
pub record SameParts (flag other_flag tag other_tag : ℕ) (key other_key value other_value rest other_rest : List ℕ) : Type 0 where
  pub flag_is : flag ≡ other_flag
  pub tag_is : tag ≡ other_tag
  pub key_is : key ≡ other_key
  pub value_is : value ≡ other_value
  pub rest_is : rest ≡ other_rest

-- what comes apart: a head, a key, a value and the rest
pub grouped : (format flag tag : ℕ) (key value rest : List ℕ)
    → (head_bytes format flag tag (length key) (length value) ++ key ++ value) ++ rest ≡ head_bytes format flag tag
    (length key) (length value) ++ (key ++ (value ++ rest))
grouped format flag tag key value rest =
    let head = head_bytes format flag tag (length key) (length value) in
    append_assoc (head ++ key) value rest ∙ append_assoc head key (value ++ rest)

-- Bytes come apart into a flag, a tag, a key and a value in one way.
pub one_apart : (format : ℕ) (bytes : List ℕ) (flag other_flag tag other_tag : ℕ) (key other_key value other_value : List ℕ)
    → (one : IsApart format bytes flag tag key value) → (other : IsApart format bytes other_flag other_tag other_key other_value)
    → SameParts flag other_flag tag other_tag key other_key value other_value one.rest other.rest
one_apart format bytes flag other_flag tag other_tag key other_key value other_value one other =
    let both = sym (grouped format flag tag key value one.rest) ∙ sym one.spelled ∙ other.spelled
    ∙ grouped format other_flag other_tag other_key other_value other.rest in
    let heads = one_head format flag other_flag tag other_tag _ _ _ _ _ _ one.tag_kept other.tag_kept one.key_fits
    other.key_fits one.value_fits other.value_fits both in
    let keys = same_front key other_key (value ++ one.rest) (other_value ++ other.rest) heads.key_length_is heads.rest_is in
    let values = same_front value other_value one.rest other.rest heads.value_length_is keys.1 in
    record { flag_is = heads.flag_is; tag_is = heads.tag_is; key_is = keys.0; value_is = values.0; rest_is = values.1 }

-- A record that stands comes apart into its flag, its tag, its key and its value.
pub spelled_apart : (format : ℕ) (bytes key : List ℕ) (change : Change) → IsSpelled format bytes key change
    → IsApart format bytes (flag_of change) (value_tag change) key (value_bytes change)
unfolding record_bytes
spelled_apart format bytes key change s =
    let widths = lawful-widths format key change s.lawful in
    record { tag_kept = s.lawful.tag; key_fits = widths.key_fits; value_fits = widths.value_fits; rest = s.rest; spelled = s.parts }

-- No two records stand at the front of the same bytes, and what stands behind the record is the same.
pub one_record : (format : ℕ) (bytes key other_key : List ℕ) (change other_change : Change)
    → (one : IsSpelled format bytes key change) → (other : IsSpelled format bytes other_key other_change)
    → (key ≡ other_key) × (change ≡ other_change) × (one.rest ≡ other.rest)
unfolding spelled_apart
one_record format bytes key other_key change other_change one other =
    let same = one_apart format bytes (flag_of change) (flag_of other_change) (value_tag change)
    (value_tag other_change) key other_key (value_bytes change) (value_bytes other_change)
    (spelled_apart format bytes key change one) (spelled_apart format bytes other_key other_change other) in
    (same.key_is, same_change change other_change same.flag_is same.tag_is same.value_is, same.rest_is)

-- At the front of the same bytes stands one record at most, and the same stands behind it.
pub one_write : (format : ℕ) (a b : List ℕ × Change) (rest other : List ℕ) → IsRecord format a.0 a.1 → IsRecord format b.0 b.1
    → record_bytes format a.0 a.1 ++ rest ≡ record_bytes format b.0 b.1 ++ other → (a ≡ b) × (rest ≡ other)
one_write format a b rest other p q e =
    let bytes = record_bytes format a.0 a.1 ++ rest in
    let first : IsSpelled format bytes a.0 a.1 = record { lawful = p; rest = rest; parts = refl } in
    let second : IsSpelled format bytes b.0 b.1 = record { lawful = q; rest = other; parts = e } in
    let same = one_record format bytes a.0 b.0 a.1 b.1 first second in
    ((λ i. (same.0 i, same.1 i)), same.2)

-- ---- pointers

-- The pointer to the ten bytes from place 33 of log 1.
pub worked_pointer : pointer_bytes (record { segment = 1; place = 33; length = 10 }) ≡ 0 ∷ 0 ∷ 0 ∷ 1 ∷ 0 ∷ 0 ∷ 0 ∷ 0 ∷ 0
    ∷ 0 ∷ 0 ∷ 33 ∷ 0 ∷ 0 ∷ 0 ∷ 10 ∷ []
unfolding pointer_bytes
worked_pointer = refl

-- No two pointers stand at the front of the same bytes.
pub one_pointer : (bytes : List ℕ) (p q : Pointer) → IsPointerSpelled bytes p → IsPointerSpelled bytes q → p ≡ q
unfolding pointer_bytes
one_pointer bytes p q one other =
    let both : big_bytes 4 p.segment ++ (big_bytes 8 p.place ++ (big_bytes 4 p.length ++ one.rest)) ≡ big_bytes 4
    q.segment ++ (big_bytes 8 q.place ++ (big_bytes 4 q.length ++ other.rest)) =
    sym one.parts ∙ other.parts in
    let a = one_number 4 p.segment q.segment _ _ one.fits.segment other.fits.segment both in
    let b = one_number 8 p.place q.place _ _ one.fits.place other.fits.place a.1 in
    let c = one_number 4 p.length q.length _ _ one.fits.length other.fits.length b.1 in
    λ i. record { segment = a.0 i; place = b.0 i; length = c.0 i }
