-- What the definition of a header says: how long one is, and that one at most stands at the front of some bytes.
use Rattle.std.proofs.Common.{◌≡◌, ℕ, cond, nat_eq, List, [], ◌∷◌, ◌++◌, length, get_or, refl, sym, ap, ◌∙◌, append_assoc, arith}
use Rattle.byteorder.specs.Endian.{big_bytes}
use Rattle.vl_frame.specs.declared.kinds.FileKind.{FileKind}
use Rattle.vl_frame.specs.declared.kinds.FileKind.TheVariants.{Log, Table, Manifest, Backup}
use Rattle.vl_frame.specs.Header.{HasFormat, IsHeader, IsHeaderApart, header_bytes, letters}
use Rattle.vl_frame.specs.laws.NumberLaws.{one_number, same_front}

-- The header of log 1 in format 1.
pub worked_header : header_bytes Log 1 1 ≡ 86 ∷ 76 ∷ 79 ∷ 71 ∷ 0 ∷ 0 ∷ 0 ∷ 1 ∷ 0 ∷ 0 ∷ 0 ∷ 1 ∷ 0 ∷ 0 ∷ 0 ∷ 0 ∷ []
worked_header = refl

-- A header has 16 bytes.
pub length-header_bytes : (kind : FileKind) (format number : ℕ) → length (header_bytes kind format number) ≡ 16
length-header_bytes Log format number = refl
length-header_bytes Table format number = refl
length-header_bytes Manifest format number = refl
length-header_bytes Backup format number = refl

pub length-letters : (kind : FileKind) → length (letters kind) ≡ 4
length-letters Log = refl
length-letters Table = refl
length-letters Manifest = refl
length-letters Backup = refl

-- the second letter tells the kind
kind_of : ℕ → FileKind
kind_of n = cond (nat_eq n 76) Log (cond (nat_eq n 84) Table (cond (nat_eq n 66) Backup Manifest))

kind_of-letters : (kind : FileKind) → kind_of (get_or (letters kind) 1 0) ≡ kind
unfolding kind_of
kind_of-letters Log = refl
kind_of-letters Table = refl
kind_of-letters Manifest = refl
kind_of-letters Backup = refl

pub one_kind : (kind other : FileKind) → letters kind ≡ letters other → kind ≡ other
one_kind kind other e = sym (kind_of-letters kind) ∙ ap (λ (l : List ℕ). kind_of (get_or l 1 0)) e ∙ kind_of-letters other

-- two cuts of the same bytes are the same
pub record SameHeader (front other_front : List ℕ) (format other_format number other_number last other_last : ℕ) : Type 0 where
  pub front_is : front ≡ other_front
  pub format_is : format ≡ other_format
  pub number_is : number ≡ other_number
  pub last_is : last ≡ other_last

pub regrouped : (front : List ℕ) (format number last : ℕ) (rest : List ℕ)
    → front ++ big_bytes 4 format ++ big_bytes 4 number ++ big_bytes 4 last ++ rest ≡ front
    ++ (big_bytes 4 format ++ (big_bytes 4 number ++ (big_bytes 4 last ++ rest)))
regrouped front format number last rest =
    append_assoc (front ++ big_bytes 4 format ++ big_bytes 4 number) (big_bytes 4 last) rest
    ∙ append_assoc (front ++ big_bytes 4 format) (big_bytes 4 number) (big_bytes 4 last ++ rest)
    ∙ append_assoc front (big_bytes 4 format) (big_bytes 4 number ++ (big_bytes 4 last ++ rest))

-- Bytes come apart into four and three numbers in one way.
pub one_header_apart : (bytes front other_front : List ℕ) (format other_format number other_number last other_last : ℕ)
    → IsHeaderApart front format number last bytes → IsHeaderApart other_front other_format other_number other_last bytes
    → SameHeader front other_front format other_format number other_number last other_last
one_header_apart bytes front other_front format other_format number other_number last other_last p q =
    let both = sym (regrouped front format number last p.rest) ∙ sym p.spelled ∙ q.spelled
    ∙ regrouped other_front other_format other_number other_last q.rest in
    let a = same_front front other_front _ _ (p.front_length ∙ sym q.front_length) both in
    let b = one_number 4 format other_format _ _ p.format_fits q.format_fits a.1 in
    let c = one_number 4 number other_number _ _ p.number_fits q.number_fits b.1 in
    let d = one_number 4 last other_last p.rest q.rest p.last_fits q.last_fits c.1 in
    record { front_is = a.0; format_is = b.0; number_is = c.0; last_is = d.0 }

-- a header comes apart into its parts
pub header_apart : (kind : FileKind) (format number : ℕ) (bytes : List ℕ) → IsHeader kind format number bytes
    → IsHeaderApart (letters kind) format number 0 bytes
header_apart kind format number bytes h =
    record {
      front_length = length-letters kind;
      format_fits = h.format_fits;
      number_fits = h.number_fits;
      last_fits = omega arith;
      rest = h.rest;
      spelled = h.spelled;
    }

-- At the front of the same bytes stands one header at most.
pub one_header : (bytes : List ℕ) (kind other_kind : FileKind) (format other_format number other_number : ℕ)
    → IsHeader kind format number bytes → IsHeader other_kind other_format other_number bytes
    → (kind ≡ other_kind) × (format ≡ other_format) × (number ≡ other_number)
one_header bytes kind other_kind format other_format number other_number one other =
    let same = one_header_apart bytes (letters kind) (letters other_kind) format other_format number other_number 0 0
    (header_apart kind format number bytes one) (header_apart other_kind other_format other_number bytes other) in
    (one_kind kind other_kind same.front_is, same.format_is, same.number_is)

-- A header says its format.
pub header_has_format : (kind : FileKind) (format number : ℕ) (bytes : List ℕ) → IsHeader kind format number bytes
    → HasFormat kind bytes format
header_has_format kind format number bytes h = record {
  fits = h.format_fits;
  rest = big_bytes 4 number ++ (big_bytes 4 0 ++ h.rest);
  long = omega arith;
  spelled = h.spelled ∙ regrouped (letters kind) format number 0 h.rest
      ∙ sym (append_assoc (letters kind) (big_bytes 4 format) (big_bytes 4 number ++ (big_bytes 4 0 ++ h.rest)));
}

-- Bytes say one kind and one format.
pub one_format : (bytes : List ℕ) (kind other_kind : FileKind) (format other_format : ℕ) → HasFormat kind bytes format
    → HasFormat other_kind bytes other_format → (kind ≡ other_kind) × (format ≡ other_format)
one_format bytes kind other_kind format other_format one other =
    let both : letters kind ++ (big_bytes 4 format ++ one.rest) ≡ letters other_kind ++ (big_bytes 4 other_format ++ other.rest) =
    sym (append_assoc (letters kind) (big_bytes 4 format) one.rest) ∙ sym one.spelled ∙ other.spelled
    ∙ append_assoc (letters other_kind) (big_bytes 4 other_format) other.rest in
    let a = same_front (letters kind) (letters other_kind) _ _ (length-letters kind ∙ sym (length-letters other_kind)) both in
    let b = one_number 4 format other_format one.rest other.rest one.fits other.fits a.1 in
    (one_kind kind other_kind a.0, b.0)
