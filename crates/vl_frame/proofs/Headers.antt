-- A header that is read from the left.
use Rattle.std.proofs.Common.{◌≡◌, ℕ, ◌<◌, ◌^◌, List, ◌++◌, length, sym, ap, ◌∙◌}
use Rattle.byteorder.specs.Endian.{big_bytes}
use Rattle.vl_frame.specs.declared.kinds.FileKind.{FileKind}
use Rattle.vl_frame.specs.Header.{IsHeader, IsHeaderApart, letters}
use Rattle.vl_frame.specs.laws.HeaderLaws.{header_apart, one_header_apart, regrouped}

-- four bytes and three numbers one behind the other
pub is_header_apart : (bytes front : List ℕ) (format number last : ℕ) (r1 r2 r3 r4 : List ℕ) → length front ≡ 4
    → format < 2 ^ 32 → number < 2 ^ 32 → last < 2 ^ 32 → bytes ≡ front ++ r1 → r1 ≡ big_bytes 4 format ++ r2
    → r2 ≡ big_bytes 4 number ++ r3 → r3 ≡ big_bytes 4 last ++ r4 → IsHeaderApart front format number last bytes
is_header_apart bytes front format number last r1 r2 r3 r4 long format_fits number_fits last_fits e1 e2 e3 e4 = record {
  front_length = long;
  format_fits = format_fits;
  number_fits = number_fits;
  last_fits = last_fits;
  rest = r4;
  spelled = e1 ∙ ap (λ (r : List ℕ). front ++ r)
      (e2 ∙ ap (λ (r : List ℕ). big_bytes 4 format ++ r) (e3 ∙ ap (λ (r : List ℕ). big_bytes 4 number ++ r) e4))
      ∙ sym (regrouped front format number last r4);
}

-- where a header of this kind and number stands, the parts are its own
pub header_is_right : (kind : FileKind) (front : List ℕ) (format number found last said : ℕ) (bytes : List ℕ)
    → IsHeaderApart front format found last bytes → IsHeader kind said number bytes
    → ((front ≡ letters kind) × (found ≡ number) × (last ≡ 0)) × (format ≡ said)
header_is_right kind front format number found last said bytes apart h =
    let same = one_header_apart bytes front (letters kind) format said found number last 0 apart (header_apart kind said number bytes h) in
    ((same.front_is, same.number_is, same.last_is), same.format_is)
