-- A number that is read from the front of some bytes.
use Rattle.std.proofs.Common.{◌≡◌, ◌<◌, inl, inr, ℕ, List, ◌++◌, length, take, get_or, sym, ap, ◌∙◌, arith}
use Rattle.std.specs.Int.{w64, to_be_bytes}
use Rattle.std.proofs.lemmas.Bool.{cases_lt}
use Rattle.std.proofs.lemmas.List.{get_or-take, get_or_past, take_at}
use Rattle.std.proofs.lemmas.Nat.{be_bytes_8}
use Rattle.byteorder.specs.Endian.{big_bytes, big_number}

-- the bytes at the front are bytes
front_fits : (bytes front rest : List ℕ) → ((i : ℕ) → get_or bytes i 0 < 256) → bytes ≡ front ++ rest → (i : ℕ) → get_or front i 0 < 256
front_fits bytes front rest fits e i =
    elim (cases_lt i (length front)) [
      | inl lt ↦
          let cut : take (length front) bytes ≡ front = ap (take (length front)) e ∙ take_at front rest (length front) (omega arith) in
          let same : get_or front i 0 ≡ get_or bytes i 0 = ap (λ (xs : List ℕ). get_or xs i 0) (sym cut)
          ∙ get_or-take (length front) bytes i 0 lt in
          omega (arith, same, fits i)
      | inr le ↦ rw (get_or_past front i 0 le) (omega arith)
    ]

-- eight bytes at the front are those of the number that is read from them
pub front_of_8 : (bytes front rest : List ℕ) (n : ℕ) → ((i : ℕ) → get_or bytes i 0 < 256) → bytes ≡ front ++ rest
    → length front ≡ 8 → n ≡ big_number 8 front → bytes ≡ big_bytes 8 n ++ rest
front_of_8 bytes front rest n fits e len is =
    let spelled : to_be_bytes w64 n ≡ front = be_bytes_8 front n len (front_fits bytes front rest fits e) (omega arith) in
    e ∙ ap (λ (xs : List ℕ). xs ++ rest) (sym spelled)
