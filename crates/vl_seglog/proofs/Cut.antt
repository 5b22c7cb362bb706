-- What was read out of a file into memory.
use Rattle.std.specs.Prelude.{◌≡◌, ◌+◌, ◌≤◌, ℕ, List, length, drop}
use Rattle.std.proofs.Common.{ap, sym, ◌∙◌, arith, Vec}
use Rattle.std.proofs.lemmas.List.{length-drop, length-take-le, with_items_is}
use Rattle.std.specs.Vec.{with_items}
use Rattle.vl_disk.specs.DiskState.{bytes_at}

-- so many bytes from a place on are as many, where the file has them
pub length-cut : (place size : ℕ) (bytes : List ℕ) → place + size ≤ length bytes → length (bytes_at place size bytes) ≡ size
length-cut place size bytes inside = length-take-le size (drop place bytes) (omega (arith, inside, length-drop place bytes))

-- what was read is as long as was asked for
pub read_so : (out bytes : List ℕ) (place n m : ℕ) → out ≡ bytes_at place n bytes → n ≡ m → out ≡ bytes_at place m bytes
read_so out bytes place n m read same = read ∙ ap (λ (k : ℕ). bytes_at place k bytes) same

-- a vector that they were read into has them
pub cut_from : {Z : Type 0} (place size : ℕ) (bytes : List ℕ) (v : Vec ℕ Z) (read : List ℕ) (n : ℕ)
    → read ≡ bytes_at place n bytes → n ≡ size → n ≡ v.len → place + size ≤ length bytes
    → (with_items v read).items ≡ bytes_at place size bytes
cut_from place size bytes v read n is sized filled inside =
    let same = read_so read bytes place n size is sized in
    with_items_is v read (ap length same ∙ length-cut place size bytes inside ∙ sym sized ∙ filled) ∙ same
