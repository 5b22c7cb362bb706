-- A pointer that is read.
use Rattle.std.proofs.Common.{◌≡◌, ℕ, List, ◌++◌, ap, ◌∙◌}
use Rattle.byteorder.specs.Endian.{big_bytes}
use Rattle.vl_seglog.specs.Pointer.{IsPointer, IsPointerSpelled, pointer_bytes}

-- three numbers one behind the other
pub is_pointer_spelled : (bytes : List ℕ) (segment place len : ℕ) (r1 r2 r3 : List ℕ)
    → IsPointer (record { segment = segment; place = place; length = len }) →
    bytes ≡ big_bytes 4 segment ++ r1 → r1 ≡ big_bytes 8 place ++ r2 → r2 ≡ big_bytes 4 len ++ r3 →
    IsPointerSpelled bytes (record { segment = segment; place = place; length = len })
unfolding pointer_bytes
is_pointer_spelled bytes segment place len r1 r2 r3 fits e1 e2 e3 = record {
  fits = fits;
  rest = r3;
  parts = e1 ∙ ap (λ (r : List ℕ). big_bytes 4 segment ++ r) (e2 ∙ ap (λ (r : List ℕ). big_bytes 8 place ++ r) e3);
}
