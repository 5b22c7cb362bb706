-- How a pointer is spelled: segment, place and length, in 4, 8 and 4 bytes, each with its highest byte first.
use Rattle.std.specs.Prelude.{◌≡◌, ◌<◌, ◌^◌, ℕ, List, ◌++◌}
use Rattle.byteorder.specs.Endian.{big_bytes}
use Rattle.vl_model.specs.declared.pointer.Pointer.{Pointer}

-- the numbers fit their bytes
pub record IsPointer (p : Pointer) : Type 0 where
  pub segment : p.segment < 2 ^ 32
  pub place : p.place < 2 ^ 64
  pub length : p.length < 2 ^ 32

-- the one spelling
unfoldable pub pointer_bytes : Pointer → List ℕ
pointer_bytes p = big_bytes 4 p.segment ++ big_bytes 8 p.place ++ big_bytes 4 p.length

-- the pointer stands at the front of the bytes; any bytes may follow it
pub record IsPointerSpelled (bytes : List ℕ) (p : Pointer) : Type 0 where
  pub fits : IsPointer p
  pub rest : List ℕ
  pub parts : bytes ≡ pointer_bytes p ++ rest
