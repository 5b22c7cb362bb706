-- Files that a disk in memory shares.
use Rattle.std.specs.Prelude.{◌≡◌, ℕ, List, length, None, Some}
use Rattle.std.specs.Arc.{arc_value}
use Rattle.std.proofs.Common.{sym, ap}
use Rattle.std.proofs.lemmas.Option.{none-some}
use Rattle.vl_mem.specs.declared.held.MemHeld.{MemHeld}
use Rattle.vl_mem.specs.declared.held.File.{File}
use Rattle.vl_mem.specs.declared.held.File.TheVariants.{Shared, Alone}

abbrev pub file_bytes : File → List ℕ
file_bytes (Shared shared) = (arc_value shared).items
file_bytes (Alone bytes) = bytes.items

abbrev pub held_bytes : MemHeld → List ℕ
held_bytes held = file_bytes held.file

pub same_size : (there bytes : List ℕ) → Some there ≡ Some bytes → length bytes ≡ length there
same_size there bytes is = ap length (sym same)
  where
    same : there ≡ bytes
    same = cc

pub same_shared : (held copy : List ℕ) → copy ≡ held → (Some copy ≡ Some held) × (length copy ≡ length held)
same_shared held copy same = (ap Some same, ap length same)

-- of what is told, nothing is that holds of what isn't
pub is_told : {T P : Type 0} (told : T) → Some told ≡ None → P
is_told told is = absurd (none-some told (sym is))
