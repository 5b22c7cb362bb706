-- What is answered of a value by its pointer alone, and where a value in memory is copied.
use Rattle.std.specs.Prelude.{◌≡◌, ℕ, List, Option, Some, None, Result}
use Rattle.vl_disk.specs.declared.name.Name.{Name}
use Rattle.vl_disk.specs.declared.name.Name.TheVariants.{Log as log_name}
use Rattle.vl_model.specs.Keys.{Stored}
use Rattle.vl_model.specs.declared.pointer.Pointer.{Pointer}
use Rattle.vl_seglog.specs.Sealed.{IsHere, IsSmall}
use Rattle.vl_version.specs.Answers.{IsAnswer}
use Rattle.vl_disk.specs.declared.read_fault.ReadFault.{ReadFault}
use Rattle.vl_version.specs.declared.found.Found.{Found}
use Rattle.vl_version.specs.declared.found.Found.TheVariants as found

-- nothing stands at the pointer, which is this place of this file
abbrev pub IsNowhere : Option Stored → Pointer → Name → ℕ → Type 0
IsNowhere stored pointer name place = (stored ≡ None) × (name ≡ log_name pointer.segment) × (place ≡ pointer.place)

-- just what stands at the pointer is answered
abbrev pub GivesFar : Option Stored → Pointer → Result Stored ReadFault → Type 0
GivesFar stored pointer result = IsAnswer (λ value. stored ≡ Some value) (IsNowhere stored pointer) result

-- what stands is a value, and it is in these bytes
abbrev pub IsFilledWith : Option Stored → List ℕ → List ℕ → Found → Type 0
IsFilledWith stored old new found.None = ⊥
IsFilledWith stored old new (found.Here len) = IsHere stored old new len
IsFilledWith stored old new (found.Small len) = IsSmall stored old new len

abbrev pub FillsFar : Option Stored → Pointer → List ℕ → List ℕ → Result Found ReadFault → Type 0
FillsFar stored pointer old new result = IsAnswer (IsFilledWith stored old new) (IsNowhere stored pointer) result

abbrev pub IsPut : Stored → List ℕ → List ℕ → Found → Type 0
IsPut value old new result = IsFilledWith (Some value) old new result
