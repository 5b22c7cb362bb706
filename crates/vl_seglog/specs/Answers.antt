-- What reading a sealed log answers, and why.
use Rattle.std.specs.Prelude.{◌≡◌, ℕ, List, Option, Result, Ok, Err}
use Rattle.std.specs.Option.{ForSome}
use Rattle.vl_disk.specs.Faults.{HasCause}
use Rattle.vl_disk.specs.declared.name.Name.TheVariants.{Log as log_name}
use Rattle.vl_disk.specs.declared.read_fault.ReadFault.{ReadFault}
use Rattle.vl_disk.specs.declared.read_fault.ReadFault.TheVariants.{NoMemory, Disk, Damaged}

-- reading failed
abbrev pub Failed : {T : Type 0} → Result T ReadFault → Type 0
Failed (Ok x) = ⊥
Failed (Err NoMemory) = ⊥
Failed (Err (Disk name)) = Unit {0}
Failed (Err (Damaged name place)) = ⊥

-- a fault names the log with this number
abbrev pub IsNamed : {T : Type 0} → ℕ → Result T ReadFault → Type 0
IsNamed number (Ok x) = Unit {0}
IsNamed number (Err NoMemory) = Unit {0}
IsNamed number (Err (Disk name)) = name ≡ log_name number
IsNamed number (Err (Damaged name place)) = name ≡ log_name number

-- what is answered is good, and where damage is answered it is there
abbrev pub IsAnswer : {T : Type 0} → (T → Type 0) → (ℕ → Type 0) → Result T ReadFault → Type 0
IsAnswer good bad (Ok x) = good x
IsAnswer good bad (Err NoMemory) = Unit {0}
IsAnswer good bad (Err (Disk name)) = Unit {0}
IsAnswer good bad (Err (Damaged name place)) = bad place

-- Of the log with this number and these bytes, where they are told, this is answered: what is good of the bytes, or a
-- place at which it is bad; and reading failed only where that was counted.
pub record Answers {T : Type 0} (before now number : ℕ) (told : Option (List ℕ))
    (good : List ℕ → T → Type 0) (bad : List ℕ → ℕ → Type 0) (result : Result T ReadFault) : Type 0 where
  pub cause : HasCause before now (Failed result)
  pub named : IsNamed number result
  pub answer : ForSome told (λ bytes. IsAnswer (good bytes) (bad bytes) result)
