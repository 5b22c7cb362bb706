-- What holds of a folder and its files because they tell no bytes.
use Rattle.std.specs.Prelude.{◌≡◌, ℕ, ◌^◌, ◌-◌, List, Option, true, refl, Some, None}
use Rattle.std.proofs.lemmas.Option.{none-some}
use Rattle.vl_disk.specs.Spare.{Spare}

-- of what isn't told, all holds
pub untold : {T P : Type 0} (told : T) → None ≡ Some told → P
untold told is = absurd (none-some told is)

-- a clone tells as little, and has the same length
pub same_file : (held copy : ℕ) → copy ≡ held → (let bytes : Option (List ℕ) = None in bytes ≡ bytes) × (copy ≡ held)
same_file held copy same = (refl, same)

-- the room of each name: only the system can refuse a call, and no memory of the disk's own
abbrev pub all_room : Spare
all_room = record { change = true; append = Some (2 ^ 64 - 1); hold = true; lend = true; adopt = true }
