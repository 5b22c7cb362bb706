-- What a look-up answers, by what the winner of its key leads to.
use Rattle.std.specs.Prelude.{◌≡◌, ℕ, List, option_and_then, Option, Some, None, Result, Ok, Err}
use Rattle.vl_disk.specs.declared.name.Name.{Name}
use Rattle.vl_disk.specs.declared.name.Name.TheVariants.{Log as log_name}
use Rattle.vl_model.specs.Keys.{Stored}
use Rattle.vl_model.specs.Winners.{Logs, resolved_at}
use Rattle.vl_model.specs.declared.entry.Body.{Body}
use Rattle.vl_model.specs.declared.entry.Body.TheVariants.{Far, Gone, Inline, Logged}
use Rattle.vl_model.specs.declared.entry.Entry.{Entry}
use Rattle.vl_seglog.specs.Sealed.{IsHere, IsSmall}
use Rattle.vl_disk.specs.declared.read_fault.ReadFault.{ReadFault}
use Rattle.vl_disk.specs.declared.read_fault.ReadFault.TheVariants.{NoMemory, Disk, Damaged}
use Rattle.vl_version.specs.declared.found.Found.{Found}
use Rattle.vl_version.specs.declared.found.Found.TheVariants as found

-- what is answered is good, and where a place of a file is said to be damaged it is bad
abbrev pub IsAnswer : {T : Type 0} → (T → Type 0) → (Name → ℕ → Type 0) → Result T ReadFault → Type 0
IsAnswer good bad (Ok x) = good x
IsAnswer good bad (Err NoMemory) = Unit {0}
IsAnswer good bad (Err (Disk name)) = Unit {0}
IsAnswer good bad (Err (Damaged name place)) = bad name place

-- the body points to this place of this file
abbrev pub PointsTo : Body → Name → ℕ → Type 0
PointsTo (Inline value) name place = ⊥
PointsTo Gone name place = ⊥
PointsTo (Far pointer) name place = (name ≡ log_name pointer.segment) × (place ≡ pointer.place)
PointsTo (Logged value pointer) name place = ⊥

abbrev pub LeadsTo : Option Entry → Name → ℕ → Type 0
LeadsTo None name place = ⊥
LeadsTo (Some e) name place = PointsTo e.body name place

-- a winner points to this place of this file, and what should stand there doesn't
abbrev pub IsAstray : Logs → Option Entry → Name → ℕ → Type 0
IsAstray logs winner name place = (resolved_at logs winner ≡ None) × LeadsTo winner name place

-- just the value to which a winner leads is answered, or damage where it leads astray
abbrev pub Gives : Logs → Option Entry → Result (Option Stored) ReadFault → Type 0
Gives logs winner result = IsAnswer (λ value. resolved_at logs winner ≡ Some value) (IsAstray logs winner) result

-- the value to which a winner leads
abbrev pub value_of : Logs → Option Entry → Option Stored
value_of logs winner = option_and_then (λ value. value) (resolved_at logs winner)

-- that is in the caller's bytes: the value at their front, or they are as they were
abbrev pub IsFound : Logs → Option Entry → List ℕ → List ℕ → Found → Type 0
IsFound logs winner old new found.None = (resolved_at logs winner ≡ Some None) × (new ≡ old)
IsFound logs winner old new (found.Here len) = IsHere (value_of logs winner) old new len
IsFound logs winner old new (found.Small len) = IsSmall (value_of logs winner) old new len

-- the same where the value is read into the caller's bytes
abbrev pub Fills : Logs → Option Entry → List ℕ → List ℕ → Result Found ReadFault → Type 0
Fills logs winner old new result = IsAnswer (IsFound logs winner old new) (IsAstray logs winner) result
