-- The memtables of an opened store, and a fault of its reader.
use Rattle.std.proofs.Common.{List, reverse}
use Rattle.std.specs.Prelude.{All, Some}
use Rattle.std.proofs.lemmas.List.Sorted.{All-permutation, IsPermutation-reverse}
use Rattle.vl_engine.specs.Opening.{IsFault}
use Rattle.vl_recover.specs.declared.fails.OpenError.{OpenError}
use Rattle.vl_recover.specs.declared.fails.OpenError.TheVariants as why
use Rattle.vl_recover.specs.opening.Results.{HasFailed, recovery_by}

-- what holds of each holds of each in the other order
pub all_reversed : {X : Type 0} (P : X → Type 0) (xs : List X) → All P xs → All P (reverse xs)
all_reversed P xs all = All-permutation P xs (reverse xs) (IsPermutation-reverse xs) all

pub as_fault : (e : OpenError) → HasFailed (recovery_by e) → IsFault (Some e)
as_fault why.NotAStore fault = fault
as_fault (why.NewerFormat format) fault = fault
as_fault (why.Damaged name place) fault = fault
as_fault (why.Exhausted counter) fault = fault
as_fault why.NoMemory fault = fault
as_fault (why.Disk name) fault = fault
