-- Numbers that are leased by commits of one key: the key's value is the least number that isn't leased yet.
use Rattle.std.specs.Prelude.{◌≡◌, ◌<◌, ◌≤◌, ℕ, ◌==◌, if◌then◌else◌, List, [], ◌∷◌, ◌++◌, length, Option, None, Some}
use Rattle.std.specs.FinMap.{get}
use Rattle.std.specs.List.{AllByRecursion}
use Rattle.byteorder.specs.Endian.{big_number}
use Rattle.vl_model.specs.History.{History, value_at, value_left}
use Rattle.vl_model.specs.Keys.{Stored, Writes}
use Rattle.vl_model.specs.declared.change.Change.{Change}

-- ---- a lease

-- The least number that isn't leased yet: no value counts as 1, and a value that hasn't eight bytes tells none.
abbrev pub number_in : Option Stored → Option ℕ
number_in None = Some 1
number_in (Some value) = if length value.bytes == 8 then Some (big_number 8 value.bytes) else None

-- the numbers from the first up to the end, without it
pub record Lease : Type 0 where
  pub first : ℕ
  pub end : ℕ

abbrev pub IsIn : Lease → ℕ → Type 0
IsIn l n = (l.first ≤ n) × (n < l.end)

-- from what the value before told to what the one behind tells
abbrev pub lease_of : Option ℕ → Option ℕ → List Lease
lease_of (Some first) (Some end) = record { first = first; end = end } ∷ []
lease_of (Some first) None = []
lease_of None end = []

-- what a change of the key leases, over its value before
abbrev pub leased : Option Stored → Option Change → List Lease
leased old None = []
leased old (Some change) = lease_of (number_in old) (number_in (value_left old (Some change)))

-- ---- many

-- by commits, one behind the other, each over the value that the one before left
abbrev pub leases_from : (key : List ℕ) → Option Stored → List Writes → List Lease
leases_from key old [] = []
leases_from key old (writes ∷ later) = leased old (get writes key) ++ leases_from key (value_left old (get writes key)) later

-- the key's value behind them
abbrev pub value_behind : (key : List ℕ) → Option Stored → List Writes → Option Stored
value_behind key old [] = old
value_behind key old (writes ∷ later) = value_behind key (value_left old (get writes key)) later

-- the leases of a history
abbrev pub leases : History → (key : List ℕ) → List Lease
leases h key = leases_from key (value_at h h.first key) h.commits

-- ---- only sequences write the key

-- A change puts a greater number in the place of one.
pub record Raises (old : Option Stored) (change : Change) : Type 0 where
  pub first : ℕ
  pub end : ℕ
  pub told : number_in old ≡ Some first
  pub tells : number_in (value_left old (Some change)) ≡ Some end
  pub more : first < end

abbrev pub IsLease : Option Stored → Option Change → Type 0
IsLease old None = Unit {0}
IsLease old (Some change) = Raises old change

-- Each of these commits that names the key does so. A deletion doesn't, nor a value of another length, nor a number that isn't greater.
abbrev pub OnlyLeases : (key : List ℕ) → Option Stored → List Writes → Type 0
OnlyLeases key old [] = Unit {0}
OnlyLeases key old (writes ∷ later) =
    IsLease old (get writes key) × OnlyLeases key (value_left old (get writes key)) later

-- ---- that they don't meet, and rise

-- each has some numbers, and begins at the end of the one before or above it; the first at a number or above it
abbrev pub AreRising : ℕ → List Lease → Type 0
AreRising n [] = Unit {0}
AreRising n (l ∷ ls) = (n ≤ l.first) × (l.first < l.end) × AreRising l.end ls

-- none of them goes past a number
abbrev pub AreUpTo : ℕ → List Lease → Type 0
AreUpTo n ls = AllByRecursion (λ (l : Lease). l.end ≤ n) ls
