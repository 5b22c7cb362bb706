-- The leases that sessions took, by the steps under their store's lock.
use Rattle.std.specs.Prelude.{◌≡◌, ◌⊎◌, ◌<◌, ℕ, List, [], ◌∷◌, ◌++◌, map, Option, None, Some}
use Rattle.std.specs.FinMap.{from_sorted, get}
use Rattle.vl_drive.specs.Knowing.{Knows}
use Rattle.vl_drive.specs.Steps.{Origin, history_by}
use Rattle.vl_engine_model.specs.LockHistory.{commits_of}
use Rattle.vl_engine_model.specs.declared.lock_history.LockEntry.{LockEntry}
use Rattle.vl_engine_model.specs.declared.lock_history.LockStep.{LockStep}
use Rattle.vl_engine_model.specs.declared.lock_history.LockStep.TheVariants.{Begun, Changed, Ended, JobEnded, PassEnded}
use Rattle.vl_engine_model.specs.declared.lock_history.LockStep.TheVariants.{Picked, Planned, Put}
use Rattle.vl_model.specs.History.{last_number, past_value, value_at, value_left}
use Rattle.vl_model.specs.Keys.{Stored, key_cmp}
use Rattle.vl_model.specs.declared.change.Change.{Change}
use Rattle.vl_sequence.specs.Leases.{IsIn, Lease, OnlyLeases, leased, number_in}

-- what a step does to the key
abbrev pub change_by : (key : List ℕ) → LockStep → Option Change
change_by key (Begun ticket number) = None
change_by key (Put ticket number writes) = get {R = key_cmp} (from_sorted writes) key
change_by key (Ended ticket) = None
change_by key Planned = None
change_by key JobEnded = None
change_by key Picked = None
change_by key PassEnded = None
change_by key Changed = None

-- a lease, and the session that took it
abbrev pub Taking : Type 0
Taking = ℕ × Lease

abbrev pub by_session : ℕ → List Lease → List Taking
by_session session ls = map (λ (l : Lease). (session, l)) ls

-- by steps, over the value that the key had before
abbrev pub taken_from : (key : List ℕ) → Option Stored → List LockEntry → List Taking
taken_from key old [] = []
taken_from key old (e ∷ es) =
    by_session e.session (leased old (change_by key e.step)) ++ taken_from key (value_left old (change_by key e.step)) es

-- the session took this lease, among these
abbrev pub Has : List Taking → (session : ℕ) → Lease → Type 0
Has [] session l = ⊥
Has (t ∷ ts) session l = ((t.0 ≡ session) × (t.1 ≡ l)) ⊎ Has ts session l

-- ---- of a store

-- what the key had before the first step
abbrev pub first_value : Origin → (key : List ℕ) → Option Stored
first_value o key = past_value o.base o.number key

-- what it has behind the last
abbrev pub last_value : Origin → (key : List ℕ) → List LockEntry → Option Stored
last_value o key list = value_at (history_by o list) (last_number (history_by o list)) key

-- all leases that were taken by these steps
abbrev pub taken_by : Origin → (key : List ℕ) → List LockEntry → List Taking
taken_by o key list = taken_from key (first_value o key) list

-- Before the first step the key told a number, and each commit among these steps that names it leases numbers.
pub record IsOnlyLeased (o : Origin) (key : List ℕ) (list : List LockEntry) : Type 0 where
  pub first : ℕ
  pub told : number_in (first_value o key) ≡ Some first
  pub only : OnlyLeases key (first_value o key) (commits_of list)

-- ---- of a session

-- The number is in a lease that the session took, by what it has seen.
pub record IsLeased (v : Knows) (key : List ℕ) (n : ℕ) : Type 0 where
  pub lease : Lease
  pub took : Has (taken_by v.origin key v.seen) v.session lease
  pub within : IsIn lease n

-- It is below the key's value behind all that the session has seen.
pub record IsBelowValue (v : Knows) (key : List ℕ) (n : ℕ) : Type 0 where
  pub value : ℕ
  pub told : number_in (last_value v.origin key v.seen) ≡ Some value
  pub below : n < value
