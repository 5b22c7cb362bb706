-- What clients that take numbers come to, by the list of all steps of their store.
use Rattle.std.specs.Prelude.{◌≡◌, ◌<◌, ◌≤◌, ℕ, ◌+◌, ◌-◌, ◌*◌, ◌/◌, true, List, [], ◌∷◌, ◌++◌, Some}
use Rattle.std.specs.FinMap.{empty, entries}
use Rattle.std.specs.List.{AllByRecursion}
use Rattle.vl_drive.specs.Accounts.{sum_of}
use Rattle.vl_drive.specs.Steps.{Origin, count_by, history_by, is_put}
use Rattle.vl_engine_model.specs.LockHistory.{IsLegal}
use Rattle.vl_engine_model.specs.declared.lock_history.LockEntry.{LockEntry}
use Rattle.vl_engine_model.specs.declared.lock_history.LockStep.TheVariants.{Put}
use Rattle.vl_model.specs.History.{last_number}
use Rattle.vl_sequence.specs.Leases.{number_in}
use Rattle.vl_sequence.specs.Sequences.{lease_writes, most_number}
use Rattle.vl_sequence.specs.Takings.{IsOnlyLeased, last_value}
use Rattle.vl_sequence.specs.declared.ids.Counted.{Counted}

-- the key of one byte from which they take them
abbrev pub ids_key : List ℕ
ids_key = 0x71 ∷ []

-- how many leases so many numbers take
abbrev pub rounded_up : (count lease : ℕ) → ℕ
rounded_up count lease = (count + lease - 1) / lease

-- A step leases the next so many numbers, behind all steps before it: a commit writes the key alone,
-- and puts the end of the lease in the place of its first number, which the key told.
pub record LeasesNext (o : Origin) (key : List ℕ) (lease : ℕ) (before : List LockEntry) (e : LockEntry)
    : Type 0 where
  pub first : ℕ
  pub told : number_in (last_value o key before) ≡ Some first
  pub ticket : ℕ
  pub puts : e.step ≡ Put ticket (last_number (history_by o before) + 1)
      (entries (lease_writes key (first + lease)))
  pub fits : first + lease ≤ most_number

-- each commit of a session does
abbrev pub AreLeased : Origin → (key : List ℕ) → (lease session : ℕ) → List LockEntry → Type 0
AreLeased o key lease session list =
    (before : List LockEntry) (e : LockEntry) (after : List LockEntry) → list ≡ before ++ e ∷ after
    → e.session ≡ session → is_put e.step ≡ true → LeasesNext o key lease before e

-- The list is lawful, and all of it is the clients', whose sessions are those below `clients`. Each
-- client's commits are leases of just so many numbers, as many as its numbers take; so only leases
-- write the key. All clients' numbers are counted, and all their leases. In the end the key tells the
-- next number, which stands behind all leases.
pub record IsCounted (o : Origin) (clients count lease : ℕ) (c : Counted) (list : List LockEntry)
    : Type 0 where
  pub legal : IsLegal o.number list
  pub sessions : AllByRecursion (λ (e : LockEntry). e.session < clients) list
  pub leased : (client : ℕ) → client < clients → AreLeased o ids_key lease client list
  pub each : (client : ℕ) → client < clients → count_by is_put client list ≡ rounded_up count lease
  pub only : IsOnlyLeased o ids_key list
  pub given_are : c.given ≡ clients * count
  pub leases_are : c.leases ≡ sum_of (λ client. count_by is_put client list) clients
  pub told : number_in (last_value o ids_key list) ≡ Some c.next
  pub next_is : c.next ≡ 1 + c.leases * lease

-- So it was for some list of all steps of a store that had nothing before.
pub record HasCounted (clients count lease : ℕ) (c : Counted) : Type 0 where
  pub origin : Origin
  pub list : List LockEntry
  pub number : origin.number ≡ 0
  pub base : origin.base ≡ empty
  pub counted : IsCounted origin clients count lease c list
