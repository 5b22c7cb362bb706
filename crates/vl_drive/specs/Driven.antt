-- What clients came to, by the list of all steps of their store.
use Rattle.std.specs.Prelude.{◌≡◌, ℕ, ◌+◌, ◌*◌, ◌<◌, List, [], ◌∷◌, length}
use Rattle.std.specs.List.{AllByRecursion}
use Rattle.vl_drive.specs.Accounts.{sum_of, total_after}
use Rattle.vl_drive.specs.Knowing.{Knows}
use Rattle.vl_drive.specs.Numbers.{transfer_in}
use Rattle.vl_drive.specs.Steps.{Origin, count_by, history_by, is_end, is_ended, is_put}
use Rattle.vl_drive.specs.Turns.{AreTurns, IsOpenedBy}
use Rattle.vl_drive.specs.declared.store_run.Driven.{Driven}
use Rattle.vl_engine_model.specs.LockHistory.{IsLegal, entries_by}
use Rattle.vl_engine_model.specs.declared.lock_history.LockEntry.{LockEntry}
use Rattle.vl_model.specs.History.{last_number}
use mathlib.Core.List.{IsPrefix}

-- The list is lawful, and has steps of the sessions up to `clients` alone. The one with that number made the
-- first commit, and no step of the others stands in front of it. They took so many turns each. The commits are
-- their commits in the list, and the conflicts what they ended there without one; each end is its turn's. Both
-- together are all turns. The store's number and the sum of all balances are as they must be then.
pub record IsDriven (o : Origin) (clients txns seed commits conflicts : ℕ) (list : List LockEntry) : Type 0 where
  pub legal : IsLegal o.number list
  pub only : AllByRecursion (λ (e : LockEntry). e.session < clients + 1) list
  pub opened : IsOpenedBy clients list
  pub behind : (client : ℕ) → client < clients → entries_by client opened.before ≡ []
  pub turns : (client : ℕ) → client < clients → AreTurns o (transfer_in seed client) client list
  pub each : (client : ℕ) → client < clients → count_by is_end client list ≡ txns
  pub commits_are : commits ≡ sum_of (λ client. count_by is_put client list) clients
  pub conflicts_are : conflicts ≡ sum_of (λ client. count_by is_ended client list) clients
  pub both : commits + conflicts ≡ clients * txns
  pub number : last_number (history_by o list) ≡ o.number + commits + 1
  pub total : total_after (history_by o list) ≡ 64000

-- So it was for some list of all steps of a store that had no commit before, and the sum of all balances in the end was read.
pub record HasDriven (clients txns seed : ℕ) (d : Driven) : Type 0 where
  pub origin : Origin
  pub list : List LockEntry
  pub new : origin.number ≡ 0
  pub driven : IsDriven origin clients txns seed d.commits d.conflicts list
  pub total : d.total ≡ total_after (history_by origin list)

-- What each has seen begins the list, and its own steps are all of its in the list. The sessions count from this number on.
abbrev pub AreIn : Origin → (session : ℕ) → List LockEntry → List Knows → Type 0
AreIn o session list [] = Unit {0}
AreIn o session list (v ∷ vs) =
    (v.origin ≡ o) × (v.session ≡ session) × IsPrefix v.seen list × (v.own ≡ entries_by session list)
    × AreIn o (session + 1) list vs

-- The list of all steps that were made under a store's lock, when it was closed with these sessions, which are all that
-- it had.
pub record IsClosed (o : Origin) (vs : List Knows) (list : List LockEntry) : Type 0 where
  pub legal : IsLegal o.number list
  pub all : AreIn o 0 list vs
  pub numbers : AllByRecursion (λ (e : LockEntry). e.session < length vs) list
