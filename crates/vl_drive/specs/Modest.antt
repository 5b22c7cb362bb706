-- Shops with little alive and few commits, so that a store of them never has too many.
use Rattle.std.specs.Prelude.{◌≡◌, ◌≤◌, ℕ, ◌+◌, List, [], ◌∷◌, length}
use Rattle.std.specs.List.{AllByRecursion}
use Rattle.vl_drive.specs.Knowing.{Knows}
use Rattle.vl_drive.specs.Steps.{count_by, is_put}
use Rattle.vl_engine_model.specs.LockHistory.{open_tickets}
use Rattle.vl_engine_model.specs.declared.lock_history.LockEntry.{LockEntry}
use mathlib.Core.List.{IsPrefix}

-- behind each of these steps at most one of their session's transactions lives
abbrev pub HasFew : List LockEntry → Type 0
HasFew own = (before : List LockEntry) → IsPrefix before own → length (open_tickets [] before) ≤ 1

-- Behind each of its own steps at most one of its transactions lives, and it made at most one commit for each turn, and one more.
pub record IsModest (turns : ℕ) (v : Knows) : Type 0 where
  pub live : HasFew v.own
  pub puts : count_by is_put v.session v.own ≤ turns + 1

-- It is between its turns: nothing of it lives, and it made at most one commit for each turn.
pub record IsIdle (turns : ℕ) (v : Knows) : Type 0 where
  pub live : HasFew v.own
  pub none : open_tickets [] v.own ≡ []
  pub puts : count_by is_put v.session v.own ≤ turns

-- It is in a turn behind so many: of it lives just the transaction with this ticket, which reads at this number.
pub record IsBusy (ticket number turns : ℕ) (v : Knows) : Type 0 where
  pub live : HasFew v.own
  pub one : open_tickets [] v.own ≡ record { session = v.session; ticket = ticket; number = number } ∷ []
  pub puts : count_by is_put v.session v.own ≤ turns

-- ---- many

abbrev pub AreModest : (turns : ℕ) → List Knows → Type 0
AreModest turns vs = AllByRecursion (IsModest turns) vs
