-- Turns of a client in a list of steps: each begins a transaction, reads two accounts, and commits or meets a conflict.
use Rattle.std.specs.Prelude.{◌≡◌, ℕ, ◌+◌, Bool, true, ◌||◌, if◌then◌else◌, List, ◌∷◌, ◌++◌}
use Rattle.std.specs.FinMap.{entries}
use Rattle.vl_drive.specs.Accounts.{account_key, balance_after, first_balances, transfer_writes}
use Rattle.vl_drive.specs.declared.transfer.Transfer.{Transfer}
use Rattle.vl_drive.specs.Steps.{AreBy, Origin, count_by, history_by, is_aside, is_end, is_named, is_put}
use Rattle.vl_engine_model.specs.declared.lock_history.LockEntry.{LockEntry}
use Rattle.vl_engine_model.specs.declared.lock_history.LockStep.{LockStep}
use Rattle.vl_engine_model.specs.declared.lock_history.LockStep.TheVariants.{Begun, Ended, Put}
use Rattle.vl_model.specs.History.{last_number}
use Rattle.vl_model.specs.Keys.{Writes}

-- a commit among these names one of a transfer's accounts
abbrev pub is_crossed : Transfer → List LockEntry → Bool
is_crossed t list = is_named (account_key t.from) list || is_named (account_key t.to) list

-- how a transaction ends
abbrev pub end_of : (crossed : Bool) → (ticket number : ℕ) → Writes → LockStep
end_of crossed ticket number writes = if crossed then Ended ticket else Put ticket number (entries writes)

-- A session began a transaction behind the earlier steps, and since then neither began nor ended anything.
pub record InTurn (o : Origin) (session ticket : ℕ) (earlier since list : List LockEntry) : Type 0 where
  pub begun : LockEntry
  pub parts : list ≡ earlier ++ begun ∷ since
  pub mine : begun.session ≡ session
  pub begins : begun.step ≡ Begun ticket (last_number (history_by o earlier))
  pub alone : AreBy is_aside session since

-- A step ends its session's turn, behind all steps before it. The turn is a conflict just where a commit since its
-- beginning names one of its accounts; else it is the next commit, and writes the transfer on the balances that stood at
-- its beginning.
pub record EndsTurn (o : Origin) (t : Transfer) (before : List LockEntry) (e : LockEntry) : Type 0 where
  pub ticket : ℕ
  pub earlier : List LockEntry
  pub since : List LockEntry
  pub turn : InTurn o e.session ticket earlier since before
  pub ends : e.step ≡ end_of (is_crossed t since) ticket (last_number (history_by o before) + 1)
      (transfer_writes t (balance_after (history_by o earlier)))

-- each end of something that the session began is the end of a turn, which is counted by those before it
abbrev pub AreTurns : Origin → (transfers : ℕ → Transfer) → (session : ℕ) → List LockEntry → Type 0
AreTurns o transfers session list =
    (before : List LockEntry) (e : LockEntry) (after : List LockEntry) → list ≡ before ++ e ∷ after
    → e.session ≡ session → is_end e.step ≡ true
    → EndsTurn o (transfers (count_by is_end session before + 1)) before e

-- A session made just one commit, which gives each of the 64 accounts 1,000.
pub record IsOpenedBy (session : ℕ) (list : List LockEntry) : Type 0 where
  pub before : List LockEntry
  pub first : LockEntry
  pub after : List LockEntry
  pub parts : list ≡ before ++ first ∷ after
  pub mine : first.session ≡ session
  pub ticket : ℕ
  pub number : ℕ
  pub puts : first.step ≡ Put ticket number (entries (first_balances 64))
  pub once : count_by is_put session list ≡ 1
