-- A whole turn, of its calls.
use Rattle.std.proofs.Common.{◌≡◌, ℕ, ◌-◌, Bool, true, false, ◌||◌, List, [], ◌∷◌, refl, ap, ◌∙◌}
use Rattle.std.specs.FinMap.{empty, entries}
use Rattle.std.specs.Ordering.{eq_by_cmp}
use Rattle.vl_drive.proofs.Playing.{turn_taken}
use Rattle.vl_drive.specs.Accounts.{account_key, added, balance_after, balance_in, moved, transfer_writes, with_balance}
use Rattle.vl_drive.specs.Answers.{asked}
use Rattle.vl_drive.specs.Knowing.{GoesOn, Knows, Looks}
use Rattle.vl_drive.specs.Playing.{HasBegun, HasEnded, HasTaken}
use Rattle.vl_drive.specs.Steps.{history_by}
use Rattle.vl_drive.specs.declared.transfer.Transfer.{Transfer}
use Rattle.vl_drive.specs.laws.TurnLaws.{AreOfAccounts, turn_values}
use Rattle.vl_engine_model.specs.declared.lock_history.LockEntry.{LockEntry}
use Rattle.vl_model.specs.History.{History, value_at}
use Rattle.vl_model.specs.Keys.{Writes, key_cmp}
use Rattle.vl_model.specs.Reads.{KeyRead, Read}

-- ---- reads

or_either : (x y : Bool) → (x || (y || false)) ≡ (x || y)
or_either true y = refl
or_either false true = refl
or_either false false = refl

-- what a turn has read
abbrev pub reads_of : Transfer → (h : History) (number : ℕ) → List Read
reads_of t h number =
    KeyRead (account_key t.from) (value_at h number (account_key t.from))
    ∷ KeyRead (account_key t.to) (value_at h number (account_key t.to)) ∷ []

pub of_accounts : (t : Transfer) (h : History) (number : ℕ) → AreOfAccounts t (reads_of t h number)
of_accounts t h number key =
    or_either (eq_by_cmp key_cmp key (account_key t.from)) (eq_by_cmp key_cmp key (account_key t.to))

-- ---- a turn

-- what is written where these were read
abbrev pub written : Transfer → (from to : ℕ) → Writes
written t from to = with_balance t.to (added to (moved t from)) (with_balance t.from (from - moved t from) empty)

module _ (ticket number : ℕ) (before : List LockEntry) (v u : Knows) (b : HasBegun ticket number before v u) where
  balance_was : (account : ℕ) → balance_in (value_at (history_by u.origin u.seen) number (account_key account))
      ≡ balance_after (history_by u.origin before) account
  balance_was account =
      ap balance_in (ap (λ n. value_at (history_by u.origin u.seen) n (account_key account)) b.number_is
      ∙ turn_values u.origin u.session ticket before [] u.seen (account_key account) b.turn)

  pub turn_done : (t : Transfer) (committed : Bool) (x w : Knows) (from to : ℕ) → GoesOn v u → Looks u x
      → from ≡ balance_in (value_at (history_by u.origin u.seen) number (account_key t.from))
      → to ≡ balance_in (value_at (history_by u.origin u.seen) number (account_key t.to))
      → HasEnded (asked ticket number (reads_of t (history_by u.origin u.seen) number) (entries (written t from to))) committed x w
      → HasTaken t committed v w
  turn_done t committed x w from to on l from_is to_is e =
      let h = history_by u.origin u.seen in
      let f = balance_after (history_by u.origin before) in
      let same : written t from to ≡ transfer_writes t f =
      ap (λ n. written t n to) (from_is ∙ balance_was t.from) ∙ ap (λ n. written t (f t.from) n) (to_is ∙ balance_was t.to) in
      turn_taken t committed v u x w ticket number before (reads_of t h number) (entries (written t from to)) on b l
      (of_accounts t h number) (ap entries same) e
