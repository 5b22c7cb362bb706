-- Accounts in a store, and what a transfer writes.
use Rattle.std.specs.Prelude.{ℕ, zero, suc, ◌+◌, ◌-◌, ◌^◌, ◌==◌, min, if◌then◌else◌}
use Rattle.std.specs.Prelude.{List, [], ◌∷◌, ◌++◌, length, replicate}
use Rattle.std.specs.Prelude.{Option, Some, None}
use Rattle.std.specs.FinMap.{empty, insert}
use Rattle.byteorder.specs.Endian.{big_bytes, big_number}
use Rattle.vl_drive.specs.declared.transfer.Transfer.{Transfer}
use Rattle.vl_model.specs.History.{History, last_number, value_at}
use Rattle.vl_model.specs.Keys.{Stored, Writes, untagged}
use Rattle.vl_model.specs.declared.change.Change.TheVariants.{Set}

-- ---- balances

-- an account's key is its number, as one byte
abbrev pub account_key : ℕ → List ℕ
account_key account = account ∷ []

-- the balance in eight bytes, the greatest first, and 72 zero bytes
abbrev pub balance_bytes : ℕ → List ℕ
balance_bytes balance = big_bytes 8 balance ++ replicate 72 0

-- a value of another length counts as balance 0
abbrev pub balance_of : List ℕ → ℕ
balance_of bytes = if length bytes == 80 then big_number 8 bytes else 0

-- and so does none
abbrev pub balance_in : Option Stored → ℕ
balance_in None = 0
balance_in (Some value) = balance_of value.bytes

-- the balance of an account behind the last commit
abbrev pub balance_after : History → (account : ℕ) → ℕ
balance_after h account = balance_in (value_at h (last_number h) (account_key account))

-- of the accounts below a number
abbrev pub sum_of : (ℕ → ℕ) → ℕ → ℕ
sum_of f zero = 0
sum_of f (suc n) = f n + sum_of f n

-- the sum of all balances behind the last commit
abbrev pub total_after : History → ℕ
total_after h = sum_of (balance_after h) 64

-- ---- what is written

abbrev pub with_balance : (account balance : ℕ) → Writes → Writes
with_balance account balance writes = insert writes (account_key account) (Set (untagged (balance_bytes balance)))

-- each account below a number gets 1,000
abbrev pub first_balances : ℕ → Writes
first_balances zero = empty
first_balances (suc n) = with_balance n 1000 (first_balances n)

-- the whole balance where that is less than what is asked for
abbrev pub moved : Transfer → (balance : ℕ) → ℕ
moved t balance = min t.most balance

-- a sum that eight bytes don't hold counts as the greatest number that they do
abbrev pub added : ℕ → ℕ → ℕ
added balance amount = min (balance + amount) (2 ^ 64 - 1)

-- what a transfer writes, where these are the balances
abbrev pub transfer_writes : Transfer → (ℕ → ℕ) → Writes
transfer_writes t balance =
    with_balance t.to (added (balance t.to) (moved t (balance t.from)))
    (with_balance t.from (balance t.from - moved t (balance t.from)) empty)
