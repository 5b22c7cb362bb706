-- Balances behind one more commit, and behind commits that don't name an account.
use Rattle.std.proofs.Common.{◌≡◌, ◌≢◌, ℕ, zero, suc, ◌+◌, ◌-◌, ◌*◌, ◌^◌, ◌<◌, ◌≤◌, ◌==◌, Bool, true, false, cond, ◌||◌}
use Rattle.std.proofs.Common.{List, [], ◌∷◌, ◌++◌}
use Rattle.std.proofs.Common.{min, refl, ap, sym, ◌∙◌, subst, arith, length-append}
use Rattle.std.proofs.lemmas.Bool.{false≢true}
use Rattle.std.proofs.lemmas.Bool.Decides.{nat_tests}
use Rattle.std.specs.Cmp.Lexicographic.{nat_list_cmp_total}
use Rattle.std.specs.FinMap.{empty, entries, entries_sorted, from_sorted, get, get-empty, get-entries, get-from_sorted}
use Rattle.std.specs.FinMap.{get-insert}
use Rattle.std.specs.Ordering.{eq_by_cmp, is_eq}
use Rattle.std.specs.Prelude.{Option, Some, None, is_some}
use Rattle.vl_drive.specs.Accounts.{account_key, added, balance_after, balance_bytes, balance_in, first_balances, moved}
use Rattle.vl_drive.specs.Accounts.{sum_of, total_after}
use Rattle.vl_drive.specs.Accounts.{transfer_writes, with_balance}
use Rattle.vl_drive.specs.Steps.{Origin, history_by, is_named, names}
use Rattle.vl_drive.specs.declared.transfer.Transfer.{Transfer}
use Rattle.vl_drive.specs.laws.SinceLaws.{newer-assoc, newer-none}
use Rattle.vl_drive.specs.laws.TurnLaws.{balance_read}
use Rattle.vl_drive.proofs.Sums.{sum-moved, sum-reaches, sum-same, with_at}
use Rattle.vl_engine_model.specs.LockHistory.{commits_of, put_after}
use Rattle.vl_engine_model.specs.declared.lock_history.LockEntry.{LockEntry}
use Rattle.vl_engine_model.specs.declared.lock_history.LockStep.{LockStep}
use Rattle.vl_engine_model.specs.declared.lock_history.LockStep.TheVariants.{Begun, Changed, Ended, JobEnded, PassEnded}
use Rattle.vl_engine_model.specs.declared.lock_history.LockStep.TheVariants.{Picked, Planned, Put}
use Rattle.vl_model.specs.History.{History, last_change, last_number, newer, past_value, value_at, value_left, with_commit}
use Rattle.vl_model.specs.Keys.{Stored, Writes, key_cmp, untagged}
use Rattle.vl_model.specs.declared.change.Change.{Change}
use Rattle.vl_model.specs.declared.change.Change.TheVariants.{Set}
use Rattle.vl_model.specs.laws.HistoryLaws.{min-high, take_all, value_at-with_commit}
use Rattle.vl_model.specs.laws.WinnerLaws.{key_tied, same_key}

-- ---- commits that don't name an account

-- what stands behind the last commit is what the last change left
standing : (h : History) (key : List ℕ)
    → value_at h (last_number h) key ≡ value_left (past_value h.base h.first key) (last_change h.commits key)
standing h key =
    ap (λ (commits : List Writes). value_left (past_value h.base (min (last_number h) h.first) key)
    (last_change commits key))
    (take_all h.commits (last_number h - h.first) (omega arith))
    ∙ ap (λ (n : ℕ). value_left (past_value h.base n key) (last_change h.commits key))
    (min-high (last_number h) h.first (omega arith))

change-parts : (commits later : List Writes) (key : List ℕ)
    → last_change (commits ++ later) key ≡ newer (last_change commits key) (last_change later key)
change-parts [] later key = sym (newer-none (last_change later key))
change-parts (writes ∷ commits) later key =
    ap (newer (get writes key)) (change-parts commits later key)
    ∙ newer-assoc (get writes key) (last_change commits key) (last_change later key)

unnamed-change : (es : List LockEntry) (key : List ℕ) → is_named key es ≡ false → last_change (commits_of es) key ≡ None
unnamed-change [] key none = refl
unnamed-change (e ∷ es) key none = by_step e.step none (λ rest. unnamed-change es key rest)
  where
    by_written : (o : Option Change) → (is_some o || is_named key es) ≡ false
        → (is_named key es ≡ false → last_change (commits_of es) key ≡ None)
        → newer o (last_change (commits_of es) key) ≡ None
    by_written None none rest = ap (newer None) (rest none)
    by_written (Some change) none rest = absurd (false≢true (sym none))

    by_step : (step : LockStep) → (names key step || is_named key es) ≡ false
        → (is_named key es ≡ false → last_change (commits_of es) key ≡ None)
        → last_change (put_after step (commits_of es)) key ≡ None
    by_step (Begun ticket number) none rest = rest none
    by_step (Put ticket number writes) none rest =
        let written : Writes = from_sorted writes in by_written (get written key) none rest
    by_step (Ended ticket) none rest = rest none
    by_step Planned none rest = rest none
    by_step JobEnded none rest = rest none
    by_step Picked none rest = rest none
    by_step PassEnded none rest = rest none
    by_step Changed none rest = rest none

-- an account that no later step names keeps its balance
pub balance-kept : (o : Origin) (earlier since list : List LockEntry)
    → commits_of list ≡ commits_of earlier ++ commits_of since
    → (account : ℕ) → is_named (account_key account) since ≡ false
    → balance_after (history_by o list) account ≡ balance_after (history_by o earlier) account
balance-kept o earlier since list are account none =
    let key = account_key account in
    let past = past_value o.base o.number key in
    ap balance_in
    (standing (history_by o list) key
    ∙ ap (λ (commits : List Writes). value_left past (last_change commits key)) are
    ∙ ap (value_left past) (change-parts (commits_of earlier) (commits_of since) key)
    ∙ ap (λ (change : Option Change). value_left past (newer (last_change (commits_of earlier) key) change))
    (unnamed-change since key none)
    ∙ sym (standing (history_by o earlier) key))

-- ---- one more commit

account_is : (x a : ℕ) → eq_by_cmp key_cmp (account_key x) (account_key a) ≡ (x == a)
account_is x a = by_test (x == a) refl
  where
    by_tied : (x == a) ≡ false → (c : Bool) → eq_by_cmp key_cmp (account_key x) (account_key a) ≡ c → c ≡ false
    by_tied other true tied =
        let keys : x ∷ [] ≡ a ∷ [] = same_key (account_key x) (account_key a) tied in
        let same : x ≡ a = cc in
        let no : (x == a) ≡ true = grind (arith, nat_tests) in
        absurd (false≢true (sym other ∙ no))
    by_tied other false tied = refl

    by_test : (b : Bool) → (x == a) ≡ b → eq_by_cmp key_cmp (account_key x) (account_key a) ≡ b
    by_test true is =
        let same : x ≡ a = grind (arith, nat_tests) in
        subst (λ (k : ℕ). eq_by_cmp key_cmp (account_key x) (account_key k) ≡ true) same
        (ap is_eq (key_tied (account_key x)))
    by_test false is = by_tied is (eq_by_cmp key_cmp (account_key x) (account_key a)) refl

-- a list of writes, read back
abbrev pub read_back : Writes → Writes
read_back writes = from_sorted (entries writes)

balance-committed : (h : History) (writes : Writes) (account : ℕ)
    → balance_after (with_commit h (read_back writes)) account
    ≡ balance_in (value_left (value_at h (last_number h) (account_key account)) (get writes (account_key account)))
balance-committed h writes account =
    let key = account_key account in
    let next : last_number (with_commit h (read_back writes)) ≡ last_number h + 1 =
    omega (arith, length-append h.commits (read_back writes ∷ [])) in
    let written : get (read_back writes) key ≡ get writes key =
    get-from_sorted key_cmp (entries writes) key (entries_sorted writes) ∙ sym (get-entries writes key) in
    ap (λ (n : ℕ). balance_in (value_at (with_commit h (read_back writes)) n key)) next
    ∙ ap balance_in (value_at-with_commit h (read_back writes) key
    ∙ ap (value_left (value_at h (last_number h) key)) written)

-- an account's balance is written, and the others' aren't
balance-written : (old : Option Stored) (at balance : ℕ) (writes : Writes) (account : ℕ) → balance < 2 ^ 64
    → balance_in (value_left old (get (with_balance at balance writes) (account_key account)))
    ≡ cond (account == at) balance (balance_in (value_left old (get writes (account_key account))))
balance-written old at balance writes account fits =
    ap (λ (o : Option Change). balance_in (value_left old o))
    (get-insert nat_list_cmp_total writes (account_key at) (Set (untagged (balance_bytes balance))) (account_key account))
    ∙ ap (λ (b : Bool). balance_in (value_left old
    (cond b (Some (Set (untagged (balance_bytes balance)))) (get writes (account_key account))))) (account_is account at)
    ∙ by_test (account == at)
  where
    by_test : (b : Bool)
        → balance_in (value_left old
        (cond b (Some (Set (untagged (balance_bytes balance)))) (get writes (account_key account))))
        ≡ cond b balance (balance_in (value_left old (get writes (account_key account))))
    by_test true = balance_read balance fits
    by_test false = refl

-- ---- the first commit

first-set : (n account : ℕ) (old : Option Stored) → account < n
    → balance_in (value_left old (get (first_balances n) (account_key account))) ≡ 1000
first-set zero account old less = absurd (omega (arith, less))
first-set (suc n) account old less =
    balance-written old n 1000 (first_balances n) account (omega arith)
    ∙ by_test (account == n) refl (λ below. first-set n account old below)
  where
    by_test : (b : Bool) → (account == n) ≡ b
        → (account < n → balance_in (value_left old (get (first_balances n) (account_key account))) ≡ 1000)
        → cond b 1000 (balance_in (value_left old (get (first_balances n) (account_key account)))) ≡ 1000
    by_test true is rest = refl
    by_test false is rest = let below : account < n = grind (arith, nat_tests, less, is) in rest below

all-alike : (n : ℕ) → sum_of (λ k. 1000) n ≡ n * 1000
all-alike zero = refl
all-alike (suc n) = let rest = all-alike n in omega (arith, rest)

sum-first : (h : History) (n : ℕ) → sum_of (balance_after (with_commit h (read_back (first_balances n)))) n ≡ n * 1000
sum-first h n =
    sum-same (λ k. 1000) (balance_after (with_commit h (read_back (first_balances n)))) n
    (λ k less. balance-committed h (first_balances n) k ∙ first-set n k (value_at h (last_number h) (account_key k)) less)
    ∙ all-alike n

-- behind it all have 64,000
pub total-first : (h : History) → total_after (with_commit h (read_back (first_balances 64))) ≡ 64000
total-first h = sum-first h 64

-- ---- a transfer

module _ (h : History) (t : Transfer) (old : ℕ → ℕ) (from_is : old t.from ≡ balance_after h t.from)
    (to_is : old t.to ≡ balance_after h t.to)
    (less : t.from < 64) (less' : t.to < 64) (apart : t.from ≢ t.to) (total : total_after h ≡ 64000) where
  abbrev amount : ℕ
  amount = moved t (old t.from)

  transfer-leaves : (account : ℕ) → old t.from ≤ 64000
      → balance_after (with_commit h (read_back (transfer_writes t old))) account
      ≡ with_at (with_at (balance_after h) t.from (old t.from - amount)) t.to (added (old t.to) amount) account
  transfer-leaves account bound =
      let key = account_key account in
      let stood = value_at h (last_number h) key in
      balance-committed h (transfer_writes t old) account
      ∙ balance-written stood t.to (added (old t.to) amount) (with_balance t.from (old t.from - amount) empty) account
      (omega arith)
      ∙ ap (cond (account == t.to) (added (old t.to) amount))
      (balance-written stood t.from (old t.from - amount) empty account (omega (arith, bound))
      ∙ ap (λ (o : Option Change). cond (account == t.from) (old t.from - amount) (balance_in (value_left stood o)))
      (get-empty key_cmp key))

  -- a transfer keeps the total
  pub total-moved : total_after (with_commit h (read_back (transfer_writes t old))) ≡ 64000
  total-moved =
      let f = balance_after h in
      let few = sum-reaches f t.from 64 less in
      let few' = sum-reaches f t.to 64 less' in
      let some : amount ≤ f t.from = omega (arith, from_is) in
      let left : old t.from - amount ≡ f t.from - amount = omega (arith, from_is) in
      let more : added (old t.to) amount ≡ f t.to + amount = omega (arith, to_is, from_is, few, few', total) in
      sum-same (with_at (with_at f t.from (f t.from - amount)) t.to (f t.to + amount))
      (balance_after (with_commit h (read_back (transfer_writes t old)))) 64
      (λ account below. transfer-leaves account (omega (arith, from_is, few, total))
      ∙ ap (λ (v : ℕ). with_at (with_at f t.from v) t.to (added (old t.to) amount) account) left
      ∙ ap (λ (v : ℕ). with_at (with_at f t.from (f t.from - amount)) t.to v account) more)
      ∙ sum-moved f t.from t.to amount 64 less less' apart some ∙ total
