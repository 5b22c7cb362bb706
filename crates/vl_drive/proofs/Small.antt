-- Few writes, each of an account's length: they are short.
use Rattle.std.proofs.Common.{◌≡◌, ◌≢◌, ℕ, zero, suc, ◌+◌, ◌≤◌, ◌<◌, Bool, true, false, cond, List, [], ◌∷◌, length, refl, ap, sym, ◌∙◌, subst, arith}
use Rattle.std.specs.Cmp.Lexicographic.{nat_list_cmp_total}
use Rattle.std.specs.FinMap.{contains_key, empty, entries, entries-insert, len, len-empty, len-entries, len-insert}
use Rattle.std.specs.FinMap.Entries.{by_order, put}
use Rattle.std.specs.List.{AllByRecursion}
use Rattle.std.specs.declared.cmp.Ordering.{Ordering}
use Rattle.std.specs.declared.cmp.Ordering.TheVariants.{Less, Equal, Greater}
use Rattle.vl_drive.specs.Accounts.{account_key, balance_bytes, first_balances, with_balance}
use Rattle.vl_drive.specs.Small.{IsShort, IsSmall}
use Rattle.vl_model.specs.Keys.{Writes, key_cmp, untagged}
use Rattle.vl_model.specs.declared.change.Change.{Change}
use Rattle.vl_model.specs.declared.change.Change.TheVariants.{Set}

put_short : (key : List ℕ) (change : Change) → IsShort (key, change) → (es : List (List ℕ × Change)) → AllByRecursion IsShort es
    → AllByRecursion IsShort (put key_cmp key change es)
put_short key change short [] all = (short, tt)
put_short key change short (e ∷ es) all = by (key_cmp key e.0) (put_short key change short es all.1)
  where
    by : (r : Ordering) → AllByRecursion IsShort (put key_cmp key change es)
        → AllByRecursion IsShort (by_order r ((key, change) ∷ e ∷ es) ((e.0, change) ∷ es) (e ∷ put key_cmp key change es))
    by Less rest = (short, all)
    by Equal rest = ((all.0.0, short.1), all.1)
    by Greater rest = (all.0, rest)

no_entries : (es : List (List ℕ × Change)) → length es ≡ 0 → AllByRecursion IsShort es
no_entries [] none = tt
no_entries (e ∷ es) none = absurd (omega arith)

balance_length : (balance : ℕ) → length (balance_bytes balance) ≤ 80
balance_length balance = let is : length (balance_bytes balance) ≡ 80 = refl in omega (arith, is)

-- how many they are at most
pub record IsSmallTo (n : ℕ) (writes : Writes) : Type 0 where
  pub few : len writes ≤ n
  pub short : AllByRecursion IsShort (entries writes)

pub small_none : IsSmallTo 0 empty
small_none =
    let none = len-empty key_cmp Change in
    record { few = omega (arith, none); short = no_entries (entries empty) (sym (len-entries empty) ∙ none) }

pub small_more : (n account balance : ℕ) (writes : Writes) → IsSmallTo n writes → IsSmallTo (n + 1) (with_balance account balance writes)
small_more n account balance writes small =
    let value = Set (untagged (balance_bytes balance)) in
    record {
      few = by (contains_key writes (account_key account))
          (len-insert nat_list_cmp_total writes (account_key account) value) small.few;
      short = subst (AllByRecursion IsShort) (sym (entries-insert nat_list_cmp_total writes (account_key account) value))
          (put_short (account_key account) value (refl, balance_length balance) (entries writes) small.short);
    }
  where
    by : (b : Bool) → len (with_balance account balance writes) ≡ cond b (len writes) (len writes + 1) → len writes ≤ n
        → len (with_balance account balance writes) ≤ n + 1
    by true is few = omega (arith, is, few)
    by false is few = omega (arith, is, few)

pub small_first : (n : ℕ) → IsSmallTo n (first_balances n)
small_first zero = small_none
small_first (suc n) = let more = small_more n n 1000 (first_balances n) (small_first n) in
    subst (λ m. IsSmallTo m (first_balances (suc n))) (omega arith) more

pub small_below : (n : ℕ) (writes : Writes) → n < 64 → IsSmallTo n writes → IsSmall writes
small_below n writes below small = let few = small.few in record { few = omega (arith, few, below); short = small.short }

pub first_more : (n : ℕ) → with_balance n 1000 (first_balances n) ≡ first_balances (n + 1)
first_more n = let e : n + 1 ≡ suc n = omega arith in rw e refl

-- ---- there are some

put_some : (key : List ℕ) (change : Change) (es : List (List ℕ × Change)) → put key_cmp key change es ≢ []
put_some key change [] none = absurd cc
put_some key change (e ∷ es) none = by (key_cmp key e.0) none
  where
    by : (r : Ordering) → by_order r ((key, change) ∷ e ∷ es) ((e.0, change) ∷ es) (e ∷ put key_cmp key change es) ≡ [] → ⊥
    by Less none = absurd cc
    by Equal none = absurd cc
    by Greater none = absurd cc

pub some_written : (account balance : ℕ) (writes : Writes) → entries (with_balance account balance writes) ≢ []
some_written account balance writes none =
    put_some (account_key account) (Set (untagged (balance_bytes balance))) (entries writes)
    (sym (entries-insert nat_list_cmp_total writes (account_key account) (Set (untagged (balance_bytes balance)))) ∙ none)

pub some_first : (n : ℕ) → n ≡ 64 → entries (first_balances n) ≢ []
some_first n is none =
    some_written 63 1000 (first_balances 63) (ap entries (first_more 63 ∙ ap first_balances (sym is)) ∙ none)
