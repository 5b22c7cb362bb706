-- A short write beside few such writes passes no limit.
use Rattle.std.proofs.Common.{◌≡◌, ℕ, ◌+◌, ◌*◌, ◌≤◌, ◌<◌, ◌==◌, Bool, true, false, cond, not, List, [], ◌∷◌, length, refl, sym, subst, arith}
use Rattle.std.proofs.lemmas.Bool.Decides.{nat_tests}
use Rattle.std.proofs.lemmas.List.Sums.{sum_by-cons}
use Rattle.std.specs.Cmp.Lexicographic.{nat_list_cmp_total}
use Rattle.std.specs.FinMap.{contains_key, entries, entries-insert, insert, len, len-entries, len-insert}
use Rattle.std.specs.FinMap.Entries.{by_order, put}
use Rattle.std.specs.List.{AllByRecursion}
use Rattle.std.specs.Prelude.{Option, None, Some, nat_le, ◌&&◌, sum_by}
use Rattle.std.specs.declared.cmp.Ordering.{Ordering}
use Rattle.std.specs.declared.cmp.Ordering.TheVariants.{Less, Equal, Greater}
use Rattle.vl_drive.specs.Small.{IsShort, IsSmall}
use Rattle.vl_model.specs.Formats.{log_format}
use Rattle.vl_model.specs.Keys.{Writes, is_key_length, is_value_length, key_cmp, untagged, value_bytes}
use Rattle.vl_model.specs.Limits.{max_key_bytes, max_transaction_bytes, max_transaction_keys}
use Rattle.vl_model.specs.declared.change.Change.{Change}
use Rattle.vl_model.specs.declared.change.Change.TheVariants.{Set}
use Rattle.vl_txn.specs.Refusals.{fits_transaction, refused_write, write_bytes}
use Rattle.vl_txn.specs.declared.set_fail.SetFail.{SetFail}
use Rattle.vl_txn.specs.declared.set_fail.SetFail.TheVariants.{EmptyKey, KeyTooLong, TooBig, ValueTooLong}
use Rattle.vlstore.proofs.KeyLengths.{key_within, short_key, some_key}

put_short : (key : List ℕ) (change : Change) → IsShort (key, change) → (es : List (List ℕ × Change)) → AllByRecursion IsShort es
    → AllByRecursion IsShort (put key_cmp key change es)
put_short key change short [] all = (short, tt)
put_short key change short (e ∷ es) all = by (key_cmp key e.0) (put_short key change short es all.1)
  where
    by : (r : Ordering) → AllByRecursion IsShort (put key_cmp key change es)
        → AllByRecursion IsShort (by_order r ((key, change) ∷ e ∷ es) ((e.0, change) ∷ es) (e ∷ put key_cmp key change es))
    by Less rest = (short, all)
    by Equal rest = ((all.0.0, short.1), all.1)
    by Greater rest = (all.0, rest)

abbrev bytes_of : List (List ℕ × Change) → ℕ
bytes_of es = sum_by (λ (write : List ℕ × Change). length write.0 + length (value_bytes write.1)) es

few_bytes : (es : List (List ℕ × Change)) → AllByRecursion IsShort es → bytes_of es ≤ 4176 * length es
few_bytes [] all = omega arith
few_bytes (e ∷ es) all =
    let one = (key_within (length e.0) all.0.0).1 in
    let value = all.0.1 in
    let rest = few_bytes es all.1 in
    let sum = sum_by-cons (λ (write : List ℕ × Change). length write.0 + length (value_bytes write.1)) e es in
    omega (arith, one, value, rest, sum)

abbrev tested : Bool → Bool → Bool → Bool → Option SetFail
tested empty short_key short_value fits =
    cond empty (Some EmptyKey)
    (cond (not short_key) (Some KeyTooLong) (cond (not short_value) (Some ValueTooLong) (cond fits None (Some TooBig))))

all_passed : (a b v f : Bool) → a ≡ false → b ≡ true → v ≡ true → f ≡ true → tested a b v f ≡ None
all_passed a b v f a_is b_is v_is f_is =
    subst (λ (x : Bool). tested x b v f ≡ None) (sym a_is)
    (subst (λ (x : Bool). tested false x v f ≡ None) (sym b_is)
    (subst (λ (x : Bool). tested false true x f ≡ None) (sym v_is)
    (subst (λ (x : Bool). tested false true true x ≡ None) (sym f_is) refl)))

value_fits : (n : ℕ) → n ≤ 80 → nat_le n 8388608 ≡ true
value_fits n few = grind (arith, nat_tests)

short_value : (n : ℕ) → n ≤ 80 → is_value_length log_format n ≡ true
short_value n few = value_fits n few

both : (a b : Bool) → a ≡ true → b ≡ true → (a && b) ≡ true
both a b a_is b_is = subst (λ (x : Bool). (x && b) ≡ true) (sym a_is) b_is

few_keys : (n : ℕ) → n ≤ 64 → nat_le n max_transaction_keys ≡ true
few_keys n few = grind (arith, nat_tests)

fits_in : (n : ℕ) → n ≤ 4176 * 64 → nat_le n max_transaction_bytes ≡ true
fits_in n few = grind (arith, nat_tests)

module _ (writes : Writes) (key value : List ℕ) (lawful : is_key_length (length key) ≡ true) (short : length value ≤ 80)
    (small : IsSmall writes) where
  abbrev change : Change
  change = Set (untagged value)

  few_then : len (insert writes key change) ≤ 64
  few_then = by (contains_key writes key) (len-insert nat_list_cmp_total writes key change) small.few
    where
      by : (b : Bool) → len (insert writes key change) ≡ cond b (len writes) (len writes + 1) → len writes < 64
          → len (insert writes key change) ≤ 64
      by true is few = omega (arith, is, few)
      by false is few = omega (arith, is, few)

  short_then : AllByRecursion IsShort (entries (insert writes key change))
  short_then = subst (AllByRecursion IsShort) (sym (entries-insert nat_list_cmp_total writes key change))
      (put_short key change (lawful, short) (entries writes) small.short)

  bytes_then : write_bytes (insert writes key change) ≤ 4176 * 64
  bytes_then =
      let bytes = few_bytes (entries (insert writes key change)) short_then in
      let count = len-entries (insert writes key change) in
      let few = few_then in
      omega (arith, bytes, count, few)

  pub within_limits : refused_write writes key change ≡ None
  within_limits =
      all_passed (length key == 0) (nat_le (length key) max_key_bytes) (is_value_length log_format (length (value_bytes change)))
      (fits_transaction (insert writes key change))
      (some_key (length key) (key_within (length key) lawful).0) (short_key (length key) (key_within (length key) lawful).1)
      (short_value (length value) short)
      (both (nat_le (len (insert writes key change)) max_transaction_keys)
      (nat_le (write_bytes (insert writes key change)) max_transaction_bytes)
      (few_keys (len (insert writes key change)) few_then) (fits_in (write_bytes (insert writes key change)) bytes_then))
