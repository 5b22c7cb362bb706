-- The list of what a transaction has written, and the map that it stands for.
use Rattle.std.proofs.Common.{◌≡◌, ℕ, ◌+◌, ◌≤◌, ◌<◌, Bool, true, false, cond, ◌&&◌, List, [], ◌∷◌, length, refl, ap}
use Rattle.std.proofs.Common.{sym, ◌∙◌, subst, arith, IsTrue, T, Bor, slice_get, get_or, set, inl, inr}
use Rattle.std.specs.Prelude.{Option, Some, None, is_some}
use Rattle.std.specs.Option.{option_copied}
use Rattle.std.specs.Slice.{IsItemAt}
use Rattle.std.specs.Str.{bytes_eq}
use Rattle.std.specs.List.{AllByRecursion, insert, prefix_len}
use Rattle.std.specs.declared.cmp.Ordering.{Ordering}
use Rattle.std.specs.declared.cmp.Ordering.TheVariants.{Less, Equal, Greater}
use Rattle.std.specs.Ordering.{is_gt, is_lt, is_eq, eq_by_cmp, ordering_reverse}
use Rattle.std.specs.Cmp.Lexicographic.{nat_list_cmp_total}
use Rattle.std.specs.FinMap as map
use Rattle.std.specs.FinMap.{get, entries, len, empty, find, put, is_sorted, entries-from_sorted, get-from_sorted}
use Rattle.std.specs.FinMap.{entries-insert, same_entries_map, len-entries, len-insert, empty_of_len}
use Rattle.std.specs.FinMap.Entries.{below_all, by_order, is_sorted-put}
use Rattle.std.proofs.lemmas.Bool.{cond-true, cond-false, cases_lt, and_parts, leb-true}
use Rattle.std.proofs.lemmas.Option.{slice_get_past}
use Rattle.std.proofs.lemmas.List.Sums.{sum_by-cons}
use Rattle.std.proofs.lemmas.Map.Text.{is_eq-slice_cmp}
use Rattle.vl_model.specs.Keys.{Writes, key_cmp, value_bytes}
use Rattle.vl_model.specs.declared.change.Change.{Change}
use Rattle.vl_model.specs.Limits.{max_transaction_bytes, max_transaction_keys}
use Rattle.vl_txn.specs.Refusals.{write_bytes, fits_transaction}
use Rattle.vl_txn.specs.Writes.{Write, IsLawful, writes_of, is_above, entry_bytes, AreWrites}
use Rattle.vl_txn.proofs.Places.{IsParted, first_failing, put_before, replace_first, slice_get-item}
use Rattle.vl_txn.proofs.Places.{slice_get-prefix_len, slice_get_at, set-prefix_len, insert-prefix_len}

-- ---- the map of a list in order

sorted_test : (list : List Write) → IsTrue (is_sorted key_cmp list) → T (is_sorted key_cmp list)
sorted_test list sorted = subst T (sym sorted) tt

tested : (b : Bool) → T b → IsTrue b
tested true h = refl
tested false h = absurd h

pub entries-writes_of : (list : List Write) → IsTrue (is_sorted key_cmp list) → entries (writes_of list) ≡ list
entries-writes_of list sorted = entries-from_sorted key_cmp list (sorted_test list sorted)

pub get-writes_of : (list : List Write) (key : List ℕ) → IsTrue (is_sorted key_cmp list) → get (writes_of list) key ≡ find key_cmp key list
get-writes_of list key sorted = get-from_sorted key_cmp list key (sorted_test list sorted)

pub len-writes_of : (list : List Write) → IsTrue (is_sorted key_cmp list) → len (writes_of list) ≡ length list
len-writes_of list sorted = len-entries (writes_of list) ∙ ap length (entries-writes_of list sorted)

pub writes_of-none : writes_of [] ≡ empty
writes_of-none = empty_of_len (writes_of []) (len-writes_of [] refl)

pub put_sorted : (list : List Write) (key : List ℕ) (change : Change) → IsTrue (is_sorted key_cmp list)
    → IsTrue (is_sorted key_cmp (put key_cmp key change list))
put_sorted list key change sorted = tested _ (is_sorted-put key_cmp nat_list_cmp_total key change list (sorted_test list sorted))

pub insert-writes_of : (list : List Write) (key : List ℕ) (change : Change) → IsTrue (is_sorted key_cmp list)
    → map.insert (writes_of list) key change ≡ writes_of (put key_cmp key change list)
insert-writes_of list key change sorted =
    same_entries_map _ _ (
    entries-insert nat_list_cmp_total (writes_of list) key change
    ∙ ap (put key_cmp key change) (entries-writes_of list sorted)
    ∙ sym (entries-writes_of (put key_cmp key change list) (put_sorted list key change sorted)))

-- ---- lawful writes

put-lawful_at : (key : List ℕ) (change : Change) (x : Write) (list later : List Write) (r : Ordering)
    → IsLawful (key, change) → AllByRecursion IsLawful (x ∷ list) → AllByRecursion IsLawful later →
    AllByRecursion IsLawful (by_order r ((key, change) ∷ x ∷ list) ((x.0, change) ∷ list) (x ∷ later))
put-lawful_at key change x list later Less lawful are more = (lawful, are)
put-lawful_at key change x list later Equal lawful are more = (record { key = are.0.key; value = lawful.value }, are.1)
put-lawful_at key change x list later Greater lawful are more = (are.0, more)

-- a lawful write leaves lawful writes
pub put-lawful : (list : List Write) (key : List ℕ) (change : Change) → IsLawful (key, change)
    → AllByRecursion IsLawful list → AllByRecursion IsLawful (put key_cmp key change list)
put-lawful [] key change lawful are = (lawful, tt)
put-lawful (x ∷ list) key change lawful are =
    put-lawful_at key change x list (put key_cmp key change list) (key_cmp key x.0) lawful are (put-lawful list key change lawful are.1)

-- ---- a key's place

T_parts : (a b : Bool) → T (a && b) → T a × T b
T_parts true b h = (tt, h)
T_parts false b h = absurd h

lt-is : (r : Ordering) → T (is_lt r) → r ≡ Less
lt-is Less h = refl
lt-is Equal h = absurd h
lt-is Greater h = absurd h

gt-is : (r : Ordering) → is_gt r ≡ true → r ≡ Greater
gt-is Less h = cc
gt-is Equal h = cc
gt-is Greater h = refl

-- a key above a later one is above an earlier one
above_earlier : (key a b : List ℕ) → key_cmp a b ≡ Less → is_gt (key_cmp key b) ≡ true → is_gt (key_cmp key a) ≡ true
above_earlier key a b less above =
    let later : key_cmp b key ≡ Less = nat_list_cmp_total.antisymm b key ∙ ap ordering_reverse (gt-is _ above) in
    ap is_gt (nat_list_cmp_total.antisymm key a ∙ ap ordering_reverse (nat_list_cmp_total.trans a b key less later))

parted_head : (key : List ℕ) (e : Write) (es : List Write) → T (below_all key_cmp e.0 es)
    → AllByRecursion (λ later. is_above key later ≡ true → is_above key e ≡ true) es
parted_head key e [] below = tt
parted_head key e (later ∷ es) below =
    let parts = T_parts _ _ below in
    (above_earlier key e.0 later.0 (lt-is _ parts.0), parted_head key e es parts.1)

parted : (key : List ℕ) (list : List Write) → T (is_sorted key_cmp list) → IsParted (is_above key) list
parted key [] sorted = tt
parted key (e ∷ es) sorted =
    let parts = T_parts _ _ sorted in
    (parted_head key e es parts.0, parted key es parts.1)

pub is_sorted-parted : (key : List ℕ) (list : List Write) → IsTrue (is_sorted key_cmp list) → IsParted (is_above key) list
is_sorted-parted key list sorted = parted key list (sorted_test list sorted)

-- the change of an entry, where it is of the key
abbrev pub change_of : List ℕ → Option Write → Option Change
change_of key None = None
change_of key (Some e) = cond (eq_by_cmp key_cmp key e.0) (Some e.1) None

find_above : (key : List ℕ) (es : List Write) (k : List ℕ) → key_cmp key k ≡ Less → T (below_all key_cmp k es) → find key_cmp key es ≡ None
find_above key [] k less below = refl
find_above key (e ∷ es) k less below =
    let parts = T_parts _ _ below in
    let apart : key_cmp key e.0 ≡ Less = nat_list_cmp_total.trans key k e.0 less (lt-is _ parts.0) in
    rw (ap is_eq apart) (find_above key es k less parts.1)

find-place : (key : List ℕ) (list : List Write) → T (is_sorted key_cmp list)
    → find key_cmp key list ≡ change_of key (first_failing (is_above key) list)
find-place key [] sorted = refl
find-place key (e ∷ es) sorted =
    let parts = T_parts _ _ sorted in
    elim (key_cmp key e.0) as
    (λ r. key_cmp key e.0 ≡ r → cond (is_eq r) (Some e.1) (find key_cmp key es) ≡ change_of key
    (cond (is_gt r) (first_failing (is_above key) es) (Some e))) [
      | Less ↦ λ k. find_above key es e.0 k parts.0 ∙ sym (ap (λ r. cond (is_eq r) (Some e.1) None) k)
      | Equal ↦ λ k. sym (ap (λ r. cond (is_eq r) (Some e.1) None) k)
      | Greater ↦ λ k. find-place key es parts.1
    ] refl

-- what `get` lends at the key's place says what `find` gives
pub find-item : (key : List ℕ) (list lent : List Write) (at : ℕ) (r : Option (Bor Write))
    → IsTrue (is_sorted key_cmp list) → lent ≡ list → at ≡ prefix_len (is_above key) list → IsItemAt lent at r →
    change_of key (option_copied r) ≡ get (writes_of list) key
find-item key list lent at r sorted same place item =
    ap (change_of key) (slice_get-item lent at r item ∙ ap (slice_get lent) place
    ∙ ap (λ l. slice_get l (prefix_len (is_above key) list)) same ∙ slice_get-prefix_len (is_above key) list)
    ∙ sym (get-writes_of list key sorted ∙ find-place key list (sorted_test list sorted))

pub change_of-same : (key : List ℕ) (e : Write) → bytes_eq key e.0 ≡ true → change_of key (Some e) ≡ Some e.1
change_of-same key e same = cond-true _ _ _ (is_eq-slice_cmp key e.0 ∙ same)

pub change_of-other : (key : List ℕ) (e : Write) → bytes_eq key e.0 ≡ false → change_of key (Some e) ≡ None
change_of-other key e other = cond-false _ _ _ (is_eq-slice_cmp key e.0 ∙ other)

-- ---- a write at a key's place

abbrev pub placed : List ℕ → Change → Option Write → List Write → List Write
placed key change None list = put_before (is_above key) (key, change) list
placed key change (Some e) list = cond (eq_by_cmp key_cmp key e.0) (replace_first (is_above key) (e.0, change) list)
    (put_before (is_above key) (key, change) list)

placed_later : (key : List ℕ) (change : Change) (o : Option Write) (x : Write) (list : List Write)
    → is_above key x ≡ true → placed key change o (x ∷ list) ≡ x ∷ placed key change o list
placed_later key change None x list above = cond-true _ _ _ above
placed_later key change (Some e) x list above =
    elim (eq_by_cmp key_cmp key e.0) as (λ b.
    cond b (cond (is_above key x) (x ∷ replace_first (is_above key) (e.0, change) list) ((e.0, change) ∷ list))
    (cond (is_above key x) (x ∷ put_before (is_above key) (key, change) list) ((key, change) ∷ x ∷ list))
    ≡ x ∷ cond b (replace_first (is_above key) (e.0, change) list) (put_before (is_above key) (key, change) list)) [
      | true ↦ cond-true _ _ _ above
      | false ↦ cond-true _ _ _ above
    ]

pub put-placed : (key : List ℕ) (change : Change) (list : List Write)
    → put key_cmp key change list ≡ placed key change (first_failing (is_above key) list) list
put-placed key change [] = refl
put-placed key change (x ∷ list) =
    elim (key_cmp key x.0) as (λ r. key_cmp key x.0 ≡ r →
    by_order r ((key, change) ∷ x ∷ list) ((x.0, change) ∷ list) (x ∷ put key_cmp key change list)
    ≡ placed key change (cond (is_gt r) (first_failing (is_above key) list) (Some x)) (x ∷ list)) [
      | Less ↦ λ k. sym (cond-false _ _ _ (ap is_eq k) ∙ cond-false _ _ _ (ap is_gt k))
      | Equal ↦ λ k. sym (cond-true _ _ _ (ap is_eq k) ∙ cond-false _ _ _ (ap is_gt k))
      | Greater ↦ λ k. ap (λ l. x ∷ l) (put-placed key change list)
          ∙ sym (placed_later key change (first_failing (is_above key) list) x list (ap is_gt k))
    ] refl

-- ---- the bytes after a write

abbrev pub weight : List ℕ × Change → ℕ
weight write = length write.0 + length (value_bytes write.1)

-- what a write does to the bytes, where the key had this change
abbrev pub BytesAfter : ℕ → ℕ → List ℕ → Change → Option Change → Type 0
BytesAfter old new key change None = new ≡ old + length key + length (value_bytes change)
BytesAfter old new key change (Some replaced) = new + length (value_bytes replaced) ≡ old + length (value_bytes change)

one_further : (old new more : ℕ) (key : List ℕ) (change : Change) (o : Option Change) → BytesAfter old new key change o
    → BytesAfter (more + old) (more + new) key change o
one_further old new more key change None is = omega arith
one_further old new more key change (Some replaced) is = omega arith

-- the bytes by recursion
abbrev pub bytes_of : List Write → ℕ
bytes_of [] = 0
bytes_of (x ∷ list) = weight x + bytes_of list

entry_bytes-bytes_of : (list : List Write) → entry_bytes list ≡ bytes_of list
entry_bytes-bytes_of [] = refl
entry_bytes-bytes_of (x ∷ list) = sum_by-cons weight x list ∙ ap (λ n. weight x + n) (entry_bytes-bytes_of list)

bytes_after_put : (key : List ℕ) (change : Change) (list : List Write) → T (is_sorted key_cmp list)
    → BytesAfter (bytes_of list) (bytes_of (put key_cmp key change list)) key change (find key_cmp key list)
bytes_after_put key change [] sorted = omega arith
bytes_after_put key change (x ∷ list) sorted =
    let parts = T_parts _ _ sorted in
    elim (key_cmp key x.0) as (λ r. key_cmp key x.0 ≡ r →
    BytesAfter (weight x + bytes_of list)
    (bytes_of (by_order r ((key, change) ∷ x ∷ list) ((x.0, change) ∷ list) (x ∷ put key_cmp key change list))) key
    change (cond (is_eq r) (Some x.1) (find key_cmp key list))) [
      | Less ↦ λ k. subst (BytesAfter (weight x + bytes_of list) (weight (key, change) + (weight x + bytes_of list)) key
          change) (sym (find_above key list x.0 k parts.0)) (omega arith)
      | Equal ↦ λ k. omega arith
      | Greater ↦ λ k. one_further _ _ (weight x) key change (find key_cmp key list) (bytes_after_put key change list parts.1)
    ] refl

pub write_bytes-insert : (list : List Write) (key : List ℕ) (change : Change) → IsTrue (is_sorted key_cmp list) →
    BytesAfter (entry_bytes list) (write_bytes (map.insert (writes_of list) key change)) key change (get (writes_of list) key)
write_bytes-insert list key change sorted =
    let is : write_bytes (map.insert (writes_of list) key change) ≡ bytes_of (put key_cmp key change list) =
    ap entry_bytes (ap entries (insert-writes_of list key change sorted)
    ∙ entries-writes_of (put key_cmp key change list) (put_sorted list key change sorted))
    ∙ entry_bytes-bytes_of (put key_cmp key change list) in
    let put_is : BytesAfter (bytes_of list) (bytes_of (put key_cmp key change list)) key change (get (writes_of list) key) =
    subst (BytesAfter (bytes_of list) (bytes_of (put key_cmp key change list)) key change)
    (sym (get-writes_of list key sorted)) (bytes_after_put key change list (sorted_test list sorted)) in
    let new_is : BytesAfter (bytes_of list) (write_bytes (map.insert (writes_of list) key change)) key change (get (writes_of list) key) =
    subst (λ new. BytesAfter (bytes_of list) new key change (get (writes_of list) key)) (sym is) put_is in
    subst (λ old. BytesAfter old (write_bytes (map.insert (writes_of list) key change)) key change
    (get (writes_of list) key)) (sym (entry_bytes-bytes_of list)) new_is

-- a replaced change is counted
replaced_le : (key : List ℕ) (list : List Write) (change : Change) → find key_cmp key list ≡ Some change
    → length (value_bytes change) ≤ bytes_of list
replaced_le key [] change found = cc
replaced_le key (x ∷ list) change found =
    elim (eq_by_cmp key_cmp key x.0) as
    (λ b. cond b (Some x.1) (find key_cmp key list) ≡ Some change → length (value_bytes change) ≤ weight x + bytes_of list) [
      | true ↦ λ is. let same : x.1 ≡ change = cc in omega (arith, ap (λ (change : Change). length (value_bytes change)) same)
      | false ↦ λ is. omega (arith, replaced_le key list change is)
    ] found

pub value_bytes-le : (list : List Write) (key : List ℕ) (change : Change) → IsTrue (is_sorted key_cmp list)
    → get (writes_of list) key ≡ Some change → length (value_bytes change) ≤ entry_bytes list
value_bytes-le list key change sorted found =
    omega (arith, entry_bytes-bytes_of list, replaced_le key list change (sym (get-writes_of list key sorted) ∙ found))

-- ---- `put`

at_place : (list : List Write) (key : List ℕ) (at : ℕ) (d : Write) → at ≡ prefix_len (is_above key) list
    → at < length list → first_failing (is_above key) list ≡ Some (get_or list at d)
at_place list key at d place within = sym (slice_get-prefix_len (is_above key) list) ∙ ap (slice_get list) (sym place)
    ∙ slice_get_at list at d within

past_end : (list : List Write) (key : List ℕ) (at : ℕ) → at ≡ prefix_len (is_above key) list → length list ≤ at
    → first_failing (is_above key) list ≡ None
past_end list key at place past = sym (slice_get-prefix_len (is_above key) list) ∙ ap (slice_get list) (sym place)
    ∙ slice_get_past list at past

pub put-present : (list : List Write) (key held : List ℕ) (change : Change) (at : ℕ) (d : Write)
    → at ≡ prefix_len (is_above key) list → at < length list → held ≡ (get_or list at d).0 → bytes_eq key held ≡ true →
    set list at (held, change) ≡ put key_cmp key change list
put-present list key held change at d place within is same =
    let own : eq_by_cmp key_cmp key (get_or list at d).0 ≡ true = ap (eq_by_cmp key_cmp key) (sym is) ∙ is_eq-slice_cmp key held ∙ same in
    ap (λ i. set list i (held, change)) place ∙ set-prefix_len (is_above key) (held, change) list
    ∙ ap (λ k. replace_first (is_above key) (k, change) list) is
    ∙ sym (put-placed key change list ∙ ap (λ o. placed key change o list) (at_place list key at d place within) ∙ cond-true _ _ _ own)

pub put-absent : (list : List Write) (key : List ℕ) (change : Change) (at : ℕ) → at ≡ prefix_len (is_above key) list
    → (at < length list → (d : Write) × (bytes_eq key (get_or list at d).0 ≡ false)) →
    insert list at (key, change) ≡ put key_cmp key change list
put-absent list key change at place other =
    ap (λ i. insert list i (key, change)) place ∙ insert-prefix_len (is_above key) (key, change) list
    ∙ sym (put-placed key change list ∙ elim (cases_lt at (length list)) [
      | inl within ↦ ap (λ o. placed key change o list) (at_place list key at (other within).0 place within)
          ∙ cond-false _ _ _ (is_eq-slice_cmp key _ ∙ (other within).1)
      | inr past ↦ ap (λ o. placed key change o list) (past_end list key at place past)
    ])

-- ---- what is kept of a transaction's writes

pub bytes_after : (list : List Write) (bytes : ℕ) (writes : Writes) (key : List ℕ) (change : Change) (o : Option Change)
    → AreWrites list bytes → writes_of list ≡ writes → get writes key ≡ o →
    BytesAfter bytes (write_bytes (map.insert writes key change)) key change o
bytes_after list bytes writes key change o are view found =
    let is = write_bytes-insert list key change are.sorted in
    let of_writes : BytesAfter (entry_bytes list) (write_bytes (map.insert writes key change)) key change (get writes key) =
    subst (λ w. BytesAfter (entry_bytes list) (write_bytes (map.insert w key change)) key change (get w key)) view is in
    let of_found = subst (BytesAfter (entry_bytes list) (write_bytes (map.insert writes key change)) key change) found of_writes in
    subst (λ n. BytesAfter n (write_bytes (map.insert writes key change)) key change o) (sym are.counted) of_found

pub replaced-le : (list : List Write) (bytes : ℕ) (writes : Writes) (key : List ℕ) (change : Change)
    → AreWrites list bytes → writes_of list ≡ writes → get writes key ≡ Some change → length (value_bytes change) ≤ bytes
replaced-le list bytes writes key change are view found =
    let counted = are.counted in
    omega (arith, counted, value_bytes-le list key change are.sorted (ap (λ w. get w key) view ∙ found))

pub AreWrites-put : (list new_list : List Write) (bytes new_bytes : ℕ) (writes : Writes) (key : List ℕ)
    (change : Change) → AreWrites list bytes → writes_of list ≡ writes → new_list ≡ put key_cmp key change list →
    IsLawful (key, change) → new_bytes ≡ write_bytes (map.insert writes key change)
    → IsTrue (fits_transaction (map.insert writes key change)) → AreWrites new_list new_bytes
AreWrites-put list new_list bytes new_bytes writes key change are view is lawful counted fits =
    let new_sorted : IsTrue (is_sorted key_cmp new_list) = ap (is_sorted key_cmp) is ∙ put_sorted list key change are.sorted in
    let entries_is : entries (map.insert writes key change) ≡ new_list =
    ap (λ w. entries (map.insert w key change)) (sym view) ∙ ap entries (insert-writes_of list key change are.sorted)
    ∙ entries-writes_of (put key_cmp key change list) (put_sorted list key change are.sorted) ∙ sym is in
    let within : write_bytes (map.insert writes key change) ≤ max_transaction_bytes = leb-true _ _ (and_parts _ _ fits).1 in
    let keys : len (map.insert writes key change) ≤ max_transaction_keys = leb-true _ _ (and_parts _ _ fits).0 in
    record {
      sorted = new_sorted;
      lawful = subst (AllByRecursion IsLawful) (sym is)
          (put-lawful list key change lawful are.lawful);
      counted = counted
          ∙ ap entry_bytes entries_is;
      bounded = omega (arith, within, counted);
      few = subst (λ n. n ≤ max_transaction_keys)
          (len-entries (map.insert writes key change) ∙ ap length entries_is) keys;
    }

pub writes_of-put : (list new_list : List Write) (bytes : ℕ) (writes : Writes) (key : List ℕ) (change : Change)
    → AreWrites list bytes → writes_of list ≡ writes → new_list ≡ put key_cmp key change list
    → writes_of new_list ≡ map.insert writes key change
writes_of-put list new_list bytes writes key change are view is =
    ap writes_of is ∙ sym (insert-writes_of list key change are.sorted) ∙ ap (λ w. map.insert w key change) view

-- how many keys there are with one more write
pub len-insert_present : (writes : Writes) (key : List ℕ) (change replaced : Change) → get writes key ≡ Some replaced
    → len (map.insert writes key change) ≡ len writes
len-insert_present writes key change replaced found = len-insert nat_list_cmp_total writes key change ∙ cond-true _ _ _ (ap is_some found)

pub len-insert_absent : (writes : Writes) (key : List ℕ) (change : Change) → get writes key ≡ None
    → len (map.insert writes key change) ≡ len writes + 1
len-insert_absent writes key change missing = len-insert nat_list_cmp_total writes key change ∙ cond-false _ _ _ (ap is_some missing)

-- the bytes of what is kept
pub bytes-is : (list : List Write) (bytes : ℕ) (writes : Writes) → AreWrites list bytes → writes_of list ≡ writes
    → bytes ≡ write_bytes writes
bytes-is list bytes writes are view = are.counted ∙ ap entry_bytes (sym (entries-writes_of list are.sorted)) ∙ ap write_bytes view
