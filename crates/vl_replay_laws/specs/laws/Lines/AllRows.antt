-- A scan of all rows, read piece by piece: each piece from the last row of the one before on.
use Rattle.std.proofs.Common.{◌≡◌, ⊎_elim, ℕ, zero, suc, min, ◌+◌, ◌-◌, ◌^◌, ◌<◌, ◌≤◌, Bool, true, false, cond, ◌&&◌}
use Rattle.std.proofs.Common.{not, List, [], ◌∷◌, ◌++◌, drop, length, take, None, Some, refl, ap, sym, ◌∙◌, subst}
use Rattle.std.proofs.Common.{arith}
use Rattle.std.proofs.Math.Seq.{take-add}
use Rattle.std.proofs.lemmas.Bool.{cases_lt}
use Rattle.std.proofs.lemmas.Bool.Decides.{nat_tests}
use Rattle.std.proofs.lemmas.List.{length-take, take-append-drop, take-take, take_all}
use Rattle.std.specs.Prelude.{T, nat_lt}
use Rattle.std.specs.Cmp.Lexicographic.{nat_list_cmp_total}
use Rattle.std.specs.FinMap.{empty, empty_of_len, entries, entries-from_sorted, from_sorted, len-entries}
use Rattle.std.specs.FinMap.Entries.{below_all, is_sorted}
use Rattle.std.specs.List.{filter, slice_get}
use Rattle.std.specs.Ordering.{is_lt, ordering_reverse}
use Rattle.std.specs.declared.cmp.Ordering.{Ordering}
use Rattle.std.specs.declared.cmp.Ordering.TheVariants.{Less, Equal, Greater}
use Rattle.std.proofs.lemmas.Cmp.{tied_itself}
use Rattle.vl_reads.specs.Reading.{rows_under}
use Rattle.vl_model.specs.History.{History, contents_at}
use Rattle.vl_model.specs.Keys.{Row, Writes, key_cmp}
use Rattle.vl_model.specs.Reads.{is_within, rows_written}
use Rattle.vl_model.specs.declared.change.Change.{Change}
use Rattle.vl_model.specs.declared.way.Way.TheVariants.{Up}
use Rattle.vl_script_model.specs.Contents.{AreRead, rows_at_once}

-- the rows from a key on
abbrev pub rows_from : List ℕ → List Row → List Row
rows_from low rows = filter (λ (row : Row). is_within low [] row.0) rows

within_none : (key : List ℕ) → is_within [] [] key ≡ true
within_none [] = refl
within_none (b ∷ bs) = refl

-- an empty key is below none
pub all_from_none : (rows : List Row) → rows_from [] rows ≡ rows
all_from_none [] = refl
all_from_none (row ∷ rows) =
    ap (λ (b : Bool). cond b (row ∷ rows_from [] rows) (rows_from [] rows)) (within_none row.0)
    ∙ ap (λ (rs : List Row). row ∷ rs) (all_from_none rows)

both_of : (a b : Bool) → T (a && b) → T a × T b
both_of true b both = (tt, both)
both_of false b both = absurd both

true_of : (b : Bool) → T b → b ≡ true
true_of true is = refl
true_of false is = absurd is

-- whether a key is within, by how the two compare
within_itself : (key : List ℕ) → is_within key [] key ≡ true
within_itself key = ap (λ (o : Ordering). not (is_lt o)) (tied_itself nat_list_cmp_total key)

below_low : (low key : List ℕ) → T (is_lt (key_cmp key low)) → is_within low [] key ≡ false
below_low low key less = ap not (true_of (is_lt (key_cmp key low)) less)

not_above : (low key : List ℕ) → T (is_lt (key_cmp low key)) → is_within low [] key ≡ true
not_above low key less = by (key_cmp low key) refl less
  where
    reversed : key_cmp key low ≡ ordering_reverse (key_cmp low key)
    reversed = nat_list_cmp_total.antisymm key low

    by : (o : Ordering) → key_cmp low key ≡ o → T (is_lt o) → is_within low [] key ≡ true
    by Less is less' = ap (λ (r : Ordering). not (is_lt r)) (reversed ∙ ap ordering_reverse is)
    by Equal is less' = absurd less'
    by Greater is less' = absurd less'

-- of rows above a key all are from it on
above_all : (low : List ℕ) (rows : List Row) → T (below_all key_cmp low rows) → rows_from low rows ≡ rows
above_all low [] below = refl
above_all low (row ∷ rows) below =
    let (first, later) = both_of (is_lt (key_cmp low row.0)) (below_all key_cmp low rows) below in
    ap (λ (b : Bool). cond b (row ∷ rows_from low rows) (rows_from low rows)) (not_above low row.0 first)
    ∙ ap (λ (rs : List Row). row ∷ rs) (above_all low rows later)

some_same : (a b : Row) → Some a ≡ Some b → a ≡ b
some_same a b e = cc

none_some : (a : Row) → None ≡ Some a → ⊥
none_some a e = cc

-- one of them is above the key
below_one : (low : List ℕ) (rows : List Row) (i : ℕ) (row : Row) → T (below_all key_cmp low rows) → slice_get rows i ≡ Some row
    → T (is_lt (key_cmp low row.0))
below_one low [] i row below is = absurd (none_some row is)
below_one low (r ∷ rows) zero row below is =
    subst (λ (x : Row). T (is_lt (key_cmp low x.0))) (some_same r row is)
    (both_of (is_lt (key_cmp low r.0)) (below_all key_cmp low rows) below).0
below_one low (r ∷ rows) (suc i) row below is =
    below_one low rows i row (both_of (is_lt (key_cmp low r.0)) (below_all key_cmp low rows) below).1 is

-- Of rising rows those from the key of one on are that one and the rows behind it.
pub from_row : (rows : List Row) → T (is_sorted key_cmp rows) → (i : ℕ) (row : Row) → slice_get rows i ≡ Some row
    → rows_from row.0 rows ≡ drop i rows
from_row [] sorted i row is = absurd (none_some row is)
from_row (r ∷ rows) sorted zero row is =
    let (above, later) = both_of (below_all key_cmp r.0 rows) (is_sorted key_cmp rows) sorted in
    subst (λ (x : Row). rows_from x.0 (r ∷ rows) ≡ r ∷ rows) (some_same r row is)
    (ap (λ (b : Bool). cond b (r ∷ rows_from r.0 rows) (rows_from r.0 rows)) (within_itself r.0)
    ∙ ap (λ (rs : List Row). r ∷ rs) (above_all r.0 rows above))
from_row (r ∷ rows) sorted (suc i) row is =
    let (above, later) = both_of (below_all key_cmp r.0 rows) (is_sorted key_cmp rows) sorted in
    ap (λ (b : Bool). cond b (r ∷ rows_from row.0 rows) (rows_from row.0 rows)) (below_low row.0 r.0 (below_one r.0 rows i row above is))
    ∙ from_row rows later i row is

-- ---- piece by piece

-- as many rows as are read at a time
abbrev piece : List Row → List Row
piece rows = take rows_at_once rows

-- what is read of the rows behind so many
module _ (all : List Row) (n : ℕ) where
  abbrev pub longer : List Row
  longer = take n all ++ take rows_at_once (drop n all)

  longer_is : longer ≡ take (n + rows_at_once) all
  longer_is = sym (take-add n rows_at_once all)

  front_is : longer ≡ take (length longer) all
  front_is = of (length longer) (ap length longer_is ∙ length-take (n + rows_at_once) all)
    where
      of : (k : ℕ) → k ≡ min (n + rows_at_once) (length all) → longer ≡ take k all
      of k is = ⊎_elim
          (λ (few : length all < n + rows_at_once).
          longer_is ∙ take_all (n + rows_at_once) all (omega (arith, few)) ∙ sym (take_all k all (omega (arith, is, few))))
          (λ (many : n + rows_at_once ≤ length all). longer_is ∙ ap (λ (m : ℕ). take m all) (omega (arith, is, many)))
          (cases_lt (length all) (n + rows_at_once))

  -- Some first rows are read then, and all where they were fewer than are read at a time.
  pub longer_read : AreRead all longer (length (take rows_at_once (drop n all)))
  longer_read = record {
    first = front_is;
    whole = λ few. ap (λ (rs : List Row). take n all ++ rs)
        (take_all rows_at_once (drop n all) (omega (arith, few, length-take rows_at_once (drop n all))))
        ∙ take-append-drop n all;
  }

-- The first piece is read from the start,
pub first_read : (all rows : List Row) → rows ≡ take rows_at_once (rows_from [] all) → AreRead all rows (length rows)
first_read all rows is =
    let same : rows ≡ take rows_at_once all = is ∙ ap (take rows_at_once) (all_from_none all) in
    subst (λ (rs : List Row). AreRead all rs (length rs)) (sym same) (longer_read all 0)

-- and each other one from the last row of those that were read.
pub next_read : (all rows more : List Row) (read last : ℕ) (row : Row) → T (is_sorted key_cmp all) → AreRead all rows read
    → slice_get rows last ≡ Some row → length rows ≡ last + 1 → more ≡ take rows_at_once (rows_from row.0 all)
    → AreRead all (take last rows ++ more) (length more)
next_read all rows more read last row sorted so_far at long is =
    let there : slice_get all last ≡ Some row =
    get_front all (length rows) last row (subst (λ (rs : List Row). slice_get rs last ≡ Some row) so_far.first at) in
    let more_is : more ≡ take rows_at_once (drop last all) = is ∙ ap (take rows_at_once) (from_row all sorted last row there) in
    let front : take last rows ≡ take last all =
    ap (take last) so_far.first ∙ take-take last (length rows) all (omega (arith, long)) in
    subst (λ (rs : List Row). AreRead all (rs ++ more) (length more)) (sym front)
    (subst (λ (rs : List Row). AreRead all (take last all ++ rs) (length rs)) (sym more_is) (longer_read all last))
  where
    get_front : (rs : List Row) (k i : ℕ) (x : Row) → slice_get (take k rs) i ≡ Some x → slice_get rs i ≡ Some x
    get_front [] k i x at = sym (ap (λ (l : List Row). slice_get l i) (take_all k [] (omega arith))) ∙ at
    get_front (r ∷ rs) zero i x at = absurd (none_some x at)
    get_front (r ∷ rs) (suc k) zero x at = at
    get_front (r ∷ rs) (suc k) (suc i) x at = get_front rs k i x at

-- ---- how long it is read on

-- as long as all rows that were asked for are read there are more of them, of which a list has room for so many
abbrev pub read_left : (read long : ℕ) → ℕ
read_left read long = cond (nat_lt read rows_at_once) 0 (2 ^ 64 + 1 - long)

pub left_smaller : (read next long longer : ℕ) → rows_at_once ≤ read → long < 2 ^ 64 → longer < 2 ^ 64 → longer + 1 ≡ long + next
    → read_left next longer < read_left read long
left_smaller read next long longer asked fits fits_longer more =
    subst (λ (b : Bool). read_left next longer < cond b 0 (2 ^ 64 + 1 - long)) (sym (not_few read asked))
    (by (nat_lt next rows_at_once) refl)
  where
    not_few : (n : ℕ) → rows_at_once ≤ n → nat_lt n rows_at_once ≡ false
    not_few n le = grind (arith, nat_tests, le)

    enough : (n : ℕ) → nat_lt n rows_at_once ≡ false → rows_at_once ≤ n
    enough n is = grind (arith, nat_tests, is)

    by : (b : Bool) → nat_lt next rows_at_once ≡ b → cond b 0 (2 ^ 64 + 1 - longer) < 2 ^ 64 + 1 - long
    by true is = omega (arith, fits)
    by false is = let le = enough next is in omega (arith, le, fits, fits_longer, more)

-- ---- what a view reads

-- no own writes stand over the rows
no_writes : entries (empty {K = List ℕ} {X = Change} {R = key_cmp}) ≡ []
no_writes = ap (λ (writes : Writes). entries writes) (sym bare) ∙ entries-from_sorted key_cmp [] tt
  where
    bare : from_sorted [] ≡ empty {K = List ℕ} {X = Change} {R = key_cmp}
    bare = empty_of_len (from_sorted []) (len-entries (from_sorted []) ∙ ap length (entries-from_sorted key_cmp [] tt))

-- so its scans upwards without an upper bound give the first rows from a key on
pub rows_are : (h : History) (number : ℕ) (low : List ℕ) (limit : ℕ)
    → rows_under empty h number low [] limit Up ≡ take limit (rows_from low (entries (contents_at h number)))
rows_are h number low limit =
    ap (λ (own : List (List ℕ × Change)). take limit (rows_from low (rows_written own (entries (contents_at h number))))) no_writes
