-- Laws of own writes over what stands: as entries, and as rows.
use Rattle.std.proofs.Common.{◌≡◌, ℕ, Bool, true, false, cond, ◌&&◌, List, [], ◌∷◌, refl, ap, sym, ◌∙◌, subst, arith}
use Rattle.std.proofs.lemmas.Bool.Decides.{nat_tests}
use Rattle.std.specs.Prelude.{T, Option, Some, None, nat_le, not}
use Rattle.std.specs.Cmp.{eq_by_cmp_equiv}
use Rattle.std.specs.Cmp.Lexicographic.{nat_list_cmp_total}
use Rattle.std.specs.FinMap.{find}
use Rattle.std.specs.FinMap.Entries.{below_all, is_sorted, find-put, find-where_key}
use Rattle.std.specs.Option.{option_map}
use Rattle.std.specs.Ordering.{eq_by_cmp, is_lt, nat_cmp, ordering_then}
use Rattle.std.specs.declared.cmp.Ordering.{Ordering}
use Rattle.std.specs.declared.cmp.Ordering.TheVariants.{Less, Equal, Greater}
use Rattle.vl_model.specs.History.{value_left}
use Rattle.vl_model.specs.Keys.{Row, Stored, key_cmp}
use Rattle.vl_model.specs.Reads.{rows_written}
use Rattle.vl_model.specs.Winners.{newest_of, only_if, winner}
use Rattle.vl_model.specs.laws.WinnerLaws.{key_exact, same_key}
use Rattle.vl_model.specs.declared.change.Change.{Change}
use Rattle.vl_model.specs.declared.change.Change.TheVariants.{Set, Delete}
use Rattle.vl_model.specs.declared.entry.Entry.{Entry}
use Rattle.vl_model.specs.laws.OrderLaws.{IsBefore, IsRising}
use Rattle.vl_version.specs.Own.{own_entries, own_entry}

abbrev Write : Type 0
Write = List ℕ × Change

first_part : (a b : Bool) → T (a && b) → T a
first_part true b both = tt
first_part false b both = absurd both

second_part : (a b : Bool) → T (a && b) → T b
second_part true b both = both
second_part false b both = absurd both

is_less : (r : Ordering) → T (is_lt r) → r ≡ Less
is_less Less lt = refl
is_less Equal lt = absurd lt
is_less Greater lt = absurd lt

at_most : (n : ℕ) → nat_le n n ≡ true
at_most n = grind (arith, nat_tests)

module _ (number : ℕ) where
  -- ---- as entries

  before-own : (write : Write) (ws : List Write) → T (below_all key_cmp write.0 ws)
      → IsBefore (own_entry number write) (own_entries number ws)
  before-own write [] below = tt
  before-own write (w ∷ ws) below = (
    ap (λ r. ordering_then r (nat_cmp number number))
        (is_less (key_cmp write.0 w.0)
        (first_part (is_lt (key_cmp write.0 w.0)) (below_all key_cmp write.0 ws) below)),
    before-own write ws (second_part (is_lt (key_cmp write.0 w.0)) (below_all key_cmp write.0 ws) below),
  )

  pub rising-own : (ws : List Write) → T (is_sorted key_cmp ws) → IsRising (own_entries number ws)
  rising-own [] sorted = tt
  rising-own (w ∷ ws) sorted = (
    before-own w ws (first_part (below_all key_cmp w.0 ws) (is_sorted key_cmp ws) sorted),
    rising-own ws
        (second_part (below_all key_cmp w.0 ws) (is_sorted key_cmp ws) sorted),
  )

  -- an entry of the number counts before all that count at it
  pub newest_of-own : (write : Write) (w : Option Entry) → ((e : Entry) → w ≡ Some e → nat_le e.version number ≡ true)
      → newest_of (Some (own_entry number write)) w ≡ Some (own_entry number write)
  newest_of-own write None counted = refl
  newest_of-own write (Some e) counted = ap (λ b. cond b (Some (own_entry number write)) (Some e)) (counted e refl)

  abbrev pub entry_of : List ℕ → Option Change → Option Entry
  entry_of key change = option_map (λ (c : Change). own_entry number (key, c)) change

  entry_of-version : (key : List ℕ) (change : Option Change) (e : Entry) → entry_of key change ≡ Some e → nat_le e.version number ≡ true
  entry_of-version key None e is = absurd cc
  entry_of-version key (Some c) e is =
      let same : number ≡ e.version = cc in subst (λ n. nat_le n number ≡ true) same (at_most number)

  pub winner-own : (ws : List Write) (key : List ℕ) → winner (own_entries number ws) key number ≡ entry_of key (find key_cmp key ws)
  winner-own [] key = refl
  winner-own (w ∷ ws) key =
      ap (λ b. newest_of (only_if (eq_by_cmp key_cmp key w.0 && b) (own_entry number w))
      (winner (own_entries number ws) key number)) (at_most number)
      ∙ by (eq_by_cmp key_cmp key w.0) refl (winner-own ws key)
    where
      by : (b : Bool) → eq_by_cmp key_cmp key w.0 ≡ b → winner (own_entries number ws) key number ≡ entry_of key (find key_cmp key ws)
          → newest_of (only_if (b && true) (own_entry number w)) (winner (own_entries number ws) key number)
          ≡ entry_of key (cond b (Some w.1) (find key_cmp key ws))
      by true is later =
          newest_of-own w (winner (own_entries number ws) key number)
          (λ e win. entry_of-version key (find key_cmp key ws) e (sym later ∙ win))
          ∙ ap (λ k. Some (own_entry number (k, w.1))) (sym (same_key key w.0 is))
      by false is later = later

-- ---- as rows

tie_alike : (p : List ℕ → Bool) (q x : List ℕ) → key_cmp q x ≡ Equal → p x ≡ p q
tie_alike p q x tied = ap p (sym (key_exact q x tied))

left_by : (b : Bool) (old : Option Stored) (v : Stored) (later : Option Change)
    → cond b (Some v) (value_left old later) ≡ value_left old (cond b (Some (Set v)) later)
left_by true old v later = refl
left_by false old v later = refl

left_without : (b : Bool) (old : Option Stored) (later : Option Change)
    → cond (not b) (value_left old later) None ≡ value_left old (cond b (Some Delete) later)
left_without true old later = refl
left_without false old later = refl

-- what is found behind own writes
pub find-rows_written : (ws : List Write) (rows : List Row) (key : List ℕ)
    → find key_cmp key (rows_written ws rows) ≡ value_left (find key_cmp key rows) (find key_cmp key ws)
find-rows_written [] rows key = refl
find-rows_written ((k, Set v) ∷ ws) rows key =
    find-put key_cmp nat_list_cmp_total key k v (rows_written ws rows)
    ∙ ap (cond (eq_by_cmp key_cmp key k) (Some v)) (find-rows_written ws rows key)
    ∙ left_by (eq_by_cmp key_cmp key k) (find key_cmp key rows) v (find key_cmp key ws)
find-rows_written ((k, Delete) ∷ ws) rows key =
    let p : List ℕ → Bool = λ x. not (eq_by_cmp key_cmp k x) in
    find-where_key key_cmp p key (tie_alike p key) (rows_written ws rows)
    ∙ ap (λ found. cond (p key) found None) (find-rows_written ws rows key)
    ∙ ap (λ b. cond (not b) (value_left (find key_cmp key rows) (find key_cmp key ws)) None)
    ((eq_by_cmp_equiv nat_list_cmp_total).symm k key)
    ∙ left_without (eq_by_cmp key_cmp key k) (find key_cmp key rows) (find key_cmp key ws)
