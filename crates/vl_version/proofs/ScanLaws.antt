-- What is visible of sources and of own writes over them gives the rows of a scan.
use Rattle.std.proofs.Common.{◌≡◌, ℕ, Bool, true, false, cond, ◌&&◌, List, [], ◌∷◌, ◌++◌, refl, ap, sym, ◌∙◌, subst, take}
use Rattle.std.specs.Prelude.{T, Option, Some, None, not}
use Rattle.std.specs.Cmp.Lexicographic.{nat_list_cmp_total}
use Rattle.std.specs.FinMap.{find}
use Rattle.std.specs.FinMap.Entries.{is_sorted, is_sorted-put, is_sorted-where_key, find-where_key, where_key}
use Rattle.std.specs.Ordering.{eq_by_cmp, is_lt}
use Rattle.vl_model.specs.History.{value_left}
use Rattle.vl_model.specs.Keys.{Row, Stored, key_cmp}
use Rattle.vl_model.specs.Reads.{in_direction, is_in_span, is_within, rows_written}
use Rattle.vl_model.specs.Winners.{Logs, newest_of, resolved_at, winner}
use Rattle.vl_model.specs.laws.WinnerLaws.{key_exact, winner-append}
use Rattle.vl_model.specs.declared.change.Change.{Change}
use Rattle.vl_model.specs.declared.change.Change.TheVariants.{Set, Delete}
use Rattle.vl_model.specs.declared.entry.Entry.{Entry}
use Rattle.vl_model.specs.declared.way.Way.{Way}
use Rattle.vl_model.specs.Merging.{IsAlong}
use Rattle.vl_merge.specs.declared.hides.Hides.TheVariants as hiding
use Rattle.vl_merge.specs.Visible.{shown}
use Rattle.vl_version.specs.Gathered.{span_of}
use Rattle.vl_version.specs.Own.{own_entries, own_entry}
use Rattle.vl_version.proofs.OwnLaws.{find-rows_written, newest_of-own, winner-own}
use Rattle.vl_version.proofs.RowLaws.{of_key, rows_are_taken}
use Rattle.vl_version.specs.Rows.{AreRowsOf}
use Rattle.vl_version.specs.Scans.{MayHave}
use Rattle.vl_version.proofs.Winning.{winner-version}

from_empty : (q : List ℕ) → not (is_lt (key_cmp q [])) ≡ true
from_empty [] = refl
from_empty (b ∷ q) = refl

and_true : (b : Bool) → (b && true) ≡ b
and_true true = refl
and_true false = refl

pub in_span_of : (low high q : List ℕ) → is_in_span (span_of low high) q ≡ is_within low high q
in_span_of [] [] q = sym (from_empty q)
in_span_of [] (h ∷ hs) q = sym (ap (λ b. b && is_lt (key_cmp q (h ∷ hs))) (from_empty q))
in_span_of (l ∷ ls) [] q = and_true (not (is_lt (key_cmp q (l ∷ ls))))
in_span_of (l ∷ ls) (h ∷ hs) q = refl

sorted_written : (own : List (List ℕ × Change)) (rows : List Row) → T (is_sorted key_cmp rows)
    → T (is_sorted key_cmp (rows_written own rows))
sorted_written [] rows rising = rising
sorted_written ((key, Set value) ∷ own) rows rising = is_sorted-put key_cmp nat_list_cmp_total key value
    (rows_written own rows) (sorted_written own rows rising)
sorted_written ((key, Delete) ∷ own) rows rising = is_sorted-where_key key_cmp (λ k. not (eq_by_cmp key_cmp key k))
    (rows_written own rows) (sorted_written own rows rising)

module _ (logs : Logs) (number : ℕ) (own : List (List ℕ × Change)) (es : List Entry) where
  -- ---- what wins under own writes

  won_over : (key : List ℕ) (change : Change)
      → newest_of (Some (own_entry number (key, change))) (winner es key number) ≡ Some (own_entry number (key, change))
  won_over key change = newest_of-own number (key, change) (winner es key number) (λ e win. winner-version key number es e win)

  may_have_changed : (key : List ℕ) (change : Option Change) (old : Option Stored)
      → MayHave (resolved_at logs (winner es key number)) old
      → MayHave (resolved_at logs
      (newest_of (elim change as (λ _. Option Entry) [ Some c ↦ Some (own_entry number (key, c)) | None ↦ None ])
      (winner es key number))) (value_left old change)
  may_have_changed key None old have = have
  may_have_changed key (Some (Set v)) old have =
      subst (λ (w : Option Entry). MayHave (resolved_at logs w) (Some v)) (sym (won_over key (Set v))) refl
  may_have_changed key (Some Delete) old have =
      subst (λ (w : Option Entry). MayHave (resolved_at logs w) None) (sym (won_over key Delete)) refl

  module _ (low high : List ℕ) (rows_at : List Row) where
    abbrev cut : List Row
    cut = where_key key_cmp (is_within low high) (rows_written own rows_at)

    found_cut : (key : List ℕ)
        → find key_cmp key cut ≡ cond (is_within low high key) (value_left (find key_cmp key rows_at) (find key_cmp key own)) None
    found_cut key =
        find-where_key key_cmp (is_within low high) key
        (λ x tied. ap (is_within low high) (sym (key_exact key x tied))) (rows_written own rows_at)
        ∙ ap (λ found. cond (is_within low high key) found None) (find-rows_written own rows_at key)

    have_cut : (key : List ℕ) (all : List Entry)
        → winner all key number ≡ cond (is_in_span (span_of low high) key) (winner (own_entries number own ++ es) key number) None
        → MayHave (resolved_at logs (winner es key number)) (find key_cmp key rows_at)
        → MayHave (resolved_at logs (winner all key number)) (find key_cmp key cut)
    have_cut key all wins have =
        subst (λ (w : Option Entry). MayHave (resolved_at logs w) (find key_cmp key cut))
        (sym (wins ∙ ap (λ b. cond b (winner (own_entries number own ++ es) key number) None)
        (in_span_of low high key)))
        (subst (MayHave (resolved_at logs
        (cond (is_within low high key) (winner (own_entries number own ++ es) key number) None)))
        (sym (found_cut key))
        (by (is_within low high key)))
      where
        by : (b : Bool)
            → MayHave (resolved_at logs (cond b (winner (own_entries number own ++ es) key number) None))
            (cond b (value_left (find key_cmp key rows_at) (find key_cmp key own)) None)
        by true =
            subst (λ (w : Option Entry). MayHave (resolved_at logs w) (value_left (find key_cmp key rows_at) (find key_cmp key own)))
            (sym (winner-append key number (own_entries number own) es
            ∙ ap (λ w. newest_of w (winner es key number)) (winner-own number own key)))
            (may_have_changed key (find key_cmp key own) (find key_cmp key rows_at) have)
        by false = refl

  -- ---- rows

  -- the rows that are taken are those of the scan
  pub rows_are_scanned : (low high : List ℕ) (way : Way) (n : ℕ) (all seen : List Entry) (rows rows_at : List Row)
      → ((key : List ℕ) → winner all key number
      ≡ cond (is_in_span (span_of low high) key) (winner (own_entries number own ++ es) key number) None)
      → IsAlong way seen → ((key : List ℕ) → of_key key seen ≡ shown hiding.Gone (winner all key number))
      → T (is_sorted key_cmp rows_at) → ((key : List ℕ) → MayHave (resolved_at logs (winner es key number)) (find key_cmp key rows_at))
      → AreRowsOf logs (take n seen) rows
      → rows ≡ take n (in_direction way (where_key key_cmp (is_within low high) (rows_written own rows_at)))
  rows_are_scanned low high way n all seen rows rows_at wins along winners sorted have are =
      rows_are_taken logs all number (where_key key_cmp (is_within low high) (rows_written own rows_at))
      (λ key. have_cut low high rows_at key all (wins key) (have key)) way seen along winners
      (is_sorted-where_key key_cmp (is_within low high) (rows_written own rows_at) (sorted_written own rows_at sorted)) n rows are
