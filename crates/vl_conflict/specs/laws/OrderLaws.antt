-- Laws of lists in rising order of keys.
use Rattle.std.proofs.Common.{◌≡◌, ℕ, Bool, true, false, cond, ◌&&◌, List, [], ◌∷◌, refl, T}
use Rattle.std.specs.List.{AllByRecursion, filter}
use Rattle.std.specs.declared.cmp.Ordering.{Ordering}
use Rattle.std.specs.declared.cmp.Ordering.TheVariants.{Less, Equal, Greater}
use Rattle.std.specs.Ordering.{is_lt}
use Rattle.std.specs.Cmp.Lexicographic.{nat_list_cmp_total}
use Rattle.std.specs.FinMap.{put, is_sorted}
use Rattle.std.specs.FinMap.Entries.{below_all, is_sorted-put}
use Rattle.vl_model.specs.Keys.{key_cmp}
use Rattle.vl_model.specs.Conflicts.{Named}

pub as_T : (b : Bool) → b ≡ true → T b
as_T true is = tt
as_T false is = cc

pub from_T : (b : Bool) → T b → b ≡ true
from_T true is = refl
from_T false is = absurd is

pub two_parts : (a b : Bool) → T (a && b) → T a × T b
two_parts true b both = (tt, both)
two_parts false b both = absurd both

pub both_parts : (a b : Bool) → T a → T b → T (a && b)
both_parts true b x y = y
both_parts false b x y = absurd x

-- ---- what stands behind a key

pub lt-is : (r : Ordering) → T (is_lt r) → r ≡ Less
lt-is Less h = refl
lt-is Equal h = absurd h
lt-is Greater h = absurd h

pub above-all : (x : Named) (es : List Named) → T (below_all key_cmp x.0 es) → AllByRecursion (λ (e : Named). key_cmp x.0 e.0 ≡ Less) es
above-all x [] below = tt
above-all x (e ∷ es) below =
    let parts = two_parts (is_lt (key_cmp x.0 e.0)) (below_all key_cmp x.0 es) below
    in (lt-is (key_cmp x.0 e.0) parts.0, above-all x es parts.1)

-- ---- those that pass a test

module _ (test : Named → Bool) where
  below_filtered : (q : List ℕ) (named : List Named) → T (below_all key_cmp q named) → T (below_all key_cmp q (filter test named))
  below_filtered q [] below = tt
  below_filtered q (n ∷ ns) below =
      let parts = two_parts (is_lt (key_cmp q n.0)) (below_all key_cmp q ns) below in
      let later = below_filtered q ns parts.1 in
      elim (test n) as (λ b. T (below_all key_cmp q (cond b (n ∷ filter test ns) (filter test ns)))) [
        | true ↦ both_parts (is_lt (key_cmp q n.0)) (below_all key_cmp q (filter test ns)) parts.0 later
        | false ↦ later
      ]

  filter_sorted : (named : List Named) → T (is_sorted key_cmp named) → T (is_sorted key_cmp (filter test named))
  filter_sorted [] rising = tt
  filter_sorted (n ∷ ns) rising =
      let parts = two_parts (below_all key_cmp n.0 ns) (is_sorted key_cmp ns) rising in
      let later = filter_sorted ns parts.1 in
      elim (test n) as (λ b. T (is_sorted key_cmp (cond b (n ∷ filter test ns) (filter test ns)))) [
        | true ↦ both_parts (below_all key_cmp n.0 (filter test ns)) (is_sorted key_cmp (filter test ns))
            (below_filtered n.0 ns parts.0) later
        | false ↦ later
      ]

  pub filter_rises : (named : List Named) → is_sorted key_cmp named ≡ true → is_sorted key_cmp (filter test named) ≡ true
  filter_rises named rising = from_T (is_sorted key_cmp (filter test named)) (filter_sorted named (as_T (is_sorted key_cmp named) rising))

-- ---- one key more

pub put_rising : (list : List Named) (key : List ℕ) (number : ℕ) → is_sorted key_cmp list ≡ true
    → is_sorted key_cmp (put key_cmp key number list) ≡ true
put_rising list key number sorted = from_T _
    (is_sorted-put key_cmp nat_list_cmp_total key number list (as_T (is_sorted key_cmp list) sorted))
