-- What is so of a layout's retired files, pins and numbers; and so of what a sweep removes.
use Rattle.std.proofs.Common.{◌≡◌, ⊎_elim, ℕ, ◌≤◌, ◌<◌, Bool, true, false, not, ◌&&◌, List, [], ◌∷◌, refl, sym, ◌∙◌, subst, arith}
use Rattle.std.proofs.lemmas.Bool.{and_parts}
use Rattle.std.proofs.lemmas.Bool.Decides.{nat_tests}
use Rattle.std.specs.Prelude.{Option, nat_lt}
use Rattle.std.specs.List.{AllByRecursion, filter}
use Rattle.vl_engine_model.specs.Rulings.Sweep.{pins, is_held, is_retired_up_to, swept}
use Rattle.vl_engine_model.specs.Sources.{needed, oldest, number_or, head}
use Rattle.vl_engine_model.specs.declared.file_name.Retired.{Retired}
use Rattle.vl_engine_model.specs.declared.layout.Layout.{Layout}
use Rattle.vl_engine_model.specs.declared.live.Pin.{Pin}
use Rattle.vl_engine_model.specs.declared.segment.Segment.{Segment}
use Rattle.vl_engine_model_laws.specs.laws.Files.{true_false, or_false, all_weaker, all_passed, all_mapped}
use Rattle.vl_engine_model.specs.Stock.{is_in, IsDrawn, IsUnneeded, IsOff, IsPinned, IsFalling, IsStocked, IsLoose}

-- ---- what a sweep removes

module _ {X Y : Type 0} (Q : X → Y → Type 0) where
  with_column : (x : X) (xs : List X) (ys : List Y) → AllByRecursion (Q x) ys
      → AllByRecursion (λ (y : Y). AllByRecursion (λ (z : X). Q z y) xs) ys
      → AllByRecursion (λ (y : Y). AllByRecursion (λ (z : X). Q z y) (x ∷ xs)) ys
  with_column x xs [] one all = tt
  with_column x xs (y ∷ ys) one all = ((one.0, all.0), with_column x xs ys one.1 all.1)

  no_columns : (ys : List Y) → AllByRecursion (λ (y : Y). AllByRecursion (λ (z : X). Q z y) []) ys
  no_columns [] = tt
  no_columns (y ∷ ys) = (tt, no_columns ys)

  pub transposed : (xs : List X) (ys : List Y) → AllByRecursion (λ (x : X). AllByRecursion (Q x) ys) xs
      → AllByRecursion (λ (y : Y). AllByRecursion (λ (x : X). Q x y) xs) ys
  transposed [] ys all = no_columns ys
  transposed (x ∷ xs) ys all = with_column x xs ys all.0 (transposed xs ys all.1)

not_needed : (r : Retired) (ps : List Pin) → AllByRecursion (λ (p : Pin). IsOff p r) ps
    → is_held ps r ≡ false → AllByRecursion (λ (p : Pin). is_in r.file p.needs ≡ false) ps
not_needed r [] off free = tt
not_needed r (p ∷ ps) off free =
    let both = or_false (nat_lt p.epoch r.epoch) (is_held ps r) free in (
      ⊎_elim
          (λ (less : p.epoch < r.epoch). absurd
          (let h = both.0 in let t : nat_lt p.epoch r.epoch ≡ true = grind (arith, nat_tests)
          in true_false (sym t ∙ h)))
          (λ (unneeded : is_in r.file p.needs ≡ false). unneeded)
          off.0,
      not_needed r ps off.1 both.1,
    )

not_true : (b : Bool) → not b ≡ true → b ≡ false
not_true true h = absurd (true_false (sym h))
not_true false h = refl

-- What a sweep removes is needed by no table, no memtable and nothing that lives.
pub swept_are_loose : (least : Option ℕ) (l : Layout) → IsStocked l → AllByRecursion (IsLoose l) (swept least l)
swept_are_loose least l s =
    all_mapped (IsLoose l) (λ (r : Retired). r.file) (filter (λ r. not (is_held (pins l) r) && is_retired_up_to least r) l.retired)
    (all_passed
    (λ (r : Retired). IsUnneeded (needed l) r × (IsDrawn l.next_log l.next_table r.file × AllByRecursion (λ (p : Pin). IsOff p r) (pins l)))
    (λ (r : Retired). IsLoose l r.file)
    (λ r. not (is_held (pins l) r) && is_retired_up_to least r)
    (λ r is free. record {
      sources = is.0;
      pins_off = not_needed r (pins l) is.1.1
          (not_true (is_held (pins l) r) (and_parts (not (is_held (pins l) r)) (is_retired_up_to least r) free).0);
      drawn = is.1.0;
    })
    l.retired
    (three l.retired s.unneeded s.retired_drawn
    (transposed IsOff (pins l) l.retired
    (all_weaker (IsPinned l.epoch l.retired) (λ (p : Pin). AllByRecursion (IsOff p) l.retired)
    (λ p is. is.off) (pins l) s.pinned))))
  where
    three : (rs : List Retired) → AllByRecursion (IsUnneeded (needed l)) rs
        → AllByRecursion (λ (r : Retired). IsDrawn l.next_log l.next_table r.file) rs
        → AllByRecursion (λ (r : Retired). AllByRecursion (λ (p : Pin). IsOff p r) (pins l)) rs
        → AllByRecursion (λ (r : Retired). IsUnneeded (needed l) r
        × (IsDrawn l.next_log l.next_table r.file × AllByRecursion (λ (p : Pin). IsOff p r) (pins l))) rs
    three [] a b c = tt
    three (r ∷ rs) a b c = ((a.0, (b.0, c.0)), three rs a.1 b.1 c.1)

-- ---- head

-- of falling logs the last is the least
last_least : (a : Segment) (ss : List Segment) → IsFalling (a ∷ ss)
    → AllByRecursion (λ (s : Segment). number_or a (oldest ss) ≤ s.number) (a ∷ ss)
last_least a [] falling = (omega arith, tt)
last_least a (s ∷ []) falling = ((let less = falling.0.0 in omega (arith, less)), (omega arith, tt))
last_least a (s ∷ t ∷ ts) falling =
    let later = last_least s (t ∷ ts) falling.1 in
    let same = same_last a s t ts in (
      (let less = falling.0.0 in let first = later.0 in omega (arith, less, first, same)),
      subst (λ (n : ℕ). AllByRecursion (λ (x : Segment). n ≤ x.number) (s ∷ t ∷ ts)) (sym same) later,
    )
  where
    same_last : (b c x : Segment) (xs : List Segment)
        → number_or b (oldest (c ∷ x ∷ xs)) ≡ number_or c (oldest (x ∷ xs))
    same_last b c x [] = refl
    same_last b c x (y ∷ ys) = same_last b x y ys ∙ sym (same_last c x y ys)

pub head_least : (l : Layout) → IsFalling (l.active ∷ l.frozen)
    → AllByRecursion (λ (s : Segment). head l ≤ s.number) (l.active ∷ l.frozen)
head_least l falling = last_least l.active l.frozen falling
