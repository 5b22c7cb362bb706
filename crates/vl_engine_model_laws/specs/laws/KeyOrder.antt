-- New tables are put in key order among those of a level: where each of these lies on one side of all, the level stays apart.
use Rattle.std.proofs.Common.{◌≡◌, ◌⊎◌, inl, inr, ℕ, Bool, true, false, cond, List, [], ◌∷◌, ◌++◌, refl, sym, ◌∙◌}
use Rattle.std.specs.List.{AllByRecursion}
use Rattle.vl_engine_model.specs.Levels.{is_before, in_key_order}
use Rattle.vl_engine_model.specs.declared.table.Table.{Table}
use Rattle.vl_engine_model_laws.specs.laws.Lists.{true_false}
use Rattle.vl_engine_model_laws.specs.laws.Outputs.{Lt, lt_le_then, lt_le}
use Rattle.vl_engine_model.specs.TidyLevels.{Le, IsApart, IsWide}
use Rattle.vl_engine_model_laws.specs.laws.Pairs.{le_then}

-- the table ends before all of these begin, or begins behind all of them
abbrev pub IsAside : List Table → Table → Type 0
IsAside new u =
    AllByRecursion (λ (t : Table). Lt u.last t.first) new ⊎ AllByRecursion (λ (t : Table). Lt t.last u.first) new

never_lt : (a b : List ℕ) → Lt a b → Le b a → ⊥
never_lt a b less le = true_false (sym less ∙ le)

all_both : (P : Table → Type 0) (xs ys : List Table) → AllByRecursion P xs → AllByRecursion P ys
    → AllByRecursion P (xs ++ ys)
all_both P [] ys a b = b
all_both P (x ∷ xs) ys a b = (a.0, all_both P xs ys a.1 b)

all_weaker : (P Q : Table → Type 0) → ((t : Table) → P t → Q t) → (ts : List Table) → AllByRecursion P ts
    → AllByRecursion Q ts
all_weaker P Q f [] all = tt
all_weaker P Q f (t ∷ ts) all = (f t all.0, all_weaker P Q f ts all.1)

pub all_among : (P : Table → Type 0) (new ts : List Table) → AllByRecursion P new → AllByRecursion P ts
    → AllByRecursion P (in_key_order new ts)
all_among P new [] a b = a
all_among P new (t ∷ ts) a b = elim (is_before t new) as (λ c. AllByRecursion P (cond c (t ∷ in_key_order new ts) (new ++ t ∷ ts))) [
  | true ↦ (b.0, all_among P new ts a b.1)
  | false ↦ all_both P new (t ∷ ts) a b
]

-- where the table is before the first of them it is before all
before_all : (t : Table) (new : List Table) → IsWide t → AllByRecursion IsWide new → IsAside new t
    → is_before t new ≡ true
    → AllByRecursion (λ (u : Table). Lt t.last u.first) new
before_all t new wide wides (inl all) is = all
before_all t [] wide wides (inr all) is = tt
before_all t (w ∷ ws) wide wides (inr all) is =
    absurd (never_lt w.last t.first all.0
    (le_then t.first t.last w.last wide (le_then t.last w.first w.last (lt_le t.last w.first is) wides.0)))

behind_all : (t : Table) (new : List Table) → IsAside new t → is_before t new ≡ false
    → AllByRecursion (λ (u : Table). Lt u.last t.first) new
behind_all t new (inr all) is = all
behind_all t [] (inl all) is = tt
behind_all t (w ∷ ws) (inl all) is = absurd (true_false (sym all.0 ∙ is))

apart_append : (new : List Table) (t : Table) (ts : List Table) → IsApart new → IsApart (t ∷ ts) → IsWide t
    → AllByRecursion (λ (u : Table). Lt u.last t.first) new → IsApart (new ++ t ∷ ts)
apart_append [] t ts a b wide before = b
apart_append (w ∷ ws) t ts a b wide before = (
  all_both (λ (u : Table). Lt w.last u.first) ws (t ∷ ts) a.0 (
    before.0,
    all_weaker (λ (u : Table). Lt t.last u.first) (λ (u : Table). Lt w.last u.first)
        (λ u less. lt_le_then w.last t.first u.first before.0 (le_then t.first t.last u.first wide (lt_le t.last u.first less))) ts b.0,
  ),
  apart_append ws t ts a.1 b wide before.1,
)

pub key_order_apart : (new ts : List Table) → IsApart new → IsApart ts → AllByRecursion IsWide new
    → AllByRecursion IsWide ts
    → AllByRecursion (IsAside new) ts → IsApart (in_key_order new ts)
key_order_apart new [] a b wn wt aside = a
key_order_apart new (t ∷ ts) a b wn wt aside =
    by (is_before t new) refl (key_order_apart new ts a b.1 wn wt.1 aside.1)
  where
    by : (c : Bool) → is_before t new ≡ c → IsApart (in_key_order new ts)
        → IsApart (cond c (t ∷ in_key_order new ts) (new ++ t ∷ ts))
    by true is later =
        (all_among (λ (u : Table). Lt t.last u.first) new ts (before_all t new wt.0 wn aside.0 is) b.0, later)
    by false is later = apart_append new t ts a b wt.0 (behind_all t new aside.0 is)
