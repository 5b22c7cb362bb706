-- The table with the least number, the range of tables, and those that meet one, told step by step.
use Rattle.std.specs.Ordering.{is_lt}
use Rattle.vl_model.specs.Keys.{key_cmp}
use Rattle.std.specs.Prelude.{◌&&◌, not, Bool, true, false, Option, Some, None, nat_lt, if◌then◌else◌}
use Rattle.std.specs.List.{filter}
use Rattle.std.specs.Prelude.{◌==◌}
use Rattle.std.proofs.Common.{◌≡◌, ℕ, ◌<◌, ◌≤◌, arith, List, [], ◌∷◌, ◌++◌, refl, ap, sym, ◌∙◌, append_assoc, append-nil}
use Rattle.std.proofs.lemmas.List.Elements.{filter-append}
use Rattle.std.proofs.lemmas.Bool.Decides.{nat_tests}
use Rattle.vl_compact.specs.Laid.{AreBoth}
use Rattle.vl_engine_model.specs.Levels.{due_inputs, greater_key, with_next, lesser_key, meets, one_or_none, least_table}
use Rattle.vl_engine_model.specs.Levels.{lesser_table, range_of, widened, Range}
use Rattle.vl_engine_model.specs.declared.table.Table.{Table}

pub least_next : (t : Table) (here rest : List Table) → here ≡ t ∷ rest → least_table here ≡ lesser_table t (least_table rest)
least_next t here rest is = ap least_table is

pub range_next : (t : Table) (here rest : List Table) → here ≡ t ∷ rest → range_of here ≡ widened t (range_of rest)
range_next t here rest is = ap range_of is

-- of two tables the one behind is the lesser, or it isn't
pub lesser_there : (t u : Table) (m n : ℕ) → m ≡ u.number → n ≡ t.number → m < n → Some u ≡ lesser_table t (Some u)
lesser_there t u m n is_m is_n lt = sym
    (ap (λ (b : Bool). if b then Some u else Some t) (by u.number t.number (omega (arith, is_m, is_n, lt))))
  where
    by : (i j : ℕ) → i < j → nat_lt i j ≡ true
    by i j lt = grind (arith, nat_tests)

pub lesser_here : (t u : Table) (m n : ℕ) → m ≡ u.number → n ≡ t.number → n ≤ m → Some t ≡ lesser_table t (Some u)
lesser_here t u m n is_m is_n le = sym
    (ap (λ (b : Bool). if b then Some u else Some t) (by u.number t.number (omega (arith, is_m, is_n, le))))
  where
    by : (i j : ℕ) → j ≤ i → nat_lt i j ≡ false
    by i j le = grind (arith, nat_tests)

-- what a level that is due gives
pub due_all : (level : ℕ) (ts : List Table) → level ≡ 0 → ts ≡ due_inputs level ts
due_all level ts is = ap (λ (n : ℕ). due_inputs n ts) (sym is)

pub due_one : (level : ℕ) (ts : List Table) → (level ≡ 0 → ⊥) → one_or_none (least_table ts) ≡ due_inputs level ts
due_one level ts some = sym (ap (λ (b : Bool). if b then ts else one_or_none (least_table ts)) (by level some))
  where
    by : (n : ℕ) → (n ≡ 0 → ⊥) → (n == 0) ≡ false
    by n some = grind (arith, nat_tests)

-- nothing meets no range
nothing_met : (us : List Table) → filter (meets None) us ≡ []
nothing_met [] = refl
nothing_met (u ∷ us) = nothing_met us

pub none_next : (us : List Table) → with_next [] us ≡ []
none_next us = nothing_met us

-- what goes with one that is there is there
pub of_some : {A : Type 0} (R : A → Table → Type 0) (Q : Option Table → Type 0) (a : A) (o : Option Table) → AreBoth R (Some a) o
    → ((t : Table) → R a t → Q (Some t)) → Q o
of_some R Q a None both so = absurd both
of_some R Q a (Some t) both so = so t both

-- the range of a table alone, and of one before others
pub range_alone : (t : Table) (range : Option Range) (a b : List ℕ) → a ≡ t.first → b ≡ t.last → range ≡ None
    → Some (a, b) ≡ widened t range
range_alone t range a b is_a is_b none = (λ k. Some (is_a k, is_b k)) ∙ sym (ap (widened t) none)

pub range_more : (t : Table) (range : Option Range) (r : Range) (a b x y : List ℕ) → a ≡ t.first → b ≡ t.last → range ≡ Some r
    → x ≡ lesser_key a r.0 → y ≡ greater_key b r.1 → Some (x, y) ≡ widened t range
range_more t range r a b x y is_a is_b some is_x is_y =
    (λ k. Some (is_x k, is_y k)) ∙ (λ k. Some (lesser_key (is_a k) r.0, greater_key (is_b k) r.1)) ∙ sym (ap (widened t) some)

pub meets_is : (t : Table) (range : Option Range) (r : Range) (a b : List ℕ) (met : Bool) → a ≡ t.first → b ≡ t.last → range ≡ Some r
    → met ≡ (not (is_lt (key_cmp b r.0)) && not (is_lt (key_cmp r.1 a))) → met ≡ meets range t
meets_is t range r a b met is_a is_b some is =
    is ∙ (λ k. not (is_lt (key_cmp (is_b k) r.0)) && not (is_lt (key_cmp r.1 (is_a k)))) ∙ sym (ap (λ (o : Option Range). meets o t) some)

-- the next table behind those that were taken of a list
pub put_next : (ts some more : List Table) (t : Table) → more ≡ some ++ t ∷ [] → ts ++ more ≡ (ts ++ some) ++ t ∷ []
put_next ts some more t is = ap (λ (l : List Table). ts ++ l) is ∙ sym (append_assoc ts some (t ∷ []))

module _ (test : Table → Bool) where
  pub kept_one : (ts : List Table) (t : Table) → test t ≡ true → ts ++ t ∷ [] ≡ ts ++ filter test (t ∷ [])
  kept_one ts t kept = ap (λ (b : Bool). ts ++ (if b then t ∷ [] else [])) (sym kept)

  pub passed_one : (ts : List Table) (t : Table) → test t ≡ false → ts ≡ ts ++ filter test (t ∷ [])
  passed_one ts t passed = sym (append-nil ts) ∙ ap (λ (b : Bool). ts ++ (if b then t ∷ [] else [])) (sym passed)

  pub kept_next : (ts some more : List Table) (t : Table) → more ≡ some ++ t ∷ []
      → (ts ++ filter test some) ++ filter test (t ∷ []) ≡ ts ++ filter test more
  kept_next ts some more t is =
      append_assoc ts (filter test some) (filter test (t ∷ []))
      ∙ ap (λ (l : List Table). ts ++ l) (sym (ap (filter test) is ∙ filter-append test some (t ∷ [])))
