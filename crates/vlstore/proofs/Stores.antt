-- A store's sessions when it is made, and when it is closed.
use Rattle.std.proofs.Common.{◌≡◌, ℕ, ◌+◌, List, [], ◌∷◌, ◌++◌, length, Option, Some, refl, ap, sym, ◌∙◌, subst, arith, append_assoc}
use Rattle.std.specs.Prelude.{IfSome}
use Rattle.atomic_table.specs.Table.{Me}
use Rattle.vl_engine_model.specs.declared.lock_history.LockEntry.{LockEntry}
use Rattle.vlstore.specs.Knowing.{Knows}
use Rattle.vlstore.specs.Stores.{AreFirst, AreIn, AreMet, AreWithin, IsFirst, numbering, owns_of}
use Rattle.vlstore.proofs.Sessions.{by}
use Rattle.vl_turn.specs.Entries.{AreAmong, AreNumbered, Owned}
use Rattle.vl_turn.specs.Tokens.{IsWhole}
use Rattle.vl_turn.specs.Views.{counted, dealt, disowned}
use Rattle.vl_turn.specs.declared.view.Own.{Own}
use Rattle.vl_turn.specs.declared.view.View.{View}
use mathlib.Core.List.{IsPrefix}

-- ---- when it is made

pub first_more : (store : Knows) (k n : ℕ) (vs : List Knows) (v : Knows) → AreFirst store k vs → n ≡ k + length vs
    → IsFirst store n v → AreFirst store k (vs ++ v ∷ [])
first_more store k n [] v all is one = (subst (λ m. IsFirst store m v) (let h : n ≡ k = omega arith in h) one, tt)
first_more store k n (u ∷ vs) v all is one = (all.0, first_more store (k + 1) n vs v all.1 (omega arith) one)

module _ {T : Type 0} where
  pub numbered_next : (start : T) (k : ℕ) (m m' : Me (Option T) (View T LockEntry)) → m ≡ (numbering start k, [])
      → m' ≡ (disowned (counted m.0), m.1) → m' ≡ (numbering start (k + 1), [])
  numbered_next start k m m' is next = next ∙ ap (λ (x : Me (Option T) (View T LockEntry)). (disowned (counted x.0), x.1)) is

  pub dealt_first : (start : T) (k : ℕ) (m : Me (Option T) (View T LockEntry)) (v : View T LockEntry) → m ≡ (numbering start k, [])
      → v ≡ dealt (counted m.0) → v ≡ dealt (counted (numbering start k))
  dealt_first start k m v is v_is = v_is ∙ ap (λ (x : Me (Option T) (View T LockEntry)). dealt (counted x.0)) is

-- so it is by what the store is, and whatever else it knows
pub same_first : (a b : Knows) → a.store ≡ b.store → a.origin ≡ b.origin → a.tells ≡ b.tells → (n : ℕ) (vs : List Knows)
    → AreFirst a n vs → AreFirst b n vs
same_first a b store origin tells n [] all = tt
same_first a b store origin tells n (v ∷ vs) all = (
  record {
    is = all.0.is
        ∙ (ap (λ x. record a { store = x; session = n; seen = []; own = [] }) store
        ∙ (ap (λ x. record a { store = b.store; origin = x; session = n; seen = []; own = [] }) origin
        ∙ ap (λ x. record b { tells = x; session = n; seen = []; own = [] }) tells));
  },
  same_first a b store origin tells (n + 1) vs all.1,
)

-- ---- when it is closed

within_more : (us os more : List (Own LockEntry)) → AreWithin us os → AreWithin us (os ++ more)
within_more us os more w =
    (w.0, w.1 ++ more, ap (λ xs. xs ++ more) w.2 ∙ (append_assoc w.0 (us ++ w.1) more ∙ ap (λ xs. w.0 ++ xs) (append_assoc us w.1 more)))

pub prefix_on : (xs ys zs : List LockEntry) → IsPrefix xs ys → IsPrefix ys zs → IsPrefix xs zs
prefix_on xs ys zs p q =
    let whole : (xs ++ p.0) ++ q.0 ≡ zs = ap (λ l. l ++ q.0) p.1 ∙ q.1 in
    (p.0 ++ q.0, sym (append_assoc xs p.0 q.0) ∙ whole)

pub nothing_left : {A : Type 0} (xs : List A) → length xs ≡ 0 → xs ≡ []
nothing_left [] is = refl
nothing_left (x ∷ xs) is = absurd (omega arith)

pub nil_after : {A : Type 0} (xs : List A) → xs ≡ xs ++ []
nil_after [] = refl
nil_after (x ∷ xs) = ap (λ ys. x ∷ ys) (nil_after xs)

met_more : (seen seen' : List LockEntry) (os more : List (Own LockEntry)) (vs : List Knows) → IsPrefix seen seen' → AreMet seen os vs
    → AreMet seen' (os ++ more) vs
met_more seen seen' os more [] p all = tt
met_more seen seen' os more (v ∷ vs) p all = (
  (prefix_on v.seen seen seen' all.0.0 p, within_more (record { number = v.session; entries = v.own } ∷ []) os more all.0.1),
  met_more seen seen' os more vs p all.1,
)

met_snoc : (seen : List LockEntry) (os : List (Own LockEntry)) (vs : List Knows) (v : Knows) → AreMet seen os vs → IsPrefix v.seen seen
    → AreWithin (record { number = v.session; entries = v.own } ∷ []) os → AreMet seen os (vs ++ v ∷ [])
met_snoc seen os [] v all p w = ((p, w), tt)
met_snoc seen os (u ∷ vs) v all p w = (all.0, met_snoc seen os vs v all.1 p w)

-- one more was met
pub met_next : (seen seen' : List LockEntry) (os os' : List (Own LockEntry)) (vs : List Knows) (v : Knows)
    → os' ≡ os ++ record { number = v.session; entries = v.own } ∷ [] → IsPrefix seen seen' → IsPrefix v.seen seen' → AreMet seen os vs
    → AreMet seen' os' (vs ++ v ∷ [])
met_next seen seen' os os' vs v is p q all =
    subst (λ us. AreMet seen' us (vs ++ v ∷ [])) (sym is)
    (met_snoc seen' (os ++ record { number = v.session; entries = v.own } ∷ []) vs v
    (met_more seen seen' os (record { number = v.session; entries = v.own } ∷ []) vs p all) q
    (os, [], ap (λ xs. os ++ xs) (nil_after (record { number = v.session; entries = v.own } ∷ []))))

pub owns_more : (vs : List Knows) (v : Knows)
    → owns_of (vs ++ v ∷ []) ≡ owns_of vs ++ record { number = v.session; entries = v.own } ∷ []
owns_more [] v = refl
owns_more (u ∷ vs) v = ap (λ os. record { number = u.session; entries = u.own } ∷ os) (owns_more vs v)

pub among_by : {T : Type 0} (n : ℕ) (list : List LockEntry) (v : View T LockEntry) → v.made ≡ Some n → IsWhole by list v
    → AreAmong n v.owns
among_by n list v made whole = (subst (λ m. IfSome m (λ k. AreNumbered by k list × AreAmong k v.owns)) made whole.numbers).1

owned_part : (list : List LockEntry) (before us after : List (Own LockEntry)) → Owned by list (before ++ (us ++ after)) → Owned by list us
owned_part list [] [] after all = tt
owned_part list [] (u ∷ us) after all = (all.0, owned_part list [] us after all.1)
owned_part list (b ∷ before) us after all = owned_part list before us after all.1

-- where all were met, the list has all that each knows
pub all_in : (seen list : List LockEntry) (os : List (Own LockEntry)) (vs : List Knows) → IsPrefix seen list → Owned by list os
    → AreMet seen os vs → AreIn list vs
all_in seen list os [] p owned all = tt
all_in seen list os (v ∷ vs) p owned all =
    let w = all.0.1 in
    let one : List (Own LockEntry) = record { number = v.session; entries = v.own } ∷ [] in (
      (prefix_on v.seen seen list all.0.0 p, (owned_part list w.0 one w.1 (subst (Owned by list) w.2 owned)).0),
      all_in seen list os vs p owned all.1,
    )

pub numbered_by : {T : Type 0} (n : ℕ) (list : List LockEntry) (v : View T LockEntry) → v.made ≡ Some n → IsWhole by list v
    → AreNumbered by n list
numbered_by n list v made whole = (subst (λ m. IfSome m (λ k. AreNumbered by k list × AreAmong k v.owns)) made whole.numbers).0

pub snoc_shift : (xs : List Knows) (v : Knows) (ys : List Knows) → (xs ++ v ∷ []) ++ ys ≡ xs ++ v ∷ ys
snoc_shift xs v ys = append_assoc xs (v ∷ []) ys
