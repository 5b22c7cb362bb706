-- Looking names up, where one is put, or taken out.
use Rattle.std.proofs.Common.{◌≡◌, ◌+◌, ◌<◌, ℕ, zero, suc, Bool, true, false, true≢false, cond, not, List, [], ◌∷◌}
use Rattle.std.proofs.Common.{◌++◌, drop, get_or, length, refl, ap, sym, ◌∙◌, subst, arith}
use Rattle.std.specs.Prelude.{Option, None, Some}
use Rattle.std.specs.List.{remove, slice_index_or}
use Rattle.std.specs.Option.{is_some, option_map}
use Rattle.std.specs.Ordering.{eq_by_cmp}
use Rattle.std.specs.Str.{bytes_eq}
use Rattle.std.proofs.lemmas.List.{drop_more}
use Rattle.std.proofs.lemmas.Slice.Eq.{bytes_eq-Decides}
use Rattle.std.proofs.lemmas.Map.Text.{is_eq-slice_cmp}
use Rattle.vl_engine_model.specs.Store.Lines.{Name}
use Rattle.vl_engine_model.specs.Store.Things as store
use Rattle.vl_engine_model.specs.Store.Things.{named, thing_in, without_name}
use Rattle.vl_model.specs.Keys.{key_cmp}
use Rattle.vl_replay_laws.specs.Standing.{AreOnce, IsTaken, open_in, place_of}
use Rattle.vl_replay_laws.specs.declared.open.Open.{Open}
use Rattle.vl_replay_laws.specs.declared.open.Thing.{Thing}

-- ---- tests of names

pub named_so : (a b : Name) → eq_by_cmp key_cmp a b ≡ true → a ≡ b
named_so a b is = (bytes_eq-Decides a b).0 (sym (is_eq-slice_cmp a b) ∙ is)

pub own_name : (a : Name) → eq_by_cmp key_cmp a a ≡ true
own_name a = is_eq-slice_cmp a a ∙ (bytes_eq-Decides a a).1 refl

pub other_name : (a b : Name) → (a ≡ b → ⊥) → eq_by_cmp key_cmp a b ≡ false
other_name a b apart = of (eq_by_cmp key_cmp a b) refl
  where
    of : (t : Bool) → eq_by_cmp key_cmp a b ≡ t → eq_by_cmp key_cmp a b ≡ false
    of true is = absurd (apart (named_so a b is))
    of false is = is

-- one of two, by a test
pub on_true : {A : Type 0} (b : Bool) (x y : A) → b ≡ true → cond b x y ≡ x
on_true true x y is = refl
on_true false x y is = absurd cc

pub on_false : {A : Type 0} (b : Bool) (x y : A) → b ≡ false → cond b x y ≡ y
on_false true x y is = absurd cc
on_false false x y is = refl

-- ---- the store's things

pub thing_gone : (name : Name) (ts : List (Name × store.Thing)) → thing_in (without_name name ts) name ≡ None
thing_gone name [] = refl
thing_gone name (t ∷ ts) = of (eq_by_cmp key_cmp name t.0) refl (thing_gone name ts)
  where
    of : (b : Bool) → eq_by_cmp key_cmp name t.0 ≡ b → thing_in (without_name name ts) name ≡ None
        → thing_in (cond (not b) (t ∷ without_name name ts) (without_name name ts)) name ≡ None
    of true is later = later
    of false is later = on_false (eq_by_cmp key_cmp name t.0) (Some t.1) (thing_in (without_name name ts) name) is ∙ later

pub thing_left : (name other : Name) → (other ≡ name → ⊥) → (ts : List (Name × store.Thing))
    → thing_in (without_name name ts) other ≡ thing_in ts other
thing_left name other apart [] = refl
thing_left name other apart (t ∷ ts) = of (eq_by_cmp key_cmp name t.0) refl (thing_left name other apart ts)
  where
    of : (b : Bool) → eq_by_cmp key_cmp name t.0 ≡ b → thing_in (without_name name ts) other ≡ thing_in ts other
        → thing_in (cond (not b) (t ∷ without_name name ts) (without_name name ts)) other ≡ thing_in (t ∷ ts) other
    of true is later =
        let differs : eq_by_cmp key_cmp other t.0 ≡ false = other_name other t.0 (λ same. apart (same ∙ sym (named_so name t.0 is))) in
        later ∙ sym (on_false (eq_by_cmp key_cmp other t.0) (Some t.1) (thing_in ts other) differs)
    of false is later = ap (λ (o : Option store.Thing). cond (eq_by_cmp key_cmp other t.0) (Some t.1) o) later

pub thing_put : (name : Name) (x : store.Thing) (ts : List (Name × store.Thing)) → thing_in (named name x ts) name ≡ Some x
thing_put name x ts = on_true (eq_by_cmp key_cmp name name) (Some x) (thing_in (without_name name ts) name) (own_name name)

pub thing_beside : (name other : Name) → (other ≡ name → ⊥) → (x : store.Thing) (ts : List (Name × store.Thing))
    → thing_in (named name x ts) other ≡ thing_in ts other
thing_beside name other apart x ts =
    on_false (eq_by_cmp key_cmp other name) (Some x) (thing_in (without_name name ts) other) (other_name other name apart)
    ∙ thing_left name other apart ts

-- ---- one place further on

behind_none : (x : Option ℕ) → option_map (λ n. n + 1) x ≡ None → x ≡ None
behind_none None is = refl
behind_none (Some n) is = absurd cc

pub behind_some : (x : Option ℕ) (at : ℕ) → option_map (λ n. n + 1) x ≡ Some at → (n : ℕ) × (x ≡ Some n) × (at ≡ suc n)
behind_some None at is = absurd cc
behind_some (Some n) at is = (n, refl, same (n + 1) at is ∙ (let one : n + 1 ≡ suc n = omega arith in one))
  where
    same : (a b : ℕ) → Some a ≡ Some b → b ≡ a
    same a b e = cc

one_more : (at : ℕ) (x : Option ℕ) → option_map (λ n. n + at) (option_map (λ n. n + 1) x) ≡ option_map (λ n. n + (at + 1)) x
one_more at None = refl
one_more at (Some n) = ap (λ (m : ℕ). Some m) (let same : n + 1 + at ≡ n + (at + 1) = omega arith in same)

used_more : (x : Option ℕ) → is_some (option_map (λ n. n + 1) x) ≡ is_some x
used_more None = refl
used_more (Some n) = refl

-- ---- the replayer's names

module _ {H R : Type 0} where
  -- one more behind the others
  pub open_put : (os : List (Open H R)) (o : Open H R) → open_in os o.name ≡ None → open_in (os ++ o ∷ []) o.name ≡ Some o.thing
  open_put [] o none = on_true (eq_by_cmp key_cmp o.name o.name) (Some o.thing) None (own_name o.name)
  open_put (p ∷ os) o none = of (eq_by_cmp key_cmp o.name p.name) none (open_put os o)
    where
      of : (b : Bool) → cond b (Some p.thing) (open_in os o.name) ≡ None
          → (open_in os o.name ≡ None → open_in (os ++ o ∷ []) o.name ≡ Some o.thing)
          → cond b (Some p.thing) (open_in (os ++ o ∷ []) o.name) ≡ Some o.thing
      of true is later = absurd cc
      of false is later = later is

  pub open_beside : (os : List (Open H R)) (o : Open H R) (other : Name) → (other ≡ o.name → ⊥)
      → open_in (os ++ o ∷ []) other ≡ open_in os other
  open_beside [] o other apart = on_false (eq_by_cmp key_cmp other o.name) (Some o.thing) None (other_name other o.name apart)
  open_beside (p ∷ os) o other apart =
      ap (λ (x : Option (Thing H R)). cond (eq_by_cmp key_cmp other p.name) (Some p.thing) x) (open_beside os o other apart)

  pub once_put : (os : List (Open H R)) (o : Open H R) → AreOnce os → open_in os o.name ≡ None → AreOnce (os ++ o ∷ [])
  once_put [] o once none = (refl, tt)
  once_put (p ∷ os) o once none = of (eq_by_cmp key_cmp o.name p.name) refl none (once_put os o once.1)
    where
      of : (b : Bool) → eq_by_cmp key_cmp o.name p.name ≡ b → cond b (Some p.thing) (open_in os o.name) ≡ None
          → (open_in os o.name ≡ None → AreOnce (os ++ o ∷ [])) → (open_in (os ++ o ∷ []) p.name ≡ None) × AreOnce (os ++ o ∷ [])
      of true is none later = absurd cc
      of false is none later = (
        open_beside os o p.name (λ same. true≢false (sym (own_name o.name) ∙ ap (eq_by_cmp key_cmp o.name) (sym same) ∙ is)) ∙ once.0,
        later none,
      )

  -- without the first with this name
  abbrev pub without_open : Name → List (Open H R) → List (Open H R)
  without_open name [] = []
  without_open name (o ∷ os) = cond (eq_by_cmp key_cmp name o.name) os (o ∷ without_open name os)

  -- ---- where a name stands

  -- somewhere where it is in use
  pub same_use : (name : Name) (os : List (Open H R)) → is_some (place_of name os) ≡ is_some (open_in os name)
  same_use name [] = refl
  same_use name (o ∷ os) = of (eq_by_cmp key_cmp name o.name) (same_use name os)
    where
      of : (b : Bool) → is_some (place_of name os) ≡ is_some (open_in os name)
          → is_some (cond b (Some 0) (option_map (λ n. n + 1) (place_of name os))) ≡ is_some (cond b (Some o.thing) (open_in os name))
      of true later = refl
      of false later = used_more (place_of name os) ∙ later

  -- nowhere
  pub place_none : (name : Name) (os : List (Open H R)) → place_of name os ≡ None → open_in os name ≡ None
  place_none name [] is = refl
  place_none name (o ∷ os) is = of (eq_by_cmp key_cmp name o.name) is (place_none name os)
    where
      of : (b : Bool) → cond b (Some 0) (option_map (λ n. n + 1) (place_of name os)) ≡ None
          → (place_of name os ≡ None → open_in os name ≡ None) → cond b (Some o.thing) (open_in os name) ≡ None
      of true is later = absurd cc
      of false is later = later (behind_none (place_of name os) is)

  -- at a place, where the others stand without it when that is removed
  pub place_there : (name : Name) (os : List (Open H R)) (at : ℕ) → place_of name os ≡ Some at
      → (remove os at ≡ without_open name os) × ((d : Open H R) → open_in os name ≡ Some (slice_index_or os at d).thing) × (at < length os)
  place_there name [] at is = absurd cc
  place_there name (o ∷ os) at is = of (eq_by_cmp key_cmp name o.name) refl at is (place_there name os)
    where
      of : (b : Bool) → eq_by_cmp key_cmp name o.name ≡ b → (at : ℕ)
          → cond b (Some 0) (option_map (λ n. n + 1) (place_of name os)) ≡ Some at
          → ((n : ℕ) → place_of name os ≡ Some n → (remove os n ≡ without_open name os)
          × ((d : Open H R) → open_in os name ≡ Some (slice_index_or os n d).thing) × (n < length os))
          → (remove (o ∷ os) at ≡ without_open name (o ∷ os))
          × ((d : Open H R) → open_in (o ∷ os) name ≡ Some (slice_index_or (o ∷ os) at d).thing) × (at < length (o ∷ os))
      of true is zero place later = (
        sym (on_true (eq_by_cmp key_cmp name o.name) os (o ∷ without_open name os) is),
        λ d. on_true (eq_by_cmp key_cmp name o.name) (Some o.thing) (open_in os name) is,
        omega arith,
      )
      of true is (suc n) place later = absurd cc
      of false is at place later =
          let (n, there, same) = behind_some (place_of name os) at place in
          let (left, found, within) = later n there in
          subst (λ (k : ℕ). (remove (o ∷ os) k ≡ without_open name (o ∷ os))
          × ((d : Open H R) → open_in (o ∷ os) name ≡ Some (slice_index_or (o ∷ os) k d).thing) × (k < length (o ∷ os))) (sym same) (
            ap (λ (xs : List (Open H R)). o ∷ xs) left ∙ sym (on_false (eq_by_cmp key_cmp name o.name) os (o ∷ without_open name os) is),
            λ d. on_false (eq_by_cmp key_cmp name o.name) (Some o.thing) (open_in os name) is ∙ found d,
            omega (arith, within),
          )

  -- ---- without a name

  gone : (name : Name) (os : List (Open H R)) → AreOnce os → open_in (without_open name os) name ≡ None
  gone name [] once = refl
  gone name (o ∷ os) once = of (eq_by_cmp key_cmp name o.name) refl (gone name os once.1)
    where
      of : (b : Bool) → eq_by_cmp key_cmp name o.name ≡ b → open_in (without_open name os) name ≡ None
          → open_in (cond b os (o ∷ without_open name os)) name ≡ None
      of true is later = subst (λ (q : Name). open_in os q ≡ None) (sym (named_so name o.name is)) once.0
      of false is later = on_false (eq_by_cmp key_cmp name o.name) (Some o.thing) (open_in (without_open name os) name) is ∙ later

  left : (name other : Name) → (other ≡ name → ⊥) → (os : List (Open H R)) → open_in (without_open name os) other ≡ open_in os other
  left name other apart [] = refl
  left name other apart (o ∷ os) = of (eq_by_cmp key_cmp name o.name) refl (left name other apart os)
    where
      of : (b : Bool) → eq_by_cmp key_cmp name o.name ≡ b → open_in (without_open name os) other ≡ open_in os other
          → open_in (cond b os (o ∷ without_open name os)) other ≡ cond (eq_by_cmp key_cmp other o.name) (Some o.thing) (open_in os other)
      of true is later =
          let differs : eq_by_cmp key_cmp other o.name ≡ false = other_name other o.name
          (λ same. apart (same ∙ sym (named_so name o.name is))) in
          sym (on_false (eq_by_cmp key_cmp other o.name) (Some o.thing) (open_in os other) differs)
      of false is later = ap (λ (x : Option (Thing H R)). cond (eq_by_cmp key_cmp other o.name) (Some o.thing) x) later

  once_left : (name : Name) (os : List (Open H R)) → AreOnce os → AreOnce (without_open name os)
  once_left name [] once = tt
  once_left name (o ∷ os) once = of (eq_by_cmp key_cmp name o.name) refl (once_left name os once.1)
    where
      of : (b : Bool) → eq_by_cmp key_cmp name o.name ≡ b → AreOnce (without_open name os) → AreOnce (cond b os (o ∷ without_open name os))
      of true is later = once.1
      of false is later = (
        left name o.name
            (λ same. true≢false (sym (own_name name) ∙ ap (eq_by_cmp key_cmp name) (sym same) ∙ is)) os ∙ once.0,
        later,
      )

  -- A name is taken out.
  pub taken : (name : Name) (os : List (Open H R)) → AreOnce os → IsTaken os (without_open name os) name (open_in os name)
  taken name os once = record {
    found = refl;
    none = gone name os once;
    others = λ other apart. left name other apart os;
    once = once_left name os once;
  }

  -- where it isn't there, they stay
  pub taken_none : (name : Name) (os : List (Open H R)) → AreOnce os → open_in os name ≡ None → IsTaken os os name None
  taken_none name os once none = record { found = none; none = none; others = λ other apart. refl; once = once }

  -- ---- finding a name's place, one after the other

  -- the place among those from here on
  abbrev pub PlaceFrom : Name → List (Open H R) → ℕ → Type 0
  PlaceFrom name os at = place_of name os ≡ option_map (λ n. n + at) (place_of name (drop at os))

  here_is : (name : Name) (os : List (Open H R)) (at : ℕ) (o : Open H R) → at < length os → o ≡ get_or os at o → (b : Bool)
      → bytes_eq name o.name ≡ b
      → place_of name (drop at os) ≡ cond b (Some 0) (option_map (λ n. n + 1) (place_of name (drop (at + 1) os)))
  here_is name os at o within is b same =
      ap (place_of name) (drop_more os at o within ∙ ap (λ (x : Open H R). x ∷ drop (at + 1) os) (sym is))
      ∙ ap (λ (t : Bool). cond t (Some 0) (option_map (λ n. n + 1) (place_of name (drop (at + 1) os)))) (is_eq-slice_cmp name o.name ∙ same)

  pub place_goes_on : (name : Name) (os : List (Open H R)) (at : ℕ) (o : Open H R) → at < length os → o ≡ get_or os at o
      → bytes_eq name o.name ≡ false → PlaceFrom name os at → PlaceFrom name os (at + 1)
  place_goes_on name os at o within is other from =
      from ∙ ap (option_map (λ n. n + at)) (here_is name os at o within is false other) ∙ one_more at (place_of name (drop (at + 1) os))

  pub place_found : (name : Name) (os : List (Open H R)) (at : ℕ) (o : Open H R) → at < length os → o ≡ get_or os at o
      → bytes_eq name o.name ≡ true → PlaceFrom name os at → Some at ≡ place_of name os
  place_found name os at o within is same from =
      sym (from ∙ ap (option_map (λ n. n + at)) (here_is name os at o within is true same)
      ∙ ap (λ (m : ℕ). Some m) (let first : 0 + at ≡ at = omega arith in first))

  -- What stands at a name's place is taken out.
  pub taken_at : (name : Name) (os new : List (Open H R)) (at : ℕ) (o : Open H R) → Some at ≡ place_of name os → AreOnce os
      → o ≡ slice_index_or os at o → new ≡ remove os at → IsTaken os new name (Some o.thing)
  taken_at name os new at o is once there left =
      let (removed, found, within) = place_there name os at (sym is) in
      let thing : open_in os name ≡ Some o.thing = found o ∙ ap (λ (p : Open H R). Some p.thing) (sym there) in
      subst (λ (xs : List (Open H R)). IsTaken os xs name (Some o.thing)) (sym (left ∙ removed))
      (subst (IsTaken os (without_open name os) name) thing (taken name os once))
