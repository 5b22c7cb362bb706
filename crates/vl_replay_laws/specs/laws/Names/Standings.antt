-- How what names stand for changes, on both sides alike.
use Rattle.std.proofs.Common.{◌≡◌, ◌⊎◌, ⊎_elim, inl, inr, ℕ, Bool, true, false, true≢false, List, [], ◌∷◌, ◌++◌, refl, ap, sym, ◌∙◌, subst}
use Rattle.std.specs.Prelude.{Option, None, Some}
use Rattle.std.specs.Ordering.{eq_by_cmp}
use Rattle.vl_engine_model.specs.Store.Lines.{Name}
use Rattle.vl_engine_model.specs.Store.Things as store
use Rattle.vl_engine_model.specs.Store.Things.{named, thing_in, without_name}
use Rattle.vl_engine_model.specs.declared.layout.Layout.{Layout}
use Rattle.vl_model.specs.History.{History}
use Rattle.vl_model.specs.Keys.{key_cmp}
use Rattle.vl_script_model.specs.Readers.{IsReader}
use Rattle.vl_replay_laws.specs.Standing.{Corresponds, IsTaken, Stand, open_in, ticket_of}
use Rattle.vl_replay_laws.specs.declared.open.Open.{Open}
use Rattle.vl_replay_laws.specs.declared.open.Thing.{Thing}
use Rattle.vl_replay_laws.specs.laws.Names.Lookups.{named_so, once_put, own_name, open_beside, open_put, thing_beside}
use Rattle.vl_replay_laws.specs.laws.Names.Lookups.{thing_gone, thing_left, thing_put}

-- two names, by whether they are one
abbrev pub Same : Name → Name → Type 0
Same a b = (a ≡ b) ⊎ (a ≡ b → ⊥)

pub same_or_not : (a b : Name) → Same a b
same_or_not a b = of (eq_by_cmp key_cmp a b) refl
  where
    of : (t : Bool) → eq_by_cmp key_cmp a b ≡ t → Same a b
    of true is = inl (named_so a b is)
    of false is = inr (λ same. true≢false (sym (subst (λ (c : Name). eq_by_cmp key_cmp a c ≡ true) same (own_name a)) ∙ is))

module _ {H R : Type 0} (bytes : H → Option (List ℕ)) (ts : List (Name × store.Thing)) (h k : History) (l m : Layout)
    (os left : List (Open H R)) (stand : Stand bytes os ts h l) (name : Name) (thing : Option (Thing H R))
    (taken : IsTaken os left name thing)
    -- what another name stands for stands there over the new history and layout
    (still : (other : Name) → (other ≡ name → ⊥) → (x : Option (Thing H R)) (y : Option store.Thing)
    → thing_in ts other ≡ y → Corresponds bytes h l x y → Corresponds bytes k m x y) where
  -- so it does behind the step
  others : (other : Name) → (other ≡ name → ⊥) → Corresponds bytes k m (open_in left other) (thing_in ts other)
  others other apart =
      subst (λ (x : Option (Thing H R)). Corresponds bytes k m x (thing_in ts other)) (sym (taken.others other apart))
      (still other apart (open_in os other) (thing_in ts other) refl (stand.each other))

  -- The name is free again.
  pub stands_without : Stand bytes left (without_name name ts) k m
  stands_without = record {
    each = λ other. ⊎_elim
        (λ (same : other ≡ name). subst
        (λ (q : Name). Corresponds bytes k m (open_in left q) (thing_in (without_name name ts) q)) (sym same)
        (subst (λ (x : Option (Thing H R)). Corresponds bytes k m x (thing_in (without_name name ts) name)) (sym taken.none)
        (subst (Corresponds {R = R} bytes k m None) (sym (thing_gone name ts)) tt)))
        (λ (apart : other ≡ name → ⊥). subst (Corresponds bytes k m (open_in left other))
        (sym (thing_left name other apart ts)) (others other apart))
        (same_or_not other name);
    once = taken.once;
    apart = λ a b x y at_a at_b reads_x reads_y same. stand.apart a b x y (was a x at_a) (was b y at_b) reads_x reads_y same;
  }
    where
      none_some : (x : store.Thing) → None ≡ Some x → ⊥
      none_some x e = cc

      -- it stood there before
      was : (a : Name) (x : store.Thing) → thing_in (without_name name ts) a ≡ Some x → thing_in ts a ≡ Some x
      was a x is = ⊎_elim
          (λ (same : a ≡ name). absurd
          (none_some x (sym (thing_gone name ts) ∙ subst (λ (q : Name). thing_in (without_name name ts) q ≡ Some x) same is)))
          (λ (apart : a ≡ name → ⊥). sym (thing_left name a apart ts) ∙ is)
          (same_or_not a name)

  -- It stands for this then, whose ticket nothing else has.
  pub stands_with : (new : Thing H R) (x : store.Thing) → Corresponds bytes k m (Some new) (Some x)
      → ((other : Name) (y : store.Thing) → (other ≡ name → ⊥) → thing_in ts other ≡ Some y → IsReader y → ticket_of x ≡ ticket_of y → ⊥)
      → Stand bytes (left ++ record { name = name; thing = new } ∷ []) (named name x ts) k m
  stands_with new x same_there free = record {
    each = λ other. ⊎_elim
        (λ (same : other ≡ name). subst
        (λ (q : Name). Corresponds bytes k m (open_in (left ++ o ∷ []) q) (thing_in (named name x ts) q)) (sym same)
        (subst (λ (z : Option (Thing H R)). Corresponds bytes k m z (thing_in (named name x ts) name)) (sym (open_put left o taken.none))
        (subst (Corresponds bytes k m (Some new)) (sym (thing_put name x ts)) same_there)))
        (λ (apart : other ≡ name → ⊥). subst
        (λ (z : Option (Thing H R)). Corresponds bytes k m z (thing_in (named name x ts) other)) (sym (open_beside left o other apart))
        (subst (Corresponds bytes k m (open_in left other)) (sym (thing_beside name other apart x ts)) (others other apart)))
        (same_or_not other name);
    once = once_put left o taken.once taken.none;
    apart = λ a b y z at_a at_b reads_y reads_z same. ⊎_elim
        (λ (is_a : a ≡ name). ⊎_elim
        (λ (is_b : b ≡ name). is_a ∙ sym is_b)
        (λ (not_b : b ≡ name → ⊥). absurd (free b z not_b (beside b z not_b at_b) reads_z (ap ticket_of (own a y is_a at_a) ∙ same)))
        (same_or_not b name))
        (λ (not_a : a ≡ name → ⊥). ⊎_elim
        (λ (is_b : b ≡ name). absurd (free a y not_a (beside a y not_a at_a) reads_y (ap ticket_of (own b z is_b at_b) ∙ sym same)))
        (λ (not_b : b ≡ name → ⊥). stand.apart a b y z (beside a y not_a at_a) (beside b z not_b at_b) reads_y reads_z same)
        (same_or_not b name))
        (same_or_not a name);
  }
    where
      o : Open H R
      o = record { name = name; thing = new }

      beside : (a : Name) (y : store.Thing) → (a ≡ name → ⊥) → thing_in (named name x ts) a ≡ Some y → thing_in ts a ≡ Some y
      beside a y apart is = sym (thing_beside name a apart x ts) ∙ is

      own : (a : Name) (y : store.Thing) → a ≡ name → thing_in (named name x ts) a ≡ Some y → x ≡ y
      own a y same is = one (sym (thing_put name x ts) ∙ subst (λ (q : Name). thing_in (named name x ts) q ≡ Some y) same is)
        where
          one : Some x ≡ Some y → x ≡ y
          one e = cc
