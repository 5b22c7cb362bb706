-- What a step leaves of what is visible.
use Rattle.std.proofs.Common.{◌≡◌, ℕ, ◌+◌, ◌≤◌, ◌<◌, Bool, true, false, cond, ◌&&◌, List, [], ◌∷◌, ◌++◌, refl, ap}
use Rattle.std.proofs.Common.{sym, ◌∙◌, subst, append-nil, arith, Option, Some, None, is_some}
use Rattle.std.proofs.lemmas.Bool.{and_parts}
use Rattle.std.specs.Prelude.{nat_le}
use Rattle.std.specs.Option.{option_to_list}
use Rattle.vl_model.specs.Cursors.{Gives, Keeps, Spends}
use Rattle.vl_model.specs.Entries.{is_gone}
use Rattle.vl_model.specs.laws.WinnerLaws.{same_key}
use Rattle.vl_model.specs.declared.entry.Entry.{Entry}
use Rattle.vl_merge.specs.Grouped.{is_grouped}
use Rattle.vl_merge.specs.declared.hides.Hides.{Hides}
use Rattle.vl_merge.specs.Visible.{is_hidden, is_counted, shown, visible}
use Rattle.vl_merge.specs.Held.{held_first, is_held_counted, visible_left, held_budget, held_with, held_after}
use Rattle.vl_merge.specs.Held.{only_shown, passed_by, passed}
use Rattle.vl_merge.proofs.Passing.{is_key, visible-above, visible-one, visible-front, grouped-parts, grouped-skip, without-behind}

none_some : (es : List Entry) → None ≡ Some es → ⊥
none_some es is = cc

-- ---- what is left, where it is told

pub record IsTold (hides : Hides) (number : ℕ) (held : Option Entry) (es out : List Entry) : Type 0 where
  pub grouped : is_grouped (held_first held es) ≡ true
  pub counted : is_held_counted number held ≡ true
  pub shown : out ≡ visible hides number (held_first held es)

left-parts : (hides : Hides) (number : ℕ) (held : Option Entry) (es out : List Entry) → visible_left hides number held (Some es) ≡ Some out
    → IsTold hides number held es out
left-parts hides number held es out gave = by (is_grouped (held_first held es) && is_held_counted number held) refl gave
  where
    by : (b : Bool) → (is_grouped (held_first held es) && is_held_counted number held) ≡ b
        → cond b (Some (visible hides number (held_first held es))) None ≡ Some out
        → IsTold hides number held es out
    by true is gave =
        let parts = and_parts (is_grouped (held_first held es)) (is_held_counted number held) is in
        record { grouped = parts.0; counted = parts.1; shown = (cc) }
    by false is gave = absurd (none_some out gave)

pub left-join : (hides : Hides) (number : ℕ) (held : Option Entry) (es : List Entry) → is_grouped (held_first held es) ≡ true
    → is_held_counted number held ≡ true
    → visible_left hides number held (Some es) ≡ Some (visible hides number (held_first held es))
left-join hides number held es grouped counted =
    ap (λ b. cond (b && is_held_counted number held) (Some (visible hides number (held_first held es))) None) grouped
    ∙ ap (λ b. cond b (Some (visible hides number (held_first held es))) None) counted

-- ---- an entry that is passed

-- what is visible with one entry more is what is given of it and what is visible then
pub record IsPassed (hides : Hides) (number : ℕ) (held : Option Entry) (e : Entry) (rest : List Entry) (now given : Option Entry) : Type 0 where
  pub grouped : is_grouped (held_first now rest) ≡ true
  pub counted : is_held_counted number now ≡ true
  pub whole : visible hides number (held_first held (e ∷ rest)) ≡ option_to_list given ++ visible hides number (held_first now rest)

shown-list : (hides : Hides) (h : Entry) → shown hides (Some h) ≡ option_to_list (only_shown hides (Some h))
shown-list hides h = by (is_hidden hides h)
  where
    by : (b : Bool) → cond b [] (h ∷ []) ≡ option_to_list (cond b None (Some h))
    by true = refl
    by false = refl

passes_counted : (hides : Hides) (number : ℕ) (held : Option Entry) (e : Entry) (rest : List Entry)
    → is_grouped (held_first held (e ∷ rest)) ≡ true → is_held_counted number held ≡ true
    → is_counted number e ≡ true → IsPassed hides number held e rest (held_with held e) (passed_by hides held e)
passes_counted hides number None e rest grouped counted of_e = record { grouped = grouped; counted = of_e; whole = refl }
passes_counted hides number (Some h) e rest grouped of_h of_e = by (is_key h.key e.key) (nat_le e.version h.version) refl refl
  where
    by : (b c : Bool) → is_key h.key e.key ≡ b → nat_le e.version h.version ≡ c
        → IsPassed hides number (Some h) e rest (cond b (cond c (Some h) (Some e)) (Some e)) (cond b None (only_shown hides (Some h)))
    by true true one newer = record {
      grouped = grouped-skip (Some h) e rest grouped;
      counted = of_h;
      whole = visible-one hides number h e rest of_h of_e one h (ap (λ c. cond c (Some h) (Some e)) newer) refl of_h;
    }
    by true false one newer = record {
      grouped = (grouped-parts h (e ∷ rest) grouped).1;
      counted = of_e;
      whole = visible-one hides number h e rest of_h of_e one e (ap (λ c. cond c (Some h) (Some e)) newer) (sym (same_key h.key e.key one)) of_e;
    }
    by false c apart newer =
        let parts = grouped-parts h (e ∷ rest) grouped in
        record {
          grouped = parts.1;
          counted = of_e;
          whole = visible-front hides number h (e ∷ rest) of_h (without-behind h e rest parts.0 apart)
              ∙ ap (λ l. l ++ visible hides number (e ∷ rest)) (shown-list hides h);
        }

pub passes : (hides : Hides) (number : ℕ) (held : Option Entry) (e : Entry) (rest : List Entry)
    → is_grouped (held_first held (e ∷ rest)) ≡ true → is_held_counted number held ≡ true
    → IsPassed hides number held e rest (held_after number held e) (passed hides number held e)
passes hides number held e rest grouped counted = by (is_counted number e) refl
  where
    by : (b : Bool) → is_counted number e ≡ b → IsPassed hides number held e rest (cond b (held_with held e) held)
        (cond b (passed_by hides held e) None)
    by true of_e = passes_counted hides number held e rest grouped counted of_e
    by false above = record {
      grouped = grouped-skip held e rest grouped;
      counted = counted;
      whole = visible-above hides number held e rest above;
    }

-- ---- as the code has them

module _ (hides : Hides) (number : ℕ) (held : Option Entry) where
  -- what is told of what is left, with the entry that comes
  next_told : (left mid : Option (List Entry)) (e : Entry) → Gives left mid (Some e) → (out : List Entry)
      → visible_left hides number held left ≡ Some out
      → (rest : List Entry) × (out ≡ option_to_list (passed hides number held e) ++ rest)
      × (visible_left hides number (held_after number held e) mid ≡ Some rest)
  next_told None mid e gives out gave = absurd (none_some out gave)
  next_told (Some es) mid e gives out gave =
      let given = gives es refl in
      let told = left-parts hides number held (e ∷ given.0) out (ap (λ l. visible_left hides number held (Some l)) (sym given.1) ∙ gave) in
      let now = passes hides number held e given.0 told.grouped told.counted in (
        visible hides number (held_first (held_after number held e) given.0),
        told.shown ∙ now.whole,
        ap (visible_left hides number (held_after number held e)) given.2
            ∙ left-join hides number (held_after number held e) given.0 now.grouped now.counted,
      )

  pub pass_kept : (left mid : Option (List Entry)) (e : Entry) → Gives left mid (Some e) → passed hides number held e ≡ None
      → Keeps (visible_left hides number held left) (visible_left hides number (held_after number held e) mid)
  pass_kept left mid e gives none out gave =
      let now = next_told left mid e gives out gave in
      now.2 ∙ ap Some (sym (now.1 ∙ ap (λ given. option_to_list given ++ now.0) none))

  pub pass_given : (left mid : Option (List Entry)) (e w : Entry) → Gives left mid (Some e) → passed hides number held e ≡ Some w
      → Gives (visible_left hides number held left) (visible_left hides number (held_after number held e) mid) (Some w)
  pass_given left mid e w gives some out gave =
      let now = next_told left mid e gives out gave in
      (now.0, now.1 ∙ ap (λ given. option_to_list given ++ now.0) some, now.2)

  last_told : (left mid : Option (List Entry)) → Gives left mid None → (out : List Entry) → visible_left hides number held left ≡ Some out
      → (out ≡ option_to_list (only_shown hides held)) × (visible_left hides number None mid ≡ Some [])
  last_told None mid gives out gave = absurd (none_some out gave)
  last_told (Some es) mid gives out gave =
      let given = gives es refl in
      let told = left-parts hides number held [] out (ap (λ l. visible_left hides number held (Some l)) (sym given.0) ∙ gave) in
      (told.shown ∙ last held told.counted, ap (visible_left hides number None) given.1)
    where
      last : (h : Option Entry) → is_held_counted number h ≡ true → visible hides number (held_first h []) ≡ option_to_list (only_shown hides h)
      last None counted = refl
      last (Some h) counted = visible-front hides number h [] counted refl ∙ append-nil (shown hides (Some h)) ∙ shown-list hides h

  pub end_given : (left mid : Option (List Entry)) → Gives left mid None → (next : Option Entry) → next ≡ only_shown hides held
      → Gives (visible_left hides number held left) (visible_left hides number None mid) next
  end_given left mid gives None is = λ out gave.
      let now = last_told left mid gives out gave in (now.0 ∙ ap option_to_list (sym is), now.1)
  end_given left mid gives (Some w) is = λ out gave.
      let now = last_told left mid gives out gave in ([], now.0 ∙ ap option_to_list (sym is), now.1)

gives_kept : (before kept now : Option (List Entry)) (next : Option Entry) → Keeps before kept → Gives kept now next → Gives before now next
gives_kept before kept now None keeps gives = λ out told. gives out (keeps out told)
gives_kept before kept now (Some e) keeps gives = λ out told. gives out (keeps out told)

budget_more : (h : Option Entry) (budget : ℕ) → (budget ≤ held_budget h budget) × (held_budget h budget ≤ budget + 1)
budget_more None budget = (omega arith, omega arith)
budget_more (Some h) budget = (omega arith, omega arith)

pub step_spends : (held now next : Option Entry) (e : Entry) (most before after : ℕ) → next ≡ Some e
    → Spends before after next → held_budget held before ≤ most
    → held_budget now after ≤ most
step_spends held now next e most before after is spends le =
    let less : after < before = subst (Spends before after) is spends in
    let a = budget_more now after in
    let b = budget_more held before in
    omega arith

module _ (hides : Hides) (number : ℕ) (held now : Option Entry) (before left mid : Option (List Entry))
    (keeps : Keeps before (visible_left hides number held left)) where
  module _ (next : Option Entry) (e : Entry) (gives : Gives left mid next) (is : next ≡ Some e) (now_is : now ≡ held_after number held e)
      (given : Option Entry) (given_is : given ≡ passed hides number held e) where
    pub step_kept : is_some given ≡ false → Keeps before (visible_left hides number now mid)
    step_kept none out told =
        ap (λ h. visible_left hides number h mid) now_is ∙ pass_kept hides number held left mid e (subst (Gives left mid) is gives)
        (sym given_is ∙ nothing given none) out (keeps out told)
      where
        nothing : (o : Option Entry) → is_some o ≡ false → o ≡ None
        nothing None none = refl
        nothing (Some w) none = absurd cc

    pub step_given : is_some given ≡ true → Gives before (visible_left hides number now mid) given
    step_given some =
        gives_kept before (visible_left hides number held left) (visible_left hides number now mid) given keeps
        (subst (λ h. Gives (visible_left hides number held left) (visible_left hides number h mid) given) (sym now_is) (by given refl some))
      where
        by : (o : Option Entry) → given ≡ o → is_some o ≡ true
            → Gives (visible_left hides number held left) (visible_left hides number (held_after number held e) mid) given
        by None is_none some = absurd cc
        by (Some w) is_some some =
            subst (Gives (visible_left hides number held left) (visible_left hides number (held_after number held e) mid)) (sym is_some)
            (pass_given hides number held left mid e w (subst (Gives left mid) is gives) (sym given_is ∙ is_some))

  pub step_end : (next given : Option Entry) → Gives left mid next → next ≡ None → now ≡ None → given ≡ only_shown hides held
      → Gives before (visible_left hides number now mid) given
  step_end next given gives is now_is given_is =
      gives_kept before (visible_left hides number held left) (visible_left hides number now mid) given keeps
      (subst (λ h. Gives (visible_left hides number held left) (visible_left hides number h mid) given) (sym now_is)
      (end_given hides number held left mid (subst (Gives left mid) is gives) given given_is))
