-- What the rule says of a token that has the turn, and how a changed view keeps the rule.
use Rattle.std.proofs.Common.{◌≡◌, ℕ, ◌%◌, ◌^◌, true, false, List, [], ◌∷◌, ◌++◌, length, set, Option, sym, refl, ap, ◌∙◌, ⊎_elim, inl, inr}
use Rattle.std.proofs.lemmas.Bool.{false≢true}
use mathlib.Core.Logic.{dite}
use mathlib.Core.Option.{some, some-injective}
use mathlib.Core.Option as maybe
use native.Mathlib.Decide.{ℕ_discrete}
use lib.ListN.{get_elem?}
use Rattle.atomic_table.proofs.Lists.{at_longer, set_else}
use Rattle.vl_turn.specs.declared.view.View.{View}
use Rattle.vl_turn.specs.Rule.{Fits, Table, IsFree, IsHeld, out_slot, IsState, Kept}
use Rattle.vl_turn.proofs.Places.{at_changed, each_after_change, each_with_new}

module _ {T E : Type 0} (stands : T → T → List E → Type 0) (by : E → ℕ) (start : T) where
  abbrev pub Rule : Table T E → Type 0
  Rule = Kept (stands start) by start

  -- the table, once the words, the slot and the view of the token `id` have changed
  abbrev pub changed : Table T E → List ℕ → List (maybe.Option (Option T)) → ℕ → View T E → Table T E
  changed s ws hs id w = record { words = ws; homes = hs; views = set s.views id w }

  -- what is so where this token has the turn
  pub record HasIt (s : Table T E) (r : Rule s) (id : ℕ) (v : View T E) : Type 0 where
    pub turn : r.turn ≡ 1
    pub knows : v.seen ≡ r.list
    pub out : s.homes ≡ out_slot v.closed
    pub alone : (j : ℕ) (u : View T E) → get_elem? s.views j ≡ some u → u.holds ≡ true → j ≡ id

  pub has_it : (s : Table T E) (r : Rule s) (id : ℕ) (v : View T E) → get_elem? s.views id ≡ some v → v.holds ≡ true → HasIt s r id v
  has_it s r id v at has = ⊎_elim
      (λ (free : (r.turn ≡ 0) × IsFree (stands start) s r.list). absurd (false≢true (sym (free.1.nobody id v at) ∙ has)))
      (λ (held : (r.turn ≡ 1) × IsHeld s r.list).
      let h = held.1 in
      let here : id ≡ h.holder = h.alone id v at has in
      let is : v ≡ h.view = some-injective v h.view (sym at ∙ (ap (get_elem? s.views) here ∙ h.at)) in
      record {
        turn = held.0;
        knows = ap (λ (u : View T E). u.seen) is ∙ h.knows;
        out = h.out ∙ ap (λ (u : View T E). out_slot u.closed) (sym is);
        alone = λ j u e has'. h.alone j u e has' ∙ sym here;
      })
      r.state

  -- the token with the turn knows something else, and keeps the turn
  pub held_still : (s : Table T E) (r : Rule s) (ws : List ℕ) (hs : List (maybe.Option (Option T))) (list : List E)
      (id : ℕ) (v w : View T E) → get_elem? s.views id ≡ some v → HasIt s r id v
      → w.holds ≡ true → w.seen ≡ list → hs ≡ out_slot w.closed → IsHeld (changed s ws hs id w) list
  held_still s r ws hs list id v w at h has knows out = record {
    holder = id;
    view = w;
    at = at_changed s.views id v w at;
    holds = has;
    knows = knows;
    out = out;
    alone = each_after_change (λ (j : ℕ) (u : View T E). u.holds ≡ true → j ≡ id) s.views id w (λ _. refl) (λ j u _ e. h.alone j u e);
  }

  -- a token knows something else; whether it has the turn, and what it has then seen, is as before
  pub state_still : (s : Table T E) (ws : List ℕ) (list : List E) (turn id : ℕ) (v w : View T E)
      → get_elem? s.views id ≡ some v → w.holds ≡ v.holds → w.closed ≡ v.closed → (v.holds ≡ true → w.seen ≡ v.seen)
      → IsState (stands start) s list turn → IsState (stands start) (changed s ws s.homes id w) list turn
  state_still s ws list turn id v w at holds closed seen state = ⊎_elim
      (λ (free : (turn ≡ 0) × IsFree (stands start) s list). let f = free.1 in inl (
        free.0,
        record {
          value = f.value;
          home = f.home;
          stands = f.stands;
          nobody = each_after_change (λ (j : ℕ) (u : View T E). u.holds ≡ false) s.views id w (holds ∙ f.nobody id v at)
              (λ j u _ e. f.nobody j u e);
        },
      ))
      (λ (held : (turn ≡ 1) × IsHeld s list). let h = held.1 in inr (
        held.0,
        dite (ℕ_discrete h.holder id)
            (λ here.
            let is : v ≡ h.view = some-injective v h.view (sym at ∙ (ap (get_elem? s.views) (sym here) ∙ h.at)) in
            let has : v.holds ≡ true = ap (λ (u : View T E). u.holds) is ∙ h.holds in
            record {
              holder = id;
              view = w;
              at = at_changed s.views id v w at;
              holds = holds ∙ has;
              knows = seen has ∙ (ap (λ (u : View T E). u.seen) is ∙ h.knows);
              out = h.out ∙ ap out_slot (sym (closed ∙ ap (λ (u : View T E). u.closed) is));
              alone = each_after_change (λ (j : ℕ) (u : View T E). u.holds ≡ true → j ≡ id) s.views id w (λ _. refl)
                  (λ j u _ e has'. h.alone j u e has' ∙ here);
            })
            (λ other. record {
              holder = h.holder;
              view = h.view;
              at = set_else s.views id h.holder w other ∙ h.at;
              holds = h.holds;
              knows = h.knows;
              out = h.out;
              alone = each_after_change (λ (j : ℕ) (u : View T E). u.holds ≡ true → j ≡ h.holder) s.views id w
                  (λ has. h.alone id v at (sym holds ∙ has)) (λ j u _ e. h.alone j u e);
            }),
      ))
      state

  -- a new token comes, without the turn
  pub state_with_new : (s : Table T E) (list : List E) (turn : ℕ) (new : View T E) → new.holds ≡ false → IsState (stands start) s list turn
      → IsState (stands start) record { words = s.words; homes = s.homes; views = s.views ++ new ∷ [] } list turn
  state_with_new s list turn new idle state = ⊎_elim
      (λ (free : (turn ≡ 0) × IsFree (stands start) s list). let f = free.1 in inl (
        free.0,
        record {
          value = f.value;
          home = f.home;
          stands = f.stands;
          nobody = each_with_new (λ (j : ℕ) (u : View T E). u.holds ≡ false) s.views new idle f.nobody;
        },
      ))
      (λ (held : (turn ≡ 1) × IsHeld s list). let h = held.1 in inr (
        held.0,
        record {
          holder = h.holder;
          view = h.view;
          at = at_longer s.views (new ∷ []) h.holder h.view h.at;
          holds = h.holds;
          knows = h.knows;
          out = h.out;
          alone = each_with_new (λ (j : ℕ) (u : View T E). u.holds ≡ true → j ≡ h.holder) s.views new
              (λ has. absurd (false≢true (sym idle ∙ has))) h.alone;
        },
      ))
      state

  -- a token knows something else, and the list and the sessions are as before
  pub kept_still : (s : Table T E) (r : Rule s) (ws : List ℕ) (hs : List (maybe.Option (Option T))) (turn id : ℕ)
      (w : View T E) → ws ≡ length r.list % 2 ^ 64 ∷ turn ∷ r.count % 2 ^ 64 ∷ []
      → Fits by start r.list r.count r.token_of r.root id w → IsState (stands start) (changed s ws hs id w) r.list turn
      → Rule (changed s ws hs id w)
  kept_still s r ws hs turn id w words fits state = record {
    list = r.list;
    turn = turn;
    count = r.count;
    token_of = r.token_of;
    root = r.root;
    words = words;
    numbers = r.numbers;
    views = each_after_change (Fits by start r.list r.count r.token_of r.root) s.views id w fits (λ j u _ e. r.views j u e);
    state = state;
  }
