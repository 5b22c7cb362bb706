-- The steps among tokens keep the rule: load, number, split, join.
use Rattle.std.proofs.Common.{◌≡◌, ◌≢◌, ℕ, ◌+◌, ◌%◌, ◌^◌, ◌<◌, eq-eqb, false, if◌then◌else◌, List, [], ◌∷◌, ◌++◌}
use Rattle.std.proofs.Common.{length, get_or, set, Option, Some, None, IfSome, sym, refl, ap, ◌∙◌, subst, arith}
use Rattle.std.proofs.lemmas.Bool.{false≢true}
use Rattle.std.proofs.Math.Nat.{mod-add-mod}
use mathlib.Core.Option.{some}
use lib.ListN.{get_elem?}
use Rattle.atomic_table.specs.Table.{keeps, Allows, Splits, Joins}
use Rattle.atomic_table.proofs.Lists.{set_else}
use Rattle.vl_turn.specs.declared.view.View.{View}
use Rattle.vl_turn.specs.Entries.{entries_by, AreNumbered, AreApart}
use Rattle.vl_turn.specs.Views.{next_of, spent, looked, copied, joined, numbered, disowned, dealt}
use Rattle.vl_turn.specs.Rule.{OwnsFit, Fits, Table}
use Rattle.vl_turn.specs.Steps.{TokenState, Loads, Numbers}
use Rattle.vl_turn.proofs.Prefixes.{longer_begins}
use Rattle.vl_turn.proofs.Sessions.{of_next, numbered_more, next_differs, token_more, fit_more, token_moved}
use Rattle.vl_turn.proofs.Sessions.{fit_stays, fit_moves, fit_both, apart_both}
use Rattle.vl_turn.proofs.Places.{each_after_change, each_with_new}
use Rattle.vl_turn.proofs.Keeping.{Rule, changed, state_still, state_with_new, kept_still}

if_never : (P : ℕ → Type 0) (o : Option ℕ) → ((n : ℕ) → o ≡ Some n → ⊥) → IfSome o P
if_never P None never = tt
if_never P (Some n) never = absurd (never n refl)

module _ {T E : Type 0} (stands : T → T → List E → Type 0) (by : E → ℕ) (start : T) where
  pub load_keeps : (n id : ℕ) (m : TokenState T E) → Allows (Rule stands by start) n id m 0 (λ x. x) (Loads m)
  load_keeps n id m s r wide at _ =
      let mine = r.views id m.0 at in
      let w : View T E = looked m.0 in
      let ws = set s.words 0 (get_or s.words 0 0) in (
        w,
        keeps,
        tt,
        kept_still stands by start s r ws s.homes r.turn id w
            (ap (λ ws. set ws 0 (get_or ws 0 0)) r.words)
            (record {
              same = mine.same;
              seen = mine.seen;
              lagging = (m.0.seen, refl);
              owns = mine.owns;
              apart = mine.apart;
              made = mine.made;
            })
            (state_still stands by start s ws r.list r.turn id m.0 w at refl refl (λ _. refl) r.state),
        (refl, mine.lagging),
      )

  -- number

  numbered_fits : (list : List E) (count : ℕ) (token_of : ℕ → ℕ) (root id : ℕ) (v : View T E) (next : ℕ)
      → v.made ≡ Some next → AreNumbered by count list → Fits by start list count token_of root id v
      → (next ≡ count) × (id ≡ root) × Fits by start list (count + 1) (token_more by token_of count id) root id (numbered next v)
  numbered_fits list count token_of root id v next is numbers mine =
      let made : (next ≡ count) × (id ≡ root) = subst (λ o. IfSome o (λ k. (k ≡ count) × (id ≡ root))) is mine.made in
      let more = token_more by token_of count id in
      let own : (count < count + 1) × (more count ≡ id) × ([] ≡ entries_by by count list)
      = (omega arith, ap (λ b. if b then id else token_of count) (eq-eqb count count refl), sym (of_next by count list numbers)) in (
        made.0,
        made.1,
        record {
          same = mine.same;
          seen = mine.seen;
          lagging = mine.lagging;
          owns = subst (λ k. OwnsFit by list (count + 1) more id (record { number = k; entries = [] } ∷ v.owns))
              (sym made.0) (own, fit_more by list count token_of id id v.owns mine.owns);
          apart = subst (λ k. AreApart (record { number = k; entries = [] } ∷ v.owns)) (sym made.0)
              (next_differs by list count token_of id v.owns mine.owns, mine.apart);
          made = (ap (λ k. k + 1) made.0, made.1);
        },
      )

  other_fits : (list : List E) (count : ℕ) (token_of : ℕ → ℕ) (root id j : ℕ) (u : View T E) → id ≡ root → j ≢ id
      → Fits by start list count token_of root j u → Fits by start list (count + 1) (token_more by token_of count id) root j u
  other_fits list count token_of root id j u is other f = record {
    same = f.same;
    seen = f.seen;
    lagging = f.lagging;
    owns = fit_more by list count token_of id j u.owns f.owns;
    apart = f.apart;
    made = if_never (λ n. (n ≡ count + 1) × (j ≡ root)) u.made
        (λ k is'. other ((subst (λ o. IfSome o (λ n. (n ≡ count) × (j ≡ root))) is' f.made).1 ∙ sym is));
  }

  pub number_keeps : (n id : ℕ) (m : TokenState T E) (next : ℕ) → m.0.made ≡ Some next
      → Allows (Rule stands by start) n id m 2 (λ x. (x + 1) % 2 ^ 64) (Numbers m)
  number_keeps n id m next is s r wide at _ =
      let mine = numbered_fits r.list r.count r.token_of r.root id m.0 next is r.numbers (r.views id m.0 at) in
      let w : View T E = numbered next m.0 in
      let ws : List ℕ = set s.words 2 ((get_or s.words 2 0 + 1) % 2 ^ 64) in
      let token_of : ℕ → ℕ = token_more by r.token_of r.count id in (
        w,
        keeps,
        tt,
        record {
          list = r.list;
          turn = r.turn;
          count = r.count + 1;
          token_of = token_of;
          root = r.root;
          words = ap (λ ws. set ws 2 ((get_or ws 2 0 + 1) % 2 ^ 64)) r.words
              ∙ ap (λ x. length r.list % 2 ^ 64 ∷ r.turn ∷ x ∷ []) (mod-add-mod r.count (2 ^ 64) 1);
          numbers = numbered_more by r.count r.list r.numbers;
          views = each_after_change (Fits by start r.list (r.count + 1) token_of r.root) s.views id w mine.2
              (λ j u other e. other_fits r.list r.count r.token_of r.root id j u mine.1 other (r.views j u e));
          state = state_still stands by start s ws r.list r.turn id m.0 w at refl refl (λ _. refl) r.state;
        },
        (λ k is'. ap (λ o. (numbered (next_of o) m.0, m.1)) (sym is ∙ is')),
      )

  -- split

  -- the token's view changes, and a new token comes, without the turn
  kept_with_new : (s : Table T E) (r : Rule stands by start s) (token_of : ℕ → ℕ) (id : ℕ) (v left right : View T E)
      → get_elem? s.views id ≡ some v → left.holds ≡ v.holds → left.closed ≡ v.closed → left.seen ≡ v.seen → right.holds ≡ false
      → Fits by start r.list r.count token_of r.root id left
      → Fits by start r.list r.count token_of r.root (length (set s.views id left)) right
      → ((j : ℕ) (u : View T E) → j ≢ id → get_elem? s.views j ≡ some u → Fits by start r.list r.count token_of r.root j u)
      → Rule stands by start record { words = s.words; homes = s.homes; views = set s.views id left ++ right ∷ [] }
  kept_with_new s r token_of id v left right at holds closed seen idle mine new others =
      let middle = state_still stands by start s s.words r.list r.turn id v left at holds closed (λ _. seen) r.state in record {
        list = r.list;
        turn = r.turn;
        count = r.count;
        token_of = token_of;
        root = r.root;
        words = r.words;
        numbers = r.numbers;
        views = each_with_new (Fits by start r.list r.count token_of r.root) (set s.views id left) right new
            (each_after_change (Fits by start r.list r.count token_of r.root) s.views id left mine others);
        state = state_with_new stands by start (changed stands by start s s.words s.homes id left) r.list r.turn right idle middle;
      }

  pub split_keeps : (id : ℕ) (v : View T E) → Splits (Rule stands by start) id v v (copied v)
  split_keeps id v s r at =
      let mine = r.views id v at in
      kept_with_new s r r.token_of id v v (copied v) at refl refl refl refl mine
      (record { same = mine.same; seen = mine.seen; lagging = (v.seen, refl); owns = tt; apart = tt; made = tt })
      (λ j u _ e. r.views j u e)

  -- the split that hands the token's sessions to the new one
  pub deal_keeps : (id : ℕ) (v : View T E) → Splits (Rule stands by start) id v (disowned v) (dealt v)
  deal_keeps id v s r at =
      let mine = r.views id v at in
      let new : ℕ = length (set s.views id (disowned v)) in
      kept_with_new s r (token_moved by r.token_of id new) id v (disowned v) (dealt v) at refl refl refl refl
      (record { same = mine.same; seen = mine.seen; lagging = mine.lagging; owns = tt; apart = tt; made = mine.made })
      (record {
        same = mine.same;
        seen = mine.seen;
        lagging = (v.seen, refl);
        owns = fit_moves by r.list r.count
            r.token_of id new v.owns mine.owns;
        apart = mine.apart;
        made = tt;
      })
      (λ j u other e. let f = r.views j u e in record {
        same = f.same;
        seen = f.seen;
        lagging = f.lagging;
        owns = fit_stays by r.list r.count r.token_of id new j
            u.owns other f.owns;
        apart = f.apart;
        made = f.made;
      })

  -- join

  joined_fits : (list : List E) (count : ℕ) (token_of : ℕ → ℕ) (root id other : ℕ) (v w : View T E) → other ≢ id
      → Fits by start list count token_of root id v → Fits by start list count token_of root other w
      → Fits by start list count (token_moved by token_of other id) root id (joined v w)
  joined_fits list count token_of root id other v w apart mine its =
      let longest = longer_begins v.seen w.seen list mine.seen its.seen in
      let stays = fit_stays by list count token_of other id id v.owns (λ is. apart (sym is)) mine.owns in
      let moves = fit_moves by list count token_of other id w.owns its.owns in record {
        same = mine.same;
        seen = longest.0;
        lagging = longest.1;
        owns = fit_both by list count (token_moved by token_of other id) id v.owns w.owns stays moves;
        apart = apart_both by list count token_of id other v.owns w.owns apart mine.owns its.owns mine.apart its.apart;
        made = mine.made;
      }

  pub join_keeps : (id : ℕ) (v : View T E) (other : ℕ) (w : View T E) → v.holds ≡ false → w.holds ≡ false
      → w.closed ≡ false → Joins (Rule stands by start) id v other w (joined v w) spent
  join_keeps id v other w idle idle' unclosed s r at apart at' =
      let both : View T E = joined v w in
      let there : get_elem? s.views other ≡ some w = sym (set_else s.views id other both apart) ∙ at' in
      let token_of : ℕ → ℕ = token_moved by r.token_of other id in
      let Fit : ℕ → View T E → Type 0 = Fits by start r.list r.count token_of r.root in
      let middle = changed stands by start s s.words s.homes id both in
      let first = state_still stands by start s s.words r.list r.turn id v both at refl refl
      (λ has. absurd (false≢true (sym idle ∙ has))) r.state in
      let stays : (j : ℕ) (u : View T E) → j ≢ other → get_elem? s.views j ≡ some u → Fit j u
      = λ j u far e. let f = r.views j u e in record {
        same = f.same;
        seen = f.seen;
        lagging = f.lagging;
        owns = fit_stays by r.list r.count r.token_of other id j
            u.owns far f.owns;
        apart = f.apart;
        made = f.made;
      } in
      record {
        list = r.list;
        turn = r.turn;
        count = r.count;
        token_of = token_of;
        root = r.root;
        words = r.words;
        numbers = r.numbers;
        views = each_after_change Fit middle.views other spent
            (record { same = tt; seen = (r.list, refl); lagging = ([], refl); owns = tt; apart = tt; made = tt })
            (λ j u far e. each_after_change (λ (i : ℕ) (x : View T E). i ≢ other → Fit i x) s.views id both
            (λ _. joined_fits r.list r.count r.token_of r.root id other v w apart (r.views id v at) (r.views other w there))
            (λ i x _ e' far'. stays i x far' e')
            j u e far);
        state = state_still stands by start middle s.words r.list r.turn other w spent at' (sym idle') (sym unclosed)
            (λ has. absurd (false≢true (sym idle' ∙ has))) first;
      }
