-- The steps of a turn keep the rule: take, enter, give; and those of an empty lock.
use Rattle.std.proofs.Common.{◌≡◌, ℕ, zero, suc, ◌+◌, ◌%◌, ◌^◌, ◌<◌, Bool, true, false, List, [], ◌∷◌, ◌++◌, length}
use Rattle.std.proofs.Common.{get_or, set, Option, Some, None, IfSome, sym, refl, ap, ◌∙◌, subst, ⊎_elim, inl, inr}
use Rattle.std.proofs.Common.{arith, length-append}
use Rattle.std.proofs.lemmas.Bool.{false≢true}
use Rattle.std.proofs.Math.Nat.{mod-add-mod}
use mathlib.Core.List.{IsPrefix}
use mathlib.Core.Option.{none, some, some-injective, some-ne-none}
use lib.ListN.{get_elem?}
use Rattle.atomic_table.specs.Table.{Act, Valid, stepped, carried_after, takes, gives, keeps, rest, put_back, opening, Allows}
use Rattle.vl_turn.specs.declared.view.View.{View}
use Rattle.vl_turn.specs.Entries.{AreApart, own_grown}
use Rattle.vl_turn.specs.Views.{root, holding, entered, gave, opened, closing}
use Rattle.vl_turn.specs.Rule.{OwnsFit, Fits, Table, IsFree, IsHeld, out_slot}
use Rattle.vl_turn.specs.Steps.{TokenState, MayEnter, Takes, Enters, Gives, Opens, Closes}
use Rattle.vl_turn.proofs.Prefixes.{begins_itself, begins_more, begins_grown}
use Rattle.vl_turn.proofs.Sessions.{of_this, numbered_grown, owned, fit_grown}
use Rattle.vl_turn.proofs.Places.{at_changed, each_after_change, place_of_one}
use Rattle.vl_turn.proofs.Keeping.{Rule, has_it, held_still, state_still, kept_still}

of_start : {T : Type 0} (P : T → Type 0) (start : T) (known : Option T) → IfSome known (λ x. x ≡ start) → P start → IfSome known P
of_start P start None same p = tt
of_start P start (Some x) same p = subst P (sym same) p

not_true : (b : Bool) → (b ≡ true → ⊥) → b ≡ false
not_true true never = absurd (never refl)
not_true false never = refl

module _ {T E : Type 0} (stands : T → T → List E → Type 0) (by : E → ℕ) (start : T) where
  -- the table of an empty lock

  root_fits : (id : ℕ) (v : View T E) → get_elem? (root start ∷ []) id ≡ some v → Fits by start [] 0 (λ _. 0) 0 id v
  root_fits zero v e = subst (Fits by start [] 0 (λ _. 0) 0 0) (some-injective (root start) v e)
      (record { same = refl; seen = ([], refl); lagging = ([], refl); owns = tt; apart = tt; made = (refl, refl) })
  root_fits (suc id) v e = absurd (some-ne-none v (sym e))

  empty : Rule stands by start (opening (0 ∷ 1 ∷ 0 ∷ []) (None ∷ []) (root start))
  empty = record {
    list = [];
    turn = 1;
    count = 0;
    token_of = λ _. 0;
    root = 0;
    words = refl;
    numbers = tt;
    views = root_fits;
    state = inr (
      refl,
      record {
        holder = 0;
        view = root start;
        at = refl;
        holds = refl;
        knows = refl;
        out = refl;
        alone = λ j u e has.
            place_of_one (root start) u j e;
      },
    );
  }

  pub empty_kept : (items : List (Option T)) → items ≡ None ∷ [] → Rule stands by start (opening (0 ∷ 1 ∷ 0 ∷ []) items (root start))
  empty_kept items all = subst (λ xs. Rule stands by start (opening (0 ∷ 1 ∷ 0 ∷ []) xs (root start))) (sym all) empty

  -- take

  taken_free : (n id : ℕ) (m : TokenState T E) → m.0.closed ≡ false → (s : Table T E) (r : Rule stands by start s)
      → get_elem? s.views id ≡ some m.0 → (r.turn ≡ 0) × IsFree (stands start) s r.list
      → (w : View T E) × (a : Act (Option T)) × Valid s.homes m.1 a
      × Rule stands by start (stepped s 1 1 id m.1 w a) × Takes stands by m (get_or s.words 1 0) (w, carried_after m.1 a)
  taken_free n id m unclosed s r at free =
      let f = free.1 in
      let found : get_or s.words 1 0 ≡ 0 = ap (λ ws. get_or ws 1 0) r.words ∙ free.0 in
      let mine = r.views id m.0 at in
      let w : View T E = holding m.0 r.list in
      let hs = set s.homes 0 none in
      let alone : (j : ℕ) (u : View T E) → get_elem? (set s.views id w) j ≡ some u → u.holds ≡ true → j ≡ id
      = each_after_change (λ (j : ℕ) (u : View T E). u.holds ≡ true → j ≡ id) s.views id w (λ _. refl)
      (λ j u _ e has. absurd (false≢true (sym (f.nobody j u e) ∙ has))) in (
        w,
        takes 0 (Some f.value),
        ap (λ hs. get_elem? hs 0) f.home,
        kept_still stands by start s r (set s.words 1 1) hs 1 id w
            (ap (λ ws. set ws 1 1) r.words)
            (record {
              same = mine.same;
              seen = begins_itself r.list;
              lagging = begins_more m.0.lagging m.0.seen r.list
                  mine.lagging mine.seen;
              owns = mine.owns;
              apart = mine.apart;
              made = mine.made;
            })
            (inr (
              refl,
              record {
                holder = id;
                view = w;
                at = at_changed s.views id m.0 w at;
                holds = refl;
                knows = refl;
                out = ap (λ hs. set hs 0 none) f.home ∙ ap out_slot (sym unclosed);
                alone = alone;
              },
            )),
        (
          (λ _. record {
            value = f.value;
            list = r.list;
            later = mine.seen;
            is = refl;
            owns = owned by r.list r.count
                r.token_of id m.0.owns mine.owns;
            meaning = of_start (λ (x : T). stands x f.value r.list) start m.0.start mine.same f.stands;
          }),
          (λ other. absurd (other found)),
        ),
      )

  pub take_keeps : (n id : ℕ) (m : TokenState T E) → m.0.closed ≡ false
      → Allows (Rule stands by start) n id m 1 (λ _. 1) (Takes stands by m)
  take_keeps n id m unclosed s r wide at _ = ⊎_elim
      (taken_free n id m unclosed s r at)
      (λ (held : (r.turn ≡ 1) × IsHeld s r.list).
      let found : get_or s.words 1 0 ≡ 1 = ap (λ ws. get_or ws 1 0) r.words ∙ held.0 in
      let words : set s.words 1 1 ≡ length r.list % 2 ^ 64 ∷ 1 ∷ r.count % 2 ^ 64 ∷ [] = ap (λ ws. set ws 1 1) r.words in
      let state = state_still stands by start s (set s.words 1 1) r.list 1 id m.0 m.0 at refl refl (λ _. refl) (inr (refl, held.1)) in (
        m.0,
        keeps,
        tt,
        kept_still stands by start s r (set s.words 1 1) s.homes 1 id m.0 words (r.views id m.0 at) state,
        ((λ none_held. absurd (omega arith)), λ _. refl),
      ))
      r.state

  -- enter

  counted_up : (ws : List ℕ) (list list' : List E) (turn count k : ℕ)
      → ws ≡ length list % 2 ^ 64 ∷ turn ∷ count % 2 ^ 64 ∷ [] → length list + k ≡ length list'
      → set ws 0 ((get_or ws 0 0 + k) % 2 ^ 64) ≡ length list' % 2 ^ 64 ∷ turn ∷ count % 2 ^ 64 ∷ []
  counted_up ws list list' turn count k is more = ap (λ us. set us 0 ((get_or us 0 0 + k) % 2 ^ 64)) is
      ∙ ap (λ x. x ∷ turn ∷ count % 2 ^ 64 ∷ []) (mod-add-mod (length list) (2 ^ 64) k ∙ ap (λ y. y % 2 ^ 64) more)

  entered_fits : (list : List E) (count : ℕ) (token_of : ℕ → ℕ) (root id : ℕ) (v : View T E) (e : E) (own : List E)
      → v.owns ≡ record { number = by e; entries = own } ∷ [] → v.seen ≡ list
      → Fits by start list count token_of root id v → (by e < count) × (token_of (by e) ≡ id)
      × Fits by start (list ++ e ∷ []) count token_of root id (entered v (Some e))
  entered_fits list count token_of root id v e own owns knows mine =
      let fit = subst (OwnsFit by list count token_of id) owns mine.owns in (
        fit.0.0,
        fit.0.1,
        record {
          same = mine.same;
          seen = subst (λ l. IsPrefix (v.seen ++ e ∷ []) (l ++ e ∷ [])) knows (begins_itself (v.seen ++ e ∷ []));
          lagging = begins_grown v.lagging v.seen e mine.lagging;
          owns = subst (λ os. OwnsFit by (list ++ e ∷ []) count token_of id (own_grown e os)) (sym owns)
              ((fit.0.0, fit.0.1, ap (λ l. l ++ e ∷ []) fit.0.2 ∙ sym (of_this by list e)), tt);
          apart = subst (λ os. AreApart (own_grown e os)) (sym owns) (tt, tt);
          made = mine.made;
        },
      )

  pub enter_keeps : (n id : ℕ) (m : TokenState T E) (k : ℕ) (e : Option E) → m.0.holds ≡ true → MayEnter by m.0 e k
      → Allows (Rule stands by start) n id m 0 (λ x. (x + k) % 2 ^ 64) (Enters e m)
  enter_keeps n id m k None has may s r wide at _ =
      let ws = set s.words 0 ((get_or s.words 0 0 + k) % 2 ^ 64) in (
        m.0,
        keeps,
        tt,
        kept_still stands by start s r ws s.homes r.turn id m.0
            (counted_up s.words r.list r.list r.turn r.count k r.words (omega arith))
            (r.views id m.0 at)
            (state_still stands by start s ws r.list r.turn id m.0 m.0 at refl refl (λ _. refl) r.state),
        refl,
      )
  enter_keeps n id m k (Some e) has may s r wide at _ =
      let h = has_it stands by start s r id m.0 at has in
      let one : k ≡ 1 = may.0 in
      let list : List E = r.list ++ e ∷ [] in
      let w : View T E = entered m.0 (Some e) in
      let mine = entered_fits r.list r.count r.token_of r.root id m.0 e may.1.0 may.1.1 h.knows (r.views id m.0 at) in
      let ws = set s.words 0 ((get_or s.words 0 0 + k) % 2 ^ 64) in (
        w,
        keeps,
        tt,
        record {
          list = list;
          turn = r.turn;
          count = r.count;
          token_of = r.token_of;
          root = r.root;
          words = counted_up s.words r.list list r.turn r.count k r.words (omega (arith, length-append r.list (e ∷ [])));
          numbers = numbered_grown by r.count r.list e r.numbers mine.0;
          views = each_after_change (Fits by start list r.count r.token_of r.root) s.views id w mine.2
              (λ j u other at'. let f = r.views j u at' in record {
                same = f.same;
                seen = begins_grown u.seen r.list e f.seen;
                lagging = f.lagging;
                owns = fit_grown by r.list r.count r.token_of id j e u.owns mine.1 other f.owns;
                apart = f.apart;
                made = f.made;
              });
          state = inr (h.turn, held_still stands by start s r ws s.homes list id m.0 w at h has (ap (λ l. l ++ e ∷ []) h.knows) h.out);
        },
        refl,
      )

  -- give

  pub give_keeps : (n id : ℕ) (m : TokenState T E) (x value : T) → m.0.holds ≡ true → m.0.closed ≡ false
      → m.0.start ≡ Some x → m.1 ≡ (0, Some value) ∷ [] → stands x value m.0.seen
      → Allows (Rule stands by start) n id m 1 (λ _. 0) (λ _. Gives m 0)
  give_keeps n id m x value has unclosed from slot meaning s r wide at _ =
      let h = has_it stands by start s r id m.0 at has in
      let mine = r.views id m.0 at in
      let same : x ≡ start = subst (λ o. IfSome o (λ y. y ≡ start)) from mine.same in
      let w : View T E = gave m.0 in
      let nobody : (j : ℕ) (u : View T E) → get_elem? (set s.views id w) j ≡ some u → u.holds ≡ false
      = each_after_change (λ (j : ℕ) (u : View T E). u.holds ≡ false) s.views id w refl
      (λ j u other e. not_true u.holds (λ has'. other (h.alone j u e has'))) in (
        w,
        gives,
        tt,
        kept_still stands by start s r (set s.words 1 0) (put_back s.homes m.1) 0 id w
            (ap (λ ws. set ws 1 0) r.words)
            (record { same = mine.same; seen = mine.seen; lagging = mine.lagging; owns = mine.owns; apart = mine.apart; made = mine.made })
            (inl (
              refl,
              record {
                value = value;
                home = ap (put_back s.homes) slot ∙ ap (λ hs. set hs 0 (some (Some value))) (h.out ∙ ap out_slot unclosed);
                stands = subst (λ y. stands y value r.list) same (subst (stands x value) h.knows meaning);
                nobody = nobody;
              },
            )),
        ap (λ c. (gave m.0, rest c)) slot,
      )

  -- an empty lock: the slot is taken with nothing in it, and goes home with nothing in it

  pub open_keeps : (n id : ℕ) (m : TokenState T E) → m.0.holds ≡ true → m.0.closed ≡ true
      → Allows (Rule stands by start) n id m 1 (λ _. 1) (λ _. Opens m 1)
  open_keeps n id m has closed s r wide at _ =
      let h = has_it stands by start s r id m.0 at has in
      let mine = r.views id m.0 at in
      let w : View T E = opened m.0 in
      let out : s.homes ≡ some None ∷ [] = h.out ∙ ap out_slot closed in (
        w,
        takes 0 None,
        ap (λ hs. get_elem? hs 0) out,
        kept_still stands by start s r (set s.words 1 1) (set s.homes 0 none) 1 id w
            (ap (λ ws. set ws 1 1) r.words)
            (record { same = mine.same; seen = mine.seen; lagging = mine.lagging; owns = mine.owns; apart = mine.apart; made = mine.made })
            (inr (
              refl,
              held_still stands by start s r (set s.words 1 1) (set s.homes 0 none) r.list id m.0 w at h has
                  h.knows (ap (λ hs. set hs 0 none) out),
            )),
        refl,
      )

  pub close_keeps : (n id : ℕ) (m : TokenState T E) → m.0.holds ≡ true → m.0.closed ≡ false → m.1 ≡ (0, None) ∷ []
      → Allows (Rule stands by start) n id m 1 (λ _. 1) (λ _. Closes m 1)
  close_keeps n id m has unclosed slot s r wide at _ =
      let h = has_it stands by start s r id m.0 at has in
      let mine = r.views id m.0 at in
      let w : View T E = closing m.0 in
      let hs = put_back s.homes m.1 in (
        w,
        gives,
        tt,
        kept_still stands by start s r (set s.words 1 1) hs 1 id w
            (ap (λ ws. set ws 1 1) r.words)
            (record { same = mine.same; seen = mine.seen; lagging = mine.lagging; owns = mine.owns; apart = mine.apart; made = mine.made })
            (inr (
              refl,
              held_still stands by start s r (set s.words 1 1) hs r.list id m.0 w at h has h.knows
                  (ap (put_back s.homes) slot ∙ ap (λ hs. set hs 0 (some None)) (h.out ∙ ap out_slot unclosed)),
            )),
        ap (λ c. (closing m.0, rest c)) slot,
      )
