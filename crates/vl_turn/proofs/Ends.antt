-- What a lock leaves when it ends, and what a turn begins with.
use Rattle.std.proofs.Common.{◌≡◌, ℕ, true, Option, Some, None, IfSome, List, [], ◌∷◌, sym, ap, ◌∙◌, subst}
use mathlib.Core.Option.{some, some-injective}
use lib.ListN.{get_elem?}
use Rattle.atomic_table.specs.Table.{rest}
use Rattle.vl_turn.specs.declared.view.Own.{Own}
use Rattle.vl_turn.specs.declared.view.View.{View}
use Rattle.vl_turn.specs.Entries.{AreNumbered, Owned, AreAmong}
use Rattle.vl_turn.specs.Rule.{Table, out_slot}
use Rattle.vl_turn.specs.Tokens.{IsWhole}
use Rattle.vl_turn.proofs.Sessions.{owned, among}
use Rattle.vl_turn.proofs.Keeping.{Rule, has_it}

-- the slot that a token took last stands in front
pub in_front : {T : Type 0} (slots : List (ℕ × T)) (value : T) → slots ≡ (0, value) ∷ [] → slots ≡ (0, value) ∷ rest slots
in_front slots value is = is ∙ ap (λ c. (0, value) ∷ rest c) (sym is)

module _ {T E : Type 0} (stands : T → T → List E → Type 0) (by : E → ℕ) (start : T) where
  all_numbered : (made : Option ℕ) (count root id : ℕ) (list : List E) (os : List (Own E))
      → IfSome made (λ n. (n ≡ count) × (id ≡ root)) → AreNumbered by count list → AreAmong count os
      → IfSome made (λ n. AreNumbered by n list × AreAmong n os)
  all_numbered None count root id list os is all own = tt
  all_numbered (Some n) count root id list os is all own = subst (λ k. AreNumbered by k list × AreAmong k os) (sym is.0) (all, own)

  -- once the lock is empty, its slot holds nothing, and the token with the turn has seen the whole list
  pub emptied : (s : Table T E) → Rule stands by start s
      → (id : ℕ) (v : View T E) (slots : List (Option T)) (found : Option T) → get_elem? s.views id ≡ some v
      → v.holds ≡ true → v.closed ≡ true
      → ((k : ℕ) (y : Option T) → get_elem? s.homes k ≡ some (some y) → get_elem? slots k ≡ some y)
      → get_elem? slots 0 ≡ some found → IsWhole by v.seen v × (found ≡ None)
  emptied s r id v slots found at has closed homes is =
      let h = has_it stands by start s r id v at has in
      let fit = r.views id v at in
      let out : s.homes ≡ some None ∷ [] = h.out ∙ ap out_slot closed in (
        record {
          owns = subst (λ l. Owned by l v.owns) (sym h.knows) (owned by r.list r.count r.token_of id v.owns fit.owns);
          apart = fit.apart;
          numbers = subst (λ l. IfSome v.made (λ n. AreNumbered by n l × AreAmong n v.owns)) (sym h.knows)
              (all_numbered v.made r.count r.root id r.list v.owns fit.made r.numbers
              (among by r.list r.count r.token_of id v.owns fit.owns));
        },
        some-injective found None (sym is ∙ homes 0 None (ap (λ hs. get_elem? hs 0) out)),
      )
