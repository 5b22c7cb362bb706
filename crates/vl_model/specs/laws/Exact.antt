-- Laws of the entry of a key and version, over lists end to end and put in order.
use Rattle.std.proofs.Common.{◌≡◌, ℕ, Bool, true, false, cond, List, [], ◌∷◌, ◌++◌, refl, ap, sym, ◌∙◌, Option, Some}
use Rattle.std.specs.Ordering.{is_eq}
use Rattle.std.specs.declared.cmp.Ordering.{Ordering}
use Rattle.std.specs.declared.cmp.Ordering.TheVariants.{Less, Equal, Greater}
use Rattle.vl_model.specs.Entries.{entry_cmp, is_at, put, in_order}
use Rattle.vl_model.specs.Winners.{exact}
use Rattle.vl_model.specs.declared.entry.Entry.{Entry}
use Rattle.vl_model.specs.EntryOrder.{place_of}
use Rattle.vl_model.specs.laws.OrderLaws.{entry_total, put-less, put-equal, put-greater}
use Rattle.vl_model.specs.laws.Lookup.{is_at-tied}
use Rattle.std.specs.Cmp.{alike_right}
use Rattle.vl_model.specs.Lookups.{or_else}

module _ (key : List ℕ) (version : ℕ) where
  or_else-cond : (b : Bool) (e : Entry) (x y : Option Entry) → cond b (Some e) (or_else x y) ≡ or_else (cond b (Some e) x) y
  or_else-cond true e x y = refl
  or_else-cond false e x y = refl

  pub exact-append : (es fs : List Entry) → exact (es ++ fs) key version ≡ or_else (exact es key version) (exact fs key version)
  exact-append [] fs = refl
  exact-append (e ∷ es) fs =
      ap (cond (is_at key version e) (Some e)) (exact-append es fs)
      ∙ or_else-cond (is_at key version e) e (exact es key version) (exact fs key version)

  is_at-alike : (e f : Entry) → entry_cmp e f ≡ Equal → is_at key version e ≡ is_at key version f
  is_at-alike e f tied =
      is_at-tied key version e ∙ ap is_eq (alike_right entry_total e f (place_of key version) tied)
      ∙ sym (is_at-tied key version f)

  equal_of : (r : Ordering) → is_eq r ≡ true → r ≡ Equal
  equal_of Less is = absurd cc
  equal_of Equal is = refl
  equal_of Greater is = absurd cc

  both_at : (e f : Entry) → is_at key version e ≡ true → is_at key version f ≡ true → entry_cmp e f ≡ Equal
  both_at e f at_e at_f =
      let p = place_of key version in
      sym (entry_total.congr p e f (equal_of (entry_cmp p e) (sym (is_at-tied key version e) ∙ at_e)))
      ∙ equal_of (entry_cmp p f) (sym (is_at-tied key version f) ∙ at_f)

  exact-put : (e : Entry) (es : List Entry) → exact (put e es) key version ≡ exact (e ∷ es) key version
  exact-put e [] = refl
  exact-put e (f ∷ fs) = by (exact-put e fs) (entry_cmp e f) refl
    where
      swapped : (a b : Bool) → is_at key version e ≡ a → is_at key version f ≡ b → entry_cmp e f ≡ Greater
          → cond b (Some f) (cond a (Some e) (exact fs key version)) ≡ cond a (Some e) (cond b (Some f) (exact fs key version))
      swapped true true at_e at_f is = let tied = both_at e f at_e at_f in absurd cc
      swapped true false at_e at_f is = refl
      swapped false true at_e at_f is = refl
      swapped false false at_e at_f is = refl

      dropped : (a b : Bool) → a ≡ b → cond a (Some e) (exact fs key version) ≡ cond a (Some e) (cond b (Some f) (exact fs key version))
      dropped true b is = refl
      dropped false true is = absurd cc
      dropped false false is = refl

      by : exact (put e fs) key version ≡ exact (e ∷ fs) key version → (r : Ordering) → entry_cmp e f ≡ r
          → exact (put e (f ∷ fs)) key version ≡ exact (e ∷ f ∷ fs) key version
      by later Less is = ap (λ l. exact l key version) (put-less e f fs is)
      by later Equal is =
          ap (λ l. exact l key version) (put-equal e f fs is)
          ∙ dropped (is_at key version e) (is_at key version f) (is_at-alike e f is)
      by later Greater is =
          ap (λ l. exact l key version) (put-greater e f fs is)
          ∙ ap (cond (is_at key version f) (Some f)) later
          ∙ swapped (is_at key version e) (is_at key version f) refl refl is

  -- to put entries in order changes nothing
  pub exact-in_order : (es : List Entry) → exact (in_order es) key version ≡ exact es key version
  exact-in_order [] = refl
  exact-in_order (e ∷ es) =
      exact-put e (in_order es) ∙ ap (cond (is_at key version e) (Some e)) (exact-in_order es)
