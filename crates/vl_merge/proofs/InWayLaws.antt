-- What is left stays along the way, and what is passed is behind.
use Rattle.std.proofs.Common.{◌≡◌, ℕ, Bool, true, false, cond, List, [], ◌∷◌, refl, ap, sym, ◌∙◌, subst, Option, Some, None}
use Rattle.std.proofs.lemmas.Cmp.{nat_list_cmp_total}
use Rattle.std.specs.Prelude.{IfSome, nat_le}
use Rattle.std.specs.Cmp.{IsTotalOrder}
use Rattle.std.specs.Ordering.{eq_by_cmp, is_eq, is_gt, is_lt, nat_cmp, ordering_reverse, ordering_then}
use Rattle.std.specs.declared.cmp.Ordering.{Ordering}
use Rattle.std.specs.declared.cmp.Ordering.TheVariants.{Less, Equal, Greater}
use Rattle.vl_model.specs.Cursors.{Gives}
use Rattle.vl_model.specs.Keys.{key_cmp}
use Rattle.vl_model.specs.Merging.{IsAlong}
use Rattle.vl_model.specs.Order.{way_cmp}
use Rattle.vl_model.specs.declared.entry.Entry.{Entry}
use Rattle.vl_model.specs.declared.way.Way.{Way}
use Rattle.vl_model.specs.declared.way.Way.TheVariants.{Up, Down}
use Rattle.vl_merge.specs.Held.{held_after, held_first, passed}
use Rattle.vl_merge.specs.Standing.{InWay, is_beyond}
use Rattle.vl_merge.specs.Visible.{is_counted, is_hidden}
use Rattle.vl_merge.specs.declared.hides.Hides.{Hides}

pub if_each : {T : Type 0} (o : Option T) (P : T → Type 0) → ((x : T) → o ≡ Some x → P x) → IfSome o P
if_each None P each = tt
if_each (Some x) P each = each x refl

-- ---- keys behind others

keys : IsTotalOrder key_cmp
keys = nat_list_cmp_total

beyond_up : (r s t : Ordering) → s ≡ ordering_reverse r → is_gt (ordering_then r t) ≡ false → is_eq r ≡ false → is_gt s ≡ true
beyond_up Less s t turned le apart = ap is_gt turned
beyond_up Equal s t turned le apart = absurd cc
beyond_up Greater s t turned le apart = absurd cc

beyond_down : (r s t : Ordering) → s ≡ ordering_reverse r → is_gt (ordering_then r t) ≡ false → is_eq s ≡ false → is_lt r ≡ true
beyond_down Less s t turned le apart = refl
beyond_down Equal s t turned le apart = let no : true ≡ false = sym (ap is_eq turned) ∙ apart in cc
beyond_down Greater s t turned le apart = absurd cc

-- an entry that doesn't come before another, and is of another key
beyond : (way : Way) (h e : Entry) → is_gt (way_cmp way h e) ≡ false → eq_by_cmp key_cmp h.key e.key ≡ false
    → is_beyond way h.key e ≡ true
beyond Up h e le apart =
    beyond_up (key_cmp h.key e.key) (key_cmp e.key h.key) (nat_cmp e.version h.version) (keys.antisymm e.key h.key) le apart
beyond Down h e le apart =
    beyond_down (key_cmp e.key h.key) (key_cmp h.key e.key) (nat_cmp h.version e.version) (keys.antisymm h.key e.key) le apart

some_in : (e f : Entry) → Some e ≡ Some f → e ≡ f
some_in e f is = cc

-- what passes a winner is behind it
pub beyond_passed : (way : Way) (hides : Hides) (number : ℕ) (held : Option Entry) (e : Entry) (rest : List Entry) (w : Entry)
    → IsAlong way (held_first held (e ∷ rest)) → passed hides number held e ≡ Some w → is_beyond way w.key e ≡ true
beyond_passed way hides number None e rest w along is = absurd (by (is_counted number e) is)
  where
    by : (t : Bool) → cond {A = Option Entry} t None None ≡ Some w → ⊥
    by true is = cc
    by false is = cc
beyond_passed way hides number (Some h) e rest w along is =
    by (is_counted number e) (eq_by_cmp key_cmp h.key e.key) (is_hidden hides h) refl is
  where
    by : (a b c : Bool) → eq_by_cmp key_cmp h.key e.key ≡ b → cond a (cond b None (cond c None (Some h))) None ≡ Some w
        → is_beyond way w.key e ≡ true
    by true false false apart is = subst (λ (x : Entry). is_beyond way x.key e ≡ true) (some_in h w is) (beyond way h e along.0.0 apart)
    by true false true apart is = absurd cc
    by true true c apart is = absurd cc
    by false b c apart is = absurd cc

-- ---- what is left

along_after : (way : Way) (number : ℕ) (held : Option Entry) (e : Entry) (rest : List Entry) → IsAlong way (held_first held (e ∷ rest))
    → IsAlong way (held_first (held_after number held e) rest)
along_after way number None e rest along = by (is_counted number e)
  where
    by : (t : Bool) → IsAlong way (held_first (cond t (Some e) None) rest)
    by true = along
    by false = along.1
along_after way number (Some h) e rest along = by (is_counted number e) (eq_by_cmp key_cmp h.key e.key) (nat_le e.version h.version)
  where
    by : (a b c : Bool) → IsAlong way (held_first (cond a (cond b (cond c (Some h) (Some e)) (Some e)) (Some h)) rest)
    by true true true = (along.0.1, along.1.1)
    by true true false = along.1
    by true false c = along.1
    by false b c = (along.0.1, along.1.1)

pub in_way_after : (way : Way) (number : ℕ) (held now : Option Entry) (e : Entry) (left rest : Option (List Entry)) → InWay way held left
    → Gives left rest (Some e) → now ≡ held_after number held e → InWay way now rest
in_way_after way number held now e left rest so gives is =
    let next = gives so.es so.told in
    record {
      es = next.0;
      told = next.2;
      along = subst (λ (h : Option Entry). IsAlong way (held_first h next.0)) (sym is)
          (along_after way number held e next.0 (subst (λ (l : List Entry). IsAlong way (held_first held l)) next.1 so.along));
    }

pub in_way_end : (way : Way) (held now : Option Entry) (left rest : Option (List Entry)) → InWay way held left → Gives left rest None
    → now ≡ None → InWay way now rest
in_way_end way held now left rest so gives is = record {
  es = [];
  told = (gives so.es so.told).1;
  along = subst (λ (h : Option Entry). IsAlong way (held_first h [])) (sym is) tt;
}

-- and the one that passed a winner was behind it
pub beyond_next : (way : Way) (hides : Hides) (number : ℕ) (held : Option Entry) (e : Entry) (left rest : Option (List Entry)) (w : Entry)
    → InWay way held left → Gives left rest (Some e) → passed hides number held e ≡ Some w → is_beyond way w.key e ≡ true
beyond_next way hides number held e left rest w so gives is =
    let next = gives so.es so.told in
    beyond_passed way hides number held e next.0 w (subst (λ (l : List Entry). IsAlong way (held_first held l)) next.1 so.along) is

-- nothing is held yet
pub in_way_begins : (way : Way) (es : List Entry) (left : Option (List Entry)) → left ≡ Some es → IsAlong way es → InWay way None left
in_way_begins way es left told along = record { es = es; told = told; along = along }
