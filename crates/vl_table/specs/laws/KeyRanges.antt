-- A key that lies outside the keys of entries in order is none of theirs.
use Rattle.std.specs.Prelude.{◌≡◌, ℕ, ◌≤◌, false, ◌&&◌, ◌==◌, nat_le, List, [], ◌∷◌, length, Some, None}
use Rattle.std.specs.List.{AllByRecursion}
use Rattle.std.specs.Cmp.{alike_right}
use Rattle.std.specs.Cmp.Lexicographic.{nat_list_cmp_total}
use Rattle.std.specs.Ordering.{eq_by_cmp, is_eq, is_gt, nat_cmp, ordering_reverse, ordering_then}
use Rattle.std.specs.declared.cmp.Ordering.{Ordering}
use Rattle.std.specs.declared.cmp.Ordering.TheVariants.{Less, Equal, Greater}
use Rattle.std.proofs.Common.{refl, ap, sym, ◌∙◌, arith, cond}
use Rattle.vl_model.specs.Entries.{entry_cmp}
use Rattle.vl_model.specs.Keys.{key_cmp}
use Rattle.vl_model.specs.Winners.{exact, newest_of, only_if, winner}
use Rattle.vl_model.specs.declared.entry.Entry.{Entry}
use Rattle.vl_model.specs.Cutting.{first_key, last_key}
use Rattle.vl_model.specs.laws.OrderLaws.{IsRising}

-- ---- the order of keys

-- one isn't above a second, which is below a third
pub up_to_below : (a b c : List ℕ) → is_gt (key_cmp a b) ≡ false → key_cmp b c ≡ Less → key_cmp a c ≡ Less
up_to_below a b c up_to below = by (key_cmp a b) refl up_to
  where
    by : (r : Ordering) → key_cmp a b ≡ r → is_gt r ≡ false → key_cmp a c ≡ Less
    by Less is le = nat_list_cmp_total.trans a b c is below
    by Equal is le = nat_list_cmp_total.congr a b c is ∙ below
    by Greater is le = absurd cc

pub below_up_to : (a b c : List ℕ) → key_cmp a b ≡ Less → is_gt (key_cmp b c) ≡ false → key_cmp a c ≡ Less
below_up_to a b c below up_to = by (key_cmp b c) refl up_to
  where
    by : (r : Ordering) → key_cmp b c ≡ r → is_gt r ≡ false → key_cmp a c ≡ Less
    by Less is le = nat_list_cmp_total.trans a b c below is
    by Equal is le = sym (alike_right nat_list_cmp_total b c a is) ∙ below
    by Greater is le = absurd cc

pub above_turned : (a b : List ℕ) → key_cmp a b ≡ Less → key_cmp b a ≡ Greater
above_turned a b is = nat_list_cmp_total.antisymm b a ∙ ap ordering_reverse is

pub below_turned : (a b : List ℕ) → key_cmp a b ≡ Greater → key_cmp b a ≡ Less
below_turned a b is = nat_list_cmp_total.antisymm b a ∙ ap ordering_reverse is

-- of two entries in order the first one's key isn't above the other's
pub keys_up : (e f : Entry) → entry_cmp e f ≡ Less → is_gt (key_cmp e.key f.key) ≡ false
keys_up e f less = by (key_cmp e.key f.key) less
  where
    by : (r : Ordering) → ordering_then r (nat_cmp f.version e.version) ≡ Less → is_gt r ≡ false
    by Less is = refl
    by Equal is = refl
    by Greater is = absurd cc

-- ---- all of some entries

pub all_map : {X : Type 0} (P Q : X → Type 0) → ((x : X) → P x → Q x) → (xs : List X) → AllByRecursion P xs → AllByRecursion Q xs
all_map P Q f [] all = tt
all_map P Q f (x ∷ xs) all = (f x all.0, all_map P Q f xs all.1)

-- what holds of all keys holds of the last
pub of_last : (P : List ℕ → Type 0) (es : List Entry) → 1 ≤ length es → AllByRecursion (λ e. P e.key) es → P (last_key es)
of_last P [] some all = absurd (omega arith)
of_last P (e ∷ []) some all = all.0
of_last P (e ∷ f ∷ fs) some all = of_last P (f ∷ fs) (omega arith) all.1

module _ (key : List ℕ) where
  -- a key below the first is below all
  pub all_above : (es : List Entry) → IsRising es → key_cmp key (first_key es) ≡ Less → AllByRecursion (λ e. key_cmp key e.key ≡ Less) es
  all_above [] up below = tt
  all_above (e ∷ es) up below = (
    below,
    all_map (λ f. entry_cmp e f ≡ Less) (λ f. key_cmp key f.key ≡ Less)
        (λ f less. below_up_to key e.key f.key below (keys_up e f less)) es up.0,
  )

  -- a key above the last is above all
  pub all_below : (es : List Entry) → IsRising es → key_cmp key (last_key es) ≡ Greater
      → AllByRecursion (λ e. key_cmp key e.key ≡ Greater) es
  all_below [] up above = tt
  all_below (e ∷ []) up above = (above, tt)
  all_below (e ∷ f ∷ fs) up above =
      let rest = all_below (f ∷ fs) up.1 above in
      (above_turned e.key key (up_to_below e.key f.key key (keys_up e f up.0.0) (below_turned key f.key rest.0)), rest)

  -- ---- none of the entries is of the key

  abbrev pub HasNone : List Entry → Type 0
  HasNone es = AllByRecursion (λ e. eq_by_cmp key_cmp key e.key ≡ false) es

  pub none_above : (es : List Entry) → AllByRecursion (λ e. key_cmp key e.key ≡ Less) es → HasNone es
  none_above es all = all_map (λ e. key_cmp key e.key ≡ Less) (λ e. eq_by_cmp key_cmp key e.key ≡ false) (λ e is. ap is_eq is) es all

  pub none_below : (es : List Entry) → AllByRecursion (λ e. key_cmp key e.key ≡ Greater) es → HasNone es
  none_below es all = all_map (λ e. key_cmp key e.key ≡ Greater) (λ e. eq_by_cmp key_cmp key e.key ≡ false) (λ e is. ap is_eq is) es all

  pub winner-none : (number : ℕ) (es : List Entry) → HasNone es → winner es key number ≡ None
  winner-none number [] none = refl
  winner-none number (e ∷ es) none =
      ap (λ b. newest_of (only_if (b && nat_le e.version number) e) (winner es key number)) none.0 ∙ winner-none number es none.1

  pub exact-none : (version : ℕ) (es : List Entry) → HasNone es → exact es key version ≡ None
  exact-none version [] none = refl
  exact-none version (e ∷ es) none =
      ap (λ b. cond (b && (e.version == version)) (Some e) (exact es key version)) none.0 ∙ exact-none version es none.1
