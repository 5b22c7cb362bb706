-- Look-ups in parts of entries in order, and what they find of one version.
use Rattle.std.proofs.Common.{◌≡◌, ℕ, Bool, true, false, cond, List, [], ◌∷◌, ◌++◌, refl, ap, ◌∙◌, Some, None}
use Rattle.std.specs.List.{AllByRecursion}
use Rattle.std.specs.Cmp.Lexicographic.{nat_list_cmp_total}
use Rattle.std.specs.Ordering.{ordering_reverse, ordering_then, nat_cmp, is_gt}
use Rattle.std.specs.declared.cmp.Ordering.{Ordering}
use Rattle.std.specs.declared.cmp.Ordering.TheVariants.{Less, Equal, Greater}
use Rattle.vl_model.specs.Keys.{key_cmp}
use Rattle.vl_model.specs.Entries.{entry_cmp}
use Rattle.vl_model.specs.declared.entry.Entry.{Entry}
use Rattle.vl_model.specs.Lookups.{first_failing, is_ahead, is_below, or_else}
use Rattle.vl_model.specs.laws.OrderLaws.{IsRising}

module _ {X : Type 0} (p : X → Bool) where
  pub first_failing-append : (xs ys : List X)
      → first_failing p (xs ++ ys) ≡ or_else (first_failing p xs) (first_failing p ys)
  first_failing-append [] ys = refl
  first_failing-append (x ∷ xs) ys = by (first_failing-append xs ys) (p x)
    where
      by : first_failing p (xs ++ ys) ≡ or_else (first_failing p xs) (first_failing p ys) → (b : Bool)
          → cond b (first_failing p (xs ++ ys)) (Some x) ≡ or_else (cond b (first_failing p xs) (Some x)) (first_failing p ys)
      by rest true = rest
      by rest false = refl

  pub none_failing : (xs : List X) → AllByRecursion (λ x. p x ≡ true) xs → first_failing p xs ≡ None
  none_failing [] all = refl
  none_failing (x ∷ xs) all = ap (λ b. cond b (first_failing p xs) (Some x)) all.0 ∙ none_failing xs all.1

greater : (r : Ordering) → is_gt r ≡ true → r ≡ Greater
greater Less is = absurd cc
greater Equal is = absurd cc
greater Greater is = refl

-- ---- parts of entries in order

pub all-front : (P : Entry → Type 0) (es fs : List Entry) → AllByRecursion P (es ++ fs) → AllByRecursion P es
all-front P [] fs all = tt
all-front P (e ∷ es) fs all = (all.0, all-front P es fs all.1)

pub all-back : (P : Entry → Type 0) (es fs : List Entry) → AllByRecursion P (es ++ fs) → AllByRecursion P fs
all-back P [] fs all = all
all-back P (e ∷ es) fs all = all-back P es fs all.1

pub rising-front : (es fs : List Entry) → IsRising (es ++ fs) → IsRising es
rising-front [] fs rising = tt
rising-front (e ∷ es) fs rising = (all-front (λ f. entry_cmp e f ≡ Less) es fs rising.0, rising-front es fs rising.1)

pub rising-back : (es fs : List Entry) → IsRising (es ++ fs) → IsRising fs
rising-back [] fs rising = rising
rising-back (e ∷ es) fs rising = rising-back es fs rising.1

-- ---- keys below a key

module _ (key : List ℕ) (version : ℕ) where
  ahead_of : (r s : Ordering) → is_gt r ≡ true → is_gt (ordering_then r s) ≡ true
  ahead_of Less s is = absurd cc
  ahead_of Equal s is = absurd cc
  ahead_of Greater s is = refl

  pub below-ahead : (e : Entry) → is_below key e.key ≡ true → is_ahead key version e ≡ true
  below-ahead e is = ahead_of (key_cmp key e.key) (nat_cmp e.version version) is

module _ (key : List ℕ) where
  -- what comes before a key that is below is below
  turned_key : (k : List ℕ) → key_cmp k key ≡ Less → key_cmp key k ≡ Greater
  turned_key k is = nat_list_cmp_total.antisymm key k ∙ ap ordering_reverse is

  back_key : (k : List ℕ) → key_cmp key k ≡ Greater → key_cmp k key ≡ Less
  back_key k is = nat_list_cmp_total.antisymm k key ∙ ap ordering_reverse is

  pub below-chain : (e f : Entry) → entry_cmp e f ≡ Less → is_below key f.key ≡ true → is_below key e.key ≡ true
  below-chain e f less below =
      ap is_gt (by (key_cmp e.key f.key) refl less (greater (key_cmp key f.key) below))
    where
      by : (r : Ordering) → key_cmp e.key f.key ≡ r → ordering_then r (nat_cmp f.version e.version) ≡ Less → key_cmp key f.key ≡ Greater
          → key_cmp key e.key ≡ Greater
      by Less is less above = turned_key e.key (nat_list_cmp_total.trans e.key f.key key is (back_key f.key above))
      by Equal is less above = turned_key e.key (nat_list_cmp_total.congr e.key f.key key is ∙ back_key f.key above)
      by Greater is less above = absurd cc
