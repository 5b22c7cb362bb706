-- Entries that were sorted, and of those of one key and version the first kept, are in order.
use Rattle.std.proofs.Common.{◌≡◌, ℕ, Bool, true, false, cond, not, ◌&&◌, List, [], ◌∷◌, refl, ap, sym, ◌∙◌, subst, Option, Some, None}
use Rattle.std.proofs.lemmas.List.Kept.{IsStrictlySortedBy-dedup}
use Rattle.std.specs.Cmp.{alike_right}
use Rattle.std.specs.List.{dedup, dedup_from, filter}
use Rattle.std.specs.List.Sorted.{IsSorted, IsStable, IsStrictlySortedBy, ties}
use Rattle.std.specs.Ordering.{is_eq, is_lt, ordering_reverse}
use Rattle.std.specs.declared.cmp.Ordering.{Ordering}
use Rattle.std.specs.declared.cmp.Ordering.TheVariants.{Less, Equal, Greater}
use Rattle.vl_model.specs.Entries.{entry_cmp, is_at, in_order}
use Rattle.vl_model.specs.Winners.{exact}
use Rattle.vl_model.specs.declared.entry.Entry.{Entry}
use Rattle.vl_model.specs.EntryOrder.{place_of}
use Rattle.vl_model.specs.laws.Exact.{exact-in_order}
use Rattle.vl_model.specs.laws.Lookup.{exact-behind, is_at-tied}
use Rattle.vl_model.specs.laws.OrderLaws.{IsBefore, IsRising, before-all, entry_total, rising-in_order, turned}

-- the two entries are of one key and version
abbrev pub is_same : Entry → Entry → Bool
is_same e f = is_eq (entry_cmp e f)

abbrev pub sorted_once : List Entry → List Entry
sorted_once es = dedup is_same es

-- ---- lists in order in which the same is found are the same

some_is : (e f : Entry) → Some e ≡ Some f → e ≡ f
some_is e f is = ap (λ (o : Option Entry). unwrapped o) is
  where
    unwrapped : Option Entry → Entry
    unwrapped None = e
    unwrapped (Some g) = g

none_is : (e : Entry) → Some e ≡ None → ⊥
none_is e is = absurd cc

exact-head : (e : Entry) (es : List Entry) → exact (e ∷ es) e.key e.version ≡ Some e
exact-head e es =
    ap (λ b. cond b (Some e) (exact es e.key e.version)) (is_at-tied e.key e.version e ∙ ap is_eq (tied e))
  where
    tied : (e : Entry) → entry_cmp e e ≡ Equal
    tied e = by (entry_cmp e e) refl
      where
        by : (r : Ordering) → entry_cmp e e ≡ r → entry_cmp e e ≡ Equal
        by Less is = let back = turned e e Less is in absurd cc
        by Equal is = is
        by Greater is = let back = turned e e Greater is in absurd cc

module _ (key : List ℕ) (version : ℕ) where
  -- where the front is of the key and version nothing behind it is
  exact-tail : (e : Entry) (es : List Entry) → IsBefore e es → is_at key version e ≡ true → exact es key version ≡ None
  exact-tail e [] before at = refl
  exact-tail e (f ∷ es) before at =
      ap (λ b. cond b (Some f) (exact es key version)) (elsewhere (is_at key version f) refl) ∙ exact-tail e es before.1 at
    where
      p : Entry
      p = place_of key version

      equal_of : (r : Ordering) → is_eq r ≡ true → r ≡ Equal
      equal_of Less is = absurd cc
      equal_of Equal is = refl
      equal_of Greater is = absurd cc

      elsewhere : (b : Bool) → is_at key version f ≡ b → is_at key version f ≡ false
      elsewhere false is = is
      elsewhere true is =
          let to_e = equal_of (entry_cmp p e) (sym (is_at-tied key version e) ∙ at) in
          let to_f = equal_of (entry_cmp p f) (sym (is_at-tied key version f) ∙ is) in
          let both = sym (entry_total.congr p e f to_e) ∙ to_f in
          let less = before.0 in
          absurd cc

  exact-behind_both : (e : Entry) (es fs : List Entry) → IsBefore e es → IsBefore e fs
      → exact (e ∷ es) key version ≡ exact (e ∷ fs) key version → exact es key version ≡ exact fs key version
  exact-behind_both e es fs before after same = by (is_at key version e) refl
    where
      by : (b : Bool) → is_at key version e ≡ b → exact es key version ≡ exact fs key version
      by true is = exact-tail e es before is ∙ sym (exact-tail e fs after is)
      by false is =
          sym (ap (λ b. cond b (Some e) (exact es key version)) is) ∙ same
          ∙ ap (λ b. cond b (Some e) (exact fs key version)) is

abbrev FindSame : List Entry → List Entry → Type 0
FindSame es fs = (key : List ℕ) (version : ℕ) → exact es key version ≡ exact fs key version

abbrev HaveSame : List Entry → List Entry → Type 0
HaveSame es fs = IsRising es → IsRising fs → FindSame es fs → es ≡ fs

joined : (e f : Entry) (es fs : List Entry) → e ≡ f → HaveSame es fs → HaveSame (e ∷ es) (f ∷ fs)
joined e f es fs at tails = subst (λ (g : Entry). HaveSame (e ∷ es) (g ∷ fs)) at
    (λ up also same. ap (λ l. e ∷ l) (tails up.1 also.1
    (λ key version. exact-behind_both key version e es fs up.0 also.0 (same key version))))

same_front : (e f : Entry) (es fs : List Entry) → HaveSame es fs → HaveSame (e ∷ es) (f ∷ fs)
same_front e f es fs tails up also same = by (entry_cmp e f) refl
  where
    by : (r : Ordering) → entry_cmp e f ≡ r → e ∷ es ≡ f ∷ fs
    by Less is =
        absurd (none_is e (sym (exact-head e es) ∙ same e.key e.version
        ∙ exact-behind e.key e.version (f ∷ fs) (is, before-all e f fs is also.0)))
    by Greater is =
        let less = turned e f Greater is in
        absurd (none_is f (sym (exact-head f fs) ∙ sym (same f.key f.version)
        ∙ exact-behind f.key f.version (e ∷ es) (less, before-all f e es less up.0)))
    by Equal is =
        let here = some_is e f (sym (exact-head e es) ∙ same e.key e.version
        ∙ ap (λ b. cond b (Some f) (exact fs e.key e.version)) (is_at-tied e.key e.version f ∙ ap is_eq is)) in
        joined e f es fs here tails up also same

same_entries : (es fs : List Entry) → HaveSame es fs
same_entries [] [] up also same = refl
same_entries [] (f ∷ fs) up also same = absurd (none_is f (sym (exact-head f fs) ∙ sym (same f.key f.version)))
same_entries (e ∷ es) [] up also same = absurd (none_is e (sym (exact-head e es) ∙ same e.key e.version))
same_entries (e ∷ es) (f ∷ fs) up also same = same_front e f es fs (same_entries es fs) up also same

-- ---- the first of several

module _ (key : List ℕ) (version : ℕ) where
  is_at-alike : (e f : Entry) → entry_cmp e f ≡ Equal → is_at key version e ≡ is_at key version f
  is_at-alike e f tied =
      is_at-tied key version e ∙ ap is_eq (alike_right entry_total e f (place_of key version) tied)
      ∙ sym (is_at-tied key version f)

  exact-dedup_from : (e : Entry) (es : List Entry)
      → exact (dedup_from is_same e es) key version ≡ exact (e ∷ es) key version
  exact-dedup_from e [] = refl
  exact-dedup_from e (f ∷ es) = by (exact-dedup_from e es) (exact-dedup_from f es) (entry_cmp f e) refl
    where
      dropped : (a b : Bool) → a ≡ b → cond a (Some e) (exact es key version) ≡ cond a (Some e) (cond b (Some f) (exact es key version))
      dropped true b is = refl
      dropped false true is = absurd cc
      dropped false false is = refl

      by : exact (dedup_from is_same e es) key version ≡ exact (e ∷ es) key version
          → exact (dedup_from is_same f es) key version ≡ exact (f ∷ es) key version
          → (r : Ordering) → entry_cmp f e ≡ r
          → exact (cond (is_eq (entry_cmp f e)) (dedup_from is_same e es) (e ∷ dedup_from is_same f es)) key version
          ≡ exact (e ∷ f ∷ es) key version
      by one other Less is =
          ap (λ r. exact (cond (is_eq r) (dedup_from is_same e es) (e ∷ dedup_from is_same f es)) key version) is
          ∙ ap (cond (is_at key version e) (Some e)) other
      by one other Equal is =
          ap (λ r. exact (cond (is_eq r) (dedup_from is_same e es) (e ∷ dedup_from is_same f es)) key version) is
          ∙ one ∙ dropped (is_at key version e) (is_at key version f) (sym (is_at-alike f e is))
      by one other Greater is =
          ap (λ r. exact (cond (is_eq r) (dedup_from is_same e es) (e ∷ dedup_from is_same f es)) key version) is
          ∙ ap (cond (is_at key version e) (Some e)) other

  exact-dedup : (es : List Entry) → exact (sorted_once es) key version ≡ exact es key version
  exact-dedup [] = refl
  exact-dedup (e ∷ es) = exact-dedup_from e es

  -- ---- what ties keeps its order

  abbrev first_of : List Entry → Option Entry
  first_of [] = None
  first_of (e ∷ es) = Some e

  ties-at : (e : Entry) → ties (λ x y. is_lt (entry_cmp x y)) (place_of key version) e ≡ is_at key version e
  ties-at e =
      ap (λ r. not (is_lt (entry_cmp (place_of key version) e)) && not (is_lt r))
      (turned (place_of key version) e (entry_cmp (place_of key version) e) refl)
      ∙ by (entry_cmp (place_of key version) e) ∙ sym (is_at-tied key version e)
    where
      by : (r : Ordering) → (not (is_lt r) && not (is_lt (ordering_reverse r))) ≡ is_eq r
      by Less = refl
      by Equal = refl
      by Greater = refl

  exact-ties : (es : List Entry)
      → first_of (filter (ties (λ x y. is_lt (entry_cmp x y)) (place_of key version)) es) ≡ exact es key version
  exact-ties [] = refl
  exact-ties (e ∷ es) = by (exact-ties es) (is_at key version e) (ties-at e)
    where
      rest : List Entry
      rest = filter (ties (λ x y. is_lt (entry_cmp x y)) (place_of key version)) es

      by : first_of (filter (ties (λ x y. is_lt (entry_cmp x y)) (place_of key version)) es) ≡ exact es key version → (b : Bool)
          → ties (λ x y. is_lt (entry_cmp x y)) (place_of key version) e ≡ b
          → first_of (cond (ties (λ x y. is_lt (entry_cmp x y)) (place_of key version) e)
          (e ∷ filter (ties (λ x y. is_lt (entry_cmp x y)) (place_of key version)) es)
          (filter (ties (λ x y. is_lt (entry_cmp x y)) (place_of key version)) es)) ≡ cond b (Some e) (exact es key version)
      by later true is =
          ap (λ b. first_of (cond b (e ∷ filter (ties (λ x y. is_lt (entry_cmp x y)) (place_of key version)) es)
          (filter (ties (λ x y. is_lt (entry_cmp x y)) (place_of key version)) es))) is
      by later false is =
          ap (λ b. first_of (cond b (e ∷ filter (ties (λ x y. is_lt (entry_cmp x y)) (place_of key version)) es)
          (filter (ties (λ x y. is_lt (entry_cmp x y)) (place_of key version)) es))) is
          ∙ later

-- ---- all of it

rises : (es : List Entry) → IsStrictlySortedBy entry_cmp es → IsRising es
unfolding IsStrictlySortedBy
rises [] sorted = tt
rises (e ∷ es) sorted = (sorted.0, rises es sorted.1)

-- A stable sort, and of entries that tie the first kept.
pub sorted-in_order : (es sorted : List Entry) → IsSorted entry_cmp sorted → IsStable entry_cmp es sorted
    → sorted_once sorted ≡ in_order es
sorted-in_order es sorted up stable =
    same_entries (sorted_once sorted) (in_order es)
    (rises (sorted_once sorted) (IsStrictlySortedBy-dedup entry_total (λ x y. refl) sorted up))
    (rising-in_order es)
    (λ key version.
    exact-dedup key version sorted ∙ sym (exact-ties key version sorted)
    ∙ ap (first_of key version) (stable (place_of key version))
    ∙ exact-ties key version es ∙ sym (exact-in_order key version es))
