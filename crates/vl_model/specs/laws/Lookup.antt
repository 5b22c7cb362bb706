-- In a list in order the winner stands at the place of its key and number, and so does the entry of a
-- key and version.
use Rattle.std.proofs.Common.{◌≡◌, ℕ, Bool, true, false, cond, ◌&&◌, List, [], ◌∷◌, refl, ap, sym, ◌∙◌, arith, Option, Some, None}
use Rattle.std.specs.Prelude.{◌==◌, ◌≢◌, nat_le}
use Rattle.std.specs.List.{AllByRecursion}
use Rattle.std.specs.Ordering.{ordering_then, nat_cmp, is_gt, is_eq, eq_by_cmp}
use Rattle.std.specs.declared.cmp.Ordering.{Ordering}
use Rattle.std.specs.declared.cmp.Ordering.TheVariants.{Less, Equal, Greater}
use Rattle.std.proofs.lemmas.Bool.Decides.{nat_tests}
use Rattle.std.proofs.lemmas.Map.Text.{is_eq-slice_cmp}
use Rattle.std.specs.Str.{bytes_eq}
use Rattle.vl_model.specs.Keys.{key_cmp}
use Rattle.vl_model.specs.Entries.{entry_cmp, is_at}
use Rattle.vl_model.specs.Winners.{counts, only_if, newest_of, winner, exact}
use Rattle.vl_model.specs.laws.WinnerLaws.{newest_of-assoc, same_key, key_tied}
use Rattle.vl_model.specs.declared.entry.Entry.{Entry}
use Rattle.vl_model.specs.EntryOrder.{IsInOrder, place_of}
use Rattle.vl_model.specs.laws.OrderLaws.{entry_total, IsBefore, IsRising, before-all, turned, rising}
use Rattle.vl_model.specs.Lookups.{IsParted, first_failing, if_exact, if_of_key, is_ahead}

is_gt-greater : (r : Ordering) → is_gt r ≡ true → r ≡ Greater
is_gt-greater Less is = absurd cc
is_gt-greater Equal is = absurd cc
is_gt-greater Greater is = refl

module _ (key : List ℕ) (version : ℕ) where
  ahead-all : (e : Entry) (es : List Entry) → IsBefore e es
      → AllByRecursion (λ f. is_ahead key version f ≡ true → is_ahead key version e ≡ true) es
  ahead-all e [] before = tt
  ahead-all e (f ∷ es) before = (
    λ ahead.
        let p = place_of key version in
        let below = turned p f Greater (is_gt-greater (entry_cmp p f) ahead) in
        ap is_gt (turned e p Less (entry_total.trans e f p before.0 below)),
    ahead-all e es before.1,
  )

  pub rising-parted : (es : List Entry) → IsRising es → IsParted (is_ahead key version) es
  rising-parted [] rising = tt
  rising-parted (e ∷ es) rising = (ahead-all e es rising.0, rising-parted es rising.1)

  -- ---- of a key and version

  tied_test : (r : Ordering) (m n : ℕ) → (is_eq r && (m == n)) ≡ is_eq (ordering_then r (nat_cmp m n))
  tied_test Less m n = refl
  tied_test Equal m n = grind (arith, nat_tests)
  tied_test Greater m n = refl

  pub is_at-tied : (e : Entry) → is_at key version e ≡ is_eq (entry_cmp (place_of key version) e)
  is_at-tied e = tied_test (key_cmp key e.key) e.version version

  pub exact-behind : (es : List Entry) → IsBefore (place_of key version) es → exact es key version ≡ None
  exact-behind [] before = refl
  exact-behind (e ∷ es) before =
      ap (λ b. cond b (Some e) (exact es key version)) (is_at-tied e ∙ ap is_eq before.0) ∙ exact-behind es before.1

  pub exact-place : (es : List Entry) → IsRising es
      → exact es key version ≡ if_exact key version (first_failing (is_ahead key version) es)
  exact-place [] rising = refl
  exact-place (e ∷ es) rising = by (exact-place es rising.1) (entry_cmp (place_of key version) e) refl
    where
      at : (r : Ordering) → entry_cmp (place_of key version) e ≡ r → is_at key version e ≡ is_eq r
      at r is = is_at-tied e ∙ ap is_eq is

      by : exact es key version ≡ if_exact key version (first_failing (is_ahead key version) es) → (r : Ordering)
          → entry_cmp (place_of key version) e ≡ r
          → cond (is_at key version e) (Some e) (exact es key version) ≡ if_exact key version
          (cond (is_ahead key version e) (first_failing (is_ahead key version) es) (Some e))
      by later Less is =
          ap (λ b. cond b (Some e) (exact es key version)) (at Less is)
          ∙ exact-behind es (before-all (place_of key version) e es is rising.0)
          ∙ sym (ap (λ b. if_exact key version (cond b (first_failing (is_ahead key version) es) (Some e)))
          (ap is_gt is) ∙ ap (λ b. only_if b e) (at Less is))
      by later Equal is =
          ap (λ b. cond b (Some e) (exact es key version)) (at Equal is)
          ∙ sym (ap (λ b. if_exact key version (cond b (first_failing (is_ahead key version) es) (Some e)))
          (ap is_gt is) ∙ ap (λ b. only_if b e) (at Equal is))
      by later Greater is =
          ap (λ b. cond b (Some e) (exact es key version)) (at Greater is) ∙ later
          ∙ sym (ap (λ b. if_exact key version (cond b (first_failing (is_ahead key version) es) (Some e))) (ap is_gt is))

  -- ---- of a key, at a number

  counted_test : (r : Ordering) (m n : ℕ) → ordering_then r (nat_cmp m n) ≡ Greater → (is_eq r && nat_le m n) ≡ false
  counted_test Less m n is = absurd cc
  counted_test Equal m n is = grind (arith, nat_tests)
  counted_test Greater m n is = refl

  below-test : (r : Ordering) (m n : ℕ) → r ≡ Equal → ordering_then r (nat_cmp m n) ≡ Less → nat_le m n ≡ true
  below-test Less m n is less = absurd cc
  below-test Equal m n is less = grind (arith, nat_tests)
  below-test Greater m n is less = absurd cc

  -- entries behind one of the key aren't newer
  newest_first : (e : Entry) (es : List Entry) → key ≡ e.key → IsBefore e es → newest_of (Some e) (winner es key version) ≡ Some e
  newest_first e [] of_key before = refl
  newest_first e (f ∷ es) of_key before =
      sym (newest_of-assoc (Some e) (only_if (counts key version f) f) (winner es key version))
      ∙ ap (λ w. newest_of w (winner es key version)) (by (eq_by_cmp key_cmp key f.key) refl)
      ∙ newest_first e es of_key before.1
    where
      by : (b : Bool) → eq_by_cmp key_cmp key f.key ≡ b → newest_of (Some e) (only_if (b && nat_le f.version version) f) ≡ Some e
      by false is = refl
      by true is =
          let keys : key_cmp e.key f.key ≡ Equal = ap (key_cmp e.key) (sym (same_key key f.key is) ∙ of_key) ∙ key_tied e.key in
          let older : nat_le f.version e.version ≡ true = below-test (key_cmp e.key f.key) f.version e.version keys before.0 in
          elim (nat_le f.version version) as (λ b. newest_of (Some e) (only_if b f) ≡ Some e) [
            | true ↦ ap (λ b. cond b (Some e) (Some f)) older
            | false ↦ refl
          ]

  uncounted : (r : Ordering) (m : ℕ) → ordering_then r (nat_cmp m 0) ≡ Less → is_eq r ≡ false
  uncounted Less m less = refl
  uncounted Equal m less = absurd (grind (arith, nat_tests))
  uncounted Greater m less = absurd cc

  none_counts : (e : Entry) (w : Option Entry) → counts key version e ≡ false → newest_of (only_if (counts key version e) e) w ≡ w
  none_counts e w is = ap (λ b. newest_of (only_if b e) w) is

  -- entries behind all of a key
  winner-behind : (es : List Entry) → IsBefore (place_of key 0) es → winner es key version ≡ None
  winner-behind [] before = refl
  winner-behind (e ∷ es) before =
      none_counts e (winner es key version) (ap (λ b. b && nat_le e.version version) (uncounted (key_cmp key e.key) e.version before.0))
      ∙ winner-behind es before.1

  other_key : (r : Ordering) (m n : ℕ) → is_gt (ordering_then r (nat_cmp m n)) ≡ false → is_eq r ≡ false
      → ordering_then r (nat_cmp m 0) ≡ Less
  other_key Less m n behind other = refl
  other_key Equal m n behind other = absurd cc
  other_key Greater m n behind other = absurd cc

  counts-here : (r : Ordering) (m n : ℕ) → is_gt (ordering_then r (nat_cmp m n)) ≡ false → is_eq r ≡ true → (is_eq r && nat_le m n) ≡ true
  counts-here Less m n behind same = absurd cc
  counts-here Equal m n behind same = grind (arith, nat_tests)
  counts-here Greater m n behind same = absurd cc

  -- the first entry that isn't ahead of the place
  winner-first : (e : Entry) (es : List Entry) → IsBefore e es → is_ahead key version e ≡ false
      → winner (e ∷ es) key version ≡ only_if (eq_by_cmp key_cmp key e.key) e
  winner-first e es before behind = by (eq_by_cmp key_cmp key e.key) refl
    where
      by : (b : Bool) → eq_by_cmp key_cmp key e.key ≡ b → winner (e ∷ es) key version ≡ only_if (eq_by_cmp key_cmp key e.key) e
      by true is =
          ap (λ b. newest_of (only_if b e) (winner es key version)) (counts-here (key_cmp key e.key) e.version version behind is)
          ∙ newest_first e es (same_key key e.key is) before ∙ sym (ap (λ b. only_if b e) is)
      by false is =
          none_counts e (winner es key version) (ap (λ b. b && nat_le e.version version) is)
          ∙ winner-behind es (before-all (place_of key 0) e es (other_key (key_cmp key e.key) e.version version behind is) before)
          ∙ sym (ap (λ b. only_if b e) is)

  pub winner-place : (es : List Entry) → IsRising es
      → winner es key version ≡ if_of_key key (first_failing (is_ahead key version) es)
  winner-place [] rising = refl
  winner-place (e ∷ es) rising = by (winner-place es rising.1) (is_ahead key version e) refl
    where
      by : winner es key version ≡ if_of_key key (first_failing (is_ahead key version) es) → (b : Bool) → is_ahead key version e ≡ b
          → winner (e ∷ es) key version ≡ if_of_key key (cond (is_ahead key version e) (first_failing (is_ahead key version) es) (Some e))
      by later true is =
          none_counts e (winner es key version)
          (counted_test (key_cmp key e.key) e.version version (is_gt-greater (entry_cmp (place_of key version) e) is))
          ∙ later
          ∙ sym (ap (λ b. if_of_key key (cond b (first_failing (is_ahead key version) es) (Some e))) is)
      by later false is =
          winner-first e es rising.0 is
          ∙ sym (ap (λ b. if_of_key key (cond b (first_failing (is_ahead key version) es) (Some e))) is)

  -- ---- what was found

  pub found_winner : (es : List Entry) → IsInOrder es → (found : Option Entry)
      → found ≡ first_failing (is_ahead key version) es → if_of_key key found ≡ winner es key version
  found_winner es in_order found is = ap (if_of_key key) is ∙ sym (winner-place es (rising es in_order))

  pub found_exact : (es : List Entry) → IsInOrder es → (found : Option Entry)
      → found ≡ first_failing (is_ahead key version) es → if_exact key version found ≡ exact es key version
  found_exact es in_order found is = ap (if_exact key version) is ∙ sym (exact-place es (rising es in_order))

  pub of_key : (e : Entry) (b : Bool) → bytes_eq key e.key ≡ b → if_of_key key (Some e) ≡ only_if b e
  of_key e b is = ap (λ b. only_if b e) (is_eq-slice_cmp key e.key ∙ is)

  both_same : (m n : ℕ) → m ≡ n → (m == n) ≡ true
  both_same m n same = grind (arith, nat_tests)

  not_same : (m n : ℕ) → m ≢ n → (m == n) ≡ false
  not_same m n apart = grind (arith, nat_tests, apart)

  pub of_version : (e : Entry) → bytes_eq key e.key ≡ true → e.version ≡ version → if_exact key version (Some e) ≡ Some e
  of_version e is same = ap (λ b. only_if (b && (e.version == version)) e) (is_eq-slice_cmp key e.key ∙ is)
      ∙ ap (λ b. only_if b e) (both_same e.version version same)

  pub of_other_version : (e : Entry) → bytes_eq key e.key ≡ true → e.version ≢ version → if_exact key version (Some e) ≡ None
  of_other_version e is apart = ap (λ b. only_if (b && (e.version == version)) e) (is_eq-slice_cmp key e.key ∙ is)
      ∙ ap (λ b. only_if b e) (not_same e.version version apart)

  pub of_other_key : (e : Entry) → bytes_eq key e.key ≡ false → if_exact key version (Some e) ≡ None
  of_other_key e is = ap (λ b. only_if (b && (e.version == version)) e) (is_eq-slice_cmp key e.key ∙ is)
