-- An entry is outdated exactly if so many versions of its key come before it in order.
use Rattle.std.proofs.Common.{◌≡◌, ◌⊎◌, inl, inr, ⊎_elim, ℕ, zero, suc, ◌+◌, ◌<◌, ◌≤◌, Bool, true, false, cond, ◌&&◌}
use Rattle.std.proofs.Common.{◌||◌, List, [], ◌∷◌, refl, ap, sym, ◌∙◌, arith}
use Rattle.std.proofs.lemmas.Bool.{and_parts, and_from}
use Rattle.std.proofs.lemmas.Bool.Decides.{nat_tests}
use Rattle.std.specs.Prelude.{nat_le, nat_lt}
use Rattle.std.proofs.lemmas.Cmp.{ranked}
use Rattle.std.specs.List.{AllByRecursion, list_any}
use Rattle.std.specs.Ordering.{is_eq, ordering_then, nat_cmp, eq_by_cmp}
use Rattle.std.specs.declared.cmp.Ordering.{Ordering}
use Rattle.std.specs.declared.cmp.Ordering.TheVariants.{Less, Equal, Greater}
use Rattle.vl_engine_model.specs.Merging.{is_outdated}
use Rattle.vl_model.specs.Entries.{entry_cmp, put, in_order, by_order}
use Rattle.vl_model.specs.Keys.{key_cmp}
use Rattle.vl_model.specs.Winners.{counts}
use Rattle.vl_model.specs.declared.entry.Entry.{Entry}
use Rattle.vl_model.specs.laws.WinnerLaws.{same_key, key_tied, key_exact, entries_tied}
use Rattle.vl_model.specs.laws.OrderLaws.{IsBefore, IsRising, rising-in_order}
use Rattle.vl_compact.specs.laws.Repeats.{true_false}

-- ---- above an entry

-- it is of the entry's key, and of a greater version of at most the floor
abbrev pub is_above : ℕ → Entry → Entry → Bool
is_above floor e f = counts e.key floor f && nat_lt e.version f.version

abbrev pub one_if : Bool → ℕ
one_if b = cond b 1 0

-- how many of these are
abbrev pub count_above : ℕ → List Entry → Entry → ℕ
count_above floor [] e = 0
count_above floor (f ∷ fs) e = one_if (is_above floor e f) + count_above floor fs e

pub not_true : (b : Bool) → (b ≡ true → ⊥) → b ≡ false
not_true true off = absurd (off refl)
not_true false off = refl

pub nat_le_is : (m n : ℕ) → nat_le m n ≡ true → m ≤ n
nat_le_is m n is = grind (arith, nat_tests)

pub nat_lt_is : (m n : ℕ) → nat_lt m n ≡ true → m < n
nat_lt_is m n is = grind (arith, nat_tests)

pub le_nat : (m n : ℕ) → m ≤ n → nat_le m n ≡ true
le_nat m n is = grind (arith, nat_tests, is)

pub lt_nat : (m n : ℕ) → m < n → nat_lt m n ≡ true
lt_nat m n is = grind (arith, nat_tests, is)

pub above_parts : (floor : ℕ) (e f : Entry) → is_above floor e f ≡ true
    → (e.key ≡ f.key) × (f.version ≤ floor) × (e.version < f.version)
above_parts floor e f is =
    let both = and_parts (counts e.key floor f) (nat_lt e.version f.version) is in
    let counted = and_parts (eq_by_cmp key_cmp e.key f.key) (nat_le f.version floor) both.0 in
    (same_key e.key f.key counted.0, nat_le_is f.version floor counted.1, nat_lt_is e.version f.version both.1)

pub tied_keys : (k q : List ℕ) → k ≡ q → eq_by_cmp key_cmp k q ≡ true
tied_keys k q same = ap is_eq (ap (key_cmp k) (sym same) ∙ key_tied k)

pub above_from : (floor : ℕ) (e f : Entry) → e.key ≡ f.key → f.version ≤ floor → e.version < f.version
    → is_above floor e f ≡ true
above_from floor e f keys low less =
    and_from (counts e.key floor f) (nat_lt e.version f.version)
    (and_from (eq_by_cmp key_cmp e.key f.key) (nat_le f.version floor) (tied_keys e.key f.key keys) (le_nat f.version floor low))
    (lt_nat e.version f.version less)

-- an entry that comes before another has a lower key, or its key and a greater version
pub less_parts : (e f : Entry) → entry_cmp e f ≡ Less
    → (key_cmp e.key f.key ≡ Less) ⊎ ((e.key ≡ f.key) × (f.version < e.version))
less_parts e f less = by (key_cmp e.key f.key) refl less
  where
    less_is : (m n : ℕ) → nat_cmp m n ≡ Less → m < n
    less_is m n is = ranked m n Less (sym is)

    by : (r : Ordering) → key_cmp e.key f.key ≡ r → ordering_then r (nat_cmp f.version e.version) ≡ Less
        → (key_cmp e.key f.key ≡ Less) ⊎ ((e.key ≡ f.key) × (f.version < e.version))
    by Less is less = inl is
    by Equal is less = inr (key_exact e.key f.key is, less_is f.version e.version less)
    by Greater is less = absurd cc

less_equal : Less ≡ Equal → ⊥
less_equal is = cc

pub keys_apart : (k q : List ℕ) → key_cmp k q ≡ Less → k ≡ q → ⊥
keys_apart k q less same = less_equal (sym less ∙ ap (key_cmp k) (sym same) ∙ key_tied k)

-- of one key it has the greater version
of_key : (e f : Entry) → entry_cmp e f ≡ Less → e.key ≡ f.key → f.version < e.version
of_key e f less keys = by (less_parts e f less)
  where
    by : (key_cmp e.key f.key ≡ Less) ⊎ ((e.key ≡ f.key) × (f.version < e.version)) → f.version < e.version
    by (inl lower) = absurd (keys_apart e.key f.key lower keys)
    by (inr same) = same.1

-- none of the entries from one on is above it
not_above : (floor : ℕ) (e f : Entry) → entry_cmp e f ≡ Less → is_above floor e f ≡ false
not_above floor e f less = not_true (is_above floor e f) (λ is.
    let parts = above_parts floor e f is in
    ⊎_elim (λ (lower : key_cmp e.key f.key ≡ Less). keys_apart e.key f.key lower parts.0)
    (λ (same : (e.key ≡ f.key) × (f.version < e.version)). omega (arith, same.1, parts.2))
    (less_parts e f less))

none_later : (floor : ℕ) (e : Entry) (es : List Entry) → IsBefore e es → count_above floor es e ≡ 0
none_later floor e [] before = refl
none_later floor e (f ∷ fs) before =
    ap (λ b. one_if b + count_above floor fs e) (not_above floor e f before.0) ∙ ap (λ n. 0 + n) (none_later floor e fs before.1)

pub none_from : (floor : ℕ) (e : Entry) (es : List Entry) → IsBefore e es → count_above floor (e ∷ es) e ≡ 0
none_from floor e es before =
    ap (λ b. one_if b + count_above floor es e) (not_true (is_above floor e e) (λ is. omega (arith, (above_parts floor e e is).2)))
    ∙ ap (λ n. 0 + n) (none_later floor e es before)

-- ---- so many above it

module _ (floor k : ℕ) (e : Entry) (n : Entry → ℕ) where
  abbrev reaches : Entry → Bool
  reaches f = nat_le k (n f) && is_above floor e f

  -- each of these that is above it is counted as so many and as many as are above that one
  abbrev AreCounted : ℕ → List Entry → List Entry → Type 0
  AreCounted c all fs = AllByRecursion (λ (f : Entry). is_above floor e f ≡ true → n f ≡ c + count_above floor all f) fs

  skipped : (c : ℕ) (f : Entry) (fs gs : List Entry) → IsBefore f gs → is_above floor e f ≡ false
      → AreCounted c (f ∷ fs) gs → AreCounted c fs gs
  skipped c f fs [] before off all = tt
  skipped c f fs (g ∷ gs) before off all = (
    λ above.
        let counted = all.0 above in
        let never : is_above floor g f ≡ false =
        not_true (is_above floor g f) (λ is.
        let over_e = above_parts floor e g above in
        let over_g = above_parts floor g f is in
        true_false (sym (above_from floor e f (over_e.0 ∙ over_g.0) over_g.1 (omega (arith, over_e.2, over_g.2))) ∙ off)) in
        let none : one_if (is_above floor g f) ≡ 0 = ap one_if never in
        omega (arith, counted, none),
    skipped c f fs gs before.1 off all.1,
  )

  joined_by : (c : ℕ) (f : Entry) (fs gs : List Entry) → IsBefore f gs → is_above floor e f ≡ true
      → AreCounted c (f ∷ fs) gs → AreCounted (c + 1) fs gs
  joined_by c f fs [] before on all = tt
  joined_by c f fs (g ∷ gs) before on all = (
    λ above.
        let counted = all.0 above in
        let over_g = above_parts floor e g above in
        let over_f = above_parts floor e f on in
        let higher = of_key f g before.0 (sym over_f.0 ∙ over_g.0) in
        let one : one_if (is_above floor g f) ≡ 1 = ap one_if (above_from floor g f (sym over_g.0 ∙ over_f.0) over_f.1 higher) in
        omega (arith, counted, one),
    joined_by c f fs gs before.1 on all.1,
  )

  -- so one of these reaches so many exactly if one more than that are above it
  reached : (c : ℕ) (fs : List Entry) → IsRising fs → c ≤ k → AreCounted c fs fs
      → list_any reaches fs ≡ nat_le (suc k) (c + count_above floor fs e)
  reached c [] rising low all = sym (too_few c low)
    where
      too_few : (c : ℕ) → c ≤ k → nat_le (suc k) (c + 0) ≡ false
      too_few c low = grind (arith, nat_tests, low)
  reached c (f ∷ fs) rising low all =
      by (is_above floor e f) refl (λ low. reached (c + 1) fs rising.1 low) (λ counted. reached c fs rising.1 low counted)
    where
      Goal : Type 0
      Goal = list_any reaches (f ∷ fs) ≡ nat_le (suc k) (c + count_above floor (f ∷ fs) e)

      Later : ℕ → Type 0
      Later c = AreCounted c fs fs → list_any reaches fs ≡ nat_le (suc k) (c + count_above floor fs e)

      many : (m : ℕ) → k ≤ c → nat_le (suc k) (c + (1 + m)) ≡ true
      many m high = grind (arith, nat_tests, high)

      by : (b : Bool) → is_above floor e f ≡ b → (c + 1 ≤ k → Later (c + 1)) → Later c
          → list_any reaches (f ∷ fs) ≡ nat_le (suc k) (c + count_above floor (f ∷ fs) e)
      by false off grown same =
          ap (λ b. (nat_le k (n f) && b) || list_any reaches fs) off
          ∙ ap (λ b. b || list_any reaches fs) (and_false (nat_le k (n f)))
          ∙ same (skipped c f fs fs rising.0 off all.1)
          ∙ ap (λ m. nat_le (suc k) (c + m)) (sym (ap (λ b. one_if b + count_above floor fs e) off ∙ plain (count_above floor fs e)))
        where
          and_false : (b : Bool) → (b && false) ≡ false
          and_false true = refl
          and_false false = refl

          plain : (m : ℕ) → 0 + m ≡ m
          plain m = omega arith
      by true on grown same = reach (nat_le k (n f)) refl
        where
          here : n f ≡ c
          here = omega (arith, all.0 on, none_from floor f fs rising.0)

          more : (m : ℕ) → c + 1 + m ≡ c + (1 + m)
          more m = omega arith

          reach : (b : Bool) → nat_le k (n f) ≡ b → list_any reaches (f ∷ fs) ≡ nat_le (suc k) (c + count_above floor (f ∷ fs) e)
          reach true is =
              ap (λ b. (b && is_above floor e f) || list_any reaches fs) is ∙ ap (λ b. b || list_any reaches fs) on
              ∙ sym (ap (λ b. nat_le (suc k) (c + (one_if b + count_above floor fs e))) on
              ∙ many (count_above floor fs e) (omega (arith, nat_le_is k (n f) is, here)))
          reach false is =
              ap (λ b. (b && is_above floor e f) || list_any reaches fs) is
              ∙ grown (below is) (joined_by c f fs fs rising.0 on all.1)
              ∙ ap (nat_le (suc k)) (more (count_above floor fs e))
              ∙ sym (ap (λ b. nat_le (suc k) (c + (one_if b + count_above floor fs e))) on)
            where
              below : nat_le k (n f) ≡ false → c + 1 ≤ k
              below is = grind (arith, nat_tests, here)

-- ---- outdated

all_counted : (floor : ℕ) (e : Entry) (all fs : List Entry)
    → AllByRecursion (λ (f : Entry). is_above floor e f ≡ true → count_above floor all f ≡ 0 + count_above floor all f) fs
all_counted floor e all [] = tt
all_counted floor e all (f ∷ fs) = ((λ above. omega arith), all_counted floor e all fs)

same_tests : (p q : Entry → Bool) (es : List Entry) → ((e : Entry) → p e ≡ q e) → list_any p es ≡ list_any q es
same_tests p q [] same = refl
same_tests p q (e ∷ es) same = ap (λ b. b || list_any p es) (same e) ∙ ap (λ b. q e || b) (same_tests p q es same)

-- an entry that is above one and itself outdated, where so many less are kept, outdates that one
abbrev outdates : ℕ → List Entry → ℕ → Entry → Entry → Bool
outdates keep es floor e f = is_outdated keep es floor f && is_above floor e f

pub outdated-rising : (keep floor : ℕ) (es : List Entry) (e : Entry) → IsRising es
    → is_outdated keep es floor e ≡ nat_le keep (count_above floor es e)
outdated-rising zero floor es e rising = sym (le_nat 0 (count_above floor es e) (omega arith))
outdated-rising (suc keep) floor es e rising =
    same_tests (outdates keep es floor e) (λ (f : Entry). nat_le keep (count_above floor es f) && is_above floor e f) es
    (λ f. ap (λ b. b && is_above floor e f) (outdated-rising keep floor es f rising))
    ∙ reached floor keep e (count_above floor es) 0 es rising (omega arith) (all_counted floor e es es)
    ∙ ap (nat_le (suc keep)) (plain (count_above floor es e))
  where
    plain : (m : ℕ) → 0 + m ≡ m
    plain m = omega arith

-- ---- of entries in order

outdated-same : (keep : ℕ) (es : List Entry) (floor : ℕ) (e f : Entry) → e.key ≡ f.key → e.version ≡ f.version
    → is_outdated keep es floor e ≡ is_outdated keep es floor f
outdated-same zero es floor e f keys versions = refl
outdated-same (suc keep) es floor e f keys versions =
    ap (λ k. list_any (λ (g : Entry). is_outdated keep es floor g && (counts k floor g && nat_lt e.version g.version)) es) keys
    ∙ ap (λ v. list_any (λ (g : Entry). is_outdated keep es floor g && (counts f.key floor g && nat_lt v g.version)) es) versions

-- a test of key and version alone is passed by the same entries in order
module _ (p : Entry → Bool) (same : (e f : Entry) → e.key ≡ f.key → e.version ≡ f.version → p e ≡ p f) where
  or_swap : (a b c : Bool) → (a || (b || c)) ≡ (b || (a || c))
  or_swap true true c = refl
  or_swap true false c = refl
  or_swap false true c = refl
  or_swap false false c = refl

  or_twice : (a b c : Bool) → a ≡ b → (a || c) ≡ (a || (b || c))
  or_twice true b c is = refl
  or_twice false true c is = absurd (true_false (sym is))
  or_twice false false c is = refl

  any-put : (e : Entry) (es : List Entry) → list_any p (put e es) ≡ (p e || list_any p es)
  any-put e [] = refl
  any-put e (f ∷ fs) = by (any-put e fs) (entry_cmp e f) refl
    where
      by : list_any p (put e fs) ≡ (p e || list_any p fs) → (r : Ordering) → entry_cmp e f ≡ r
          → list_any p (by_order r (e ∷ f ∷ fs) (e ∷ fs) (f ∷ put e fs)) ≡ (p e || (p f || list_any p fs))
      by later Less is = refl
      by later Equal is =
          let tied = entries_tied e f is in or_twice (p e) (p f) (list_any p fs) (same e f tied.0 (sym tied.1))
      by later Greater is = ap (λ b. p f || b) later ∙ or_swap (p f) (p e) (list_any p fs)

  pub any-in_order : (es : List Entry) → list_any p (in_order es) ≡ list_any p es
  any-in_order [] = refl
  any-in_order (e ∷ es) = any-put e (in_order es) ∙ ap (λ b. p e || b) (any-in_order es)

outdated-in_order : (keep floor : ℕ) (es : List Entry) (e : Entry)
    → is_outdated keep es floor e ≡ is_outdated keep (in_order es) floor e
outdated-in_order zero floor es e = refl
outdated-in_order (suc keep) floor es e =
    sym (any-in_order (outdates keep es floor e) same es)
    ∙ same_tests (outdates keep es floor e) (outdates keep (in_order es) floor e) (in_order es)
    (λ f. ap (λ b. b && is_above floor e f) (outdated-in_order keep floor es f))
  where
    above_so : List ℕ → ℕ → Bool
    above_so key version = (eq_by_cmp key_cmp e.key key && nat_le version floor) && nat_lt e.version version

    same : (f g : Entry) → f.key ≡ g.key → f.version ≡ g.version → outdates keep es floor e f ≡ outdates keep es floor e g
    same f g keys versions =
        ap (λ b. b && is_above floor e f) (outdated-same keep es floor f g keys versions)
        ∙ ap (λ k. is_outdated keep es floor g && above_so k f.version) keys
        ∙ ap (λ v. is_outdated keep es floor g && above_so g.key v) versions

-- an entry is outdated exactly if so many are above it of the inputs in order
pub outdated-counted : (keep floor : ℕ) (es : List Entry) (e : Entry)
    → is_outdated keep es floor e ≡ nat_le keep (count_above floor (in_order es) e)
outdated-counted keep floor es e =
    outdated-in_order keep floor es e ∙ outdated-rising keep floor (in_order es) e (rising-in_order es)
