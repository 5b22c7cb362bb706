-- A key is answered as moved only for cause, and none only where no key has one.
use Rattle.std.proofs.Common.{◌≡◌, ℕ, zero, suc, ◌<◌, true, false, Bool, List, [], ◌∷◌, length, refl, ap, sym, ◌∙◌, arith}
use Rattle.std.proofs.Common.{subst, Option, Some, None}
use Rattle.std.specs.FinMap.{find}
use Rattle.std.specs.Option.{option_map, unwrap_or}
use Rattle.std.specs.Ordering.{eq_by_cmp}
use Rattle.std.specs.Prelude.{All, Contains, IfSome, map, slice_index_or, ◌↔◌}
use Rattle.vl_compact.proofs.Lists.{find_here, find_later}
use Rattle.vl_compact.specs.Racing.{IsMoved, IsUnmoved, least_moved}
use Rattle.vl_compact.specs.Racing.{moved_or}
use Rattle.vl_model.specs.Conflicts.{Named}
use Rattle.vl_model.specs.Keys.{key_cmp}
use Rattle.vl_model.specs.laws.WinnerLaws.{same_key}

-- ---- lists

head_there : {X : Type 0} (x : X) (xs : List X) → Contains (x ∷ xs) x
head_there x xs = (0, omega arith, refl)

later_there : {X : Type 0} (x y : X) (xs : List X) → Contains xs y → Contains (x ∷ xs) y
later_there x y xs (k, within, is) = (suc k, omega (arith, within), is)

-- ---- moves

some_same : {X : Type 0} (x y : X) → Some x ≡ Some y → x ≡ y
some_same x y is = ap (λ o. unwrap_or o x) is

-- a number that is found with a key stands there with it
found_there : (key : List ℕ) (number : ℕ) (moved : List Named) → find key_cmp key moved ≡ Some number → Contains moved (key, number)
found_there key number [] is = absurd cc
found_there key number (m ∷ ms) is = by (found_there key number ms) (eq_by_cmp key_cmp key m.0) refl
  where
    by : (find key_cmp key ms ≡ Some number → Contains ms (key, number)) → (b : Bool) → eq_by_cmp key_cmp key m.0 ≡ b
        → Contains (m ∷ ms) (key, number)
    by later true same =
        let number_is : m.1 ≡ number = some_same m.1 number (sym (find_here key m ms same) ∙ is) in
        (0, omega arith, ap (λ k. (k, m.1)) (sym (same_key key m.0 same)) ∙ ap (λ n. (key, n)) number_is)
    by later false other = later_there m (key, number) ms (later (sym (find_later key m ms other) ∙ is))

module _ (moved : List Named) where
  abbrev keys_of : List Named → List (List ℕ)
  keys_of ns = map (λ (n : Named). n.0) ns

  -- with a key more the cause stays
  cause_stays : (n named : Named) (ns : List Named) → IsMoved moved ns named → IsMoved moved (n ∷ ns) named
  cause_stays n named ns c = record {
    dropped = later_there n.0 named.0 (keys_of ns) c.dropped;
    moved_is = c.moved_is;
    last = c.last;
  }

  -- what is answered has its cause
  pub has_cause : (keys : List Named) (named : Named) → least_moved moved keys ≡ Some named → IsMoved moved keys named
  has_cause [] named is = absurd cc
  has_cause (n ∷ ns) named is = by (has_cause ns named) (find key_cmp n.0 moved) refl is
    where
      by : (least_moved moved ns ≡ Some named → IsMoved moved ns named) → (o : Option ℕ) → find key_cmp n.0 moved ≡ o
          → moved_or n.0 o (least_moved moved ns) ≡ Some named → IsMoved moved (n ∷ ns) named
      by later None none answered = cause_stays n named ns (later answered)
      by later (Some number) found answered =
          let named_is : (n.0, number) ≡ named = some_same (n.0, number) named answered in
          let here : IsMoved moved (n ∷ ns) (n.0, number) = record {
            dropped = head_there n.0 (keys_of ns);
            moved_is = found_there n.0 number moved found;
            last = found;
          } in
          subst (IsMoved moved (n ∷ ns)) named_is here

  -- and where none is, none of the keys was moved
  pub none_moved : (keys : List Named) → least_moved moved keys ≡ None → All (IsUnmoved moved) keys
  none_moved [] is = λ k d within. absurd (omega (arith, within))
  none_moved (n ∷ ns) is = by (none_moved ns) (find key_cmp n.0 moved) refl is
    where
      each : find key_cmp n.0 moved ≡ None → All (IsUnmoved moved) ns → (k : ℕ) (d : Named) → k < length (n ∷ ns)
          → IsUnmoved moved (slice_index_or (n ∷ ns) k d)
      each first later zero d within = first
      each first later (suc k) d within = later k d (omega (arith, within))

      by : (least_moved moved ns ≡ None → All (IsUnmoved moved) ns) → (o : Option ℕ) → find key_cmp n.0 moved ≡ o
          → moved_or n.0 o (least_moved moved ns) ≡ None → All (IsUnmoved moved) (n ∷ ns)
      by later (Some number) found answered = absurd (let no_such : Some (n.0, number) ≡ None = answered in cc)
      by later None none answered = each none (later answered)

  pub unmoved_none : (keys : List Named) → All (IsUnmoved moved) keys → least_moved moved keys ≡ None
  unmoved_none [] all = refl
  unmoved_none (n ∷ ns) all =
      let first : find key_cmp n.0 moved ≡ None = all 0 n (omega arith) in
      let later : All (IsUnmoved moved) ns = λ k d within. all (suc k) d (omega (arith, within)) in
      ap (λ o. moved_or n.0 o (least_moved moved ns)) first ∙ unmoved_none ns later

-- ---- what is answered for a reference

module _ {R : Type 0} (value : R → Named) (moved keys : List Named) where
  pub cause_of : (result : Option R) → option_map value result ≡ least_moved moved keys
      → IfSome result (λ r. IsMoved moved keys (value r))
  cause_of None is = tt
  cause_of (Some r) is = has_cause moved keys (value r) (sym is)

  pub none_if_unmoved : (result : Option R) → option_map value result ≡ least_moved moved keys
      → (result ≡ None) ↔ All (IsUnmoved moved) keys
  none_if_unmoved None is = (λ _. none_moved moved keys (sym is), λ _. refl)
  none_if_unmoved (Some r) is = (
    λ none. absurd (let no_such : Some r ≡ None = none in cc),
    λ all. absurd (let no_such : Some (value r) ≡ None = is ∙ unmoved_none moved keys all in cc),
  )
