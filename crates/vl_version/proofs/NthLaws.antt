-- The newest versions of a key are looked up one behind the other, also over tables that may not be true.
use Rattle.std.proofs.Common.{◌≡◌, ℕ, zero, suc, ◌+◌, ◌-◌, ◌≤◌, List, Option, Some, None, refl, sym, subst, arith}
use Rattle.std.specs.Prelude.{Result, Ok, Err}
use Rattle.vl_disk.specs.declared.read_fault.ReadFault.{ReadFault}
use Rattle.vl_version.specs.Over.{LooksOver}
use Rattle.vl_version.specs.Past.{IsVersionOf, LooksBehind, LooksBelow, LooksNth}
use Rattle.vl_version.specs.declared.version.Version.{Version}

module _ {H : Type 0} (bytes_of : H → Option (List ℕ)) (version : Version H) (key : List ℕ) where
  -- ---- below a bound

  pub below_zero : (bound : ℕ) → bound ≡ 0 → LooksBelow bytes_of version key bound (Ok None)
  below_zero bound is = subst (λ (n : ℕ). LooksBelow bytes_of version key n (Ok None)) (sym is) refl

  pub below_some : (bound : ℕ) (r : Result (Option ℕ) ReadFault) → 1 ≤ bound
      → LooksOver bytes_of version key (bound - 1) IsVersionOf r → LooksBelow bytes_of version key bound r
  below_some zero r some over = absurd (omega (arith, some))
  below_some (suc n) r some over =
      let same : suc n - 1 ≡ n = omega arith in
      subst (λ (m : ℕ). LooksOver bytes_of version key m IsVersionOf r) same over

  -- ---- behind a newer one

  pub behind_none : (o : Option ℕ) → o ≡ None → LooksBehind bytes_of version key (Ok o) (Ok None)
  behind_none o is = subst (λ (p : Option ℕ). LooksBehind bytes_of version key (Ok p) (Ok None)) (sym is) refl

  pub behind_some : (o : Option ℕ) (bound : ℕ) (r : Result (Option ℕ) ReadFault) → o ≡ Some bound
      → LooksBelow bytes_of version key bound r → LooksBehind bytes_of version key (Ok o) r
  behind_some o bound r is below = subst (λ (p : Option ℕ). LooksBehind bytes_of version key (Ok p) r) (sym is) below

  -- ---- one behind the other

  -- the first one is the newest,
  pub first_nth : (number nth : ℕ) (r : Result (Option ℕ) ReadFault) → nth ≡ 1
      → LooksOver bytes_of version key number IsVersionOf r → LooksNth bytes_of version key (number + 1) nth r
  first_nth number nth r is over =
      let same : number ≡ number + 1 - 1 = omega arith in
      let some : 1 ≤ number + 1 = omega arith in
      subst (λ (n : ℕ). LooksNth bytes_of version key (number + 1) n r) (sym is) (
        Ok (Some (number + 1)),
        refl,
        below_some (number + 1) r some
            (subst (λ (m : ℕ). LooksOver bytes_of version key m IsVersionOf r) same over),
      )

  -- and each further one is behind the one before it.
  pub later_nth : (bound nth : ℕ) (newer r : Result (Option ℕ) ReadFault) → 1 ≤ nth
      → LooksNth bytes_of version key bound (nth - 1) newer → LooksBehind bytes_of version key newer r
      → LooksNth bytes_of version key bound nth r
  later_nth bound zero newer r some first next = absurd (omega (arith, some))
  later_nth bound (suc n) newer r some first next =
      let same : suc n - 1 ≡ n = omega arith in
      (newer, subst (λ (m : ℕ). LooksNth bytes_of version key bound m newer) same first, next)
