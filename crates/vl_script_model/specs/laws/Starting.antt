-- How many changing calls an opening makes.
use Rattle.std.proofs.Common.{◌≡◌, ℕ, zero, suc, ap, sym, subst, arith}
use Rattle.std.specs.Prelude.{◌+◌, ◌-◌, ◌^◌, ◌≤◌}
use Rattle.vl_disk.specs.Faults.{after_calls}
use Rattle.vl_recover.specs.repairing.Steps.{MakesSome}

-- a count stays within its type
within_type : (n count : ℕ) → count ≤ 2 ^ 64 - 1 → after_calls n count ≤ 2 ^ 64 - 1
within_type zero count below = below
within_type (suc n) count below = omega arith

-- more calls are counted as no fewer
more_calls : (k n count : ℕ) → count ≤ 2 ^ 64 - 1 → after_calls n count ≤ after_calls (k + n) count
more_calls zero n count below = ap_le (let e : 0 + n ≡ n = omega arith in e)
  where
    ap_le : (0 + n) ≡ n → after_calls n count ≤ after_calls (0 + n) count
    ap_le e = subst (λ (m : ℕ). after_calls n count ≤ after_calls m count) (sym e) (omega arith)
more_calls (suc k) n count below =
    let e : suc k + n ≡ suc (k + n) = omega arith in
    let so_far = more_calls k n count below in
    let last = within_type (k + n) count below in
    subst (λ (m : ℕ). after_calls n count ≤ after_calls m count) (sym e) (omega (arith, so_far, last))

pub at_most : (count before now most : ℕ) → before ≤ 2 ^ 64 - 1 → MakesSome count before now → most ≡ after_calls count before → now ≤ most
at_most count before now most below (n, within, is) all =
    let e : (count - n) + n ≡ count = omega (arith, within) in
    let less : after_calls n before ≤ after_calls ((count - n) + n) before = more_calls (count - n) n before below in
    let same : after_calls ((count - n) + n) before ≡ after_calls count before = ap (λ (k : ℕ). after_calls k before) e in
    omega (arith, less, same, is, all)
