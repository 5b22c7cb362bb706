-- Lawful keys.
use Rattle.std.proofs.Common.{◌≡◌, ℕ, ◌≤◌, ◌==◌, Bool, true, false, ◌&&◌, refl, arith}
use Rattle.std.proofs.lemmas.Bool.{false≢true}
use Rattle.std.proofs.lemmas.Bool.Decides.{nat_tests}
use Rattle.std.specs.Prelude.{nat_le}
use Rattle.vl_model.specs.Keys.{is_key_length}
use Rattle.vl_model.specs.Limits.{max_key_bytes}

pub key_within : (n : ℕ) → is_key_length n ≡ true → (1 ≤ n) × (n ≤ 4096)
key_within n is = by (nat_le 1 n) (nat_le n max_key_bytes) refl refl is
  where
    by : (a b : Bool) → nat_le 1 n ≡ a → nat_le n max_key_bytes ≡ b → (a && b) ≡ true → (1 ≤ n) × (n ≤ 4096)
    by true true least most is = (
      (let low : 1 ≤ n = grind (arith, nat_tests) in low),
      (let high : n ≤ 4096 = grind (arith, nat_tests) in high),
    )
    by true false least most is = absurd (false≢true is)
    by false b least most is = absurd (false≢true is)

pub some_key : (n : ℕ) → 1 ≤ n → (n == 0) ≡ false
some_key n least = grind (arith, nat_tests)

pub short_key : (n : ℕ) → n ≤ 4096 → nat_le n max_key_bytes ≡ true
short_key n most = grind (arith, nat_tests)
