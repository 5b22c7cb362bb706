-- Sums over the numbers below a bound, where one or two of the summands change.
use Rattle.std.proofs.Common.{◌≡◌, ◌≢◌, ℕ, zero, suc, ◌+◌, ◌-◌, ◌*◌, ◌<◌, ◌≤◌, ◌==◌, Bool, true, false, cond, refl, ap}
use Rattle.std.proofs.Common.{sym, arith, ne_eqb}
use Rattle.std.proofs.lemmas.Bool.Decides.{nat_tests}
use Rattle.vl_drive.specs.Accounts.{sum_of}

pub sum-same : (f g : ℕ → ℕ) (n : ℕ) → ((k : ℕ) → k < n → g k ≡ f k) → sum_of g n ≡ sum_of f n
sum-same f g zero same = refl
sum-same f g (suc n) same =
    let rest = sum-same f g n (λ k less. same k (omega (arith, less))) in
    let here = same n (omega arith) in
    omega (arith, rest, here)

-- each is at most the sum
pub sum-reaches : (f : ℕ → ℕ) (k n : ℕ) → k < n → f k ≤ sum_of f n
sum-reaches f k zero less = absurd (omega (arith, less))
sum-reaches f k (suc n) less = by_test (k == n) refl (λ below. sum-reaches f k n below)
  where
    by_test : (b : Bool) → (k == n) ≡ b → (k < n → f k ≤ sum_of f n) → f k ≤ f n + sum_of f n
    by_test true is rest = let same : k ≡ n = grind (arith, nat_tests) in let here = ap f same in omega (arith, here)
    by_test false is rest =
        let below : k < n = grind (arith, nat_tests, less, is) in
        let there = rest below in
        omega (arith, there)

abbrev pub with_at : (ℕ → ℕ) → (place value : ℕ) → ℕ → ℕ
with_at f place value k = cond (k == place) value (f k)

-- one summand changed
pub sum-with : (f : ℕ → ℕ) (place value n : ℕ) → place < n → sum_of (with_at f place value) n + f place ≡ sum_of f n + value
sum-with f place value zero less = absurd (omega (arith, less))
sum-with f place value (suc n) less = by_test (n == place) refl (λ below. sum-with f place value n below)
  where
    by_test : (b : Bool) → (n == place) ≡ b → (place < n → sum_of (with_at f place value) n + f place ≡ sum_of f n + value)
        → with_at f place value n + sum_of (with_at f place value) n + f place ≡ f n + sum_of f n + value
    by_test true is rest =
        let same : n ≡ place = grind (arith, nat_tests) in
        let others = sum-same f (with_at f place value) n
        (λ k below. ap (λ b. cond b value (f k)) (ne_eqb k place (λ e. omega (arith, e, below, same)))) in
        let here : with_at f place value n ≡ value = ap (λ b. cond b value (f n)) is in
        let there : f n ≡ f place = ap f same in
        omega (arith, others, here, there)
    by_test false is rest =
        let below : place < n = grind (arith, nat_tests, less, is) in
        let others = rest below in
        let here : with_at f place value n ≡ f n = ap (λ b. cond b value (f n)) is in
        omega (arith, others, here)

-- what one summand loses another one gets
pub sum-moved : (f : ℕ → ℕ) (from to amount n : ℕ) → from < n → to < n → from ≢ to → amount ≤ f from
    → sum_of (with_at (with_at f from (f from - amount)) to (f to + amount)) n ≡ sum_of f n
sum-moved f from to amount n less less' apart le =
    let one = sum-with f from (f from - amount) n less in
    let two = sum-with (with_at f from (f from - amount)) to (f to + amount) n less' in
    let here : with_at f from (f from - amount) to ≡ f to =
    ap (λ b. cond b (f from - amount) (f to)) (ne_eqb to from (λ e. apart (sym e))) in
    omega (arith, one, two, here, le)

-- where two summands together are always as much
pub sum-shared : (f g : ℕ → ℕ) (each n : ℕ) → ((k : ℕ) → k < n → f k + g k ≡ each) → sum_of f n + sum_of g n ≡ n * each
sum-shared f g each zero shared = omega arith
sum-shared f g each (suc n) shared =
    let rest = sum-shared f g each n (λ k less. shared k (omega (arith, less))) in
    let here = shared n (omega arith) in
    omega (arith, rest, here)

-- fewer come to at most as much
pub sum-of-fewer : (f : ℕ → ℕ) (m n : ℕ) → m ≤ n → sum_of f m ≤ sum_of f n
sum-of-fewer f m zero less = let same : m ≡ zero = omega (arith, less) in let here = ap (sum_of f) same in omega (arith, here)
sum-of-fewer f m (suc n) less = by_test (m == suc n) refl (λ below. sum-of-fewer f m n below)
  where
    by_test : (b : Bool) → (m == suc n) ≡ b → (m ≤ n → sum_of f m ≤ sum_of f n) → sum_of f m ≤ f n + sum_of f n
    by_test true is rest = let same : m ≡ suc n = grind (arith, nat_tests) in let here = ap (sum_of f) same in omega (arith, here)
    by_test false is rest =
        let below : m ≤ n = grind (arith, nat_tests, less, is) in
        let there = rest below in
        omega (arith, there)

-- one more
pub sum-fits : (f : ℕ → ℕ) (k n bound sum one : ℕ) → k < n → sum_of f n < bound → sum ≡ sum_of f k → one ≡ f k → sum + one < bound
sum-fits f k n bound sum one less fits is here =
    let most = sum-of-fewer f (suc k) n (omega (arith, less)) in
    omega (arith, most, fits, is, here)

pub sum-next : (f : ℕ → ℕ) (k sum one : ℕ) → sum ≡ sum_of f k → one ≡ f k → sum + one ≡ sum_of f (k + 1)
sum-next f k sum one is here =
    let up : k + 1 ≡ suc k = omega arith in
    let same = ap (sum_of f) up in
    omega (arith, is, here, same)
