-- A source over a reader, as a caller sees it.
use Rattle.std.specs.Prelude.{◌≡◌, ◌++◌, List, None, Some, ℕ}

-- the reader, the most bytes that are still given, and how many calls failed
pub record Reading (R : Type 0) : Type 0 where
  pub reader : R
  pub budget : ℕ
  pub faults : ℕ

-- where nothing is told, there is nothing to say of when it was last asked
pub untold : (rest : List ℕ) → None ≡ Some rest → (given : List ℕ) × (None ≡ Some (given ++ rest))
untold rest is = absurd (cc)
