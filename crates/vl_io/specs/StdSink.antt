-- A sink over a writer, as a caller sees it.
use Rattle.std.specs.Prelude.{ℕ}

-- the writer, and how many calls failed
pub record Writing (W : Type 0) : Type 0 where
  pub writer : W
  pub faults : ℕ
