-- Where a log's number stands among those of others.
use Rattle.std.specs.Prelude.{ℕ, ◌≤◌, ◌<◌, List, length, take, get_or}
use Rattle.std.specs.List.{AllByRecursion}

-- those before it are below the number, and the one there isn't
pub record IsPlaceOf (logs : List (ℕ × ℕ)) (number place : ℕ) : Type 0 where
  pub within : place ≤ length logs
  pub below : AllByRecursion (λ (log : ℕ × ℕ). log.0 < number) (take place logs)
  pub next : (d : ℕ × ℕ) → place < length logs → number ≤ (get_or logs place d).0
