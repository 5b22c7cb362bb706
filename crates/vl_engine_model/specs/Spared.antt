-- Which versions of a key may be lost to those who read its past.
use Rattle.std.specs.Prelude.{◌≡◌, ◌≤◌, ◌<◌, ◌+◌, ◌⊎◌, ℕ, List, Option, None, Some, true, false}
use Rattle.vl_model.specs.Numbers.{has, nth_below}

-- it is passed by this number
abbrev pub Passes : ℕ → Option ℕ → Type 0
Passes m None = ⊥
Passes m (Some w) = m < w

-- Of all these versions up to a number, one that isn't left is at most since, or is passed by so many that are left and are at
-- most the floor.
abbrev pub AreSpared : (all left : List ℕ) → (to floor keep since : ℕ) → Type 0
AreSpared all left to floor keep since = (n : ℕ) → n ≤ to → has n all ≡ true → has n left ≡ false
    → (n ≤ since) ⊎ Passes n (nth_below left (floor + 1) keep)
