-- Lists that rise by a number of each thing in them.
use Rattle.std.specs.Prelude.{ℕ, ◌<◌, nat_lt, if◌then◌else◌, List, [], ◌∷◌}
use Rattle.std.specs.List.{AllByRecursion}

-- a thing before the first that isn't below it
abbrev pub put_by : {X : Type 0} → (X → ℕ) → X → List X → List X
put_by key x [] = x ∷ []
put_by key x (y ∷ ys) = if nat_lt (key y) (key x) then y ∷ put_by key x ys else x ∷ y ∷ ys

abbrev pub IsRising : {X : Type 0} → (X → ℕ) → List X → Type 0
IsRising key [] = Unit {0}
IsRising key (x ∷ xs) = AllByRecursion (λ y. key x < key y) xs × IsRising key xs
