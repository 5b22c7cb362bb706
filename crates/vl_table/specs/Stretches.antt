-- How a way goes through a stretch of a list.
use Rattle.std.specs.Prelude.{◌≡◌, ◌+◌, ◌-◌, ◌<◌, ℕ, List, drop, reverse, take}
use Rattle.vl_model.specs.declared.way.Way.{Way}
use Rattle.vl_model.specs.declared.way.Way.TheVariants.{Up, Down}
use Rattle.vl_table.specs.declared.stretch.Stretch.{Stretch}

-- a list as a way goes through it
abbrev pub on_way : {X : Type 0} → Way → List X → List X
on_way Up xs = xs
on_way Down xs = reverse xs

-- what stands at these positions of a list
abbrev pub stretch_of : {X : Type 0} → Stretch → List X → List X
stretch_of s xs = take (s.end - s.first) (drop s.first xs)

-- this is the next position of a stretch, and this is what stays of it
abbrev pub IsNextOn : Way → Stretch → ℕ → Stretch → Type 0
IsNextOn Up s at rest = (s.first < s.end) × (at ≡ s.first) × (rest ≡ record { first = s.first + 1; end = s.end })
IsNextOn Down s at rest = (s.first < s.end) × (at + 1 ≡ s.end) × (rest ≡ record { first = s.first; end = at })
