-- Levels made of the tables that were read for each.
use Rattle.std.specs.Prelude.{◌≡◌, ◌≤◌, ℕ, List, [], ◌∷◌, length, map, slice_index_or, Vec}
use Rattle.std.specs.List.{remove}
use Rattle.std.proofs.Common.{ap, arith, Global, ◌∙◌}
use Rattle.vl_engine_laws.specs.Found.{AreLeveled}
use Rattle.vl_table.specs.declared.table.Table.{Table}
use Rattle.vl_version.specs.declared.levels.Levels.{Levels}

-- the first are level 0's, and the others the levels' below it
pub leveled : {H : Type 0} (tables : List (Vec (Table H) Global)) (newest : Vec (Table H) Global)
    (others : List (Vec (Table H) Global)) (made : Levels H) → 1 ≤ length tables
    → newest ≡ slice_index_or tables 0 newest → others ≡ remove tables 0
    → made.newest ≡ newest → made.deeper.items ≡ map (λ (v : Vec (Table H) Global). v.items) others → AreLeveled tables made
leveled [] newest others made some first rest newest_is deeper_is = absurd (omega (arith, some))
leveled {H} (v ∷ vs) newest others made some first rest newest_is deeper_is =
    (newest_is ∙ first, deeper_is ∙ ap (map (λ (v : Vec (Table H) Global). v.items)) rest)
