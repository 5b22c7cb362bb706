-- What is taken of those in a list that pass a test is taken of one part behind another.
use Rattle.std.proofs.Common.{◌≡◌, Bool, List, ◌++◌, map, ap, ◌∙◌}
use Rattle.std.proofs.lemmas.List.{map-append}
use Rattle.std.proofs.lemmas.List.Elements.{filter-append}
use Rattle.std.specs.List.{filter}

pub map-some : {X Y : Type 0} (f : X → Y) (p : X → Bool) (xs ys : List X)
    → map f (filter p (xs ++ ys)) ≡ map f (filter p xs) ++ map f (filter p ys)
map-some f p xs ys = ap (map f) (filter-append p xs ys) ∙ map-append f (filter p xs) (filter p ys)
