-- Entries of sources, each with whether it is of one of some tables.
use Rattle.std.specs.Prelude.{ℕ, Bool, true, false, not, if◌then◌else◌, List, [], ◌∷◌, map}
use Rattle.vl_model.specs.Entries.{is_at}
use Rattle.vl_model.specs.declared.entry.Entry.{Entry}

abbrev pub Marked : Type 0
Marked = Bool × Entry

abbrev pub all_of : List Marked → List Entry
all_of ms = map (λ (m : Marked). m.1) ms

abbrev pub unless_marked : Bool → Entry → List Entry → List Entry
unless_marked true e es = es
unless_marked false e es = e ∷ es

-- the entries of the other sources
abbrev pub outside_of : List Marked → List Entry
outside_of [] = []
outside_of (m ∷ ms) = unless_marked m.0 m.1 (outside_of ms)

-- the first of these that is of the key and version isn't marked
abbrev pub is_first_outside : List Marked → List ℕ → ℕ → Bool
is_first_outside [] key version = false
is_first_outside (m ∷ ms) key version = if is_at key version m.1 then not m.0 else is_first_outside ms key version
