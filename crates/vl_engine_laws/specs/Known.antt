-- Entries whose versions are commits' numbers.
use Rattle.std.specs.Prelude.{ℕ, Bool, true, ◌&&◌, nat_le, List, [], ◌∷◌}
use Rattle.vl_model.specs.declared.entry.Entry.{Entry}

-- no version is above this number
abbrev pub are_known : ℕ → List Entry → Bool
are_known last [] = true
are_known last (e ∷ es) = nat_le e.version last && are_known last es
