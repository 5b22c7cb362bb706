-- The keys of a commit, noted with its number.
use Rattle.std.specs.Prelude.{ℕ, List, [], ◌∷◌, map}
use Rattle.std.specs.FinMap.{put}
use Rattle.vl_model.specs.Conflicts.{Named}
use Rattle.vl_model.specs.Keys.{key_cmp}
use Rattle.vl_model.specs.declared.change.Change.{Change}

abbrev pub keys_of : List (List ℕ × Change) → List (List ℕ)
keys_of writes = map (λ (write : List ℕ × Change). write.0) writes

-- what is noted, with these keys one after the other
abbrev pub noted_keys : ℕ → List (List ℕ) → List Named → List Named
noted_keys number [] named = named
noted_keys number (key ∷ later) named = noted_keys number later (put key_cmp key number named)
