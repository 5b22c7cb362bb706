-- The versions of a key in a history, and from which number on it can be read.
use Rattle.std.specs.Prelude.{ℕ, ◌+◌, nat_le, is_some, List, [], ◌∷◌, ◌++◌, map}
use Rattle.std.specs.List.{filter}
use Rattle.std.specs.FinMap.{get, entries}
use Rattle.std.specs.Ordering.{eq_by_cmp}
use Rattle.vl_model.specs.Keys.{Writes, key_cmp}
use Rattle.vl_model.specs.History.{History}
use Rattle.vl_model.specs.declared.entry.Entry.{Entry}
use Rattle.vl_model.specs.Numbers.{low_of}

-- a commit with its number
abbrev pub Numbered : Type 0
Numbered = ℕ × Writes

-- these commits with their numbers, of which this is the first
abbrev pub numbered : ℕ → List Writes → List Numbered
numbered number [] = []
numbered number (writes ∷ later) = (number, writes) ∷ numbered (number + 1) later

-- all that is known of versions, those of the base first
abbrev pub all_numbered : History → List Numbered
all_numbered h =
    filter (λ (c : Numbered). nat_le c.0 h.first) (entries h.base) ++ numbered (h.first + 1) h.commits

-- the numbers of those that name the key
abbrev pub naming : List ℕ → List Numbered → List ℕ
naming key cs = map (λ (c : Numbered). c.0) (filter (λ (c : Numbered). is_some (get c.1 key)) cs)

-- the numbers of a key's versions
abbrev pub versions : History → List ℕ → List ℕ
versions h key = naming key (all_numbered h)

-- the least number at which the key can be read
abbrev pub low : History → ℕ → ℕ → ℕ → List ℕ → ℕ
low h floor keep since key = low_of (versions h key) floor keep since

-- the versions of a key among entries
abbrev pub versions_in : List Entry → List ℕ → List ℕ
versions_in es key =
    map (λ (e : Entry). e.version) (filter (λ (e : Entry). eq_by_cmp key_cmp key e.key) es)
