-- Where the tables that a merge makes are put.
use Rattle.std.specs.Prelude.{◌≡◌, ◌≤◌, ◌<◌, ℕ, ◌+◌, suc, Bool, true, if◌then◌else◌, List, [], ◌∷◌, ◌++◌, length, map}
use Rattle.std.specs.Prelude.{take, drop, Option, Some, None}
use Rattle.std.specs.List.{flat_map}
use Rattle.std.specs.Option.{option_map}
use Rattle.std.specs.Ordering.{is_lt}
use Rattle.vl_model.specs.Keys.{key_cmp}
use Rattle.vl_engine_model.specs.Levels.{at_level, is_among, is_before, level_at, replaced, without}
use Rattle.vl_engine_model.specs.OpenJobs.{IsIdle}
use Rattle.vl_engine_model.specs.declared.job.Target.{Target}
use Rattle.vl_engine_model.specs.declared.job.Target.TheVariants.{InPlace, Level}
use Rattle.vl_engine_model.specs.declared.table.Table.{Table}

-- ---- the place

-- how many of these come before the new tables, by their last keys
abbrev pub count_before : List Table → List Table → ℕ
count_before new [] = 0
count_before new (t ∷ ts) = if is_before t new then count_before new ts + 1 else 0

-- where the first of the inputs stands among these
abbrev pub index_of : List ℕ → List Table → Option ℕ
index_of inputs [] = None
index_of inputs (t ∷ ts) = if is_among inputs t then Some 0 else option_map (λ n. n + 1) (index_of inputs ts)

abbrev pub found_at : ℕ → Option ℕ → ℕ × ℕ → ℕ × ℕ
found_at level None deeper = deeper
found_at level (Some position) deeper = (level, position)

-- and where in levels, of which the first has this number
abbrev pub place_from : ℕ → List ℕ → List (List Table) → ℕ × ℕ
place_from level inputs [] = (level, 0)
place_from level inputs (ts ∷ deeper) = found_at level (index_of inputs ts) (place_from (level + 1) inputs deeper)

-- The level and the position: in key order among the tables of a level that are no inputs, or where the one input stands.
abbrev pub place_of : Target → List ℕ → List Table → List (List Table) → ℕ × ℕ
place_of (Level n) inputs new levels = (n, count_before new (without inputs (level_at n levels)))
place_of InPlace inputs new levels = place_from 0 inputs levels

-- ---- before the new tables are known

-- the first key of these tables, where there are any
abbrev pub first_key : List Table → Option (List ℕ)
first_key [] = None
first_key (t ∷ ts) = Some t.first

-- the table ends before this key; each does where there is none
abbrev pub ends_before : Option (List ℕ) → Table → Bool
ends_before None t = true
ends_before (Some key) t = is_lt (key_cmp t.last key)

-- how many of these come before new tables that begin with this key
abbrev pub place_before : Option (List ℕ) → List Table → ℕ
place_before first [] = 0
place_before first (t ∷ ts) = if ends_before first t then suc (place_before first ts) else 0

-- where the first of the inputs stands in levels, of which the first has this number; the front, where none does
abbrev pub input_from : ℕ → List ℕ → List (List Table) → ℕ × ℕ
input_from level inputs [] = (0, 0)
input_from level inputs (ts ∷ deeper) = found_at level (index_of inputs ts) (input_from (level + 1) inputs deeper)

-- ---- what is put there

-- these tables put among those of a level at a position
abbrev pub put_at : ℕ → List Table → List Table → List Table
put_at position new ts = take position ts ++ (new ++ drop position ts)

-- the levels, to one of which they are put
abbrev pub put_in : ℕ → ℕ → List Table → List (List Table) → List (List Table)
put_in level position new levels = at_level level (put_at position new) levels

-- there is such a level, or the one input stands somewhere
abbrev pub HasPlace : Target → List ℕ → List (List Table) → Type 0
HasPlace (Level n) inputs levels = n < length levels
HasPlace InPlace inputs levels = (xs : List Table) × (t : Table) × (ys : List Table)
    × (flat_map (λ level. level) levels ≡ xs ++ t ∷ ys)
    × (IsIdle inputs xs × ((is_among inputs t ≡ true) × IsIdle inputs ys))

-- The place of tables that begin with this key and take that of the inputs: there they are put among the tables that
-- aren't inputs.
pub record IsPlace (target : Target) (inputs : List ℕ) (first : Option (List ℕ)) (levels : List (List Table))
    (level position : ℕ) : Type 0 where
  pub is : (new : List Table) → first_key new ≡ first → place_of target inputs new levels ≡ (level, position)
  pub there : level < length levels
  pub within : position ≤ length (without inputs (level_at level levels))
  pub puts : (new : List Table) → first_key new ≡ first
      → replaced target inputs new levels ≡ put_in level position new (map (without inputs) levels)
