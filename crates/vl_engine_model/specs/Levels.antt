-- The levels of tables: which is due, what is merged, and where the tables that a merge makes are
-- put.
use Rattle.std.specs.Prelude.{ℕ, ◌+◌, ◌-◌, ◌*◌, ◌^◌, ◌==◌, Bool, true, false, ◌&&◌, not, nat_le, nat_lt}
use Rattle.std.specs.Prelude.{if◌then◌else◌, List, [], ◌∷◌, ◌++◌, length, map, Option, Some, None}
use Rattle.std.specs.List.{filter, flat_map, sum_by, list_any}
use Rattle.std.specs.Ordering.{is_lt}
use Rattle.vl_model.specs.Keys.{key_cmp}
use Rattle.vl_engine_model.specs.declared.job.Target.{Target}
use Rattle.vl_engine_model.specs.declared.job.Target.TheVariants.{Level, InPlace}
use Rattle.vl_model.specs.declared.point.Point.{Point}
use Rattle.vl_engine_model.specs.declared.table.Table.{Table}

-- the tables of a level
abbrev pub level_at : ℕ → List (List Table) → List Table
level_at n [] = []
level_at n (level ∷ deeper) = if n == 0 then level else level_at (n - 1) deeper

-- a level changed, the others as they are
abbrev pub at_level : ℕ → (List Table → List Table) → List (List Table) → List (List Table)
at_level n change [] = []
at_level n change (level ∷ deeper) =
    if n == 0 then change level ∷ deeper else level ∷ at_level (n - 1) change deeper

abbrev pub in_front : Table → List (List Table) → List (List Table)
in_front t levels = at_level 0 (λ level. t ∷ level) levels

-- ---- what is due

-- so many tables make level 0 due
abbrev pub due_tables : ℕ
due_tables = 4

-- the bytes of table files that a deeper level may have without being due
abbrev pub level_bytes : ℕ → ℕ
level_bytes level = 4194304 * 10 ^ (level - 1)

-- the deepest level is never due
abbrev pub is_due : ℕ → List Table → Bool
is_due level ts =
    if level == 0 then nat_le due_tables (length ts)
    else (nat_le level 5 && nat_lt (level_bytes level) (sum_by (λ (t : Table). t.length) ts))

-- of these levels, of which the first has this number, the least that is due
abbrev pub due_from : ℕ → List (List Table) → Option ℕ
due_from level [] = None
due_from level (ts ∷ deeper) = if is_due level ts then Some level else due_from (level + 1) deeper

-- ---- what is merged

abbrev pub lesser_key : List ℕ → List ℕ → List ℕ
lesser_key a b = if is_lt (key_cmp b a) then b else a

abbrev pub greater_key : List ℕ → List ℕ → List ℕ
greater_key a b = if is_lt (key_cmp a b) then b else a

-- from the least to the greatest key of some tables, where there are any
abbrev pub Range : Type 0
Range = List ℕ × List ℕ

abbrev pub widened : Table → Option Range → Option Range
widened t None = Some (t.first, t.last)
widened t (Some range) = Some (lesser_key t.first range.0, greater_key t.last range.1)

abbrev pub range_of : List Table → Option Range
range_of [] = None
range_of (t ∷ ts) = widened t (range_of ts)

-- the table's range and this one have a key in common
abbrev pub meets : Option Range → Table → Bool
meets None t = false
meets (Some range) t = not (is_lt (key_cmp t.last range.0)) && not (is_lt (key_cmp range.1 t.first))

abbrev pub lesser_table : Table → Option Table → Option Table
lesser_table t None = Some t
lesser_table t (Some u) = if nat_lt u.number t.number then Some u else Some t

-- the table with the least number
abbrev pub least_table : List Table → Option Table
least_table [] = None
least_table (t ∷ ts) = lesser_table t (least_table ts)

abbrev pub one_or_none : Option Table → List Table
one_or_none None = []
one_or_none (Some t) = t ∷ []

-- what a level that is due gives: level 0 all its tables, a deeper one the table with the least
-- number
abbrev pub due_inputs : ℕ → List Table → List Table
due_inputs level ts = if level == 0 then ts else one_or_none (least_table ts)

-- tables, and those of the next level that meet their range
abbrev pub with_next : List Table → List Table → List Table
with_next ts next = ts ++ filter (meets (range_of ts)) next

-- the inputs of a merge of this level into the next one, in the order of the sources
abbrev pub inputs_at : ℕ → List (List Table) → List Table
inputs_at level levels = with_next (due_inputs level (level_at level levels)) (level_at (level + 1) levels)

abbrev pub has_point : ℕ → Table → Bool
has_point segment t = list_any (λ (p : Point). p.segment == segment) t.points

-- the first of these tables that leads into a segment
abbrev pub first_into : ℕ → List Table → Option Table
first_into segment [] = None
first_into segment (t ∷ ts) = if has_point segment t then Some t else first_into segment ts

-- ---- where the outputs are put

abbrev pub is_among : List ℕ → Table → Bool
is_among numbers t = list_any (λ number. number == t.number) numbers

abbrev pub is_before : Table → List Table → Bool
is_before t [] = true
is_before t (u ∷ us) = is_lt (key_cmp t.last u.first)

-- tables in key order among those of a level, where none of these overlaps
abbrev pub in_key_order : List Table → List Table → List Table
in_key_order new [] = new
in_key_order new (t ∷ ts) = if is_before t new then t ∷ in_key_order new ts else new ++ t ∷ ts

abbrev pub without : List ℕ → List Table → List Table
without numbers ts = filter (λ t. not (is_among numbers t)) ts

-- the levels with tables in the place of the inputs
abbrev pub replaced : Target → List ℕ → List Table → List (List Table) → List (List Table)
replaced (Level n) inputs new levels = at_level n (in_key_order new) (map (without inputs) levels)
replaced InPlace inputs new levels =
    map (flat_map (λ t. if is_among inputs t then new else t ∷ [])) levels
