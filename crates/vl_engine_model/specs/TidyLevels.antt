-- What an engine keeps of its levels: there are seven, no table stands twice, footers tell true ranges, and
-- those of a deeper level lie apart.
use Rattle.std.specs.Prelude.{◌≡◌, ◌≢◌, ℕ, ◌+◌, ◌<◌, true, false, List, [], ◌∷◌, length}
use Rattle.std.specs.List.{AllByRecursion, flat_map}
use Rattle.std.specs.Ordering.{is_lt}
use Rattle.vl_model.specs.Keys.{key_cmp}
use Rattle.vl_model.specs.Limits.{max_level}
use Rattle.vl_model.specs.declared.entry.Entry.{Entry}
use Rattle.vl_engine_model.specs.Levels.{level_at}
use Rattle.vl_engine_model.specs.declared.table.Table.{Table}

-- the one key isn't above the other
abbrev pub Le : List ℕ → List ℕ → Type 0
Le a b = is_lt (key_cmp b a) ≡ false

-- the table's keys lie in the range that its footer tells
abbrev pub IsRanged : Table → Type 0
IsRanged t = AllByRecursion (λ (e : Entry). Le t.first e.key × Le e.key t.last) t.entries

-- nor is its first key above its last one
abbrev pub IsWide : Table → Type 0
IsWide t = Le t.first t.last

-- no number stands twice
abbrev pub IsDistinct : List Table → Type 0
IsDistinct [] = Unit {0}
IsDistinct (t ∷ ts) = AllByRecursion (λ (u : Table). u.number ≢ t.number) ts × IsDistinct ts

-- each table ends before those behind it begin
abbrev pub IsApart : List Table → Type 0
IsApart [] = Unit {0}
IsApart (t ∷ ts) = AllByRecursion (λ (u : Table). is_lt (key_cmp t.last u.first) ≡ true) ts × IsApart ts

pub record AreLevels (levels : List (List Table)) : Type 0 where
  pub distinct : IsDistinct (flat_map (λ ts. ts) levels)
  pub ranged : AllByRecursion IsRanged (flat_map (λ ts. ts) levels)
  pub wide : AllByRecursion IsWide (flat_map (λ ts. ts) levels)
  -- the levels below level 0
  pub apart : (n : ℕ) → 0 < n → IsApart (level_at n levels)
  pub seven : length levels ≡ max_level + 1
