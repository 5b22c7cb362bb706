-- Whether there is something to merge, by what is known of tables beside their blocks: whatever stands in these.
use Rattle.std.specs.Prelude.{ℕ, ◌+◌, ◌==◌, Bool, true, false, ◌&&◌, ◌||◌, nat_le, nat_lt, if◌then◌else◌, List, [], ◌∷◌, length}
use Rattle.std.specs.List.{list_any, sum_by}
use Rattle.vl_engine_model.specs.Levels.{due_tables, level_bytes}
use Rattle.vl_model.specs.declared.point.Point.{Point}
use Rattle.vl_table.specs.Tables.{shape_of}
use Rattle.vl_table.specs.declared.table.Table.{Table}

module _ {H : Type 0} where
  -- how long the files of these tables are
  abbrev pub file_bytes : (H → ℕ) → List (Table H) → ℕ
  file_bytes size ts = sum_by (λ (t : Table H). size t.held) ts

  -- A level is due with these tables, as one of a layout is.
  abbrev pub is_full : (H → ℕ) → ℕ → List (Table H) → Bool
  is_full size level ts =
      if level == 0 then nat_le due_tables (length ts)
      else (nat_le level 5 && nat_lt (level_bytes level) (file_bytes size ts))

  -- so one of these levels is, of which the first has this number
  abbrev pub has_due : (H → ℕ) → ℕ → List (List (Table H)) → Bool
  has_due size level [] = false
  has_due size level (ts ∷ deeper) = is_full size level ts || has_due size (level + 1) deeper

  -- The table leads into a segment, by its footer.
  abbrev pub leads_into : ℕ → Table H → Bool
  leads_into segment t = list_any (λ (p : Point). p.segment == segment) (shape_of t).footer.points.items

  -- so one of these tables does
  abbrev pub has_leading : ℕ → List (Table H) → Bool
  has_leading segment [] = false
  has_leading segment (t ∷ ts) = leads_into segment t || has_leading segment ts
