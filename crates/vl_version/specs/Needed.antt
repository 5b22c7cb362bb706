-- Which sealed logs a version needs, and which of them it holds behind a switch.
use Rattle.std.specs.Prelude.{ℕ, ◌==◌, ◌||◌, nat_lt, not, Bool, List, ◌∷◌, Option, Some, None}
use Rattle.std.specs.List.{list_any}
use Rattle.vl_model.specs.declared.point.Point.{Point}
use Rattle.vl_memtable.specs.declared.frozen_log.FrozenLog.{FrozenLog}
use Rattle.vl_model.specs.Numbers.{has}
use Rattle.vl_seglog.specs.declared.sealed.SealedLog.{SealedLog}
use Rattle.vl_table.specs.Tables.{shape_of}
use Rattle.vl_table.specs.declared.table.Table.{Table}
use Rattle.vl_version.specs.Oldest.{oldest_frozen}
use Rattle.vl_version.specs.declared.levels.Levels.{Levels}

abbrev pub number_or : ℕ → Option FrozenLog → ℕ
number_or active None = active
number_or active (Some log) = log.number

-- the least log whose memtable isn't flushed, where the active one has this number
abbrev pub head_of : ℕ → List FrozenLog → ℕ
head_of active frozen = number_or active (oldest_frozen frozen)

module _ {H : Type 0} where
  -- the table leads into the segment, as its footer says it
  abbrev pub leads_into : ℕ → Table H → Bool
  leads_into segment t = list_any (λ (p : Point). p.segment == segment) (shape_of t).footer.points.items

  -- one of these tables does, or one of these levels has such a table
  abbrev pub lead_into : ℕ → List (Table H) → Bool
  lead_into segment ts = list_any (leads_into segment) ts

  abbrev pub levels_into : ℕ → Levels H → Bool
  levels_into segment levels = list_any (lead_into segment) (levels.newest.items ∷ levels.deeper.items)

  -- A log is needed from head on, and where a table leads into it.
  abbrev pub is_needed : (head : ℕ) → Levels H → ℕ → Bool
  is_needed head levels number = not (nat_lt number head) || levels_into number levels

  -- of the logs with these numbers those stay that are needed, and all others
  abbrev pub is_kept : (idle : List ℕ) → (head : ℕ) → Levels H → SealedLog H → Bool
  is_kept idle head levels log = not (has log.number idle) || is_needed head levels log.number
