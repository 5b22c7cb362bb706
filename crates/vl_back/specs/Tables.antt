-- A table that is spelled before it is written.
use Rattle.std.specs.Prelude.{◌≡◌, ◌≤◌, ℕ, true, List, length}
use Rattle.std.specs.Arc.{arc_value}
use Rattle.std.specs.List.{AllByRecursion}
use Rattle.vl_back.specs.declared.table.StagedTable.{StagedTable}
use Rattle.vl_table.specs.body.Bytes.{table_bytes}
use Rattle.vl_table.specs.body.Shapes.{IsShapeOf}
use Rattle.vl_model.specs.Entries.{in_order}
use Rattle.vl_model.specs.Formats.{table_format}
use Rattle.vl_model.specs.Keys.{is_key_length}
use Rattle.vl_model.specs.Limits.{max_inline_bytes}
use Rattle.vl_model.specs.declared.entry.Body.{Body}
use Rattle.vl_model.specs.declared.entry.Body.TheVariants.{Far, Gone, Inline, Logged}
use Rattle.vl_model.specs.declared.entry.Entry.{Entry}

-- The bytes are those of the table with this number and these entries, of which there is one, and
-- the shape is its.
pub record IsTableOf (number : ℕ) (es : List Entry) (t : StagedTable) : Type 0 where
  pub bytes : t.bytes.items ≡ table_bytes table_format number es
  pub format : (arc_value t.shape).format ≡ table_format
  pub shape : IsShapeOf number es (arc_value t.shape)

-- ---- entries of which there is a table

-- a body that a table may have, where its numbers fit their bytes: a short value, a deletion, or a pointer
abbrev pub IsSpellableBody : Body → Type 0
IsSpellableBody (Inline value) = length value.bytes ≤ max_inline_bytes
IsSpellableBody Gone = Unit {0}
IsSpellableBody (Far pointer) = Unit {0}
IsSpellableBody (Logged value pointer) = ⊥

-- likewise an entry
pub record IsSpellable (e : Entry) : Type 0 where
  pub key : is_key_length (length e.key) ≡ true
  pub body : IsSpellableBody e.body

-- entries that a table may have, of which there is one at least
pub record AreSpellable (es : List Entry) : Type 0 where
  pub some : 1 ≤ length es
  pub each : AllByRecursion IsSpellable es
  pub ordered : in_order es ≡ es
