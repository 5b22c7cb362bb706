-- What a table's shape and file say of the layout's table.
use Rattle.std.specs.Prelude.{ℕ, List, Option, Some, length}
use Rattle.std.proofs.Common.{◌≡◌, ◌∙◌, ap, sym, subst}
use Rattle.vl_table.specs.body.Bytes.{table_bytes}
use Rattle.vl_model.specs.Cutting.{table_length}
use Rattle.vl_table.specs.body.Footer.{Foot}
use Rattle.vl_table.specs.body.Shapes.{IsShapeOf}
use Rattle.vl_table.specs.declared.body.shape.TableShape.{TableShape}
use Rattle.vl_table.specs.laws.Lengths.{length-table_bytes}
use Rattle.vl_compact.specs.Laid.{IsTableOf}
use Rattle.vl_disk.specs.declared.name.Name.{Name}
use Rattle.vl_engine_model.specs.declared.table.Table as laid
use Rattle.vl_table.specs.Tables.{AreSame, number_of, shape_of}
use Rattle.vl_table.specs.declared.table.Table.{Table}

module _ {H : Type 0} (bytes : H → Option (List ℕ)) where
  pub first_is : (table : Table H) (t : laid.Table) → IsTableOf bytes table t → (shape_of table).footer.first ≡ t.first
  first_is table t is =
      ap (λ (f : Foot). f.head.first) is.of.shape.foot ∙ sym (ap (λ (u : laid.Table). u.first) is.true_table)

  pub last_is : (table : Table H) (t : laid.Table) → IsTableOf bytes table t → (shape_of table).footer.last ≡ t.last
  last_is table t is =
      ap (λ (f : Foot). f.head.last) is.of.shape.foot ∙ sym (ap (λ (u : laid.Table). u.last) is.true_table)

  pub points_are : (table : Table H) (t : laid.Table) → IsTableOf bytes table t → (shape_of table).footer.points.items ≡ t.points
  points_are table t is =
      ap (λ (f : Foot). f.points) is.of.shape.foot ∙ sym (ap (λ (u : laid.Table). u.points) is.true_table)

  pub length_is : (size_of : H → ℕ) → ((held : H) (all : List ℕ) → bytes held ≡ Some all → length all ≡ size_of held)
      → (table : Table H) (t : laid.Table) → IsTableOf bytes table t → size_of table.held ≡ t.length
  length_is size_of sized table t is =
      sym (sized table.held (table_bytes (shape_of table).format (number_of table) t.entries) is.of.told)
      ∙ length-table_bytes (shape_of table).format (number_of table) t.entries
      ∙ ap (λ (format : ℕ). table_length format t.entries) is.format
      ∙ sym (ap (λ (u : laid.Table). u.length) is.true_table)

  -- a table that is shared is the same one
  pub shared_is : (size_of : H → ℕ) (name_of : H → Name) (table copy : Table H) (t : laid.Table)
      → AreSame bytes size_of name_of table copy → IsTableOf bytes table t → IsTableOf bytes copy t
  shared_is size_of name_of table copy t same is = record {
    of = record {
      shape = subst (λ (s : TableShape). IsShapeOf s.number t.entries s) (sym same.shape) is.of.shape;
      told = same.bytes ∙ is.of.told ∙ ap (λ (s : TableShape). Some (table_bytes s.format s.number t.entries)) (sym same.shape);
    };
    number = ap (λ (s : TableShape). s.number) same.shape ∙ is.number;
    format = ap (λ (s : TableShape). s.format) same.shape ∙ is.format;
    true_table = is.true_table;
  }
