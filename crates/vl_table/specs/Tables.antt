-- Which entries a table has.
use Rattle.std.specs.Prelude.{◌≡◌, ℕ, List, Option, Some, Result, Ok, Err}
use Rattle.std.specs.Arc.{arc_value}
use Rattle.vl_disk.specs.declared.name.Name.{Name}
use Rattle.vl_model.specs.declared.entry.Entry.{Entry}
use Rattle.vl_table.specs.body.Bytes.{table_bytes}
use Rattle.vl_table.specs.body.Shapes.{IsShapeOf}
use Rattle.vl_table.specs.declared.body.shape.TableShape.{TableShape}
use Rattle.vl_disk.specs.declared.read_fault.ReadFault.{ReadFault}
use Rattle.vl_disk.specs.declared.read_fault.ReadFault.TheVariants.{NoMemory, Disk, Damaged}
use Rattle.vl_table.specs.declared.table.Table.{Table}

module _ {H : Type 0} where
  -- what is known of a table beside its blocks
  abbrev pub shape_of : Table H → TableShape
  shape_of t = arc_value t.shape

  abbrev pub number_of : Table H → ℕ
  number_of t = (shape_of t).number

  -- The table is the one of these entries: its file has their bytes, and its shape is theirs.
  pub record IsOf (bytes_of : H → Option (List ℕ)) (t : Table H) (es : List Entry) : Type 0 where
    pub shape : IsShapeOf (number_of t) es (shape_of t)
    pub told : bytes_of t.held ≡ Some (table_bytes (shape_of t).format (number_of t) es)

  -- two tables are one: they have one shape, and files of one name with the same bytes
  pub record AreSame (bytes_of : H → Option (List ℕ)) (size_of : H → ℕ) (name_of : H → Name) (t u : Table H) : Type 0 where
    pub shape : shape_of u ≡ shape_of t
    pub bytes : bytes_of u.held ≡ bytes_of t.held
    pub size : size_of u.held ≡ size_of t.held
    pub named : name_of u.held ≡ name_of t.held

  -- a true table is opened as what it is, and never damaged
  abbrev pub OpensAs : (H → Option (List ℕ)) → List Entry → Result (Table H) ReadFault → Type 0
  OpensAs bytes_of es (Ok t) = IsOf bytes_of t es
  OpensAs bytes_of es (Err NoMemory) = Unit {0}
  OpensAs bytes_of es (Err (Disk name)) = Unit {0}
  OpensAs bytes_of es (Err (Damaged name place)) = ⊥
