-- The rest of a table that is written to its end.
use Rattle.std.specs.Prelude.{◌≡◌, ℕ, List, ◌++◌}
use Rattle.byteorder.specs.Endian.{big_bytes}
use Rattle.vl_model.specs.Formats.{table_format}
use Rattle.vl_model.specs.declared.entry.Entry.{Entry}
use Rattle.vl_table.specs.body.Bytes.{blocks_bytes, filter_bytes, footer_bytes, footer_place, index_bytes, table_header}
use Rattle.vl_model.specs.Cutting.{blocks}
use Rattle.vl_table.specs.body.Shapes.{IsShapeOf}
use Rattle.vl_table.specs.declared.writer.tail.Tail.{Tail}

-- the pieces, one behind the other
abbrev pub tail_bytes : Tail → List ℕ
tail_bytes t = t.block.items ++ (t.index.items ++ (t.filter.items ++ (t.footer.items ++ t.place)))

-- These are the last pieces of the table with this number and these entries, of which these bytes were given out before: the
-- block completes header and blocks, and the others are what they are called. There is such a table, and the shape is its.
pub record IsTail (t : Tail) (number : ℕ) (es : List Entry) (given : List ℕ) : Type 0 where
  pub block : given ++ t.block.items
      ≡ table_header table_format number ++ blocks_bytes table_format number 16 (blocks table_format es)
  pub index : t.index.items ≡ index_bytes table_format number (blocks table_format es)
  pub filter : t.filter.items ≡ filter_bytes table_format number es (blocks table_format es)
  pub footer : t.footer.items ≡ footer_bytes table_format number es (blocks table_format es)
  pub place : t.place ≡ big_bytes 8 (footer_place table_format es (blocks table_format es))
  pub written : t.shape.format ≡ table_format
  pub shape : IsShapeOf number es t.shape
