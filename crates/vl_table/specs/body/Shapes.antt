-- What a table says of itself beside its blocks, and what the table of some entries says.
use Rattle.std.specs.Prelude.{◌≡◌, ℕ, List}
use Rattle.vl_model.specs.declared.entry.Entry.{Entry}
use Rattle.vl_table.specs.body.Bytes.{IsTable, block_places, filter_bits, foot, footer_place}
use Rattle.vl_model.specs.Cutting.{blocks}
use Rattle.vl_table.specs.body.Footer.{foot_of}
use Rattle.vl_table.specs.declared.body.shape.TableShape.{TableShape}

-- The shape is that of the table with this number and these entries, of which there is one in the shape's format.
pub record IsShapeOf (number : ℕ) (es : List Entry) (s : TableShape) : Type 0 where
  pub numbered : s.number ≡ number
  pub table : IsTable s.format number es
  pub foot : foot_of s.footer ≡ foot s.format es (blocks s.format es)
  pub place : s.footer_place ≡ footer_place s.format es (blocks s.format es)
  pub blocks : s.blocks.items ≡ block_places s.format 16 (blocks s.format es)
  pub filter : s.filter.items ≡ filter_bits s.format es
