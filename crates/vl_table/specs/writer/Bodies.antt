-- What a block that is being written has.
use Rattle.vl_model.specs.Formats.{table_format}
use Rattle.std.specs.Prelude.{◌≡◌, ◌∷◌, List, length}
use Rattle.vl_model.specs.declared.entry.Entry.{Entry}
use Rattle.vl_table.specs.declared.writer.block_writer.BlockWriter.{BlockWriter}
use Rattle.vl_table.specs.body.Blocks.{block_body}

-- the writer has the body of a block with these entries, behind room for the head of its frame
pub record HasBody (writer : BlockWriter) (es : List Entry) : Type 0 where
  pub count : writer.count ≡ length es
  pub frame : writer.frame.items ≡ 0 ∷ 0 ∷ 0 ∷ 0 ∷ 0 ∷ block_body table_format es
