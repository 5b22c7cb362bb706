use Rattle.std.proofs.Common.{arith}
use Rattle.vl_model.specs.Formats.{table_format}
use Rattle.vl_table.specs.laws.Lengths.{length-block_body}
use Rattle.vl_table.proofs.Written.{sum-push}
use Rattle.vl_table.proofs.writer.blocks_writer.BlocksWriter.bytes.Goals as goal

pub returns : goal.returns
returns c = λ closed open_block has.
    omega (
      arith,
      has.place,
      c.len.ensures.exact open_block has.written,
      length-block_body table_format open_block,
      sum-push closed open_block,
    )
