use Rattle.std.proofs.Common.{◌∙◌, ap, sym, [], append-nil}
use Rattle.std.specs.List.{sum_by}
use Rattle.vl_model.specs.Formats.{table_format}
use Rattle.vl_model.specs.Cutting.{block_frame_length, blocks}
use Rattle.vl_table.proofs.writer.table_writer.TableWriter.block_bytes.Goals as goal

pub returns : goal.returns
returns c = λ number es given is.
    c.bytes.ensures is.closed is.open_block is.has
    ∙ ap (sum_by (block_frame_length table_format)) (sym (ap (blocks table_format) (sym (append-nil es)) ∙ is.cut []))
