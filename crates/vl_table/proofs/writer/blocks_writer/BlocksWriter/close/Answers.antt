use Rattle.vl_model.specs.Formats.{table_format}
use Rattle.std.proofs.Common.{◌+◌, ◌∷◌, ◌++◌, [], ap, sym, ◌∙◌, arith}
use Rattle.std.specs.List.{sum_by}
use Rattle.vl_model.specs.Cutting.{block_frame_length, last_key}
use Rattle.vl_table.specs.body.Bytes.{block_places}
use Rattle.vl_table.specs.laws.Lengths.{length-block_body}
use Rattle.vl_table.proofs.Written.{places-push, places_alike, sum-push}
use Rattle.vl_table.proofs.writer.blocks_writer.BlocksWriter.close.Goals as goal

pub returns-clause-blocks : goal.returns-clause-blocks
returns-clause-blocks c = λ closed open_block has last.
    let size = c.in_ok-length.length in
    let long = c.in_ok-length.ensures.length open_block has.written in
    record {
      place = omega (arith, has.place, sum-push closed open_block, length-block_body table_format open_block, long);
      written = c.in_ok-length.ensures.begun;
      places =
          c.in_ok-push.ensures.items
          ∙ ap (λ l. l ++ record { place = c.args.self.now.place; length = size; last = c.in_ok-share.field-0 } ∷ []) has.places
          ∙ places_alike (block_places table_format 16 closed) c.args.self.now.place
          (16 + sum_by (block_frame_length table_format) closed) size (block_frame_length table_format open_block)
          c.in_ok-share.field-0 (last_key open_block)
          has.place (omega (arith, length-block_body table_format open_block, long)) (c.in_ok-share.ensures ∙ last)
          ∙ sym (places-push 16 closed open_block);
    }

pub returns-then-self-length-clause-too_long : goal.returns-then-self-length-clause-too_long
returns-then-self-length-clause-too_long c = λ closed open_block has is.
    let long = c.in_ok-length.ensures.length open_block has.written in
    omega (
      arith,
      c.if-self-length.true,
      has.place,
      sum-push closed open_block,
      length-block_body table_format open_block,
      long,
    )
