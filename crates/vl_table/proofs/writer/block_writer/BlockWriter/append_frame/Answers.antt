use Rattle.vl_model.specs.Formats.{table_format}
use Rattle.std.proofs.Common.{◌∙◌, [], ◌∷◌, ◌++◌, ap, refl, length}
use Rattle.vl_frame.specs.laws.Laws.{length-frame_bytes}
use Rattle.vl_frame.specs.declared.kinds.FrameKind.TheVariants as kinds
use Rattle.vl_table.specs.body.Blocks.{block_body}
use Rattle.vl_table.proofs.writer.block_writer.BlockWriter.append_frame.Goals as goal

pub returns-clause-written : goal.returns-clause-written
returns-clause-written c = λ es has.
    c.in_ok-hand_over.ensures
    ∙ ap (λ l. c.args.out.now.items ++ l)
    (c.in_ok-finish_frame.ensures.written (0 ∷ 0 ∷ 0 ∷ 0 ∷ 0 ∷ []) (block_body table_format es) refl has.frame)

pub returns-clause-length : goal.returns-clause-length
returns-clause-length c = λ es has.
    c.len-length.ensures ∙ c.finish_frame.new.frame.ok.0
    ∙ ap length (c.in_ok-finish_frame.ensures.written (0 ∷ 0 ∷ 0 ∷ 0 ∷ 0 ∷ []) (block_body table_format es) refl has.frame)
    ∙ length-frame_bytes c.args.number c.args.place kinds.Block (block_body table_format es)
