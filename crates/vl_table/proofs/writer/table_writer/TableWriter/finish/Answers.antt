use Rattle.std.proofs.Common.{◌≤◌, ◌<◌, ◌^◌, ◌∙◌, ◌++◌, ap, sym, subst, List, ℕ}
use Rattle.std.specs.Prelude.{Err}
use Rattle.vl_frame.specs.Frame.{frame_bytes}
use Rattle.vl_frame.specs.declared.kinds.FrameKind.TheVariants as kinds
use Rattle.vl_model.specs.Formats.{table_format}
use Rattle.vl_table.specs.body.Blocks.{block_body}
use Rattle.vl_table.proofs.Finished.{blocks_too_long, ends, ends_there, tail_whole}
use Rattle.vl_table.proofs.WriterResults.{same_fault}
use Rattle.vl_table.proofs.writer.table_writer.TableWriter.finish.Goals as goal

pub returns-clause-tail : goal.returns-clause-tail
returns-clause-tail c = λ number es given is.
    ends c.args.self c.close.new.self c.in_ok-rest.rest number es given is
    (c.in_ok-close.ensures.blocks is.closed is.open_block is.has (is.sums.last ∙ sym is.last)) c.close.ensures.number
    c.in_ok-rest.ensures.rest.stands c.in_ok-rest.ensures.rest.short
    c.behind.result c.close.new.out.items
    (c.in_ok-close.ensures.written is.closed is.open_block is.has
    ∙ ap (λ (l : List ℕ). l ++ frame_bytes c.args.self.blocks.number c.args.self.blocks.place kinds.Block
    (block_body table_format is.open_block)) c.new-block.ensures.items)
    c.behind.ensures

pub returns-clause-whole : goal.returns-clause-whole
returns-clause-whole c = λ number es given is. tail_whole c.behind.result number es given (returns-clause-tail c number es given is)

pub returns-clause-short : goal.returns-clause-short
returns-clause-short c = λ number es given is.
    subst (λ (n : ℕ). n < 2 ^ 32)
    (ends_there c.args.self c.close.new.self c.in_ok-rest.rest number es given is
    (c.in_ok-close.ensures.blocks is.closed is.open_block is.has (is.sums.last ∙ sym is.last)) c.close.ensures.number
    c.in_ok-rest.ensures.rest.stands) c.in_ok-rest.ensures.rest.short

pub returns-in_err-close-clause-too_long : goal.returns-in_err-close-clause-too_long
returns-in_err-close-clause-too_long c = λ number es given is too_long.
    blocks_too_long c.args.self number es given is
    (c.in_err-close.ensures.too_long is.closed is.open_block is.has
    (ap Err (same_fault c.in_err-close.field-0.0 c.from_residual.result c.from_residual.ensures.1 too_long)))

pub returns-in_err-rest-clause-too_long : goal.returns-in_err-rest-clause-too_long
returns-in_err-rest-clause-too_long c = λ number es given is too_long.
    let why = c.in_err-rest.ensures.too_long
    (ap Err (same_fault c.in_err-rest.field-0.0 c.from_residual-in_err-rest.result c.from_residual-in_err-rest.ensures.1 too_long)) in
    subst (λ (n : ℕ). 2 ^ 32 ≤ n)
    (ends_there c.args.self c.close.new.self why.rest number es given is
    (c.in_ok-close.ensures.blocks is.closed is.open_block is.has (is.sums.last ∙ sym is.last)) c.close.ensures.number
    why.stands) why.long
