use Rattle.vl_model.specs.Formats.{table_format}
use Rattle.std.proofs.Common.{◌≡◌, ◌∙◌, ◌++◌, [], ◌∷◌, arith, sym, refl, subst, append-nil, List, ℕ}
use Rattle.vl_frame.specs.Frame.{frame_bytes}
use Rattle.vl_frame.specs.declared.kinds.FrameKind.TheVariants as kinds
use Rattle.std.proofs.lemmas.Result.{on_ok_weaker}
use Rattle.vl_table.specs.body.Blocks.{block_body}
use Rattle.vl_table.specs.writer.Writing.{HasBlocks, HasRoom}
use Rattle.vl_table.proofs.Written.{closes, full_end, stays_open}
use Rattle.vl_table.proofs.WriterResults.{on_ok_both}
use Rattle.vl_table.proofs.writer.table_writer.TableWriter.make_room.Goals as goal

pub returns-then-has_room-clause-room : goal.returns-then-has_room-clause-room
returns-then-has_room-clause-room c = λ number es given is.
    let w = c.args.self.now in (
      [],
      sym (append-nil c.args.out.now.items),
      subst (λ (l : List ℕ). HasRoom w number es l c.args.entry.now) (sym (append-nil given))
          (stays_open w number es given c.args.entry.now is (sym (c.has_room.ensures is.closed is.open_block is.has) ∙ c.if-has_room.true)),
    )

pub returns-clause-room : goal.returns-clause-room
returns-clause-room c = λ number es given is.
    let w = c.args.self.now in
    let frame = frame_bytes w.blocks.number w.blocks.place kinds.Block (block_body table_format is.open_block) in
    on_ok_weaker c.close.result
    (λ (both : HasBlocks c.close.new.self (is.closed ++ is.open_block ∷ []) [] × (c.close.new.out.items ≡ c.args.out.now.items ++ frame)). (
      frame,
      both.1,
      closes w (record { blocks = c.close.new.self; summary = w.summary }) number es given frame c.args.entry.now is
          (sym (c.has_room.ensures is.closed is.open_block is.has) ∙ c.if-has_room.false) both.0 c.close.ensures.number refl refl,
    ))
    (on_ok_both c.close.result _ _ (c.close.ensures.blocks is.closed is.open_block is.has (is.sums.last ∙ sym is.last))
    (c.close.ensures.written is.closed is.open_block is.has))

pub returns-clause-too_long : goal.returns-clause-too_long
returns-clause-too_long c = λ number es given is too_long.
    let long = c.close.ensures.too_long is.closed is.open_block is.has too_long in
    let end = full_end c.args.self.now number es given c.args.entry.now is
    (sym (c.has_room.ensures is.closed is.open_block is.has) ∙ c.if-has_room.false) in
    omega (arith, long, end)
