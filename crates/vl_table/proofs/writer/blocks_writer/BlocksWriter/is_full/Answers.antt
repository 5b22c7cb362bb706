use Rattle.std.proofs.Common.{◌^◌, ◌∙◌, ap, sym}
use Rattle.std.specs.Prelude.{nat_le}
use Rattle.vl_table.proofs.Written.{ends_behind, ends_open}
use Rattle.vl_table.proofs.writer.blocks_writer.BlocksWriter.is_full.Goals as goal

pub returns-then-has_room : goal.returns-then-has_room
returns-then-has_room c = λ closed open_block has.
    c.is_past_end.ensures
    ∙ ap (nat_le (2 ^ 32)) (sym (ends_open closed open_block c.args.entry.now c.args.self.now.place c.len.result has.place
    (c.len.ensures.exact open_block has.written) (sym (c.has_room.ensures closed open_block has) ∙ c.if-has_room.true)))

pub returns : goal.returns
returns c = λ closed open_block has.
    c.is_past_end-2.ensures
    ∙ ap (nat_le (2 ^ 32)) (sym (ends_behind closed open_block c.args.entry.now c.args.self.now.place c.len.result has.place
    (c.len.ensures.exact open_block has.written) (sym (c.has_room.ensures closed open_block has) ∙ c.if-has_room.false)))
