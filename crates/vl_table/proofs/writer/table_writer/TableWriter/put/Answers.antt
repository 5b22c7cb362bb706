use Rattle.std.proofs.Common.{◌≡◌, ◌∷◌, ◌++◌, ◌^◌, [], List, ℕ, sym, ◌∙◌, ap, refl, arith}
use Rattle.std.specs.Prelude.{nat_le, Err}
use Rattle.vl_table.specs.writer.Writing.{IsWriting, blocks_end, end_of}
use Rattle.vl_table.proofs.Written.{adds, is_long, is_short}
use Rattle.vl_table.proofs.WriterResults.{memory_only, same_fault}
use Rattle.vl_table.proofs.writer.table_writer.TableWriter.put.Goals as goal

pub returns-clause-put : goal.returns-clause-put
returns-clause-put c = λ number es given is comes.
    let (piece, appended, room) = c.in_ok-make_room.ensures.room number es given is in (
      piece,
      appended,
      adds c.make_room.new.self (record { blocks = c.add.new.self; summary = c.add-2.new.self }) number es
          (given ++ piece) c.args.entry.now room
          (c.in_ok-add.ensures.blocks room.closed room.open_block room.has) c.add.ensures.number
          (c.in_ok-add-2.ensures es is.some room.sums) comes,
    )

pub returns-then-is_full-clause-too_long : goal.returns-then-is_full-clause-too_long
returns-then-is_full-clause-too_long c = λ number es given is. (
  λ same. is_long _ (ap (λ bs. nat_le (2 ^ 32) (end_of bs)) (is.cut (c.args.entry.now ∷ []))
      ∙ sym (c.is_full.ensures is.closed is.open_block is.has) ∙ c.if-is_full.true),
  λ long. refl,
)

pub returns-in_err-make_room-clause-too_long : goal.returns-in_err-make_room-clause-too_long
returns-in_err-make_room-clause-too_long c = λ number es given is. (
  λ same. c.in_err-make_room.ensures.too_long number es given is
      (ap Err (same_fault c.in_err-make_room.field-0.0 c.from_residual.result c.from_residual.ensures.1 same)),
  λ long.
      let short = is_short _ (ap (λ bs. nat_le (2 ^ 32) (end_of bs)) (is.cut (c.args.entry.now ∷ []))
      ∙ sym (c.is_full.ensures is.closed is.open_block is.has) ∙ c.if-is_full.false) in
      absurd (omega (arith, short, long)),
)

pub returns-in_err-add-clause-too_long : goal.returns-in_err-add-clause-too_long
returns-in_err-add-clause-too_long c = λ number es given is. (
  λ same. absurd (memory_only c.from_residual-in_err-add.result c.from_residual-in_err-add.ensures.1 same),
  λ long.
      let short = is_short _ (ap (λ bs. nat_le (2 ^ 32) (end_of bs)) (is.cut (c.args.entry.now ∷ []))
      ∙ sym (c.is_full.ensures is.closed is.open_block is.has) ∙ c.if-is_full.false) in
      absurd (omega (arith, short, long)),
)

pub returns-in_err-add-2-clause-too_long : goal.returns-in_err-add-2-clause-too_long
returns-in_err-add-2-clause-too_long c = λ number es given is. (
  λ same. absurd (memory_only c.from_residual-in_err-add-2.result c.from_residual-in_err-add-2.ensures.1 same),
  λ long.
      let short = is_short _ (ap (λ bs. nat_le (2 ^ 32) (end_of bs)) (is.cut (c.args.entry.now ∷ []))
      ∙ sym (c.is_full.ensures is.closed is.open_block is.has) ∙ c.if-is_full.false) in
      absurd (omega (arith, short, long)),
)

pub returns-clause-too_long : goal.returns-clause-too_long
returns-clause-too_long c = λ number es given is. (
  λ same. cc,
  λ long.
      let short = is_short _ (ap (λ bs. nat_le (2 ^ 32) (end_of bs)) (is.cut (c.args.entry.now ∷ []))
      ∙ sym (c.is_full.ensures is.closed is.open_block is.has) ∙ c.if-is_full.false) in
      absurd (omega (arith, short, long)),
)
