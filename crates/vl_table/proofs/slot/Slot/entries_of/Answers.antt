use Rattle.std.proofs.Common.{ap, arith, length, length-take}
use Rattle.vl_frame.specs.laws.Laws.{length-frame_bytes}
use Rattle.vl_frame.specs.declared.kinds.FrameKind.TheVariants as kinds
use Rattle.vl_table.proofs.slot.Slot.entries_of.Goals as goal

pub returns-then-length-len : goal.returns-then-length-len
returns-then-length-len c = λ bytes es has.
    let id = c.args.id in
    absurd (omega (
      arith,
      c.if-length-len.true,
      c.len.ensures,
      has.has.stands.frame.sized,
      ap length has.has.framed,
      length-frame_bytes id.number id.place kinds.Block has.has.stands.body,
      length-take id.length c.args.self.now.frame.items,
    ))
