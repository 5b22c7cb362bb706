use Rattle.std.proofs.Common.{◌≡◌, ◌-◌, ap, length, arith, drop, sym, take}
use Rattle.vl_frame.specs.laws.Laws.{length-frame_bytes}
use Rattle.vl_table.proofs.Parts.{body_behind}
use Rattle.vl_table.proofs.part.body_of.Goals as goal

pub returns-then-frame-lt-FRAME_BYTES-clause-cut : goal.returns-then-frame-lt-FRAME_BYTES-clause-cut
returns-then-frame-lt-FRAME_BYTES-clause-cut c =
    let none : length c.args.frame.now - 8 - 5 ≡ 0 = omega (arith, c.if-frame-lt-FRAME_BYTES.true) in
    sym (ap (λ (n : _). take n (drop 5 c.args.frame.now)) none)

pub returns-then-frame-lt-FRAME_BYTES-clause-framed : goal.returns-then-frame-lt-FRAME_BYTES-clause-framed
returns-then-frame-lt-FRAME_BYTES-clause-framed c = λ number place kind body is.
    absurd (omega (arith, c.if-frame-lt-FRAME_BYTES.true, ap length is, length-frame_bytes number place kind body))

pub returns-clause-framed : goal.returns-clause-framed
returns-clause-framed c = λ number place kind body is. body_behind number place kind body c.args.frame.now is
