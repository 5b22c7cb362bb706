use Rattle.std.proofs.Common.{◌≤◌, ℕ, arith, subst, sym}
use Rattle.std.specs.Prelude.{IsTrue, nat_le}
use Rattle.std.proofs.lemmas.Bool.Decides.{nat_tests}
use Rattle.vl_frame.specs.declared.kinds.FrameKind.TheVariants as kinds
use Rattle.vl_table.proofs.Parts.{lies_inside}
use Rattle.vl_table.proofs.block.lies_inside.Goals as goal
use Rattle.vl_table.proofs.block.lies_inside.Goals.{then-id-le-MAX_BLOCK_FRAME_BYTES, else-id-le-MAX_BLOCK_FRAME_BYTES}

is_le : (m n : ℕ) → m ≤ n → IsTrue (nat_le m n)
is_le m n le = grind (arith, nat_tests)

pub returns-then-id-len-clause-whole : goal.returns-then-id-len-clause-whole
returns-then-id-len-clause-whole g c = λ bytes es told stands.
    let id = c.args.id.now in
    let inside = lies_inside id.number id.place id.length kinds.Block bytes stands.body stands.frame in
    is_le _ _ (omega (arith, inside, g.met.H.HeldFile.sized c.args.held.now bytes told, c.len-then-id-len.ensures))

pub returns-else-id-len-clause-whole : goal.returns-else-id-len-clause-whole
returns-else-id-len-clause-whole g c = λ bytes es told stands.
    let id = c.args.id.now in
    let inside = lies_inside id.number id.place id.length kinds.Block bytes stands.body stands.frame in
    elim c.if-id-le-MAX_BLOCK_FRAME_BYTES.branch [
      | then-id-le-MAX_BLOCK_FRAME_BYTES w ↦
          subst IsTrue (sym w.value-is)
          (is_le _ _ (omega (arith, inside, g.met.H.HeldFile.sized c.args.held.now bytes told, w.len.ensures)))
      | else-id-le-MAX_BLOCK_FRAME_BYTES w ↦ absurd (omega (arith, w.if-id-le-MAX_BLOCK_FRAME_BYTES.false, stands.frame.sized, stands.says.short))
    ]
