use Rattle.std.proofs.Common.{refl}
use Rattle.vl_script.proofs.generator.at.At.next.Goals.{in-Begin, in-Write, in-Commit-2, in-Rotate, in-Flush, in-Plan, in-Install}
use Rattle.vl_script.proofs.generator.at.At.next.Goals.{in-Sweep-2, in-Pick, in-Batch, in-Move}
use Rattle.vl_script.proofs.generator.at.At.next.Goals.{in-View, in-Scan, in-EndView, in-Stats, in-End}
use Rattle.vl_script.proofs.generator.at.At.next.Goals as goal

pub returns : goal.returns
returns c = elim c.match-self.branch [
  | in-Begin w ↦ rw w.step-is (rw w.in-Begin.is refl)
  | in-Write w ↦ rw w.step-is (rw w.in-Write.is refl)
  | in-Commit-2 w ↦ rw w.step-is (rw w.in-Commit-2.is (rw w.if-self-ne0.false refl))
  | in-Rotate w ↦ rw w.step-is (rw w.in-Rotate.is refl)
  | in-Flush w ↦ rw w.step-is (rw w.in-Flush.is refl)
  | in-Plan w ↦ rw w.step-is (rw w.in-Plan.is refl)
  | in-Install w ↦ rw w.step-is (rw w.in-Install.is refl)
  | in-Sweep-2 w ↦ rw w.step-is (rw w.in-Sweep-2.is (rw w.if-self-ne0-2.false refl))
  | in-Pick w ↦ rw w.step-is (rw w.in-Pick.is refl)
  | in-Batch w ↦ rw w.step-is (rw w.in-Batch.is refl)
  | in-Move w ↦ rw w.step-is (rw w.in-Move.is (w.batches-step.ensures c.args.self.round c.args.self.number _))
  | in-View w ↦ rw w.step-is (rw w.in-View.is refl)
  | in-Scan w ↦ rw w.step-is (rw w.in-Scan.is refl)
  | in-EndView w ↦ rw w.step-is (rw w.in-EndView.is refl)
  | in-Stats w ↦ rw w.step-is (rw w.in-Stats.is refl)
  | in-End w ↦ rw w.step-is (rw w.in-End.is refl)
]
