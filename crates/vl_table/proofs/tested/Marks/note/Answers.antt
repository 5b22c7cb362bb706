use Rattle.std.proofs.Common.{◌∙◌, subst, sym}
use Rattle.vl_table.specs.Tested.{IsTested}
use Rattle.vl_table.proofs.TestedSteps.{tested_alike}
use Rattle.vl_table.proofs.tested.Marks.note.Goals as goal

pub invariant_of-try_set : goal.invariant_of-try_set
invariant_of-try_set g c =
    let held = c.deref-2.result.now in
    record {
      stands = subst (λ (h : g.row.H.Denot). IsTested g.H.HeldFile.bytes h c.args.id)
          (c.deref-2.ensures ∙ sym c.in-Ok.ensures)
          (tested_alike g.H.HeldFile.bytes held c.args.held.now c.args.id
          (g.met.H.HeldFile.alike c.args.held.now held) (c.same.ensures.0 c.if-not-same.false).1 c.requires);
    }
