use Rattle.std.proofs.Common.{◌≡◌, ◌∙◌, subst, sym}
use Rattle.std.specs.Arc.{arc_value}
use Rattle.vl_table.specs.Tested.{IsTested}
use Rattle.vl_table.specs.declared.slot.BlockId.{BlockId}
use Rattle.vl_table.proofs.TestedSteps.{equal_ids, tested_alike}
use Rattle.vl_table.proofs.tested.Marks.has.Goals as goal

pub returns-then-eq : goal.returns-then-eq
returns-then-eq g c = λ yes.
    let mark = c.in-Some-get.mark.now in
    let held = c.deref-then-eq.result.now in
    let same : mark.id ≡ c.args.id = equal_ids mark.id c.args.id (sym c.eq.ensures ∙ c.if-eq.true) in
    let tested : IsTested g.H.HeldFile.bytes held c.args.id =
    subst (λ (h : g.row.H.Denot). IsTested g.H.HeldFile.bytes h c.args.id) (sym c.deref-then-eq.ensures)
    (subst (λ (i : BlockId). IsTested g.H.HeldFile.bytes (arc_value mark.held) i) same mark.stands) in
    tested_alike g.H.HeldFile.bytes c.args.held.now held c.args.id (g.met.H.HeldFile.alike held c.args.held.now)
    (c.same.ensures.0 yes).1 tested
