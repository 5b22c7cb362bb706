use Rattle.std.proofs.Common.{◌∷◌, ◌≤◌, ap, arith, length, subst, sym, ◌∙◌}
use Rattle.vl_steps.proofs.Taking.{all_still, first_out, no_error, passed_on, stops_taking, takes_back_more}
use Rattle.vl_steps.specs.Taking.{MayTakeAll, StopsTaking, TakesBack}
use Rattle.vl_steps.proofs.install.take_back.Goals as goal

pub put_back-requires-clause-may : goal.put_back-requires-clause-may
put_back-requires-clause-may g c =
    let some : 1 ≤ length c.loop-left.left.items = omega arith in
    let are = first_out c.loop-left.left.items c.remove-table.result some c.remove-table.ensures.value in
    (subst (MayTakeAll g.D.Watched g.D.Writer.Writer c.loop-left.disk) are c.loop-left.invariant.may).each.0

pub loop-left-preserved : goal.loop-left-preserved
loop-left-preserved g c =
    let some : 1 ≤ length c.loop-left.left.items = omega arith in
    let are = first_out c.loop-left.left.items c.remove-table.result some c.remove-table.ensures.value
    ∙ ap (λ ts. c.remove-table.result ∷ ts) (sym c.remove-table.ensures.items) in
    record {
      taken = takes_back_more g.D.Watched g.D.Held.HeldFile.bytes g.D.Writer.Writer c.args.made.items c.remove-table.result
          c.remove-table.new.self.items c.args.disk.now c.loop-left.disk c.put_back.new.disk c.args.levels.now c.loop-left.levels
          c.put_back.new.levels
          (subst (λ ts. TakesBack g.D.Watched g.D.Held.HeldFile.bytes g.D.Writer.Writer c.args.made.items ts c.args.disk.now
          c.loop-left.disk c.args.levels.now c.loop-left.levels) are c.loop-left.invariant.taken) c.in_ok-put_back.ensures.put;
      may = all_still g.D.Watched g.D.Writer.Writer c.remove-table.result c.loop-left.disk c.put_back.new.disk
          c.in_ok-put_back.ensures.takes c.in_ok-put_back.ensures.elsewhere c.remove-table.new.self.items
          (subst (MayTakeAll g.D.Watched g.D.Writer.Writer c.loop-left.disk) are c.loop-left.invariant.may);
      room = c.in_ok-put_back.ensures.room_left (length c.remove-table.new.self.items)
          (let room = c.loop-left.invariant.room in let long = ap (λ ts. length ts) are in omega (arith, room, long));
      faults = c.in_ok-put_back.ensures.cause.steady (λ failed. absurd (no_error failed)) ∙ c.loop-left.invariant.faults;
    }

pub returns-in_err-put_back-clause-stops : goal.returns-in_err-put_back-clause-stops
returns-in_err-put_back-clause-stops g c =
    let some : 1 ≤ length c.loop-left.left.items = omega arith in
    let are = first_out c.loop-left.left.items c.remove-table.result some c.remove-table.ensures.value
    ∙ ap (λ ts. c.remove-table.result ∷ ts) (sym c.remove-table.ensures.items) in
    passed_on (StopsTaking g.D.Watched g.D.Writer.Writer c.args.made.items c.args.disk.now c.put_back.new.disk)
    c.from_residual.result c.in_err-put_back.field-0.0 c.from_residual.ensures.1
    (stops_taking g.D.Watched g.D.Held.HeldFile.bytes g.D.Writer.Writer c.args.made.items c.remove-table.result
    c.remove-table.new.self.items c.args.disk.now c.loop-left.disk c.put_back.new.disk c.args.levels.now c.loop-left.levels
    c.in_err-put_back.field-0.0
    (subst (λ ts. TakesBack g.D.Watched g.D.Held.HeldFile.bytes g.D.Writer.Writer c.args.made.items ts c.args.disk.now c.loop-left.disk
    c.args.levels.now c.loop-left.levels) are c.loop-left.invariant.taken) c.in_err-put_back.ensures.takes c.in_err-put_back.ensures.at)
