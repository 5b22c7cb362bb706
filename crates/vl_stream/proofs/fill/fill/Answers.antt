use Rattle.std.proofs.Common.{◌≤◌, ◌-◌, refl, rules, arith, length}
use Rattle.vl_stream.proofs.Filling.{filled_more}
use Rattle.vl_stream.proofs.fill.fill.Goals as goal

pub loop-filled-preserved : goal.loop-filled-preserved
loop-filled-preserved g c =
    let s = c.loop-filled in
    let long = c.next.auto.out in
    let within = c.in_ok-given.ensures.within in
    let test = c.loop-filled-test.true in
    let fits : c.in_ok-given.given ≤ length c.next.new.out = omega arith in
    record {
      within = search rules;
      same = search rules;
      given = filled_more _ _ _ s.filled (length s.out - s.filled) c.in_ok-given.given _ s.out c.next.new.out
          s.invariant.within fits refl s.invariant.given c.in_ok-given.ensures.given;
      spent = search rules;
      steady = search rules;
    }
