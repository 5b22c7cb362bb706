use Rattle.std.proofs.Common.{◌+◌, sym, subst, List}
use Rattle.vl_table.specs.body.Footer.{points}
use Rattle.vl_table.specs.body.Lists.{last_item}
use Rattle.vl_table.specs.laws.ListLaws.{SoFar, cut, goes_on, not_next}
use Rattle.vl_table.specs.body.Lists.{IsNext}
use Rattle.vl_model.specs.declared.point.Point.{Point}
use Rattle.vl_table.proofs.BodySteps.{point_is_some}
use Rattle.vl_table.proofs.body.points.take_points.Goals as goal

pub returns-in-None-clause-none : goal.returns-in-None-clause-none
returns-in-None-clause-none c = λ list run.
    cut points c.args.bytes.now c.args.count c.loop.counter c.loop.list.items c.loop.rest.now c.loop.invariant c.loop-test.true
    (rw c.in-None.is at c.take_point.ensures.none) list run

pub returns-then-not-is_next-clause-none : goal.returns-then-not-is_next-clause-none
returns-then-not-is_next-clause-none c = λ list run.
    not_next points c.args.bytes.now c.args.count c.loop.counter c.loop.list.items c.loop.rest.now c.in-Some.point
    c.in-Some.after.now c.loop.invariant
    (point_is_some c.in-Some.point) c.in-Some.ensures.lawful c.in-Some.ensures.found
    (λ follows. let yes = c.is_next.ensures.1
    (subst (λ (l : List Point). IsNext points (last_item l) c.in-Some.point) (sym c.deref.ensures.value) follows)
    in let no = c.if-not-is_next.true in cc) list run

pub loop-preserved : goal.loop-preserved
loop-preserved c =
    subst (λ (l : List Point). SoFar points c.args.bytes.now c.args.count (c.loop.counter + 1) l c.in-Some.after.now)
    (sym c.in_ok-push-in-Some.ensures.items)
    (goes_on points c.args.bytes.now c.args.count c.loop.counter c.loop.list.items c.loop.rest.now c.in-Some.point
    c.in-Some.after.now c.loop.invariant
    (point_is_some c.in-Some.point) c.in-Some.ensures.lawful c.in-Some.ensures.found
    (subst (λ (l : List Point). IsNext points (last_item l) c.in-Some.point) c.deref.ensures.value
    (c.is_next.ensures.0 c.if-not-is_next.false)))
