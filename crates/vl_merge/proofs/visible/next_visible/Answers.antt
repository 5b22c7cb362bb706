use Rattle.std.proofs.Common.{ap, sym, ◌∙◌, arith, subst, inl, inr}
use Rattle.vl_model.specs.Cursors.{IsReached}
use Rattle.vl_merge.specs.Held.{only_shown}
use Rattle.std.proofs.Common.{Option}
use Rattle.vl_model.specs.Cursors.{Gives}
use Rattle.vl_model.specs.declared.entry.Entry.{Entry}
use Rattle.vl_merge.specs.Standing.{is_beyond}
use Rattle.vl_merge.proofs.InWayLaws.{beyond_next, if_each, in_way_after, in_way_end}
use Rattle.vl_merge.proofs.StandingLaws.{met_passed, stands_passed}
use Rattle.vl_merge.proofs.Steps.{step_spends, step_kept, step_given, step_end}
use Rattle.vl_merge.proofs.visible.next_visible.Goals as goal

pub returns-then-is_some-clause-given : goal.returns-then-is_some-clause-given
returns-then-is_some-clause-given g c =
    step_given c.args.hides c.args.number c.loop-entry.held c.pass-winner.new.held _ (g.M.Cursor.left c.loop-entry.merge)
    (g.M.Cursor.left c.next.new.self) c.loop-entry.invariant.kept
    c.in_ok-entry.field-0 c.in-Some.entry c.in_ok-entry.ensures.given c.in-Some.is c.pass-winner.ensures.held
    c.pass-winner.result c.pass-winner.ensures.gives
    (sym c.is_some.ensures ∙ c.if-is_some.true)

pub loop-entry-preserved : goal.loop-entry-preserved
loop-entry-preserved g c = record {
  kept =
      step_kept c.args.hides c.args.number c.loop-entry.held c.pass-winner.new.held _ (g.M.Cursor.left c.loop-entry.merge)
      (g.M.Cursor.left c.next.new.self) c.loop-entry.invariant.kept
      c.in_ok-entry.field-0 c.in-Some.entry c.in_ok-entry.ensures.given c.in-Some.is c.pass-winner.ensures.held
      c.pass-winner.result c.pass-winner.ensures.gives
      (sym c.is_some.ensures ∙ c.if-is_some.false);
  spends =
      step_spends c.loop-entry.held c.pass-winner.new.held c.in_ok-entry.field-0 c.in-Some.entry _
      (g.M.Cursor.budget c.loop-entry.merge) (g.M.Cursor.budget c.next.new.self)
      c.in-Some.is c.in_ok-entry.ensures.spends c.loop-entry.invariant.spends;
  steady = c.in_ok-entry.ensures.cause ∙ c.loop-entry.invariant.steady;
  fails = λ fault now. c.loop-entry.invariant.fails fault (c.next.ensures.keeps fault now);
  back = λ is_met. stands_passed is_met _ c.loop-entry.held c.pass-winner.new.held (g.M.Cursor.stands_to c.loop-entry.merge is_met)
      (g.M.Cursor.stands_to c.next.new.self is_met) c.in-Some.entry c.args.number (c.loop-entry.invariant.back is_met)
      (λ met. c.in_ok-entry.ensures.reaches is_met (subst (IsReached is_met) (sym c.in-Some.is) met))
      (c.next.ensures.back is_met) c.pass-winner.ensures.held;
  in_way = λ way so. in_way_after way c.args.number c.loop-entry.held c.pass-winner.new.held c.in-Some.entry
      (g.M.Cursor.left c.loop-entry.merge) (g.M.Cursor.left c.next.new.self) (c.loop-entry.invariant.in_way way so)
      (subst (λ (o : Option Entry). Gives (g.M.Cursor.left c.loop-entry.merge) (g.M.Cursor.left c.next.new.self) o) c.in-Some.is
      c.in_ok-entry.ensures.given) c.pass-winner.ensures.held;
}

pub returns-clause-given : goal.returns-clause-given
returns-clause-given g c =
    step_end c.args.hides c.args.number c.loop-entry.held c.take.new.self _ (g.M.Cursor.left c.loop-entry.merge)
    (g.M.Cursor.left c.next.new.self) c.loop-entry.invariant.kept
    c.in_ok-entry.field-0 c.only_shown.result c.in_ok-entry.ensures.given c.in_default.is c.take.ensures.after
    (c.only_shown.ensures ∙ ap (only_shown c.args.hides) c.take.ensures.value)

pub returns-then-is_some-clause-reaches : goal.returns-then-is_some-clause-reaches
returns-then-is_some-clause-reaches g c = λ is_met met.
    c.loop-entry.invariant.back is_met (inl (met_passed is_met c.args.hides c.args.number c.loop-entry.held c.in-Some.entry
    c.pass-winner.result c.pass-winner.ensures.gives (sym c.is_some.ensures ∙ c.if-is_some.true) met))

pub returns-then-is_some-clause-back : goal.returns-then-is_some-clause-back
returns-then-is_some-clause-back g c = λ is_met.
    stands_passed is_met _ c.loop-entry.held c.pass-winner.new.held (g.M.Cursor.stands_to c.loop-entry.merge is_met)
    (g.M.Cursor.stands_to c.next.new.self is_met) c.in-Some.entry c.args.number (c.loop-entry.invariant.back is_met)
    (λ met. c.in_ok-entry.ensures.reaches is_met (subst (IsReached is_met) (sym c.in-Some.is) met))
    (c.next.ensures.back is_met) c.pass-winner.ensures.held

pub returns-clause-reaches : goal.returns-clause-reaches
returns-clause-reaches g c = λ is_met met.
    c.loop-entry.invariant.back is_met
    (inr (c.in_ok-entry.ensures.reaches is_met (subst (IsReached is_met) (sym c.in_default.is) tt)))

pub returns-then-is_some-clause-passes : goal.returns-then-is_some-clause-passes
returns-then-is_some-clause-passes g c = λ way so.
    let before = g.M.Cursor.left c.loop-entry.merge in
    let after = g.M.Cursor.left c.next.new.self in
    let now = c.loop-entry.invariant.in_way way so in
    let gives = subst (λ (o : Option Entry). Gives before after o) c.in-Some.is c.in_ok-entry.ensures.given in (
      in_way_after way c.args.number c.loop-entry.held c.pass-winner.new.held c.in-Some.entry before after now gives
          c.pass-winner.ensures.held,
      if_each c.pass-winner.result _ (λ w is. c.loop-entry.invariant.back (is_beyond way w.key)
          (inr (c.in_ok-entry.ensures.reaches (is_beyond way w.key) (subst (IsReached (is_beyond way w.key)) (sym c.in-Some.is)
          (beyond_next way c.args.hides c.args.number c.loop-entry.held c.in-Some.entry before after w now gives
          (sym c.pass-winner.ensures.gives ∙ is)))))),
    )

pub returns-clause-passes : goal.returns-clause-passes
returns-clause-passes g c = λ way so.
    let before = g.M.Cursor.left c.loop-entry.merge in
    let after = g.M.Cursor.left c.next.new.self in (
      in_way_end way c.loop-entry.held c.take.new.self before after (c.loop-entry.invariant.in_way way so)
          (subst (λ (o : Option Entry). Gives before after o) c.in_default.is c.in_ok-entry.ensures.given) c.take.ensures.after,
      if_each c.only_shown.result _ (λ w is. c.loop-entry.invariant.back (is_beyond way w.key)
          (inr (c.in_ok-entry.ensures.reaches (is_beyond way w.key)
          (subst (IsReached (is_beyond way w.key)) (sym c.in_default.is) tt)))),
    )
