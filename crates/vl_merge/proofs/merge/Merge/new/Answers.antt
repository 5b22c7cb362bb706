use Rattle.std.proofs.Common.{map, ap, ◌∙◌, subst}
use Rattle.std.specs.List.{AllByRecursion, sum_by}
use Rattle.vl_merge.specs.MergeOf.{OneMayFail, merge_of}
use Rattle.vl_merge.proofs.BuildLaws.{left-planted, budget-planted, fails-planted}
use Rattle.vl_merge.proofs.StandingLaws.{stands-planted}
use Rattle.vl_merge.proofs.merge.Merge.new.Goals as goal

pub returns-clause-left : goal.returns-clause-left
returns-clause-left g c =
    let left = g.C.Cursor.left in
    left-planted left c.args.way c.in_ok-build_tree.field-0 c.in_ok-build_tree.ensures.unread
    ∙ ap (λ l. merge_of c.args.way (map left l)) c.in_ok-build_tree.ensures.leaves

pub returns-clause-budget : goal.returns-clause-budget
returns-clause-budget g c =
    let budget = g.C.Cursor.budget in
    budget-planted budget c.in_ok-build_tree.field-0 c.in_ok-build_tree.ensures.unread
    ∙ ap (sum_by budget) c.in_ok-build_tree.ensures.leaves

pub returns-clause-may_fail : goal.returns-clause-may_fail
returns-clause-may_fail g c = λ fault fails.
    let may_fail = g.C.Cursor.may_fail in
    subst (λ cs. OneMayFail may_fail cs fault) c.in_ok-build_tree.ensures.leaves
    (fails-planted may_fail c.in_ok-build_tree.field-0 fault fails)

pub returns-clause-stands : goal.returns-clause-stands
returns-clause-stands g c = λ is_met upward stands.
    let stands_to = g.C.Cursor.stands_to in
    subst (AllByRecursion (λ k. stands_to k is_met)) c.in_ok-build_tree.ensures.leaves
    (stands-planted stands_to is_met c.in_ok-build_tree.field-0 c.in_ok-build_tree.ensures.unread (stands upward))
