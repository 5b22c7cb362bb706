use Rattle.std.proofs.Common.{◌≡◌, ◌∙◌, [], ap, arith, sym}
use Rattle.std.specs.List.{list_any}
use Rattle.vl_model.specs.EntryOrder.{within}
use Rattle.vl_table.specs.CursorLeft.{in_block}
use Rattle.vl_table.proofs.CursorLaws.{blocks_stay, goes_on, keeps_read, keeps_step, on_err_any, reads_on, reads_one, unread_stays}
use Rattle.vl_table.proofs.CursorSteps.{keeps_on}
use Rattle.vl_table.proofs.StandingSteps.{stands_ended, stands_given, stands_met, stands_on, stands_read, stands_unread}
use Rattle.vl_table.proofs.StoppingSteps.{stops_kept, stops_memory, stops_old}
use Rattle.vl_table.proofs.StretchSteps.{end_on}
use Rattle.vl_table.proofs.cursor.TableCursorCursor.next.Goals as goal

pub returns-in_err-entry-clause-kept : goal.returns-in_err-entry-clause-kept
returns-in_err-entry-clause-kept g c =
    let bytes = g.H.HeldFile.bytes in
    let d = c.steps.self in
    let e = c.give.new.self in
    let stays = c.in_err-entry.ensures.stays in
    on_err_any c.from_residual.result _
    (keeps_on _ _ _ c.steps.invariant.left (keeps_step bytes d e stays.goes (λ rises. unread_stays d e stays) c.in_err-entry.ensures.kept))

pub returns-in_err-read-clause-kept : goal.returns-in_err-read-clause-kept
returns-in_err-read-clause-kept g c =
    let bytes = g.H.HeldFile.bytes in
    let d = c.steps.self in
    let e = c.give.new.self in
    let f = c.read.new.self in
    let stays = c.in_ok-entry.ensures.stays in
    let ends = rw c.in_default.is at c.in_ok-entry.ensures.none in
    let none : in_block e ≡ [] = ap (within e.span) (end_on e.way e.entries e.block ends.1) in
    let kept = c.in_err-read.ensures.kept in
    on_err_any c.from_residual-in_err-read.result _
    (keeps_on _ _ _ c.steps.invariant.left
    (keeps_on _ _ _ (keeps_step bytes d e stays.goes (λ rises. unread_stays d e stays) (none ∙ sym ends.0))
    (keeps_step bytes e f c.in_err-read.ensures.goes kept.same (kept.none ∙ sym none))))

pub steps-preserved : goal.steps-preserved
steps-preserved g c =
    let bytes = g.H.HeldFile.bytes in
    let fn = c.args.self.now in
    let d = c.steps.self in
    let e = c.give.new.self in
    let f = c.read.new.self in
    let before = c.steps.invariant in
    let stays = c.in_ok-entry.ensures.stays in
    let ends = rw c.in_default.is at c.in_ok-entry.ensures.none in
    let none : in_block e ≡ [] = ap (within e.span) (end_on e.way e.entries e.block ends.1) in
    let there = c.in_ok-read.ensures.there c.if-not-branch.false in
    let goes = c.in_ok-read.ensures.goes in
    record {
      left = keeps_on _ _ _ before.left
          (keeps_on _ _ _ (keeps_step bytes d e stays.goes (λ rises. unread_stays d e stays) (none ∙ sym ends.0))
          (keeps_read bytes e f goes there none));
      budget = omega (arith, before.budget, c.in_ok-read.ensures.budget, blocks_stay d e stays, ends.1);
      steady = c.in_ok-read.ensures.cause ∙ before.steady;
      read = reads_one bytes fn e f (goes_on fn d e before.goes stays.goes)
          (reads_on bytes fn d e before.goes before.read (λ rises. unread_stays d e stays)) there;
      goes = goes_on fn d f before.goes (goes_on d e f stays.goes goes);
      back = λ is_met stands. before.back is_met
          (stands_on bytes is_met d e stays.goes (λ rises. unread_stays d e stays)
          (λ met. ap (list_any is_met) (ends.0 ∙ sym none) ∙ met) (stands_read bytes is_met e f goes there stands));
    }

pub returns-in_err-entry-clause-keeps : goal.returns-in_err-entry-clause-keeps
returns-in_err-entry-clause-keeps g c =
    let bytes = g.H.HeldFile.bytes in
    let fn = c.args.self.now in
    let d = c.steps.self in
    let e = c.give.new.self in
    let before = c.steps.invariant in
    let stays = c.in_err-entry.ensures.stays in
    stops_kept bytes fn e (goes_on fn d e before.goes stays.goes)
    (reads_on bytes fn d e before.goes before.read (λ rises. unread_stays d e stays))

pub returns-in-Some-clause-keeps : goal.returns-in-Some-clause-keeps
returns-in-Some-clause-keeps g c =
    let bytes = g.H.HeldFile.bytes in
    let fn = c.args.self.now in
    let d = c.steps.self in
    let e = c.give.new.self in
    let before = c.steps.invariant in
    let stays = c.in_ok-entry.ensures.stays in
    stops_kept bytes fn e (goes_on fn d e before.goes stays.goes)
    (reads_on bytes fn d e before.goes before.read (λ rises. unread_stays d e stays))

pub returns-in_err-read-clause-keeps : goal.returns-in_err-read-clause-keeps
returns-in_err-read-clause-keeps g c =
    let bytes = g.H.HeldFile.bytes in
    let fn = c.args.self.now in
    let d = c.steps.self in
    let e = c.give.new.self in
    let f = c.read.new.self in
    let before = c.steps.invariant in
    let stays = c.in_ok-entry.ensures.stays in
    let goes = goes_on fn d e before.goes stays.goes in
    stops_kept bytes fn f (goes_on fn e f goes c.in_err-read.ensures.goes)
    (reads_on bytes fn e f goes (reads_on bytes fn d e before.goes before.read (λ rises. unread_stays d e stays))
    c.in_err-read.ensures.kept.same)

pub returns-then-not-branch-clause-keeps : goal.returns-then-not-branch-clause-keeps
returns-then-not-branch-clause-keeps g c =
    let bytes = g.H.HeldFile.bytes in
    let fn = c.args.self.now in
    let d = c.steps.self in
    let e = c.give.new.self in
    let f = c.read.new.self in
    let before = c.steps.invariant in
    let stays = c.in_ok-entry.ensures.stays in
    let goes = goes_on fn d e before.goes stays.goes in
    let ends = c.in_ok-read.ensures.none c.if-not-branch.true in
    stops_kept bytes fn f (goes_on fn e f goes c.in_ok-read.ensures.goes)
    (reads_on bytes fn e f goes (reads_on bytes fn d e before.goes before.read (λ rises. unread_stays d e stays))
    (λ rises. ends.1.same rises ∙ sym (ends.0 rises)))
