use Rattle.std.proofs.Common.{◌∙◌, ap, List, ◌∷◌, subst, sym}
use Rattle.std.specs.List.{AllByRecursion}
use Rattle.vl_script.specs.declared.line.Line.{Line}
use Rattle.vl_script_model.specs.Asking.{AsksForRow}
use Rattle.vl_script_model.specs.Sequential.{state_after}
use Rattle.vl_script_model.specs.laws.Texts.{by_reader_still}
use Rattle.vl_replay.proofs.Benchmarks.{counts_one, first_of}
use Rattle.vl_replay.proofs.benchmark.sum_up.Goals as goal

pub returns-in_err-answer-clause-fault : goal.returns-in_err-answer-clause-fault
returns-in_err-answer-clause-fault g c s stands by =
    let (t, stands_then, all) = c.loop-line.invariant.under_way s stands in
    let residual = c.from_residual-in_err-answer in
    (c.line.ensures.fault c.loop-line.invariant.goes_on t stands_then
    (by_reader_still c.line.result residual.result _ c.in_err-answer.was residual.ensures.1 by)).failed

pub loop-line-preserved : goal.loop-line-preserved
loop-line-preserved g c =
    let line = c.in-Some.line in
    let parts = first_of c.loop-line.lines line (sym c.in_ok-line.ensures.line ∙ c.in-Some.is) in
    let before = c.loop-line.invariant in
    record {
      under_way = λ s stands.
          let (t, stands_then, all) = before.under_way s stands in (
            state_after t line,
            c.in_ok-answer.ensures.after t stands_then,
            counts_one t c.loop-line.lines c.next.new.self line c.is_commit-commits.result c.in_ok-answer.answer
                c.loop-line.summary c.count.new.self _ (parts ∙ ap (λ (rest : List Line). line ∷ rest) (sym c.in_ok-line.ensures.rest))
                c.is_commit-commits.ensures (c.in_ok-answer.ensures.answer t stands_then) c.count.ensures all,
          );
      goes_on = c.in_ok-answer.ensures.goes_on;
      rows = subst (AllByRecursion AsksForRow) (sym c.in_ok-line.ensures.rest)
          (subst (AllByRecursion AsksForRow) parts before.rows).1;
      steady = (c.in_ok-answer.ensures.cause before.goes_on).steady (λ by. by) ∙ before.steady;
    }

pub loop-line-preserved-in_ok-answer : goal.loop-line-preserved-in_ok-answer
loop-line-preserved-in_ok-answer g c =
    let line = c.in-Some.line in
    let parts = first_of c.loop-line.lines line (sym c.in_ok-line.ensures.line ∙ c.in-Some.is) in
    let before = c.loop-line.invariant in
    record {
      under_way = λ s stands.
          let (t, stands_then, all) = before.under_way s stands in (
            state_after t line,
            c.in_ok-answer.ensures.after t stands_then,
            counts_one t c.loop-line.lines c.next.new.self line c.is_commit-commits.result c.in_ok-answer.answer
                c.loop-line.summary c.count.new.self _ (parts ∙ ap (λ (rest : List Line). line ∷ rest) (sym c.in_ok-line.ensures.rest))
                c.is_commit-commits.ensures (c.in_ok-answer.ensures.answer t stands_then) c.count.ensures all,
          );
      goes_on = c.in_ok-answer.ensures.goes_on;
      rows = subst (AllByRecursion AsksForRow) (sym c.in_ok-line.ensures.rest)
          (subst (AllByRecursion AsksForRow) parts before.rows).1;
      steady = (c.in_ok-answer.ensures.cause before.goes_on).steady (λ by. by) ∙ before.steady;
    }

pub loop-line-preserved-in_ok-answer-2 : goal.loop-line-preserved-in_ok-answer-2
loop-line-preserved-in_ok-answer-2 g c =
    let line = c.in-Some.line in
    let parts = first_of c.loop-line.lines line (sym c.in_ok-line.ensures.line ∙ c.in-Some.is) in
    let before = c.loop-line.invariant in
    record {
      under_way = λ s stands.
          let (t, stands_then, all) = before.under_way s stands in (
            state_after t line,
            c.in_ok-answer.ensures.after t stands_then,
            counts_one t c.loop-line.lines c.next.new.self line c.is_commit-commits.result c.in_ok-answer.answer
                c.loop-line.summary c.count.new.self _ (parts ∙ ap (λ (rest : List Line). line ∷ rest) (sym c.in_ok-line.ensures.rest))
                c.is_commit-commits.ensures (c.in_ok-answer.ensures.answer t stands_then) c.count.ensures all,
          );
      goes_on = c.in_ok-answer.ensures.goes_on;
      rows = subst (AllByRecursion AsksForRow) (sym c.in_ok-line.ensures.rest)
          (subst (AllByRecursion AsksForRow) parts before.rows).1;
      steady = (c.in_ok-answer.ensures.cause before.goes_on).steady (λ by. by) ∙ before.steady;
    }

pub loop-line-preserved-in_ok-answer-3 : goal.loop-line-preserved-in_ok-answer-3
loop-line-preserved-in_ok-answer-3 g c =
    let line = c.in-Some.line in
    let parts = first_of c.loop-line.lines line (sym c.in_ok-line.ensures.line ∙ c.in-Some.is) in
    let before = c.loop-line.invariant in
    record {
      under_way = λ s stands.
          let (t, stands_then, all) = before.under_way s stands in (
            state_after t line,
            c.in_ok-answer.ensures.after t stands_then,
            counts_one t c.loop-line.lines c.next.new.self line c.is_commit-commits.result c.in_ok-answer.answer
                c.loop-line.summary c.count.new.self _ (parts ∙ ap (λ (rest : List Line). line ∷ rest) (sym c.in_ok-line.ensures.rest))
                c.is_commit-commits.ensures (c.in_ok-answer.ensures.answer t stands_then) c.count.ensures all,
          );
      goes_on = c.in_ok-answer.ensures.goes_on;
      rows = subst (AllByRecursion AsksForRow) (sym c.in_ok-line.ensures.rest)
          (subst (AllByRecursion AsksForRow) parts before.rows).1;
      steady = (c.in_ok-answer.ensures.cause before.goes_on).steady (λ by. by) ∙ before.steady;
    }

pub loop-line-preserved-in_ok-answer-4 : goal.loop-line-preserved-in_ok-answer-4
loop-line-preserved-in_ok-answer-4 g c =
    let line = c.in-Some.line in
    let parts = first_of c.loop-line.lines line (sym c.in_ok-line.ensures.line ∙ c.in-Some.is) in
    let before = c.loop-line.invariant in
    record {
      under_way = λ s stands.
          let (t, stands_then, all) = before.under_way s stands in (
            state_after t line,
            c.in_ok-answer.ensures.after t stands_then,
            counts_one t c.loop-line.lines c.next.new.self line c.is_commit-commits.result c.in_ok-answer.answer
                c.loop-line.summary c.count.new.self _ (parts ∙ ap (λ (rest : List Line). line ∷ rest) (sym c.in_ok-line.ensures.rest))
                c.is_commit-commits.ensures (c.in_ok-answer.ensures.answer t stands_then) c.count.ensures all,
          );
      goes_on = c.in_ok-answer.ensures.goes_on;
      rows = subst (AllByRecursion AsksForRow) (sym c.in_ok-line.ensures.rest)
          (subst (AllByRecursion AsksForRow) parts before.rows).1;
      steady = (c.in_ok-answer.ensures.cause before.goes_on).steady (λ by. by) ∙ before.steady;
    }

pub loop-line-preserved-in_ok-answer-5 : goal.loop-line-preserved-in_ok-answer-5
loop-line-preserved-in_ok-answer-5 g c =
    let line = c.in-Some.line in
    let parts = first_of c.loop-line.lines line (sym c.in_ok-line.ensures.line ∙ c.in-Some.is) in
    let before = c.loop-line.invariant in
    record {
      under_way = λ s stands.
          let (t, stands_then, all) = before.under_way s stands in (
            state_after t line,
            c.in_ok-answer.ensures.after t stands_then,
            counts_one t c.loop-line.lines c.next.new.self line c.is_commit-commits.result c.in_ok-answer.answer
                c.loop-line.summary c.count.new.self _ (parts ∙ ap (λ (rest : List Line). line ∷ rest) (sym c.in_ok-line.ensures.rest))
                c.is_commit-commits.ensures (c.in_ok-answer.ensures.answer t stands_then) c.count.ensures all,
          );
      goes_on = c.in_ok-answer.ensures.goes_on;
      rows = subst (AllByRecursion AsksForRow) (sym c.in_ok-line.ensures.rest)
          (subst (AllByRecursion AsksForRow) parts before.rows).1;
      steady = (c.in_ok-answer.ensures.cause before.goes_on).steady (λ by. by) ∙ before.steady;
    }

pub loop-line-preserved-in_ok-answer-6 : goal.loop-line-preserved-in_ok-answer-6
loop-line-preserved-in_ok-answer-6 g c =
    let line = c.in-Some.line in
    let parts = first_of c.loop-line.lines line (sym c.in_ok-line.ensures.line ∙ c.in-Some.is) in
    let before = c.loop-line.invariant in
    record {
      under_way = λ s stands.
          let (t, stands_then, all) = before.under_way s stands in (
            state_after t line,
            c.in_ok-answer.ensures.after t stands_then,
            counts_one t c.loop-line.lines c.next.new.self line c.is_commit-commits.result c.in_ok-answer.answer
                c.loop-line.summary c.count.new.self _ (parts ∙ ap (λ (rest : List Line). line ∷ rest) (sym c.in_ok-line.ensures.rest))
                c.is_commit-commits.ensures (c.in_ok-answer.ensures.answer t stands_then) c.count.ensures all,
          );
      goes_on = c.in_ok-answer.ensures.goes_on;
      rows = subst (AllByRecursion AsksForRow) (sym c.in_ok-line.ensures.rest)
          (subst (AllByRecursion AsksForRow) parts before.rows).1;
      steady = (c.in_ok-answer.ensures.cause before.goes_on).steady (λ by. by) ∙ before.steady;
    }

pub loop-line-preserved-in_ok-answer-7 : goal.loop-line-preserved-in_ok-answer-7
loop-line-preserved-in_ok-answer-7 g c =
    let line = c.in-Some.line in
    let parts = first_of c.loop-line.lines line (sym c.in_ok-line.ensures.line ∙ c.in-Some.is) in
    let before = c.loop-line.invariant in
    record {
      under_way = λ s stands.
          let (t, stands_then, all) = before.under_way s stands in (
            state_after t line,
            c.in_ok-answer.ensures.after t stands_then,
            counts_one t c.loop-line.lines c.next.new.self line c.is_commit-commits.result c.in_ok-answer.answer
                c.loop-line.summary c.count.new.self _ (parts ∙ ap (λ (rest : List Line). line ∷ rest) (sym c.in_ok-line.ensures.rest))
                c.is_commit-commits.ensures (c.in_ok-answer.ensures.answer t stands_then) c.count.ensures all,
          );
      goes_on = c.in_ok-answer.ensures.goes_on;
      rows = subst (AllByRecursion AsksForRow) (sym c.in_ok-line.ensures.rest)
          (subst (AllByRecursion AsksForRow) parts before.rows).1;
      steady = (c.in_ok-answer.ensures.cause before.goes_on).steady (λ by. by) ∙ before.steady;
    }

pub loop-line-preserved-in_ok-answer-8 : goal.loop-line-preserved-in_ok-answer-8
loop-line-preserved-in_ok-answer-8 g c =
    let line = c.in-Some.line in
    let parts = first_of c.loop-line.lines line (sym c.in_ok-line.ensures.line ∙ c.in-Some.is) in
    let before = c.loop-line.invariant in
    record {
      under_way = λ s stands.
          let (t, stands_then, all) = before.under_way s stands in (
            state_after t line,
            c.in_ok-answer.ensures.after t stands_then,
            counts_one t c.loop-line.lines c.next.new.self line c.is_commit-commits.result c.in_ok-answer.answer
                c.loop-line.summary c.count.new.self _ (parts ∙ ap (λ (rest : List Line). line ∷ rest) (sym c.in_ok-line.ensures.rest))
                c.is_commit-commits.ensures (c.in_ok-answer.ensures.answer t stands_then) c.count.ensures all,
          );
      goes_on = c.in_ok-answer.ensures.goes_on;
      rows = subst (AllByRecursion AsksForRow) (sym c.in_ok-line.ensures.rest)
          (subst (AllByRecursion AsksForRow) parts before.rows).1;
      steady = (c.in_ok-answer.ensures.cause before.goes_on).steady (λ by. by) ∙ before.steady;
    }
