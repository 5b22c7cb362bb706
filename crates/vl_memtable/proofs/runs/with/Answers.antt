use Rattle.std.proofs.Common.{◌≡◌, ◌*◌, ◌<◌, ◌++◌, ◌∷◌, [], length, drop, sym, ap, ◌∙◌, subst, arith}
use Rattle.std.proofs.lemmas.List.{take_rest, get_or_default}
use Rattle.vl_model.specs.Entries.{in_order}
use Rattle.vl_model.specs.EntryOrder.{IsInOrder}
use Rattle.vl_memtable.specs.Contents.{all_of, AreRuns}
use Rattle.vl_memtable.proofs.RunLists.{IsFinished, joins_first, joins_at, joined-entries, are_joined, finished_at, finished_past, all-drop}
use Rattle.vl_memtable.proofs.runs.with.Goals as goal
use Rattle.vl_memtable.proofs.runs.with.Goals.{then-joining-test+else-len, else-joining-test}

pub joining-init : goal.joining-init
joining-init c = record {
  place = omega arith;
  joins = joins_first c.args.run c.args.runs.now
      (subst IsInOrder c.as_slice.ensures.entries c.as_slice.ensures.in_order) c.requires.new c.requires.runs c.requires.some;
}

pub joining-preserved : goal.joining-preserved
joining-preserved c =
    let runs = c.args.runs.now in
    let i = c.joining.joined in
    let tested = c.index-runs-joined.result in
    let next = c.index-runs-joined-in-joining.result in
    let same : tested ≡ next = c.index-runs-joined.is ∙ get_or_default runs i tested next c.joining-test.true
    ∙ sym c.index-runs-joined-in-joining.is in
    let less : length next < 2 * length c.joining.front = let test = c.if-len.true in omega
    (arith, c.len.ensures, c.len-in-joining.ensures, ap length same, test) in
    record {
      place = omega arith;
      joins = joins_at c.args.run c.joining.front runs i next c.in_ok-front.front c.joining-test.true
          c.index-runs-joined-in-joining.is c.joining.invariant.joins less c.in_ok-front.ensures;
    }

pub returns-clause-entries : goal.returns-clause-entries
returns-clause-entries c =
    let runs = c.args.runs.now in
    let i = c.joining.joined in
    let front = c.joining.front in
    let all : c.share_all.new.all.items ≡ front ∷ drop i runs =
    c.in_ok-share_all.ensures ∙ ap (λ l. c.push.new.self.items ++ l) (take_rest runs i)
    ∙ ap (λ l. l ++ drop i runs) (c.in_ok-push.ensures.items ∙ ap (λ l. l ++ front ∷ []) c.new-all.ensures.items) in
    ap (λ l. in_order (all_of l)) all ∙ joined-entries c.args.run front runs (drop i runs) c.joining.invariant.joins

pub returns-clause-are : goal.returns-clause-are
returns-clause-are c =
    let runs = c.args.runs.now in
    let i = c.joining.joined in
    let front = c.joining.front in
    let all : c.share_all.new.all.items ≡ front ∷ drop i runs =
    c.in_ok-share_all.ensures ∙ ap (λ l. c.push.new.self.items ++ l) (take_rest runs i)
    ∙ ap (λ l. l ++ drop i runs) (c.in_ok-push.ensures.items ∙ ap (λ l. l ++ front ∷ []) c.new-all.ensures.items) in
    let here : IsInOrder front = subst IsInOrder c.as_slice-2.ensures.entries c.as_slice-2.ensures.in_order in
    let finished : IsFinished front (drop i runs) = elim c.joining-test.branch [
      | then-joining-test+else-len w ↦
          finished_at front runs i w.index-runs-joined.result w.joining-test.true w.index-runs-joined.is
          (let test = w.if-len.false in omega (arith, w.len.ensures, w.len-in-joining.ensures, test))
      | else-joining-test w ↦ finished_past front runs i (let test = w.joining-test.false in omega (arith, test))
    ] in
    subst AreRuns (sym all) (are_joined c.args.run front runs (drop i runs) c.joining.invariant.joins finished
    c.requires.runs here (all-drop IsInOrder runs i c.requires.runs.rising) (all-drop (λ r. 0 < length r) runs i c.requires.runs.some))
