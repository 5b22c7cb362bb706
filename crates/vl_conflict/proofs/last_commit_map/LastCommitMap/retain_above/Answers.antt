use Rattle.std.proofs.Common.{◌≤◌, length, ap, sym, subst, ◌∙◌, arith}
use Rattle.std.specs.FinMap.{is_sorted}
use Rattle.std.specs.List.{filter}
use Rattle.vl_model.specs.Keys.{key_cmp}
use Rattle.vl_conflict.specs.Notes.{is_above_floor}
use Rattle.vl_conflict.specs.Trees.{named, height_of}
use Rattle.vl_conflict.specs.declared.tree.Tree.{Tree}
use Rattle.vl_conflict.specs.laws.OrderLaws.{filter_rises}
use Rattle.vl_conflict.proofs.Balance.{length-filter-le, whole-low, whole-shallow}
use Rattle.vl_conflict.proofs.last_commit_map.LastCommitMap.retain_above.Goals as goal

pub pruned-requires-clause-low : goal.pruned-requires-clause-low
pruned-requires-clause-low c =
    let low = whole-low c.self.inside.root c.self.invariant.whole (omega (arith, c.self.invariant.few, c.self.invariant.most)) in
    let P : Tree → Type 0 = λ t. height_of t ≤ 255 in
    subst P (sym c.replace-root.ensures.value) (omega arith)

pub invariant_of-self : goal.invariant_of-self
invariant_of-self c =
    let floor = c.args.floor in
    let root = c.self.inside.root in
    let named_is = c.pruned.ensures.named ∙ ap (λ (t : Tree). filter (is_above_floor floor) (named t)) c.replace-root.ensures.value in
    let count = ap length named_is in
    let fewer = length-filter-le (is_above_floor floor) (named root) in
    record {
      sorted = ap (is_sorted key_cmp) named_is ∙ filter_rises (is_above_floor floor) (named root) c.self.invariant.sorted;
      whole = c.pruned.ensures.whole;
      few = omega (arith, c.self.invariant.few);
      most = c.self.invariant.most;
    }

pub returns-clause-shallow : goal.returns-clause-shallow
returns-clause-shallow c = whole-shallow c.pruned.result c.pruned.ensures.whole
