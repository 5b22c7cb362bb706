use Rattle.std.proofs.Common.{◌≤◌, length, ap, sym, subst, ◌∙◌, arith}
use Rattle.std.specs.FinMap.{is_sorted, put}
use Rattle.std.specs.Option.{option_to_list}
use Rattle.vl_model.specs.Keys.{key_cmp}
use Rattle.vl_conflict.specs.Trees.{named, height_of}
use Rattle.vl_conflict.specs.declared.tree.Tree.{Tree}
use Rattle.vl_conflict.specs.declared.tree.Tree.TheVariants.{Fork}
use Rattle.vl_conflict.specs.laws.OrderLaws.{put_rising}
use Rattle.vl_conflict.proofs.Balance.{length-put-le, whole-low, whole-shallow}
use Rattle.vl_conflict.proofs.last_commit_map.LastCommitMap.insert.Goals as goal

pub put-requires-clause-low : goal.put-requires-clause-low
put-requires-clause-low c =
    let low = whole-low c.self.inside.root c.self.invariant.whole (omega (arith, c.self.invariant.few, c.self.invariant.most)) in
    let P : Tree → Type 0 = λ t. height_of t ≤ 254 in
    subst P (sym c.replace-root.ensures.value) low

pub invariant_of-self : goal.invariant_of-self
invariant_of-self c =
    let key = c.alone.result.key in
    let number = c.alone.result.number in
    let root = c.self.inside.root in
    let named_is = c.put.ensures.named ∙ ap (λ (t : Tree). put key_cmp key number (named t)) c.replace-root.ensures.value in
    let count = ap length named_is in
    let most = length-put-le key number (named root) c.self.invariant.sorted in
    let one = ap (λ o. length (option_to_list o)) c.unwrap-node.ensures in
    record {
      sorted = ap (is_sorted key_cmp) named_is ∙ put_rising (named root) key number c.self.invariant.sorted;
      whole = c.put.ensures.whole;
      few = omega (arith, c.self.invariant.few, c.pop.ensures.len);
      most = c.self.invariant.most;
    }

pub returns-clause-shallow : goal.returns-clause-shallow
returns-clause-shallow c = whole-shallow (Fork c.put.result) c.put.ensures.whole
