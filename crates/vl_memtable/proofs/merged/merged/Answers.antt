use Rattle.std.proofs.Common.{◌≡◌, ◌+◌, ◌++◌, ◌∷◌, [], drop, sym, ap, ◌∙◌, subst, arith}
use Rattle.std.proofs.lemmas.List.{take_rest}
use Rattle.vl_memtable.proofs.MergeSteps.{Merges, drop_at, takes_newer, takes_both, takes_older, ends_newer, ends_older}
use Rattle.vl_memtable.proofs.merged.merged.Goals as goal
use Rattle.vl_memtable.proofs.merged.merged.Goals.{then-steps-test+else-j-older, else-steps-test}

pub steps-preserved-in-Less : goal.steps-preserved-in-Less
steps-preserved-in-Less c =
    let newer = c.args.newer.now in
    let older = c.args.older.now in
    let both = c.steps.both.items in
    let a = c.index-newer-i.result in
    let b = c.index-older-j.result in
    let at_a = drop_at newer c.steps.i a (omega arith) c.index-newer-i.is in
    let at_b = drop_at older c.steps.j b (omega arith) c.index-older-j.is in
    record {
      new_place = omega arith;
      old_place = omega arith;
      merges =
          subst (λ l. Merges newer older l (c.steps.i + 1) c.steps.j)
          (sym (c.in_ok-push-in-Less.ensures.items ∙ ap (λ e. both ++ e ∷ []) c.in_ok-share-in-Less.ensures))
          (takes_newer newer older both c.steps.i c.steps.j a b c.requires.newer c.requires.older at_a at_b
          c.steps.invariant.merges (sym c.entry_order.ensures ∙ c.in-Less.is));
    }

pub steps-preserved-in-Equal : goal.steps-preserved-in-Equal
steps-preserved-in-Equal c =
    let newer = c.args.newer.now in
    let older = c.args.older.now in
    let both = c.steps.both.items in
    let a = c.index-newer-i.result in
    let b = c.index-older-j.result in
    let at_a = drop_at newer c.steps.i a (omega arith) c.index-newer-i.is in
    let at_b = drop_at older c.steps.j b (omega arith) c.index-older-j.is in
    record {
      new_place = omega arith;
      old_place = omega arith;
      merges =
          subst (λ l. Merges newer older l (c.steps.i + 1) (c.steps.j + 1))
          (sym (c.in_ok-push-in-Equal.ensures.items ∙ ap (λ e. both ++ e ∷ []) c.in_ok-share-in-Equal.ensures))
          (takes_both newer older both c.steps.i c.steps.j a b c.requires.newer c.requires.older at_a at_b
          c.steps.invariant.merges (sym c.entry_order.ensures ∙ c.in-Equal.is));
    }

pub steps-preserved : goal.steps-preserved
steps-preserved c =
    let newer = c.args.newer.now in
    let older = c.args.older.now in
    let both = c.steps.both.items in
    let a = c.index-newer-i.result in
    let b = c.index-older-j.result in
    let at_a = drop_at newer c.steps.i a (omega arith) c.index-newer-i.is in
    let at_b = drop_at older c.steps.j b (omega arith) c.index-older-j.is in
    record {
      new_place = omega arith;
      old_place = omega arith;
      merges =
          subst (λ l. Merges newer older l c.steps.i (c.steps.j + 1))
          (sym (c.in_ok-push-in-Greater.ensures.items ∙ ap (λ e. both ++ e ∷ []) c.in_ok-share-in-Greater.ensures))
          (takes_older newer older both c.steps.i c.steps.j a b c.requires.newer c.requires.older at_a at_b
          c.steps.invariant.merges (sym c.entry_order.ensures ∙ c.in-Greater.is));
    }

pub returns : goal.returns
returns c =
    let newer = c.args.newer.now in
    let older = c.args.older.now in
    let both = c.steps.both.items in
    let i = c.steps.i in
    let j = c.steps.j in
    let one : c.share_all.new.all.items ≡ both ++ drop i newer = c.in_ok-share_all.ensures ∙ ap (λ l. both ++ l) (take_rest newer i) in
    let two : c.share_all-2.new.all.items ≡ c.share_all.new.all.items ++ drop j older = c.in_ok-share_all-2.ensures
    ∙ ap (λ l. c.share_all.new.all.items ++ l) (take_rest older j) in
    let all : c.share_all-2.new.all.items ≡ (both ++ drop i newer) ++ drop j older = two ∙ ap (λ l. l ++ drop j older) one in
    elim c.steps-test.branch [
      | then-steps-test+else-j-older w ↦ all
          ∙ ends_older newer older both i j c.requires.newer (let past = w.if-j-older.false in omega arith) c.steps.invariant.merges
      | else-steps-test w ↦ all
          ∙ ends_newer newer older both i j c.requires.older (let past = w.steps-test.false in omega arith) c.steps.invariant.merges
    ]
