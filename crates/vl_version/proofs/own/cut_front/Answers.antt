use Rattle.std.proofs.Common.{◌-◌, ap, sym, ◌∙◌, drop, length, subst, arith, length-drop, List}
use Rattle.std.proofs.lemmas.List.{take_all}
use Rattle.std.specs.Prelude.{IsTrue}
use Rattle.std.specs.FinMap.{is_sorted}
use Rattle.vl_model.specs.Keys.{key_cmp}
use Rattle.vl_version.proofs.CutLaws.{Write, front_cut, sorted_front}
use Rattle.vl_version.proofs.own.cut_front.Goals as goal

pub returns-clause-cut : goal.returns-clause-cut
returns-clause-cut c =
    let writes : List Write = c.args.writes.now in
    let n = c.count_below-first.result in
    take_all (length writes - n) (drop n writes) (omega (arith, length-drop n writes))
    ∙ ap (λ k. drop k writes) c.count_below-first.ensures.count ∙ front_cut writes c.requires c.args.low.now

pub returns-clause-sorted : goal.returns-clause-sorted
returns-clause-sorted c =
    let writes : List Write = c.args.writes.now in
    let n = c.count_below-first.result in
    let is =
    take_all (length writes - n) (drop n writes) (omega (arith, length-drop n writes))
    ∙ ap (λ k. drop k writes) c.count_below-first.ensures.count ∙ front_cut writes c.requires c.args.low.now in
    subst (λ (ws : List Write). IsTrue (is_sorted key_cmp ws)) (sym is) (sorted_front writes c.requires c.args.low.now)
