use Rattle.std.proofs.Common.{◌≡◌, ◌+◌, List, ◌∷◌, drop, get_or, refl, subst, sym, take, ◌∙◌, ⊎_elim}
use Rattle.std.specs.Prelude.{Contains}
use Rattle.std.proofs.lemmas.Bool.{true≢false}
use Rattle.std.proofs.lemmas.List.{drop_all, drop_more, take-append-drop}
use Rattle.std.proofs.lemmas.List.Elements.{Contains-append_right}
use Rattle.vl_disk.specs.declared.name.Name.{Name}
use Rattle.vl_disk.specs.declared.name.Name.TheVariants.{Log}
use Rattle.vl_recover.proofs.opening.Naming.{Contains-cases, Contains-first, nothing_in}
use Rattle.vl_recover.proofs.names.has.Goals as goal

pub loop-other-init : goal.loop-other-init
loop-other-init c = λ in_all. in_all

pub loop-other-preserved : goal.loop-other-preserved
loop-other-preserved c = λ in_all.
    let names = c.args.names.now in
    let i = c.loop-other.other-index in
    let first = get_or names i (Log 0) in
    let rest = drop (i + 1) names in
    ⊎_elim
    (λ (e : first ≡ c.args.name). absurd (true≢false (sym (c.is_same.ensures.1 e) ∙ c.if-is_same.false)))
    (λ (left : Contains rest c.args.name). left)
    (Contains-cases first c.args.name rest
    (subst (λ (l : List Name). Contains l c.args.name) (drop_more names i (Log 0) c.loop-other-test.true) (c.loop-other.invariant in_all)))

pub returns-then-is_same : goal.returns-then-is_same
returns-then-is_same c =
    let names = c.args.names.now in
    let i = c.loop-other.other-index in
    let first = get_or names i (Log 0) in
    let rest = drop (i + 1) names in (
      λ _. subst (λ (l : List Name). Contains l c.args.name) (take-append-drop i names)
          (Contains-append_right (take i names) (drop i names) c.args.name
          (subst (λ (l : List Name). Contains l c.args.name) (sym (drop_more names i (Log 0) c.loop-other-test.true))
          (subst (λ (n : Name). Contains (first ∷ rest) n) (c.is_same.ensures.0 c.if-is_same.true) (Contains-first first rest)))),
      λ _. refl,
    )

pub returns : goal.returns
returns c = (
  λ no. absurd (true≢false (sym no)),
  λ in_all. absurd (nothing_in c.args.name
      (subst (λ (l : List Name). Contains l c.args.name) (drop_all c.loop-other.other-index c.args.names.now c.loop-other-test.false)
      (c.loop-other.invariant in_all))),
)
