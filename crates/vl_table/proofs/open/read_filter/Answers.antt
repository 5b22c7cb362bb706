use Rattle.std.proofs.Common.{◌≡◌, ◌∙◌, sym, refl, subst, List, ℕ}
use Rattle.vl_filter.specs.Filters.{SpellsFilter}
use Rattle.vl_frame.specs.laws.Laws.{one_frame}
use Rattle.vl_frame.specs.declared.kinds.FileKind.TheVariants as files
use Rattle.vl_frame.specs.declared.kinds.FrameKind.TheVariants as kinds
use Rattle.vl_table.proofs.AnswerSteps.{and_then, refuses}
use Rattle.vl_table.proofs.open.read_filter.Goals as goal

pub returns : goal.returns
returns g c =
    let place = c.args.at.now.place in
    and_then _ _ _ c.args.number _ _ _ _ _ (λ bytes damage. damage ≡ place) _ c.in_ok-read_part.field-0 _ (λ bytes told read x good. good)
    (λ bytes told read p bad. (
      λ bits stands.
          let same = one_frame files.Table c.args.number place _ kinds.Filter kinds.Filter read.0 stands.body
          read.1.frame stands.frame.frame in
          let body = c.body_of.ensures.framed c.args.number place kinds.Filter read.0 (c.deref.ensures.value ∙ read.2) in
          c.in-None.ensures.none bits (subst (λ (b : List ℕ). SpellsFilter b bits) (sym (body ∙ same.1)) stands.says),
      bad,
    ))
    c.in_ok-read_part.ensures.answers
    (refuses _ c.args.number place _ _ _ c.damaged.result c.damaged.ensures (λ bytes told. refl))
