use Rattle.std.proofs.Common.{◌≡◌, ◌∙◌, ap, refl, subst, sym, true, ℕ}
use Rattle.vl_disk.specs.DiskState.{bytes_at}
use Rattle.vl_frame.specs.declared.kinds.FrameKind.TheVariants as kinds
use Rattle.vl_table.specs.Begun.{FrameAt}
use Rattle.vl_table.specs.Tested.{body_in}
use Rattle.vl_table.proofs.AnswerSteps.{and_then, gives}
use Rattle.vl_table.proofs.TestedSteps.{frame_stands}
use Rattle.vl_table.proofs.block.read_tested.Goals as goal

pub returns-then-has-clause-answers : goal.returns-then-has-clause-answers
returns-then-has-clause-answers g c =
    let id = c.args.id in
    and_then _ _ _ id.number _ _ (λ bytes known. known ≡ true) _ _ (λ bytes damage. ⊥) _ tt _
    (λ bytes told read known is.
    let tested = c.has.ensures c.if-has.true bytes told in (
      body_in (bytes_at id.place id.length bytes),
      subst (λ (n : ℕ). FrameAt id.number bytes id.place n kinds.Block (body_in (bytes_at id.place id.length bytes)))
          (sym c.requires.sized) (frame_stands id bytes tested.0),
      read ∙ ap (λ (n : ℕ). bytes_at id.place n bytes) c.requires.sized ∙ tested.0.0,
      λ _. tested.1,
    ))
    (λ bytes told read damage none. absurd none)
    c.in_ok-fill.ensures.answers
    (gives _ id.number _ _ _ true (λ bytes told. refl))
