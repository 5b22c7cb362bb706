use Rattle.std.proofs.Common.{◌≡◌, ◌∙◌, sym, refl, subst, arith, List, ℕ}
use Rattle.vl_table.proofs.AnswerSteps.{and_then, refuses}
use Rattle.vl_table.specs.Opening.{FooterIn}
use Rattle.vl_table.proofs.Parts.{whole_rest}
use Rattle.vl_table.proofs.open.read_foot.Goals as goal

pub returns : goal.returns
returns g c =
    and_then _ _ _ c.args.number _ _ _ _ _ (λ bytes damage. damage ≡ c.args.place) _ c.in_ok-bytes.bytes _ (λ bytes told read x good. good)
    (λ bytes told read p bad. (
      λ f stands.
          let rest = c.deref.ensures.value ∙ read
          ∙ whole_rest c.args.place _ bytes (omega (arith, c.len.ensures, g.met.H.HeldFile.sized c.args.held.now bytes told)) in
          let none = rw c.in-None.is at c.in_ok-footer.ensures.none in
          none f (subst (λ (l : List ℕ). FooterIn c.args.format c.args.number c.args.place l f) (sym rest) stands),
      bad,
    ))
    c.in_ok-bytes.ensures
    (refuses _ c.args.number c.args.place _ _ _ c.damaged.result c.damaged.ensures (λ bytes told. refl))
