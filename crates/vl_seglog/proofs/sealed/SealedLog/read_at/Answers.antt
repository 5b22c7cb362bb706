use Rattle.std.proofs.Common.{◌≡◌, ℕ, List, Some, ap, sym, ◌∙◌, length, arith}
use Rattle.vl_model.specs.Keys.{tagged}
use Rattle.vl_seglog.proofs.AnswerSteps.{and_then, then_gives}
use Rattle.vl_seglog.proofs.Cut.{cut_from}
use Rattle.vl_disk.specs.DiskState.{bytes_at}
use Rattle.vl_seglog.proofs.sealed.SealedLog.read_at.Goals as goal

pub returns-clause-answers : goal.returns-clause-answers
returns-clause-answers g c =
    let lying = c.in_ok-lying.lying in
    and_then _ _ _ c.args.self.now.number _ _
    (λ bytes value. value ≡ tagged (bytes_at lying.place lying.length bytes) lying.tag) _ _ (λ bytes damage. ⊥) _ c.in_ok-lying.lying _
    (λ bytes told found value is. found ∙ ap Some (sym is))
    (λ bytes told found p bad. absurd bad)
    c.in_ok-lying.ensures.answers
    (then_gives _ _ c.args.self.now.number _ _ _ _ _ c.in_ok-fill.field-0 _
    (λ bytes told read.
    let cut = cut_from lying.place lying.length bytes c.resize.new.self c.fill.new.out (length c.deref_mut.result.now) read
    (omega (arith, c.deref_mut.ensures.len, c.in_ok-resize.ensures.len)) (omega (arith, c.deref_mut.ensures.len))
    (omega (arith, g.met.H.HeldFile.sized c.args.self.now.held bytes told, c.in_ok-lying.ensures.inside)) in
    c.in_ok-new.ensures ∙ ap (λ (l : List ℕ). tagged l lying.tag) cut)
    c.in_ok-fill.ensures.answers)
