use Rattle.std.proofs.Common.{◌≡◌, ◌++◌, ℕ, List, drop, ap, subst, sym, refl, arith}
use Rattle.std.proofs.lemmas.List.{length-take-le}
use Rattle.vl_disk.specs.DiskState.{bytes_at}
use Rattle.vl_model.specs.Keys.{tagged}
use Rattle.vl_seglog.specs.Sealed.{IsFilled}
use Rattle.vl_seglog.specs.Stored.{stored_at}
use Rattle.vl_seglog.specs.declared.sealed.Filled.TheVariants.{Here}
use Rattle.vl_seglog.proofs.AnswerSteps.{and_then, then_gives}
use Rattle.vl_seglog.proofs.Cut.{length-cut, read_so}
use Rattle.vl_seglog.proofs.sealed.SealedLog.read_into.Goals as goal

pub returns-clause-answers : goal.returns-clause-answers
returns-clause-answers g c =
    let lying = c.in_ok-lying.lying in
    let old = c.args.out.now in
    and_then _ _ _ c.args.self.now.number _ _
    (λ bytes filled. (c.fill.new.out ≡ bytes_at lying.place lying.length bytes) × (filled ≡ Here lying.length)) _ _
    (λ bytes damage. ⊥) _ c.in_ok-lying.lying _
    (λ bytes told found filled is. subst
    (IsFilled (stored_at c.args.self.now.format bytes c.args.pointer c.args.key.now) old
    (c.fill.new.out ++ drop lying.length old)) (sym is.1)
    (record {
      value = tagged (bytes_at lying.place lying.length bytes) lying.tag;
      is = found;
      long = sym (length-cut lying.place lying.length bytes
          (omega (arith, g.met.H.HeldFile.sized c.args.self.now.held bytes told, c.in_ok-lying.ensures.inside)));
      room = omega arith;
      filled = ap (λ (l : List ℕ). l ++ drop lying.length old) is.0;
    }))
    (λ bytes told found p bad. absurd bad)
    c.in_ok-lying.ensures.answers
    (then_gives _ _ c.args.self.now.number _ _ _ _ _ c.in_ok-fill.field-0 _
    (λ bytes told read. (read_so _ bytes lying.place _ lying.length read (length-take-le lying.length old (omega arith)), refl))
    c.in_ok-fill.ensures.answers)
