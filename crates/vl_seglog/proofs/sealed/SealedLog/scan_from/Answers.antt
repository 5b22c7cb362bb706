use Rattle.std.proofs.Common.{◌≡◌, Some, refl, sym, subst, ◌∙◌, length, arith}
use Rattle.vl_disk.specs.DiskState.{bytes_at}
use Rattle.vl_seglog.proofs.AnswerSteps.{and_then, then_gives, then_refuses}
use Rattle.vl_seglog.proofs.Cut.{cut_from}
use Rattle.vl_seglog.specs.Reading.{frame_of}
use Rattle.vl_seglog.specs.Sealed.{IsFound}
use Rattle.vl_seglog.proofs.Scanning.{none_there, stands_there}
use Rattle.vl_seglog.proofs.sealed.SealedLog.scan_from.Goals as goal

pub returns-in-None-clause-answers : goal.returns-in-None-clause-answers
returns-in-None-clause-answers g c =
    and_then _ _ _ c.args.self.now.number _ _ _ _ _
    (λ bytes at. (c.deref.result.now ≡ bytes_at c.args.place c.in_ok-length.length bytes) × (at ≡ c.args.place)) _ c.in_ok-length.length _
    (λ bytes told has x good. good)
    (λ bytes told has at cut. (
      record {
        within = omega (arith, g.met.H.HeldFile.sized c.args.self.now.held bytes told, c.len.ensures);
        none = none_there c.args.self.now.format c.args.self.now.number c.args.place bytes c.in_ok-length.length
            c.deref.result.now cut.0 has (rw c.in-None.is at c.in_ok-read_next.ensures.none);
      },
      cut.1,
    ))
    c.in_ok-length.ensures.answers
    (then_refuses _ _ c.args.self.now.number c.args.place _ _ _ _ _ c.in_ok-fill.field-0 _ c.damaged.ensures
    (λ bytes told read. (
      c.deref.ensures.value ∙ cut_from c.args.place c.in_ok-length.length bytes c.resize.new.self c.fill.new.out
          (length c.deref_mut.result.now) read
          (omega (arith, c.deref_mut.ensures.len, c.in_ok-resize.ensures.len)) (omega (arith, c.deref_mut.ensures.len))
          (omega (arith, g.met.H.HeldFile.sized c.args.self.now.held bytes told, c.in_ok-length.ensures.inside)),
      refl,
    )) c.in_ok-fill.ensures.answers)

pub returns-clause-answers : goal.returns-clause-answers
returns-clause-answers g c =
    and_then _ _ _ c.args.self.now.number _ _
    (λ bytes found. (c.deref.result.now ≡ bytes_at c.args.place c.in_ok-length.length bytes)
    × (found ≡ Some c.in-Some.frame)) _ _ (λ bytes at. ⊥) _ c.in_ok-length.length _
    (λ bytes told has found cut. subst (IsFound c.args.self.now.format c.args.self.now.number c.args.place bytes) (sym cut.1) (
      _,
      stands_there c.args.self.now.format c.args.self.now.number c.args.place bytes c.in_ok-length.length
          c.deref.result.now cut.0 (frame_of c.in-Some.frame) _ (rw c.in-Some.is at c.in_ok-read_next.ensures.found),
    ))
    (λ bytes told has at bad. absurd bad)
    c.in_ok-length.ensures.answers
    (then_gives _ _ c.args.self.now.number _ _ _ _ _ c.in_ok-fill.field-0 _
    (λ bytes told read. (
      c.deref.ensures.value ∙ cut_from c.args.place c.in_ok-length.length bytes c.resize.new.self c.fill.new.out
          (length c.deref_mut.result.now) read
          (omega (arith, c.deref_mut.ensures.len, c.in_ok-resize.ensures.len)) (omega (arith, c.deref_mut.ensures.len))
          (omega (arith, g.met.H.HeldFile.sized c.args.self.now.held bytes told, c.in_ok-length.ensures.inside)),
      refl,
    )) c.in_ok-fill.ensures.answers)

pub returns-clause-lawful : goal.returns-clause-lawful
returns-clause-lawful g c = (rw c.in-Some.is at c.in_ok-read_next.ensures.found).lawful
