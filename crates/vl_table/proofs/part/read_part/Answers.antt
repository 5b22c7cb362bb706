use Rattle.std.proofs.Common.{◌≡◌, ◌<◌, ◌≤◌, ◌+◌, ◌∙◌, ap, sym, refl, length, arith}
use Rattle.vl_table.proofs.AnswerSteps.{and_then, refuses, gives}
use Rattle.vl_table.proofs.Parts.{cut_from, lies_inside, spelled_of, stands, fills, length-cut}
use Rattle.vl_table.proofs.part.read_part.Goals as goal
use Rattle.vl_table.proofs.part.read_part.Goals.{then-place-len-via-then-place-len, then-place-len-via-else-place-len+then-size-len}

pub returns-then-place-len : goal.returns-then-place-len
returns-then-place-len g c =
    let outside : g.H.HeldFile.size c.args.held.now < c.args.place + c.args.size = elim c.then-place-len.branch [
      | then-place-len-via-then-place-len w ↦ let past = w.if-place-len.true in omega (arith, c.len.ensures)
      | then-place-len-via-else-place-len+then-size-len w ↦ let past = w.if-size-len.true in let
          within = w.if-place-len.false in omega (arith, c.len.ensures, w.len-else-place-len.ensures)
    ] in
    record {
      answers = refuses _ c.args.number c.args.place _ _ _ c.damaged.result c.damaged.ensures
          (λ bytes told. (
            λ body at. omega (
              arith,
              outside,
              g.met.H.HeldFile.sized c.args.held.now bytes told,
              lies_inside c.args.number c.args.place
                  c.args.size c.args.kind bytes body at,
            ),
            refl,
          ));
    }

pub returns-then-not-is_frame : goal.returns-then-not-is_frame
returns-then-not-is_frame g c =
    let sized : length c.deref_mut.result.now ≡ c.args.size = omega
    (arith, c.deref_mut.ensures.len, c.in_ok-resize.ensures.len, c.deref_mut.ensures.value) in
    let inside : c.args.place + c.args.size ≤ g.H.HeldFile.size c.args.held.now = omega
    (arith, c.if-place-len.false, c.if-size-len.false, c.len.ensures, c.len-else-place-len.ensures) in
    record {
      answers = and_then _ _ _ c.args.number _ _ _ _ _ (λ bytes damage. damage ≡ c.args.place) _
          c.in_ok-fill_from.field-0 _ (λ bytes told read x good. good)
          (λ bytes told read p bad. (
            λ body at.
                let cut = cut_from c.args.place c.args.size bytes c.resize.new.self c.fill_from.new.out
                (length c.deref_mut.result.now) read sized (omega (arith, sized, c.deref_mut.ensures.len))
                (omega (arith, inside, g.met.H.HeldFile.sized c.args.held.now bytes told)) in
                let one = spelled_of c.args.number c.args.place c.args.size c.args.kind bytes c.deref.result.now body
                (c.deref.ensures.value ∙ cut) at in
                let yes = c.is_frame.ensures.whole body one.0 one.1 in
                let no = c.if-not-is_frame.true in cc,
            bad,
          ))
          c.in_ok-fill_from.ensures.answers
          (refuses _ c.args.number c.args.place _ _ _ c.damaged-then-not-is_frame.result
          c.damaged-then-not-is_frame.ensures (λ bytes told. refl));
    }

pub returns : goal.returns
returns g c =
    let sized : length c.deref_mut.result.now ≡ c.args.size = omega
    (arith, c.deref_mut.ensures.len, c.in_ok-resize.ensures.len, c.deref_mut.ensures.value) in
    let inside : c.args.place + c.args.size ≤ g.H.HeldFile.size c.args.held.now = omega
    (arith, c.if-place-len.false, c.if-size-len.false, c.len.ensures, c.len-else-place-len.ensures) in
    let found = c.is_frame.ensures.found c.if-not-is_frame.false in
    record {
      answers = and_then _ _ _ c.args.number _ _ (λ bytes done. Unit {0}) _ _ (λ bytes damage. ⊥) _ c.in_ok-fill_from.field-0 _
          (λ bytes told read x good.
          let cut = cut_from c.args.place c.args.size bytes c.resize.new.self c.fill_from.new.out
          (length c.deref_mut.result.now) read sized (omega (arith, sized, c.deref_mut.ensures.len))
          (omega (arith, inside, g.met.H.HeldFile.sized c.args.held.now bytes told)) in
          let b = c.deref.result.now in
          let whole = c.deref.ensures.value ∙ cut in
          let at = stands c.args.number c.args.place c.args.size c.args.kind bytes b found.0 whole found.1 found.2
          (sym (ap length whole ∙ length-cut c.args.place c.args.size bytes
          (omega (arith, inside, g.met.H.HeldFile.sized c.args.held.now bytes told)))) in
          (found.0, at, sym c.deref.ensures.value ∙ fills c.args.number c.args.place b c.args.kind found.0 found.1 found.2))
          (λ bytes told read p bad. absurd bad)
          c.in_ok-fill_from.ensures.answers
          (gives _ c.args.number _ _ _ tt (λ bytes told. tt));
    }
