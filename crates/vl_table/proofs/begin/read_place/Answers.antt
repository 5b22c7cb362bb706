use Rattle.std.proofs.Common.{◌≡◌, ◌-◌, ◌∙◌, ap, arith, drop, length, List, ℕ}
use Rattle.byteorder.specs.Endian.{big_number}
use Rattle.vl_table.specs.Begun.{said_place}
use Rattle.vl_table.proofs.AnswerSteps.{and_then, refuses}
use Rattle.vl_table.proofs.Parts.{whole_rest}
use Rattle.vl_table.proofs.begin.read_place.Goals as goal
use Rattle.vl_table.proofs.begin.read_place.Goals.{then-place-via-then-place, then-place-via-else-place+then-place-end}

pub returns-then-place-clause-answers : goal.returns-then-place-clause-answers
returns-then-place-clause-answers g c =
    and_then _ _ _ c.args.number _ _ _ _ _ (λ bytes damage. damage ≡ length bytes - 8) _ c.in_ok-fill_from.field-0 _
    (λ bytes told read x good. good)
    (λ bytes told read p bad. (
      λ inside.
          let long = g.met.H.HeldFile.sized c.args.held.now bytes told in
          let place : c.read_u64-place.result ≡ said_place bytes = c.read_u64-place.ensures
          ∙ ap (λ (l : List ℕ). big_number 8 l)
          (read ∙ whole_rest (c.len-end.result - 8) 8 bytes (omega (arith, c.len-end.ensures, long, c.requires.long)))
          ∙ ap (λ (n : ℕ). big_number 8 (drop n bytes)) (omega (arith, c.len-end.ensures, long)) in
          elim c.then-place.branch [
            | then-place-via-then-place w ↦ let few = w.if-place.true in omega (arith, place, inside.0, few)
            | then-place-via-else-place+then-place-end w ↦ let past = w.if-place-end.true in omega
                (arith, place, inside.1, past, c.len-end.ensures, long)
          ],
      bad,
    ))
    c.in_ok-fill_from.ensures.answers
    (refuses _ c.args.number _ _ _ _ c.damaged.result c.damaged.ensures
    (λ bytes told. let long = g.met.H.HeldFile.sized c.args.held.now bytes told in omega (arith, c.len-end.ensures, long)))
