use Rattle.std.proofs.Common.{◌≡◌, refl, subst, sym, arith}
use Rattle.vl_table.proofs.AnswerSteps.{and_then, gives, refuses}
use Rattle.vl_table.proofs.Headers.{header_fewer, header_more}
use Rattle.vl_table.specs.Begun.{HasHeader, IsBegun}
use Rattle.vl_table.proofs.begin.read_begin.Goals as goal

pub returns-in-Some-clause-answers : goal.returns-in-Some-clause-answers
returns-in-Some-clause-answers g c =
    let format = c.in-Some.format in
    and_then _ _ _ c.args.number _ _ (λ bytes f. f ≡ format) _ _ (λ bytes damage. ⊥) _ c.in_ok-fill.field-0 _
    (λ bytes told read f is. subst (λ n. IsBegun n c.args.number bytes) (sym is) (record {
      long = omega (arith, g.met.H.HeldFile.sized c.args.held.now bytes told, c.len.ensures, c.if-len-lt-MIN_TABLE_BYTES.false);
      header = header_more format c.args.number bytes (subst (HasHeader format c.args.number) read c.in-Some.ensures.found);
    }))
    (λ bytes told read p bad. absurd bad) c.in_ok-fill.ensures.answers (gives _ c.args.number _ _ _ format (λ bytes told. refl))

pub returns-in-None-clause-answers : goal.returns-in-None-clause-answers
returns-in-None-clause-answers g c =
    and_then _ _ _ c.args.number _ _ _ _ _ (λ bytes damage. damage ≡ 0) _ c.in_ok-fill.field-0 _ (λ bytes told read x good. good)
    (λ bytes told read p bad. (
      λ format begun. c.in-None.ensures.none format
          (subst (HasHeader format c.args.number) (sym read) (header_fewer format c.args.number bytes begun.header)),
      bad,
    ))
    c.in_ok-fill.ensures.answers
    (refuses _ c.args.number 0 _ _ _ c.damaged-in-None.result c.damaged-in-None.ensures (λ bytes told. refl))
