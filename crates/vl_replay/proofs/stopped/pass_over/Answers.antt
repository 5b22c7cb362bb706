use Rattle.std.proofs.Common.{◌≡◌, refl, ◌∙◌, ℕ, subst, arith, true, false}
use Rattle.std.specs.Prelude.{IsErr}
use Rattle.vl_disk.specs.Faults.{HasCause}
use Rattle.vl_script_model.specs.laws.PassingOver.{hands_all, hands_on}
use Rattle.vl_replay.proofs.stopped.pass_over.Goals as goal

pub loop-init : goal.loop-init
loop-init g c = record { told = λ had is. (had, is); steady = refl }

pub returns-in_err-next-clause-cause : goal.returns-in_err-next-clause-cause
returns-in_err-next-clause-cause g c =
    subst (λ (n : ℕ). HasCause n (g.S.Source.faults c.next.new.self) (IsErr c.from_residual.result)) c.loop.invariant.steady
    (record {
      later = c.next.ensures.cause.later;
      rose = λ _. c.in_err-next.ensures.cause.rose refl;
      steady = λ fine.
          absurd (fine c.from_residual.ensures.0);
    })

pub loop-smaller : goal.loop-smaller
loop-smaller g c = omega (arith, c.in_ok-next.ensures.spends, c.if-branch-gt0.true)

pub loop-preserved : goal.loop-preserved
loop-preserved g c = record {
  told = λ had told.
      let was = c.loop.invariant.told had told in
      let on = hands_on _ _ _ was.0 c.in_ok-next.ensures.given was.1 in
      (on.0, on.1);
  steady = c.in_ok-next.ensures.cause.steady (λ e. cc) ∙ c.loop.invariant.steady;
}

pub returns-clause-left : goal.returns-clause-left
returns-clause-left g c rest told =
    let was = c.loop.invariant.told rest told in
    hands_all _ _ _ was.0 c.in_ok-next.ensures.given (c.in_ok-next.ensures.end (omega (arith, c.if-branch-gt0.false))) was.1

pub returns-clause-cause : goal.returns-clause-cause
returns-clause-cause g c =
    subst (λ (n : ℕ). HasCause n (g.S.Source.faults c.next.new.self) (false ≡ true)) c.loop.invariant.steady
    (record {
      later = c.next.ensures.cause.later;
      rose = λ failed. absurd (not_failed failed);
      steady = λ fine.
          c.in_ok-next.ensures.cause.steady (λ e. cc);
    })
  where
    not_failed : false ≡ true → ⊥
    not_failed e = cc
