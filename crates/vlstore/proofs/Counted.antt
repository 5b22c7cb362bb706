-- The commits of lawful steps have the numbers behind the first one, in order and each once.
use Rattle.std.proofs.Common.{◌≡◌, ℕ, ◌+◌, List, [], ◌∷◌, length, refl, ap, ◌∙◌}
use Rattle.vl_engine_model.specs.LockHistory.{IsLegalFrom, IsLegalStep, OpenThings, commits_of, number_after, put_after, things_after}
use Rattle.vl_engine_model.specs.declared.lock_history.LockEntry.{LockEntry}
use Rattle.vl_engine_model.specs.declared.lock_history.LockStep.{LockStep}
use Rattle.vl_engine_model.specs.declared.lock_history.LockStep.TheVariants.{Begun, Changed, Ended, JobEnded, PassEnded, Picked, Planned, Put}
use Rattle.vlstore.specs.Lists.{number_put, numbers_from, numbers_put}

pub puts_counted : (last : ℕ) (o : OpenThings) (es : List LockEntry) → IsLegalFrom last o es
    → numbers_put es ≡ numbers_from (last + 1) (length (commits_of es))
puts_counted last o [] legal = refl
puts_counted last o (e ∷ es) legal =
    by_step e.step legal.0.step (puts_counted (number_after e.step last) (things_after e o) es legal.1)
  where
    by_step : (step : LockStep) → IsLegalStep last o e.session step
        → numbers_put es ≡ numbers_from (number_after step last + 1) (length (commits_of es))
        → number_put step (numbers_put es) ≡ numbers_from (last + 1) (length (put_after step (commits_of es)))
    by_step (Begun ticket number) is rest = rest
    by_step (Put ticket number writes) is rest =
        ap (λ ns. number ∷ ns) rest ∙ ap (λ n. n ∷ numbers_from (n + 1) (length (commits_of es))) is.1
    by_step (Ended ticket) is rest = rest
    by_step Planned is rest = rest
    by_step JobEnded is rest = rest
    by_step Picked is rest = rest
    by_step PassEnded is rest = rest
    by_step Changed is rest = rest
