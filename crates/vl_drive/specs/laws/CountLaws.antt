-- Laws of counted steps: how many commits a list has, session by session.
use Rattle.std.proofs.Common.{◌≡◌, ℕ, zero, suc, ◌+◌, ◌<◌, ◌≤◌, ◌==◌, Bool, true, false, cond, ◌&&◌, List, [], ◌∷◌, length}
use Rattle.std.proofs.Common.{refl, ap, sym, ◌∙◌, arith}
use Rattle.std.proofs.lemmas.Bool.Decides.{nat_tests}
use Rattle.std.specs.List.{AllByRecursion}
use Rattle.vl_drive.specs.Accounts.{sum_of}
use Rattle.vl_drive.specs.Steps.{count_by, is_end, is_ended, is_put}
use Rattle.vl_engine_model.specs.LockHistory.{commits_of, put_after}
use Rattle.vl_engine_model.specs.declared.lock_history.LockEntry.{LockEntry}
use Rattle.vl_engine_model.specs.declared.lock_history.LockStep.{LockStep}
use Rattle.vl_engine_model.specs.declared.lock_history.LockStep.TheVariants.{Begun, Changed, Ended, JobEnded, PassEnded}
use Rattle.vl_engine_model.specs.declared.lock_history.LockStep.TheVariants.{Picked, Planned, Put}
use Rattle.vl_model.specs.Keys.{Writes}

abbrev one_if : Bool → ℕ
one_if b = cond b 1 0

put-counted : (step : LockStep) (later : List Writes) → length (put_after step later) ≡ one_if (is_put step) + length later
put-counted (Begun ticket number) later = omega arith
put-counted (Put ticket number writes) later = omega arith
put-counted (Ended ticket) later = omega arith
put-counted Planned later = omega arith
put-counted JobEnded later = omega arith
put-counted Picked later = omega arith
put-counted PassEnded later = omega arith
put-counted Changed later = omega arith

module _ (kind : LockStep → Bool) where
  abbrev pub by_session : List LockEntry → ℕ → ℕ
  by_session es session = count_by kind session es

  -- a step of a session that isn't counted
  none-more : (n : ℕ) (e : LockEntry) (es : List LockEntry) → n ≤ e.session
      → sum_of (by_session (e ∷ es)) n ≡ sum_of (by_session es) n
  none-more zero e es le = refl
  none-more (suc n) e es le =
      let other : (e.session == n) ≡ false = grind (arith, nat_tests, le) in
      let rest = none-more n e es (omega (arith, le)) in
      let here : by_session (e ∷ es) n ≡ 0 + by_session es n =
      ap (λ b. one_if (b && kind e.step) + by_session es n) other in
      omega (arith, rest, here)

  -- and of one that is
  one-more : (n : ℕ) (e : LockEntry) (es : List LockEntry) → e.session < n
      → sum_of (by_session (e ∷ es)) n ≡ one_if (kind e.step) + sum_of (by_session es) n
  one-more zero e es less = absurd (omega (arith, less))
  one-more (suc n) e es less = by_test (e.session == n) refl (λ below. one-more n e es below)
    where
      by_test : (b : Bool) → (e.session == n) ≡ b
          → (e.session < n → sum_of (by_session (e ∷ es)) n ≡ one_if (kind e.step) + sum_of (by_session es) n)
          → by_session (e ∷ es) n + sum_of (by_session (e ∷ es)) n
          ≡ one_if (kind e.step) + (by_session es n + sum_of (by_session es) n)
      by_test true is rest =
          let at : n ≤ e.session = grind (arith, nat_tests, is) in
          let others = none-more n e es at in
          let here : by_session (e ∷ es) n ≡ one_if (kind e.step) + by_session es n =
          ap (λ b. one_if (b && kind e.step) + by_session es n) is in
          omega (arith, others, here)
      by_test false is rest =
          let below : e.session < n = grind (arith, nat_tests, less, is) in
          let others = rest below in
          let here : by_session (e ∷ es) n ≡ 0 + by_session es n =
          ap (λ b. one_if (b && kind e.step) + by_session es n) is in
          omega (arith, others, here)

  none-yet : (n : ℕ) → sum_of (by_session []) n ≡ 0
  none-yet zero = refl
  none-yet (suc n) = let rest = none-yet n in omega (arith, rest)

-- where so many sessions were numbered, all commits are theirs
pub commits-counted : (n : ℕ) (es : List LockEntry) → AllByRecursion (λ (e : LockEntry). e.session < n) es
    → length (commits_of es) ≡ sum_of (by_session is_put es) n
commits-counted n [] all = sym (none-yet is_put n)
commits-counted n (e ∷ es) all =
    put-counted e.step (commits_of es)
    ∙ ap (λ (m : ℕ). one_if (is_put e.step) + m) (commits-counted n es all.1)
    ∙ sym (one-more is_put n e es all.0)

-- a step that ends something does so with a commit or without one
one-way : (own : Bool) (step : LockStep)
    → one_if (own && is_end step) ≡ one_if (own && is_put step) + one_if (own && is_ended step)
one-way false step = refl
one-way true (Begun ticket number) = refl
one-way true (Put ticket number writes) = refl
one-way true (Ended ticket) = refl
one-way true Planned = refl
one-way true JobEnded = refl
one-way true Picked = refl
one-way true PassEnded = refl
one-way true Changed = refl

pub ends-counted : (session : ℕ) (es : List LockEntry)
    → count_by is_end session es ≡ count_by is_put session es + count_by is_ended session es
ends-counted session [] = refl
ends-counted session (e ∷ es) =
    let rest = ends-counted session es in
    let here = one-way (e.session == session) e.step in
    omega (arith, rest, here)
