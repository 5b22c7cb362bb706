-- Frozen logs, of which the last is the oldest.
use Rattle.std.proofs.Common.{◌≡◌, ℕ, suc, ◌-◌, List, [], ◌∷◌, ◌++◌, length, refl, ap, sym, ◌∙◌, arith}
use Rattle.std.specs.Prelude.{slice_get}
use Rattle.vl_memtable.specs.declared.frozen_log.FrozenLog.{FrozenLog}
use Rattle.vl_version.specs.Oldest.{but_oldest, oldest_frozen}

-- without the last they are those before it
pub front_of : (front : List FrozenLog) (log : FrozenLog) → but_oldest (front ++ log ∷ []) ≡ front
front_of [] log = refl
front_of (a ∷ []) log = refl
front_of (a ∷ b ∷ front) log = ap (λ (logs : List FrozenLog). a ∷ logs) (front_of (b ∷ front) log)

one_less : (n : ℕ) → suc (suc n) - 1 ≡ suc n
one_less n = omega arith

-- and the last stands at the last place
pub oldest_at : (logs : List FrozenLog) → slice_get logs (length logs - 1) ≡ oldest_frozen logs
oldest_at [] = refl
oldest_at (a ∷ []) = refl
oldest_at (a ∷ b ∷ logs) =
    ap (slice_get (a ∷ b ∷ logs)) (one_less (length logs))
    ∙ ap (slice_get (b ∷ logs)) (sym (less_one (length logs)))
    ∙ oldest_at (b ∷ logs)
  where
    less_one : (n : ℕ) → suc n - 1 ≡ n
    less_one n = omega arith

-- of none none stays
pub none_of : (logs : List FrozenLog) → length logs ≡ 0 → but_oldest logs ≡ []
none_of [] none = refl
none_of (a ∷ logs) none = absurd (omega arith)
