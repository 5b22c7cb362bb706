-- The numbers that an opening gives out.
use Rattle.std.proofs.Common.{◌≡◌, ℕ, ◌+◌, ◌≤◌, max, refl, sym, ap, subst, arith}
use Rattle.std.specs.Prelude.{◌≢◌, ◌==◌, if◌then◌else◌, nat_le, Bool, true, false, Option, None, Some}
use Rattle.std.proofs.lemmas.Bool.Decides.{nat_tests}
use Rattle.vl_disk.specs.declared.name.Name.TheVariants.{Log}
use Rattle.vl_manifest.specs.declared.state.ManifestState.{ManifestState}
use Rattle.vl_model.specs.Limits.{max_file_number}
use Rattle.vl_model.specs.declared.counter.Counter.{Counter}
use Rattle.vl_model.specs.declared.counter.Counter.TheVariants as counters
use Rattle.vl_recover.specs.repairing.Deciding.{log_for, next_of, plan_for, state_for, step_for, used_up_for}
use Rattle.vl_recover.specs.opening.Finding.{AreFileNumbers, IsUpTo}
use Rattle.vl_recover.specs.repairing.Fitting.{HasNumbers, IsBeside, IsLogBeside, IsNumberedLog}
use Rattle.vl_recover.specs.repairing.Repairing.{Cut, Headed, Kept, Plan, Rewritten}
use Rattle.vl_recover.specs.repairing.NextLogs.{made_of}
use Rattle.vl_recover.specs.opening.Plans.{passes}
use Rattle.vl_recover.specs.declared.plan.NextLog.TheVariants as next
use Rattle.vl_recover.specs.declared.found.Findings.{Findings}
use Rattle.vl_recover.specs.declared.found.LastLog.{LastLog}

some_counter : (c : Counter) → Some c ≡ None → ⊥
some_counter c e = cc

same_log : (k m : ℕ) → Log k ≡ Log m → k ≡ m
same_log k m e = cc

number_other : (m n : ℕ) → (m == n) ≡ false → m ≢ n
number_other m n e = grind (arith, nat_tests)

below : (least number : ℕ) → nat_le (least + 1) number ≡ false → number ≤ least
below least number e = grind (arith, nat_tests)

-- neither number is used up
none_passes : (passed last : Bool)
    → (if passed then Some counters.Log else (if last then Some counters.Manifest else None)) ≡ None → passed ≡ false
none_passes true last e = absurd (some_counter counters.Log e)
none_passes false last e = refl

none_last : (passed last : Bool)
    → (if passed then Some counters.Log else (if last then Some counters.Manifest else None)) ≡ None → last ≡ false
none_last true last e = absurd (some_counter counters.Log e)
none_last false true e = absurd (some_counter counters.Manifest e)
none_last false false e = refl

numbered : (log : Option ℕ) → ((k : ℕ) → log ≡ Some k → 1 ≤ k) → passes log ≡ false → IsNumberedLog log
numbered None some fine = tt
numbered (Some k) some fine = let first = some k refl in let last = below max_file_number k fine
    in (omega (arith, first), omega (arith, last))

-- a log with another number than the last stands beside it
other_beside : (q : LastLog) (k : ℕ) → k ≢ q.number → IsBeside (step_for (Some q)) (Log k)
other_beside q k other = by q.header (q.length == q.end) (q.length == 0)
  where
    apart : Log k ≢ Log q.number
    apart e = other (same_log k q.number e)

    by : (header whole empty : Bool)
        → IsBeside (if header then (if whole then Kept q.number else Cut q.number q.end) else
        (if empty then Headed q.number else Rewritten q.number)) (Log k)
    by true true empty = apart
    by true false empty = apart
    by false whole true = apart
    by false whole false = apart

module _ (found : Findings) (numbers : AreFileNumbers found.greatest) (last : IsUpTo found.greatest.log found.last) where
  next_above : found.greatest.log + 1 ≤ (state_for found).next_log
  next_above = omega arith

  log_first : (o : Option LastLog) (k : ℕ) → made_of (next_of (state_for found) o) ≡ Some k → 1 ≤ k
  log_first None k is = let e : max (state_for found).head (state_for found).next_log ≡ k = some_same _ k is in omega (arith, e, next_above)
    where
      some_same : (a b : ℕ) → Some a ≡ Some b → a ≡ b
      some_same a b e = cc
  log_first (Some q) k is = by q.has_frames is
    where
      some_same : (a b : ℕ) → Some a ≡ Some b → a ≡ b
      some_same a b e = cc

      none_some : None ≡ Some k → ⊥
      none_some e = cc

      by : (frames : Bool) → (made_of (if frames then next.Made (state_for found).next_log else next.Last q.number)) ≡ Some k → 1 ≤ k
      by true e = let same : (state_for found).next_log ≡ k = some_same _ k e in omega (arith, same, next_above)
      by false e = absurd (none_some e)

  beside : (o : Option LastLog) → IsUpTo found.greatest.log o → IsLogBeside (step_for o) (made_of (next_of (state_for found) o))
  beside None up = tt
  beside (Some q) up = by q.has_frames
    where
      by : (frames : Bool) → IsLogBeside (step_for (Some q))
          (made_of (if frames then next.Made (state_for found).next_log else next.Last q.number))
      by true = other_beside q (state_for found).next_log
          (λ (same : (state_for found).next_log ≡ q.number). absurd (omega (arith, same, up, next_above)))
      by false = tt

  pub decided_numbers : used_up_for found ≡ None → (plan : Plan) → plan ≡ plan_for found → HasNumbers plan
  decided_numbers unused plan is = subst HasNumbers (sym is) (record {
    manifest =
        let other = number_other found.greatest.manifest max_file_number
        (none_last (passes (log_for found)) (found.greatest.manifest == max_file_number) unused) in
        (omega arith, omega (arith, other, numbers.manifest));
    log = numbered (log_for found) (log_first found.last)
        (none_passes (passes (log_for found)) (found.greatest.manifest == max_file_number) unused);
    beside = beside found.last last;
  })

-- the number of the next table is one
pub decided_table : (found : Findings) (state : ManifestState) → state ≡ state_for found → 1 ≤ state.next_table
decided_table found state is =
    let next : state.next_table ≡ max found.state.next_table (found.greatest.table + 1) = ap (λ (s : ManifestState). s.next_table) is in
    omega (arith, next)
