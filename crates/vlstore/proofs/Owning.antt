-- What a session's own steps tell of the open merge, and how steps keep what an engine keeps of it.
use Rattle.std.proofs.Common.{◌≡◌, ◌≢◌, ℕ, List, [], ◌∷◌, refl, sym, ◌∙◌, subst, arith}
use Rattle.std.proofs.lemmas.Bool.{false≢true}
use Rattle.std.proofs.lemmas.Bool.Decides.{nat_tests}
use Rattle.std.specs.Prelude.{Bool, true, false, cond, ◌==◌, Option, None, Some}
use Rattle.vl_engine_model.specs.LockHistory.{IsOwn, entries_by, job_after, last_layout, open_job}
use Rattle.vl_engine_model.specs.declared.job.Job.{Job}
use Rattle.vl_engine_model.specs.declared.layout.Layout.{Layout}
use Rattle.vl_engine_model.specs.declared.lock_history.LockEntry.{LockEntry}
use Rattle.vl_engine_model.specs.declared.lock_history.LockStep.{LockStep}
use Rattle.vl_engine_model.specs.declared.lock_history.LockStep.TheVariants.{Begun, Changed, Ended, JobEnded, PassEnded, Picked, Planned, Put}
use Rattle.vl_engine_model.specs.laws.LockHistoryLaws.{none≢some}
use Rattle.vlstore.specs.Merges.{KeepMerges, KeepsMerge, lent_in}

-- the merge is open, and the same files are lent to it
pub record IsStillOpen (s : ℕ) (j : Job) (p : Option (ℕ × Job)) (lp : Layout) (q : Option (ℕ × Job)) (lq : Layout) : Type 0 where
  pub job : q ≡ Some (s, j)
  pub lent : lent_in lq ≡ lent_in lp

module _ (s : ℕ) (j : Job) where
  -- another session's step leaves it
  other_step : (k : ℕ) (step : LockStep) (l next : Layout) (q : Option (ℕ × Job))
      → KeepsMerge q l (record { session = k; step = step; layout = next }) → k ≢ s → q ≡ Some (s, j)
      → job_after k step next q ≡ Some (s, j)
  other_step k (Begun ticket number) l next q keeps other is = is
  other_step k (Put ticket number writes) l next q keeps other is = is
  other_step k (Ended ticket) l next q keeps other is = is
  other_step k Planned l next q keeps other is = absurd (none≢some (s, j) (sym (keeps.planned refl) ∙ is))
  other_step k JobEnded l next q keeps other is = absurd (other (sym (subst (IsOwn k) is (keeps.ended refl))))
  other_step k Picked l next q keeps other is = is
  other_step k PassEnded l next q keeps other is = is
  other_step k Changed l next q keeps other is = is

  own_step : (k : ℕ) (step : LockStep) (next : Layout) (p q : Option (ℕ × Job)) → (p ≡ Some (s, j) → q ≡ Some (s, j))
      → job_after k step next p ≡ Some (s, j) → job_after k step next q ≡ Some (s, j)
  own_step k (Begun ticket number) next p q all is = all is
  own_step k (Put ticket number writes) next p q all is = all is
  own_step k (Ended ticket) next p q all is = all is
  own_step k Planned next p q all is = is
  own_step k JobEnded next p q all is = is
  own_step k Picked next p q all is = all is
  own_step k PassEnded next p q all is = all is
  own_step k Changed next p q all is = all is

  -- what is open by a session's own steps is open, and has what its last own step lent
  still_open : (p q : Option (ℕ × Job)) (lp lq : Layout) (es : List LockEntry) → KeepMerges q lq es
      → (p ≡ Some (s, j) → IsStillOpen s j p lp q lq) → open_job p (entries_by s es) ≡ Some (s, j)
      → IsStillOpen s j (open_job p (entries_by s es)) (last_layout lp (entries_by s es)) (open_job q es) (last_layout lq es)
  still_open p q lp lq [] keep all is = record { job = (all is).job; lent = (all is).lent }
  still_open p q lp lq (e ∷ es) keep all is =
      by_test (e.session == s) refl
      (λ p' lp' next. still_open p' (job_after e.session e.step e.layout q) lp' e.layout es keep.1 next) is
    where
      by_test : (b : Bool) → (e.session == s) ≡ b
          → ((p' : Option (ℕ × Job)) (lp' : Layout)
          → (p' ≡ Some (s, j) → IsStillOpen s j p' lp' (job_after e.session e.step e.layout q) e.layout)
          → open_job p' (entries_by s es) ≡ Some (s, j)
          → IsStillOpen s j (open_job p' (entries_by s es)) (last_layout lp' (entries_by s es))
          (open_job (job_after e.session e.step e.layout q) es) (last_layout e.layout es))
          → open_job p (cond b (e ∷ entries_by s es) (entries_by s es)) ≡ Some (s, j)
          → IsStillOpen s j (open_job p (cond b (e ∷ entries_by s es) (entries_by s es)))
          (last_layout lp (cond b (e ∷ entries_by s es) (entries_by s es))) (open_job (job_after e.session e.step e.layout q) es)
          (last_layout e.layout es)
      by_test true own rest is = rest (job_after e.session e.step e.layout p) e.layout
          (λ at. record { job = own_step e.session e.step e.layout p q (λ had. (all had).job) at; lent = refl }) is
      by_test false apart rest is =
          let other : e.session ≢ s = λ same. let no : (e.session == s) ≡ true = grind (arith, nat_tests) in false≢true (sym apart ∙ no) in
          rest p lp
          (λ at. record {
            job = other_step e.session e.step lq e.layout q keep.0 other (all at).job;
            lent = keep.0.lent (s, j) (all at).job other ∙ (all at).lent;
          }) is

pub own_merge : (s : ℕ) (j : Job) (l : Layout) (es : List LockEntry) → KeepMerges None l es → open_job None (entries_by s es) ≡ Some (s, j)
    → (open_job None es ≡ Some (s, j)) × (lent_in (last_layout l es) ≡ lent_in (last_layout l (entries_by s es)))
own_merge s j l es keep is =
    let still = still_open s j None None l l es keep (λ at. absurd (none≢some (s, j) at)) is in
    (still.job, still.lent)
