-- Laws of steps under the commit lock: a job or a pass that is open by a session's own steps is the open one.
use Rattle.std.proofs.Common.{◌≡◌, ℕ, Bool, true, false, cond, List, [], ◌∷◌, refl, ap, sym, ◌∙◌, subst, arith}
use Rattle.std.proofs.lemmas.Bool.{false≢true}
use Rattle.std.proofs.lemmas.Bool.Decides.{nat_tests}
use Rattle.std.specs.Prelude.{◌==◌, Option, Some, None, is_some}
use Rattle.std.specs.Option.{option_map}
use Rattle.vl_engine_model.specs.LockHistory.{OpenThings, job_after, pass_after, things_after, open_things, open_job}
use Rattle.vl_engine_model.specs.LockHistory.{open_pass, number_after, job_in, segment_in, HasBegun, IsOwn, IsLegalStep}
use Rattle.vl_engine_model.specs.LockHistory.{IsLegalEntry, IsLegalFrom, entries_by}
use Rattle.vl_engine_model.specs.declared.job.Job.{Job}
use Rattle.vl_engine_model.specs.declared.layout.Layout.{Layout}
use Rattle.vl_engine_model.specs.declared.lock_history.LockEntry.{LockEntry}
use Rattle.vl_engine_model.specs.declared.lock_history.LockStep.{LockStep}
use Rattle.vl_engine_model.specs.declared.lock_history.LockStep.TheVariants.{Begun, Put, Ended, Planned, JobEnded, Picked, PassEnded, Changed}
use Rattle.vl_engine_model.specs.laws.LockHistoryLaws.{none≢some}

-- ---- what is begun is open

opened_as : {X : Type 0} (s : ℕ) (o : Option X) → is_some o ≡ true → (x : X) × (option_map {U = ℕ × X} (λ (y : X). (s, y)) o ≡ Some (s, x))
opened_as s None is = absurd (false≢true is)
opened_as s (Some x) is = (x, refl)

pub planned_opens : (last : ℕ) (o : OpenThings) (e : LockEntry) → IsLegalEntry last o e → e.step ≡ Planned
    → (job : Job) × ((things_after e o).job ≡ Some (e.session, job))
planned_opens last o e legal is =
    let begun : is_some (job_in e.layout) ≡ true = subst (λ (step : LockStep). HasBegun step e.layout) is legal.begun in
    let job = opened_as e.session (job_in e.layout) begun in
    (job.0, ap (λ (step : LockStep). job_after e.session step e.layout o.job) is ∙ job.1)

pub picked_opens : (last : ℕ) (o : OpenThings) (e : LockEntry) → IsLegalEntry last o e → e.step ≡ Picked
    → (segment : ℕ) × ((things_after e o).pass ≡ Some (e.session, segment))
picked_opens last o e legal is =
    let begun : is_some (segment_in e.layout) ≡ true = subst (λ (step : LockStep). HasBegun step e.layout) is legal.begun in
    let pass = opened_as e.session (segment_in e.layout) begun in
    (pass.0, ap (λ (step : LockStep). pass_after e.session step e.layout o.pass) is ∙ pass.1)

-- ---- a job

pub open_job-is : (o : OpenThings) (es : List LockEntry) → (open_things o es).job ≡ open_job o.job es
open_job-is o [] = refl
open_job-is o (e ∷ es) = open_job-is (things_after e o) es

-- another session's step leaves the job that is open as it is
other_job_step : (last s k : ℕ) (o : OpenThings) (step : LockStep) (l : Layout) (j : Job) → (k == s) ≡ false
    → IsLegalStep last o k step → o.job ≡ Some (s, j) → job_after k step l o.job ≡ Some (s, j)
other_job_step last s k o (Begun ticket number) l j other legal is = is
other_job_step last s k o (Put ticket number writes) l j other legal is = is
other_job_step last s k o (Ended ticket) l j other legal is = is
other_job_step last s k o Planned l j other legal is = absurd (none≢some (s, j) (sym legal ∙ is))
other_job_step last s k o JobEnded l j other legal is =
    let same : s ≡ k = subst (IsOwn k) is legal in
    let no : (k == s) ≡ true = grind (arith, nat_tests) in absurd (false≢true (sym other ∙ no))
other_job_step last s k o Picked l j other legal is = is
other_job_step last s k o PassEnded l j other legal is = is
other_job_step last s k o Changed l j other legal is = is

own_job_step : (k : ℕ) (step : LockStep) (l : Layout) (p o : Option (ℕ × Job)) (x : ℕ × Job) → (p ≡ Some x → o ≡ Some x)
    → job_after k step l p ≡ Some x → job_after k step l o ≡ Some x
own_job_step k (Begun ticket number) l p o x all is = all is
own_job_step k (Put ticket number writes) l p o x all is = all is
own_job_step k (Ended ticket) l p o x all is = all is
own_job_step k Planned l p o x all is = is
own_job_step k JobEnded l p o x all is = is
own_job_step k Picked l p o x all is = all is
own_job_step k PassEnded l p o x all is = all is
own_job_step k Changed l p o x all is = all is

-- a job that is open by a session's own steps is the open one
pub job_stays : (last s : ℕ) (j : Job) (p : Option (ℕ × Job)) (o : OpenThings) (es : List LockEntry) → IsLegalFrom last o es
    → (p ≡ Some (s, j) → o.job ≡ Some (s, j)) → open_job p (entries_by s es) ≡ Some (s, j) → (open_things o es).job ≡ Some (s, j)
job_stays last s j p o [] legal all is = all is
job_stays last s j p o (e ∷ es) legal all is =
    by_test (e.session == s) refl (λ q next. job_stays (number_after e.step last) s j q (things_after e o) es legal.1 next) is
  where
    by_test : (b : Bool) → (e.session == s) ≡ b
        → ((q : Option (ℕ × Job)) → (q ≡ Some (s, j) → (things_after e o).job ≡ Some (s, j))
        → open_job q (entries_by s es) ≡ Some (s, j) → (open_things (things_after e o) es).job ≡ Some (s, j))
        → open_job p (cond b (e ∷ entries_by s es) (entries_by s es)) ≡ Some (s, j) → (open_things (things_after e o) es).job ≡ Some (s, j)
    by_test true own rest is = rest (job_after e.session e.step e.layout p) (own_job_step e.session e.step e.layout p o.job (s, j) all) is
    by_test false other rest is = rest p (λ has. other_job_step last s e.session o e.step e.layout j other legal.0.step (all has)) is

-- ---- a pass

pub open_pass-is : (o : OpenThings) (es : List LockEntry) → (open_things o es).pass ≡ open_pass o.pass es
open_pass-is o [] = refl
open_pass-is o (e ∷ es) = open_pass-is (things_after e o) es

other_pass_step : (last s k : ℕ) (o : OpenThings) (step : LockStep) (l : Layout) (j : ℕ) → (k == s) ≡ false
    → IsLegalStep last o k step → o.pass ≡ Some (s, j) → pass_after k step l o.pass ≡ Some (s, j)
other_pass_step last s k o (Begun ticket number) l j other legal is = is
other_pass_step last s k o (Put ticket number writes) l j other legal is = is
other_pass_step last s k o (Ended ticket) l j other legal is = is
other_pass_step last s k o Picked l j other legal is = absurd (none≢some (s, j) (sym legal ∙ is))
other_pass_step last s k o PassEnded l j other legal is =
    let same : s ≡ k = subst (IsOwn k) is legal in
    let no : (k == s) ≡ true = grind (arith, nat_tests) in absurd (false≢true (sym other ∙ no))
other_pass_step last s k o Planned l j other legal is = is
other_pass_step last s k o JobEnded l j other legal is = is
other_pass_step last s k o Changed l j other legal is = is

own_pass_step : (k : ℕ) (step : LockStep) (l : Layout) (p o : Option (ℕ × ℕ)) (x : ℕ × ℕ) → (p ≡ Some x → o ≡ Some x)
    → pass_after k step l p ≡ Some x → pass_after k step l o ≡ Some x
own_pass_step k (Begun ticket number) l p o x all is = all is
own_pass_step k (Put ticket number writes) l p o x all is = all is
own_pass_step k (Ended ticket) l p o x all is = all is
own_pass_step k Picked l p o x all is = is
own_pass_step k PassEnded l p o x all is = is
own_pass_step k Planned l p o x all is = all is
own_pass_step k JobEnded l p o x all is = all is
own_pass_step k Changed l p o x all is = all is

-- a pass over a segment that is open by a session's own steps is the open one
pub pass_stays : (last s : ℕ) (j : ℕ) (p : Option (ℕ × ℕ)) (o : OpenThings) (es : List LockEntry) → IsLegalFrom last o es
    → (p ≡ Some (s, j) → o.pass ≡ Some (s, j)) → open_pass p (entries_by s es) ≡ Some (s, j) → (open_things o es).pass ≡ Some (s, j)
pass_stays last s j p o [] legal all is = all is
pass_stays last s j p o (e ∷ es) legal all is =
    by_test (e.session == s) refl (λ q next. pass_stays (number_after e.step last) s j q (things_after e o) es legal.1 next) is
  where
    by_test : (b : Bool) → (e.session == s) ≡ b
        → ((q : Option (ℕ × ℕ)) → (q ≡ Some (s, j) → (things_after e o).pass ≡ Some (s, j))
        → open_pass q (entries_by s es) ≡ Some (s, j) → (open_things (things_after e o) es).pass ≡ Some (s, j))
        → open_pass p (cond b (e ∷ entries_by s es) (entries_by s es)) ≡ Some (s, j)
        → (open_things (things_after e o) es).pass ≡ Some (s, j)
    by_test true own rest is = rest (pass_after e.session e.step e.layout p)
        (own_pass_step e.session e.step e.layout p o.pass (s, j) all) is
    by_test false other rest is = rest p (λ has. other_pass_step last s e.session o e.step e.layout j other legal.0.step (all has)) is
