-- A merge that is planned is the session's own, and what its entry is, whatever the disk tells.
use Rattle.std.proofs.Common.{◌≡◌, ℕ, List, [], ◌∷◌, ◌++◌, map, refl, sym, ap, ◌∙◌, subst}
use Rattle.std.specs.Prelude.{true, is_some, Option, None, Some, Result, Ok, Err, IfOk, IsSome}
use Rattle.std.proofs.lemmas.Bool.{false≢true}
use Rattle.std.specs.List.{AllByRecursion}
use Rattle.std.specs.Option.{ForSome, option_map}
use Rattle.vl_compact.specs.Laid.{AreBoth}
use Rattle.vl_compact.specs.Progress.{IsNew}
use Rattle.vl_compact.specs.declared.files.Lent.{Lent}
use Rattle.vl_compact.specs.declared.files.Synced.{Synced}
use Rattle.vl_compact.specs.declared.job.Job as made
use Rattle.vl_disk.specs.declared.writer.Writer.{Ghosts as Writers}
use Rattle.vl_steps.specs.Installing.{numbers_in}
use Rattle.vl_steps.specs.Merging.{HasMerge, OpensMerge, plan_outcome}
use Rattle.vl_engine_laws.specs.declared.open.OpenMerge.{OpenMerge}
use Rattle.vl_engine_model.specs.Jobs.{AreDistinct}
use Rattle.vl_engine_model.specs.LockHistory.{last_layout, open_job}
use Rattle.vl_engine_model.specs.Rulings.Plan.{with_job}
use Rattle.vl_engine_model.specs.declared.job.Job.{Job}
use Rattle.vl_engine_model.specs.declared.job.Target.TheVariants.{InPlace}
use Rattle.vl_engine_model.specs.declared.layout.Layout.{Layout}
use Rattle.vl_engine_model.specs.declared.lock_history.LockEntry.{LockEntry}
use Rattle.vl_engine_model.specs.declared.lock_history.LockStep.TheVariants as steps
use Rattle.vl_engine_model.specs.laws.LockHistoryLaws.{last_layout-append, none≢some}
use Rattle.vl_model.specs.Numbers.{has}
use Rattle.vlstore.specs.Entries.{Done, entry_by, entry_of, plan_done, planned_in}
use Rattle.vlstore.specs.Handing.{IsUnderWayIn}
use Rattle.vlstore.specs.Knowing.{Knows}
use Rattle.vlstore.specs.Merges.{MergesBy, lent_in}
use Rattle.vlstore.specs.declared.locked.Origin.{Origin}
use Rattle.vlstore.proofs.Drawing.{some_is}
use Rattle.vlstore.proofs.Lending.{merges_planned, open_job-append}
use Rattle.vl_turn.specs.Entries.{with_entry}
use Rattle.vl_version.specs.declared.base.Base.{Base}

-- a merge, where there is one, and else any
abbrev pub job_or : Option Job → Job
job_or None = record { inputs = []; target = InPlace; base = []; floor = 0; keep = 0 }
job_or (Some job) = job

-- what a plan did, by whether a merge came of it
abbrev pub plan_did : {J E : Type 0} → Layout → Option Job → Result (Option J) E → Done
plan_did l ruled (Ok (Some job)) = Some (steps.Planned, with_job (job_or ruled) l)
plan_did l ruled (Ok None) = None
plan_did l ruled (Err why) = None

pub plan_enters : {J E : Type 0} (l : Layout) (ruled : Option Job) (r : Result (Option J) E)
    → is_some (planned_in r) ≡ is_some (plan_did l ruled r)
plan_enters l ruled (Ok (Some job)) = refl
plan_enters l ruled (Ok None) = refl
plan_enters l ruled (Err why) = refl

-- it is that of the ruling, where a merge comes just where the ruling plans one
pub plan_same : {J E : Type 0} (fits : J → Job → Type 0) (s : ℕ) (l : Layout) (r : Result (Option J) E) (ruled : Option Job)
    → IfOk r (λ job. AreBoth fits job ruled)
    → entry_of s (plan_did l ruled r) ≡ entry_by (plan_done l) (steps.Changed, l) s (plan_outcome ruled r)
plan_same fits s l (Ok (Some job)) (Some j) both = refl
plan_same fits s l (Ok (Some job)) None both = absurd both
plan_same fits s l (Ok None) ruled both = refl
plan_same fits s l (Err why) ruled both = refl

-- while a merge is open none is planned
pub plan_none : {J E : Type 0} (l : Layout) (ruled : Option Job) (r : Result (Option J) E) (merging : Option OpenMerge)
    → is_some merging ≡ true → IfOk r (λ job. ForSome job (λ _. merging ≡ None)) → plan_did l ruled r ≡ None
plan_none l ruled (Ok (Some job)) merging some none = absurd (false≢true (sym (ap is_some (none job refl)) ∙ some))
plan_none l ruled (Ok None) merging some none = refl
plan_none l ruled (Err why) merging some none = refl

-- what the engine keeps of the open merge is the steps', whatever was planned
pub plan_merges : {J E : Type 0} (o : Origin) (list : List LockEntry) (merging next : Option OpenMerge) → MergesBy o list merging
    → (s : ℕ) (l : Layout) (ruled : Option Job) (r : Result (Option J) E) → OpensMerge merging next r
    → IfOk r (λ job. ForSome job (λ _. merging ≡ None)) → MergesBy o (with_entry list (entry_of s (plan_did l ruled r))) next
plan_merges o list merging next is s l ruled (Ok (Some job)) opens none =
    merges_planned o list merging next is s (with_job (job_or ruled) l) (job_or ruled) (none job refl) refl (ap is_some opens.is_open)
    (ap (option_map (λ (m : OpenMerge). m.lent.items)) opens.is_open ∙ ap (λ (ns : List ℕ). Some ns) opens.lent)
plan_merges o list merging next is s l ruled (Ok None) opens none = subst (MergesBy o list) (sym opens) is
plan_merges o list merging next is s l ruled (Err why) opens none = subst (MergesBy o list) (sym opens) is

-- ---- whose it is

module _ {H R W : Type 0} {g : _} (writers : Writers W) (bytes : H → Option (List ℕ)) (v : Knows) (s : ℕ) (own : List LockEntry)
    (l : Layout) (session_is : v.session ≡ s) where
  no_files : (job : made.Job (Base H R) H W g) → IsNew job → numbers_in job ≡ []
  no_files job new =
      ap (λ (ts : List (Synced W g)). map (λ (t : Synced W g). t.number) ts ++ map (λ (f : Lent W g). f.number) job.leavings.items) new.made
      ∙ ap (λ (fs : List (Lent W g)). map (λ (f : Lent W g). f.number) fs) new.leavings

  has_of : (job : made.Job (Base H R) H W g) (ruled : Option Job) → AreBoth (HasMerge writers bytes) (Some job) ruled
      → HasMerge writers bytes job (job_or ruled)
  has_of job None both = absurd both
  has_of job (Some j) both = both

  under_way : (job : made.Job (Base H R) H W g) (ruled : Option Job)
      → v.own ≡ own ++ record { session = s; step = steps.Planned; layout = with_job (job_or ruled) l } ∷ [] → IsNew job
      → (v.tells ≡ true → AreBoth (HasMerge writers bytes) (Some job) ruled) → IsUnderWayIn v writers bytes job
  under_way job ruled now new both =
      let e : LockEntry = record { session = s; step = steps.Planned; layout = with_job (job_or ruled) l } in record {
        planned = job_or ruled;
        own = ap (open_job None) now ∙ (open_job-append None own (e ∷ []) ∙ ap (λ (n : ℕ). Some (n, job_or ruled)) (sym session_is));
        lent = [];
        lent_is = ap (λ es. lent_in (last_layout v.origin.layout es)) now ∙ ap lent_in (last_layout-append v.origin.layout own (e ∷ []));
        drawn = subst (AllByRecursion (λ (n : ℕ). has n [] ≡ true)) (sym (no_files job new)) tt;
        distinct = subst AreDistinct (sym (no_files job new)) tt;
        tells = λ told. subst (AllByRecursion (λ (t : Synced W g). IsSome (writers.file t.writer))) (sym new.made) tt;
        leavings_tell = λ told. subst (AllByRecursion (λ (f : Lent W g). IsSome (writers.file f.writer))) (sym new.leavings) tt;
        has_merge = λ told. has_of job ruled (both told);
      }

  pub plan_under_way : {E : Type 0} (ruled : Option Job) (r : Result (Option (made.Job (Base H R) H W g)) E)
      → v.own ≡ with_entry own (entry_of s (plan_did l ruled r)) → IfOk r (λ job. ForSome job IsNew)
      → (v.tells ≡ true → IfOk r (λ job. AreBoth (HasMerge writers bytes) job ruled))
      → IfOk r (λ job. ForSome job (IsUnderWayIn v writers bytes))
  plan_under_way ruled (Ok (Some job)) now new both =
      λ x at. subst (IsUnderWayIn v writers bytes) (some_is job x at) (under_way job ruled now (new job refl) both)
  plan_under_way ruled (Ok None) now new both = λ x at. absurd (none≢some x at)
  plan_under_way ruled (Err why) now new both = tt
