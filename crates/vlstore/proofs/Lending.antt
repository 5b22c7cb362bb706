-- What an engine keeps of the open merge stays what the steps have of it.
use Rattle.std.proofs.Common.{◌≡◌, ℕ, List, [], ◌∷◌, ◌++◌, refl, sym, ap, ◌∙◌, subst}
use Rattle.std.proofs.lemmas.Bool.{false≢true}
use Rattle.std.specs.Option.{option_map}
use Rattle.std.specs.Prelude.{true, false, Option, None, Some, is_some}
use Rattle.vl_engine_laws.specs.declared.open.OpenMerge.{OpenMerge}
use Rattle.vl_engine_model.specs.LockHistory.{IsOwn, job_after, job_in, last_layout, open_job}
use Rattle.vl_engine_model.specs.declared.job.Job.{Job}
use Rattle.vl_engine_model.specs.declared.job.OpenJob.{OpenJob}
use Rattle.vl_engine_model.specs.declared.layout.Layout.{Layout}
use Rattle.vl_engine_model.specs.declared.lock_history.LockEntry.{LockEntry}
use Rattle.vl_engine_model.specs.declared.lock_history.LockStep.{LockStep}
use Rattle.vl_engine_model.specs.declared.lock_history.LockStep.TheVariants.{Begun, Changed, Ended, JobEnded, PassEnded, Picked, Planned, Put}
use Rattle.vl_engine_model.specs.laws.LockHistoryLaws.{last_layout-append, none≢some}
use Rattle.vlstore.specs.Lists.{layout_by}
use Rattle.vlstore.specs.Merges.{KeepMerges, MergesBy, lent_in}
use Rattle.vlstore.specs.declared.locked.Origin.{Origin}
use Rattle.vl_turn.specs.Entries.{with_entry}

keep-append : (job : Option (ℕ × Job)) (l : Layout) (es more : List LockEntry) → KeepMerges job l es
    → KeepMerges (open_job job es) (last_layout l es) more → KeepMerges job l (es ++ more)
keep-append job l [] more keep later = later
keep-append job l (e ∷ es) more keep later = (keep.0, keep-append (job_after e.session e.step e.layout job) e.layout es more keep.1 later)

pub open_job-append : (job : Option (ℕ × Job)) (es more : List LockEntry) → open_job job (es ++ more) ≡ open_job (open_job job es) more
open_job-append job [] more = refl
open_job-append job (e ∷ es) more = open_job-append (job_after e.session e.step e.layout job) es more

-- a step that neither plans nor ends a merge
abbrev pub IsOther : LockStep → Type 0
IsOther (Begun ticket number) = Unit {0}
IsOther (Put ticket number writes) = Unit {0}
IsOther (Ended ticket) = Unit {0}
IsOther Planned = ⊥
IsOther JobEnded = ⊥
IsOther Picked = Unit {0}
IsOther PassEnded = Unit {0}
IsOther Changed = Unit {0}

pub job_left : (s : ℕ) (step : LockStep) (l : Layout) (job : Option (ℕ × Job)) → IsOther step → job_after s step l job ≡ job
job_left s (Begun ticket number) l job other = refl
job_left s (Put ticket number writes) l job other = refl
job_left s (Ended ticket) l job other = refl
job_left s Planned l job other = absurd other
job_left s JobEnded l job other = absurd other
job_left s Picked l job other = refl
job_left s PassEnded l job other = refl
job_left s Changed l job other = refl

not_planned : (step : LockStep) → IsOther step → step ≡ Planned → ⊥
not_planned step other is = subst IsOther is other

not_ended : (step : LockStep) → IsOther step → step ≡ JobEnded → ⊥
not_ended step other is = subst IsOther is other

-- it is none, or one that leaves what is lent
pub record Leaves (l : Layout) (e : LockEntry) : Type 0 where
  pub other : IsOther e.step
  pub lent : lent_in e.layout ≡ lent_in l

abbrev pub LeaveMerge : Layout → Option LockEntry → Type 0
LeaveMerge l None = Unit {0}
LeaveMerge l (Some e) = Leaves l e

module _ (o : Origin) (list : List LockEntry) (merging next : Option OpenMerge) (is : MergesBy o list merging) (same : next ≡ merging) where
  pub merges_left : (e : Option LockEntry) → LeaveMerge (layout_by o list) e → MergesBy o (with_entry list e) next
  merges_left None leaves = subst (MergesBy o list) (sym same) is
  merges_left (Some e) leaves = subst (MergesBy o (list ++ e ∷ [])) (sym same) (record {
    keep = keep-append None o.layout list (e ∷ []) is.keep (
      record {
        planned = λ at. absurd (not_planned e.step leaves.other at);
        begun = λ at. absurd (not_planned e.step leaves.other at);
        ended = λ at. absurd (not_ended e.step leaves.other at);
        lent = λ x at apart. leaves.lent;
      },
      tt,
    );
    open_is = is.open_is ∙ ap is_some (sym (open_job-append None list (e ∷ [])
        ∙ job_left e.session e.step e.layout (open_job None list) leaves.other));
    lent = is.lent ∙ sym (ap lent_in (last_layout-append o.layout list (e ∷ [])) ∙ leaves.lent);
  })

-- the same files are lent to it, whatever was moved meanwhile
pub merges_same : (o : Origin) (list : List LockEntry) (merging next : Option OpenMerge) → MergesBy o list merging
    → is_some next ≡ is_some merging
    → option_map (λ (m : OpenMerge). m.lent.items) next ≡ option_map (λ (m : OpenMerge). m.lent.items) merging → MergesBy o list next
merges_same o list merging next is some lent = record { keep = is.keep; open_is = some ∙ is.open_is; lent = lent ∙ is.lent }

-- ---- steps of a merge

abbrev entry : ℕ → LockStep → Layout → LockEntry
entry session step l = record { session = session; step = step; layout = l }

none_of : {X : Type 0} (o : Option X) → false ≡ is_some o → o ≡ None
none_of None is = refl
none_of (Some x) is = absurd (false≢true is)

module _ (o : Origin) (list : List LockEntry) (merging next : Option OpenMerge) (is : MergesBy o list merging) (session : ℕ)
    (l : Layout) where
  -- the layout behind it
  now : (step : LockStep) → lent_in (layout_by o (list ++ entry session step l ∷ [])) ≡ lent_in l
  now step = ap lent_in (last_layout-append o.layout list (entry session step l ∷ []))

  -- what is open behind it
  open_now : (step : LockStep) → open_job None (list ++ entry session step l ∷ []) ≡ job_after session step l (open_job None list)
  open_now step = open_job-append None list (entry session step l ∷ [])

  -- a merge was planned where none was open
  pub merges_planned : (job : Job) → merging ≡ None → job_in l ≡ Some job → is_some next ≡ true
      → option_map (λ (m : OpenMerge). m.lent.items) next ≡ lent_in l → MergesBy o (list ++ entry session Planned l ∷ []) next
  merges_planned job none job_is some lent =
      let free : open_job None list ≡ None = none_of (open_job None list) (sym (ap is_some none) ∙ is.open_is) in
      record {
        keep = keep-append None o.layout list (entry session Planned l ∷ []) is.keep (
          record {
            planned = λ at. free;
            begun = λ at. ap is_some job_is;
            ended = λ at. absurd (planned_ends at);
            lent = λ x at apart. absurd (none≢some x (sym free ∙ at));
          },
          tt,
        );
        open_is = some ∙ sym (ap is_some (open_now Planned ∙ ap (option_map (λ (j : Job). (session, j))) job_is));
        lent = lent ∙ sym (now Planned);
      }
    where
      planned_ends : Planned ≡ JobEnded → ⊥
      planned_ends at = subst IsPlanned at tt
        where
          IsPlanned : LockStep → Type 0
          IsPlanned (Begun ticket number) = ⊥
          IsPlanned (Put ticket number writes) = ⊥
          IsPlanned (Ended ticket) = ⊥
          IsPlanned Planned = Unit {0}
          IsPlanned JobEnded = ⊥
          IsPlanned Picked = ⊥
          IsPlanned PassEnded = ⊥
          IsPlanned Changed = ⊥

  -- the session's merge ended
  pub merges_ended : IsOwn session (open_job None list) → next ≡ None → l.job ≡ None
      → MergesBy o (list ++ entry session JobEnded l ∷ []) next
  merges_ended own none none_left = record {
    keep = keep-append None o.layout list (entry session JobEnded l ∷ []) is.keep (
      record {
        planned = λ at. absurd (ended_plans at);
        begun = λ at. absurd (ended_plans at);
        ended = λ at. own;
        lent = λ x at apart. absurd (apart (sym (subst (IsOwn session) at own)));
      },
      tt,
    );
    open_is = ap is_some none ∙ sym (ap is_some (open_now JobEnded));
    lent = ap (option_map (λ (m : OpenMerge). m.lent.items)) none
        ∙ sym (now JobEnded ∙ ap (option_map (λ (j : OpenJob). j.lent)) none_left);
  }
    where
      ended_plans : JobEnded ≡ Planned → ⊥
      ended_plans at = subst IsEnd at tt
        where
          IsEnd : LockStep → Type 0
          IsEnd (Begun ticket number) = ⊥
          IsEnd (Put ticket number writes) = ⊥
          IsEnd (Ended ticket) = ⊥
          IsEnd Planned = ⊥
          IsEnd JobEnded = Unit {0}
          IsEnd Picked = ⊥
          IsEnd PassEnded = ⊥
          IsEnd Changed = ⊥

  -- a file was lent to the session's merge
  pub merges_drawn : IsOwn session (open_job None list) → is_some next ≡ is_some merging
      → option_map (λ (m : OpenMerge). m.lent.items) next ≡ lent_in l → MergesBy o (list ++ entry session Changed l ∷ []) next
  merges_drawn own some lent = record {
    keep = keep-append None o.layout list (entry session Changed l ∷ []) is.keep (
      record {
        planned = λ at. absurd (not_planned Changed tt at);
        begun = λ at. absurd (not_planned Changed tt at);
        ended = λ at. absurd (not_ended Changed tt at);
        lent = λ x at apart. absurd (apart (sym (subst (IsOwn session) at own)));
      },
      tt,
    );
    open_is = some ∙ (is.open_is ∙ sym (ap is_some (open_now Changed)));
    lent = lent ∙ sym (now Changed);
  }
