-- A whole merge of a session: what its steps are, and which merge it was.
use Rattle.std.proofs.Common.{◌≡◌, ℕ, List, [], ◌∷◌, ◌++◌, refl, sym, ap, ◌∙◌, subst, append_assoc}
use Rattle.std.specs.Prelude.{Option, None, Some, Err, length, min, ◌^◌, ◌-◌}
use Rattle.std.specs.List.{AllByRecursion}
use Rattle.vl_compact.specs.Laid.{AreBoth}
use Rattle.vl_steps.specs.Merging.{install_outcome}
use Rattle.vl_engine.specs.Whole.{kept_of}
use Rattle.vl_steps.specs.declared.fails.InstallFail.{InstallFail}
use Rattle.vl_steps.specs.declared.fails.InstallFail.TheVariants as fails
use Rattle.vl_engine_model.specs.Decides.{Answered, Damaged, Failed, NoMemory, Outcome}
use Rattle.vl_engine_model.specs.Jobs.{Made}
use Rattle.vl_engine_model.specs.LockHistory.{job_after, open_job}
use Rattle.vl_engine_model.specs.Merging.{merged_entries}
use Rattle.vl_engine_model.specs.Ruling.{Ruling}
use Rattle.vl_engine_model.specs.Rulings.Fresh as fresh
use Rattle.vl_engine_model.specs.Rulings.Fresh.{FreshAnswer}
use Rattle.vl_engine_model.specs.Rulings.Install.{InstallAnswer, Installed, install_ruling}
use Rattle.vl_engine_model.specs.Rulings.Plan.{plan_ruling}
use Rattle.vl_engine_model.specs.declared.job.Job.{Job}
use Rattle.vl_engine_model.specs.declared.layout.Layout.{Layout}
use Rattle.vl_engine_model.specs.declared.lock_history.LockEntry.{LockEntry}
use Rattle.vl_engine_model.specs.declared.lock_history.LockStep.{LockStep}
use Rattle.vl_engine_model.specs.declared.lock_history.LockStep.TheVariants.{JobEnded}
use Rattle.vl_engine_model.specs.laws.LockHistoryLaws.{none≢some}
use Rattle.vl_model.specs.History.{History}
use Rattle.vl_turn.specs.Entries.{with_entry}
use Rattle.vlstore.specs.Entries.{abandon_entry, fresh_entry, install_entry, plan_entry}
use Rattle.vlstore.specs.Handing.{IsHandedBack}
use Rattle.vlstore.specs.Knowing.{IsOwnJob, Knows, Stepped}
use Rattle.vlstore.specs.Lists.{history_by, layout_by}
use Rattle.vlstore.specs.Merging.{Did, IsChange, IsWork, MergedAt, PutIn}
use Rattle.vlstore.specs.declared.locked.Origin.{Origin}
use Rattle.vlstore.proofs.Drawing.{some_is}
use Rattle.vlstore.proofs.Lending.{open_job-append}
use Rattle.vlstore.proofs.Stores.{nil_after, prefix_on}
use mathlib.Core.List.{IsPrefix}

-- ---- steps one after the other

module _ (is : LockStep → Type 0) where
  -- so it is of an entry, where there is one
  abbrev pub OnEntry : Option LockEntry → Type 0
  OnEntry None = Unit {0}
  OnEntry (Some e) = is e.step

  all_on : (es more : List LockEntry) → AllByRecursion (λ (e : LockEntry). is e.step) es
      → AllByRecursion (λ (e : LockEntry). is e.step) more → AllByRecursion (λ (e : LockEntry). is e.step) (es ++ more)
  all_on [] more first then = then
  all_on (e ∷ es) more first then = (first.0, all_on es more first.1 then)

  pub did_same : (v w : Knows) → w.own ≡ v.own → Did is v w
  did_same v w same = record { more = []; own = same ∙ nil_after v.own; are = tt }

  pub did_entry : (v w : Knows) (e : Option LockEntry) → w.own ≡ with_entry v.own e → OnEntry e → Did is v w
  did_entry v w None now on = did_same v w now
  did_entry v w (Some e) now on = record { more = e ∷ []; own = now; are = (on, tt) }

  pub did_on : (u v w : Knows) → Did is u v → Did is v w → Did is u w
  did_on u v w first then = record {
    more = first.more ++ then.more;
    own = then.own ∙ (ap (λ (es : List LockEntry). es ++ then.more) first.own ∙ append_assoc u.own first.more then.more);
    are = all_on first.more then.more first.are then.are;
  }

-- a change is work
change_works : (es : List LockEntry) → AllByRecursion (λ (e : LockEntry). IsChange e.step) es
    → AllByRecursion (λ (e : LockEntry). IsWork e.step) es
change_works [] all = tt
change_works (e ∷ es) all = (subst IsWork (sym all.0) tt, change_works es all.1)

pub did_work : (v w : Knows) → Did IsChange v w → Did IsWork v w
did_work v w did = record { more = did.more; own = did.own; are = change_works did.more did.are }

-- and leaves the merge that is open
still_open : (job : Option (ℕ × Job)) (es : List LockEntry) → AllByRecursion (λ (e : LockEntry). IsChange e.step) es
    → open_job job es ≡ job
still_open job [] all = refl
still_open job (e ∷ es) all = subst (λ (step : LockStep). open_job job (record e { step = step } ∷ es) ≡ job) (sym all.0)
    (still_open job es all.1)

pub own_stays : (v w : Knows) (job : Job) → w.session ≡ v.session → Did IsChange v w → IsOwnJob v job → IsOwnJob w job
own_stays v w job session did own =
    ap (open_job None) did.own ∙ (open_job-append None v.own did.more ∙ (still_open (open_job None v.own) did.more did.are
    ∙ (own ∙ ap (λ (n : ℕ). Some (n, job)) (sym session))))

-- ---- entries

pub plan_works : (s : ℕ) (l : Layout) (h : History) (outcome : Outcome (Option Job)) → OnEntry IsWork (plan_entry s l h outcome)
plan_works s l h (Answered None) = tt
plan_works s l h (Answered (Some job)) = tt
plan_works s l h NoMemory = tt
plan_works s l h (Failed name) = tt
plan_works s l h (Damaged name place) = tt

pub fresh_changes : (s : ℕ) (l : Layout) (h : History) (outcome : Outcome FreshAnswer) → OnEntry IsChange (fresh_entry s l h outcome)
fresh_changes s l h (Answered (fresh.Drawn number)) = refl
fresh_changes s l h (Answered (fresh.Halted name)) = tt
fresh_changes s l h (Answered (fresh.Exhausted counter)) = tt
fresh_changes s l h NoMemory = tt
fresh_changes s l h (Failed name) = refl
fresh_changes s l h (Damaged name place) = tt

pub install_works : (job : Job) (made : Made) (s : ℕ) (l : Layout) (h : History) (outcome : Outcome InstallAnswer)
    → OnEntry IsWork (install_entry job made s l h outcome)
install_works job made s l h (Answered a) = tt
install_works job made s l h NoMemory = tt
install_works job made s l h (Failed name) = tt
install_works job made s l h (Damaged name place) = tt

pub abandon_works : (made : Made) (s : ℕ) (l : Layout) (h : History) → OnEntry IsWork (abandon_entry made s l h (Answered tt))
abandon_works made s l h = tt

-- a call that steps so
pub stepped_so : {A : Type 0} {sure : Type 0} (is : LockStep → Type 0) (v w : Knows) (ruling : Layout → History → Ruling A)
    (entry : ℕ → Layout → History → Outcome A → Option LockEntry) (outcome : Outcome A)
    → ((s : ℕ) (l : Layout) (h : History) → OnEntry is (entry s l h outcome))
    → Stepped sure v w ruling entry outcome → Did is v w
stepped_so is v w ruling entry outcome so stepped =
    did_entry is v w (entry v.session (layout_by v.origin stepped.before) (history_by v.origin stepped.before) outcome) stepped.own
    (so v.session (layout_by v.origin stepped.before) (history_by v.origin stepped.before))

-- it ends the merge
abbrev pub EndsJob : Option LockEntry → Type 0
EndsJob None = ⊥
EndsJob (Some e) = e.step ≡ JobEnded

-- ---- which merge it was

pub entry_behind : (list now : List LockEntry) (e : Option LockEntry) → now ≡ with_entry list e → IsPrefix list now
entry_behind list now None is = ([], sym (nil_after list) ∙ sym is)
entry_behind list now (Some e) is = (e ∷ [], sym is)

module _ (u v w : Knows) where
  -- none was due
  pub none_due : {sure : Type 0} → Stepped sure u v (λ l h. plan_ruling l h) plan_entry (Answered None)
      → IsPrefix v.seen w.seen → MergedAt u w None
  none_due step on =
      let is : None ≡ (plan_ruling (layout_by u.origin step.before) (history_by u.origin step.before)).answer = step.answer None refl in
      record {
        before = step.before;
        later = step.later;
        within = prefix_on step.before v.seen w.seen (entry_behind step.before v.seen
            (plan_entry u.session (layout_by u.origin step.before) (history_by u.origin step.before) (Answered None)) step.seen) on;
        counts = ap kept_of is;
        put_in = λ job at. absurd (none≢some job (is ∙ at));
      }

  -- this one was
  pub one_due : {sure : Type 0} (job : Job) (kept : ℕ) → kept ≡ min (length (merged_entries job)) (2 ^ 64 - 1)
      → Stepped sure u v (λ l h. plan_ruling l h) plan_entry (Answered (Some job)) → IsPrefix v.seen w.seen → PutIn u w job
      → MergedAt u w (Some kept)
  one_due job kept is step on put_in =
      let ruled : Some job ≡ (plan_ruling (layout_by u.origin step.before) (history_by u.origin step.before)).answer =
      step.answer (Some job) refl in
      record {
        before = step.before;
        later = step.later;
        within = prefix_on step.before v.seen w.seen (entry_behind step.before v.seen
            (plan_entry u.session (layout_by u.origin step.before) (history_by u.origin step.before) (Answered (Some job))) step.seen)
            on;
        counts = ap Some is ∙ ap kept_of ruled;
        put_in = λ other at. subst (PutIn u w) (some_is job other (ruled ∙ at)) put_in;
      }

-- it was put in, by an install of what the session had seen before
pub was_put_in : {sure : Type 0} (u v w : Knows) (job : Job) (made : Made) → v.origin ≡ u.origin → v.session ≡ u.session
    → IsPrefix u.seen v.seen
    → Stepped sure v w (λ l h. install_ruling l h job made) (install_entry job made) (Answered Installed) → PutIn u w job
was_put_in u v w job made origin session on step = record {
  made = made;
  before = step.before;
  later = prefix_on u.seen v.seen step.before on step.later;
  installed = sym (subst (λ (o : Origin). Installed
      ≡ (install_ruling (layout_by o step.before) (history_by o step.before) job made).answer) origin (step.answer Installed refl));
  seen = subst (λ (o : Origin). w.seen ≡ step.before ++ record {
    session = u.session;
    step = JobEnded;
    layout = (install_ruling (layout_by o step.before) (history_by o step.before) job made).layout;
  } ∷ []) origin (subst (λ (n : ℕ). w.seen ≡ step.before ++ record {
    session = n;
    step = JobEnded;
    layout = (install_ruling (layout_by v.origin step.before) (history_by v.origin step.before) job made).layout;
  } ∷ []) session step.seen);
}

-- ---- no merge of its own is left open

-- behind its own end of it
pub job_ended : {A : Type 0} {sure : Type 0} (v w : Knows) (ruling : Layout → History → Ruling A)
    (entry : ℕ → Layout → History → Outcome A → Option LockEntry) (outcome : Outcome A)
    → ((s : ℕ) (l : Layout) (h : History) → EndsJob (entry s l h outcome))
    → Stepped sure v w ruling entry outcome → open_job None w.own ≡ None
job_ended v w ruling entry outcome so step =
    by_entry (entry v.session (layout_by v.origin step.before) (history_by v.origin step.before) outcome) step.own
    (so v.session (layout_by v.origin step.before) (history_by v.origin step.before))
  where
    by_entry : (e : Option LockEntry) → w.own ≡ with_entry v.own e → EndsJob e → open_job None w.own ≡ None
    by_entry None now ends = absurd ends
    by_entry (Some e) now ends = ap (open_job None) now ∙ (open_job-append None v.own (e ∷ [])
        ∙ ap (λ (step : LockStep). job_after e.session step e.layout (open_job None v.own)) ends)

pub none_own : (v : Knows) → open_job None v.own ≡ None → (job : Job) → IsOwnJob v job → ⊥
none_own v none job own = none≢some _ (sym none ∙ own)

-- what is seen begins itself
pub prefix_itself : (es : List LockEntry) → IsPrefix es es
prefix_itself es = ([], sym (nil_after es))

-- where a merge came the ruling planned one
pub planned_some : {J : Type 0} (fits : J → Job → Type 0) (job : J) (planned : Option Job) → AreBoth fits (Some job) planned
    → (j : Job) × (planned ≡ Some j)
planned_some fits job None both = absurd both
planned_some fits job (Some j) both = (j, refl)

-- the session's own, once it was planned
pub planned_own : {sure : Type 0} (u v : Knows) (job : Job) → v.session ≡ u.session
    → Stepped sure u v (λ l h. plan_ruling l h) plan_entry (Answered (Some job)) → IsOwnJob v job
planned_own u v job session step =
    ap (open_job None) step.own ∙ (open_job-append None u.own _ ∙ ap (λ (n : ℕ). Some (n, job)) (sym session))

-- there is one at most
pub same_own : (v : Knows) (one other : Job) → IsOwnJob v one → IsOwnJob v other → one ≡ other
same_own v one other is too = ap job_of (sym is ∙ too)
  where
    job_of : Option (ℕ × Job) → Job
    job_of None = one
    job_of (Some x) = x.1

-- where nothing was done what is its own was so before
pub own_back : (v w : Knows) → w.own ≡ v.own → w.session ≡ v.session → (job : Job) → IsOwnJob w job → IsOwnJob v job
own_back v w same session job own =
    ap (open_job None) (sym same) ∙ (own ∙ ap (λ (n : ℕ). Some (n, job)) session)

-- an install that doesn't hand its merge back ends it
pub install_ends : {V H W : Type 0} {k : _} (job : Job) (made : Made) (fail : InstallFail V H W k) → (IsHandedBack fail → ⊥)
    → (s : ℕ) (l : Layout) (h : History) → EndsJob (install_entry job made s l h (install_outcome (Err fail)))
install_ends job made (fails.Halted name) never s l h = refl
install_ends job made (fails.Raced key number) never s l h = refl
install_ends job made (fails.Exhausted counter) never s l h = refl
install_ends job made (fails.NoMemory back) never s l h = absurd (never tt)
install_ends job made (fails.Disk name) never s l h = refl
