-- What a sweep leaves, whatever the disk tells.
use Rattle.std.proofs.Common.{◌≡◌, ℕ, zero, suc, List, [], ◌∷◌, length, refl, ap, subst}
use Rattle.std.specs.Prelude.{not, Option, None, Some}
use Rattle.std.specs.List.{filter, list_any}
use Rattle.std.specs.Option.{option_map}
use Rattle.vl_engine_laws.specs.laws.Lasting.{lasts_same}
use Rattle.vl_engine_model.specs.Decides.{Answered, Outcome}
use Rattle.vl_engine_model.specs.Ruling.{Ruling, halted_at}
use Rattle.vl_engine_model.specs.Rulings.Sweep as sweep
use Rattle.vl_engine_model.specs.Rulings.Sweep.{SweepAnswer, is_same, sweep_lost, sweep_ruling, sweep_unless, swept, without_files}
use Rattle.vl_engine_model.specs.declared.file_name.FileName.{FileName}
use Rattle.vl_engine_model.specs.declared.file_name.Retired.{Retired}
use Rattle.vl_engine_model.specs.declared.job.OpenJob.{OpenJob}
use Rattle.vl_engine_model.specs.declared.layout.Layout.{Layout}
use Rattle.vl_engine_model.specs.declared.lock_history.LockEntry.{LockEntry}
use Rattle.vl_engine_model.specs.declared.lock_history.LockStep.TheVariants.{Changed}
use Rattle.vl_space.specs.Sweeping.{sweep_otherwise}
use Rattle.vl_model.specs.History.{History}
use Rattle.vlstore.specs.Entries.{done_by, entry_by, sweep_done, sweep_entry}
use Rattle.vlstore.specs.Lists.{history_by, layout_by}
use Rattle.vlstore.specs.Standing.{IsBehind, Parts}
use Rattle.vlstore.specs.declared.locked.Origin.{Origin}
use Rattle.vlstore.proofs.Calls.{LeavesDone, leaves_by}
use Rattle.vlstore.proofs.Leading.{LeadsBy, LeadsTo}
use Rattle.vlstore.proofs.Legal.{changed}
use Rattle.vlstore.proofs.Steps.{enters, stays}

-- ---- nothing went

all_stay : (files : List Retired) → files ≡ filter (λ (r : Retired). not (list_any (is_same r.file) [])) files
all_stay [] = refl
all_stay (r ∷ files) = ap (λ (rs : List Retired). r ∷ rs) (all_stay files)

none_gone : (l : Layout) (gone : List FileName) → length gone ≡ 0 → l ≡ without_files gone l
none_gone l [] none = ap (λ (rs : List Retired). record l { retired = rs }) (all_stay l.retired)
none_gone l (f ∷ gone) none = absurd (subst IsZero none tt)
  where
    IsZero : ℕ → Type 0
    IsZero zero = ⊥
    IsZero (suc n) = Unit {0}

-- ---- the open merge stays

sweep_leaves_done : (l next : Layout) → next.job ≡ l.job → (a : SweepAnswer) → LeavesDone l (sweep_done next a)
sweep_leaves_done l next job (sweep.Removed zero) = tt
sweep_leaves_done l next job (sweep.Removed (suc n)) = (tt, ap (λ j. option_map (λ (x : OpenJob). x.lent) j) job)
sweep_leaves_done l next job (sweep.Halted name) = tt

job_stays : (halted : Option FileName) (l : Layout) (h : History) → (sweep_unless halted None l h).layout.job ≡ l.job
job_stays (Some name) l h = refl
job_stays None l h = refl

pub sweep_leaves : (gone : ℕ) (l : Layout) (h : History) (outcome : Outcome SweepAnswer)
    → LeavesDone l (done_by (sweep_done (sweep_ruling l h).layout) (Changed, sweep_lost None l gone) outcome)
sweep_leaves gone l h outcome =
    leaves_by l (sweep_done (sweep_ruling l h).layout) (Changed, sweep_lost None l gone) outcome
    (sweep_leaves_done l (sweep_ruling l h).layout (job_stays l.halted l h)) (tt, refl)

-- ---- the list

module _ {H L : Type 0} {sure : Type 0} (bytes : H → Option (List ℕ)) (o : Origin) (list : List LockEntry) (x : Parts H L)
    (is : IsBehind bytes sure o list x) (session : ℕ) (gone : ℕ) where
  abbrev h : History
  h = history_by o list

  abbrev l : Layout
  l = layout_by o list

  abbrev Sweeps : Ruling SweepAnswer → Type 0
  Sweeps r = LeadsTo bytes o list l.halted (entry_by (sweep_done r.layout) (Changed, l) session (Answered r.answer)) r.history r.layout

  goes : (n : ℕ) → length (swept None l) ≡ n → LeadsTo bytes o list l.halted
      (entry_by (sweep_done (without_files (swept None l) l)) (Changed, l) session (Answered (sweep.Removed n))) h
      (without_files (swept None l) l)
  goes zero none = (refl, none_gone l (swept None l) none)
  goes (suc n) some = enters bytes o list x is session Changed (without_files (swept None l) l) l.halted refl
      (changed o list is.start is.legal session (without_files (swept None l) l) refl refl refl)
      (λ log lasts. lasts_same bytes log l lasts _ refl refl) refl

  sweeps : (halted : Option FileName) → Sweeps (sweep_unless halted None l h)
  sweeps (Some name) = stays bytes o list x is session
  sweeps None = goes (length (swept None l)) refl

  pub sweep_leads : LeadsBy bytes o list (sweep_ruling l h) (sweep_otherwise None l gone) (sweep_entry gone session l h)
  sweep_leads = record {
    answered = sweeps l.halted;
    short = stays bytes o list x is session;
    failed = λ name. enters bytes o list x is session Changed (halted_at name (sweep_lost None l gone)) (Some name) refl
        (changed o list is.start is.legal session (halted_at name (sweep_lost None l gone)) refl refl refl)
        (λ log lasts. lasts_same bytes log l lasts _ refl refl) refl;
    damaged = λ name place. stays bytes o list x is session;
  }
