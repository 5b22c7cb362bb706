-- What each call makes of the list, by the ruling on it: merges and passes.
use Rattle.std.proofs.Common.{◌≡◌, ℕ, ◌+◌, List, [], ◌∷◌, refl, ap}
use Rattle.std.specs.Prelude.{Bool, true, false, ◌==◌, ◌||◌, nat_le, nat_lt, if◌then◌else◌, Option, None, Some}
use Rattle.std.specs.Option.{option_map}
use Rattle.vl_engine_laws.specs.laws.Lasting.{install_lasts, lasts_same}
use Rattle.vl_engine_model.specs.Decides.{Answered, as_before}
use Rattle.vl_engine_model.specs.Garbage.{best}
use Rattle.vl_engine_model.specs.Jobs.{Made, job_ended}
use Rattle.vl_engine_model.specs.Levels.{due_from, first_into, inputs_at}
use Rattle.vl_engine_model.specs.LockHistory.{IsOwn}
use Rattle.vl_engine_model.specs.Relocation.{Candidate, Pass, moved_of}
use Rattle.vl_engine_model.specs.Ruling.{Ruling, halted_at, has_no_number, has_no_epoch, leaving}
use Rattle.vl_engine_model.specs.Rulings.Drain.{drain_of, drain_ruling, drain_unless}
use Rattle.vl_engine_model.specs.Rulings.EndPass.{without_pass}
use Rattle.vl_engine_model.specs.Rulings.Fresh.{FreshAnswer, drawn, fresh_ruling, fresh_unless, lent_to}
use Rattle.vl_engine_model.specs.Rulings.Install.{InstallAnswer, install_checked, install_ruling, install_unless, installed, moved_since, race}
use Rattle.vl_engine_model.specs.Rulings.Pick as pick
use Rattle.vl_engine_model.specs.Rulings.Pick.{PickAnswer, pick_best, pick_ruling, pick_unless, with_pass}
use Rattle.vl_engine_model.specs.Rulings.Plan.{job_of, plan_of, plan_ruling, plan_unless, planned, with_job}
use Rattle.vl_engine_model.specs.Rulings.Relocate.{MoveAnswer, relocate_of, relocate_ruling, relocate_unless, relocated, with_moves}
use Rattle.vl_engine_model.specs.Sources.{sources, tables}
use Rattle.vl_engine_model.specs.declared.file_name.FileName.{FileName}
use Rattle.vl_engine_model.specs.declared.job.Job.{Job}
use Rattle.vl_engine_model.specs.declared.job.OpenJob.{OpenJob}
use Rattle.vl_engine_model.specs.declared.job.OpenPass.{OpenPass}
use Rattle.vl_engine_model.specs.declared.job.Target.TheVariants.{InPlace, Level}
use Rattle.vl_engine_model.specs.declared.layout.Layout.{Layout}
use Rattle.vl_engine_model.specs.declared.lock_history.LockEntry.{LockEntry}
use Rattle.vl_engine_model.specs.declared.lock_history.LockStep.TheVariants.{Changed, JobEnded, PassEnded, Picked, Planned}
use Rattle.vl_engine_model.specs.declared.segment.SegmentStat.{SegmentStat}
use Rattle.vl_engine_model.specs.declared.table.Table.{Table}
use Rattle.vl_steps.specs.Installing.{install_otherwise}
use Rattle.vl_model.specs.Conflicts.{Named}
use Rattle.vl_model.specs.Frames.{frame_length}
use Rattle.vl_model.specs.History.{History, last_number}
use Rattle.vl_model.specs.declared.log_frame.LogFrame.TheVariants.{Relocated}
use Rattle.vl_model.specs.declared.log_frame.Moved.{Moved}
use Rattle.vlstore.specs.Entries.{abandon_entry, end_pass_entry, entry_by, fresh_entry, install_entry}
use Rattle.vlstore.specs.Entries.{move_done, pick_done, pick_entry, plan_entry, relocate_entry}
use Rattle.vlstore.specs.Lists.{history_by, layout_by, open_by}
use Rattle.vlstore.specs.Standing.{IsBehind, Parts}
use Rattle.vlstore.specs.declared.locked.Origin.{Origin}
use Rattle.vlstore.proofs.Leading.{LeadsBy, LeadsTo}
use Rattle.vlstore.proofs.Legal.{changed, ends_job, ends_pass, picks, plans}
use Rattle.vlstore.proofs.Steps.{Last, enters, halts, stays}

-- a layout's job stays what it is where a file is lent to it,
lent_job : (n : ℕ) (j : Option OpenJob) → option_map (λ (j : OpenJob). j.job) (lent_to n j) ≡ option_map (λ (j : OpenJob). j.job) j
lent_job n None = refl
lent_job n (Some j) = refl

-- and where it is told of moves
moved_job : (n : ℕ) (ms : List Moved) (j : Option OpenJob)
    → option_map (λ (j : OpenJob). j.job) (with_moves n ms j) ≡ option_map (λ (j : OpenJob). j.job) j
moved_job n ms None = refl
moved_job n ms (Some j) = refl

module _ {H L : Type 0} {sure : Type 0} (bytes : H → Option (List ℕ)) (o : Origin) (list : List LockEntry) (x : Parts H L)
    (is : IsBehind bytes sure o list x) (session : ℕ) where
  abbrev h : History
  h = history_by o list

  abbrev l : Layout
  l = layout_by o list

  nothing : LeadsTo bytes o list l.halted None h l
  nothing = stays bytes o list x is session

  either : {A : Type 0} (P : Ruling A → Type 0) (b : Bool) (r s : Ruling A) → P r → P s → P (if b then r else s)
  either P true r s of_r of_s = of_r
  either P false r s of_r of_s = of_s

  -- ---- plans

  abbrev Plans : Ruling (Option Job) → Type 0
  Plans r = LeadsTo bytes o list l.halted (plan_entry session l h (Answered r.answer)) r.history r.layout

  plan_job : (job : Job) → l.job ≡ None → Plans (planned l h job)
  plan_job job none = enters bytes o list x is session Planned (with_job job l) l.halted refl
      (plans o list is.start is.legal session job (with_job job l) none refl refl refl)
      (λ log lasts. lasts_same bytes log l lasts _ refl refl) refl

  plan_level : l.job ≡ None → (level : Option ℕ) → Plans (plan_of l h level)
  plan_level none None = nothing
  plan_level none (Some level) = plan_job (job_of l h (inputs_at level l.levels) (Level (level + 1))) none

  plan_free : (j : Option OpenJob) → l.job ≡ j → Plans (plan_unless j l h)
  plan_free None none = plan_level none (due_from 0 l.levels)
  plan_free (Some j) some = nothing

  pub plan_leads : LeadsBy bytes o list (plan_ruling l h) (as_before l l) (plan_entry session l h)
  plan_leads = record {
    answered = plan_free l.job refl;
    short = nothing;
    failed = halts bytes o list x is session;
    damaged = λ name place. nothing;
  }

  drain_table : l.job ≡ None → (t : Option Table) → Plans (drain_of l h t)
  drain_table none None = nothing
  drain_table none (Some t) = plan_job (job_of l h (t ∷ []) InPlace) none

  drain_free : (segment : ℕ) (j : Option OpenJob) → l.job ≡ j → Plans (drain_unless j l h segment)
  drain_free segment None none = drain_table none (first_into segment (tables l))
  drain_free segment (Some j) some = nothing

  pub drain_leads : (segment : ℕ) → LeadsBy bytes o list (drain_ruling l h segment) (as_before l l) (plan_entry session l h)
  drain_leads segment = record {
    answered = drain_free segment l.job refl;
    short = nothing;
    failed = halts bytes o list x is session;
    damaged = λ name place. nothing;
  }

  -- ---- files of a merge

  abbrev Draws : Ruling FreshAnswer → Type 0
  Draws r = LeadsTo bytes o list l.halted (fresh_entry session l h (Answered r.answer)) r.history r.layout

  draws : (halted : Option FileName) → Draws (fresh_unless halted l h)
  draws (Some name) = nothing
  draws None =
      either Draws (has_no_number l.next_table 1) _ _ nothing
      (enters bytes o list x is session Changed (drawn l) l.halted refl
      (changed o list is.start is.legal session (drawn l) refl (lent_job l.next_table l.job) refl)
      (λ log lasts. lasts_same bytes log l lasts _ refl refl) refl)

  pub fresh_leads : LeadsBy bytes o list (fresh_ruling l h) (as_before l l) (fresh_entry session l h)
  fresh_leads = record {
    answered = draws l.halted;
    short = nothing;
    failed = halts bytes o list x is session;
    damaged = λ name place. nothing;
  }

  -- ---- ends of a merge

  module _ (own : IsOwn session (open_by list).job) (job : Job) (made : Made) where
    ended : (next : Layout) (at : Option FileName) → next.live ≡ l.live → next.job ≡ None → next.pass ≡ l.pass → next.halted ≡ at
        → Last bytes o list x is session next
        → LeadsTo bytes o list at (Some (record { session = session; step = JobEnded; layout = next })) h next
    ended next at live none pass halted last = enters bytes o list x is session JobEnded next at refl
        (ends_job o list is.start is.legal session next own live none (ap (option_map (λ (p : OpenPass). p.segment)) pass)) last halted

    pub abandon_leads : LeadsTo bytes o list l.halted (Some (record { session = session; step = JobEnded; layout = job_ended made l })) h
        (job_ended made l)
    abandon_leads = ended (job_ended made l) l.halted refl refl refl refl (λ log lasts. lasts_same bytes log l lasts _ refl refl)

    pub abandon_lead : LeadsBy bytes o list (leaving {A = Unit {0}} tt h (job_ended made l)) (as_before l (job_ended made l))
        (abandon_entry made session l h)
    abandon_lead = record {
      answered = abandon_leads;
      short = nothing;
      failed = λ name. ended (halted_at name (job_ended made l)) (Some name) refl refl refl refl
          (λ log lasts. lasts_same bytes log l lasts _ refl refl);
      damaged = λ name place. nothing;
    }

    abbrev Installs : Ruling InstallAnswer → Type 0
    Installs r = Last bytes o list x is session r.layout
        → LeadsTo bytes o list l.halted (Some (record { session = session; step = JobEnded; layout = r.layout })) r.history r.layout

    installs_by : (raced : Option Named) → Installs (install_checked l h job made raced)
    installs_by (Some named) = ended (job_ended made l) l.halted refl refl refl refl
    installs_by None =
        either Installs (has_no_epoch l) _ _ (ended (job_ended made l) l.halted refl refl refl refl)
        (ended (installed job made l) l.halted refl refl refl refl)

    installs : (halted : Option FileName) → Installs (install_unless halted l h job made)
    installs (Some name) = ended (job_ended made l) l.halted refl refl refl refl
    installs None = installs_by (race job (moved_since l.job))

    pub install_leads : LeadsBy bytes o list (install_ruling l h job made) (install_otherwise l made) (install_entry job made session l h)
    install_leads = record {
      answered = installs l.halted (λ log lasts. install_lasts bytes log l h lasts is.whole.represents.stands.tidy job made);
      short = nothing;
      failed = λ name. ended (halted_at name (job_ended made l)) (Some name) refl refl refl refl
          (λ log lasts. lasts_same bytes log l lasts _ refl refl);
      damaged = λ name place. nothing;
    }

  -- ---- passes

  abbrev Picks : Ruling PickAnswer → Type 0
  Picks r = LeadsTo bytes o list l.halted (entry_by (pick_done r.layout) (Changed, l) session (Answered r.answer)) r.history r.layout

  picks_best : l.pass ≡ None → (stat : Option SegmentStat) → Picks (pick_best l h stat)
  picks_best none None = nothing
  picks_best none (Some stat) = enters bytes o list x is session Picked (with_pass stat.segment l) l.halted refl
      (picks o list is.start is.legal session stat.segment (with_pass stat.segment l) none refl refl refl)
      (λ log lasts. lasts_same bytes log l lasts _ refl refl) refl

  picks_free : (percent : ℕ) (p : Option OpenPass) → l.pass ≡ p → Picks (pick_unless p l h percent)
  picks_free percent None none = picks_best none (best l percent)
  picks_free percent (Some p) some = nothing

  pub pick_leads : (percent : ℕ) → LeadsBy bytes o list (pick_ruling l h percent) (as_before l l) (pick_entry percent session l h)
  pick_leads percent = record {
    answered = either Picks ((percent == 0) || nat_lt 99 percent) (leaving pick.InvalidRequest h l) _ nothing
        (picks_free percent l.pass refl);
    short = nothing;
    failed = halts bytes o list x is session;
    damaged = λ name place. nothing;
  }

  pub end_pass_leads : IsOwn session (open_by list).pass
      → LeadsTo bytes o list l.halted (Some (record { session = session; step = PassEnded; layout = without_pass l })) h (without_pass l)
  end_pass_leads own = enters bytes o list x is session PassEnded (without_pass l) l.halted refl
      (ends_pass o list is.start is.legal session (without_pass l) own refl refl refl)
      (λ log lasts. lasts_same bytes log l lasts _ refl refl) refl

  pub end_pass_lead : IsOwn session (open_by list).pass
      → LeadsBy bytes o list (leaving {A = Unit {0}} tt h (without_pass l)) (as_before l (without_pass l)) (end_pass_entry session l h)
  end_pass_lead own = record {
    answered = end_pass_leads own;
    short = nothing;
    failed = λ name. enters bytes o list x is session PassEnded (halted_at name (without_pass l)) (Some name) refl
        (ends_pass o list is.start is.legal session (halted_at name (without_pass l)) own refl refl refl)
        (λ log lasts. lasts_same bytes log l lasts _ refl refl) refl;
    damaged = λ name place. nothing;
  }

  abbrev Moves : Ruling MoveAnswer → Type 0
  Moves r = LeadsTo bytes o list l.halted (entry_by (move_done r.layout) (Changed, l) session (Answered r.answer)) r.history r.layout

  moves_of : (ms : List Moved) → Moves (relocate_of l h ms)
  moves_of [] = nothing
  moves_of (m ∷ ms) =
      either Moves (has_no_epoch l) _ _ nothing
      (either Moves (nat_le (l.active.length + frame_length l.active.format (Relocated (m ∷ ms))) l.room) _ _
      (enters bytes o list x is session Changed (relocated l (m ∷ ms)) l.halted refl
      (changed o list is.start is.legal session (relocated l (m ∷ ms)) refl (moved_job (l.epoch + 1) (m ∷ ms) l.job) refl)
      (λ log lasts. lasts_same bytes log l lasts _ refl refl) refl) nothing)

  moves : (halted : Option FileName) (pass : Pass) (batch : List Candidate) → Moves (relocate_unless halted l h pass batch)
  moves (Some name) pass batch = nothing
  moves None pass batch = moves_of (moved_of (sources l) pass.segment (last_number h) batch)

  pub relocate_leads : (pass : Pass) (batch : List Candidate)
      → LeadsBy bytes o list (relocate_ruling l h pass batch) (as_before l l) (relocate_entry pass batch session l h)
  relocate_leads pass batch = record {
    answered = moves l.halted pass batch;
    short = nothing;
    failed = halts bytes o list x is session;
    damaged = λ name place. nothing;
  }
