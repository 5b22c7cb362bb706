-- A run that found no memory for its words: nothing was opened or read, and the line of that was put, or cut by the sink.
use Rattle.std.proofs.Common.{◌≡◌, ◌≢◌, ◌⊎◌, ◌≤◌, ◌-◌, ◌^◌, ⊎_elim, inr, ℕ, List, Option, Some, refl, sym, subst, arith}
use Rattle.std.specs.Prelude.{IsTrue, length}
use Rattle.vl_engine_laws.specs.Found.{IsDurable}
use Rattle.vl_engine_laws.specs.Shown.{Shown}
use Rattle.vl_engine_laws.specs.laws.Opened.{none_made, opening_through, opens_still}
use Rattle.vl_disk.specs.Faults.{Rose}
use Rattle.vl_disk.specs.declared.watched.Watched.{Ghosts}
use Rattle.vl_io.specs.declared.sink.Sink as sink
use Rattle.vl_recover.specs.declared.fails.OpenError.TheVariants as why
use Rattle.vl_recover.specs.opening.Answers.{calls_to_open}
use Rattle.vl_script_model.specs.Durable.{CrashesShow, Tells}
use Rattle.vl_script_model.specs.Endings.{no_memory_line}
use Rattle.vl_script_model.specs.Exchanges.{KeepsUp}
use Rattle.vl_script_model.specs.Opening.{why_refused}
use Rattle.vl_script_model.specs.Reading.{ReadsInput}
use Rattle.vl_script_model.specs.Runs.{IsFront, Outside, script_of}
use Rattle.vl_script_model.specs.Sequential.{State, history_of}
use Rattle.vl_script_model.specs.Start.{AnswersInput, FailsAtTables, StartsIn}
use Rattle.vl_script_model.specs.Steps.{EndsWithoutOpening, Finishes, FinishesBy}
use Rattle.vl_script_model.specs.Stored.{IsStopped, IsStored}
use Rattle.vl_script_model.specs.Trial.{EndsTrial, TakesFirst, Trial}
use Rattle.vl_script_model.specs.declared.ending.Ending.{Ending}
use Rattle.vl_script_model.specs.declared.ending.Ending.TheVariants.{NoMemory, Stopped, WriteFault}
use Rattle.vl_script_model.specs.declared.fails.Refusal.{Refusal}
use Rattle.vl_script_model.specs.declared.fails.Refusal.TheVariants as refusals
use Rattle.vl_script_model.specs.laws.DiskSteps.{IsWatched}
use Rattle.vl_script_model.specs.laws.Ends.{or_cut}
use Rattle.vl_script_model.specs.laws.ShownDisk.{shown_stays, stored_exactly}
use Rattle.vl_script_model.specs.laws.Starting.{at_most}
use Rattle.vl_replay.proofs.Runs.OpenedRuns.{ends_refused, not_silent, refused, refused_nothing}
use Rattle.vl_replay.proofs.Runs.ReadingOn.{unopened_reads_nothing}

no_refusal : (refusal : Refusal) → why.NoMemory ≡ why_refused refusal → ⊥
no_refusal refusals.NotAStore e = cc
no_refusal (refusals.NewerFormat format) e = cc
no_refusal (refusals.Damaged name place) e = cc
no_refusal (refusals.Exhausted counter) e = cc

-- ---- a disk that waits

module _ {D : Type 0} (g : Ghosts D) (watched : IsWatched g) (disk : D) (s : State) (starts : StartsIn g disk s) where
  -- shows what it is opened as, where all of it is durable
  still_shown : Tells g disk IsDurable → CrashesShow g Shown disk disk (history_of s) (history_of s)
  still_shown (state, told, durable) =
      let same : state ≡ starts.state = cc in
      opening_through g disk disk starts.state (subst IsDurable same durable) starts.read starts.is_read (history_of s) starts.shown
      (opens_still g disk watched.only_now starts.state starts.told)

  -- and has counted no more calls than behind an opening
  within : g.calls disk ≤ 2 ^ 64 - 1 → g.calls disk ≤ s.calls
  within below = at_most (calls_to_open starts.found (length starts.strays)) (g.calls disk) (g.calls disk) s.calls below
      (none_made (calls_to_open starts.found (length starts.strays)) (g.calls disk)) starts.calls

-- ---- what the run is

module _ {K : Type 0} (k : sink.Ghosts K) (old new : K) (result : Ending) (finishes : Finishes k old new no_memory_line NoMemory result) where
  by : FinishesBy k old new NoMemory result
  by = (no_memory_line, refl, finishes)

  -- what holds of both its endings
  pub of_result : (P : Ending → Type 0) → P NoMemory → P WriteFault → P result
  of_result P whole cut = or_cut k old new no_memory_line NoMemory result P finishes whole cut

  -- It answered nothing of its input.
  pub answers_nothing : {D R : Type 0} (g : Ghosts D) (watched : IsWatched g) (faults : R → ℕ) (disk : D) (left asked : Option (List ℕ))
      (source_faults : ℕ) → ((input : List ℕ) → left ≡ Some input → KeepsUp input asked 0)
      → AnswersInput g faults
      (record { left = left; asked = asked; source_faults = source_faults; held = k.held old; disk = disk })
      (record { left = left; asked = asked; source_faults = source_faults; held = k.held new; disk = disk }) result
  answers_nothing {D} {R} g watched faults disk left asked source_faults kept_up s input starts told =
      let first : Outside D = record { left = left; asked = asked; source_faults = source_faults; held = k.held old; disk = disk } in
      let end : Outside D = record { left = left; asked = asked; source_faults = source_faults; held = k.held new; disk = disk } in
      ends_refused g watched IsStored Shown IsStopped shown_stays stored_exactly
      (λ (t : State). IsTrue t.openable) (Tells g disk IsDurable) (script_of s 0 input) first end faults result
      (refused_nothing k old new why.NoMemory result by)
      (refused k old new (Rose source_faults source_faults)
      (Rose (g.faults disk) (g.faults disk) ⊎ (FailsAtTables g faults disk disk × (0 ≡ 0))) (script_of s 0 input) left
      why.NoMemory result no_refusal (λ fault. absurd fault) by)
      (kept_up input told)
      (λ openable durable. still_shown g watched disk s starts durable)
      (λ openable durable. (durable.0, durable.1, durable.2.may_open))
      (λ sound. (refl, refl)) (λ out. (refl, refl))
      (within g watched disk s starts)

  pub reported : result ≢ Stopped
  reported = not_silent k old new why.NoMemory result by

  -- and tells nothing of it
  pub reads_nothing : (input : List ℕ) (left asked : Option (List ℕ)) → KeepsUp input asked 0
      → ReadsInput input (record { left = left; asked = asked; held = k.held old }) (record { left = left; asked = asked; held = k.held new })
      result
  reads_nothing input left asked kept_up = unopened_reads_nothing k old new why.NoMemory result by input
      (record { left = left; asked = asked; held = k.held old }) (record { left = left; asked = asked; held = k.held new })
      (λ taken. taken) kept_up

  -- So it is with a trial.
  pub tries_nothing : (t : Trial) (left : Option (List ℕ)) → EndsTrial t (k.held old) (k.held new) left result
  tries_nothing t left = ⊎_elim
      (λ (whole : (result ≡ NoMemory) × (finishes.printed ≡ no_memory_line) × (k.faults new ≡ k.faults old)).
      subst (λ (e : Ending). EndsTrial t (k.held old) (k.held new) left e) (sym whole.0)
      (0, subst (TakesFirst t (k.held old) (k.held new) 0) whole.1 none_first))
      (λ (cut : (result ≡ WriteFault) × IsFront finishes.printed no_memory_line × Rose (k.faults old) (k.faults new)).
      subst (λ (e : Ending). EndsTrial t (k.held old) (k.held new) left e) (sym cut.0)
      (0, finishes.printed, inr (NoMemory, no_memory_line, refl, cut.1), none_first))
      finishes.how
    where
      none_first : TakesFirst t (k.held old) (k.held new) 0 finishes.printed
      none_first = (omega arith, finishes.taken)

  -- Reads of its disk may have refused it as a store.
  pub refuses_nothing : {D : Type 0} (g : Ghosts D) (disk : D) (refusal : Refusal) → EndsWithoutOpening g k disk disk old new refusal result
  refuses_nothing g disk refusal = record {
    how = why.NoMemory;
    how_is = inr tt;
    printed = by;
    unchanged = (refl, refl);
  }
