-- The two openings of a trial: that of the empty disk that stops, and that of what a crash leaves.
use Rattle.std.proofs.Common.{◌≡◌, ⊎_elim, ℕ, ◌-◌, ◌^◌, ◌≤◌, List, length, None, Some, Result, Ok, Err, refl, sym, ◌∙◌, ap, subst, arith}
use Rattle.std.specs.Prelude.{IfOk, IfErr}
use Rattle.std.specs.FinMap.{empty, get-empty}
use Rattle.vl_disk.specs.laws.Counting.{never_counted, none_counted}
use Rattle.vl_disk.specs.Crash.{Image}
use Rattle.vl_disk.specs.DiskState.{DiskState, empty_disk}
use Rattle.vl_disk.specs.Faults.{HasCause, NoneCounted, after_calls, never}
use Rattle.vl_disk.specs.Moments.{HoldsThroughout}
use Rattle.vl_disk.specs.Name.{name_cmp}
use Rattle.vl_disk.specs.Started.{IsRead, Started, started_empty, started_read}
use Rattle.vl_io.specs.declared.sink.Sink as sink
use Rattle.vl_mem.specs.Event.{counts_present}
use Rattle.vl_mem.specs.FailsPast.{counted_past}
use Rattle.vl_mem.specs.StoppingDisk.{StopsPast, calls_on, faults_on, state_on}
use Rattle.vl_mem.specs.contracts.stopping_disk.StoppingDiskWatched.TheImpl as memory
use Rattle.vl_mem.specs.declared.stopping_disk.StoppingDisk.{StoppingDisk}
use Rattle.vl_model.specs.History.{History}
use Rattle.vl_recover.specs.opening.Answers.{AnswersBy}
use Rattle.vl_recover.specs.crash.Meanwhile.{IsMeanwhile}
use Rattle.vl_recover.specs.opening.Results.{counted, recovery_by}
use Rattle.vl_recover.specs.declared.fails.OpenFail.{OpenFail}
use Rattle.vl_recover.specs.declared.fails.OpenError.{OpenError}
use Rattle.vl_recover.specs.declared.fails.OpenError.TheVariants as why
use Rattle.vl_script_model.specs.Durable.{HoldsState, Tells}
use Rattle.vl_script_model.specs.Endings.{no_memory_line}
use Rattle.vl_script_model.specs.Opening.{IsRefused, ending_unopened}
use Rattle.vl_replay.specs.Opened.{disk_behind}
use Rattle.vl_engine.specs.Opening.{AnswersOpening, IsDiskFault, IsFault, reader_faults, why_of}
use Rattle.std.specs.Prelude.{Option as Maybe}
use Rattle.vl_mem.specs.CrashImage.{crash_image}
use Rattle.vl_model.specs.History.{last_number}
use Rattle.vl_script_model.specs.Reopens.{Reopens}
use Rattle.vl_disk.specs.declared.writer.Writer.{Ghosts as Writers}
use Rattle.vl_replay.specs.Served.{StandsFor, disk_of}
use Rattle.vl_script_model.specs.Start.{StartsIn}
use Rattle.vl_engine_laws.specs.Found.{IsDurable}
use Rattle.vl_script_model.specs.laws.StartLaws.{empty_stay, finds_nothing, no_commits, started_durable, starts_empty}
use Rattle.vl_script_model.specs.Steps.{EndsUnopened, Finishes, FinishesBy}
use Rattle.vl_script_model.specs.Stored.{IsStored}
use Rattle.vl_script_model.specs.Trial.{begun}
use Rattle.vl_script_model.specs.Trying.{IsOnTrial, StopsOpening}
use Rattle.vl_script_model.specs.declared.ending.Ending.{Ending}
use Rattle.vl_script_model.specs.declared.ending.Ending.TheVariants.{NoMemory}
use Rattle.vl_script_model.specs.declared.fails.Refusal.{Refusal}
use Rattle.vl_script_model.specs.declared.fails.Refusal.TheVariants as refusals
use Rattle.vl_replay.specs.declared.replayer.Replayer.{Replayer}
use Rattle.vl_script_model.specs.laws.NumbersLeft.{reopens_not_refused}
use Rattle.vl_script_model.specs.laws.OpeningStopped.{opening_reopens}
use Rattle.vl_replay.proofs.Runs.Refusals.{opened_not_refused}

some_list : (a b : List ℕ) → Some a ≡ Some b → a ≡ b
some_list a b e = cc

pub bare_read : IsRead empty empty_disk
bare_read = started_read empty empty_disk started_empty

-- ---- readers that never fail

-- an opening over readers that never fail has none that counted a fault
pub steady_readers : {E D R : Type 0} (faults : R → ℕ) → ((reader : R) → faults reader ≡ never) → (r : Result E (OpenFail D R))
    → NoneCounted (reader_faults faults r)
steady_readers faults sure (Ok engine) = none_counted
steady_readers {R} faults sure (Err fail) = of fail.reader
  where
    of : (reader : Maybe R) → NoneCounted (counted faults reader)
    of None = none_counted
    of (Some reader) = subst NoneCounted (sym (sure reader)) never_counted

-- ---- the first opening

module _ (stop : ℕ) (disk : StoppingDisk) (is : state_on disk ≡ empty_disk) (past : StopsPast disk (Some stop))
    (none : calls_on disk ≡ 0) where
  pub told : memory.ghosts.told disk ≡ Some empty_disk
  told = ap Some is

  sound : faults_on disk ≡ 0
  sound = let exactly = (counted_past disk.disk (Some stop) past).exactly (omega (arith, none)) in omega (arith, exactly, none)

  pub starts : StartsIn memory.ghosts disk begun
  starts = subst (λ (n : ℕ). StartsIn memory.ghosts disk (record begun { calls = after_calls 6 n })) none
      (starts_empty memory.ghosts disk empty_disk told (get-empty name_cmp) (get-empty name_cmp)
      (started_durable empty empty_disk started_empty empty_stay).may_open)

  pub durable : Tells memory.ghosts disk IsDurable
  durable = (empty_disk, told, started_durable empty empty_disk started_empty empty_stay)

  pub counts_small : calls_on disk ≤ 2 ^ 64 - 1
  counts_small = omega (arith, none)

  pub opened : {Held Reader Writer : Type 0} {watched : _} {held : _} {cloned : _} {read : _} {write : _}
      {R : Type 0} (faults : R → ℕ)
      (r : Result (Replayer StoppingDisk Held Reader Writer watched held cloned read write) (OpenFail StoppingDisk R))
      → NoneCounted (reader_faults faults r) → HasCause (faults_on disk) (faults_on (disk_behind r)) (IsDiskFault (reader_faults faults r) (why_of r))
      → HoldsThroughout memory.ghosts disk (disk_behind r) (IsMeanwhile empty empty_disk)
      → (writers : Writers Writer) (bytes : Held → Maybe (List ℕ))
      → IfOk r (λ replayer. StandsFor memory.ghosts writers bytes replayer begun)
      → IfOk r (λ replayer. HoldsState memory.ghosts IsStored begun (disk_of replayer))
      → IfOk r (λ replayer. IsOnTrial stop (StandsFor memory.ghosts writers bytes replayer) (disk_of replayer))
  opened faults (Ok replayer) unread cause meanwhile writers bytes stands holds =
      let past_then = meanwhile.time.as_planned (Some stop) past in
      let sound_then : faults_on (disk_of replayer) ≡ 0 = cause.steady (λ by. by) ∙ sound in
      let counts = counted_past (disk_of replayer).disk (Some stop) past_then in
      record {
        stands_for = stands;
        held = holds;
        past = past_then;
        sound = sound_then;
        opened = omega (arith, counts.at_least, sound_then, holds.calls);
      }
  opened faults (Err fail) unread cause meanwhile writers bytes stands holds = tt

  pub stopped : {Held Reader Writer : Type 0} {watched : _} {held : _} {cloned : _} {read : _} {write : _}
      {R : Type 0} (faults : R → ℕ)
      (r : Result (Replayer StoppingDisk Held Reader Writer watched held cloned read write) (OpenFail StoppingDisk R))
      → NoneCounted (reader_faults faults r) → HasCause (faults_on disk) (faults_on (disk_behind r)) (IsDiskFault (reader_faults faults r) (why_of r))
      → HoldsThroughout memory.ghosts disk (disk_behind r) (IsMeanwhile empty empty_disk)
      → AnswersOpening empty (why_of r) → calls_on (disk_behind r) ≤ begun.calls
      → IfErr r (λ fail. StopsOpening stop fail.why fail.disk)
  stopped faults (Ok replayer) unread cause meanwhile answers few = tt
  stopped faults (Err fail) unread cause meanwhile answers few =
      of fail.why cause answers
    where
      not_refused : (refusal : Refusal) → IsRefused empty refusal → ⊥
      not_refused = opened_not_refused empty finds_nothing refl

      of : (reason : OpenError) → HasCause (faults_on disk) (faults_on fail.disk) (IsDiskFault (counted faults fail.reader) (Some reason))
          → AnswersBy empty (recovery_by reason)
          → StopsOpening stop reason fail.disk
      of why.NotAStore by answer = not_refused refusals.NotAStore answer
      of (why.NewerFormat format) by answer = not_refused (refusals.NewerFormat format) answer
      of (why.Damaged name place) by answer = not_refused (refusals.Damaged name place) answer
      of (why.Exhausted counter) by answer = not_refused (refusals.Exhausted counter) answer
      of why.NoMemory by answer = tt
      of (why.Disk name) by answer =
          let exactly = (counted_past fail.disk.disk (Some stop) (meanwhile.time.as_planned (Some stop) past)).exactly
          (omega (arith, few)) in
          let rose = by.rose unread in (
            omega (arith, exactly, few, rose.more, sound),
            λ o. subst (λ (h : History). Reopens (crash_image o (state_on fail.disk)) h (last_number h)) (sym no_commits)
                (opening_reopens empty bare_read (state_on fail.disk)
                (meanwhile.each (state_on fail.disk)
                (counts_present fail.disk.disk.events.items (state_on fail.disk) (length disk.disk.events.items) refl
                meanwhile.time.later)) o),
          )

-- ---- the opening of what a crash leaves

module _ (image : Image) (h : History) (m : ℕ) (disk : StoppingDisk) (started : Started image (state_on disk))
    (again : Reopens image h m) where
  -- where it isn't opened, memory ran out
  pub only_memory : (reason : OpenError)
      → ((state : DiskState) (read : Image) → memory.ghosts.told disk ≡ Some state → IsRead read state
      → AnswersBy read (recovery_by reason)) → (IsFault (Some reason) → ⊥) → reason ≡ why.NoMemory
  only_memory reason answers sound = of reason (answers (state_on disk) image refl (started_read image (state_on disk) started)) sound
    where
      not_refused : (refusal : Refusal) → IsRefused image refusal → ⊥
      not_refused = reopens_not_refused memory.ghosts disk image (state_on disk) h m refl started again image
          (started_read image (state_on disk) started)

      of : (reason : OpenError) → AnswersBy image (recovery_by reason) → (IsFault (Some reason) → ⊥) → reason ≡ why.NoMemory
      of why.NotAStore answer fine = absurd (not_refused refusals.NotAStore answer)
      of (why.NewerFormat format) answer fine = absurd (not_refused (refusals.NewerFormat format) answer)
      of (why.Damaged name place) answer fine = absurd (not_refused (refusals.Damaged name place) answer)
      of (why.Exhausted counter) answer fine = absurd (not_refused (refusals.Exhausted counter) answer)
      of why.NoMemory answer fine = refl
      of (why.Disk name) answer fine = absurd (fine tt)

-- the line of want of memory is put then
module _ {K : Type 0} (k : sink.Ghosts K) (old new : K) (reason : OpenError) (result : Ending)
    (ends : EndsUnopened k old new reason result) where
  pub memory_line : reason ≡ why.NoMemory → Finishes k old new no_memory_line NoMemory result
  memory_line is =
      let (how, for, by) = ends in
      let same : how ≡ why.NoMemory = ⊎_elim
      (λ (as_it : how ≡ reason). as_it ∙ is)
      (λ (out : (how ≡ why.NoMemory) × _). out.0)
      for in
      let (line, line_is, finishes) = subst (λ (w : OpenError). FinishesBy k old new (ending_unopened w) result) same by in
      subst (λ (l : List ℕ). Finishes k old new l NoMemory result) (sym (some_list no_memory_line line line_is)) finishes
