-- What the run of a trial came to, by what it did to its disk.
use Rattle.std.proofs.Common.{◌≡◌, ⊎_elim, inr, ℕ, suc, min, ◌+◌, ◌-◌, ◌^◌, ◌<◌, ◌≤◌, List, [], ◌∷◌, ◌++◌, length}
use Rattle.std.proofs.Common.{take, Some, None, refl, sym, ◌∙◌, ap, subst, arith, append-nil}
use Rattle.std.specs.Prelude.{Option, nat_le}
use Rattle.std.specs.List.{AllByRecursion, slice_get}
use Rattle.std.proofs.lemmas.Bool.{cases_lt}
use Rattle.std.proofs.lemmas.Bool.Decides.{nat_tests}
use Rattle.std.proofs.lemmas.List.{take_all}
use Rattle.vl_disk.specs.DiskState.{DiskState}
use Rattle.vl_disk.specs.Faults.{Rose}
use Rattle.vl_io.specs.Sink.{Takes}
use Rattle.vl_mem.specs.CrashImage.{crash_image}
use Rattle.vl_mem.specs.Event.{told_lawful}
use Rattle.vl_mem.specs.FailsPast.{counted_past}
use Rattle.vl_mem.specs.StoppingDisk.{StopsPast, calls_on, faults_on, state_on}
use Rattle.vl_mem.specs.contracts.stopping_disk.StoppingDiskWatched.TheImpl as memory
use Rattle.vl_mem.specs.declared.outcome.Outcome.{Outcome}
use Rattle.vl_mem.specs.declared.stopping_disk.StoppingDisk.{StoppingDisk}
use Rattle.vl_model.specs.History.{History, last_number}
use Rattle.vl_model.specs.Limits.{max_file_number}
use Rattle.vl_script.specs.Script.{lines_of}
use Rattle.vl_script_model.specs.Durable.{DiskEnds, DiskEndsFrom, GoesAlong, HoldsCounted, StopsWithin}
use Rattle.vl_script_model.specs.Endings.{CountsFaultsOf, EndsAs, TheDisk, bad_line, last_line, no_memory_line, read_fault_line}
use Rattle.vl_script_model.specs.Exchanges.{Exchange, answers_text, last_state}
use Rattle.vl_script_model.specs.Reopens.{Reopens, state_left}
use Rattle.vl_script_model.specs.Runs.{EndsRun, Outside, Script, course, exchanges, script_of}
use Rattle.vl_script_model.specs.Sequential.{State, history_of}
use Rattle.vl_script_model.specs.Stored.{IsStopped, IsStored}
use Rattle.vl_engine_laws.specs.Shown.{Shown}
use Rattle.vl_script_model.specs.Trial.{MeetsStop, PutsInTime, TakesFirst, Trial, answered_lines, at_stop, before_stop, begun}
use Rattle.vl_script_model.specs.Trial.{reopened_state, state_behind_stop, stopped_line}
use Rattle.vl_script_model.specs.Trying.{ComesTo, IsOnTrial, trial_of}
use Rattle.vl_script_model.specs.declared.ending.Ending.{Ending}
use Rattle.vl_script_model.specs.declared.ending.Ending.TheVariants.{Complete, BadLine, BadWords, DiskFault, ReaderFault}
use Rattle.vl_script_model.specs.declared.ending.Ending.TheVariants.{Refused, Damaged, NoMemory, ReadFault, WriteFault}
use Rattle.vl_script_model.specs.declared.ending.Ending.TheVariants.{AnswerCut, Stopped}
use Rattle.vl_script_model.specs.declared.ending.OnFault.TheVariants.{Stop}
use Rattle.vl_script_model.specs.laws.StoppedLaws.{stopped_reopens, stored_reopens}
use Rattle.vl_script_model.specs.laws.TrialLines.{HasFewFiles, Passes, all_next, before_all, before_front, before_get}
use Rattle.vl_script_model.specs.laws.TrialLines.{before_met, calls_counted, chosen_true, is_within, last_few, last_next}
use Rattle.vl_script_model.specs.laws.TrialLines.{last_within, none_next}

some_state : (a b : DiskState) → Some a ≡ Some b → a ≡ b
some_state a b e = cc

none_some : {X : Type 0} (x : X) → None ≡ Some x → ⊥
none_some x e = cc

some_left : (a b : ℕ) → nat_le (a + 1) (a + b) ≡ nat_le 1 b
some_left a b = grind (arith, nat_tests)

-- ---- disks

-- what a crash leaves of a disk that holds the commits of a state opens showing the last of them
pub holds_reopens : (s : State) (disk : StoppingDisk) → HoldsCounted memory.ghosts IsStored s disk → s.files + 2 ≤ max_file_number
    → (outcome : Outcome) → Reopens (crash_image outcome (state_on disk)) (history_of s) (last_number (history_of s))
holds_reopens s disk (u, history, layout, calls, files, held) fits outcome =
    let (state, told, stored) = held.there in
    let here : state_on disk ≡ state = some_state (state_on disk) state told in
    let again = stored_reopens u state stored (omega (arith, files, fits)) outcome in
    subst (λ (h : History). Reopens (crash_image outcome (state_on disk)) h (last_number h)) history
    (subst (λ (d : DiskState). Reopens (crash_image outcome d) (history_of u) (last_number (history_of u))) (sym here) again)

module _ (stop : ℕ) where
  -- behind each answered line of a run without a fault no more calls were made than pass
  passes_all : (es : List Exchange) (disk : StoppingDisk) (s : State) (new : StoppingDisk) (most : State)
      → GoesAlong memory.ghosts IsStored Shown new most disk s es → StopsPast disk (Some stop) → faults_on disk ≡ 0
      → AllByRecursion (Passes stop) es
  passes_all [] disk s new most along past sound = tt
  passes_all (e ∷ later) disk s new most (passed, line, rest) past sound =
      let past_then = line.before.time.as_planned (Some stop) past in
      let sound_then : faults_on passed ≡ 0 = line.steady ∙ sound in
      let (u, history, layout, calls, files, held) = line.held in
      let counts = counted_past passed.disk (Some stop) past_then in (
        omega (arith, counts.at_least, sound_then, held.calls, calls),
        passes_all later passed e.after new most rest past_then sound_then,
      )

-- ---- the run

module _ (stop : ℕ) (small : stop < 2 ^ 32) (input : List ℕ) (stands : State → Type 0) (old new : Outside StoppingDisk)
    (trial : IsOnTrial stop stands old.disk) where
  abbrev script : Script
  script = script_of begun 0 input

  abbrev es : List Exchange
  es = exchanges script

  abbrev t : Outcome → Trial
  t = trial_of stop input

  abbrev Run : Ending → Type 0
  Run ending = EndsRun memory.ghosts (DiskEndsFrom memory.ghosts IsStored Shown IsStopped old.disk new.disk begun) script old new ending

  answered_is : (o : Outcome) → answered_lines (t o) ≡ before_stop stop es
  answered_is o = chosen_true (nat_le begun.calls stop) (before_stop stop es) [] (is_within begun.calls stop trial.opened)

  stopped_is : (o : Outcome) → stopped_line (t o) ≡ at_stop stop es
  stopped_is o = chosen_true (nat_le begun.calls stop) (at_stop stop es) None (is_within begun.calls stop trial.opened)

  module _ (ending : Ending) (run : Run ending) where
    abbrev m : ℕ
    m = run.answered

    abbrev ends : DiskEnds memory.ghosts IsStored Shown IsStopped ⊥ ⊥ old.disk new.disk (course script run.answered ending)
    ends = run.disk trial.held

    abbrev last : State
    last = last_state begun (take run.answered es)

    abbrev most : State
    most = last_state begun (take (suc run.answered) es)

    all : AllByRecursion (Passes stop) (take m es)
    all = passes_all stop (take m es) old.disk begun new.disk most ends.line_by_line trial.past trial.sound

    past : StopsPast new.disk (Some stop)
    past = ends.crash_during.time.as_planned (Some stop) trial.past

    within : last.calls ≤ stop
    within = last_within stop (take m es) begun trial.opened all

    few : HasFewFiles last
    few = last_few stop (omega (arith, small)) (lines_of input) begun m (omega arith) trial.opened all

    last_fits : last.files + 2 ≤ max_file_number
    last_fits = omega (arith, few, within, small)

    -- the first lines that were answered, and the piece behind them
    takes_first : (o : Outcome) (piece : List ℕ) → run.ends.piece ≡ piece → TakesFirst (t o) old.held new.held m piece
    takes_first o piece is =
        let front = before_front stop es m all run.ends.within in
        let same : take m es ≡ take m (answered_lines (t o)) = sym front.0 ∙ sym (ap (take m) (answered_is o)) in (
          subst (λ (xs : List Exchange). m ≤ length xs) (sym (answered_is o)) front.1,
          subst (λ (text : List ℕ). Takes old.held new.held text)
              (run.ends.printed_is ∙ ap (λ (xs : List Exchange). answers_text xs ++ run.ends.piece) same
              ∙ ap (λ (p : List ℕ). answers_text (take m (answered_lines (t o))) ++ p) is)
              run.taken,
        )

    -- all of them, where the run comes to its end or to the stop
    takes_all : (o : Outcome) → take m es ≡ answered_lines (t o) → run.ends.piece ≡ []
        → Takes old.held new.held (answers_text (answered_lines (t o)))
    takes_all o same is = subst (λ (text : List ℕ). Takes old.held new.held text)
        (run.ends.printed_is ∙ ap (λ (p : List ℕ). answers_text (take m es) ++ p) is
        ∙ append-nil (answers_text (take m es)) ∙ ap answers_text same)
        run.taken

    -- where it answered all
    module _ (whole : m ≡ length es) where
      every : take m es ≡ es
      every = take_all m es (omega (arith, whole))

      each : AllByRecursion (Passes stop) es
      each = subst (AllByRecursion (Passes stop)) every all

      all_answered : (o : Outcome) → answered_lines (t o) ≡ es
      all_answered o = answered_is o ∙ (before_all stop es each).0

      none_stopped : (o : Outcome) → stopped_line (t o) ≡ None
      none_stopped o = stopped_is o ∙ (before_all stop es each).1

      not_met : (o : Outcome) → MeetsStop (t o) → ⊥
      not_met o meets = ⊎_elim
          (λ (below : stop < begun.calls). omega (arith, below, trial.opened))
          (λ (line : (e : Exchange) × (stopped_line (t o) ≡ Some e)). none_some line.0 (sym (none_stopped o) ∙ line.1))
          meets

      end_state : (o : Outcome) → reopened_state (t o) ≡ last
      end_state o =
          ap (state_behind_stop o stop (last_state begun (answered_lines (t o)))) (none_stopped o)
          ∙ ap (last_state begun) (all_answered o ∙ sym every)

    -- where a line met the stop
    module _ (stops : StopsWithin memory.ghosts IsStopped last most old.disk new.disk)
        (rose : Rose (faults_on old.disk) (faults_on new.disk)) where
      failed : 1 ≤ faults_on new.disk
      failed = omega (arith, rose.more, trial.sound)

      small_last : last.calls ≤ 2 ^ 64 - 1
      small_last = omega (arith, within, small)

      made_counted : calls_on new.disk ≡ min (last.calls + stops.made) (2 ^ 64 - 1)
      made_counted = stops.calls ∙ calls_counted stops.made last.calls small_last

      all_counted : most.calls ≡ min (last.calls + stops.all) (2 ^ 64 - 1)
      all_counted = stops.all_counted ∙ calls_counted stops.all last.calls small_last

      -- its calls are more than pass
      met : stop < most.calls
      met = ⊎_elim
          (λ (few_made : last.calls + stops.made < 2 ^ 64 - 1).
          let exactly = (counted_past new.disk.disk (Some stop) past).exactly (omega (arith, made_counted, few_made)) in
          omega (arith, exactly, failed, made_counted, few_made, all_counted, stops.most, small))
          (λ (many : 2 ^ 64 - 1 ≤ last.calls + stops.made). omega (arith, many, all_counted, stops.most, small))
          (cases_lt (last.calls + stops.made) (2 ^ 64 - 1))

      -- Of the line's calls no more passed than were left.
      at_most : last.calls + stops.passed ≤ stop
      at_most =
          let some = stops.has_passed in
          let before = (counted_past some.mid.disk (Some stop) (some.as_planned (Some stop) trial.past)).at_least in
          omega (arith, before, some.counted, some.steady, trial.sound, small, calls_counted stops.passed last.calls small_last)

      passed_fits : last.files + stops.passed + 3 ≤ max_file_number
      passed_fits = omega (arith, few, at_most, small)

      -- Of a commit that was stopped as many calls passed as were left.
      module _ (next : stops.made ≡ suc stops.passed) where
        left : last.calls + stops.passed ≡ stop
        left =
            let exactly = (counted_past new.disk.disk (Some stop) past).exactly (omega (arith, at_most, small, made_counted, next)) in
            omega (arith, exactly, failed, at_most, small, made_counted, next)

        passed_is : nat_le (last.calls + 1) stop ≡ nat_le 1 stops.passed
        passed_is = ap (nat_le (last.calls + 1)) (sym left) ∙ some_left last.calls stops.passed

      line : (e : Exchange) × (slice_get es m ≡ Some e) × (most ≡ e.after)
      line = of (slice_get es m) refl
        where
          of : (o : Option Exchange) → slice_get es m ≡ o → (e : Exchange) × (slice_get es m ≡ Some e) × (most ≡ e.after)
          of None is = absurd (omega (arith, met, within, ap (λ (xs : List Exchange). (last_state begun xs).calls) (none_next es m is)))
          of (Some e) is = (e, is, last_next es begun m e is)

      parted : (before_stop stop es ≡ take m es) × (at_stop stop es ≡ Some line.0)
      parted = before_met stop es m line.0 all line.1 (omega (arith, met, ap (λ (s : State). s.calls) line.2))

      meets : (o : Outcome) → MeetsStop (t o)
      meets o = inr (line.0, stopped_is o ∙ parted.1)

      stop_answered : (o : Outcome) → take m es ≡ answered_lines (t o)
      stop_answered o = sym (answered_is o ∙ parted.0)

      stop_state : (o : Outcome) → reopened_state (t o) ≡ state_left o (nat_le (last.calls + 1) stop) last most
      stop_state o =
          ap (state_behind_stop o stop (last_state begun (answered_lines (t o)))) (stopped_is o ∙ parted.1)
          ∙ ap (λ (xs : List Exchange). state_behind_stop o stop (last_state begun xs) (Some line.0)) (sym (stop_answered o))
          ∙ ap (λ (s : State). state_left o (nat_le (last.calls + 1) stop) last s) (sym line.2)

      stop_reopens : (o : Outcome) → Reopens (crash_image o (state_on new.disk)) (history_of (reopened_state (t o)))
          (last_number (history_of (reopened_state (t o))))
      stop_reopens o =
          let here : state_on new.disk ≡ stops.now = some_state (state_on new.disk) stops.now stops.told in
          let lawful = told_lawful new.disk.disk.events.items new.disk.disk.kept.sound stops.now stops.told in
          let again = stopped_reopens last most stops.passed stops.made stops.now stops.stopped lawful passed_fits o
          (nat_le (last.calls + 1) stop) passed_is in
          subst (λ (s : State). Reopens (crash_image o (state_on new.disk)) (history_of s) (last_number (history_of s)))
          (sym (stop_state o))
          (subst (λ (d : DiskState). Reopens (crash_image o d) (history_of (state_left o (nat_le (last.calls + 1) stop) last most))
          (last_number (history_of (state_left o (nat_le (last.calls + 1) stop) last most)))) (sym here) again)

  -- ---- when its answers are put

  pub puts_in_time : (ending : Ending) → Run ending → (o : Outcome) → PutsInTime (t o) old.held new.held new.asked
  puts_in_time ending run o = (run.answered, run.ends.piece, takes_first ending run o run.ends.piece refl, run.kept_up)

  -- ---- by its ending

  pub comes : (ending : Ending) → Run ending → EndsAs Stop (Some ending)
      → CountsFaultsOf TheDisk (Some ending) (faults_on old.disk) (faults_on new.disk)
      → (ending ≡ ReaderFault → ⊥) → (rest : List ℕ) → new.left ≡ Some rest → ComesTo t old.held new.held new.left new.disk ending
  comes Complete run as_meant counts unread rest told =
      let ((whole, lines, left), none) = run.ends.puts in (
        (λ o. inr (sym whole ∙ lines)),
        left,
        record {
          taken = λ o. takes_all Complete run o (every Complete run whole ∙ sym (all_answered Complete run whole o)) none;
          leaves = λ o. subst (λ (s : State). Reopens (crash_image o (state_on new.disk)) (history_of s) (last_number (history_of s)))
              (sym (end_state Complete run whole o))
              (holds_reopens (last Complete run) new.disk ((ends Complete run).between_lines tt) (last_fits Complete run) o);
        },
      )
  comes BadLine run as_meant counts unread rest told =
      let ((whole, more), text) = run.ends.puts in
      λ o. (
        record { no_stop = not_met BadLine run whole o; bad = omega (arith, whole, more) },
        subst (λ (bytes : List ℕ). Takes old.held new.held bytes)
            (run.ends.printed_is ∙ ap (λ (xs : List Exchange). answers_text xs ++ run.ends.piece) (every BadLine run whole)
            ∙ ap (λ (p : List ℕ). answers_text es ++ p) (text ∙ ap bad_line (omega (arith, whole))))
            run.taken,
      )
  comes BadWords run as_meant counts unread rest told = absurd run.ends.puts.0
  comes DiskFault run as_meant counts unread rest told = absurd (not_so (as_meant refl))
    where
      not_so : ◌≡◌ {A = Option Ending} (Some DiskFault) (Some Stopped) → ⊥
      not_so e = cc
  comes ReaderFault run as_meant counts unread rest told = absurd (unread refl)
  comes (Refused refusal) run as_meant counts unread rest told = absurd run.ends.puts.0
  comes (Damaged name place) run as_meant counts unread rest told = absurd run.ends.puts.0
  comes NoMemory run as_meant counts unread rest told = λ o. (run.answered, takes_first NoMemory run o no_memory_line run.ends.puts.1)
  comes ReadFault run as_meant counts unread rest told = λ o. (run.answered, takes_first ReadFault run o read_fault_line run.ends.puts.1)
  comes WriteFault run as_meant counts unread rest told =
      let (other, line, is, stops, front) = run.ends.puts in
      let number : 0 + run.answered + 1 ≡ run.answered + 1 = omega arith in
      let said = subst (λ (n : ℕ). last_line n other ≡ Some line) number is in
      λ o. (run.answered, run.ends.piece, inr (other, line, said, front), takes_first WriteFault run o run.ends.piece refl)
  comes AnswerCut run as_meant counts unread rest told =
      let (e, is, front) = run.ends.puts in
      let (u, history, layout, calls, files, held) = (ends AnswerCut run).answer_cut refl in
      let sound : faults_on new.disk ≡ faults_on old.disk = counts.steady (λ by. cc) (λ whole. cc) in
      let counted = counted_past new.disk.disk (Some stop) (past AnswerCut run) in
      let passes : Passes stop e = omega (
        arith,
        counted.at_least,
        sound,
        trial.sound,
        held.calls,
        calls,
        ap (λ (s : State). s.calls)
            (last_next es begun run.answered e is),
      ) in
      λ o. (
        run.answered,
        run.ends.piece,
        (
          e,
          ap (λ (xs : List Exchange). slice_get xs run.answered) (answered_is o)
              ∙ before_get stop es run.answered e (all_next stop es run.answered e (all AnswerCut run) is passes) is,
          front,
        ),
        takes_first AnswerCut run o run.ends.piece refl,
      )
  comes Stopped run as_meant counts unread rest told = ⊎_elim
      (λ (never : ⊥). absurd never)
      (λ (stops : StopsWithin memory.ghosts IsStopped (last Stopped run) (most Stopped run) old.disk new.disk).
      let rose = counts.rose refl in (
        meets Stopped run stops rose,
        (rest, told),
        record {
          taken = λ o. takes_all Stopped run o (stop_answered Stopped run stops rose o) run.ends.puts.1;
          leaves = stop_reopens Stopped run stops rose;
        },
      ))
      ((ends Stopped run).stopped refl refl)
