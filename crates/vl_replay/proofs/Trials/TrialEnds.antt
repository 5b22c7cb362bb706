-- How a trial ends, by the stages that it went through.
use Rattle.std.proofs.Common.{◌≡◌, ◌≢◌, ⊎_elim, inl, inr, ℕ, ◌<◌, false, List, [], ◌++◌, length, take, Option, Some}
use Rattle.std.proofs.Common.{None, refl, sym, ◌∙◌, ap, subst, arith, zero-le}
use Rattle.std.specs.Prelude.{nat_le}
use Rattle.std.proofs.lemmas.List.{take_all}
use Rattle.vl_disk.specs.Faults.{Rose}
use Rattle.vl_io.specs.Sink.{Takes}
use Rattle.vl_io.specs.declared.sink.Sink as sink
use Rattle.vl_mem.specs.CrashImage.{crash_image}
use Rattle.vl_mem.specs.StoppingDisk.{state_on}
use Rattle.vl_mem.specs.declared.outcome.Outcome.{Outcome}
use Rattle.vl_mem.specs.declared.stopping_disk.StoppingDisk.{StoppingDisk}
use Rattle.vl_model.specs.History.{last_number}
use Rattle.vl_recover.specs.declared.fails.OpenError.{OpenError}
use Rattle.vl_recover.specs.declared.fails.OpenError.TheVariants as why
use Rattle.vl_script_model.specs.Endings.{Culprit, CountsFaultsOf, culprit_of, status_of, no_memory_line, read_fault_line}
use Rattle.vl_script_model.specs.Exchanges.{Exchange, answers_text, last_state}
use Rattle.vl_script_model.specs.Reopens.{Reopens}
use Rattle.vl_script_model.specs.Sequential.{State, history_of}
use Rattle.vl_script_model.specs.Opening.{ending_unopened}
use Rattle.vl_engine.specs.Opening.{IsFault}
use Rattle.vl_script_model.specs.Runs.{IsFront}
use Rattle.vl_script_model.specs.Steps.{EndsUnopened, Finishes}
use Rattle.vl_script_model.specs.Trial.{EndsTrial, IsLastFront, ReachesEnd, TakesFirst, Trial, exchanges_unstopped}
use Rattle.vl_script_model.specs.Trial.{answered_lines, answered_state, at_stop, before_stop, begun, reopened_state}
use Rattle.vl_script_model.specs.Trial.{state_behind_stop, trial_text}
use Rattle.vl_script_model.specs.Trying.{ComesTo, LeavesToOpen, ReopensAs, StopsOpening, trial_of}
use Rattle.vl_script_model.specs.declared.ending.Ending.{Ending}
use Rattle.vl_script_model.specs.declared.ending.Ending.TheVariants.{Complete, BadLine, BadWords, DiskFault, ReaderFault}
use Rattle.vl_script_model.specs.declared.ending.Ending.TheVariants.{Refused, Damaged, NoMemory, ReadFault, WriteFault}
use Rattle.vl_script_model.specs.declared.ending.Ending.TheVariants.{AnswerCut, Stopped}
use Rattle.vl_script_model.specs.laws.Ends.{or_cut, takes_both, takes_nothing}
use Rattle.vl_script_model.specs.laws.TrialLines.{chosen_false, is_past}
use Rattle.vl_replay.proofs.Runs.Refusals.{fault_for}

-- ---- the last piece, behind all answers

module _ (t : Trial) (held mid : Option (List ℕ)) (taken : Takes held mid (answers_text (answered_lines t))) where
  abbrev count : ℕ
  count = length (answered_lines t)

  every : take count (answered_lines t) ≡ answered_lines t
  every = take_all count (answered_lines t) (omega arith)

  takes_piece : (held' : Option (List ℕ)) (piece : List ℕ) → Takes mid held' piece → TakesFirst t held held' count piece
  takes_piece held' piece more = (
    omega arith,
    subst (Takes held held') (ap (λ xs. answers_text xs ++ piece) (sym every))
        (takes_both held mid held' (answers_text (answered_lines t)) piece taken more),
  )

  module _ {K : Type 0} (k : sink.Ghosts K) (old new : K) (from : k.held old ≡ mid) (left : Option (List ℕ)) where
    takes_printed : (printed : List ℕ) → Takes (k.held old) (k.held new) printed → TakesFirst t held (k.held new) count printed
    takes_printed printed more = takes_piece (k.held new) printed (subst (λ (m : Option (List ℕ)). Takes m (k.held new) printed) from more)

    -- the last line couldn't be put
    cut_at : (line : List ℕ) (ending result : Ending) (printed : List ℕ) → IsLastFront t count printed
        → Takes (k.held old) (k.held new) printed → result ≡ WriteFault
        → EndsTrial t held (k.held new) left result
    cut_at line ending result printed front more is =
        subst (λ (e : Ending). EndsTrial t held (k.held new) left e) (sym is) (count, printed, front, takes_printed printed more)

    -- memory ran out
    pub ends_memory : (result : Ending) → Finishes k old new no_memory_line NoMemory result → EndsTrial t held (k.held new) left result
    ends_memory result f = ⊎_elim
        (λ (whole : (result ≡ NoMemory) × (f.printed ≡ no_memory_line) × (k.faults new ≡ k.faults old)).
        subst (λ (e : Ending). EndsTrial t held (k.held new) left e) (sym whole.0)
        (count, takes_printed no_memory_line (subst (Takes (k.held old) (k.held new)) whole.1 f.taken)))
        (λ (cut : (result ≡ WriteFault) × IsFront f.printed no_memory_line × Rose (k.faults old) (k.faults new)).
        cut_at no_memory_line NoMemory result f.printed (inr (NoMemory, no_memory_line, refl, cut.1)) f.taken cut.0)
        f.how

    -- the source failed
    pub ends_source : (result : Ending) → Finishes k old new read_fault_line ReadFault result → EndsTrial t held (k.held new) left result
    ends_source result f = ⊎_elim
        (λ (whole : (result ≡ ReadFault) × (f.printed ≡ read_fault_line) × (k.faults new ≡ k.faults old)).
        subst (λ (e : Ending). EndsTrial t held (k.held new) left e) (sym whole.0)
        (count, takes_printed read_fault_line (subst (Takes (k.held old) (k.held new)) whole.1 f.taken)))
        (λ (cut : (result ≡ WriteFault) × IsFront f.printed read_fault_line × Rose (k.faults old) (k.faults new)).
        cut_at read_fault_line ReadFault result f.printed (inr (ReadFault, read_fault_line, refl, cut.1)) f.taken cut.0)
        f.how

    -- the contents were printed
    pub ends_reopened : (result : Ending) → ReachesEnd t → left ≡ Some []
        → ReopensAs k (history_of (reopened_state t)) (last_number (history_of (reopened_state t))) old new result
        → EndsTrial t held (k.held new) left result
    ends_reopened result reaches all reopens = ⊎_elim printed (ends_memory result) reopens
      where
        printed : Finishes k old new (trial_text t) Complete result → EndsTrial t held (k.held new) left result
        printed f = ⊎_elim
            (λ (whole : (result ≡ Complete) × (f.printed ≡ trial_text t) × (k.faults new ≡ k.faults old)).
            subst (λ (e : Ending). EndsTrial t held (k.held new) left e) (sym whole.0) (
              reaches,
              all,
              takes_both held mid (k.held new) (answers_text (answered_lines t)) (trial_text t) taken
                  (subst (λ (m : Option (List ℕ)). Takes m (k.held new) (trial_text t)) from
                  (subst (Takes (k.held old) (k.held new)) whole.1 f.taken)),
            ))
            (λ (cut : (result ≡ WriteFault) × IsFront f.printed (trial_text t) × Rose (k.faults old) (k.faults new)).
            cut_at (trial_text t) Complete result f.printed (inl (reaches, refl, cut.1)) f.taken cut.0)
            f.how

-- ---- a store that wasn't opened

-- its status is that of a fault only where the disk failed
pub not_by_disk : {K : Type 0} (k : sink.Ghosts K) (old new : K) (reason : OpenError) (result : Ending)
    → EndsUnopened k old new reason result
    → (IsFault (Some reason) → ⊥) → status_of result ≢ 3
not_by_disk k old new reason result (how, for, (line, line_is, finishes)) sound =
    or_cut k old new line (ending_unopened how) result (λ (e : Ending). status_of e ≢ 3) finishes
    (λ by. sound (fault_for reason how for (of how by))) (λ e. cc)
  where
    of : (how : OpenError) → status_of (ending_unopened how) ≡ 3 → IsFault (Some how)
    of why.NotAStore e = cc
    of (why.NewerFormat format) e = cc
    of (why.Damaged name place) e = cc
    of (why.Exhausted counter) e = cc
    of why.NoMemory e = cc
    of (why.Disk name) e = tt

-- what holds of all endings of an opening, and of a line that couldn't be put, holds of the result
pub of_ended : {K : Type 0} (k : sink.Ghosts K) (old new : K) (reason : OpenError) (result : Ending)
    (P : Ending → Type 0) → EndsUnopened k old new reason result
    → ((how : OpenError) → P (ending_unopened how)) → P WriteFault → P result
of_ended k old new reason result P (how, for, (line, line_is, finishes)) each cut =
    or_cut k old new line (ending_unopened how) result P finishes (each how) cut

-- ---- what the run came to

-- the opening met the stop
pub stopped_opening : (stop : ℕ) (input : List ℕ) (disk : StoppingDisk) (held left : Option (List ℕ))
    → stop < begun.calls → LeavesToOpen disk (λ _. begun)
    → (rest : List ℕ) → left ≡ Some rest → ComesTo (trial_of stop input) held held left disk Stopped
stopped_opening stop input disk held left below leaves rest told = (
  (λ o. inl below),
  (rest, told),
  record {
    taken = λ o. subst (λ (es : List Exchange). Takes held held (answers_text es)) (sym (none_answered o)) (takes_nothing held);
    leaves = λ o. subst (λ (s : State). Reopens (crash_image o (state_on disk)) (history_of s)
        (last_number (history_of s))) (sym (nothing_left o)) (leaves o);
  },
)
  where
    fails : nat_le begun.calls stop ≡ false
    fails = is_past begun.calls stop below

    none_answered : (o : Outcome) → answered_lines (trial_of stop input o) ≡ []
    none_answered o = chosen_false (nat_le begun.calls stop) (before_stop stop (exchanges_unstopped (trial_of stop input o))) [] fails

    nothing_left : (o : Outcome) → reopened_state (trial_of stop input o) ≡ begun
    nothing_left o =
        ap (state_behind_stop o stop (answered_state (trial_of stop input o)))
        (chosen_false (nat_le begun.calls stop) (at_stop stop (exchanges_unstopped (trial_of stop input o))) None fails)
        ∙ ap (last_state begun) (none_answered o)

module _ (stop : ℕ) (disk : StoppingDisk) where
  pub stops_by_fault : (reason : OpenError) → IsFault (Some reason) → StopsOpening stop reason disk
      → (stop < begun.calls) × LeavesToOpen disk (λ _. begun)
  stops_by_fault why.NotAStore by stops = absurd by
  stops_by_fault (why.NewerFormat format) by stops = absurd by
  stops_by_fault (why.Damaged name place) by stops = absurd by
  stops_by_fault (why.Exhausted counter) by stops = absurd by
  stops_by_fault why.NoMemory by stops = absurd by
  stops_by_fault (why.Disk name) by stops = stops

  pub stops_by_memory : (reason : OpenError) → (IsFault (Some reason) → ⊥) → StopsOpening stop reason disk → reason ≡ why.NoMemory
  stops_by_memory why.NotAStore fine stops = absurd stops
  stops_by_memory (why.NewerFormat format) fine stops = absurd stops
  stops_by_memory (why.Damaged name place) fine stops = absurd stops
  stops_by_memory (why.Exhausted counter) fine stops = absurd stops
  stops_by_memory why.NoMemory fine stops = refl
  stops_by_memory (why.Disk name) fine stops = absurd (fine tt)

-- memory ran out before a line was read
module _ {K : Type 0} (k : sink.Ghosts K) (old new : K) (result : Ending)
    (finishes : Finishes k old new no_memory_line NoMemory result) where
  pub comes_nowhere : (t : Outcome → Trial) (left : Option (List ℕ)) (disk : StoppingDisk)
      → ComesTo t (k.held old) (k.held new) left disk result
  comes_nowhere t left disk = ⊎_elim
      (λ (whole : (result ≡ NoMemory) × (finishes.printed ≡ no_memory_line) × (k.faults new ≡ k.faults old)).
      subst (λ (e : Ending). ComesTo t (k.held old) (k.held new) left disk e) (sym whole.0)
      (λ o. (0, (zero-le, subst (Takes (k.held old) (k.held new)) whole.1 finishes.taken))))
      (λ (cut : (result ≡ WriteFault) × IsFront finishes.printed no_memory_line × Rose (k.faults old) (k.faults new)).
      subst (λ (e : Ending). ComesTo t (k.held old) (k.held new) left disk e) (sym cut.0)
      (λ o. (0, finishes.printed, inr (NoMemory, no_memory_line, refl, cut.1), (zero-le, finishes.taken))))
      finishes.how

-- the trial ended with the run
pub ends_so : (t : Outcome → Trial) (held held' left : Option (List ℕ)) (disk : StoppingDisk) (ending : Ending)
    → ComesTo t held held' left disk ending
    → ending ≢ Complete → ending ≢ Stopped → (o : Outcome) → EndsTrial (t o) held held' left ending
ends_so t held held' left disk Complete comes whole silent o = absurd (whole refl)
ends_so t held held' left disk BadLine comes whole silent o = comes o
ends_so t held held' left disk BadWords comes whole silent o = absurd comes
ends_so t held held' left disk DiskFault comes whole silent o = absurd comes
ends_so t held held' left disk ReaderFault comes whole silent o = absurd comes
ends_so t held held' left disk (Refused refusal) comes whole silent o = absurd comes
ends_so t held held' left disk (Damaged name place) comes whole silent o = absurd comes
ends_so t held held' left disk NoMemory comes whole silent o = comes o
ends_so t held held' left disk ReadFault comes whole silent o = comes o
ends_so t held held' left disk WriteFault comes whole silent o = comes o
ends_so t held held' left disk AnswerCut comes whole silent o = comes o
ends_so t held held' left disk Stopped comes whole silent o = absurd (silent refl)

-- by no fault of the disk or of a read that is to be reported
pub no_fault : (ending : Ending) → ending ≢ DiskFault → ending ≢ ReaderFault → ending ≢ Stopped → status_of ending ≢ 3
no_fault Complete fault unread silent e = cc
no_fault BadLine fault unread silent e = cc
no_fault BadWords fault unread silent e = cc
no_fault DiskFault fault unread silent e = fault refl
no_fault ReaderFault fault unread silent e = unread refl
no_fault (Refused refusal) fault unread silent e = cc
no_fault (Damaged name place) fault unread silent e = cc
no_fault NoMemory fault unread silent e = cc
no_fault ReadFault fault unread silent e = cc
no_fault WriteFault fault unread silent e = cc
no_fault AnswerCut fault unread silent e = cc
no_fault Stopped fault unread silent e = silent refl

-- ---- what is counted, over two stages

-- the first one ended without a fault of its own
pub counts_on : (who : Culprit) (first last : Ending) (a b c : ℕ) → culprit_of first ≢ who → first ≢ WriteFault
    → CountsFaultsOf who (Some first) a b
    → CountsFaultsOf who (Some last) b c → CountsFaultsOf who (Some last) a c
counts_on who first last a b c other whole before after =
    let same : b ≡ a = before.steady (λ by. other (culprit_same (culprit_of first) who by))
    (λ cut. whole (ending_same first WriteFault cut)) in
    subst (λ (n : ℕ). CountsFaultsOf who (Some last) n c) same after
  where
    culprit_same : (a b : Culprit) → Some a ≡ Some b → a ≡ b
    culprit_same a b e = cc

    ending_same : (a b : Ending) → Some a ≡ Some b → a ≡ b
    ending_same a b e = cc
