-- A run that opens its store first, or can't.
use Rattle.std.proofs.Common.{◌≡◌, ◌≢◌, ◌⊎◌, inl, ℕ, zero, suc, ◌≤◌, ◌-◌, ◌^◌, List, [], ◌∷◌, take, Option, Some}
use Rattle.std.proofs.Common.{refl, true, ap, sym, ◌∙◌, subst, arith}
use Rattle.vl_disk.specs.declared.watched.Watched.{Ghosts}
use Rattle.vl_disk.specs.DiskState.{DiskState}
use Rattle.vl_disk.specs.Faults.{Rose, HasCause}
use Rattle.vl_io.specs.declared.sink.Sink as sink
use Rattle.vl_io.specs.Sink.{Takes}
use Rattle.vl_recover.specs.declared.fails.OpenError.{OpenError}
use Rattle.vl_recover.specs.declared.fails.OpenError.TheVariants as why
use Rattle.vl_recover.specs.crash.Starts.{MayOpen}
use Rattle.vl_script.specs.Script.{lines_of}
use Rattle.vl_script_model.specs.Sequential.{State, history_of}
use Rattle.vl_script_model.specs.Exchanges.{Exchange, KeepsUp, last_state}
use Rattle.vl_model.specs.History.{Extends}
use Rattle.vl_script_model.specs.Between.{Showing, Stopping}
use Rattle.vl_script_model.specs.Endings.{Culprit, TheDisk, TheReader, TheSink, TheSource, CountsFaultsOf, Evidence}
use Rattle.vl_script_model.specs.Endings.{CutsAnswer, IsBetweenLines, culprit_of, last_line}
use Rattle.vl_script_model.specs.Runs.{Script, exchanges, next_number, Stops, Course, course, Outside, EvidenceOf, EndsRun, EndsRunBy}
use Rattle.vl_script_model.specs.Start.{EvidenceFromStart, FailsAtTables, StartsIn, StoppedAtOpening}
use Rattle.vl_script_model.specs.Durable.{Holding, IsAsBefore, LeavesItsHistory, StaysShown, Tells, HoldsState, CrashesShow}
use Rattle.vl_script_model.specs.Durable.{GoesAlong, DiskEnds, DiskEndsFrom}
use Rattle.vl_script_model.specs.Opening.{ending_unopened, why_refused}
use Rattle.vl_engine.specs.Opening.{IsFault}
use Rattle.vl_script_model.specs.declared.fails.Refusal.{Refusal}
use Rattle.vl_script_model.specs.declared.fails.Refusal.TheVariants as refusals
use Rattle.vl_script_model.specs.Steps.{EndsBefore, FinishesBy}
use Rattle.vl_script_model.specs.declared.ending.Ending.{Ending}
use Rattle.vl_script_model.specs.declared.ending.Ending.TheVariants.{BadWords, DiskFault, NoMemory, Refused, Stopped, WriteFault}
use Rattle.vl_script_model.specs.laws.Betweens.{extends_itself}
use Rattle.vl_script_model.specs.laws.Ends.{ends_weaker, evidence_weaker, finished, or_cut, finish_counts, counts_none}
use Rattle.vl_script_model.specs.laws.DiskSteps.{IsWatched, exchanges_extend, goes_wider, goes_then, at_end, ends_later, rose_earlier}

-- ---- where it begins

-- a disk on which a store may be opened is one on which it may be opened
pub again_openable : {D : Type 0} (g : Ghosts D) (disk : D) (s : State) → StartsIn g disk s → Tells g disk MayOpen
    → StartsIn g disk (record s { openable = true })
again_openable g disk s starts (state, told, may) = record {
  state = starts.state;
  told = starts.told;
  read = starts.read;
  is_read = starts.is_read;
  found = starts.found;
  unused = starts.unused;
  shown = starts.shown;
  proper = starts.proper;
  layout = starts.layout;
  things = starts.things;
  strays = starts.strays;
  are_strays = starts.are_strays;
  calls = starts.calls;
  files = starts.files;
  openable = λ _. subst MayOpen (some_state state starts.state (sym told ∙ starts.told)) may;
}
  where
    some_state : (a b : DiskState) → Some a ≡ Some b → a ≡ b
    some_state a b e = cc

-- ---- the store wasn't opened

-- how such a run ends: by a refusal, by want of memory, or by the disk
pub of_unopened : (P : Ending → Type 0) → ((refusal : Refusal) → P (Refused refusal)) → P NoMemory → P DiskFault
    → (how : OpenError) → P (ending_unopened how)
of_unopened P refused out fault why.NotAStore = refused refusals.NotAStore
of_unopened P refused out fault (why.NewerFormat format) = refused (refusals.NewerFormat format)
of_unopened P refused out fault (why.Damaged name place) = refused (refusals.Damaged name place)
of_unopened P refused out fault (why.Exhausted counter) = refused (refusals.Exhausted counter)
of_unopened P refused out fault why.NoMemory = out
of_unopened P refused out fault (why.Disk name) = fault

-- what stops it: not a refusal, where the disk opens as a store
unopened_stops : (by_source by_disk : Type 0) (script : Script) (left : Option (List ℕ)) (how : OpenError)
    → ((refusal : Refusal) → how ≡ why_refused refusal → ⊥) → (IsFault (Some how) → by_disk)
    → Stops (Evidence by_source by_disk) script left 0 (culprit_of (ending_unopened how))
unopened_stops by_source by_disk script left why.NotAStore never fault = absurd (never refusals.NotAStore refl)
unopened_stops by_source by_disk script left (why.NewerFormat format) never fault = absurd (never (refusals.NewerFormat format) refl)
unopened_stops by_source by_disk script left (why.Damaged name place) never fault = absurd (never (refusals.Damaged name place) refl)
unopened_stops by_source by_disk script left (why.Exhausted counter) never fault = absurd (never (refusals.Exhausted counter) refl)
unopened_stops by_source by_disk script left why.NoMemory never fault = tt
unopened_stops by_source by_disk script left (why.Disk name) never fault = fault tt

-- and its line is the same whatever line comes next
same_line : (n : ℕ) (how : OpenError) → last_line n (ending_unopened how) ≡ last_line 0 (ending_unopened how)
same_line n how = of_unopened (λ (e : Ending). last_line n e ≡ last_line 0 e) (λ refusal. refl) refl refl how

pub refused : {K : Type 0} (k : sink.Ghosts K) (old new : K) (by_source by_disk : Type 0) (script : Script)
    (left : Option (List ℕ)) (how : OpenError) (result : Ending) → ((refusal : Refusal) → how ≡ why_refused refusal → ⊥)
    → (IsFault (Some how) → by_disk)
    → FinishesBy k old new (ending_unopened how) result → EndsBefore (Evidence by_source by_disk) script left result
    (k.held old) (k.held new)
refused k old new by_source by_disk script left how result never fault (line, own, finishes) =
    finished k old new (Evidence by_source by_disk) script left (ending_unopened how) result line
    (same_line (next_number script 0) how ∙ own)
    (unopened_stops by_source by_disk script left how never fault) finishes

-- of such an ending and of a line that couldn't be put it holds that nothing was answered and no answer cut
abbrev pub AnswersNothing : Ending → Type 0
AnswersNothing ending = (IsBetweenLines (culprit_of ending) → ⊥) × (CutsAnswer ending → ⊥) × (culprit_of ending ≡ TheReader → ⊥)

nothing_refused : (how : OpenError) → AnswersNothing (ending_unopened how)
nothing_refused how = of_unopened AnswersNothing (λ refusal. (λ never. never, λ e. cc, λ e. cc))
    (λ never. never, λ e. cc, λ e. cc) (λ never. never, λ e. cc, λ e. cc) how

nothing_cut : AnswersNothing WriteFault
nothing_cut = (λ never. never, λ e. cc, λ e. cc)

pub refused_nothing : {K : Type 0} (k : sink.Ghosts K) (old new : K) (how : OpenError) (result : Ending)
    → FinishesBy k old new (ending_unopened how) result → AnswersNothing result
refused_nothing k old new how result (line, own, finishes) = or_cut k old new line (ending_unopened how) result
    AnswersNothing finishes (nothing_refused how) nothing_cut

-- where the run ended by want of memory, the disk didn't fail
pub out_of_memory : {K : Type 0} (k : sink.Ghosts K) (old new : K) (how : OpenError) (result : Ending)
    → FinishesBy k old new (ending_unopened how) result → result ≡ NoMemory → IsFault (Some how) → ⊥
out_of_memory k old new how result (line, own, finishes) = or_cut k old new line (ending_unopened how) result
    (λ (e : Ending). e ≡ NoMemory → IsFault (Some how) → ⊥) finishes (of how) (λ e _. cc)
  where
    of : (how : OpenError) → ending_unopened how ≡ NoMemory → IsFault (Some how) → ⊥
    of why.NotAStore e is = is
    of (why.NewerFormat format) e is = is
    of (why.Damaged name place) e is = is
    of (why.Exhausted counter) e is = is
    of why.NoMemory e is = is
    of (why.Disk name) e is = cc

module _ {D R : Type 0} (g : Ghosts D) (watched : IsWatched g) (holds : Holding) (shows : Showing) (stops : Stopping)
    (stays : StaysShown shows) (exactly : LeavesItsHistory holds shows) (P : State → Type 0) (Q : Type 0)
    (script : Script) (first end : Outside D)
    (faults : R → ℕ) where
  abbrev pub SoFar : Course → Type 0
  SoFar run = P run.first → Q → DiskEnds g holds shows stops (IsAsBefore g first.disk end.disk)
      (StoppedAtOpening g first.disk end.disk run) first.disk end.disk run

  -- nothing was opened
  pub ends_refused : (ending : Ending) → AnswersNothing ending
      → EndsBefore (EvidenceFromStart g faults first end 0) script end.left ending first.held end.held → KeepsUp script.bytes end.asked 0
      → (P script.start → Q → CrashesShow g shows first.disk end.disk (history_of script.start)
      (history_of script.start)) → (P script.start → Q → Tells g end.disk MayOpen)
      → ((Rose (g.faults first.disk) (g.faults end.disk) → ⊥) → IsAsBefore g first.disk end.disk)
      → (ending ≡ NoMemory → IsAsBefore g first.disk end.disk)
      → (g.calls first.disk ≤ 2 ^ 64 - 1 → g.calls end.disk ≤ script.start.calls)
      → EndsRunBy (EvidenceFromStart g faults first end) SoFar script first end ending
  ends_refused ending (none, none_cut, none_read) before kept_up goes tells kept kept_out within =
      let h = (history_of script.start) in
      let most = (history_of (last_state script.start (take 1 (exchanges script)))) in
      record {
        answered = 0;
        printed = before.printed;
        taken = before.taken;
        ends = before.ends;
        kept_up = kept_up;
        disk = λ p q.
            let through = goes_wider g watched holds shows stops stays exactly first.disk end.disk h h h most
            (extends_itself h) (exchanges_extend (lines_of script.bytes) script.start 1) (goes p q) in
            record {
              crash_during = through;
              line_by_line = tt;
              crash_after = at_end g watched holds shows stops stays exactly first.disk end.disk h most through (tells p q);
              without_fault = λ sound. inl (kept sound);
              no_memory = λ out. inl (kept_out out);
              unread = λ by. absurd (none_read by);
              between_lines = λ between. absurd (none between);
              answer_cut = λ cuts. absurd (none_cut cuts);
              again = tells p q;
              stopped = λ fault clean. inl (refl, within);
            };
      }

  -- ---- the store was opened before the first line

  along_opened : (mid new : D) (s most : State) (all : List Exchange) (m : ℕ)
      → Extends (history_of s) (history_of (last_state s (take 1 all)))
      → CrashesShow g shows first.disk mid (history_of s) (history_of s) → g.faults mid ≡ g.faults first.disk
      → GoesAlong g holds shows new most mid s (take m all) → GoesAlong g holds shows new most first.disk s (take m all)
  along_opened mid new s most [] zero extends goes steady along = tt
  along_opened mid new s most [] (suc m) extends goes steady along = tt
  along_opened mid new s most (e ∷ all) zero extends goes steady along = tt
  along_opened mid new s most (e ∷ all) (suc m) extends goes steady (passed, line, later) = (
    passed,
    record {
      before = goes_then g watched holds shows stops stays exactly first.disk mid passed (history_of s) (history_of s)
          (history_of e.after) (extends_itself (history_of s)) extends goes line.before;
      held = line.held;
      steady = line.steady ∙ steady;
      behind = line.behind;
    },
    later,
  )

  pub ends_opened : (mid : Outside D) (ending : Ending) → mid.source_faults ≡ first.source_faults
      → mid.held ≡ first.held → g.faults mid.disk ≡ g.faults first.disk
      → (P script.start → Q → HoldsState g holds script.start mid.disk)
      → (P script.start → Q → CrashesShow g shows first.disk mid.disk (history_of script.start) (history_of script.start))
      → EndsRun g (DiskEndsFrom g holds shows stops mid.disk end.disk script.start) script mid end ending
      → EndsRunBy (EvidenceFromStart g faults first end) SoFar script first end ending
  ends_opened mid ending same_faults same_held steady opened goes run =
      let earlier : g.faults first.disk ≤ g.faults mid.disk = omega (arith, steady) in
      let s = script.start in
      let all = exchanges script in
      let m = run.answered in
      let extends = exchanges_extend (lines_of script.bytes) script.start in
      record {
        answered = m;
        printed = run.printed;
        taken = subst (λ (held : Option (List ℕ)). Takes held end.held run.printed) same_held run.taken;
        ends = ends_weaker (EvidenceOf g mid end) (EvidenceFromStart g faults first end m)
            (evidence_weaker (Rose mid.source_faults end.source_faults) (Rose (g.faults mid.disk) (g.faults end.disk))
            (Rose first.source_faults end.source_faults)
            (Rose (g.faults first.disk) (g.faults end.disk) ⊎ (FailsAtTables g faults first.disk end.disk × (m ≡ 0)))
            (λ rose. subst (λ (n : ℕ). Rose n end.source_faults) same_faults rose)
            (λ rose. inl (rose_earlier (g.faults first.disk) (g.faults mid.disk) (g.faults end.disk) earlier rose)))
            script end.left m ending run.printed run.ends;
        kept_up = run.kept_up;
        disk = λ p q.
            ends_later g watched holds shows stops stays exactly (IsAsBefore g first.disk end.disk)
            (StoppedAtOpening g first.disk end.disk (course script m ending)) first.disk mid.disk end.disk ending s s
            (last_state s (take (suc m) all)) (take m all) (take m all)
            (extends_itself (history_of s)) (extends (suc m)) steady (goes p q)
            (λ _ along. along_opened mid.disk end.disk s (last_state s (take (suc m) all)) all m (extends 1) (goes p q) steady along) refl
            (run.disk (opened p q));
      }

-- ---- what a run counts, and puts, whose store wasn't opened

some_culprit : (a b : Culprit) → Some a ≡ Some b → a ≡ b
some_culprit a b e = cc

module _ {K : Type 0} (k : sink.Ghosts K) (old new : K) (how : OpenError) (result : Ending)
    (finishes : FinishesBy k old new (ending_unopened how) result) where
  pub of_result : (P : Ending → Type 0) → P (ending_unopened how) → P WriteFault → P result
  of_result P whole cut = or_cut k old new finishes.0 (ending_unopened how) result P finishes.2 whole cut

  -- it ended by a refusal, which was why
  pub refused_as : (refusal : Refusal) → result ≡ Refused refusal → how ≡ why_refused refusal
  refused_as refusal = of_result (λ (e : Ending). e ≡ Refused refusal → how ≡ why_refused refusal) (of how) (λ e. cc)
    where
      same : (a b : Refusal) → Refused a ≡ Refused b → a ≡ b
      same a b e = cc

      of : (how : OpenError) → ending_unopened how ≡ Refused refusal → how ≡ why_refused refusal
      of why.NotAStore e = ap why_refused (same refusals.NotAStore refusal e)
      of (why.NewerFormat format) e = ap why_refused (same (refusals.NewerFormat format) refusal e)
      of (why.Damaged name place) e = ap why_refused (same (refusals.Damaged name place) refusal e)
      of (why.Exhausted counter) e = ap why_refused (same (refusals.Exhausted counter) refusal e)
      of why.NoMemory e = cc
      of (why.Disk name) e = cc

  -- and its line was put
  pub refused_line : (refusal : Refusal) → result ≡ Refused refusal → FinishesBy k old new (Refused refusal) (Refused refusal)
  refused_line refusal is =
      let by : ending_unopened how ≡ Refused refusal = ap ending_unopened (refused_as refusal is) ∙ of refusal in
      subst (λ (e : Ending). FinishesBy k old new (Refused refusal) e) is
      (subst (λ (e : Ending). FinishesBy k old new e result) by finishes)
    where
      of : (refusal : Refusal) → ending_unopened (why_refused refusal) ≡ Refused refusal
      of refusals.NotAStore = refl
      of (refusals.NewerFormat format) = refl
      of (refusals.Damaged name place) = refl
      of (refusals.Exhausted counter) = refl

  -- and not for its words
  pub not_for_words : result ≢ BadWords
  not_for_words = of_result (λ (e : Ending). e ≢ BadWords)
      (of_unopened (λ (e : Ending). e ≢ BadWords) (λ refusal e. cc) (λ e. cc) (λ e. cc) how) (λ e. cc)

  -- and says how it ended
  pub not_silent : result ≢ Stopped
  not_silent = of_result (λ (e : Ending). e ≢ Stopped)
      (of_unopened (λ (e : Ending). e ≢ Stopped) (λ refusal e. cc) (λ e. cc) (λ e. cc) how) (λ e. cc)

  pub counts_sink : CountsFaultsOf TheSink (Some result) (k.faults old) (k.faults new)
  counts_sink = finish_counts k old new finishes.0 (ending_unopened how) result
      (of_unopened (λ (e : Ending). culprit_of e ≢ TheSink) (λ refusal e. cc) (λ e. cc) (λ e. cc) how) finishes.2

  pub counts_source : (n : ℕ) → CountsFaultsOf TheSource (Some result) n n
  counts_source n = counts_none TheSource result n (of_result (λ (e : Ending). culprit_of e ≢ TheSource)
      (of_unopened (λ (e : Ending). culprit_of e ≢ TheSource) (λ refusal e. cc) (λ e. cc) (λ e. cc) how) (λ e. cc))

  pub counts_disk : (before now : ℕ) (failed : Type 0) → (failed → IsFault (Some how)) → (IsFault (Some how) → failed)
      → HasCause before now failed → CountsFaultsOf TheDisk (Some result) before now
  counts_disk before now failed was is cause = record {
    later = cause.later;
    rose = λ by. cause.rose (is
        (of_result (λ (e : Ending). culprit_of e ≡ TheDisk → IsFault (Some how)) (by_disk how) (λ e. cc)
        (some_culprit (culprit_of result) TheDisk by)));
    steady = λ other whole. cause.steady
        (λ f. of_result (λ (e : Ending). IsFault (Some how) → Some (culprit_of e) ≢ Some TheDisk
        → Some e ≢ Some WriteFault → ⊥) (not_other how) (λ d o w. w refl) (was f) other whole);
  }
    where
      by_disk : (how : OpenError) → culprit_of (ending_unopened how) ≡ TheDisk → IsFault (Some how)
      by_disk why.NotAStore e = cc
      by_disk (why.NewerFormat format) e = cc
      by_disk (why.Damaged name place) e = cc
      by_disk (why.Exhausted counter) e = cc
      by_disk why.NoMemory e = cc
      by_disk (why.Disk name) e = tt

      not_other : (how : OpenError) → IsFault (Some how) → Some (culprit_of (ending_unopened how)) ≢ Some TheDisk
          → Some (ending_unopened how) ≢ Some WriteFault → ⊥
      not_other why.NotAStore d o w = d
      not_other (why.NewerFormat format) d o w = d
      not_other (why.Damaged name place) d o w = d
      not_other (why.Exhausted counter) d o w = d
      not_other why.NoMemory d o w = d
      not_other (why.Disk name) d o w = o refl
