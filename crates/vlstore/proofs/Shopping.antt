-- What a session's calls make of what it knows, as those who drive clients have it.
use Rattle.std.proofs.Common.{◌≡◌, ℕ, Bool, true, false, List, [], ◌∷◌, ◌++◌, refl, sym, ap, ◌∙◌, subst, arith, length, ◌+◌}
use Rattle.std.proofs.lemmas.Bool.Decides.{nat_tests}
use Rattle.std.proofs.lemmas.List.Elements.{filter-append}
use Rattle.std.specs.FinMap.{empty}
use Rattle.std.specs.Prelude.{Option, None, Some, Result, Ok, Err, IfOk, ◌==◌, if◌then◌else◌, nat_le, zero, suc}
use Rattle.std.specs.List.{AllByRecursion}
use Rattle.vl_engine_laws.specs.Represents.{file_of}
use Rattle.vl_drive.specs.Entries as drive_entries
use Rattle.vl_drive.specs.Knowing as drive
use Rattle.vl_drive.specs.Steps.{is_aside}
use Rattle.vl_steps.specs.Answers.{commit_outcome}
use Rattle.vl_steps.specs.Relocating.{IsDamaged, move_outcome}
use Rattle.vl_reads.specs.Sees.{IsNew}
use Rattle.vl_steps.specs.Stepping.{step_outcome}
use Rattle.vl_space.specs.Sweeping.{sweep_outcome}
use Rattle.vl_steps.specs.declared.done.Done.{Done as EngineDone}
use Rattle.vl_steps.specs.declared.fails.CommitFail.{CommitFail}
use Rattle.vl_steps.specs.declared.fails.CommitFail.TheVariants as fails
use Rattle.vl_steps.specs.declared.fails.MoveFail.{MoveFail}
use Rattle.vl_steps.specs.declared.fails.MoveFail.TheVariants as move_fails
use Rattle.vl_steps.specs.declared.fails.StepFail.{StepFail}
use Rattle.vl_steps.specs.declared.fails.StepFail.TheVariants as step_fails
use Rattle.vl_space.specs.declared.fails.SweepFail.{SweepFail}
use Rattle.vl_space.specs.declared.fails.SweepFail.TheVariants as sweep_fails
use Rattle.vl_reads.specs.declared.txn.Txn.{Txn}
use Rattle.vl_engine_model.specs.Decides.{Answered, Damaged, Failed, NoMemory, Outcome}
use Rattle.vl_engine_model.specs.LockHistory.{IsLegal, entries_by, open_pass, pass_after}
use Rattle.vl_engine_model.specs.Ruling.{Ruling, StepAnswer, has_no_number, has_no_epoch, leaving}
use Rattle.vl_engine_model.specs.Ruling as ruling
use Rattle.vl_engine_model.specs.Rulings.Begin as begin
use Rattle.vl_engine_model.specs.Rulings.Begin.{BeginAnswer, begin_ruling}
use Rattle.vl_engine_model.specs.Rulings.Commit as commit
use Rattle.vl_engine_model.specs.Rulings.Commit.{CommitAnswer, Transaction, commit_checked, commit_ended, commit_frame, commit_ruling}
use Rattle.vl_engine_model.specs.Rulings.Commit.{commit_unless, committed}
use Rattle.vl_engine_model.specs.Relocation.{Candidate, Pass, moved_of}
use Rattle.vl_engine_model.specs.Rulings.EndPass.{end_pass_ruling, without_pass}
use Rattle.vl_engine_model.specs.Rulings.Flush.{flush_of, flush_ruling, flush_unless, flushed}
use Rattle.vl_engine_model.specs.Rulings.Forget.{forget_ruling}
use Rattle.vl_engine_model.specs.Rulings.Pick as pick
use Rattle.vl_engine_model.specs.Rulings.Pick.{PickAnswer, pick_ruling}
use Rattle.vl_engine_model.specs.Rulings.Relocate as relocate
use Rattle.vl_engine_model.specs.Rulings.Relocate.{MoveAnswer, relocate_of, relocate_ruling, relocate_unless, relocated}
use Rattle.vl_engine_model.specs.Rulings.Rotate.{rotate_of, rotate_ruling, rotate_unless, rotated}
use Rattle.vl_engine_model.specs.Rulings.Sweep as sweep
use Rattle.vl_engine_model.specs.Rulings.Sweep.{SweepAnswer, sweep_lost, sweep_ruling, sweep_unless}
use Rattle.vl_engine_model.specs.Sources.{sources}
use Rattle.vl_engine_model.specs.declared.file_name.FileName.{FileName}
use Rattle.vl_engine_model.specs.declared.layout.Layout.{Layout}
use Rattle.vl_engine_model.specs.declared.lock_history.LockEntry.{LockEntry}
use Rattle.vl_engine_model.specs.declared.lock_history.LockStep.{LockStep}
use Rattle.vl_engine_model.specs.declared.lock_history.LockStep.TheVariants as steps
use Rattle.vl_engine_model.specs.declared.lock_history.LockStep.TheVariants.{Changed}
use Rattle.vl_engine_model.specs.declared.segment.Segment.{Segment}
use Rattle.vl_model.specs.Conflicts.{Named, first_conflict}
use Rattle.vl_model.specs.Frames.{frame_length}
use Rattle.vl_model.specs.History.{History, last_number}
use Rattle.vl_model.specs.Limits.{max_commit_number}
use Rattle.vl_model.specs.declared.change.Change.{Change}
use Rattle.vl_model.specs.declared.counter.Counter.TheVariants as counter
use Rattle.vl_model.specs.declared.counter.Counter.TheVariants.{Commit as CommitNumber}
use Rattle.vl_model.specs.declared.log_frame.LogFrame.{LogFrame}
use Rattle.vl_model.specs.declared.log_frame.LogFrame.TheVariants.{Relocated}
use Rattle.vl_model.specs.declared.log_frame.Moved.{Moved}
use Rattle.vl_oracle.specs.declared.begin_fail.BeginFail.{BeginFail}
use Rattle.vl_turn.specs.Entries.{with_entry}
use Rattle.vlstore.specs.Entries.{Done, begin_entry, commit_entry, done_by, end_entry, end_pass_entry, entry_of, flush_entry, pick_done}
use Rattle.vlstore.specs.Entries.{pick_entry, relocate_entry, rotate_entry, step_done, sweep_done, sweep_entry}
use Rattle.vlstore.specs.Knowing.{GoesOn, IsOwnPass, Knows, Looked, Meets, Noted, Stepped}
use Rattle.vlstore.specs.Lists.{history_by, layout_by}
use Rattle.vlstore.specs.Merging.{Did, IsChange, IsWork}
use Rattle.vlstore.specs.Shops.{IsFaultyCommit, IsFaultyMove, IsFaultyStep, IsFaultySweep, known_by, note_of, origin_of}
use Rattle.vlstore.specs.declared.locked.Origin.{Origin}
use Rattle.vlstore.proofs.Making.{on_and_on}
use Rattle.vlstore.proofs.Merged.{OnEntry, did_on}
use Rattle.vlstore.proofs.Merged.{stepped_so as did_so}

nil_after : (es : List LockEntry) → es ++ [] ≡ es
nil_after [] = refl
nil_after (e ∷ es) = ap (λ (rest : List LockEntry). e ∷ rest) (nil_after es)

-- ---- what goes on

pub goes_on : (v w : Knows) → GoesOn v w → drive.GoesOn (known_by v) (known_by w)
goes_on v w on = record {
  store = on.store;
  origin = ap origin_of on.origin;
  session = on.session;
  seen = on.seen;
  own = on.own;
  faults = omega arith;
  sure_is = refl;
  sure = λ _. refl;
}

pub meets : (v w : Knows) (note : Noted) → Meets v w note → drive.Meets (known_by v) (known_by w) (note_of note)
meets v w note is = record { on = goes_on v w is.on; own = is.own; noted = is.noted; one = is.one }

pub looks_itself : (v : Knows) → drive.Looks (known_by v) (known_by v)
looks_itself v = record {
  on = record {
    store = refl;
    origin = refl;
    session = refl;
    seen = ([], nil_after v.seen);
    own = ([], nil_after v.own);
    faults = omega arith;
    sure_is = refl;
    sure = λ _. refl;
  };
  seen = refl;
  own = refl;
}

-- no fault is counted
pub no_fault_counted : (fault : Bool) (v w : Knows) → fault ≡ false → drive.IsCounted fault (known_by v) (known_by w)
no_fault_counted fault v w is = subst (λ (b : Bool). drive.IsCounted b (known_by v) (known_by w)) (sym is) refl

-- ---- answers

-- what is so of an answer is so of one that stands for it
pub if_ok : {T E F : Type 0} (P : T → Type 0) (r : Result T E) (s : Result T F) → ((t : T) → r ≡ Ok t → s ≡ Ok t) → IfOk s P → IfOk r P
if_ok P (Ok t) s same is = subst (λ (x : Result _ _). IfOk x P) (same t refl) is
if_ok P (Err e) s same is = tt

pub new_writes : {H R : Type 0} (r : Result (Txn H R) BeginFail) → IfOk r IsNew → IfOk r (λ txn. txn.writes ≡ empty)
new_writes (Ok txn) is = is.writes
new_writes (Err why) is = tt

-- ---- lists

same_with : (list : List LockEntry) (e : Option LockEntry) → with_entry list e ≡ drive.with_entry list e
same_with list None = refl
same_with list (Some e) = refl

-- where there is an entry it is this session's
abbrev pub IsOf : ℕ → Option LockEntry → Type 0
IsOf session None = Unit {0}
IsOf session (Some e) = e.session ≡ session

-- and its step is of a kind
abbrev pub IsAside : Option LockEntry → Type 0
IsAside None = Unit {0}
IsAside (Some e) = is_aside e.step ≡ true

by_more : (session : ℕ) (es more : List LockEntry) → entries_by session (es ++ more) ≡ entries_by session es ++ entries_by session more
by_more session es more = filter-append (λ (e : LockEntry). e.session == session) es more

own_entry : (session : ℕ) (list : List LockEntry) (e : Option LockEntry) → IsOf session e
    → with_entry (entries_by session list) e ≡ entries_by session (with_entry list e)
own_entry session list None is = refl
own_entry session list (Some e) is =
    sym (by_more session list (e ∷ []) ∙ ap (λ (rest : List LockEntry). entries_by session list ++ rest) one)
  where
    same : (n : ℕ) → n ≡ session → (n == session) ≡ true
    same n is = grind (arith, nat_tests)

    one : entries_by session (e ∷ []) ≡ e ∷ []
    one = ap (λ (b : Bool). if b then e ∷ [] else []) (same e.session is)

-- ---- one step of its own

module _ {A : Type 0} {sure : Type 0} (v w : Knows) (ruling : Layout → History → Ruling A)
    (entry : ℕ → Layout → History → Outcome A → Option LockEntry) (outcome : Outcome A) (on : GoesOn v w)
    (step : Stepped sure v w ruling entry outcome) where
  abbrev made : Option LockEntry
  made = entry v.session (layout_by v.origin step.before) (history_by v.origin step.before) outcome

  -- all that it did is among what it has seen
  pub mine_then : IsOf v.session made → w.own ≡ entries_by v.session w.seen
  mine_then is = step.own ∙ (ap (λ (es : List LockEntry). with_entry es made) step.mine ∙ (own_entry v.session step.before made is
      ∙ ap (entries_by v.session) (sym step.seen)))

  pub steps_aside : IsOf v.session made → IsAside made → drive.GoesAside (known_by v) (known_by w)
  steps_aside is aside = of made step.own is aside (mine_then is)
    where
      of : (e : Option LockEntry) → w.own ≡ with_entry v.own e → IsOf v.session e → IsAside e
          → w.own ≡ entries_by v.session w.seen → drive.GoesAside (known_by v) (known_by w)
      of None own is aside mine = record {
        on = goes_on v w on;
        more = [];
        own = own ∙ sym (nil_after v.own);
        aside = tt;
        mine = mine;
        legal = step.legal;
      }
      of (Some e) own is aside mine = record {
        on = goes_on v w on;
        more = e ∷ [];
        own = own;
        aside = (aside, tt);
        mine = mine;
        legal = step.legal;
      }

  -- as a shop's step
  pub stepped_so : {entry' : ℕ → Layout → History → Outcome A → Option LockEntry} {outcome' : Outcome A} → outcome' ≡ outcome
      → ((n : ℕ) (l : Layout) (h : History) → entry n l h outcome ≡ entry' n l h outcome)
      → drive.Stepped (known_by v) (known_by w) ruling entry' outcome'
  stepped_so {entry'} {outcome'} same entries =
      subst (λ (o : Outcome A). drive.Stepped (known_by v) (known_by w) ruling entry' o) (sym same) (record {
        before = step.before;
        steps = record {
          on = goes_on v w on;
          later = step.later;
          mine = step.mine;
          seen = step.seen ∙ (ap (with_entry step.before) entry_is ∙ same_with step.before made');
          own = step.own ∙ (ap (with_entry v.own) entry_is ∙ same_with v.own made');
          legal = step.legal;
        };
        answer = step.answer;
      })
    where
      made' : Option LockEntry
      made' = entry' v.session (layout_by v.origin step.before) (history_by v.origin step.before) outcome

      entry_is : made ≡ made'
      entry_is = entries v.session (layout_by v.origin step.before) (history_by v.origin step.before)

-- ---- entries

of_own : (session : ℕ) (done : Done) → IsOf session (entry_of session done)
of_own session None = tt
of_own session (Some done) = refl

-- what was done is of a kind
abbrev pub DoesAside : Done → Type 0
DoesAside None = Unit {0}
DoesAside (Some done) = is_aside done.0 ≡ true

aside_own : (session : ℕ) (done : Done) → DoesAside done → IsAside (entry_of session done)
aside_own session None is = tt
aside_own session (Some done) is = is

done_aside : {A : Type 0} (answered : A → Done) (failed : LockStep × Layout) → ((a : A) → DoesAside (answered a))
    → is_aside failed.0 ≡ true → (outcome : Outcome A) → DoesAside (done_by answered failed outcome)
done_aside answered failed each lost (Answered a) = each a
done_aside answered failed each lost NoMemory = tt
done_aside answered failed each lost (Failed name) = lost
done_aside answered failed each lost (Damaged name place) = tt

step_aside : (next : Layout) (a : StepAnswer) → DoesAside (step_done next a)
step_aside next (ruling.Stepped number) = refl
step_aside next ruling.Idle = tt
step_aside next (ruling.Halted name) = tt
step_aside next (ruling.Exhausted counter) = tt

sweep_aside : (next : Layout) (a : SweepAnswer) → DoesAside (sweep_done next a)
sweep_aside next (sweep.Removed zero) = tt
sweep_aside next (sweep.Removed (suc n)) = refl
sweep_aside next (sweep.Halted name) = tt

-- ---- calls

module _ {sure : Type 0} (v w : Knows) (on : GoesOn v w) where
  pub rotates_aside : (outcome : Outcome StepAnswer) → Stepped sure v w rotate_ruling rotate_entry outcome
      → drive.GoesAside (known_by v) (known_by w)
  rotates_aside outcome step =
      let l = layout_by v.origin step.before in
      let done = done_by (step_done (rotated l)) (Changed, l) outcome in
      steps_aside v w rotate_ruling rotate_entry outcome on step (of_own v.session done)
      (aside_own v.session done (done_aside (step_done (rotated l)) (Changed, l) (step_aside (rotated l)) refl outcome))

  pub flushes_aside : (outcome : Outcome StepAnswer) → Stepped sure v w flush_ruling flush_entry outcome
      → drive.GoesAside (known_by v) (known_by w)
  flushes_aside outcome step =
      let l = layout_by v.origin step.before in
      let next = (flush_ruling l (history_by v.origin step.before)).layout in
      let done = done_by (step_done next) (Changed, l) outcome in
      steps_aside v w flush_ruling flush_entry outcome on step (of_own v.session done)
      (aside_own v.session done (done_aside (step_done next) (Changed, l) (step_aside next) refl outcome))

  pub sweeps_aside : (gone : ℕ) (outcome : Outcome SweepAnswer) → Stepped sure v w sweep_ruling (sweep_entry gone) outcome
      → drive.GoesAside (known_by v) (known_by w)
  sweeps_aside gone outcome step =
      let l = layout_by v.origin step.before in
      let next = (sweep_ruling l (history_by v.origin step.before)).layout in
      let lost = sweep_lost None l gone in
      let done = done_by (sweep_done next) (Changed, lost) outcome in
      steps_aside v w sweep_ruling (sweep_entry gone) outcome on step (of_own v.session done)
      (aside_own v.session done (done_aside (sweep_done next) (Changed, lost) (sweep_aside next) refl outcome))

-- ---- begins and commits

begin_same : (session : ℕ) (l : Layout) (h : History) (outcome : Outcome BeginAnswer)
    → begin_entry session l h outcome ≡ drive_entries.begin_entry session l h outcome
begin_same session l h (Answered (begin.Begun ticket number)) = refl
begin_same session l h (Answered begin.TooMany) = refl
begin_same session l h NoMemory = refl
begin_same session l h (Failed name) = refl
begin_same session l h (Damaged name place) = refl

commit_same : (ticket : ℕ) (writes : List (List ℕ × Change)) (session : ℕ) (l : Layout) (h : History)
    (outcome : Outcome CommitAnswer)
    → commit_entry ticket writes session l h outcome ≡ drive_entries.commit_entry ticket writes session l h outcome
commit_same ticket writes session l h (Answered (commit.At number)) = refl
commit_same ticket writes session l h (Answered commit.Nothing) = refl
commit_same ticket writes session l h (Answered (commit.Halted name)) = refl
commit_same ticket writes session l h (Answered (commit.Exhausted counter)) = refl
commit_same ticket writes session l h (Answered (commit.Conflict key number)) = refl
commit_same ticket writes session l h (Answered (commit.Full length frame)) = refl
commit_same ticket writes session l h NoMemory = refl
commit_same ticket writes session l h (Failed name) = refl
commit_same ticket writes session l h (Damaged name place) = refl

module _ {sure : Type 0} (v w : Knows) (on : GoesOn v w) where
  pub begins_so : (outcome outcome' : Outcome BeginAnswer) → outcome' ≡ outcome → Stepped sure v w begin_ruling begin_entry outcome
      → drive.Stepped (known_by v) (known_by w) begin_ruling drive_entries.begin_entry outcome'
  begins_so outcome outcome' same step =
      stepped_so v w begin_ruling begin_entry outcome on step same (λ n l h. begin_same n l h outcome)

  pub commits_so : (t : Transaction) (outcome outcome' : Outcome CommitAnswer) → outcome' ≡ outcome
      → Stepped sure v w (λ l h. commit_ruling l h t) (commit_entry t.ticket t.writes) outcome
      → drive.Stepped (known_by v) (known_by w) (λ l h. commit_ruling l h t) (drive_entries.commit_entry t.ticket t.writes) outcome'
  commits_so t outcome outcome' same step =
      stepped_so v w (λ l h. commit_ruling l h t) (commit_entry t.ticket t.writes) outcome on step same
      (λ n l h. commit_same t.ticket t.writes n l h outcome)

  pub forgets_so : (t : Transaction) → Stepped sure v w (λ l h. forget_ruling l h t) (end_entry t.ticket) (Answered tt)
      → drive.Stepped (known_by v) (known_by w) (λ l h. forget_ruling l h t) (drive_entries.forget_entry t.ticket) (Answered tt)
  forgets_so t step =
      stepped_so v w (λ l h. forget_ruling l h t) (end_entry t.ticket) (Answered tt) on step refl (λ n l h. refl)

-- ---- none fails

-- a halt is answered only over a layout that has one
abbrev pub IsUnhalted : CommitAnswer → Type 0
IsUnhalted (commit.At number) = Unit {0}
IsUnhalted commit.Nothing = Unit {0}
IsUnhalted (commit.Halted name) = ⊥
IsUnhalted (commit.Exhausted counter) = Unit {0}
IsUnhalted (commit.Conflict key number) = Unit {0}
IsUnhalted (commit.Full length frame) = Unit {0}

commit_runs : (l : Layout) (h : History) (t : Transaction) → l.halted ≡ None → IsUnhalted (commit_ruling l h t).answer
commit_runs l h t runs =
    subst (λ (halted : Option FileName). IsUnhalted (commit_unless halted l h t (first_conflict h t.number t.reads)).answer) (sym runs)
    (running (length t.writes == 0) (nat_le max_commit_number (last_number h)) (first_conflict h t.number t.reads))
  where
    fitting : (fits : Bool) → IsUnhalted (if fits then committed l h t
        else leaving (commit.Full l.active.length (frame_length l.active.format (commit_frame h t.writes))) h l).answer
    fitting true = tt
    fitting false = tt

    running : (nothing last : Bool) (conflict : Option Named) → IsUnhalted (if nothing then commit_ended commit.Nothing l h t
        else (if last then leaving (commit.Exhausted CommitNumber) h l else commit_checked l h t conflict)).answer
    running true last conflict = tt
    running false true conflict = tt
    running false false (Some named) = tt
    running false false None = fitting (nat_le (l.active.length + frame_length l.active.format (commit_frame h t.writes)) l.room)

abbrev pub IsRunning : StepAnswer → Type 0
IsRunning (ruling.Stepped number) = Unit {0}
IsRunning ruling.Idle = Unit {0}
IsRunning (ruling.Halted name) = ⊥
IsRunning (ruling.Exhausted counter) = Unit {0}

rotate_runs : (l : Layout) (h : History) → l.halted ≡ None → IsRunning (rotate_ruling l h).answer
rotate_runs l h runs = subst (λ (halted : Option FileName). IsRunning (rotate_unless halted l h).answer) (sym runs) (of l.active.frames)
  where
    numbered : (b c : Bool) → IsRunning (if b then leaving (ruling.Exhausted counter.Log) h l
        else (if c then leaving (ruling.Exhausted counter.Version) h l
        else record { answer = ruling.Stepped l.active.number; history = h; layout = rotated l; calls = 3; gone = [] })).answer
    numbered true c = tt
    numbered false true = tt
    numbered false false = tt

    of : (fs : List LogFrame) → IsRunning (rotate_of fs l h).answer
    of [] = tt
    of (f ∷ fs) = numbered (has_no_number l.next_log 1) (has_no_epoch l)

flush_runs : (l : Layout) (h : History) → l.halted ≡ None → IsRunning (flush_ruling l h).answer
flush_runs l h runs = subst (λ (halted : Option FileName). IsRunning (flush_unless halted l h).answer) (sym runs) (of _)
  where
    numbered : (s : Segment) (b c : Bool) → IsRunning (if b then leaving (ruling.Exhausted counter.Table) h l
        else (if c then leaving (ruling.Exhausted counter.Version) h l
        else record { answer = ruling.Stepped l.next_table; history = h; layout = flushed l s; calls = 5; gone = [] })).answer
    numbered s true c = tt
    numbered s false true = tt
    numbered s false false = tt

    of : (s : Option Segment) → IsRunning (flush_of l h s).answer
    of None = tt
    of (Some s) = numbered s (has_no_number l.next_table 1) (has_no_epoch l)

abbrev pub IsSweeping : SweepAnswer → Type 0
IsSweeping (sweep.Removed n) = Unit {0}
IsSweeping (sweep.Halted name) = ⊥

sweep_runs : (l : Layout) (h : History) → l.halted ≡ None → IsSweeping (sweep_ruling l h).answer
sweep_runs l h runs = subst (λ (halted : Option FileName). IsSweeping (sweep_unless halted None l h).answer) (sym runs) tt

module _ {sure : Type 0} (v w : Knows) (surely : sure) (runs : v.origin.layout.halted ≡ None) where
  pub commit_sound : {H R : Type 0} (t : Transaction) (entry : ℕ → Layout → History → Outcome CommitAnswer → Option LockEntry)
      (r : Result EngineDone (CommitFail H R)) → Stepped sure v w (λ l h. commit_ruling l h t) entry (commit_outcome r)
      → IsFaultyCommit r → ⊥
  commit_sound t entry (Ok done) step fault = fault
  commit_sound t entry (Err (fails.Halted name)) step fault =
      subst IsUnhalted (sym (step.answer (commit.Halted (file_of name)) refl))
      (commit_runs (layout_by v.origin step.before) (history_by v.origin step.before) t (step.runs surely runs))
  commit_sound t entry (Err (fails.Exhausted txn)) step fault = fault
  commit_sound t entry (Err (fails.Conflict key number)) step fault = fault
  commit_sound t entry (Err (fails.Full txn length frame)) step fault = fault
  commit_sound t entry (Err (fails.NoMemory txn)) step fault = fault
  commit_sound t entry (Err (fails.Disk name)) step fault = step.unfailing surely (file_of name) refl

  pub step_sound : (ruled : Layout → History → Ruling StepAnswer) (entry : ℕ → Layout → History → Outcome StepAnswer → Option LockEntry)
      (r : Result (Option ℕ) StepFail) → ((l : Layout) (h : History) → l.halted ≡ None → IsRunning (ruled l h).answer)
      → Stepped sure v w ruled entry (step_outcome r) → IsFaultyStep r → ⊥
  step_sound ruled entry (Ok number) so step fault = fault
  step_sound ruled entry (Err (step_fails.Halted name)) so step fault =
      subst IsRunning (sym (step.answer (ruling.Halted (file_of name)) refl))
      (so (layout_by v.origin step.before) (history_by v.origin step.before) (step.runs surely runs))
  step_sound ruled entry (Err (step_fails.Exhausted counter)) so step fault = fault
  step_sound ruled entry (Err step_fails.NoMemory) so step fault = fault
  step_sound ruled entry (Err (step_fails.Disk name)) so step fault = step.unfailing surely (file_of name) refl

  pub rotate_sound : (r : Result (Option ℕ) StepFail) → Stepped sure v w rotate_ruling rotate_entry (step_outcome r) → IsFaultyStep r → ⊥
  rotate_sound r = step_sound rotate_ruling rotate_entry r rotate_runs

  pub flush_sound : (r : Result (Option ℕ) StepFail) → Stepped sure v w flush_ruling flush_entry (step_outcome r) → IsFaultyStep r → ⊥
  flush_sound r = step_sound flush_ruling flush_entry r flush_runs

  pub sweep_sound : (gone : ℕ) (r : Result ℕ SweepFail) → Stepped sure v w sweep_ruling (sweep_entry gone) (sweep_outcome r)
      → IsFaultySweep r → ⊥
  sweep_sound gone (Ok count) step fault = fault
  sweep_sound gone (Err (sweep_fails.Halted name)) step fault =
      subst IsSweeping (sym (step.answer (sweep.Halted (file_of name)) refl))
      (sweep_runs (layout_by v.origin step.before) (history_by v.origin step.before) (step.runs surely runs))
  sweep_sound gone (Err (sweep_fails.Disk name)) step fault = step.unfailing surely (file_of name) refl

-- ---- work of several steps

work_aside : (step : LockStep) → IsWork step → is_aside step ≡ true
work_aside (steps.Begun ticket number) works = absurd works
work_aside (steps.Put ticket number writes) works = absurd works
work_aside (steps.Ended ticket) works = absurd works
work_aside steps.Planned works = refl
work_aside steps.JobEnded works = refl
work_aside steps.Picked works = refl
work_aside steps.PassEnded works = refl
work_aside steps.Changed works = refl

all_aside : (es : List LockEntry) → AllByRecursion (λ (e : LockEntry). IsWork e.step) es
    → AllByRecursion (λ (e : LockEntry). is_aside e.step ≡ true) es
all_aside [] all = tt
all_aside (e ∷ es) all = (work_aside e.step all.0, all_aside es all.1)

-- where all that the session did is among what it has seen
pub works_aside : (v w : Knows) → GoesOn v w → Did IsWork v w → w.own ≡ entries_by v.session w.seen → IsLegal v.origin.number w.seen
    → drive.GoesAside (known_by v) (known_by w)
works_aside v w on did mine legal = record {
  on = goes_on v w on;
  more = did.more;
  own = did.own;
  aside = all_aside did.more did.are;
  mine = mine;
  legal = legal;
}

-- behind a look at all steps
pub looks_aside : (u v w : Knows) (answered : Layout → History → Type 0) → GoesOn u v → GoesOn v w → Did IsWork u v
    → Looked v w answered → drive.GoesAside (known_by u) (known_by w)
looks_aside u v w answered first next did looked =
    works_aside u w (on_and_on u v w first next)
    (record { more = did.more; own = looked.own ∙ did.own; are = did.are })
    (looked.own ∙ (looked.mine ∙ ap (λ (n : ℕ). entries_by n w.seen) first.session))
    (subst (λ (o : Origin). IsLegal o.number w.seen) first.origin looked.legal)

pub pick_works : (percent s : ℕ) (l : Layout) (h : History) (outcome : Outcome PickAnswer)
    → OnEntry IsWork (pick_entry percent s l h outcome)
pick_works percent s l h (Answered (pick.Picked pass)) = tt
pick_works percent s l h (Answered pick.InvalidRequest) = tt
pick_works percent s l h (Answered (pick.Rejected segment)) = tt
pick_works percent s l h (Answered pick.NoRewrite) = tt
pick_works percent s l h NoMemory = tt
pick_works percent s l h (Failed name) = tt
pick_works percent s l h (Damaged name place) = tt

-- ---- passes

open_pass-append : (p : Option (ℕ × ℕ)) (es more : List LockEntry) → open_pass p (es ++ more) ≡ open_pass (open_pass p es) more
open_pass-append p [] more = refl
open_pass-append p (e ∷ es) more = open_pass-append (pass_after e.session e.step e.layout p) es more

pass_left : (p : Option (ℕ × ℕ)) (es : List LockEntry) → AllByRecursion (λ (e : LockEntry). IsChange e.step) es → open_pass p es ≡ p
pass_left p [] all = refl
pass_left p (e ∷ es) all = subst (λ (step : LockStep). open_pass p (record e { step = step } ∷ es) ≡ p) (sym all.0)
    (pass_left p es all.1)

-- a pass stays the session's own behind its changes
pub own_pass : (v w : Knows) (segment : ℕ) → w.session ≡ v.session → Did IsChange v w → IsOwnPass v segment → IsOwnPass w segment
own_pass v w segment session did own =
    ap (open_pass None) did.own ∙ (open_pass-append None v.own did.more ∙ (pass_left (open_pass None v.own) did.more did.are
    ∙ (own ∙ ap (λ (n : ℕ). Some (n, segment)) (sym session))))

-- ---- a pass from its pick to its end

pub picks_aside : {sure : Type 0} (v w : Knows) (percent : ℕ) (outcome : Outcome PickAnswer) → GoesOn v w
    → Stepped sure v w (λ l h. pick_ruling l h percent) (pick_entry percent) outcome → drive.GoesAside (known_by v) (known_by w)
picks_aside v w percent outcome on step =
    let l = layout_by v.origin step.before in
    let next = (pick_ruling l (history_by v.origin step.before) percent).layout in
    works_aside v w on
    (did_so IsWork v w (λ l h. pick_ruling l h percent) (pick_entry percent) outcome
    (λ n l h. pick_works percent n l h outcome) step)
    (mine_then v w (λ l h. pick_ruling l h percent) (pick_entry percent) outcome on step
    (of_own v.session (done_by (pick_done next) (Changed, l) outcome))
    ∙ ap (λ (n : ℕ). entries_by n w.seen) refl)
    step.legal

pub end_aside : {sure : Type 0} (u v w : Knows) (p : Pass) → GoesOn u v → GoesOn v w → Did IsWork u v
    → Stepped sure v w (λ l h. end_pass_ruling l h p) end_pass_entry (Answered tt) → drive.GoesAside (known_by u) (known_by w)
end_aside u v w p first next did step =
    let l = layout_by v.origin step.before in
    works_aside u w (on_and_on u v w first next)
    (did_on IsWork u v w did (did_so IsWork v w (λ l h. end_pass_ruling l h p) end_pass_entry (Answered tt) (λ n l h. tt) step))
    (mine_then v w (λ l h. end_pass_ruling l h p) end_pass_entry (Answered tt) next step
    (of_own v.session (Some (steps.PassEnded, without_pass l)))
    ∙ ap (λ (n : ℕ). entries_by n w.seen) first.session)
    (subst (λ (o : Origin). IsLegal o.number w.seen) first.origin step.legal)

pub move_changes : (p : Pass) (batch : List Candidate) (s : ℕ) (l : Layout) (h : History) (outcome : Outcome MoveAnswer)
    → OnEntry IsChange (relocate_entry p batch s l h outcome)
move_changes p batch s l h (Answered (relocate.Moves zero)) = tt
move_changes p batch s l h (Answered (relocate.Moves (suc n))) = refl
move_changes p batch s l h (Answered (relocate.Halted name)) = tt
move_changes p batch s l h (Answered (relocate.Exhausted counter)) = tt
move_changes p batch s l h (Answered (relocate.Full length frame)) = tt
move_changes p batch s l h NoMemory = tt
move_changes p batch s l h (Failed name) = refl
move_changes p batch s l h (Damaged name place) = tt

abbrev pub IsMoving : MoveAnswer → Type 0
IsMoving (relocate.Moves n) = Unit {0}
IsMoving (relocate.Halted name) = ⊥
IsMoving (relocate.Exhausted counter) = Unit {0}
IsMoving (relocate.Full length frame) = Unit {0}

module _ {sure : Type 0} (v w : Knows) (surely : sure) (runs : v.origin.layout.halted ≡ None) (p : Pass) (batch : List Candidate)
  where
    pub move_sound : (r : Result ℕ MoveFail)
        → Stepped sure v w (λ l h. relocate_ruling l h p batch) (relocate_entry p batch) (move_outcome r)
        → (IsDamaged r → ⊥) → IsFaultyMove r → ⊥
    move_sound (Ok count) step sound fault = fault
    move_sound (Err (move_fails.Halted name)) step sound fault =
        subst IsMoving (sym (step.answer (relocate.Halted (file_of name)) refl))
        (moves (layout_by v.origin step.before) (history_by v.origin step.before) (step.runs surely runs))
      where
        moves : (l : Layout) (h : History) → l.halted ≡ None → IsMoving (relocate_ruling l h p batch).answer
        moves l h none = subst (λ (halted : Option FileName). IsMoving (relocate_unless halted l h p batch).answer) (sym none)
            (of (moved_of (sources l) p.segment (last_number h) batch))
          where
            of : (ms : List Moved) → IsMoving (relocate_of l h ms).answer
            of [] = tt
            of (m ∷ ms) = numbered (has_no_epoch l)
                (nat_le (l.active.length + frame_length l.active.format (Relocated (m ∷ ms))) l.room)
              where
                numbered : (a b : Bool) → IsMoving (if a then leaving (relocate.Exhausted counter.Version) h l
                    else (if b then record {
                      answer = relocate.Moves (length (m ∷ ms));
                      history = h;
                      layout = relocated l (m ∷ ms);
                      calls = 2;
                      gone = [];
                    }
                    else leaving (relocate.Full l.active.length (frame_length l.active.format (Relocated (m ∷ ms)))) h l)).answer
                numbered true b = tt
                numbered false true = tt
                numbered false false = tt
    move_sound (Err (move_fails.Exhausted back counter)) step sound fault = fault
    move_sound (Err (move_fails.Full back length frame)) step sound fault = fault
    move_sound (Err (move_fails.NoMemory back)) step sound fault = fault
    move_sound (Err (move_fails.Read name)) step sound fault = step.unfailing surely (file_of name) refl
    move_sound (Err (move_fails.Disk name)) step sound fault = step.unfailing surely (file_of name) refl
    move_sound (Err (move_fails.Damaged back name place)) step sound fault = sound tt
