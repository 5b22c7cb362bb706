-- What lending the file of a merge's next table comes to, over a state for which the engine stands.
use Rattle.std.specs.Prelude.{◌≡◌, ◌≢◌, ◌+◌, ◌<◌, ◌≤◌, ◌++◌, ℕ, Bool, true, false, if◌then◌else◌, List, [], ◌∷◌}
use Rattle.std.specs.Prelude.{length, Option, None, Some, Result, Ok, Err, IsTrue}
use Rattle.std.specs.Option.{option_map}
use Rattle.std.proofs.Common.{⊎_elim, refl, ap, sym, ◌∙◌, subst, arith}
use Rattle.std.proofs.lemmas.Bool.Decides.{nat_tests}
use Rattle.vl_back.specs.Writing.{KeepsOthers}
use Rattle.vl_compact.specs.declared.files.Lent.{Lent}
use Rattle.vl_disk.specs.Calls.{ChangesNothing}
use Rattle.vl_disk.specs.Crash.{Image}
use Rattle.vl_disk.specs.DiskState.{DiskState}
use Rattle.vl_disk.specs.Faults.{after_calls}
use Rattle.vl_disk.specs.Name.{file_number}
use Rattle.vl_disk.specs.Performs.{FailedAt, calls_on}
use Rattle.vl_disk.specs.declared.name.Name.{Name}
use Rattle.vl_disk.specs.declared.name.Name.TheVariants.{Table}
use Rattle.vl_disk.specs.declared.watched.Watched.{Ghosts}
use Rattle.vl_disk.specs.laws.NameMap.{same_or_other}
use Rattle.vl_engine_laws.specs.Carries.{Carries}
use Rattle.vl_steps.specs.Drawing.{DrawsCore, FreshLeavesDisk, MayDraw, StopsDrawing, WritesFresh}
use Rattle.vl_engine_laws.specs.Lent.{StandsOpen}
use Rattle.vl_steps.specs.Merging.{fresh_effects, fresh_outcome}
use Rattle.vl_engine_laws.specs.Represents.{Fronts, Represents, file_of}
use Rattle.vl_engine_laws.specs.Shown.{Shown}
use Rattle.vl_steps.specs.Stepping.{StepFailed}
use Rattle.vl_engine_laws.specs.MayStep.{Fits, HasNumbers, LeavesNumbers}
use Rattle.vl_steps.specs.declared.fails.StepFail.{StepFail}
use Rattle.vl_steps.specs.declared.fails.StepFail.TheVariants as fails
use Rattle.vl_engine_laws.specs.declared.kept.Core.{Core}
use Rattle.vl_engine_laws.specs.declared.open.OpenMerge.{OpenMerge}
use Rattle.vl_engine_model.specs.Decides.{Decides, as_before}
use Rattle.vl_engine_model.specs.Ruling.{Ruling, has_no_number, leaving}
use Rattle.vl_engine_model.specs.Rulings.Fresh as fresh
use Rattle.vl_engine_model.specs.Rulings.Fresh.{FreshAnswer, drawn, fresh_ruling, fresh_unless}
use Rattle.vl_engine_model.specs.declared.file_name.FileName.{FileName}
use Rattle.vl_engine_model.specs.declared.layout.Layout.{Layout}
use Rattle.vl_model.specs.History.{History, last_number}
use Rattle.vl_model.specs.Limits.{max_file_number}
use Rattle.vl_model.specs.declared.counter.Counter.{Counter}
use Rattle.vl_model.specs.declared.counter.Counter.TheVariants as counters
use Rattle.vl_recover.specs.crash.Alike.{IsLeft}
use Rattle.vl_script_model.specs.Between.{ShowsBetween}
use Rattle.vl_replay_laws.specs.Drawn.{DrawsOn, IsServing, drawn_state}
use Rattle.vl_script_model.specs.Durable.{CrashesShow, HoldsState}
use Rattle.vl_script_model.specs.Halts.{HaltsByDisk}
use Rattle.vl_replay.specs.Rounds.{round_by}
use Rattle.vl_script_model.specs.Sequential.{State, history_of}
use Rattle.vl_script_model.specs.Stopped.{AreNumberedUpTo, StopsStep}
use Rattle.vl_script_model.specs.Stored.{IsStored}
use Rattle.vl_script_model.specs.declared.fails.Halt.{Halt}
use Rattle.vl_replay_laws.specs.laws.Merges.Rounds.{fresh_torn, stays}
use Rattle.vl_replay_laws.specs.laws.Merges.Lists.{drawn_none}
use Rattle.vl_script_model.specs.laws.DiskSteps.{IsWatched}
use Rattle.vl_script_model.specs.laws.HeldDisk.{stored_by}

-- ---- the ruling

abbrev drawn_ruling : Layout → History → Ruling FreshAnswer
drawn_ruling l h = record { answer = fresh.Drawn l.next_table; history = h; layout = drawn l; calls = 1; gone = [] }

abbrev by_number : Layout → History → Bool → Ruling FreshAnswer
by_number l h b = if b then leaving (fresh.Exhausted counters.Table) h l else drawn_ruling l h

module _ (l : Layout) (h : History) (running : l.halted ≡ None) where
  ruled : fresh_ruling l h ≡ by_number l h (has_no_number l.next_table 1)
  ruled = ap (λ (o : Option FileName). fresh_unless o l h) running

  -- a number that was drawn is the next one, which a file may have
  pub is_drawn : (n : ℕ) → fresh.Drawn n ≡ (fresh_ruling l h).answer
      → (fresh_ruling l h ≡ drawn_ruling l h) × (n ≡ l.next_table) × (l.next_table ≤ max_file_number)
  is_drawn n is = by (has_no_number l.next_table 1) refl (is ∙ ap (λ (r : Ruling FreshAnswer). r.answer) ruled)
    where
      by : (b : Bool) → has_no_number l.next_table 1 ≡ b → fresh.Drawn n ≡ (by_number l h b).answer
          → (fresh_ruling l h ≡ drawn_ruling l h) × (n ≡ l.next_table) × (l.next_table ≤ max_file_number)
      by true past e = absurd (let no : fresh.Drawn n ≡ fresh.Exhausted counters.Table = e in cc)
      by false left e =
          (ruled ∙ ap (by_number l h) left, (let same : fresh.Drawn n ≡ fresh.Drawn l.next_table = e in cc), grind (arith, nat_tests, left))

  -- and none is drawn where none is left
  pub is_exhausted : (c : Counter) → fresh.Exhausted c ≡ (fresh_ruling l h).answer
      → (fresh_ruling l h ≡ leaving (fresh.Exhausted counters.Table) h l) × (c ≡ counters.Table) × (max_file_number < l.next_table)
  is_exhausted c is = by (has_no_number l.next_table 1) refl (is ∙ ap (λ (r : Ruling FreshAnswer). r.answer) ruled)
    where
      by : (b : Bool) → has_no_number l.next_table 1 ≡ b → fresh.Exhausted c ≡ (by_number l h b).answer
          → (fresh_ruling l h ≡ leaving (fresh.Exhausted counters.Table) h l) × (c ≡ counters.Table) × (max_file_number < l.next_table)
      by true past e = (
        ruled ∙ ap (by_number l h) past,
        (let same : fresh.Exhausted c ≡ fresh.Exhausted counters.Table = e in cc),
        grind (arith, nat_tests, past),
      )
      by false left e = absurd (let no : fresh.Exhausted c ≡ fresh.Drawn l.next_table = e in cc)

  fresh_history : (fresh_ruling l h).history ≡ h
  fresh_history = ap (λ (r : Ruling FreshAnswer). r.history) ruled ∙ by (has_no_number l.next_table 1)
    where
      by : (b : Bool) → (by_number l h b).history ≡ h
      by true = refl
      by false = refl

-- a call on one file is at its only place
one_at : (x name : Name) (front back : List Name) → x ∷ [] ≡ front ++ name ∷ back → (name ≡ x) × (length front ≡ 0)
one_at x name [] back is = (cc, refl)
one_at x name (y ∷ []) back is = absurd (let no : [] ≡ name ∷ back = cc in cc)
one_at x name (y ∷ z ∷ front) back is = absurd (let no : [] ≡ z ∷ (front ++ name ∷ back) = cc in cc)

-- ---- what it comes to

-- What lending did, by its answer, as its contract has it.
pub record Draws {D H W : Type 0} (g : Ghosts D) (bytes : H → Option (List ℕ)) (before after : Core H) (old new : D)
    (was now : Option OpenMerge) {k : _} (h : History) (l : Layout) (result : Result (Lent W k) StepFail) : Type 0 where
  pub stands : StandsOpen bytes before was h l → (l.halted ≡ None → HasNumbers before.back l)
      → Decides (StandsOpen bytes after now) h l (fresh_ruling l h) (as_before l l) (fresh_outcome result) (fresh_effects result)
  pub carries : Represents bytes before (g.told old) h l
      → Carries g bytes old new after h l (fresh_ruling l h) (as_before l l) (fresh_outcome result) (fresh_effects result)
  pub fits : Fronts before h l → Fits (g.told old) before h l
      → Decides (Fits (g.told new) after) h l (fresh_ruling l h) (as_before l l) (fresh_outcome result) (fresh_effects result)
  pub untouched : FreshLeavesDisk result → ChangesNothing g old new ⊥
  pub files : KeepsOthers (Table before.back.state.next_table) (g.told old) (g.told new)
  pub stopped : (name : Name) → result ≡ Err (fails.Disk name)
      → StopsDrawing before.back.state.next_table (g.calls old) (g.calls new) name
  pub core : DrawsCore before after result
  pub failed : StepFailed result → MayDraw before
  pub meanwhile : StepFailed result → WritesFresh g before old new
  pub leaves : (disk : DiskState) → Represents bytes before (g.told old) h l → before.back.state.next_log ≤ before.back.next_log
      → StepFailed result → g.told new ≡ Some disk → LeavesNumbers l.next_log l.next_table disk
  pub within : (StepFailed result → ⊥) → before.back.state.next_log ≤ before.back.next_log
      → after.back.state.next_log ≤ after.back.next_log

-- What a round came to so far: so many numbers were drawn.
pub record Came {D H T : Type 0} (g : Ghosts D) (bytes : H → Option (List ℕ)) (old new : D) (core : Core H) (merging : Option OpenMerge)
    (s : State) (count : ℕ) (result : Result T Halt) : Type 0 where
  pub serves : (HaltsByDisk result → ⊥) → IsServing bytes (g.told new) core merging (drawn_state count s)
  pub disk : HoldsState g IsStored s old → DrawsOn g old new s count result

module _ {D H : Type 0} (g : Ghosts D) (watched : IsWatched g) (bytes : H → Option (List ℕ)) (before after : Core H) (old new : D)
    (was now : Option OpenMerge) (s : State) (serves : IsServing bytes (g.told old) before was s) where
  abbrev h : History
  h = history_of s

  abbrev l : Layout
  l = s.store.layout

  numbers : HasNumbers before.back l
  numbers = (serves.fits.running serves.running).numbers

  open_before : StandsOpen bytes before was h l
  open_before = record { stands = serves.stands; opens = serves.opens }

  represented : IsTrue s.openable → Represents bytes before (g.told old) h l
  represented openable = record { stands = serves.stands; held = λ none. serves.held openable }

  still_serves : (t : State) → StandsOpen bytes after now (history_of t) t.store.layout
      → (IsTrue t.openable → Represents bytes after (g.told new) (history_of t) t.store.layout) → t.store.layout.halted ≡ None
      → Fits (g.told new) after (history_of t) t.store.layout → after.back.state.next_log ≤ after.back.next_log
      → IsServing bytes (g.told new) after now t
  still_serves t open_so holds running fits within = record {
    stands = open_so.stands;
    opens = open_so.opens;
    held = λ openable. (holds openable).held running;
    running = running;
    fits = fits;
    within = within;
  }

  not_halted : (name : Name) → before.front.halted ≡ Some name → ⊥
  not_halted name halted =
      none_some (file_of name) (sym serves.running ∙ sym serves.stands.fronts.halted ∙ ap (option_map file_of) halted)
    where
      none_some : (file : FileName) → None ≡ Some file → ⊥
      none_some file e = cc

  module _ {W : Type 0} {k : _} (result : Result (Lent W k) StepFail) (d : Draws g bytes before after old new was now h l result) where
    carried : IsTrue s.openable
        → Carries g bytes old new after h l (fresh_ruling l h) (as_before l l) (fresh_outcome result) (fresh_effects result)
    carried openable = d.carries (represented openable)

    -- what a crash leaves shows the history
    through : IsTrue s.openable → CrashesShow g Shown old new h h
    through openable =
        subst (λ (k : History). CrashesShow g Shown old new h k) (fresh_history l h serves.running)
        ((carried openable).through serves.running)

    shows_it : IsTrue s.openable → (disk : DiskState) → g.told new ≡ Some disk → (image : Image) → IsLeft disk image
        → Shown image h (last_number h)
    shows_it openable disk told image left =
        let goes = through openable in
        exactly (goes.each disk (watched.counts_now new disk (g.moment old) told goes.time.later) image left)
      where
        exactly : ShowsBetween Shown h h image → Shown image h (last_number h)
        exactly (m, low, high, shown) = let same : m ≡ last_number h = omega (arith, low, high) in subst (Shown image h) same shown

    -- the files are numbered up to the one that was made
    numbered_one : HoldsState g IsStored s old → (disk : DiskState) → g.told new ≡ Some disk → AreNumberedUpTo (s.files + 1) disk
    numbered_one held disk told = record {
      standing = λ other there. ⊎_elim
          (λ (same : other ≡ name). let is = ap file_number same in omega (arith, near, is))
          (λ (apart : other ≢ name).
          let up = held.there.2.numbered.standing other
          (λ none. there ((d.files held.there.0 disk held.there.1 told other apart).0.1 none)) in
          omega (arith, up))
          (same_or_other other name);
      removed = λ other there. ⊎_elim
          (λ (same : other ≡ name). let is = ap file_number same in omega (arith, near, is))
          (λ (apart : other ≢ name).
          let up = held.there.2.numbered.removed other
          (λ none. there ((d.files held.there.0 disk held.there.1 told other apart).1.1 none)) in
          omega (arith, up))
          (same_or_other other name);
    }
      where
        name : Name
        name = Table before.back.state.next_table

        near : file_number name ≤ s.files + 1
        near = let e = numbers.next_table in let up = held.there.2.next_drawn in
            let is : before.back.state.next_table ≤ s.files + 1 = omega (arith, e, up) in is

  -- ---- the file is lent

  module _ {W : Type 0} {k : _} (file : Lent W k) (d : Draws g bytes before after old new was now h l (Ok file)) where
    its_ruling : (fresh_ruling l h ≡ drawn_ruling l h) × (file.number ≡ l.next_table) × (l.next_table ≤ max_file_number)
    its_ruling = is_drawn l h serves.running file.number
        ((d.stands open_before (λ none. numbers)).answered (fresh.Drawn file.number) refl).0

    pub lent_number : file.number ≡ l.next_table
    lent_number = its_ruling.1

    pub lent_fits : l.next_table ≤ max_file_number
    lent_fits = its_ruling.2

    holds_drawn : IsTrue s.openable → Represents bytes after (g.told new) h (drawn l)
    holds_drawn openable =
        subst (λ (r : Ruling FreshAnswer). Represents bytes after (g.told new) r.history r.layout) its_ruling.0
        ((carried (Ok file) d openable).decides.answered (fresh.Drawn file.number) refl).1

    within : after.back.state.next_log ≤ after.back.next_log
    within = d.within (λ failed. failed) serves.within

    lent_serves : IsServing bytes (g.told new) after now (drawn_state 1 s)
    lent_serves = still_serves (drawn_state 1 s)
        (subst (λ (r : Ruling FreshAnswer). StandsOpen bytes after now r.history r.layout) its_ruling.0
        ((d.stands open_before (λ none. numbers)).answered (fresh.Drawn file.number) refl).1)
        holds_drawn serves.running
        (subst (λ (r : Ruling FreshAnswer). Fits (g.told new) after r.history r.layout) its_ruling.0
        ((d.fits serves.stands.fronts serves.fits).answered (fresh.Drawn file.number) refl).1)
        within

    module _ {T : Type 0} (ended : Result T Halt) (sound : HaltsByDisk ended → ⊥) where
      lent_disk : HoldsState g IsStored s old → DrawsOn g old new s 1 ended
      lent_disk held =
          let openable = held.there.2.openable in
          record {
            held = λ fine. record {
              calls = (carried (Ok file) d openable).called (fresh.Drawn file.number) refl
                  ∙ (ap (λ (r : Ruling FreshAnswer). after_calls r.calls (g.calls old)) its_ruling.0 ∙ ap (after_calls 1) held.calls);
              there = stored_by bytes after (g.told new) (drawn_state 1 s) h (drawn l) refl refl openable serves.running
                  (holds_drawn openable)
                  within
                  (let near = held.there.2.next_log in let is : (drawn l).next_log ≤ s.files + 1 + 1 = omega (arith, near) in is)
                  (let near = held.there.2.next_drawn in let is : l.next_table + 1 ≤ s.files + 1 + 1 = omega (arith, near) in is)
                  (numbered_one (Ok file) d held);
            };
            tells = (carried (Ok file) d openable).again serves.running;
            through = through (Ok file) d openable;
            passed = λ by. absurd (sound by);
            calls = λ by. absurd (sound by);
            stopped = λ by clean. absurd (sound by);
          }

      pub lent_came : Came g bytes old new after now s 1 ended
      lent_came = record { serves = λ fine. lent_serves; disk = lent_disk }

  -- ---- it is refused

  -- the disk was left alone
  module _ {W : Type 0} {k : _} (result : Result (Lent W k) StepFail) (d : Draws g bytes before after old new was now h l result)
      (quiet : FreshLeavesDisk result) (fine : StepFailed result → ⊥) {T : Type 0} (ended : Result T Halt)
      (sound : HaltsByDisk ended → ⊥) where
    left_came : StandsOpen bytes after now h l → (IsTrue s.openable → Represents bytes after (g.told new) h l)
        → Fits (g.told new) after h l → Came g bytes old new after now s 0 ended
    left_came open_so holds fits = record {
      serves = λ it. subst (λ (t : State). IsServing bytes (g.told new) after now t) (sym (drawn_none s))
          (still_serves s open_so holds serves.running fits (d.within fine serves.within));
      disk = λ held. let openable = held.there.2.openable in
          stays g watched old new s ended sound (d.untouched quiet) (through result d openable)
          ((carried result d openable).again serves.running) held;
    }

  -- no number is left
  module _ {W : Type 0} {k : _} (counter : Counter)
      (d : Draws {W = W} g bytes before after old new was now {k = k} h l (Err (fails.Exhausted counter))) where
    used_up : (fresh_ruling l h ≡ leaving (fresh.Exhausted counters.Table) h l) × (counter ≡ counters.Table)
        × (max_file_number < l.next_table)
    used_up = is_exhausted l h serves.running counter ((d.stands open_before (λ none. numbers)).answered (fresh.Exhausted counter) refl).0

    pub exhausted_is : counter ≡ counters.Table
    exhausted_is = used_up.1

    pub exhausted_past : max_file_number < l.next_table
    exhausted_past = used_up.2

    pub exhausted_came : Came g bytes old new after now s 0 (round_by (fails.Exhausted counter))
    exhausted_came = left_came (Err (fails.Exhausted counter)) d tt (λ failed. failed) (round_by (fails.Exhausted counter)) (λ by. by)
        (subst (λ (r : Ruling FreshAnswer). StandsOpen bytes after now r.history r.layout) used_up.0
        ((d.stands open_before (λ none. numbers)).answered (fresh.Exhausted counter) refl).1)
        (λ openable. subst (λ (r : Ruling FreshAnswer). Represents bytes after (g.told new) r.history r.layout) used_up.0
        ((d.carries (represented openable)).decides.answered (fresh.Exhausted counter) refl).1)
        (subst (λ (r : Ruling FreshAnswer). Fits (g.told new) after r.history r.layout) used_up.0
        ((d.fits serves.stands.fronts serves.fits).answered (fresh.Exhausted counter) refl).1)

  -- memory ran out
  module _ {W : Type 0} {k : _} (d : Draws {W = W} g bytes before after old new was now {k = k} h l (Err fails.NoMemory)) where
    pub short_came : Came g bytes old new after now s 0 (round_by fails.NoMemory)
    short_came = left_came (Err fails.NoMemory) d tt (λ failed. failed) (round_by fails.NoMemory) (λ by. by)
        ((d.stands open_before (λ none. numbers)).no_memory refl).0
        (λ openable. ((d.carries (represented openable)).decides.no_memory refl).0)
        ((d.fits serves.stands.fronts serves.fits).no_memory refl).0

  -- it was halted already, which it wasn't
  module _ {W : Type 0} {k : _} (name : Name)
      (d : Draws {W = W} g bytes before after old new was now {k = k} h l (Err (fails.Halted name))) where
    pub never_halted : ⊥
    never_halted = not_halted name d.core.0

  -- the disk failed
  module _ {W : Type 0} {k : _} (name : Name)
      (d : Draws {W = W} g bytes before after old new was now {k = k} h l (Err (fails.Disk name))) where
    failed_at : FailedAt (calls_on 1 (Table before.back.state.next_table)) (g.calls old) (g.calls new) name
    failed_at = d.stopped name refl

    its_place : (name ≡ Table before.back.state.next_table) × (length failed_at.front ≡ 0)
    its_place = one_at (Table before.back.state.next_table) name failed_at.front failed_at.back failed_at.files_are

    pub failed_name : name ≡ Table l.next_table
    failed_name = its_place.0 ∙ ap Table numbers.next_table

    pub failed_fits : l.next_table ≤ max_file_number
    failed_fits = subst (λ (n : ℕ). n ≤ max_file_number) numbers.next_table (d.failed tt).fits

    failed_calls : g.calls new ≡ after_calls 1 (g.calls old)
    failed_calls =
        let none = its_place.1 in
        let one : length failed_at.front + 1 ≡ 1 = omega (arith, none) in
        failed_at.calls ∙ ap (λ (n : ℕ). after_calls n (g.calls old)) one

    failed_stops : HoldsState g IsStored s old → (disk : DiskState) → g.told new ≡ Some disk → StopsStep Shown s s 0 disk
    failed_stops held disk told =
        let openable = held.there.2.openable in
        let near = held.there.2.next_log in
        let table = held.there.2.next_drawn in
        record {
          same = refl;
          left = shows_it (Err (fails.Disk name)) d openable disk told;
          files = s.files + 1;
          few = omega arith;
          numbered = numbered_one (Err (fails.Disk name)) d held disk told;
          next = λ image found left.
              let (log, given, head) = d.leaves disk (represented openable) serves.within tt told image found.opening left found.opens in
              record { log = omega (arith, log, near); table = omega (arith, given, table) };
          head = λ image found left.
              let (log, given, head) = d.leaves disk (represented openable) serves.within tt told image found.opening left found.opens in
              omega (arith, head, near);
          torn = fresh_torn g watched bytes before h l old new (represented openable) serves.running (d.meanwhile tt) disk told;
        }

    failed_disk : HoldsState g IsStored s old → DrawsOn g old new s 0 (round_by (fails.Disk name))
    failed_disk held =
        let openable = held.there.2.openable in
        let (disk, told, may) = (carried (Err (fails.Disk name)) d openable).again serves.running in
        record {
          held = λ fine. absurd (fine tt);
          tells = (carried (Err (fails.Disk name)) d openable).again serves.running;
          through = through (Err (fails.Disk name)) d openable;
          passed = λ by. record { mid = old; counted = held.calls; steady = refl; as_planned = λ stop past. past };
          calls = λ by. failed_calls ∙ ap (after_calls 1) held.calls;
          stopped = λ by clean. (disk, told, failed_stops held disk told);
        }

    pub failed_came : Came g bytes old new after now s 0 (round_by (fails.Disk name))
    failed_came = record { serves = λ fine. absurd (fine tt); disk = failed_disk }
