-- What making and lending the file of a merge's next table leaves, in memory and on the disk.
use Rattle.std.specs.Prelude.{◌≡◌, ◌≢◌, ◌⊎◌, ◌≤◌, ◌<◌, ℕ, ◌+◌, true, false, if◌then◌else◌, List, [], ◌∷◌, ◌++◌}
use Rattle.std.specs.Prelude.{Option, None, Some, unwrap_or, refl}
use Rattle.std.specs.FinMap.{get}
use Rattle.std.specs.Option.{option_map}
use Rattle.std.proofs.Common.{sym, ap, subst, ◌∙◌, arith, inl, inr, ⊎_elim}
use Rattle.std.proofs.lemmas.Bool.{cases_lt}
use Rattle.std.proofs.lemmas.Bool.Decides.{nat_tests}
use Rattle.vl_disk.specs.Changes.{SameElsewhere, created_elsewhere, created_there, without_elsewhere, without_removed}
use Rattle.vl_disk.specs.Crash.{WhileCreating, WhileRemoving, last_file}
use Rattle.vl_disk.specs.Disk.{IsChangedBy}
use Rattle.vl_disk.specs.DiskState.{DiskState, File, created, new_file, without}
use Rattle.vl_disk.specs.Faults.{after_calls}
use Rattle.vl_disk.specs.Moments.{While, goes_by}
use Rattle.vl_disk.specs.Name.{IsNumbered}
use Rattle.vl_disk.specs.declared.name.Name.TheVariants as names
use Rattle.vl_disk.specs.declared.name.Name.{Name}
use Rattle.vl_disk.specs.declared.watched.Watched.{Ghosts}
use Rattle.vl_engine_laws.specs.laws.Carrying.{IsWatched, looked}
use Rattle.vl_steps.specs.laws.Committing.{decides_answered, decides_failed}
use Rattle.vl_engine_laws.specs.laws.FlushKeeps.{as_many}
use Rattle.vl_steps.specs.laws.FlushSteps.{fronts_unflushed}
use Rattle.vl_steps.specs.laws.Leaving.{base_numbers, manifest_held}
use Rattle.vl_engine_laws.specs.laws.Represented.{represents_halted}
use Rattle.vl_engine_laws.specs.laws.Standing.{stands_halted}
use Rattle.vl_engine_laws.specs.Carries.{Carries, CrashesShow, Tells}
use Rattle.vl_steps.specs.Drawing.{IsDrawn, IsLentMore, IsSameMerge, WhileLent, WritesFresh, drawn_core, lent_new}
use Rattle.vl_engine_laws.specs.Held.{AreBegun, Base}
use Rattle.vl_engine_laws.specs.Lent.{Opens}
use Rattle.vl_engine_laws.specs.Pointed.{layout_logs}
use Rattle.vl_engine_laws.specs.Represents.{Fronts, IsHeld, Represents, StandsFor, file_of}
use Rattle.vl_engine_laws.specs.Shown.{LeavesBetween}
use Rattle.vl_engine_laws.specs.MayStep.{Fits, LeavesNumbers, MayStep}
use Rattle.vl_engine_laws.specs.declared.kept.Core.{Core}
use Rattle.vl_engine_laws.specs.declared.open.OpenMerge.{OpenMerge}
use Rattle.vl_engine_laws.specs.laws.AsideLaws.{base_aside, fronts_aside, holds_aside, stands_aside}
use Rattle.vl_engine_laws.specs.laws.HeldLaws.{held_opens_again}
use Rattle.vl_engine_laws.specs.laws.InstallBeside.{base_beside, creating_leaves, creating_opens_again, lending_leaves}
use Rattle.vl_engine_laws.specs.laws.InstallBeside.{lending_opens_again, lent_holds, tables_below}
use Rattle.vl_engine_laws.specs.laws.KeptLaws.{AreOtherTables, nothing_elsewhere}
use Rattle.vl_engine_model.specs.Decides.{Answered, Effects, Failed, as_before, no_effects}
use Rattle.vl_engine_model.specs.Ruling.{Ruling, halted_at, has_no_number, leaving}
use Rattle.vl_engine_model.specs.Rulings.Fresh as ruling
use Rattle.vl_engine_model.specs.Rulings.Fresh.{Drawn, FreshAnswer, drawn, fresh_ruling, fresh_unless, lent_to}
use Rattle.vl_engine_model.specs.Sources.{tables}
use Rattle.vl_engine_model.specs.Tidy.{IsTidy}
use Rattle.vl_engine_model.specs.declared.file_name.FileName.{FileName}
use Rattle.vl_engine_model.specs.declared.job.OpenJob.{OpenJob}
use Rattle.vl_engine_model.specs.declared.layout.Layout.{Layout}
use Rattle.vl_engine_model_laws.specs.laws.TidySteps.{tidy_drawn}
use Rattle.vl_manifest.specs.declared.state.ManifestState.{ManifestState}
use Rattle.vl_model.specs.History.{History}
use Rattle.vl_model.specs.Limits.{max_file_number}
use Rattle.vl_model.specs.declared.counter.Counter.TheVariants as counter
use Rattle.vl_recover.specs.crash.Starts.{MayOpen}
use Rattle.vl_recover.specs.laws.crash.OneName.{elsewhere_then}
use Rattle.vl_recover.specs.laws.opening.HeldLaws.{held_state}

-- ---- the ruling

-- where a file's number is drawn
abbrev pub drawn_ruling : Layout → History → Ruling FreshAnswer
drawn_ruling l h = record { answer = Drawn l.next_table; history = h; layout = drawn l; calls = 1; gone = [] }

module _ {H : Type 0} (core : Core H) (h : History) (l : Layout) (is : Fronts core h l) where
  pub is_halted : (name : Name) → core.front.halted ≡ Some name → leaving (ruling.Halted (file_of name)) h l ≡ fresh_ruling l h
  is_halted name halted =
      ap (λ (o : Option FileName). fresh_unless o l h) (sym (ap (option_map file_of) halted) ∙ is.halted)

  pub runs : core.front.halted ≡ None → l.halted ≡ None
  runs halted = sym is.halted ∙ ap (option_map file_of) halted

  module _ (running : core.front.halted ≡ None) (next : core.back.state.next_table ≡ l.next_table) where
    by_number : (if has_no_number l.next_table 1 then leaving (ruling.Exhausted counter.Table) h l else drawn_ruling l h)
        ≡ fresh_ruling l h
    by_number = ap (λ (o : Option FileName). fresh_unless o l h) (sym (runs running))

    pub is_exhausted : max_file_number < core.back.state.next_table → leaving (ruling.Exhausted counter.Table) h l ≡ fresh_ruling l h
    is_exhausted above =
        let none : has_no_number l.next_table 1 ≡ true = (let high = subst (λ (n : ℕ). max_file_number < n) next above in
        grind (arith, nat_tests, high)) in
        ap (λ b. if b then leaving (ruling.Exhausted counter.Table) h l else drawn_ruling l h) (sym none) ∙ by_number

    pub is_drawn : core.back.state.next_table ≤ max_file_number → drawn_ruling l h ≡ fresh_ruling l h
    is_drawn below =
        let some : has_no_number l.next_table 1 ≡ false = (let low = subst (λ (n : ℕ). n ≤ max_file_number) next below in
        grind (arith, nat_tests, low)) in
        ap (λ b. if b then leaving (ruling.Exhausted counter.Table) h l else drawn_ruling l h) (sym some) ∙ by_number

-- ---- the merge that is open

same_one : {A : Type 0} (a b : A) → Some a ≡ Some b → a ≡ b
same_one a b e = cc

pub opens_same : (was now : Option OpenMerge) (o : Option OpenJob) → IsSameMerge was now → Opens was o → Opens now o
opens_same None now o same opens = absurd (let is = same.was_open in cc)
opens_same (Some m) now None same opens = absurd opens
opens_same (Some m) now (Some j) same opens =
    let is = same_one m same.merge same.was_open in
    subst (λ (p : Option OpenMerge). Opens p (Some j)) (sym same.is_open) (record {
      lent = same.lent ∙ ap (λ (x : OpenMerge). x.lent.items) (sym is) ∙ opens.lent;
      moved = same.moved ∙ ap (λ (x : OpenMerge). x.moved.items) (sym is) ∙ opens.moved;
    })

pub opens_more : (was now : Option OpenMerge) (o : Option OpenJob) (number n : ℕ) → number ≡ n → IsLentMore was now number
    → Opens was o → Opens now (lent_to n o)
opens_more None now o number n numbered more opens = absurd (let is = more.was_open in cc)
opens_more (Some m) now None number n numbered more opens = absurd opens
opens_more (Some m) now (Some j) number n numbered more opens =
    let is = same_one m more.merge more.was_open in
    subst (λ (p : Option OpenMerge). Opens p (lent_to n (Some j))) (sym more.is_open) (record {
      lent = more.lent ∙ ap (λ (x : OpenMerge). x.lent.items ++ number ∷ []) (sym is)
          ∙ ap (λ (ns : List ℕ). ns ++ number ∷ []) opens.lent ∙ ap (λ (k : ℕ). j.lent ++ k ∷ []) numbered;
      moved = more.moved ∙ ap (λ (x : OpenMerge). x.moved.items) (sym is) ∙ opens.moved;
    })

-- ---- in memory

module _ {H : Type 0} (before : Core H) (h : History) (l : Layout) where
  pub fronts_drawn : (after : Core H) → after ≡ drawn_core before → Fronts before h l → Fronts after h (drawn l)
  fronts_drawn after core is = subst (λ (c : Core H). Fronts c h (drawn l)) (sym core)
      (fronts_aside (lent_to l.next_table l.job) l.retired (l.next_table + 1) h l before (drawn_core before) refl refl refl refl is)

  pub fronts_undrawn : (name : Name) (after : Core H) → after ≡ record before { front = record before.front { halted = Some name } }
      → Fronts before h l → Fronts after h (halted_at (file_of name) l)
  fronts_undrawn name after core is = fronts_unflushed before after h l name (ap (λ (c : Core H). c.front) core)
      (ap (λ (c : Core H). c.back.epoch) core) (as_many (ap (λ (c : Core H). c.back.state) core)) is

  module _ (bytes : H → Option (List ℕ)) (is : StandsFor bytes before h l) where
    pub stands_drawn : (after : Core H) → after ≡ drawn_core before → StandsFor bytes after h (drawn l)
    stands_drawn after core = stands_aside (lent_to l.next_table l.job) l.retired (l.next_table + 1) h l bytes before after
        (ap (λ (c : Core H). c.version) core) (fronts_drawn after core is.fronts) (tidy_drawn (layout_logs l) l h is.tidy) is

    pub stands_undrawn : (name : Name) (after : Core H)
        → after ≡ record before { front = record before.front { halted = Some name } }
        → StandsFor bytes after h (halted_at (file_of name) l)
    stands_undrawn name after core = stands_halted bytes before after h l is (ap (λ (c : Core H). c.version) core) name
        (fronts_undrawn name after core is.fronts)

-- ---- the disk

-- it changes under the table's name alone,
lent_elsewhere : (name : Name) (disk : DiskState) → SameElsewhere name disk (lent_new name disk)
lent_elsewhere name disk = elsewhere_then name disk (created name disk) (lent_new name disk) (created_elsewhere name disk)
    (without_elsewhere name (created name disk))

-- and then the table was begun.
begun_then : (from to : ℕ) (disk : DiskState) → AreBegun from to disk → AreBegun from (to + 1) (lent_new (names.Table to) disk)
begun_then from to disk begun n least less nowhere = by (cases_lt n to)
  where
    name : Name
    name = names.Table to

    gone : get (lent_new name disk).removed name ≡ Some new_file
    gone = without_removed name (created name disk)
        ∙ ap (λ (o : Option File). last_file o (get (created name disk).removed name)) (created_there name disk)

    apart : n < to → names.Table n ≢ names.Table to
    apart low e = let is : n ≡ to = cc in omega (arith, low, is)

    some_none : (f : File) → Some f ≡ None → ⊥
    some_none f e = cc

    by : (n < to) ⊎ (to ≤ n) → ⊥
    by (inl low) = begun n least low (record {
      free = sym ((lent_elsewhere name disk).standing (names.Table n) (apart low)) ∙ nowhere.free;
      never = sym ((lent_elsewhere name disk).removed (names.Table n) (apart low)) ∙ nowhere.never;
    })
    by (inr high) =
        let is : n ≡ to = omega (arith, high, less) in
        some_none new_file (sym gone ∙ ap (λ (k : ℕ). get (lent_new name disk).removed (names.Table k)) (sym is) ∙ nowhere.never)

module _ {D H : Type 0} (g : Ghosts D) (watched : IsWatched g) (bytes : H → Option (List ℕ)) (before after : Core H) (h : History)
    (l : Layout) (old new : D) (is : Represents bytes before (g.told old) h l) (running : l.halted ≡ None)
    (first : 1 ≤ before.back.state.next_table) (fits : before.back.state.next_table ≤ max_file_number)
    (writes : WritesFresh g before old new) where
  held : IsHeld before.back (g.told old) h l
  held = is.held running

  abbrev b : Base
  b = held.base

  abbrev n : ℕ
  n = before.back.state.next_table

  abbrev name : Name
  name = names.Table n

  abbrev tidy : IsTidy (layout_logs l) l h
  tidy = is.stands.tidy

  pub number_is : before.back.state.next_table ≡ l.next_table
  number_is = ap (λ (s : ManifestState). s.next_table) held.back_is.state

  apart : AreOtherTables (names.Table n) (tables l)
  apart = subst (λ (k : ℕ). AreOtherTables (names.Table k) (tables l)) (sym number_is)
      (tables_below l.next_table (tables l) tidy.files.stocked.tables_drawn)

  numbered : IsNumbered (names.Table n)
  numbered = (first, fits)

  told_mid : g.told writes.mid ≡ Some held.state
  told_mid = writes.before.told ∙ held.told_is

  leaves_lending : (now : DiskState) → WhileLent name held.state now → LeavesBetween h h now
  leaves_lending now during = ⊎_elim
      (λ (making : WhileCreating name held.state now).
      creating_leaves b l h held.state n held.is_base tidy held.holds apart numbered now making)
      (λ (lending : WhileRemoving name (created name held.state) now).
      lending_leaves b l h held.state n held.is_base tidy held.holds apart numbered now lending)
      during

  may_open_lending : (now : DiskState) → WhileLent name held.state now → MayOpen now
  may_open_lending now during = ⊎_elim
      (λ (making : WhileCreating name held.state now).
      creating_opens_again b l h held.state n held.is_base tidy held.holds apart numbered now making)
      (λ (lending : WhileRemoving name (created name held.state) now).
      lending_opens_again b l h held.state n held.is_base tidy held.holds apart numbered now lending)
      during

  -- What a crash leaves meanwhile shows the history,
  goes_so : CrashesShow g old new h h
  goes_so = goes_by g (LeavesBetween h h) old writes.mid new held.state (WhileLent name) told_mid
      (looked g watched h l tidy before.back old writes.mid ⊥ writes.before held) writes.time leaves_lending

  -- and a store may be opened on the disk.
  now_may_open : (now : DiskState) → g.told new ≡ Some now → MayOpen now
  now_may_open now told = ⊎_elim
      (λ (early : g.states_since writes.mid (g.moment writes.mid) now).
      subst MayOpen (sym (watched.only_now writes.mid held.state now told_mid early))
      (held_opens_again b l h held.is_base held.state tidy.levels held.holds))
      (λ (during : While (g.told writes.mid) (WhileLent name) now). may_open_lending now (during held.state told_mid))
      (writes.time.nothing_else (g.moment writes.mid) now (omega arith)
      (watched.counts_now new now (g.moment writes.mid) told writes.time.later))

  opens_then : Tells g new MayOpen
  opens_then = let (now, told) = writes.tells held.state told_mid in (now, told, now_may_open now told)

  -- ---- what numbers a crash leaves

  -- the files but that of the table are as they were,
  same_elsewhere : (now : DiskState) → WhileLent name held.state now → SameElsewhere name held.state now
  same_elsewhere now during = ⊎_elim
      (λ (making : WhileCreating name held.state now). ⊎_elim
      (λ (is : now ≡ held.state). subst (SameElsewhere name held.state) (sym is) (nothing_elsewhere name held.state))
      (λ (is : now ≡ created name held.state).
      subst (SameElsewhere name held.state) (sym is) (created_elsewhere name held.state))
      making)
      (λ (lending : WhileRemoving name (created name held.state) now). ⊎_elim
      (λ (is : now ≡ created name held.state).
      subst (SameElsewhere name held.state) (sym is) (created_elsewhere name held.state))
      (λ (is : now ≡ without name (created name held.state)).
      subst (SameElsewhere name held.state) (sym is) (lent_elsewhere name held.state))
      lending)
      during

  now_elsewhere : (now : DiskState) → g.told new ≡ Some now → SameElsewhere name held.state now
  now_elsewhere now told = ⊎_elim
      (λ (early : g.states_since writes.mid (g.moment writes.mid) now).
      subst (SameElsewhere name held.state) (sym (watched.only_now writes.mid held.state now told_mid early))
      (nothing_elsewhere name held.state))
      (λ (during : While (g.told writes.mid) (WhileLent name) now). same_elsewhere now (during held.state told_mid))
      (writes.time.nothing_else (g.moment writes.mid) now (omega arith)
      (watched.counts_now new now (g.moment writes.mid) told writes.time.later))

  -- so that what is left opens with the state that was held, which gives no number above the next ones
  pub leaves_numbers : before.back.state.next_log ≤ before.back.next_log → (now : DiskState) → g.told new ≡ Some now
      → LeavesNumbers l.next_log l.next_table now
  leaves_numbers within now told image o left opens =
      let same = held_state b.state now (manifest_held b l h held.is_base now (base_beside b l h held.state n held.is_base tidy
      held.holds apart now (now_elsewhere now told))) image o left.left opens in
      let (log, table, head) = base_numbers before.back b l h held.is_base tidy held.state held.holds held.back_is within o same in
      let given = ap (λ (s : ManifestState). s.next_table) same in
      let low = held.back_is.next_table in
      (log, omega (arith, given, low), head)

  -- ---- it failed

  pub carries_undrawn : (effects : Effects) → after ≡ record before { front = record before.front { halted = Some name } }
      → Carries g bytes old new after h l (drawn_ruling l h) (as_before l l) (Failed (file_of name)) effects
  carries_undrawn effects core = record {
    decides = decides_failed (Represents bytes after (g.told new)) h l (drawn_ruling l h) l (file_of name) effects running
        (represents_halted bytes after (g.told new) h l name (stands_undrawn before h l bytes is.stands name after core));
    called = λ a said. absurd cc;
    through = λ _. goes_so;
    again = λ _. opens_then;
  }

  -- ---- it was done

  module _ (changed : IsChangedBy (lent_new (names.Table before.back.state.next_table)) (g.told writes.mid) (g.told new))
      (core : after ≡ drawn_core before) where
    then : DiskState
    then = lent_new name held.state

    told_then : g.told new ≡ Some (lent_new name held.state)
    told_then = changed ∙ ap (option_map (lent_new name)) told_mid

    state_then : (drawn_core before).back.state ≡ record b.state { next_table = l.next_table + 1 }
    state_then = ap (λ (s : ManifestState). record s { next_table = s.next_table + 1 }) held.back_is.state

    held_then : IsHeld (drawn_core before).back (g.told new) h (drawn l)
    held_then = record {
      state = lent_new name held.state;
      told_is = told_then;
      base = b;
      is_base = base_aside (lent_to l.next_table l.job) l.retired (l.next_table + 1) h l b held.is_base;
      back_is = record {
        manifest = held.back_is.manifest;
        state = state_then;
        next_log = held.back_is.next_log;
        next_table = let low = held.back_is.next_table in omega (arith, low);
        waiting = held.back_is.waiting;
      };
      holds = holds_aside (lent_to l.next_table l.job) l.retired (l.next_table + 1) h l b (lent_new name held.state)
          (lent_holds b l h held.state n held.is_base tidy held.holds apart numbered);
      begun = subst (λ (k : ℕ). AreBegun b.state.next_table (k + 1) (lent_new (names.Table n) held.state)) number_is
          (begun_then b.state.next_table n held.state
          (subst (λ (k : ℕ). AreBegun b.state.next_table k held.state) (sym number_is) held.begun));
    }

    represents_then : Represents bytes after (g.told new) h (drawn l)
    represents_then = record {
      stands = stands_drawn before h l bytes is.stands after core;
      held = λ _. subst (λ (c : Core H). IsHeld c.back (g.told new) h (drawn l)) (sym core) held_then;
    }

    pub carries_drawn : (number : ℕ) → number ≡ before.back.state.next_table
        → Carries g bytes old new after h l (drawn_ruling l h) (as_before l l) (Answered (Drawn number))
        (record no_effects { calls = 1 })
    carries_drawn number numbered_so = record {
      decides = decides_answered (Represents bytes after (g.told new)) h l (drawn_ruling l h) (as_before l l) (Drawn number)
          (record no_effects { calls = 1 }) (ap Drawn (numbered_so ∙ number_is)) refl represents_then;
      called = λ a said. writes.calls ∙ ap (after_calls 1) writes.before.calls;
      through = λ _. goes_so;
      again = λ _. opens_then;
    }

-- ---- what steps ask

same_file_at : (number m : ℕ) (disk : DiskState)
    → unwrap_or (get (lent_new (names.Table number) disk).standing (names.Log m)) new_file
    ≡ unwrap_or (get disk.standing (names.Log m)) new_file
same_file_at number m disk =
    ap (λ (o : Option File). unwrap_or o new_file) ((lent_elsewhere (names.Table number) disk).standing (names.Log m) apart)
  where
    apart : names.Log m ≢ names.Table number
    apart e = cc

pub fits_drawn : {D H : Type 0} (g : Ghosts D) (before after : Core H) (h : History) (l : Layout) (old new : D)
    → IsDrawn g old new before after → Fits (g.told old) before h l → Fits (g.told new) after h (drawn l)
fits_drawn {D} {H} g before after h l old new did fits = record {
  running = λ running.
      let may = fits.running running in
      subst (λ (c : Core H). MayStep (g.told new) c.back h (drawn l)) (sym did.core) (record {
        numbers = record {
          next_log = may.numbers.next_log;
          next_table = ap (λ (k : ℕ). k + 1) may.numbers.next_table;
          waiting = may.numbers.waiting;
        };
        files = may.files;
        covers = may.covers;
        state = lent_new (names.Table before.back.state.next_table) may.state;
        told_is = did.changed
            ∙ ap (option_map (lent_new (names.Table before.back.state.next_table))) (did.writes.before.told ∙ may.told_is);
        active = ap (λ (f : File). f.bytes) (same_file_at before.back.state.next_table l.active.number may.state) ∙ may.active;
      });
}
