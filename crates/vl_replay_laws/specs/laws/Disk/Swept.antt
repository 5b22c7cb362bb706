-- What a sweep does to a disk that holds the state before it, by what the engine carried out.
use Rattle.std.proofs.Common.{◌≡◌, ◌⊎◌, ⊎_elim, inl, inr, ◌≤◌, ◌<◌, ◌+◌, ℕ, Bool, true, false, cond, List, [], ◌∷◌, ◌++◌, length, map}
use Rattle.std.proofs.Common.{refl, ap}
use Rattle.std.proofs.Common.{sym, ◌∙◌, subst, arith}
use Rattle.std.proofs.lemmas.List.Elements.{recursion_from_All}
use Rattle.std.specs.Prelude.{◌≢◌, Option, None, Some, Ok, Err, Result, OnOk}
use Rattle.std.specs.List.{AllByRecursion, filter}
use Rattle.vl_compact.specs.declared.files.Lent.{Lent}
use Rattle.vl_engine_laws.specs.MayStep.{LeavesNumbers}
use Rattle.vl_engine_laws.specs.Represents as engine
use Rattle.vl_engine_laws.specs.Represents.{file_of}
use Rattle.vl_engine_laws.specs.Shown.{Shown}
use Rattle.vl_engine_laws.specs.Carries.{Carries}
use Rattle.vl_engine_laws.specs.declared.kept.Core.{Core}
use Rattle.vl_disk.specs.Crash.{Image}
use Rattle.vl_disk.specs.DiskState.{DiskState}
use Rattle.vl_disk.specs.Faults.{after_calls}
use Rattle.vl_disk.specs.Name.{file_number}
use Rattle.vl_disk.specs.declared.name.Name.{Name as FileName}
use Rattle.vl_disk.specs.declared.name.Name.TheVariants.{Log, Manifest, Table}
use Rattle.vl_disk.specs.declared.watched.Watched.{Ghosts}
use Rattle.vl_disk.specs.declared.writer.Writer.{Ghosts as Writers}
use Rattle.vl_disk.specs.laws.NameMap.{same_or_other}
use Rattle.vl_space.specs.laws.Sweeps.Freed.{swept_are, swept_count}
use Rattle.vl_space.specs.Removing.{IsThere, IsWaiting, Removes, all_retired}
use Rattle.vl_space.specs.Sweeping.{KeepsAllBut, SweepCarries, SweepFailed, SweepsAs, gone_before, names_of, ready, sweep_effects}
use Rattle.vl_space.specs.Sweeping.{sweep_otherwise, sweep_outcome, up_to}
use Rattle.vl_space.specs.declared.fails.SweepFail.{SweepFail}
use Rattle.vl_space.specs.declared.fails.SweepFail.TheVariants as unswept
use Rattle.vl_engine_laws.specs.declared.open.OpenMerge.{OpenMerge}
use Rattle.vl_space.specs.declared.kept.Removing.{Removing}
use Rattle.vl_engine_model.specs.Decides.{Answered}
use Rattle.vl_engine_model.specs.Jobs.{lent_numbers, loose}
use Rattle.vl_engine_model.specs.Ruling.{Ruling}
use Rattle.vl_engine_model.specs.Rulings.Sweep as rulings
use Rattle.vl_engine_model.specs.Rulings.Sweep.{SweepAnswer, sweep_ruling, sweep_unless, swept}
use Rattle.vl_engine_model.specs.Stock.{IsDrawn, is_in}
use Rattle.vl_engine_model.specs.Store.Dispatch.{sweep_by}
use Rattle.vl_engine_model.specs.declared.file_name.Retired.{Retired}
use Rattle.vl_engine_model.specs.declared.layout.Layout.{Layout}
use Rattle.vl_mem.specs.laws.CrashChance.{IsTornByPieces}
use Rattle.vl_model.specs.History.{History, last_number}
use Rattle.vl_pins.specs.Files.{is_up_to}
use Rattle.vl_pins.specs.declared.retired_file.RetiredFile.{RetiredFile}
use Rattle.vl_recover.specs.crash.Alike.{IsLeft}
use Rattle.vl_script_model.specs.Between.{ShowsBetween}
use Rattle.vl_script_model.specs.Durable.{CarriesOut, CrashesShow, HoldsCommits, HoldsState, LeadsTo, StopsWithin}
use Rattle.vl_script_model.specs.Halts.{HaltsBeside, HaltsByRead}
use Rattle.vl_replay_laws.specs.Replaying.{StandsIn, state_by}
use Rattle.vl_replay_laws.specs.Standing.{sweep_answer}
use Rattle.vl_script_model.specs.Sequential.{State, history_of}
use Rattle.vl_script_model.specs.Stopped.{AreNumberedUpTo, StopsStep, step_failed}
use Rattle.vl_script_model.specs.Stored.{IsStopped, IsStored}
use Rattle.vl_script_model.specs.declared.fails.Halt.{Halt}
use Rattle.vl_script_model.specs.declared.fails.Halt.TheVariants as why
use Rattle.vl_replay_laws.specs.declared.open.Open.{Open}
use Rattle.vl_script.specs.declared.answer.Answer.{Answer}
use Rattle.vl_script_model.specs.laws.DiskSteps.{IsWatched}
use Rattle.vl_script_model.specs.laws.HeldDisk.{stored_by}
use Rattle.vl_replay_laws.specs.laws.Disk.Removals.{IsReady, stops_made, stops_named, stops_torn}
use Rattle.vl_replay_laws.specs.laws.Names.Serving.{represents}
use Rattle.vl_replay_laws.specs.laws.Names.SweepMaking.{SweepsOf, sweep_failed}

-- ---- lists

module _ {X : Type 0} where
  all_filtered : (P : X → Type 0) (p : X → Bool) (xs : List X) → AllByRecursion P xs → AllByRecursion P (filter p xs)
  all_filtered P p [] all = tt
  all_filtered P p (x ∷ xs) all = by (p x) all.0 (all_filtered P p xs all.1)
    where
      by : (b : Bool) → P x → AllByRecursion P (filter p xs) → AllByRecursion P (cond b (x ∷ filter p xs) (filter p xs))
      by true here rest = (here, rest)
      by false here rest = rest

  all_then : (P Q : X → Type 0) → ((x : X) → P x → Q x) → (xs : List X) → AllByRecursion P xs → AllByRecursion Q xs
  all_then P Q so [] all = tt
  all_then P Q so (x ∷ xs) all = (so x all.0, all_then P Q so xs all.1)

  all_behind : (P : X → Type 0) (xs ys : List X) → AllByRecursion P (xs ++ ys) → AllByRecursion P ys
  all_behind P [] ys all = all
  all_behind P (x ∷ xs) ys all = all_behind P xs ys all.1

-- a name is none of these, or has a number up to this one as each of them has
apart_or : (files : ℕ) (name : FileName) (names : List FileName) → AllByRecursion (λ (n : FileName). file_number n ≤ files) names
    → AllByRecursion (λ (other : FileName). name ≢ other) names ⊎ (file_number name ≤ files)
apart_or files name [] all = inl tt
apart_or files name (n ∷ ns) all = ⊎_elim
    (λ (same : name ≡ n). inr (subst (λ (m : FileName). file_number m ≤ files) (sym same) all.0))
    (λ (apart : name ≢ n). ⊎_elim
    (λ (others : AllByRecursion (λ (other : FileName). name ≢ other) ns). inl (apart, others))
    (λ (few : file_number name ≤ files). inr few)
    (apart_or files name ns all.1))
    (same_or_other name n)

-- ---- the files that wait

module _ {L : Type 0} (l : Layout) (trash : List (RetiredFile L)) (is : all_retired trash ≡ l.retired) (files : ℕ)
    (log_near : l.next_log ≤ files + 1) (table_near : l.next_table ≤ files + 1) where
  -- their numbers were given
  number_of : (name : FileName) → IsDrawn l.next_log l.next_table (file_of name) → file_number name ≤ files
  number_of (Log n) given = let near = log_near in let less : n < l.next_log = given in omega (arith, near, less)
  number_of (Table n) given = let near = table_near in let less : n < l.next_table = given in omega (arith, near, less)
  number_of (Manifest n) given = absurd given

  numbers_of : (fs : List (RetiredFile L)) → AllByRecursion (λ (r : Retired). IsDrawn l.next_log l.next_table r.file) (all_retired fs)
      → AllByRecursion (λ (file : RetiredFile L). file_number file.name ≤ files) fs
  numbers_of [] given = tt
  numbers_of (f ∷ fs) given = (number_of f.name given.0, numbers_of fs given.1)

  names_so : (fs : List (RetiredFile L)) → AllByRecursion (λ (file : RetiredFile L). file_number file.name ≤ files) fs
      → AllByRecursion (λ (n : FileName). file_number n ≤ files) (names_of fs)
  names_so [] all = tt
  names_so (f ∷ fs) all = (all.0, names_so fs all.1)

  pub ready_numbered : (bound : ℕ) → AllByRecursion (λ (r : Retired). IsDrawn l.next_log l.next_table r.file) l.retired
      → AllByRecursion (λ (n : FileName). file_number n ≤ files) (names_of (ready bound trash))
  ready_numbered bound given = names_so (ready bound trash)
      (all_filtered (λ (file : RetiredFile L). file_number file.name ≤ files) (is_up_to bound) trash
      (numbers_of trash (subst (AllByRecursion (λ (r : Retired). IsDrawn l.next_log l.next_table r.file)) (sym is) given)))

-- ---- over a disk that holds the state

module _ {D H R W : Type 0} (g : Ghosts D) (watched : IsWatched g) (w : Writers W) {k : Writers W} (bytes : H → Option (List ℕ))
    (before after : Core H) (old new : D) (kept kept' : Removing (Lent W k)) (os : List (Open H R)) (s : State)
    (stands : StandsIn bytes (g.told old) before os s) (removes : Removes before kept s.store.layout)
    (sweeps : SweepsOf s.store.layout (history_of s) (sweep_ruling s.store.layout (history_of s))) where
  abbrev h : History
  h = history_of s

  abbrev l : Layout
  l = s.store.layout

  abbrev r : Ruling SweepAnswer
  r = sweep_ruling s.store.layout (history_of s)

  -- the state behind it
  abbrev pub behind : State
  behind = state_by s (sweep_by s.store (sweep_ruling s.store.layout (history_of s)))

  abbrev pub bound : ℕ
  bound = up_to None before.back.epoch kept.pins

  abbrev pub going : List (RetiredFile (Lent W k))
  going = ready (up_to None before.back.epoch kept.pins) kept.stock.trash.items

  -- What the engine did, by its answer.
  pub record DidSweep (merging : Option OpenMerge) (result : Result ℕ SweepFail) : Type 0 where
    pub carries : engine.Represents bytes before (g.told old) h l
        → SweepCarries g bytes old new after h l None (up_to None before.back.epoch kept.pins) kept kept' result
    pub files : KeepsAllBut (names_of (ready (up_to None before.back.epoch kept.pins) kept.stock.trash.items))
        (g.told old) (g.told new)
    pub within : after.back.state.next_log ≤ after.back.next_log
    pub sound : HaltsByRead (sweep_answer result) → ⊥
    pub as_swept : SweepsAs g w (up_to None before.back.epoch kept.pins) old new before after kept kept' result
    pub there : before.front.halted ≡ None → IsThere g w old before merging kept.stock
    pub leaves : engine.Represents bytes before (g.told old) h l → SweepFailed result → (now : DiskState) → g.told new ≡ Some now
        → LeavesNumbers l.next_log l.next_table now

  trash_is : all_retired kept.stock.trash.items ≡ s.store.layout.retired
  trash_is = (removes.stock stands.running).trash

  -- those that go are those that the ruling removes
  going_are : swept None s.store.layout ≡ map (λ (file : RetiredFile (Lent W k)). file_of file.name) going
  going_are = swept_are s.store.layout kept.pins kept.stock.trash.items removes.pins trash_is (removes.stock stands.running).aged
      before.back.epoch stands.engine.fronts.version None

  ruled_calls : r.calls ≡ length going
  ruled_calls = ap (λ (o : Option _). (sweep_unless o None s.store.layout (history_of s)).calls) stands.running
      ∙ swept_count s.store.layout kept.pins kept.stock.trash.items removes.pins trash_is (removes.stock stands.running).aged
      before.back.epoch stands.engine.fronts.version None

  -- where it failed it was at one of them
  pub sweep_named : (result : Result ℕ SweepFail) (file : FileName)
      → SweepsAs g w (up_to None before.back.epoch kept.pins) old new before after kept kept' result
      → sweep_answer result ≡ Err (why.Disk file) → is_in (file_of file) (swept None s.store.layout) ≡ true
  sweep_named (Ok count) file did is = absurd cc
  sweep_named (Err (unswept.Halted name)) file did is = absurd cc
  sweep_named (Err (unswept.Disk name)) file did is =
      let same : name ≡ file = cc in
      subst (λ (n : FileName). is_in (file_of n) (swept None s.store.layout) ≡ true) same
      (ap (is_in (file_of name)) going_are ∙ stops_named g w going old new name did.2)

  module _ (held : HoldsState g IsStored s old) (merging : Option OpenMerge) (result : Result ℕ SweepFail)
      (did : DidSweep merging result) where
    represented : engine.Represents bytes before (g.told old) h l
    represented = represents bytes (g.told old) before os s stands held.there.2.openable

    carried : Carries g bytes old new after h l r (sweep_otherwise None l (gone_before kept kept')) (sweep_outcome result)
        (sweep_effects (up_to None before.back.epoch kept.pins) kept.stock.trash.items result)
    carried = did.carries represented

    log_near : l.next_log ≤ s.files + 1
    log_near = held.there.2.next_log

    table_near : l.next_table ≤ s.files + 1
    table_near = held.there.2.next_drawn

    given : AllByRecursion (λ (r : Retired). IsDrawn l.next_log l.next_table r.file) l.retired
    given = all_behind (λ (r : Retired). IsDrawn l.next_log l.next_table r.file) (loose (lent_numbers l.job)) l.retired
        stands.engine.tidy.files.stocked.retired_drawn

    numbered : (now : DiskState) → g.told new ≡ Some now → AreNumberedUpTo s.files now
    numbered now told = record {
      standing = λ other there. ⊎_elim
          (λ (apart : AllByRecursion (λ (n : FileName). other ≢ n) (names_of going)).
          held.there.2.numbered.standing other
          (λ none. there ((did.files held.there.0 now held.there.1 told other apart).0.1 none)))
          (λ (few : file_number other ≤ s.files). few)
          (apart_or s.files other (names_of going) all_numbered);
      removed = λ other there. ⊎_elim
          (λ (apart : AllByRecursion (λ (n : FileName). other ≢ n) (names_of going)).
          held.there.2.numbered.removed other
          (λ none. there ((did.files held.there.0 now held.there.1 told other apart).1.1 none)))
          (λ (few : file_number other ≤ s.files). few)
          (apart_or s.files other (names_of going) all_numbered);
    }
      where
        all_numbered : AllByRecursion (λ (n : FileName). file_number n ≤ s.files) (names_of going)
        all_numbered = ready_numbered l kept.stock.trash.items trash_is s.files log_near table_near
            (up_to None before.back.epoch kept.pins) given

    -- It was answered by the engine, and so is the line.
    holds_answered : (a : SweepAnswer) → sweep_outcome result ≡ Answered a → HoldsState g IsStored behind new
    holds_answered a is = record {
      calls = carried.called a is ∙ ap (after_calls r.calls) held.calls;
      there = stored_by bytes after (g.told new) behind r.history r.layout refl (sym sweeps.history) held.there.2.openable
          (sweeps.running stands.running) (carried.decides.answered a is).1 did.within
          (let near = log_near in let same = sweeps.next_log in omega (arith, near, same))
          (let near = table_near in let same = sweeps.next_table in omega (arith, near, same)) numbered;
    }

    -- what a crash leaves shows the history
    through : CrashesShow g Shown old new h h
    through = subst (λ (q : History). CrashesShow g Shown old new h q) sweeps.history (carried.through stands.running)

    shows_it : (now : DiskState) → g.told new ≡ Some now → (image : Image) → IsLeft now image → Shown image h (last_number h)
    shows_it now told image left = exactly (through.each now (watched.counts_now new now (g.moment old) told through.time.later) image left)
      where
        exactly : ShowsBetween Shown h h image → Shown image h (last_number h)
        exactly (m, low, high, shown) = let same : m ≡ last_number h = omega (arith, low, high) in subst (Shown image h) same shown

    -- ---- it failed

    module _ (name : FileName) (is : result ≡ Err (unswept.Disk name)) where
      as_stopped : SweepsAs g w (up_to None before.back.epoch kept.pins) old new before after kept kept'
          (Err (unswept.Disk name))
      as_stopped = subst (SweepsAs g w (up_to None before.back.epoch kept.pins) old new before after kept kept') is did.as_swept

      failed : SweepFailed result
      failed = subst SweepFailed (sym is) tt

      torn : (now : DiskState) → g.told new ≡ Some now → IsTornByPieces now
      torn now told =
          stops_torn g w going old new name as_stopped.2
          (all_then (IsWaiting g w old before.back.state.next_table) (IsReady g w)
          (λ file waiting lent some. (waiting.named lent some, (waiting.left lent some).tells held.there.0 held.there.1)) going
          (all_filtered (IsWaiting g w old before.back.state.next_table) (is_up_to (up_to None before.back.epoch kept.pins))
          kept.stock.trash.items
          (recursion_from_All (IsWaiting g w old before.back.state.next_table) kept.stock.trash.items (did.there as_stopped.0).waiting)))
          held.there.0 held.there.1 held.there.2.holds.durable now told

      stops_step : (now : DiskState) → g.told new ≡ Some now → StopsStep Shown s behind 0 now
      stops_step now told =
          let near = log_near in
          let table = table_near in
          record {
            same = refl;
            left = shows_it now told;
            files = s.files;
            few = omega arith;
            numbered = numbered now told;
            next = λ image found left.
                let (log, given, head) = did.leaves represented failed now told image found.opening left found.opens in
                record { log = omega (arith, log, near); table = omega (arith, given, table) };
            head = λ image found left.
                let (log, given, head) = did.leaves represented failed now told image found.opening left found.opens in
                omega (arith, head, near);
            torn = torn now told;
          }

      stops_within : StopsWithin g IsStopped s behind old new
      unfolding stops_step
      stops_within =
          let (now, told, may) = carried.again stands.running in
          let (made, most, some, calls) = stops_made g w going old new name as_stopped.2 in
          record {
            passed = 0;
            has_passed = record { mid = old; counted = held.calls; steady = refl; as_planned = λ stop fails. fails };
            all = length going;
            more = omega (arith, some);
            all_counted = ap (λ (n : ℕ). after_calls n s.calls) ruled_calls;
            made = made;
            least = omega arith;
            most = most;
            calls = calls ∙ ap (after_calls made) held.calls;
            now = now;
            told = told;
            stopped = step_failed (stops_step now told) (omega arith);
          }

  module _ (held : HoldsState g IsStored s old) (merging : Option OpenMerge) where
    answered_of : (result : Result ℕ SweepFail) → DidSweep merging result → OnOk (sweep_answer result) (HoldsState g IsStored behind new)
    answered_of (Ok count) did = holds_answered held merging (Ok count) did (rulings.Removed count) refl
    answered_of (Err (unswept.Disk name)) did = tt
    answered_of (Err (unswept.Halted name)) did = tt

    short_of : (result : Result ℕ SweepFail) → DidSweep merging result → HaltsBeside (sweep_answer result)
        → HoldsCommits g IsStored s behind new
    short_of (Ok count) did by = absurd by
    short_of (Err (unswept.Disk name)) did by = absurd by
    short_of (Err (unswept.Halted name)) did by = absurd (did.sound by)

    failed_at : (result : Result ℕ SweepFail) → SweepFailed result → (name : FileName) × (result ≡ Err (unswept.Disk name))
    failed_at (Ok count) failed = absurd failed
    failed_at (Err (unswept.Disk name)) failed = (name, refl)
    failed_at (Err (unswept.Halted name)) failed = absurd failed

  -- A sweep is carried out so.
  pub sweep_carries : (merging : Option OpenMerge) (done : Result ℕ SweepFail) → DidSweep merging done → (result : Result Answer Halt)
      → result ≡ sweep_answer done → CarriesOut g IsStored Shown IsStopped old new s behind result
  sweep_carries merging done did result is held =
      subst (λ (x : Result Answer Halt). LeadsTo g IsStored Shown IsStopped old new s behind x) (sym is) (record {
        answered = answered_of held merging done did;
        short = short_of held merging done did;
        tells = (carried held merging done did).again stands.running;
        through = through held merging done did;
        stopped = λ halts clean. (let (name, at) = failed_at held merging done (sweep_failed done halts) in
            stops_within held merging done did name at);
      })
