-- What a sweep comes to, over each disk and over one that holds the layout.
use Rattle.std.specs.Prelude.{◌≡◌, ◌≢◌, ◌≤◌, ℕ, List, [], ◌∷◌, length, Option, None, Some, Result, Ok, Err, IfOk, OnOk}
use Rattle.std.specs.Prelude.{is_some, true}
use Rattle.std.specs.Prelude.{refl, unwrap_or}
use Rattle.std.specs.List.{AllByRecursion}
use Rattle.std.specs.Option.{ForSome, option_map}
use Rattle.std.proofs.Common.{sym, subst, ap, ◌∙◌, arith, append-nil}
use Rattle.std.proofs.lemmas.List.Elements.{recursion_from_All}
use Rattle.vl_back.specs.declared.back.Back.{Back}
use Rattle.vl_compact.specs.declared.files.Lent.{Lent}
use Rattle.vl_engine_laws.specs.Carries.{CrashesShow, StaysUntold, Tells}
use Rattle.vl_engine_laws.specs.MayStep.{Fits, LeavesNumbers}
use Rattle.vl_engine_laws.specs.Represents.{IsHeld, Represents, StandsFor, file_of}
use Rattle.vl_engine_laws.specs.declared.kept.Core.{Core}
use Rattle.vl_engine_laws.specs.laws.AsideLaws.{held_aside}
use Rattle.vl_engine_laws.specs.laws.Carrying.{IsWatched, rests}
use Rattle.vl_engine_laws.specs.laws.HeldLaws.{held_opens_again}
use Rattle.vl_engine_laws.specs.laws.Represented.{represents_halted}
use Rattle.vl_disk.specs.Calls.{ChangesNothing}
use Rattle.vl_disk.specs.Crash.{Unchanged}
use Rattle.vl_disk.specs.DiskState.{DiskState, File, IsLawful, new_file}
use Rattle.vl_disk.specs.Faults.{HasCause, after_calls}
use Rattle.vl_disk.specs.Moments.{While, passes_none, past_of}
use Rattle.vl_disk.specs.declared.name.Name.{Name}
use Rattle.vl_disk.specs.declared.name.Name.TheVariants as names
use Rattle.vl_disk.specs.declared.watched.Watched.{Ghosts}
use Rattle.vl_disk.specs.declared.writer.Writer.{Ghosts as Writers}
use Rattle.vl_steps.specs.laws.Leaving.{base_numbers}
use Rattle.vl_steps.specs.laws.Stepped.{fits_halted}
use Rattle.vl_space.specs.laws.Sweeps.Freed.{all_filtered, all_then, ready_retired}
use Rattle.vl_space.specs.laws.Sweeps.Going.{Tell, all_calls, all_free, all_kept, all_told, all_untold, stops_kept, stops_untold}
use Rattle.vl_space.specs.laws.Sweeps.Going.{tell_mid, tell_parts}
use Rattle.vl_engine.proofs.Sweeps.Holding.{AreFit, Kept, MayLose, all_keep, fails_opens, fails_shows, fails_state}
use Rattle.vl_space.specs.laws.Sweeps.Outside.{all_may_go, all_unneeded, names_apart, waiting_not_active}
use Rattle.vl_engine.proofs.Sweeps.Standing.{Leaves, count_is, leaves_collects, leaves_open, leaves_removes, leaves_stands, running}
use Rattle.vl_engine.proofs.Sweeps.Standing.{sweeps_for}
use Rattle.vl_space.specs.Collecting.{Collects}
use Rattle.vl_engine_laws.specs.Lent.{StandsOpen}
use Rattle.vl_space.specs.Removing.{IsThere, IsWaiting, Removes, all_retired}
use Rattle.vl_space.specs.Sweeping.{AreFree, KeepsAllBut, RemovesAll, StopsRemoving, SweepCarries, SweepFailed, SweepLeavesDisk}
use Rattle.vl_space.specs.Sweeping.{At, Sweeps, SweepsAs}
use Rattle.vl_space.specs.Sweeping.{gone_before, names_of, ready, sweep_outcome, up_to}
use Rattle.vl_space.specs.declared.fails.SweepFail.TheVariants as fails
use Rattle.vl_space.specs.declared.fails.SweepFail.{SweepFail}
use Rattle.vl_engine_laws.specs.declared.open.OpenMerge.{OpenMerge}
use Rattle.vl_space.specs.declared.kept.Removing.{Removing}
use Rattle.vl_space.specs.laws.SweepHolds.{MayGo}
use Rattle.vl_engine_model.specs.Decides.{Answered}
use Rattle.vl_engine_model.specs.Rulings.Sweep.{SweepAnswer, sweep_lost, sweep_unless, swept, without_files}
use Rattle.vl_engine_model.specs.Stock.{AreOnce, files_of}
use Rattle.vl_engine_model.specs.declared.file_name.FileName.{FileName}
use Rattle.vl_engine_model.specs.declared.file_name.Retired.{Retired}
use Rattle.vl_engine_model.specs.declared.layout.Layout.{Layout}
use Rattle.vl_manifest.specs.declared.state.ManifestState.{ManifestState}
use Rattle.vl_model.specs.History.{History}
use Rattle.vl_pins.specs.declared.retired_file.RetiredFile.{RetiredFile}
use Rattle.vl_version.specs.declared.version.Version.{Version}
use Rattle.vl_recover.specs.crash.Starts.{MayOpen}
use Rattle.vl_engine_model_laws.specs.laws.Once.{once_filtered}

module _ {D W : Type 0} (g : Ghosts D) (w : Writers W) {s : _} {H : Type 0} (core after : Core H) (before now : Removing (Lent W s))
    (old new : D) (merging : Option OpenMerge) (there : core.front.halted ≡ None → IsThere g w old core merging before.stock)
    (least : Option ℕ) where
  abbrev bound : ℕ
  bound = up_to least core.back.epoch before.pins

  abbrev files : List (RetiredFile (Lent W s))
  files = ready (up_to least core.back.epoch before.pins) before.stock.trash.items

  waits : core.front.halted ≡ None → AllByRecursion (IsWaiting g w old core.back.state.next_table) files
  waits runs = all_filtered (IsWaiting g w old core.back.state.next_table) _ before.stock.trash.items
      (recursion_from_All (IsWaiting g w old core.back.state.next_table) before.stock.trash.items (there runs).waiting)

  tell : core.front.halted ≡ None → Tell g w old files
  tell runs = all_then (IsWaiting g w old core.back.state.next_table)
      (λ (file : RetiredFile (Lent W s)). ForSome file.lent
      (λ (lent : Lent W s). ForSome (g.told old) (λ _. is_some (w.file lent.writer) ≡ true)))
      (λ file waiting lent some. (waiting.left lent some).tells) files (waits runs)

  -- ---- whatever the disk tells

  nothing_kept : new ≡ old → KeepsAllBut (names_of files) (g.told old) (g.told new)
  nothing_kept same before_state now_state was is name apart = all_kept g w {s = s} [] old new tt same before_state now_state was is name tt

  pub stays_untold : (result : Result ℕ SweepFail) → SweepsAs g w bound old new core after before now result
      → StaysUntold (g.told old) (g.told new)
  stays_untold (Ok count) did = all_untold g w files old new (tell did.0) did.2.removes
  stays_untold (Err (fails.Halted name)) did = λ none. ap g.told did.2 ∙ none
  stays_untold (Err (fails.Disk name)) did = stops_untold g w files old new name did.2 (tell did.0)

  pub are_gone : (result : Result ℕ SweepFail) → SweepsAs g w bound old new core after before now result
      → OnOk result (ForSome (g.told new) (AreFree (names_of files)))
  are_gone (Ok count) did = all_free g w files old new (tell did.0) did.2.removes
  are_gone (Err (fails.Halted name)) did = tt
  are_gone (Err (fails.Disk name)) did = tt

  pub others_kept : (result : Result ℕ SweepFail) → SweepsAs g w bound old new core after before now result
      → KeepsAllBut (names_of files) (g.told old) (g.told new)
  others_kept (Ok count) did = all_kept g w files old new (tell did.0) did.2.removes
  others_kept (Err (fails.Halted name)) did = nothing_kept did.2
  others_kept (Err (fails.Disk name)) did = stops_kept g w files old new name did.2 (tell did.0)

  pub are_called : (result : Result ℕ SweepFail) → SweepsAs g w bound old new core after before now result
      → IfOk result (λ count. g.calls new ≡ after_calls count (g.calls old))
  are_called (Ok count) did = all_calls g w files old new did.2.removes ∙ ap (λ (n : ℕ). after_calls n (g.calls old)) (sym did.2.counted)
  are_called (Err (fails.Halted name)) did = tt
  are_called (Err (fails.Disk name)) did = tt

  nothing_changed : new ≡ old → ChangesNothing g old new ⊥
  nothing_changed same = subst (λ (d : D). ChangesNothing g old d ⊥) (sym same) (record {
    told = refl;
    calls = refl;
    time = passes_none (past_of g old) (While (g.told old) Unchanged);
    cause = record { later = omega arith; rose = λ never. absurd never; steady = λ fine. refl };
  })

  none_went : (fs : List (RetiredFile (Lent W s))) → length fs ≡ 0 → RemovesAll g w fs old new → new ≡ old
  none_went [] none all = all
  none_went (f ∷ fs) none all = absurd (omega (arith, none))

  pub stays_untouched : (result : Result ℕ SweepFail) → SweepsAs g w bound old new core after before now result
      → SweepLeavesDisk result → ChangesNothing g old new ⊥
  stays_untouched (Ok count) did none = nothing_changed (none_went files (sym did.2.counted ∙ none) did.2.removes)
  stays_untouched (Err (fails.Halted name)) did fine = nothing_changed did.2
  stays_untouched (Err (fails.Disk name)) did never = absurd never

  -- ---- what steps ask

  module _ (bytes : H → Option (List ℕ)) (h : History) (l : Layout) (is : StandsFor bytes core h l)
      (removes : Removes core before l) where
    not_active : l.halted ≡ None → AllByRecursion (λ (file : RetiredFile (Lent W s)). names.Log l.active.number ≢ file.name) files
    not_active runs = all_filtered (λ (file : RetiredFile (Lent W s)). names.Log l.active.number ≢ file.name) _ before.stock.trash.items
        (waiting_not_active l before.stock.trash.items (removes.stock runs).trash (all_unneeded l is.tidy.files))

    pub leaves_fits : Fits (g.told old) core h l → (result : Result ℕ SweepFail) → SweepsAs g w bound old new core after before now result
        → Leaves (Fits (g.told new) after) h l least (gone_before before now) result
    leaves_fits fits (Ok count) did = subst (λ (c : Core H). Fits (g.told new) c h (without_files (swept least l) l)) (sym did.1) (record {
      running = λ runs. let may = fits.running runs in
          let told = all_told g w files old new (tell did.0) did.2.removes (names.Log l.active.number) (not_active runs) may.state
          may.told_is in
          record {
            numbers = record { next_log = may.numbers.next_log; next_table = may.numbers.next_table; waiting = may.numbers.waiting };
            files = may.files;
            covers = may.covers;
            state = told.0;
            told_is = told.1;
            active = ap (λ (o : Option File). (unwrap_or o new_file).bytes) told.2 ∙ may.active;
          };
    })
    leaves_fits fits (Err (fails.Halted name)) did =
        subst (λ (c : Core H). Fits (g.told new) c h l) (sym did.1) (subst (λ (d : D). Fits (g.told d) core h l) (sym did.2) fits)
    leaves_fits fits (Err (fails.Disk name)) did =
        fits_halted (g.told new) after h (sweep_lost least l (gone_before before now)) (file_of name)

  -- ---- a disk that holds the layout

  module _ (watched : IsWatched g) (lawful : (disk : D) (state : DiskState) → g.told disk ≡ Some state → IsLawful state)
      (bytes : H → Option (List ℕ)) (h : History) (l : Layout) (is : Represents bytes core (g.told old) h l)
      (removes : Removes core before l) where
    runs_of : core.front.halted ≡ None → l.halted ≡ None
    runs_of none = running g w old new bytes core after before now h l is.stands removes least none

    module _ (none : core.front.halted ≡ None) where
      held : IsHeld core.back (g.told old) h l
      held = is.held (runs_of none)

      start : Kept g watched lawful held.base l h is.stands.tidy old old
      start = record {
        base = held.base;
        like = record { is_base = held.is_base; manifest = refl; state = refl };
        state = held.state;
        told = held.told_is;
        holds = held.holds;
        begun = held.begun;
        shows = rests g watched h l is.stands.tidy core.back old held;
      }

      may_go : AllByRecursion (λ (file : RetiredFile (Lent W s)). MayGo held.base l file.name) files
      may_go = all_filtered (λ (file : RetiredFile (Lent W s)). MayGo held.base l file.name) _ before.stock.trash.items
          (all_may_go g w old core.back.state.next_table held.base l h held.is_base held.state held.told_is held.holds is.stands.tidy.files
          before.stock.trash.items (removes.stock (runs_of none)).trash
          (recursion_from_All (IsWaiting g w old core.back.state.next_table) before.stock.trash.items (there none).waiting))

      named : AllByRecursion (λ (file : RetiredFile (Lent W s)). ForSome file.lent
          (λ (lent : Lent W s). file.name ≡ names.Table lent.number)) files
      named = all_then (IsWaiting g w old core.back.state.next_table)
          (λ (file : RetiredFile (Lent W s)). ForSome file.lent (λ (lent : Lent W s). file.name ≡ names.Table lent.number))
          (λ file waiting. waiting.named) files (waits none)

      once : AreOnce (files_of (all_retired files))
      once = subst (λ (rs : List Retired). AreOnce (files_of rs))
          (sym (ready_retired l before.pins before.stock.trash.items removes.pins (removes.stock (runs_of none)).trash
          (removes.stock (runs_of none)).aged core.back.epoch is.stands.fronts.version least))
          (once_filtered _ l.retired is.stands.tidy.files.once)

      all_fit : (fs : List (RetiredFile (Lent W s))) → AllByRecursion (λ (file : RetiredFile (Lent W s)). MayGo held.base l file.name) fs
          → AllByRecursion (λ (file : RetiredFile (Lent W s)). ForSome file.lent
          (λ (lent : Lent W s). file.name ≡ names.Table lent.number)) fs → AreOnce (files_of (all_retired fs))
          → AreFit g watched lawful held.base l h is.stands.tidy old w held.base fs
      unfolding held
      all_fit [] may lent distinct = tt
      all_fit (f ∷ fs) may lent distinct =
          (may.0, lent.0, names_apart f.name fs distinct.0, all_fit fs may.1 lent.1 distinct.1)

      all_went : RemovesAll g w files old new → Kept g watched lawful held.base l h is.stands.tidy old new
      unfolding start held
      all_went all = (all_keep g watched lawful held.base l h is.stands.tidy old w files [] old new (record {
        kept = start;
        fit = subst (λ (fs : List (RetiredFile (Lent W s))). AreFit g watched lawful held.base l h is.stands.tidy old w held.base fs)
            (sym (append-nil files)) (all_fit files may_go named once);
      }) (tell none) all).kept

      module _ (name : Name) (stops : StopsRemoving g w files old new name) where
        mid_lose : MayLose g watched lawful held.base l h is.stands.tidy old w stops.mid (stops.at ∷ stops.behind)
        unfolding start held
        mid_lose = all_keep g watched lawful held.base l h is.stands.tidy old w stops.before (stops.at ∷ stops.behind) old stops.mid
            (record {
              kept = start;
              fit = subst (λ (fs : List (RetiredFile (Lent W s))). AreFit g watched lawful held.base l h is.stands.tidy old w held.base fs)
                  stops.files_are (all_fit files may_go named once);
            }) (tell_parts g w files old new name stops (tell none)).0 stops.went

        stop_shows : CrashesShow g old new h h
        stop_shows = fails_shows g watched lawful held.base l h is.stands.tidy old w stops.at stops.mid mid_lose.kept mid_lose.fit.0
            (tell_mid g w files old new name stops (tell none)).0 mid_lose.fit.1 new stops.failed stops.stops

        stop_opens : Tells g new MayOpen
        stop_opens = fails_opens g watched lawful held.base l h is.stands.tidy old w stops.at stops.mid mid_lose.kept mid_lose.fit.0
            (tell_mid g w files old new name stops (tell none)).0 mid_lose.fit.1 new stops.failed stops.stops

        stop_leaves : core.back.state.next_log ≤ core.back.next_log → (state : DiskState) → g.told new ≡ Some state
            → LeavesNumbers l.next_log l.next_table state
        stop_leaves within state told image o left opens =
            let same = fails_state g watched lawful held.base l h is.stands.tidy old w stops.at stops.mid mid_lose.kept mid_lose.fit.0
            (tell_mid g w files old new name stops (tell none)).0 mid_lose.fit.1 new stops.failed stops.stops state told image o left.left
            opens in
            let (log, table, head) = base_numbers core.back held.base l h held.is_base is.stands.tidy held.state held.holds held.back_is
            within o same in
            let given = ap (λ (x : ManifestState). x.next_table) same in
            let least_table = held.back_is.next_table in
            (log, omega (arith, given, least_table), head)

    pub leaves_numbers : (result : Result ℕ SweepFail) → SweepsAs g w bound old new core after before now result → SweepFailed result
        → core.back.state.next_log ≤ core.back.next_log → (state : DiskState) → g.told new ≡ Some state
        → LeavesNumbers l.next_log l.next_table state
    leaves_numbers (Ok count) did never = absurd never
    leaves_numbers (Err (fails.Halted name)) did never = absurd never
    leaves_numbers (Err (fails.Disk name)) did failed = stop_leaves did.0 name did.2

    -- what it represents
    represents : (result : Result ℕ SweepFail) → SweepsAs g w bound old new core after before now result
        → Leaves (Represents bytes after (g.told new)) h l least (gone_before before now) result
    represents (Ok count) did = subst (λ (c : Core H). Represents bytes c (g.told new) h (without_files (swept least l) l)) (sym did.1)
        (record {
          stands = subst (λ (c : Core H). StandsFor bytes c h (without_files (swept least l) l)) did.1
              (leaves_stands g w old new bytes core after before now h l is.stands removes least (Ok count) did);
          held = λ runs. let kept = all_went did.0 did.2.removes in let was = held did.0 in
              held_aside l.job (without_files (swept least l) l).retired h l core.back (g.told new) (record {
                state = kept.state;
                told_is = kept.told;
                base = kept.base;
                is_base = kept.like.is_base;
                back_is = record {
                  manifest = was.back_is.manifest ∙ sym kept.like.manifest;
                  state = was.back_is.state
                      ∙ ap (λ (x : ManifestState). record x { next_table = l.next_table }) (sym kept.like.state);
                  next_log = was.back_is.next_log;
                  next_table = subst (λ (x : ManifestState). x.next_table ≤ l.next_table) (sym kept.like.state) was.back_is.next_table;
                  waiting = was.back_is.waiting;
                };
                holds = kept.holds;
                begun = kept.begun;
              });
        })
    represents (Err (fails.Halted name)) did = subst (λ (c : Core H). Represents bytes c (g.told new) h l) (sym did.1)
        (subst (λ (d : D). Represents bytes core (g.told d) h l) (sym did.2) is)
    represents (Err (fails.Disk name)) did = represents_halted bytes after (g.told new) h (sweep_lost least l (gone_before before now)) name
        (leaves_stands g w old new bytes core after before now h l is.stands removes least (Err (fails.Disk name)) did)

    shows : (result : Result ℕ SweepFail) → SweepsAs g w bound old new core after before now result → l.halted ≡ None
        → CrashesShow g old new h h
    shows (Ok count) did runs = (all_went did.0 did.2.removes).shows
    shows (Err (fails.Halted name)) did runs =
        absurd (never (sym (is.stands.fronts.halted) ∙ ap (option_map file_of) did.0) runs)
      where
        never : l.halted ≡ Some (file_of name) → l.halted ≡ None → ⊥
        never a b = cc
    shows (Err (fails.Disk name)) did runs = stop_shows did.0 name did.2

    opens : (result : Result ℕ SweepFail) → SweepsAs g w bound old new core after before now result → l.halted ≡ None
        → Tells g new MayOpen
    opens (Ok count) did runs = let kept = all_went did.0 did.2.removes in
        (kept.state, kept.told, held_opens_again kept.base l h kept.like.is_base kept.state is.stands.tidy.levels kept.holds)
    opens (Err (fails.Halted name)) did runs =
        absurd (never (sym (is.stands.fronts.halted) ∙ ap (option_map file_of) did.0) runs)
      where
        never : l.halted ≡ Some (file_of name) → l.halted ≡ None → ⊥
        never a b = cc
    opens (Err (fails.Disk name)) did runs = stop_opens did.0 name did.2

    called : (result : Result ℕ SweepFail) → SweepsAs g w bound old new core after before now result → (a : SweepAnswer)
        → sweep_outcome result ≡ Answered a → g.calls new ≡ after_calls (sweep_unless l.halted least l h).calls (g.calls old)
    called (Ok count) did a said = let runs = runs_of did.0 in all_calls g w files old new did.2.removes
        ∙ ap (λ (n : ℕ). after_calls n (g.calls old))
        (sym (count_is g w old new bytes core after before now h l is.stands removes least runs))
        ∙ ap (λ (o : Option FileName). after_calls (sweep_unless o least l h).calls (g.calls old)) (sym runs)
    called (Err (fails.Halted name)) did a said =
        let halted = sym is.stands.fronts.halted ∙ ap (option_map file_of) did.0 in
        ap g.calls did.2 ∙ ap (λ (o : Option FileName). after_calls (sweep_unless o least l h).calls (g.calls old)) (sym halted)
    called (Err (fails.Disk name)) did a said = absurd cc

    pub sweep_carries : (result : Result ℕ SweepFail) → SweepsAs g w bound old new core after before now result
        → SweepCarries g bytes old new after h l least bound before now result
    sweep_carries result did = record {
      decides = sweeps_for g w old new bytes core after before now h l is.stands removes least (Represents bytes after (g.told new))
          result did (represents result did);
      called = called result did;
      through = λ runs. subst (λ (o : Option FileName). CrashesShow g old new h (sweep_unless o least l h).history) (sym runs)
          (shows result did runs);
      again = opens result did;
    }

-- ---- all of it

module _ {D W : Type 0} (g : Ghosts D) (w : Writers W) {s : _} {H : Type 0} (old new : At D H (Lent W s))
    (there : old.core.front.halted ≡ None → IsThere g w old.disk old.core old.merging old.removing.stock) (least : Option ℕ)
    (watched : IsWatched g) (lawful : (disk : D) (state : DiskState) → g.told disk ≡ Some state → IsLawful state)
    (bytes : H → Option (List ℕ)) where
  abbrev Did : Result ℕ SweepFail → Type 0
  Did result = SweepsAs g w (up_to least old.core.back.epoch old.removing.pins) old.disk new.disk old.core new.core
      old.removing new.removing result

  same_back : (result : Result ℕ SweepFail) → Did result → new.core.back ≡ old.core.back
  same_back (Ok count) did = ap (λ (c : Core H). c.back) did.1
  same_back (Err (fails.Halted name)) did = ap (λ (c : Core H). c.back) did.1
  same_back (Err (fails.Disk name)) did = ap (λ (c : Core H). c.back) did.1

  same_version : (result : Result ℕ SweepFail) → Did result → new.core.version ≡ old.core.version
  same_version (Ok count) did = ap (λ (c : Core H). c.version) did.1
  same_version (Err (fails.Halted name)) did = ap (λ (c : Core H). c.version) did.1
  same_version (Err (fails.Disk name)) did = ap (λ (c : Core H). c.version) did.1

  pub sweeps : (result : Result ℕ SweepFail) → Did result → HasCause (g.faults old.disk) (g.faults new.disk) (SweepFailed result)
      → new.merging ≡ old.merging → new.collecting ≡ old.collecting → Sweeps g w bytes least old new result
  sweeps result did cause merging collecting = record {
    stands = λ h l is removes. sweeps_for g w old.disk new.disk bytes old.core new.core old.removing new.removing h l is.stands removes
        least (StandsOpen bytes new.core new.merging) result did
        (leaves_open g w old.disk new.disk bytes old.core new.core old.removing new.removing h l is.stands removes least old.merging
        new.merging merging is.opens result
        (leaves_stands g w old.disk new.disk bytes old.core new.core old.removing new.removing h l is.stands removes least result did));
    carries = λ h l is removes. sweep_carries g w old.core new.core old.removing new.removing old.disk new.disk old.merging there least
        watched lawful bytes h l is removes result did;
    fits = λ h l fits is removes. sweeps_for g w old.disk new.disk bytes old.core new.core old.removing new.removing h l is removes least
        (Fits (g.told new.disk) new.core) result did
        (leaves_fits g w old.core new.core old.removing new.removing old.disk new.disk old.merging there least bytes h l is removes fits
        result did);
    removes = λ h l is removes. sweeps_for g w old.disk new.disk bytes old.core new.core old.removing new.removing h l is removes least
        (λ _ k. Removes new.core new.removing k) result did
        (leaves_removes g w old.disk new.disk bytes old.core new.core old.removing new.removing h l is removes least result did);
    collects = λ h l is removes has. sweeps_for g w old.disk new.disk bytes old.core new.core old.removing new.removing h l is removes
        least (λ _ k. Collects new.core new.collecting k) result did
        (leaves_collects g w old.disk new.disk bytes old.core new.core old.removing new.removing h l is removes least old.collecting
        new.collecting collecting has result did);
    as_swept = did;
    gone = are_gone g w old.core new.core old.removing new.removing old.disk new.disk old.merging there least result did;
    files = others_kept g w old.core new.core old.removing new.removing old.disk new.disk old.merging there least result did;
    calls = are_called g w old.core new.core old.removing new.removing old.disk new.disk old.merging there least result did;
    untouched = stays_untouched g w old.core new.core old.removing new.removing old.disk new.disk old.merging there least result did;
    untold = stays_untold g w old.core new.core old.removing new.removing old.disk new.disk old.merging there least result did;
    cause = cause;
    leaves = λ h l now is removes within failed told. leaves_numbers g w old.core new.core old.removing new.removing old.disk new.disk
        old.merging there least watched lawful bytes h l is removes result did failed within now told;
    within = λ within. subst (λ (b : Back). b.state.next_log ≤ b.next_log) (sym (same_back result did)) within;
    merging = merging;
    collecting = collecting;
    logs = ap (λ (v : Version H). v.behind.logs) (same_version result did);
  }
