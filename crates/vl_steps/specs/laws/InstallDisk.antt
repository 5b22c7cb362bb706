-- What an install carries out over a disk that holds the engine's layout, where its tables were put in and where that failed; and
-- that steps on files find what they ask behind it.
use Rattle.std.specs.Prelude.{◌≡◌, ◌^◌, ◌-◌, ℕ, ◌+◌, ◌++◌, List, [], ◌∷◌, length, map, min, take, drop, Option, None}
use Rattle.std.specs.Prelude.{Some, IsSome, Result, Ok, Err, unwrap_or, refl}
use Rattle.std.specs.FinMap.{get}
use Rattle.std.specs.List.{AllByRecursion, AllZip}
use Rattle.std.specs.Option.{option_map}
use Rattle.std.proofs.Common.{sym, ap, subst, ◌∙◌, append-nil, append_assoc, arith, ⊎_elim}
use Rattle.vl_back.specs.InstallStaging.{replacing_of}
use Rattle.vl_back.specs.declared.back.Back.{Back}
use Rattle.vl_compact.specs.Progress.{IsTableFile, made_of}
use Rattle.vl_compact.specs.declared.files.Synced.{Synced}
use Rattle.vl_compact.specs.declared.job.Job.{Job}
use Rattle.vl_compact.specs.declared.ready.ReadyLevels.{ReadyLevels}
use Rattle.vl_disk.specs.Calls.{ChangesNothing}
use Rattle.vl_disk.specs.DiskState.{DiskState, File, new_file}
use Rattle.vl_disk.specs.Faults.{after_calls}
use Rattle.vl_disk.specs.Lending.{adopted}
use Rattle.vl_disk.specs.Moments.{While, goes_by}
use Rattle.vl_disk.specs.declared.errors.Failed.{Failed}
use Rattle.vl_disk.specs.declared.name.Name.TheVariants as names
use Rattle.vl_disk.specs.declared.name.Name.{Name}
use Rattle.vl_disk.specs.declared.watched.Watched.{Ghosts}
use Rattle.vl_disk.specs.declared.writer.Writer.{Ghosts as Writers}
use Rattle.vl_disk.specs.laws.NameMap.{get_inserted_other}
use Rattle.vl_engine_laws.specs.laws.Carrying.{IsWatched}
use Rattle.vl_steps.specs.laws.Committing.{decides_answered, decides_failed}
use Rattle.vl_steps.specs.laws.FlushSteps.{same_log}
use Rattle.vl_engine_laws.specs.laws.InstallDiskEdits.{install_next}
use Rattle.vl_steps.specs.laws.InstallDiskStaged.{apart, b, can, frame_is, held, holds_made, state_is, with_made}
use Rattle.vl_steps.specs.laws.InstallDiskTables.{tables_front, zip_front}
use Rattle.vl_steps.specs.laws.InstallDiskTaken.{goes_taken, opens_taken, taken, told_taken}
use Rattle.vl_engine_laws.specs.laws.Represented.{represents_halted}
use Rattle.vl_steps.specs.laws.Stepped.{fits_halted}
use Rattle.vl_steps.specs.laws.TakenFiles.{AreTold, tables_of}
use Rattle.vl_engine_laws.specs.Carries.{Carries, CrashesShow}
use Rattle.vl_engine_laws.specs.Files.{HoldsLog, IsLogFile}
use Rattle.vl_engine_laws.specs.Held.{Base, Holds}
use Rattle.vl_steps.specs.Installing.{IsBackInstalled, IsHandedIn, IsInstalled, IsReadyFor, IsUninstalled}
use Rattle.vl_steps.specs.Installing.{StopsSwitching, install_otherwise}
use Rattle.vl_steps.specs.Merging.{HasAllMerge}
use Rattle.vl_engine_laws.specs.Represents.{IsHeld, Represents, StandsFor, file_of}
use Rattle.vl_engine_laws.specs.Shown.{LeavesBetween}
use Rattle.vl_engine_laws.specs.MayStep.{AreLogFiles, Fits, MayStep}
use Rattle.vl_steps.specs.Taking.{StopsTaking, Takes, TakesBack, file_of_table, with_files}
use Rattle.vl_steps.specs.declared.install.ReadyInstall.{ReadyInstall}
use Rattle.vl_engine_laws.specs.declared.kept.Core.{Core}
use Rattle.vl_engine_laws.specs.declared.open.OpenMerge.{OpenMerge}
use Rattle.vl_engine_laws.specs.laws.FileLaws.{all_each, all_front}
use Rattle.vl_engine_laws.specs.laws.HeldLaws.{held_opens_again, sources_held}
use Rattle.vl_steps.specs.laws.InstallApplies.{edits_of}
use Rattle.vl_steps.specs.laws.InstallBase.{base_then, later}
use Rattle.vl_steps.specs.laws.InstallLaws.{final, install_holds, install_leaves, install_opens_again}
use Rattle.vl_engine_laws.specs.laws.InstallRulings.{GoesOn, install_made, install_made_so}
use Rattle.vl_engine_laws.specs.laws.InstallTaken.{IsApart}
use Rattle.vl_engine_laws.specs.laws.KeptLaws.{log_manifest, log_table, none_drawn, written_elsewhere}
use Rattle.vl_engine_laws.specs.laws.SwitchLaws.{switch_frame}
use Rattle.vl_engine_model.specs.Decides.{Answered, Decides, Failed as Fails, no_effects}
use Rattle.vl_engine_model.specs.Jobs.{AreLent, job_ended}
use Rattle.vl_engine_model.specs.Merging.{outputs}
use Rattle.vl_engine_model.specs.Ruling.{Ruling, halted_at}
use Rattle.vl_engine_model.specs.Rulings.Install.{InstallAnswer, Installed, install_ruling, installed}
use Rattle.vl_engine_model.specs.Sources.{tables}
use Rattle.vl_engine_model.specs.Start.{newest_first}
use Rattle.vl_engine_model.specs.declared.job.OpenJob.{OpenJob}
use Rattle.vl_engine_model.specs.declared.layout.Layout.{Layout}
use Rattle.vl_engine_model.specs.declared.segment.Segment.{Segment}
use Rattle.vl_manifest.specs.Switching.{Switches, WhileSwitching, switched}
use Rattle.vl_manifest.specs.declared.manifest_log.ManifestLog.{ManifestLog}
use Rattle.vl_manifest.specs.declared.state.ManifestState.{ManifestState}
use Rattle.vl_manifest.specs.declared.waiting.Waiting.{Waiting}
use Rattle.vl_model.specs.History.{History}
use Rattle.vl_model.specs.declared.entry.Entry.{Entry}
use Rattle.vl_recover.specs.crash.Held.{HoldsLogs}
use Rattle.vl_recover.specs.crash.Starts.{MayOpen}
use Rattle.vl_recover.specs.opening.HeldFiles.{AreWaiting}
use Rattle.vl_table.specs.Tables.{number_of}
use Rattle.vl_version.specs.declared.base.Base as version_base

-- ---- logs

-- The logs of a layout that a disk holds can be spelled.
pub files_held : (back : Back) (told : Option DiskState) (h : History) (l : Layout) → IsHeld back told h l → AreLogFiles l
files_held back told h l held = (
  active held.base.before held.base.state.head held.holds.files.logs,
  all_each (HoldsLog held.state) IsLogFile l.frozen (λ x holds. holds.is)
      (all_front (HoldsLog held.state) l.frozen l.flushed
      (sources_held held.base l h held.is_base held.state held.holds.files).sealed),
)
  where
    active : (ss : List Segment) (least : ℕ) → HoldsLogs least (ss ++ l.active ∷ []) held.state → IsLogFile l.active
    active [] least (from, between, readable, have, stands, rest) = record { readable = readable; have = have }
    active (x ∷ ss) least (from, between, readable, have, stands, rest) = active ss (x.number + 1) rest

-- ---- on the disk

module _ {D H R W : Type 0} (g : Ghosts D) (watched : IsWatched g) (bytes : H → Option (List ℕ)) (w : Writers W) {s : _}
    (job : Job (version_base.Base H R) H W s) (merging : Option OpenMerge) (before after : Core H) (old new : D)
    (handed : IsHandedIn g w old before.front.halted merging job) (none : before.front.halted ≡ None) (h : History) (l : Layout)
    (o : OpenJob) (is : Represents bytes before (g.told old) h l) (goes : GoesOn l o) (has : HasAllMerge w bytes job o.job)
    (lent : AreLent o.lent (made_of job o.job)) where
  module _ (ready : ReadyInstall H) (is_ready : IsReadyFor bytes w before job ready) (begun : D)
      (quiet : ChangesNothing g old begun ⊥) where
    abbrev holding : IsHeld before.back (g.told old) h l
    holding = held bytes w job before (g.told old) h l o is goes has lent ready is_ready

    abbrev outs : List (List Entry)
    outs = outputs o.job

    -- the job's writers tell their files
    tells : AreTold w job.made.items
    tells = handed.tells none holding.state holding.told_is

    abbrev made_apart : AllByRecursion (IsApart (tables l)) (tables_of w job.made.items outs)
    made_apart = apart bytes w job before (g.told old) h l o is goes has lent ready is_ready

    -- ---- it stopped at a table

    module _ (ts left : List (Synced W s)) (made_are : job.made.items ≡ ts ++ left) (takes : Takes g w ts begun new) where
      some_zip : AllZip (IsTableFile w) (ts ++ left) outs
      some_zip = subst (λ (us : List (Synced W s)). AllZip (IsTableFile w) us outs) made_are has.made

      front_zip : AllZip (IsTableFile w) ts (take (length ts) outs)
      front_zip = zip_front w ts left outs some_zip

      front_told : AreTold w ts
      front_told = all_front (λ (t : Synced W s). IsSome (w.file t.writer)) ts left (subst (AreTold w) made_are tells)

      front_apart : AllByRecursion (IsApart (tables l)) (tables_of w ts (take (length ts) outs))
      front_apart = all_front (IsApart (tables l)) (tables_of w ts (take (length ts) outs)) (tables_of w left (drop (length ts) outs))
          (subst (AllByRecursion (IsApart (tables l))) (tables_front w ts left outs some_zip)
          (subst (λ (us : List (Synced W s)). AllByRecursion (IsApart (tables l)) (tables_of w us outs)) made_are made_apart))

      goes_front : CrashesShow g old new h h
      goes_front = goes_taken g watched w before.back h l is.stands.tidy old begun new holding quiet ts (take (length ts) outs) front_zip
          front_told front_apart takes

      now_front : (now : DiskState) × (g.told new ≡ Some now) × MayOpen now
      now_front = (
        taken g watched w before.back h l is.stands.tidy old begun new holding quiet ts (take (length ts) outs) front_zip front_told
            front_apart takes,
        told_taken g watched w before.back h l is.stands.tidy old begun new holding quiet ts (take (length ts) outs) front_zip
            front_told front_apart takes,
        opens_taken g watched w before.back h l is.stands.tidy old begun new holding quiet ts (take (length ts) outs) front_zip
            front_told front_apart takes,
      )

    -- ---- the manifest was appended to

    module _ (mid : D) (levels levels_then : ReadyLevels H) (took : TakesBack g bytes w job.made.items [] begun mid levels levels_then)
        (result : Result (Unit {0}) Failed)
        (switches : Switches g before.back.manifest.number ready.staged.edits.frame.items mid new result) where
      takes_all : Takes g w job.made.items begun mid
      takes_all = subst (λ (ts : List (Synced W s)). Takes g w ts begun mid) (sym (took.made_are ∙ append-nil took.front)) took.takes

      abbrev base : Base
      base = b bytes w job before (g.told old) h l o is goes has lent ready is_ready

      -- the disk with the tables
      abbrev beside : DiskState
      beside = with_made bytes w job before (g.told old) h l o is goes has lent ready is_ready

      abbrev holds : Holds base l beside
      holds = holds_made bytes w job before (g.told old) h l o is goes has lent ready is_ready

      told_mid : g.told mid ≡ Some beside
      told_mid = told_taken g watched w before.back h l is.stands.tidy old begun mid holding quiet job.made.items outs has.made tells
          made_apart takes_all

      goes_mid : CrashesShow g old mid h h
      goes_mid = goes_taken g watched w before.back h l is.stands.tidy old begun mid holding quiet job.made.items outs has.made tells
          made_apart takes_all

      manifest_is : before.back.manifest.number ≡ base.manifest.number
      manifest_is = ap (λ (x : ManifestLog). x.number) holding.back_is.manifest

      abbrev piece : List ℕ
      piece = switch_frame base (edits_of base l o.job (made_of job o.job))

      piece_is : ready.staged.edits.frame.items ≡ piece
      piece_is = frame_is bytes w job before (g.told old) h l o is goes has lent ready is_ready

      -- what is written is the layout's switch
      as_laid_out : (now : DiskState) → WhileSwitching before.back.manifest.number ready.staged.edits.frame.items beside now
          → WhileSwitching base.manifest.number piece beside now
      as_laid_out now during =
          subst (λ (frame : List ℕ). WhileSwitching base.manifest.number frame beside now) piece_is
          (subst (λ (n : ℕ). WhileSwitching n ready.staged.edits.frame.items beside now) manifest_is during)

      -- What a crash leaves meanwhile shows the history,
      goes_so : CrashesShow g old new h h
      goes_so =
          goes_by g (LeavesBetween h h) old mid new beside
          (WhileSwitching before.back.manifest.number ready.staged.edits.frame.items) told_mid goes_mid switches.performs.time
          (λ now during. install_leaves base l h o (made_of job o.job) beside holding.is_base is.stands.tidy holds
          (can bytes w job before (g.told old) h l o is goes has lent ready is_ready) now (as_laid_out now during))

      -- and a store may be opened on the disk.
      now_may_open : (now : DiskState) → g.told new ≡ Some now → MayOpen now
      now_may_open now told = ⊎_elim
          (λ (early : g.states_since mid (g.moment mid) now).
          subst MayOpen (sym (watched.only_now mid beside now told_mid early))
          (held_opens_again base l h holding.is_base beside is.stands.tidy.levels holds))
          (λ (during : While (g.told mid) (WhileSwitching before.back.manifest.number ready.staged.edits.frame.items) now).
          install_opens_again base l h o (made_of job o.job) beside holding.is_base is.stands.tidy holds
          (can bytes w job before (g.told old) h l o is goes has lent ready is_ready) now (as_laid_out now (during beside told_mid)))
          (switches.performs.time.nothing_else (g.moment mid) now (omega arith)
          (watched.counts_now new now (g.moment mid) told switches.performs.time.later))

      pub unswitched_carries : (name : Name) → StandsFor bytes after h (halted_at (file_of name) (job_ended (made_of job o.job) l))
          → Carries g bytes old new after h l (install_made l h o (made_of job o.job)) (install_otherwise l (made_of job o.job))
          (Fails (file_of name)) no_effects
      unswitched_carries name stands = record {
        decides = decides_failed (Represents bytes after (g.told new)) h l (install_made l h o (made_of job o.job))
            (job_ended (made_of job o.job) l) (file_of name) no_effects goes.running
            (represents_halted bytes after (g.told new) h (job_ended (made_of job o.job) l) name stands);
        called = λ a said. absurd cc;
        through = λ _. goes_so;
        again = λ _. let (now, told) = switches.performs.tells beside told_mid in (now, told, now_may_open now told);
      }

      -- ---- and it was done

      module _ (done : g.told new ≡ option_map (switched before.back.manifest.number ready.staged.edits.frame.items) (g.told mid))
          (calls : g.calls new ≡ after_calls 2 (g.calls mid)) (back : IsBackInstalled before.back after.back ready.staged) where
        abbrev then : DiskState
        then = final base l h o (made_of job o.job) beside holding.is_base is.stands.tidy holds
            (can bytes w job before (g.told old) h l o is goes has lent ready is_ready)

        abbrev then_base : Base
        then_base = later base l h o (made_of job o.job) beside holding.is_base is.stands.tidy holds
            (can bytes w job before (g.told old) h l o is goes has lent ready is_ready)

        told_then : g.told new ≡ Some then
        told_then = done
            ∙ ap (option_map (switched before.back.manifest.number ready.staged.edits.frame.items)) told_mid
            ∙ ap (λ (n : ℕ). Some (switched n ready.staged.edits.frame.items beside)) manifest_is
            ∙ ap (λ (frame : List ℕ). Some (switched base.manifest.number frame beside)) piece_is

        long_then : after.back.manifest.length ≡ base.manifest.length + length piece
        long_then =
            let fits = is_ready.staged.frame.fits in
            let sum : min (before.back.manifest.length + length ready.staged.edits.frame.items) (2 ^ 64 - 1)
            ≡ before.back.manifest.length + length ready.staged.edits.frame.items = omega (arith, fits) in
            back.longer ∙ sum
            ∙ ap (λ (m : ManifestLog). m.length + length ready.staged.edits.frame.items) holding.back_is.manifest
            ∙ ap (λ (frame : List ℕ). base.manifest.length + length frame) piece_is

        held_then : IsHeld after.back (g.told new) h (installed o.job (made_of job o.job) l)
        held_then = record {
          state = then;
          told_is = told_then;
          base = then_base;
          is_base = base_then base l h o (made_of job o.job) beside holding.is_base is.stands.tidy holds
              (can bytes w job before (g.told old) h l o is goes has lent ready is_ready);
          back_is = record {
            manifest = same_log after.back.manifest then_base.manifest (back.number ∙ manifest_is) long_then;
            state = back.state ∙ state_is bytes w job before (g.told old) h l o is goes has lent ready is_ready;
            next_log = back.next_log ∙ holding.back_is.next_log;
            next_table = omega arith;
            waiting = subst (λ (ws : List Waiting). AreWaiting l.covered ws (newest_first l.frozen)) (sym back.waiting)
                holding.back_is.waiting;
          };
          holds = install_holds base l h o (made_of job o.job) beside holding.is_base is.stands.tidy holds
              (can bytes w job before (g.told old) h l o is goes has lent ready is_ready);
          begun = none_drawn l.next_table l.next_table then (omega arith);
        }

        pub switched_carries : StandsFor bytes after h (installed o.job (made_of job o.job) l)
            → Carries g bytes old new after h l (install_made l h o (made_of job o.job)) (install_otherwise l (made_of job o.job))
            (Answered Installed) (record no_effects { calls = 2 })
        switched_carries stands = record {
          decides = decides_answered (Represents bytes after (g.told new)) h l (install_made l h o (made_of job o.job))
              (install_otherwise l (made_of job o.job)) Installed (record no_effects { calls = 2 }) refl refl
              (record { stands = stands; held = λ _. held_then });
          called = λ a said. calls ∙ ap (after_calls 2) (took.takes.calls ∙ quiet.calls);
          through = λ _. goes_so;
          again = λ _. (then, told_then, now_may_open then told_then);
        }

    pub stopped_carries : (name : Name) → StopsTaking g w job.made.items begun new name
        → StandsFor bytes after h (halted_at (file_of name) (job_ended (made_of job o.job) l))
        → Carries g bytes old new after h l (install_made l h o (made_of job o.job)) (install_otherwise l (made_of job o.job))
        (Fails (file_of name)) no_effects
    stopped_carries name stops stands =
        let are = stops.made_are ∙ sym (append_assoc stops.before (stops.at ∷ []) stops.left) in
        record {
          decides = decides_failed (Represents bytes after (g.told new)) h l (install_made l h o (made_of job o.job))
              (job_ended (made_of job o.job) l) (file_of name) no_effects goes.running
              (represents_halted bytes after (g.told new) h (job_ended (made_of job o.job) l) name stands);
          called = λ a said. absurd cc;
          through = λ _. goes_front (stops.before ++ stops.at ∷ []) stops.left are stops.takes;
          again = λ _. now_front (stops.before ++ stops.at ∷ []) stops.left are stops.takes;
        }

  -- ---- the exits

  -- The tables were put in.
  pub installed_carries : StandsFor bytes after h (installed o.job (made_of job o.job) l)
      → IsInstalled g bytes w job old new before after
      → Carries g bytes old new after h l (install_ruling l h o.job (made_of job o.job)) (install_otherwise l (made_of job o.job))
      (Answered Installed) (record no_effects { calls = 2 })
  installed_carries stands did =
      subst (λ (r : Ruling InstallAnswer). Carries g bytes old new after h l r (install_otherwise l (made_of job o.job))
      (Answered Installed) (record no_effects { calls = 2 })) (install_made_so l h o (made_of job o.job) goes)
      (switched_carries did.ready did.is_ready did.begun did.unchanged did.writes.mid did.ready.levels did.levels did.writes.took
      (Ok tt) did.writes.switches did.writes.switches.performs.done did.writes.switches.performs.calls did.back stands)

  -- It failed at a table that couldn't be held, or at the manifest.
  pub uninstalled_carries : (name : Name) → StandsFor bytes after h (halted_at (file_of name) (job_ended (made_of job o.job) l))
      → IsUninstalled g bytes w job old new before after name
      → Carries g bytes old new after h l (install_ruling l h o.job (made_of job o.job)) (install_otherwise l (made_of job o.job))
      (Fails (file_of name)) no_effects
  uninstalled_carries name stands did =
      subst (λ (r : Ruling InstallAnswer). Carries g bytes old new after h l r (install_otherwise l (made_of job o.job))
      (Fails (file_of name)) no_effects) (install_made_so l h o (made_of job o.job) goes)
      (⊎_elim
      (λ (stops : StopsTaking g w job.made.items did.begun new name).
      stopped_carries did.ready did.is_ready did.begun did.unchanged name stops stands)
      (λ (stops : StopsSwitching g bytes w job.made.items before.back.manifest.number did.ready.staged.edits.frame.items did.begun new
      did.ready.levels did.levels name).
      unswitched_carries did.ready did.is_ready did.begun did.unchanged stops.mid did.ready.levels did.levels stops.took
      (Err stops.failed) stops.switches name stands)
      did.stops)

-- ---- what steps on files ask

module _ {W : Type 0} (w : Writers W) {s : _} where
  -- a log is none of the tables that are taken back
  log_beside : (n : ℕ) (ts : List (Synced W s)) (disk : DiskState)
      → get (with_files w ts disk).standing (names.Log n) ≡ get disk.standing (names.Log n)
  log_beside n [] disk = refl
  log_beside n (t ∷ ts) disk = log_beside n ts (adopted (names.Table t.number) (file_of_table w t) disk)
      ∙ get_inserted_other disk.standing (names.Table t.number) (file_of_table w t) (names.Log n) (log_table n t.number)

module _ {D H R W : Type 0} (g : Ghosts D) (bytes : H → Option (List ℕ)) (w : Writers W) {s : _}
    (job : Job (version_base.Base H R) H W s) (before after : Core H) (old new : D) (h : History) (l : Layout) (o : OpenJob)
    (is : StandsFor bytes before h l) (fits : Fits (g.told old) before h l) (goes : GoesOn l o) where
  abbrev may : MayStep (g.told old) before.back h l
  may = fits.running goes.running

  installed_may : IsInstalled g bytes w job old new before after
      → MayStep (g.told new) after.back h (installed o.job (made_of job o.job) l)
  installed_may did = record {
    numbers = record {
      next_log = did.back.next_log ∙ may.numbers.next_log;
      next_table = ap (λ (x : ManifestState). x.next_table) did.back.state
          ∙ install_next (replacing_of before.back (map number_of job.inputs.tables.items)
          (map (λ (t : Synced W s). t.number) job.made.items) did.ready.levels.level did.ready.levels.position did.is_ready.gone)
          before.back.state did.ready.staged.state did.is_ready.staged.says ∙ may.numbers.next_table;
      waiting = subst (λ (ws : List Waiting). AreWaiting l.covered ws (newest_first l.frozen)) (sym did.back.waiting)
          may.numbers.waiting;
    };
    files = may.files;
    covers = may.covers;
    state = switched before.back.manifest.number did.ready.staged.edits.frame.items beside;
    told_is = did.writes.switches.performs.done
        ∙ ap (option_map (switched before.back.manifest.number did.ready.staged.edits.frame.items))
        (did.writes.took.takes.changed
        ∙ ap (option_map (with_files w did.writes.took.front)) (did.unchanged.told ∙ may.told_is));
    active = ap (λ (o : Option File). (unwrap_or o new_file).bytes)
        ((written_elsewhere (names.Manifest before.back.manifest.number) did.ready.staged.edits.frame.items beside).standing
        (names.Log l.active.number) (log_manifest l.active.number before.back.manifest.number)
        ∙ log_beside w l.active.number did.writes.took.front may.state)
        ∙ may.active;
  }
    where
      beside : DiskState
      beside = with_files w did.writes.took.front may.state

  pub installed_fits : IsInstalled g bytes w job old new before after
      → Decides (Fits (g.told new) after) h l (install_ruling l h o.job (made_of job o.job)) (install_otherwise l (made_of job o.job))
      (Answered Installed) (record no_effects { calls = 2 })
  installed_fits did =
      subst (λ (r : Ruling InstallAnswer). Decides (Fits (g.told new) after) h l r (install_otherwise l (made_of job o.job))
      (Answered Installed) (record no_effects { calls = 2 })) (install_made_so l h o (made_of job o.job) goes)
      (decides_answered (Fits (g.told new) after) h l (install_made l h o (made_of job o.job))
      (install_otherwise l (made_of job o.job)) Installed (record no_effects { calls = 2 }) refl refl
      (record { running = λ _. installed_may did }))

  pub uninstalled_fits : (name : Name) → IsUninstalled g bytes w job old new before after name
      → Decides (Fits (g.told new) after) h l (install_ruling l h o.job (made_of job o.job)) (install_otherwise l (made_of job o.job))
      (Fails (file_of name)) no_effects
  uninstalled_fits name did =
      decides_failed (Fits (g.told new) after) h l (install_ruling l h o.job (made_of job o.job)) (job_ended (made_of job o.job) l)
      (file_of name) no_effects goes.running (fits_halted (g.told new) after h (job_ended (made_of job o.job) l) (file_of name))
