-- What an install comes to, at each of its exits, by the ruling on it.
use Rattle.std.specs.Prelude.{◌≡◌, ◌≢◌, ◌==◌, ◌||◌, ◌≤◌, ℕ, zero, suc, Bool, true, nat_le, List, [], ◌∷◌, ◌++◌}
use Rattle.std.specs.Prelude.{length, map, if◌then◌else◌, false, Option, None, Some, Result, Ok, Err, OnOk, refl}
use Rattle.std.specs.FinMap.{get}
use Rattle.std.specs.Option.{ForSome, option_map}
use Rattle.std.proofs.Common.{sym, ap, subst, arith, append_assoc, ◌∙◌, ⊎_elim}
use Rattle.std.proofs.lemmas.Bool.Decides.{nat_tests}
use Rattle.vl_back.specs.InstallStaging.{replacing_of}
use Rattle.vl_back.specs.Writing.{IsKept}
use Rattle.vl_compact.specs.Progress.{made_of}
use Rattle.vl_compact.specs.declared.files.Synced.{Synced}
use Rattle.vl_compact.specs.declared.job.Job.{Job as Merging}
use Rattle.vl_disk.specs.Calls.{ChangesNothing}
use Rattle.vl_disk.specs.Changes.{changed_elsewhere, changed_there}
use Rattle.vl_disk.specs.Disk.{IsChangedBy}
use Rattle.vl_disk.specs.DiskState.{DiskState, File, appended, lengthened, synced_file, with_file}
use Rattle.vl_disk.specs.Faults.{after_calls}
use Rattle.vl_disk.specs.Lending.{adopted}
use Rattle.vl_disk.specs.Performs.{FailedAt, StopsAmong, calls_on}
use Rattle.vl_disk.specs.declared.name.Name.TheVariants as names
use Rattle.vl_disk.specs.declared.name.Name.{Name}
use Rattle.vl_disk.specs.declared.watched.Watched.{Ghosts}
use Rattle.vl_disk.specs.declared.writer.Writer.{Ghosts as Writers}
use Rattle.vl_disk.specs.laws.NameMap.{get_inserted_other, get_removed_other, same_or_other}
use Rattle.vl_engine_laws.specs.laws.Carrying.{IsWatched, carries_leaving, carries_no_memory, extends_itself}
use Rattle.vl_steps.specs.laws.Committing.{decides_answered, decides_failed, decides_leaving, decides_short}
use Rattle.vl_steps.specs.laws.Flushed.{runs_on}
use Rattle.vl_steps.specs.laws.InstallDisk.{files_held, installed_carries, installed_fits, uninstalled_carries, uninstalled_fits}
use Rattle.vl_steps.specs.laws.InstallDiskLeaves.{uninstalled_leaves}
use Rattle.vl_engine_laws.specs.laws.InstallKeeps.{log_installed}
use Rattle.vl_steps.specs.laws.InstallPut.{stands_lost, stands_put}
use Rattle.vl_steps.specs.laws.Planning.{fits_abandoned, represents_abandoned, stands_abandoned}
use Rattle.vl_engine_laws.specs.laws.Untouched.{alone}
use Rattle.vl_engine_laws.specs.Carries.{Carries, StaysUntold}
use Rattle.vl_steps.specs.Installing.{HandsBack, HasVersion, InstallFailed, InstallLeavesDisk, InstallsUnraced}
use Rattle.vl_steps.specs.Installing.{IsHandedIn, IsInstalled, IsUninstalled, KeepsAllBut, MayInstall, StopsInstall}
use Rattle.vl_steps.specs.Installing.{StopsInstalling, StopsSwitching, WritesInstall, at_manifest, at_table}
use Rattle.vl_steps.specs.Installing.{install_otherwise}
use Rattle.vl_engine_laws.specs.Lent.{IsOpenAs, Opens}
use Rattle.vl_steps.specs.Merging.{HasAllMerge, install_effects, install_outcome, made_numbers}
use Rattle.vl_engine_laws.specs.Lent.{StandsOpen}
use Rattle.vl_engine_laws.specs.Represents.{Represents, file_of}
use Rattle.vl_engine_laws.specs.MayStep.{AreLogFiles, Fits, LeavesNumbers}
use Rattle.vl_steps.specs.Taking.{StopsTaking, TakesBack, file_of_table, with_files}
use Rattle.vl_steps.specs.declared.fails.InstallFail.TheVariants as install
use Rattle.vl_steps.specs.declared.fails.InstallFail.{InstallFail}
use Rattle.vl_engine_laws.specs.declared.kept.Core.{Core}
use Rattle.vl_engine_laws.specs.declared.open.OpenMerge.{OpenMerge}
use Rattle.vl_engine_laws.specs.laws.InstallRulings.{GoesOn, install_exhausted, install_halted, install_made}
use Rattle.vl_engine_laws.specs.laws.InstallRulings.{install_made_so, install_raced, install_version}
use Rattle.vl_engine_model.specs.Decides.{Answered, Decides, NoMemory, no_effects}
use Rattle.vl_engine_model.specs.Jobs.{AreLent, Made, job_ended}
use Rattle.vl_engine_model.specs.Ruling.{Ruling, has_no_epoch, leaving}
use Rattle.vl_engine_model.specs.Rulings.Install as ruling
use Rattle.vl_engine_model.specs.Rulings.Install.{InstallAnswer, Installed, install_checked, install_lost, install_ruling}
use Rattle.vl_engine_model.specs.Rulings.Install.{install_unless, moved_since, race}
use Rattle.vl_engine_model.specs.declared.file_name.FileName.{FileName}
use Rattle.vl_engine_model.specs.declared.job.Job.{Job}
use Rattle.vl_engine_model.specs.declared.job.OpenJob.{OpenJob}
use Rattle.vl_engine_model.specs.declared.layout.Layout.{Layout}
use Rattle.vl_manifest.specs.Switching.{switched}
use Rattle.vl_manifest.specs.declared.state.ManifestState.{ManifestState}
use Rattle.vl_model.specs.Conflicts.{Named}
use Rattle.vl_model.specs.History.{Extends, History}
use Rattle.vl_model.specs.Limits.{max_epoch}
use Rattle.vl_model.specs.Numbers.{has}
use Rattle.vl_model.specs.declared.counter.Counter.TheVariants as counters
use Rattle.vl_model.specs.declared.counter.Counter.{Counter}
use Rattle.vl_table.specs.Tables.{number_of}
use Rattle.vl_version.specs.declared.base.Base.{Base}

-- ---- what the ruling is

-- it leaves the history as it is
history_stays : (l : Layout) (h : History) (job : Job) (made : Made) → (install_ruling l h job made).history ≡ h
history_stays l h job made = unless l.halted
  where
    either : (b : Bool) → (if b then leaving (ruling.Exhausted counters.Version) h (job_ended made l)
        else record { answer = Installed; history = h; layout = ruling.installed job made l; calls = 2; gone = [] }).history ≡ h
    either true = refl
    either false = refl

    checked : (named : Option Named) → (install_checked l h job made named).history ≡ h
    checked (Some named) = refl
    checked None = either (has_no_epoch l)

    unless : (halted : Option FileName) → (install_unless halted l h job made).history ≡ h
    unless (Some name) = refl
    unless None = checked (race job (moved_since l.job))

-- What the engine keeps of the open merge is what the layout has of it.
opens_as : (merging : Option OpenMerge) (merge : OpenMerge) (job : Option OpenJob) (o : OpenJob) → merging ≡ Some merge
    → job ≡ Some o → Opens merging job → IsOpenAs merge o
opens_as merging merge job o is opened opens =
    subst (λ (m : Option OpenMerge). Opens m (Some o)) is (subst (λ (j : Option OpenJob). Opens merging j) opened opens)

module _ {D H R W : Type 0} (g : Ghosts D) (bytes : H → Option (List ℕ)) (w : Writers W) {s : _}
    (job : Merging (Base H R) H W s) (old : D) (before : Core H) (merging : Option OpenMerge) (h : History) (l : Layout)
    (o : OpenJob) (is : StandsOpen bytes before merging h l) (opened : l.job ≡ Some o) (whole : HasAllMerge w bytes job o.job)
    (lent : AreLent o.lent (made_of job o.job)) where
  abbrev pub made : Made
  made = made_of job o.job

  abbrev pub rules : Ruling InstallAnswer
  rules = install_ruling l h o.job made

  -- ---- before anything is tried

  -- A call failed before,
  pub ruled_halted : (name : Name) → before.front.halted ≡ Some name
      → leaving (ruling.Halted (file_of name)) h (job_ended made l) ≡ rules
  ruled_halted name halted =
      install_halted l h o.job made (file_of name) (sym is.stands.fronts.halted ∙ ap (option_map file_of) halted)

  -- what a job's deletions are against is the ruling's,
  pub raced_so : IsHandedIn g w old before.front.halted merging job → (named : Option Named)
      → ForSome merging (λ (m : OpenMerge). (j : Job) → HasAllMerge w bytes job j → named ≡ race j m.moved.items)
      → race o.job o.moved ≡ named
  raced_so handed named told =
      sym (told handed.merge handed.is_open o.job whole
      ∙ ap (race o.job) (opens_as merging handed.merge l.job o handed.is_open opened is.opens).moved)

  -- or a deletion that it dropped was moved meanwhile.
  pub ruled_raced : before.front.halted ≡ None → (named : Named) → race o.job o.moved ≡ Some named
      → leaving (ruling.Raced named.0 named.1) h (job_ended made l) ≡ rules
  ruled_raced none named raced =
      install_raced l h o made (runs_on before h l is.stands.fronts none) opened named raced

  -- ---- where it ends before anything was written

  module _ (answer : InstallAnswer) (ruled : leaving answer h (job_ended made l) ≡ rules) where
    pub stands_ended : (left : Option OpenMerge) → left ≡ None
        → Decides (StandsOpen bytes before left) h l rules (install_otherwise l made) (Answered answer) no_effects
    stands_ended left none =
        decides_leaving (StandsOpen bytes before left) h l rules (install_otherwise l made) answer (job_ended made l) ruled
        (stands_abandoned bytes before h l o made opened lent left none is.stands)

    pub carries_ended : IsWatched g → Represents bytes before (g.told old) h l
        → Carries g bytes old old before h l rules (install_otherwise l made) (Answered answer) no_effects
    carries_ended watched represents =
        subst (λ (r : Ruling InstallAnswer).
        Carries g bytes old old before h l r (install_otherwise l made) (Answered answer) no_effects) ruled
        (carries_leaving g watched bytes before before h l old answer (job_ended made l) (install_otherwise l made) represents
        (represents_abandoned bytes before h l o made opened lent (g.told old) represents))

    pub fits_ended : Fits (g.told old) before h l
        → Decides (Fits (g.told old) before) h l rules (install_otherwise l made) (Answered answer) no_effects
    fits_ended fits =
        decides_leaving (Fits (g.told old) before) h l rules (install_otherwise l made) answer (job_ended made l) ruled
        (fits_abandoned before h l o.job made (g.told old) fits)

  -- Where memory was wanting all is as before.
  pub stands_short : Decides (StandsOpen bytes before merging) h l rules (install_otherwise l made) NoMemory no_effects
  stands_short = decides_short (StandsOpen bytes before merging) h l rules (install_lost made l) is

  pub carries_short : IsWatched g → Represents bytes before (g.told old) h l → (new : D) → ChangesNothing g old new ⊥
      → Carries g bytes old new before h l rules (install_otherwise l made) NoMemory no_effects
  carries_short watched represents new quiet =
      carries_no_memory g watched bytes before before h l old new ⊥ rules (install_lost made l) quiet
      (subst (Extends h) (sym (history_stays l h o.job made)) (extends_itself h)) refl represents is.stands

  pub fits_short : Fits (g.told old) before h l → (new : D) → ChangesNothing g old new ⊥
      → Decides (Fits (g.told new) before) h l rules (install_otherwise l made) NoMemory no_effects
  fits_short fits new quiet =
      subst (λ (told : Option DiskState).
      Decides (Fits told before) h l rules (install_otherwise l made) NoMemory no_effects) (sym quiet.told)
      (decides_short (Fits (g.told old) before) h l rules (install_lost made l) fits)

  -- ---- where no deletion that it dropped stands against it

  module _ (handed : IsHandedIn g w old before.front.halted merging job) (none : before.front.halted ≡ None)
      (unraced : race o.job o.moved ≡ None) where
    running : l.halted ≡ None
    running = runs_on before h l is.stands.fronts none

    -- no epoch is left,
    ruled_used : (counter : Counter) → counter ≡ counters.Version
        → nat_le max_epoch before.back.epoch ≡ true
        → leaving (ruling.Exhausted counter) h (job_ended made l) ≡ rules
    ruled_used counter version used =
        ap (λ (c : Counter). leaving (ruling.Exhausted c) h (job_ended made l)) version
        ∙ install_exhausted l h o made running opened unraced
        (sym (install_version l before.back.epoch is.stands.fronts.version) ∙ used)

    -- or it goes on.
    pub goes_on : HasVersion before → GoesOn l o
    goes_on version = record {
      running = running;
      open_is = opened;
      unraced = unraced;
      version = sym (install_version l before.back.epoch is.stands.fronts.version) ∙ version;
    }

    module _ (new : D) (after : Core H) where
      pub stands_by : (state : DiskState) → g.told old ≡ Some state → (l.halted ≡ None → AreLogFiles l) → (left : Option OpenMerge)
          → (result : Result (Unit {0}) (InstallFail (Base H R) H W s)) → InstallsUnraced g bytes w job old new before after result
          → HandsBack job merging left result
          → Decides (StandsOpen bytes after left) h l rules (install_otherwise l made) (install_outcome result)
          (install_effects result)
      stands_by state told files left (Ok done) did over =
          subst (λ (r : Ruling InstallAnswer). Decides (StandsOpen bytes after left) h l r (install_otherwise l made)
          (Answered Installed) (record no_effects { calls = 2 })) (install_made_so l h o made (goes_on did.0))
          (decides_answered (StandsOpen bytes after left) h l (install_made l h o made) (install_otherwise l made) Installed
          (record no_effects { calls = 2 }) refl refl (record {
            stands = stands_put g bytes w job old new before after h l o is.stands opened whole state told
                (handed.tells none state told) did.1 (goes_on did.0) lent (files running);
            opens = subst (λ (m : Option OpenMerge). Opens m None) (sym over) tt;
          }))
      stands_by state told files left (Err (install.Halted name)) did over = absurd did
      stands_by state told files left (Err (install.Raced key number)) did over = absurd did
      stands_by state told files left (Err (install.Exhausted counter)) did over =
          subst (λ (c : Core H). Decides (StandsOpen bytes c left) h l rules (install_otherwise l made)
          (Answered (ruling.Exhausted counter)) no_effects) (sym did.core)
          (stands_ended (ruling.Exhausted counter) (ruled_used counter did.counter_is did.used) left over)
      stands_by state told files left (Err (install.NoMemory back)) did over =
          subst (λ (m : Option OpenMerge). Decides (StandsOpen bytes after m) h l rules (install_otherwise l made) NoMemory
          no_effects) (sym over.1)
          (subst (λ (c : Core H). Decides (StandsOpen bytes c merging) h l rules (install_otherwise l made) NoMemory no_effects)
          (sym did.1) stands_short)
      stands_by state told files left (Err (install.Disk name)) did over =
          decides_failed (StandsOpen bytes after left) h l rules (install_lost made l) (file_of name) no_effects running (record {
            stands = stands_lost g bytes w job old new before after h l o is.stands opened whole name lent did.1;
            opens = subst (λ (m : Option OpenMerge). Opens m None) (sym over) tt;
          })

      -- over a disk that holds the layout,
      pub carries_by : IsWatched g → Represents bytes before (g.told old) h l
          → (result : Result (Unit {0}) (InstallFail (Base H R) H W s)) → InstallsUnraced g bytes w job old new before after result
          → Carries g bytes old new after h l rules (install_otherwise l made) (install_outcome result) (install_effects result)
      carries_by watched represents (Ok done) did =
          let held = represents.held running in
          installed_carries g watched bytes w job merging before after old new handed none h l o represents (goes_on did.0) whole lent
          (stands_put g bytes w job old new before after h l o is.stands opened whole held.state held.told_is
          (handed.tells none held.state held.told_is) did.1 (goes_on did.0) lent
          (files_held before.back (g.told old) h l held))
          did.1
      carries_by watched represents (Err (install.Halted name)) did = absurd did
      carries_by watched represents (Err (install.Raced key number)) did = absurd did
      carries_by watched represents (Err (install.Exhausted counter)) did =
          subst (λ (d : D). Carries g bytes old d after h l rules (install_otherwise l made) (Answered (ruling.Exhausted counter))
          no_effects) (sym did.disk)
          (subst (λ (c : Core H). Carries g bytes old old c h l rules (install_otherwise l made)
          (Answered (ruling.Exhausted counter)) no_effects) (sym did.core)
          (carries_ended (ruling.Exhausted counter) (ruled_used counter did.counter_is did.used) watched represents))
      carries_by watched represents (Err (install.NoMemory back)) did =
          subst (λ (c : Core H). Carries g bytes old new c h l rules (install_otherwise l made) NoMemory no_effects)
          (sym did.1) (carries_short watched represents new did.2)
      carries_by watched represents (Err (install.Disk name)) did =
          uninstalled_carries g watched bytes w job merging before after old new handed none h l o represents (goes_on did.0) whole
          lent name (stands_lost g bytes w job old new before after h l o is.stands opened whole name lent did.1) did.1

      -- and what steps on files ask.
      pub fits_by : Fits (g.told old) before h l
          → (result : Result (Unit {0}) (InstallFail (Base H R) H W s)) → InstallsUnraced g bytes w job old new before after result
          → Decides (Fits (g.told new) after) h l rules (install_otherwise l made) (install_outcome result) (install_effects result)
      fits_by fits (Ok done) did =
          installed_fits g bytes w job before after old new h l o is.stands fits (goes_on did.0) did.1
      fits_by fits (Err (install.Halted name)) did = absurd did
      fits_by fits (Err (install.Raced key number)) did = absurd did
      fits_by fits (Err (install.Exhausted counter)) did =
          subst (λ (d : D). Decides (Fits (g.told d) after) h l rules (install_otherwise l made)
          (Answered (ruling.Exhausted counter)) no_effects) (sym did.disk)
          (subst (λ (c : Core H). Decides (Fits (g.told old) c) h l rules (install_otherwise l made)
          (Answered (ruling.Exhausted counter)) no_effects) (sym did.core)
          (fits_ended (ruling.Exhausted counter) (ruled_used counter did.counter_is did.used) fits))
      fits_by fits (Err (install.NoMemory back)) did =
          subst (λ (c : Core H). Decides (Fits (g.told new) c) h l rules (install_otherwise l made) NoMemory no_effects)
          (sym did.1) (fits_short fits new did.2)
      fits_by fits (Err (install.Disk name)) did =
          uninstalled_fits g bytes w job before after old new h l o is.stands fits (goes_on did.0) name did.1

-- ---- the disk

module _ {D H R W : Type 0} (g : Ghosts D) (bytes : H → Option (List ℕ)) (w : Writers W) {s : _}
    (job : Merging (Base H R) H W s) (old new : D) (before after : Core H) where
  pub untouched_by : (result : Result (Unit {0}) (InstallFail (Base H R) H W s))
      → InstallsUnraced g bytes w job old new before after result → InstallLeavesDisk result → ChangesNothing g old new ⊥
  untouched_by (Ok done) did leaves = absurd leaves
  untouched_by (Err (install.Halted name)) did leaves = absurd did
  untouched_by (Err (install.Raced key number)) did leaves = absurd did
  untouched_by (Err (install.Exhausted counter)) did leaves = alone g old new did.disk
  untouched_by (Err (install.NoMemory back)) did leaves = did.2
  untouched_by (Err (install.Disk name)) did leaves = absurd leaves

  pub calls_by : (result : Result (Unit {0}) (InstallFail (Base H R) H W s))
      → InstallsUnraced g bytes w job old new before after result → OnOk result (g.calls new ≡ after_calls 2 (g.calls old))
  calls_by (Ok done) did =
      did.1.writes.switches.performs.calls ∙ ap (after_calls 2) (did.1.writes.took.takes.calls ∙ did.1.unchanged.calls)
  calls_by (Err why) did = tt

-- ---- at which file it failed

-- of tables of which this is one
has_number : {W : Type 0} {s : _} (before left : List (Synced W s)) (at : Synced W s)
    → has at.number (map (λ (t : Synced W s). t.number) (before ++ at ∷ left)) ≡ true
has_number {W} {s} [] left at =
    let same : (at.number == at.number) ≡ true = grind (arith, nat_tests) in
    ap (λ (b : Bool). b || has at.number (map (λ (t : Synced W s). t.number) left)) same
has_number {W} {s} (t ∷ before) left at =
    ap (λ (b : Bool). (t.number == at.number) || b) (has_number before left at) ∙ or_true (t.number == at.number)
  where
    or_true : (b : Bool) → (b || true) ≡ true
    or_true true = refl
    or_true false = refl

-- of two calls on a file the last that was made failed
two_calls : (name : Name) (before now : ℕ) → StopsAmong 2 before now → FailedAt (calls_on 2 name) before now name
two_calls name before now (n, least, most, is) = by n least most is
  where
    by : (n : ℕ) → 1 ≤ n → n ≤ 2 → now ≡ after_calls n before → FailedAt (calls_on 2 name) before now name
    by zero least most is = absurd (omega (arith, least))
    by (suc zero) least most is = record { front = []; back = name ∷ []; files_are = refl; calls = is }
    by (suc (suc zero)) least most is = record { front = name ∷ []; back = []; files_are = refl; calls = is }
    by (suc (suc (suc n))) least most is = absurd (omega (arith, most))

module _ {D H R W : Type 0} (g : Ghosts D) (bytes : H → Option (List ℕ)) (w : Writers W) {s : _}
    (job : Merging (Base H R) H W s) (old new : D) (before after : Core H) where
  abbrev manifest : ℕ
  manifest = before.back.manifest.number

  stops_at : (name : Name) → IsUninstalled g bytes w job old new before after name
      → StopsInstall job manifest (g.calls old) (g.calls new) name
  stops_at name did = ⊎_elim
      (λ (stop : StopsTaking g w job.made.items did.begun new name).
      at_table stop.at.number stop.name_is
      (subst (λ (ts : List (Synced W s)). has stop.at.number (map (λ (t : Synced W s). t.number) ts) ≡ true) (sym stop.made_are)
      (has_number stop.before stop.left stop.at))
      (stop.takes.calls ∙ did.unchanged.calls))
      (λ (stop : StopsSwitching g bytes w job.made.items manifest did.ready.staged.edits.frame.items did.begun new
      did.ready.levels did.levels name).
      at_manifest (subst (λ (n : Name). FailedAt (calls_on 2 (names.Manifest manifest)) (g.calls old) (g.calls new) n)
      (sym stop.name_is)
      (subst (λ (c : ℕ). FailedAt (calls_on 2 (names.Manifest manifest)) c (g.calls new) (names.Manifest manifest))
      (stop.took.takes.calls ∙ did.unchanged.calls)
      (two_calls (names.Manifest manifest) (g.calls stop.mid) (g.calls new) stop.switches.performs.stops))))
      did.stops

  pub stopped_by : (result : Result (Unit {0}) (InstallFail (Base H R) H W s))
      → InstallsUnraced g bytes w job old new before after result → (name : Name) → result ≡ Err (install.Disk name)
      → StopsInstall job manifest (g.calls old) (g.calls new) name
  stopped_by (Ok done) did name failed = absurd cc
  stopped_by (Err (install.Halted at)) did name failed = absurd did
  stopped_by (Err (install.Raced key number)) did name failed = absurd did
  stopped_by (Err (install.Exhausted counter)) did name failed = absurd cc
  stopped_by (Err (install.NoMemory back)) did name failed = absurd cc
  stopped_by (Err (install.Disk at)) did name failed =
      let same : at ≡ name = cc in
      subst (StopsInstall job manifest (g.calls old) (g.calls new)) same (stops_at at did.1)

  -- where it may fail,
  pub failed_by : before.front.halted ≡ None → (result : Result (Unit {0}) (InstallFail (Base H R) H W s))
      → InstallsUnraced g bytes w job old new before after result → InstallFailed result → MayInstall before
  failed_by none (Ok done) did failed = absurd failed
  failed_by none (Err (install.Halted at)) did failed = absurd did
  failed_by none (Err (install.Raced key number)) did failed = absurd did
  failed_by none (Err (install.Exhausted counter)) did failed = absurd failed
  failed_by none (Err (install.NoMemory back)) did failed = absurd failed
  failed_by none (Err (install.Disk at)) did failed =
      let left : nat_le max_epoch before.back.epoch ≡ false = did.0 in
      record { running = none; version = grind (arith, nat_tests, left) }

  -- and what was written by then.
  pub meanwhile_by : (result : Result (Unit {0}) (InstallFail (Base H R) H W s))
      → InstallsUnraced g bytes w job old new before after result → InstallFailed result
      → WritesInstall g bytes w job before old new
  meanwhile_by (Ok done) did failed = absurd failed
  meanwhile_by (Err (install.Halted at)) did failed = absurd did
  meanwhile_by (Err (install.Raced key number)) did failed = absurd did
  meanwhile_by (Err (install.Exhausted counter)) did failed = absurd failed
  meanwhile_by (Err (install.NoMemory back)) did failed = absurd failed
  meanwhile_by (Err (install.Disk at)) did failed = record {
    ready = did.1.ready;
    is_ready = did.1.is_ready;
    begun = did.1.begun;
    unchanged = did.1.unchanged;
    levels = did.1.levels;
    name = at;
    stops = did.1.stops;
  }

  -- Whatever a crash leaves then gives no number above the next ones.
  pub leaves_by : IsWatched g → before.front.halted ≡ None → (h : History) (l : Layout) → Represents bytes before (g.told old) h l
      → before.back.state.next_log ≤ before.back.next_log → (result : Result (Unit {0}) (InstallFail (Base H R) H W s))
      → InstallsUnraced g bytes w job old new before after result → InstallFailed result → (now : DiskState)
      → g.told new ≡ Some now → LeavesNumbers l.next_log l.next_table now
  leaves_by watched none h l represents within result did failed now told =
      let wrote = meanwhile_by result did failed in
      uninstalled_leaves g watched bytes w job before old new none h l represents within wrote.ready wrote.is_ready wrote.begun
      wrote.unchanged wrote.levels wrote.name wrote.stops now told

  -- Where it was refused or done, the manifest gives the next log no number above that which it gets.
  pub within_by : (result : Result (Unit {0}) (InstallFail (Base H R) H W s))
      → InstallsUnraced g bytes w job old new before after result → (InstallFailed result → ⊥)
      → before.back.state.next_log ≤ before.back.next_log → after.back.state.next_log ≤ after.back.next_log
  within_by (Ok done) did fine within =
      let said = log_installed
      (replacing_of before.back (map number_of job.inputs.tables.items) (map (λ (t : Synced W s). t.number) job.made.items)
      did.1.ready.levels.level did.1.ready.levels.position did.1.is_ready.gone)
      before.back.state did.1.ready.staged.state did.1.is_ready.staged.says in
      let state = ap (λ (x : ManifestState). x.next_log) did.1.back.state in
      let log = did.1.back.next_log in
      omega (arith, said, state, log)
  within_by (Err (install.Halted name)) did fine within = absurd did
  within_by (Err (install.Raced key number)) did fine within = absurd did
  within_by (Err (install.Exhausted counter)) did fine within =
      subst (λ (c : Core H). c.back.state.next_log ≤ c.back.next_log) (sym did.core) within
  within_by (Err (install.NoMemory back)) did fine within =
      subst (λ (c : Core H). c.back.state.next_log ≤ c.back.next_log) (sym did.1) within
  within_by (Err (install.Disk name)) did fine within = absurd (fine tt)

-- ---- which files stand

-- a name is that of none of these tables
abbrev IsBeside : List ℕ → Name → Type 0
IsBeside tables name = (n : ℕ) → has n tables ≡ true → name ≢ names.Table n

same_kept : (name : Name) (old new : DiskState) → get new.standing name ≡ get old.standing name
    → get new.removed name ≡ get old.removed name → IsKept name old new
same_kept name old new stands gone =
    ((λ none. sym stands ∙ none, λ none. stands ∙ none), (λ none. sym gone ∙ none, λ none. gone ∙ none))

kept_then : (name : Name) (old mid new : DiskState) → IsKept name old mid → IsKept name mid new → IsKept name old new
kept_then name old mid new first second = (
  (λ none. first.0.0 (second.0.0 none), λ none. second.0.1 (first.0.1 none)),
  (λ none. first.1.0 (second.1.0 none), λ none. second.1.1 (first.1.1 none)),
)

-- where a file is changed, all stand or not as before
changed_kept : (at : Name) (change : File → File) (disk : DiskState) (name : Name) → IsKept name disk (with_file at change disk)
changed_kept at change disk name = ⊎_elim
    (λ (same : name ≡ at). subst (λ (n : Name). IsKept n disk (with_file at change disk)) (sym same) (
      (
        λ none. was (get disk.standing at) (sym (changed_there at disk change) ∙ none),
        λ none. changed_there at disk change ∙ ap (option_map change) none,
      ),
      (λ none. none, λ none. none),
    ))
    (λ (apart : name ≢ at). same_kept name disk (with_file at change disk)
    ((changed_elsewhere at disk change).standing name apart) ((changed_elsewhere at disk change).removed name apart))
    (same_or_other name at)
  where
    was : (file : Option File) → option_map change file ≡ None → file ≡ None
    was None is = refl
    was (Some file) is = absurd cc

-- the disk was changed so, and the files beside these tables stand or not as before
record IsChangedKept (tables : List ℕ) (old new : Option DiskState) : Type 0 where
  change : DiskState → DiskState
  changed : IsChangedBy change old new
  kept : (disk : DiskState) (name : Name) → IsBeside tables name → IsKept name disk (change disk)

then_kept : (tables : List ℕ) (old mid new : Option DiskState) → IsChangedKept tables old mid → IsChangedKept tables mid new
    → IsChangedKept tables old new
then_kept tables old mid new first second = record {
  change = λ disk. second.change (first.change disk);
  changed = second.changed ∙ ap (option_map second.change) first.changed ∙ twice old;
  kept = λ disk name beside. kept_then name disk (first.change disk) (second.change (first.change disk))
      (first.kept disk name beside) (second.kept (first.change disk) name beside);
}
  where
    twice : (o : Option DiskState) → option_map second.change (option_map first.change o)
        ≡ option_map (λ (disk : DiskState). second.change (first.change disk)) o
    twice None = refl
    twice (Some disk) = refl

keeps_changed : (tables : List ℕ) (old new : Option DiskState) → IsChangedKept tables old new → KeepsAllBut tables old new
keeps_changed tables old new is disk now was left name beside =
    subst (IsKept name disk) (one (is.change disk) now (sym (is.changed ∙ ap (option_map is.change) was) ∙ left))
    (is.kept disk name beside)
  where
    one : (a b : DiskState) → Some a ≡ Some b → a ≡ b
    one a b e = cc

-- where what is told is as before, so are the files
pub keeps_told : (tables : List ℕ) (old new : Option DiskState) → new ≡ old → KeepsAllBut tables old new
keeps_told tables old new same = keeps_changed tables old new (record {
  change = λ disk. disk;
  changed = same ∙ itself old;
  kept = λ disk name beside. same_kept name disk disk refl refl;
})
  where
    itself : (o : Option DiskState) → o ≡ option_map (λ (disk : DiskState). disk) o
    itself None = refl
    itself (Some disk) = refl

module _ {W : Type 0} (w : Writers W) {s : _} where
  abbrev numbers : List (Synced W s) → List ℕ
  numbers ts = map (λ (t : Synced W s). t.number) ts

  taken_kept : (ts : List (Synced W s)) (disk : DiskState) (name : Name) → IsBeside (numbers ts) name
      → IsKept name disk (with_files w ts disk)
  taken_kept [] disk name beside = same_kept name disk disk refl refl
  taken_kept (t ∷ ts) disk name beside =
      let apart = beside t.number (has_number [] ts t) in
      let mid = adopted (names.Table t.number) (file_of_table w t) disk in
      kept_then name disk mid (with_files w ts mid)
      (same_kept name disk mid (get_inserted_other disk.standing (names.Table t.number) (file_of_table w t) name apart)
      (get_removed_other disk.removed (names.Table t.number) name apart))
      (taken_kept ts mid name (λ n there. beside n (ap (λ (b : Bool). (t.number == n) || b) there ∙ or_true (t.number == n))))
    where
      or_true : (b : Bool) → (b || true) ≡ true
      or_true true = refl
      or_true false = refl

  -- those of the first tables are among those of all
  front_beside : (before left : List (Synced W s)) (name : Name) → IsBeside (numbers (before ++ left)) name
      → IsBeside (numbers before) name
  front_beside before left name beside n there = beside n (more before there)
    where
      more : (ts : List (Synced W s)) → has n (numbers ts) ≡ true → has n (numbers (ts ++ left)) ≡ true
      more [] none = absurd cc
      more (t ∷ ts) some = by (t.number == n) some (more ts)
        where
          by : (b : Bool) → (b || has n (numbers ts)) ≡ true
              → (has n (numbers ts) ≡ true → has n (numbers (ts ++ left)) ≡ true)
              → (b || has n (numbers (ts ++ left))) ≡ true
          by true is later = refl
          by false is later = later is

module _ {D H R W : Type 0} (g : Ghosts D) (bytes : H → Option (List ℕ)) (w : Writers W) {s : _}
    (job : Merging (Base H R) H W s) (old new : D) (before after : Core H) where
  abbrev ours : List ℕ
  ours = map (λ (t : Synced W s). t.number) job.made.items

  quiet_kept : (mid : D) → ChangesNothing g old mid ⊥ → IsChangedKept ours (g.told old) (g.told mid)
  quiet_kept mid quiet = record {
    change = λ disk. disk;
    changed = quiet.told ∙ itself (g.told old);
    kept = λ disk name beside. same_kept name disk disk refl refl;
  }
    where
      itself : (o : Option DiskState) → o ≡ option_map (λ (disk : DiskState). disk) o
      itself None = refl
      itself (Some disk) = refl

  -- the first of its tables were taken back
  front_kept : (front left : List (Synced W s)) → job.made.items ≡ front ++ left → (begun mid : D)
      → IsChangedBy (with_files w front) (g.told begun) (g.told mid) → IsChangedKept ours (g.told begun) (g.told mid)
  front_kept front left are begun mid changed = record {
    change = with_files w front;
    changed = changed;
    kept = λ disk name beside. taken_kept w front disk name (front_beside w front left name
        (subst (λ (ts : List (Synced W s)). IsBeside (map (λ (t : Synced W s). t.number) ts) name) are beside));
  }

  took_kept : (begun mid : D) {ready levels : _} → TakesBack g bytes w job.made.items [] begun mid ready levels
      → IsChangedKept ours (g.told begun) (g.told mid)
  took_kept begun mid took = front_kept took.front [] took.made_are begun mid took.takes.changed

  stops_kept : (begun : D) {frame : List ℕ} {ready levels : _} (name : Name)
      → StopsInstalling g bytes w job.made.items before.back.manifest.number frame begun new ready levels name
      → IsChangedKept ours (g.told begun) (g.told new)
  stops_kept begun {frame} {ready} {levels} name stops = ⊎_elim
      (λ (at : StopsTaking g w job.made.items begun new name).
      front_kept (at.before ++ at.at ∷ []) at.left
      (at.made_are ∙ sym (append_assoc at.before (at.at ∷ []) at.left)) begun new at.takes.changed)
      (λ (at : StopsSwitching g bytes w job.made.items before.back.manifest.number frame begun new ready levels name).
      then_kept ours (g.told begun) (g.told at.mid) (g.told new) (took_kept begun at.mid at.took) (record {
        change = appended (names.Manifest before.back.manifest.number) frame at.switches.failed.0;
        changed = at.switches.failed.2;
        kept = λ disk other beside. changed_kept (names.Manifest before.back.manifest.number)
            (lengthened frame at.switches.failed.0) disk other;
      }))
      stops

  put_kept : IsInstalled g bytes w job old new before after → IsChangedKept ours (g.told old) (g.told new)
  put_kept did =
      let manifest = names.Manifest before.back.manifest.number in
      let frame = did.ready.staged.edits.frame.items in
      let mid = did.writes.mid in
      then_kept ours (g.told old) (g.told did.begun) (g.told new) (quiet_kept did.begun did.unchanged)
      (then_kept ours (g.told did.begun) (g.told mid) (g.told new) (took_kept did.begun mid did.writes.took) (record {
        change = switched before.back.manifest.number frame;
        changed = did.writes.switches.performs.done;
        kept = λ disk name beside. kept_then name disk (appended manifest frame (length frame) disk)
            (switched before.back.manifest.number frame disk) (changed_kept manifest (lengthened frame (length frame)) disk name)
            (changed_kept manifest synced_file (appended manifest frame (length frame) disk) name);
      }))

  pub files_by : (result : Result (Unit {0}) (InstallFail (Base H R) H W s))
      → InstallsUnraced g bytes w job old new before after result → KeepsAllBut (made_numbers job) (g.told old) (g.told new)
  files_by (Ok done) did = keeps_changed ours (g.told old) (g.told new) (put_kept did.1)
  files_by (Err (install.Halted name)) did = absurd did
  files_by (Err (install.Raced key number)) did = absurd did
  files_by (Err (install.Exhausted counter)) did =
      keeps_told ours (g.told old) (g.told new) (ap (λ (d : D). g.told d) did.disk)
  files_by (Err (install.NoMemory back)) did = keeps_told ours (g.told old) (g.told new) did.2.told
  files_by (Err (install.Disk name)) did =
      keeps_changed ours (g.told old) (g.told new)
      (then_kept ours (g.told old) (g.told did.1.begun) (g.told new) (quiet_kept did.1.begun did.1.unchanged)
      (stops_kept did.1.begun name did.1.stops))

  -- What told nothing goes on telling nothing.
  pub untold_by : (result : Result (Unit {0}) (InstallFail (Base H R) H W s))
      → InstallsUnraced g bytes w job old new before after result → OnOk result (StaysUntold (g.told old) (g.told new))
  untold_by (Ok done) did = λ untold. let put = put_kept did.1 in put.changed ∙ ap (option_map put.change) untold
  untold_by (Err why) did = tt
