-- What an install line makes of a state, and does to a disk that holds it, by what the engine carried out.
use Rattle.std.proofs.Common.{◌≡◌, ◌⊎◌, ⊎_elim, inl, inr, ◌≤◌, ◌<◌, ◌+◌, ℕ, ◌==◌, Bool, true, false, ◌||◌, List, []}
use Rattle.std.proofs.Common.{◌∷◌, ◌++◌, map, refl, ap, sym, ◌∙◌, subst, arith}
use Rattle.std.proofs.lemmas.Bool.Decides.{nat_tests}
use Rattle.std.proofs.lemmas.List.Elements.{recursion_from_All}
use Rattle.std.specs.List.{AllByRecursion, AllZip}
use Rattle.std.specs.Option.{ForSome, option_map}
use Rattle.std.specs.Prelude.{◌≢◌, Option, None, Some, IsSome, Ok, Err, Result, OnOk, nat_le}
use Rattle.vl_back.specs.Writing.{IsKept}
use Rattle.vl_compact.specs.Progress.{IsTableFile, made_of}
use Rattle.vl_compact.specs.declared.files.Synced.{Synced}
use Rattle.vl_compact.specs.declared.job.Job.{Job as TheJob}
use Rattle.vl_disk.specs.Calls.{ChangesNothing}
use Rattle.vl_disk.specs.Crash.{Image}
use Rattle.vl_disk.specs.DiskState.{DiskState, File, settled}
use Rattle.vl_disk.specs.Faults.{after_calls}
use Rattle.vl_disk.specs.Lending.{adopted}
use Rattle.vl_disk.specs.Name.{file_number}
use Rattle.vl_disk.specs.Moments.{While}
use Rattle.vl_disk.specs.Performs.{calls_on}
use Rattle.vl_disk.specs.declared.name.Name.{Name as FileName}
use Rattle.vl_disk.specs.declared.name.Name.TheVariants.{Log, Manifest, Table as TableFile}
use Rattle.vl_disk.specs.declared.watched.Watched.{Ghosts}
use Rattle.vl_disk.specs.declared.writer.Writer.{Ghosts as Writers}
use Rattle.vl_disk.specs.laws.NameMap.{get_inserted, get_inserted_other, same_or_other}
use Rattle.std.specs.FinMap.{get}
use Rattle.vl_engine_laws.specs.Carries.{Carries}
use Rattle.vl_steps.specs.Installing.{InstallFailed, InstallLeavesDisk, IsHandedIn, KeepsAllBut, MayInstall}
use Rattle.vl_steps.specs.Installing.{StopsInstall, StopsSwitching, WritesInstall, at_manifest, at_table}
use Rattle.vl_steps.specs.Installing.{install_otherwise, numbers_in}
use Rattle.vl_engine_laws.specs.Lent.{Opens}
use Rattle.vl_engine_laws.specs.Lent as lending
use Rattle.vl_steps.specs.Merging.{HasAllMerge, install_effects, install_outcome, made_numbers}
use Rattle.vl_engine_laws.specs.Lent.{StandsOpen}
use Rattle.vl_engine_laws.specs.Represents as engine
use Rattle.vl_engine_laws.specs.Represents.{IsHeld, IsLive}
use Rattle.vl_engine_laws.specs.Shown.{Shown}
use Rattle.vl_engine_laws.specs.MayStep.{AreLogFiles, Fits, LeavesNumbers, MayStep}
use Rattle.vl_steps.specs.Taking.{StopsTaking, Takes, file_in, file_of_table, with_files}
use Rattle.vl_engine.specs.UnderWay.{IsUnderWay}
use Rattle.vl_steps.specs.declared.fails.InstallFail.{InstallFail}
use Rattle.vl_steps.specs.declared.fails.InstallFail.TheVariants as uninstalled
use Rattle.vl_engine_laws.specs.declared.kept.Core.{Core}
use Rattle.vl_engine_laws.specs.declared.open.OpenMerge.{OpenMerge}
use Rattle.vl_engine_laws.specs.laws.InstallRulings.{GoesOn, install_made_so, install_version}
use Rattle.vl_engine_model.specs.Decides.{Answered, Decides}
use Rattle.vl_engine_model.specs.Jobs.{AreLent, Made, lent_numbers, loose, tables_made}
use Rattle.vl_engine_model.specs.Merging.{outputs}
use Rattle.vl_engine_model.specs.Ruling.{Ruling}
use Rattle.vl_engine_model.specs.Rulings.Sweep.{job_pin, pass_pin}
use Rattle.vl_engine_model.specs.Rulings.Install as rulings
use Rattle.vl_engine_model.specs.Rulings.Install.{InstallAnswer, install_ruling, race}
use Rattle.vl_engine_model.specs.Sources.{numbers_of}
use Rattle.vl_engine_model.specs.Store.Dispatch.{install_by, install_told}
use Rattle.vl_engine_model.specs.Store.Lines as store_lines
use Rattle.vl_engine_model.specs.Store.Lines.{Name}
use Rattle.vl_engine_model.specs.Store.Things.{AJob, APass, ATransaction, AView, Step, Thing, only, thing_in, thing_of}
use Rattle.vl_engine_model.specs.Store.Things.{without_name, without_thing}
use Rattle.vl_engine_model.specs.declared.job.Job.{Job}
use Rattle.vl_engine_model.specs.declared.job.OpenJob.{OpenJob}
use Rattle.vl_engine_model.specs.declared.layout.Layout.{Layout}
use Rattle.vl_engine_model.specs.declared.live.Live.{Live}
use Rattle.vl_manifest.specs.Switching.{WhileSwitching}
use Rattle.vl_mem.specs.laws.CrashChance.{IsTornByPieces}
use Rattle.vl_model.specs.History.{History, last_number}
use Rattle.vl_model.specs.Limits.{max_epoch}
use Rattle.vl_model.specs.Numbers.{has}
use Rattle.vl_model.specs.declared.entry.Entry.{Entry}
use Rattle.vl_recover.specs.crash.Alike.{IsLeft}
use Rattle.vl_recover.specs.crash.Held.{AllSettled}
use Rattle.vl_version.specs.declared.base.Base.{Base}
use Rattle.vl_script_model.specs.Between.{ShowsBetween}
use Rattle.vl_script_model.specs.Durable.{CarriesOut, CrashesShow, HoldsCommits, HoldsState, LeadsTo, StopsWithin}
use Rattle.vl_script_model.specs.Failing.{IsTableOf}
use Rattle.vl_script_model.specs.Halts.{HaltsBeside, HaltsByDisk, HaltsByRead}
use Rattle.vl_replay.specs.Handed.{CanHandIn}
use Rattle.vl_replay_laws.specs.Replaying.{IsWaiting, MakesStep, Merges, StandsIn, TakesPlanned, Waits, state_by}
use Rattle.vl_script_model.specs.Sequential.{IsPrinted, State, history_of, state_after, step_to, without_lengths}
use Rattle.vl_replay_laws.specs.Standing.{Corresponds, Stand, open_in}
use Rattle.vl_script_model.specs.Stopped.{AreNumberedUpTo, StopsStep, step_failed}
use Rattle.vl_script_model.specs.Stored.{IsStopped, IsStored}
use Rattle.vl_script_model.specs.declared.fails.Halt.{Halt}
use Rattle.vl_script_model.specs.declared.fails.Halt.TheVariants as why
use Rattle.vl_replay_laws.specs.declared.open.Open.{Open}
use Rattle.vl_replay_laws.specs.declared.open.Thing.{Thing as OpenThing}
use Rattle.vl_replay_laws.specs.declared.open.Thing.TheVariants.{Transaction, View}
use Rattle.vl_replay_laws.specs.declared.planned.Planned.{Planned}
use Rattle.vl_script_model.specs.laws.Growing.{Keeps}
use Rattle.vl_script_model.specs.laws.Laws.{IsSound, state_after-sound}
use Rattle.vl_script.specs.declared.answer.Answer.{Answer}
use Rattle.vl_script.specs.declared.answer.Answer.TheVariants as answers
use Rattle.vl_script.specs.declared.line.Line.TheVariants as lines
use Rattle.vl_script_model.specs.laws.Betweens.{extends_itself}
use Rattle.vl_replay_laws.specs.laws.Disk.Carried.{quiet_carries}
use Rattle.vl_script_model.specs.laws.DiskSteps.{IsWatched, own_commits}
use Rattle.vl_script_model.specs.laws.HeldDisk.{stored_by}
use Rattle.vl_replay_laws.specs.laws.Disk.Stepped.{at_each, at_most}
use Rattle.vl_replay.proofs.Merges.Handing.{handed_back, handed_in}
use Rattle.vl_replay_laws.specs.laws.Merges.Installs.{InstallsOf, IsNoHalt, install_installs}
use Rattle.vl_replay_laws.specs.laws.Names.Untabled.{pinned_up_to}
use Rattle.vl_replay_laws.specs.laws.Names.Ending.{still_stands}
use Rattle.vl_replay_laws.specs.laws.Names.Lookups.{taken_none, thing_gone, thing_left}
use Rattle.vl_replay_laws.specs.laws.Names.Making.{only_makes}
use Rattle.vl_replay_laws.specs.laws.Names.Serving.{represents}
use Rattle.vl_replay_laws.specs.laws.Names.Standings.{same_or_not, stands_without}
use Rattle.vl_script_model.specs.laws.TornSteps.{settled_torn, switching_torn}

none_some : {T : Type 0} (x : T) → None ≡ Some x → ⊥
none_some x e = cc

some_same : {T : Type 0} (a b : T) → Some a ≡ Some b → a ≡ b
some_same a b e = cc

-- ---- what is taken out

abbrev pub waiting_as : {V H W : Type 0} {k : _} → Name → TheJob V H W k → Planned V H W k
waiting_as name job = record { name = name; job = job }

module _ {V H W : Type 0} {k : _} (name : Name) (old new : Option (Planned V H W k)) where
  -- the one that waits, which has this name
  pub record WasPlanned (job : TheJob V H W k) : Type 0 where
    pub its_name : Name
    pub is : old ≡ Some (waiting_as its_name job)
    pub gone : new ≡ None
    pub named : its_name ≡ name

pub was_planned : {V H W : Type 0} {k : _} (name : Name) (old new : Option (Planned V H W k)) (job : TheJob V H W k)
    → TakesPlanned name old new (Some job) → WasPlanned name old new job
was_planned name None new job (none, is) = absurd (none_some job (sym is))
was_planned name (Some planned) new job (gone, named, same) =
    record {
      its_name = planned.name;
      is = ap (λ (x : TheJob _ _ _ _). Some (waiting_as planned.name x)) (sym same);
      gone = gone;
      named = named;
    }

pub unplanned : {V H W : Type 0} {k : _} (name : Name) (old new : Option (Planned V H W k)) → TakesPlanned name old new None
    → (new ≡ old) × ((planned : Planned V H W k) → old ≡ Some planned → planned.name ≡ name → ⊥)
unplanned name None new (none, is) = (none, λ planned there named. none_some planned there)
unplanned name (Some planned) new (still, apart) =
    (still, λ other there named. apart (ap (λ (p : Planned _ _ _ _). p.name) (some_same planned other there) ∙ named))

-- so it can be handed in
pub handed_so : {D V H W : Type 0} (g : Ghosts D) (w : Writers W) {k : _} (disk : D) (halted : Option FileName) (merging : Option OpenMerge)
    (name : Name) (old new : Option (Planned V H W k)) (job : TheJob V H W k) → WasPlanned name old new job
    → CanHandIn g w disk merging old → IsHandedIn g w disk halted merging job
handed_so g w disk halted merging name old new job was can =
    handed_in g w disk halted merging job (can (waiting_as was.its_name job) was.is)

-- and given up, where it was handed back as it was and the disk was left alone
pub back_so : {D V H W : Type 0} (g : Ghosts D) (w : Writers W) {k : _} (old new : D) (halted : Option FileName)
    (merging merging' : Option OpenMerge) (name : Name) (before after : Option (Planned V H W k)) (job back : TheJob V H W k)
    → WasPlanned name before after job → CanHandIn g w old merging before → (back ≡ job) × (merging' ≡ merging)
    → g.told new ≡ g.told old → IsUnderWay g w new halted merging' back
back_so g w old new halted merging merging' name before after job back was can same told =
    handed_back g w old new halted merging merging' job back same told (can (waiting_as was.its_name job) was.is)

-- ---- a name that stands for no merge

-- it stands for none
abbrev IsNoJob : Option Thing → Type 0
IsNoJob o = (job : Job) (made : Made) → o ≡ Some (AJob job made) → ⊥

module _ (s : State) (name : Name) where
  -- another one waits, or none
  pub no_merge : {W H R : Type 0} (w : Writers W) (bytes : H → Option (List ℕ)) {k : _} (planned : Option (Planned (Base H R) H W k))
      → Waits w bytes planned s.store.things s.store.layout
      → ((p : Planned (Base H R) H W k) → planned ≡ Some p → p.name ≡ name → ⊥) → IsNoJob (thing_of s.store name)
  no_merge w bytes None (none, free) apart job made is = free name job made is
  no_merge w bytes (Some planned) waits apart job made is = apart planned refl (sym (waits.only name job made is))

  unknown_by : (o : Option Thing) → IsNoJob o → install_by s.store name o ≡ only (store_lines.Unknown name) s.store
  unknown_by None none = refl
  unknown_by (Some (ATransaction t b)) none = refl
  unknown_by (Some (AView v b)) none = refl
  unknown_by (Some (AJob job made)) none = absurd (none job made refl)
  unknown_by (Some (APass pass batch)) none = refl

  pub unknown_step : IsNoJob (thing_of s.store name) → step_to s (lines.Install name) ≡ only (store_lines.Unknown name) s.store
  unknown_step none = unknown_by (thing_of s.store name) none

pub unknown_install : {H R : Type 0} (bytes : H → Option (List ℕ)) (seen : Option DiskState) (core : Core H) (os : List (Open H R))
    (s : State)
    (stands : StandsIn bytes seen core os s) (name : Name) → step_to s (lines.Install name) ≡ only (store_lines.Unknown name) s.store
    → MakesStep bytes seen core os s (step_to s (lines.Install name)) (Ok (answers.Unknown name))
unknown_install bytes seen core os s stands name is =
    only_makes bytes seen core os s stands os (step_to s (lines.Install name)) (answers.Unknown name) (store_lines.Unknown name) is
    refl stands.names

pub unknown_carries : {D H R : Type 0} (g : Ghosts D) (watched : IsWatched g) (bytes : H → Option (List ℕ)) (core : Core H)
    (os : List (Open H R))
    (disk : D) (s : State) (stands : StandsIn bytes (g.told disk) core os s) (name : Name)
    → step_to s (lines.Install name) ≡ only (store_lines.Unknown name) s.store
    → CarriesOut g IsStored Shown IsStopped disk disk s (state_after s (lines.Install name)) (Ok (answers.Unknown name))
unknown_carries g watched bytes core os disk s stands name is =
    quiet_carries g watched bytes (g.told disk) core os s (step_to s (lines.Install name))
    (subst (λ (x : Step). Keeps s.store x) (sym is) (record { commits = refl; layout = refl; calls = refl })) (Ok (answers.Unknown name))
    (unknown_install bytes (g.told disk) core os s stands name is) (λ halts. halts) disk disk refl

-- ---- files that are taken back

-- what a writer tells of a table's file is durable
abbrev IsDurable : {W : Type 0} → Writers W → {k : _} → Synced W k → Type 0
IsDurable w t = file_of_table w t ≡ settled (file_of_table w t).bytes

adopted_settled : (name : FileName) (file : File) (disk : DiskState) → AllSettled disk → file ≡ settled file.bytes
    → AllSettled (adopted name file disk)
adopted_settled name file disk settled_old durable q other there = ⊎_elim
    (λ (e : q ≡ name).
    let is : file ≡ other = some_same file other
    (sym (get_inserted disk.standing name file) ∙ ap (get (adopted name file disk).standing) (sym e) ∙ there) in
    subst (λ (f : File). f ≡ settled f.bytes) is durable)
    (λ (apart : q ≢ name). settled_old q other (sym (get_inserted_other disk.standing name file q apart) ∙ there))
    (same_or_other q name)

module _ {W : Type 0} (w : Writers W) {k : _} where
  durable_one : (t : Synced W k) (es : List Entry) → IsTableFile w t es → IsSome (w.file t.writer) → IsDurable w t
  durable_one t es is tells = by (w.file t.writer) refl
    where
      not_some : IsSome {T = File} None → ⊥
      not_some e = cc

      own_bytes : (f : File) (bs : List ℕ) → f ≡ settled bs → f ≡ settled f.bytes
      own_bytes f bs e = e ∙ ap settled (sym (ap (λ (x : File). x.bytes) e))

      by : (o : Option File) → w.file t.writer ≡ o → file_in (w.file t.writer) ≡ settled (file_in (w.file t.writer)).bytes
      by None there = absurd (not_some (subst IsSome there tells))
      by (Some f) there = subst (λ (x : Option File). file_in x ≡ settled (file_in x).bytes) (sym there) (own_bytes f _ (is.file f there))

  all_durable : (ts : List (Synced W k)) (outs : List (List Entry)) → AllZip (IsTableFile w) ts outs
      → AllByRecursion (λ (t : Synced W k). IsSome (w.file t.writer)) ts → AllByRecursion (IsDurable w) ts
  all_durable [] outs zip tells = tt
  all_durable (t ∷ ts) [] zip tells = absurd zip
  all_durable (t ∷ ts) (es ∷ outs) zip tells = (durable_one t es zip.0 tells.0, all_durable ts outs zip.1 tells.1)

  until : (P : Synced W k → Type 0) (front : List (Synced W k)) (at : Synced W k) (left : List (Synced W k))
      → AllByRecursion P (front ++ at ∷ left)
      → AllByRecursion P (front ++ at ∷ [])
  until P [] at left all = (all.0, tt)
  until P (t ∷ front) at left all = (all.0, until P front at left all.1)

  before_none : (P : Synced W k → Type 0) (front : List (Synced W k)) → AllByRecursion P (front ++ []) → AllByRecursion P front
  before_none P [] all = tt
  before_none P (t ∷ front) all = (all.0, before_none P front all.1)

  files_settled : (ts : List (Synced W k)) (disk : DiskState) → AllSettled disk → AllByRecursion (IsDurable w) ts
      → AllSettled (with_files w ts disk)
  files_settled [] disk settled_old all = settled_old
  files_settled (t ∷ ts) disk settled_old all =
      files_settled ts (adopted (TableFile t.number) (file_of_table w t) disk)
      (adopted_settled (TableFile t.number) (file_of_table w t) disk settled_old all.0) all.1

  -- the numbers of its tables
  numbers_same : (ts : List (Synced W k)) (outs : List (List Entry)) → AllZip (IsTableFile w) ts outs
      → numbers_of (tables_made (map (λ (t : Synced W k). t.number) ts) outs) ≡ map (λ (t : Synced W k). t.number) ts
  numbers_same [] [] zip = refl
  numbers_same [] (es ∷ outs) zip = refl
  numbers_same (t ∷ ts) [] zip = absurd zip
  numbers_same (t ∷ ts) (es ∷ outs) zip = ap (λ (ns : List ℕ). t.number ∷ ns) (numbers_same ts outs zip.1)

  -- Where an install failed, what isn't durable is torn by pieces.
  module _ {D H R : Type 0} (g : Ghosts D) (watched : IsWatched g) (bytes : H → Option (List ℕ)) (core : Core H) (h : History)
      (l : Layout) (old new : D)
      (is : engine.Represents bytes core (g.told old) h l) (running : l.halted ≡ None) (job : TheJob (Base H R) H W k) (j : Job)
      (has_all : HasAllMerge w bytes job j)
      (tells : (state : DiskState) → g.told old ≡ Some state
      → AllByRecursion (λ (t : Synced W k). IsSome (w.file t.writer)) job.made.items) where
    pub install_torn : WritesInstall g bytes w job core old new → (now : DiskState) → g.told new ≡ Some now → IsTornByPieces now
    install_torn writes now told = ⊎_elim at_one switching writes.stops
      where
        held : IsHeld core.back (g.told old) h l
        held = is.held running

        told_begun : g.told writes.begun ≡ Some held.state
        told_begun = writes.unchanged.told ∙ held.told_is

        durable : AllByRecursion (IsDurable w) job.made.items
        durable = all_durable job.made.items (outputs j) has_all.made (tells held.state held.told_is)

        taken : (ts : List (Synced W k)) (mid : D) → Takes g w ts writes.begun mid → g.told mid ≡ Some (with_files w ts held.state)
        taken ts mid takes = subst (λ (o : Option DiskState). g.told mid ≡ option_map (with_files w ts) o) told_begun takes.changed

        at_one : StopsTaking g w job.made.items writes.begun new writes.name → IsTornByPieces now
        at_one stops =
            let ts = stops.before ++ stops.at ∷ [] in
            let same : with_files w ts held.state ≡ now = some_same (with_files w ts held.state) now
            (sym (taken ts new stops.takes) ∙ told) in
            subst IsTornByPieces same (settled_torn (with_files w ts held.state) (files_settled ts held.state held.holds.durable
            (until (IsDurable w) stops.before stops.at stops.left (subst (AllByRecursion (IsDurable w)) stops.made_are durable))))

        switching : StopsSwitching g bytes w job.made.items core.back.manifest.number writes.ready.staged.edits.frame.items writes.begun new
            writes.ready.levels writes.levels writes.name → IsTornByPieces now
        switching stops =
            let front = stops.took.front in
            let told_mid = taken front stops.mid stops.took.takes in
            let settled_mid : AllSettled (with_files w front held.state) = files_settled front held.state held.holds.durable
            (before_none (IsDurable w) front (subst (AllByRecursion (IsDurable w)) stops.took.made_are durable)) in
            let time = stops.switches.performs.time in
            ⊎_elim
            (λ (early : g.states_since stops.mid (g.moment stops.mid) now).
            subst IsTornByPieces (sym (watched.only_now stops.mid (with_files w front held.state) now told_mid early))
            (settled_torn (with_files w front held.state) settled_mid))
            (λ (during : While (g.told stops.mid) (WhileSwitching core.back.manifest.number writes.ready.staged.edits.frame.items) now).
            switching_torn (with_files w front held.state) settled_mid (Manifest core.back.manifest.number)
            writes.ready.staged.edits.frame.items now
            (during (with_files w front held.state) told_mid))
            (time.nothing_else (g.moment stops.mid) now (omega arith) (watched.counts_now new now (g.moment stops.mid) told time.later))

-- ---- where it stopped

-- so many calls were made
pub install_made_calls : {V H W : Type 0} {k : _} (job : TheJob V H W k) (manifest before now : ℕ) (name : FileName)
    → StopsInstall job manifest before now name
    → (made : ℕ) × (made ≤ 2) × (now ≡ after_calls made before)
install_made_calls job manifest before now name (at_table n is has same) = (0, omega arith, same)
install_made_calls job manifest before now name (at_manifest failed) = at_most (calls_on 2 (Manifest manifest)) before now name failed

-- at one of its tables, or at the manifest
pub install_named : {H R W : Type 0} (w : Writers W) (bytes : H → Option (List ℕ)) {k : _} (job : TheJob (Base H R) H W k) (j : Job)
    (thing : Option Thing)
    → thing ≡ Some (AJob j (made_of job j)) → HasAllMerge w bytes job j → (manifest before now : ℕ) (name : FileName)
    → StopsInstall job manifest before now name → IsTableOf thing name ⊎ (name ≡ Manifest manifest)
install_named w bytes job j thing there has_all manifest before now name (at_table n is has_it same) =
    inl (j, made_of job j, n, there, is, ap (has n) (numbers_same w job.made.items (outputs j) has_all.made) ∙ has_it)
install_named w bytes job j thing there has_all manifest before now name (at_manifest failed) =
    inr (at_each (λ (n : FileName). n ≡ Manifest manifest) (calls_on 2 (Manifest manifest)) before now name (refl, (refl, tt)) failed)

-- ---- how an install is answered

abbrev pub install_answer : {V H W : Type 0} {k : _} → Result (Unit {0}) (InstallFail V H W k) → Result Answer Halt
install_answer (Ok done) = Ok answers.Done
install_answer (Err (uninstalled.Halted file)) = Err (why.Halted file)
install_answer (Err (uninstalled.Raced key number)) = Ok (answers.Raced key)
install_answer (Err (uninstalled.Exhausted counter)) = Ok (answers.Exhausted counter)
install_answer (Err (uninstalled.NoMemory job)) = Err why.NoMemory
install_answer (Err (uninstalled.Disk file)) = Err (why.Disk file)

-- what every answer gives is so where a line is answered
on_answered : {V H W : Type 0} {k : _} (P : Type 0) (result : Result (Unit {0}) (InstallFail V H W k))
    → ((a : InstallAnswer) → install_outcome result ≡ Answered a → P) → OnOk (install_answer result) P
on_answered P (Ok done) each = each rulings.Installed refl
on_answered P (Err (uninstalled.Halted file)) each = tt
on_answered P (Err (uninstalled.Raced key number)) each = each (rulings.Raced key number) refl
on_answered P (Err (uninstalled.Exhausted counter)) each = each (rulings.Exhausted counter) refl
on_answered P (Err (uninstalled.NoMemory job)) each = tt
on_answered P (Err (uninstalled.Disk file)) each = tt

-- by the fail that it was
pub answer_as : {V H W : Type 0} {k : _} (result : Result (Unit {0}) (InstallFail V H W k)) (fail other : InstallFail V H W k)
    → result ≡ Err fail → fail ≡ other
    → install_answer result ≡ install_answer (Err other)
answer_as result fail other is same =
    ap (λ (x : Result (Unit {0}) (InstallFail _ _ _ _)). install_answer x) is ∙ ap (λ (x : InstallFail _ _ _ _). install_answer (Err x)) same

-- ---- the line

module _ {D H R S W : Type 0} (g : Ghosts D) (w : Writers W) (bytes : H → Option (List ℕ)) {k : _} (before after : Core H) (old new : D)
    (merging : Option OpenMerge) (os : List (Open H S)) (s : State) (stands : StandsIn bytes (g.told old) before os s) (name : Name)
    (planned : Planned (Base H R) H W k) (named : planned.name ≡ name)
    (waits : IsWaiting w bytes planned s.store.things s.store.layout) where
  abbrev h : History
  h = history_of s

  abbrev l : Layout
  l = s.store.layout

  abbrev pub j : Job
  j = waits.open_job.job

  abbrev pub made : Made
  made = made_of planned.job j

  abbrev pub r : Ruling InstallAnswer
  r = install_ruling l h j made

  installs : InstallsOf l h r
  installs = install_installs l h j made
      (pinned_up_to l.epoch (loose (lent_numbers l.job) ++ l.retired) l.live (job_pin l.job) (pass_pin l.pass)
      stands.engine.tidy.files.stocked.pinned)

  pub there : thing_of s.store name ≡ Some (AJob j made)
  there = subst (λ (n : Name). thing_in s.store.things n ≡ Some (AJob j made)) named waits.there

  -- the line as the store has it
  abbrev line : Step
  line = record { answer = install_told r.answer; state = without_thing s.store r.layout name; calls = r.calls }

  step_is : step_to s (lines.Install name) ≡ line
  step_is = ap (install_by s.store name) there

  -- nothing that reads has its name
  free : open_in os name ≡ None
  free = none_open (open_in os name)
      (subst (λ (o : Option Thing). Corresponds {H = H} {R = S} bytes h l (open_in os name) o) there (stands.names.each name))
    where
      none_open : (o : Option (OpenThing H S)) → Corresponds bytes h l o (Some (AJob j made)) → o ≡ None
      none_open None is = refl
      none_open (Some (Transaction txn)) is = absurd is
      none_open (Some (View view)) is = absurd is

  -- what the other names stand for stands on
  names_on : Stand bytes os (without_name name s.store.things) h r.layout
  names_on = stands_without bytes s.store.things h h l r.layout os os stands.names name None (taken_none name os stands.names.once free)
      (λ other apart x y at is. still_stands bytes h h l r.layout (extends_itself h) (λ (ticket : ℕ). Unit {0})
      (λ ticket number on lives. subst (λ (xs : List Live). IsLive (record r.layout { live = xs }) ticket number) (sym installs.live) lives)
      (λ ticket number on lives. installs.bare ticket number lives) x y (λ z found reads. tt) is)

  -- How it was stopped, of two calls. So many of them were made.
  pub record StopsInstalls : Type 0 where
    pub ruled : r.calls ≡ 2
    pub calls_made : ℕ
    pub most : calls_made ≤ 2
    pub calls : g.calls new ≡ after_calls calls_made (g.calls old)
    -- what a crash leaves then gives no number above the next ones, and is torn by pieces
    pub numbers : engine.Represents bytes before (g.told old) h l → (now : DiskState) → g.told new ≡ Some now
        → LeavesNumbers l.next_log l.next_table now
    pub torn : engine.Represents bytes before (g.told old) h l → (now : DiskState) → g.told new ≡ Some now → IsTornByPieces now

  -- What the engine did, by its answer.
  pub record DidInstall (result : Result (Unit {0}) (InstallFail (Base H R) H W k)) : Type 0 where
    pub decides : Decides (StandsOpen bytes after merging) h l r (install_otherwise l made) (install_outcome result)
        (install_effects result)
    pub fits : Decides (Fits (g.told new) after) h l r (install_otherwise l made) (install_outcome result) (install_effects result)
    pub carries : engine.Represents bytes before (g.told old) h l
        → Carries g bytes old new after h l r (install_otherwise l made) (install_outcome result) (install_effects result)
    pub untouched : InstallLeavesDisk result → ChangesNothing g old new ⊥
    -- of the files only its tables came
    pub files : KeepsAllBut (made_numbers planned.job) (g.told old) (g.told new)
    pub near : (n : ℕ) → has n (made_numbers planned.job) ≡ true → n < l.next_table
    pub within : (InstallFailed result → ⊥) → after.back.state.next_log ≤ after.back.next_log
    pub stops : InstallFailed result → StopsInstalls

  -- ---- what it makes

  stands_then : (result : Result (Unit {0}) (InstallFail (Base H R) H W k)) → DidInstall result → (a : InstallAnswer)
      → install_outcome result ≡ Answered a
      → (InstallFailed result → ⊥) → StandsIn bytes (g.told new) after os (state_by s line)
  stands_then result did a is fine =
      let on = (did.decides.answered a is).1 in
      record {
        engine = subst (λ (q : History). engine.StandsFor bytes after q r.layout) installs.history on.stands;
        names = names_on;
        sound = subst (λ (x : Step). IsSound (state_by s x)) step_is (state_after-sound s (lines.Install name) stands.sound);
        held = λ openable. subst (λ (q : History). IsHeld after.back (g.told new) q r.layout) installs.history
            (((did.carries (represents bytes (g.told old) before os s stands openable)).decides.answered a is).1.held
            (installs.running stands.running));
        running = installs.running stands.running;
        fits = subst (λ (q : History). Fits (g.told new) after q r.layout) installs.history (did.fits.answered a is).1;
        within = did.within fine;
      }

  makes_so : (result : Result (Unit {0}) (InstallFail (Base H R) H W k)) → DidInstall result → (a : InstallAnswer)
      → install_outcome result ≡ Answered a
      → (InstallFailed result → ⊥) → (told : Answer) → IsPrinted told (install_told a)
      → MakesStep bytes (g.told new) after os s (step_to s (lines.Install name)) (Ok told)
  makes_so result did a is fine told tells =
      subst (λ (x : Step). MakesStep bytes (g.told new) after os s x (Ok told)) (sym step_is)
      (tells ∙ ap (λ (b : InstallAnswer). without_lengths (install_told b)) (did.decides.answered a is).0, stands_then result did a is fine)

  -- It is answered as the engine answers.
  pub install_makes : (result : Result (Unit {0}) (InstallFail (Base H R) H W k)) → DidInstall result
      → MakesStep bytes (g.told new) after os s (step_to s (lines.Install name)) (install_answer result)
  install_makes (Ok done) did = makes_so (Ok done) did rulings.Installed refl (λ failed. failed) answers.Done refl
  install_makes (Err (uninstalled.Halted file)) did = tt
  install_makes (Err (uninstalled.Raced key number)) did =
      makes_so (Err (uninstalled.Raced key number)) did (rulings.Raced key number) refl (λ failed. failed) (answers.Raced key) refl
  install_makes (Err (uninstalled.Exhausted counter)) did =
      makes_so (Err (uninstalled.Exhausted counter)) did (rulings.Exhausted counter) refl (λ failed. failed)
      (answers.Exhausted counter) refl
  install_makes (Err (uninstalled.NoMemory job)) did = tt
  install_makes (Err (uninstalled.Disk file)) did = tt

  -- An engine that stands for what isn't halted isn't halted.
  pub install_sound : (result : Result (Unit {0}) (InstallFail (Base H R) H W k)) → DidInstall result
      → HaltsByRead (install_answer result) → ⊥
  install_sound (Ok done) did halts = halts
  install_sound (Err (uninstalled.Halted file)) did halts =
      let same = (did.decides.answered (rulings.Halted (engine.file_of file)) refl).0 in
      subst IsNoHalt (sym same) (installs.no_halt stands.running)
  install_sound (Err (uninstalled.Raced key number)) did halts = halts
  install_sound (Err (uninstalled.Exhausted counter)) did halts = halts
  install_sound (Err (uninstalled.NoMemory job)) did halts = halts
  install_sound (Err (uninstalled.Disk file)) did halts = halts

  -- ---- what waits

  -- none waits, and none is open
  none_waits : (result : Result (Unit {0}) (InstallFail (Base H R) H W k)) → DidInstall result → (a : InstallAnswer)
      → install_outcome result ≡ Answered a
      → let x = step_to s (lines.Install name) in Merges {H = H} {R = R} w bytes {g = k} merging None x.state.things x.state.layout
  none_waits result did a is =
      subst (λ (x : Step). Merges {H = H} {R = R} w bytes {g = k} merging None x.state.things x.state.layout) (sym step_is) (record {
        opens = (did.decides.answered a is).1.opens;
        waits = (
          installs.job,
          λ other job' made' at. ⊎_elim
              (λ (same : other ≡ name). none_some (AJob job' made') (sym (thing_gone name s.store.things)
              ∙ subst (λ (q : Name). thing_in (without_name name s.store.things) q ≡ Some (AJob job' made')) same at))
              (λ (apart : other ≡ name → ⊥).
              apart (waits.only other job' made' (sym (thing_left name other apart s.store.things) ∙ at) ∙ named))
              (same_or_not other name),
        );
      })

  pub install_merges : (result : Result (Unit {0}) (InstallFail (Base H R) H W k)) → DidInstall result
      → let x = step_to s (lines.Install name) in
      OnOk (install_answer result) (Merges {H = H} {R = R} w bytes {g = k} merging None x.state.things x.state.layout)
  install_merges (Ok done) did = none_waits (Ok done) did rulings.Installed refl
  install_merges (Err (uninstalled.Halted file)) did = tt
  install_merges (Err (uninstalled.Raced key number)) did = none_waits (Err (uninstalled.Raced key number)) did
      (rulings.Raced key number) refl
  install_merges (Err (uninstalled.Exhausted counter)) did = none_waits (Err (uninstalled.Exhausted counter)) did
      (rulings.Exhausted counter) refl
  install_merges (Err (uninstalled.NoMemory job)) did = tt
  install_merges (Err (uninstalled.Disk file)) did = tt

  -- ---- over a disk that holds the state

  -- the state behind it
  abbrev behind : State
  behind = state_by s line

  module _ (watched : IsWatched g) (held : HoldsState g IsStored s old) where
    represented : engine.Represents bytes before (g.told old) h l
    represented = represents bytes (g.told old) before os s stands held.there.2.openable

    log_near : l.next_log ≤ s.files + 1
    log_near = held.there.2.next_log

    table_near : l.next_table ≤ s.files + 1
    table_near = held.there.2.next_drawn

    module _ (result : Result (Unit {0}) (InstallFail (Base H R) H W k)) (did : DidInstall result) where
      carried : Carries g bytes old new after h l r (install_otherwise l made) (install_outcome result) (install_effects result)
      carried = did.carries represented

      -- a file is one of its tables, or stands as before
      abbrev StandsSo : DiskState → FileName → Type 0
      StandsSo now other = ((n : ℕ) × (other ≡ TableFile n) × (has n (made_numbers planned.job) ≡ true)) ⊎ IsKept other held.there.0 now

      stands_so : (now : DiskState) → g.told new ≡ Some now → (other : FileName) → StandsSo now other
      stands_so now told (Log n) = inr (did.files held.there.0 now held.there.1 told (Log n) (λ m is same. log_apart m same))
        where
          log_apart : (m : ℕ) → Log n ≡ TableFile m → ⊥
          log_apart m e = cc
      stands_so now told (Manifest n) = inr (did.files held.there.0 now held.there.1 told (Manifest n) (λ m is same. manifest_apart m same))
        where
          manifest_apart : (m : ℕ) → Manifest n ≡ TableFile m → ⊥
          manifest_apart m e = cc
      stands_so now told (TableFile n) = of (has n (made_numbers planned.job)) refl
        where
          one : (m : ℕ) → TableFile n ≡ TableFile m → m ≡ n
          one m e = cc

          true_false : true ≡ false → ⊥
          true_false e = cc

          of : (b : Bool) → has n (made_numbers planned.job) ≡ b → StandsSo now (TableFile n)
          of true is = inl (n, refl, is)
          of false is = inr (did.files held.there.0 now held.there.1 told (TableFile n)
              (λ m has_it same. true_false (sym has_it ∙ ap (λ (i : ℕ). has i (made_numbers planned.job)) (one m same) ∙ is)))

      its_number : (other : FileName) → (n : ℕ) × (other ≡ TableFile n) × (has n (made_numbers planned.job) ≡ true)
          → file_number other ≤ s.files
      its_number other (n, is, has_it) =
          let below = did.near n has_it in
          let near = table_near in
          let same = ap file_number is in
          omega (arith, below, near, same)

      numbered : (now : DiskState) → g.told new ≡ Some now → AreNumberedUpTo s.files now
      numbered now told = record {
        standing = λ other stands_now. ⊎_elim (its_number other)
            (λ (kept : IsKept other held.there.0 now). held.there.2.numbered.standing other (λ none. stands_now (kept.0.1 none)))
            (stands_so now told other);
        removed = λ other gone. ⊎_elim (its_number other)
            (λ (kept : IsKept other held.there.0 now). held.there.2.numbered.removed other (λ none. gone (kept.1.1 none)))
            (stands_so now told other);
      }

      -- It was answered by the engine, and so is the line.
      holds_answered : (a : InstallAnswer) → install_outcome result ≡ Answered a → (InstallFailed result → ⊥)
          → HoldsState g IsStored behind new
      holds_answered a is fine = record {
        calls = carried.called a is ∙ ap (after_calls r.calls) held.calls;
        there = stored_by bytes after (g.told new) behind r.history r.layout refl (sym installs.history) held.there.2.openable
            (installs.running stands.running) (carried.decides.answered a is).1 (did.within fine)
            (let near = log_near in let same = installs.next_log in omega (arith, near, same))
            (let near = table_near in let same = installs.next_table in omega (arith, near, same)) numbered;
      }

      -- what a crash leaves shows the history
      through : CrashesShow g Shown old new h h
      through = subst (λ (q : History). CrashesShow g Shown old new h q) installs.history (carried.through stands.running)

      shows_it : (now : DiskState) → g.told new ≡ Some now → (image : Image) → IsLeft now image → Shown image h (last_number h)
      shows_it now told image left =
          exactly (through.each now (watched.counts_now new now (g.moment old) told through.time.later) image left)
        where
          exactly : ShowsBetween Shown h h image → Shown image h (last_number h)
          exactly (m, low, high, shown) = let same : m ≡ last_number h = omega (arith, low, high) in subst (Shown image h) same shown

      stops_step : StopsInstalls → (now : DiskState) → g.told new ≡ Some now → StopsStep Shown s behind 0 now
      stops_step stops now told =
          let near = log_near in
          let table = table_near in
          record {
            same = refl;
            left = shows_it now told;
            files = s.files;
            few = omega arith;
            numbered = numbered now told;
            next = λ image found left.
                let (log, given, head) = stops.numbers represented now told image found.opening left found.opens in
                record { log = omega (arith, log, near); table = omega (arith, given, table) };
            head = λ image found left.
                let (log, given, head) = stops.numbers represented now told image found.opening left found.opens in
                omega (arith, head, near);
            torn = stops.torn represented now told;
          }

      stops_within : StopsInstalls → StopsWithin g IsStopped s behind old new
      unfolding stops_step
      stops_within stops =
          let (now, told, may) = carried.again stands.running in
          record {
            passed = 0;
            has_passed = record { mid = old; counted = held.calls; steady = refl; as_planned = λ stop fails. fails };
            all = 2;
            more = omega arith;
            all_counted = ap (λ (n : ℕ). after_calls n s.calls) stops.ruled;
            made = stops.calls_made;
            least = omega arith;
            most = stops.most;
            calls = stops.calls ∙ ap (after_calls stops.calls_made) held.calls;
            now = now;
            told = told;
            stopped = step_failed (stops_step stops now told) (let own : s.files ≤ s.files = omega arith in own);
          }

    answered_of : (result : Result (Unit {0}) (InstallFail (Base H R) H W k)) → DidInstall result
        → OnOk (install_answer result) (HoldsState g IsStored behind new)
    answered_of (Ok done) did = holds_answered (Ok done) did rulings.Installed refl (λ failed. failed)
    answered_of (Err (uninstalled.Halted file)) did = tt
    answered_of (Err (uninstalled.Raced key number)) did =
        holds_answered (Err (uninstalled.Raced key number)) did (rulings.Raced key number) refl (λ failed. failed)
    answered_of (Err (uninstalled.Exhausted counter)) did =
        holds_answered (Err (uninstalled.Exhausted counter)) did (rulings.Exhausted counter) refl (λ failed. failed)
    answered_of (Err (uninstalled.NoMemory job)) did = tt
    answered_of (Err (uninstalled.Disk file)) did = tt

    -- where memory ran out, nothing was changed
    short_of : (result : Result (Unit {0}) (InstallFail (Base H R) H W k)) → DidInstall result → HaltsBeside (install_answer result)
        → HoldsCommits g IsStored s behind new
    short_of (Ok done) did by = absurd by
    short_of (Err (uninstalled.Halted file)) did by = absurd (install_sound (Err (uninstalled.Halted file)) did by)
    short_of (Err (uninstalled.Raced key number)) did by = absurd by
    short_of (Err (uninstalled.Exhausted counter)) did by = absurd by
    short_of (Err (uninstalled.NoMemory job)) did by = own_commits g IsStored s behind new (record {
      calls = (did.untouched tt).calls ∙ held.calls;
      there = (held.there.0, (did.untouched tt).told ∙ held.there.1, held.there.2);
    })
    short_of (Err (uninstalled.Disk file)) did by = absurd by

    failed_of : (result : Result (Unit {0}) (InstallFail (Base H R) H W k)) → HaltsByDisk (install_answer result) → InstallFailed result
    failed_of (Ok done) halts = halts
    failed_of (Err (uninstalled.Halted file)) halts = halts
    failed_of (Err (uninstalled.Raced key number)) halts = halts
    failed_of (Err (uninstalled.Exhausted counter)) halts = halts
    failed_of (Err (uninstalled.NoMemory job)) halts = halts
    failed_of (Err (uninstalled.Disk file)) halts = halts

    leads : (result : Result (Unit {0}) (InstallFail (Base H R) H W k)) → DidInstall result
        → LeadsTo g IsStored Shown IsStopped old new s behind (install_answer result)
    leads result did = record {
      answered = answered_of result did;
      short = short_of result did;
      tells = (carried result did).again stands.running;
      through = through result did;
      stopped = λ halts clean. stops_within result did (did.stops (failed_of result halts));
    }

  -- An install is carried out so.
  pub install_carries : IsWatched g → (result : Result (Unit {0}) (InstallFail (Base H R) H W k)) → DidInstall result
      → (told : Result Answer Halt)
      → install_answer result ≡ told → (disk : D) → disk ≡ new
      → CarriesOut g IsStored Shown IsStopped old disk s (state_after s (lines.Install name)) told
  install_carries watched result did told is disk same held =
      subst (λ (d : D). LeadsTo g IsStored Shown IsStopped old d s (state_after s (lines.Install name)) told) (sym same)
      (subst (λ (x : Result Answer Halt). LeadsTo g IsStored Shown IsStopped old new s (state_after s (lines.Install name)) x) is
      (subst (λ (x : Step). LeadsTo g IsStored Shown IsStopped old new s (state_by s x) (install_answer result)) (sym step_is)
      (leads watched held result did)))

-- ---- by what the engine says

-- no deletion was moved since, as the engine keeps it, and so as the layout's open job has it
unraced_as : (merging : Option OpenMerge) (opened : Option OpenJob) (o : OpenJob) → Opens merging opened → opened ≡ Some o
    → ForSome merging (λ (merge : OpenMerge). race o.job merge.moved.items ≡ None) → race o.job o.moved ≡ None
unraced_as None None o opens is unraced = absurd (none_some o is)
unraced_as None (Some laid) o opens is unraced = absurd opens
unraced_as (Some merge) None o opens is unraced = absurd opens
unraced_as (Some merge) (Some laid) o opens is unraced =
    ap (race o.job) (ap (λ (x : OpenJob). x.moved) (sym (some_same laid o is)) ∙ sym opens.moved) ∙ unraced merge refl

-- a number that is among these has what each of them has
each_has : (P : ℕ → Type 0) (ns : List ℕ) (n : ℕ) → AllByRecursion P ns → has n ns ≡ true → P n
each_has P [] n all is = absurd cc
each_has P (m ∷ ns) n all is = by (m == n) refl is (each_has P ns n all.1)
  where
    same : (m == n) ≡ true → n ≡ m
    same e = grind (arith, nat_tests, e)

    by : (b : Bool) → (m == n) ≡ b → (b || has n ns) ≡ true → (has n ns ≡ true → P n) → P n
    by true e is later = subst P (sym (same e)) all.0
    by false e is later = later is

has_front : (ms ns : List ℕ) (n : ℕ) → has n ms ≡ true → has n (ms ++ ns) ≡ true
has_front [] ns n is = absurd cc
has_front (m ∷ ms) ns n is = by (m == n) is (has_front ms ns n)
  where
    by : (b : Bool) → (b || has n ms) ≡ true → (has n ms ≡ true → has n (ms ++ ns) ≡ true) → (b || has n (ms ++ ns)) ≡ true
    by true is later = refl
    by false is later = later is

uninstalled_at : {V H W : Type 0} {k : _} (result : Result (Unit {0}) (InstallFail V H W k)) → InstallFailed result
    → (file : FileName) × (result ≡ Err (uninstalled.Disk file))
uninstalled_at (Ok done) failed = absurd failed
uninstalled_at (Err (uninstalled.Halted file)) failed = absurd failed
uninstalled_at (Err (uninstalled.Raced key number)) failed = absurd failed
uninstalled_at (Err (uninstalled.Exhausted counter)) failed = absurd failed
uninstalled_at (Err (uninstalled.NoMemory job)) failed = absurd failed
uninstalled_at (Err (uninstalled.Disk file)) failed = (file, refl)

module _ {D H R W : Type 0} (g : Ghosts D) (w : Writers W) (bytes : H → Option (List ℕ)) {k : _} (before after : Core H) (old new : D)
    (merging merging' : Option OpenMerge) (job : TheJob (Base H R) H W k) where
  -- What an install of the engine says, by what it answered.
  pub record EngineInstalls (result : Result (Unit {0}) (InstallFail (Base H R) H W k)) : Type 0 where
    pub decides : (state : DiskState) (h : History) (l : Layout) (o : OpenJob) → g.told old ≡ Some state
        → StandsOpen bytes before merging h l
        → l.job ≡ Some o → (l.halted ≡ None → AreLogFiles l) → HasAllMerge w bytes job o.job → AreLent o.lent (made_of job o.job)
        → Decides (StandsOpen bytes after merging') h l (install_ruling l h o.job (made_of job o.job))
        (install_otherwise l (made_of job o.job)) (install_outcome result) (install_effects result)
    pub carries : (h : History) (l : Layout) (o : OpenJob) → engine.Represents bytes before (g.told old) h l
        → StandsOpen bytes before merging h l
        → l.job ≡ Some o → HasAllMerge w bytes job o.job → AreLent o.lent (made_of job o.job)
        → Carries g bytes old new after h l (install_ruling l h o.job (made_of job o.job)) (install_otherwise l (made_of job o.job))
        (install_outcome result) (install_effects result)
    pub fits : (h : History) (l : Layout) (o : OpenJob) → StandsOpen bytes before merging h l → l.job ≡ Some o
        → HasAllMerge w bytes job o.job → AreLent o.lent (made_of job o.job) → Fits (g.told old) before h l
        → Decides (Fits (g.told new) after) h l (install_ruling l h o.job (made_of job o.job))
        (install_otherwise l (made_of job o.job)) (install_outcome result) (install_effects result)
    pub untouched : InstallLeavesDisk result → ChangesNothing g old new ⊥
    pub files : KeepsAllBut (made_numbers job) (g.told old) (g.told new)
    pub stopped : (name : FileName) → result ≡ Err (uninstalled.Disk name)
        → StopsInstall job before.back.manifest.number (g.calls old) (g.calls new) name
    pub failed : InstallFailed result → MayInstall before
    pub unraced : (j : Job) → HasAllMerge w bytes job j → InstallFailed result
        → ForSome merging (λ (merge : OpenMerge). race j merge.moved.items ≡ None)
    pub meanwhile : InstallFailed result → WritesInstall g bytes w job before old new
    pub leaves : (h : History) (l : Layout) (now : DiskState) → engine.Represents bytes before (g.told old) h l
        → before.back.state.next_log ≤ before.back.next_log → InstallFailed result → g.told new ≡ Some now
        → LeavesNumbers l.next_log l.next_table now
    pub within : (InstallFailed result → ⊥) → before.back.state.next_log ≤ before.back.next_log
        → after.back.state.next_log ≤ after.back.next_log

  module _ {S : Type 0} (watched : IsWatched g) (handed : IsHandedIn g w old before.front.halted merging job)
      (lent : lending.AreLent g old before.back.state.next_table merging) (os : List (Open H S)) (s : State)
      (stands : StandsIn bytes (g.told old) before os s) (opens : Opens merging s.store.layout.job) (name its_name : Name)
      (named : its_name ≡ name)
      (waits : IsWaiting w bytes (waiting_as its_name job) s.store.things s.store.layout)
      (result : Result (Unit {0}) (InstallFail (Base H R) H W k)) (says : EngineInstalls result) where
    abbrev its_history : History
    its_history = history_of s

    abbrev layout : Layout
    layout = s.store.layout

    stands_open : StandsOpen bytes before merging its_history layout
    stands_open = record { stands = stands.engine; opens = opens }

    may_step : MayStep (g.told old) before.back its_history layout
    may_step = stands.fits.running stands.running

    -- its tables have numbers that were given already
    near : (n : ℕ) → has n (made_numbers job) ≡ true → n < layout.next_table
    near n is =
        let among = each_has (λ (m : ℕ). has m handed.merge.lent.items ≡ true) (numbers_in job) n handed.drawn
        (has_front (made_numbers job) _ n is) in
        let all = recursion_from_All (lending.IsLent g old before.back.state.next_table) handed.merge.lent.items
        (lent handed.merge handed.is_open) in
        let below = (each_has (lending.IsLent g old before.back.state.next_table) handed.merge.lent.items n all among).drawn in
        let next = may_step.numbers.next_table in
        omega (arith, below, next)

    goes_on : InstallFailed result → MayInstall before → GoesOn layout waits.open_job
    goes_on failed may = record {
      running = stands.running;
      open_is = waits.is_open;
      unraced = unraced_as merging layout.job waits.open_job opens waits.is_open
          (says.unraced waits.open_job.job waits.has failed);
      version = sym (install_version layout before.back.epoch stands.engine.fronts.version)
          ∙ some_left before.back.epoch may.version;
    }
      where
        some_left : (v : ℕ) → v < max_epoch → nat_le max_epoch v ≡ false
        some_left v few = grind (arith, nat_tests, few)

    pub did_install : DidInstall g w bytes before after old new merging' os s stands name (waiting_as its_name job) named waits result
    did_install = record {
      decides = says.decides may_step.state its_history layout waits.open_job may_step.told_is stands_open waits.is_open
          (λ running. may_step.files) waits.has waits.lent;
      fits = says.fits its_history layout waits.open_job stands_open waits.is_open waits.has waits.lent stands.fits;
      carries = λ represented. says.carries its_history layout waits.open_job represented stands_open waits.is_open waits.has waits.lent;
      untouched = says.untouched;
      files = says.files;
      near = near;
      within = λ fine. says.within fine stands.within;
      stops = λ failed.
          let (file, is) = uninstalled_at result failed in
          let (calls_made, most, calls) = install_made_calls job _ _ _ file (says.stopped file is) in
          let may = says.failed failed in
          record {
            ruled = sym (ap (λ (r : Ruling InstallAnswer). r.calls)
                (install_made_so layout its_history waits.open_job _ (goes_on failed may)));
            calls_made = calls_made;
            most = most;
            calls = calls;
            numbers = λ represented now told. says.leaves its_history layout now represented stands.within failed told;
            torn = λ represented now told. install_torn w g watched bytes before its_history layout old new represented stands.running job
                waits.open_job.job waits.has (λ state told_old. handed.tells may.running state told_old) (says.meanwhile failed) now told;
          };
    }

    -- ---- what is kept of where space comes back from, and of which files can go

    module _ (was is : Layout → Type 0) (leaves : (state : DiskState) (h : History) (l : Layout) (o : OpenJob) → g.told old ≡ Some state
        → StandsOpen bytes before merging h l → l.job ≡ Some o → (l.halted ≡ None → AreLogFiles l) → HasAllMerge w bytes job o.job
        → AreLent o.lent (made_of job o.job) → was l
        → Decides (λ (_ : History) (m : Layout). is m) h l (install_ruling l h o.job (made_of job o.job))
        (install_otherwise l (made_of job o.job)) (install_outcome result) (install_effects result))
        (so : was layout) where
      leaves_so : Decides (λ (_ : History) (m : Layout). is m) its_history layout
          (install_ruling layout its_history waits.open_job.job (made_of job waits.open_job.job))
          (install_otherwise layout (made_of job waits.open_job.job)) (install_outcome result) (install_effects result)
      leaves_so = leaves may_step.state its_history layout waits.open_job may_step.told_is stands_open waits.is_open
          (λ running. may_step.files) waits.has waits.lent so

      -- it is that of the layout behind the line
      pub still_leaves : (a : InstallAnswer) → install_outcome result ≡ Answered a → is (step_to s (lines.Install name)).state.layout
      still_leaves a answered = subst (λ (x : Step). is x.state.layout)
          (sym (step_is g w bytes before after old new merging' os s stands name (waiting_as its_name job) named waits))
          (leaves_so.answered a answered).1

-- ---- the line, by what its call takes out, and by what the engine says

module _ {D H R S W : Type 0} (g : Ghosts D) (w : Writers W) (bytes : H → Option (List ℕ)) {k : _} (before after : Core H) (old new : D)
    (merging merging' : Option OpenMerge) (job : TheJob (Base H R) H W k) (watched : IsWatched g)
    (lent : lending.AreLent g old before.back.state.next_table merging) (os : List (Open H S)) (s : State)
    (stands : StandsIn bytes (g.told old) before os s)
    -- the name as the call had it, and as the line has it
    (q name : Name) (same : q ≡ name) (planned planned' : Option (Planned (Base H R) H W k))
    (merges : Merges w bytes merging planned s.store.things s.store.layout) (can : CanHandIn g w old merging planned)
    (takes : TakesPlanned q planned planned' (Some job)) (result : Result (Unit {0}) (InstallFail (Base H R) H W k))
    (says : EngineInstalls g w bytes before after old new merging merging' job result) where
  was : WasPlanned q planned planned' job
  was = was_planned q planned planned' job takes

  own_name : was.its_name ≡ name
  own_name = was.named ∙ same

  waited : IsWaiting w bytes (waiting_as was.its_name job) s.store.things s.store.layout
  waited = subst (λ (p : Option (Planned (Base H R) H W k)). Waits w bytes p s.store.things s.store.layout) was.is merges.waits

  did : DidInstall g w bytes before after old new merging' os s stands name (waiting_as was.its_name job) own_name waited result
  did = did_install g w bytes before after old new merging merging' job watched
      (handed_so g w old before.front.halted merging q planned planned' job was can) lent os s stands merges.opens name was.its_name
      own_name waited result says

  pub line_makes : (told : Result Answer Halt) → install_answer result ≡ told
      → MakesStep bytes (g.told new) after os s (step_to s (lines.Install name)) told
  line_makes told is = subst (λ (x : Result Answer Halt). MakesStep bytes (g.told new) after os s (step_to s (lines.Install name)) x) is
      (install_makes g w bytes before after old new merging' os s stands name (waiting_as was.its_name job) own_name waited result did)

  pub line_merges : (told : Result Answer Halt) → install_answer result ≡ told
      → let x = step_to s (lines.Install name) in OnOk told
      (Merges {H = H} {R = R} w bytes {g = k} merging' planned' x.state.things x.state.layout)
  line_merges told is =
      let x = step_to s (lines.Install name) in
      subst (λ (y : Result Answer Halt). OnOk y (Merges {H = H} {R = R} w bytes {g = k} merging' planned' x.state.things x.state.layout)) is
      (subst (λ (p : Option (Planned (Base H R) H W k)). OnOk (install_answer result)
      (Merges {H = H} {R = R} w bytes {g = k} merging' p x.state.things x.state.layout))
      (sym was.gone)
      (install_merges g w bytes before after old new merging' os s stands name (waiting_as was.its_name job) own_name waited result did))

  pub line_sound : (told : Result Answer Halt) → install_answer result ≡ told → HaltsByRead told → ⊥
  line_sound told is halts =
      install_sound g w bytes before after old new merging' os s stands name (waiting_as was.its_name job) own_name waited result did
      (subst (λ (x : Result Answer Halt). HaltsByRead x) (sym is) halts)

  pub line_carries : (told : Result Answer Halt) → install_answer result ≡ told → (disk : D) → disk ≡ new
      → CarriesOut g IsStored Shown IsStopped old disk s (state_after s (lines.Install name)) told
  line_carries told is disk it =
      install_carries g w bytes before after old new merging' os s stands name (waiting_as was.its_name job) own_name waited watched
      result did told is disk it

  pub line_named : (file : FileName) → install_answer result ≡ Err (why.Disk file)
      → IsTableOf (thing_of s.store name) file ⊎ (file ≡ Manifest before.back.manifest.number)
  line_named file is =
      install_named w bytes job waited.open_job.job (thing_of s.store name)
      (there g w bytes before after old new merging' os s stands name (waiting_as was.its_name job) own_name waited)
      waited.has before.back.manifest.number _ _ file (says.stopped file (at_file result is))
    where
      at_file : (x : Result (Unit {0}) (InstallFail (Base H R) H W k)) → install_answer x ≡ Err (why.Disk file)
          → x ≡ Err (uninstalled.Disk file)
      at_file (Ok done) e = absurd cc
      at_file (Err (uninstalled.Halted name)) e = absurd cc
      at_file (Err (uninstalled.Raced key number)) e = absurd cc
      at_file (Err (uninstalled.Exhausted counter)) e = absurd cc
      at_file (Err (uninstalled.NoMemory job)) e = absurd cc
      at_file (Err (uninstalled.Disk name)) e = let same : name ≡ file = cc in ap (λ (n : FileName). Err (uninstalled.Disk n)) same

  pub line_leaves : (was_so is_so : Layout → Type 0)
      → ((state : DiskState) (h : History) (l : Layout) (o : OpenJob) → g.told old ≡ Some state
      → StandsOpen bytes before merging h l → l.job ≡ Some o → (l.halted ≡ None → AreLogFiles l) → HasAllMerge w bytes job o.job
      → AreLent o.lent (made_of job o.job) → was_so l
      → Decides (λ (_ : History) (m : Layout). is_so m) h l (install_ruling l h o.job (made_of job o.job))
      (install_otherwise l (made_of job o.job)) (install_outcome result) (install_effects result))
      → was_so s.store.layout → (told : Result Answer Halt) → install_answer result ≡ told
      → OnOk told (is_so (step_to s (lines.Install name)).state.layout)
  line_leaves was_so is_so leaves so told is =
      subst (λ (x : Result Answer Halt). OnOk x (is_so (step_to s (lines.Install name)).state.layout)) is
      (on_answered (is_so (step_to s (lines.Install name)).state.layout) result
      (still_leaves g w bytes before after old new merging merging' job watched
      (handed_so g w old before.front.halted merging q planned planned' job was can) lent os s stands merges.opens name was.its_name
      own_name waited result says was_so is_so leaves so))
