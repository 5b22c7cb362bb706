-- A whole merge: what each exit of it is to the one that called it.
use Rattle.std.specs.Prelude.{◌≡◌, ◌⊎◌, ℕ, suc, ◌+◌, ◌≤◌, ◌<◌, ◌||◌, ◌==◌, Bool, true, false, List, [], ◌∷◌, ◌++◌, length, map}
use Rattle.std.specs.Prelude.{Option, None, Some, Result, Ok, Err, IsErrAnd}
use Rattle.std.specs.FinMap.{find}
use Rattle.std.specs.List.{AllByRecursion, AllZip}
use Rattle.std.specs.Option.{ForSome}
use Rattle.std.proofs.Common.{sym, ap, subst, ◌∙◌, arith, refl, inl, inr}
use Rattle.std.proofs.lemmas.Bool.Decides.{nat_tests}
use Rattle.vl_compact.specs.Laid.{AreBoth}
use Rattle.vl_compact.specs.Progress.{HasRead, IsTableFile, made_of}
use Rattle.vl_compact.specs.Racing.{IsMoved}
use Rattle.vl_compact.specs.Stops.{AreReadWhole, InputsReadOn}
use Rattle.vl_compact.specs.declared.files.Lent.{Lent}
use Rattle.vl_compact.specs.declared.files.Synced.{Synced}
use Rattle.vl_compact.specs.declared.inputs.Inputs.{Inputs}
use Rattle.vl_compact.specs.declared.job.Job.{Job}
use Rattle.vl_disk.specs.Calls.{ChangesNothing}
use Rattle.vl_disk.specs.DiskState.{DiskState}
use Rattle.vl_disk.specs.Faults.{HasCause, Rose, after_calls}
use Rattle.vl_disk.specs.declared.name.Name.TheVariants as names
use Rattle.vl_disk.specs.declared.name.Name.{Name}
use Rattle.vl_disk.specs.declared.read_fault.ReadFault.TheVariants as read
use Rattle.vl_disk.specs.declared.read_fault.ReadFault.{ReadFault}
use Rattle.vl_disk.specs.declared.watched.Watched.{Ghosts}
use Rattle.vl_disk.specs.declared.writer.Writer.{Ghosts as Writers}
use Rattle.vl_engine.proofs.Refusing.{IsAnswer, draws_none, has_drawn}
use Rattle.vl_engine.proofs.Whole.{install_history}
use Rattle.vl_engine.specs.Merged.{FailsMerging, HasMerged, IsDueIn, MergesAs, PutsIn}
use Rattle.vl_engine.specs.Refusals.{CarriesOutAs, FailsToMake, HaltsDrawing, HasDrawn, IsLastDrawn, IsOutOfTables}
use Rattle.vl_engine.specs.Refusals.{KeepsAllBelow, LeavesStore, LendsFrom, Moment, drawn_by, moved_in, of_install}
use Rattle.vl_engine.specs.Whole.{HasSameLogs}
use Rattle.vl_engine.specs.declared.fails.MergeFail.TheVariants as merge
use Rattle.vl_engine.specs.declared.fails.MergeFail.{MergeFail}
use Rattle.vl_engine_laws.specs.Lent.{lent_in}
use Rattle.vl_engine_laws.specs.Represents.{Represents}
use Rattle.vl_engine_laws.specs.declared.kept.Core.{Core}
use Rattle.vl_engine_laws.specs.declared.open.OpenMerge.{OpenMerge}
use Rattle.vl_engine_model.specs.Decides.{Answered, Decides, Effects, Otherwise}
use Rattle.vl_engine_model.specs.Jobs.{AreOutputs}
use Rattle.vl_engine_model.specs.Merging.{outputs}
use Rattle.vl_engine_model.specs.Rulings.Install.{Installed, install_ruling}
use Rattle.vl_engine_model.specs.declared.job.Job as laid_job
use Rattle.vl_engine_model.specs.declared.layout.Layout.{Layout}
use Rattle.vl_model.specs.Conflicts.{Named}
use Rattle.vl_model.specs.History.{History}
use Rattle.vl_model.specs.Keys.{key_cmp}
use Rattle.vl_model.specs.Limits.{max_epoch, max_file_number}
use Rattle.vl_model.specs.Numbers.{has}
use Rattle.vl_model.specs.declared.counter.Counter.{Counter}
use Rattle.vl_steps.specs.Installing.{HaltsInstall, InstallFailed, InstallLeavesDisk, InstallsCore, IsHandedIn, IsInstallWritten}
use Rattle.vl_steps.specs.Installing.{KeepsAllBut, MakesVersion, StopsInstall, numbers_in}
use Rattle.vl_steps.specs.Merging.{HasAllMerge, HasMerge, IsJustOpen, made_numbers}
use Rattle.vl_steps.specs.laws.Begins.{then_call}
use Rattle.vl_steps.specs.declared.fails.InstallFail.TheVariants as install
use Rattle.vl_steps.specs.declared.fails.InstallFail.{InstallFail}
use Rattle.vl_version.specs.declared.base.Base.{Base}

-- ---- races

-- nothing was moved, so no key was
pub unmoved : (moved keys : List Named) (named : Named) → moved ≡ [] → IsMoved moved keys named → ⊥
unmoved moved keys named none is =
    let never : find key_cmp named.0 [] ≡ Some named.1 =
    subst (λ (ms : List Named). find key_cmp named.0 ms ≡ Some named.1) none is.last in
    cc

pub just_unmoved : (first : ℕ) (merging now : Option OpenMerge) → IsJustOpen merging → LendsFrom first merging now → moved_in now ≡ []
just_unmoved first merging now begun lends = lends.moved ∙ ap moved_in begun.is_open ∙ begun.moved

-- ---- what it leaves

-- the same engine before and behind
pub record IsSame {D H : Type 0} (old new : Moment D H) : Type 0 where
  pub core : new.core ≡ old.core
  pub disk : new.disk ≡ old.disk

module _ {D H : Type 0} (g : Ghosts D) (old p mid new : Moment D H) (one : IsSame old p) (two : IsSame mid new) where
  drawn_so : HasDrawn g p mid → HasDrawn g old new
  drawn_so drawn = record {
    count = drawn.count;
    core = two.core ∙ drawn.core ∙ ap (drawn_by drawn.count) one.core;
    calls = ap g.calls two.disk ∙ drawn.calls ∙ ap (λ (d : D). after_calls drawn.count (g.calls d)) one.disk;
    steady = ap g.faults two.disk ∙ drawn.steady ∙ ap g.faults one.disk;
  }

  running_so : p.core.front.halted ≡ None → old.core.front.halted ≡ None
  running_so is = sym (ap (λ (c : Core H). c.front.halted) one.core) ∙ is

  out_so : (counter : Counter) → IsOutOfTables p mid counter → IsOutOfTables old new counter
  out_so counter out = record {
    counter_is = out.counter_is;
    running = running_so out.running;
    used = subst (λ (c : Core H). max_file_number < c.back.state.next_table) (sym two.core) out.used;
  }

  halts_so : (name : Name) → HaltsDrawing g p mid name → HaltsDrawing g old new name
  halts_so name halts = record {
    count = halts.count;
    running = running_so halts.running;
    named = subst (λ (c : Core H). name ≡ names.Table (c.back.state.next_table + halts.count)) one.core halts.named;
    core = two.core ∙ halts.core
        ∙ ap (λ (c : Core H). record (drawn_by halts.count c) { front = record c.front { halted = Some name } }) one.core;
    calls = ap g.calls two.disk ∙ halts.calls ∙ ap (λ (d : D). after_calls (halts.count + 1) (g.calls d)) one.disk;
    rose = subst (λ (d : D). Rose (g.faults d) (g.faults new.disk)) one.disk
        (subst (λ (d : D). Rose (g.faults p.disk) (g.faults d)) (sym two.disk) halts.rose);
  }

  pub leaves_so : LeavesStore g p mid → LeavesStore g old new
  leaves_so leaves = record {
    core = two.core ∙ leaves.core ∙ one.core;
    disk = subst (λ (d : D). ChangesNothing g d new.disk ⊥) one.disk
        (subst (λ (d : D). ChangesNothing g p.disk d ⊥) (sym two.disk) leaves.disk);
  }

pub same_drawn : {D H : Type 0} (g : Ghosts D) (old new : Moment D H) → IsSame old new → HasDrawn g old new
same_drawn g old new same =
    drawn_so g old old old new (record { core = refl; disk = refl }) same (has_drawn g old old 0 (draws_none g old))

-- of the merge that was planned
pub merge_planned : {H R W : Type 0} (w : Writers W) (bytes : H → Option (List ℕ)) {s : Writers W} (job : Job (Base H R) H W s)
    (got : Option (Job (Base H R) H W s)) (answer : Option laid_job.Job) → got ≡ Some job → AreBoth (HasMerge w bytes) got answer
    → ForSome answer (HasMerge w bytes job)
merge_planned w bytes job got None is both j at = absurd cc
merge_planned {H} {R} {W} w bytes {s} job got (Some k) is both j at =
    let has : HasMerge w bytes job k =
    subst (λ (o : Option (Job (Base H R) H W s)). AreBoth (HasMerge w bytes) o (Some k)) is both in
    let same : k ≡ j = cc in
    subst (λ (x : laid_job.Job). HasMerge w bytes job x) same has

module _ {D H R W : Type 0} (g : Ghosts D) (w : Writers W) (bytes : H → Option (List ℕ)) (faults_of : R → ℕ)
    (old : Moment D H) where
  -- so an install was answered
  abbrev pub IsPut : (was is : Result (Unit {0}) (InstallFail (Base H R) H W w)) → Type 0
  IsPut was is = was ≡ is

  -- memory was wanting at its plan
  pub unplanned : (new : Moment D H) → HasDrawn g old new → (result : Result (Option ℕ) MergeFail)
      → IsErrAnd result (λ e. e ≡ merge.NoMemory) → MergesAs g w bytes faults_of old new result
  unplanned new drawn (Ok kept) is = absurd is
  unplanned new drawn (Err e) is =
      subst (λ (f : MergeFail). MergesAs g w bytes faults_of old new (Err f)) (sym is) drawn

  -- its tables weren't made
  pub unmade : (p mid new : Moment D H) (job : Job (Base H R) H W w) (key : Option (List ℕ)) → IsSame old p → IsSame mid new
      → IsDueIn g w bytes faults_of old job → InputsReadOn bytes None key job.inputs.tables.items
      → (fail : MergeFail) → CarriesOutAs w bytes faults_of g job key p mid (Err fail) → MergesAs g w bytes faults_of old new (Err fail)
  unmade p mid new job key one two due up_to fail so = by fail so
    where
      fails_so : (fault : ReadFault) → HasDrawn g p mid → FailsToMake w bytes faults_of job key (IsLastDrawn mid) fault
          → FailsMerging g w bytes faults_of old new fault
      fails_so fault drawn fails = record {
        drawn = drawn_so g old p mid new one two drawn;
        job = job;
        due = due;
        key = key;
        read = up_to;
        fails = subst (λ (c : Core H). FailsToMake w bytes faults_of job key (λ n. n + 1 ≡ c.back.state.next_table) fault) (sym two.core) fails;
      }

      at : (name : Name) → ((HasDrawn g p mid × FailsToMake w bytes faults_of job key (IsLastDrawn mid) (read.Disk name))
          ⊎ HaltsDrawing g p mid name) → MergesAs g w bytes faults_of old new (Err (merge.Disk name))
      at name (inl failed) = inl (fails_so (read.Disk name) failed.0 failed.1)
      at name (inr halts) = inr (inl (halts_so g old p mid new one two name halts))

      by : (f : MergeFail) → CarriesOutAs w bytes faults_of g job key p mid (Err f) → MergesAs g w bytes faults_of old new (Err f)
      by (merge.Halted name) is = sym (ap (λ (c : Core H). c.front.halted) one.core) ∙ is
      by (merge.Exhausted counter) is = (drawn_so g old p mid new one two is.0, inl (out_so g old p mid new one two counter is.1))
      by merge.Raced is = is
      by merge.NoMemory is = drawn_so g old p mid new one two is
      by (merge.Disk name) is = at name is
      by (merge.Damaged name place) is = fails_so (read.Damaged name place) is.0 is.1

  -- up to where it was read
  pub read_to : (job now : Job (Base H R) H W w) → now.inputs ≡ job.inputs → HasRead bytes now
      → InputsReadOn bytes None now.after job.inputs.tables.items
  read_to job now inputs read = subst (λ (i : Inputs H). InputsReadOn bytes None now.after i.tables.items) inputs read.on

  -- they were put in
  pub merged : (p mid new : Moment D H) (job done : Job (Base H R) H W w) → IsSame old p → IsDueIn g w bytes faults_of old job
      → done.inputs ≡ job.inputs → AreReadWhole bytes done.inputs.tables.items → HasDrawn g p mid → MakesVersion mid.core new.core
      → IsInstallWritten g bytes w done mid.core mid.disk new.disk → g.calls new.disk ≡ after_calls 2 (g.calls mid.disk)
      → HasCause (g.faults mid.disk) (g.faults new.disk) ⊥ → HasMerged g w bytes faults_of old new
  merged p mid new job done one due inputs read drawn version written calls cause = record {
    job = job;
    due = due;
    read = subst (λ (i : Inputs H). AreReadWhole bytes i.tables.items) inputs read;
    mid = mid;
    drawn = drawn_so g old p mid mid one (record { core = refl; disk = refl }) drawn;
    done = done;
    inputs = inputs;
    written = written;
    version = version;
    calls = calls;
    steady = cause.steady (λ no. no);
  }

  -- or weren't
  pub unput : (p mid i new : Moment D H) (job : Job (Base H R) H W w) → IsSame old p → IsSame i new → HasDrawn g p mid
      → (fail : InstallFail (Base H R) H W w) → InstallsCore mid.core i.core (Err fail)
      → (InstallLeavesDisk (Err fail) → ChangesNothing g mid.disk i.disk ⊥)
      → ((name : Name) → IsPut (Err fail) (Err (install.Disk name))
      → StopsInstall job mid.core.back.manifest.number (g.calls mid.disk) (g.calls i.disk) name)
      → HasCause (g.faults mid.disk) (g.faults i.disk) (InstallFailed (Err fail))
      → ((key : List ℕ) (n : ℕ) → IsPut (Err fail) (Err (install.Raced key n)) → ⊥) → (result : MergeFail)
      → result ≡ of_install fail → MergesAs g w bytes faults_of old new (Err result)
  unput p mid i new job one two drawn fail core untouched stops cause never result is =
      subst (λ (f : MergeFail). MergesAs g w bytes faults_of old new (Err f)) (sym is) (by fail core untouched stops cause never)
    where
      so : HasDrawn g old mid
      so = drawn_so g old p mid mid one (record { core = refl; disk = refl }) drawn

      before : mid.core.front.halted ≡ old.core.front.halted
      before = ap (λ (c : Core H). c.front.halted) so.core

      left : i.core ≡ mid.core → ChangesNothing g mid.disk i.disk ⊥ → HasDrawn g old new
      left same nothing = record {
        count = so.count;
        core = two.core ∙ same ∙ so.core;
        calls = ap g.calls two.disk ∙ nothing.calls ∙ so.calls;
        steady = ap g.faults two.disk ∙ nothing.cause.steady (λ no. no) ∙ so.steady;
      }

      by : (f : InstallFail (Base H R) H W w) → InstallsCore mid.core i.core (Err f)
          → (InstallLeavesDisk (Err f) → ChangesNothing g mid.disk i.disk ⊥)
          → ((name : Name) → IsPut (Err f) (Err (install.Disk name))
          → StopsInstall job mid.core.back.manifest.number (g.calls mid.disk) (g.calls i.disk) name)
          → HasCause (g.faults mid.disk) (g.faults i.disk) (InstallFailed (Err f))
          → ((key : List ℕ) (n : ℕ) → IsPut (Err f) (Err (install.Raced key n)) → ⊥)
          → MergesAs g w bytes faults_of old new (Err (of_install f))
      by (install.Halted name) did nothing at rose raced = sym before ∙ did.0
      by (install.Raced key n) did nothing at rose raced = raced key n refl
      by (install.Exhausted counter) did nothing at rose raced = (
        left did.same (nothing tt),
        inr (record {
          counter_is = did.counter_is;
          running = sym before ∙ did.running;
          used = subst (λ (c : Core H). max_epoch ≤ c.back.epoch) so.core did.used;
        }),
      )
      by (install.NoMemory back) did nothing at rose raced = left did (nothing tt)
      by (install.Disk name) did nothing at rose raced = inr (inr (record {
        mid = mid;
        drawn = so;
        job = job;
        stops = subst (λ (d : D). StopsInstall job mid.core.back.manifest.number (g.calls mid.disk) (g.calls d) name) (sym two.disk)
            (at name refl);
        halts = subst (λ (c : Core H). HaltsInstall mid.core c name) (sym two.core) did;
        rose = subst (λ (d : D). Rose (g.faults mid.disk) (g.faults d)) (sym two.disk) (rose.rose tt);
      }))

-- ---- which files come and go

-- one of some numbers, none of which is below this one
one_above : (first n : ℕ) (ns : List ℕ) → AllByRecursion (λ (k : ℕ). first ≤ k) ns → has n ns ≡ true → first ≤ n
one_above first n [] all is = absurd cc
one_above first n (k ∷ ns) all is = by (k == n) refl is (one_above first n ns all.1)
  where
    by : (b : Bool) → (k == n) ≡ b → (b || has n ns) ≡ true → (has n ns ≡ true → first ≤ n) → first ≤ n
    by true same among later = let e : k ≡ n = grind (arith, nat_tests, same) in subst (λ (x : ℕ). first ≤ x) e all.0
    by false other among later = later among

-- so it is of numbers that are all among such
numbers_above : (first : ℕ) (lent ns : List ℕ) → AllByRecursion (λ (n : ℕ). first ≤ n) lent
    → AllByRecursion (λ (n : ℕ). has n lent ≡ true) ns → AllByRecursion (λ (n : ℕ). first ≤ n) ns
numbers_above first lent [] above among = tt
numbers_above first lent (n ∷ ns) above among = (one_above first n lent above among.0, numbers_above first lent ns above among.1)

all_front : (P : ℕ → Type 0) (ns ms : List ℕ) → AllByRecursion P (ns ++ ms) → AllByRecursion P ns
all_front P [] ms all = tt
all_front P (n ∷ ns) ms all = (all.0, all_front P ns ms all.1)

-- The tables of a job that is handed in are ones that were lent since its merge began.
pub made_above : {D H R W : Type 0} (g : Ghosts D) (w : Writers W) {s : Writers W} (first : ℕ) (disk : D) (halted : Option Name)
    (merging now : Option OpenMerge) (job : Job (Base H R) H W s) → IsJustOpen merging → LendsFrom first merging now
    → IsHandedIn g w disk halted now job → AllByRecursion (λ (n : ℕ). first ≤ n) (made_numbers job)
made_above {W = W} g w {s} first disk halted merging now job begun lends handed =
    all_front (λ (n : ℕ). first ≤ n) (made_numbers job) (map (λ (f : Lent W s). f.number) job.leavings.items)
    (numbers_above first handed.merge.lent.items (numbers_in job)
    (subst (λ (ns : List ℕ). AllByRecursion (λ (n : ℕ). first ≤ n) ns) more lends.above) handed.drawn)
  where
    more : lends.more ≡ handed.merge.lent.items
    more = ap (λ (ns : List ℕ). ns ++ lends.more) (sym begun.lent ∙ ap lent_in (sym begun.is_open)) ∙ sym lends.lent
        ∙ ap lent_in handed.is_open

-- no file but its tables comes or goes
pub below_install : (first : ℕ) (tables : List ℕ) (old new : Option DiskState) → AllByRecursion (λ (n : ℕ). first ≤ n) tables
    → KeepsAllBut tables old new → KeepsAllBelow first old new
below_install first tables old new above kept before now was is name off =
    kept before now was is name (λ n among. off n (one_above first n tables above among))

pub below_same : {D H : Type 0} (g : Ghosts D) (old p mid new : Moment D H) → IsSame old p → IsSame mid new
    → KeepsAllBelow p.core.back.state.next_table (g.told p.disk) (g.told mid.disk)
    → KeepsAllBelow old.core.back.state.next_table (g.told old.disk) (g.told new.disk)
below_same {D} {H} g old p mid new one two below =
    subst (λ (c : Core H). KeepsAllBelow c.back.state.next_table (g.told old.disk) (g.told new.disk)) one.core
    (subst (λ (d : D). KeepsAllBelow p.core.back.state.next_table (g.told d) (g.told new.disk)) one.disk
    (subst (λ (d : D). KeepsAllBelow p.core.back.state.next_table (g.told p.disk) (g.told d)) (sym two.disk) below))

-- ---- a halted engine

module _ {D H : Type 0} (g : Ghosts D) (old p mid : Moment D H) (one : IsSame old p) (name : Name)
    (is : old.core.front.halted ≡ Some name) where
  halted_then : p.core.front.halted ≡ Some name
  halted_then = ap (λ (c : Core H). c.front.halted) one.core ∙ is

  pub left_halted : (new : Moment D H) → IsSame mid new
      → ((n : Name) → p.core.front.halted ≡ Some n → LeavesStore g p mid) → LeavesStore g old new
  left_halted new two idle = leaves_so g old p mid new one two (idle name halted_then)

  -- it puts nothing in
  pub never_put : {P : Type 0} (now : Core H) → ((n : Name) → p.core.front.halted ≡ Some n → LeavesStore g p mid) → MakesVersion mid.core now → P
  never_put now idle version =
      let no : None ≡ Some name = sym version.running ∙ ap (λ (c : Core H). c.front.halted) (idle name halted_then).core ∙ halted_then in
      absurd cc

  pub put_halted : {R W : Type 0} {s : Writers W} (i new : Moment D H) → IsSame i new → ((n : Name) → p.core.front.halted ≡ Some n → LeavesStore g p mid)
      → (fail : InstallFail (Base H R) H W s) → InstallsCore mid.core i.core (Err fail)
      → (InstallLeavesDisk (Err fail) → ChangesNothing g mid.disk i.disk ⊥)
      → ((n : Name) → mid.core.front.halted ≡ Some n → IsAnswer {T = Unit {0}} {E = InstallFail (Base H R) H W s} (Err fail) (Err (install.Halted n))) → LeavesStore g old new
  put_halted {R} {W} {s} i new two idle fail core untouched halts = by fail core untouched (halts name mid_halted)
    where
      mid_halted : mid.core.front.halted ≡ Some name
      mid_halted = ap (λ (c : Core H). c.front.halted) (idle name halted_then).core ∙ halted_then

      by : (f : InstallFail (Base H R) H W s) → InstallsCore mid.core i.core (Err f)
          → (InstallLeavesDisk (Err f) → ChangesNothing g mid.disk i.disk ⊥) → IsAnswer {T = Unit {0}} {E = InstallFail (Base H R) H W s} (Err f) (Err (install.Halted name))
          → LeavesStore g old new
      by (install.Halted at) did nothing so = leaves_so g old p i new one two (record {
        core = did.1 ∙ (idle name halted_then).core;
        disk = then_call g p.disk mid.disk i.disk ⊥ ⊥ (λ e. e) (λ e. e) (idle name halted_then).disk (nothing tt);
      })
      by (install.Raced key n) did nothing so = absurd cc
      by (install.Exhausted counter) did nothing so = absurd cc
      by (install.NoMemory back) did nothing so = absurd cc
      by (install.Disk at) did nothing so = absurd cc

-- ---- where they were put in

pub one_job : (i j : laid_job.Job) → Some i ≡ Some j → i ≡ j
one_job i j is = cc

zip_long : {A B : Type 0} (P : A → B → Type 0) (f : A → ℕ) (xs : List A) (ys : List B) → AllZip P xs ys → length (map f xs) ≡ length ys
zip_long P f [] [] all = refl
zip_long P f [] (y ∷ ys) all = absurd all
zip_long P f (x ∷ xs) [] all = absurd all
zip_long P f (x ∷ xs) (y ∷ ys) all = ap suc (zip_long P f xs ys all.1)

-- Where it has all of its merge, its tables are the merge's outputs.
all_made : {H R W : Type 0} (w : Writers W) (bytes : H → Option (List ℕ)) {s : Writers W} (job : Job (Base H R) H W s) (j : laid_job.Job)
    → HasAllMerge w bytes job j → AreOutputs j (made_of job j)
all_made {W = W} w bytes {s} job j all = record {
  numbers = map (λ (t : Synced W s). t.number) job.made.items;
  tables = refl;
  enough = zip_long (IsTableFile w) (λ (t : Synced W s). t.number) job.made.items (outputs j) all.made;
}

-- where none was planned none was due
pub none_due : {A : Type 0} (R : A → laid_job.Job → Type 0) (P : laid_job.Job → Type 0) (got : Option A) (answer : Option laid_job.Job)
    → got ≡ None → AreBoth R got answer → ForSome answer P
none_due R P None None none is j at = absurd cc
none_due R P None (Some k) none is j at = absurd is
none_due R P (Some a) answer none is j at = absurd cc

pub puts_in : {H R W : Type 0} (w : Writers W) (bytes : H → Option (List ℕ)) {s : Writers W} (job : Job (Base H R) H W s)
    (told : Option DiskState) (core : Core H) (h : History) (l before : Layout) (i j : laid_job.Job) → HasSameLogs l before
    → before.levels ≡ l.levels → before.flushed ≡ l.flushed → HasAllMerge w bytes job i → (otherwise : Otherwise) (effects : Effects)
    → Decides (Represents bytes core told) h before (install_ruling before h i (made_of job i)) otherwise (Answered Installed) effects
    → i ≡ j → PutsIn bytes told core h l j
puts_in w bytes job told core h l before i j same levels flushed all otherwise effects decides is =
    subst (PutsIn bytes told core h l) is (record {
      before = before;
      same = same;
      levels = levels;
      flushed = flushed;
      made = made_of job i;
      outputs = all_made w bytes job i all;
      installed = sym (decides.answered Installed refl).0;
      represents = subst (λ (k : History). Represents bytes core told k (install_ruling before h i (made_of job i)).layout)
          (install_history before h i (made_of job i)) (decides.answered Installed refl).1;
    })
