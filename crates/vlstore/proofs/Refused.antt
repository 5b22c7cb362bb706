-- A merge of a session that is refused: what each exit of it is to the one that called it.
use Rattle.std.proofs.Common.{◌≡◌, ◌⊎◌, ℕ, ◌+◌, ◌≤◌, List, [], ◌∷◌, ◌++◌, length, refl, sym, ap, ◌∙◌, subst, arith, inl, inr}
use Rattle.std.proofs.lemmas.List.{length-append}
use Rattle.std.specs.Prelude.{Bool, true, false, if◌then◌else◌, Option, None, Some, Result, Ok, Err, IfErr, IsErrAnd}
use Rattle.vl_compact.specs.Progress.{FailsWith, HasRead, KeepsAll, Leaves}
use Rattle.vl_compact.specs.Reading.{FailsReading, MayWhere, counts}
use Rattle.vl_compact.specs.Stops.{AreReadWhole, InputsReadOn, MayStopIn}
use Rattle.vl_compact.specs.declared.files.Lent.{Lent}
use Rattle.vl_compact.specs.declared.inputs.Inputs.{Inputs}
use Rattle.vl_compact.specs.declared.job.Job.{Job}
use Rattle.vl_compact.specs.declared.job_reader.JobReader.{JobReader}
use Rattle.vl_disk.specs.declared.name.Name.{Name}
use Rattle.vl_disk.specs.declared.read_fault.ReadFault.TheVariants as read
use Rattle.vl_disk.specs.declared.read_fault.ReadFault.{ReadFault}
use Rattle.vl_disk.specs.declared.writer.Writer.{Ghosts as Writers}
use Rattle.vl_engine.specs.Refusals.{FailsToMake, FailsToRead, of_install, of_read, of_step}
use Rattle.vl_engine.specs.declared.fails.MergeFail.TheVariants as merge
use Rattle.vl_engine.specs.declared.fails.MergeFail.{MergeFail}
use Rattle.vl_engine_laws.specs.Represents.{file_of}
use Rattle.vl_engine_model.specs.Decides.{Answered, Failed, Outcome}
use Rattle.vl_engine_model.specs.Jobs.{Made, job_ended}
use Rattle.vl_engine_model.specs.Ruling.{Ruling, has_no_epoch, has_no_number, leaving}
use Rattle.vl_engine_model.specs.Rulings.Fresh as fresh
use Rattle.vl_engine_model.specs.Rulings.Fresh.{fresh_ruling, fresh_unless}
use Rattle.vl_engine_model.specs.Rulings.Install as install_ruled
use Rattle.vl_engine_model.specs.Rulings.Install.{InstallAnswer, install_checked, install_ruling, install_unless, moved_since, race}
use Rattle.vl_engine_model.specs.Rulings.Plan.{plan_ruling}
use Rattle.vl_engine_model.specs.declared.file_name.FileName.{FileName}
use Rattle.vl_engine_model.specs.declared.job.Job as laid_job
use Rattle.vl_engine_model.specs.declared.layout.Layout.{Layout}
use Rattle.vl_engine_model.specs.declared.lock_history.LockEntry.{LockEntry}
use Rattle.vl_engine_model.specs.declared.lock_history.LockStep.TheVariants as steps
use Rattle.vl_engine_model.specs.laws.LockHistoryLaws.{last_layout-append, none≢some}
use Rattle.vl_model.specs.Conflicts.{Named}
use Rattle.vl_model.specs.History.{History}
use Rattle.vl_model.specs.declared.counter.Counter.TheVariants as counters
use Rattle.vl_model.specs.declared.counter.Counter.{Counter}
use Rattle.vl_steps.specs.Merging.{fresh_outcome, install_outcome}
use Rattle.vl_steps.specs.declared.fails.InstallFail.TheVariants as install
use Rattle.vl_steps.specs.declared.fails.InstallFail.{InstallFail}
use Rattle.vl_steps.specs.declared.fails.StepFail.TheVariants as step
use Rattle.vl_steps.specs.declared.fails.StepFail.{StepFail}
use Rattle.vl_table.specs.CursorParts.{MayFailOn, is_disk_fault}
use Rattle.vl_table.specs.declared.block_reader.BlockReader.{BlockReader}
use Rattle.vl_turn.specs.Entries.{with_entry}
use Rattle.vl_version.specs.Bases as bases
use Rattle.vl_version.specs.Sources.{tables_in}
use Rattle.vl_version.specs.declared.base.Base.{Base}
use Rattle.vlstore.proofs.Making.{on_and_on}
use Rattle.vlstore.proofs.Merged.{entry_behind, prefix_itself}
use Rattle.vlstore.proofs.Stores.{prefix_on}
use Rattle.vlstore.specs.Entries.{drawn_at, fresh_entry, install_entry}
use Rattle.vlstore.specs.Knowing.{GoesOn, Knows, Stepped}
use Rattle.vlstore.specs.Lists.{history_by, layout_by}
use Rattle.vlstore.specs.Refused.{Between, FailsMaking, HasReadAll, IsDue, IsOutOfTables, IsRefused, StopsMaking, WasDrawn, WasFailed}
use Rattle.vlstore.specs.Refused.{WasHalted, WasRefused}
use Rattle.vlstore.specs.declared.locked.Origin.{Origin}
use mathlib.Core.List.{IsPrefix}

-- ---- moments

pub goes_nowhere : (v : Knows) → GoesOn v v
goes_nowhere v = record {
  store = refl;
  origin = refl;
  tells = refl;
  session = refl;
  seen = prefix_itself v.seen;
  own = prefix_itself v.own;
}

pub goes_then : (u v w : Knows) → GoesOn u v → GoesOn v w → GoesOn u w
goes_then u v w first second = on_and_on u v w first second

-- what was so between two moments was so between ones farther apart
pub wider : (P : Layout → History → Type 0) (u v w x : Knows) → GoesOn u v → GoesOn w x → Between v w P → Between u x P
wider P u v w x first second at = record {
  before = at.before;
  later = prefix_on u.seen v.seen at.before first.seen at.later;
  within = prefix_on at.before w.seen x.seen at.within second.seen;
  was = subst (λ (o : Origin). P (layout_by o at.before) (history_by o at.before)) first.origin at.was;
}

-- what a call was answered, the ruling had at a moment between
pub answered_in : {A sure : Type 0} (v w : Knows) (ruling : Layout → History → Ruling A)
    (entry : ℕ → Layout → History → Outcome A → Option LockEntry) (a : A) → Stepped sure v w ruling entry (Answered a)
    → Between v w (λ l h. (ruling l h).answer ≡ a)
answered_in v w ruling entry a stepped = record {
  before = stepped.before;
  later = stepped.later;
  within = entry_behind stepped.before w.seen
      (entry v.session (layout_by v.origin stepped.before) (history_by v.origin stepped.before) (Answered a)) stepped.seen;
  was = sym (stepped.answer a refl);
}

halt_at : (o : Origin) (before now : List LockEntry) (e : LockEntry) (file : FileName) → now ≡ before ++ e ∷ []
    → e.layout.halted ≡ Some file → (layout_by o now).halted ≡ Some file
halt_at o before now e file is at =
    ap (λ (list : List LockEntry). (layout_by o list).halted) is
    ∙ ap (λ (l : Layout). l.halted) (last_layout-append o.layout before (e ∷ [])) ∙ at

length_within : (xs ys : List LockEntry) → IsPrefix xs ys → length xs ≤ length ys
length_within xs ys on =
    let long : length (xs ++ on.0) ≡ length xs + length on.0 = length-append xs on.0 in
    let same : length (xs ++ on.0) ≡ length ys = ap (λ (es : List LockEntry). length es) on.1 in
    omega arith

-- where it failed, the store ran before and is halted behind
failed_in : {A sure : Type 0} (v w : Knows) (ruling : Layout → History → Ruling A)
    (entry : ℕ → Layout → History → Outcome A → Option LockEntry) (name : Name)
    → (stepped : Stepped sure v w ruling entry (Failed (file_of name))) → (e : LockEntry)
    → entry v.session (layout_by v.origin stepped.before) (history_by v.origin stepped.before) (Failed (file_of name)) ≡ Some e
    → e.layout.halted ≡ Some (file_of name) → WasFailed v w sure name
failed_in v w ruling entry name stepped e made halts = record {
  running = record {
    before = stepped.before;
    later = stepped.later;
    within = entry_behind stepped.before w.seen
        (entry v.session (layout_by v.origin stepped.before) (history_by v.origin stepped.before) (Failed (file_of name))) stepped.seen;
    was = stepped.failed (file_of name) refl;
  };
  halted = record {
    before = w.seen;
    later = prefix_on v.seen stepped.before w.seen stepped.later
        (entry_behind stepped.before w.seen
        (entry v.session (layout_by v.origin stepped.before) (history_by v.origin stepped.before) (Failed (file_of name))) stepped.seen);
    within = prefix_itself w.seen;
    was = halt_at v.origin stepped.before w.seen e (file_of name)
        (stepped.seen ∙ ap (λ (o : Option LockEntry). with_entry stepped.before o) made) halts;
  };
  never = λ surely. stepped.unfailing surely (file_of name) refl;
}

wider_failed : {sure : Type 0} (name : Name) (u v w x : Knows) → GoesOn u v → GoesOn w x → WasFailed v w sure name
    → WasFailed u x sure name
wider_failed name u v w x first second failed = record {
  running = wider (λ l h. l.halted ≡ None) u v w x first second failed.running;
  halted = wider (λ l h. l.halted ≡ Some (file_of name)) u v w x first second failed.halted;
  never = failed.never;
}

-- ---- rulings

-- a file is refused as halted where the store is
fresh_halts : (file : FileName) (l : Layout) (h : History) → (fresh_ruling l h).answer ≡ fresh.Halted file → l.halted ≡ Some file
fresh_halts file l h is = by l.halted is
  where
    counted : (b : Bool) → (if b then leaving (fresh.Exhausted counters.Table) h l
        else record { answer = fresh.Drawn l.next_table; history = h; layout = fresh.drawn l; calls = 1; gone = [] }).answer
        ≡ fresh.Halted file → ⊥
    counted true e = let no : fresh.Exhausted counters.Table ≡ fresh.Halted file = e in cc
    counted false e = let no : fresh.Drawn l.next_table ≡ fresh.Halted file = e in cc

    by : (o : Option FileName) → (fresh_unless o l h).answer ≡ fresh.Halted file → o ≡ Some file
    by None e = absurd (counted (has_no_number l.next_table 1) e)
    by (Some name) e = let so : fresh.Halted name ≡ fresh.Halted file = e in let same : name ≡ file = cc in ap Some same

-- and so is an install
install_halts : (file : FileName) (job : laid_job.Job) (made : Made) (l : Layout) (h : History)
    → (install_ruling l h job made).answer ≡ install_ruled.Halted file → l.halted ≡ Some file
install_halts file job made l h is = by l.halted is
  where
    versioned : (b : Bool) → (if b then leaving (install_ruled.Exhausted counters.Version) h (job_ended made l)
        else record {
          answer = install_ruled.Installed;
          history = h;
          layout = install_ruled.installed job made l;
          calls = 2;
          gone = [];
        }).answer ≡ install_ruled.Halted file → ⊥
    versioned true e = let no : install_ruled.Exhausted counters.Version ≡ install_ruled.Halted file = e in cc
    versioned false e = let no : install_ruled.Installed ≡ install_ruled.Halted file = e in cc

    checked : (o : Option Named) → (install_checked l h job made o).answer ≡ install_ruled.Halted file → ⊥
    checked None e = versioned (has_no_epoch l) e
    checked (Some named) e = let no : install_ruled.Raced named.0 named.1 ≡ install_ruled.Halted file = e in cc

    by : (o : Option FileName) → (install_unless o l h job made).answer ≡ install_ruled.Halted file → o ≡ Some file
    by None e = absurd (checked (race job (moved_since l.job)) e)
    by (Some name) e =
        let so : install_ruled.Halted name ≡ install_ruled.Halted file = e in let same : name ≡ file = cc in ap Some same

was_halted : {A sure : Type 0} (v m i u : Knows) (name : Name) (ruling : Layout → History → Ruling A)
    (entry : ℕ → Layout → History → Outcome A → Option LockEntry) (a : A) → GoesOn v m → GoesOn i u
    → ((l : Layout) (h : History) → (ruling l h).answer ≡ a → l.halted ≡ Some (file_of name))
    → Stepped sure m i ruling entry (Answered a) → WasHalted v u sure name
was_halted v m i u name ruling entry a first last halts stepped =
    let l = layout_by m.origin stepped.before in
    let h = history_by m.origin stepped.before in
    let was = halts l h (sym (stepped.answer a refl)) in
    record {
      was = wider (λ l h. l.halted ≡ Some (file_of name)) v m i u first last (record {
        before = stepped.before;
        later = stepped.later;
        within = entry_behind stepped.before i.seen (entry m.session l h (Answered a)) stepped.seen;
        was = was;
      });
      never = λ surely none.
          none≢some (file_of name) (sym (stepped.runs surely (ap (λ (o : Origin). o.layout.halted) first.origin ∙ none)) ∙ was);
    }

-- ---- its tables weren't made

pub drawn_in : {sure : Type 0} (v m u : Knows) (number : ℕ) → GoesOn v m
    → Stepped sure m u fresh_ruling fresh_entry (Answered (fresh.Drawn number)) → WasDrawn v u number
drawn_in v m u number on stepped = wider (λ l h. (fresh_ruling l h).answer ≡ fresh.Drawn number) v m u u on (goes_nowhere u)
    (answered_in m u fresh_ruling fresh_entry (fresh.Drawn number) stepped)

pub took_one : {sure : Type 0} (v m u : Knows) (n number : ℕ) → n + length v.own ≤ length m.own
    → Stepped sure m u fresh_ruling fresh_entry (Answered (fresh.Drawn number)) → (n + 1) + length v.own ≤ length u.own
took_one v m u n number so stepped =
    let e : LockEntry = record {
      session = m.session;
      step = steps.Changed;
      layout = drawn_at number (layout_by m.origin stepped.before);
    } in
    let longer : length (m.own ++ e ∷ []) ≡ length m.own + length (e ∷ []) = length-append m.own (e ∷ []) in
    let same : length u.own ≡ length (m.own ++ e ∷ []) = ap (λ (es : List LockEntry). length es) stepped.own in
    omega arith

-- what a job reads behind stays where it reads on, or a file didn't become a table
pub same_after : {V H W : Type 0} {s : Writers W} (first asked : Job V H W s) → KeepsAll first asked → first.after ≡ asked.after
same_after {V} {H} {W} {s} first asked kept = sym (ap (λ (j : Job V H W s). j.after) kept)

pub left_after : {V H W : Type 0} (w : Writers W) {s : Writers W} (file : Lent W s) (roomy last : Job V H W s)
    → Leaves w file roomy last → roomy.after ≡ last.after
left_after {V} {H} {W} w {s} file roomy last leaves = sym (ap (λ (j : Job V H W s). j.after) leaves.kept)

pub fits_at : {H R : Type 0} (bytes : H → Option (List ℕ)) (a b : Base H R) (reader : BlockReader R) → a ≡ b
    → bases.Fits bytes a.version reader → bases.Fits bytes b.version reader
fits_at {H} {R} bytes a b reader same fits = subst (λ (x : Base H R). bases.Fits bytes x.version reader) same fits

module _ {H R W : Type 0} (sure : Type 0) (w : Writers W) (bytes : H → Option (List ℕ)) (faults_of : R → ℕ) where
  pub short_of_memory : (v u : Knows) (job : Job (Base H R) H W w) (key : Option (List ℕ)) (result : Result (Unit {0}) MergeFail)
      → IsErrAnd result (λ e. e ≡ merge.NoMemory) → IfErr result (StopsMaking v u sure w bytes faults_of job key)
  short_of_memory v u job key (Ok done) is = absurd is
  short_of_memory v u job key (Err e) is = subst (λ (f : MergeFail). StopsMaking v u sure w bytes faults_of job key f) (sym is) tt

  -- it wasn't read, or a table not written
  pub unread : (v u : Knows) (job : Job (Base H R) H W w) (key : Option (List ℕ)) (fault : ReadFault) (result : Result (Unit {0}) MergeFail)
      → IsErrAnd result (λ e. e ≡ of_read fault) → FailsToMake w bytes faults_of job key (WasDrawn v u) fault
      → IfErr result (StopsMaking v u sure w bytes faults_of job key)
  unread v u job key fault (Ok done) is why = absurd is
  unread v u job key fault (Err e) is why = subst (λ (f : MergeFail). StopsMaking v u sure w bytes faults_of job key f) (sym is) (by fault why)
    where
      by : (f : ReadFault) → FailsToMake w bytes faults_of job key (WasDrawn v u) f → StopsMaking v u sure w bytes faults_of job key (of_read f)
      by read.NoMemory so = tt
      by (read.Disk name) so = inl so
      by (read.Damaged name place) so = so

  -- no file was lent
  pub unlent : (v m u : Knows) (job : Job (Base H R) H W w) (key : Option (List ℕ)) → GoesOn v m → (why : StepFail)
      → Stepped sure m u fresh_ruling fresh_entry (fresh_outcome {W = W} {g = w} (Err why)) → (result : Result (Unit {0}) MergeFail)
      → IsErrAnd result (λ e. e ≡ of_step why) → IfErr result (StopsMaking v u sure w bytes faults_of job key)
  unlent v m u job key on why stepped (Ok done) is = absurd is
  unlent v m u job key on why stepped (Err e) is =
      subst (λ (f : MergeFail). StopsMaking v u sure w bytes faults_of job key f) (sym is) (by why stepped)
    where
      by : (f : StepFail) → Stepped sure m u fresh_ruling fresh_entry (fresh_outcome {W = W} {g = w} (Err f))
          → StopsMaking v u sure w bytes faults_of job key (of_step f)
      by (step.Halted name) at =
          was_halted v m u u name fresh_ruling fresh_entry (fresh.Halted (file_of name)) on (goes_nowhere u)
          (fresh_halts (file_of name)) at
      by (step.Exhausted counter) at = inl (wider (λ l h. (fresh_ruling l h).answer ≡ fresh.Exhausted counter) v m u u on (goes_nowhere u)
          (answered_in m u fresh_ruling fresh_entry (fresh.Exhausted counter) at))
      by step.NoMemory at = tt
      by (step.Disk name) at = inr (wider_failed name v m u u on (goes_nowhere u)
          (failed_in m u fresh_ruling fresh_entry name at _ refl refl))

  abbrev pub Reads : Base H R → Inputs H → Option (List ℕ) → JobReader R (BlockReader R) → JobReader R (BlockReader R) → ReadFault → Type 0
  Reads base inputs last before after fault = FailsReading is_disk_fault
      (MayWhere (bases.Fits bytes base.version before.looks) (MayFailOn bytes (tables_in base.version))) is_disk_fault
      (MayStopIn bytes last inputs.tables.items) (counts (λ (l : BlockReader R). faults_of l.reader) faults_of before after) fault

  -- it reads what it read before
  reads_alike : (job : Job (Base H R) H W w) (key : Option (List ℕ)) (base : Base H R) (inputs : Inputs H) (last : Option (List ℕ)) (before after : JobReader R (BlockReader R))
      (fault : ReadFault) → base ≡ job.base → inputs ≡ job.inputs → last ≡ key → bases.Fits bytes job.base.version before.looks
      → Reads base inputs last before after fault → FailsToRead w bytes faults_of job key fault
  reads_alike job key base inputs last before after fault same alike there fits why = record {
    before = before;
    after = after;
    cause =
        let so = subst (λ (k : Option (List ℕ)). Reads job.base job.inputs k before after fault) there
        (subst (λ (i : Inputs H). Reads job.base i last before after fault) alike
        (subst (λ (b : Base H R). Reads b inputs last before after fault) same why)) in
        elim so [
          | inl memory ↦ inl memory
          | inr rest ↦ elim rest [
            | inl sources ↦ inr (inl (record {
              had = λ readers. sources.had fits;
              counted = sources.counted;
              steady = sources.steady;
            }))
            | inr files ↦ inr (inr files)
          ]
        ];
  }

  pub read_fails : (lent : ℕ → Type 0) (job : Job (Base H R) H W w) (key : Option (List ℕ)) (base : Base H R) (inputs : Inputs H)
      (last : Option (List ℕ))
      (before after : JobReader R (BlockReader R)) (fault : ReadFault) → base ≡ job.base → inputs ≡ job.inputs → last ≡ key
      → bases.Fits bytes job.base.version before.looks → Reads base inputs last before after fault
      → FailsToMake w bytes faults_of job key lent fault
  read_fails lent job key base inputs last before after fault same alike there fits why =
      inl (reads_alike job key base inputs last before after fault same alike there fits why)

  pub fill_fails : (lent : ℕ → Type 0) (job room filled : Job (Base H R) H W w) (key : Option (List ℕ)) (file : Lent W w)
      (before after : JobReader R (BlockReader R)) (fault : ReadFault) → room.base ≡ job.base → room.inputs ≡ job.inputs → room.after ≡ key
      → bases.Fits bytes job.base.version before.looks → lent file.number
      → FailsWith w (FailsReading is_disk_fault
      (MayWhere (bases.Fits bytes room.base.version before.looks) (MayFailOn bytes (tables_in room.base.version))) is_disk_fault
      (MayStopIn bytes room.after room.inputs.tables.items)) (counts (λ (l : BlockReader R). faults_of l.reader) faults_of before after) file room
      filled fault
      → FailsToMake w bytes faults_of job key lent fault
  fill_fails lent job room filled key file before after fault same alike there fits is why =
      elim why.2 [
        | inl reads ↦ inl (reads_alike job key room.base room.inputs room.after before after fault same alike there fits reads.0)
        | inr writes ↦ inr (record { file = file; is_lent = is; leaving = why.0; cause = writes.0 })
      ]

  -- ---- a whole merge

  pub unplanned : (v u : Knows) (result : Result (Option ℕ) MergeFail) → IsErrAnd result (λ e. e ≡ merge.NoMemory)
      → IfErr result (IsRefused v u sure w bytes faults_of)
  unplanned v u (Ok kept) is = absurd is
  unplanned v u (Err e) is = subst (λ (f : MergeFail). IsRefused v u sure w bytes faults_of f) (sym is) tt

  -- the merge that the ruling had at a moment between was it between moments farther apart
  due_wider : (v p u : Knows) (job : Job (Base H R) H W w) → GoesOn p u → IsDue v p w bytes faults_of job → IsDue v u w bytes faults_of job
  due_wider v p u job on is = record {
    planned = is.planned;
    due = wider (λ l h. (plan_ruling l h).answer ≡ Some is.planned) v v p u (goes_nowhere v) on is.due;
    has = is.has;
    looks = is.looks;
  }

  -- up to where its inputs were read
  pub read_to : (job now : Job (Base H R) H W w) → now.inputs ≡ job.inputs → HasRead bytes now
      → InputsReadOn bytes None now.after job.inputs.tables.items
  read_to job now inputs read = subst (λ (i : Inputs H). InputsReadOn bytes None now.after i.tables.items) inputs read.on

  pub read_all : (v p u : Knows) (job now : Job (Base H R) H W w) → GoesOn p u → IsDue v p w bytes faults_of job → now.inputs ≡ job.inputs
      → AreReadWhole bytes now.inputs.tables.items → HasReadAll v u w bytes faults_of
  read_all v p u job now on due inputs read = record {
    job = job;
    due = due_wider v p u job on due;
    read = subst (λ (i : Inputs H). AreReadWhole bytes i.tables.items) inputs read;
  }

  pub unmade : (v p m u : Knows) (job : Job (Base H R) H W w) (key : Option (List ℕ)) → GoesOn v p → GoesOn p m → GoesOn m u
      → IsDue v p w bytes faults_of job → InputsReadOn bytes None key job.inputs.tables.items → (fail : MergeFail)
      → StopsMaking p m sure w bytes faults_of job key fail → IsRefused v u sure w bytes faults_of fail
  unmade v p m u job key first second last is read_so fail stops = by fail stops
    where
      drawn : (number : ℕ) → WasDrawn p m number → WasDrawn v u number
      drawn number = wider (λ l h. (fresh_ruling l h).answer ≡ fresh.Drawn number) v p m u first last

      halted : (name : Name) → WasHalted p m sure name → WasHalted v u sure name
      halted name why = record {
        was = wider (λ l h. l.halted ≡ Some (file_of name)) v p m u first last why.was;
        never = λ surely none. why.never surely (ap (λ (o : Origin). o.layout.halted) first.origin ∙ none);
      }

      fails_so : (fault : ReadFault) → FailsToMake w bytes faults_of job key (WasDrawn p m) fault
          → FailsMaking v u sure w bytes faults_of fault
      fails_so fault why = record {
        job = job;
        due = due_wider v p u job (goes_then p m u second last) is;
        key = key;
        read = read_so;
        fails = elim why [
          | inl reads ↦ inl reads
          | inr writes ↦ inr (record {
            file = writes.file;
            is_lent = drawn writes.file.number writes.is_lent;
            leaving = writes.leaving;
            cause = writes.cause;
          })
        ];
      }

      out : (counter : Counter) → IsOutOfTables p m counter → IsOutOfTables v u counter
      out counter (inl refused) = inl (wider (λ l h. (fresh_ruling l h).answer ≡ fresh.Exhausted counter) v p m u first last refused)
      out counter (inr took) = inr (record {
        counter_is = took.counter_is;
        took =
            let before = length_within v.own p.own first.own in
            let behind = length_within m.own u.own last.own in
            let took = took.took in
            omega arith;
      })

      failed : (name : Name) → (FailsToMake w bytes faults_of job key (WasDrawn p m) (read.Disk name) ⊎ WasFailed p m sure name)
          → IsRefused v u sure w bytes faults_of (merge.Disk name)
      failed name (inl why) = inl (fails_so (read.Disk name) why)
      failed name (inr why) = inr (wider_failed name v p m u first last why)

      by : (f : MergeFail) → StopsMaking p m sure w bytes faults_of job key f → IsRefused v u sure w bytes faults_of f
      by (merge.Halted name) why = halted name why
      by (merge.Exhausted counter) why = inl (out counter why)
      by merge.Raced why = absurd why
      by merge.NoMemory why = tt
      by (merge.Disk name) why = failed name why
      by (merge.Damaged name place) why = fails_so (read.Damaged name place) why

  -- its tables weren't put in
  pub unput : (v m i u : Knows) (planned : laid_job.Job) (made : Made) → GoesOn v m → GoesOn m i → GoesOn i u
      → Between v m (λ l h. (plan_ruling l h).answer ≡ Some planned) → (fail : InstallFail (Base H R) H W w)
      → Stepped sure m i (λ l h. install_ruling l h planned made) (install_entry planned made) (install_outcome (Err fail))
      → (result : MergeFail) → result ≡ of_install fail → IsRefused v u sure w bytes faults_of result
  unput v m i u planned made first second last due fail stepped result is =
      subst (λ (f : MergeFail). IsRefused v u sure w bytes faults_of f) (sym is) (by fail stepped)
    where
      ruling : Layout → History → Ruling InstallAnswer
      ruling l h = install_ruling l h planned made

      refused : (answer : InstallAnswer) → Stepped sure m i ruling (install_entry planned made) (Answered answer) → WasRefused v u answer
      refused answer at = record {
        planned = planned;
        due = wider (λ l h. (plan_ruling l h).answer ≡ Some planned) v v m u (goes_nowhere v) (goes_then m i u second last) due;
        made = made;
        refused = wider (λ l h. (ruling l h).answer ≡ answer) v m i u first last
            (answered_in m i ruling (install_entry planned made) answer at);
      }

      by : (f : InstallFail (Base H R) H W w) → Stepped sure m i ruling (install_entry planned made) (install_outcome (Err f))
          → IsRefused v u sure w bytes faults_of (of_install f)
      by (install.Halted name) at =
          was_halted v m i u name ruling (install_entry planned made) (install_ruled.Halted (file_of name)) first last
          (install_halts (file_of name) planned made) at
      by (install.Raced key number) at = (key, number, refused (install_ruled.Raced key number) at)
      by (install.Exhausted counter) at = inr (refused (install_ruled.Exhausted counter) at)
      by (install.NoMemory job) at = tt
      by (install.Disk name) at = inr (wider_failed name v m i u first last
          (failed_in m i ruling (install_entry planned made) name at _ refl refl))
