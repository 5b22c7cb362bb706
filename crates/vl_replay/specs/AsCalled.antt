-- What a line that reads is answered, whatever its disk holds: what the engine's call gave. What is said of that is what the call
-- itself says, so that no answer hides damage that was met, and none makes up damage or a fault.
use Rattle.std.specs.Prelude.{◌≡◌, ◌⊎◌, ◌&&◌, not, ℕ, Bool, true, false, List, length, Option, None, Some, Result, Ok, Err, Vec}
use Rattle.std.specs.Prelude.{IfErr, IfNone, IfOk, IfSome, OnOk}
use Rattle.std.specs.FinMap.{get}
use Rattle.std.specs.Global.{Global}
use Rattle.std.specs.Option.{is_some}
use Rattle.std.specs.Str.{bytes_eq}
use Rattle.vl_collect.specs.Faults.{Counts, FailsPassing, MayWhere}
use Rattle.vl_collect.specs.Passing.{AreRead, IsOver, Reaches, TornBehind}
use Rattle.vl_collect.specs.declared.pass.Pass.{Pass}
use Rattle.vl_compact.specs.Stops.{MayStopIn}
use Rattle.vl_compact.specs.declared.job.Job.{Job}
use Rattle.std.specs.declared.clone.Clone as Clone
use Rattle.vl_disk.specs.Crash.{Image}
use Rattle.vl_disk.specs.DiskState.{DiskState}
use Rattle.vl_disk.specs.Faults.{HasCause}
use Rattle.vl_disk.specs.Started.{IsRead}
use Rattle.vl_disk.specs.declared.name.Name.{Name as FileName}
use Rattle.vl_disk.specs.declared.read_fault.ReadFault.TheVariants as faults_of
use Rattle.vl_disk.specs.declared.read_fault.ReadFault.{ReadFault}
use Rattle.vl_disk.specs.declared.reader.HeldFile as HeldFile
use Rattle.vl_disk.specs.declared.reader.Reader as Readers
use Rattle.vl_disk.specs.declared.watched.Watched.{Ghosts}
use Rattle.vl_disk.specs.declared.writer.Writer.{Ghosts as Writers}
use Rattle.vl_engine.specs.Opening.{AnswersOpening}
use Rattle.vl_engine_laws.specs.declared.open.OpenMerge.{OpenMerge}
use Rattle.vl_engine_model.specs.Relocation.{Candidate}
use Rattle.vl_engine_model.specs.Store.Lines.{Name}
use Rattle.vl_io.specs.declared.sink.Sink as sink
use Rattle.vl_model.specs.Keys.{Row, Stored}
use Rattle.vl_model.specs.declared.change.Change.{Change}
use Rattle.vl_reads.specs.Past.{AtFailed, IsRefusedAt, IsWithin, LooksBack, NamesAt}
use Rattle.vl_reads.specs.Reading.{IsOwn, IsRefusedBy, LooksUp, NamesScanned, NotesNothing, OnlyNotes, OnlyReads, ReadFailed}
use Rattle.vl_reads.specs.Reading.{refused_bounds, written_value}
use Rattle.vl_reads.specs.declared.fails.AtFail.{AtFail}
use Rattle.vl_reads.specs.declared.fails.ReadFail.{ReadFail}
use Rattle.vl_reads.specs.declared.past.Past.{Past}
use Rattle.vl_reads.specs.declared.txn.Txn.{Txn}
use Rattle.vl_reads.specs.declared.view.View.{View as EngineView}
use Rattle.vl_recover.specs.declared.fails.OpenError.{OpenError}
use Rattle.vl_replay.specs.declared.replayer.Replayer.{Replayer}
use Rattle.vl_replay.specs.declared.replayer.Served.{Served}
use Rattle.vl_replay_laws.specs.Passing.{halt_at, move_answer}
use Rattle.vl_replay_laws.specs.Standing.{open_in, past_answer, read_answer, value_answer}
use Rattle.vl_replay_laws.specs.declared.choice.Choice.TheVariants.{Due, LeadsInto}
use Rattle.vl_replay_laws.specs.declared.choice.Choice.{Choice}
use Rattle.vl_replay_laws.specs.declared.open.Thing.TheVariants.{Transaction, View}
use Rattle.vl_replay_laws.specs.declared.open.Thing.{Thing}
use Rattle.vl_replay_laws.specs.declared.passing.Passing.{Passing}
use Rattle.vl_script.specs.declared.answer.Answer.TheVariants as answers
use Rattle.vl_script.specs.declared.answer.Answer.{Answer}
use Rattle.vl_script.specs.declared.line.Line.TheVariants as lines
use Rattle.vl_script_model.specs.Called.{Answering, RunsAsCalled}
use Rattle.vl_script_model.specs.Failing.{ReaderFailed, beside}
use Rattle.vl_script_model.specs.Halts.{ReadsWell}
use Rattle.vl_script_model.specs.Steps.{EndsUnopened}
use Rattle.vl_script_model.specs.declared.ending.Ending.{Ending}
use Rattle.vl_script_model.specs.declared.ending.OnFault.TheVariants.{Report}
use Rattle.vl_script_model.specs.declared.fails.Halt.TheVariants.{Damaged, Disk, Halted, NoMemory, Read}
use Rattle.vl_script_model.specs.declared.fails.Halt.{Halt}
use Rattle.vl_space.specs.Collecting.{FitsLooks}
use Rattle.vl_steps.specs.Merging.{FitsReaders}
use Rattle.vl_steps.specs.Planning.{is_due, is_led_into}
use Rattle.vl_steps.specs.Relocating.{At, RelocatesAs, at}
use Rattle.vl_steps.specs.declared.fails.MoveFail.{MoveFail}
use Rattle.vl_table.specs.CursorParts.{MayFailOn, is_disk_fault}
use Rattle.vl_table.specs.Kept.{Files}
use Rattle.vl_table.specs.KeptBlocks.{ReadsOf}
use Rattle.vl_table.specs.declared.block_reader.BlockReader.{BlockReader}
use Rattle.vl_txn.specs.Refusals.{refused_key}
use Rattle.vl_version.specs.LiesOver.{IsInMemory, LiesOver}
use Rattle.vl_version.specs.Sources.{tables_in}
use Rattle.vl_version.specs.declared.base.Base.{Base}
use Rattle.vl_version.specs.declared.version.Version.{Version}

-- ---- reads through a name

module _ {H R : Type 0} (bytes : H → Option (List ℕ)) where
  -- A key was read over a version at a number, under what was written to it.
  pub record ReadsKey (version : Version H) (number : ℕ) (written : Option Change) (old new : BlockReader R) (faults : R → ℕ)
      (key : List ℕ) (read : Result (Option Stored) ReadFail) : Type 0 where
    -- It is refused exactly by the limits.
    pub refused : IsRefusedBy (refused_key key) read
    -- A fault is counted by the reader, and comes only where something of the version stands in files.
    pub cause : HasCause (faults old.reader) (faults new.reader) (ReadFailed read)
    pub near : IsInMemory version → ReadFailed read → ⊥
    -- What was written answers, and no file is read for it;
    pub own : (change : Change) → written ≡ Some change → IsOwn (written_value change) read
    -- and else memory and the tables were looked through, up to the first block that had to be read and doesn't stand.
    pub looks : written ≡ None → (files : Files) → LiesOver bytes files version old → LooksUp bytes version key number read

  -- So was it through what a name stands for, which stands there still, over the same version.
  abbrev pub ReadsThing : (old : Thing H R) (new : Option (Thing H R)) → (R → ℕ) → (key : List ℕ) → Result (Option Stored) ReadFail
      → Type 0
  ReadsThing (View view) new faults key read =
      (after : EngineView H R) × (new ≡ Some (View after)) × OnlyReads view after
      × ReadsKey view.version view.number None view.reader after.reader faults key read
  ReadsThing (Transaction txn) new faults key read =
      (after : Txn H R) × (new ≡ Some (Transaction after)) × OnlyNotes txn after
      × ReadsKey txn.version txn.number (get txn.writes key) txn.reader after.reader faults key read

  -- A read of a key is answered what that gave, or that the name isn't in use.
  abbrev pub AnswersGet : (old new : Option (Thing H R)) → (R → ℕ) → Name → (with_tag : Bool) → (key : List ℕ) → Result Answer Halt
      → Type 0
  AnswersGet None new faults name with_tag key result = result ≡ Ok (answers.Unknown name)
  AnswersGet (Some thing) new faults name with_tag key result =
      (read : Result (Option Stored) ReadFail) × ReadsThing thing new faults key read × (result ≡ read_answer (value_answer with_tag) read)

  -- A key was read as it stood at a number, over a version that is read at another one.
  pub record ReadsBack (version : Version H) (past : Past) (number : ℕ) (old new : BlockReader R) (faults : R → ℕ) (key : List ℕ)
      (at : ℕ) (read : Result (Option Stored) AtFail) : Type 0 where
    pub refused : IsRefusedAt number key at read
    pub cause : HasCause (faults old.reader) (faults new.reader) (AtFailed read)
    pub near : IsInMemory version → AtFailed read → ⊥
    -- It is of a table that may hold the key, or of a log.
    pub names : (files : Files) → ReadsOf bytes files old (tables_in version) → NamesAt bytes version key read
    -- The least number was looked for, and then the key, each up to the first block that had to be read and doesn't stand.
    pub looks : (files : Files) → LiesOver bytes files version old → IsWithin number key at → LooksBack bytes version past key at read

  abbrev pub ReadsThingBack : (old : Thing H R) (new : Option (Thing H R)) → (R → ℕ) → (key : List ℕ) → (at : ℕ)
      → Result (Option Stored) AtFail → Type 0
  ReadsThingBack (View view) new faults key at read =
      (after : EngineView H R) × (new ≡ Some (View after)) × OnlyReads view after
      × ReadsBack view.version view.past view.number view.reader after.reader faults key at read
  ReadsThingBack (Transaction txn) new faults key at read =
      (after : Txn H R) × (new ≡ Some (Transaction after)) × NotesNothing txn after
      × ReadsBack txn.version txn.past txn.number txn.reader after.reader faults key at read

  abbrev pub AnswersPast : (old new : Option (Thing H R)) → (R → ℕ) → Name → (key : List ℕ) → (at : ℕ) → Result Answer Halt → Type 0
  AnswersPast None new faults name key at result = result ≡ Ok (answers.Unknown name)
  AnswersPast (Some thing) new faults name key at result =
      (read : Result (Option Stored) AtFail) × ReadsThingBack thing new faults key at read × (result ≡ past_answer read)

  -- The rows of an interval were read over a version at a number.
  pub record ReadsRows (version : Version H) (old new : BlockReader R) (faults : R → ℕ) (low high : List ℕ)
      (read : Result (Vec Row Global) ReadFail) : Type 0 where
    pub refused : IsRefusedBy (refused_bounds low high) read
    pub cause : HasCause (faults old.reader) (faults new.reader) (ReadFailed read)
    pub near : IsInMemory version → ReadFailed read → ⊥
    -- A fault is of a table whose range meets the interval, or of a log.
    pub names : NamesScanned bytes version low high read

  abbrev pub ReadsThingRows : (old : Thing H R) (new : Option (Thing H R)) → (R → ℕ) → (low high : List ℕ)
      → Result (Vec Row Global) ReadFail → Type 0
  ReadsThingRows (View view) new faults low high read =
      (after : EngineView H R) × (new ≡ Some (View after)) × OnlyReads view after
      × ReadsRows view.version view.reader after.reader faults low high read
  ReadsThingRows (Transaction txn) new faults low high read =
      (after : Txn H R) × (new ≡ Some (Transaction after)) × OnlyNotes txn after
      × ReadsRows txn.version txn.reader after.reader faults low high read

  -- So is a scan.
  abbrev pub AnswersScan : (old new : Option (Thing H R)) → (R → ℕ) → Name → (low high : List ℕ) → Result Answer Halt → Type 0
  AnswersScan None new faults name low high result = result ≡ Ok (answers.Unknown name)
  AnswersScan (Some thing) new faults name low high result =
      (read : Result (Vec Row Global) ReadFail) × ReadsThingRows thing new faults low high read
      × (result ≡ read_answer (λ rows. answers.Rows rows) read)

-- ---- passes

-- what a batch is answered
abbrev pub batch_answer : Result (Option (List Candidate)) ReadFault → Result Answer Halt
batch_answer (Ok None) = Ok answers.End
batch_answer (Ok (Some batch)) = Ok (answers.FoundRecords (length batch))
batch_answer (Err fault) = Err (halt_at fault)

module _ {H R : Type 0} (bytes : H → Option (List ℕ)) where
  -- A pass went on over its log, up to this place.
  pub record GoesOn (pass : Pass (Base H R) H) (to : ℕ) (c : Counts) (read : Result (Option (List Candidate)) ReadFault)
      : Type 0 where
    -- It went over whole frames alone, and only where these are all of the log it gave nothing.
    pub reaches : OnOk read (Reaches bytes pass.log pass.at.place to)
    pub over : IfOk read (λ batch. IfNone batch (IsOver bytes pass.log to))
    -- What it gave was read from them.
    pub given : IfOk read (λ batch. IfSome batch (AreRead bytes pass.log pass.at.place))
    -- Its log is damaged only where the frames end and bytes stand behind them, and its sources only where a block doesn't stand.
    pub cause : IfErr read (FailsPassing (λ f. is_disk_fault f)
        (MayWhere (FitsLooks bytes pass) (MayFailOn bytes (tables_in pass.base.version)))
        pass.log.number (TornBehind bytes pass.log pass.at.place) c)

  -- The next batch of a pass is answered what the pass gave, unless memory ran out before.
  abbrev pub AnswersNext : Pass (Base H R) H → Result Answer Halt → Type 0
  AnswersNext pass result = (result ≡ Err NoMemory)
      ⊎ ((read : Result (Option (List Candidate)) ReadFault) × (to : ℕ) × (c : Counts) × GoesOn pass to c read
      × (result ≡ batch_answer read))

  -- the pass has this name, or another one, and a batch of it waits, or none
  abbrev pub AnswersBatchOf : (named : Bool) → (waiting : Option (List Candidate)) → Pass (Base H R) H → Name → Result Answer Halt → Type 0
  AnswersBatchOf false waiting pass name result = result ≡ Ok (answers.Unknown name)
  AnswersBatchOf true (Some batch) pass name result = result ≡ Ok (answers.Taken name)
  AnswersBatchOf true None pass name result = AnswersNext pass result

  abbrev pub AnswersBatch : Option (Passing (Base H R) H) → Name → Result Answer Halt → Type 0
  AnswersBatch None name result = result ≡ Ok (answers.Unknown name)
  AnswersBatch (Some going) name result = AnswersBatchOf (bytes_eq name going.name) going.batch going.pass name result

module _ {D H R : Type 0} (g : Ghosts D) (bytes : H → Option (List ℕ)) where
  -- The move of a waiting batch is answered what that came to, unless memory ran out before. What it works on, at its begin and at its
  -- end, has a reader of its own.
  abbrev pub AnswersMoved : (R → ℕ) → (old new : BlockReader R → At D H R) → (segment : ℕ) → List Candidate → Result Answer Halt → Type 0
  AnswersMoved faults old new segment batch result = (result ≡ Err NoMemory)
      ⊎ ((moved : Result ℕ MoveFail) × (looks : BlockReader R) × (after : BlockReader R)
      × RelocatesAs g bytes faults (old looks) (new after) segment batch moved × (result ≡ move_answer moved))

  abbrev pub AnswersMoveOf : (named : Bool) → (waiting : Option (List Candidate)) → (R → ℕ) → (old new : BlockReader R → At D H R)
      → (segment : ℕ) → Name → Result Answer Halt → Type 0
  AnswersMoveOf false waiting faults old new segment name result = result ≡ Ok (answers.Unknown name)
  AnswersMoveOf true None faults old new segment name result = result ≡ Ok answers.Idle
  AnswersMoveOf true (Some batch) faults old new segment name result = AnswersMoved faults old new segment batch result

  abbrev pub AnswersMove : Option (Passing (Base H R) H) → (R → ℕ) → (old new : BlockReader R → At D H R) → Name → Result Answer Halt → Type 0
  AnswersMove None faults old new name result = result ≡ Ok (answers.Unknown name)
  AnswersMove (Some going) faults old new name result =
      AnswersMoveOf (bytes_eq name going.name) going.batch faults old new going.pass.log.number name result

-- ---- merges

-- there is a merge to plan of this version, whatever stands in its tables
abbrev pub can_merge : {H : Type 0} → (H → ℕ) → Choice → Version H → Bool
can_merge size Due version = is_due size version
can_merge size (LeadsInto segment) version = is_led_into segment version

module _ {H R W : Type 0} (bytes : H → Option (List ℕ)) (faults : R → ℕ) (writers : Writers W) where
  -- What reading for a merge may fail by: one of its tables, at which reading behind some key stops, or whose order breaks; or,
  -- where look-ups in its base fit, one of the base's.
  abbrev pub MayFailMerging : (fits : Type 0) → {k : _} → Job (Base H R) H W k → ReadFault → Type 0
  MayFailMerging fits job fault =
      ((after : Option (List ℕ)) × MayStopIn bytes after job.inputs.tables.items fault)
      ⊎ (fits → MayFailOn bytes (tables_in job.base.version) fault)

  -- It was halted by damage that is of these; or by a fault that a reader, or what writes its files, has counted.
  abbrev pub HaltsMerging : (fits : Type 0) → {k : _} → Job (Base H R) H W k → {T : Type 0} → Result T Halt → Type 0
  HaltsMerging fits job (Ok x) = Unit {0}
  HaltsMerging fits job (Err NoMemory) = Unit {0}
  HaltsMerging fits job (Err (Disk name)) = Unit {0}
  HaltsMerging fits job (Err (Read name)) = ReaderFailed (beside faults writers.faults)
  HaltsMerging fits job (Err (Halted name)) = Unit {0}
  HaltsMerging fits job (Err (Damaged name place)) = MayFailMerging fits job (faults_of.Damaged name place)

  -- A plan or a drain is idle only where a merge is open or there is none to plan. It reads well; or the merge that was planned of this
  -- version was halted so.
  abbrev pub AnswersPlan : (there : Bool) → Option OpenMerge → Version H → Result Answer Halt → Type 0
  AnswersPlan there merging version result = (result ≡ Ok answers.Idle → (not (is_some merging) && there) ≡ false)
      × (ReadsWell result
      ⊎ ((job : Job (Base H R) H W writers) × (job.base.version ≡ version) × HaltsMerging (FitsReaders bytes job) job result))

-- ---- lines

-- A line that reads is answered what the engine's call gave, and no other one meets damage or a read that fails.
abbrev pub AnswersLine : {D Held Reader Writer : Type 0} {watched : _} {held : _} {cloned : _} {read : _} {write : _}
    → Ghosts D → (Held → Option (List ℕ)) → (Reader → ℕ) → Writers Writer
    → (old new : Served D Held Reader Writer watched held cloned read write) → Option (Passing (Base Held Reader) Held)
    → Answering
AnswersLine g bytes faults writers old new passing (lines.Get name key) result =
    AnswersGet bytes (open_in old.opens.items name) (open_in new.opens.items name) (λ r. faults r.inner) name false key result
AnswersLine g bytes faults writers old new passing (lines.GetTagged name key) result =
    AnswersGet bytes (open_in old.opens.items name) (open_in new.opens.items name) (λ r. faults r.inner) name true key result
AnswersLine g bytes faults writers old new passing (lines.GetAt name key number) result =
    AnswersPast bytes (open_in old.opens.items name) (open_in new.opens.items name) (λ r. faults r.inner) name key number result
AnswersLine g bytes faults writers old new passing (lines.Scan name low high limit way) result =
    AnswersScan bytes (open_in old.opens.items name) (open_in new.opens.items name) (λ r. faults r.inner) name low high result
AnswersLine g bytes faults writers old new passing (lines.Batch name) result = AnswersBatch bytes passing name result
AnswersLine g bytes faults writers old new passing (lines.Move name) result =
    AnswersMove g bytes passing faults (at old.engine.disk old.engine.core old.engine.merging)
    (at new.engine.disk new.engine.core new.engine.merging) name result
AnswersLine {held = held} g bytes faults writers old new passing (lines.Plan name) result = AnswersPlan bytes faults writers
    (can_merge held.size Due old.engine.core.version) old.engine.merging old.engine.core.version result
AnswersLine {held = held} g bytes faults writers old new passing (lines.Drain name segment) result = AnswersPlan bytes faults writers
    (can_merge held.size (LeadsInto segment) old.engine.core.version) old.engine.merging old.engine.core.version result
AnswersLine g bytes faults writers old new passing line result = ReadsWell result

-- so it is of a replayer that takes lines
abbrev pub AnswersAsCalled : {D Held Reader Writer : Type 0} {watched : _} {held : _} {cloned : _} {read : _} {write : _}
    → Ghosts D → (Held → Option (List ℕ)) → (Reader → ℕ) → Writers Writer
    → (old new : Replayer D Held Reader Writer watched held cloned read write) → Answering
AnswersAsCalled g bytes faults writers old new line result = AnswersLine g bytes faults writers old.served new.served old.passing line result

-- ---- whole runs

-- what files are, and how they are shared, by what a bound has of them: the type of a replayer names both
abbrev pub files_by : {H : Type 0} → (H → Option (List ℕ)) → (H → ℕ) → (H → FileName) → HeldFile.Ghosts H
files_by bytes size named = record { bytes = bytes; size = size; named = named }

abbrev pub shares_by : {H : Type 0} → (H → H → Type 0) → (H → Type 0) → Clone.Ghosts H
shares_by is_clone is_infallible = record { is_clone = is_clone; is_infallible = is_infallible }

-- A run over an open store on such a disk: each line was answered what the engine's call gave, and the run ended there.
abbrev pub RunsOpen : {D Held Reader Writer K : Type 0} → (watched : Ghosts D) → (held : HeldFile.Ghosts Held)
    → (cloned : Clone.Ghosts Held) → (read : Readers.Ghosts Reader Held) → (write : Writers Writer) → sink.Ghosts K
    → (left : Option (List ℕ)) → (old new : K) → Ending → Type 0
RunsOpen {D} {Held} {Reader} {Writer} watched held cloned read write k left old new ending =
    (first : Replayer D Held Reader Writer watched held cloned read write)
    × RunsAsCalled (AnswersAsCalled watched held.bytes read.faults write) k Report first left old new ending

-- what an opening of the disk answers is what reads of it give, where it tells its bytes
abbrev pub OpensAs : {D : Type 0} → Ghosts D → D → Option OpenError → Type 0
OpensAs g disk why = (state : DiskState) (read : Image) → g.told disk ≡ Some state → IsRead read state → AnswersOpening read why

-- A run over a disk opened a store there, and went on so; or the opening gave why not, and that was put.
abbrev pub RunsFromOpening : {D Held Reader Writer K : Type 0} → (watched : Ghosts D) → (held : HeldFile.Ghosts Held)
    → (cloned : Clone.Ghosts Held) → (read : Readers.Ghosts Reader Held) → (write : Writers Writer) → sink.Ghosts K
    → D → (left : Option (List ℕ)) → (old new : K) → Ending → Type 0
RunsFromOpening watched held cloned read write k disk left old new ending =
    (OpensAs watched disk None × RunsOpen watched held cloned read write k left old new ending)
    ⊎ ((why : OpenError) × OpensAs watched disk (Some why) × EndsUnopened k old new why ending)
