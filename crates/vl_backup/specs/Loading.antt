-- What a load makes of a store, and what it answers.
use Rattle.std.specs.Prelude.{◌≡◌, ◌≢◌, ◌⊎◌, ◌<◌, ◌≤◌, ◌+◌, ℕ, true, nat_le, if◌then◌else◌, List, [], ◌∷◌, ◌++◌, length}
use Rattle.std.specs.Prelude.{Option, None, Some, Result, Ok, Err, ⊤}
use Rattle.std.specs.FinMap.{entries, from_sorted}
use Rattle.vl_stream.specs.Batches.{Write, joined}
use Rattle.vl_stream.specs.Grammar.{stream_grammar}
use Rattle.vl_stream.specs.Loads.{loaded}
use Rattle.vl_stream.specs.Pieces.{Records}
use Rattle.vl_stream.specs.Streams.{BeginWith, DamagedAt, HoldsStream, IsAbove}
use Rattle.vl_stream.specs.Streams.{IsNoBackup, Whole, last_key, stream_format, stream_header}
use Rattle.vl_backup.specs.declared.fails.LoadFail.{LoadFail}
use Rattle.vl_backup.specs.declared.fails.LoadFail.TheVariants as fails
use Rattle.vl_disk.specs.declared.watched.Watched.{Ghosts}
use Rattle.vl_engine_laws.specs.Carries.{CrashesShow, Tells}
use Rattle.vl_engine_laws.specs.MayStep.{Fits}
use Rattle.vl_engine_laws.specs.Represents.{IsLive, Represents, file_of}
use Rattle.vl_engine_laws.specs.declared.kept.Core.{Core}
use Rattle.vl_engine_model.specs.Ruling.{ended, halted_at, has_no_epoch, has_no_number, logged}
use Rattle.vl_engine_model.specs.Rulings.Commit.{commit_frame}
use Rattle.vl_engine_model.specs.Rulings.Rotate.{rotated}
use Rattle.vl_engine_model.specs.declared.layout.Layout.{Layout}
use Rattle.vl_frame.specs.Header.{HasFormat}
use Rattle.vl_frame.specs.Runs.{StandsAt, item_frame}
use Rattle.vl_frame.specs.declared.kinds.FileKind.TheVariants.{Backup}
use Rattle.vl_model.specs.Formats.{log_format}
use Rattle.vl_model.specs.Frames.{frame_length}
use Rattle.vl_model.specs.History.{History, last_number, with_commit}
use Rattle.vl_model.specs.Limits.{max_commit_number, max_live}
use Rattle.vl_model.specs.Notes.{AreNotesOf}
use Rattle.vl_model.specs.declared.counter.Counter.{Counter}
use Rattle.vl_model.specs.declared.counter.Counter.TheVariants as counters
use Rattle.vl_reads.specs.declared.txn.Txn.{Txn}
use Rattle.vl_recover.specs.crash.Starts.{MayOpen}
use Rattle.vl_steps.specs.declared.fails.CommitFail.{CommitFail}
use Rattle.vl_steps.specs.declared.fails.CommitFail.TheVariants as commits

-- ---- where an engine stands

-- what an engine has in memory, and its disk
pub record Parts (D H : Type 0) : Type 0 where
  pub core : Core H
  pub disk : D

abbrev pub parts : {D H : Type 0} → Core H → D → Parts D H
parts core disk = record { core = core; disk = disk }

-- The engine represents a history and a layout, and steps on files find what they ask.
pub record Works {D H : Type 0} (g : Ghosts D) (bytes : H → Option (List ℕ)) (e : Parts D H) (h : History) (l : Layout)
    : Type 0 where
  pub represents : Represents bytes e.core (g.told e.disk) h l
  pub fits : Fits (g.told e.disk) e.core h l

-- It has gone on to a history, and lives on with what lived before. What crashes left meanwhile shows at least the old history
-- and at most one that may be, and a store may be opened on the disk again. Of its layout this holds.
pub record GoesOn {D H : Type 0} (g : Ghosts D) (bytes : H → Option (List ℕ)) (old new : Parts D H) (h : History) (l : Layout)
    (reached most : History) (so : Layout → Type 0) : Type 0 where
  pub layout : Layout
  pub works : Works g bytes new reached layout
  pub live : layout.live ≡ l.live
  pub through : l.halted ≡ None → CrashesShow g old.disk new.disk h most
  pub again : l.halted ≡ None → Tells g new.disk MayOpen
  pub is : so layout

-- ---- one batch

-- the log has no room for the frame of the batch's commit
abbrev pub HasNoRoomFor : History → List Write → Layout → Type 0
HasNoRoomFor h batch l = l.room < l.active.length + frame_length log_format (commit_frame h batch)

-- an empty log has no room for the frame of its commit
pub record HasNoRoom (h : History) (batch : List Write) (room length frame : ℕ) : Type 0 where
  pub empty : length ≡ 16
  pub frame_is : frame ≡ frame_length log_format (commit_frame h batch)
  pub passes : room < length + frame

-- No number of this kind is left. One of a log or an epoch is asked only where the log has no room.
abbrev pub IsUsedUp : History → List Write → Layout → Counter → Type 0
IsUsedUp h batch l counters.Commit = max_commit_number ≤ last_number h
IsUsedUp h batch l counters.Log = (has_no_number l.next_log 1 ≡ true) × HasNoRoomFor h batch l
IsUsedUp h batch l counters.Version = (has_no_epoch l ≡ true) × HasNoRoomFor h batch l
IsUsedUp h batch l counters.Table = ⊥
IsUsedUp h batch l counters.Manifest = ⊥

-- Where a batch's frame goes: behind those of the active log, or, where that has no room for it, to the next log.
abbrev pub sealed_for : History → List Write → Layout → Layout
sealed_for h batch l =
    if nat_le (l.active.length + frame_length l.active.format (commit_frame h batch)) l.room then l else rotated l

-- the layout with these batches as commits
abbrev pub loaded_layout : Layout → History → List (List Write) → Layout
loaded_layout l h [] = l
loaded_layout l h (b ∷ bs) = loaded_layout (logged (commit_frame h b) (sealed_for h b l)) (with_commit h (from_sorted b)) bs

-- where a refusal leaves the layout: as it was, or with its log sealed; and halted where the disk failed
abbrev pub IsLeftBy : LoadFail → (l sealed x : Layout) → Type 0
IsLeftBy (fails.Disk name) l sealed x = (x ≡ halted_at (file_of name) l) ⊎ (x ≡ halted_at (file_of name) sealed)
IsLeftBy (fails.Full long frame) l sealed x = (x ≡ l) ⊎ (x ≡ sealed)
IsLeftBy fails.TooMany l sealed x = (x ≡ l) ⊎ (x ≡ sealed)
IsLeftBy (fails.Exhausted counter) l sealed x = (x ≡ l) ⊎ (x ≡ sealed)
IsLeftBy (fails.Halted name) l sealed x = (x ≡ l) ⊎ (x ≡ sealed)
IsLeftBy fails.NoMemory l sealed x = (x ≡ l) ⊎ (x ≡ sealed)
IsLeftBy fails.NotABackup l sealed x = ⊥
IsLeftBy (fails.NewerFormat format) l sealed x = ⊥
IsLeftBy (fails.Damaged place) l sealed x = ⊥
IsLeftBy fails.Read l sealed x = ⊥

-- By this a batch isn't the next commit behind a history.
abbrev pub RefusesBatch : History → List Write → LoadFail → Layout → Type 0
RefusesBatch h batch (fails.Full long frame) l = HasNoRoom h batch l.room long frame
RefusesBatch h batch fails.TooMany l = max_live ≤ length l.live
RefusesBatch h batch (fails.Exhausted counter) l = IsUsedUp h batch l counter
RefusesBatch h batch (fails.Halted name) l = l.halted ≡ Some (file_of name)
RefusesBatch h batch (fails.Disk name) l = l.halted ≡ Some (file_of name)
RefusesBatch h batch fails.NoMemory l = Unit {0}
RefusesBatch h batch fails.NotABackup l = ⊥
RefusesBatch h batch (fails.NewerFormat format) l = ⊥
RefusesBatch h batch (fails.Damaged place) l = ⊥
RefusesBatch h batch fails.Read l = ⊥

-- the most that a crash may leave where a load ended so: the batch too, but only where the disk failed
abbrev pub up_to : LoadFail → (reached next : History) → History
up_to (fails.Disk name) reached next = next
up_to fails.NotABackup reached next = reached
up_to (fails.NewerFormat format) reached next = reached
up_to (fails.Damaged place) reached next = reached
up_to (fails.Full long frame) reached next = reached
up_to fails.TooMany reached next = reached
up_to fails.Read reached next = reached
up_to (fails.Exhausted counter) reached next = reached
up_to (fails.Halted name) reached next = reached
up_to fails.NoMemory reached next = reached

-- A batch is the next commit, behind the frames of this log. Or it was refused, and then the history stays.
abbrev pub CommitsBatch : {D H : Type 0} → Ghosts D → (H → Option (List ℕ)) → (old new : Parts D H) → History
    → (l sealed : Layout)
    → List Write → Result ⊤ LoadFail → Type 0
CommitsBatch g bytes old new h l sealed batch (Ok done) =
    GoesOn g bytes old new h l (with_commit h (from_sorted batch)) (with_commit h (from_sorted batch))
    (λ (x : Layout). x ≡ logged (commit_frame h batch) sealed)
CommitsBatch g bytes old new h l sealed batch (Err why) =
    GoesOn g bytes old new h l h (up_to why h (with_commit h (from_sorted batch)))
    (λ (x : Layout). RefusesBatch h batch why x × IsLeftBy why l sealed x)

-- A transaction lives that has read nothing, and has written just these records.
pub record IsReady {H R : Type 0} (txn : Txn H R) (l : Layout) (batch : List Write) : Type 0 where
  pub lives : IsLive l txn.ticket txn.number
  pub unread : AreNotesOf [] txn.reads.keys txn.reads.spans
  pub writes : entries txn.writes ≡ batch
  pub some : 1 ≤ length batch

-- A log that isn't halted has this length, and no room for the frame of the batch's commit.
pub record IsFullFor (l : Layout) (h : History) (batch : List Write) (length frame : ℕ) : Type 0 where
  pub running : l.halted ≡ None
  pub length_is : length ≡ l.active.length
  pub frame_is : frame ≡ frame_length log_format (commit_frame h batch)
  pub passes : l.room < length + frame

-- it was not refused for what the stream is
abbrev pub IsOfBatch : Result ⊤ LoadFail → Type 0
IsOfBatch (Ok done) = Unit {0}
IsOfBatch (Err (fails.Full long frame)) = Unit {0}
IsOfBatch (Err fails.TooMany) = Unit {0}
IsOfBatch (Err (fails.Exhausted counter)) = Unit {0}
IsOfBatch (Err (fails.Halted name)) = Unit {0}
IsOfBatch (Err (fails.Disk name)) = Unit {0}
IsOfBatch (Err fails.NoMemory) = Unit {0}
IsOfBatch (Err fails.NotABackup) = ⊥
IsOfBatch (Err (fails.NewerFormat format)) = ⊥
IsOfBatch (Err (fails.Damaged place)) = ⊥
IsOfBatch (Err fails.Read) = ⊥

-- ---- what a refused commit comes to

abbrev pub commit_fail : {H R : Type 0} → CommitFail H R → LoadFail
commit_fail (commits.Halted name) = fails.Halted name
commit_fail (commits.Exhausted txn) = fails.Exhausted counters.Commit
commit_fail (commits.Conflict key number) = fails.NoMemory
commit_fail (commits.Full txn long frame) = fails.Full long frame
commit_fail (commits.NoMemory txn) = fails.NoMemory
commit_fail (commits.Disk name) = fails.Disk name

-- a transaction that was handed back is given up
abbrev pub given_up : {H R : Type 0} → CommitFail H R → Layout → Layout
given_up (commits.Halted name) l = l
given_up (commits.Exhausted txn) l = ended txn.ticket l
given_up (commits.Conflict key number) l = l
given_up (commits.Full txn long frame) l = ended txn.ticket l
given_up (commits.NoMemory txn) l = ended txn.ticket l
given_up (commits.Disk name) l = l

-- ---- a stream

-- The input begins with the header of a stream and these batches; before the first of them it may begin with anything.
pub record BeginsStream (input : List ℕ) (bs : List (List Write)) : Type 0 where
  pub since : ℕ
  pub rest : List ℕ
  pub spelled : input ≡ stream_header since ++ rest
  pub begins : BeginWith stream_grammar 16 [] 0 rest bs

abbrev pub MayBegin : List ℕ → List (List Write) → Type 0
MayBegin input [] = Unit {0}
MayBegin input (b ∷ bs) = BeginsStream input (b ∷ bs)

-- The bytes begin with these batches, and this stands right behind them.
abbrev pub BeginTo : (at : ℕ) (key : List ℕ) (count : ℕ) (bytes : List ℕ) → List (List Write) → (left : List ℕ) → Type 0
BeginTo at key count bytes [] left = bytes ≡ left
BeginTo at key count bytes (b ∷ bs) left =
    (rest : List ℕ) × StandsAt stream_grammar 0 at bytes (Records b) rest × IsAbove key b
    × BeginTo (at + length (item_frame stream_grammar 0 at (Records b))) (last_key key b) (count + length b) rest bs left

-- The input begins with the header of a stream and these batches, and just what stands behind them is left to be read.
pub record IsReadTo (input : List ℕ) (left : Option (List ℕ)) (bs : List (List Write)) : Type 0 where
  pub since : ℕ
  pub rest : List ℕ
  pub behind : List ℕ
  pub spelled : input ≡ stream_header since ++ rest
  pub begins : BeginTo 16 [] 0 rest bs behind
  pub left_is : left ≡ Some behind

-- what was read of an input: these batches became commits, and the next one, if any, did not
abbrev pub IsReadAs : (input : List ℕ) → (left : Option (List ℕ)) → (done next : List (List Write)) → Result ℕ LoadFail → Type 0
IsReadAs input left done next (Ok count) = HoldsStream input done Whole × (left ≡ Some []) × (count ≡ length (joined done))
IsReadAs input left done next (Err fails.NotABackup) = IsNoBackup input × (done ≡ [])
IsReadAs input left done next (Err (fails.NewerFormat format)) =
    HasFormat Backup input format × (format ≢ stream_format) × (done ≡ [])
IsReadAs input left done next (Err (fails.Damaged place)) = HoldsStream input done (DamagedAt place)
IsReadAs input left done next (Err fails.Read) = MayBegin input done
IsReadAs input left done next (Err fails.NoMemory) = MayBegin input (done ++ next)
IsReadAs input left done next (Err (fails.Full long frame)) = IsReadTo input left (done ++ next)
IsReadAs input left done next (Err fails.TooMany) = IsReadTo input left (done ++ next)
IsReadAs input left done next (Err (fails.Exhausted counter)) = IsReadTo input left (done ++ next)
IsReadAs input left done next (Err (fails.Halted name)) = IsReadTo input left (done ++ next)
IsReadAs input left done next (Err (fails.Disk name)) = IsReadTo input left (done ++ next)

-- why no batch was read
abbrev pub IsOfStream : LoadFail → Type 0
IsOfStream fails.NotABackup = Unit {0}
IsOfStream (fails.NewerFormat format) = Unit {0}
IsOfStream (fails.Damaged place) = Unit {0}
IsOfStream fails.Read = Unit {0}
IsOfStream fails.NoMemory = Unit {0}
IsOfStream (fails.Full long frame) = ⊥
IsOfStream fails.TooMany = ⊥
IsOfStream (fails.Exhausted counter) = ⊥
IsOfStream (fails.Halted name) = ⊥
IsOfStream (fails.Disk name) = ⊥

-- The load ended by this, with the batch at which it did: it was refused, or there was none.
abbrev pub EndsLoad : History → (l : Layout) → (next : List (List Write)) → LoadFail → Layout → Type 0
EndsLoad h l [] why x = IsOfStream why × (x ≡ l)
EndsLoad h l (batch ∷ later) why x = RefusesBatch h batch why x × IsLeftBy why l (sealed_for h batch l) x

-- The engine has gone on to the history that has these batches as commits.
abbrev pub LoadsOn : {D H : Type 0} → Ghosts D → (H → Option (List ℕ)) → (old new : Parts D H) → History → Layout
    → (done next : List (List Write)) → Result ℕ LoadFail → Type 0
LoadsOn g bytes old new h l done next (Ok count) =
    GoesOn g bytes old new h l (loaded h done) (loaded h done) (λ (x : Layout). x ≡ loaded_layout l h done)
LoadsOn g bytes old new h l done next (Err why) =
    GoesOn g bytes old new h l (loaded h done) (up_to why (loaded h done) (loaded h (done ++ next)))
    (EndsLoad (loaded h done) (loaded_layout l h done) next why)

-- What a load came to: it read a source, and changed an engine.
pub record Loads {D H : Type 0} (g : Ghosts D) (bytes : H → Option (List ℕ)) (left rest : Option (List ℕ)) (old new : Parts D H)
    (result : Result ℕ LoadFail) : Type 0 where
  -- these batches became commits, in their order, and the load ended at this one or at none
  pub done : List (List Write)
  pub next : List (List Write)
  pub few : length next ≤ 1
  -- the input has them, where the source tells it;
  pub read : (input : List ℕ) → left ≡ Some input → IsReadAs input rest done next result
  -- and so the engine went on
  pub goes : (h : History) (l : Layout) → Works g bytes old h l → LoadsOn g bytes old new h l done next result

-- the disk failed
abbrev pub LoadFailed : {T : Type 0} → Result T LoadFail → Type 0
LoadFailed (Err (fails.Disk name)) = Unit {0}
LoadFailed (Ok done) = ⊥
LoadFailed (Err fails.NotABackup) = ⊥
LoadFailed (Err (fails.NewerFormat format)) = ⊥
LoadFailed (Err (fails.Damaged place)) = ⊥
LoadFailed (Err (fails.Full long frame)) = ⊥
LoadFailed (Err fails.TooMany) = ⊥
LoadFailed (Err fails.Read) = ⊥
LoadFailed (Err (fails.Exhausted counter)) = ⊥
LoadFailed (Err (fails.Halted name)) = ⊥
LoadFailed (Err fails.NoMemory) = ⊥
