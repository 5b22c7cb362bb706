-- What a pass stands for, by the entries of its sources and the bytes of its log, where these are told.
use Rattle.std.specs.Prelude.{◌≡◌, ◌≤◌, ℕ, ◌+◌, List, [], ◌∷◌, ◌++◌, drop, length, Option, Some}
use Rattle.std.specs.List.{All, AllByRecursion, Contains, sum_by}
use Rattle.std.specs.Option.{ForSome}
use Rattle.vl_collect.specs.Taking.{candidates, outcome}
use Rattle.vl_collect.specs.declared.batch.Found.{Found}
use Rattle.vl_collect.specs.declared.pass.At.{At}
use Rattle.vl_collect.specs.declared.pass.Pass.{Pass}
use Rattle.vl_frame.specs.Runs.{HasFrame, ReadsAs, StandsAt, run_bytes}
use Rattle.vl_engine_model.specs.Logs.{LogRecord, frame_records, records_from}
use Rattle.vl_engine_model.specs.Relocation.{Candidate, next_batch}
use Rattle.vl_engine_model.specs.Relocation as layout
use Rattle.vl_merge.specs.Marked.{Marked, all_of}
use Rattle.vl_model.specs.Frames.{frame_length}
use Rattle.vl_model.specs.declared.change.Change.TheVariants.{Set}
use Rattle.vl_model.specs.declared.entry.Entry.{Entry}
use Rattle.vl_model.specs.declared.log_frame.LogFrame.{LogFrame}
use Rattle.vl_seglog.specs.Frames.{frames_grammar}
use Rattle.vl_seglog.specs.Sealed.{IsTorn}
use Rattle.vl_seglog.specs.declared.sealed.SealedLog.{SealedLog}

-- ---- the log

-- the records of these frames, of which the first stands at a place, but for so many of the first frame's
abbrev pub records_behind : (format : ℕ) → At → List LogFrame → List LogRecord
records_behind format at [] = []
records_behind format at (f ∷ fs) =
    drop at.done (frame_records format at.place f) ++ records_from format (at.place + frame_length format f) fs

-- These records are all that stand in the bytes of the log of this format with this number from there on.
pub record AreLeft (format number : ℕ) (bytes : List ℕ) (at : At) (left : List LogRecord) : Type 0 where
  pub frames : List LogFrame
  pub reads : ReadsAs (frames_grammar format) number at.place (drop at.place bytes) frames
  pub are : left ≡ records_behind format at frames

-- the frames that stand one behind the other from a place on end there
pub record EndAt (format number : ℕ) (bytes : List ℕ) (place end : ℕ) : Type 0 where
  pub frames : List LogFrame
  pub reads : ReadsAs (frames_grammar format) number place (drop place bytes) frames
  pub is : end ≡ place + sum_by (frame_length format) frames

-- From one place to the other frames of the log of this format with this number are spelled, one behind the other.
pub record FramesTo (format number : ℕ) (bytes : List ℕ) (from to : ℕ) : Type 0 where
  pub frames : List LogFrame
  pub have : AllByRecursion (HasFrame (frames_grammar format)) frames
  pub rest : List ℕ
  pub spelled : drop from bytes ≡ run_bytes (frames_grammar format) number from frames ++ rest
  pub is : to ≡ from + length (run_bytes (frames_grammar format) number from frames)

-- Frames are spelled from a place to that which is found, where bytes stand and no frame: there the frames end.
pub record IsTornAt (format number : ℕ) (bytes : List ℕ) (place found : ℕ) : Type 0 where
  pub to : FramesTo format number bytes place found
  pub torn : IsTorn format number found bytes
  pub ends : (end : ℕ) → EndAt format number bytes place end → found ≡ end

-- so of the log that a pass goes over, from its place on, where it tells its bytes
abbrev pub TornBehind : {H : Type 0} → (H → Option (List ℕ)) → SealedLog H → ℕ → ℕ → Type 0
TornBehind bytes log place found =
    ForSome (bytes log.held) (λ told. IsTornAt log.format log.number told place found)

-- so of the log, where it tells its bytes
abbrev pub Reaches : {H : Type 0} → (H → Option (List ℕ)) → SealedLog H → (from to : ℕ) → Type 0
Reaches bytes log from to = ForSome (bytes log.held) (λ told. FramesTo log.format log.number told from to)

-- none of its bytes stands at a place or behind it
abbrev pub IsOver : {H : Type 0} → (H → Option (List ℕ)) → SealedLog H → ℕ → Type 0
IsOver bytes log place = ForSome (bytes log.held) (λ told. length told ≤ place)

-- the record of a log that a candidate is: it sets its key
abbrev pub log_record : Candidate → LogRecord
log_record c = record { key = c.moved.key; version = c.moved.version; change = Set c.moved.value; place = c.place }

-- It is a record of a frame that is spelled in the log, and up to which frames are spelled from a place on.
pub record IsRead (format number : ℕ) (bytes : List ℕ) (place : ℕ) (c : Candidate) : Type 0 where
  pub at : ℕ
  pub to : FramesTo format number bytes place at
  pub frame : LogFrame
  pub rest : List ℕ
  pub stands : StandsAt (frames_grammar format) number at (drop at bytes) frame rest
  pub is : Contains (frame_records format at frame) (log_record c)

-- so is each of these, where the log tells its bytes
abbrev pub AreRead : {H : Type 0} → (H → Option (List ℕ)) → SealedLog H → ℕ → List Candidate → Type 0
AreRead bytes log place given = ForSome (bytes log.held) (λ told. All (IsRead log.format log.number told place) given)

-- where the log's frames from one place on end, those from the other place on end too
abbrev pub EndsAlike : {H : Type 0} → (H → Option (List ℕ)) → SealedLog H → (from to : ℕ) → Type 0
EndsAlike bytes log from to = (told : List ℕ) (end : ℕ) → bytes log.held ≡ Some told
    → EndAt log.format log.number told from end → EndAt log.format log.number told to end

-- its frames from a place on reach to its end, where it tells its bytes
abbrev pub IsWholeFrom : {H : Type 0} → (H → Option (List ℕ)) → SealedLog H → ℕ → Type 0
IsWholeFrom bytes log place = ForSome (bytes log.held) (λ told. EndAt log.format log.number told place (length told))

-- ---- the pass

-- The sources have these entries, whichever tables are marked.
pub record HasEntries {V : Type 0} (has : V → List ℕ → List Marked → Type 0) (sources : V) (entries : List Entry) : Type 0 where
  pub inputs : List ℕ
  pub marked : List Marked
  pub had : has sources inputs marked
  pub are : all_of marked ≡ entries

module _ {H : Type 0} (bytes : H → Option (List ℕ)) where
  -- From a log's place on a batch took more: it has all that a layout's pass gives, and behind it the pass is there.
  pub record Walks (log : SealedLog H) (p : layout.Pass) (taken more : List Found) (at : At) : Type 0 where
    pub told : List ℕ
    pub tells : bytes log.held ≡ Some told
    pub left : AreLeft log.format log.number told at (outcome p.base p.segment (candidates taken) p.left).1
    pub given : candidates more ≡ (outcome p.base p.segment (candidates taken) p.left).0

module _ {V H : Type 0} (bytes : H → Option (List ℕ)) (has : V → List ℕ → List Marked → Type 0) where
  pub record IsPass (pass : Pass V H) (p : layout.Pass) : Type 0 where
    pub segment : pass.log.number ≡ p.segment
    pub base : HasEntries has pass.base p.base
    pub told : List ℕ
    pub tells : bytes pass.log.held ≡ Some told
    pub left : AreLeft pass.log.format pass.log.number told pass.at p.left

  -- it gave this batch of a layout's pass, and is that pass behind it
  pub record Gives (pass : Pass V H) (p : layout.Pass) (batch : Option (List Candidate)) : Type 0 where
    pub batch_is : batch ≡ (next_batch p).0
    pub now : IsPass pass (next_batch p).1

  -- all records of the log are left, and its sources are the base
  pub record Begins (base : V) (log : SealedLog H) (p : layout.Pass) : Type 0 where
    pub segment : log.number ≡ p.segment
    pub entries : HasEntries has base p.base
    pub told : List ℕ
    pub tells : bytes log.held ≡ Some told
    pub frames : List LogFrame
    pub reads : ReadsAs (frames_grammar log.format) log.number 16 (drop 16 told) frames
    pub left : p.left ≡ records_from log.format 16 frames
