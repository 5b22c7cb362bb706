-- What reading meets on its way.
use Rattle.std.specs.Prelude.{◌≡◌, ℕ, List, map}
use Rattle.vl_frame.specs.declared.kinds.FrameKind.{FrameKind}
use Rattle.vl_model.specs.Keys.{Stored, tagged, value_bytes, value_tag}
use Rattle.vl_model.specs.declared.change.Change.{Change}
use Rattle.vl_model.specs.declared.log_frame.LogFrame.{LogFrame}
use Rattle.vl_model.specs.declared.log_frame.LogFrame.TheVariants.{Committed, Relocated}
use Rattle.vl_model.specs.declared.log_frame.Moved.{Moved}
use Rattle.vl_seglog.specs.declared.frame.Commit.{Commit as ReadCommit}
use Rattle.vl_seglog.specs.declared.frame.Frame.{Frame}
use Rattle.vl_seglog.specs.declared.frame.ReadRecord.{ReadRecord}
use Rattle.vl_seglog.specs.declared.frame.Said.{Said}
use Rattle.vl_seglog.specs.declared.frame.Said.TheVariants as says
use Rattle.vl_seglog.specs.declared.read.LogRead.{LogRead}
use Rattle.vl_seglog.specs.Commit.{Commit}
use Rattle.vl_seglog.specs.Bodies.{IsFrame, frame_body, frame_kind}
use Rattle.vl_seglog.specs.LogReading.{LogReading, end_of}

-- a record that was read, as a commit's and as a relocation's: without where it lies
abbrev pub write_of : ReadRecord → List ℕ × Change
write_of r = (r.key, r.change)

-- the value that a change sets; a deletion sets none, for which the empty one stands
abbrev pub value_of : Change → Stored
value_of change = tagged (value_bytes change) (value_tag change)

abbrev pub moved_of : ReadRecord → Moved
moved_of r = record { key = r.key; version = r.version; value = value_of r.change }

abbrev pub commit_of : ReadCommit → Commit
commit_of c = record { number = c.number; writes = map write_of c.records.items }

abbrev pub said_of : Said → LogFrame
said_of (says.Commit c) = Committed c.number (map write_of c.records.items)
said_of (says.Moves records) = Relocated (map moved_of records.items)

abbrev pub frame_of : Frame → LogFrame
frame_of f = said_of f.said

abbrev pub reading_of : LogRead → LogReading
reading_of r = record { header = r.header; frames = map frame_of r.frames.items; whole = r.whole }

-- where the frames end that were read
abbrev pub reading_end : LogReading → ℕ
reading_end r = end_of r.header r.frames

-- In a log of this format a frame of this kind and body says this.
pub record Says (format : ℕ) (kind : FrameKind) (body : List ℕ) (f : LogFrame) : Type 0 where
  pub lawful : IsFrame format f
  pub kind_is : kind ≡ frame_kind f
  pub body_is : body ≡ frame_body format f
