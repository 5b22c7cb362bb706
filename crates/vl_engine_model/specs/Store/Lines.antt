-- The lines of a script, and their answers.
use Rattle.std.specs.Prelude.{ℕ, List}
use Rattle.vl_model.specs.Keys.{Stored}
use Rattle.vl_model.specs.declared.counter.Counter.{Counter}
use Rattle.vl_model.specs.declared.way.Way.{Way}
use Rattle.vl_engine_model.specs.declared.file_name.FileName.{FileName}
use Rattle.vl_engine_model.specs.declared.segment.SegmentStat.{SegmentStat}

-- a name that a script gives to a thing
abbrev pub Name : Type 0
Name = List ℕ

pub data Line : Type 0 where
  Begin : Name → Line
  View : Name → Line
  Get : Name → List ℕ → Line
  -- at an older number
  GetAt : Name → List ℕ → ℕ → Line
  Set : Name → List ℕ → List ℕ → Line
  -- with a value's tag
  GetTagged : Name → List ℕ → Line
  SetTagged : Name → List ℕ → List ℕ → ℕ → Line
  Delete : Name → List ℕ → Line
  -- from a bound on and below another, so many rows at most
  Scan : Way → Name → List ℕ → List ℕ → ℕ → Line
  Commit : Name → Line
  Drop : Name → Line
  Rotate : Line
  Flush : Line
  Plan : Name → Line
  -- of a segment
  Drain : Name → ℕ → Line
  Install : Name → Line
  -- with a percentage
  Pick : Name → ℕ → Line
  Batch : Name → Line
  Move : Name → Line
  Sweep : Line
  Stats : Line
  -- so many versions of a key
  Keep : ℕ → Line

pub data Answer : Type 0 where
  Done : Answer
  -- a number, that of a commit, a segment or a table among them
  Number : ℕ → Answer
  -- a value's bytes; with its tag where that was asked for
  Value : List ℕ → Answer
  ValueTagged : Stored → Answer
  NoValue : Answer
  -- the least number at which the key can be read
  Dropped : ℕ → Answer
  -- each key with its value's bytes
  Rows : List (List ℕ × List ℕ) → Answer
  Taken : Name → Answer
  Unknown : Name → Answer
  ReadOnly : Answer
  Invalid : Answer
  TooBig : Answer
  TooMany : Answer
  Nothing : Answer
  -- a key that was overwritten, and the last commit that names it
  Conflict : List ℕ → ℕ → Answer
  -- the lengths of the active log and of the frame
  Full : ℕ → ℕ → Answer
  Exhausted : Counter → Answer
  Idle : Answer
  -- a key of which a deletion was dropped and a record moved meanwhile
  Raced : List ℕ → Answer
  Rejected : ℕ → Answer
  NoRewrite : Answer
  Found : ℕ → Answer
  End : Answer
  Moved : ℕ → Answer
  Removed : ℕ → Answer
  Segments : List SegmentStat → Answer
  -- where a call failed before, behind which no line is answered
  Halted : FileName → Answer
