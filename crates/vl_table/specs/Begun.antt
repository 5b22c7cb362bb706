-- How a table begins, where its footer stands, and where one of its frames.
use Rattle.std.specs.Prelude.{◌≡◌, ◌+◌, ◌-◌, ◌≤◌, ℕ, List, drop, length}
use Rattle.byteorder.specs.Endian.{big_number}
use Rattle.vl_frame.specs.Frame.{IsSpelled, frame_length}
use Rattle.vl_frame.specs.Header.{IsHeader}
use Rattle.vl_frame.specs.declared.kinds.FileKind.TheVariants as files
use Rattle.vl_frame.specs.declared.kinds.FrameKind.{FrameKind}
use Rattle.vl_model.specs.Formats.{table_format}

-- the bytes begin with the header of the table with this number, in this format, which is one that is read
pub record HasHeader (format number : ℕ) (bytes : List ℕ) : Type 0 where
  pub first : 1 ≤ format
  pub readable : format ≤ table_format
  pub header : IsHeader files.Table format number bytes

-- so does the file, and it is long enough to be a table
pub record IsBegun (format number : ℕ) (bytes : List ℕ) : Type 0 where
  pub long : 24 ≤ length bytes
  pub header : HasHeader format number bytes

-- the place that the last eight bytes say
abbrev pub said_place : List ℕ → ℕ
said_place bytes = big_number 8 (drop (length bytes - 8) bytes)

-- a footer has room there, behind the header and before its place
abbrev pub IsInside : List ℕ → ℕ → Type 0
IsInside bytes place = (16 ≤ place) × (place + 21 ≤ length bytes)

-- a frame of this kind and body stands at the place, and has so many bytes
pub record FrameAt (number : ℕ) (bytes : List ℕ) (place size : ℕ) (kind : FrameKind) (body : List ℕ) : Type 0 where
  pub frame : IsSpelled files.Table number place (drop place bytes) kind body
  pub sized : size ≡ frame_length (length body)
