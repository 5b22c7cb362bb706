-- What the frames of a stream say, and their bodies.
use Rattle.std.specs.Prelude.{◌<◌, ◌^◌, ℕ, List, ◌++◌, length, IsTrue}
use Rattle.std.specs.FinMap.{is_sorted}
use Rattle.byteorder.specs.Endian.{big_bytes}
use Rattle.vl_stream.specs.Batches.{IsBatch, Write}
use Rattle.vl_frame.specs.declared.kinds.FrameKind.{FrameKind}
use Rattle.vl_frame.specs.declared.kinds.FrameKind.TheVariants as kinds
use Rattle.vl_model.specs.Keys.{key_cmp}
use Rattle.vl_seglog.specs.Commit.{AreRecords, records_bytes}

-- a frame of a stream: some records; or the end, with the number up to which it tells, and how many records it has
pub data Piece : Type 0 where
  Records : List Write → Piece
  End : ℕ → ℕ → Piece

-- the format of logs in which the records are spelled
abbrev pub record_format : ℕ
record_format = 2

-- lawful records, in key order, as many as a batch may have
pub record AreChanges (ws : List Write) : Type 0 where
  pub batch : IsBatch ws
  pub lawful : AreRecords record_format ws
  pub rising : IsTrue (is_sorted key_cmp ws)

abbrev pub IsPiece : Piece → Type 0
IsPiece (Records ws) = AreChanges ws
IsPiece (End number records) = (number < 2 ^ 64) × (records < 2 ^ 64)

abbrev pub piece_kind : Piece → FrameKind
piece_kind (Records ws) = kinds.Changes
piece_kind (End number records) = kinds.BackupEnd

-- the count of the records, and these; or both numbers
unfoldable pub changes_body : List Write → List ℕ
changes_body ws = big_bytes 4 (length ws) ++ records_bytes record_format ws

abbrev pub end_body : ℕ → ℕ → List ℕ
end_body number records = big_bytes 8 number ++ big_bytes 8 records

abbrev pub piece_body : Piece → List ℕ
piece_body (Records ws) = changes_body ws
piece_body (End number records) = end_body number records
