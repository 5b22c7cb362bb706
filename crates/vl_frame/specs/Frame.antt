-- How a frame is spelled, and what it means that one stands at the front of some bytes.
use Rattle.std.specs.Prelude.{◌≡◌, ◌+◌, ◌<◌, ◌^◌, ◌∷◌, ◌++◌, List, length, take, ℕ}
use Rattle.byteorder.specs.Endian.{big_bytes}
use Rattle.sha2.specs.Sha256.{sha256}
use Rattle.vl_frame.specs.declared.kinds.FileKind.{FileKind}
use Rattle.vl_frame.specs.declared.kinds.FileKind.TheVariants.{Log, Table, Manifest, Backup}
use Rattle.vl_frame.specs.declared.kinds.FrameKind.{FrameKind}
use Rattle.vl_frame.specs.declared.kinds.FrameKind.TheVariants.{Commit, Move, Block, Index, Footer, Edits, Filter, Changes, BackupEnd}

-- the number that stands for a file's kind where a check is taken
abbrev pub file_code : FileKind → ℕ
file_code Log = 1
file_code Table = 2
file_code Manifest = 3
file_code Backup = 4

-- the byte that stands for a frame's kind
abbrev pub frame_code : FrameKind → ℕ
frame_code Commit = 1
frame_code Move = 2
frame_code Block = 3
frame_code Index = 4
frame_code Footer = 5
frame_code Edits = 6
frame_code Filter = 9
frame_code Changes = 7
frame_code BackupEnd = 8

-- the kind of file that frames of a kind stand in
abbrev pub file_of : FrameKind → FileKind
file_of Commit = Log
file_of Move = Log
file_of Block = Table
file_of Index = Table
file_of Footer = Table
file_of Edits = Manifest
file_of Filter = Table
file_of Changes = Backup
file_of BackupEnd = Backup

-- where a frame stands: its file's kind and number, and its place in the file
abbrev pub place_bytes : FileKind → ℕ → ℕ → List ℕ
place_bytes file number at = file_code file ∷ big_bytes 4 number ++ big_bytes 8 at

-- what stands before a body: the frame's kind, and the body's length
abbrev pub head_bytes : FrameKind → ℕ → List ℕ
head_bytes kind n = frame_code kind ∷ big_bytes 4 n

-- the check of a frame that stands at a place of a file: the first 8 bytes of a digest of where it is and all that it is
unfoldable pub check_of : ℕ → ℕ → FrameKind → List ℕ → List ℕ
check_of number at kind body =
    take 8 (sha256 (place_bytes (file_of kind) number at ++ head_bytes kind (length body) ++ body))

-- a kind, a body and a check, one behind the other
abbrev pub spelling : FrameKind → List ℕ → List ℕ → List ℕ
spelling kind body check = head_bytes kind (length body) ++ body ++ check

-- the one spelling of a frame that stands at a place of a file
unfoldable pub frame_bytes : ℕ → ℕ → FrameKind → List ℕ → List ℕ
frame_bytes number at kind body = spelling kind body (check_of number at kind body)

-- how many bytes a frame has whose body has n: 5 before it, and 8 behind it
abbrev pub frame_length : ℕ → ℕ
frame_length n = n + 13

-- A frame of this kind and body stands at the front of the bytes, which are those of a file from a place on.
-- The file has this kind and number.
pub record IsSpelled (file : FileKind) (number at : ℕ) (bytes : List ℕ) (kind : FrameKind) (body : List ℕ)
    : Type 0 where
  pub in_file : file_of kind ≡ file
  pub short : length body < 2 ^ 32
  pub rest : List ℕ
  pub spelled : bytes ≡ frame_bytes number at kind body ++ rest
