-- The 16 bytes that each file begins with, by which it says what it is.
use Rattle.std.specs.Prelude.{◌≡◌, ◌<◌, ◌≤◌, ◌^◌, ◌++◌, List, codes, length, ℕ}
use Rattle.byteorder.specs.Endian.{big_bytes}
use Rattle.vl_frame.specs.declared.kinds.FileKind.{FileKind}
use Rattle.vl_frame.specs.declared.kinds.FileKind.TheVariants.{Log, Table, Manifest, Backup}

-- the four letters that files of a kind begin with
abbrev pub letters : FileKind → List ℕ
letters Log = codes "VLOG"
letters Table = codes "VTAB"
letters Manifest = codes "VMAN"
letters Backup = codes "VBAK"

-- The header of the file of this kind with this number, in this format: the letters, and the format, the
-- number and zero in four bytes each.
abbrev pub header_bytes : FileKind → ℕ → ℕ → List ℕ
header_bytes kind format number = letters kind ++ big_bytes 4 format ++ big_bytes 4 number ++ big_bytes 4 0

-- That header stands at the front of the bytes, and the rest follows.
pub record IsHeader (kind : FileKind) (format number : ℕ) (bytes : List ℕ) : Type 0 where
  pub format_fits : format < 2 ^ 32
  pub number_fits : number < 2 ^ 32
  pub rest : List ℕ
  pub spelled : bytes ≡ header_bytes kind format number ++ rest

-- The bytes have a header's length and begin with the letters of a kind of file and with a format, as files of
-- every format do.
pub record HasFormat (kind : FileKind) (bytes : List ℕ) (format : ℕ) : Type 0 where
  pub fits : format < 2 ^ 32
  pub rest : List ℕ
  pub long : 8 ≤ length rest
  pub spelled : bytes ≡ letters kind ++ big_bytes 4 format ++ rest

-- The bytes begin with four and with three numbers, whatever these are.
pub record IsHeaderApart (front : List ℕ) (format number last : ℕ) (bytes : List ℕ) : Type 0 where
  pub front_length : length front ≡ 4
  pub format_fits : format < 2 ^ 32
  pub number_fits : number < 2 ^ 32
  pub last_fits : last < 2 ^ 32
  pub rest : List ℕ
  pub spelled : bytes ≡ front ++ big_bytes 4 format ++ big_bytes 4 number ++ big_bytes 4 last ++ rest
