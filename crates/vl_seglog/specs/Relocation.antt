-- A relocation, and how its frame is spelled.
use Rattle.std.specs.Prelude.{◌≤◌, ℕ, List, ◌++◌, length}
use Rattle.std.specs.List.{AllByRecursion}
use Rattle.byteorder.specs.Endian.{big_bytes}
use Rattle.vl_frame.specs.Frame.{frame_bytes}
use Rattle.vl_frame.specs.declared.kinds.FrameKind.TheVariants as kinds
use Rattle.vl_model.specs.declared.log_frame.Moved.{Moved}
use Rattle.vl_seglog.specs.Moves.{AreOnce, IsMoved, moved_bytes}
use Rattle.vl_seglog.specs.Series.{Spelling, series_bytes}
use Rattle.vl_seglog.specs.laws.MoveLaws.{one_moved}

-- the relocations that a log of this format may have, in any order
pub record IsRelocation (format : ℕ) (records : List Moved) : Type 0 where
  pub some : 1 ≤ length records
  pub lawful : AllByRecursion (IsMoved format) records
  pub once : AreOnce records

-- how moved records are spelled
abbrev pub moves_spelling : ℕ → Spelling Moved
moves_spelling format = record { bytes = moved_bytes format; lawful = IsMoved format; one = one_moved format }

-- such records, one behind the other
abbrev pub moves_bytes : ℕ → List Moved → List ℕ
moves_bytes format records = series_bytes (moves_spelling format) records

-- the one spelling of a relocation: the count of its records, and these
unfoldable pub relocation_body : ℕ → List Moved → List ℕ
relocation_body format records = big_bytes 4 (length records) ++ moves_bytes format records

-- its frame at a place of the log with this number, which has this format
abbrev pub relocation_frame : ℕ → ℕ → ℕ → List Moved → List ℕ
relocation_frame format number at records = frame_bytes number at kinds.Move (relocation_body format records)
