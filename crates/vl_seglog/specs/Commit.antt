-- A commit, and how its frame is spelled.
use Rattle.std.specs.Prelude.{◌+◌, ◌*◌, ◌≤◌, ℕ, List, ◌++◌, length, IsTrue}
use Rattle.std.specs.FinMap.{is_sorted}
use Rattle.std.specs.List.{AllByRecursion}
use Rattle.byteorder.specs.Endian.{big_bytes}
use Rattle.vl_model.specs.Keys.{key_cmp}
use Rattle.vl_model.specs.declared.change.Change.{Change}
use Rattle.vl_model.specs.Limits.{max_commit_number}
use Rattle.vl_frame.specs.Frame.{frame_bytes}
use Rattle.vl_frame.specs.declared.kinds.FrameKind.TheVariants as kinds
use Rattle.vl_seglog.specs.laws.RecordLaws.{one_write}
use Rattle.vl_seglog.specs.Record.{IsRecord, record_bytes}
use Rattle.vl_seglog.specs.Series.{Spelling, series_bytes}

-- a commit, and what it does to each key that it names
pub record Commit : Type 0 where
  pub number : ℕ
  pub writes : List (List ℕ × Change)

-- each is lawful in a log of this format
abbrev pub AreRecords : ℕ → List (List ℕ × Change) → Type 0
AreRecords format writes = AllByRecursion (λ write. IsRecord format write.0 write.1) writes

-- the commits that a log of this format may have
pub record IsCommit (format : ℕ) (c : Commit) : Type 0 where
  pub first : 1 ≤ c.number
  pub last : c.number ≤ max_commit_number
  pub some : 1 ≤ length c.writes
  pub rising : IsTrue (is_sorted key_cmp c.writes)
  pub lawful : AreRecords format c.writes

-- how records are spelled, each of a key and what is done to it
abbrev pub records_spelling : ℕ → Spelling (List ℕ × Change)
records_spelling format = record {
  bytes = λ write. record_bytes format write.0 write.1;
  lawful = λ write. IsRecord format write.0 write.1;
  one = one_write format;
}

-- records, one behind the other
abbrev pub records_bytes : ℕ → List (List ℕ × Change) → List ℕ
records_bytes format writes = series_bytes (records_spelling format) writes

-- what stands before the records: the commit's number, and their count
abbrev pub head_bytes : ℕ → ℕ → List ℕ
head_bytes number count = big_bytes 8 number ++ big_bytes 4 count

-- the one spelling of a commit in a log of a format
unfoldable pub commit_body : ℕ → Commit → List ℕ
commit_body format c = head_bytes c.number (length c.writes) ++ records_bytes format c.writes

-- its frame at a place of the log with this number, which has this format
abbrev pub commit_frame : ℕ → ℕ → ℕ → Commit → List ℕ
commit_frame format file at c = frame_bytes file at kinds.Commit (commit_body format c)

-- How many bytes a commit's frame has in the logs that are written: 13 of the frame, 12 of the number and the
-- count, 8 for each record, and the keys and values, which have so many together.
abbrev pub commit_length : ℕ → ℕ → ℕ
commit_length records bytes = 25 + 8 * records + bytes
