-- How many bytes records and frames of logs take, in each format of logs.
use Rattle.std.specs.Prelude.{ℕ, ◌+◌, List, length}
use Rattle.std.specs.List.{sum_by}
use Rattle.vl_model.specs.Formats.{record_head}
use Rattle.vl_model.specs.Keys.{value_bytes}
use Rattle.vl_model.specs.declared.change.Change.{Change}
use Rattle.vl_model.specs.declared.change.Change.TheVariants.{Set}
use Rattle.vl_model.specs.declared.log_frame.LogFrame.{LogFrame}
use Rattle.vl_model.specs.declared.log_frame.LogFrame.TheVariants.{Committed, Relocated}
use Rattle.vl_model.specs.declared.log_frame.Moved.{Moved}

-- a record's head, the key and the value
abbrev pub record_length : ℕ → List ℕ → Change → ℕ
record_length format key change = record_head format + length key + length (value_bytes change)

-- a moved record behind its version
abbrev pub moved_length : ℕ → Moved → ℕ
moved_length format moved = 8 + record_length format moved.key (Set moved.value)

-- Kind, length and check take 13 bytes. In front of its records a commit has its number and a count, a
-- relocation a count
abbrev pub frame_length : ℕ → LogFrame → ℕ
frame_length format (Committed number writes) =
    25 + sum_by (λ write. record_length format write.0 write.1) writes
frame_length format (Relocated records) = 17 + sum_by (moved_length format) records
