-- What a benchmark sums up of the answers to its lines.
use Rattle.std.specs.Prelude.{ℕ, ◌+◌, ◌-◌, ◌^◌, min, Bool, true, false, if◌then◌else◌}
use Rattle.std.specs.Prelude.{List, ◌∷◌, [], ◌++◌, length, map, sum, codes}
use Rattle.std.specs.Fmt.{decimal}
use Rattle.vl_script.specs.declared.line.Line.{Line}
use Rattle.vl_script.specs.declared.line.Line.TheVariants.{Commit}
use Rattle.vl_script.specs.declared.answer.Answer.{Answer}
use Rattle.vl_script.specs.declared.answer.Answer.TheVariants.{Number, Rows, Moved, Segments}
use Rattle.vl_script.specs.declared.answer.SegmentLine.{SegmentLine}
use Rattle.vl_script.specs.declared.summary.Summary.{Summary}
use Rattle.vl_script.specs.Script.{as_line}

abbrev pub none_counted : Summary
none_counted = record { commits = 0; rows = 0; moved = 0; bytes = 0; live = 0 }

-- a sum stands still at its last value
abbrev pub plus : ℕ → ℕ → ℕ
plus a b = min (a + b) (2 ^ 64 - 1)

abbrev pub is_commit : Line → Bool
is_commit (Commit name) = true
is_commit line = false

-- the bytes of all logs, and the live ones
abbrev pub bytes_in : List SegmentLine → ℕ
bytes_in segments = plus 0 (sum (map (λ (s : SegmentLine). s.bytes) segments))

abbrev pub live_in : List SegmentLine → ℕ
live_in segments = plus 0 (sum (map (λ (s : SegmentLine). s.live) segments))

-- an answer counts too: a number where the line is a commit
abbrev pub counted : (commits : Bool) → Answer → Summary → Summary
counted commits (Number number) s = if commits then record s { commits = plus s.commits 1 } else s
counted commits (Rows rows) s = record s { rows = plus s.rows (length rows.items) }
counted commits (Moved count) s = record s { moved = plus s.moved count }
counted commits (Segments segments) s =
    record s { bytes = plus s.bytes (bytes_in segments.items); live = plus s.live (live_in segments.items) }
counted commits answer s = s

abbrev pub counts_text : Summary → List ℕ
counts_text s = as_line (codes "commits " ++ decimal s.commits) ++ as_line (codes "rows " ++ decimal s.rows)

abbrev pub bytes_text : Summary → List ℕ
bytes_text s = as_line (codes "bytes " ++ decimal s.bytes ++ codes " live " ++ decimal s.live)

abbrev pub logs_text : Summary → List ℕ
logs_text s = as_line (codes "moved " ++ decimal s.moved) ++ bytes_text s

-- what is printed at the end of a benchmark
abbrev pub summary_text : Summary → List ℕ
summary_text s = counts_text s ++ logs_text s
