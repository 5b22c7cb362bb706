-- Worked rows of openings, which hold by computing: what logs give together, new numbers, and calls.
use Rattle.std.specs.Prelude.{◌≡◌, ℕ, Bool, true, false, List, [], ◌∷◌, None, Some, Ok, Err, refl}
use Rattle.vl_engine_model.specs.Logs.{log_length, new_segment}
use Rattle.vl_manifest.specs.States.{fresh_state}
use Rattle.vl_model.specs.Formats.{log_format}
use Rattle.vl_model.specs.declared.counter.Counter.TheVariants as counters
use Rattle.vl_model.specs.declared.log_frame.LogFrame.{LogFrame}
use Rattle.vl_model.specs.declared.log_frame.LogFrame.TheVariants.{Committed, Relocated}
use Rattle.vl_recover.specs.opening.Plans.{Greatest, active_log, calls_of_opening, exhausted, log_made, new_state}
use Rattle.vl_recover.specs.opening.Walk.{StandingLog, filled, walked}

-- ---- the logs

-- a commit without writes, whose frame has 25 bytes; a relocation of nothing, whose frame has 17
abbrev commit : ℕ → LogFrame
commit number = Committed number []

abbrev moves : LogFrame
moves = Relocated []

-- a log of a format, one of the format that is written, and one with a wrong header, of so many bytes
abbrev log_in : ℕ → ℕ → List LogFrame → (whole : Bool) → StandingLog
log_in format number frames whole = record {
  number = number;
  length = log_length format frames;
  reading = record { header = Some format; frames = frames; whole = whole };
}

abbrev log : ℕ → List LogFrame → (whole : Bool) → StandingLog
log number frames whole = log_in log_format number frames whole

abbrev headless : ℕ → (length : ℕ) → StandingLog
headless number length =
    record { number = number; length = length; reading = record { header = None; frames = []; whole = false } }

two_logs : walked 0 (log 1 (commit 1 ∷ commit 2 ∷ []) true ∷ log 4 (commit 3 ∷ []) false ∷ []) ≡ Ok 3
two_logs = refl

no_logs : walked 7 [] ≡ Ok 7
no_logs = refl

-- a gap comes before bytes behind it that are no frame
gap_first : walked 0 (log 1 (commit 1 ∷ commit 3 ∷ []) false ∷ log 4 [] true ∷ [])
    ≡ Err (record { log = 1; place = 41 })
gap_first = refl

-- such bytes come before a gap in the next log
torn_first : walked 0 (log 1 (commit 1 ∷ []) false ∷ log 4 (commit 7 ∷ []) true ∷ [])
    ≡ Err (record { log = 1; place = 41 })
torn_first = refl

-- the last log's numbers count, and neither its header nor its end
gap_at_last : walked 5 (log 4 (commit 7 ∷ []) true ∷ []) ≡ Err (record { log = 4; place = 16 })
gap_at_last = refl

last_torn : walked 5 (headless 4 9 ∷ []) ≡ Ok 5
last_torn = refl

first_torn : walked 5 (headless 4 9 ∷ headless 5 0 ∷ []) ≡ Err (record { log = 4; place = 0 })
first_torn = refl

-- a number that stood before is no next one
number_again : walked 5 (log 4 (commit 6 ∷ commit 6 ∷ []) true ∷ []) ≡ Err (record { log = 4; place = 41 })
number_again = refl

-- moved records have no number of the order
moved_between : walked 0 (log 1 (commit 1 ∷ moves ∷ commit 2 ∷ []) true ∷ []) ≡ Ok 2
moved_between = refl

gap_behind_moves : walked 0 (log 1 (moves ∷ commit 2 ∷ []) true ∷ []) ≡ Err (record { log = 1; place = 33 })
gap_behind_moves = refl

-- a log without frames has no memtable
filled_only : filled (log 1 [] true ∷ log 2 (commit 1 ∷ []) true ∷ headless 3 0 ∷ [])
    ≡ new_segment log_format 2 (commit 1 ∷ []) ∷ []
filled_only = refl

-- ---- numbers

abbrev greatest : ℕ → ℕ → Greatest
greatest log manifest = record { log = log; table = 0; manifest = manifest }

-- behind a log with frames stands the next number; one without stays; where there is none, head or the next number
new_log : log_made (new_state (greatest 7 1) fresh_state) (log 7 (commit 1 ∷ []) true ∷ []) ≡ Some 8
new_log = refl

same_log : log_made (new_state (greatest 7 1) fresh_state) (headless 7 9 ∷ []) ≡ None
same_log = refl

first_log : log_made (new_state (greatest 0 0) fresh_state) [] ≡ Some 1
first_log = refl

-- only the last log counts
last_counts : log_made (new_state (greatest 9 1) fresh_state) (log 7 (commit 1 ∷ []) true ∷ log 9 [] true ∷ []) ≡ None
last_counts = refl

active_stays : active_log (greatest 9 1) fresh_state (log 7 (commit 1 ∷ []) true ∷ log 9 [] true ∷ []) ≡ 9
active_stays = refl

log_used_up : exhausted (greatest 4294967294 4294967294) fresh_state
    (log 4294967294 (commit 1 ∷ []) true ∷ []) ≡ Some counters.Log
log_used_up = refl

-- a log that stays needs no number
manifest_used_up : exhausted (greatest 4294967294 4294967294) fresh_state
    (headless 4294967294 9 ∷ []) ≡ Some counters.Manifest
manifest_used_up = refl

last_numbers : exhausted (greatest 4294967293 4294967293) fresh_state
    (log 4294967293 (commit 1 ∷ []) true ∷ []) ≡ None
last_numbers = refl

-- ---- calls

-- a new manifest and a new log take three each
calls_of_nothing : calls_of_opening (greatest 0 0) fresh_state [] 0 ≡ 6
calls_of_nothing = refl

-- a whole log is synced; a torn one is cut first
calls_of_whole : calls_of_opening (greatest 1 1) fresh_state (log 1 (commit 1 ∷ []) true ∷ []) 1 ≡ 8
calls_of_whole = refl

calls_of_torn : calls_of_opening (greatest 1 1) fresh_state (log 1 (commit 1 ∷ []) false ∷ []) 1 ≡ 9
calls_of_torn = refl

-- a log with a wrong header is cut, given a header, and synced; one without bytes needs no cut
calls_of_headless : calls_of_opening (greatest 1 1) fresh_state (headless 1 9 ∷ []) 1 ≡ 7
calls_of_headless = refl

calls_of_empty : calls_of_opening (greatest 1 1) fresh_state (headless 1 0 ∷ []) 1 ≡ 6
calls_of_empty = refl

-- one in the older format is given a new header where it has no frames, torn bytes behind its own or not
calls_of_older : calls_of_opening (greatest 1 1) fresh_state (log_in 1 1 [] true ∷ []) 1
    ≡ calls_of_opening (greatest 1 1) fresh_state (headless 1 16 ∷ []) 1
calls_of_older = refl

calls_of_older_torn : calls_of_opening (greatest 1 1) fresh_state (log_in 1 1 [] false ∷ []) 1 ≡ 7
calls_of_older_torn = refl

-- and where it has some, it stays as it is, and another log is made
older_stays : log_made (new_state (greatest 7 1) fresh_state) (log_in 1 7 (commit 1 ∷ []) true ∷ []) ≡ Some 8
older_stays = refl
