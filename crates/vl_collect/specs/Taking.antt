-- What a pass has found of its batch, and what is left of its log's records.
use Rattle.std.specs.Prelude.{◌≡◌, ◌⊎◌, ℕ, List, [], ◌∷◌, ◌++◌, length, map, Option, Some, None}
use Rattle.vl_collect.specs.declared.batch.Found.{Found}
use Rattle.vl_engine_model.specs.Logs.{LogRecord}
use Rattle.vl_engine_model.specs.Relocation.{Batched, Candidate, taken_from, value_lengths}
use Rattle.vl_model.specs.declared.entry.Entry.{Entry}
use Rattle.vl_seglog.specs.declared.frame.ReadRecord.{ReadRecord}

abbrev pub candidate_of : Found → Candidate
candidate_of found = record { moved = found.moved; place = found.place }

abbrev pub candidates : List Found → List Candidate
candidates founds = map candidate_of founds

-- a record that was read, as the layout has it
abbrev pub record_of : ReadRecord → LogRecord
record_of r = record { key = r.key; version = r.version; change = r.change; place = r.pointer.place }

abbrev pub records_as : List ReadRecord → List LogRecord
records_as rs = map record_of rs

-- the one that was found, or none
abbrev pub one_of : Option Found → List Candidate
one_of None = []
one_of (Some found) = candidate_of found ∷ []

abbrev pub behind : List Candidate → Batched → Batched
behind taken more = (taken ++ more.0, more.1)

-- Of a batch for which these were taken, where these records are left: all that it has at its end, and what is left then.
abbrev pub outcome : List Entry → ℕ → List Candidate → List LogRecord → Batched
outcome base segment taken left = behind taken (taken_from base segment (length taken) (value_lengths taken) left)

-- Of some records, behind which any others stand, some were passed: what the batch comes to is the same, and where some are
-- left it has ended.
pub record Passes (base : List Entry) (segment : ℕ) (taken : List Candidate) (left : List LogRecord)
    (more : List Candidate) (rest : List LogRecord) : Type 0 where
  pub same : (others : List LogRecord)
      → outcome base segment taken (left ++ others) ≡ outcome base segment more (rest ++ others)
  pub stops : (rest ≡ []) ⊎ ((others : List LogRecord) → outcome base segment more (rest ++ others) ≡ (more, rest ++ others))
