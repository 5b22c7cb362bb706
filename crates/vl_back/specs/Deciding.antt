-- What a step on files comes to, before anything is written.
use Rattle.std.specs.Prelude.{◌≤◌, ◌<◌, ℕ, Bool, nat_le, nat_lt, if◌then◌else◌, List, [], ◌∷◌, length}
use Rattle.vl_back.specs.declared.back.Back.{Back}
use Rattle.vl_manifest.specs.declared.waiting.Waiting.{Waiting}
use Rattle.vl_back.specs.declared.decision.Decision.{Decision}
use Rattle.vl_back.specs.declared.decision.Decision.TheVariants.{Exhausted, Go, Idle}
use Rattle.vl_model.specs.Limits.{max_file_number, max_epoch}
use Rattle.vl_model.specs.declared.counter.Counter.{Counter}
use Rattle.vl_model.specs.declared.counter.Counter.TheVariants.{Log, Table, Version}

-- by the next number of files of a kind and the epoch, of which the step takes one each
abbrev pub numbers_decision : ℕ → Counter → ℕ → Decision
numbers_decision next counter version =
    if nat_lt max_file_number next then Exhausted counter
    else (if nat_le max_epoch version then Exhausted Version else Go)

-- by the logs that wait for their flush
abbrev pub flush_of : List Waiting → Back → Decision
flush_of [] b = Idle
flush_of (w ∷ ws) b = numbers_decision b.state.next_table Table b.epoch

abbrev pub flush_decision : Back → Decision
flush_decision b = flush_of b.waiting.items b

-- whether the log that takes commits has frames
abbrev pub rotation_decision : Bool → Back → Decision
rotation_decision has_frames b =
    if has_frames then numbers_decision b.next_log Log b.epoch else Idle

-- a log waits for its flush, and there are numbers for the table and the version
pub record MayFlush (b : Back) : Type 0 where
  pub waits : 1 ≤ length b.waiting.items
  pub table : b.state.next_table ≤ max_file_number
  pub version : b.epoch < max_epoch

-- there are numbers for the new log and the version
pub record MayRotate (b : Back) : Type 0 where
  pub log : b.next_log ≤ max_file_number
  pub version : b.epoch < max_epoch
