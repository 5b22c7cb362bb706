-- What a commit comes to, before anything is written.
use Rattle.std.specs.Prelude.{◌≡◌, ◌≤◌, ◌<◌, ℕ, ◌+◌, ◌==◌, nat_le, if◌then◌else◌, List, length, Option, Some, None}
use Rattle.vl_model.specs.Conflicts.{Named}
use Rattle.vl_model.specs.Formats.{log_format}
use Rattle.vl_model.specs.Frames.{frame_length}
use Rattle.vl_model.specs.Limits.{max_commit_number}
use Rattle.vl_model.specs.declared.change.Change.{Change}
use Rattle.vl_model.specs.declared.log_frame.LogFrame.TheVariants.{Committed}
use Rattle.vl_disk.specs.declared.name.Name.{Name}
use Rattle.vl_front.specs.declared.decision.Decision.{Decision}
use Rattle.vl_front.specs.declared.decision.Decision.TheVariants.{Halted, Nothing, Exhausted, Conflict, Full, Write}
use Rattle.vl_front.specs.declared.front.Front.{Front}

-- how many bytes the frame has by which these writes become the next commit
abbrev pub next_length : Front → List (List ℕ × Change) → ℕ
next_length front writes = frame_length log_format (Committed (front.oracle.last + 1) writes)

-- whether the frame ends within the log's room
abbrev pub room_decision : Front → List (List ℕ × Change) → Decision
room_decision front writes =
    if nat_le (front.log.length + next_length front writes) front.room then Write
    else Full front.log.length (next_length front writes)

-- by the first conflict, where there is one
abbrev pub checked_decision : Front → List (List ℕ × Change) → Option Named → Decision
checked_decision front writes (Some named) = Conflict named.0 named.1
checked_decision front writes None = room_decision front writes

abbrev pub running_decision : Front → List (List ℕ × Change) → Option Named → Decision
running_decision front writes conflict =
    if length writes == 0 then Nothing
    else (if nat_le max_commit_number front.oracle.last then Exhausted
    else checked_decision front writes conflict)

abbrev pub decision_unless : Option Name → Front → List (List ℕ × Change) → Option Named → Decision
decision_unless (Some name) front writes conflict = Halted name
decision_unless None front writes conflict = running_decision front writes conflict

-- what a commit of these writes comes to, where this is the first conflict of its reads
abbrev pub decision_of : Front → List (List ℕ × Change) → Option Named → Decision
decision_of front writes conflict = decision_unless front.halted front writes conflict

-- nothing but a conflict may stand against writing these
pub record MayWrite (front : Front) (writes : List (List ℕ × Change)) : Type 0 where
  pub running : front.halted ≡ None
  pub some : 1 ≤ length writes
  pub below : front.oracle.last < max_commit_number
  pub fits : front.log.length + next_length front writes ≤ front.room
