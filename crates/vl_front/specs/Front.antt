-- What a front knows of the accepted commits, and what its calls leave alone.
use Rattle.std.specs.Prelude.{◌≡◌, ◌<◌}
use Rattle.std.specs.List.{AllByRecursion}
use Rattle.vl_model.specs.Conflicts.{Named}
use Rattle.vl_model.specs.History.{History, last_number}
use Rattle.vl_conflict.specs.Recent.{Remembers}
use Rattle.vl_oracle.specs.LiveTickets.{floor_of}
use Rattle.vl_front.specs.declared.front.Front.{Front}

-- It knows a history: its last number, and from the floor on which keys its commits name.
pub record Knows (front : Front) (h : History) : Type 0 where
  pub last : front.oracle.last ≡ last_number h
  pub remembers : Remembers (floor_of front.oracle) h front.recent.named

-- It names no key of a commit at or below the floor: nobody can ask for these any more.
abbrev pub IsPruned : Front → Type 0
IsPruned front = AllByRecursion (λ (note : Named). floor_of front.oracle < note.1) front.recent.named

-- the log and its room are as they were, and so is what halted it
pub record SameLog (old new : Front) : Type 0 where
  pub log : new.log ≡ old.log
  pub room : new.room ≡ old.room
  pub halted : new.halted ≡ old.halted

-- all is as it was, but for memory
pub record IsSame (old new : Front) : Type 0 where
  pub oracle : new.oracle ≡ old.oracle
  pub named : new.recent.named ≡ old.recent.named
  pub log : SameLog old new
