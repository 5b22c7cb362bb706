-- A sink into memory, as a caller sees it.
use Rattle.std.specs.Prelude.{◌+◌, ◌++◌, ◌<◌, ◌⊎◌, List, length, ℕ}
use Rattle.vl_disk.specs.FaultPlan.{IsDue, Plan, plan_after_failure, plan_after_success}

-- the bytes that were taken, how many fit in all, and the calls that fail
pub record Tank : Type 0 where
  pub bytes : List ℕ
  pub room : ℕ
  pub plan : Plan

-- a put of this piece fails: it is listed, or the piece passes the room that is left
abbrev pub Refuses : Tank → List ℕ → Type 0
Refuses tank piece = IsDue tank.plan ⊎ (tank.room < length tank.bytes + length piece)

-- after a put that took the piece
abbrev pub tank_after_taking : List ℕ → Tank → Tank
tank_after_taking piece tank =
    record { bytes = tank.bytes ++ piece; room = tank.room; plan = plan_after_success tank.plan }

-- after a put that failed: nothing of the piece was taken
abbrev pub tank_after_failure : Tank → Tank
tank_after_failure tank = record { bytes = tank.bytes; room = tank.room; plan = plan_after_failure tank.plan }
