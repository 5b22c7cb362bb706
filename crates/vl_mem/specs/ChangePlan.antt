-- Which changing calls of a disk in memory fail, and what it counted.
use Rattle.std.specs.Prelude.{◌≡◌, ◌↔◌, ◌⊎◌, ◌+◌, ◌≤◌, List, Option, None, Some, IsSomeAnd, ℕ}
use Rattle.vl_disk.specs.Faults.{one_more}
use Rattle.vl_disk.specs.FaultPlan as listed
use Rattle.vl_disk.specs.FaultPlan.{Plan, new_plan}

pub record ChangePlan : Type 0 where
  -- the calls that are listed, and the counts of all calls
  pub listed : Plan
  -- after so many calls each fails
  pub stop : Option ℕ

-- no call was made yet, and there is no stop
abbrev pub new_changes : List ℕ → ChangePlan
new_changes failing = record { listed = new_plan failing; stop = None }

-- each call after the next so many is to fail
abbrev pub stopping_after : ℕ → ChangePlan → ChangePlan
stopping_after count plan = record plan { stop = Some (plan.listed.calls + count) }

-- the calls before the stop were all made
abbrev pub HasStopped : ChangePlan → Type 0
HasStopped plan = IsSomeAnd plan.stop (λ stop. stop ≤ plan.listed.calls)

-- the next call is to fail
abbrev pub IsDue : ChangePlan → Type 0
IsDue plan = listed.IsDue plan.listed ⊎ HasStopped plan

-- one call more was asked for, and it failed exactly if it was due
pub record FollowsPlan (old new : ChangePlan) (failed : Type 0) : Type 0 where
  pub exactly : failed ↔ IsDue old
  pub failing : new.listed.failing ≡ old.listed.failing
  pub stop : new.stop ≡ old.stop
  pub calls : new.listed.calls ≡ one_more old.listed.calls
  pub fault : failed → new.listed.faults ≡ one_more old.listed.faults
  pub no_fault : (failed → ⊥) → new.listed.faults ≡ old.listed.faults
