-- Which calls of an object in memory fail, and what it counted.
use Rattle.std.specs.Prelude.{◌≡◌, ◌↔◌, ◌+◌, Contains, List, ℕ}
use Rattle.vl_disk.specs.Faults.{one_more}

-- the calls that are to fail, counted from 1, the calls so far, and how many of these failed
pub record Plan : Type 0 where
  pub failing : List ℕ
  pub calls : ℕ
  pub faults : ℕ

-- no call was made yet
abbrev pub new_plan : List ℕ → Plan
new_plan failing = record { failing = failing; calls = 0; faults = 0 }

-- the next call is to fail
abbrev pub IsDue : Plan → Type 0
IsDue plan = Contains plan.failing (plan.calls + 1)

-- after a call that did what it was to do
abbrev pub plan_after_success : Plan → Plan
plan_after_success plan = record plan { calls = one_more plan.calls }

-- after a call that failed
abbrev pub plan_after_failure : Plan → Plan
plan_after_failure plan = record plan { calls = one_more plan.calls; faults = one_more plan.faults }

-- one call more was asked for, and it failed exactly if it was due
pub record Follows (old new : Plan) (failed : Type 0) : Type 0 where
  pub exactly : failed ↔ IsDue old
  pub failing : new.failing ≡ old.failing
  pub calls : new.calls ≡ one_more old.calls
