-- A source over bytes in memory, as a caller sees it.
use Rattle.std.specs.Prelude.{◌≡◌, ◌++◌, [], List, Some, drop, take, ℕ}
use Rattle.vl_disk.specs.FaultPlan.{Plan, plan_after_failure, plan_after_success}

-- the bytes that the last call gave, those that are left, and the calls that fail
pub record Feed : Type 0 where
  pub given : List ℕ
  pub rest : List ℕ
  pub plan : Plan

-- after a call that gave this many bytes
abbrev pub feed_after_giving : ℕ → Feed → Feed
feed_after_giving n feed = record { given = take n feed.rest; rest = drop n feed.rest; plan = plan_after_success feed.plan }

-- after a call that failed: the same bytes are left
abbrev pub feed_after_failure : Feed → Feed
feed_after_failure feed = record { given = []; rest = feed.rest; plan = plan_after_failure feed.plan }

-- when it was last asked, what it gave then was left too, before what is left now
pub given_and_left : (feed : Feed) (rest : List ℕ) → Some feed.rest ≡ Some rest → (given : List ℕ)
    × (Some (feed.given ++ feed.rest) ≡ Some (given ++ rest))
given_and_left feed rest is = (feed.given, cc)
