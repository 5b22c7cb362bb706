-- A disk in memory of which nothing fails but its changing calls past a stop, or nothing at all.
use Rattle.std.specs.Prelude.{◌≡◌, ◌⊎◌, ℕ, ◌+◌, ◌-◌, ◌^◌, ◌<◌, ◌≤◌, List, [], Contains, Option, None, Some, IsSomeAnd}
use Rattle.std.proofs.Common.{inr, ⊎_elim, sym, ◌∙◌, ap, subst, arith}
use Rattle.vl_disk.specs.FaultPlan as listed
use Rattle.vl_disk.specs.FaultPlan.{Plan, new_plan}
use Rattle.vl_disk.specs.Faults.{CountsPast, CountsPastStop, HasCause}
use Rattle.vl_mem.specs.ChangePlan.{ChangePlan, FollowsPlan, HasStopped, IsDue, new_changes, stopping_after}
use Rattle.vl_mem.specs.declared.mem_disk.MemDisk.{MemDisk}
use Rattle.vl_mem.specs.MemDisk.{changes_of, faults_of, reads_of}

-- So many changing calls pass, and each later one fails, or none does; nothing else fails.
pub record FailsPast (disk : MemDisk) (stop : Option ℕ) : Type 0 where
  pub listed : (changes_of disk).listed.failing ≡ []
  pub stops : (changes_of disk).stop ≡ stop
  -- the count of calls stands still at its last value
  pub few : (changes_of disk).listed.calls ≤ 2 ^ 64 - 1
  pub faults : CountsPast stop (changes_of disk).listed.calls (changes_of disk).listed.faults
  pub listed_reads : (reads_of disk).failing ≡ []
  pub read_faults : (reads_of disk).faults ≡ 0

-- nothing that isn't listed is due
pub none_listed : (plan : Plan) → plan.failing ≡ [] → listed.IsDue plan → ⊥
none_listed plan none is = nothing (subst (λ (numbers : List ℕ). Contains numbers (plan.calls + 1)) none is)
  where
    nothing : Contains [] (plan.calls + 1) → ⊥
    nothing has = omega (arith, has.1)

le_or_past : (m n : ℕ) → (m ≤ n) ⊎ (n < m)
le_or_past m n = grind arith

-- ---- plans without a list

module _ (plan : ChangePlan) (none : plan.listed.failing ≡ []) where
  never_due : plan.stop ≡ None → IsDue plan → ⊥
  never_due no_stop due = ⊎_elim
      (λ (is : listed.IsDue plan.listed). none_listed plan.listed none is)
      (λ (is : HasStopped plan). not_stopped (subst (λ (s : Option ℕ). IsSomeAnd s (λ n. n ≤ plan.listed.calls)) no_stop is))
      due
    where
      not_stopped : IsSomeAnd None (λ n. n ≤ plan.listed.calls) → ⊥
      not_stopped is = is

  module _ (stop : ℕ) (stops : plan.stop ≡ Some stop) where
    due_past : IsDue plan → stop ≤ plan.listed.calls
    due_past due = ⊎_elim
        (λ (is : listed.IsDue plan.listed). absurd (none_listed plan.listed none is))
        (λ (is : HasStopped plan). subst (λ (s : Option ℕ). IsSomeAnd s (λ n. n ≤ plan.listed.calls)) stops is)
        due

    past_due : stop ≤ plan.listed.calls → IsDue plan
    past_due past = inr (subst (λ (s : Option ℕ). IsSomeAnd s (λ n. n ≤ plan.listed.calls)) (sym stops) past)

-- what was counted past the stop
counts_on : (stop : Option ℕ) (old new : ChangePlan) (failed : Type 0) → old.listed.failing ≡ [] → old.stop ≡ stop
    → FollowsPlan old new failed → CountsPast stop old.listed.calls old.listed.faults
    → CountsPast stop new.listed.calls new.listed.faults
counts_on None old new failed none stops follows before =
    follows.no_fault (λ f. never_due old none stops (follows.exactly.0 f)) ∙ before
counts_on (Some stop) old new failed none stops follows before = ⊎_elim
    (λ (past : stop ≤ old.listed.calls).
    let fault = follows.fault (follows.exactly.1 (past_due old none stop stops past)) in
    counted (record {
      at_least = omega (arith, past, before.at_least, follows.calls, fault);
      exactly = λ more. let was = before.exactly (omega (arith, more, follows.calls)) in
          omega (arith, past, more, was, follows.calls, fault);
    }))
    (λ (ahead : old.listed.calls < stop).
    let fine = follows.no_fault (λ f. omega (arith, ahead, due_past old none stop stops (follows.exactly.0 f))) in
    counted (record {
      at_least = omega (arith, ahead, before.at_least, follows.calls, fine);
      exactly = λ more. let was = before.exactly (omega (arith, more, follows.calls)) in
          omega (arith, ahead, more, was, follows.calls, fine);
    }))
    (le_or_past stop old.listed.calls)
  where
    counted : CountsPastStop stop new.listed.calls new.listed.faults → CountsPastStop stop new.listed.calls new.listed.faults
    counted c = c

-- ---- disks

-- nothing of a disk is to fail for which nothing is listed
pub never_fails : (disk : MemDisk) → changes_of disk ≡ new_changes [] → reads_of disk ≡ new_plan [] → FailsPast disk None
never_fails disk changes reads = record {
  listed = ap (λ (p : ChangePlan). p.listed.failing) changes;
  stops = ap (λ (p : ChangePlan). p.stop) changes;
  few = let none : (changes_of disk).listed.calls ≡ 0 = ap (λ (p : ChangePlan). p.listed.calls) changes in omega (arith, none);
  faults = ap (λ (p : ChangePlan). p.listed.faults) changes;
  listed_reads = ap (λ (p : Plan). p.failing) reads;
  read_faults = ap (λ (p : Plan). p.faults) reads;
}

-- and where it is made to stop, the calls behind the stop fail
pub stops_after : (count : ℕ) (old new : MemDisk) → FailsPast old None → changes_of new ≡ stopping_after count (changes_of old)
    → reads_of new ≡ reads_of old → FailsPast new (Some ((changes_of old).listed.calls + count))
stops_after count old new never changes reads =
    let calls : (changes_of new).listed.calls ≡ (changes_of old).listed.calls = ap (λ (p : ChangePlan). p.listed.calls) changes in
    let faults : (changes_of new).listed.faults ≡ 0 = ap (λ (p : ChangePlan). p.listed.faults) changes ∙ never.faults in
    record {
      listed = ap (λ (p : ChangePlan). p.listed.failing) changes ∙ never.listed;
      stops = ap (λ (p : ChangePlan). p.stop) changes;
      few = omega (arith, calls, never.few);
      faults = record { at_least = omega (arith, calls, faults); exactly = λ more. omega (arith, calls, faults) };
      listed_reads = ap (λ (p : Plan). p.failing) reads ∙ never.listed_reads;
      read_faults = ap (λ (p : Plan). p.faults) reads ∙ never.read_faults;
    }

-- each call counts so
module _ (old new : MemDisk) (stop : Option ℕ) (past : FailsPast old stop) where
  pub changed_past : (failed : Type 0) → FollowsPlan (changes_of old) (changes_of new) failed
      → reads_of new ≡ reads_of old → FailsPast new stop
  changed_past failed follows reads = record {
    listed = follows.failing ∙ past.listed;
    stops = follows.stop ∙ past.stops;
    few = omega (arith, follows.calls);
    faults = counts_on stop (changes_of old) (changes_of new) failed past.listed past.stops follows past.faults;
    listed_reads = ap (λ (p : Plan). p.failing) reads ∙ past.listed_reads;
    read_faults = ap (λ (p : Plan). p.faults) reads ∙ past.read_faults;
  }

  pub read_past : (failed : Type 0) → changes_of new ≡ changes_of old → listed.Follows (reads_of old) (reads_of new) failed
      → HasCause (reads_of old).faults (reads_of new).faults failed → FailsPast new stop
  read_past failed changes follows cause = record {
    listed = ap (λ (p : ChangePlan). p.listed.failing) changes ∙ past.listed;
    stops = ap (λ (p : ChangePlan). p.stop) changes ∙ past.stops;
    few = subst (λ (p : ChangePlan). p.listed.calls ≤ 2 ^ 64 - 1) (sym changes) past.few;
    faults = subst (λ (p : ChangePlan). CountsPast stop p.listed.calls p.listed.faults) (sym changes) past.faults;
    listed_reads = follows.failing ∙ past.listed_reads;
    read_faults = cause.steady (λ f. none_listed (reads_of old) past.listed_reads (follows.exactly.0 f)) ∙ past.read_faults;
  }

  pub same_past : changes_of new ≡ changes_of old → reads_of new ≡ reads_of old → FailsPast new stop
  same_past changes reads = record {
    listed = ap (λ (p : ChangePlan). p.listed.failing) changes ∙ past.listed;
    stops = ap (λ (p : ChangePlan). p.stop) changes ∙ past.stops;
    few = subst (λ (p : ChangePlan). p.listed.calls ≤ 2 ^ 64 - 1) (sym changes) past.few;
    faults = subst (λ (p : ChangePlan). CountsPast stop p.listed.calls p.listed.faults) (sym changes) past.faults;
    listed_reads = ap (λ (p : Plan). p.failing) reads ∙ past.listed_reads;
    read_faults = ap (λ (p : Plan). p.faults) reads ∙ past.read_faults;
  }

-- the faults of such a disk
pub counted_past : (disk : MemDisk) (stop : Option ℕ) → FailsPast disk stop
    → CountsPast stop (changes_of disk).listed.calls (faults_of disk)
counted_past disk stop past = of stop past.faults
  where
    of : (stop : Option ℕ) → CountsPast stop (changes_of disk).listed.calls (changes_of disk).listed.faults
        → CountsPast stop (changes_of disk).listed.calls (faults_of disk)
    of None none = omega (arith, none, past.read_faults)
    of (Some count) counts = record {
      at_least = omega (arith, counts.at_least, past.few);
      exactly = λ more. omega (arith, counts.exactly more, more, past.read_faults);
    }
