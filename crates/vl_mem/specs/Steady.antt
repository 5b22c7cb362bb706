-- Disks in memory whose readers and writers never fail.
use Rattle.std.specs.Prelude.{◌≡◌, ◌≢◌, ℕ, List, [], ◌∷◌}
use Rattle.std.proofs.Common.{◌∙◌, ap, refl, sym, subst, ⊎_elim, arith}
use Rattle.vl_disk.specs.declared.name.Name.{Name}
use Rattle.vl_disk.specs.laws.Counting.{never_counted, none_counted}
use Rattle.vl_disk.specs.laws.NameMap.{same_or_other}
use Rattle.vl_disk.specs.FaultPlan.{Follows, Plan, new_plan}
use Rattle.vl_disk.specs.Faults.{HasCause, IsNewCount, NoneCounted, never}
use Rattle.vl_mem.specs.Entry.{NoneFail}
use Rattle.vl_mem.specs.FailsPast.{none_listed}
use Rattle.vl_mem.specs.MemDisk.{failing_at, reads_of, writers_of, KeepsOtherWriters, KeepsWriters}
use Rattle.vl_mem.specs.declared.mem_disk.MemDisk.{MemDisk}

-- what counts faults of which just these calls fail: it never fails where there are none
abbrev pub count_among : (failing : List ℕ) (faults : ℕ) → ℕ
count_among [] faults = never
count_among (first ∷ others) faults = faults

-- the count of a reader or a writer
abbrev pub count_of : Plan → ℕ
count_of plan = count_among plan.failing plan.faults

-- no call is listed that is to fail
abbrev pub IsSteady : Plan → Type 0
IsSteady plan = plan.failing ≡ []

-- no read is listed, and no call of a writer: neither of those whose names are made ready, nor of those whose names are
pub record GivesSteady (disk : MemDisk) : Type 0 where
  pub reads : IsSteady (reads_of disk)
  pub writers : writers_of disk ≡ []
  pub ready : NoneFail disk.entries

-- ---- how the count of a reader or a writer begins, and rises

pub new_count : (sure : Type 0) (failing : List ℕ) (plan : Plan) → plan ≡ new_plan failing → (sure → failing ≡ [])
    → IsNewCount sure (count_of plan)
new_count sure failing plan is none = subst (λ (p : Plan). IsNewCount sure (count_of p)) (sym is)
    (record { none = uncounted failing; never_fails = λ yes. steady failing (none yes) })
  where
    uncounted : (fs : List ℕ) → NoneCounted (count_of (new_plan fs))
    uncounted [] = never_counted
    uncounted (f ∷ fs) = none_counted

    steady : (fs : List ℕ) → fs ≡ [] → count_of (new_plan fs) ≡ never
    steady [] is = refl
    steady (f ∷ fs) is = absurd cc

pub count_cause : (old new : Plan) (failed : Type 0) → Follows old new failed → HasCause old.faults new.faults failed
    → HasCause (count_of old) (count_of new) failed
count_cause old new failed follows cause = subst
    (λ (fs : List ℕ). HasCause (count_of old) (count_among fs new.faults) failed) (sym follows.failing)
    (of old.failing (λ none fails. none_listed old none (follows.exactly.0 fails)))
  where
    of : (fs : List ℕ) → (fs ≡ [] → failed → ⊥) → HasCause (count_among fs old.faults) (count_among fs new.faults) failed
    of [] none = record {
      later = omega arith;
      rose = λ fails. absurd (none refl fails);
      steady = λ _. refl;
    }
    of (f ∷ fs) some = cause

-- ---- a disk stays so

-- by what leaves the lists as they are
pub keeps_steady : (old new : MemDisk) → (reads_of new).failing ≡ (reads_of old).failing → KeepsWriters old new
    → GivesSteady old → GivesSteady new
keeps_steady old new reads keeps steady = record {
  reads = reads ∙ steady.reads;
  writers = keeps.0 ∙ steady.writers;
  ready = λ name. keeps.1 name ∙ steady.ready name;
}

-- and by what leaves the lists of all other names
pub gave_steady : (name : Name) (old new : MemDisk) → (reads_of new).failing ≡ (reads_of old).failing
    → KeepsOtherWriters name old new → failing_at new name ≡ [] → GivesSteady old → GivesSteady new
gave_steady name old new reads keeps none steady = record {
  reads = reads ∙ steady.reads;
  writers = keeps.0 ∙ steady.writers;
  ready = λ q. ⊎_elim
      (λ (here : q ≡ name). ap (failing_at new) here ∙ none)
      (λ (other : q ≢ name). keeps.1 q other ∙ steady.ready q)
      (same_or_other q name);
}
