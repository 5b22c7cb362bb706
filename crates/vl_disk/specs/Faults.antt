-- The counts of calls and of faults that each outside object has: a disk, a reader, a source, a sink.
use Rattle.std.specs.Prelude.{◌≡◌, ◌+◌, ◌-◌, ◌^◌, ◌<◌, ◌≤◌, ℕ, zero, suc, min, Option, None, Some}

-- one more; a count stands still at its last value
abbrev pub one_more : ℕ → ℕ
one_more count = min (count + 1) (2 ^ 64 - 1)

-- so many more
abbrev pub after_calls : ℕ → ℕ → ℕ
after_calls zero count = count
after_calls (suc n) count = one_more (after_calls n count)

-- the count of what never fails, now or later, which no other count reaches
abbrev pub never : ℕ
never = 2 ^ 64

-- a fault was counted between these two readings of one count; a count at its last value counts as risen
pub record Rose (before now : ℕ) : Type 0 where
  pub later : before ≤ now
  pub more : one_more before ≤ now
  pub counts : now < never

-- a fault was counted at all
abbrev pub HasCounted : ℕ → Type 0
HasCounted count = Rose 0 count

-- none was
pub record NoneCounted (count : ℕ) : Type 0 where
  pub none : HasCounted count → ⊥

-- a fault was counted where the call failed, and none where it didn't
pub record HasCause (before now : ℕ) (failed : Type 0) : Type 0 where
  pub later : before ≤ now
  pub rose : failed → Rose before now
  pub steady : (failed → ⊥) → now ≡ before

-- the count of what was just given: no fault was counted, and none ever is where it is sure
pub record IsNewCount (sure : Type 0) (count : ℕ) : Type 0 where
  pub none : NoneCounted count
  pub never_fails : sure → count ≡ never

-- A fault was counted for each call past the stop, and for nothing else. The counts stand still at their last value.
pub record CountsPastStop (stop calls faults : ℕ) : Type 0 where
  pub at_least : calls - stop ≤ faults
  pub exactly : calls < 2 ^ 64 - 1 → faults ≡ calls - stop

-- the same where there may be no stop, so that nothing fails
abbrev pub CountsPast : Option ℕ → (calls faults : ℕ) → Type 0
CountsPast None calls faults = faults ≡ 0
CountsPast (Some stop) calls faults = CountsPastStop stop calls faults
