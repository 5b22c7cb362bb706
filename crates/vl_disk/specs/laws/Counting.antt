-- What a count of faults says of the calls behind it.
use Rattle.std.specs.Prelude.{◌≡◌, ◌⊎◌, ◌≤◌, ◌<◌, ℕ}
use Rattle.std.proofs.Common.{inl, inr, ⊎_elim, refl, subst, arith}
use Rattle.vl_disk.specs.Faults.{HasCause, HasCounted, IsNewCount, NoneCounted, Rose, never}

-- the count of what never fails doesn't rise
pub never_rises : (now : ℕ) → Rose never now → ⊥
never_rises now rose = omega (arith, rose.later, rose.counts)

-- a call of what never fails doesn't fail,
pub never_failed : (before now : ℕ) (failed : Type 0) → HasCause before now failed → before ≡ never → failed → ⊥
never_failed before now failed cause sure fails = never_rises now (subst (λ (n : ℕ). Rose n now) sure (cause.rose fails))

-- and leaves it so
pub never_fails : (before now : ℕ) (failed : Type 0) → HasCause before now failed → before ≡ never → now ≡ never
never_fails before now failed cause sure = subst (λ (n : ℕ). now ≡ n) sure
    (cause.steady (λ fails. never_failed before now failed cause sure fails))

-- what rose since an earlier reading
pub rose_since : (first before now : ℕ) → first ≤ before → Rose before now → Rose first now
rose_since first before now earlier rose = record {
  later = omega (arith, earlier, rose.later);
  more = omega (arith, earlier, rose.more);
  counts = rose.counts;
}

-- so a fault was counted
pub rose_at_all : (before now : ℕ) → Rose before now → HasCounted now
rose_at_all before now rose = rose_since 0 before now (omega arith) rose

pub none_rose : (before now : ℕ) → NoneCounted now → Rose before now → ⊥
none_rose before now none rose = none.none (rose_at_all before now rose)

-- what has counted none
pub never_counted : NoneCounted never
never_counted = record { none = λ rose. omega (arith, rose.counts) }

pub zero_counted : (count : ℕ) → count ≡ 0 → NoneCounted count
zero_counted count none = record { none = λ rose. omega (arith, none, rose.more) }

pub none_counted : NoneCounted 0
none_counted = zero_counted 0 refl

none_or_some : (count : ℕ) → (count ≡ 0) ⊎ (1 ≤ count)
none_or_some count = grind arith

below_or_not : (count : ℕ) → (count < never) ⊎ (never ≤ count)
below_or_not count = grind arith

pub counted_or_not : (count : ℕ) → HasCounted count ⊎ NoneCounted count
counted_or_not count = ⊎_elim
    (λ (none : count ≡ 0). inr (zero_counted count none))
    (λ (some : 1 ≤ count). ⊎_elim
    (λ (below : count < never). inl (record { later = omega arith; more = omega (arith, some); counts = below }))
    (λ (past : never ≤ count). inr (record { none = λ rose. omega (arith, past, rose.counts) }))
    (below_or_not count))
    (none_or_some count)

-- ---- the count of what was just given

-- of one that never fails, whether it is said to or not
pub counts_never : (sure : Type 0) → IsNewCount sure never
counts_never sure = record { none = never_counted; never_fails = λ _. refl }

-- and of one that may fail
pub counts_from_zero : (sure : Type 0) → (sure → ⊥) → IsNewCount sure 0
counts_from_zero sure unsure = record { none = none_counted; never_fails = λ is. absurd (unsure is) }

-- which may be said of what was sure before
pub new_count_since : (before sure : Type 0) (count : ℕ) → (before → sure) → IsNewCount sure count → IsNewCount before count
new_count_since before sure count still new = record { none = new.none; never_fails = λ is. new.never_fails (still is) }
