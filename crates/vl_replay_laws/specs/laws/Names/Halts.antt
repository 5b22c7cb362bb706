-- Why a line that was carried out was given no answer.
use Rattle.std.proofs.Common.{◌≡◌, ℕ, arith, subst, sym}
use Rattle.vl_script_model.specs.Failing.{ByReader, FailsBeside, beside}
use Rattle.std.specs.Prelude.{Ok, Err, Result}
use Rattle.vl_disk.specs.Faults.{HasCause}
use Rattle.vl_disk.specs.declared.name.Name.{Name}
use Rattle.vl_script_model.specs.Halts.{HaltsByDamage, HaltsByDisk, HaltsByRead, HaltsByReader}
use Rattle.vl_replay_laws.specs.Replaying.{OnlyNoMemory}
use Rattle.vl_script_model.specs.declared.fails.Halt.{Halt}
use Rattle.vl_script_model.specs.declared.fails.Halt.TheVariants as why

-- want of memory alone is no failed read
pub not_by_read : {T : Type 0} (result : Result T Halt) → OnlyNoMemory result → HaltsByRead result → ⊥
not_by_read (Ok answer) only by = by
not_by_read (Err why.NoMemory) only by = by
not_by_read (Err (why.Disk name)) only by = by
not_by_read (Err (why.Read name)) only by = cc
not_by_read (Err (why.Halted name)) only by = cc
not_by_read (Err (why.Damaged name place)) only by = cc

-- a reader's fault and damage are failed reads
pub reader_is_read : {T : Type 0} (result : Result T Halt) → HaltsByReader result → HaltsByRead result
reader_is_read (Ok answer) by = by
reader_is_read (Err why.NoMemory) by = by
reader_is_read (Err (why.Disk name)) by = by
reader_is_read (Err (why.Read name)) by = by
reader_is_read (Err (why.Halted name)) by = by
reader_is_read (Err (why.Damaged name place)) by = absurd by

pub damage_is_read : {T : Type 0} (result : Result T Halt) → HaltsByDamage result → HaltsByRead result
damage_is_read (Ok answer) by = by
damage_is_read (Err why.NoMemory) by = by
damage_is_read (Err (why.Disk name)) by = by
damage_is_read (Err (why.Read name)) by = absurd by
damage_is_read (Err (why.Halted name)) by = absurd by
damage_is_read (Err (why.Damaged name place)) by = by

pub not_by_reader : {T : Type 0} (result : Result T Halt) → OnlyNoMemory result → HaltsByReader result → ⊥
not_by_reader result only by = not_by_read result only (reader_is_read result by)

pub not_by_damage : {T : Type 0} (result : Result T Halt) → OnlyNoMemory result → HaltsByDamage result → ⊥
not_by_damage result only by = not_by_read result only (damage_is_read result by)

-- where the disk is as it was and didn't fail, no fault was counted
pub no_cause : (before now : ℕ) (failed : Type 0) → now ≡ before → (failed → ⊥) → HasCause before now failed
no_cause before now failed same sound = record {
  later = omega (arith, same);
  rose = λ fails. absurd (sound fails);
  steady = λ none. same;
}

-- what wasn't halted by the disk wasn't halted at a file of it
pub not_at : {T P : Type 0} (result : Result T Halt) → (HaltsByDisk result → ⊥) → (file : Name) → result ≡ Err (why.Disk file) → P
not_at {T} result sound file is = absurd (sound (subst (λ (r : Result T Halt). HaltsByDisk r) (sym is) tt))

-- what a reader counted
pub by_the_reader : {R W sure other : Type 0} (reads : R → ℕ) (writes : W → ℕ) → (other → sure) → FailsBeside sure reads
    → FailsBeside other (beside reads writes)
by_the_reader reads writes so fails = record {
  failed = record { reader = ByReader fails.failed.reader; some = fails.failed.some };
  not_so = λ is. fails.not_so (so is);
}

-- what may not be said of less
pub less_sure : {R sure other : Type 0} (faults : R → ℕ) → (other → sure) → FailsBeside sure faults → FailsBeside other faults
less_sure faults so fails = record { failed = fails.failed; not_so = λ is. fails.not_so (so is) }
