-- The files that are lent to the merge that is open.
use Rattle.std.specs.Prelude.{◌≡◌, ◌<◌, ℕ, List, [], Option, None, Some, IsTrue, All}
use Rattle.std.specs.Option.{ForSome}
use Rattle.vl_disk.specs.Disk.{IsFree}
use Rattle.vl_disk.specs.declared.name.Name.TheVariants.{Table}
use Rattle.vl_disk.specs.declared.watched.Watched.{Ghosts}
use Rattle.vl_engine_laws.specs.declared.open.OpenMerge.{OpenMerge}
use Rattle.vl_engine_model.specs.declared.job.OpenJob.{OpenJob}
use Rattle.vl_engine_laws.specs.Represents.{StandsFor}
use Rattle.vl_engine_laws.specs.declared.kept.Core.{Core}
use Rattle.vl_engine_model.specs.declared.layout.Layout.{Layout}
use Rattle.vl_model.specs.History.{History}

-- A file with this number was lent: its number was given already, the disk has room to take it back, and it doesn't stand.
pub record IsLent {D : Type 0} (g : Ghosts D) (disk : D) (next_table n : ℕ) : Type 0 where
  pub drawn : n < next_table
  pub room : IsTrue (g.spare disk (Table n)).adopt
  pub free : ForSome (g.told disk) (IsFree (Table n))

-- so it is of each file that was lent to the open merge
abbrev pub AreLent : {D : Type 0} → Ghosts D → D → (next_table : ℕ) → Option OpenMerge → Type 0
AreLent g disk next_table merging = ForSome merging (λ (o : OpenMerge). All (IsLent g disk next_table) o.lent.items)

-- the numbers of the files that were lent to it
abbrev pub lent_in : Option OpenMerge → List ℕ
lent_in None = []
lent_in (Some merge) = merge.lent.items

-- ---- what a step leaves

-- Of the tables whose numbers were given already those that don't stand still don't, and the room to take files back stays.
pub record LeavesLent {D : Type 0} (g : Ghosts D) (next_table : ℕ) (old new : D) : Type 0 where
  pub room : (n : ℕ) → n < next_table → (g.spare new (Table n)).adopt ≡ (g.spare old (Table n)).adopt
  pub free : (n : ℕ) → n < next_table → ForSome (g.told old) (IsFree (Table n)) → ForSome (g.told new) (IsFree (Table n))

-- so it is of the tables of all numbers: none comes to stand
abbrev pub LeavesTables : {D : Type 0} → Ghosts D → (old new : D) → Type 0
LeavesTables g old new = (next_table : ℕ) → LeavesLent g next_table old new

-- ---- the layout's job

-- What the engine keeps of the open merge is what the layout has of it.
pub record IsOpenAs (o : OpenMerge) (j : OpenJob) : Type 0 where
  pub lent : o.lent.items ≡ j.lent
  pub moved : o.moved.items ≡ j.moved

-- A merge is open exactly where the layout has a job.
abbrev pub Opens : Option OpenMerge → Option OpenJob → Type 0
Opens None None = Unit {0}
Opens None (Some j) = ⊥
Opens (Some o) None = ⊥
Opens (Some o) (Some j) = IsOpenAs o j

-- In memory the engine stands for the history and the layout, and the merge that it keeps as open is the layout's job.
pub record StandsOpen {H : Type 0} (bytes : H → Option (List ℕ)) (core : Core H) (merging : Option OpenMerge) (h : History)
    (l : Layout) : Type 0 where
  pub stands : StandsFor bytes core h l
  pub opens : Opens merging l.job
