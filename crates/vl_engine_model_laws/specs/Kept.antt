-- What calls leave of what an engine tells of versions that can still be read.
use Rattle.std.specs.Prelude.{◌≡◌, ℕ, ◌≤◌, List}
use Rattle.std.specs.List.{AllByRecursion}
use Rattle.vl_model.specs.History.{History}
use Rattle.vl_model.specs.Versions.{low}
use Rattle.vl_model.specs.declared.entry.Entry.{Entry}
use Rattle.vl_engine_model.specs.Ruling.{Ruling}
use Rattle.vl_engine_model.specs.Sources.{floor}
use Rattle.vl_engine_model.specs.declared.layout.Layout.{Layout}

-- the least number that is neither below the one nor below a version of these
pub record IsRaisedBy (es : List Entry) (before after : ℕ) : Type 0 where
  pub kept : before ≤ after
  pub reached : AllByRecursion (λ (e : Entry). e.version ≤ after) es
  pub least : (n : ℕ) → before ≤ n → AllByRecursion (λ (e : Entry). e.version ≤ n) es → after ≤ n

-- the ruling leaves the greatest version of a deletion that was dropped for good
abbrev pub LeavesGone : {A : Type 0} → Layout → Ruling A → Type 0
LeavesGone l r = r.layout.gone ≡ l.gone

-- as many versions are kept, and the same number tells when that was raised last
pub record IsKeptAs (l x : Layout) : Type 0 where
  pub keep : x.keep ≡ l.keep
  pub since : x.since ≡ l.since

abbrev pub LeavesKept : {A : Type 0} → Layout → Ruling A → Type 0
LeavesKept l r = IsKeptAs l r.layout

-- the floor of the second isn't below that of the first
abbrev pub IsFloorUp : Layout → History → Layout → History → Type 0
IsFloorUp l h x g = floor l h ≤ floor x g

abbrev pub FloorRises : {A : Type 0} → Layout → History → Ruling A → Type 0
FloorRises l h r = IsFloorUp l h r.layout r.history

-- nor is the least number at which a key can be read
abbrev pub IsLowUp : Layout → History → Layout → History → Type 0
IsLowUp l h x g = (key : List ℕ) → low h (floor l h) l.keep l.since key ≤ low g (floor x g) x.keep x.since key

abbrev pub LowRises : {A : Type 0} → Layout → History → Ruling A → Type 0
LowRises l h r = IsLowUp l h r.layout r.history
