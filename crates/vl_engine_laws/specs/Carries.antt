-- What a call carries out over a disk that holds the engine's layout.
use Rattle.std.specs.Prelude.{◌≡◌, ◌↔◌, ℕ, List, Option, None, Some}
use Rattle.std.specs.FinMap.{get}
use Rattle.vl_disk.specs.DiskState.{DiskState}
use Rattle.vl_disk.specs.Faults.{after_calls}
use Rattle.vl_disk.specs.Moments.{HoldsThroughout}
use Rattle.vl_disk.specs.declared.name.Name.{Name}
use Rattle.vl_disk.specs.declared.watched.Watched.{Ghosts}
use Rattle.vl_engine_laws.specs.Represents.{Represents}
use Rattle.vl_engine_laws.specs.Shown.{LeavesBetween}
use Rattle.vl_engine_laws.specs.declared.kept.Core.{Core}
use Rattle.vl_engine_model.specs.Decides.{Answered, Decides, Effects, Otherwise, Outcome}
use Rattle.vl_engine_model.specs.Ruling.{Ruling}
use Rattle.vl_engine_model.specs.declared.layout.Layout.{Layout}
use Rattle.vl_model.specs.History.{History}
use Rattle.vl_recover.specs.crash.Starts.{MayOpen}

-- the disk tells its bytes, and this holds of them
abbrev pub Tells : {D : Type 0} → Ghosts D → D → (DiskState → Type 0) → Type 0
Tells g disk P = (state : DiskState) × (g.told disk ≡ Some state) × P state

-- whatever a crash leaves at any moment from the old disk to the new one shows at least the one history and at most the other
abbrev pub CrashesShow : {D : Type 0} → Ghosts D → (old new : D) → (least most : History) → Type 0
CrashesShow g old new least most = HoldsThroughout g old new (LeavesBetween least most)

-- A call of an engine that represented the history and the layout: what it came to is what the ruling says, and so is what it
-- represents then.
pub record Carries {D H A : Type 0} (g : Ghosts D) (bytes : H → Option (List ℕ)) (old new : D) (core : Core H)
    (h : History) (l : Layout) (ruling : Ruling A) (otherwise : Otherwise) (outcome : Outcome A) (effects : Effects)
    : Type 0 where
  pub decides : Decides (Represents bytes core (g.told new)) h l ruling otherwise outcome effects
  -- where it is answered, it made just the ruling's changing calls;
  pub called : (a : A) → outcome ≡ Answered a → g.calls new ≡ after_calls ruling.calls (g.calls old)
  -- what a crash meanwhile leaves shows the history at its last number, or the one that the ruling leaves;
  pub through : l.halted ≡ None → CrashesShow g old new h ruling.history
  -- and a store may be opened on the disk again, also where it failed
  pub again : l.halted ≡ None → Tells g new MayOpen

-- ---- files

-- the same files stand, and the same were removed
abbrev pub HasSameFiles : (old new : DiskState) → Type 0
HasSameFiles old new = (name : Name) → (get new.standing name ≡ None ↔ (get old.standing name ≡ None))
    × (get new.removed name ≡ None ↔ (get old.removed name ≡ None))

-- so it is of what is told
abbrev pub SameFiles : (old new : Option DiskState) → Type 0
SameFiles old new = (before now : DiskState) → old ≡ Some before → new ≡ Some now → HasSameFiles before now

-- what told nothing goes on telling nothing
abbrev pub StaysUntold : (old new : Option DiskState) → Type 0
StaysUntold old new = old ≡ None → new ≡ None
