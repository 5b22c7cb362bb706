-- What the image of a crash opens as, behind a stop.
use Rattle.std.specs.Prelude.{◌≡◌, ◌≢◌, ◌≤◌, ℕ, Bool, true, false, List, None}
use Rattle.std.specs.FinMap.{get}
use Rattle.vl_disk.specs.Crash.{Image}
use Rattle.vl_disk.specs.Name.{file_number}
use Rattle.vl_disk.specs.declared.name.Name.{Name}
use Rattle.vl_engine_laws.specs.Shown.{Shown}
use Rattle.vl_mem.specs.declared.outcome.Outcome.{Outcome}
use Rattle.vl_mem.specs.declared.outcome.Outcome.TheVariants.{Lost, Kept, Halved}
use Rattle.vl_model.specs.History.{History}
use Rattle.vl_recover.specs.opening.Answers.{AreStrayNames, Finds, used_up}
use Rattle.vl_script_model.specs.Sequential.{State}

-- of the states before and after a line that was stopped, the one whose commits the image shows: the one after where its first
-- call passed and what isn't durable is kept, and else the one before; only a commit, whose first call is its append, tells them
-- apart
abbrev pub state_left : Outcome → (passed : Bool) → (before after : State) → State
state_left Lost passed before after = before
state_left Kept false before after = before
state_left Kept true before after = after
state_left Halved passed before after = before

-- no file of the image has a greater number
abbrev pub NamesUpTo : ℕ → Image → Type 0
NamesUpTo greatest image = (name : Name) → get image name ≢ None → file_number name ≤ greatest

-- The image opens showing the history at this number.
pub record Reopens (image : Image) (h : History) (m : ℕ) : Type 0 where
  pub shown : Shown image h m
  -- a number is left for each file that an opening makes
  pub found : Finds image
  pub unused : used_up found ≡ None
  -- and these are the files that it removes
  pub strays : List Name
  pub are_strays : AreStrayNames image found.opening strays
