-- What an install spells before anything is written: the switch that names its tables.
use Rattle.std.specs.Prelude.{◌≡◌, ℕ, max, List, Some}
use Rattle.vl_back.specs.InstallEdits.{Replacing, install_switch}
use Rattle.vl_back.specs.declared.back.Back.{Back}
use Rattle.vl_back.specs.declared.install.StagedInstall.{StagedInstall}
use Rattle.vl_manifest.specs.States.{next_state}
use Rattle.vl_manifest.specs.Switching.{IsStaged, IsStagedFor}

-- These tables take the place of these others, and the greatest version of a deletion that is dropped for good is this.
abbrev pub replacing_of : Back → (inputs made : List ℕ) → (level position gone : ℕ) → Replacing
replacing_of b inputs made level position gone = record {
  inputs = inputs;
  made = made;
  level = level;
  position = position;
  next_log = b.next_log;
  next_table = b.state.next_table;
  gone = max b.state.gone gone;
}

-- The frame spells the switch at the manifest's end, and behind it the manifest says this state.
pub record IsStagedInstall (b : Back) (r : Replacing) (staged : StagedInstall) : Type 0 where
  pub frame : IsStaged b.manifest.number b.manifest.length (install_switch r b.state) staged.edits
  pub at_end : IsStagedFor b.manifest staged.edits
  pub says : next_state (install_switch r b.state) b.state ≡ Some staged.state
