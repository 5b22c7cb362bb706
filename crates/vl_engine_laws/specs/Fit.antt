-- What an engine's next calls ask of its disk.
use Rattle.std.specs.Prelude.{◌≡◌, ◌≤◌, ℕ, None}
use Rattle.vl_back.specs.declared.back.Back.{Back}
use Rattle.vl_disk.specs.Disk.{IsFree, Stands}
use Rattle.vl_disk.specs.DiskState.{DiskState}
use Rattle.vl_disk.specs.declared.name.Name.TheVariants as names
use Rattle.vl_engine_laws.specs.declared.kept.Core.{Core}

-- The manifest that is appended to stands, and no log and no table does under a number that may still be given.
pub record IsFitForSteps (back : Back) (disk : DiskState) : Type 0 where
  pub manifest : Stands (names.Manifest back.manifest.number) disk
  pub logs : (n : ℕ) → back.next_log ≤ n → IsFree (names.Log n) disk
  pub tables : (n : ℕ) → back.state.next_table ≤ n → IsFree (names.Table n) disk

-- The log that takes commits stands; and so it is with what steps on files need, unless the engine is halted.
pub record IsFitFor {H : Type 0} (core : Core H) (disk : DiskState) : Type 0 where
  pub log : Stands (names.Log core.front.log.number) disk
  pub steps : core.front.halted ≡ None → IsFitForSteps core.back disk
