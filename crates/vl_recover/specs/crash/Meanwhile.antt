-- What an opening makes of a disk, and what the disk may be meanwhile.
use Rattle.std.specs.Prelude.{◌≡◌, ℕ, [], ◌∷◌, length, Option, None, Some}
use Rattle.vl_disk.specs.Crash.{Image}
use Rattle.vl_disk.specs.DiskState.{DiskState}
use Rattle.vl_disk.specs.Performs.{FailedAt}
use Rattle.vl_disk.specs.declared.name.Name.{Name}
use Rattle.vl_frame.specs.Runs.{HasFrame}
use Rattle.vl_manifest.specs.Grammar.{edits_grammar}
use Rattle.vl_manifest.specs.Manifest.{manifest_bytes}
use Rattle.vl_manifest.specs.States.{whole_edits}
use Rattle.vl_manifest.specs.declared.manifest_log.ManifestLog.{ManifestLog}
use Rattle.vl_manifest.specs.declared.state.ManifestState.{ManifestState}
use Rattle.vl_recover.specs.opening.Answers.{Faulted, Finds, NoMemory, Recovered, Recovery, Refused, UsedUp, used_up}
use Rattle.vl_model.specs.Formats.{manifest_format}
use Rattle.vl_recover.specs.opening.Finding.{IsReadName}
use Rattle.vl_recover.specs.opening.Plans.{new_state}
use Rattle.vl_recover.specs.repairing.Repairing.{IsPlan, Plan, WhileRepairing, repaired}
use Rattle.vl_recover.specs.repairing.Steps.{files_of}

-- a repairing of what reads give, where no number is used up and the new manifest's frame isn't too long
pub record Repairing (read : Image) : Type 0 where
  pub found : Finds read
  pub unused : used_up found ≡ None
  pub has : HasFrame (edits_grammar manifest_format) (whole_edits (new_state found.greatest found.opening.state))
  pub plan : Plan
  pub is : IsPlan found plan

-- the disk tells that it was repaired
pub record IsRepaired (read : Image) (old : DiskState) (new : Option DiskState) : Type 0 where
  pub repairing : Repairing read
  pub told : new ≡ Some (repaired repairing.plan old)

-- the disk is as it was, or is being repaired
pub data IsMeanwhile (read : Image) (old now : DiskState) : Type 0 where
  as_before : now ≡ old → IsMeanwhile read old now
  at_repairing : (repairing : Repairing read) → WhileRepairing repairing.plan old now → IsMeanwhile read old now

-- the manifest is as long as the one whose first frame says this state, and which has no other
abbrev pub IsAsLong : ManifestState → ManifestLog → Type 0
IsAsLong state log = log.length ≡ length (manifest_bytes log.number (whole_edits state ∷ []))

-- Where a disk fails, by the counts of changing calls before and now: at a manifest, a table or a log that stood and was read, or
-- at listing the files, and then no changing call was made; or at the file of the last one that was made, in the order of a
-- repairing.
pub data IsFaultName (read : Image) (old : DiskState) (before now : ℕ) (name : Name) : Type 0 where
  at_read : IsReadName (Some old) name → now ≡ before → IsFaultName read old before now name
  at_repaired : (repairing : Repairing read) → FailedAt (files_of repairing.plan) before now name
      → IsFaultName read old before now name

-- the name that a fault is answered with is such a name
abbrev pub FaultsAt : Image → DiskState → (before now : ℕ) → Recovery → Type 0
FaultsAt read old before now (Recovered opened) = Unit {0}
FaultsAt read old before now (Refused why) = Unit {0}
FaultsAt read old before now (UsedUp counter) = Unit {0}
FaultsAt read old before now NoMemory = Unit {0}
FaultsAt read old before now (Faulted name) = IsFaultName read old before now name
