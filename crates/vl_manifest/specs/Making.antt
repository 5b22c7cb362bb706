-- The making of a manifest: its memory, and then its file.
use Rattle.std.specs.Prelude.{◌≡◌, ℕ, ◌≤◌, List, [], ◌∷◌, length, Result, Ok, Err}
use Rattle.std.specs.Option.{ForSome}
use Rattle.vl_disk.specs.declared.name.Name.{Name}
use Rattle.vl_disk.specs.declared.name.Name.TheVariants as names
use Rattle.vl_disk.specs.declared.watched.Watched.{Ghosts}
use Rattle.vl_disk.specs.Calls.{ChangesNothing}
use Rattle.vl_disk.specs.Disk.{Stands, IsChangedBy}
use Rattle.vl_disk.specs.Faults.{HasCause, after_calls}
use Rattle.vl_disk.specs.MadeFile.{TellsPart, WhileMaking, made}
use Rattle.vl_disk.specs.Moments.{Elapses}
use Rattle.vl_disk.specs.Spare.{SameSpareElsewhere}
use Rattle.vl_manifest.specs.declared.edit.Edit.{Edit}
use Rattle.vl_manifest.specs.declared.fails.IoFail.{IoFail}
use Rattle.vl_manifest.specs.declared.fails.IoFail.TheVariants.{Disk, NoMemory}
use Rattle.vl_manifest.specs.declared.manifest_log.ManifestLog.{ManifestLog}
use Rattle.vl_model.specs.Formats.{manifest_format}
use Rattle.vl_frame.specs.Runs.{HasFrame}
use Rattle.vl_manifest.specs.Grammar.{edits_grammar}
use Rattle.vl_manifest.specs.Manifest.{ReadsManifest, manifest_bytes}

-- the bytes of the manifest with this number whose first frame says these edits, and which has no other
abbrev pub new_manifest : ℕ → List Edit → List ℕ
new_manifest number edits = manifest_bytes number (edits ∷ [])

-- it was made and is durable
pub record HasMade {D : Type 0} (g : Ghosts D) (number : ℕ) (edits : List Edit) (old new : D)
    (log : ManifestLog) : Type 0 where
  pub log_is : log ≡ record { number = number; length = length (new_manifest number edits) }
  -- it reads as its one frame
  pub reads : ReadsManifest manifest_format number (new_manifest number edits) (edits ∷ [])
  pub file : IsChangedBy (made (names.Manifest number) (new_manifest number edits)) (g.told old) (g.told new)
  pub stands : ForSome (g.told new) (Stands (names.Manifest number))
  pub calls : g.calls new ≡ after_calls 3 (g.calls old)

-- the disk failed at the manifest's file, of which a part may stand
pub record HasMadePart {D : Type 0} (g : Ghosts D) (number : ℕ) (edits : List Edit) (old new : D)
    (name : Name) : Type 0 where
  pub name_is : name ≡ names.Manifest number
  pub part : TellsPart (names.Manifest number) (new_manifest number edits) (g.told old) (g.told new)
  pub stops : (n : ℕ) × (1 ≤ n) × (n ≤ 3) × (g.calls new ≡ after_calls n (g.calls old))

-- what each answer says; for want of memory nothing was changed
abbrev pub MakeAnswers :
    {D : Type 0} → Ghosts D → ℕ → List Edit → D → D → Result ManifestLog IoFail → Type 0
MakeAnswers g number edits old new (Ok log) = HasMade g number edits old new log
MakeAnswers g number edits old new (Err NoMemory) = ChangesNothing g old new ⊥
MakeAnswers g number edits old new (Err (Disk name)) = HasMadePart g number edits old new name

-- the disk failed
abbrev pub HasFailed : Result ManifestLog IoFail → Type 0
HasFailed (Ok log) = ⊥
HasFailed (Err NoMemory) = ⊥
HasFailed (Err (Disk name)) = Unit {0}

-- the edits make a frame, where there was memory for it
abbrev pub HasItsFrame : List Edit → Result ManifestLog IoFail → Type 0
HasItsFrame edits (Ok log) = HasFrame (edits_grammar manifest_format) edits
HasItsFrame edits (Err NoMemory) = Unit {0}
HasItsFrame edits (Err (Disk name)) = HasFrame (edits_grammar manifest_format) edits

pub record MakesManifest {D : Type 0} (g : Ghosts D) (number : ℕ) (edits : List Edit) (old new : D)
    (result : Result ManifestLog IoFail) : Type 0 where
  pub answer : MakeAnswers g number edits old new result
  pub frame : HasItsFrame edits result
  pub time : Elapses g old new (WhileMaking (names.Manifest number) (new_manifest number edits))
  pub cause : HasCause (g.faults old) (g.faults new) (HasFailed result)
  pub spare : SameSpareElsewhere (names.Manifest number) (g.spare old) (g.spare new)
