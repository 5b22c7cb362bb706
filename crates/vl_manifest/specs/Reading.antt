-- What reading meets on its way.
use Rattle.std.specs.Prelude.{◌≡◌, ℕ, List, length, Result, Ok, Err}
use Rattle.std.specs.List.{AllByRecursion}
use Rattle.vl_frame.specs.Begins.{BeginsAs, placed}
use Rattle.vl_frame.specs.Runs.{ReadsAs}
use Rattle.vl_manifest.specs.declared.edit.Edit.{Edit}
use Rattle.vl_manifest.specs.declared.fails.StateFail.{StateFail}
use Rattle.vl_manifest.specs.declared.fails.StateFail.TheVariants.{Damaged, NoMemory}
use Rattle.vl_manifest.specs.declared.state.ManifestState.{ManifestState}
use Rattle.vl_manifest.specs.Grammar.{edits_grammar}
use Rattle.vl_manifest.specs.Edits.{IsEdit, edits_bytes}
use Rattle.vl_manifest.specs.Manifest.{IsDamaged, SaysState}
use Rattle.vl_manifest.specs.States.{state_behind}

-- so many edits of a format, one behind the other, are the bytes
pub record IsRun (format : ℕ) (bytes : List ℕ) (count : ℕ) (edits : List Edit) : Type 0 where
  pub counted : length edits ≡ count
  pub lawful : AllByRecursion (IsEdit format) edits
  pub spelled : bytes ≡ edits_bytes edits

-- what a manifest's frames make, of which those up to a place make a state, and which has these bytes from there on
abbrev pub GoesOn : ℕ → ℕ → ℕ → List ℕ → ManifestState → Result ManifestState ℕ → Type 0
GoesOn format number at bytes state (Ok last) =
    (frames : List (List Edit)) × ReadsAs (edits_grammar format) number at bytes frames
    × (state_behind state (placed (edits_grammar format) number at frames) ≡ Ok last)
GoesOn format number at bytes state (Err place) =
    (frames : List (List Edit)) × BeginsAs (edits_grammar format) number at bytes frames
    × (state_behind state (placed (edits_grammar format) number at frames) ≡ Err place)

-- what was read of a manifest is what its bytes say, unless there was no memory
abbrev pub AnswersSo : ℕ → List ℕ → Result ManifestState StateFail → Type 0
AnswersSo number bytes (Ok state) = SaysState number bytes state
AnswersSo number bytes (Err NoMemory) = Unit {0}
AnswersSo number bytes (Err (Damaged place)) = IsDamaged number bytes place

-- the same of a manifest whose frames up to a place were read
abbrev pub GoesOnSo : ℕ → ℕ → ℕ → List ℕ → ManifestState → Result ManifestState StateFail → Type 0
GoesOnSo format number at bytes state (Ok last) = GoesOn format number at bytes state (Ok last)
GoesOnSo format number at bytes state (Err NoMemory) = Unit {0}
GoesOnSo format number at bytes state (Err (Damaged place)) = GoesOn format number at bytes state (Err place)
