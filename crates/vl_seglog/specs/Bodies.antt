-- The frames that a log may have, each a commit or a relocation, and their bodies.
use Rattle.std.specs.Prelude.{ℕ, List}
use Rattle.vl_frame.specs.declared.kinds.FrameKind.{FrameKind}
use Rattle.vl_frame.specs.declared.kinds.FrameKind.TheVariants as kinds
use Rattle.vl_model.specs.declared.log_frame.LogFrame.{LogFrame}
use Rattle.vl_model.specs.declared.log_frame.LogFrame.TheVariants.{Committed, Relocated}
use Rattle.vl_seglog.specs.Commit.{IsCommit, commit_body}
use Rattle.vl_seglog.specs.Relocation.{IsRelocation, relocation_body}

abbrev pub frame_kind : LogFrame → FrameKind
frame_kind (Committed number writes) = kinds.Commit
frame_kind (Relocated records) = kinds.Move

abbrev pub frame_body : ℕ → LogFrame → List ℕ
frame_body format (Committed number writes) = commit_body format (record { number = number; writes = writes })
frame_body format (Relocated records) = relocation_body format records

-- the frames that a log of this format may have
abbrev pub IsFrame : ℕ → LogFrame → Type 0
IsFrame format (Committed number writes) = IsCommit format (record { number = number; writes = writes })
IsFrame format (Relocated records) = IsRelocation format records
