-- What the definition of a frame's body says: the frame stands in a log, and it is spelled in one way.
use Rattle.std.specs.Prelude.{◌≡◌, ℕ, ◌<◌, ◌^◌, length, refl}
use Rattle.std.proofs.Common.{ap, sym}
use Rattle.vl_frame.specs.Frame.{file_of}
use Rattle.vl_frame.specs.declared.kinds.FileKind.TheVariants as files
use Rattle.vl_frame.specs.declared.kinds.FrameKind.TheVariants as kinds
use Rattle.vl_model.specs.declared.log_frame.LogFrame.{LogFrame}
use Rattle.vl_model.specs.declared.log_frame.LogFrame.TheVariants.{Committed, Relocated}
use Rattle.vl_seglog.specs.Bodies.{IsFrame, frame_body, frame_kind}
use Rattle.vl_seglog.specs.Commit.{Commit}
use Rattle.vl_seglog.specs.laws.CommitLaws.{one_body}
use Rattle.vl_seglog.specs.laws.RelocationLaws.{one_relocation}

-- A log's frames are of the kinds that stand in logs.
pub in_log : (f : LogFrame) → file_of (frame_kind f) ≡ files.Log
in_log (Committed number writes) = refl
in_log (Relocated records) = refl

two_kinds : kinds.Commit ≡ kinds.Move → ⊥
two_kinds e = cc

-- A frame that has room is spelled in one way.
pub one_spelling : (format : ℕ) (f g : LogFrame) → IsFrame format f → IsFrame format g → length (frame_body format f) < 2 ^ 32
    → frame_kind f ≡ frame_kind g → frame_body format f ≡ frame_body format g → f ≡ g
one_spelling format (Committed m ws) (Committed n vs) p q short kind body =
    ap (λ (c : Commit). Committed c.number c.writes)
    (one_body format (record { number = m; writes = ws }) (record { number = n; writes = vs }) p q short body)
one_spelling format (Committed m ws) (Relocated others) p q short kind body = absurd (two_kinds kind)
one_spelling format (Relocated records) (Committed n vs) p q short kind body = absurd (two_kinds (sym kind))
one_spelling format (Relocated records) (Relocated others) p q short kind body =
    ap Relocated (one_relocation format records others p q short body)
