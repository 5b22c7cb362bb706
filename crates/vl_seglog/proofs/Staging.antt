-- A frame that was written for a place of a log.
use Rattle.std.proofs.Common.{◌≡◌, ℕ, ◌+◌, ◌<◌, ◌^◌, List, length, ap, ◌∙◌, arith}
use Rattle.vl_frame.specs.Runs.{HasFrame}
use Rattle.vl_model.specs.Formats.{log_format}
use Rattle.vl_model.specs.declared.change.Change.{Change}
use Rattle.vl_model.specs.declared.log_frame.LogFrame.{LogFrame}
use Rattle.vl_model.specs.declared.log_frame.LogFrame.TheVariants.{Committed, Relocated}
use Rattle.vl_model.specs.declared.log_frame.Moved.{Moved}
use Rattle.vl_frame.specs.laws.Laws.{length-frame_bytes}
use Rattle.vl_seglog.specs.Commit.{records_bytes}
use Rattle.vl_seglog.specs.laws.CommitLaws.{body_length}
use Rattle.vl_seglog.specs.Frames.{frame_at, frames_grammar}
use Rattle.vl_seglog.specs.Bodies.{IsFrame, frame_body, frame_kind}
use Rattle.vl_seglog.specs.Relocation.{moves_bytes, relocation_body}

pub record IsWritten (log place : ℕ) (f : LogFrame) (out : List ℕ) : Type 0 where
  pub frame : out ≡ frame_at log_format log place f
  pub has : HasFrame (frames_grammar log_format) f
  pub long : length out ≡ length (frame_body log_format f) + 13
  pub short : length out < 2 ^ 32

pub written : (log place : ℕ) (f : LogFrame) (out : List ℕ) → out ≡ frame_at log_format log place f → IsFrame log_format f
    → length (frame_body log_format f) + 13 < 2 ^ 32 → IsWritten log place f out
written log place f out frame lawful short =
    let long : length out ≡ length (frame_body log_format f) + 13 =
    ap length frame ∙ length-frame_bytes log place (frame_kind f) (frame_body log_format f) in
    record {
      frame = frame;
      has = record { lawful = lawful; short = omega (arith, short) };
      long = long;
      short = omega
          (arith, short, long);
    }

-- its parts
pub commit_long : (log place number : ℕ) (writes : List (List ℕ × Change)) (out : List ℕ)
    → IsWritten log place (Committed number writes) out → length out ≡ 25 + length (records_bytes log_format writes)
commit_long log place number writes out w = omega (arith, w.long, body_length log_format (record { number = number; writes = writes }))

move_long : (records : List Moved) → length (relocation_body log_format records) ≡ 4 + length (moves_bytes log_format records)
unfolding relocation_body
move_long records = omega arith

pub relocation_long : (log place : ℕ) (records : List Moved) (out : List ℕ)
    → IsWritten log place (Relocated records) out → length out ≡ 17 + length (moves_bytes log_format records)
relocation_long log place records out w = omega (arith, w.long, move_long records)
