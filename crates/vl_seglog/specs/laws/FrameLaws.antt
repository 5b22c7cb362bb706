-- What the definition of a log's bytes says: how long they are, and what one frame more adds.
use Rattle.std.specs.Prelude.{◌≡◌, ℕ, ◌+◌, List, [], ◌∷◌, ◌++◌, length, refl}
use Rattle.std.specs.List.{sum_by}
use Rattle.std.proofs.Common.{sym, ap, ◌∙◌, append_assoc, length-append, arith}
use Rattle.std.proofs.lemmas.List.Sums.{sum_by-cons}
use Rattle.vl_frame.specs.laws.Laws.{length-frame_bytes}
use Rattle.vl_frame.specs.laws.RunLaws as runs
use Rattle.vl_frame.specs.Runs.{item_frame, run_bytes}
use Rattle.vl_model.specs.Frames.{frame_length}
use Rattle.vl_model.specs.declared.log_frame.LogFrame.{LogFrame}
use Rattle.vl_model.specs.declared.log_frame.LogFrame.TheVariants.{Committed, Relocated}
use Rattle.vl_seglog.specs.laws.CommitLaws.{body_length, records_length}
use Rattle.vl_seglog.specs.Frames.{frames_end, frames_grammar, log_bytes, log_header}
use Rattle.vl_seglog.specs.Bodies.{frame_body, frame_kind}
use Rattle.vl_seglog.specs.laws.RelocationLaws.{length-relocation_body}

-- A log's header has 16 bytes.
pub length-log_header : (format number : ℕ) → length (log_header format number) ≡ 16
length-log_header format number = refl

-- A frame has 13 bytes more than its body.
pub length-frame_body : (format : ℕ) (f : LogFrame) → length (frame_body format f) + 13 ≡ frame_length format f
length-frame_body format (Committed number writes) = omega
    (arith, body_length format (record { number = number; writes = writes }), records_length format writes)
length-frame_body format (Relocated records) = omega (arith, length-relocation_body format records)

-- A frame has as many bytes as its length says, wherever it stands.
pub length-item_frame : (format number at : ℕ) (f : LogFrame)
    → length (item_frame (frames_grammar format) number at f) ≡ frame_length format f
length-item_frame format number at f = length-frame_bytes number at (frame_kind f) (frame_body format f) ∙ length-frame_body format f

pub length-run_bytes : (format number at : ℕ) (frames : List LogFrame)
    → length (run_bytes (frames_grammar format) number at frames) ≡ sum_by (frame_length format) frames
length-run_bytes format number at [] = refl
length-run_bytes format number at (f ∷ frames) =
    let front = item_frame (frames_grammar format) number at f in
    let others = run_bytes (frames_grammar format) number (at + length front) frames in
    omega (
      arith,
      length-append front others,
      length-item_frame format number at f,
      length-run_bytes format number
          (at + length front) frames,
      sum_by-cons (frame_length format) f frames,
    )

-- A log ends where its frames end.
pub length-log_bytes : (format number : ℕ) (frames : List LogFrame) → length (log_bytes format number frames) ≡ frames_end format frames
length-log_bytes format number frames = omega (
  arith,
  length-append (log_header format number) (run_bytes (frames_grammar format) number 16 frames),
  length-run_bytes format number 16 frames,
)

-- The log of one frame more has that frame behind it.
pub log_bytes-more : (format number : ℕ) (frames : List LogFrame) (f : LogFrame)
    → log_bytes format number (frames ++ f ∷ []) ≡ log_bytes format number frames ++ item_frame (frames_grammar format)
    number (frames_end format frames) f
log_bytes-more format number frames f =
    let place : 16 + length (run_bytes (frames_grammar format) number 16 frames) ≡ frames_end format frames = ap
    (λ (n : ℕ). 16 + n) (length-run_bytes format number 16 frames) in
    ap (λ (bytes : List ℕ). log_header format number ++ bytes)
    (runs.run_bytes-more (frames_grammar format) number 16 frames f
    ∙ ap (λ (n : ℕ). run_bytes (frames_grammar format) number 16 frames ++ item_frame (frames_grammar format) number n f) place)
    ∙ sym (append_assoc (log_header format number) (run_bytes (frames_grammar format) number 16 frames)
    (item_frame (frames_grammar format) number (frames_end format frames) f))

-- It is longer by that frame.
pub frames_end-more : (format : ℕ) (frames : List LogFrame) (f : LogFrame)
    → frames_end format (frames ++ f ∷ []) ≡ frames_end format frames + frame_length format f
frames_end-more format [] f = omega (arith, sum_by-cons (frame_length format) f [])
frames_end-more format (g ∷ frames) f = omega (
  arith,
  frames_end-more format frames f,
  sum_by-cons (frame_length format) g (frames ++ f ∷ []),
  sum_by-cons
      (frame_length format) g frames,
)
