-- A frame that stands at a place of a log, by the length that its head says.
use Rattle.std.specs.Prelude.{◌≡◌, ◌+◌, ◌≤◌, ℕ, List, [], ◌∷◌, ◌++◌, length, take, drop}
use Rattle.std.proofs.Common.{ap, sym, ◌∙◌, append_assoc, length-append, arith}
use Rattle.std.proofs.lemmas.List.{append-nil, length-drop, take_at, take-append-drop}
use Rattle.byteorder.specs.Endian.{big_bytes}
use Rattle.vl_disk.specs.DiskState.{bytes_at}
use Rattle.vl_frame.specs.Frame.{IsSpelled, frame_bytes, frame_code, frame_length}
use Rattle.vl_frame.specs.Runs.{StandsAt, StandsNone, item_frame}
use Rattle.vl_frame.specs.declared.kinds.FileKind.TheVariants as files
use Rattle.vl_frame.specs.declared.kinds.FrameKind.{FrameKind}
use Rattle.vl_frame.specs.laws.Laws.{length-frame_bytes}
use Rattle.vl_frame.specs.laws.RunLaws.{frame_of}
use Rattle.vl_model.specs.declared.log_frame.LogFrame.{LogFrame}
use Rattle.vl_seglog.specs.Bodies.{frame_body, frame_kind}
use Rattle.vl_seglog.specs.Frames.{frames_grammar}
use Rattle.vl_seglog.specs.Sealed.{HasLength}

-- a frame begins with its kind and the length of its body
pub frame_head : (number place : ℕ) (bytes : List ℕ) (kind : FrameKind) (body : List ℕ)
    → IsSpelled files.Log number place (drop place bytes) kind body
    → bytes_at place 5 bytes ≡ frame_code kind ∷ big_bytes 4 (length body)
unfolding frame_bytes
frame_head number place bytes kind body s = ap (take 5) s.spelled

-- and is inside the file
pub frame_inside : (number place : ℕ) (bytes : List ℕ) (kind : FrameKind) (body : List ℕ)
    → IsSpelled files.Log number place (drop place bytes) kind body → place + frame_length (length body) ≤ length bytes
frame_inside number place bytes kind body s =
    let frame = frame_bytes number place kind body in
    omega (arith, ap length s.spelled, length-append frame s.rest, length-frame_bytes number place kind body, length-drop place bytes)

module _ (format number place : ℕ) (bytes : List ℕ) (n : ℕ) (slice : List ℕ) (cut : slice ≡ bytes_at place n bytes) where
  whole : drop place bytes ≡ slice ++ drop n (drop place bytes)
  whole = sym (take-append-drop n (drop place bytes)) ∙ ap (λ (l : List ℕ). l ++ drop n (drop place bytes)) (sym cut)

  -- what stands in the bytes that were cut out stands there
  pub stands_there : (f : LogFrame) (rest : List ℕ) → StandsAt (frames_grammar format) number place slice f rest
      → StandsAt (frames_grammar format) number place (drop place bytes) f (rest ++ drop n (drop place bytes))
  stands_there f rest s =
      let frame = item_frame (frames_grammar format) number place f in
      record {
        lawful = s.lawful;
        short = s.short;
        spelled = whole ∙ ap (λ (l : List ℕ). l ++ drop n (drop place bytes)) s.spelled
            ∙ append_assoc frame rest (drop n (drop place bytes));
      }

  -- and where none does in as many as a frame there has, none stands
  pub none_there : HasLength number place bytes n → StandsNone (frames_grammar format) number place slice
      → StandsNone (frames_grammar format) number place (drop place bytes)
  none_there has none f rest s =
      let frame = item_frame (frames_grammar format) number place f in
      let long : length frame ≡ n =
      length-frame_bytes number place (frame_kind f) (frame_body format f)
      ∙ sym (has (frame_kind f) (frame_body format f) (frame_of (frames_grammar format) number place (drop place bytes) f rest s)) in
      none f [] (record {
        lawful = s.lawful;
        short = s.short;
        spelled = cut ∙ ap (take n) s.spelled ∙ take_at frame rest n long ∙ sym (append-nil frame);
      })
