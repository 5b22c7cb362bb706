-- What a frame says that was found.
use Rattle.std.proofs.Common.{◌≡◌, ℕ, ◌+◌, ◌-◌, List, [], ◌∷◌, ◌++◌, length, map, take, drop, sym, ap, subst, ◌∙◌, arith}
use Rattle.std.proofs.lemmas.List.{map_push, take_all, length-drop}
use Rattle.vl_frame.specs.Frame.{IsSpelled, frame_bytes}
use Rattle.vl_frame.specs.laws.Laws.{one_frame}
use Rattle.vl_frame.specs.laws.RunLaws as runs
use Rattle.vl_frame.specs.Runs.{StandsAt}
use Rattle.vl_frame.specs.declared.kinds.FileKind.TheVariants as files
use Rattle.vl_frame.specs.declared.kinds.FrameKind.{FrameKind}
use Rattle.vl_model.specs.Frames.{frame_length}
use Rattle.vl_model.specs.declared.log_frame.LogFrame.{LogFrame}
use Rattle.vl_seglog.specs.laws.FrameLaws.{frames_end-more, length-item_frame}
use Rattle.vl_seglog.specs.Frames.{frames_end, frames_grammar}
use Rattle.vl_seglog.specs.Bodies.{frame_body, frame_kind}
use Rattle.vl_seglog.specs.Placed.{AreFramesFrom, IsFrameAt}
use Rattle.vl_seglog.specs.Reading.{Says, frame_of}
use Rattle.vl_seglog.specs.declared.frame.Frame.{Frame}
use Rattle.vl_seglog.proofs.Following.{Placing, all_placed, none_placed, one_placed}

-- the frame that was found says what stands there
pub says : (format number at : ℕ) (bytes : List ℕ) (kind : FrameKind) (body : List ℕ) (f : LogFrame) (rest : List ℕ)
    → IsSpelled files.Log number at bytes kind body → StandsAt (frames_grammar format) number at bytes f rest → Says format kind body f
says format number at bytes kind body f rest found s =
    let one = one_frame files.Log number at bytes kind (frame_kind f) body (frame_body format f) found
    (runs.frame_of (frames_grammar format) number at bytes f rest s) in
    record { lawful = s.lawful; kind_is = one.0; body_is = one.1 }

pub stands : (format number at : ℕ) (bytes : List ℕ) (kind : FrameKind) (body : List ℕ) (n : ℕ) (f : LogFrame)
    → IsSpelled files.Log number at bytes kind body → bytes ≡ frame_bytes number at kind body ++ drop n bytes → Says format kind body f
    → StandsAt (frames_grammar format) number at bytes f (take (length bytes - n) (drop n bytes))
stands format number at bytes kind body n f found behind said =
    let all : take (length bytes - n) (drop n bytes) ≡ drop n bytes = take_all (length bytes - n) (drop n bytes)
    (omega (arith, length-drop n bytes)) in
    record {
      lawful = said.lawful;
      short = rw (← said.body_is) found.short;
      spelled = behind ∙ ap (λ k. frame_bytes number at k body ++ drop n bytes) said.kind_is
          ∙ ap (λ b. frame_bytes number at (frame_kind f) b ++ drop n bytes) said.body_is
          ∙ ap (λ (r : List ℕ). frame_bytes number at (frame_kind f) (frame_body format f) ++ r) (sym all);
    }

-- the frames that were read, and the place behind them
pub record SoFar (format number : ℕ) (bytes : List ℕ) (frames : List LogFrame) (rest : List ℕ) : Type 0 where
  pub under_way : runs.UnderWay (frames_grammar format) number 16 bytes frames rest
  pub place : 16 + (length bytes - length rest) ≡ frames_end format frames

pub goes_on : (format number : ℕ) (bytes : List ℕ) (frames : List LogFrame) (rest : List ℕ) (at : ℕ) (f : LogFrame)
    (after : List ℕ) → SoFar format number bytes frames rest → at ≡ 16 + (length bytes - length rest)
    → StandsAt (frames_grammar format) number at rest f after → SoFar format number bytes (frames ++ f ∷ []) after
goes_on format number bytes frames rest at f after so_far is s =
    let more = runs.goes_on (frames_grammar format) number 16 bytes frames rest at f after so_far.under_way is s in
    let less = runs.shorter (frames_grammar format) number at rest f after s in
    record {
      under_way = more;
      place = omega
          (arith, so_far.place, so_far.under_way.within, less.0, length-item_frame format number at f, frames_end-more format frames f);
    }

-- ---- frames with their places

abbrev size : ℕ → Frame → ℕ
size format f = frame_length format (frame_of f)

pub record FramesSoFar (format number : ℕ) (bytes : List ℕ) (frames : List Frame) (rest : List ℕ) : Type 0 where
  pub so_far : SoFar format number bytes (map frame_of frames) rest
  pub placed : Placing (IsFrameAt format number) (size format) 16 frames (frames_end format (map frame_of frames))

pub none_read : (format number : ℕ) (bytes : List ℕ) (none : List Frame) → none ≡ [] → FramesSoFar format number bytes none bytes
none_read format number bytes none is = subst (λ (fs : List Frame). FramesSoFar format number bytes fs bytes) (sym is) (record {
  so_far = record { under_way = runs.begins (frames_grammar format) number 16 bytes; place = omega arith };
  placed = none_placed (IsFrameAt format number) (size format) 16;
})

pub one_read : (format number : ℕ) (bytes : List ℕ) (frames now : List Frame) (rest : List ℕ) (at : ℕ) (f : Frame)
    (after : List ℕ) → FramesSoFar format number bytes frames rest → at ≡ 16 + (length bytes - length rest)
    → now ≡ frames ++ f ∷ [] → StandsAt (frames_grammar format) number at rest (frame_of f) after
    → IsFrameAt format number at f → FramesSoFar format number bytes now after
one_read format number bytes frames now rest at f after so is now_is stands placed = subst
    (λ (fs : List Frame). FramesSoFar format number bytes fs after) (sym now_is) (record {
      so_far = subst (λ (fs : List LogFrame). SoFar format number bytes fs after) (sym pushed)
          (goes_on format number bytes (map frame_of frames) rest at (frame_of f) after so.so_far is stands);
      placed = subst (λ (n : ℕ). Placing (IsFrameAt format number) (size format) 16 (frames ++ f ∷ []) n)
          (sym (ap (frames_end format) pushed ∙ frames_end-more format (map frame_of frames) (frame_of f)))
          (one_placed (IsFrameAt format number) (size format) 16 frames (frames_end format (map frame_of frames)) f
          so.placed (subst (λ (n : ℕ). IsFrameAt format number n f) (is ∙ so.so_far.place) placed));
    })
  where
    pushed : map frame_of (frames ++ f ∷ []) ≡ map frame_of frames ++ frame_of f ∷ []
    pushed = map_push frame_of frames f

pub frames_placed : (format number : ℕ) (bytes : List ℕ) (frames : List Frame) (rest : List ℕ)
    → FramesSoFar format number bytes frames rest → AreFramesFrom format number 16 frames
frames_placed format number bytes frames rest so = all_placed (IsFrameAt format number) (size format) 16 frames
    (frames_end format (map frame_of frames)) so.placed
