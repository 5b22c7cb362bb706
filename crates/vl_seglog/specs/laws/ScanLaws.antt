-- What the definition of a log's scan says: from place 16 on, each time from where the last frame ended, it gives the log's frames in their order, and finds
-- no damage before their end.
use Rattle.std.specs.Prelude.{◌≡◌, ℕ, ◌+◌, ◌==◌, List, [], ◌∷◌, ◌++◌, false, length, drop, refl, Option, Some, None}
use Rattle.std.specs.List.{sum_by}
use Rattle.std.proofs.Common.{sym, ap, subst, ◌∙◌, length-append, arith}
use Rattle.std.proofs.Math.Seq.{drop-drop}
use Rattle.std.proofs.lemmas.Bool.Decides.{nat_tests}
use Rattle.std.proofs.lemmas.List.{append-nil, drop_at, length-drop}
use Rattle.std.proofs.lemmas.List.Sums.{sum_by-cons}
use Rattle.vl_frame.specs.laws.RunLaws as runs
use Rattle.vl_frame.specs.Runs.{ReadsAs, item_frame}
use Rattle.vl_model.specs.Frames.{frame_length}
use Rattle.vl_model.specs.declared.log_frame.LogFrame.{LogFrame}
use Rattle.vl_seglog.specs.Frames.{frames_end, frames_grammar}
use Rattle.vl_seglog.specs.LogReading.{AreBehind, LogReading, ReadsLog, is_whole}
use Rattle.vl_seglog.specs.Reading.{frame_of}
use Rattle.vl_seglog.specs.Sealed.{IsFound, IsTorn}
use Rattle.vl_seglog.specs.declared.frame.Frame.{Frame}
use Rattle.vl_seglog.specs.laws.FrameLaws.{length-item_frame}

-- the first of these is found, and nothing where there are none
abbrev pub IsFirst : List LogFrame → Option Frame → Type 0
IsFirst [] None = Unit {0}
IsFirst [] (Some g) = ⊥
IsFirst (f ∷ frames) None = ⊥
IsFirst (f ∷ frames) (Some g) = frame_of g ≡ f

-- behind some frames the others are read
reads_behind : (format number at : ℕ) (rest : List ℕ) (front back : List LogFrame)
    → ReadsAs (frames_grammar format) number at rest (front ++ back)
    → ReadsAs (frames_grammar format) number (at + sum_by (frame_length format) front) (drop (sum_by (frame_length format) front) rest) back
reads_behind format number at rest [] back reads =
    let same : at ≡ at + 0 = omega arith in subst (λ (n : ℕ). ReadsAs (frames_grammar format) number n rest back) same reads
reads_behind format number at rest (f ∷ front) back (after, stands, reads) =
    let G = frames_grammar format in
    let n = frame_length format f in
    let m = sum_by (frame_length format) front in
    let size = length-item_frame format number at f in
    let behind : drop n rest ≡ after = ap (drop n) stands.spelled ∙ drop_at (item_frame G number at f) after n size in
    let others = reads_behind format number (at + n) after front back
    (subst (λ (k : ℕ). ReadsAs G number (at + k) after (front ++ back)) size reads) in
    let sum : sum_by (frame_length format) (f ∷ front) ≡ n + m = sum_by-cons (frame_length format) f front in
    let place : at + n + m ≡ at + (n + m) = omega arith in
    let left : drop m after ≡ drop (n + m) rest = ap (drop m) (sym behind) ∙ drop-drop m n rest in
    subst (λ (k : ℕ). ReadsAs G number (at + k) (drop k rest) back) (sym sum)
    (subst (λ (l : List ℕ). ReadsAs G number (at + (n + m)) l back) left
    (subst (λ (k : ℕ). ReadsAs G number k (drop m after) back) place others))

module _ (number : ℕ) (bytes : List ℕ) (reading : LogReading) (reads : ReadsLog number bytes reading) (format : ℕ)
    (header : reading.header ≡ Some format)
    (front back : List LogFrame) (all : reading.frames ≡ front ++ back) where
  there : ReadsAs (frames_grammar format) number (frames_end format front) (drop (frames_end format front) bytes) back
  there =
      let G = frames_grammar format in
      let whole : ReadsAs G number 16 (drop 16 bytes) reading.frames = subst
      (λ (h : Option ℕ). AreBehind h number bytes reading.frames) header reads.frames in
      subst (λ (l : List ℕ). ReadsAs G number (frames_end format front) l back) (drop-drop (sum_by (frame_length format) front) 16 bytes)
      (reads_behind format number 16 (drop 16 bytes) front back
      (subst (λ (fs : List LogFrame). ReadsAs G number 16 (drop 16 bytes) fs) all whole))

  -- What is found behind some of a log's frames is the next one, and nothing behind the last.
  pub scan_goes_on : (found : Option Frame) → IsFound format number (frames_end format front) bytes found → IsFirst back found
  scan_goes_on found is = by back there found is
    where
      by : (others : List LogFrame) → ReadsAs (frames_grammar format) number (frames_end format front)
          (drop (frames_end format front) bytes) others
          → (found : Option Frame) → IsFound format number (frames_end format front) bytes found → IsFirst others found
      by [] none None is = tt
      by [] none (Some g) is = absurd (none (frame_of g) is.0 is.1)
      by (f ∷ others) (rest, stands, reads) None is =
          let frame = item_frame (frames_grammar format) number (frames_end format front) f in
          absurd (omega (
            arith,
            is,
            ap length stands.spelled,
            length-append frame rest,
            length-drop
                (frames_end format front) bytes,
            runs.frame_is_some (frames_grammar format) number (frames_end format front) f,
          ))
      by (f ∷ others) (rest, stands, reads) (Some g) is =
          sym (runs.one_item (frames_grammar format) number (frames_end format front)
          (drop (frames_end format front) bytes) f (frame_of g) rest is.0 stands is.1).0

  -- Damage behind some of them is found where they are all, and bytes are left behind them.
  pub scan_ends : IsTorn format number (frames_end format front) bytes → (back ≡ []) × (reading.whole ≡ false)
  scan_ends torn = by back there all
    where
      by : (others : List LogFrame) → ReadsAs (frames_grammar format) number (frames_end format front)
          (drop (frames_end format front) bytes) others
          → reading.frames ≡ front ++ others → (others ≡ []) × (reading.whole ≡ false)
      by [] none all =
          let is : reading.whole ≡ (length bytes == frames_end format front) =
          reads.whole ∙ ap (λ (h : Option ℕ). is_whole h bytes reading.frames) header
          ∙ ap (λ (fs : List LogFrame). length bytes == frames_end format fs) (all ∙ append-nil front) in
          let within = torn.within in
          (refl, is ∙ grind (arith, nat_tests))
      by (f ∷ others) (rest, stands, reads) all = absurd (torn.none f rest stands)
