-- What the definition of a log's reading says: bytes say one thing, and what they say while frames are written behind one another.
use Rattle.std.specs.Prelude.{◌≡◌, ◌⊎◌, ℕ, ◌+◌, ◌<◌, ◌≤◌, ◌^◌, List, [], ◌∷◌, ◌++◌, Bool, true, false, ◌==◌, length}
use Rattle.std.specs.Prelude.{take, drop, refl, Option, Some, None}
use Rattle.std.specs.List.{AllByRecursion}
use Rattle.std.proofs.Common.{sym, ap, subst, ◌∙◌, append_assoc, length-append, arith, inl, inr, ⊎_elim}
use Rattle.std.proofs.lemmas.Bool.{true≢false}
use Rattle.std.proofs.lemmas.Bool.Decides.{nat_tests}
use Rattle.std.proofs.lemmas.List.{append-nil, drop_at, take_at, take-append-drop}
use Rattle.byteorder.specs.Endian.{big_bytes}
use Rattle.vl_frame.specs.laws.NumberLaws.{one_number}
use Rattle.vl_frame.specs.laws.RunLaws as runs
use Rattle.vl_frame.specs.Runs.{HasFrame, ReadsAs, StandsAt, StandsNone, item_frame, run_bytes}
use Rattle.vl_model.specs.Formats.{log_format}
use Rattle.vl_model.specs.declared.log_frame.LogFrame.{LogFrame}
use Rattle.vl_seglog.specs.laws.FrameLaws.{length-log_bytes, length-run_bytes}
use Rattle.vl_seglog.specs.Frames.{frames_end, frames_grammar, log_bytes, log_header}
use Rattle.vl_seglog.specs.LogReading.{AreBehind, HasHeader, IsLogFormat, LogReading, ReadsLog, SaysFormat, is_whole}

-- ---- formats

-- The format that is written is read.
pub written_is_read : IsLogFormat log_format
written_is_read = record { least = omega arith; greatest = omega arith }

format_fits : (format : ℕ) → IsLogFormat format → format < 256 ^ 4
format_fits format is = omega (arith, is.greatest)

-- A log has one format.
pub one_header_format : (number : ℕ) (bytes : List ℕ) (format other : ℕ) → IsLogFormat format → IsLogFormat other
    → HasHeader format number bytes → HasHeader other number bytes → format ≡ other
one_header_format number bytes format other p q one two =
    let both : big_bytes 4 format ++ (big_bytes 4 number ++ big_bytes 4 0) ≡ big_bytes 4 other
    ++ (big_bytes 4 number ++ big_bytes 4 0) = ap (drop 4) (sym one ∙ two) in
    (one_number 4 format other _ _ (format_fits format p) (format_fits other q) both).0

pub one_format : (number : ℕ) (bytes : List ℕ) (header other : Option ℕ) → SaysFormat header number bytes
    → SaysFormat other number bytes → header ≡ other
one_format number bytes (Some a) (Some b) p q = ap Some (one_header_format number bytes a b p.0 q.0 p.1 q.1)
one_format number bytes (Some a) None p q = absurd (q a p.0 p.1)
one_format number bytes None (Some b) p q = absurd (p b q.0 q.1)
one_format number bytes None None p q = refl

-- ---- one reading

one_behind : (number : ℕ) (bytes : List ℕ) (header : Option ℕ) (frames others : List LogFrame)
    → AreBehind header number bytes frames → AreBehind header number bytes others → frames ≡ others
one_behind number bytes (Some format) frames others p q = runs.one_reading (frames_grammar format) number 16
    (drop 16 bytes) frames others p q
one_behind number bytes None frames others p q = p ∙ sym q

-- The bytes of a log say one thing.
pub one_log_reading : (number : ℕ) (bytes : List ℕ) (reading other : LogReading) → ReadsLog number bytes reading
    → ReadsLog number bytes other → reading ≡ other
one_log_reading number bytes reading other p q =
    let header : reading.header ≡ other.header = one_format number bytes reading.header other.header p.header q.header in
    let frames : reading.frames ≡ other.frames =
    one_behind number bytes other.header reading.frames other.frames
    (subst (λ (h : Option ℕ). AreBehind h number bytes reading.frames) header p.frames) q.frames in
    let whole : reading.whole ≡ other.whole =
    p.whole ∙ ap (λ (h : Option ℕ). is_whole h bytes reading.frames) header ∙ ap (is_whole other.header bytes) frames ∙ sym q.whole in
    λ i. record { header = header i; frames = frames i; whole = whole i }

-- ---- what is read of a log that was written, in a format that is read

behind_header : (format number : ℕ) (run : List ℕ) → HasHeader format number (log_header format number ++ run)
behind_header format number run = take_at (log_header format number) run 16 refl

-- Behind a log that was written, what is read goes on.
pub reads_more : (format number : ℕ) → IsLogFormat format → (frames : List LogFrame)
    → AllByRecursion (HasFrame (frames_grammar format)) frames → (tail : List ℕ) (others : List LogFrame)
    → ReadsAs (frames_grammar format) number (frames_end format frames) tail others
    → ReadsLog number (log_bytes format number frames ++ tail)
    (record {
      header = Some format;
      frames = frames ++ others;
      whole = length (log_bytes format number frames ++ tail)
          == frames_end format (frames ++ others);
    })
reads_more format number is frames have tail others reads =
    let G = frames_grammar format in
    let run = run_bytes G number 16 frames in
    let bytes = log_bytes format number frames ++ tail in
    let parts : bytes ≡ log_header format number ++ (run ++ tail) = append_assoc (log_header format number) run tail in
    let place : frames_end format frames ≡ 16 + length run = ap (λ (n : ℕ). 16 + n) (sym (length-run_bytes format number 16 frames)) in
    let all = runs.reads_more G number 16 frames have tail others (subst (λ (n : ℕ). ReadsAs G number n tail others) place reads) in
    let behind : drop 16 bytes ≡ run ++ tail = ap (drop 16) parts ∙ drop_at (log_header format number) (run ++ tail) 16 refl in
    record {
      header = (is, subst (λ (b : List ℕ). HasHeader format number b) (sym parts) (behind_header format number (run ++ tail)));
      frames = subst (λ (b : List ℕ). ReadsAs G number 16 b (frames ++ others)) (sym behind) all;
      whole = refl;
    }

-- Behind a log may stand bytes at whose front no frame stands. They are no part of what it says, and it is whole where there are none.
pub reads_with_tail : (format number : ℕ) → IsLogFormat format → (frames : List LogFrame)
    → AllByRecursion (HasFrame (frames_grammar format)) frames → (tail : List ℕ)
    → StandsNone (frames_grammar format) number (frames_end format frames) tail
    → ReadsLog number (log_bytes format number frames ++ tail) (record { header = Some format; frames = frames; whole = length tail == 0 })
reads_with_tail format number is frames have tail none =
    let bytes = log_bytes format number frames ++ tail in
    let size : length bytes ≡ frames_end format frames + length tail = length-append (log_bytes format number frames)
    tail ∙ ap (λ (n : ℕ). n + length tail) (length-log_bytes format number frames) in
    let whole : (length bytes == frames_end format frames) ≡ (length tail == 0) = grind (arith, nat_tests, size) in
    subst (λ (w : Bool). ReadsLog number bytes (record { header = Some format; frames = frames; whole = w })) whole
    (subst (λ (fs : List LogFrame). ReadsLog number bytes
    (record { header = Some format; frames = fs; whole = length bytes == frames_end format fs })) (append-nil frames)
    (reads_more format number is frames have tail [] none))

-- A log as it is written says its frames, and is whole.
pub reads_written : (format number : ℕ) → IsLogFormat format → (frames : List LogFrame)
    → AllByRecursion (HasFrame (frames_grammar format)) frames
    → ReadsLog number (log_bytes format number frames) (record { header = Some format; frames = frames; whole = true })
reads_written format number is frames have =
    subst (λ (bytes : List ℕ). ReadsLog number bytes (record { header = Some format; frames = frames; whole = true }))
    (append-nil (log_bytes format number frames))
    (reads_with_tail format number is frames have [] (runs.none_at_end (frames_grammar format) number (frames_end format frames)))

-- Without the right header a log says nothing.
pub reads_no_header : (number : ℕ) (bytes : List ℕ) → SaysFormat None number bytes
    → ReadsLog number bytes (record { header = None; frames = []; whole = false })
reads_no_header number bytes none = record { header = none; frames = refl; whole = refl }

-- ---- what is read behind a write that was cut

-- the bytes of a log of this format say these frames, to their end or not
abbrev pub SaysFrames : ℕ → ℕ → List ℕ → List LogFrame → Type 0
SaysFrames format number bytes frames = (whole : Bool)
    × ReadsLog number bytes (record { header = Some format; frames = frames; whole = whole })

-- Behind the log stands a tail. If a frame stands at its front, it is a front of the frame of f, and behind it stands nothing. Then the log says the frames, or
-- these and f.
pub reads_torn : (format number : ℕ) → IsLogFormat format → (frames : List LogFrame)
    → AllByRecursion (HasFrame (frames_grammar format)) frames
    → (f : LogFrame) → HasFrame (frames_grammar format) f → (tail : List ℕ)
    → ((g : LogFrame) (rest : List ℕ) → StandsAt (frames_grammar format) number (frames_end format frames) tail g rest
    → (take (length (item_frame (frames_grammar format) number (frames_end format frames) g))
    (item_frame (frames_grammar format) number (frames_end format frames) f)
    ≡ item_frame (frames_grammar format) number (frames_end format frames) g)
    × StandsNone (frames_grammar format) number
    (frames_end format frames + length (item_frame (frames_grammar format) number (frames_end format frames) g)) rest)
    → SaysFrames format number (log_bytes format number frames ++ tail) frames
    ⊎ SaysFrames format number (log_bytes format number frames ++ tail) (frames ++ f ∷ [])
reads_torn format number is frames have f has tail torn =
    let at = frames_end format frames in
    ⊎_elim (λ (none : ReadsAs (frames_grammar format) number at tail []). inl
    (length tail == 0, reads_with_tail format number is frames have tail none))
    (λ (one : ReadsAs (frames_grammar format) number at tail (f ∷ [])).
    inr (
      length (log_bytes format number frames ++ tail) == frames_end format (frames ++ f ∷ []),
      reads_more format
          number is frames have tail (f ∷ []) one,
    ))
    (runs.there_or_not (frames_grammar format) number at f has tail torn)

-- ---- what was read, taken apart

-- What has the right header is a log that was written, with a tail at whose front no frame stands.
pub record LogApart (format number : ℕ) (bytes : List ℕ) (frames : List LogFrame) : Type 0 where
  pub is_read : IsLogFormat format
  pub have : AllByRecursion (HasFrame (frames_grammar format)) frames
  pub tail : List ℕ
  pub parts : bytes ≡ log_bytes format number frames ++ tail
  pub none : StandsNone (frames_grammar format) number (frames_end format frames) tail

pub log_apart : (number : ℕ) (bytes : List ℕ) (reading : LogReading) → ReadsLog number bytes reading → (format : ℕ)
    → reading.header ≡ Some format → LogApart format number bytes reading.frames
log_apart number bytes reading reads format header =
    let frames = reading.frames in
    let G = frames_grammar format in
    let right : SaysFormat (Some format) number bytes = subst (λ (h : Option ℕ). SaysFormat h number bytes) header reads.header in
    let behind : ReadsAs G number 16 (drop 16 bytes) frames = subst (λ (h : Option ℕ). AreBehind h number bytes frames)
    header reads.frames in
    let apart = runs.taken_apart G number 16 (drop 16 bytes) frames behind in
    let run = run_bytes G number 16 frames in
    let place : 16 + length run ≡ frames_end format frames = ap (λ (n : ℕ). 16 + n) (length-run_bytes format number 16 frames) in
    record {
      is_read = right.0;
      have = apart.have;
      tail = apart.tail;
      parts = sym (take-append-drop 16 bytes) ∙ ap (λ (front : List ℕ). front ++ drop 16 bytes) right.1
          ∙ ap (λ (b : List ℕ). log_header format number ++ b) apart.parts
          ∙ sym (append_assoc (log_header format number) run apart.tail);
      none = subst (λ (n : ℕ). StandsNone G number n apart.tail) place apart.none;
    }

-- The frames end within the bytes.
pub frames_within : (number : ℕ) (bytes : List ℕ) (reading : LogReading) → ReadsLog number bytes reading → (format : ℕ)
    → reading.header ≡ Some format → frames_end format reading.frames ≤ length bytes
frames_within number bytes reading reads format header =
    let apart = log_apart number bytes reading reads format header in
    omega (
      arith,
      ap length apart.parts,
      length-append (log_bytes format number reading.frames) apart.tail,
      length-log_bytes format number reading.frames,
    )

-- Cut where the frames end, a log is as it was written.
pub reads_cut : (number : ℕ) (bytes : List ℕ) (reading : LogReading) → ReadsLog number bytes reading → (format : ℕ)
    → reading.header ≡ Some format → take (frames_end format reading.frames) bytes ≡ log_bytes format number reading.frames
reads_cut number bytes reading reads format header =
    let apart = log_apart number bytes reading reads format header in
    ap (take (frames_end format reading.frames)) apart.parts
    ∙ take_at (log_bytes format number reading.frames) apart.tail (frames_end format reading.frames)
    (length-log_bytes format number reading.frames)

-- A whole log has a header of some format, and is as it was written.
pub whole_has_header : (number : ℕ) (bytes : List ℕ) (reading : LogReading) → ReadsLog number bytes reading
    → reading.whole ≡ true → (format : ℕ) × (reading.header ≡ Some format)
whole_has_header number bytes reading reads whole = by reading.header (sym reads.whole ∙ whole)
  where
    by : (header : Option ℕ) → is_whole header bytes reading.frames ≡ true → (format : ℕ) × (header ≡ Some format)
    by (Some format) is = (format, refl)
    by None is = absurd (true≢false (sym is))
