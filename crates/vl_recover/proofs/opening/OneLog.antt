-- One log that was read.
use Rattle.std.proofs.Common.{◌≡◌, ℕ, ◌-◌, ◌<◌, ◌≤◌, true, false, List, [], ◌∷◌, ◌++◌, length, map, take, drop}
use Rattle.std.proofs.Common.{reverse, refl, sym, ap, subst, ◌∙◌, arith, ⊎_elim}
use Rattle.std.specs.Prelude.{min, Option, None, Some, ◌==◌}
use Rattle.std.specs.FinMap.{get}
use Rattle.std.proofs.lemmas.Bool.{cases_lt, true≢false}
use Rattle.std.proofs.lemmas.Bool.Decides.{nat_tests}
use Rattle.std.proofs.lemmas.List.{append-nil, length-drop, reverse-reverse, take-take, take_all}
use Rattle.vl_disk.specs.Crash.{Image}
use Rattle.vl_disk.specs.DiskState.{bytes_at}
use Rattle.vl_disk.specs.declared.name.Name.TheVariants.{Log}
use Rattle.vl_frame.specs.Runs.{ReadsAs}
use Rattle.vl_engine_model.specs.Logs.{logged_entries}
use Rattle.vl_seglog.specs.Frames.{frames_grammar}
use Rattle.vl_model.specs.Entries.{in_order}
use Rattle.vl_model.specs.declared.entry.Entry.{Entry}
use Rattle.vl_model.specs.declared.log_frame.LogFrame.{LogFrame}
use Rattle.vl_recover.specs.declared.found.Content.{Content}
use Rattle.vl_recover.specs.declared.found.LogFound.{LogFound}
use Rattle.vl_recover.specs.opening.Answers.{HeldLog, held_log}
use Rattle.vl_recover.specs.opening.Leading.{BeginsIn}
use Rattle.vl_recover.specs.opening.LogsSoFar.{FindsLog}
use Rattle.vl_recover.specs.opening.ReadLogs.{HasNothing, IsContent, IsReadAs, held_content, standing_log}
use Rattle.vl_recover.specs.opening.Walk.{filled, format_of, has_some}
use Rattle.vl_seglog.specs.LogReading.{LogReading, SaysFormat, end_of}
use Rattle.vl_seglog.specs.laws.LogReadingLaws.{reads_no_header}

-- ---- its bytes

front_same : (bytes : List ℕ) → take 16 (take (min (length bytes) 16) bytes) ≡ take 16 bytes
front_same bytes = ⊎_elim
    (λ (short : length bytes < 16).
    let all : min (length bytes) 16 ≡ length bytes = omega (arith, short) in
    ap (λ (n : ℕ). take 16 (take n bytes)) all ∙ ap (take 16) (take_all (length bytes) bytes (omega arith)))
    (λ (long : 16 ≤ length bytes).
    let all : min (length bytes) 16 ≡ 16 = omega (arith, long) in
    ap (λ (n : ℕ). take 16 (take n bytes)) all ∙ take-take 16 16 bytes (omega arith))
    (cases_lt (length bytes) 16)

-- what the front says all bytes say
front_says : (number : ℕ) (bytes front : List ℕ) → take 16 front ≡ take 16 bytes → (header : Option ℕ)
    → SaysFormat header number front → SaysFormat header number bytes
front_says number bytes front same (Some format) says = (says.0, sym same ∙ says.1)
front_says number bytes front same None says = λ format is has. says format is (same ∙ has)

module _ (image : Image) (number before size : ℕ) (bytes : List ℕ)
    (stands : get image (Log number) ≡ Some bytes) (size_is : size ≡ length bytes)
    (front : List ℕ) (front_is : front ≡ bytes_at 0 (min size 16) bytes) where
  same : take 16 front ≡ take 16 bytes
  same = ap (take 16) front_is ∙ ap (λ (n : ℕ). take 16 (take (min n 16) bytes)) size_is ∙ front_same bytes

  -- it begins with its header
  pub header_begins : (header : Option ℕ) (format : ℕ) → header ≡ Some format → SaysFormat header number front
      → BeginsIn image number format
  header_begins header format some says =
      let right = front_says number bytes front same (Some format) (subst (λ (h : Option ℕ). SaysFormat h number front) some says) in
      record { bytes = bytes; stands = stands; format_is = right.0; header = right.1 }

  -- without a right header it has nothing
  pub headless_found : (header : Option ℕ) → header ≡ None → SaysFormat header number front → (c : Content) → HasNothing 0 before c
      → FindsLog image number before (record { number = number; length = size; format = None; content = c })
  headless_found header none says c is = record {
    number_is = refl;
    bytes = bytes;
    stands = stands;
    length_is = size_is;
    reading = record { header = None; frames = []; whole = false };
    reads = reads_no_header number bytes
        (front_says number bytes front same None (subst (λ (h : Option ℕ). SaysFormat h number front) none says));
    read_as = record {
      format_is = refl;
      end_is = is.end_is;
      count_is = is.count_is;
      entries_are = is.entries_are;
      some = is.none;
      headless = λ _. refl;
      whole = refl;
    };
  }

  -- behind one it has what the bytes say there
  pub headed_found : (header : Option ℕ) (format : ℕ) → header ≡ Some format → SaysFormat header number front
      → (behind : List ℕ) → behind ≡ bytes_at 16 (size - 16) bytes → (c : Content) → IsContent format number before behind c
      → FindsLog image number before (record { number = number; length = size; format = Some format; content = c })
  headed_found header format some says behind behind_is c is =
      let right = front_says number bytes front same (Some format) (subst (λ (h : Option ℕ). SaysFormat h number front) some says) in
      let rest : behind ≡ drop 16 bytes =
      behind_is ∙ take_all (size - 16) (drop 16 bytes) (omega (arith, size_is, length-drop 16 bytes)) in
      record {
        number_is = refl;
        bytes = bytes;
        stands = stands;
        length_is = size_is;
        reading = record { header = Some format; frames = is.frames; whole = length bytes == end_of (Some format) is.frames };
        reads = record {
          header = right;
          frames = subst (λ (b : List ℕ). ReadsAs (frames_grammar format) number 16 b is.frames) rest is.reads;
          whole = refl;
        };
        read_as = record {
          format_is = refl;
          end_is = is.has.end_is;
          count_is = is.has.count_is;
          entries_are = is.has.entries_are;
          some = is.has.some;
          headless = λ none. absurd cc;
          whole = whole_same (length bytes) size (end_of (Some format) is.frames) c.end size_is is.has.end_is;
        };
      }
    where
      whole_same : (a b m n : ℕ) → b ≡ a → n ≡ m → (a == m) ≡ (n == b)
      whole_same a b m n p q = grind (arith, nat_tests, p, q)

-- ---- its memtable

module _ (before : ℕ) (log : LogFound) (reading : LogReading) (is : IsReadAs before reading log) (olds news : List HeldLog) where
  -- a log with frames is held
  pub frozen_with : log.content.has_frames ≡ true → news ≡ olds ++ held_content log.number log.content ∷ []
      → news ≡ olds ++ map held_log (filled (standing_log log reading ∷ []))
  frozen_with some more = more ∙ ap (λ (hs : List HeldLog). olds ++ hs)
      (by reading.header reading.frames is.end_is is.entries_are is.headless (sym is.some ∙ some))
    where
      by : (header : Option ℕ) (frames : List LogFrame) → log.content.end ≡ end_of header frames
          → log.content.entries.items ≡ reverse (logged_entries (format_of header) log.number 16 frames)
          → (header ≡ None → frames ≡ []) → has_some frames ≡ true
          → held_content log.number log.content ∷ []
          ≡ map held_log (filled (record
          { number = log.number; length = log.length; reading = record { header = header; frames = frames; whole = false } } ∷ []))
      by header [] end entries headless none = absurd (true≢false (sym none))
      by None (f ∷ fs) end entries headless any = absurd (no_cons f fs (headless refl))
        where
          no_cons : (f : LogFrame) (fs : List LogFrame) → f ∷ fs ≡ [] → ⊥
          no_cons f fs e = cc
      by (Some format) (f ∷ fs) end entries headless any =
          let es : in_order (reverse log.content.entries.items) ≡ in_order (logged_entries format log.number 16 (f ∷ fs)) =
          ap (λ (xs : List Entry). in_order (reverse xs)) entries
          ∙ ap in_order (reverse-reverse (logged_entries format log.number 16 (f ∷ fs))) in
          λ i. record { number = log.number; length = end i; entries = es i } ∷ []

  -- and one without isn't
  pub frozen_without : log.content.has_frames ≡ false → news ≡ olds
      → news ≡ olds ++ map held_log (filled (standing_log log reading ∷ []))
  frozen_without none stay = stay ∙ sym (append-nil olds) ∙ ap (λ (hs : List HeldLog). olds ++ hs) (by reading.frames (sym is.some ∙ none))
    where
      by : (frames : List LogFrame) → has_some frames ≡ false
          → [] ≡ map held_log (filled
          (record {
            number = log.number;
            length = log.length;
            reading = record
                { header = reading.header; frames = frames; whole = false };
          } ∷ []))
      by [] e = refl
      by (f ∷ fs) e = absurd (true≢false e)
