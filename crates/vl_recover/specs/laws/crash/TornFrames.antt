-- A log to which one more frame was handed over: what a crash leaves of it, and what reads give.
use Rattle.std.specs.Prelude.{◌≡◌, ◌⊎◌, ◌≤◌, ℕ, ◌+◌, ◌-◌, List, [], ◌∷◌, ◌++◌, length, take, drop, refl, Any, slice_index_or}
use Rattle.std.specs.List.{AllByRecursion}
use Rattle.std.proofs.Common.{sym, ap, subst, ◌∙◌, arith, append_assoc, length-append}
use Rattle.std.proofs.lemmas.List.{drop_all, drop_at, length-take, take-append-drop, take-take, take_at}
use Rattle.vl_disk.specs.Chance.{HasOnlyHandedOver, StandsIn, WasHandedOver, torn_from}
use Rattle.vl_disk.specs.Crash.{Agrees}
use Rattle.vl_disk.specs.DiskState.{File, lengthened, settled}
use Rattle.vl_frame.specs.Begins.{SpellsAt}
use Rattle.vl_frame.specs.laws.RunLaws.{frame_is_some, none_at_end, one_front}
use Rattle.vl_disk.specs.declared.name.Name.TheVariants.{Log}
use Rattle.vl_frame.specs.Runs.{HasFrame, StandsAt, StandsNone, item_frame, run_bytes}
use Rattle.vl_model.specs.declared.log_frame.LogFrame.{LogFrame}
use Rattle.vl_recover.specs.crash.Alike.{Spells}
use Rattle.vl_seglog.specs.laws.FrameLaws.{length-log_bytes, length-log_header}
use Rattle.vl_seglog.specs.Frames.{frame_at, frames_end, frames_grammar, log_bytes, log_header}
use Rattle.vl_seglog.specs.LogReading.{HasHeader, IsLogFormat}
use Rattle.vl_seglog.specs.laws.LogReadingLaws.{SaysFrames, one_header_format, reads_torn}

-- the frame of an item behind the frames of a log
abbrev pub frame_behind : ℕ → ℕ → List LogFrame → LogFrame → List ℕ
frame_behind format number frames f = frame_at format number (frames_end format frames) f

-- the durable log of some frames, to which one more was handed over, and which took so many bytes of it
abbrev pub torn_log : ℕ → ℕ → List LogFrame → LogFrame → (taken : ℕ) → File
torn_log format number frames f taken = lengthened (frame_behind format number frames f) taken (settled (log_bytes format number frames))

pub one_due : {X : Type 0} (P : X → Type 0) (x : X) → Any P (x ∷ []) → P x
one_due P x (n, y, less, is, holds) =
    let first : n ≡ 0 = omega (arith, less) in
    subst P (sym (subst (λ (k : ℕ). slice_index_or (x ∷ []) k y ≡ y) first is)) holds

-- what is asked of some spellings is asked of fewer
pub handed_by : (file : File) (spells fewer : ℕ → List ℕ → Type 0)
    → ((at : ℕ) (frame : List ℕ) → fewer at frame → spells at frame)
    → HasOnlyHandedOver file spells → HasOnlyHandedOver file fewer
handed_by file spells fewer all only = record {
  first = λ frame here. only.first frame (all (torn_from file) frame here);
  next = λ frame next here behind. only.next frame next (all (torn_from file) frame here)
      (all (torn_from file + length frame) next behind);
}

-- a log that was written begins with its header
pub headed_front : (format number : ℕ) (frames : List LogFrame) (tail : List ℕ)
    → HasHeader format number (log_bytes format number frames ++ tail)
headed_front format number frames tail =
    let run = run_bytes (frames_grammar format) number 16 frames in
    ap (take 16) (append_assoc (log_header format number) run tail)
    ∙ take_at (log_header format number) (run ++ tail) 16 (length-log_header format number)

-- Where a header says a format, the frames are spelled in it.
module _ (format number : ℕ) (bytes : List ℕ) (is_read : IsLogFormat format) (header : HasHeader format number bytes) where
  pub spelled_logged : (at : ℕ) (frame : List ℕ) → SpellsAt (frames_grammar format) number bytes at frame
      → Spells (Log number) bytes at frame
  spelled_logged at frame spelled = (format, is_read, header, spelled)

  pub logged_spelled : (at : ℕ) (frame : List ℕ) → Spells (Log number) bytes at frame
      → SpellsAt (frames_grammar format) number bytes at frame
  logged_spelled at frame (other, is_read_too, header_too, spelled) =
      subst (λ (n : ℕ). SpellsAt (frames_grammar n) number bytes at frame)
      (one_header_format number bytes other format is_read_too is_read header_too header) spelled

module _ (format number : ℕ) (is_read : IsLogFormat format) (frames : List LogFrame) (f : LogFrame)
    (has : HasFrame (frames_grammar format) f) (taken : ℕ) where
  abbrev end : ℕ
  end = frames_end format frames

  abbrev log : List ℕ
  log = log_bytes format number frames

  abbrev whole : List ℕ
  whole = frame_behind format number frames f

  abbrev file : File
  file = torn_log format number frames f taken

  -- the frame of another item at the same place
  abbrev frame_of : LogFrame → List ℕ
  frame_of g = item_frame (frames_grammar format) number end g

  -- bytes may be torn from the frames' end on
  torn_at_end : torn_from file ≡ end
  torn_at_end = omega (arith, length-log_bytes format number frames)

  -- what was handed over for a place is a part of the frame
  handed_part : (place : ℕ) (some : List ℕ) → WasHandedOver file place some
      → take (length some) (drop (place - length log) whole) ≡ some
  handed_part place some handed =
      (one_due (StandsIn place some) (record { place = length log; bytes = whole }) handed).bytes_are

  -- an item whose frame begins that of f is f
  same_item : (at : ℕ) (bytes : List ℕ) (g : LogFrame) (rest : List ℕ)
      → StandsAt (frames_grammar format) number at bytes g rest
      → take (length (frame_of g)) whole ≡ frame_of g → length (frame_of g) ≡ length whole
  same_item at bytes g rest stands front =
      let same : g ≡ f = one_front (frames_grammar format) number end f g has
      (record { lawful = stands.lawful; short = stands.short }) front in
      ap (λ (x : LogFrame). length (frame_of x)) same

  -- ---- what a crash leaves

  -- In what is left a frame at the frames' end is a front of the one that was handed over, and behind it stands none.
  module _ (bytes tail : List ℕ) (parts : bytes ≡ log ++ tail)
      (only : HasOnlyHandedOver file (SpellsAt (frames_grammar format) number bytes)) where
    behind_log : drop end bytes ≡ tail
    behind_log = ap (drop end) parts ∙ drop_at log tail end (length-log_bytes format number frames)

    spelled_here : (g : LogFrame) (rest : List ℕ) → StandsAt (frames_grammar format) number end tail g rest
        → SpellsAt (frames_grammar format) number bytes (torn_from file) (frame_of g)
    spelled_here g rest stands =
        subst (λ (n : ℕ). SpellsAt (frames_grammar format) number bytes n (frame_of g)) (sym torn_at_end)
        (g, rest, subst (λ (b : List ℕ). StandsAt (frames_grammar format) number end b g rest) (sym behind_log) stands, refl)

    is_front : (g : LogFrame) (rest : List ℕ) → StandsAt (frames_grammar format) number end tail g rest
        → take (length (frame_of g)) whole ≡ frame_of g
    is_front g rest stands =
        let some = frame_of g in
        let first : torn_from file - length log ≡ 0 = omega (arith, torn_at_end, length-log_bytes format number frames) in
        subst (λ (n : ℕ). take (length some) (drop n whole) ≡ some) first
        (handed_part (torn_from file) some (only.first some (spelled_here g rest stands)))

    none_behind : (g : LogFrame) (rest : List ℕ) → StandsAt (frames_grammar format) number end tail g rest
        → StandsNone (frames_grammar format) number (end + length (frame_of g)) rest
    none_behind g rest stands h more next =
        let some = frame_of g in
        let after = end + length some in
        let following = item_frame (frames_grammar format) number after h in
        let split : bytes ≡ (log ++ some) ++ rest =
        parts ∙ ap (λ (b : List ℕ). log ++ b) stands.spelled ∙ sym (append_assoc log some rest) in
        let size : length (log ++ some) ≡ after =
        omega (arith, length-append log some, length-log_bytes format number frames) in
        let gone : drop after bytes ≡ rest = ap (drop after) split ∙ drop_at (log ++ some) rest after size in
        let spelled : SpellsAt (frames_grammar format) number bytes (torn_from file + length some) following =
        subst (λ (n : ℕ). SpellsAt (frames_grammar format) number bytes (n + length some) following) (sym torn_at_end)
        (h, more, subst (λ (b : List ℕ). StandsAt (frames_grammar format) number after b h more) (sym gone) next, refl) in
        let handed = handed_part (torn_from file + length some) following
        (only.next some following (spelled_here g rest stands) spelled) in
        let all : length some ≡ length whole = same_item end tail g rest stands (is_front g rest stands) in
        let past : length whole ≤ torn_from file + length some - length log =
        omega (arith, all, torn_at_end, length-log_bytes format number frames) in
        let empty : drop (torn_from file + length some - length log) whole ≡ [] =
        drop_all (torn_from file + length some - length log) whole past in
        let nothing : take (length following) [] ≡ following =
        subst (λ (b : List ℕ). take (length following) b ≡ following) empty handed in
        let none : length following ≡ 0 =
        omega (arith, ap length nothing, length-take {A = ℕ} (length following) []) in
        omega (arith, none, frame_is_some (frames_grammar format) number after h)

  -- Whatever a crash leaves of it says the frames before, or these and the new one.
  pub torn_says : AllByRecursion (HasFrame (frames_grammar format)) frames → (bytes : List ℕ) → Agrees file bytes
      → HasOnlyHandedOver file (Spells (Log number) bytes)
      → SaysFrames format number bytes frames ⊎ SaysFrames format number bytes (frames ++ f ∷ [])
  torn_says have bytes agrees spelled =
      let tail = drop (length log) bytes in
      let durable : take (length log) bytes ≡ log =
      agrees.durable ∙ take_at log (take taken whole) (length log) refl in
      let parts : bytes ≡ log ++ tail =
      sym (take-append-drop (length log) bytes) ∙ ap (λ (b : List ℕ). b ++ tail) durable in
      let only = handed_by file (Spells (Log number) bytes) (SpellsAt (frames_grammar format) number bytes)
      (λ at frame. spelled_logged format number bytes is_read
      (subst (HasHeader format number) (sym parts) (headed_front format number frames tail)) at frame) spelled in
      subst (λ (b : List ℕ). SaysFrames format number b frames ⊎ SaysFrames format number b (frames ++ f ∷ [])) (sym parts)
      (reads_torn format number is_read frames have f has tail (λ g rest stands.
      (is_front bytes tail parts only g rest stands, none_behind bytes tail parts only g rest stands)))

  -- ---- what reads give

  abbrev bytes : List ℕ
  bytes = log ++ take taken whole

  behind_read : drop end bytes ≡ take taken whole
  behind_read = drop_at log (take taken whole) end (length-log_bytes format number frames)

  -- a frame that reads give there is a front of the one that was handed over
  read_front : (g : LogFrame) (rest : List ℕ) → StandsAt (frames_grammar format) number end (drop end bytes) g rest
      → take (length (frame_of g)) whole ≡ frame_of g
  read_front g rest stands =
      let some = frame_of g in
      let parts : take taken whole ≡ some ++ rest = sym behind_read ∙ stands.spelled in
      let within : length some ≤ taken =
      omega (arith, ap length parts, length-append some rest, length-take taken whole) in
      sym (take-take (length some) taken whole within) ∙ ap (take (length some)) parts
      ∙ take_at some rest (length some) refl

  read_first : (some : List ℕ) → SpellsAt (frames_grammar format) number bytes end some → WasHandedOver file end some
  read_first some (g, rest, stands, is) =
      let first : end - length log ≡ 0 = omega (arith, length-log_bytes format number frames) in
      let part : take (length some) (drop (end - length log) whole) ≡ some =
      subst (λ (n : ℕ). take (length some) (drop n whole) ≡ some) (sym first)
      (subst (λ (b : List ℕ). take (length b) whole ≡ b) (sym is) (read_front g rest stands)) in
      let stands_in : StandsIn end some (record { place = length log; bytes = whole }) =
      record { from = omega (arith, length-log_bytes format number frames); bytes_are = part } in
      (0, record { place = length log; bytes = whole }, omega arith, refl, stands_in)

  read_next : (some next : List ℕ) → SpellsAt (frames_grammar format) number bytes end some
      → SpellsAt (frames_grammar format) number bytes (end + length some) next → ⊥
  read_next some next (g, rest, stands, is) (h, more, behind, is_next) =
      let all : length (frame_of g) ≡ length whole =
      same_item end (drop end bytes) g rest stands (read_front g rest stands) in
      let same : length some ≡ length (frame_of g) = ap length is in
      let size : length bytes ≡ end + length (take taken whole) =
      omega (arith, length-append log (take taken whole), length-log_bytes format number frames) in
      let past : length bytes ≤ end + length some =
      omega (arith, all, same, size, length-take taken whole) in
      none_at_end (frames_grammar format) number (end + length some) h more
      (subst (λ (b : List ℕ). StandsAt (frames_grammar format) number (end + length some) b h more)
      (drop_all (end + length some) bytes past) behind)

  due_in_format : HasOnlyHandedOver file (SpellsAt (frames_grammar format) number file.bytes)
  due_in_format = record {
    first = λ some spelled. subst (λ (n : ℕ). WasHandedOver file n some) (sym torn_at_end)
        (read_first some (subst (λ (n : ℕ). SpellsAt (frames_grammar format) number bytes n some) torn_at_end spelled));
    next = λ some next spelled behind. absurd (read_next some next
        (subst (λ (n : ℕ). SpellsAt (frames_grammar format) number bytes n some) torn_at_end spelled)
        (subst (λ (n : ℕ). SpellsAt (frames_grammar format) number bytes (n + length some) next) torn_at_end behind));
  }

  -- Reads give no frame behind the log that wasn't handed over.
  pub due_as_read : HasOnlyHandedOver file (Spells (Log number) file.bytes)
  due_as_read = handed_by file (SpellsAt (frames_grammar format) number file.bytes) (Spells (Log number) file.bytes)
      (λ at frame. logged_spelled format number file.bytes is_read (headed_front format number frames (take taken whole)) at frame)
      due_in_format
