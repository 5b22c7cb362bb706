-- The ruling on a rotation, test by test.
use Rattle.std.specs.Prelude.{◌≡◌, ◌≤◌, ◌<◌, ℕ, Bool, true, false, if◌then◌else◌, List, [], ◌∷◌, Option, None, Some, refl}
use Rattle.std.proofs.Common.{sym, ap, ◌∙◌, arith}
use Rattle.std.proofs.lemmas.Bool.Decides.{nat_tests}
use Rattle.std.proofs.lemmas.List.Sums.{sum_by-cons}
use Rattle.vl_engine_model.specs.Logs.{log_length}
use Rattle.vl_engine_model.specs.Ruling.{Exhausted, Halted, Idle, Ruling, StepAnswer, Stepped, has_no_number, has_no_epoch, leaving}
use Rattle.vl_engine_model.specs.Rulings.Rotate.{rotate_of, rotate_ruling, rotate_unless, rotated}
use Rattle.vl_engine_model.specs.Start.{has_frames, is_any}
use Rattle.vl_engine_model.specs.Tidy.{IsTrueLog}
use Rattle.vl_engine_model.specs.declared.file_name.FileName.{FileName}
use Rattle.vl_engine_model.specs.declared.layout.Layout.{Layout}
use Rattle.vl_model.specs.Frames.{frame_length}
use Rattle.vl_model.specs.History.{History}
use Rattle.vl_model.specs.Limits.{max_file_number, max_epoch}
use Rattle.vl_model.specs.declared.counter.Counter.TheVariants as counter
use Rattle.vl_model.specs.declared.log_frame.LogFrame.TheVariants.{Committed, Relocated}
use Rattle.vl_model.specs.declared.log_frame.LogFrame.{LogFrame}

-- the ruling by which a new log is begun
abbrev pub rotate_made : Layout → History → Ruling StepAnswer
rotate_made l h =
    record { answer = Stepped l.active.number; history = h; layout = rotated l; calls = 3; gone = [] }

-- ---- a log without frames has its header alone

frame_some : (format : ℕ) (f : LogFrame) → 1 ≤ frame_length format f
frame_some format (Committed number writes) = omega arith
frame_some format (Relocated records) = omega arith

none_short : (format : ℕ) (fs : List LogFrame) → log_length format fs ≤ 16 → fs ≡ []
none_short format [] short = refl
none_short format (f ∷ fs) short =
    absurd (omega (arith, short, sum_by-cons (frame_length format) f fs, frame_some format f))

-- the frames of a longer one
pub record HasSome (frames : List LogFrame) : Type 0 where
  pub first : LogFrame
  pub others : List LogFrame
  pub are : frames ≡ first ∷ others

some_long : (format : ℕ) (fs : List LogFrame) → 16 < log_length format fs → HasSome fs
some_long format [] long = absurd (omega (arith, long))
some_long format (f ∷ fs) long = record { first = f; others = fs; are = refl }

pub halted_ruled : (l : Layout) (h : History) (name : FileName) → l.halted ≡ Some name
    → leaving (Halted name) h l ≡ rotate_ruling l h
halted_ruled l h name halted = sym (ap (λ (o : Option FileName). rotate_unless o l h) halted)

module _ (l : Layout) (h : History) (true_log : IsTrueLog l.active) (running : l.halted ≡ None) where
  of_frames : rotate_of l.active.frames l h ≡ rotate_ruling l h
  of_frames = sym (ap (λ (o : Option FileName). rotate_unless o l h) running)

  pub idle_ruled : l.active.length ≤ 16 → leaving Idle h l ≡ rotate_ruling l h
  idle_ruled short =
      sym (ap (λ (fs : List LogFrame). rotate_of fs l h)
      (none_short l.active.format l.active.frames (omega (arith, true_log, short)))) ∙ of_frames

  module _ (long : 16 < l.active.length) where
    some : HasSome l.active.frames
    some = some_long l.active.format l.active.frames (omega (arith, true_log, long))

    -- it has frames
    pub is_filled : has_frames l.active ≡ true
    is_filled = ap (λ (fs : List LogFrame). is_any fs) some.are

    -- by whether a number is left, and whether a version's is
    abbrev by_numbers : (used_log used_version : Bool) → Ruling StepAnswer
    by_numbers used_log used_version =
        if used_log then leaving (Exhausted counter.Log) h l
        else (if used_version then leaving (Exhausted counter.Version) h l else rotate_made l h)

    ruled_by : by_numbers (has_no_number l.next_log 1) (has_no_epoch l) ≡ rotate_ruling l h
    ruled_by = sym (ap (λ (fs : List LogFrame). rotate_of fs l h) some.are) ∙ of_frames

    pub log_used_up : max_file_number < l.next_log → leaving (Exhausted counter.Log) h l ≡ rotate_ruling l h
    log_used_up past =
        let used : has_no_number l.next_log 1 ≡ true = grind (arith, nat_tests, past) in
        sym (ap (λ (b : Bool). by_numbers b (has_no_epoch l)) used) ∙ ruled_by

    module _ (left : l.next_log ≤ max_file_number) where
      is_left : has_no_number l.next_log 1 ≡ false
      is_left = grind (arith, nat_tests, left)

      pub version_used_up : max_epoch ≤ l.epoch
          → leaving (Exhausted counter.Version) h l ≡ rotate_ruling l h
      version_used_up past =
          let used : has_no_epoch l ≡ true = grind (arith, nat_tests, past) in
          sym (ap (λ (b : Bool). by_numbers b (has_no_epoch l)) is_left ∙ ap (by_numbers false) used) ∙ ruled_by

      -- Nothing stands against it.
      pub made_ruled : l.epoch < max_epoch → rotate_made l h ≡ rotate_ruling l h
      made_ruled below =
          let version_left : has_no_epoch l ≡ false = grind (arith, nat_tests, below) in
          sym (ap (λ (b : Bool). by_numbers b (has_no_epoch l)) is_left ∙ ap (by_numbers false) version_left) ∙ ruled_by
