-- The ruling on a relocation, by what it finds: it is refused, nothing is left to move, or records are moved. And what else rulings
-- on passes leave.
use Rattle.std.specs.Prelude.{◌≡◌, ◌≤◌, ◌<◌, ℕ, ◌+◌, nat_le, if◌then◌else◌, Bool, true, false, List, [], ◌∷◌, length}
use Rattle.std.specs.Prelude.{Option, None, Some, refl}
use Rattle.std.specs.List.{AllByRecursion}
use Rattle.std.specs.Option.{option_map}
use Rattle.std.proofs.Common.{sym, ap, subst, ◌∙◌, arith}
use Rattle.std.proofs.lemmas.Bool.Decides.{nat_tests}
use Rattle.vl_engine_laws.specs.MoveFacts.{CanMove, move_length}
use Rattle.vl_engine_laws.specs.Pointed.{layout_logs}
use Rattle.vl_engine_laws.specs.Represents.{Fronts, file_of}
use Rattle.vl_engine_laws.specs.declared.kept.Core.{Core}
use Rattle.vl_disk.specs.declared.name.Name.{Name}
use Rattle.vl_engine_model.specs.Relocation.{Candidate, Pass, moved_of}
use Rattle.vl_engine_model.specs.Ruling.{Ruling, has_no_epoch, leaving}
use Rattle.vl_engine_model.specs.Rulings.Relocate as answers
use Rattle.vl_engine_model.specs.Rulings.Relocate.{MoveAnswer, Moves, relocate_of, relocate_ruling, relocate_unless, relocated}
use Rattle.vl_engine_model.specs.Shown.{IsThere}
use Rattle.vl_engine_model.specs.Sources.{sources}
use Rattle.vl_engine_model.specs.Tidy.{IsRuledTidy, IsTidy}
use Rattle.vl_engine_model.specs.declared.file_name.FileName.{FileName}
use Rattle.vl_engine_model.specs.declared.layout.Layout.{Layout}
use Rattle.vl_engine_model_laws.specs.laws.TidyRulings.{relocate_tidy}
use Rattle.vl_model.specs.Frames.{frame_length}
use Rattle.vl_model.specs.History.{History, last_number}
use Rattle.vl_model.specs.Limits.{max_epoch}
use Rattle.vl_model.specs.declared.counter.Counter.TheVariants as counters
use Rattle.vl_model.specs.declared.log_frame.LogFrame.TheVariants.{Relocated}
use Rattle.vl_model.specs.declared.log_frame.Moved.{Moved}

-- the ruling where these records are moved
abbrev pub moving : Layout → History → List Moved → Ruling MoveAnswer
moving l h moved =
    record { answer = Moves (length moved); history = h; layout = relocated l moved; calls = 2; gone = [] }

-- Nothing stands against moving these records, which are all of the batch that are to be moved.
pub record IsMoving (l : Layout) (h : History) (pass : Pass) (batch : List Candidate) (moved : List Moved) : Type 0 where
  pub running : l.halted ≡ None
  pub are : moved_of (sources l) pass.segment (last_number h) batch ≡ moved
  pub ruling : moving l h moved ≡ relocate_ruling l h pass batch

module _ (l : Layout) (h : History) (pass : Pass) (batch : List Candidate) where
  abbrev found : List Moved
  found = moved_of (sources l) pass.segment (last_number h) batch

  -- ---- test by test

  -- by whether the frame of these fits,
  by_fit : List Moved → Bool → Ruling MoveAnswer
  by_fit moved fits =
      if fits then moving l h moved
      else leaving (answers.Full l.active.length (frame_length l.active.format (Relocated moved))) h l

  -- and whether no epoch is left
  by_left : List Moved → Bool → Bool → Ruling MoveAnswer
  by_left moved used fits = if used then leaving (answers.Exhausted counters.Version) h l else by_fit moved fits

  some_ruled : (moved : List Moved) → 1 ≤ length moved → relocate_of l h moved ≡ by_left moved (has_no_epoch l)
      (nat_le (l.active.length + frame_length l.active.format (Relocated moved)) l.room)
  unfolding by_left by_fit
  some_ruled [] some = absurd (omega arith)
  some_ruled (m ∷ ms) some = refl

  running_ruled : l.halted ≡ None → (moved : List Moved) → found ≡ moved → relocate_of l h moved ≡ relocate_ruling l h pass batch
  running_ruled running moved are =
      ap (relocate_of l h) (sym are) ∙ ap (λ (o : Option FileName). relocate_unless o l h pass batch) (sym running)

  -- ---- exit by exit

  -- It is halted,
  pub halted_ruled : (name : FileName) → l.halted ≡ Some name → leaving (answers.Halted name) h l ≡ relocate_ruling l h pass batch
  halted_ruled name is = ap (λ (o : Option FileName). relocate_unless o l h pass batch) (sym is)

  -- nothing is left to move,
  pub none_ruled : l.halted ≡ None → found ≡ [] → leaving (Moves 0) h l ≡ relocate_ruling l h pass batch
  none_ruled running are = running_ruled running [] are

  module _ (moved : List Moved) (running : l.halted ≡ None) (are : found ≡ moved) (some : 1 ≤ length moved) where
    as_ruled : (used fits : Bool) → has_no_epoch l ≡ used
        → nat_le (l.active.length + frame_length l.active.format (Relocated moved)) l.room ≡ fits
        → by_left moved used fits ≡ relocate_ruling l h pass batch
    as_ruled used fits used_is fits_is =
        ap (λ (b : Bool). by_left moved b fits) (sym used_is)
        ∙ ap (by_left moved (has_no_epoch l)) (sym fits_is)
        ∙ sym (some_ruled moved some) ∙ running_ruled running moved are

    -- no epoch is left,
    pub used_ruled : max_epoch ≤ l.epoch
        → leaving (answers.Exhausted counters.Version) h l ≡ relocate_ruling l h pass batch
    unfolding by_left by_fit
    used_ruled most =
        let used : has_no_epoch l ≡ true = grind (arith, nat_tests, most) in
        as_ruled true (nat_le (l.active.length + frame_length l.active.format (Relocated moved)) l.room) used refl

    -- the frame doesn't fit,
    pub full_ruled : l.epoch < max_epoch
        → l.room < l.active.length + frame_length l.active.format (Relocated moved)
        → leaving (answers.Full l.active.length (frame_length l.active.format (Relocated moved))) h l
        ≡ relocate_ruling l h pass batch
    unfolding by_left by_fit
    full_ruled left long =
        let unused : has_no_epoch l ≡ false = grind (arith, nat_tests, left) in
        let fits : nat_le (l.active.length + frame_length l.active.format (Relocated moved)) l.room ≡ false =
        grind (arith, nat_tests, long) in
        as_ruled false false unused fits

    -- or they are moved.
    pub moved_ruled : l.epoch < max_epoch
        → l.active.length + frame_length l.active.format (Relocated moved) ≤ l.room
        → IsMoving l h pass batch moved
    unfolding by_left by_fit
    moved_ruled left short =
        let unused : has_no_epoch l ≡ false = grind (arith, nat_tests, left) in
        let fits : nat_le (l.active.length + frame_length l.active.format (Relocated moved)) l.room ≡ true =
        grind (arith, nat_tests, short) in
        record { running = running; are = are; ruling = as_ruled false true unused fits }

  -- ---- by what an engine has

  module _ {H : Type 0} (core : Core H) (fronts : Fronts core h l) where
    halted_so : (o : Option Name) → core.front.halted ≡ o → option_map file_of o ≡ l.halted
    halted_so o is = ap (option_map file_of) (sym is) ∙ fronts.halted

    pub runs : core.front.halted ≡ None → l.halted ≡ None
    runs none = sym (halted_so None none)

    frame_is : (moved : List Moved) → move_length moved ≡ frame_length l.active.format (Relocated moved)
    frame_is moved = ap (λ (n : ℕ). frame_length n (Relocated moved)) (sym fronts.format)

    -- What it may move is moved.
    pub can_move : (moved : List Moved) → found ≡ moved → CanMove core moved → IsMoving l h pass batch moved
    can_move moved are can =
        let version = fronts.version in
        let long = fronts.length_is in
        let room = fronts.room in
        let size = frame_is moved in
        let left = can.left in
        let fits = can.fits in
        moved_ruled moved (runs can.running) are can.some (omega (arith, version, left)) (omega (arith, long, room, size, fits))

    pub used_up : (moved : List Moved) → found ≡ moved → core.front.halted ≡ None → 1 ≤ length moved
        → max_epoch ≤ core.back.epoch
        → leaving (answers.Exhausted counters.Version) h l ≡ relocate_ruling l h pass batch
    used_up moved are running some most =
        let version = fronts.version in
        used_ruled moved (runs running) are some (omega (arith, version, most))

    pub is_full : (moved : List Moved) → found ≡ moved → core.front.halted ≡ None → 1 ≤ length moved
        → core.back.epoch < max_epoch
        → core.front.room < core.front.log.length + move_length moved
        → leaving (answers.Full core.front.log.length (move_length moved)) h l ≡ relocate_ruling l h pass batch
    is_full moved are running some left long =
        let version = fronts.version in
        let length_is = fronts.length_is in
        let room = fronts.room in
        let size = frame_is moved in
        ap (λ (n : ℕ). leaving (answers.Full n (move_length moved)) h l) fronts.length_is
        ∙ ap (λ (n : ℕ). leaving (answers.Full l.active.length n) h l) (frame_is moved)
        ∙ full_ruled moved (runs running) are some (omega (arith, version, left)) (omega (arith, length_is, room, size, long))

  -- ---- what it leaves

  -- the history
  history_of : (moved : List Moved) → (relocate_of l h moved).history ≡ h
  history_of [] = refl
  history_of (m ∷ ms) =
      by (has_no_epoch l) (nat_le (l.active.length + frame_length l.active.format (Relocated (m ∷ ms))) l.room)
    where
      by : (used fits : Bool) → (if used then leaving (answers.Exhausted counters.Version) h l
          else (if fits then moving l h (m ∷ ms)
          else leaving (answers.Full l.active.length (frame_length l.active.format (Relocated (m ∷ ms)))) h l)).history ≡ h
      by true fits = refl
      by false true = refl
      by false false = refl

  pub history_is : (relocate_ruling l h pass batch).history ≡ h
  history_is = by l.halted
    where
      by : (o : Option FileName) → (relocate_unless o l h pass batch).history ≡ h
      by (Some name) = refl
      by None = history_of (moved_of (sources l) pass.segment (last_number h) batch)

  pub tidy_moving : (tidy : IsTidy (layout_logs l) l h) (moved : List Moved) → IsMoving l h pass batch moved
      → AllByRecursion (IsThere (layout_logs l) pass.segment) batch → IsTidy (layout_logs l) (relocated l moved) h
  tidy_moving tidy moved is there =
      subst (λ (r : Ruling MoveAnswer). IsRuledTidy (layout_logs l) r) (sym is.ruling)
      (relocate_tidy (layout_logs l) l h tidy pass batch there)
