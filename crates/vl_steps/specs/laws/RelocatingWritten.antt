-- What writing records again leaves, from what its calls do.
use Rattle.std.specs.Prelude.{◌≡◌, ℕ, ◌+◌, ◌-◌, ◌^◌, ◌++◌, min, List, length, Option, None}
use Rattle.std.specs.Prelude.{Some, Ok, All, Bool, false, ◌==◌, ◌≤◌, ◌<◌, zero, suc, refl}
use Rattle.std.specs.Option.{ForSome}
use Rattle.std.proofs.Common.{ap, arith, subst, sym, ◌∙◌}
use Rattle.std.proofs.lemmas.Bool.Decides.{nat_tests}
use Rattle.vl_engine_laws.specs.Fit.{IsFitFor}
use Rattle.vl_engine_laws.specs.MoveFacts.{HandsMove, move_frame, move_length, move_log}
use Rattle.vl_engine_laws.specs.Writing.{StopsWriting, WhileWriting, written}
use Rattle.vl_engine_laws.specs.declared.kept.Core.{Core}
use Rattle.vl_disk.specs.Calls.{ChangesNothing}
use Rattle.vl_disk.specs.Disk.{IsChangedBy}
use Rattle.vl_disk.specs.DiskState.{DiskState}
use Rattle.vl_disk.specs.Moments.{Elapses}
use Rattle.vl_disk.specs.declared.name.Name.TheVariants.{Log}
use Rattle.vl_disk.specs.declared.name.Name.{Name}
use Rattle.vl_disk.specs.declared.watched.Watched.{Ghosts}
use Rattle.vl_steps.specs.laws.Fitting.{fit_written}
use Rattle.vl_steps.specs.laws.Lending.{still_lent}
use Rattle.vl_engine_laws.specs.Lent.{AreLent, IsLent, LeavesLent}
use Rattle.vl_steps.specs.Relocating.{At, HasFound, HasRelocated, NotesMoves, RelocatesAs, WritesMove}
use Rattle.vl_engine_laws.specs.declared.open.OpenMerge.{OpenMerge}
use Rattle.vl_front.specs.declared.front.Front.{Front}
use Rattle.vl_engine_model.specs.Relocation.{Candidate}
use Rattle.vl_model.specs.Conflicts.{Named}
use Rattle.vl_model.specs.Formats.{log_format}
use Rattle.vl_model.specs.Limits.{max_epoch}
use Rattle.vl_model.specs.declared.log_frame.LogFrame.TheVariants.{Relocated}
use Rattle.vl_model.specs.declared.log_frame.Moved.{Moved}
use Rattle.vl_seglog.specs.Staging.{IsStaged}
use Rattle.vl_seglog.specs.declared.active.ActiveLog.{ActiveLog}
use Rattle.vl_seglog.specs.declared.staged.Staged.{Staged}
use Rattle.vl_seglog.specs.laws.FrameLaws.{length-item_frame}

-- ---- the disk

module _ {D : Type 0} (g : Ghosts D) (front : Front) (moved : List Moved) (staged : Staged)
    (is : IsStaged front.log.number front.log.length (Relocated moved) staged) where
  -- a relocation's frame was handed over
  abbrev pub move_handed : (old mid new : D) → ChangesNothing g old mid ⊥
      → Elapses g mid new (WhileWriting (Log front.log.number) staged.frame.items)
      → ((state : DiskState) → g.told mid ≡ Some state → (now : DiskState) × (g.told new ≡ Some now))
      → HandsMove g front moved old new
  move_handed old mid new before time tells = record {
    mid = mid;
    before = before;
    has = is.has;
    time = subst (λ (bs : List ℕ). Elapses g mid new (WhileWriting (move_log front) bs)) is.frame time;
    tells = tells;
  }

  pub move_changed : (mid new : D) → IsChangedBy (written (Log front.log.number) staged.frame.items) (g.told mid) (g.told new)
      → IsChangedBy (written (move_log front) (move_frame front moved)) (g.told mid) (g.told new)
  move_changed mid new changed =
      subst (λ (bs : List ℕ). IsChangedBy (written (move_log front) bs) (g.told mid) (g.told new)) is.frame changed

  pub move_stopped : (mid new : D) → StopsWriting g (Log front.log.number) staged.frame.items mid new
      → StopsWriting g (move_log front) (move_frame front moved) mid new
  move_stopped mid new stops = subst (λ (bs : List ℕ). StopsWriting g (move_log front) bs mid new) is.frame stops

  -- the log is longer by the frame
  pub move_longer : (log : ActiveLog) → log.number ≡ front.log.number
      → log.length ≡ min (front.log.length + length staged.frame.items) (2 ^ 64 - 1)
      → log ≡ record { number = front.log.number; length = front.log.length + move_length moved }
  move_longer log number grows =
      ap (λ (n : ℕ). record { number = n; length = log.length }) number
      ∙ ap (λ (n : ℕ). record { number = front.log.number; length = n }) longer
    where
      longer : log.length ≡ front.log.length + move_length moved
      longer =
          let long : length staged.frame.items ≡ move_length moved =
          ap length is.frame ∙ length-item_frame log_format front.log.number front.log.length (Relocated moved) in
          let fits = is.fits in
          omega (arith, grows, long, fits)

-- ---- memory

-- the same is noted by whichever name
pub notes_then : (old new : Option OpenMerge) (notes others : List Named) → ForSome old (λ (o : OpenMerge). notes ≡ others)
    → NotesMoves old new notes → NotesMoves old new others
notes_then None None notes others same did = tt
notes_then None (Some next) notes others same did = absurd did
notes_then (Some merge) None notes others same did = absurd did
notes_then (Some merge) (Some next) notes others same did =
    (did.0, did.1 ∙ ap (λ (ns : List Named). ns ++ merge.moved.items) (same merge refl))

-- What the next calls ask of the disk is so behind the frame, under another epoch.
pub fit_moved : {H : Type 0} (before after : Core H) (number : ℕ) → after.front.log.number ≡ before.front.log.number
    → after.front.halted ≡ before.front.halted → after.back ≡ record before.back { epoch = number }
    → (name : Name) (frame : List ℕ) (old new : Option DiskState) → ForSome old (IsFitFor before)
    → IsChangedBy (written name frame) old new → ForSome new (IsFitFor after)
fit_moved {H} before after number log halted back name frame old new fit changed =
    fit_written numbered after log halted back name frame old new
    (λ state is. let was = fit state is in record {
      log = was.log;
      steps = λ running. let steps = was.steps running in
          record { manifest = steps.manifest; logs = steps.logs; tables = steps.tables };
    }) changed
  where
    numbered : Core H
    numbered = record before { back = record before.back { epoch = number } }

-- The files that are lent to the open merge can still be taken back, whatever is noted for it.
pub lent_moved : {D : Type 0} (g : Ghosts D) (old new : D) (next : ℕ) (merging now : Option OpenMerge) (notes : List Named)
    → LeavesLent g next old new → NotesMoves merging now notes → AreLent g old next merging → AreLent g new next now
lent_moved g old new next None None notes leaves did lent = still_lent g old new next next None (omega arith) leaves lent
lent_moved g old new next None (Some after) notes leaves did lent = absurd did
lent_moved g old new next (Some merge) None notes leaves did lent = absurd did
lent_moved g old new next (Some merge) (Some after) notes leaves did lent = λ o is.
    subst (λ v. All (IsLent g new next) v.items) (sym did.0 ∙ ap (λ (m : OpenMerge). m.lent) (the_same after o is))
    (still_lent g old new next next (Some merge) (omega arith) leaves lent merge refl)
  where
    the_same : (a b : OpenMerge) → Some a ≡ Some b → a ≡ b
    the_same a b same = cc

-- so it answers where some were moved
pub relocated_some : {D H R : Type 0} (g : Ghosts D) (bytes : H → Option (List ℕ)) (faults_of : R → ℕ) (old new : At D H R)
    (segment : ℕ) (batch : List Candidate) (count : ℕ) → 1 ≤ count → HasRelocated g bytes faults_of old new segment batch count
    → RelocatesAs g bytes faults_of old new segment batch (Ok count)
relocated_some g bytes faults_of old new segment batch zero some did = absurd (omega (arith, some))
relocated_some g bytes faults_of old new segment batch (suc n) some did = did

-- whatever names the core had then, and the records
pub relocated_by : {D H R : Type 0} (g : Ghosts D) (bytes : H → Option (List ℕ)) (faults_of : R → ℕ) (old new : At D H R)
    (segment : ℕ) (batch : List Candidate) (core : Core H) → core ≡ old.core → (moved given : List Moved) → given ≡ moved
    → (count : ℕ) → HasFound g bytes faults_of old new segment batch moved → 1 ≤ length moved
    → core.back.epoch < max_epoch → core.front.log.length + move_length moved ≤ core.front.room
    → WritesMove g old.disk new.disk core new.core old.merging new.merging given (Ok count)
    → RelocatesAs g bytes faults_of old new segment batch (Ok count)
relocated_by {D} {H} g bytes faults_of old new segment batch core same moved given is count found some left room wrote =
    relocated_some g bytes faults_of old new segment batch count (omega (arith, some, many)) (record {
      moved = moved;
      hands = record {
        has = record {
          found = found;
          some = some;
          left = subst (λ (c : Core H). c.back.epoch < max_epoch) same left;
        };
        room = subst (λ (c : Core H). c.front.log.length + move_length moved ≤ c.front.room) same room;
      };
      count_is = many;
      moves = now.1;
      notes = now.2;
    })
  where
    now : WritesMove g old.disk new.disk old.core new.core old.merging new.merging moved (Ok count)
    now = subst (λ (c : Core H). WritesMove g old.disk new.disk c new.core old.merging new.merging moved (Ok count)) same
        (subst (λ (ms : List Moved). WritesMove g old.disk new.disk core new.core old.merging new.merging ms (Ok count)) is wrote)

    many : count ≡ length moved
    many = now.0

-- what has no name has none
pub no_name : {A : Type 0} (o : Option A) → ((x : A) → o ≡ Some x → ⊥) → o ≡ None
no_name None none = refl
no_name (Some x) none = absurd (none x refl)

-- what isn't empty has some
pub some_left : (empty : Bool) (n count : ℕ) → empty ≡ (n == 0) → empty ≡ false → count ≡ n → 1 ≤ count
some_left empty n count is some same =
    let test : (n == 0) ≡ false = sym is ∙ some in
    grind (arith, nat_tests, test, same)
