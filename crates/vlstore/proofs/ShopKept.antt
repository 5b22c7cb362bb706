-- What a closed store leaves on its disk, and what a store begins with that is opened there again.
use Rattle.std.specs.Prelude.{◌≡◌, ◌+◌, ℕ, Bool, false, List, [], ◌∷◌, map, Option, None, Some, Ok, Err, refl, true, is_some}
use Rattle.std.specs.FinMap.{entries, entries-from_sorted, entries_sorted, from_sorted, same_entries_map}
use Rattle.std.specs.Option.{ForSome}
use Rattle.std.proofs.Common.{sym, ap, subst, ◌∙◌, arith}
use Rattle.std.proofs.lemmas.Bool.{false≢true}
use Rattle.vl_disk.specs.Crash.{Image, MayLeave}
use Rattle.vl_disk.specs.DiskState.{DiskState}
use Rattle.vl_disk.specs.Faults.{HasCause, HasCounted, NoneCounted}
use Rattle.vl_disk.specs.Started.{IsRead, Started, read_left, started_left}
use Rattle.vl_disk.specs.declared.watched.Watched.{Ghosts}
use Rattle.vl_disk.specs.laws.Counting as counting
use Rattle.vl_engine.specs.Opening.{IsAsBefore, IsDiskFault, IsFault}
use Rattle.vl_engine_laws.specs.Carries.{CrashesShow}
use Rattle.vl_engine_laws.specs.Found.{IsDurable, recovered}
use Rattle.vl_engine_laws.specs.Reopened.{past_up_to, reopened}
use Rattle.vl_engine_laws.specs.Represents.{Represents}
use Rattle.vl_engine_laws.specs.Shown.{Shown}
use Rattle.vl_engine_laws.specs.declared.kept.Core.{Core}
use Rattle.vl_engine_laws.specs.laws.HeldLaws.{has_stays, held_opens_again, held_shown}
use Rattle.vl_engine_laws.specs.laws.ReopenedShown.{shown_reopened}
use Rattle.vl_engine_model.specs.Start.{layout_at_start}
use Rattle.vl_engine_model.specs.declared.layout.Layout.{Layout}
use Rattle.vl_engine_model.specs.laws.LockHistoryLaws.{none≢some}
use Rattle.vl_model.specs.History.{History, Past, last_number}
use Rattle.vl_model.specs.Keys.{Writes}
use Rattle.vl_model.specs.declared.change.Change.{Change}
use Rattle.vl_recover.specs.crash.Starts.{MayOpen}
use Rattle.vl_recover.specs.declared.fails.OpenError.{OpenError}
use Rattle.vl_recover.specs.declared.fails.OpenError.TheVariants as why
use Rattle.vl_recover.specs.declared.fails.OpenFail.{OpenFail}
use Rattle.vl_recover.specs.laws.opening.HeldLaws.{started_may_open}
use Rattle.vl_recover.specs.laws.opening.OpeningLaws.{single_opening}
use Rattle.vl_recover.specs.laws.opening.ReadImage.{read_image}
use Rattle.vl_recover.specs.laws.repairing.StageLaws.{ok_err, ok_same}
use Rattle.vl_recover.specs.opening.Answers.{AnswersBy, Finds}
use Rattle.vl_recover.specs.opening.Opening.{Damaged, IsAmong, NewerFormat, NotAStore, Opening, Opens, Refusal, led_into}
use Rattle.vl_recover.specs.opening.Results.{counted, recovery_by}
use Rattle.vlstore.specs.Lists.{history_by, new_origin, past_of}
use Rattle.vlstore.specs.Opening.{IsRefusal, IsRefusedOpening}
use Rattle.vlstore.specs.Reopening.{BeginsAgain, GoesOnFrom, IsOnlyWantOfOpening, Keeps, KeepsStore}
use Rattle.vlstore.specs.Shops.{origin_of}
use Rattle.vlstore.specs.Standing.{IsWhole, Parts}
use Rattle.vlstore.specs.declared.locked.Origin.{Origin}
use Rattle.vlstore.proofs.First.{no_steps}

pub some_same : (a b : DiskState) → Some a ≡ Some b → a ≡ b
some_same a b e = cc

-- ---- on the disk

-- An engine that wasn't halted leaves the history on its disk.
pub engine_keeps : {H : Type 0} (bytes : H → Option (List ℕ)) (core : Core H) (told : Option DiskState) (h : History) (l : Layout)
    → Represents bytes core told h l → l.halted ≡ None → ForSome told (Keeps h)
engine_keeps bytes core told h l is running disk told_is =
    let held = is.held running in
    let tidy = is.stands.tidy in
    subst (Keeps h) (some_same held.state disk (sym held.told_is ∙ told_is)) (record {
      shows = held_shown held.base l h held.is_base tidy held.state held.holds;
      may_open = held_opens_again held.base l h held.is_base held.state tidy.levels held.holds;
    })

-- What a crash leaves of it keeps the history too.
pub crash_keeps : (h : History) (disk : DiskState) (image : Image) (new : DiskState) → Keeps h disk → MayLeave disk image
    → Started image new → Keeps h new
crash_keeps h disk image new keeps may started = record {
  shows = λ left leaves.
      subst (λ (i : Image). Shown i h (last_number h)) (sym (started_left image new started left leaves)) shown;
  may_open = started_may_open image new started (λ o opens n bytes reading among.
      has_stays image shown.sealed n
      (shown.led n (subst (λ (x : Opening). IsAmong (led_into x.levels) n)
      (sym (ok_same {E = Refusal} shown.opening o (single_opening image (Ok shown.opening) (Ok o) shown.opens opens))) among))
      bytes reading);
}
  where
    shown : Shown image h (last_number h)
    shown = keeps.shows image may

-- ---- before the first step

-- the versions that are known, as an origin has them
abbrev pub base_of : Past → List (ℕ × List (List ℕ × Change))
base_of past = map (λ (c : ℕ × Writes). (c.0, entries c.1)) (entries past)

sorted_again : (writes : Writes) → from_sorted (entries writes) ≡ writes
sorted_again writes = same_entries_map (from_sorted (entries writes)) writes
    (entries-from_sorted _ (entries writes) (entries_sorted writes))

all_again : (es : List (ℕ × Writes))
    → map (λ (c : ℕ × List (List ℕ × Change)). (c.0, from_sorted c.1)) (map (λ (c : ℕ × Writes). (c.0, entries c.1)) es) ≡ es
all_again [] = refl
all_again (e ∷ es) =
    ap (λ (writes : Writes). (e.0, writes) ∷ map (λ (c : ℕ × List (List ℕ × Change)). (c.0, from_sorted c.1))
    (map (λ (c : ℕ × Writes). (c.0, entries c.1)) es)) (sorted_again e.1)
    ∙ ap (λ (rest : List (ℕ × Writes)). e ∷ rest) (all_again es)

past_again : (past : Past) → past_of (base_of past) ≡ past
past_again past =
    ap (λ (es : List (ℕ × Writes)). from_sorted es) (all_again (entries past))
    ∙ same_entries_map (from_sorted (entries past)) past (entries-from_sorted _ (entries past) (entries_sorted past))

-- what a store was before its first step that goes on with this history, and has this layout then
abbrev pub origin_again : History → Layout → Origin
origin_again h l = record { base = base_of (past_up_to h (last_number h)); number = last_number h; layout = l }

pub again_is : (h : History) (l : Layout) → history_by (origin_again h l) [] ≡ reopened h (last_number h)
again_is h l =
    ap (λ (past : Past). record { first = last_number h; base = past; commits = [] }) (past_again (past_up_to h (last_number h)))

-- So an engine begins that was opened on what kept the history, with so much room.
pub begins_again : {H L : Type 0} (bytes : H → Option (List ℕ)) (sure : Type 0) (x : Parts H L) (h : History) (room : ℕ)
    (disk : DiskState) (before : Option DiskState) (read : Image) (found : Finds read)
    (shown : Shown read (reopened h (last_number h)) (last_number (reopened h (last_number h))))
    → before ≡ Some disk → Keeps h disk → IsRead read disk → x.merging ≡ None
    → (is_some x.told ≡ true → IsWhole bytes x (reopened h (last_number h)) (layout_at_start room (recovered found shown)))
    → BeginsAgain bytes sure before room x (origin_again h (layout_at_start room (recovered found shown)))
begins_again bytes sure x h room disk before read found shown told kept is_read merging whole =
    let l = layout_at_start room (recovered found shown) in
    record {
      stands = no_steps bytes sure (origin_again h l) (is_some x.told) x merging (record { live = refl; job = refl; pass = refl })
          (λ tells. subst (λ (k : History). IsWhole bytes x k l) (sym (again_is h l)) (whole tells));
      from = λ left is. subst (λ (d : DiskState). GoesOnFrom d room (origin_of (origin_again h l))) (some_same disk left (sym told ∙ is))
          (record {
            history = h;
            kept = kept;
            is = again_is h l;
            layout = record { read = read; is_read = is_read; found = found; shown = shown; is = refl };
          });
    }

-- Where nothing is told any origin will do.
pub begins_over : {H L : Type 0} (bytes : H → Option (List ℕ)) (sure : Type 0) (x : Parts H L) (before : Option DiskState) (room : ℕ)
    → x.merging ≡ None → ((state : DiskState) → before ≡ Some state → is_some x.told ≡ true)
    → (is_some x.told ≡ true → (o : Origin) × BeginsAgain bytes sure before room x o)
    → (o : Origin) × BeginsAgain bytes sure before room x o
begins_over bytes sure x before room none telling told = by (is_some x.told) refl
  where
    by : (b : Bool) → is_some x.told ≡ b → (o : Origin) × BeginsAgain bytes sure before room x o
    by true is = told is
    by false is = (
      new_origin,
      record {
        stands = no_steps bytes sure new_origin (is_some x.told) x none (record { live = refl; job = refl; pass = refl })
            (λ tells. absurd (false≢true (sym is ∙ tells)));
        from = λ state at. absurd (false≢true (sym is ∙ telling state at));
      },
    )

-- it tells its bytes behind an opening where it did before
pub same_telling : (P : DiskState → Type 0) (was is : Option DiskState)
    → ((s : DiskState) → was ≡ Some s → (n : DiskState) × (is ≡ Some n))
    → (is_some is ≡ true → (s : DiskState) × (was ≡ Some s) × P s) → is_some is ≡ is_some was
same_telling P None None on back = refl
same_telling P None (Some n) on back = absurd (none≢some (back refl).0 (back refl).1)
same_telling P (Some s) is on back = ap is_some (on s refl).1

-- what an image shows of the history it shows of the one that goes on with it
pub shown_again : (image : Image) (h : History) → Shown image h (last_number h)
    → Shown image (reopened h (last_number h)) (last_number (reopened h (last_number h)))
shown_again image h shown =
    let none : last_number h + 0 ≡ last_number h = omega arith in
    subst (Shown image (reopened h (last_number h))) (sym none) (shown_reopened image h (last_number h) shown)

-- ---- refusals

-- a refusal is no fault
no_fault : (reason : OpenError) → IsRefusal reason → IsFault (Some reason) → ⊥
no_fault why.NotAStore is fault = fault
no_fault (why.NewerFormat format) is fault = fault
no_fault (why.Damaged name place) is fault = fault
no_fault (why.Exhausted counter) is fault = fault
no_fault why.NoMemory is fault = fault
no_fault (why.Disk name) is fault = is

module _ {D R : Type 0} (g : Ghosts D) (faults_of : R → ℕ) (disk : D) where
  -- An engine's opening was refused.
  pub unopened : (fail : OpenFail D R)
      → ((state : DiskState) (read : Image) → g.told disk ≡ Some state → IsRead read state → AnswersBy read (recovery_by fail.why))
      → HasCause (g.faults disk) (g.faults fail.disk) (IsDiskFault (counted faults_of fail.reader) (Some fail.why))
      → (HasCounted (counted faults_of fail.reader) → IsFault (Some fail.why))
      → ((IsFault (Some fail.why) → ⊥) → IsAsBefore g disk fail.disk)
      → ((state : DiskState) (read : Image) (h : History) → g.told disk ≡ Some state → IsDurable state → IsRead read state
      → Shown read h (last_number h) → CrashesShow g disk fail.disk h h)
      → ((state now : DiskState) → g.told disk ≡ Some state → MayOpen state → g.told fail.disk ≡ Some now → MayOpen now)
      → IsRefusedOpening g faults_of disk fail
  unopened fail answer cause read_fault alone through again = record {
    answer = answer;
    cause = cause;
    read_fault = read_fault;
    left_alone = λ is. alone (no_fault fail.why is);
    through = through;
    again = again;
  }

  -- It was opened, and no memory was left for its sessions.
  pub unseated : (now : D) → HasCause (g.faults disk) (g.faults now) ⊥
      → ((state : DiskState) (read : Image) (h : History) → g.told disk ≡ Some state → IsDurable state → IsRead read state
      → Shown read h (last_number h) → CrashesShow g disk now h h)
      → ((state left : DiskState) → g.told disk ≡ Some state → MayOpen state → g.told now ≡ Some left → MayOpen left)
      → IsRefusedOpening g faults_of disk (record { why = why.NoMemory; disk = now; reader = None })
  unseated now cause through again = record {
    answer = λ state read told is. tt;
    cause = cause;
    read_fault = λ some. absurd (counting.none_counted.none some);
    left_alone = λ is. absurd is;
    through = through;
    again = again;
  }

-- readers that count no fault
pub none_counted : {R : Type 0} (faults : R → ℕ) → ((reader : R) → NoneCounted (faults reader)) → (reader : Option R)
    → NoneCounted (counted faults reader)
none_counted faults never None = counting.none_counted
none_counted faults never (Some reader) = never reader

module _ {D R : Type 0} (g : Ghosts D) (faults_of : R → ℕ) (disks : (d : D) → NoneCounted (g.faults d))
    (readers : (r : R) → NoneCounted (faults_of r)) (disk : D) (left : DiskState) (told : g.told disk ≡ Some left) (kept : KeepsStore left) where
  -- What keeps a store is refused for want alone.
  pub only_want : (fail : OpenFail D R) → IsRefusedOpening g faults_of disk fail → IsOnlyWantOfOpening left fail.why
  only_want fail refused = by fail.why refl (λ read is. refused.answer left read told is) refused.cause
    where
      -- it shows what it keeps
      shows : (read : Image) → IsRead read left → Shown read kept.0 (last_number kept.0)
      shows read is = kept.1.shows read (read_left read left is)

      opens : (refusal : Refusal) → ((read : Image) → IsRead read left → Opens read (Err refusal)) → ⊥
      opens refusal is =
          let (read, is_read) = read_image left in
          let shown = shows read is_read in
          ok_err shown.opening refusal (single_opening read (Ok shown.opening) (Err refusal) shown.opens (is read is_read))

      by : (reason : OpenError) → fail.why ≡ reason → ((read : Image) → IsRead read left → AnswersBy read (recovery_by reason))
          → HasCause (g.faults disk) (g.faults fail.disk) (IsDiskFault (counted faults_of fail.reader) (Some reason))
          → IsOnlyWantOfOpening left reason
      by why.NotAStore is answer cause = opens NotAStore answer
      by (why.NewerFormat format) is answer cause = opens (NewerFormat format) answer
      by (why.Damaged name place) is answer cause = opens (Damaged name place) answer
      by (why.Exhausted counter) is answer cause = answer
      by why.NoMemory is answer cause = tt
      by (why.Disk name) is answer cause =
          counting.none_rose (g.faults disk) (g.faults fail.disk) (disks fail.disk) (cause.rose (none_counted faults_of readers fail.reader))
