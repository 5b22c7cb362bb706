-- The plan of an opening fits the disk whose bytes it was made of.
use Rattle.std.proofs.Common.{◌≡◌, ⊎_elim, ℕ, ◌+◌, ◌≤◌, max, List, [], ◌∷◌, length, refl, sym, ap, subst, ◌∙◌, arith}
use Rattle.std.specs.Prelude.{◌≢◌, ◌==◌, if◌then◌else◌, suc, Bool, true, false, Option, None, Some, unwrap_or, IsSome, Contains, AllPairs}
use Rattle.std.specs.Option.{option_map}
use Rattle.std.specs.FinMap.{get}
use Rattle.vl_disk.specs.Changes.{changed_elsewhere, changed_there}
use Rattle.vl_disk.specs.Crash.{Image}
use Rattle.vl_disk.specs.Disk.{IsFree, IsInside, Stands}
use Rattle.vl_disk.specs.DiskState.{DiskState, File, cut_to, lengthened, new_file, settled, shortened, synced_file, with_file, without}
use Rattle.vl_disk.specs.MadeFile.{made}
use Rattle.vl_disk.specs.laws.NameMap.{get_inserted, get_inserted_other, get_removed_other, same_or_other}
use Rattle.vl_disk.specs.Started.{IsRead}
use Rattle.vl_disk.specs.declared.name.Name.{Name}
use Rattle.vl_disk.specs.declared.name.Name.TheVariants.{Log, Manifest}
use Rattle.vl_manifest.specs.declared.state.ManifestState.{ManifestState}
use Rattle.vl_model.specs.declared.log_frame.LogFrame.{LogFrame}
use Rattle.vl_recover.specs.opening.Answers.{Finds}
use Rattle.vl_recover.specs.repairing.Fitting.{CanMake, CanRepair, CanRemove, Fits}
use Rattle.vl_recover.specs.repairing.Repairing.{Cut, Headed, IsPlan, Kept, LastLog, NoLast, Plan, Rewritten}
use Rattle.vl_recover.specs.repairing.Repairing.{behind_last, behind_log, headed, last_of, repairing_of, plan_of}
use Rattle.vl_recover.specs.repairing.Repairing.{with_last, with_log, with_manifest}
use Rattle.vl_recover.specs.laws.repairing.RepairingStart.{unread_free}
use Rattle.vl_recover.specs.opening.Opening.{IsNextLog, StandingLogs}
use Rattle.vl_recover.specs.opening.Plans.{log_behind, log_made, new_state}
use Rattle.vl_recover.specs.opening.Walk.{StandingLog, content_end, keeps_header}
use Rattle.vl_seglog.specs.LogReading.{end_of}
use Rattle.vl_model.specs.Formats.{log_format}
use Rattle.vl_seglog.specs.Frames.{log_header}
use Rattle.vl_seglog.specs.laws.LogReadingLaws.{frames_within}

some_none : {X : Type 0} (x : X) → Some x ≡ None → ⊥
some_none x e = cc

some_same : {X : Type 0} (x y : X) → Some x ≡ Some y → x ≡ y
some_same x y e = cc

false_true : false ≡ true → ⊥
false_true e = cc

log_manifest : (k m : ℕ) → Log k ≡ Manifest m → ⊥
log_manifest k m e = cc

-- ---- what stands, and what is free, is so behind a change of other files, and behind one that removes none

changed_free : (name : Name) (change : File → File) (other : Name) (disk : DiskState) → IsFree other disk
    → IsFree other (with_file name change disk)
changed_free name change other disk free = ⊎_elim
    (λ (same : other ≡ name).
    subst (λ (n : Name). get (with_file name change disk).standing n ≡ None) (sym same)
    (changed_there name disk change ∙ ap (option_map change) (subst (λ (n : Name). get disk.standing n ≡ None) same free)))
    (λ (apart : other ≢ name). (changed_elsewhere name disk change).standing other apart ∙ free)
    (same_or_other other name)

changed_stands : (name : Name) (change : File → File) (other : Name) (disk : DiskState) → Stands other disk
    → Stands other (with_file name change disk)
changed_stands name change other disk stands = ⊎_elim
    (λ (same : other ≡ name).
    subst (λ (n : Name). IsSome (get (with_file name change disk).standing n)) (sym same)
    (subst IsSome (sym (changed_there name disk change)) (mapped (get disk.standing name)
    (subst (λ (n : Name). IsSome (get disk.standing n)) same stands))))
    (λ (apart : other ≢ name). subst IsSome (sym ((changed_elsewhere name disk change).standing other apart)) stands)
    (same_or_other other name)
  where
    mapped : (file : Option File) → IsSome file → IsSome (option_map change file)
    mapped None is = is
    mapped (Some file) is = refl

pub made_stands : (name : Name) (bytes : List ℕ) (other : Name) (disk : DiskState) → Stands other disk → Stands other (made name bytes disk)
made_stands name bytes other disk stands = ⊎_elim
    (λ (same : other ≡ name).
    subst (λ (n : Name). IsSome (get (made name bytes disk).standing n)) (sym same)
    (subst IsSome (sym (get_inserted disk.standing name (settled bytes))) refl))
    (λ (apart : other ≢ name). subst IsSome (sym (get_inserted_other disk.standing name (settled bytes) other apart)) stands)
    (same_or_other other name)

head_free : (k : ℕ) (name : Name) (disk : DiskState) → IsFree name disk → IsFree name (behind_last (Headed k) disk)
head_free k name disk free =
    changed_free (Log k) synced_file name (headed k disk)
    (changed_free (Log k) (lengthened (log_header log_format k) (length (log_header log_format k))) name disk free)

pub last_free : (last : LastLog) (name : Name) (disk : DiskState) → IsFree name disk → IsFree name (behind_last last disk)
last_free NoLast name disk free = free
last_free (Kept k) name disk free = changed_free (Log k) synced_file name disk free
last_free (Cut k len) name disk free =
    changed_free (Log k) synced_file name (cut_to (Log k) len len disk) (changed_free (Log k) (shortened len len) name disk free)
last_free (Headed k) name disk free = head_free k name disk free
last_free (Rewritten k) name disk free = head_free k name (cut_to (Log k) 0 0 disk) (changed_free (Log k) (shortened 0 0) name disk free)

head_stands : (k : ℕ) (name : Name) (disk : DiskState) → Stands name disk → Stands name (behind_last (Headed k) disk)
head_stands k name disk stands =
    changed_stands (Log k) synced_file name (headed k disk)
    (changed_stands (Log k) (lengthened (log_header log_format k) (length (log_header log_format k))) name disk stands)

pub last_stands : (last : LastLog) (name : Name) (disk : DiskState) → Stands name disk → Stands name (behind_last last disk)
last_stands NoLast name disk stands = stands
last_stands (Kept k) name disk stands = changed_stands (Log k) synced_file name disk stands
last_stands (Cut k len) name disk stands =
    changed_stands (Log k) synced_file name (cut_to (Log k) len len disk) (changed_stands (Log k) (shortened len len) name disk stands)
last_stands (Headed k) name disk stands = head_stands k name disk stands
last_stands (Rewritten k) name disk stands = head_stands k name (cut_to (Log k) 0 0 disk)
    (changed_stands (Log k) (shortened 0 0) name disk stands)

pub log_stands : (log : Option ℕ) (name : Name) (disk : DiskState) → Stands name disk → Stands name (behind_log log disk)
log_stands None name disk stands = stands
log_stands (Some k) name disk stands = made_stands (Log k) _ name disk stands

-- ---- the last log

module _ (read : Image) (start : DiskState) (is_read : IsRead read start) (manifest : ℕ) (piece : List ℕ) where
  abbrev first : DiskState
  first = made (Manifest manifest) piece start

  read_file : (bytes : List ℕ) (there : Option File) → Some bytes ≡ option_map (λ (file : File). file.bytes) there
      → (file : File) × (there ≡ Some file) × (bytes ≡ file.bytes)
  read_file bytes None e = absurd (some_none bytes e)
  read_file bytes (Some file) e = (file, refl, some_same bytes file.bytes e)

  one_can : (least : ℕ) (q : StandingLog) → IsNextLog read least q → CanRepair (repairing_of q) first
  one_can least q next = by (keeps_header q.reading.header q.reading.frames) q.reading.whole (q.length == 0)
    where
      file_is : (file : File) × (get start.standing (Log q.number) ≡ Some file) × (next.bytes ≡ file.bytes)
      file_is = read_file next.bytes (get start.standing (Log q.number)) (sym next.stands ∙ is_read.each (Log q.number))

      there : get first.standing (Log q.number) ≡ Some file_is.0
      there = get_inserted_other start.standing (Manifest manifest) (settled piece) (Log q.number) (log_manifest q.number manifest)
          ∙ file_is.1

      stands : Stands (Log q.number) first
      stands = subst IsSome (sym there) refl

      within : (header : Option ℕ) → q.reading.header ≡ header → end_of header q.reading.frames ≤ length next.bytes
      within None is = omega arith
      within (Some format) is = frames_within q.number next.bytes q.reading next.reads format is

      inside : IsInside (Log q.number) (content_end q.reading) first
      inside =
          subst (λ (o : Option File). content_end q.reading ≤ length (unwrap_or o new_file).bytes) (sym there)
          (subst (λ (b : List ℕ). content_end q.reading ≤ length b) file_is.2 (within q.reading.header refl))

      by : (keeps whole empty : Bool)
          → CanRepair (if keeps then (if whole then Kept q.number else Cut q.number (content_end q.reading)) else
          (if empty then Headed q.number else Rewritten q.number)) first
      by true true empty = stands
      by true false empty = (stands, inside)
      by false whole true = stands
      by false whole false = stands

  last_can : (least : ℕ) (logs : List StandingLog) → StandingLogs read least logs → CanRepair (last_of logs) first
  last_can least [] none = tt
  last_can least (q ∷ []) (next, rest) = one_can least q next
  last_can least (q ∷ p ∷ ps) (next, rest) = last_can (q.number + 1) (p ∷ ps) rest

-- ---- the new log

pub above_all : (s : ManifestState) (logs : List StandingLog) (k : ℕ) → log_made s logs ≡ Some k → s.next_log ≤ k
above_all s [] k is = let e : max s.head s.next_log ≡ k = some_same _ k is in omega (arith, e)
above_all s (q ∷ []) k is = by q.reading.frames is
  where
    by : (frames : List LogFrame) → log_behind s frames ≡ Some k → s.next_log ≤ k
    by [] e = absurd (some_none k (sym e))
    by (f ∷ fs) e = let same : s.next_log ≡ k = some_same _ k e in omega (arith, same)
above_all s (q ∷ p ∷ ps) k is = above_all s (p ∷ ps) k is

-- ---- the strays

rest_apart : (name : Name) (names : List Name) → AllPairs (λ a b. a ≢ b) (name ∷ names) → (other : Name) → Contains names other
    → other ≢ name
rest_apart name names once other (k, less, is) same =
    once 0 (suc k) other (omega arith) (omega (arith, less)) (sym same ∙ sym is)

rest_once : (name : Name) (names : List Name) → AllPairs (λ a b. a ≢ b) (name ∷ names) → AllPairs (λ a b. a ≢ b) names
rest_once name names once i j d below within = once (suc i) (suc j) d (omega (arith, below)) (omega (arith, within))

all_can : (names : List Name) (disk : DiskState) → ((name : Name) → Contains names name → Stands name disk)
    → AllPairs (λ a b. a ≢ b) names → CanRemove names disk
all_can [] disk stand once = tt
all_can (name ∷ names) disk stand once = (
  stand name (0, omega arith, refl),
  all_can names (without name disk)
      (λ other (k, less, is). subst IsSome (sym (get_removed_other disk.standing name other (rest_apart name names once other
      (k, less, is))))
      (stand other (suc k, omega (arith, less), is)))
      (rest_once name names once),
)

pub stands_read : (read : Image) (start : DiskState) → IsRead read start → (name : Name) → IsSome (get read name) → Stands name start
stands_read read start is_read name some = by (get start.standing name) (is_read.each name)
  where
    by : (file : Option File) → get read name ≡ option_map (λ (f : File). f.bytes) file → IsSome file
    by None is = subst IsSome is some
    by (Some file) is = refl

-- ---- all of it

module _ {read : Image} (found : Finds read) (start : DiskState) (is_read : IsRead read start) where
  abbrev manifest_number : ℕ
  manifest_number = found.greatest.manifest + 1

  abbrev new : ManifestState
  new = new_state found.greatest found.opening.state

  free_log : (k : ℕ) → log_made new found.logs ≡ Some k → IsFree (Log k) start
  free_log k is =
      let above = above_all new found.logs k is in
      unread_free read start is_read (Log k) (found.are_greatest.log.none_above k (omega (arith, above)))

  -- It fits.
  pub found_fits : (plan : Plan) → IsPlan found plan → Fits plan start
  found_fits plan is = subst (λ (p : Plan). Fits p start) (sym is.is) (record {
    manifest = unread_free read start is_read (Manifest manifest_number) (found.are_greatest.manifest.none_above manifest_number
        (omega arith));
    behind = record {
      last = last_can read start is_read manifest_number (the_plan.piece) found.opening.state.head found.logs found.standing;
      log = log_can (log_made new found.logs) refl;
      strays = all_can plan.strays (with_log the_plan start)
          (λ name among. log_stands the_plan.log name (with_last the_plan start) (last_stands the_plan.last name
          (with_manifest the_plan start)
          (made_stands (Manifest manifest_number) the_plan.piece name start (stands_read read start is_read name
          (((is.strays.all name).0 among).0)))))
          is.strays.once;
    };
  })
    where
      the_plan : Plan
      the_plan = plan_of found plan.strays

      log_can : (log : Option ℕ) → log_made new found.logs ≡ log → CanMake log (with_last the_plan start)
      log_can None made_is = tt
      log_can (Some k) made_is = last_free the_plan.last (Log k) (with_manifest the_plan start)
          (get_inserted_other start.standing (Manifest manifest_number) (settled the_plan.piece) (Log k) (log_manifest k manifest_number)
          ∙ free_log k made_is)
