-- The steps by which a new log is begun.
use Rattle.std.specs.Prelude.{◌≡◌, ◌≤◌, ℕ, ◌+◌, List, [], ◌∷◌, ◌++◌, Option, Some, Result, true}
use Rattle.std.specs.Option.{ForSome}
use Rattle.std.proofs.Common.{ap, subst, sym, ◌∙◌, arith}
use Rattle.vl_back.specs.Writing.{IsKept, KeepsOthers}
use Rattle.vl_back.specs.declared.back.Back.{Back}
use Rattle.vl_disk.specs.Calls.{ChangesNothing}
use Rattle.vl_disk.specs.Crash.{Unchanged}
use Rattle.vl_disk.specs.Disk.{IsChangedBy}
use Rattle.vl_disk.specs.DiskState.{DiskState, file_at}
use Rattle.vl_disk.specs.Faults.{Rose}
use Rattle.vl_disk.specs.MadeFile.{WhileMaking, made}
use Rattle.vl_disk.specs.Moments.{Elapses, While, passes_none, passes_then, past_of}
use Rattle.vl_disk.specs.Performs.{FailedAt, Performs, calls_on}
use Rattle.vl_disk.specs.declared.name.Name.TheVariants as names
use Rattle.vl_disk.specs.declared.name.Name.{Name}
use Rattle.vl_disk.specs.declared.watched.Watched.{Ghosts}
use Rattle.vl_engine_laws.specs.Known.{are_known}
use Rattle.vl_engine_laws.specs.RotateFacts.{at_new_log}
use Rattle.vl_engine_laws.specs.RotateFacts.{BeginsLog, IsNextBack, IsNextVersion, IsSameBack, StopsRotating, next_header, next_name}
use Rattle.vl_engine_laws.specs.declared.kept.Core.{Core}
use Rattle.vl_front.specs.declared.front.Front.{Front}
use Rattle.vl_manifest.specs.declared.state.ManifestState.{ManifestState}
use Rattle.vl_manifest.specs.declared.waiting.Waiting.{Waiting}
use Rattle.vl_model.specs.Formats.{log_format}
use Rattle.vl_model.specs.declared.entry.Entry.{Entry}
use Rattle.vl_recover.specs.laws.opening.OpeningLaws.{some_same}
use Rattle.vl_seglog.specs.Frames.{log_header}
use Rattle.vl_version.specs.Rotating.{IsRotated}
use Rattle.vl_version.specs.declared.version.Version.{Version}

-- ---- memory

-- but for room, what steps on files need is as it was
pub same_back : (before after : Back) → after ≡ record before { waiting = after.waiting }
    → after.waiting.items ≡ before.waiting.items → IsSameBack before after
same_back before after others items = record {
  manifest = ap (λ (b : Back). b.manifest) others;
  state = ap (λ (b : Back). b.state) others;
  next_log = ap (λ (b : Back). b.next_log) others;
  epoch = ap (λ (b : Back). b.epoch) others;
  waiting = items;
}

-- with the log that was active behind those that wait it is the next
pub next_back : {H : Type 0} (before : Core H) (room after : Back) (covered : ℕ) → IsSameBack before.back room
    → after.manifest ≡ room.manifest → after.state ≡ room.state → after.next_log ≡ room.next_log + 1
    → after.epoch ≡ room.epoch + 1
    → after.waiting.items ≡ room.waiting.items ++ record { number = before.front.log.number; covered = covered } ∷ []
    → covered ≡ before.front.oracle.last → IsNextBack before after
next_back before room after covered same manifest state next_log epoch waiting last = record {
  manifest = manifest ∙ same.manifest;
  state = state ∙ same.state;
  next_log = next_log ∙ ap (λ (n : ℕ). n + 1) same.next_log;
  epoch = epoch ∙ ap (λ (n : ℕ). n + 1) same.epoch;
  waiting = waiting
      ∙ ap (λ (ws : List Waiting). ws ++ record { number = before.front.log.number; covered = covered } ∷ []) same.waiting
      ∙ ap (λ (n : ℕ). before.back.waiting.items ++ record { number = before.front.log.number; covered = n } ∷ []) last;
}

-- the version is that of what was active and of the log alone
pub next_version : {H : Type 0} (bytes : H → Option (List ℕ)) (told : Option DiskState) (before room : Core H) (next : Version H)
    → room.version ≡ before.version → room.front ≡ before.front → IsNextVersion bytes told room next
    → IsNextVersion bytes told before next
next_version {H} bytes told before room next version front is = record {
  log = is.log;
  is = subst (λ (f : Front). IsRotated bytes before.version f.log.length is.log next) front
      (subst (λ (v : Version H). IsRotated bytes v room.front.log.length is.log next) version is.is);
  number = is.number ∙ ap (λ (f : Front). f.log.number) front;
  format = is.format;
  held = subst (λ (f : Front). ForSome told (λ state. bytes is.log.held ≡ Some (file_at state (names.Log f.log.number)).bytes)) front
      is.held;
}

-- nothing is above the last number in an empty memtable
pub none_known : (last : ℕ) (es : List Entry) → es ≡ [] → are_known last es ≡ true
none_known last es none = ap (are_known last) none

-- the next numbers are ones that files may have still
pub still_numbered : (before room : Back) → IsSameBack before room → (1 ≤ before.next_log) × (1 ≤ before.state.next_table)
    → (1 ≤ room.next_log) × (1 ≤ room.state.next_table)
still_numbered before room same some = (
  subst (λ (n : ℕ). 1 ≤ n) (sym same.next_log) some.0,
  subst (λ (s : ManifestState). 1 ≤ s.next_table) (sym same.state) some.1,
)

pub then_numbered : {H : Type 0} (before : Core H) (after : Back) → IsNextBack before after
    → (1 ≤ before.back.next_log) × (1 ≤ before.back.state.next_table) → (1 ≤ after.next_log) × (1 ≤ after.state.next_table)
then_numbered before after next some = (
  (let up = next.next_log in omega (arith, up)),
  subst (λ (s : ManifestState). 1 ≤ s.next_table) (sym next.state) some.1,
)

-- ---- the disk

-- One call behind the other changed nothing: the first didn't fail, and both did only where the second did.
pub then_call : {D : Type 0} (g : Ghosts D) (a b c : D) (second both : Type 0) → (both → second) → (second → both)
    → ChangesNothing g a b ⊥ → ChangesNothing g b c second → ChangesNothing g a c both
then_call g a b c second both so back one other = record {
  told = other.told ∙ one.told;
  calls = other.calls ∙ one.calls;
  time = passes_then (past_of g a) (past_of g b) (past_of g c)
      (While (g.told a) Unchanged) (While (g.told b) Unchanged) (While (g.told a) Unchanged) one.time other.time
      (λ state now. now) (λ state now disk is. now disk (one.told ∙ is));
  cause = let steady : g.faults b ≡ g.faults a = one.cause.steady (λ e. e) in record {
    later = let later = other.cause.later in omega (arith, steady, later);
    rose = λ e. subst (λ (n : ℕ). Rose n (g.faults c)) steady (other.cause.rose (so e));
    steady = λ fine. other.cause.steady (λ e. fine (back e)) ∙ steady;
  };
}

-- what is said of a disk that is told is said of it while that stays
pub still : {P : DiskState → Type 0} (old new : Option DiskState) → new ≡ old → ForSome old P → ForSome new P
still old new same holds disk is = holds disk (sym same ∙ is)

-- where nothing else is told, each file stands or not as before
pub keeps_told : (name : Name) (old new : Option DiskState) → new ≡ old → KeepsOthers name old new
keeps_told name old new same before now was is other apart =
    subst (IsKept other before) (some_same before now (sym was ∙ sym same ∙ is))
    (((λ none. none, λ none. none), (λ none. none, λ none. none)))

-- no file but the new log comes or goes, where nothing was changed before it was made
pub keeps_making : (next given : ℕ) → given ≡ next → (old mid new : Option DiskState) → mid ≡ old
    → KeepsOthers (names.Log given) mid new → KeepsOthers (names.Log next) old new
keeps_making next given same old mid new quiet keeps before now was is =
    subst (λ (n : ℕ). KeepsOthers (names.Log n) mid new) same keeps before now (quiet ∙ was) is

module _ {D H : Type 0} (g : Ghosts D) (core : Core H) where
  -- the active log couldn't be held
  abbrev pub begins_nothing : (old new : D) (failed : Type 0) → ChangesNothing g old new failed → BeginsLog g core old new
  begins_nothing old new failed quiet = record {
    mid = new;
    told = quiet.told;
    calls = quiet.calls;
    quiet = quiet.time;
    time = passes_none (past_of g new) (While (g.told new) (WhileMaking (next_name core) (next_header core)));
    tells = λ state is. (state, is);
  }

  -- the new log was to be made
  module _ (old mid new : D) (failed : Type 0) (quiet : ChangesNothing g old mid failed) (next : ℕ) (is : next ≡ core.back.next_log)
      {T E : Type 0} (result : Result T E)
      (makes : Performs g (made (names.Log next) (log_header log_format next))
      (WhileMaking (names.Log next) (log_header log_format next)) 3 mid new result) where
    abbrev pub begins_making : BeginsLog g core old new
    begins_making = record {
      mid = mid;
      told = quiet.told;
      calls = quiet.calls;
      quiet = quiet.time;
      time = subst (λ (n : ℕ). Elapses g mid new (WhileMaking (names.Log n) (log_header log_format n))) is makes.time;
      tells = makes.tells;
    }

    pub made_so : IsChangedBy (made (names.Log next) (log_header log_format next)) (g.told mid) (g.told new)
        → IsChangedBy (made (next_name core) (next_header core)) (g.told mid) (g.told new)
    made_so changed =
        subst (λ (n : ℕ). IsChangedBy (made (names.Log n) (log_header log_format n)) (g.told mid) (g.told new)) is changed

    -- and failed at it
    pub stops_making : (active : ℕ) (name : Name) → FailedAt (calls_on 3 (names.Log next)) (g.calls mid) (g.calls new) name
        → StopsRotating active core.back.next_log (g.calls old) (g.calls new) name
    stops_making active name at =
        at_new_log (subst (λ (n : ℕ). FailedAt (calls_on 3 (names.Log n)) (g.calls old) (g.calls new) name) is
        (subst (λ (n : ℕ). FailedAt (calls_on 3 (names.Log next)) n (g.calls new) name) quiet.calls at))
