-- What a change of how many versions are kept is answered, by the ruling on it: where nothing is written, and where it is to be
-- written, whatever that came to.
use Rattle.std.specs.Prelude.{◌≡◌, ◌≢◌, ◌≤◌, ◌<◌, ◌==◌, ◌⊎◌, ℕ, ◌||◌, [], ◌∷◌, Bool, true, false, nat_lt, List}
use Rattle.std.specs.Prelude.{Option, None, Some, unwrap_or, Result, Ok, Err, OnOk, if◌then◌else◌, refl}
use Rattle.std.specs.Option.{ForSome, option_map}
use Rattle.std.proofs.Common.{sym, ap, subst, ◌∙◌, arith, inl, inr}
use Rattle.std.proofs.lemmas.Bool.{cases_lt}
use Rattle.std.proofs.lemmas.Bool.Decides.{nat_tests}
use Rattle.vl_disk.specs.Calls.{ChangesNothing}
use Rattle.vl_disk.specs.Disk.{IsChangedBy, Stands}
use Rattle.vl_disk.specs.DiskState.{DiskState, File, appended, lengthened, new_file}
use Rattle.vl_disk.specs.Faults.{after_calls}
use Rattle.vl_disk.specs.Performs.{FailedAt, Performs, StopsAmong, calls_on}
use Rattle.vl_disk.specs.declared.name.Name.TheVariants as names
use Rattle.vl_disk.specs.declared.name.Name.{Name}
use Rattle.vl_disk.specs.declared.watched.Watched.{Ghosts}
use Rattle.vl_engine_laws.specs.laws.Carrying.{IsWatched, carries_leaving, carries_no_memory, extends_itself}
use Rattle.vl_steps.specs.laws.Committing.{decides_answered, decides_failed, decides_leaving, decides_short}
use Rattle.vl_steps.specs.laws.Filing.{files_changed, files_written}
use Rattle.vl_engine_laws.specs.laws.FlushKeeps.{stands_kept}
use Rattle.vl_steps.specs.laws.KeepSteps.{carries_kept, carries_unkept, fronts_kept, fronts_unkept}
use Rattle.vl_steps.specs.laws.KeepSteps as steps
use Rattle.vl_engine_laws.specs.laws.Standing.{stands_halted}
use Rattle.vl_steps.specs.laws.Stepped.{fits_back, fits_halted}
use Rattle.vl_engine_laws.specs.Carries.{Carries, HasSameFiles, SameFiles}
use Rattle.vl_engine_laws.specs.Fit.{IsFitFor}
use Rattle.vl_steps.specs.Keeping.{KeepFailed, KeepLeavesDisk, KeepsAs}
use Rattle.vl_engine_laws.specs.KeepFacts.{AreKept, IsKeepWritten, IsStagedKeep}
use Rattle.vl_steps.specs.Keeping.{keep_calls, keep_effects, keep_outcome}
use Rattle.vl_engine_laws.specs.KeepFacts.{MayKeep, StopsKeeping, WritesKeep}
use Rattle.vl_engine_laws.specs.KeepFacts.{keep_written, next_since}
use Rattle.vl_engine_laws.specs.Represents.{Fronts, Represents, StandsFor, file_of}
use Rattle.vl_engine_laws.specs.MayStep.{Fits, MayStep}
use Rattle.vl_steps.specs.declared.fails.KeepFail.TheVariants as fails
use Rattle.vl_steps.specs.declared.fails.KeepFail.{KeepFail}
use Rattle.vl_engine_laws.specs.declared.kept.Core.{Core}
use Rattle.vl_engine_laws.specs.laws.KeepLaws.{keep_halted, keep_invalid, keep_made, keep_other, keep_same}
use Rattle.vl_engine_laws.specs.laws.KeptLaws.{log_manifest, written_elsewhere}
use Rattle.vl_engine_model.specs.Decides.{Answered, Decides, Effects, Failed, NoMemory, as_before, no_effects}
use Rattle.vl_engine_model.specs.Ruling.{Ruling, leaving}
use Rattle.vl_engine_model.specs.Rulings.Keep.{Halted, InvalidRequest, KeepAnswer, Kept, keep_ruling, keeping}
use Rattle.vl_engine_model.specs.Start.{newest_first}
use Rattle.vl_engine_model.specs.declared.layout.Layout.{Layout}
use Rattle.vl_manifest.specs.States.{max_keep}
use Rattle.vl_manifest.specs.Switching.{IsStaged, WhileSwitching, switched}
use Rattle.vl_manifest.specs.declared.edit.Edit.TheVariants.{Keep}
use Rattle.vl_manifest.specs.declared.staged.StagedEdits.{StagedEdits}
use Rattle.vl_manifest.specs.declared.state.ManifestState.{ManifestState}
use Rattle.vl_manifest.specs.declared.waiting.Waiting.{Waiting}
use Rattle.vl_model.specs.History.{Extends, History}
use Rattle.vl_recover.specs.opening.HeldFiles.{AreWaiting}
use Rattle.vl_seglog.specs.declared.active.ActiveLog.{ActiveLog}

-- ---- files

some_is : (a b : DiskState) → Some a ≡ Some b → a ≡ b
some_is a b e = cc

-- A change that keeps which files stand leaves the same ones,
pub same_by : (change : DiskState → DiskState) (old new : Option DiskState) → ((d : DiskState) → HasSameFiles d (change d))
    → IsChangedBy change old new → SameFiles old new
same_by change old new keeps changed before now was is =
    subst (HasSameFiles before) (some_is (change before) now (sym (ap (option_map change) was) ∙ sym changed ∙ is)) (keeps before)

pub same_after : (old mid new : Option DiskState) → mid ≡ old → SameFiles mid new → SameFiles old new
same_after old mid new same files = subst (λ (told : Option DiskState). SameFiles told new) same files

pub same_told : (old new : Option DiskState) → new ≡ old → SameFiles old new
same_told old new same before now was is name =
    subst (λ (d : DiskState). HasSameFiles before d) (some_is before now (sym was ∙ sym same ∙ is))
    (λ n. ((λ none. none, λ none. none), (λ none. none, λ none. none))) name

-- as the frame of a switch that is written, and one that is written in part.
pub files_switched : (number : ℕ) (piece : List ℕ) (disk : DiskState) → HasSameFiles disk (switched number piece disk)
files_switched number piece disk = files_written (names.Manifest number) piece disk

pub files_in_part : (number : ℕ) (piece : List ℕ) (taken : ℕ) (disk : DiskState)
    → HasSameFiles disk (appended (names.Manifest number) piece taken disk)
files_in_part number piece taken disk = files_changed (names.Manifest number) (lengthened piece taken) disk

-- Where the same files stand an engine may go on.
module _ {H : Type 0} (before after : Core H) (log : after.front.log ≡ before.front.log)
    (halted : after.front.halted ≡ None → before.front.halted ≡ None)
    (manifest : after.back.manifest.number ≡ before.back.manifest.number) (next_log : after.back.next_log ≡ before.back.next_log)
    (next_table : after.back.state.next_table ≡ before.back.state.next_table) where
  fit_same : (disk now : DiskState) → HasSameFiles disk now → IsFitFor before disk → IsFitFor after now
  fit_same disk now same fit = record {
    log = subst (λ (a : ActiveLog). Stands (names.Log a.number) now) (sym log)
        (stands_kept (names.Log before.front.log.number) disk now (same (names.Log before.front.log.number)) fit.log);
    steps = λ running. let steps = fit.steps (halted running) in record {
      manifest = subst (λ (n : ℕ). Stands (names.Manifest n) now) (sym manifest)
          (stands_kept (names.Manifest before.back.manifest.number) disk now (same (names.Manifest before.back.manifest.number))
          steps.manifest);
      logs = λ n from. (same (names.Log n)).0.1 (steps.logs n (subst (λ (m : ℕ). m ≤ n) next_log from));
      tables = λ n from. (same (names.Table n)).0.1 (steps.tables n (subst (λ (m : ℕ). m ≤ n) next_table from));
    };
  }

  pub fit_by : (change : DiskState → DiskState) (old mid new : Option DiskState) → mid ≡ old → IsChangedBy change mid new
      → ((d : DiskState) → HasSameFiles d (change d)) → ForSome old (IsFitFor before) → ForSome new (IsFitFor after)
  fit_by change None mid new same changed keeps fit now is = absurd (none_some (sym (changed ∙ ap (option_map change) same) ∙ is))
    where
      none_some : None ≡ Some now → ⊥
      none_some e = cc
  fit_by change (Some disk) mid new same changed keeps fit now is =
      subst (IsFitFor after) (some_is (change disk) now (sym (changed ∙ ap (option_map change) same) ∙ is))
      (fit_same disk (change disk) (keeps disk) (fit disk refl))

-- ---- the calls

-- of two calls on one file the last that was made failed
pub fails_among : (name : Name) (before now : ℕ) → StopsAmong 2 before now → FailedAt (calls_on 2 name) before now name
fails_among name before now (n, some, few, calls) = by (cases_lt 1 n)
  where
    by : (1 < n) ⊎ (n ≤ 1) → FailedAt (calls_on 2 name) before now name
    by (inl two) =
        let is : n ≡ 2 = omega (arith, two, few) in
        record { front = name ∷ []; back = []; files_are = refl; calls = calls ∙ ap (λ (k : ℕ). after_calls k before) is }
    by (inr one) =
        let is : n ≡ 1 = omega (arith, one, some) in
        record { front = []; back = name ∷ []; files_are = refl; calls = calls ∙ ap (λ (k : ℕ). after_calls k before) is }

module _ {D H : Type 0} (g : Ghosts D) (core : Core H) (v : ℕ) (staged : StagedEdits) (old mid new : D)
    (quiet : ChangesNothing g old mid ⊥) where
  abbrev number : ℕ
  number = core.back.manifest.number

  abbrev frame : List ℕ
  frame = staged.frame.items

  abbrev pub writes_by : {T E : Type 0} (result : Result T E)
      → Performs g (switched number frame) (WhileSwitching number frame) 2 mid new result → WritesKeep g core staged old new
  writes_by result run = record { mid = mid; before = quiet; time = run.time; tells = run.tells }

  pub stops_by : {T E : Type 0} (fail : E)
      → Performs {T = T} {E = E} g (switched number frame) (WhileSwitching number frame) 2 mid new (Err fail)
      → StopsKeeping number (g.calls old) (g.calls new) (names.Manifest number)
  stops_by fail run =
      subst (λ (n : ℕ). StopsKeeping number n (g.calls new) (names.Manifest number)) quiet.calls
      (fails_among (names.Manifest number) (g.calls mid) (g.calls new) run.stops)

  -- what was staged says since when so many are kept
  pub staged_by : (since : ℕ) → since ≡ next_since core v → IsStaged number core.back.manifest.length (Keep v since ∷ []) staged
      → IsStagedKeep core v staged
  staged_by since is of = subst (λ (n : ℕ). IsStaged number core.back.manifest.length (Keep v n ∷ []) staged) is of

-- ---- nothing was written

module _ {H : Type 0} (core : Core H) (h : History) (l : Layout) (v : ℕ) (is : Fronts core h l) where
  pub runs_on : core.front.halted ≡ None → l.halted ≡ None
  runs_on none = sym is.halted ∙ ap (option_map file_of) none

  pub ruled_halted : (name : Name) → core.front.halted ≡ Some name → leaving (Halted (file_of name)) h l ≡ keep_ruling l h v
  ruled_halted name halted = keep_halted l h v (file_of name) (sym is.halted ∙ ap (option_map file_of) halted)

  pub ruled_invalid : core.front.halted ≡ None → ((v == 0) || nat_lt 16 v) ≡ true → leaving InvalidRequest h l ≡ keep_ruling l h v
  ruled_invalid none wrong = keep_invalid l h v (runs_on none) wrong

  pub ruled_same : core.front.halted ≡ None → 1 ≤ v → v ≤ max_keep → v ≡ core.back.state.keep → leaving Kept h l ≡ keep_ruling l h v
  ruled_same none some few same = keep_same l h v (runs_on none) some few (same ∙ is.keep)

  pub ruled_made : MayKeep core v → keep_made l h v ≡ keep_ruling l h v
  ruled_made may = keep_other l h v (runs_on may.running) may.some may.few (λ same. may.other (same ∙ sym is.keep))

-- so many are kept already, or others than before
pub none_counted : (v before : ℕ) → v ≡ before → no_effects ≡ record no_effects { calls = keep_calls before v }
none_counted v before same = by (v == before) (grind (arith, nat_tests, same))
  where
    by : (b : Bool) → b ≡ true → no_effects ≡ record no_effects { calls = if b then 0 else 2 }
    by true is = refl
    by false is = absurd cc

abbrev two_or_none : Bool → ℕ
two_or_none same = if same then 0 else 2

pub two_counted : (v before : ℕ) → v ≢ before → keep_calls before v ≡ 2
two_counted v before apart = by (v == before) refl
  where
    by : (b : Bool) → (v == before) ≡ b → two_or_none b ≡ 2
    by true is = absurd (apart (grind (arith, nat_tests, is)))
    by false is = refl

-- it is no number of versions that are kept
pub is_invalid : (v : ℕ) → (v ≡ 0) ⊎ ((v ≡ 0 → ⊥) × (16 < v)) → ((v == 0) || nat_lt 16 v) ≡ true
is_invalid v (inl none) =
    let is : (v == 0) ≡ true = grind (arith, nat_tests, none) in
    ap (λ (b : Bool). b || nat_lt 16 v) is
is_invalid v (inr (some, many)) =
    let is : nat_lt 16 v ≡ true = grind (arith, nat_tests, many) in
    or_true (v == 0) (nat_lt 16 v) is
  where
    or_true : (a b : Bool) → b ≡ true → (a || b) ≡ true
    or_true true b is = refl
    or_true false b is = is

pub is_some : (v : ℕ) → (v ≡ 0 → ⊥) → 1 ≤ v
is_some v some = by (cases_lt 0 v)
  where
    by : (0 < v) ⊎ (v ≤ 0) → 1 ≤ v
    by (inl more) = omega (arith, more)
    by (inr none) = absurd (some (omega (arith, none)))

-- It is answered without the disk,
module _ {D H : Type 0} (g : Ghosts D) (watched : IsWatched g) (bytes : H → Option (List ℕ)) (core : Core H)
    (h : History) (l : Layout) (v : ℕ) where
  pub carries_left : (disk : D) (answer : KeepAnswer) → leaving answer h l ≡ keep_ruling l h v
      → Represents bytes core (g.told disk) h l
      → Carries g bytes disk disk core h l (keep_ruling l h v) (as_before l l) (Answered answer) no_effects
  carries_left disk answer ruled is =
      subst (λ (r : Ruling KeepAnswer). Carries g bytes disk disk core h l r (as_before l l) (Answered answer) no_effects) ruled
      (carries_leaving g watched bytes core core h l disk answer l (as_before l l) is is)

  -- also where so many are kept already.
  pub carries_same : (disk : D) → core.front.halted ≡ None → 1 ≤ v → v ≤ max_keep → v ≡ core.back.state.keep
      → Represents bytes core (g.told disk) h l
      → Carries g bytes disk disk core h l (keep_ruling l h v) (as_before l l) (Answered Kept)
      (record no_effects { calls = keep_calls core.back.state.keep v })
  carries_same disk none some few same is =
      subst (λ (e : Effects). Carries g bytes disk disk core h l (keep_ruling l h v) (as_before l l) (Answered Kept) e)
      (none_counted v core.back.state.keep same)
      (carries_left disk Kept (ruled_same core h l v is.stands.fronts none some few same) is)

pub left_same : {H : Type 0} (S : History → Layout → Type 0) (core : Core H) (h : History) (l : Layout) (v : ℕ)
    → Fronts core h l → core.front.halted ≡ None → 1 ≤ v → v ≤ max_keep → v ≡ core.back.state.keep → S h l
    → Decides S h l (keep_ruling l h v) (as_before l l) (Answered Kept) (record no_effects { calls = keep_calls core.back.state.keep v })
left_same S core h l v is none some few same stands =
    subst (λ (e : Effects). Decides S h l (keep_ruling l h v) (as_before l l) (Answered Kept) e)
    (none_counted v core.back.state.keep same)
    (decides_leaving S h l (keep_ruling l h v) (as_before l l) Kept l (ruled_same core h l v is none some few same) stands)

-- ---- it was to be written

module _ {D H : Type 0} (g : Ghosts D) (before after : Core H) (old new : D) (v : ℕ) where
  pub untouched_by : (result : Result (Unit {0}) KeepFail) → KeepsAs g old new before after v result → v ≢ before.back.state.keep
      → KeepLeavesDisk before.back.state.keep v result → ChangesNothing g old new ⊥
  untouched_by (Ok done) did apart leaves = absurd (apart leaves)
  untouched_by (Err (fails.Halted name)) did apart leaves = absurd did
  untouched_by (Err fails.InvalidRequest) did apart leaves = absurd did
  untouched_by (Err fails.NoMemory) did apart leaves = did.1
  untouched_by (Err (fails.Disk name)) did apart leaves = absurd leaves

  -- where it failed the switch was written in part
  pub switched_by : (result : Result (Unit {0}) KeepFail) → KeepsAs g old new before after v result → KeepFailed result
      → (staged : StagedEdits) × IsStagedKeep before v staged × WritesKeep g before staged old new
  switched_by (Ok done) did failed = absurd failed
  switched_by (Err (fails.Halted name)) did failed = absurd failed
  switched_by (Err fails.InvalidRequest) did failed = absurd failed
  switched_by (Err fails.NoMemory) did failed = absurd failed
  switched_by (Err (fails.Disk name)) did failed = (did.staged, did.of, did.writes)

  -- The manifest gives the next log no number above that which it gets.
  pub within_by : (result : Result (Unit {0}) KeepFail) → KeepsAs g old new before after v result → (KeepFailed result → ⊥)
      → before.back.state.next_log ≤ before.back.next_log → after.back.state.next_log ≤ after.back.next_log
  within_by (Ok done) did fine within =
      let state = ap (λ (s : ManifestState). s.next_log) did.back.state in
      let next = did.back.next_log in
      omega (arith, state, next, within)
  within_by (Err (fails.Halted name)) did fine within = absurd did
  within_by (Err fails.InvalidRequest) did fine within = absurd did
  within_by (Err fails.NoMemory) did fine within = subst (λ (c : Core H). c.back.state.next_log ≤ c.back.next_log) (sym did.0) within
  within_by (Err (fails.Disk name)) did fine within = absurd (fine tt)

  pub stopped_by : (result : Result (Unit {0}) KeepFail) → KeepsAs g old new before after v result
      → (name : Name) → result ≡ Err (fails.Disk name) → StopsKeeping before.back.manifest.number (g.calls old) (g.calls new) name
  stopped_by (Ok done) did name failed = absurd cc
  stopped_by (Err (fails.Halted at)) did name failed = absurd did
  stopped_by (Err fails.InvalidRequest) did name failed = absurd did
  stopped_by (Err fails.NoMemory) did name failed = absurd cc
  stopped_by (Err (fails.Disk at)) did name failed =
      let same : at ≡ name = cc in
      subst (StopsKeeping before.back.manifest.number (g.calls old) (g.calls new)) same did.stops

  pub written_by : (result : Result (Unit {0}) KeepFail) → KeepsAs g old new before after v result
      → OnOk result (IsKeepWritten before v (g.told old) (g.told new))
  written_by (Ok done) did = record {
    staged = did.staged;
    of = did.of;
    changed = subst (λ (told : Option DiskState). IsChangedBy (keep_written before did.staged) told (g.told new))
        did.writes.before.told did.changed;
  }
  written_by (Err why) did = tt

  pub calls_by : (result : Result (Unit {0}) KeepFail) → KeepsAs g old new before after v result → v ≢ before.back.state.keep
      → OnOk result (g.calls new ≡ after_calls (keep_calls before.back.state.keep v) (g.calls old))
  calls_by (Ok done) did apart =
      did.calls ∙ ap (after_calls 2) did.writes.before.calls
      ∙ ap (λ (n : ℕ). after_calls n (g.calls old)) (sym (two_counted v before.back.state.keep apart))
  calls_by (Err why) did apart = tt

  -- the active log is as it was on the disk
  kept_may : (h : History) (l : Layout) → AreKept g old new before after v → MayStep (g.told old) before.back h l
      → MayStep (g.told new) after.back h (keeping v h l)
  kept_may h l did may = record {
    numbers = record {
      next_log = did.back.next_log ∙ may.numbers.next_log;
      next_table = ap (λ (s : ManifestState). s.next_table) did.back.state ∙ may.numbers.next_table;
      waiting = subst (λ (ws : List Waiting). AreWaiting l.covered ws (newest_first l.frozen)) (sym did.back.waiting)
          may.numbers.waiting;
    };
    files = may.files;
    covers = may.covers;
    state = keep_written before did.staged may.state;
    told_is = did.changed ∙ ap (option_map (keep_written before did.staged)) (did.writes.before.told ∙ may.told_is);
    active = ap (λ (o : Option File). (unwrap_or o new_file).bytes)
        ((written_elsewhere (names.Manifest before.back.manifest.number) did.staged.frame.items may.state).standing
        (names.Log l.active.number) (log_manifest l.active.number before.back.manifest.number))
        ∙ may.active;
  }

  module _ (bytes : H → Option (List ℕ)) (h : History) (l : Layout) (may : MayKeep before v) where
    pub fronts_by : Fronts before h l → (result : Result (Unit {0}) KeepFail) → KeepsAs g old new before after v result
        → Decides (Fronts after) h l (keep_ruling l h v) (as_before l l) (keep_outcome result)
        (keep_effects before.back.state.keep v result)
    fronts_by is (Ok done) did =
        subst (λ (n : ℕ). Decides (Fronts after) h l (keep_ruling l h v) (as_before l l) (Answered Kept) (record no_effects { calls = n }))
        (sym (two_counted v before.back.state.keep may.other))
        (subst (λ (r : Ruling KeepAnswer). Decides (Fronts after) h l r (as_before l l) (Answered Kept) (record no_effects { calls = 2 }))
        (ruled_made before h l v is may)
        (decides_answered (Fronts after) h l (keep_made l h v) (as_before l l) Kept (record no_effects { calls = 2 }) refl refl
        (fronts_kept before after h l v did.staged did.front did.back is)))
    fronts_by is (Err (fails.Halted name)) did = absurd did
    fronts_by is (Err fails.InvalidRequest) did = absurd did
    fronts_by is (Err fails.NoMemory) did =
        decides_short (Fronts after) h l (keep_ruling l h v) l (subst (λ (c : Core H). Fronts c h l) (sym did.0) is)
    fronts_by is (Err (fails.Disk name)) did =
        decides_failed (Fronts after) h l (keep_ruling l h v) l (file_of name) no_effects (runs_on before h l v is may.running)
        (fronts_unkept before after h l v did.staged name did.front did.epoch did.state is)

    pub stands_by : StandsFor bytes before h l → (result : Result (Unit {0}) KeepFail) → KeepsAs g old new before after v result
        → Decides (StandsFor bytes after) h l (keep_ruling l h v) (as_before l l) (keep_outcome result)
        (keep_effects before.back.state.keep v result)
    stands_by is (Ok done) did =
        subst (λ (n : ℕ). Decides (StandsFor bytes after) h l (keep_ruling l h v) (as_before l l) (Answered Kept)
        (record no_effects { calls = n })) (sym (two_counted v before.back.state.keep may.other))
        (subst (λ (r : Ruling KeepAnswer). Decides (StandsFor bytes after) h l r (as_before l l) (Answered Kept)
        (record no_effects { calls = 2 })) (ruled_made before h l v is.fronts may)
        (decides_answered (StandsFor bytes after) h l (keep_made l h v) (as_before l l) Kept (record no_effects { calls = 2 }) refl refl
        (steps.stands_kept bytes before after h l v may.some is did.version
        (fronts_kept before after h l v did.staged did.front did.back is.fronts))))
    stands_by is (Err (fails.Halted name)) did = absurd did
    stands_by is (Err fails.InvalidRequest) did = absurd did
    stands_by is (Err fails.NoMemory) did =
        decides_short (StandsFor bytes after) h l (keep_ruling l h v) l (subst (λ (c : Core H). StandsFor bytes c h l) (sym did.0) is)
    stands_by is (Err (fails.Disk name)) did =
        decides_failed (StandsFor bytes after) h l (keep_ruling l h v) l (file_of name) no_effects
        (runs_on before h l v is.fronts may.running)
        (stands_halted bytes before after h l is did.version name
        (fronts_unkept before after h l v did.staged name did.front did.epoch did.state is.fronts))

    pub carries_by : IsWatched g → Represents bytes before (g.told old) h l → (result : Result (Unit {0}) KeepFail)
        → KeepsAs g old new before after v result
        → Carries g bytes old new after h l (keep_ruling l h v) (as_before l l) (keep_outcome result)
        (keep_effects before.back.state.keep v result)
    carries_by watched is (Ok done) did =
        let fronts = is.stands.fronts in
        subst (λ (n : ℕ). Carries g bytes old new after h l (keep_ruling l h v) (as_before l l) (Answered Kept)
        (record no_effects { calls = n })) (sym (two_counted v before.back.state.keep may.other))
        (subst (λ (r : Ruling KeepAnswer). Carries g bytes old new after h l r (as_before l l) (Answered Kept)
        (record no_effects { calls = 2 })) (ruled_made before h l v fronts may)
        (carries_kept g watched bytes before after h l v old new is (runs_on before h l v fronts may.running) may.some may.few
        did.staged did.of did.writes did.changed did.back did.calls
        (steps.stands_kept bytes before after h l v may.some is.stands did.version
        (fronts_kept before after h l v did.staged did.front did.back fronts))))
    carries_by watched is (Err (fails.Halted name)) did = absurd did
    carries_by watched is (Err fails.InvalidRequest) did = absurd did
    carries_by watched is (Err fails.NoMemory) did =
        subst (λ (c : Core H). Carries g bytes old new c h l (keep_ruling l h v) (as_before l l) NoMemory no_effects) (sym did.0)
        (carries_no_memory g watched bytes before before h l old new ⊥ (keep_ruling l h v) l did.1
        (subst (Extends h) (ap (λ (r : Ruling KeepAnswer). r.history) (ruled_made before h l v is.stands.fronts may)) (extends_itself h))
        refl is is.stands)
    carries_by watched is (Err (fails.Disk name)) did =
        let fronts = is.stands.fronts in
        subst (λ (r : Ruling KeepAnswer). Carries g bytes old new after h l r (as_before l l) (Failed (file_of name)) no_effects)
        (ruled_made before h l v fronts may)
        (carries_unkept g watched bytes before after h l v old new is (runs_on before h l v fronts may.running) may.some may.few
        did.staged did.of did.writes name no_effects
        (stands_halted bytes before after h l is.stands did.version name
        (fronts_unkept before after h l v did.staged name did.front did.epoch did.state fronts)))

    pub fits_by : StandsFor bytes before h l → Fits (g.told old) before h l → (result : Result (Unit {0}) KeepFail)
        → KeepsAs g old new before after v result
        → Decides (Fits (g.told new) after) h l (keep_ruling l h v) (as_before l l) (keep_outcome result)
        (keep_effects before.back.state.keep v result)
    fits_by is fits (Ok done) did =
        subst (λ (n : ℕ). Decides (Fits (g.told new) after) h l (keep_ruling l h v) (as_before l l) (Answered Kept)
        (record no_effects { calls = n })) (sym (two_counted v before.back.state.keep may.other))
        (subst (λ (r : Ruling KeepAnswer). Decides (Fits (g.told new) after) h l r (as_before l l) (Answered Kept)
        (record no_effects { calls = 2 })) (ruled_made before h l v is.fronts may)
        (decides_answered (Fits (g.told new) after) h l (keep_made l h v) (as_before l l) Kept (record no_effects { calls = 2 }) refl refl
        (record { running = λ running. kept_may h l did (fits.running (runs_on before h l v is.fronts may.running)) })))
    fits_by is fits (Err (fails.Halted name)) did = absurd did
    fits_by is fits (Err fails.InvalidRequest) did = absurd did
    fits_by is fits (Err fails.NoMemory) did =
        decides_short (Fits (g.told new) after) h l (keep_ruling l h v) l
        (fits_back before after h l (g.told old) (g.told new) did.1.told (ap (λ (c : Core H). c.back) did.0) fits)
    fits_by is fits (Err (fails.Disk name)) did =
        decides_failed (Fits (g.told new) after) h l (keep_ruling l h v) l (file_of name) no_effects
        (runs_on before h l v is.fronts may.running) (fits_halted (g.told new) after h l (file_of name))
