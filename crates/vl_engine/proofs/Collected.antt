-- What is kept of where space comes back from, behind the calls that change it and those that leave it.
use Rattle.std.specs.Prelude.{◌≡◌, ℕ, ◌+◌, true, false, not, Bool, if◌then◌else◌, List, [], ◌∷◌, Option, None, Some, Result, Ok, Err, refl}
use Rattle.std.proofs.Common.{sym, ap, subst, ◌∙◌}
use Rattle.vl_engine_laws.specs.Files.{IsLogFile}
use Rattle.vl_engine_laws.specs.MayStep.{AreLogFiles}
use Rattle.vl_engine_laws.specs.Passing.{AreReadable}
use Rattle.vl_engine_laws.specs.Represents.{Fronts, StandsFor}
use Rattle.vl_engine_laws.specs.declared.kept.Core.{Core}
use Rattle.vl_engine_laws.specs.laws.FileLaws.{all_filtered}
use Rattle.vl_disk.specs.declared.watched.Watched.{Ghosts}
use Rattle.vl_space.specs.laws.Readable.{oldest_readable}
use Rattle.vl_space.specs.Collecting.{Collects, IsTallied, passed_in}
use Rattle.vl_engine.specs.Space.{FlushesFor, SealsFor}
use Rattle.vl_steps.specs.Flushing.{FlushesAs}
use Rattle.vl_steps.specs.Rotating.{IsRefusedSo, RotatesAs}
use Rattle.vl_steps.specs.Stepping.{step_outcome}
use Rattle.vl_steps.specs.declared.fails.StepFail.TheVariants as fails
use Rattle.vl_steps.specs.declared.fails.StepFail.{StepFail}
use Rattle.vl_space.specs.declared.kept.Collecting.{Collecting}
use Rattle.vl_engine_model.specs.Decides.{Answered, Damaged, Decides, Effects, Failed, NoMemory, Otherwise, Outcome, as_before}
use Rattle.vl_engine_model.specs.Levels.{in_front}
use Rattle.vl_engine_model.specs.Ruling.{Exhausted, Halted, Idle, Ruling, StepAnswer, Stepped, halted_at, has_no_number, has_no_epoch}
use Rattle.vl_engine_model.specs.Ruling.{is_idle, leaving}
use Rattle.vl_engine_model.specs.Rulings.Flush.{covered_by, flush_of, flush_ruling, flush_unless, flushed, flushed_table}
use Rattle.vl_engine_model.specs.Rulings.Rotate.{rotate_of, rotate_ruling, rotate_unless, rotated}
use Rattle.vl_engine_model.specs.Sources.{but_oldest, oldest}
use Rattle.vl_engine_model.specs.declared.file_name.FileName.{FileName}
use Rattle.vl_engine_model.specs.declared.layout.Layout.{Layout}
use Rattle.vl_engine_model.specs.declared.segment.Segment.{Segment}
use Rattle.vl_model.specs.History.{History}
use Rattle.vl_model.specs.Numbers.{has}
use Rattle.vl_model.specs.declared.counter.Counter.TheVariants as counters
use Rattle.vl_model.specs.declared.log_frame.LogFrame.{LogFrame}
use Rattle.vl_seglog.specs.declared.sealed.SealedLog.{SealedLog}
use Rattle.vl_stats.specs.Tallies.{length_of}
use Rattle.vl_version.specs.Shared.{IsSameLog}
use Rattle.vl_version.specs.declared.version.Version.{Version}
use Rattle.vl_space.specs.laws.CollectLaws.{IsAlike, alike_same, passed_alike, collects_alike}
use Rattle.vl_space.specs.laws.CollectLaws.{collects_kept, tallies_made}

-- ---- what a call came to

-- by what it came to in another respect
pub decides_too : {A : Type 0} (S T : History → Layout → Type 0) (h : History) (l : Layout) (ruling : Ruling A) (otherwise : Otherwise)
    (outcome : Outcome A) (effects : Effects) → Decides S h l ruling otherwise outcome effects
    → ((a : A) → outcome ≡ Answered a → ruling.answer ≡ a → T ruling.history ruling.layout)
    → (outcome ≡ NoMemory → T h otherwise.short)
    → ((name : FileName) → outcome ≡ Failed name → T h (halted_at name otherwise.lost))
    → ((name : FileName) (place : ℕ) → outcome ≡ Damaged name place → T h l)
    → Decides T h l ruling otherwise outcome effects
decides_too S T h l ruling otherwise outcome effects is done short lost left = record {
  answered = λ a same. let so = is.answered a same in (so.0, done a same (sym so.0));
  did = is.did;
  no_memory = λ same. (short same, (is.no_memory same).1);
  failed = λ name same. ((is.failed name same).0, lost name same);
  damaged = λ name place same. (left name place same, (is.damaged name place same).1);
}

-- ---- steps

-- What a step leaves that isn't done, and that it leaves the pass.
pub record LeavesAll (l : Layout) (ruling : Ruling StepAnswer) : Type 0 where
  pub alike : ((n : ℕ) → ruling.answer ≡ Stepped n → ⊥) → IsAlike l ruling.layout
  pub pass : ruling.layout.pass ≡ l.pass

rotate_by : (l : Layout) (h : History) (P : Ruling StepAnswer → Type 0) → ((a : StepAnswer) → P (leaving a h l))
    → P (record { answer = Stepped l.active.number; history = h; layout = rotated l; calls = 3; gone = [] }) → P (rotate_ruling l h)
rotate_by l h P left step = by l.halted
  where
    versioned : (b : Bool) → P (if b then leaving (Exhausted counters.Version) h l
        else record { answer = Stepped l.active.number; history = h; layout = rotated l; calls = 3; gone = [] })
    versioned true = left (Exhausted counters.Version)
    versioned false = step

    numbered : (b : Bool) → P (if b then leaving (Exhausted counters.Log) h l
        else (if has_no_epoch l then leaving (Exhausted counters.Version) h l
        else record { answer = Stepped l.active.number; history = h; layout = rotated l; calls = 3; gone = [] }))
    numbered true = left (Exhausted counters.Log)
    numbered false = versioned (has_no_epoch l)

    framed : (fs : List LogFrame) → P (rotate_of fs l h)
    framed [] = left Idle
    framed (f ∷ fs) = numbered (has_no_number l.next_log 1)

    by : (o : Option FileName) → P (rotate_unless o l h)
    by None = framed l.active.frames
    by (Some name) = left (Halted name)

pub flush_by : (l : Layout) (h : History) (P : Ruling StepAnswer → Type 0)
    → ((a : StepAnswer) → ((n : ℕ) → a ≡ Stepped n → ⊥) → P (leaving a h l))
    → ((s : Segment) → l.halted ≡ None → oldest l.frozen ≡ Some s
    → P (record { answer = Stepped l.next_table; history = h; layout = flushed l s; calls = 5; gone = [] }))
    → P (flush_ruling l h)
flush_by l h P left step = by l.halted refl
  where
    Made : Segment → Ruling StepAnswer
    Made s = record { answer = Stepped l.next_table; history = h; layout = flushed l s; calls = 5; gone = [] }

    versioned : (s : Segment) (b : Bool) → P (Made s) → P (if b then leaving (Exhausted counters.Version) h l else Made s)
    versioned s true done = left (Exhausted counters.Version) (λ n e. cc)
    versioned s false done = done

    numbered : (s : Segment) (b : Bool) → P (Made s) → P (if b then leaving (Exhausted counters.Table) h l
        else (if has_no_epoch l then leaving (Exhausted counters.Version) h l else Made s))
    numbered s true done = left (Exhausted counters.Table) (λ n e. cc)
    numbered s false done = versioned s (has_no_epoch l) done

    waiting : l.halted ≡ None → (o : Option Segment) → oldest l.frozen ≡ o → P (flush_of l h o)
    waiting runs None at = left Idle (λ n e. cc)
    waiting runs (Some s) at = numbered s (has_no_number l.next_table 1) (step s runs at)

    by : (o : Option FileName) → l.halted ≡ o → P (flush_unless o l h)
    by None runs = waiting runs (oldest l.frozen) refl
    by (Some name) fails = left (Halted name) (λ n e. cc)

pub rotate_leaves : (l : Layout) (h : History) → LeavesAll l (rotate_ruling l h)
rotate_leaves l h = rotate_by l h (LeavesAll l) (λ a. record { alike = λ no. alike_same l; pass = refl })
    (record { alike = λ no. absurd (no l.active.number refl); pass = refl })

pub flush_leaves : (l : Layout) (h : History) → LeavesAll l (flush_ruling l h)
flush_leaves l h = flush_by l h (LeavesAll l) (λ a other. record { alike = λ no. alike_same l; pass = refl })
    (λ s runs at. record { alike = λ no. absurd (no l.next_table refl); pass = refl })

abbrev switching : Layout → Segment → Layout
switching l s = record l {
  frozen = but_oldest l.frozen;
  flushed = s ∷ l.flushed;
  levels = in_front (flushed_table l s) l.levels;
  covered = covered_by s.frames l.covered;
  next_table = l.next_table + 1;
  epoch = l.epoch + 1;
}

-- The log that a flush takes can be read, as those whose memtables are kept.
pub flush_readable : (l : Layout) (h : History) → AreReadable l → (l.halted ≡ None → AreLogFiles l) → AreReadable (flush_ruling l h).layout
flush_readable l h is files = flush_by l h (λ r. AreReadable r.layout) (λ a other. is)
    (λ s runs at. all_filtered IsLogFile (λ (x : Segment). not (is_idle (switching l s) x)) (s ∷ l.flushed)
    (oldest_readable l.frozen s at (files runs).1, is))

pub rotate_readable : (l : Layout) (h : History) → AreReadable l → AreReadable (rotate_ruling l h).layout
rotate_readable l h is = rotate_by l h (λ r. AreReadable r.layout) (λ a. is) is

pub flush_history : (l : Layout) (h : History) → (flush_ruling l h).history ≡ h
flush_history l h = flush_by l h (λ r. r.history ≡ h) (λ a other. refl) (λ s runs at. refl)

module _ {H : Type 0} (core : Core H) (kept : Collecting) (S : History → Layout → Type 0) (h : History) (l : Layout)
    (ruling : Ruling StepAnswer) (leaves : LeavesAll l ruling) (effects : Effects) where
  abbrev So : History → Layout → Type 0
  So k x = Collects core kept x

  -- it wasn't done, and what is kept is still the layout's
  pub step_left : Collects core kept l → (result : Result (Option ℕ) StepFail) → ((n : ℕ) → result ≡ Ok (Some n) → ⊥)
      → Decides S h l ruling (as_before l l) (step_outcome result) effects
      → Decides So h l ruling (as_before l l) (step_outcome result) effects
  step_left has result undone is =
      decides_too S So h l ruling (as_before l l) (step_outcome result) effects is
      (λ a same answer. collects_alike core kept l ruling.layout
      (leaves.alike (λ n stepped. no result undone n (same ∙ ap Answered (sym answer ∙ stepped)))) has)
      (λ same. has)
      (λ name same. collects_alike core kept l (halted_at name l)
      (record { frozen = refl; flushed = refl; levels = refl; pass = refl }) has)
      (λ name place same. has)
    where
      no : (r : Result (Option ℕ) StepFail) → ((n : ℕ) → r ≡ Ok (Some n) → ⊥) → (n : ℕ) → step_outcome r ≡ Answered (Stepped n) → ⊥
      no (Ok (Some m)) other n e = other m refl
      no (Ok None) other n e = cc
      no (Err (fails.Halted name)) other n e = cc
      no (Err (fails.Exhausted counter)) other n e = cc
      no (Err fails.NoMemory) other n e = cc
      no (Err (fails.Disk name)) other n e = cc

  -- it was done, and what is kept is that of the layout behind it
  pub step_done : (n : ℕ) → (ruling.answer ≡ Stepped n → IsTallied kept.tally ruling.layout) → kept.passing ≡ passed_in l
      → AreReadable ruling.layout → Decides S h l ruling (as_before l l) (step_outcome (Ok (Some n))) effects
      → Decides So h l ruling (as_before l l) (step_outcome (Ok (Some n))) effects
  step_done n tallied passing readable is =
      decides_too S So h l ruling (as_before l l) (Answered (Stepped n)) effects is
      (λ a same answer. record {
        tally = tallies_made core.version.behind.logs.items kept.tally ruling.layout (tallied (answer ∙ sym (one a same)));
        passing = passing ∙ passed_alike l.pass ruling.layout.pass leaves.pass;
        readable = readable;
      })
      (λ same. absurd (none same))
      (λ name same. absurd (no_fail name same))
      (λ name place same. absurd (no_damage name place same))
    where
      one : (a : StepAnswer) → Answered (Stepped n) ≡ Answered a → Stepped n ≡ a
      one a e = cc

      none : Answered (Stepped n) ≡ NoMemory → ⊥
      none e = cc

      no_fail : (name : FileName) → Answered (Stepped n) ≡ Failed name → ⊥
      no_fail name e = cc

      no_damage : (name : FileName) (place : ℕ) → Answered (Stepped n) ≡ Damaged name place → ⊥
      no_damage name place e = cc

-- ---- rotations

pub refused_undone : {H : Type 0} (core : Core H) (result : Result (Option ℕ) StepFail) → IsRefusedSo core result
    → (n : ℕ) → result ≡ Ok (Some n) → ⊥
refused_undone core (Ok (Some m)) is n e = is
refused_undone core (Ok None) is n e = cc
refused_undone core (Err why) is n e = cc

err_undone : (why : StepFail) (result : Result (Option ℕ) StepFail) → result ≡ Err why → (n : ℕ) → result ≡ Ok (Some n) → ⊥
err_undone why result is n e = cc

rotate_same : {D H : Type 0} (g : Ghosts D) (bytes : H → Option (List ℕ)) (before after : Core H) (old new : D) (why : StepFail)
    → RotatesAs g bytes old new before after (Err why) → after.version ≡ before.version
rotate_same g bytes before after old new (fails.Halted name) did = absurd did
rotate_same g bytes before after old new (fails.Exhausted counter) did = absurd did
rotate_same g bytes before after old new fails.NoMemory did = did.0.version
rotate_same g bytes before after old new (fails.Disk name) did = did.version

pub rotate_collects : {D H : Type 0} (g : Ghosts D) (bytes : H → Option (List ℕ)) (before after : Core H) (old new : D)
    (was now : Collecting) (h : History) (l : Layout) → StandsFor bytes before h l → Collects before was l
    → (result : Result (Option ℕ) StepFail) → RotatesAs g bytes old new before after result → SealsFor bytes before was now result
    → (S : History → Layout → Type 0) (effects : Effects)
    → Decides S h l (rotate_ruling l h) (as_before l l) (step_outcome result) effects
    → Decides (λ k x. Collects after now x) h l (rotate_ruling l h) (as_before l l) (step_outcome result) effects
rotate_collects g bytes before after old new was now h l is has (Ok (Some n)) did seals S effects decides =
    step_done after now S h l (rotate_ruling l h) (rotate_leaves l h) effects n
    (λ stepped. seals.tallied h l n is has.tally stepped) (seals.passing ∙ has.passing) (rotate_readable l h has.readable) decides
rotate_collects g bytes before after old new was now h l is has (Ok None) did seals S effects decides = absurd did
rotate_collects {D} {H} g bytes before after old new was now h l is has (Err why) did seals S effects decides =
    step_left after now S h l (rotate_ruling l h) (rotate_leaves l h) effects
    (collects_kept bytes before after was now h l is
    (ap (λ (v : Version H). v.behind.logs.items) (rotate_same g bytes before after old new why did)) seals has)
    (Err why) (err_undone why (Err why) refl) decides

-- ---- flushes

flush_same : {D H : Type 0} (g : Ghosts D) (bytes : H → Option (List ℕ)) (before after : Core H) (old new : D) (why : StepFail)
    → FlushesAs g bytes old new before after (Err why) → after.version ≡ before.version
flush_same g bytes before after old new (fails.Halted name) did = absurd did
flush_same g bytes before after old new (fails.Exhausted counter) did = absurd did
flush_same {D} {H} g bytes before after old new fails.NoMemory did = ap (λ (c : Core H). c.version) did.0
flush_same g bytes before after old new (fails.Disk name) did = did.version

pub flush_collects : {D H : Type 0} (g : Ghosts D) (bytes : H → Option (List ℕ)) (before after : Core H) (old new : D)
    (was now : Collecting) (h : History) (l : Layout) → StandsFor bytes before h l → (l.halted ≡ None → AreLogFiles l)
    → Collects before was l
    → (result : Result (Option ℕ) StepFail) → FlushesAs g bytes old new before after result
    → FlushesFor bytes before was now after result → (effects : Effects)
    → Decides (StandsFor bytes after) h l (flush_ruling l h) (as_before l l) (step_outcome result) effects
    → Decides (λ k x. Collects after now x) h l (flush_ruling l h) (as_before l l) (step_outcome result) effects
flush_collects {D} {H} g bytes before after old new was now h l is files has (Ok (Some n)) did flushes effects decides =
    step_done after now (StandsFor bytes after) h l (flush_ruling l h) (flush_leaves l h) effects n
    (λ stepped. flushes.tallied h l n is has.tally stepped
    (subst (λ (k : History). StandsFor bytes after k (flush_ruling l h).layout) (flush_history l h)
    (decides.answered (Stepped n) refl).1))
    (flushes.passing ∙ has.passing) (flush_readable l h has.readable files) decides
flush_collects g bytes before after old new was now h l is files has (Ok None) did flushes effects decides = absurd did
flush_collects {D} {H} g bytes before after old new was now h l is files has (Err why) did flushes effects decides =
    step_left after now (StandsFor bytes after) h l (flush_ruling l h) (flush_leaves l h) effects
    (collects_kept bytes before after was now h l is
    (ap (λ (v : Version H). v.behind.logs.items) (flush_same g bytes before after old new why did)) flushes has)
    (Err why) (err_undone why (Err why) refl) decides

-- ---- which pass is open

module _ {H : Type 0} (bytes : H → Option (List ℕ)) (before after : Core H) (was now : Collecting) where
  pub rotate_passes : (result : Result (Option ℕ) StepFail) → SealsFor bytes before was now result → now.passing ≡ was.passing
  rotate_passes (Ok (Some n)) is = is.passing
  rotate_passes (Ok None) is = absurd is
  rotate_passes (Err why) is = is.passing

  pub flush_passes : (result : Result (Option ℕ) StepFail) → FlushesFor bytes before was now after result
      → now.passing ≡ was.passing
  flush_passes (Ok (Some n)) is = is.passing
  flush_passes (Ok None) is = absurd is
  flush_passes (Err why) is = is.passing

-- ---- the active log, and the one that is found

pub active_is : {H : Type 0} (core : Core H) (h : History) (l : Layout) → Fronts core h l
    → (core.front.log.number, core.front.log.length) ≡ length_of l.active
active_is core h l is =
    ap (λ (n : ℕ). (n, core.front.log.length)) is.number ∙ ap (λ (n : ℕ). (l.active.number, n)) is.length_is

pub found_same : {H : Type 0} (bytes : H → Option (List ℕ)) (a b x : SealedLog H) (o : Option (SealedLog H)) → Some a ≡ o → o ≡ Some b
    → IsSameLog bytes a x → IsSameLog bytes b x
found_same {H} bytes a b x o there at is = subst (λ (y : SealedLog H). IsSameLog bytes y x) (one (there ∙ at)) is
  where
    one : Some a ≡ Some b → a ≡ b
    one e = cc
