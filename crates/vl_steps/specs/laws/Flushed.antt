-- What a flush is answered, by the ruling on it: where no table is made, and where one is to be made, whatever that came to.
use Rattle.std.specs.Prelude.{◌≡◌, ℕ, List, Option, None, Some, Result, Ok, Err, OnOk, refl}
use Rattle.std.specs.Option.{option_map}
use Rattle.std.proofs.Common.{sym, ap, subst, ◌∙◌}
use Rattle.vl_back.specs.Deciding.{MayFlush, flush_decision}
use Rattle.vl_back.specs.declared.decision.Decision.TheVariants as decisions
use Rattle.vl_back.specs.declared.decision.Decision.{Decision}
use Rattle.vl_back.specs.declared.flush.StagedFlush.{StagedFlush}
use Rattle.vl_disk.specs.Calls.{ChangesNothing}
use Rattle.vl_disk.specs.Disk.{IsChangedBy}
use Rattle.vl_disk.specs.DiskState.{DiskState}
use Rattle.vl_disk.specs.Faults.{after_calls}
use Rattle.vl_disk.specs.declared.name.Name.{Name}
use Rattle.vl_disk.specs.declared.watched.Watched.{Ghosts}
use Rattle.vl_engine_laws.specs.laws.Carrying.{IsWatched, carries_leaving, carries_no_memory, extends_itself}
use Rattle.vl_steps.specs.laws.Committing.{decides_answered, decides_failed, decides_short}
use Rattle.vl_engine_laws.specs.laws.FlushKeeps.{KeepsAsMany, as_many, kept_flushed}
use Rattle.vl_steps.specs.laws.FlushSteps.{carries_flushed, carries_unflushed, files_held, fronts_flushed}
use Rattle.vl_steps.specs.laws.FlushSteps.{fronts_unflushed, numbers_held, stands_flushed, stands_unflushed}
use Rattle.vl_engine_laws.specs.Carries.{Carries}
use Rattle.vl_steps.specs.Flushing.{FlushesAs}
use Rattle.vl_engine_laws.specs.FlushFacts.{IsFlushWritten, IsStagedOf, IsTableMade, StopsFlushing, WritesFlush}
use Rattle.vl_steps.specs.Flushing.{flush_effects}
use Rattle.vl_engine_laws.specs.FlushFacts.{flush_written}
use Rattle.vl_engine_laws.specs.Represents.{Fronts, Represents, StandsFor, file_of}
use Rattle.vl_steps.specs.Stepping.{StepFailed, StepLeavesDisk, step_outcome}
use Rattle.vl_engine_laws.specs.MayStep.{AreLogFiles, HasNumbers}
use Rattle.vl_steps.specs.declared.fails.StepFail.TheVariants as fails
use Rattle.vl_steps.specs.declared.fails.StepFail.{StepFail}
use Rattle.vl_engine_laws.specs.declared.kept.Core.{Core}
use Rattle.vl_engine_laws.specs.laws.FlushRulings.{flush_halted, flush_made, flush_made_so, flush_ruled, flush_ruled_so, flush_waits}
use Rattle.vl_engine_model.specs.Decides.{Answered, Decides, Failed, NoMemory, as_before, no_effects}
use Rattle.vl_engine_model.specs.Ruling.{Exhausted, Halted, Idle, Ruling, StepAnswer, Stepped, leaving}
use Rattle.vl_engine_model.specs.Rulings.Flush.{flush_ruling}
use Rattle.vl_engine_model.specs.Sources.{oldest}
use Rattle.vl_engine_model.specs.declared.layout.Layout.{Layout}
use Rattle.vl_engine_model.specs.declared.segment.Segment.{Segment}
use Rattle.vl_model.specs.History.{Extends, History}
use Rattle.vl_model.specs.declared.counter.Counter.{Counter}

-- ---- whether one is to be made

module _ {H : Type 0} (core : Core H) (h : History) (l : Layout) (is : Fronts core h l) where
  pub ruled_halted : (name : Name) → core.front.halted ≡ Some name → leaving (Halted (file_of name)) h l ≡ flush_ruling l h
  ruled_halted name halted = flush_halted l h (file_of name) (sym is.halted ∙ ap (option_map file_of) halted)

  pub runs_on : core.front.halted ≡ None → l.halted ≡ None
  runs_on none = sym is.halted ∙ ap (option_map file_of) none

  module _ (none : core.front.halted ≡ None) (has : HasNumbers core.back l) where
    pub ruled_idle : flush_decision core.back ≡ decisions.Idle → leaving Idle h l ≡ flush_ruling l h
    ruled_idle decided = sym (ap (λ (d : Decision). flush_ruled d l h) decided)
        ∙ flush_ruled_so core.back l h (runs_on none) is.version has

    pub ruled_exhausted : (c : Counter) → flush_decision core.back ≡ decisions.Exhausted c
        → leaving (Exhausted c) h l ≡ flush_ruling l h
    ruled_exhausted c decided = sym (ap (λ (d : Decision). flush_ruled d l h) decided)
        ∙ flush_ruled_so core.back l h (runs_on none) is.version has

-- ---- nothing was changed

module _ {D : Type 0} (g : Ghosts D) (watched : IsWatched g) {H : Type 0} (bytes : H → Option (List ℕ)) (core : Core H)
    (h : History) (l : Layout) where
  -- it was answered without the disk
  pub carries_leaving_flush : (disk : D) (answer : StepAnswer) → leaving answer h l ≡ flush_ruling l h
      → Represents bytes core (g.told disk) h l
      → Carries g bytes disk disk core h l (flush_ruling l h) (as_before l l) (Answered answer) no_effects
  carries_leaving_flush disk answer ruled is =
      subst (λ (r : Ruling StepAnswer). Carries g bytes disk disk core h l r (as_before l l) (Answered answer) no_effects) ruled
      (carries_leaving g watched bytes core core h l disk answer l (as_before l l) is is)

  -- memory ran out
  pub carries_short_flush : (old new : D) (ruling : Ruling StepAnswer) → ruling.history ≡ h → ChangesNothing g old new ⊥
      → Represents bytes core (g.told old) h l
      → Carries g bytes old new core h l ruling (as_before l l) NoMemory no_effects
  carries_short_flush old new ruling same quiet is =
      carries_no_memory g watched bytes core core h l old new ⊥ ruling l quiet
      (subst (Extends h) (sym same) (extends_itself h)) refl is is.stands

-- ---- a table was to be made

module _ {D H : Type 0} (g : Ghosts D) (bytes : H → Option (List ℕ)) (before after : Core H) (old new : D) where
  pub untouched_by : (result : Result (Option ℕ) StepFail) → FlushesAs g bytes old new before after result
      → StepLeavesDisk result → ChangesNothing g old new ⊥
  untouched_by (Ok (Some number)) did leaves = absurd leaves
  untouched_by (Ok None) did leaves = absurd did
  untouched_by (Err (fails.Halted name)) did leaves = absurd did
  untouched_by (Err (fails.Exhausted counter)) did leaves = absurd did
  untouched_by (Err fails.NoMemory) did leaves = did.1
  untouched_by (Err (fails.Disk name)) did leaves = absurd leaves

  -- where it failed the table was made and named in part
  pub writes_by : (result : Result (Option ℕ) StepFail) → FlushesAs g bytes old new before after result → StepFailed result
      → (staged : StagedFlush) × IsStagedOf before staged × WritesFlush g before staged old new
  writes_by (Ok (Some number)) did failed = absurd failed
  writes_by (Ok None) did failed = absurd failed
  writes_by (Err (fails.Halted name)) did failed = absurd failed
  writes_by (Err (fails.Exhausted counter)) did failed = absurd failed
  writes_by (Err fails.NoMemory) did failed = absurd failed
  writes_by (Err (fails.Disk name)) did failed = (did.staged, did.of, did.writes)

  pub stopped_by : (result : Result (Option ℕ) StepFail) → FlushesAs g bytes old new before after result
      → (name : Name) → result ≡ Err (fails.Disk name)
      → StopsFlushing before.back.state.next_table before.back.manifest.number (g.calls old) (g.calls new) name
  stopped_by (Ok (Some number)) did name failed = absurd cc
  stopped_by (Ok None) did name failed = absurd did
  stopped_by (Err (fails.Halted at)) did name failed = absurd did
  stopped_by (Err (fails.Exhausted counter)) did name failed = absurd did
  stopped_by (Err fails.NoMemory) did name failed = absurd cc
  stopped_by (Err (fails.Disk at)) did name failed =
      let same : at ≡ name = cc in
      subst (StopsFlushing before.back.state.next_table before.back.manifest.number (g.calls old) (g.calls new)) same did.stops

  pub written_by : (result : Result (Option ℕ) StepFail) → FlushesAs g bytes old new before after result
      → (number : ℕ) → result ≡ Ok (Some number) → IsFlushWritten before number (g.told old) (g.told new)
  written_by (Ok (Some made)) did number is =
      let same : made ≡ number = cc in
      record {
        number_is = sym same ∙ did.0;
        staged = did.1.staged;
        of = did.1.of;
        changed = subst (λ (told : Option DiskState). IsChangedBy (flush_written before did.1.staged) told (g.told new))
            did.1.writes.before.told did.1.changed;
      }
  written_by (Ok None) did number is = absurd did
  written_by (Err (fails.Halted at)) did number is = absurd did
  written_by (Err (fails.Exhausted counter)) did number is = absurd did
  written_by (Err fails.NoMemory) did number is = absurd cc
  written_by (Err (fails.Disk at)) did number is = absurd cc

  pub calls_by : (result : Result (Option ℕ) StepFail) → FlushesAs g bytes old new before after result
      → OnOk result (g.calls new ≡ after_calls (flush_effects result).calls (g.calls old))
  calls_by (Ok (Some number)) did = did.1.calls ∙ ap (after_calls 5) did.1.writes.before.calls
  calls_by (Ok None) did = absurd did
  calls_by (Err why) did = tt

  module _ (h : History) (l : Layout) (none : before.front.halted ≡ None) (may : MayFlush before.back)
      (decided : flush_decision before.back ≡ decisions.Go) where
    -- so many versions are kept as before
    kept_by : IsTableMade g bytes old new before after → KeepsAsMany before.back.state after.back.state
    kept_by made = kept_flushed before.front.log.number before.back made.staged.state after.back.state may.waits
        made.of.is.says made.back.state

    -- the log that is flushed, and the ruling on that
    pub record IsRuledOn : Type 0 where
      pub log : Segment
      pub first : oldest l.frozen ≡ Some log
      pub ruled : flush_made l h log ≡ flush_ruling l h

    pub ruled_on : Fronts before h l → HasNumbers before.back l → IsRuledOn
    ruled_on is has =
        let (s, first) = flush_waits before.back l h (runs_on before h l is none) is.version has may.waits in
        record {
          log = s;
          first = first;
          ruled = flush_made_so before.back l h (runs_on before h l is none) is.version has decided s first;
        }

    pub fronts_by : Fronts before h l → HasNumbers before.back l → (result : Result (Option ℕ) StepFail)
        → FlushesAs g bytes old new before after result
        → Decides (Fronts after) h l (flush_ruling l h) (as_before l l) (step_outcome result) (flush_effects result)
    fronts_by is has (Ok (Some number)) did =
        let on = ruled_on is has in
        subst (λ (r : Ruling StepAnswer). Decides (Fronts after) h l r (as_before l l) (Answered (Stepped number))
        (record no_effects { calls = 5 })) on.ruled
        (decides_answered (Fronts after) h l (flush_made l h on.log) (as_before l l) (Stepped number) (record no_effects { calls = 5 })
        (ap Stepped (did.0 ∙ has.next_table)) refl
        (fronts_flushed before after h l on.log did.1.front did.1.back.version (kept_by did.1) is))
    fronts_by is has (Ok None) did = absurd did
    fronts_by is has (Err (fails.Halted name)) did = absurd did
    fronts_by is has (Err (fails.Exhausted counter)) did = absurd did
    fronts_by is has (Err fails.NoMemory) did =
        decides_short (Fronts after) h l (flush_ruling l h) l (subst (λ (c : Core H). Fronts c h l) (sym did.0) is)
    fronts_by is has (Err (fails.Disk name)) did =
        decides_failed (Fronts after) h l (flush_ruling l h) l (file_of name) no_effects (runs_on before h l is none)
        (fronts_unflushed before after h l name did.front did.epoch (as_many did.state) is)

    pub stands_by : (state : DiskState) → g.told old ≡ Some state → StandsFor bytes before h l → HasNumbers before.back l
        → AreLogFiles l → (result : Result (Option ℕ) StepFail) → FlushesAs g bytes old new before after result
        → Decides (StandsFor bytes after) h l (flush_ruling l h) (as_before l l) (step_outcome result) (flush_effects result)
    stands_by state told is has files (Ok (Some number)) did =
        let on = ruled_on is.fronts has in
        subst (λ (r : Ruling StepAnswer). Decides (StandsFor bytes after) h l r (as_before l l) (Answered (Stepped number))
        (record no_effects { calls = 5 })) on.ruled
        (decides_answered (StandsFor bytes after) h l (flush_made l h on.log) (as_before l l) (Stepped number)
        (record no_effects { calls = 5 }) (ap Stepped (did.0 ∙ has.next_table)) refl
        (stands_flushed bytes before after h l is on.log on.first did.1.staged did.1.of has.next_table files
        (g.told did.1.writes.mid) state (did.1.writes.before.told ∙ told) did.1.table did.1.held did.1.version
        (fronts_flushed before after h l on.log did.1.front did.1.back.version (kept_by did.1) is.fronts)))
    stands_by state told is has files (Ok None) did = absurd did
    stands_by state told is has files (Err (fails.Halted name)) did = absurd did
    stands_by state told is has files (Err (fails.Exhausted counter)) did = absurd did
    stands_by state told is has files (Err fails.NoMemory) did =
        decides_short (StandsFor bytes after) h l (flush_ruling l h) l
        (subst (λ (c : Core H). StandsFor bytes c h l) (sym did.0) is)
    stands_by state told is has files (Err (fails.Disk name)) did =
        decides_failed (StandsFor bytes after) h l (flush_ruling l h) l (file_of name) no_effects (runs_on before h l is.fronts none)
        (stands_unflushed bytes before after h l is name did.version
        (fronts_unflushed before after h l name did.front did.epoch (as_many did.state) is.fronts))

    pub carries_by : IsWatched g → Represents bytes before (g.told old) h l → (result : Result (Option ℕ) StepFail)
        → FlushesAs g bytes old new before after result
        → Carries g bytes old new after h l (flush_ruling l h) (as_before l l) (step_outcome result) (flush_effects result)
    carries_by watched is (Ok (Some number)) did =
        let running = runs_on before h l is.stands.fronts none in
        let held = is.held running in
        let has = numbers_held before.back held.base l held.back_is in
        let on = ruled_on is.stands.fronts has in
        let made = did.1 in
        subst (λ (r : Ruling StepAnswer). Carries g bytes old new after h l r (as_before l l) (Answered (Stepped number))
        (record no_effects { calls = 5 })) on.ruled
        (subst (λ (n : ℕ). Carries g bytes old new after h l (flush_made l h on.log) (as_before l l) (Answered (Stepped n))
        (record no_effects { calls = 5 })) (sym (did.0 ∙ has.next_table))
        (carries_flushed g watched bytes before after h l old new is running on.log on.first made.staged made.of made.writes
        made.changed made.back made.calls
        (stands_flushed bytes before after h l is.stands on.log on.first made.staged made.of has.next_table
        (files_held g watched bytes before after h l old new is running on.log on.first made.staged made.of made.writes)
        (g.told made.writes.mid) held.state (made.writes.before.told ∙ held.told_is) made.table made.held made.version
        (fronts_flushed before after h l on.log made.front made.back.version (kept_by did.1) is.stands.fronts))))
    carries_by watched is (Ok None) did = absurd did
    carries_by watched is (Err (fails.Halted name)) did = absurd did
    carries_by watched is (Err (fails.Exhausted counter)) did = absurd did
    carries_by watched is (Err fails.NoMemory) did =
        let running = runs_on before h l is.stands.fronts none in
        let held = is.held running in
        let on = ruled_on is.stands.fronts (numbers_held before.back held.base l held.back_is) in
        subst (λ (c : Core H). Carries g bytes old new c h l (flush_ruling l h) (as_before l l) NoMemory no_effects) (sym did.0)
        (carries_short_flush g watched bytes before h l old new (flush_ruling l h)
        (ap (λ (r : Ruling StepAnswer). r.history) (sym on.ruled)) did.1 is)
    carries_by watched is (Err (fails.Disk name)) did =
        let running = runs_on before h l is.stands.fronts none in
        let held = is.held running in
        let on = ruled_on is.stands.fronts (numbers_held before.back held.base l held.back_is) in
        subst (λ (r : Ruling StepAnswer). Carries g bytes old new after h l r (as_before l l) (Failed (file_of name)) no_effects)
        on.ruled
        (carries_unflushed g watched bytes before after h l old new is running on.log on.first did.staged did.of did.writes name
        no_effects (stands_unflushed bytes before after h l is.stands name did.version
        (fronts_unflushed before after h l name did.front did.epoch (as_many did.state) is.stands.fronts)))
