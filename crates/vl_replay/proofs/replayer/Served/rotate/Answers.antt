-- A rotation is answered as its ruling has it, and carried out so.
use Rattle.std.proofs.Common.{◌≡◌, ◌⊎◌, ap, sym, ◌∙◌, subst, arith}
use Rattle.std.specs.Prelude.{ℕ, Result, OnOk}
use Rattle.vl_disk.specs.declared.name.Name.TheVariants as names
use Rattle.vl_space.specs.Collecting.{Collects}
use Rattle.vl_steps.specs.Stepping.{step_outcome}
use Rattle.vl_engine_model.specs.Ruling.{Ruling, StepAnswer}
use Rattle.vl_engine_model.specs.Rulings.Rotate.{rotate_ruling}
use Rattle.vl_engine_model.specs.Store.Dispatch.{step_by, step_told}
use Rattle.vl_script_model.specs.Halts.{HaltsByRead}
use Rattle.vl_replay_laws.specs.Replaying.{MakesStep}
use Rattle.vl_script_model.specs.Sequential.{files_behind, history_of}
use Rattle.vl_script_model.specs.declared.fails.Halt.{Halt}
use Rattle.vl_script_model.specs.laws.Laws.{state_after-sound}
use Rattle.vl_script.specs.declared.answer.Answer.{Answer}
use Rattle.vl_script.specs.declared.line.Line.TheVariants as lines
use Rattle.vl_replay_laws.specs.laws.Disk.Stepped.{failed_at, halted_at, rotate_made, rotate_named, step_carries}
use Rattle.vl_replay_laws.specs.laws.Names.Serving.{decides_all, represents}
use Rattle.vl_replay_laws.specs.laws.Names.StepMaking.{rotate_leaves, step_cause, step_makes, step_sound}
use Rattle.vl_engine_laws.specs.laws.RotateRulings.{made_ruled, rotate_made as rotate_ruled}
use Rattle.vl_script_model.specs.laws.Torn.{rotate_torn}
use Rattle.vl_replay_laws.specs.laws.Passes.Stepping.{step_leaves}
use Rattle.vl_space.specs.Removing.{Removes}
use Rattle.vl_replay.proofs.AsCalled.Lines.{step_reads_well}
use Rattle.vl_replay.proofs.replayer.Served.rotate.Goals as goal

pub returns-clause-makes : goal.returns-clause-makes
returns-clause-makes g c s stands =
    let bytes = g.D.Held.HeldFile.bytes in
    let core = c.args.self.now.engine.core in
    let seen = g.D.Watched.told c.args.self.now.engine.disk in
    let now = g.D.Watched.told c.rotate.new.self.disk in
    let then = c.rotate.new.self.core in
    let os = c.args.self.now.opens.items in
    let h = history_of s in
    let l = s.store.layout in
    let fits = stands.fits.running stands.running in
    let decides = decides_all bytes now s.openable then h l (rotate_ruling l h) _ (step_outcome c.rotate.result) _
    (c.rotate.ensures.stands fits.state h l fits.told_is stands.engine (λ running. (fits.numbers, fits.active)))
    (c.rotate.ensures.fits h l stands.engine stands.fits)
    (λ openable. (c.rotate.ensures.carries h l (represents bytes seen core os s stands openable)).decides) in
    subst (λ (x : Result Answer Halt). MakesStep bytes now then os s (step_by s.store (rotate_ruling l h)) x) (sym c.step_answer.ensures)
    (step_makes bytes seen now core then os s stands (rotate_ruling l h) (rotate_leaves l h)
    (state_after-sound s lines.Rotate stands.sound) _ _ c.rotate.result decides (λ fine. c.rotate.ensures.within fine stands.within))

pub returns-clause-sound : goal.returns-clause-sound
returns-clause-sound g c s stands halts =
    let bytes = g.D.Held.HeldFile.bytes in
    let core = c.args.self.now.engine.core in
    let seen = g.D.Watched.told c.args.self.now.engine.disk in
    let now = g.D.Watched.told c.rotate.new.self.disk in
    let then = c.rotate.new.self.core in
    let os = c.args.self.now.opens.items in
    let h = history_of s in
    let l = s.store.layout in
    let fits = stands.fits.running stands.running in
    let decides = decides_all bytes now s.openable then h l (rotate_ruling l h) _ (step_outcome c.rotate.result) _
    (c.rotate.ensures.stands fits.state h l fits.told_is stands.engine (λ running. (fits.numbers, fits.active)))
    (c.rotate.ensures.fits h l stands.engine stands.fits)
    (λ openable. (c.rotate.ensures.carries h l (represents bytes seen core os s stands openable)).decides) in
    step_sound bytes seen now core then os s stands (rotate_ruling l h) (rotate_leaves l h)
    (state_after-sound s lines.Rotate stands.sound) _ _ c.rotate.result decides
    (subst (λ (x : Result Answer Halt). HaltsByRead x) c.step_answer.ensures halts)

pub returns-clause-cause : goal.returns-clause-cause
returns-clause-cause g c = step_cause c.rotate.result c.step_answer.result c.step_answer.ensures _ _ c.rotate.ensures.cause

pub returns-clause-named : goal.returns-clause-named
returns-clause-named g c s file stands is =
    let fits = stands.fits.running stands.running in
    let either = rotate_named _ _ _ _ file (c.rotate.ensures.stopped file (halted_at c.rotate.result file (sym c.step_answer.ensures ∙ is))) in
    subst (λ (n : ℕ). (file ≡ names.Log n) ⊎ (file ≡ names.Log s.store.layout.next_log)) stands.engine.fronts.number
    (subst (λ (n : ℕ). (file ≡ names.Log c.args.self.now.engine.core.front.log.number) ⊎ (file ≡ names.Log n)) fits.numbers.next_log either)

pub returns-clause-carries : goal.returns-clause-carries
returns-clause-carries g c s stands =
    let bytes = g.D.Held.HeldFile.bytes in
    let core = c.args.self.now.engine.core in
    let seen = g.D.Watched.told c.args.self.now.engine.disk in
    let now = g.D.Watched.told c.rotate.new.self.disk in
    let then = c.rotate.new.self.core in
    let os = c.args.self.now.opens.items in
    let h = history_of s in
    let l = s.store.layout in
    let fits = stands.fits.running stands.running in
    let decides = decides_all bytes now s.openable then h l (rotate_ruling l h) _ (step_outcome c.rotate.result) _
    (c.rotate.ensures.stands fits.state h l fits.told_is stands.engine (λ running. (fits.numbers, fits.active)))
    (c.rotate.ensures.fits h l stands.engine stands.fits)
    (λ openable. (c.rotate.ensures.carries h l (represents bytes seen core os s stands openable)).decides) in
    step_carries g.D.Watched (record { only_now = g.met.D.Disk.only_now; counts_now = g.met.D.Disk.counts_now }) bytes core then
    c.args.self.now.engine.disk c.rotate.new.self.disk os s stands (rotate_ruling l h) (rotate_leaves l h) 3
    (names.Log core.back.next_log) c.rotate.result
    (record {
      effects = _;
      carries = λ represented. c.rotate.ensures.carries h l represented;
      untouched = c.rotate.ensures.untouched;
      files = c.rotate.ensures.files;
      near = λ disk stored. (let next = fits.numbers.next_log in let up = stored.next_log in omega (arith, next, up));
      within = λ fine. c.rotate.ensures.within fine stands.within;
      sound = (step_sound bytes seen now core then os s stands (rotate_ruling l h) (rotate_leaves l h)
          (state_after-sound s lines.Rotate stands.sound) _ _ c.rotate.result decides);
      stops = λ failed.
          let (file, is) = failed_at c.rotate.result failed in
          let (made, most, calls) = rotate_made _ _ _ _ file (c.rotate.ensures.stopped file is) in
          let may = c.rotate.ensures.failed failed in
          let long = may.long in
          let same_length = stands.engine.fronts.length_is in
          let next = fits.numbers.next_log in
          let left = may.may.log in
          let version = stands.engine.fronts.version in
          let below = may.may.version in
          let ruled : rotate_ruled l h ≡ rotate_ruling l h = made_ruled l h stands.engine.tidy.true_logs.0 stands.running
          (omega (arith, long, same_length)) (omega (arith, next, left)) (omega (arith, version, below)) in
          record {
            ruled = sym (ap (λ (r : Ruling StepAnswer). r.calls) ruled);
            one = sym (ap (λ (r : Ruling StepAnswer). files_behind (step_told r.answer) s.files) ruled);
            some = omega arith;
            made = made;
            most = most;
            calls = calls;
            numbers = λ represented state told. c.rotate.ensures.leaves h l state represented stands.within failed told;
            torn = λ represented state told. rotate_torn g.D.Watched
                (record { only_now = g.met.D.Disk.only_now; counts_now = g.met.D.Disk.counts_now })
                bytes core h l c.args.self.now.engine.disk c.rotate.new.self.disk represented stands.running
                (c.rotate.ensures.meanwhile failed) state told;
          };
    })
    c.step_answer.result c.step_answer.ensures

pub returns-clause-collects : goal.returns-clause-collects
returns-clause-collects g c s stands collects =
    let new = c.rotate.new.self in
    let h = history_of s in
    let l = s.store.layout in
    let fits = stands.fits.running stands.running in
    subst (λ (x : Result Answer Halt). OnOk x (Collects new.core new.collecting (rotate_ruling l h).layout)) (sym c.step_answer.ensures)
    (step_leaves (λ _ m. Collects new.core new.collecting m) h l (rotate_ruling l h) _ _ c.rotate.result
    (c.rotate.ensures.collects h l stands.engine (λ running. fits.numbers) collects))

pub returns-clause-removes : goal.returns-clause-removes
returns-clause-removes g c s stands =
    let new = c.rotate.new.self in
    let h = history_of s in
    let l = s.store.layout in
    let fits = stands.serves.fits.running stands.serves.running in
    subst (λ (x : Result Answer Halt). OnOk x (Removes new.core new.removing (rotate_ruling l h).layout)) (sym c.step_answer.ensures)
    (step_leaves (λ _ m. Removes new.core new.removing m) h l (rotate_ruling l h) _ _ c.rotate.result
    (c.rotate.ensures.removes h l stands.serves.engine stands.opens (λ running. fits.numbers) stands.removes))

pub returns-clause-reads_well : goal.returns-clause-reads_well
returns-clause-reads_well g c = step_reads_well c.rotate.result c.step_answer.result c.step_answer.ensures
