-- A flush is answered as its ruling has it, and carried out so.
use Rattle.std.proofs.Common.{◌≡◌, ◌⊎◌, ap, sym, ◌∙◌, subst, arith}
use Rattle.std.specs.Prelude.{ℕ, Result, OnOk}
use Rattle.vl_disk.specs.declared.name.Name.TheVariants as names
use Rattle.vl_space.specs.Collecting.{Collects}
use Rattle.vl_steps.specs.Stepping.{step_outcome}
use Rattle.vl_engine_model.specs.Ruling.{Ruling, StepAnswer}
use Rattle.vl_engine_model.specs.Rulings.Flush.{flush_ruling}
use Rattle.vl_engine_model.specs.Store.Dispatch.{step_by, step_told}
use Rattle.vl_script_model.specs.Halts.{HaltsByRead}
use Rattle.vl_replay_laws.specs.Replaying.{MakesStep}
use Rattle.vl_script_model.specs.Sequential.{files_behind, history_of}
use Rattle.vl_script_model.specs.declared.fails.Halt.{Halt}
use Rattle.vl_script_model.specs.laws.Laws.{state_after-sound}
use Rattle.vl_script.specs.declared.answer.Answer.{Answer}
use Rattle.vl_script.specs.declared.line.Line.TheVariants as lines
use Rattle.vl_replay_laws.specs.laws.Disk.Stepped.{failed_at, halted_at, flush_made, flush_named, step_carries}
use Rattle.vl_replay_laws.specs.laws.Names.Serving.{decides_all, represents}
use Rattle.vl_replay_laws.specs.laws.Names.StepMaking.{flush_leaves, may_go, step_cause, step_makes, step_sound}
use Rattle.vl_engine_laws.specs.laws.FlushRulings.{flush_made as flush_ruled, flush_made_so, flush_waits}
use Rattle.vl_script_model.specs.laws.Torn.{flush_torn}
use Rattle.vl_replay_laws.specs.laws.Passes.Stepping.{step_leaves}
use Rattle.vl_space.specs.Removing.{Removes}
use Rattle.vl_replay.proofs.AsCalled.Lines.{step_reads_well}
use Rattle.vl_replay.proofs.replayer.Served.flush.Goals as goal

pub returns-clause-makes : goal.returns-clause-makes
returns-clause-makes g c s stands =
    let bytes = g.D.Held.HeldFile.bytes in
    let core = c.args.self.now.engine.core in
    let seen = g.D.Watched.told c.args.self.now.engine.disk in
    let now = g.D.Watched.told c.flush.new.self.disk in
    let then = c.flush.new.self.core in
    let os = c.args.self.now.opens.items in
    let h = history_of s in
    let l = s.store.layout in
    let fits = stands.fits.running stands.running in
    let decides = decides_all bytes now s.openable then h l (flush_ruling l h) _ (step_outcome c.flush.result) _
    (c.flush.ensures.stands fits.state h l fits.told_is stands.engine (λ running. (fits.numbers, fits.files)))
    (c.flush.ensures.fits h l stands.engine stands.fits)
    (λ openable. (c.flush.ensures.carries h l (represents bytes seen core os s stands openable)).decides) in
    subst (λ (x : Result Answer Halt). MakesStep bytes now then os s (step_by s.store (flush_ruling l h)) x) (sym c.step_answer.ensures)
    (step_makes bytes seen now core then os s stands (flush_ruling l h) (flush_leaves l h)
    (state_after-sound s lines.Flush stands.sound) _ _ c.flush.result decides (λ fine. c.flush.ensures.within fine stands.within))

pub returns-clause-sound : goal.returns-clause-sound
returns-clause-sound g c s stands halts =
    let bytes = g.D.Held.HeldFile.bytes in
    let core = c.args.self.now.engine.core in
    let seen = g.D.Watched.told c.args.self.now.engine.disk in
    let now = g.D.Watched.told c.flush.new.self.disk in
    let then = c.flush.new.self.core in
    let os = c.args.self.now.opens.items in
    let h = history_of s in
    let l = s.store.layout in
    let fits = stands.fits.running stands.running in
    let decides = decides_all bytes now s.openable then h l (flush_ruling l h) _ (step_outcome c.flush.result) _
    (c.flush.ensures.stands fits.state h l fits.told_is stands.engine (λ running. (fits.numbers, fits.files)))
    (c.flush.ensures.fits h l stands.engine stands.fits)
    (λ openable. (c.flush.ensures.carries h l (represents bytes seen core os s stands openable)).decides) in
    step_sound bytes seen now core then os s stands (flush_ruling l h) (flush_leaves l h)
    (state_after-sound s lines.Flush stands.sound) _ _ c.flush.result decides
    (subst (λ (x : Result Answer Halt). HaltsByRead x) c.step_answer.ensures halts)

pub returns-clause-cause : goal.returns-clause-cause
returns-clause-cause g c = step_cause c.flush.result c.step_answer.result c.step_answer.ensures _ _ c.flush.ensures.cause

pub returns-clause-named : goal.returns-clause-named
returns-clause-named g c s file stands is =
    let fits = stands.fits.running stands.running in
    let either = flush_named _ _ _ _ file (c.flush.ensures.stopped file (halted_at c.flush.result file (sym c.step_answer.ensures ∙ is))) in
    subst (λ (n : ℕ). (file ≡ names.Table n) ⊎ (file ≡ names.Manifest c.args.self.now.engine.core.back.manifest.number))
    fits.numbers.next_table either

pub returns-clause-carries : goal.returns-clause-carries
returns-clause-carries g c s stands =
    let bytes = g.D.Held.HeldFile.bytes in
    let core = c.args.self.now.engine.core in
    let seen = g.D.Watched.told c.args.self.now.engine.disk in
    let now = g.D.Watched.told c.flush.new.self.disk in
    let then = c.flush.new.self.core in
    let os = c.args.self.now.opens.items in
    let h = history_of s in
    let l = s.store.layout in
    let fits = stands.fits.running stands.running in
    let decides = decides_all bytes now s.openable then h l (flush_ruling l h) _ (step_outcome c.flush.result) _
    (c.flush.ensures.stands fits.state h l fits.told_is stands.engine (λ running. (fits.numbers, fits.files)))
    (c.flush.ensures.fits h l stands.engine stands.fits)
    (λ openable. (c.flush.ensures.carries h l (represents bytes seen core os s stands openable)).decides) in
    step_carries g.D.Watched (record { only_now = g.met.D.Disk.only_now; counts_now = g.met.D.Disk.counts_now }) bytes core then
    c.args.self.now.engine.disk c.flush.new.self.disk os s stands (flush_ruling l h) (flush_leaves l h) 5
    (names.Table core.back.state.next_table) c.flush.result
    (record {
      effects = _;
      carries = λ represented. c.flush.ensures.carries h l represented;
      untouched = c.flush.ensures.untouched;
      files = c.flush.ensures.files;
      near = λ disk stored. (let next = fits.numbers.next_table in let up = stored.next_drawn in omega (arith, next, up));
      within = λ fine. c.flush.ensures.within fine stands.within;
      sound = (step_sound bytes seen now core then os s stands (flush_ruling l h) (flush_leaves l h)
          (state_after-sound s lines.Flush stands.sound) _ _ c.flush.result decides);
      stops = λ failed.
          let (file, is) = failed_at c.flush.result failed in
          let (made, most, calls) = flush_made _ _ _ _ file (c.flush.ensures.stopped file is) in
          let may = c.flush.ensures.failed failed in
          let (first, waits) = flush_waits core.back l h stands.running stands.engine.fronts.version fits.numbers may.waits in
          let ruled : flush_ruled l h first ≡ flush_ruling l h = flush_made_so core.back l h stands.running
          stands.engine.fronts.version fits.numbers
          (may_go core.back may) first waits in
          record {
            ruled = sym (ap (λ (r : Ruling StepAnswer). r.calls) ruled);
            one = sym (ap (λ (r : Ruling StepAnswer). files_behind (step_told r.answer) s.files) ruled);
            some = omega arith;
            made = made;
            most = most;
            calls = calls;
            numbers = λ represented state told. c.flush.ensures.leaves h l state represented stands.within failed told;
            torn = λ represented state told. flush_torn g.D.Watched
                (record { only_now = g.met.D.Disk.only_now; counts_now = g.met.D.Disk.counts_now })
                bytes core h l c.args.self.now.engine.disk c.flush.new.self.disk represented stands.running
                (c.flush.ensures.meanwhile failed).0 (c.flush.ensures.meanwhile failed).1 state told;
          };
    })
    c.step_answer.result c.step_answer.ensures

pub returns-clause-collects : goal.returns-clause-collects
returns-clause-collects g c s stands collects =
    let new = c.flush.new.self in
    let h = history_of s in
    let l = s.store.layout in
    let fits = stands.fits.running stands.running in
    subst (λ (x : Result Answer Halt). OnOk x (Collects new.core new.collecting (flush_ruling l h).layout)) (sym c.step_answer.ensures)
    (step_leaves (λ _ m. Collects new.core new.collecting m) h l (flush_ruling l h) _ _ c.flush.result
    (c.flush.ensures.collects fits.state h l fits.told_is stands.engine (λ running. (fits.numbers, fits.files)) collects))

pub returns-clause-removes : goal.returns-clause-removes
returns-clause-removes g c s stands collects =
    let new = c.flush.new.self in
    let h = history_of s in
    let l = s.store.layout in
    let fits = stands.serves.fits.running stands.serves.running in
    subst (λ (x : Result Answer Halt). OnOk x (Removes new.core new.removing (flush_ruling l h).layout)) (sym c.step_answer.ensures)
    (step_leaves (λ _ m. Removes new.core new.removing m) h l (flush_ruling l h) _ _ c.flush.result
    (c.flush.ensures.removes fits.state h l fits.told_is stands.serves.engine stands.opens (λ running. (fits.numbers, fits.files))
    collects
    stands.removes))

pub returns-clause-reads_well : goal.returns-clause-reads_well
returns-clause-reads_well g c = step_reads_well c.flush.result c.step_answer.result c.step_answer.ensures
