-- A sweep is answered as its ruling has it, and carried out so.
use Rattle.std.proofs.Common.{sym, ◌∙◌, subst}
use Rattle.std.specs.Prelude.{None, OnOk, Result}
use Rattle.vl_engine_laws.specs.Represents as engine
use Rattle.vl_space.specs.Collecting.{Collects}
use Rattle.vl_engine_laws.specs.Lent.{StandsOpen}
use Rattle.vl_space.specs.Sweeping.{sweep_outcome, up_to}
use Rattle.vl_engine_model.specs.Rulings.Sweep.{sweep_ruling}
use Rattle.vl_engine_model.specs.Store.Dispatch.{sweep_by}
use Rattle.vl_script_model.specs.Halts.{HaltsByRead}
use Rattle.vl_replay_laws.specs.Replaying.{MakesStep}
use Rattle.vl_script_model.specs.Sequential.{history_of}
use Rattle.vl_script_model.specs.declared.fails.Halt.{Halt}
use Rattle.vl_script_model.specs.laws.Laws.{state_after-sound}
use Rattle.vl_script.specs.declared.answer.Answer.{Answer}
use Rattle.vl_script.specs.declared.line.Line.TheVariants as lines
use Rattle.vl_space.specs.Removing.{Removes}
use Rattle.vl_replay_laws.specs.laws.Disk.Swept.{sweep_carries, sweep_named}
use Rattle.vl_replay_laws.specs.laws.Names.Serving.{decides_all, represents}
use Rattle.vl_replay_laws.specs.laws.Names.SweepMaking.{sweep_cause, sweep_leaves, sweep_makes, sweep_sound, sweep_sweeps}
use Rattle.vl_replay_laws.specs.laws.Passes.Moving.{decides_weaker}
use Rattle.vl_replay.proofs.AsCalled.Lines.{sweep_reads_well}
use Rattle.vl_space.specs.laws.Sweeps.Steady.{sweep_steady}
use Rattle.vl_replay.proofs.replayer.Served.sweep.Goals as goal

pub returns-clause-makes : goal.returns-clause-makes
returns-clause-makes g c s stands =
    let bytes = g.D.Held.HeldFile.bytes in
    let old = c.args.self.now.engine in
    let new = c.sweep.new.self in
    let seen = g.D.Watched.told old.disk in
    let now = g.D.Watched.told new.disk in
    let os = c.args.self.now.opens.items in
    let h = history_of s in
    let l = s.store.layout in
    let on = stands.serves in
    let opened : StandsOpen bytes old.core old.merging h l = record { stands = on.engine; opens = stands.opens } in
    let decides = decides_all bytes now s.openable new.core h l (sweep_ruling l h) _ (sweep_outcome c.sweep.result) _
    (decides_weaker (StandsOpen bytes new.core new.merging) (engine.StandsFor bytes new.core) (λ k m both. both.stands) h l _ _ _ _
    (c.sweep.ensures.stands h l opened stands.removes))
    (c.sweep.ensures.fits h l on.fits on.engine stands.removes)
    (λ openable. (c.sweep.ensures.carries h l (represents bytes seen old.core os s on openable) stands.removes).decides) in
    subst (λ (x : Result Answer Halt). MakesStep bytes now new.core os s (sweep_by s.store (sweep_ruling l h)) x) (sym c.sweep_answer.ensures)
    (sweep_makes bytes seen now old.core new.core os s on (sweep_ruling l h) (sweep_sweeps l h on.engine.tidy.files.once)
    (state_after-sound s lines.Sweep on.sound) _ _ c.sweep.result decides (c.sweep.ensures.within on.within))

pub returns-clause-removes : goal.returns-clause-removes
returns-clause-removes g c s stands =
    let new = c.sweep.new.self in
    let h = history_of s in
    let l = s.store.layout in
    subst (λ (x : Result Answer Halt). OnOk x (Removes new.core new.removing (sweep_ruling l h).layout)) (sym c.sweep_answer.ensures)
    (sweep_leaves (λ _ m. Removes new.core new.removing m) h l (sweep_ruling l h) _ _ c.sweep.result
    (c.sweep.ensures.removes h l stands.serves.engine stands.removes))

pub returns-clause-collects : goal.returns-clause-collects
returns-clause-collects g c s stands collects =
    let new = c.sweep.new.self in
    let h = history_of s in
    let l = s.store.layout in
    subst (λ (x : Result Answer Halt). OnOk x (Collects new.core new.collecting (sweep_ruling l h).layout)) (sym c.sweep_answer.ensures)
    (sweep_leaves (λ _ m. Collects new.core new.collecting m) h l (sweep_ruling l h) _ _ c.sweep.result
    (c.sweep.ensures.collects h l stands.serves.engine stands.removes collects))

pub returns-clause-sound : goal.returns-clause-sound
returns-clause-sound g c s stands halts =
    let bytes = g.D.Held.HeldFile.bytes in
    let old = c.args.self.now.engine in
    let new = c.sweep.new.self in
    let seen = g.D.Watched.told old.disk in
    let now = g.D.Watched.told new.disk in
    let os = c.args.self.now.opens.items in
    let h = history_of s in
    let l = s.store.layout in
    let on = stands.serves in
    let opened : StandsOpen bytes old.core old.merging h l = record { stands = on.engine; opens = stands.opens } in
    let decides = decides_all bytes now s.openable new.core h l (sweep_ruling l h) _ (sweep_outcome c.sweep.result) _
    (decides_weaker (StandsOpen bytes new.core new.merging) (engine.StandsFor bytes new.core) (λ k m both. both.stands) h l _ _ _ _
    (c.sweep.ensures.stands h l opened stands.removes))
    (c.sweep.ensures.fits h l on.fits on.engine stands.removes)
    (λ openable. (c.sweep.ensures.carries h l (represents bytes seen old.core os s on openable) stands.removes).decides) in
    sweep_sound bytes seen now old.core new.core os s on (sweep_ruling l h) (sweep_sweeps l h on.engine.tidy.files.once)
    (state_after-sound s lines.Sweep on.sound) _ _ c.sweep.result decides
    (subst (λ (x : Result Answer Halt). HaltsByRead x) c.sweep_answer.ensures halts)

pub returns-clause-cause : goal.returns-clause-cause
returns-clause-cause g c = sweep_cause c.sweep.result c.sweep_answer.result c.sweep_answer.ensures _ _ c.sweep.ensures.cause

pub returns-clause-named : goal.returns-clause-named
returns-clause-named g c s file stands is =
    let bytes = g.D.Held.HeldFile.bytes in
    let old = c.args.self.now.engine in
    let new = c.sweep.new.self in
    let l = s.store.layout in
    sweep_named g.D.Watched (record { only_now = g.met.D.Disk.only_now; counts_now = g.met.D.Disk.counts_now }) g.D.Writer.Writer bytes
    old.core new.core old.disk new.disk old.removing new.removing c.args.self.now.opens.items s stands.serves stands.removes
    (sweep_sweeps l (history_of s) stands.serves.engine.tidy.files.once) c.sweep.result file c.sweep.ensures.as_swept
    (sym c.sweep_answer.ensures ∙ is)

pub returns-clause-carries : goal.returns-clause-carries
returns-clause-carries g c s stands =
    let bytes = g.D.Held.HeldFile.bytes in
    let old = c.args.self.now.engine in
    let new = c.sweep.new.self in
    let seen = g.D.Watched.told old.disk in
    let now = g.D.Watched.told new.disk in
    let os = c.args.self.now.opens.items in
    let h = history_of s in
    let l = s.store.layout in
    let on = stands.serves in
    sweep_carries g.D.Watched (record { only_now = g.met.D.Disk.only_now; counts_now = g.met.D.Disk.counts_now }) g.D.Writer.Writer bytes
    old.core new.core old.disk new.disk old.removing new.removing os s on stands.removes
    (sweep_sweeps l h on.engine.tidy.files.once) old.merging c.sweep.result (record {
      carries = λ represents. c.sweep.ensures.carries h l represents stands.removes;
      files = c.sweep.ensures.files;
      within = c.sweep.ensures.within on.within;
      sound = λ halts. returns-clause-sound g c s stands (subst (λ (x : Result Answer Halt). HaltsByRead x) (sym c.sweep_answer.ensures) halts);
      as_swept = c.sweep.ensures.as_swept;
      there = old.there;
      leaves = λ represents failed then told. c.sweep.ensures.leaves h l then represents stands.removes on.within failed told;
    }) c.sweep_answer.result c.sweep_answer.ensures

pub returns-clause-reads_well : goal.returns-clause-reads_well
returns-clause-reads_well g c = sweep_reads_well c.sweep.result c.sweep_answer.result c.sweep_answer.ensures

-- ---- what never fails

pub returns-clause-steady : goal.returns-clause-steady
returns-clause-steady g c gives =
    let old = c.args.self.now.engine in
    let new = c.sweep.new.self in
    sweep_steady g.D.Watched g.D.Writer.Writer (up_to None old.core.back.epoch old.removing.pins) old.disk new.disk old.core new.core
    old.removing new.removing c.sweep.result c.sweep.ensures.as_swept gives
