-- A change of how many versions are kept is answered as its ruling has it, and carried out so.
use Rattle.std.proofs.Common.{◌≡◌, ap, sym, ◌∙◌, subst}
use Rattle.std.specs.Prelude.{OnOk, Result}
use Rattle.vl_steps.specs.Keeping.{KeepLeavesDisk, keep_outcome}
use Rattle.vl_engine_laws.specs.laws.KeepLaws.{keep_made as keep_ruled, keep_other}
use Rattle.vl_engine_model.specs.Ruling.{Ruling}
use Rattle.vl_engine_model.specs.Rulings.Keep.{KeepAnswer, keep_ruling}
use Rattle.vl_engine_model.specs.Store.Dispatch.{keep_by}
use Rattle.vl_script_model.specs.Halts.{HaltsByRead}
use Rattle.vl_replay_laws.specs.Replaying.{MakesStep}
use Rattle.vl_script_model.specs.Sequential.{history_of}
use Rattle.vl_script_model.specs.declared.fails.Halt.{Halt}
use Rattle.vl_script_model.specs.laws.Laws.{state_after-sound}
use Rattle.vl_script.specs.declared.answer.Answer.{Answer}
use Rattle.vl_script.specs.declared.line.Line.TheVariants as lines
use Rattle.vl_replay_laws.specs.laws.Disk.KeptSteps.{keep_carries, keep_halted_at, keep_made, keep_named, unkept_at}
use Rattle.vl_script_model.specs.laws.Torn.{keep_torn}
use Rattle.vl_replay_laws.specs.laws.Names.KeepMaking.{keep_cause, keep_keeps, keep_leaves, keep_makes, keep_sound}
use Rattle.vl_replay_laws.specs.laws.Names.Serving.{decides_all, represents}
use Rattle.vl_space.specs.Removing.{Removes}
use Rattle.vl_replay.proofs.AsCalled.Lines.{keep_reads_well}
use Rattle.vl_replay.proofs.replayer.Served.keep.Goals as goal

pub returns-clause-makes : goal.returns-clause-makes
returns-clause-makes g c s stands =
    let bytes = g.D.Held.HeldFile.bytes in
    let core = c.args.self.now.engine.core in
    let seen = g.D.Watched.told c.args.self.now.engine.disk in
    let now = g.D.Watched.told c.keep.new.self.disk in
    let then = c.keep.new.self.core in
    let os = c.args.self.now.opens.items in
    let h = history_of s in
    let l = s.store.layout in
    let v = c.args.versions in
    let decides = decides_all bytes now s.openable then h l (keep_ruling l h v) _ (keep_outcome c.keep.result) _
    (c.keep.ensures.stands h l stands.engine)
    (c.keep.ensures.fits h l stands.engine stands.fits)
    (λ openable. (c.keep.ensures.carries h l (represents bytes seen core os s stands openable)).decides) in
    subst (λ (x : Result Answer Halt). MakesStep bytes now then os s (keep_by s.store (keep_ruling l h v)) x) (sym c.keep_answer.ensures)
    (keep_makes bytes seen now core then os s stands (keep_ruling l h v) (keep_keeps l h v)
    (state_after-sound s (lines.Keep v) stands.sound) _ _ c.keep.result decides (λ fine. c.keep.ensures.within fine stands.within))

pub returns-clause-sound : goal.returns-clause-sound
returns-clause-sound g c s stands halts =
    let bytes = g.D.Held.HeldFile.bytes in
    let core = c.args.self.now.engine.core in
    let seen = g.D.Watched.told c.args.self.now.engine.disk in
    let now = g.D.Watched.told c.keep.new.self.disk in
    let then = c.keep.new.self.core in
    let os = c.args.self.now.opens.items in
    let h = history_of s in
    let l = s.store.layout in
    let v = c.args.versions in
    let decides = decides_all bytes now s.openable then h l (keep_ruling l h v) _ (keep_outcome c.keep.result) _
    (c.keep.ensures.stands h l stands.engine)
    (c.keep.ensures.fits h l stands.engine stands.fits)
    (λ openable. (c.keep.ensures.carries h l (represents bytes seen core os s stands openable)).decides) in
    keep_sound bytes seen now core then os s stands (keep_ruling l h v) (keep_keeps l h v)
    (state_after-sound s (lines.Keep v) stands.sound) _ _ c.keep.result decides
    (subst (λ (x : Result Answer Halt). HaltsByRead x) c.keep_answer.ensures halts)

pub returns-clause-cause : goal.returns-clause-cause
returns-clause-cause g c = keep_cause c.keep.result c.keep_answer.result c.keep_answer.ensures _ _ c.keep.ensures.cause

pub returns-clause-named : goal.returns-clause-named
returns-clause-named g c file is =
    keep_named _ _ _ file (c.keep.ensures.stopped file (keep_halted_at c.keep.result file (sym c.keep_answer.ensures ∙ is)))

pub returns-clause-carries : goal.returns-clause-carries
returns-clause-carries g c s stands =
    let bytes = g.D.Held.HeldFile.bytes in
    let core = c.args.self.now.engine.core in
    let seen = g.D.Watched.told c.args.self.now.engine.disk in
    let now = g.D.Watched.told c.keep.new.self.disk in
    let then = c.keep.new.self.core in
    let os = c.args.self.now.opens.items in
    let h = history_of s in
    let l = s.store.layout in
    let v = c.args.versions in
    let decides = decides_all bytes now s.openable then h l (keep_ruling l h v) _ (keep_outcome c.keep.result) _
    (c.keep.ensures.stands h l stands.engine)
    (c.keep.ensures.fits h l stands.engine stands.fits)
    (λ openable. (c.keep.ensures.carries h l (represents bytes seen core os s stands openable)).decides) in
    keep_carries g.D.Watched (record { only_now = g.met.D.Disk.only_now; counts_now = g.met.D.Disk.counts_now }) bytes core then
    c.args.self.now.engine.disk c.keep.new.self.disk os s stands (keep_ruling l h v) (keep_keeps l h v) c.keep.result
    (record {
      effects = _;
      carries = λ represented. c.keep.ensures.carries h l represented;
      files = c.keep.ensures.files;
      untouched = λ out. c.keep.ensures.untouched (subst (KeepLeavesDisk c.args.self.now.engine.core.back.state.keep c.args.versions) (sym out) tt);
      within = λ fine. c.keep.ensures.within fine stands.within;
      sound = keep_sound bytes seen now core then os s stands (keep_ruling l h v) (keep_keeps l h v)
          (state_after-sound s (lines.Keep v) stands.sound) _ _ c.keep.result decides;
      stops = λ failed.
          let (file, is) = unkept_at c.keep.result failed in
          let (made, most, calls) = keep_made _ _ _ file (c.keep.ensures.stopped file is) in
          let may = c.keep.ensures.failed failed in
          let ruled : keep_ruled l h v ≡ keep_ruling l h v = keep_other l h v stands.running may.some may.few
          (λ same. may.other (same ∙ sym stands.engine.fronts.keep)) in
          record {
            ruled = sym (ap (λ (r : Ruling KeepAnswer). r.calls) ruled);
            made = made;
            most = most;
            calls = calls;
            numbers = λ represented state told. c.keep.ensures.leaves h l state represented stands.within failed told;
            torn = λ represented state told. keep_torn g.D.Watched
                (record { only_now = g.met.D.Disk.only_now; counts_now = g.met.D.Disk.counts_now })
                bytes core h l c.args.self.now.engine.disk c.keep.new.self.disk represented stands.running
                (c.keep.ensures.meanwhile failed).0 (c.keep.ensures.meanwhile failed).1 state told;
          };
    })
    c.keep_answer.result c.keep_answer.ensures

pub returns-clause-removes : goal.returns-clause-removes
returns-clause-removes g c s stands removes =
    let new = c.keep.new.self in
    let h = history_of s in
    let l = s.store.layout in
    let v = c.args.versions in
    subst (λ (x : Result Answer Halt). OnOk x (Removes new.core new.removing (keep_ruling l h v).layout)) (sym c.keep_answer.ensures)
    (keep_leaves (λ _ m. Removes new.core new.removing m) h l (keep_ruling l h v) _ _ c.keep.result
    (c.keep.ensures.removes h l stands.engine.fronts removes))

pub returns-clause-reads_well : goal.returns-clause-reads_well
returns-clause-reads_well g c = keep_reads_well c.keep.result c.keep_answer.result c.keep_answer.ensures
