use Rattle.vl_steps.specs.laws.Committing.{decides_leaving}
use Rattle.vl_steps.specs.laws.Flushed.{runs_on as runs_so}
use Rattle.vl_steps.specs.laws.KeepSteps.{leaves_numbers}
use Rattle.vl_steps.specs.laws.KeptBy.{carries_by, carries_left, carries_same, fits_by, fronts_by, is_invalid, is_some}
use Rattle.vl_engine.proofs.KeepRemoved.{removes_by}
use Rattle.vl_steps.specs.laws.KeptBy.{left_same, ruled_halted, ruled_invalid, stands_by, switched_by, within_by}
use Rattle.vl_steps.specs.laws.KeptBy.{written_by}
use Rattle.vl_engine_laws.specs.KeepFacts.{MayKeep}
use Rattle.vl_engine_laws.specs.Represents.{Fronts, StandsFor, file_of}
use Rattle.vl_engine_laws.specs.MayStep.{Fits}
use Rattle.vl_engine_model.specs.Decides.{as_before}
use Rattle.vl_engine_model.specs.Rulings.Keep.{Halted, InvalidRequest, keep_ruling}
use Rattle.vl_steps.specs.laws.Steady.{keep_steady}
use Rattle.vl_steps.specs.laws.Untold.{keep_untold}
use Rattle.vl_engine.proofs.engine.Engine.keep.Goals as goal

-- it is halted

pub returns-in-Some-clause-decides : goal.returns-in-Some-clause-decides
returns-in-Some-clause-decides g c h l is =
    let core = c.args.self.now.core in
    decides_leaving (Fronts core) h l (keep_ruling l h c.args.versions) (as_before l l) (Halted (file_of c.in-Some.name)) l
    (ruled_halted core h l c.args.versions is c.in-Some.name c.in-Some.is) is

pub returns-in-Some-clause-stands : goal.returns-in-Some-clause-stands
returns-in-Some-clause-stands g c h l is =
    let core = c.args.self.now.core in
    decides_leaving (StandsFor g.D.Held.HeldFile.bytes core) h l (keep_ruling l h c.args.versions) (as_before l l)
    (Halted (file_of c.in-Some.name)) l (ruled_halted core h l c.args.versions is.fronts c.in-Some.name c.in-Some.is) is

pub returns-in-Some-clause-carries : goal.returns-in-Some-clause-carries
returns-in-Some-clause-carries g c h l is =
    let core = c.args.self.now.core in
    carries_left g.D.Watched (record { only_now = g.met.D.Disk.only_now; counts_now = g.met.D.Disk.counts_now })
    g.D.Held.HeldFile.bytes core h l c.args.versions c.args.self.now.disk (Halted (file_of c.in-Some.name))
    (ruled_halted core h l c.args.versions is.stands.fronts c.in-Some.name c.in-Some.is) is

pub returns-in-Some-clause-fits : goal.returns-in-Some-clause-fits
returns-in-Some-clause-fits g c h l is fits =
    let core = c.args.self.now.core in
    decides_leaving (Fits (g.D.Watched.told c.args.self.now.disk) core) h l (keep_ruling l h c.args.versions) (as_before l l)
    (Halted (file_of c.in-Some.name)) l (ruled_halted core h l c.args.versions is.fronts c.in-Some.name c.in-Some.is) fits

-- it is no such number

pub returns-then-versions-eq0-clause-decides : goal.returns-then-versions-eq0-clause-decides
returns-then-versions-eq0-clause-decides g c h l is =
    let core = c.args.self.now.core in
    let v = c.args.versions in
    decides_leaving (Fronts core) h l (keep_ruling l h v) (as_before l l) InvalidRequest l
    (ruled_invalid core h l v is c.in_default.is (is_invalid v c.then-versions-eq0.either)) is

pub returns-then-versions-eq0-clause-stands : goal.returns-then-versions-eq0-clause-stands
returns-then-versions-eq0-clause-stands g c h l is =
    let core = c.args.self.now.core in
    let v = c.args.versions in
    decides_leaving (StandsFor g.D.Held.HeldFile.bytes core) h l (keep_ruling l h v) (as_before l l) InvalidRequest l
    (ruled_invalid core h l v is.fronts c.in_default.is (is_invalid v c.then-versions-eq0.either)) is

pub returns-then-versions-eq0-clause-carries : goal.returns-then-versions-eq0-clause-carries
returns-then-versions-eq0-clause-carries g c h l is =
    let core = c.args.self.now.core in
    let v = c.args.versions in
    carries_left g.D.Watched (record { only_now = g.met.D.Disk.only_now; counts_now = g.met.D.Disk.counts_now })
    g.D.Held.HeldFile.bytes core h l v c.args.self.now.disk InvalidRequest
    (ruled_invalid core h l v is.stands.fronts c.in_default.is (is_invalid v c.then-versions-eq0.either)) is

pub returns-then-versions-eq0-clause-fits : goal.returns-then-versions-eq0-clause-fits
returns-then-versions-eq0-clause-fits g c h l is fits =
    let core = c.args.self.now.core in
    let v = c.args.versions in
    decides_leaving (Fits (g.D.Watched.told c.args.self.now.disk) core) h l (keep_ruling l h v) (as_before l l) InvalidRequest l
    (ruled_invalid core h l v is.fronts c.in_default.is (is_invalid v c.then-versions-eq0.either)) fits

-- so many are kept already

pub returns-then-versions-self-clause-decides : goal.returns-then-versions-self-clause-decides
returns-then-versions-self-clause-decides g c h l is =
    let core = c.args.self.now.core in
    left_same (Fronts core) core h l c.args.versions is c.in_default.is (is_some c.args.versions c.if-versions-eq0.false)
    c.if-versions-gt-MAX_KEEP.false c.if-versions-self.true is

pub returns-then-versions-self-clause-stands : goal.returns-then-versions-self-clause-stands
returns-then-versions-self-clause-stands g c h l is =
    let core = c.args.self.now.core in
    left_same (StandsFor g.D.Held.HeldFile.bytes core) core h l c.args.versions is.fronts c.in_default.is
    (is_some c.args.versions c.if-versions-eq0.false) c.if-versions-gt-MAX_KEEP.false c.if-versions-self.true is

pub returns-then-versions-self-clause-carries : goal.returns-then-versions-self-clause-carries
returns-then-versions-self-clause-carries g c h l is =
    carries_same g.D.Watched (record { only_now = g.met.D.Disk.only_now; counts_now = g.met.D.Disk.counts_now })
    g.D.Held.HeldFile.bytes c.args.self.now.core h l c.args.versions c.args.self.now.disk c.in_default.is
    (is_some c.args.versions c.if-versions-eq0.false) c.if-versions-gt-MAX_KEEP.false c.if-versions-self.true is

pub returns-then-versions-self-clause-fits : goal.returns-then-versions-self-clause-fits
returns-then-versions-self-clause-fits g c h l is fits =
    let core = c.args.self.now.core in
    left_same (Fits (g.D.Watched.told c.args.self.now.disk) core) core h l c.args.versions is.fronts c.in_default.is
    (is_some c.args.versions c.if-versions-eq0.false) c.if-versions-gt-MAX_KEEP.false c.if-versions-self.true fits

-- another number is to be kept

pub returns-clause-decides : goal.returns-clause-decides
returns-clause-decides g c h l is =
    let core = c.args.self.now.core in
    let may : MayKeep core c.args.versions = record {
      running = c.in_default.is;
      some = is_some c.args.versions c.if-versions-eq0.false;
      few = c.if-versions-gt-MAX_KEEP.false;
      other = c.if-versions-self.false;
    } in
    fronts_by g.D.Watched core c.switch_kept.new.self.core c.args.self.now.disk c.switch_kept.new.self.disk c.args.versions
    g.D.Held.HeldFile.bytes h l may is c.switch_kept.result c.switch_kept.ensures.as_kept

pub returns-clause-stands : goal.returns-clause-stands
returns-clause-stands g c h l is =
    let core = c.args.self.now.core in
    let may : MayKeep core c.args.versions = record {
      running = c.in_default.is;
      some = is_some c.args.versions c.if-versions-eq0.false;
      few = c.if-versions-gt-MAX_KEEP.false;
      other = c.if-versions-self.false;
    } in
    stands_by g.D.Watched core c.switch_kept.new.self.core c.args.self.now.disk c.switch_kept.new.self.disk c.args.versions
    g.D.Held.HeldFile.bytes h l may is c.switch_kept.result c.switch_kept.ensures.as_kept

pub returns-clause-carries : goal.returns-clause-carries
returns-clause-carries g c h l is =
    let core = c.args.self.now.core in
    let may : MayKeep core c.args.versions = record {
      running = c.in_default.is;
      some = is_some c.args.versions c.if-versions-eq0.false;
      few = c.if-versions-gt-MAX_KEEP.false;
      other = c.if-versions-self.false;
    } in
    carries_by g.D.Watched core c.switch_kept.new.self.core c.args.self.now.disk c.switch_kept.new.self.disk c.args.versions
    g.D.Held.HeldFile.bytes h l may (record { only_now = g.met.D.Disk.only_now; counts_now = g.met.D.Disk.counts_now }) is
    c.switch_kept.result c.switch_kept.ensures.as_kept

pub returns-clause-fits : goal.returns-clause-fits
returns-clause-fits g c h l is fits =
    let core = c.args.self.now.core in
    let may : MayKeep core c.args.versions = record {
      running = c.in_default.is;
      some = is_some c.args.versions c.if-versions-eq0.false;
      few = c.if-versions-gt-MAX_KEEP.false;
      other = c.if-versions-self.false;
    } in
    fits_by g.D.Watched core c.switch_kept.new.self.core c.args.self.now.disk c.switch_kept.new.self.disk c.args.versions
    g.D.Held.HeldFile.bytes h l may is fits c.switch_kept.result c.switch_kept.ensures.as_kept

pub returns-clause-written : goal.returns-clause-written
returns-clause-written g c other =
    written_by g.D.Watched c.args.self.now.core c.switch_kept.new.self.core c.args.self.now.disk c.switch_kept.new.self.disk
    c.args.versions c.switch_kept.result c.switch_kept.ensures.as_kept

pub returns-clause-meanwhile : goal.returns-clause-meanwhile
returns-clause-meanwhile g c failed =
    let (staged, of, writes) = switched_by g.D.Watched c.args.self.now.core c.switch_kept.new.self.core c.args.self.now.disk
    c.switch_kept.new.self.disk c.args.versions c.switch_kept.result c.switch_kept.ensures.as_kept failed in
    (staged, writes)

pub returns-clause-leaves : goal.returns-clause-leaves
returns-clause-leaves g c h l now is within failed told =
    let core = c.args.self.now.core in
    let (staged, of, writes) = switched_by g.D.Watched core c.switch_kept.new.self.core c.args.self.now.disk
    c.switch_kept.new.self.disk c.args.versions c.switch_kept.result c.switch_kept.ensures.as_kept failed in
    leaves_numbers g.D.Watched (record { only_now = g.met.D.Disk.only_now; counts_now = g.met.D.Disk.counts_now })
    g.D.Held.HeldFile.bytes core c.switch_kept.new.self.core h l c.args.versions c.args.self.now.disk c.switch_kept.new.self.disk is
    (runs_so core h l is.stands.fronts c.in_default.is) (is_some c.args.versions c.if-versions-eq0.false) c.if-versions-gt-MAX_KEEP.false
    staged of writes within now told

pub returns-clause-within : goal.returns-clause-within
returns-clause-within g c fine within =
    within_by g.D.Watched c.args.self.now.core c.switch_kept.new.self.core c.args.self.now.disk c.switch_kept.new.self.disk
    c.args.versions c.switch_kept.result c.switch_kept.ensures.as_kept fine within

pub returns-clause-untold : goal.returns-clause-untold
returns-clause-untold g c =
    keep_untold g.D.Watched c.args.self.now.core c.switch_kept.new.self.core c.args.self.now.disk c.switch_kept.new.self.disk
    c.args.versions c.switch_kept.result c.switch_kept.ensures.as_kept

pub returns-clause-steady : goal.returns-clause-steady
returns-clause-steady g c gives =
    keep_steady g.D.Watched c.args.self.now.core c.switch_kept.new.self.core c.args.self.now.disk c.switch_kept.new.self.disk
    c.args.versions c.switch_kept.result c.switch_kept.ensures.as_kept gives

pub returns-clause-removes : goal.returns-clause-removes
returns-clause-removes g c h l is removes =
    let core = c.args.self.now.core in
    let may : MayKeep core c.args.versions = record {
      running = c.in_default.is;
      some = is_some c.args.versions c.if-versions-eq0.false;
      few = c.if-versions-gt-MAX_KEEP.false;
      other = c.if-versions-self.false;
    } in
    removes_by g.D.Watched core c.switch_kept.new.self.core c.args.self.now.disk c.switch_kept.new.self.disk c.args.versions h l may
    (λ i. (c.switch_kept.ensures.logs i).items) c.args.self.now.removing c.switch_kept.new.self.removing
    c.switch_kept.ensures.removing is removes c.switch_kept.result c.switch_kept.ensures.as_kept
