use Rattle.std.proofs.Common.{arith, length, refl, sym}
use Rattle.vl_disk.specs.declared.name.Name.TheVariants as names
use Rattle.vl_engine.proofs.Retired.Flushing.{flush_removes}
use Rattle.vl_space.specs.Removing.{Removes}
use Rattle.vl_engine.proofs.Collected.{flush_collects, flush_passes}
use Rattle.vl_steps.specs.laws.Committing.{decides_leaving}
use Rattle.vl_steps.specs.laws.Fitted.{flushed_by}
use Rattle.vl_steps.specs.laws.Flushed.{calls_by, carries_by, carries_leaving_flush, fronts_by, ruled_exhausted}
use Rattle.vl_steps.specs.laws.Flushed.{ruled_halted, ruled_idle, runs_on, stands_by, stopped_by, untouched_by}
use Rattle.vl_steps.specs.laws.Flushed.{writes_by, written_by}
use Rattle.vl_engine_laws.specs.laws.FlushKeeps.{kept_itself}
use Rattle.vl_steps.specs.laws.FlushSteps.{leaves_numbers, numbers_held}
use Rattle.vl_steps.specs.laws.Leaving.{flush_within}
use Rattle.vl_engine_laws.specs.laws.Untouched.{alone}
use Rattle.vl_engine_laws.specs.Represents.{Fronts, StandsFor, file_of}
use Rattle.vl_engine_laws.specs.MayStep.{Fits}
use Rattle.vl_engine_laws.specs.laws.FlushRulings.{flush_waits}
use Rattle.vl_space.specs.Collecting.{Collects}
use Rattle.vl_steps.specs.Flushing.{flush_effects}
use Rattle.vl_engine_model.specs.Decides.{as_before}
use Rattle.vl_engine_model.specs.Ruling.{Exhausted, Halted, Idle}
use Rattle.vl_engine_model.specs.Rulings.Flush.{flush_ruling}
use Rattle.vl_steps.specs.laws.Steady.{flush_steady}
use Rattle.vl_steps.specs.laws.Untold.{flush_untold}
use Rattle.vl_engine.proofs.StockExits.{flushed}
use Rattle.vl_engine_laws.specs.Lent.{lent_in}
use Rattle.vl_space.specs.laws.Retired.Changing.{stays_itself}
use Rattle.vl_engine.proofs.engine.Engine.flush.Goals as goal

-- it is halted

pub returns-in-Some-clause-decides : goal.returns-in-Some-clause-decides
returns-in-Some-clause-decides g c h l is has =
    let core = c.args.self.now.core in
    decides_leaving (Fronts core) h l (flush_ruling l h) (as_before l l) (Halted (file_of c.in-Some.name)) l
    (ruled_halted core h l is c.in-Some.name c.in-Some.is) is

pub returns-in-Some-clause-stands : goal.returns-in-Some-clause-stands
returns-in-Some-clause-stands g c state h l told is can =
    let core = c.args.self.now.core in
    decides_leaving (StandsFor g.D.Held.HeldFile.bytes core) h l (flush_ruling l h) (as_before l l) (Halted (file_of c.in-Some.name)) l
    (ruled_halted core h l is.fronts c.in-Some.name c.in-Some.is) is

pub returns-in-Some-clause-carries : goal.returns-in-Some-clause-carries
returns-in-Some-clause-carries g c h l is =
    let core = c.args.self.now.core in
    carries_leaving_flush g.D.Watched (record { only_now = g.met.D.Disk.only_now; counts_now = g.met.D.Disk.counts_now })
    g.D.Held.HeldFile.bytes core h l c.args.self.now.disk (Halted (file_of c.in-Some.name))
    (ruled_halted core h l is.stands.fronts c.in-Some.name c.in-Some.is) is

pub returns-in-Some-clause-fits : goal.returns-in-Some-clause-fits
returns-in-Some-clause-fits g c h l is fits =
    let core = c.args.self.now.core in
    decides_leaving (Fits (g.D.Watched.told c.args.self.now.disk) core) h l (flush_ruling l h) (as_before l l)
    (Halted (file_of c.in-Some.name)) l
    (ruled_halted core h l is.fronts c.in-Some.name c.in-Some.is) fits

pub returns-in-Some-clause-untouched : goal.returns-in-Some-clause-untouched
returns-in-Some-clause-untouched g c leaves = alone g.D.Watched _ _ refl

pub returns-in-Some-clause-files : goal.returns-in-Some-clause-files
returns-in-Some-clause-files g c =
    kept_itself (names.Table c.args.self.now.core.back.state.next_table) (g.D.Watched.told c.args.self.now.disk)
    (g.D.Watched.told c.args.self.now.disk) refl

pub returns-in-Some-clause-written : goal.returns-in-Some-clause-written
returns-in-Some-clause-written g c number made = absurd cc

pub returns-in-Some-clause-calls : goal.returns-in-Some-clause-calls
returns-in-Some-clause-calls g c = tt

pub returns-in-Some-clause-cause : goal.returns-in-Some-clause-cause
returns-in-Some-clause-cause g c = record { later = omega arith; rose = λ failed. absurd failed; steady = λ fine. refl }

pub returns-in-Some-clause-stopped : goal.returns-in-Some-clause-stopped
returns-in-Some-clause-stopped g c name failed = absurd cc

-- no memtable waits

pub returns-in-Idle-clause-decides : goal.returns-in-Idle-clause-decides
returns-in-Idle-clause-decides g c h l is has =
    let core = c.args.self.now.core in
    decides_leaving (Fronts core) h l (flush_ruling l h) (as_before l l) Idle l
    (ruled_idle core h l is c.in_default.is (has (runs_on core h l is c.in_default.is)) (sym c.in-Idle.ensures.decided)) is

pub returns-in-Idle-clause-stands : goal.returns-in-Idle-clause-stands
returns-in-Idle-clause-stands g c state h l told is can =
    let core = c.args.self.now.core in
    decides_leaving (StandsFor g.D.Held.HeldFile.bytes core) h l (flush_ruling l h) (as_before l l) Idle l
    (ruled_idle core h l is.fronts c.in_default.is ((can (runs_on core h l is.fronts c.in_default.is)).0)
    (sym c.in-Idle.ensures.decided)) is

pub returns-in-Idle-clause-carries : goal.returns-in-Idle-clause-carries
returns-in-Idle-clause-carries g c h l is =
    let core = c.args.self.now.core in
    let held = is.held (runs_on core h l is.stands.fronts c.in_default.is) in
    carries_leaving_flush g.D.Watched (record { only_now = g.met.D.Disk.only_now; counts_now = g.met.D.Disk.counts_now })
    g.D.Held.HeldFile.bytes core h l c.args.self.now.disk Idle
    (ruled_idle core h l is.stands.fronts c.in_default.is (numbers_held core.back held.base l held.back_is)
    (sym c.in-Idle.ensures.decided)) is

pub returns-in-Idle-clause-fits : goal.returns-in-Idle-clause-fits
returns-in-Idle-clause-fits g c h l is fits =
    let core = c.args.self.now.core in
    decides_leaving (Fits (g.D.Watched.told c.args.self.now.disk) core) h l (flush_ruling l h) (as_before l l) Idle l
    (ruled_idle core h l is.fronts c.in_default.is (fits.running (runs_on core h l is.fronts c.in_default.is)).numbers
    (sym c.in-Idle.ensures.decided)) fits

pub returns-in-Idle-clause-untouched : goal.returns-in-Idle-clause-untouched
returns-in-Idle-clause-untouched g c leaves = alone g.D.Watched _ _ refl

pub returns-in-Idle-clause-files : goal.returns-in-Idle-clause-files
returns-in-Idle-clause-files g c =
    kept_itself (names.Table c.args.self.now.core.back.state.next_table) (g.D.Watched.told c.args.self.now.disk)
    (g.D.Watched.told c.args.self.now.disk) refl

pub returns-in-Idle-clause-written : goal.returns-in-Idle-clause-written
returns-in-Idle-clause-written g c number made = absurd cc

pub returns-in-Idle-clause-calls : goal.returns-in-Idle-clause-calls
returns-in-Idle-clause-calls g c = refl

pub returns-in-Idle-clause-cause : goal.returns-in-Idle-clause-cause
returns-in-Idle-clause-cause g c = record { later = omega arith; rose = λ failed. absurd failed; steady = λ fine. refl }

pub returns-in-Idle-clause-stopped : goal.returns-in-Idle-clause-stopped
returns-in-Idle-clause-stopped g c name failed = absurd cc

-- no number is left

pub returns-in-Exhausted-clause-decides : goal.returns-in-Exhausted-clause-decides
returns-in-Exhausted-clause-decides g c h l is has =
    let core = c.args.self.now.core in
    decides_leaving (Fronts core) h l (flush_ruling l h) (as_before l l) (Exhausted c.in-Exhausted.counter) l
    (ruled_exhausted core h l is c.in_default.is (has (runs_on core h l is c.in_default.is)) c.in-Exhausted.counter
    (sym c.in-Exhausted.ensures.decided)) is

pub returns-in-Exhausted-clause-stands : goal.returns-in-Exhausted-clause-stands
returns-in-Exhausted-clause-stands g c state h l told is can =
    let core = c.args.self.now.core in
    decides_leaving (StandsFor g.D.Held.HeldFile.bytes core) h l (flush_ruling l h) (as_before l l)
    (Exhausted c.in-Exhausted.counter) l
    (ruled_exhausted core h l is.fronts c.in_default.is ((can (runs_on core h l is.fronts c.in_default.is)).0) c.in-Exhausted.counter
    (sym c.in-Exhausted.ensures.decided)) is

pub returns-in-Exhausted-clause-carries : goal.returns-in-Exhausted-clause-carries
returns-in-Exhausted-clause-carries g c h l is =
    let core = c.args.self.now.core in
    let held = is.held (runs_on core h l is.stands.fronts c.in_default.is) in
    carries_leaving_flush g.D.Watched (record { only_now = g.met.D.Disk.only_now; counts_now = g.met.D.Disk.counts_now })
    g.D.Held.HeldFile.bytes core h l c.args.self.now.disk (Exhausted c.in-Exhausted.counter)
    (ruled_exhausted core h l is.stands.fronts c.in_default.is (numbers_held core.back held.base l held.back_is)
    c.in-Exhausted.counter (sym c.in-Exhausted.ensures.decided)) is

pub returns-in-Exhausted-clause-fits : goal.returns-in-Exhausted-clause-fits
returns-in-Exhausted-clause-fits g c h l is fits =
    let core = c.args.self.now.core in
    decides_leaving (Fits (g.D.Watched.told c.args.self.now.disk) core) h l (flush_ruling l h) (as_before l l)
    (Exhausted c.in-Exhausted.counter) l
    (ruled_exhausted core h l is.fronts c.in_default.is (fits.running (runs_on core h l is.fronts c.in_default.is)).numbers
    c.in-Exhausted.counter (sym c.in-Exhausted.ensures.decided)) fits

pub returns-in-Exhausted-clause-untouched : goal.returns-in-Exhausted-clause-untouched
returns-in-Exhausted-clause-untouched g c leaves = alone g.D.Watched _ _ refl

pub returns-in-Exhausted-clause-files : goal.returns-in-Exhausted-clause-files
returns-in-Exhausted-clause-files g c =
    kept_itself (names.Table c.args.self.now.core.back.state.next_table) (g.D.Watched.told c.args.self.now.disk)
    (g.D.Watched.told c.args.self.now.disk) refl

pub returns-in-Exhausted-clause-written : goal.returns-in-Exhausted-clause-written
returns-in-Exhausted-clause-written g c number made = absurd cc

pub returns-in-Exhausted-clause-calls : goal.returns-in-Exhausted-clause-calls
returns-in-Exhausted-clause-calls g c = tt

pub returns-in-Exhausted-clause-cause : goal.returns-in-Exhausted-clause-cause
returns-in-Exhausted-clause-cause g c = record { later = omega arith; rose = λ failed. absurd failed; steady = λ fine. refl }

pub returns-in-Exhausted-clause-stopped : goal.returns-in-Exhausted-clause-stopped
returns-in-Exhausted-clause-stopped g c name failed = absurd cc

-- a table is made

pub make_table-requires : goal.make_table-requires
make_table-requires g c = record { may = c.in-Go.ensures.go refl; running = c.in_default.is }

pub returns-in-Go-clause-decides : goal.returns-in-Go-clause-decides
returns-in-Go-clause-decides g c h l is has =
    let core = c.args.self.now.core in
    fronts_by g.D.Watched g.D.Held.HeldFile.bytes core c.make_table.new.self.core c.args.self.now.disk c.make_table.new.self.disk
    h l c.in_default.is (c.in-Go.ensures.go refl) (sym c.in-Go.ensures.decided) is (has (runs_on core h l is c.in_default.is))
    c.make_table.result c.make_table.ensures.as_flushed

pub returns-in-Go-clause-stands : goal.returns-in-Go-clause-stands
returns-in-Go-clause-stands g c state h l told is can =
    let core = c.args.self.now.core in
    let may = can (runs_on core h l is.fronts c.in_default.is) in
    stands_by g.D.Watched g.D.Held.HeldFile.bytes core c.make_table.new.self.core c.args.self.now.disk c.make_table.new.self.disk
    h l c.in_default.is (c.in-Go.ensures.go refl) (sym c.in-Go.ensures.decided) state told is may.0 may.1
    c.make_table.result c.make_table.ensures.as_flushed

pub returns-in-Go-clause-carries : goal.returns-in-Go-clause-carries
returns-in-Go-clause-carries g c h l is =
    let core = c.args.self.now.core in
    carries_by g.D.Watched g.D.Held.HeldFile.bytes core c.make_table.new.self.core c.args.self.now.disk c.make_table.new.self.disk
    h l c.in_default.is (c.in-Go.ensures.go refl) (sym c.in-Go.ensures.decided)
    (record { only_now = g.met.D.Disk.only_now; counts_now = g.met.D.Disk.counts_now }) is
    c.make_table.result c.make_table.ensures.as_flushed

pub returns-in-Go-clause-fits : goal.returns-in-Go-clause-fits
returns-in-Go-clause-fits g c h l is fits =
    flushed_by g.D.Watched g.D.Held.HeldFile.bytes c.args.self.now.core c.make_table.new.self.core c.args.self.now.disk
    c.make_table.new.self.disk h l is fits c.in_default.is (c.in-Go.ensures.go refl) (sym c.in-Go.ensures.decided)
    c.make_table.result c.make_table.ensures.as_flushed

pub returns-in-Go-clause-untouched : goal.returns-in-Go-clause-untouched
returns-in-Go-clause-untouched g c leaves =
    untouched_by g.D.Watched g.D.Held.HeldFile.bytes c.args.self.now.core c.make_table.new.self.core c.args.self.now.disk
    c.make_table.new.self.disk c.make_table.result c.make_table.ensures.as_flushed leaves

pub returns-in-Go-clause-files : goal.returns-in-Go-clause-files
returns-in-Go-clause-files g c = c.make_table.ensures.files

pub returns-in-Go-clause-written : goal.returns-in-Go-clause-written
returns-in-Go-clause-written g c number made =
    written_by g.D.Watched g.D.Held.HeldFile.bytes c.args.self.now.core c.make_table.new.self.core c.args.self.now.disk
    c.make_table.new.self.disk c.make_table.result c.make_table.ensures.as_flushed number made

pub returns-in-Go-clause-calls : goal.returns-in-Go-clause-calls
returns-in-Go-clause-calls g c =
    calls_by g.D.Watched g.D.Held.HeldFile.bytes c.args.self.now.core c.make_table.new.self.core c.args.self.now.disk
    c.make_table.new.self.disk c.make_table.result c.make_table.ensures.as_flushed

pub returns-in-Go-clause-stopped : goal.returns-in-Go-clause-stopped
returns-in-Go-clause-stopped g c name failed =
    stopped_by g.D.Watched g.D.Held.HeldFile.bytes c.args.self.now.core c.make_table.new.self.core c.args.self.now.disk
    c.make_table.new.self.disk c.make_table.result c.make_table.ensures.as_flushed name failed

-- ---- numbers, and where it failed

pub returns-in-Some-clause-failed : goal.returns-in-Some-clause-failed
returns-in-Some-clause-failed g c failed = absurd failed

pub returns-in-Some-clause-meanwhile : goal.returns-in-Some-clause-meanwhile
returns-in-Some-clause-meanwhile g c failed = absurd failed

pub returns-in-Some-clause-leaves : goal.returns-in-Some-clause-leaves
returns-in-Some-clause-leaves g c h l now is within failed = absurd failed

pub returns-in-Some-clause-within : goal.returns-in-Some-clause-within
returns-in-Some-clause-within g c fine within = within

pub returns-in-Idle-clause-failed : goal.returns-in-Idle-clause-failed
returns-in-Idle-clause-failed g c failed = absurd failed

pub returns-in-Idle-clause-meanwhile : goal.returns-in-Idle-clause-meanwhile
returns-in-Idle-clause-meanwhile g c failed = absurd failed

pub returns-in-Idle-clause-leaves : goal.returns-in-Idle-clause-leaves
returns-in-Idle-clause-leaves g c h l now is within failed = absurd failed

pub returns-in-Idle-clause-within : goal.returns-in-Idle-clause-within
returns-in-Idle-clause-within g c fine within = within

pub returns-in-Exhausted-clause-failed : goal.returns-in-Exhausted-clause-failed
returns-in-Exhausted-clause-failed g c failed = absurd failed

pub returns-in-Exhausted-clause-meanwhile : goal.returns-in-Exhausted-clause-meanwhile
returns-in-Exhausted-clause-meanwhile g c failed = absurd failed

pub returns-in-Exhausted-clause-leaves : goal.returns-in-Exhausted-clause-leaves
returns-in-Exhausted-clause-leaves g c h l now is within failed = absurd failed

pub returns-in-Exhausted-clause-within : goal.returns-in-Exhausted-clause-within
returns-in-Exhausted-clause-within g c fine within = within

pub returns-in-Go-clause-failed : goal.returns-in-Go-clause-failed
returns-in-Go-clause-failed g c failed = c.in-Go.ensures.go refl

pub returns-in-Go-clause-meanwhile : goal.returns-in-Go-clause-meanwhile
returns-in-Go-clause-meanwhile g c failed =
    let (staged, of, writes) = writes_by g.D.Watched g.D.Held.HeldFile.bytes c.args.self.now.core c.make_table.new.self.core
    c.args.self.now.disk c.make_table.new.self.disk c.make_table.result c.make_table.ensures.as_flushed failed in
    (staged, writes)

pub returns-in-Go-clause-leaves : goal.returns-in-Go-clause-leaves
returns-in-Go-clause-leaves g c h l now is within failed told =
    let bytes = g.D.Held.HeldFile.bytes in
    let core = c.args.self.now.core in
    let running = runs_on core h l is.stands.fronts c.in_default.is in
    let held = is.held running in
    let (s, waits) = flush_waits core.back l h running is.stands.fronts.version (numbers_held core.back held.base l held.back_is)
    (c.in-Go.ensures.go refl).waits in
    let (staged, of, writes) = writes_by g.D.Watched bytes core c.make_table.new.self.core
    c.args.self.now.disk c.make_table.new.self.disk c.make_table.result c.make_table.ensures.as_flushed failed in
    leaves_numbers g.D.Watched (record { only_now = g.met.D.Disk.only_now; counts_now = g.met.D.Disk.counts_now }) bytes core
    c.make_table.new.self.core h l c.args.self.now.disk c.make_table.new.self.disk is running s waits staged of writes within now told

pub returns-in-Go-clause-within : goal.returns-in-Go-clause-within
returns-in-Go-clause-within g c fine within =
    flush_within g.D.Watched g.D.Held.HeldFile.bytes c.args.self.now.core c.make_table.new.self.core c.args.self.now.disk
    c.make_table.new.self.disk within (sym c.in-Go.ensures.decided) c.make_table.result c.make_table.ensures.as_flushed fine

pub returns-in-Go-clause-untold : goal.returns-in-Go-clause-untold
returns-in-Go-clause-untold g c =
    flush_untold g.D.Watched c.args.self.now.core c.make_table.new.self.core c.args.self.now.disk c.make_table.new.self.disk
    g.D.Held.HeldFile.bytes c.make_table.result c.make_table.ensures.as_flushed

pub returns-in-Go-clause-steady : goal.returns-in-Go-clause-steady
returns-in-Go-clause-steady g c gives =
    flush_steady g.D.Watched c.args.self.now.core c.make_table.new.self.core c.args.self.now.disk c.make_table.new.self.disk
    g.D.Held.HeldFile.bytes c.make_table.result c.make_table.ensures.as_flushed gives

-- what is kept of live bytes

pub returns-in-Some-clause-collects : goal.returns-in-Some-clause-collects
returns-in-Some-clause-collects g c state h l told is can collects =
    decides_leaving (λ k x. Collects c.args.self.now.core c.args.self.now.collecting x) h l (flush_ruling l h) (as_before l l)
    (Halted (file_of c.in-Some.name)) l (ruled_halted c.args.self.now.core h l is.fronts c.in-Some.name c.in-Some.is) collects

pub returns-in-Idle-clause-collects : goal.returns-in-Idle-clause-collects
returns-in-Idle-clause-collects g c state h l told is can collects =
    let core = c.args.self.now.core in
    decides_leaving (λ k x. Collects c.args.self.now.core c.args.self.now.collecting x) h l (flush_ruling l h) (as_before l l) Idle l
    (ruled_idle core h l is.fronts c.in_default.is ((can (runs_on core h l is.fronts c.in_default.is)).0)
    (sym c.in-Idle.ensures.decided)) collects

pub returns-in-Exhausted-clause-collects : goal.returns-in-Exhausted-clause-collects
returns-in-Exhausted-clause-collects g c state h l told is can collects =
    let core = c.args.self.now.core in
    decides_leaving (λ k x. Collects c.args.self.now.core c.args.self.now.collecting x) h l (flush_ruling l h) (as_before l l)
    (Exhausted c.in-Exhausted.counter) l
    (ruled_exhausted core h l is.fronts c.in_default.is ((can (runs_on core h l is.fronts c.in_default.is)).0) c.in-Exhausted.counter
    (sym c.in-Exhausted.ensures.decided)) collects

pub returns-in-Go-clause-collects : goal.returns-in-Go-clause-collects
returns-in-Go-clause-collects g c state h l told is can collects =
    flush_collects g.D.Watched g.D.Held.HeldFile.bytes c.args.self.now.core c.make_table.new.self.core c.args.self.now.disk
    c.make_table.new.self.disk c.args.self.now.collecting c.make_table.new.self.collecting h l is (λ running. (can running).1) collects
    c.make_table.result c.make_table.ensures.as_flushed c.make_table.ensures.collected (flush_effects c.make_table.result)
    (returns-in-Go-clause-stands g c state h l told is can)

pub returns-in-Go-clause-passing : goal.returns-in-Go-clause-passing
returns-in-Go-clause-passing g c =
    flush_passes g.D.Held.HeldFile.bytes c.args.self.now.core c.make_table.new.self.core c.args.self.now.collecting
    c.make_table.new.self.collecting c.make_table.result c.make_table.ensures.collected

-- which files can go

pub returns-in-Some-clause-removes : goal.returns-in-Some-clause-removes
returns-in-Some-clause-removes g c state h l told is opens can collects removes =
    decides_leaving (λ k x. Removes c.args.self.now.core c.args.self.now.removing x) h l (flush_ruling l h) (as_before l l)
    (Halted (file_of c.in-Some.name)) l (ruled_halted c.args.self.now.core h l is.fronts c.in-Some.name c.in-Some.is) removes

pub returns-in-Idle-clause-removes : goal.returns-in-Idle-clause-removes
returns-in-Idle-clause-removes g c state h l told is opens can collects removes =
    let core = c.args.self.now.core in
    decides_leaving (λ k x. Removes c.args.self.now.core c.args.self.now.removing x) h l (flush_ruling l h) (as_before l l) Idle l
    (ruled_idle core h l is.fronts c.in_default.is ((can (runs_on core h l is.fronts c.in_default.is)).0)
    (sym c.in-Idle.ensures.decided)) removes

pub returns-in-Exhausted-clause-removes : goal.returns-in-Exhausted-clause-removes
returns-in-Exhausted-clause-removes g c state h l told is opens can collects removes =
    let core = c.args.self.now.core in
    decides_leaving (λ k x. Removes c.args.self.now.core c.args.self.now.removing x) h l (flush_ruling l h) (as_before l l)
    (Exhausted c.in-Exhausted.counter) l
    (ruled_exhausted core h l is.fronts c.in_default.is ((can (runs_on core h l is.fronts c.in_default.is)).0) c.in-Exhausted.counter
    (sym c.in-Exhausted.ensures.decided)) removes

pub returns-in-Go-clause-removes : goal.returns-in-Go-clause-removes
returns-in-Go-clause-removes g c state h l told is opens can collects removes =
    flush_removes g.D.Held.HeldFile.bytes g.D.Held.HeldFile.size g.met.D.Held.HeldFile.sized c.args.self.now.core
    c.make_table.new.self.core c.args.self.now.removing c.make_table.new.self.removing c.args.self.now.merging h l is opens removes
    c.make_table.ensures.pins g.D.Watched c.args.self.now.disk c.make_table.new.self.disk c.args.self.now.collecting
    c.make_table.new.self.collecting collects (λ running. (can running).0) (flush_effects c.make_table.result) c.make_table.result
    c.make_table.ensures.as_flushed c.make_table.ensures.collected c.make_table.ensures.retires
    (returns-in-Go-clause-stands g c state h l told is can)

-- the files in use, and those that wait, whatever is told

pub returns-in-Some-clause-retires : goal.returns-in-Some-clause-retires
returns-in-Some-clause-retires g c = stays_itself c.args.self.now.core c.args.self.now.removing.stock

pub returns-in-Idle-clause-retires : goal.returns-in-Idle-clause-retires
returns-in-Idle-clause-retires g c = stays_itself c.args.self.now.core c.args.self.now.removing.stock

pub returns-in-Exhausted-clause-retires : goal.returns-in-Exhausted-clause-retires
returns-in-Exhausted-clause-retires g c = stays_itself c.args.self.now.core c.args.self.now.removing.stock

pub returns-in-Go-clause-retires : goal.returns-in-Go-clause-retires
returns-in-Go-clause-retires g c =
    flushed c.args.self.now.core c.args.self.now.removing.stock (length (lent_in c.args.self.now.merging))
    c.make_table.new.self.core c.make_table.new.self.removing.stock c.make_table.new.self.collecting.tally c.make_table.result
    c.make_table.ensures.retires
