use Rattle.std.proofs.Common.{arith, refl, ◌∙◌}
use Rattle.std.specs.Prelude.{None}
use Rattle.vl_steps.specs.laws.InstallExits.{calls_by, carries_by, carries_ended, carries_short, failed_by, files_by}
use Rattle.vl_steps.specs.laws.InstallExits.{fits_by, fits_ended, fits_short, keeps_told, leaves_by, meanwhile_by}
use Rattle.vl_steps.specs.laws.InstallExits.{raced_so, ruled_halted, ruled_raced, stands_by, stands_ended, stands_short}
use Rattle.vl_steps.specs.laws.InstallExits.{stopped_by, untold_by, untouched_by, within_by}
use Rattle.vl_steps.specs.laws.Steady.{install_steady}
use Rattle.vl_steps.specs.laws.InstallTotal.{core_by, halted_at, none_races, not_halted, written_by}
use Rattle.vl_engine_laws.specs.laws.Untouched.{alone}
use Rattle.vl_compact.specs.Progress.{made_of}
use Rattle.vl_compact.specs.Racing.{IsMoved}
use Rattle.vl_engine.proofs.Refusing.{raced_by, unraced}
use Rattle.vl_engine.specs.Refusals.{moved_in}
use Rattle.vl_engine.proofs.Switching.{install_collects, install_err, install_passes}
use Rattle.vl_engine_laws.specs.Lent.{StandsOpen}
use Rattle.vl_steps.specs.Merging.{install_effects, made_numbers}
use Rattle.vl_steps.specs.declared.fails.InstallFail.TheVariants as fails
use Rattle.vl_engine_model.specs.Decides.{no_effects}
use Rattle.vl_engine_laws.specs.Represents.{file_of}
use Rattle.vl_engine_model.specs.Rulings.Install as ruling
use Rattle.std.proofs.Common.{ap, length, subst, sym}
use Rattle.vl_engine_laws.specs.declared.kept.Core.{Core}
use Rattle.vl_steps.specs.laws.Flushed.{runs_on}
use Rattle.vl_engine.proofs.LeftRemoved.{halted_none, removes_left, room_left, there_left}
use Rattle.vl_engine.proofs.Retired.Installs.{ended_by, fewer_leavings, halted_other, install_removes, raced_other}
use Rattle.vl_engine.proofs.Retired.Installs.{short_by, way_of, whole_numbers}
use Rattle.vl_space.specs.Removing.{Removes}
use Rattle.vl_engine_laws.specs.Lent.{lent_in}
use Rattle.vl_engine_model.specs.Jobs.{job_ended}
use Rattle.vl_engine.proofs.StockExits.{installed}
use Rattle.vl_pins.specs.declared.pins.Pins.{Pins}
use Rattle.vl_space.specs.laws.Pinned.{same_beside}
use Rattle.vl_space.specs.laws.Retired.Changing.{stays_itself}
use Rattle.vl_engine.proofs.engine.Engine.install.Goals as goal

-- a call failed before

pub returns-in-Some-clause-stands : goal.returns-in-Some-clause-stands
returns-in-Some-clause-stands g c state h l o told is opened files whole lent =
    stands_ended g.D.Watched g.D.Held.HeldFile.bytes g.D.Writer.Writer c.args.job c.args.self.now.disk c.args.self.now.core
    c.args.self.now.merging h l o is opened whole lent
    (ruling.Halted (file_of c.in-Some.name))
    (ruled_halted g.D.Watched g.D.Held.HeldFile.bytes g.D.Writer.Writer c.args.job c.args.self.now.disk c.args.self.now.core
    c.args.self.now.merging h l o is opened whole lent
    c.in-Some.name c.in-Some.is) None refl

pub returns-in-Some-clause-carries : goal.returns-in-Some-clause-carries
returns-in-Some-clause-carries g c h l o represents is opened whole lent =
    carries_ended g.D.Watched g.D.Held.HeldFile.bytes g.D.Writer.Writer c.args.job c.args.self.now.disk c.args.self.now.core
    c.args.self.now.merging h l o is opened whole lent
    (ruling.Halted (file_of c.in-Some.name))
    (ruled_halted g.D.Watched g.D.Held.HeldFile.bytes g.D.Writer.Writer c.args.job c.args.self.now.disk c.args.self.now.core
    c.args.self.now.merging h l o is opened whole lent
    c.in-Some.name c.in-Some.is)
    (record { only_now = g.met.D.Disk.only_now; counts_now = g.met.D.Disk.counts_now }) represents

pub returns-in-Some-clause-fits : goal.returns-in-Some-clause-fits
returns-in-Some-clause-fits g c h l o is opened whole lent fits =
    fits_ended g.D.Watched g.D.Held.HeldFile.bytes g.D.Writer.Writer c.args.job c.args.self.now.disk c.args.self.now.core
    c.args.self.now.merging h l o is opened whole lent
    (ruling.Halted (file_of c.in-Some.name))
    (ruled_halted g.D.Watched g.D.Held.HeldFile.bytes g.D.Writer.Writer c.args.job c.args.self.now.disk c.args.self.now.core
    c.args.self.now.merging h l o is opened whole lent
    c.in-Some.name c.in-Some.is) fits

pub returns-in-Some-clause-untouched : goal.returns-in-Some-clause-untouched
returns-in-Some-clause-untouched g c leaves =
    alone g.D.Watched c.args.self.now.disk c.args.self.now.disk refl

pub returns-in-Some-clause-core : goal.returns-in-Some-clause-core
returns-in-Some-clause-core g c =
    (c.in-Some.is, refl)

pub returns-in-Some-clause-halted : goal.returns-in-Some-clause-halted
returns-in-Some-clause-halted g c name is =
    halted_at c.args.self.now.core.front.halted c.in-Some.name name c.in-Some.is is

pub returns-in-Some-clause-written : goal.returns-in-Some-clause-written
returns-in-Some-clause-written g c =
    tt

pub returns-in-Some-clause-unraced : goal.returns-in-Some-clause-unraced
returns-in-Some-clause-unraced g c j whole failed =
    absurd failed

pub returns-in-Some-clause-files : goal.returns-in-Some-clause-files
returns-in-Some-clause-files g c =
    keeps_told (made_numbers c.args.job) (g.D.Watched.told c.args.self.now.disk) (g.D.Watched.told c.args.self.now.disk) refl

pub returns-in-Some-clause-calls : goal.returns-in-Some-clause-calls
returns-in-Some-clause-calls g c =
    tt

pub returns-in-Some-clause-untold : goal.returns-in-Some-clause-untold
returns-in-Some-clause-untold g c =
    tt

pub returns-in-Some-clause-steady : goal.returns-in-Some-clause-steady
returns-in-Some-clause-steady g c gives = gives

pub returns-in-Some-clause-cause : goal.returns-in-Some-clause-cause
returns-in-Some-clause-cause g c =
    record { later = omega arith; rose = λ failed. absurd failed; steady = λ fine. refl }

pub returns-in-Some-clause-stopped : goal.returns-in-Some-clause-stopped
returns-in-Some-clause-stopped g c name failed =
    absurd cc

pub returns-in-Some-clause-failed : goal.returns-in-Some-clause-failed
returns-in-Some-clause-failed g c failed =
    absurd failed

pub returns-in-Some-clause-meanwhile : goal.returns-in-Some-clause-meanwhile
returns-in-Some-clause-meanwhile g c failed =
    absurd failed

pub returns-in-Some-clause-leaves : goal.returns-in-Some-clause-leaves
returns-in-Some-clause-leaves g c h l now represents within failed =
    absurd failed

pub returns-in-Some-clause-within : goal.returns-in-Some-clause-within
returns-in-Some-clause-within g c fine within =
    within

pub returns-in-Some-clause-handed : goal.returns-in-Some-clause-handed
returns-in-Some-clause-handed g c =
    refl

-- a deletion that it dropped was moved meanwhile

pub returns-in-Ok-Some-clause-stands : goal.returns-in-Ok-Some-clause-stands
returns-in-Ok-Some-clause-stands g c state h l o told is opened files whole lent =
    stands_ended g.D.Watched g.D.Held.HeldFile.bytes g.D.Writer.Writer c.args.job c.args.self.now.disk c.args.self.now.core
    c.args.self.now.merging h l o is opened whole lent
    (ruling.Raced c.in-Ok-Some.key c.in-Ok-Some.epoch)
    (ruled_raced g.D.Watched g.D.Held.HeldFile.bytes g.D.Writer.Writer c.args.job c.args.self.now.disk c.args.self.now.core
    c.args.self.now.merging h l o is opened whole lent
    c.in_default.is (c.in-Ok-Some.key, c.in-Ok-Some.epoch)
    (raced_so g.D.Watched g.D.Held.HeldFile.bytes g.D.Writer.Writer c.args.job c.args.self.now.disk c.args.self.now.core
    c.args.self.now.merging h l o is opened whole lent
    c.requires c.in-Ok-Some.field-0 c.in-Ok-Some.ensures.raced ∙ c.in-Ok-Some.field-0-is)) None refl

pub returns-in-Ok-Some-clause-carries : goal.returns-in-Ok-Some-clause-carries
returns-in-Ok-Some-clause-carries g c h l o represents is opened whole lent =
    carries_ended g.D.Watched g.D.Held.HeldFile.bytes g.D.Writer.Writer c.args.job c.args.self.now.disk c.args.self.now.core
    c.args.self.now.merging h l o is opened whole lent
    (ruling.Raced c.in-Ok-Some.key c.in-Ok-Some.epoch)
    (ruled_raced g.D.Watched g.D.Held.HeldFile.bytes g.D.Writer.Writer c.args.job c.args.self.now.disk c.args.self.now.core
    c.args.self.now.merging h l o is opened whole lent
    c.in_default.is (c.in-Ok-Some.key, c.in-Ok-Some.epoch)
    (raced_so g.D.Watched g.D.Held.HeldFile.bytes g.D.Writer.Writer c.args.job c.args.self.now.disk c.args.self.now.core
    c.args.self.now.merging h l o is opened whole lent
    c.requires c.in-Ok-Some.field-0 c.in-Ok-Some.ensures.raced ∙ c.in-Ok-Some.field-0-is))
    (record { only_now = g.met.D.Disk.only_now; counts_now = g.met.D.Disk.counts_now }) represents

pub returns-in-Ok-Some-clause-fits : goal.returns-in-Ok-Some-clause-fits
returns-in-Ok-Some-clause-fits g c h l o is opened whole lent fits =
    fits_ended g.D.Watched g.D.Held.HeldFile.bytes g.D.Writer.Writer c.args.job c.args.self.now.disk c.args.self.now.core
    c.args.self.now.merging h l o is opened whole lent
    (ruling.Raced c.in-Ok-Some.key c.in-Ok-Some.epoch)
    (ruled_raced g.D.Watched g.D.Held.HeldFile.bytes g.D.Writer.Writer c.args.job c.args.self.now.disk c.args.self.now.core
    c.args.self.now.merging h l o is opened whole lent
    c.in_default.is (c.in-Ok-Some.key, c.in-Ok-Some.epoch)
    (raced_so g.D.Watched g.D.Held.HeldFile.bytes g.D.Writer.Writer c.args.job c.args.self.now.disk c.args.self.now.core
    c.args.self.now.merging h l o is opened whole lent
    c.requires c.in-Ok-Some.field-0 c.in-Ok-Some.ensures.raced ∙ c.in-Ok-Some.field-0-is)) fits

pub returns-in-Ok-Some-clause-untouched : goal.returns-in-Ok-Some-clause-untouched
returns-in-Ok-Some-clause-untouched g c leaves =
    alone g.D.Watched c.args.self.now.disk c.args.self.now.disk refl

pub returns-in-Ok-Some-clause-core : goal.returns-in-Ok-Some-clause-core
returns-in-Ok-Some-clause-core g c =
    (c.in_default.is, refl)

pub returns-in-Ok-Some-clause-halted : goal.returns-in-Ok-Some-clause-halted
returns-in-Ok-Some-clause-halted g c name is =
    not_halted c.args.self.now.core.front.halted name c.in_default.is is

pub returns-in-Ok-Some-clause-written : goal.returns-in-Ok-Some-clause-written
returns-in-Ok-Some-clause-written g c =
    tt

pub returns-in-Ok-Some-clause-unraced : goal.returns-in-Ok-Some-clause-unraced
returns-in-Ok-Some-clause-unraced g c j whole failed =
    absurd failed

pub returns-in-Ok-Some-clause-files : goal.returns-in-Ok-Some-clause-files
returns-in-Ok-Some-clause-files g c =
    keeps_told (made_numbers c.args.job) (g.D.Watched.told c.args.self.now.disk) (g.D.Watched.told c.args.self.now.disk) refl

pub returns-in-Ok-Some-clause-calls : goal.returns-in-Ok-Some-clause-calls
returns-in-Ok-Some-clause-calls g c =
    tt

pub returns-in-Ok-Some-clause-untold : goal.returns-in-Ok-Some-clause-untold
returns-in-Ok-Some-clause-untold g c =
    tt

pub returns-in-Ok-Some-clause-steady : goal.returns-in-Ok-Some-clause-steady
returns-in-Ok-Some-clause-steady g c gives = gives

pub returns-in-Ok-Some-clause-cause : goal.returns-in-Ok-Some-clause-cause
returns-in-Ok-Some-clause-cause g c =
    record { later = omega arith; rose = λ failed. absurd failed; steady = λ fine. refl }

pub returns-in-Ok-Some-clause-stopped : goal.returns-in-Ok-Some-clause-stopped
returns-in-Ok-Some-clause-stopped g c name failed =
    absurd cc

pub returns-in-Ok-Some-clause-failed : goal.returns-in-Ok-Some-clause-failed
returns-in-Ok-Some-clause-failed g c failed =
    absurd failed

pub returns-in-Ok-Some-clause-meanwhile : goal.returns-in-Ok-Some-clause-meanwhile
returns-in-Ok-Some-clause-meanwhile g c failed =
    absurd failed

pub returns-in-Ok-Some-clause-leaves : goal.returns-in-Ok-Some-clause-leaves
returns-in-Ok-Some-clause-leaves g c h l now represents within failed =
    absurd failed

pub returns-in-Ok-Some-clause-within : goal.returns-in-Ok-Some-clause-within
returns-in-Ok-Some-clause-within g c fine within =
    within

pub returns-in-Ok-Some-clause-handed : goal.returns-in-Ok-Some-clause-handed
returns-in-Ok-Some-clause-handed g c =
    refl

-- memory was wanting

pub returns-in-Err-clause-stands : goal.returns-in-Err-clause-stands
returns-in-Err-clause-stands g c state h l o told is opened files whole lent =
    stands_short g.D.Watched g.D.Held.HeldFile.bytes g.D.Writer.Writer c.args.job c.args.self.now.disk c.args.self.now.core
    c.args.self.now.merging h l o is opened whole lent

pub returns-in-Err-clause-carries : goal.returns-in-Err-clause-carries
returns-in-Err-clause-carries g c h l o represents is opened whole lent =
    carries_short g.D.Watched g.D.Held.HeldFile.bytes g.D.Writer.Writer c.args.job c.args.self.now.disk c.args.self.now.core
    c.args.self.now.merging h l o is opened whole lent
    (record { only_now = g.met.D.Disk.only_now; counts_now = g.met.D.Disk.counts_now }) represents c.args.self.now.disk
    (alone g.D.Watched c.args.self.now.disk c.args.self.now.disk refl)

pub returns-in-Err-clause-fits : goal.returns-in-Err-clause-fits
returns-in-Err-clause-fits g c h l o is opened whole lent fits =
    fits_short g.D.Watched g.D.Held.HeldFile.bytes g.D.Writer.Writer c.args.job c.args.self.now.disk c.args.self.now.core
    c.args.self.now.merging h l o is opened whole lent
    fits c.args.self.now.disk (alone g.D.Watched c.args.self.now.disk c.args.self.now.disk refl)

pub returns-in-Err-clause-untouched : goal.returns-in-Err-clause-untouched
returns-in-Err-clause-untouched g c leaves =
    alone g.D.Watched c.args.self.now.disk c.args.self.now.disk refl

pub returns-in-Err-clause-core : goal.returns-in-Err-clause-core
returns-in-Err-clause-core g c =
    refl

pub returns-in-Err-clause-halted : goal.returns-in-Err-clause-halted
returns-in-Err-clause-halted g c name is =
    not_halted c.args.self.now.core.front.halted name c.in_default.is is

pub returns-in-Err-clause-written : goal.returns-in-Err-clause-written
returns-in-Err-clause-written g c =
    tt

pub returns-in-Err-clause-unraced : goal.returns-in-Err-clause-unraced
returns-in-Err-clause-unraced g c j whole failed =
    absurd failed

pub returns-in-Err-clause-files : goal.returns-in-Err-clause-files
returns-in-Err-clause-files g c =
    keeps_told (made_numbers c.args.job) (g.D.Watched.told c.args.self.now.disk) (g.D.Watched.told c.args.self.now.disk) refl

pub returns-in-Err-clause-calls : goal.returns-in-Err-clause-calls
returns-in-Err-clause-calls g c =
    tt

pub returns-in-Err-clause-untold : goal.returns-in-Err-clause-untold
returns-in-Err-clause-untold g c =
    tt

pub returns-in-Err-clause-steady : goal.returns-in-Err-clause-steady
returns-in-Err-clause-steady g c gives = gives

pub returns-in-Err-clause-cause : goal.returns-in-Err-clause-cause
returns-in-Err-clause-cause g c =
    record { later = omega arith; rose = λ failed. absurd failed; steady = λ fine. refl }

pub returns-in-Err-clause-stopped : goal.returns-in-Err-clause-stopped
returns-in-Err-clause-stopped g c name failed =
    absurd cc

pub returns-in-Err-clause-failed : goal.returns-in-Err-clause-failed
returns-in-Err-clause-failed g c failed =
    absurd failed

pub returns-in-Err-clause-meanwhile : goal.returns-in-Err-clause-meanwhile
returns-in-Err-clause-meanwhile g c failed =
    absurd failed

pub returns-in-Err-clause-leaves : goal.returns-in-Err-clause-leaves
returns-in-Err-clause-leaves g c h l now represents within failed =
    absurd failed

pub returns-in-Err-clause-within : goal.returns-in-Err-clause-within
returns-in-Err-clause-within g c fine within =
    within

pub returns-in-Err-clause-handed : goal.returns-in-Err-clause-handed
returns-in-Err-clause-handed g c =
    (refl, refl)

-- nothing stands against it but that an epoch may be wanting

pub returns-in-Ok-None-clause-stands : goal.returns-in-Ok-None-clause-stands
returns-in-Ok-None-clause-stands g c state h l o told is opened files whole lent =
    stands_by g.D.Watched g.D.Held.HeldFile.bytes g.D.Writer.Writer c.args.job c.args.self.now.disk c.args.self.now.core
    c.args.self.now.merging h l o is opened whole lent
    c.requires c.in_default.is
    (raced_so g.D.Watched g.D.Held.HeldFile.bytes g.D.Writer.Writer c.args.job c.args.self.now.disk c.args.self.now.core
    c.args.self.now.merging h l o is opened whole lent
    c.requires c.in-Ok-None.field-0 c.in-Ok-None.ensures.raced ∙ c.in-Ok-None.field-0-is)
    c.install_unraced.new.self.disk c.install_unraced.new.self.core
    state told files c.install_unraced.new.self.merging c.install_unraced.result c.install_unraced.ensures.as_unraced
    c.install_unraced.ensures.handed

pub returns-in-Ok-None-clause-carries : goal.returns-in-Ok-None-clause-carries
returns-in-Ok-None-clause-carries g c h l o represents is opened whole lent =
    carries_by g.D.Watched g.D.Held.HeldFile.bytes g.D.Writer.Writer c.args.job c.args.self.now.disk c.args.self.now.core
    c.args.self.now.merging h l o is opened whole lent
    c.requires c.in_default.is
    (raced_so g.D.Watched g.D.Held.HeldFile.bytes g.D.Writer.Writer c.args.job c.args.self.now.disk c.args.self.now.core
    c.args.self.now.merging h l o is opened whole lent
    c.requires c.in-Ok-None.field-0 c.in-Ok-None.ensures.raced ∙ c.in-Ok-None.field-0-is)
    c.install_unraced.new.self.disk c.install_unraced.new.self.core
    (record { only_now = g.met.D.Disk.only_now; counts_now = g.met.D.Disk.counts_now }) represents
    c.install_unraced.result c.install_unraced.ensures.as_unraced

pub returns-in-Ok-None-clause-fits : goal.returns-in-Ok-None-clause-fits
returns-in-Ok-None-clause-fits g c h l o is opened whole lent fits =
    fits_by g.D.Watched g.D.Held.HeldFile.bytes g.D.Writer.Writer c.args.job c.args.self.now.disk c.args.self.now.core
    c.args.self.now.merging h l o is opened whole lent
    c.requires c.in_default.is
    (raced_so g.D.Watched g.D.Held.HeldFile.bytes g.D.Writer.Writer c.args.job c.args.self.now.disk c.args.self.now.core
    c.args.self.now.merging h l o is opened whole lent
    c.requires c.in-Ok-None.field-0 c.in-Ok-None.ensures.raced ∙ c.in-Ok-None.field-0-is)
    c.install_unraced.new.self.disk c.install_unraced.new.self.core
    fits c.install_unraced.result c.install_unraced.ensures.as_unraced

pub returns-in-Ok-None-clause-untouched : goal.returns-in-Ok-None-clause-untouched
returns-in-Ok-None-clause-untouched g c leaves =
    untouched_by g.D.Watched g.D.Held.HeldFile.bytes g.D.Writer.Writer c.args.job c.args.self.now.disk c.install_unraced.new.self.disk
    c.args.self.now.core c.install_unraced.new.self.core c.install_unraced.result c.install_unraced.ensures.as_unraced leaves

pub returns-in-Ok-None-clause-core : goal.returns-in-Ok-None-clause-core
returns-in-Ok-None-clause-core g c =
    core_by g.D.Watched g.D.Held.HeldFile.bytes g.D.Writer.Writer c.args.job c.args.self.now.disk c.install_unraced.new.self.disk
    c.args.self.now.core c.install_unraced.new.self.core c.in_default.is
    c.install_unraced.result c.install_unraced.ensures.as_unraced

pub returns-in-Ok-None-clause-halted : goal.returns-in-Ok-None-clause-halted
returns-in-Ok-None-clause-halted g c name is =
    not_halted c.args.self.now.core.front.halted name c.in_default.is is

pub returns-in-Ok-None-clause-written : goal.returns-in-Ok-None-clause-written
returns-in-Ok-None-clause-written g c =
    written_by g.D.Watched g.D.Held.HeldFile.bytes g.D.Writer.Writer c.args.job c.args.self.now.disk c.install_unraced.new.self.disk
    c.args.self.now.core c.install_unraced.new.self.core c.install_unraced.result c.install_unraced.ensures.as_unraced

pub returns-in-Ok-None-clause-unraced : goal.returns-in-Ok-None-clause-unraced
returns-in-Ok-None-clause-unraced g c j whole failed =
    none_races g.D.Held.HeldFile.bytes g.D.Writer.Writer c.args.job c.args.self.now.merging c.in-Ok-None.field-0
    c.in-Ok-None.ensures.raced c.in-Ok-None.field-0-is j whole

pub returns-in-Ok-None-clause-handed : goal.returns-in-Ok-None-clause-handed
returns-in-Ok-None-clause-handed g c =
    c.install_unraced.ensures.handed

pub returns-in-Ok-None-clause-files : goal.returns-in-Ok-None-clause-files
returns-in-Ok-None-clause-files g c =
    files_by g.D.Watched g.D.Held.HeldFile.bytes g.D.Writer.Writer c.args.job c.args.self.now.disk c.install_unraced.new.self.disk
    c.args.self.now.core c.install_unraced.new.self.core c.install_unraced.result c.install_unraced.ensures.as_unraced

pub returns-in-Ok-None-clause-calls : goal.returns-in-Ok-None-clause-calls
returns-in-Ok-None-clause-calls g c =
    calls_by g.D.Watched g.D.Held.HeldFile.bytes g.D.Writer.Writer c.args.job c.args.self.now.disk c.install_unraced.new.self.disk
    c.args.self.now.core c.install_unraced.new.self.core c.install_unraced.result c.install_unraced.ensures.as_unraced

pub returns-in-Ok-None-clause-untold : goal.returns-in-Ok-None-clause-untold
returns-in-Ok-None-clause-untold g c =
    untold_by g.D.Watched g.D.Held.HeldFile.bytes g.D.Writer.Writer c.args.job c.args.self.now.disk c.install_unraced.new.self.disk
    c.args.self.now.core c.install_unraced.new.self.core c.install_unraced.result c.install_unraced.ensures.as_unraced

pub returns-in-Ok-None-clause-steady : goal.returns-in-Ok-None-clause-steady
returns-in-Ok-None-clause-steady g c gives =
    install_steady g.D.Watched c.args.self.now.core c.install_unraced.new.self.core c.args.self.now.disk
    c.install_unraced.new.self.disk g.D.Held.HeldFile.bytes g.D.Writer.Writer c.args.job c.install_unraced.result
    c.install_unraced.ensures.as_unraced gives

pub returns-in-Ok-None-clause-cause : goal.returns-in-Ok-None-clause-cause
returns-in-Ok-None-clause-cause g c =
    c.install_unraced.ensures.cause

pub returns-in-Ok-None-clause-stopped : goal.returns-in-Ok-None-clause-stopped
returns-in-Ok-None-clause-stopped g c name failed =
    stopped_by g.D.Watched g.D.Held.HeldFile.bytes g.D.Writer.Writer c.args.job c.args.self.now.disk c.install_unraced.new.self.disk
    c.args.self.now.core c.install_unraced.new.self.core c.install_unraced.result c.install_unraced.ensures.as_unraced name failed

pub returns-in-Ok-None-clause-failed : goal.returns-in-Ok-None-clause-failed
returns-in-Ok-None-clause-failed g c failed =
    failed_by g.D.Watched g.D.Held.HeldFile.bytes g.D.Writer.Writer c.args.job c.args.self.now.disk c.install_unraced.new.self.disk
    c.args.self.now.core c.install_unraced.new.self.core c.in_default.is
    c.install_unraced.result c.install_unraced.ensures.as_unraced failed

pub returns-in-Ok-None-clause-meanwhile : goal.returns-in-Ok-None-clause-meanwhile
returns-in-Ok-None-clause-meanwhile g c failed =
    meanwhile_by g.D.Watched g.D.Held.HeldFile.bytes g.D.Writer.Writer c.args.job c.args.self.now.disk c.install_unraced.new.self.disk
    c.args.self.now.core c.install_unraced.new.self.core c.install_unraced.result c.install_unraced.ensures.as_unraced failed

pub returns-in-Ok-None-clause-leaves : goal.returns-in-Ok-None-clause-leaves
returns-in-Ok-None-clause-leaves g c h l now represents within failed told =
    leaves_by g.D.Watched g.D.Held.HeldFile.bytes g.D.Writer.Writer c.args.job c.args.self.now.disk c.install_unraced.new.self.disk
    c.args.self.now.core c.install_unraced.new.self.core
    (record { only_now = g.met.D.Disk.only_now; counts_now = g.met.D.Disk.counts_now }) c.in_default.is h l represents within
    c.install_unraced.result c.install_unraced.ensures.as_unraced failed now told

pub returns-in-Ok-None-clause-within : goal.returns-in-Ok-None-clause-within
returns-in-Ok-None-clause-within g c fine within =
    within_by g.D.Watched g.D.Held.HeldFile.bytes g.D.Writer.Writer c.args.job c.args.self.now.disk c.install_unraced.new.self.disk
    c.args.self.now.core c.install_unraced.new.self.core c.install_unraced.result c.install_unraced.ensures.as_unraced fine within

-- what is kept of live bytes

pub returns-in-Some-clause-collects : goal.returns-in-Some-clause-collects
returns-in-Some-clause-collects g c state h l o told is opened files whole lent has =
    install_err g.row.D-Reader.Denot g.row.D-Writer.Denot g.D.Writer.Writer c.args.self.now.core c.args.self.now.collecting _ h l o.job
    (made_of c.args.job o.job) no_effects has (fails.Halted c.in-Some.name)
    (returns-in-Some-clause-stands g c state h l o told is opened files whole lent)

pub returns-in-Ok-Some-clause-collects : goal.returns-in-Ok-Some-clause-collects
returns-in-Ok-Some-clause-collects g c state h l o told is opened files whole lent has =
    install_err g.row.D-Reader.Denot g.row.D-Writer.Denot g.D.Writer.Writer c.args.self.now.core c.args.self.now.collecting _ h l o.job
    (made_of c.args.job o.job) no_effects has (fails.Raced c.in-Ok-Some.key c.in-Ok-Some.epoch)
    (returns-in-Ok-Some-clause-stands g c state h l o told is opened files whole lent)

pub returns-in-Err-clause-collects : goal.returns-in-Err-clause-collects
returns-in-Err-clause-collects g c state h l o told is opened files whole lent has =
    install_err g.row.D-Reader.Denot g.row.D-Writer.Denot g.D.Writer.Writer c.args.self.now.core c.args.self.now.collecting _ h l o.job
    (made_of c.args.job o.job) no_effects has (fails.NoMemory c.args.job)
    (returns-in-Err-clause-stands g c state h l o told is opened files whole lent)

pub returns-in-Ok-None-clause-collects : goal.returns-in-Ok-None-clause-collects
returns-in-Ok-None-clause-collects g c state h l o told is opened files whole lent has =
    install_collects g.D.Held.HeldFile.bytes g.D.Writer.Writer c.args.job c.args.self.now.core c.install_unraced.new.self.core
    c.args.self.now.collecting c.install_unraced.new.self.collecting h l o is.stands
    opened whole has c.install_unraced.result (returns-in-Ok-None-clause-core g c) c.install_unraced.ensures.collected
    (install_effects c.install_unraced.result)
    (StandsOpen g.D.Held.HeldFile.bytes c.install_unraced.new.self.core c.install_unraced.new.self.merging) (λ k x s. s.stands)
    (returns-in-Ok-None-clause-stands g c state h l o told is opened files whole lent)

pub returns-in-Ok-None-clause-passing : goal.returns-in-Ok-None-clause-passing
returns-in-Ok-None-clause-passing g c =
    install_passes g.D.Held.HeldFile.bytes g.D.Writer.Writer c.args.job c.args.self.now.core c.install_unraced.new.self.core
    c.args.self.now.collecting c.install_unraced.new.self.collecting c.install_unraced.result c.install_unraced.ensures.collected

-- which files can go

pub returns-in-Ok-None-clause-removes : goal.returns-in-Ok-None-clause-removes
returns-in-Ok-None-clause-removes g c state h l o told is opened files whole lent has removes =
    let core = c.args.self.now.core in
    let way = way_of g.D.Watched g.D.Writer.Writer c.args.self.now.disk core.front.halted c.args.self.now.merging c.args.job c.requires in
    install_removes g.D.Watched g.D.Held.HeldFile.bytes g.D.Writer.Writer g.D.Held.HeldFile.size g.met.D.Held.HeldFile.sized c.args.job
    c.args.self.now.disk c.install_unraced.new.self.disk core c.install_unraced.new.self.core c.args.self.now.removing
    c.install_unraced.new.self.removing c.args.self.now.collecting c.install_unraced.new.self.collecting c.args.self.now.merging
    c.install_unraced.new.self.merging (length (lent_in c.args.self.now.merging)) h l is.stands o opened whole lent removes
    (runs_on core h l is.stands.fronts c.in_default.is) has
    (fewer_leavings c.args.job (length (lent_in c.args.self.now.merging))
    (room_left c.args.job g.D.Watched c.args.self.now.disk core.front.halted c.args.self.now.merging way))
    (λ pins left same. subst (λ (x : Core g.row.D-Held.Denot). Removes x c.install_unraced.new.self.removing
    (job_ended (made_of c.args.job o.job) l)) (sym same)
    (removes_left g.D.Watched c.args.self.now.disk core c.args.self.now.merging c.args.job c.args.self.now.removing
    c.install_unraced.new.self.removing c.args.self.now.there way left l (made_of c.args.job o.job)
    (whole_numbers g.D.Writer.Writer g.D.Held.HeldFile.bytes c.args.job o.job whole) (λ runs. c.in_default.is) pins removes))
    (install_effects c.install_unraced.result) c.install_unraced.result c.install_unraced.ensures.as_unraced
    c.install_unraced.ensures.collected c.install_unraced.ensures.retires
    (returns-in-Ok-None-clause-stands g c state h l o told is opened files whole lent)

pub returns-in-Ok-Some-clause-removes : goal.returns-in-Ok-Some-clause-removes
returns-in-Ok-Some-clause-removes g c state h l o told is opened files whole lent has removes =
    let core = c.args.self.now.core in
    let way = way_of g.D.Watched g.D.Writer.Writer c.args.self.now.disk core.front.halted c.args.self.now.merging c.args.job c.requires in
    ended_by (StandsOpen g.D.Held.HeldFile.bytes core None) (λ k x. Removes core c.abandon-in-Ok-Some.new.removing x) h l o.job
    (made_of c.args.job o.job) _ no_effects
    (removes_left g.D.Watched c.args.self.now.disk core c.args.self.now.merging c.args.job c.args.self.now.removing
    c.abandon-in-Ok-Some.new.removing c.args.self.now.there way c.abandon-in-Ok-Some.ensures.left l (made_of c.args.job o.job)
    (whole_numbers g.D.Writer.Writer g.D.Held.HeldFile.bytes c.args.job o.job whole) (λ runs. c.in_default.is)
    c.abandon-in-Ok-Some.ensures.pins removes)
    (λ e. raced_other _ _ e)
    (returns-in-Ok-Some-clause-stands g c state h l o told is opened files whole lent)

pub returns-in-Some-clause-removes : goal.returns-in-Some-clause-removes
returns-in-Some-clause-removes g c state h l o told is opened files whole lent has removes =
    let core = c.args.self.now.core in
    let way = way_of g.D.Watched g.D.Writer.Writer c.args.self.now.disk core.front.halted c.args.self.now.merging c.args.job c.requires in
    ended_by (StandsOpen g.D.Held.HeldFile.bytes core None) (λ k x. Removes core c.abandon.new.removing x) h l o.job
    (made_of c.args.job o.job) _ no_effects
    (removes_left g.D.Watched c.args.self.now.disk core c.args.self.now.merging c.args.job c.args.self.now.removing
    c.abandon.new.removing c.args.self.now.there way c.abandon.ensures.left l (made_of c.args.job o.job)
    (whole_numbers g.D.Writer.Writer g.D.Held.HeldFile.bytes c.args.job o.job whole)
    (λ runs. halted_none core.front.halted (is.stands.fronts.halted ∙ runs)) c.abandon.ensures.pins removes)
    (λ e. halted_other _ e)
    (returns-in-Some-clause-stands g c state h l o told is opened files whole lent)

pub returns-in-Err-clause-removes : goal.returns-in-Err-clause-removes
returns-in-Err-clause-removes g c state h l o told is opened files whole lent has removes =
    short_by (StandsOpen g.D.Held.HeldFile.bytes c.args.self.now.core c.args.self.now.merging)
    (λ k x. Removes c.args.self.now.core c.args.self.now.removing x) h l o.job (made_of c.args.job o.job) no_effects removes
    (returns-in-Err-clause-stands g c state h l o told is opened files whole lent)

-- the files in use stand

pub invariant_of-self-in-Ok-Some-clause-there : goal.invariant_of-self-in-Ok-Some-clause-there
invariant_of-self-in-Ok-Some-clause-there g c running =
    let was = c.args.self.now in
    there_left g.D.Watched was.disk was.core was.merging c.args.job was.removing.stock c.abandon-in-Ok-Some.new.removing.stock
    (was.there running)
    (way_of g.D.Watched g.D.Writer.Writer was.disk was.core.front.halted was.merging c.args.job c.requires)
    c.abandon-in-Ok-Some.ensures.left running was.lent

-- what lives is pinned still

pub invariant_of-self-clause-pinned : goal.invariant_of-self-clause-pinned
invariant_of-self-clause-pinned g c =
    let was = c.args.self.now in
    same_beside was.core.front.oracle was.removing.pins c.abandon.new.removing.pins was.pinned
    (ap (λ (p : Pins). p.live.tickets) c.abandon.ensures.pins)

pub invariant_of-self-in-Ok-Some-clause-pinned : goal.invariant_of-self-in-Ok-Some-clause-pinned
invariant_of-self-in-Ok-Some-clause-pinned g c =
    let was = c.args.self.now in
    same_beside was.core.front.oracle was.removing.pins c.abandon-in-Ok-Some.new.removing.pins was.pinned
    (ap (λ (p : Pins). p.live.tickets) c.abandon-in-Ok-Some.ensures.pins)

-- what a halted engine leaves pinned

pub returns-in-Some-clause-unpinned : goal.returns-in-Some-clause-unpinned
returns-in-Some-clause-unpinned g c name is = c.abandon.ensures.pins

pub returns-in-Ok-None-clause-unpinned : goal.returns-in-Ok-None-clause-unpinned
returns-in-Ok-None-clause-unpinned g c name is = not_halted c.args.self.now.core.front.halted name c.in_default.is is

pub returns-in-Ok-Some-clause-unpinned : goal.returns-in-Ok-Some-clause-unpinned
returns-in-Ok-Some-clause-unpinned g c name is = not_halted c.args.self.now.core.front.halted name c.in_default.is is

pub returns-in-Err-clause-unpinned : goal.returns-in-Err-clause-unpinned
returns-in-Err-clause-unpinned g c name is = not_halted c.args.self.now.core.front.halted name c.in_default.is is

-- what it is raced by

pub returns-in-Some-clause-raced : goal.returns-in-Some-clause-raced
returns-in-Some-clause-raced g c key epoch is = absurd cc

pub returns-in-Err-clause-raced : goal.returns-in-Err-clause-raced
returns-in-Err-clause-raced g c key epoch is = absurd cc

pub returns-in-Ok-Some-clause-raced : goal.returns-in-Ok-Some-clause-raced
returns-in-Ok-Some-clause-raced g c key epoch is =
    raced_by (IsMoved (moved_in c.args.self.now.merging) c.args.job.needless.items) c.in-Ok-Some.key key c.in-Ok-Some.epoch epoch is
    (c.in-Ok-Some.ensures.cause (c.in-Ok-Some.key, c.in-Ok-Some.epoch) c.in-Ok-Some.field-0-is)

pub returns-in-Ok-None-clause-raced : goal.returns-in-Ok-None-clause-raced
returns-in-Ok-None-clause-raced g c key epoch is =
    unraced g.D.Watched g.D.Held.HeldFile.bytes g.D.Writer.Writer c.args.job c.args.self.now.disk c.install_unraced.new.self.disk
    c.args.self.now.core c.install_unraced.new.self.core c.install_unraced.result key epoch c.install_unraced.ensures.as_unraced is

-- the files in use, and those that wait, whatever is told

pub returns-in-Some-clause-retires : goal.returns-in-Some-clause-retires
returns-in-Some-clause-retires g c =
    (c.abandon.ensures.pins, c.abandon.ensures.left)

pub returns-in-Ok-Some-clause-retires : goal.returns-in-Ok-Some-clause-retires
returns-in-Ok-Some-clause-retires g c = (c.abandon-in-Ok-Some.ensures.pins, c.abandon-in-Ok-Some.ensures.left)

pub returns-in-Err-clause-retires : goal.returns-in-Err-clause-retires
returns-in-Err-clause-retires g c = (refl, stays_itself c.args.self.now.core c.args.self.now.removing.stock)

pub returns-in-Ok-None-clause-retires : goal.returns-in-Ok-None-clause-retires
returns-in-Ok-None-clause-retires g c =
    installed c.args.job c.args.self.now.core c.install_unraced.new.self.core c.args.self.now.removing
    c.install_unraced.new.self.removing c.install_unraced.new.self.collecting.tally (length (lent_in c.args.self.now.merging))
    c.install_unraced.result c.install_unraced.ensures.retires
