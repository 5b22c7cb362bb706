use Rattle.std.proofs.Common.{arith, length, refl, subst, sym}
use Rattle.vl_engine_laws.specs.Represents.{Fronts}
use Rattle.vl_steps.specs.laws.Begins.{keeps_told}
use Rattle.vl_engine.proofs.Collected.{refused_undone, rotate_collects, rotate_leaves, rotate_passes, step_left}
use Rattle.vl_steps.specs.laws.Fitted.{rotate_refused, rotated_by}
use Rattle.vl_steps.specs.laws.Leaving.{rotate_within}
use Rattle.vl_steps.specs.laws.RotateSteps.{leaves_numbers, running_so}
use Rattle.vl_engine.proofs.Retired.Rotating.{rotate_leaves_so, rotate_removes}
use Rattle.vl_space.specs.Removing.{Removes}
use Rattle.vl_steps.specs.laws.Rotated.{begins_by, calls_by, can_by, carries_as_refused, carries_by, fronts_as_refused}
use Rattle.vl_steps.specs.laws.Rotated.{fronts_by, numbers_held, refused_calls, refused_no_disk, stands_as_refused}
use Rattle.vl_steps.specs.laws.Rotated.{stands_by, stopped_by, untouched_by}
use Rattle.vl_engine_laws.specs.laws.Untouched.{alone}
use Rattle.vl_steps.specs.Rotating.{rotate_effects}
use Rattle.vl_steps.specs.Stepping.{StepFailed}
use Rattle.vl_engine_model.specs.Rulings.Rotate.{rotate_ruling}
use Rattle.vl_steps.specs.laws.Steady.{rotate_steady}
use Rattle.vl_steps.specs.laws.Untold.{rotate_untold, untold_same}
use Rattle.vl_engine.proofs.StockExits.{rotated, rotated_none}
use Rattle.vl_engine_laws.specs.Lent.{lent_in}
use Rattle.vl_engine.proofs.engine.Engine.rotate.Goals as goal

-- none is begun

pub returns-in-Some-clause-decides : goal.returns-in-Some-clause-decides
returns-in-Some-clause-decides g c h l is has true_log =
    fronts_as_refused g.D.Watched (record { only_now = g.met.D.Disk.only_now; counts_now = g.met.D.Disk.counts_now })
    g.D.Held.HeldFile.bytes c.args.self.now.core c.args.self.now.disk h l c.in-Some.answer c.in-Some.ensures.refused is has true_log

pub returns-in-Some-clause-stands : goal.returns-in-Some-clause-stands
returns-in-Some-clause-stands g c state h l told is has =
    stands_as_refused g.D.Watched (record { only_now = g.met.D.Disk.only_now; counts_now = g.met.D.Disk.counts_now })
    g.D.Held.HeldFile.bytes c.args.self.now.core c.args.self.now.disk h l c.in-Some.answer c.in-Some.ensures.refused is
    (λ running. (has running).0)

pub returns-in-Some-clause-carries : goal.returns-in-Some-clause-carries
returns-in-Some-clause-carries g c h l is =
    carries_as_refused g.D.Watched (record { only_now = g.met.D.Disk.only_now; counts_now = g.met.D.Disk.counts_now })
    g.D.Held.HeldFile.bytes c.args.self.now.core c.args.self.now.disk h l c.in-Some.answer c.in-Some.ensures.refused is

pub returns-in-Some-clause-fits : goal.returns-in-Some-clause-fits
returns-in-Some-clause-fits g c h l is fits =
    rotate_refused g.D.Held.HeldFile.bytes c.args.self.now.core (g.D.Watched.told c.args.self.now.disk) h l c.in-Some.answer
    c.in-Some.ensures.refused is fits

pub returns-in-Some-clause-untouched : goal.returns-in-Some-clause-untouched
returns-in-Some-clause-untouched g c leaves = alone g.D.Watched _ _ refl

pub returns-in-Some-clause-cause : goal.returns-in-Some-clause-cause
returns-in-Some-clause-cause g c = record {
  later = omega arith;
  rose = λ failed. absurd (refused_no_disk c.args.self.now.core c.in-Some.answer c.in-Some.ensures.refused failed);
  steady = λ fine. refl;
}

pub returns-in-Some-clause-stopped : goal.returns-in-Some-clause-stopped
returns-in-Some-clause-stopped g c name failed =
    absurd (refused_no_disk c.args.self.now.core c.in-Some.answer c.in-Some.ensures.refused
    (subst StepFailed (sym failed) tt))

pub returns-in-Some-clause-files : goal.returns-in-Some-clause-files
returns-in-Some-clause-files g c = keeps_told _ _ _ refl

pub returns-in-Some-clause-calls : goal.returns-in-Some-clause-calls
returns-in-Some-clause-calls g c =
    refused_calls c.args.self.now.core (g.D.Watched.calls c.args.self.now.disk) c.in-Some.answer c.in-Some.ensures.refused

pub returns-in-Some-clause-failed : goal.returns-in-Some-clause-failed
returns-in-Some-clause-failed g c failed =
    absurd (refused_no_disk c.args.self.now.core c.in-Some.answer c.in-Some.ensures.refused failed)

pub returns-in-Some-clause-meanwhile : goal.returns-in-Some-clause-meanwhile
returns-in-Some-clause-meanwhile g c failed =
    absurd (refused_no_disk c.args.self.now.core c.in-Some.answer c.in-Some.ensures.refused failed)

pub returns-in-Some-clause-leaves : goal.returns-in-Some-clause-leaves
returns-in-Some-clause-leaves g c h l now is within failed =
    absurd (refused_no_disk c.args.self.now.core c.in-Some.answer c.in-Some.ensures.refused failed)

pub returns-in-Some-clause-within : goal.returns-in-Some-clause-within
returns-in-Some-clause-within g c fine within = within

pub returns-in-Some-clause-collects : goal.returns-in-Some-clause-collects
returns-in-Some-clause-collects g c h l is has collects =
    let core = c.args.self.now.core in
    step_left core c.args.self.now.collecting (Fronts core) h l (rotate_ruling l h) (rotate_leaves l h) (rotate_effects c.in-Some.answer)
    collects c.in-Some.answer (refused_undone core c.in-Some.answer c.in-Some.ensures.refused)
    (returns-in-Some-clause-decides g c h l is.fronts has is.tidy.true_logs.0)

-- the next log is begun

pub seal_active-requires : goal.seal_active-requires
seal_active-requires g c = c.in-None.ensures.may refl

pub returns-in-None-clause-decides : goal.returns-in-None-clause-decides
returns-in-None-clause-decides g c h l is has true_log =
    let core = c.args.self.now.core in
    let may = c.in-None.ensures.may refl in
    fronts_by g.D.Watched g.D.Held.HeldFile.bytes core c.seal_active.new.self.core c.args.self.now.disk
    c.seal_active.new.self.disk h l (can_by core h l is has may) is (has (running_so core h l is may.running)).next_log true_log
    c.seal_active.result c.seal_active.ensures.as_rotated

pub returns-in-None-clause-stands : goal.returns-in-None-clause-stands
returns-in-None-clause-stands g c state h l told is has =
    let core = c.args.self.now.core in
    let may = c.in-None.ensures.may refl in
    let (numbers, active) = has (running_so core h l is.fronts may.running) in
    stands_by g.D.Watched g.D.Held.HeldFile.bytes core c.seal_active.new.self.core c.args.self.now.disk
    c.seal_active.new.self.disk h l (can_by core h l is.fronts (λ running. numbers) may) state told is numbers.next_log active
    c.seal_active.result c.seal_active.ensures.as_rotated

pub returns-in-None-clause-carries : goal.returns-in-None-clause-carries
returns-in-None-clause-carries g c h l is =
    let core = c.args.self.now.core in
    carries_by g.D.Watched g.D.Held.HeldFile.bytes core c.seal_active.new.self.core c.args.self.now.disk
    c.seal_active.new.self.disk h l
    (can_by core h l is.stands.fronts (numbers_held core.back (g.D.Watched.told c.args.self.now.disk) h l is.held)
    (c.in-None.ensures.may refl))
    (record { only_now = g.met.D.Disk.only_now; counts_now = g.met.D.Disk.counts_now }) is
    c.seal_active.result c.seal_active.ensures.as_rotated

pub returns-in-None-clause-fits : goal.returns-in-None-clause-fits
returns-in-None-clause-fits g c h l is fits =
    let core = c.args.self.now.core in
    let may = c.in-None.ensures.may refl in
    rotated_by g.D.Watched g.D.Held.HeldFile.bytes core c.seal_active.new.self.core c.args.self.now.disk c.seal_active.new.self.disk
    h l is fits (can_by core h l is.fronts (λ running. (fits.running running).numbers) may)
    c.seal_active.result c.seal_active.ensures.as_rotated

pub returns-in-None-clause-untouched : goal.returns-in-None-clause-untouched
returns-in-None-clause-untouched g c leaves =
    untouched_by g.D.Watched g.D.Held.HeldFile.bytes c.args.self.now.core c.seal_active.new.self.core c.args.self.now.disk
    c.seal_active.new.self.disk c.seal_active.result c.seal_active.ensures.as_rotated leaves

pub returns-in-None-clause-stopped : goal.returns-in-None-clause-stopped
returns-in-None-clause-stopped g c name failed =
    stopped_by g.D.Watched g.D.Held.HeldFile.bytes c.args.self.now.core c.seal_active.new.self.core c.args.self.now.disk
    c.seal_active.new.self.disk c.seal_active.result c.seal_active.ensures.as_rotated name failed

pub returns-in-None-clause-calls : goal.returns-in-None-clause-calls
returns-in-None-clause-calls g c =
    calls_by g.D.Watched g.D.Held.HeldFile.bytes c.args.self.now.core c.seal_active.new.self.core c.args.self.now.disk
    c.seal_active.new.self.disk c.seal_active.result c.seal_active.ensures.as_rotated

pub returns-in-None-clause-failed : goal.returns-in-None-clause-failed
returns-in-None-clause-failed g c failed = c.in-None.ensures.may refl

pub returns-in-None-clause-meanwhile : goal.returns-in-None-clause-meanwhile
returns-in-None-clause-meanwhile g c failed =
    begins_by g.D.Watched g.D.Held.HeldFile.bytes c.args.self.now.core c.seal_active.new.self.core c.args.self.now.disk
    c.seal_active.new.self.disk c.seal_active.result c.seal_active.ensures.as_rotated failed

pub returns-in-None-clause-leaves : goal.returns-in-None-clause-leaves
returns-in-None-clause-leaves g c h l now is within failed told =
    let bytes = g.D.Held.HeldFile.bytes in
    let core = c.args.self.now.core in
    let can = can_by core h l is.stands.fronts (numbers_held core.back (g.D.Watched.told c.args.self.now.disk) h l is.held)
    (c.in-None.ensures.may refl) in
    leaves_numbers g.D.Watched (record { only_now = g.met.D.Disk.only_now; counts_now = g.met.D.Disk.counts_now }) bytes core
    c.seal_active.new.self.core h l c.args.self.now.disk c.seal_active.new.self.disk is can
    (begins_by g.D.Watched bytes core c.seal_active.new.self.core c.args.self.now.disk c.seal_active.new.self.disk c.seal_active.result
    c.seal_active.ensures.as_rotated failed) within now told

pub returns-in-None-clause-within : goal.returns-in-None-clause-within
returns-in-None-clause-within g c fine within =
    rotate_within g.D.Watched g.D.Held.HeldFile.bytes c.args.self.now.core c.seal_active.new.self.core c.args.self.now.disk
    c.seal_active.new.self.disk within c.seal_active.result c.seal_active.ensures.as_rotated fine

pub returns-in-Some-clause-untold : goal.returns-in-Some-clause-untold
returns-in-Some-clause-untold g c = untold_same (g.D.Watched.told c.args.self.now.disk) c.in-Some.answer

pub returns-in-None-clause-untold : goal.returns-in-None-clause-untold
returns-in-None-clause-untold g c =
    rotate_untold g.D.Watched c.args.self.now.core c.seal_active.new.self.core c.args.self.now.disk c.seal_active.new.self.disk
    g.D.Held.HeldFile.bytes c.seal_active.result c.seal_active.ensures.as_rotated

pub returns-in-None-clause-steady : goal.returns-in-None-clause-steady
returns-in-None-clause-steady g c gives =
    rotate_steady g.D.Watched c.args.self.now.core c.seal_active.new.self.core c.args.self.now.disk c.seal_active.new.self.disk
    g.D.Held.HeldFile.bytes c.seal_active.result c.seal_active.ensures.as_rotated gives

pub returns-in-None-clause-collects : goal.returns-in-None-clause-collects
returns-in-None-clause-collects g c h l is has collects =
    rotate_collects g.D.Watched g.D.Held.HeldFile.bytes c.args.self.now.core c.seal_active.new.self.core c.args.self.now.disk
    c.seal_active.new.self.disk c.args.self.now.collecting c.seal_active.new.self.collecting h l is collects c.seal_active.result
    c.seal_active.ensures.as_rotated c.seal_active.ensures.collected (Fronts c.seal_active.new.self.core)
    (rotate_effects c.seal_active.result) (returns-in-None-clause-decides g c h l is.fronts has is.tidy.true_logs.0)

pub returns-in-None-clause-passing : goal.returns-in-None-clause-passing
returns-in-None-clause-passing g c =
    rotate_passes g.D.Held.HeldFile.bytes c.args.self.now.core c.seal_active.new.self.core c.args.self.now.collecting
    c.seal_active.new.self.collecting c.seal_active.result c.seal_active.ensures.collected

-- which files can go

pub returns-in-Some-clause-removes : goal.returns-in-Some-clause-removes
returns-in-Some-clause-removes g c h l is opens has removes =
    rotate_leaves_so g.D.Held.HeldFile.bytes c.args.self.now.core h l
    (λ k x. Removes c.args.self.now.core c.args.self.now.removing x) is has c.in-Some.answer c.in-Some.ensures.refused removes

pub returns-in-None-clause-removes : goal.returns-in-None-clause-removes
returns-in-None-clause-removes g c h l is opens has removes =
    rotate_removes g.D.Held.HeldFile.bytes g.D.Held.HeldFile.size g.met.D.Held.HeldFile.sized c.args.self.now.core
    c.seal_active.new.self.core c.args.self.now.removing c.seal_active.new.self.removing c.args.self.now.merging h l is opens removes
    c.seal_active.ensures.pins g.D.Watched c.args.self.now.disk c.seal_active.new.self.disk (Fronts c.seal_active.new.self.core)
    (rotate_effects c.seal_active.result) c.seal_active.result c.seal_active.ensures.as_rotated c.seal_active.ensures.sealed
    (returns-in-None-clause-decides g c h l is.fronts has is.tidy.true_logs.0)

-- the files in use, and those that wait, whatever is told

pub returns-in-Some-clause-retires : goal.returns-in-Some-clause-retires
returns-in-Some-clause-retires g c =
    rotated_none c.args.self.now.core c.args.self.now.removing.stock (length (lent_in c.args.self.now.merging)) c.in-Some.answer
    c.in-Some.ensures.refused

pub returns-in-None-clause-retires : goal.returns-in-None-clause-retires
returns-in-None-clause-retires g c =
    rotated c.args.self.now.core c.args.self.now.removing.stock (length (lent_in c.args.self.now.merging))
    c.seal_active.new.self.removing.stock c.seal_active.result c.seal_active.ensures.sealed
