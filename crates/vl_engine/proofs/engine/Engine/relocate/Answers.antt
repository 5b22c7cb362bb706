use Rattle.vl_engine.proofs.MoveRemoved.{removes_by}
use Rattle.vl_steps.specs.laws.RelocatingAnswers.{as_segment, failed_so, fits_behind, read_so, stopped_so, undamaged_so}
use Rattle.vl_steps.specs.laws.RelocatingExits.{carries_by, fits_by, settled_by, stands_by}
use Rattle.vl_steps.specs.laws.RelocatingTotals.{back_by, calls_by, files_by, logs_by, merging_by, steps_by, untold_then, untouched_by}
use Rattle.vl_steps.specs.laws.Steady.{move_steady}
use Rattle.vl_engine_laws.specs.Lent.{StandsOpen}
use Rattle.vl_steps.specs.Relocating.{at, move_effects, move_outcome}
use Rattle.vl_engine.proofs.engine.Engine.relocate.Goals as goal

pub returns-clause-as_moved : goal.returns-clause-as_moved
returns-clause-as_moved g c =
    as_segment g.D.Watched g.D.Held.HeldFile.bytes (λ r. g.D.Reader.Reader.faults r)
    (at c.args.self.now.disk c.args.self.now.core c.args.self.now.merging c.args.looks.now)
    (at c.move_again.new.self.disk c.move_again.new.self.core c.move_again.new.self.merging c.move_again.new.looks)
    c.segment.result c.args.pass.now.log.number c.segment.ensures c.args.batch c.move_again.result c.move_again.ensures.as_moved

pub returns-clause-stands : goal.returns-clause-stands
returns-clause-stands g c h l p of is =
    stands_by g.D.Watched g.D.Held.HeldFile.bytes (λ r. g.D.Reader.Reader.faults r)
    (at c.args.self.now.disk c.args.self.now.core c.args.self.now.merging c.args.looks.now)
    (at c.move_again.new.self.disk c.move_again.new.self.core c.move_again.new.self.merging c.move_again.new.looks)
    c.args.pass.now.log c.args.batch h l p of is c.move_again.result
    (as_segment g.D.Watched g.D.Held.HeldFile.bytes (λ r. g.D.Reader.Reader.faults r)
    (at c.args.self.now.disk c.args.self.now.core c.args.self.now.merging c.args.looks.now)
    (at c.move_again.new.self.disk c.move_again.new.self.core c.move_again.new.self.merging c.move_again.new.looks)
    c.segment.result c.args.pass.now.log.number c.segment.ensures c.args.batch c.move_again.result c.move_again.ensures.as_moved)

pub returns-clause-carries : goal.returns-clause-carries
returns-clause-carries g c h l p of is =
    carries_by g.D.Watched g.D.Held.HeldFile.bytes (λ r. g.D.Reader.Reader.faults r)
    (at c.args.self.now.disk c.args.self.now.core c.args.self.now.merging c.args.looks.now)
    (at c.move_again.new.self.disk c.move_again.new.self.core c.move_again.new.self.merging c.move_again.new.looks)
    c.args.pass.now.log c.args.batch h l p of
    (record { only_now = g.met.D.Disk.only_now; counts_now = g.met.D.Disk.counts_now }) is c.move_again.result
    (as_segment g.D.Watched g.D.Held.HeldFile.bytes (λ r. g.D.Reader.Reader.faults r)
    (at c.args.self.now.disk c.args.self.now.core c.args.self.now.merging c.args.looks.now)
    (at c.move_again.new.self.disk c.move_again.new.self.core c.move_again.new.self.merging c.move_again.new.looks)
    c.segment.result c.args.pass.now.log.number c.segment.ensures c.args.batch c.move_again.result c.move_again.ensures.as_moved)

pub returns-clause-fits : goal.returns-clause-fits
returns-clause-fits g c h l p of fits =
    fits_by g.D.Watched g.D.Held.HeldFile.bytes (λ r. g.D.Reader.Reader.faults r)
    (at c.args.self.now.disk c.args.self.now.core c.args.self.now.merging c.args.looks.now)
    (at c.move_again.new.self.disk c.move_again.new.self.core c.move_again.new.self.merging c.move_again.new.looks)
    c.args.pass.now.log c.args.batch h l p of (λ state told. (c.args.self.now.ready state told).log) fits c.move_again.result
    (as_segment g.D.Watched g.D.Held.HeldFile.bytes (λ r. g.D.Reader.Reader.faults r)
    (at c.args.self.now.disk c.args.self.now.core c.args.self.now.merging c.args.looks.now)
    (at c.move_again.new.self.disk c.move_again.new.self.core c.move_again.new.self.merging c.move_again.new.looks)
    c.segment.result c.args.pass.now.log.number c.segment.ensures c.args.batch c.move_again.result c.move_again.ensures.as_moved)

pub returns-clause-settled : goal.returns-clause-settled
returns-clause-settled g c h l p of =
    settled_by g.D.Watched g.D.Held.HeldFile.bytes (λ r. g.D.Reader.Reader.faults r)
    (at c.args.self.now.disk c.args.self.now.core c.args.self.now.merging c.args.looks.now)
    (at c.move_again.new.self.disk c.move_again.new.self.core c.move_again.new.self.merging c.move_again.new.looks)
    c.args.pass.now.log c.args.batch h l p of c.move_again.result
    (as_segment g.D.Watched g.D.Held.HeldFile.bytes (λ r. g.D.Reader.Reader.faults r)
    (at c.args.self.now.disk c.args.self.now.core c.args.self.now.merging c.args.looks.now)
    (at c.move_again.new.self.disk c.move_again.new.self.core c.move_again.new.self.merging c.move_again.new.looks)
    c.segment.result c.args.pass.now.log.number c.segment.ensures c.args.batch c.move_again.result c.move_again.ensures.as_moved)

pub returns-clause-undamaged : goal.returns-clause-undamaged
returns-clause-undamaged g c h l p of =
    undamaged_so g.D.Watched g.D.Held.HeldFile.bytes (λ r. g.D.Reader.Reader.faults r)
    (at c.args.self.now.disk c.args.self.now.core c.args.self.now.merging c.args.looks.now)
    (at c.move_again.new.self.disk c.move_again.new.self.core c.move_again.new.self.merging c.move_again.new.looks)
    c.args.pass.now.log c.args.batch h l p of c.move_again.result
    (as_segment g.D.Watched g.D.Held.HeldFile.bytes (λ r. g.D.Reader.Reader.faults r)
    (at c.args.self.now.disk c.args.self.now.core c.args.self.now.merging c.args.looks.now)
    (at c.move_again.new.self.disk c.move_again.new.self.core c.move_again.new.self.merging c.move_again.new.looks)
    c.segment.result c.args.pass.now.log.number c.segment.ensures c.args.batch c.move_again.result c.move_again.ensures.as_moved)

pub returns-clause-untouched : goal.returns-clause-untouched
returns-clause-untouched g c =
    untouched_by g.D.Watched g.D.Held.HeldFile.bytes (λ r. g.D.Reader.Reader.faults r)
    (at c.args.self.now.disk c.args.self.now.core c.args.self.now.merging c.args.looks.now)
    (at c.move_again.new.self.disk c.move_again.new.self.core c.move_again.new.self.merging c.move_again.new.looks)
    c.args.pass.now.log.number c.args.batch c.move_again.result
    (as_segment g.D.Watched g.D.Held.HeldFile.bytes (λ r. g.D.Reader.Reader.faults r)
    (at c.args.self.now.disk c.args.self.now.core c.args.self.now.merging c.args.looks.now)
    (at c.move_again.new.self.disk c.move_again.new.self.core c.move_again.new.self.merging c.move_again.new.looks)
    c.segment.result c.args.pass.now.log.number c.segment.ensures c.args.batch c.move_again.result c.move_again.ensures.as_moved)

pub returns-clause-calls : goal.returns-clause-calls
returns-clause-calls g c =
    calls_by g.D.Watched g.D.Held.HeldFile.bytes (λ r. g.D.Reader.Reader.faults r)
    (at c.args.self.now.disk c.args.self.now.core c.args.self.now.merging c.args.looks.now)
    (at c.move_again.new.self.disk c.move_again.new.self.core c.move_again.new.self.merging c.move_again.new.looks)
    c.args.pass.now.log.number c.args.batch c.move_again.result
    (as_segment g.D.Watched g.D.Held.HeldFile.bytes (λ r. g.D.Reader.Reader.faults r)
    (at c.args.self.now.disk c.args.self.now.core c.args.self.now.merging c.args.looks.now)
    (at c.move_again.new.self.disk c.move_again.new.self.core c.move_again.new.self.merging c.move_again.new.looks)
    c.segment.result c.args.pass.now.log.number c.segment.ensures c.args.batch c.move_again.result c.move_again.ensures.as_moved)

pub returns-clause-untold : goal.returns-clause-untold
returns-clause-untold g c =
    untold_then g.D.Watched g.D.Held.HeldFile.bytes (λ r. g.D.Reader.Reader.faults r)
    (at c.args.self.now.disk c.args.self.now.core c.args.self.now.merging c.args.looks.now)
    (at c.move_again.new.self.disk c.move_again.new.self.core c.move_again.new.self.merging c.move_again.new.looks)
    c.args.pass.now.log.number c.args.batch c.move_again.result
    (as_segment g.D.Watched g.D.Held.HeldFile.bytes (λ r. g.D.Reader.Reader.faults r)
    (at c.args.self.now.disk c.args.self.now.core c.args.self.now.merging c.args.looks.now)
    (at c.move_again.new.self.disk c.move_again.new.self.core c.move_again.new.self.merging c.move_again.new.looks)
    c.segment.result c.args.pass.now.log.number c.segment.ensures c.args.batch c.move_again.result c.move_again.ensures.as_moved)

pub returns-clause-steady : goal.returns-clause-steady
returns-clause-steady g c gives =
    move_steady g.D.Watched g.D.Held.HeldFile.bytes (λ r. g.D.Reader.Reader.faults r)
    (at c.args.self.now.disk c.args.self.now.core c.args.self.now.merging c.args.looks.now)
    (at c.move_again.new.self.disk c.move_again.new.self.core c.move_again.new.self.merging c.move_again.new.looks)
    c.segment.result c.args.batch c.move_again.result c.move_again.ensures.as_moved gives

pub returns-clause-back : goal.returns-clause-back
returns-clause-back g c =
    back_by g.D.Watched g.D.Held.HeldFile.bytes (λ r. g.D.Reader.Reader.faults r)
    (at c.args.self.now.disk c.args.self.now.core c.args.self.now.merging c.args.looks.now)
    (at c.move_again.new.self.disk c.move_again.new.self.core c.move_again.new.self.merging c.move_again.new.looks)
    c.args.pass.now.log.number c.args.batch c.move_again.result
    (as_segment g.D.Watched g.D.Held.HeldFile.bytes (λ r. g.D.Reader.Reader.faults r)
    (at c.args.self.now.disk c.args.self.now.core c.args.self.now.merging c.args.looks.now)
    (at c.move_again.new.self.disk c.move_again.new.self.core c.move_again.new.self.merging c.move_again.new.looks)
    c.segment.result c.args.pass.now.log.number c.segment.ensures c.args.batch c.move_again.result c.move_again.ensures.as_moved)

pub returns-clause-steps : goal.returns-clause-steps
returns-clause-steps g c =
    steps_by g.D.Watched g.D.Held.HeldFile.bytes (λ r. g.D.Reader.Reader.faults r)
    (at c.args.self.now.disk c.args.self.now.core c.args.self.now.merging c.args.looks.now)
    (at c.move_again.new.self.disk c.move_again.new.self.core c.move_again.new.self.merging c.move_again.new.looks)
    c.args.pass.now.log.number c.args.batch c.move_again.result
    (as_segment g.D.Watched g.D.Held.HeldFile.bytes (λ r. g.D.Reader.Reader.faults r)
    (at c.args.self.now.disk c.args.self.now.core c.args.self.now.merging c.args.looks.now)
    (at c.move_again.new.self.disk c.move_again.new.self.core c.move_again.new.self.merging c.move_again.new.looks)
    c.segment.result c.args.pass.now.log.number c.segment.ensures c.args.batch c.move_again.result c.move_again.ensures.as_moved)

pub returns-clause-logs : goal.returns-clause-logs
returns-clause-logs g c =
    logs_by g.D.Watched g.D.Held.HeldFile.bytes (λ r. g.D.Reader.Reader.faults r)
    (at c.args.self.now.disk c.args.self.now.core c.args.self.now.merging c.args.looks.now)
    (at c.move_again.new.self.disk c.move_again.new.self.core c.move_again.new.self.merging c.move_again.new.looks)
    c.args.pass.now.log.number c.args.batch c.move_again.result
    (as_segment g.D.Watched g.D.Held.HeldFile.bytes (λ r. g.D.Reader.Reader.faults r)
    (at c.args.self.now.disk c.args.self.now.core c.args.self.now.merging c.args.looks.now)
    (at c.move_again.new.self.disk c.move_again.new.self.core c.move_again.new.self.merging c.move_again.new.looks)
    c.segment.result c.args.pass.now.log.number c.segment.ensures c.args.batch c.move_again.result c.move_again.ensures.as_moved)

pub returns-clause-merging : goal.returns-clause-merging
returns-clause-merging g c =
    merging_by g.D.Watched g.D.Held.HeldFile.bytes (λ r. g.D.Reader.Reader.faults r)
    (at c.args.self.now.disk c.args.self.now.core c.args.self.now.merging c.args.looks.now)
    (at c.move_again.new.self.disk c.move_again.new.self.core c.move_again.new.self.merging c.move_again.new.looks)
    c.args.pass.now.log.number c.args.batch c.move_again.result
    (as_segment g.D.Watched g.D.Held.HeldFile.bytes (λ r. g.D.Reader.Reader.faults r)
    (at c.args.self.now.disk c.args.self.now.core c.args.self.now.merging c.args.looks.now)
    (at c.move_again.new.self.disk c.move_again.new.self.core c.move_again.new.self.merging c.move_again.new.looks)
    c.segment.result c.args.pass.now.log.number c.segment.ensures c.args.batch c.move_again.result c.move_again.ensures.as_moved)

pub returns-clause-files : goal.returns-clause-files
returns-clause-files g c =
    files_by g.D.Watched g.D.Held.HeldFile.bytes (λ r. g.D.Reader.Reader.faults r)
    (at c.args.self.now.disk c.args.self.now.core c.args.self.now.merging c.args.looks.now)
    (at c.move_again.new.self.disk c.move_again.new.self.core c.move_again.new.self.merging c.move_again.new.looks)
    c.args.pass.now.log.number c.args.batch
    (record { only_now = g.met.D.Disk.only_now; counts_now = g.met.D.Disk.counts_now }) c.move_again.result
    (as_segment g.D.Watched g.D.Held.HeldFile.bytes (λ r. g.D.Reader.Reader.faults r)
    (at c.args.self.now.disk c.args.self.now.core c.args.self.now.merging c.args.looks.now)
    (at c.move_again.new.self.disk c.move_again.new.self.core c.move_again.new.self.merging c.move_again.new.looks)
    c.segment.result c.args.pass.now.log.number c.segment.ensures c.args.batch c.move_again.result c.move_again.ensures.as_moved)

pub returns-clause-named : goal.returns-clause-named
returns-clause-named g c name fits is =
    read_so g.D.Watched g.D.Held.HeldFile.bytes (λ r. g.D.Reader.Reader.faults r)
    (at c.args.self.now.disk c.args.self.now.core c.args.self.now.merging c.args.looks.now)
    (at c.move_again.new.self.disk c.move_again.new.self.core c.move_again.new.self.merging c.move_again.new.looks)
    c.args.pass.now.log.number c.args.batch c.move_again.result
    (as_segment g.D.Watched g.D.Held.HeldFile.bytes (λ r. g.D.Reader.Reader.faults r)
    (at c.args.self.now.disk c.args.self.now.core c.args.self.now.merging c.args.looks.now)
    (at c.move_again.new.self.disk c.move_again.new.self.core c.move_again.new.self.merging c.move_again.new.looks)
    c.segment.result c.args.pass.now.log.number c.segment.ensures c.args.batch c.move_again.result c.move_again.ensures.as_moved)
    name fits is

pub returns-clause-failed : goal.returns-clause-failed
returns-clause-failed g c h l p name of is =
    failed_so g.D.Watched g.D.Held.HeldFile.bytes (λ r. g.D.Reader.Reader.faults r)
    (at c.args.self.now.disk c.args.self.now.core c.args.self.now.merging c.args.looks.now)
    (at c.move_again.new.self.disk c.move_again.new.self.core c.move_again.new.self.merging c.move_again.new.looks)
    c.args.pass.now.log c.args.batch h l p of c.move_again.result
    (as_segment g.D.Watched g.D.Held.HeldFile.bytes (λ r. g.D.Reader.Reader.faults r)
    (at c.args.self.now.disk c.args.self.now.core c.args.self.now.merging c.args.looks.now)
    (at c.move_again.new.self.disk c.move_again.new.self.core c.move_again.new.self.merging c.move_again.new.looks)
    c.segment.result c.args.pass.now.log.number c.segment.ensures c.args.batch c.move_again.result c.move_again.ensures.as_moved)
    name is

pub returns-clause-stopped : goal.returns-clause-stopped
returns-clause-stopped g c h l p name of clean is =
    stopped_so g.D.Watched g.D.Held.HeldFile.bytes (λ r. g.D.Reader.Reader.faults r)
    (at c.args.self.now.disk c.args.self.now.core c.args.self.now.merging c.args.looks.now)
    (at c.move_again.new.self.disk c.move_again.new.self.core c.move_again.new.self.merging c.move_again.new.looks)
    c.args.pass.now.log c.args.batch h l p of c.move_again.result
    (as_segment g.D.Watched g.D.Held.HeldFile.bytes (λ r. g.D.Reader.Reader.faults r)
    (at c.args.self.now.disk c.args.self.now.core c.args.self.now.merging c.args.looks.now)
    (at c.move_again.new.self.disk c.move_again.new.self.core c.move_again.new.self.merging c.move_again.new.looks)
    c.segment.result c.args.pass.now.log.number c.segment.ensures c.args.batch c.move_again.result c.move_again.ensures.as_moved)
    name is clean

pub returns-clause-fits_looks : goal.returns-clause-fits_looks
returns-clause-fits_looks g c fits =
    fits_behind g.D.Held.HeldFile.bytes c.args.self.now.core.version c.move_again.new.self.core.version
    (logs_by g.D.Watched g.D.Held.HeldFile.bytes (λ r. g.D.Reader.Reader.faults r)
    (at c.args.self.now.disk c.args.self.now.core c.args.self.now.merging c.args.looks.now)
    (at c.move_again.new.self.disk c.move_again.new.self.core c.move_again.new.self.merging c.move_again.new.looks)
    c.args.pass.now.log.number c.args.batch c.move_again.result
    (as_segment g.D.Watched g.D.Held.HeldFile.bytes (λ r. g.D.Reader.Reader.faults r)
    (at c.args.self.now.disk c.args.self.now.core c.args.self.now.merging c.args.looks.now)
    (at c.move_again.new.self.disk c.move_again.new.self.core c.move_again.new.self.merging c.move_again.new.looks)
    c.segment.result c.args.pass.now.log.number c.segment.ensures c.args.batch c.move_again.result c.move_again.ensures.as_moved))
    c.move_again.new.looks (c.move_again.ensures.fits fits)

pub returns-clause-removes : goal.returns-clause-removes
returns-clause-removes g c h l p of is removes =
    let before = c.args.self.now in
    let after = c.move_again.new.self in
    let behind = returns-clause-logs g c in
    removes_by before.core after.core h l before.removing after.removing (λ i. (behind i).logs.items)
    c.move_again.ensures.removing removes
    (StandsOpen g.D.Held.HeldFile.bytes after.core after.merging) p c.args.batch (move_outcome c.move_again.result)
    (move_effects c.move_again.result) (returns-clause-stands g c h l p of is)
