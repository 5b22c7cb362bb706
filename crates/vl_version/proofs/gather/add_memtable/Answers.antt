use Rattle.std.proofs.lemmas.Result.{on_ok_weaker}
use Rattle.vl_version.proofs.Telling.{adds_memtable, quiet_memtable}
use Rattle.vl_version.proofs.NamingLaws.{fail_memtable}
use Rattle.vl_version.proofs.gather.add_memtable.Goals as goal

pub returns-clause-winners : goal.returns-clause-winners
returns-clause-winners g c =
    on_ok_weaker c.add_runs.result
    (λ joined. adds_memtable g.H.HeldFile.bytes c.args.span.now c.args.way c.args.memtable.now c.in_ok-cursors_within.field-0.items
    c.args.sources.now.items c.add_runs.new.sources.items c.in_ok-cursors_within.ensures joined)
    c.add_runs.ensures

pub returns-clause-quiet : goal.returns-clause-quiet
returns-clause-quiet g c =
    on_ok_weaker c.add_runs.result
    (λ joined. quiet_memtable g.H.HeldFile.bytes c.args.span.now c.args.way c.in_ok-cursors_within.field-0.items c.args.sources.now.items
    c.add_runs.new.sources.items joined)
    c.add_runs.ensures

pub returns-clause-faults : goal.returns-clause-faults
returns-clause-faults g c =
    on_ok_weaker c.add_runs.result
    (λ joined. fail_memtable g.H.HeldFile.bytes c.args.span.now c.in_ok-cursors_within.field-0.items c.args.sources.now.items
    c.add_runs.new.sources.items joined)
    c.add_runs.ensures
