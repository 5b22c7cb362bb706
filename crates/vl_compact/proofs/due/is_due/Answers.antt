use Rattle.std.proofs.Common.{length}
use Rattle.vl_compact.proofs.DueLaws.{bytes_of, due_never, due_over, shallow_some}
use Rattle.vl_compact.specs.Due.{file_bytes}
use Rattle.vl_compact.proofs.due.is_due.Goals as goal

pub returns-in-Some-clause-due : goal.returns-in-Some-clause-due
returns-in-Some-clause-due g c = λ ts are.
    due_over c.args.level c.in-Some.bytes c.is_over.result (length ts) (bytes_of ts) c.requires c.in-Some.ensures
    (c.is_over.ensures.laid ts are)

pub returns-in-Some-clause-full : goal.returns-in-Some-clause-full
returns-in-Some-clause-full g c =
    let tables = c.args.tables.now in
    due_over c.args.level c.in-Some.bytes c.is_over.result (length tables) (file_bytes g.H.HeldFile.size tables) c.requires
    c.in-Some.ensures c.is_over.ensures.over

pub returns-in-Some-clause-shallow : goal.returns-in-Some-clause-shallow
returns-in-Some-clause-shallow g c = λ is_true. shallow_some c.args.level c.in-Some.bytes c.in-Some.ensures

pub returns-in-None-clause-due : goal.returns-in-None-clause-due
returns-in-None-clause-due g c = λ ts are. due_never c.args.level (length ts) (bytes_of ts) c.requires c.in-None.ensures

pub returns-in-None-clause-full : goal.returns-in-None-clause-full
returns-in-None-clause-full g c =
    let tables = c.args.tables.now in
    due_never c.args.level (length tables) (file_bytes g.H.HeldFile.size tables) c.requires c.in-None.ensures
