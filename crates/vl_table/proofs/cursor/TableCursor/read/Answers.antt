use Rattle.vl_table.proofs.CursorLaws.{reads_later}
use Rattle.vl_table.proofs.cursor.TableCursor.read.Goals as goal

pub returns-in-Some-clause-there : goal.returns-in-Some-clause-there
returns-in-Some-clause-there g c = λ more.
    reads_later g.H.HeldFile.bytes c.args.self.now c.tables.self c.load.new.self c.tables.invariant.goes
    c.tables.invariant.unread c.in_ok-load.ensures.read
