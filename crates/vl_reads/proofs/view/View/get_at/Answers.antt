use Rattle.std.proofs.Common.{refl}
use Rattle.vl_reads.proofs.Seeing.{sees_alone_still}
use Rattle.vl_reads.proofs.view.View.get_at.Goals as goal

pub returns-clause-answer : goal.returns-clause-answer
returns-clause-answer g c h sees = c.read_past.ensures.reads.answers sees.files h sees.reader sees.version.shows_past

pub returns-clause-refused : goal.returns-clause-refused
returns-clause-refused g c = c.read_past.ensures.reads.refused

pub returns-clause-still : goal.returns-clause-still
returns-clause-still g c h sees =
    sees_alone_still g.H.HeldFile.bytes c.args.self.now _ h sees refl refl refl (c.read_past.ensures.reads.kept sees.files sees.reader)

pub returns-clause-cause : goal.returns-clause-cause
returns-clause-cause g c = c.read_past.ensures.reads.cause

pub returns-clause-near : goal.returns-clause-near
returns-clause-near g c = c.read_past.ensures.reads.near

pub returns-clause-blocks : goal.returns-clause-blocks
returns-clause-blocks g c files reads = record { kept = c.read_past.ensures.reads.kept files reads; told = reads.told }

pub returns-clause-looks : goal.returns-clause-looks
returns-clause-looks g c files over within = c.read_past.ensures.looks files over within

pub returns-clause-fault : goal.returns-clause-fault
returns-clause-fault g c files reads = c.read_past.ensures.fault files reads
