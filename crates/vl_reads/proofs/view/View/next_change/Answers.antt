use Rattle.std.proofs.Common.{refl}
use Rattle.vl_reads.proofs.Seeing.{kept_beside, sees_alone_still}
use Rattle.vl_reads.proofs.view.View.next_change.Goals as goal

pub returns-clause-still : goal.returns-clause-still
returns-clause-still g c h sees =
    sees_alone_still g.H.HeldFile.bytes c.args.self.now _ h sees refl refl refl
    (kept_beside sees.files c.args.self.now.reader _ c.next_change.ensures.kept sees.reader.kept)
