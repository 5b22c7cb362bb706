use Rattle.vlstore.specs.Reopening.{BeginsAgain}
use Rattle.vlstore.specs.Standing.{NeverFails, parts}
use Rattle.vlstore.proofs.store.Store.open.Given as goal

abbrev pub ghosts-store_from : goal.ghosts-store_from
ghosts-store_from g a = record {
  suits = BeginsAgain g.D.Held.HeldFile.bytes
      (NeverFails g.D.Watched.faults g.D.Reader.Reader.faults g.D.Writer.Writer.faults) (g.D.Watched.told a.before.now.value) a.room
      (parts (g.D.Watched.told a.engine.disk) a.engine.core a.engine.merging a.engine.collecting a.engine.removing);
}
