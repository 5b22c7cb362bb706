use Rattle.std.proofs.Common.{◌≡◌, ℕ, List, Some}
use Rattle.vl_backup.proofs.LoadedLaws.{Loaded, ReadSoFar}
use Rattle.vl_stream.specs.Batches.{Write}
use Rattle.vl_backup.specs.Loading.{parts}
use Rattle.vl_backup.proofs.loading.load.Given as goal

-- these batches were read, and became commits
abbrev pub invariant-loop-reader : goal.invariant-loop-reader
invariant-loop-reader g l = record {
  done : List (List Write);
  loaded : Loaded g.D.Watched g.D.Held.HeldFile.bytes (parts l.fn.engine.core l.fn.engine.disk)
      (parts l.engine.core l.engine.disk) done;
  read : (input : List ℕ) → g.S.Source.left l.fn.source ≡ Some input
      → ReadSoFar input (g.S.Source.left l.source) l.reader.at l.reader.last l.reader.records done;
  unfailed : g.D.Watched.faults l.engine.disk ≡ g.D.Watched.faults l.fn.engine.disk;
  quiet : g.S.Source.faults l.source ≡ g.S.Source.faults l.fn.source;
  merging : l.engine.merging ≡ l.fn.engine.merging;
  passing : l.engine.collecting.passing ≡ l.fn.engine.collecting.passing;
  steady : g.D.Watched.gives_steady l.fn.engine.disk → g.D.Watched.gives_steady l.engine.disk;
}

abbrev pub decreases-loop-reader : goal.decreases-loop-reader
decreases-loop-reader g l = g.S.Source.budget l.source
