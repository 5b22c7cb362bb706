use Rattle.std.proofs.Common.{◌≡◌, ◌++◌, List, None, Some, map, subst}
use Rattle.vl_compact.specs.declared.files.Lent.{Lent}
use Rattle.vl_engine.proofs.LeftRemoved.{there_left}
use Rattle.vl_space.specs.Retiring.{LeavesFiles, left_of}
use Rattle.vl_engine_laws.specs.declared.open.OpenMerge.{OpenMerge}
use Rattle.vl_engine.proofs.engine.Engine.abandon_open.Goals as goal

pub invariant_of-self : goal.invariant_of-self
invariant_of-self g c = let was = c.args.self.now in
    record {
      ready = was.ready;
      numbered = was.numbered;
      lent = λ o some. absurd (never o some);
      known = was.known;
      pinned = was.pinned;
      there = λ running. there_left g.D.Watched was.disk was.core was.merging c.args.job was.removing.stock c.abandon_files.new.stock
          (was.there running) c.requires
          (subst (λ (files : List (Lent g.row.D-Writer.Denot g.D.Writer.Writer)). LeavesFiles files was.removing.stock
          c.abandon_files.new.stock) (λ i. map left_of (c.into_parts-made.ensures.made i).items ++
          (c.into_parts-made.ensures.leavings i).items)
          c.abandon_files.ensures) running was.lent;
    }
  where
    never : (o : OpenMerge) → None ≡ Some o → ⊥
    never o e = cc
