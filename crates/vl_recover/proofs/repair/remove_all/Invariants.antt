use Rattle.std.proofs.Common.{drop}
use Rattle.std.specs.Option.{ForSome}
use Rattle.vl_recover.specs.repairing.Fitting.{CanRemove}
use Rattle.vl_recover.proofs.repairs.Removals.{Removing}
use Rattle.vl_recover.proofs.repair.remove_all.Given as goal

abbrev pub invariant-loop-name : goal.invariant-loop-name
invariant-loop-name g l = record {
  can : ForSome (g.D.Watched.told l.disk) (CanRemove (drop l.name-index l.names));
  so_far : Removing g.D.Watched l.fn.disk l.disk l.names (drop l.name-index l.names);
}
