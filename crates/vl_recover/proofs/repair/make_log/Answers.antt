use Rattle.std.proofs.Common.{ℕ, Option, subst}
use Rattle.std.specs.Option.{ForSome}
use Rattle.vl_disk.specs.declared.name.Name.TheVariants.{Log}
use Rattle.vl_disk.specs.laws.Performing.{make_performs}
use Rattle.vl_recover.specs.repairing.Fitting.{CanMake}
use Rattle.vl_recover.proofs.repairs.Stepping.{failed_at, log_made_at, log_none}
use Rattle.vl_recover.proofs.repair.make_log.Goals as goal

pub make_file-requires-clause-free : goal.make_file-requires-clause-free
make_file-requires-clause-free g c = subst (λ (l : Option ℕ). ForSome (g.D.Watched.told c.args.disk.now) (CanMake l)) c.in-Some.is
    c.requires.free

pub returns-in-None-clause-made : goal.returns-in-None-clause-made
returns-in-None-clause-made g c = log_none g.D.Watched _ c.args.log _ c.in-None.is

pub returns-in-Some-clause-made : goal.returns-in-Some-clause-made
returns-in-Some-clause-made g c = log_made_at g.D.Watched _ _ c.args.log c.in-Some.number _ c.make_file.result c.at.result c.in-Some.is
    c.log_header.ensures c.at.ensures c.make_file.ensures

pub returns-in-Some-clause-at : goal.returns-in-Some-clause-at
returns-in-Some-clause-at g c = rw c.in-Some.is
    (failed_at g.D.Watched _ _ 3 _ _ (Log c.in-Some.number) c.make_file.result c.at.result c.at.ensures
    (make_performs g.D.Watched _ _ (Log c.in-Some.number) _ c.make_file.result c.make_file.ensures))
