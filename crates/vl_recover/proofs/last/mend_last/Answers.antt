use Rattle.std.proofs.Common.{ap, subst}
use Rattle.std.specs.Option.{ForSome}
use Rattle.vl_disk.specs.declared.name.Name.TheVariants.{Log}
use Rattle.vl_recover.specs.repairing.Fitting.{CanRepair}
use Rattle.vl_recover.specs.repairing.Repairing.{Kept, LastLog}
use Rattle.vl_recover.specs.repairing.PlanViews.{step_of}
use Rattle.vl_disk.specs.laws.Performing.{sync_performs}
use Rattle.vl_recover.proofs.repairs.Stepping.{failed_at, last_at, last_none}
use Rattle.vl_recover.proofs.last.mend_last.Goals as goal

pub sync-requires : goal.sync-requires
sync-requires g c = subst (λ (l : LastLog). ForSome (g.D.Watched.told c.args.disk.now) (CanRepair l)) (ap step_of c.in-Keep.is)
    c.requires.stands

pub cut-requires-clause-stands : goal.cut-requires-clause-stands
cut-requires-clause-stands g c = λ disk told. (subst (λ (l : LastLog). ForSome (g.D.Watched.told c.args.disk.now) (CanRepair l))
    (ap step_of c.in-Cut.is) c.requires.stands disk told).0

pub cut-requires-clause-inside : goal.cut-requires-clause-inside
cut-requires-clause-inside g c = λ disk told. (subst (λ (l : LastLog). ForSome (g.D.Watched.told c.args.disk.now) (CanRepair l))
    (ap step_of c.in-Cut.is) c.requires.stands disk told).1

pub rewrite-requires-clause-stands : goal.rewrite-requires-clause-stands
rewrite-requires-clause-stands g c = subst (λ (l : LastLog). ForSome (g.D.Watched.told c.args.disk.now) (CanRepair l))
    (ap step_of c.in-Rewrite.is) c.requires.stands

pub head-requires-clause-stands : goal.head-requires-clause-stands
head-requires-clause-stands g c = subst (λ (l : LastLog). ForSome (g.D.Watched.told c.args.disk.now) (CanRepair l))
    (ap step_of c.in-Head.is) c.requires.stands

pub returns-in-Nothing-clause-repaired : goal.returns-in-Nothing-clause-repaired
returns-in-Nothing-clause-repaired g c = last_none g.D.Watched _ (step_of c.args.last) _ (ap step_of c.in-Nothing.is)

pub returns-in-Keep-clause-repaired : goal.returns-in-Keep-clause-repaired
returns-in-Keep-clause-repaired g c =
    last_at g.D.Watched _ _ (step_of c.args.last) (Kept c.in-Keep.number) (Log c.in-Keep.number) c.sync.result c.at.result
    (ap step_of c.in-Keep.is) c.at.ensures
    (sync_performs g.D.Watched _ _ (Log c.in-Keep.number) c.sync.result c.sync.ensures)

pub returns-in-Keep-clause-at : goal.returns-in-Keep-clause-at
returns-in-Keep-clause-at g c = rw c.in-Keep.is
    (failed_at g.D.Watched _ _ 1 _ _ (Log c.in-Keep.number) c.sync.result c.at.result c.at.ensures
    (sync_performs g.D.Watched _ _ (Log c.in-Keep.number) c.sync.result c.sync.ensures))

pub returns-in-Cut-clause-at : goal.returns-in-Cut-clause-at
returns-in-Cut-clause-at g c = rw c.in-Cut.is
    (failed_at g.D.Watched _ _ 2 _ _ (Log c.in-Cut.number) c.cut.result c.at-in-Cut.result c.at-in-Cut.ensures c.cut.ensures.repaired)

pub returns-in-Rewrite-clause-at : goal.returns-in-Rewrite-clause-at
returns-in-Rewrite-clause-at g c = rw c.in-Rewrite.is
    (failed_at g.D.Watched _ _ 3 _ _ (Log c.in-Rewrite.number) c.rewrite.result c.at-in-Rewrite.result c.at-in-Rewrite.ensures
    c.rewrite.ensures.repaired)

pub returns-in-Head-clause-at : goal.returns-in-Head-clause-at
returns-in-Head-clause-at g c = rw c.in-Head.is
    (failed_at g.D.Watched _ _ 2 _ _ (Log c.in-Head.number) c.head.result c.at-in-Head.result c.at-in-Head.ensures c.head.ensures.repaired)
