use Rattle.std.proofs.Common.{IfOk, map, subst}
use Rattle.vl_stats.specs.Live.{Switches}
use Rattle.vl_stats.specs.Tallies.{Tallied}
use Rattle.vl_stats.proofs.tally.Tally.with.Goals as goal

pub returns : goal.returns
returns c = subst (λ (t : Tallied). IfOk c.with.result (λ live. Switches t.live live
    (map (λ f. f.now.points.items) c.args.added.now) (map (λ f. f.now.points.items) c.args.dropped.now)))
    c.self.view_is c.with.ensures
