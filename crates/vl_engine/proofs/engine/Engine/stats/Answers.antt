use Rattle.std.proofs.Common.{Global, Option, Vec, ap, subst, ◌∙◌}
use Rattle.vl_engine.proofs.Collected.{active_is}
use Rattle.vl_engine.proofs.engine.Engine.stats.Goals as goal
use Rattle.vl_engine.proofs.engine.Engine.stats.Goals.{in-None+in_ok-tally_of-in-None+in_ok-stats-in-None, in-Some+in_ok-stats-in-Some}
use Rattle.vl_space.specs.Collecting.{Tallies}
use Rattle.vl_engine_model.specs.declared.segment.SegmentStat.{SegmentStat}
use Rattle.vl_stats.specs.Tallies.{Tallied}

pub returns : goal.returns
returns g c h l is has =
    let core = c.args.self.now.core in
    elim c.match-self.branch [
      | in-Some+in_ok-stats-in-Some w ↦
          ap (λ (v : Vec SegmentStat Global). v.items) w.stats-is
          ∙ w.in_ok-stats-in-Some.ensures l h
          (subst (λ (o : Option Tallied). Tallies core.version.behind.logs.items o l) w.in-Some.is has.tally) (active_is core h l is.fronts)
      | in-None+in_ok-tally_of-in-None+in_ok-stats-in-None w ↦
          ap (λ (v : Vec SegmentStat Global). v.items) w.stats-is
          ∙ w.in_ok-stats-in-None.ensures l h
          (w.in_ok-tally_of-in-None.ensures h l is
          (subst (λ (o : Option Tallied). Tallies core.version.behind.logs.items o l) w.in-None.is has.tally))
          (active_is core h l is.fronts)
    ]
