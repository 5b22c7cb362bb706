use Rattle.std.proofs.Common.{◌-◌, vec_len, vec_capacity, ap, ◌∙◌}
use Rattle.std.specs.FinMap.{put}
use Rattle.std.specs.Ordering.{nat_cmp}
use Rattle.vl_stats.specs.Tallies.{IsTally, Tallied}
use Rattle.vl_stats.specs.laws.RulingLaws.{rotation_leaves, tally_rotated}
use Rattle.vl_stats.proofs.tally.Tally.seal.Goals as goal

pub returns-clause-rotate : goal.returns-clause-rotate
returns-clause-rotate c = λ l h n is active stepped.
    let new : Tallied = record {
      logs = c.put_log.new.logs.items;
      live = c.self.inside.live;
      room = vec_capacity c.put_log.new.logs - vec_len c.put_log.new.logs;
    } in
    rotation_leaves (IsTally new) l h
    (tally_rotated c.args.self.now new l is c.args.log active
    (c.put_log.ensures.logs ∙ ap (λ (t : Tallied). put nat_cmp c.args.log.0 c.args.log.1 t.logs) c.self.view_is)
    (ap (λ (t : Tallied). t.live) c.self.view_is))
    n stepped
