use Rattle.std.proofs.Common.{sym, ◌∙◌}
use Rattle.vl_replay.proofs.Merges.Handing.{under_way}
use Rattle.vl_replay.proofs.replayer.lines.abandon_all.Goals as goal

pub abandon-requires : goal.abandon-requires
abandon-requires g c =
    let old = c.args.served.now.engine in
    under_way g.D.Watched g.D.Writer.Writer old.disk old.core.front.halted old.merging c.in-Some.field-0.job
    (c.requires c.in-Some.field-0 (sym c.take.ensures.value ∙ c.in-Some.is))
