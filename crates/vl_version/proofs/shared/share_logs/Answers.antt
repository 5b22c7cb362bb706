use Rattle.std.proofs.Common.{refl}
use Rattle.vl_version.specs.Shared.{IsSameLog}
use Rattle.vl_version.proofs.SharedLaws.{same_next}
use Rattle.vl_version.proofs.shared.share_logs.Goals as goal

pub loop-log-preserved : goal.loop-log-preserved
loop-log-preserved g c =
    let log = c.log-item.result in
    same_next (IsSameLog g.H.HeldFile.bytes) c.args.logs.now c.loop-log.all.items _ c.loop-log.log-index log _ c.loop-log-test.true
    c.log-item.is c.loop-log.invariant
    (record { number = refl; format = refl; bytes = (g.met.H.HeldFile.shared log.held c.in_ok-held.held c.in_ok-held.ensures.cases).0 })
    c.in_ok-push.ensures.items
