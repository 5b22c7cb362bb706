use Rattle.std.proofs.Common.{arith}
use Rattle.vl_backup.proofs.Sending.{may_tell}
use Rattle.vl_backup.proofs.backing.backup.Goals.{else-since-gt0-via-else-since-gt0}
use Rattle.vl_backup.proofs.backing.backup.Goals.{else-since-gt0-via-then-since-gt0+else-since-gone}
use Rattle.vl_backup.proofs.backing.backup.Goals as goal

pub returns-clause-sound : goal.returns-clause-sound
returns-clause-sound g c = λ h name place tells.
    c.send.ensures.sound h name place tells (may_tell c.args.view.now.past c.args.view.now.number c.number-number.result
    c.gone-gone.result c.args.since c.number-number.ensures c.gone-gone.ensures c.if-since-number.false
    (λ some. elim c.else-since-gt0.branch [
      | else-since-gt0-via-then-since-gt0+else-since-gone w ↦ w.if-since-gone.false
      | else-since-gt0-via-else-since-gt0 w ↦ absurd (omega (arith, some, w.if-since-gt0.false))
    ]))
