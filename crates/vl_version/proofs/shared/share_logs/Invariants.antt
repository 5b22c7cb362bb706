use Rattle.std.proofs.Common.{take}
use Rattle.vl_version.specs.Shared.{AreSameLogs}
use Rattle.vl_version.proofs.shared.share_logs.Given as goal

abbrev pub invariant-loop-log : goal.invariant-loop-log
invariant-loop-log g l = AreSameLogs g.H.HeldFile.bytes (take l.log-index l.logs) l.all.items
