use Rattle.std.proofs.Common.{◌≡◌, ◌++◌, take}
use Rattle.vl_version.proofs.shared.share_frozen.Given as goal

abbrev pub invariant-loop-log : goal.invariant-loop-log
invariant-loop-log l = l.all.items ≡ l.initial.all.items ++ take l.log-index l.frozen
