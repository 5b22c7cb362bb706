use Rattle.std.proofs.Common.{◌≡◌, None, take}
use Rattle.vl_model.specs.Winners.{exact}
use Rattle.vl_version.specs.Sources.{held_entries}
use Rattle.vl_version.proofs.frozen.exact_frozen.Given as goal

-- those so far haven't got it
abbrev pub invariant-loop-log : goal.invariant-loop-log
invariant-loop-log l = exact (held_entries (take l.log-index l.frozen)) l.key l.version ≡ None
