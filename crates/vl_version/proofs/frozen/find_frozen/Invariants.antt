use Rattle.std.proofs.Common.{◌≡◌, take}
use Rattle.std.specs.Option.{option_copied}
use Rattle.vl_model.specs.Winners.{winner}
use Rattle.vl_version.specs.Sources.{held_entries}
use Rattle.vl_version.proofs.frozen.find_frozen.Given as goal

abbrev pub invariant-loop-log : goal.invariant-loop-log
invariant-loop-log l = option_copied l.best ≡ winner (held_entries (take l.log-index l.frozen)) l.key l.number
