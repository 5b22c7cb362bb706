use Rattle.std.proofs.Common.{◌≡◌, drop}
use Rattle.std.specs.FinMap.{find}
use Rattle.vl_model.specs.Keys.{key_cmp}
use Rattle.vl_compact.proofs.race.last_move.Given as goal

abbrev pub invariant-loop-entry : goal.invariant-loop-entry
invariant-loop-entry l = find key_cmp l.key l.moved ≡ find key_cmp l.key (drop l.entry-index l.moved)
