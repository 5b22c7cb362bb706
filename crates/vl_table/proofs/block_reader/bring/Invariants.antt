use Rattle.std.proofs.Common.{◌≡◌, false}
use Rattle.vl_table.specs.Kept.{has_block}
use Rattle.vl_table.proofs.KeptSteps.{Bringing}
use Rattle.vl_table.proofs.block_reader.bring.Given as goal

abbrev pub invariant-loop-i : goal.invariant-loop-i
invariant-loop-i l = (has_block l.id l.front ≡ false) × Bringing l.id l.fn.front l.fn.others l.front l.others l.i
