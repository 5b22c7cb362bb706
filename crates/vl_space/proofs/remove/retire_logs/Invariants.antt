use Rattle.std.proofs.Common.{◌≡◌, ℕ, ◌-◌, length}
use Rattle.vl_space.specs.Retiring.{is_idle_log, logs_kept}
use Rattle.vl_space.specs.laws.Retired.Changing.{Looks}
use Rattle.vl_pins.specs.Files.{Has, HasRoom, Kept}
use Rattle.vl_space.proofs.remove.retire_logs.Given as goal

abbrev pub invariant-loop-log : goal.invariant-loop-log
invariant-loop-log g l = record {
  looks : (kept : Kept _) → Has l.fn.stock kept → Looks l.epoch (is_idle_log l.head l.live) l.at l.stock kept;
  room : (n : ℕ) → HasRoom l.fn.stock 0 0 n → HasRoom l.stock 0 0 n;
}

abbrev pub decreases-loop-log : goal.decreases-loop-log
decreases-loop-log g l = length (logs_kept l.stock) - l.at
