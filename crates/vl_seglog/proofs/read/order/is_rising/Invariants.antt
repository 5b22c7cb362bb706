use Rattle.std.proofs.Common.{◌≡◌, ◌-◌, ◌≤◌, drop, map}
use Rattle.std.specs.FinMap.{is_sorted}
use Rattle.vl_model.specs.Keys.{key_cmp}
use Rattle.vl_seglog.specs.Reading.{write_of}
use Rattle.vl_seglog.proofs.read.order.is_rising.Given as goal

-- they all rise if those from the last on do
abbrev pub invariant-loop-i : goal.invariant-loop-i
invariant-loop-i l = (1 ≤ l.i) × (is_sorted key_cmp (map write_of l.records) ≡ is_sorted key_cmp (map write_of (drop (l.i - 1) l.records)))
