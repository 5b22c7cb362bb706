use Rattle.std.proofs.Common.{◌≡◌, ◌≤◌, [], length, take, ℕ, ◌-◌}
use Rattle.std.specs.List.{filter}
use Rattle.vl_pins.specs.Files.{is_up_to}
use Rattle.vl_pins.proofs.trash.place_up_to.Given as goal

-- all before it are held
abbrev pub invariant-loop-file : goal.invariant-loop-file
invariant-loop-file g l = record {
  within : l.at ≤ length l.files.items;
  held : filter (is_up_to l.bound) (take l.at l.files.items) ≡ [];
}

abbrev pub decreases-loop-file : goal.decreases-loop-file
decreases-loop-file g l = length l.files.items - l.at
